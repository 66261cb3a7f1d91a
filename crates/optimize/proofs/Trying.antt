-- The steps of a pair, as the code takes them. Assumes nothing.
use Rattle.std.specs.Prelude.{Option, Some, None}
use Prim.Native.Nat.{ℕ, ◌+◌, ◌*◌, ◌≤◌, ◌<◌}
use native.Mathlib.Omega.{arith}
use mathlib.Core.Bool.{Bool, true, false, not, ◌&&◌}
use mathlib.Core.List.{List}
use mathlib.Core.Path.{◌≡◌, refl, sym, ap, subst, ◌∙◌}
use lib.ListN.{length, set}
use lib.Ieee.{Float}
use Rattle.geometry.specs.Geometry.{is_line, is_whole, line_quad, round_point_of, intersect_of}
use Rattle.geometry.specs.declared.Break.{Break}
use Rattle.geometry.specs.declared.Point.{Point}
use Rattle.geometry.specs.declared.Quad.{Quad}
use Rattle.measure.specs.declared.Measure as M
use Rattle.breaks.specs.Breaks.{Row, break_at}
use Rattle.attempt.specs.declared.answer.Answer as A
use Rattle.attempt.specs.Answers.{Best, none, best, is_curve, ok_for_half, combined}
use Rattle.optimize.specs.Optimize.{Measure, best_at, States, refused, states, try_quad, try_if, bent_quad, bent_at, bent, then_bent, try_line_quad}
use Rattle.optimize.specs.Fallen.{Fallen, fell_if, fell_bent_at, fell_bent, fell_then_bent, fell_pair}
use Rattle.optimize.specs.Marks.{bend_if, bend_at, bend_of, Reads}
use Rattle.attempt.specs.Value.{best_of, combine_of}
use Rattle.optimize.specs.Stored.{slot_at, loaded, standing_at, row_of, Inside, Phase, Room, Into, Rep, Ready, Becomes, stops, goes}
use Rattle.optimize.proofs.Held.{slot_break}
use Rattle.optimize.proofs.Attempt.{readable, attempted}
use Rattle.std.proofs.lemmas.Option.{none-some, same_Some}

-- ---- one attempt
module _ (measure : Measure) (breaks : Row) (penalty : Float) (i j : ℕ) (q : Quad) (st : List Best) where
  pub quad_refused : measure i j q ≡ None → try_quad measure breaks penalty i j q st ≡ refused
  unfolding try_quad
  quad_refused e = rw e refl

  pub quad_made : (m : M.Measure) → measure i j q ≡ Some m →
      try_quad measure breaks penalty i j q st ≡ states (set st j (combined (best_at st j) (best_at st i) (record { from = i; to = j; quad = q }) m.error penalty))
  unfolding try_quad
  quad_made m e = rw e refl

-- one that is made, and its answer x written
module _ {f : Phase} {n : ℕ} {bs : Row} {rs : List (List Float)} {ls : List ℕ} {st : List Best} {i j k : ℕ} (room : Room n bs rs ls) (into : Into f n i j k) (rep : Rep f n bs rs ls st) where
  pub made : (measure : Measure) (q : Quad) (m : M.Measure) (penalty : Float) (x : A.Answer) {c c' : ℕ} → c ≡ c' → q.p0 ≡ (break_at bs i).xy → q.p2 ≡ (break_at bs j).xy → measure i j q ≡ Some m →
      x ≡ combine_of (loaded bs rs ls (slot_at ls j)) (standing_at bs rs ls i) m.error q penalty →
      Becomes f n bs (set rs k (row_of x)) (set ls k x.link) (try_quad measure bs penalty i j q st) c' (Some c)
  made measure q m penalty x fell begins ends e is =
      rw (quad_made measure bs penalty i j q st m e) (goes (ap Some fell) (attempted room into rep q begins ends m.error penalty x is))

-- ---- the bent piece
pub crossing_of : {a b c d : Break} → a ≡ c → b ≡ d → intersect_of a.xy a.dir b.xy b.dir ≡ intersect_of c.xy c.dir d.xy d.dir
crossing_of e f = rw (e, f) refl

pub quad_of_lem : {a b c d : Break} {p q : Point} → a ≡ c → p ≡ q → b ≡ d → ◌≡◌ {A = Quad} (record { p0 = a.xy; p1 = p; p2 = b.xy }) (record { p0 = c.xy; p1 = q; p2 = d.xy })
quad_of_lem e f g = rw (e, f, g) refl

pub half_of : {x y : A.Answer} {q r : Quad} → x ≡ y → q ≡ r → ok_for_half (best_of x) q ≡ ok_for_half (best_of y) r
half_of e f = rw (e, f) refl

-- off whole units none is built on what is no curve
pub no_bend : (t : Best) (q : Quad) → is_whole q.p0 ≡ false → is_curve t ≡ false → ok_for_half t q ≡ false
no_bend t q off plain = go t plain
  where
    neither : (b : Bool) → (b && false) ≡ false
    neither true = refl
    neither false = refl

    go : (t : Best) → is_curve t ≡ false → ok_for_half t q ≡ false
    go none plain = rw off (neither (not (is_line q)))
    go (best a) plain = rw (off, plain) (neither (not (is_line q)))

module _ (breaks : Row) (previous : Best) (i j : ℕ) where
  abbrev crossing : Option Point
  crossing = intersect_of (break_at breaks i).xy (break_at breaks i).dir (break_at breaks j).xy (break_at breaks j).dir

  pub bend_nowhere : None ≡ crossing → None ≡ bend_of breaks previous i j
  unfolding bend_of
  bend_nowhere e = rw (← e) refl

  module _ (p : Point) (q : Quad) (e : (Some p) ≡ crossing) (is : q ≡ record { p0 = (break_at breaks i).xy; p1 = round_point_of p; p2 = (break_at breaks j).xy }) where
    bend_at_lem : bend_if (ok_for_half previous q) q ≡ bend_of breaks previous i j
    unfolding bend_of
    bend_at_lem = rw (is, ← e) refl

    pub bend_allowed : ok_for_half previous q ≡ true → (Some q) ≡ bend_of breaks previous i j
    bend_allowed ok = ap (λ (t : Bool). bend_if t q) (sym ok) ∙ bend_at_lem

    pub bend_not_allowed : ok_for_half previous q ≡ false → None ≡ bend_of breaks previous i j
    bend_not_allowed bad = ap (λ (t : Bool). bend_if t q) (sym bad) ∙ bend_at_lem

  -- it goes from break to break
  abbrev Ends : Option Quad → Type 0
  Ends (Some q) = (q.p0 ≡ (break_at breaks i).xy) × (q.p2 ≡ (break_at breaks j).xy)
  Ends None = Unit

  bend_goes : Ends (bend_of breaks previous i j)
  unfolding bend_of
  bend_goes = by crossing
    where
      if : (t : Bool) (p : Point) → Ends (bend_if t (record { p0 = (break_at breaks i).xy; p1 = p; p2 = (break_at breaks j).xy }))
      if true p = (refl, refl)
      if false p = tt

      by : (c : Option Point) → Ends (bend_at breaks previous i j c)
      by None = tt
      by (Some p) = if (ok_for_half previous (record { p0 = (break_at breaks i).xy; p1 = round_point_of p; p2 = (break_at breaks j).xy })) (round_point_of p)

  pub bend_ends : {r : Option Quad} → r ≡ bend_of breaks previous i j → Ends r
  bend_ends e = subst Ends (sym e) bend_goes

-- the attempt with it, and how many lookups of it fell
module _ (measure : Measure) (fallen : Fallen) (breaks : Row) (penalty : Float) (i j : ℕ) (st : List Best) where
  abbrev try_bend : Option Quad → States
  try_bend (Some q) = try_quad measure breaks penalty i j q st
  try_bend None = states st

  abbrev fell_bend : Option Quad → ℕ
  fell_bend (Some q) = fallen i j q
  fell_bend None = 0

  bent_by : bent measure breaks penalty i j st ≡ try_bend (bend_of breaks (best_at st i) i j)
  unfolding bent bend_of
  bent_by = by (crossing breaks (best_at st i) i j)
    where
      if : (t : Bool) (q : Quad) → try_if measure breaks penalty t i j q st ≡ try_bend (bend_if t q)
      if true q = refl
      if false q = refl

      by : (c : Option Point) → bent_at measure breaks penalty c i j st ≡ try_bend (bend_at breaks (best_at st i) i j c)
      by None = refl
      by (Some p) = if (ok_for_half (best_at st i) (bent_quad measure breaks penalty i j p)) (bent_quad measure breaks penalty i j p)

  fell_by_lem : fell_bent measure fallen breaks penalty i j st ≡ fell_bend (bend_of breaks (best_at st i) i j)
  unfolding fell_bent bend_of
  fell_by_lem = by (crossing breaks (best_at st i) i j)
    where
      if : (t : Bool) (q : Quad) → fell_if measure fallen breaks penalty t i j q ≡ fell_bend (bend_if t q)
      if true q = refl
      if false q = refl

      by : (c : Option Point) → fell_bent_at measure fallen breaks penalty c i j st ≡ fell_bend (bend_at breaks (best_at st i) i j c)
      by None = refl
      by (Some p) = if (ok_for_half (best_at st i) (bent_quad measure breaks penalty i j p)) (bent_quad measure breaks penalty i j p)

  module _ {r : Option Quad} (e : r ≡ bend_of breaks (best_at st i) i j) where
    pub bent_is : bent measure breaks penalty i j st ≡ try_bend r
    bent_is = bent_by ∙ ap try_bend (sym e)

    pub fell_is : fell_bent measure fallen breaks penalty i j st ≡ fell_bend r
    fell_is = fell_by_lem ∙ ap fell_bend (sym e)

-- ---- what may be read
pub from_upto : {f : Phase} {n i j k : ℕ} → Into f n i j k → i ≤ n
from_upto into = omega (arith, into.rising, into.upto)

pub break_of : {bs : Row} {rs : List (List Float)} {ls : List ℕ} (j : ℕ) → Inside bs rs ls (slot_at ls j) → (j < length bs) × (j < 2048)
break_of {ls = ls} j inside = (omega (arith, inside.to, slot_break ls j), omega (arith, inside.few, slot_break ls j))

module _ {bs : Row} {rs : List (List Float)} {ls : List ℕ} {i j k : ℕ} (r : Ready bs rs ls i j k) where
  pub break_to : j < length bs
  break_to = omega (arith, r.room.all_breaks_lem, r.into.upto)

  pub break_from : i < length bs
  break_from = omega (arith, r.into.rising, break_to)

  pub readable_from : Inside bs rs ls (slot_at ls i)
  readable_from =
      let upto : i ≤ r.last = omega (arith, r.into.rising, r.into.upto) in
      readable r.room upto (r.rep.stands i upto)

  pub readable_to : Inside bs rs ls (slot_at ls j)
  readable_to = readable r.room r.into.upto (r.rep.stands j r.into.upto)

  pub room_from : 2 * i + 1 < length ls
  room_from = omega (arith, r.room.in_links, r.into.rising, r.into.upto)

  pub reads_both : Reads bs rs ls i j
  reads_both = record { from = break_from; to = break_to; links_of = room_from; stands = readable_from }

-- ---- after an attempt in which so many lookups fell
pub record Went (f : Phase) (n : ℕ) (bs : Row) (rs : List (List Float)) (ls : List ℕ) (s : States) (c fallen : ℕ) : Type 0 where
  pub st : List Best
  pub is : s ≡ states st
  pub fell : fallen ≡ c
  pub rep : Rep f n bs rs ls st

module _ {f : Phase} {n : ℕ} {bs : Row} {rs : List (List Float)} {ls : List ℕ} where
  pub went : {s : States} {c fallen : ℕ} {r : Option ℕ} → Becomes f n bs rs ls s c r → r ≡ Some fallen → Went f n bs rs ls s c fallen
  went {fallen = fallen} (stops e) ok = absurd (none-some fallen (sym e ∙ ok))
  went {c = c} {fallen = fallen} (goes {st = st} e rep) ok = record { st = st; is = refl; fell = same_Some fallen c (sym ok ∙ e); rep = rep }

  pub stopped : {s : States} {c : ℕ} {r : Option ℕ} → Becomes f n bs rs ls s c r → r ≡ None → s ≡ refused
  stopped (stops e) bad = refl
  stopped {c = c} (goes e rep) bad = absurd (none-some c (sym bad ∙ e))

  -- two attempts, of which neither was refused
  pub thens : {s : States} {c k : ℕ} (t u : ℕ) {r : Option ℕ} → t ≡ k → Becomes f n bs rs ls s c r → r ≡ Some u → Becomes f n bs rs ls s (k + c) (Some (t + u))
  thens {c = c} t u first (stops e) ok = absurd (none-some u (sym e ∙ ok))
  thens {c = c} t u first (goes e rep) ok = goes (rw (first, same_Some u c (sym ok ∙ e)) refl) rep

pub same_room : {n : ℕ} {bs : Row} {rs rs' : List (List Float)} {ls ls' : List ℕ} → length rs' ≡ length rs → length ls' ≡ length ls → Room n bs rs ls → Room n bs rs' ls'
same_room e f room = record {
  all_breaks_lem = room.all_breaks_lem;
  in_answers = rw e room.in_answers;
  in_links = rw f room.in_links;
  few = room.few;
}

pub line_of : {a b c d : Break} {q : Quad} → q ≡ line_quad a.xy b.xy → a ≡ c → b ≡ d → q ≡ line_quad c.xy d.xy
line_of e f g = e ∙ rw (f, g) refl

-- the rows are ready for the next attempt of the pair
pub again : {bs : Row} {rs rs' : List (List Float)} {ls ls' : List ℕ} {i j k : ℕ} {s : States} {c fallen : ℕ} {r : Option ℕ} (x : Ready bs rs ls i j k) → length rs' ≡ length rs → length ls' ≡ length ls →
    Becomes x.phase x.last bs rs' ls' s c r → r ≡ Some fallen → Ready bs rs' ls' i j k
again x e f b ok =
    let w = went b ok in
    record { phase = x.phase; last = x.last; st = w.st; room = same_room e f x.room; into = x.into; rep = w.rep }

-- ---- one pair
module _ (measure : Measure) (breaks : Row) (penalty : Float) (i j : ℕ) (st : List Best) where
  pub from_whole : is_whole (break_at breaks i).xy ≡ true →
      try_line_quad measure breaks penalty i j st ≡ then_bent measure breaks penalty i j (try_quad measure breaks penalty i j (line_quad (break_at breaks i).xy (break_at breaks j).xy) st)
  unfolding try_line_quad
  from_whole e = rw e refl

  pub from_half : is_whole (break_at breaks i).xy ≡ false → try_line_quad measure breaks penalty i j st ≡ bent measure breaks penalty i j st
  unfolding try_line_quad
  from_half e = rw e refl

module _ (measure : Measure) (fallen : Fallen) (breaks : Row) (penalty : Float) (i j : ℕ) (st : List Best) where
  abbrev line : Quad
  line = line_quad (break_at breaks i).xy (break_at breaks j).xy

  pub fell_whole : is_whole (break_at breaks i).xy ≡ true →
      fell_pair measure fallen breaks penalty i j st ≡ fallen i j line + fell_then_bent measure fallen breaks penalty i j (try_quad measure breaks penalty i j line st)
  unfolding fell_pair
  fell_whole e = rw e refl

  pub fell_half : is_whole (break_at breaks i).xy ≡ false → fell_pair measure fallen breaks penalty i j st ≡ fell_bent measure fallen breaks penalty i j st
  unfolding fell_pair
  fell_half e = rw e (omega arith)

pub is_whole_of : {a c : Break} {t u : Bool} → t ≡ is_whole a.xy → a ≡ c → t ≡ u → is_whole c.xy ≡ u
is_whole_of e f g = rw (← f, ← e) g
