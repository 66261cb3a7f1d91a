-- A run with one break. Assumes nothing.
use Rattle.std.specs.Prelude.{Option, Some, None}
use Prim.Native.Nat.{ℕ, ◌+◌, ◌-◌, ◌≤◌, ◌<◌}
use native.Mathlib.Omega.{arith}
use mathlib.Core.Bool.{true, false}
use mathlib.Core.List.{List, [], ◌∷◌}
use mathlib.Core.Path.{◌≡◌, refl, sym, ap, ◌∙◌}
use lib.Dec.{T}
use lib.ListN.{length, set}
use lib.Ieee.{Float, nan, binary64, fits, mul, lt}
use Rattle.float.specs.Numbers.{three}
use Rattle.float.proofs.Zeros.{plus_nan}
use Rattle.float.proofs.Less.{less_nan}
use Rattle.geometry.specs.Geometry.{is_whole, round_point_of, intersect_of}
use Rattle.geometry.specs.declared.Break.{Break}
use Rattle.geometry.specs.declared.Point.{Point}
use Rattle.geometry.specs.declared.Quad.{Quad}
use Rattle.measure.specs.Measure.{measure_of}
use Rattle.measure.specs.Fallen.{fallen_of, Counts}
use Rattle.measure.specs.declared.Counted.{Counted}
use Rattle.quickmeasure.proofs.Still.{still}
use Rattle.measure.proofs.Asked.{fallen_most}
use Rattle.measure.specs.declared.Measure as M
use Rattle.breaks.specs.Breaks.{Row, break_at}
use Rattle.attempt.specs.declared.answer.Answer as A
use Rattle.attempt.specs.Answers.{Leg, Statelet, first, score_of, Best, none, best, total_of, combined}
use Rattle.optimize.specs.Optimize.{Measure, measure_by, States, refused, states, try_quad, bent_quad, bent_at, bent, then_bent, try_line_quad, refused8, unchanged, solved, optimize_of}
use Rattle.optimize.specs.Fallen.{Fallen, fallen_between, fell_bent_at, fell_bent, fell_pair, fell_of}
use Rattle.attempt.specs.Value.{best_of, nothing_at}
use Rattle.optimize.specs.Stored.{row_of, Holds, Anywhere, in_place, Spoilt, measured_fell, bend_fell, bend_in_place}
use Rattle.optimize.proofs.Held.{new_start}
use Rattle.optimize.proofs.Solving.{optimized_by, fell_by_lem}
use Rattle.optimize.proofs.Trying.{quad_refused, quad_made, no_bend, from_whole, from_half, fell_whole, fell_half}
use Rattle.std.proofs.lemmas.Option.{none-some, same_Some}

-- an answer whose score is a NaN stays
nan_stays : (a : Statelet) (p : Leg) (e penalty : Float) → score_of a ≡ nan → combined (best a) (best a) p e penalty ≡ best a
unfolding combined
nan_stays a p e penalty z =
    let low : lt (total_of (best a) p.quad e penalty) (score_of a) ≡ false = ap (lt (total_of (best a) p.quad e penalty)) z ∙ less_nan (total_of (best a) p.quad e penalty) in
    rw low refl

module _ (samples : List (List Float)) (bs : Row) (penalty : Float) (one : length bs ≡ 1) where
  abbrev measure : Measure
  measure = measure_by samples bs

  abbrev fallen : Fallen
  fallen = fallen_between samples bs

  abbrev crossing : Option Point
  crossing = intersect_of (break_at bs 0).xy (break_at bs 0).dir (break_at bs 0).xy (break_at bs 0).dir

  last : length bs - 1 ≡ 0
  last = omega arith

  -- off whole units nothing is tried
  off : (c : Option Point) → is_whole (break_at bs 0).xy ≡ false → bent_at measure bs penalty c 0 0 (none ∷ []) ≡ states (none ∷ [])
  off None e = refl
  off (Some p) e = rw (no_bend none (bent_quad measure bs penalty 0 0 p) e refl) refl

  bent_off : is_whole (break_at bs 0).xy ≡ false → bent measure bs penalty 0 0 (none ∷ []) ≡ states (none ∷ [])
  unfolding bent
  bent_off e = off crossing e

  -- nor does a lookup fall
  off_fell : (c : Option Point) → is_whole (break_at bs 0).xy ≡ false → fell_bent_at measure fallen bs penalty c 0 0 (none ∷ []) ≡ 0
  off_fell None e = refl
  off_fell (Some p) e = rw (no_bend none (bent_quad measure bs penalty 0 0 p) e refl) refl

  bent_off_fell : is_whole (break_at bs 0).xy ≡ false → fell_bent measure fallen bs penalty 0 0 (none ∷ []) ≡ 0
  unfolding fell_bent
  bent_off_fell e = off_fell crossing e

  pub off_whole_fell : is_whole (break_at bs 0).xy ≡ false → fell_of measure fallen bs penalty ≡ 0
  off_whole_fell e =
      fell_by_lem measure penalty bs 0 (states (none ∷ [])) one (from_half measure bs penalty 0 0 (none ∷ []) e ∙ bent_off e) fallen
      ∙ rw (fell_half measure fallen bs penalty 0 0 (none ∷ []) e ∙ bent_off_fell e, last) refl

  pub off_whole : is_whole (break_at bs 0).xy ≡ false → optimize_of measure bs penalty ≡ unchanged 1
  off_whole e = optimized_by measure penalty bs 0 (states (none ∷ [])) one (from_half measure bs penalty 0 0 (none ∷ []) e ∙ bent_off e) ∙ rw last refl

  module _ (whole : is_whole (break_at bs 0).xy ≡ true) where
    abbrev line : Quad
    line = in_place (break_at bs 0).xy

    pub one_refused : measure_of samples (break_at bs 0).s (break_at bs 0).s line ≡ None → optimize_of measure bs penalty ≡ refused8
    one_refused e =
        optimized_by measure penalty bs 0 refused one
        (from_whole measure bs penalty 0 0 (none ∷ []) whole ∙ ap (then_bent measure bs penalty 0 0) (quad_refused measure bs penalty 0 0 line (none ∷ []) e))

    module _ (m : M.Measure) (made : measure_of samples (break_at bs 0).s (break_at bs 0).s line ≡ Some m) (still : m.error ≡ nan) where
      abbrev answer : Statelet
      answer = first (record { from = 0; to = 0; quad = line }) (total_of none line m.error penalty)

      score_nan : score_of answer ≡ nan
      score_nan = rw still (plus_nan _)

      stored : try_quad measure bs penalty 0 0 line (none ∷ []) ≡ states (best answer ∷ [])
      unfolding combined
      stored = quad_made measure bs penalty 0 0 line (none ∷ []) m made

      -- the bent piece changes nothing, where its measure is not refused
      tried_bent : (q : Quad) (w : Option M.Measure) {n : ℕ} → measure_of samples (break_at bs 0).s (break_at bs 0).s q ≡ w → measured_fell w (fallen 0 0 q) ≡ Some n →
          try_quad measure bs penalty 0 0 q (best answer ∷ []) ≡ states (best answer ∷ [])
      tried_bent q (Some x) e ok =
          quad_made measure bs penalty 0 0 q (best answer ∷ []) x e
          ∙ ap (λ (t : Best). states (t ∷ [])) (nan_stays answer (record { from = 0; to = 0; quad = q }) x.error penalty score_nan)
      tried_bent q None {n} e ok = absurd (none-some n ok)

      refused_bent : (q : Quad) (w : Option M.Measure) → measure_of samples (break_at bs 0).s (break_at bs 0).s q ≡ w → measured_fell w (fallen 0 0 q) ≡ None →
          try_quad measure bs penalty 0 0 q (best answer ∷ []) ≡ refused
      refused_bent q (Some x) e bad = absurd (none-some (fallen 0 0 q) (sym bad))
      refused_bent q None e bad = quad_refused measure bs penalty 0 0 q (best answer ∷ []) e

      bends : (c : Option Point) {n : ℕ} → bend_fell samples (break_at bs 0) c ≡ Some n → bent_at measure bs penalty c 0 0 (best answer ∷ []) ≡ states (best answer ∷ [])
      bends None ok = refl
      bends (Some p) ok = rw whole (tried_bent (bent_quad measure bs penalty 0 0 p) _ refl ok)

      bends_not : (c : Option Point) → bend_fell samples (break_at bs 0) c ≡ None → bent_at measure bs penalty c 0 0 (best answer ∷ []) ≡ refused
      bends_not None bad = absurd (none-some 0 (sym bad))
      bends_not (Some p) bad = rw whole (refused_bent (bent_quad measure bs penalty 0 0 p) _ refl bad)

      both : {s : States} → bent measure bs penalty 0 0 (best answer ∷ []) ≡ s → try_line_quad measure bs penalty 0 0 (none ∷ []) ≡ s
      both e = from_whole measure bs penalty 0 0 (none ∷ []) whole ∙ ap (then_bent measure bs penalty 0 0) stored ∙ e

      pub one_solved : {n : ℕ} → bend_in_place samples (break_at bs 0) ≡ Some n → optimize_of measure bs penalty ≡ solved answer 1
      unfolding bent bend_in_place
      one_solved ok =
          optimized_by measure penalty bs 0 (states (best answer ∷ [])) one (both (bends crossing ok))
          ∙ rw (last, ap (lt (mul binary64 three penalty)) score_nan ∙ less_nan (mul binary64 three penalty)) refl

      -- what fell in the two pieces
      made_fell : (q : Quad) (w : Option M.Measure) {n : ℕ} → measured_fell w (fallen 0 0 q) ≡ Some n → fallen 0 0 q ≡ n
      made_fell q (Some x) {n} ok = same_Some (fallen 0 0 q) n ok
      made_fell q None {n} ok = absurd (none-some n ok)

      bends_fell : (c : Option Point) {n : ℕ} → bend_fell samples (break_at bs 0) c ≡ Some n → fell_bent_at measure fallen bs penalty c 0 0 (best answer ∷ []) ≡ n
      bends_fell None {n} ok = same_Some 0 n ok
      bends_fell (Some p) ok =
          rw whole (made_fell (bent_quad measure bs penalty 0 0 p) (measure_of samples (break_at bs 0).s (break_at bs 0).s (bent_quad measure bs penalty 0 0 p)) ok)

      one_fell : {n : ℕ} → bend_in_place samples (break_at bs 0) ≡ Some n → fell_bent measure fallen bs penalty 0 0 (best answer ∷ []) ≡ n
      unfolding fell_bent bend_in_place
      one_fell ok = bends_fell crossing ok

      pub one_solved_fell : {n : ℕ} → bend_in_place samples (break_at bs 0) ≡ Some n →
          fell_of measure fallen bs penalty ≡ fallen_of samples (break_at bs 0).s (break_at bs 0).s line + n
      unfolding bent bend_in_place
      one_solved_fell {n} ok =
          let pair : fell_pair measure fallen bs penalty 0 0 (none ∷ []) ≡ fallen 0 0 line + n =
          fell_whole measure fallen bs penalty 0 0 (none ∷ []) whole ∙ rw (stored, one_fell ok) refl in
          let no_more : fallen 0 0 line + n + 0 ≡ fallen 0 0 line + n = omega arith in
          fell_by_lem measure penalty bs 0 (states (best answer ∷ [])) one (both (bends crossing ok)) fallen
          ∙ rw (pair, last, ap (lt (mul binary64 three penalty)) score_nan ∙ less_nan (mul binary64 three penalty)) no_more

      pub one_bent_refused : bend_in_place samples (break_at bs 0) ≡ None → optimize_of measure bs penalty ≡ refused8
      unfolding bent bend_in_place
      one_bent_refused bad = optimized_by measure penalty bs 0 refused one (both (bends_not crossing bad))

-- ---- as the code finds it
module _ (samples : List (List Float)) (a : Break) where
  pub bend_none : None ≡ intersect_of a.xy a.dir a.xy a.dir → Some 0 ≡ bend_in_place samples a
  unfolding bend_in_place
  bend_none e = rw (← e) refl

  -- the bent piece, with its measure
  module _ (p r : Point) (e : (Some p) ≡ intersect_of a.xy a.dir a.xy a.dir) (f : r ≡ round_point_of p) where
    abbrev q : Quad
    q = record { p0 = a.xy; p1 = r; p2 = a.xy }

    pub bend_by : (w : Option M.Measure) {n : ℕ} → measure_of samples a.s a.s q ≡ w → n ≡ fallen_of samples a.s a.s q → measured_fell w n ≡ bend_in_place samples a
    unfolding bend_in_place
    bend_by w g h = rw (h, ← e, ← f, g) refl

-- at most 80 fall
pub bend_most : (samples : List (List Float)) (a : Break) {fell : ℕ} → bend_in_place samples a ≡ Some fell → fell ≤ 80
unfolding bend_in_place
bend_most samples a {fell} = go (intersect_of a.xy a.dir a.xy a.dir)
  where
    at_most : (w : Option M.Measure) (n : ℕ) → n ≤ 80 → measured_fell w n ≡ Some fell → fell ≤ 80
    at_most (Some m) n h e = omega (arith, same_Some n fell e)
    at_most None n h e = absurd (none-some fell e)

    go : (c : Option Point) → bend_fell samples a c ≡ Some fell → fell ≤ 80
    go None e = omega (arith, same_Some 0 fell e)
    go (Some p) e =
        let q : Quad = record { p0 = a.xy; p1 = round_point_of p; p2 = a.xy } in
        at_most (measure_of samples a.s a.s q) (fallen_of samples a.s a.s q) (fallen_most samples a.s a.s q) e

-- the straight piece of a point whose coordinates are doubles
pub in_place_lem : (samples : List (List Float)) (s : Float) (p : Point) {q : Quad} {r : Option Counted} → T (fits binary64 p.x) → T (fits binary64 p.y) →
    q ≡ in_place p → Counts (measure_of samples s s q) (fallen_of samples s s q) r →
    Counts (measure_of samples s s (in_place p)) (fallen_of samples s s (in_place p)) r × (is_whole p ≡ true → Spoilt r)
in_place_lem samples s p {q} {r} fx fy e told = (is, λ whole c h. still samples s s p fx fy whole c.measure (rw h at is).0)
  where
    is : Counts (measure_of samples s s (in_place p)) (fallen_of samples s s (in_place p)) r
    is = rw e at told

abbrev pub Straight : List (List Float) → Break → Option Counted → Type 0
Straight samples c w = Counts (measure_of samples c.s c.s (in_place c.xy)) (fallen_of samples c.s c.s (in_place c.xy)) w

pub measured_line : (samples : List (List Float)) (c : Break) {a : Break} (w v : Option Counted) → Straight samples a w → w ≡ v → a ≡ c → Straight samples c v
measured_line samples c w v told e f = rw (e, f) at told

pub bent_ok : (samples : List (List Float)) {a c : Break} {t : Option ℕ} → t ≡ bend_in_place samples a → a ≡ c → bend_in_place samples c ≡ t
bent_ok samples e f = rw (← f, ← e) refl

first_total : (q line : Quad) (m penalty s : Float) (x : A.Answer) → x ≡ nothing_at 0 q → q ≡ line → s ≡ total_of (best_of x) q m penalty → s ≡ total_of none line m penalty
first_total q line m penalty s x e f g = g ∙ rw (e, f) refl

-- the first place holds the answer, once it is stored there
module _ (bs : Row) (penalty : Float) (rs : List (List Float)) (ls : List ℕ) (in_rs : 0 < length rs) (in_ls : 0 < length ls) where
  pub held : {rs' : List (List Float)} {ls' : List ℕ} (m s : Float) (q : Quad) (x : A.Answer) → x ≡ nothing_at 0 q → q ≡ in_place (break_at bs 0).xy → s ≡ total_of (best_of x) q m penalty →
      rs' ≡ set rs 0 (row_of (record { name = 2; link = 1; score = s; quad = q })) → ls' ≡ set ls 0 1 →
      Holds Anywhere bs rs' ls' 0 (first (record { from = 0; to = 0; quad = in_place (break_at bs 0).xy }) (total_of none (in_place (break_at bs 0).xy) m penalty))
  held m s q x e f g in_row in-link =
      rw (in_row, in-link, ← first_total q (in_place (break_at bs 0).xy) m penalty s x e f g)
      (new_start Anywhere bs rs ls 0 (record { name = 2; link = 1; score = s; quad = q }) tt in_rs in_ls (record { from = 0; to = 0; quad = in_place (break_at bs 0).xy })
      refl refl refl refl refl (sym f))
