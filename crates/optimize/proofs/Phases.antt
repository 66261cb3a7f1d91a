-- The pairs of each phase, and how one phase leads to the next. Assumes nothing.
use Rattle.std.specs.Prelude.{Option, Some, None}
use Prim.Native.Nat.{ℕ, suc, ◌+◌, ◌*◌, ◌-◌, ◌≤◌, ◌<◌}
use native.Mathlib.Omega.{arith}
use mathlib.Core.Bool.{Bool, true, false}
use mathlib.Core.List.{List, [], ◌∷◌, ◌++◌}
use mathlib.Core.Logic.{inl, inr, ⊎_elim}
use mathlib.Core.Path.{◌≡◌, refl, ap, ◌∙◌}
use lib.ListN.{length}
use lib.Ieee.{Float}
use Rattle.geometry.specs.Geometry.{is_whole, line_quad, intersect_of}
use Rattle.geometry.specs.declared.Quad.{Quad}
use Rattle.geometry.specs.declared.Point.{Point}
use Rattle.measure.proofs.Asked.{fallen_most}
use Rattle.breaks.specs.Breaks.{Row, break_at}
use Rattle.attempt.specs.Answers.{Best, ok_for_half}
use Rattle.optimize.specs.Fallen.{Fallen, fallen_between, fell_if, fell_bent_at, fell_bent, fell_then_bent, fell_pair, fell_onward, fell_all}
use Rattle.optimize.specs.Optimize.{Measure, best_at, States, refused, states, straight, bent_quad, onward, try_line_quad, try_all, splits_from, falling, search_from}
use Rattle.optimize.specs.Stored.{Stands, lacks, has, Phase, early, late, Uses, Fresh, Rep, Room, Into, Ready, Holding, Becomes, stops, goes}
use Rattle.optimize.proofs.Held.{wider}
use Rattle.optimize.proofs.Trying.{went, stopped, same_room}

-- ---- pairs
pub into_first : (i n : ℕ) → 0 < i → i < n → Into (early i) n 0 i (2 * i)
into_first i n some less = record {
  rising = some;
  upto = omega arith;
  newest = refl;
  own = inl refl;
  free = λ b other u. ⊎_elim (λ e. other (omega arith)) (λ e. omega (arith, e.2)) u;
  wide = λ m p u. absurd (omega arith);
}

pub into_last : (i j n : ℕ) → j < n → j ≤ i → Into (early (i + 1)) n j n (2 * n)
into_last i j n less upto = record {
  rising = less;
  upto = omega arith;
  newest = refl;
  own = inl refl;
  free = λ b other u. ⊎_elim (λ e. other (omega arith)) (λ e. other e.0) u;
  wide = λ m p u. ⊎_elim (λ e. inr (refl, omega arith, omega arith)) (λ e. absurd (omega (arith, e.0))) u;
}

pub into_search : (j i n : ℕ) → j < i → i ≤ n → Into (late i) n j i (2 * i + 1)
into_search j i n less upto = record {
  rising = less;
  upto = upto;
  newest = refl;
  own = inr (refl, refl);
  free = λ b other u. ⊎_elim (λ e. ⊎_elim (λ z. omega arith) (λ z. omega arith) e) (λ e. other e.0) u;
  wide = λ m p u. ⊎_elim (λ e. inl e) (λ e. absurd (omega (arith, e.0))) u;
}

-- ---- from one phase to the next
rep_wider : {f g : Phase} {n : ℕ} {bs : Row} {rs : List (List Float)} {ls : List ℕ} {st : List Best} →
    ((b k : ℕ) → Uses f n b k → Uses g n b k) → (Fresh f n ls → Fresh g n ls) → Rep f n bs rs ls st → Rep g n bs rs ls st
rep_wider {f} {g} {n} {bs} {rs} {ls} more fresher rep = record { long = rep.long; bare = rep.bare; fresh = fresher rep.fresh; stands = λ b h. widen b (rep.stands b h) }
  where
    widen : (b : ℕ) {t : Best} → Stands (Uses f n b) bs rs ls b t → Stands (Uses g n b) bs rs ls b t
    widen b (lacks z) = lacks z
    widen b (has {a} h) = has {a = a} (wider (more b) h)

module _ {n : ℕ} {bs : Row} {rs : List (List Float)} {ls : List ℕ} {st : List Best} where
  pub next_split : (i : ℕ) → Rep (early i) n bs rs ls st → Rep (early (i + 1)) n bs rs ls st
  next_split i rep = rep_wider {f = early i} {g = early (i + 1)} (λ b k u. ⊎_elim (λ e. inl e) (λ e. inr (e.0, e.1, omega (arith, e.2))) u) (λ h. h) rep

  pub to_search : (i : ℕ) → Rep (early i) n bs rs ls st → Rep (late 1) n bs rs ls st
  to_search i rep = rep_wider {f = early i} {g = late 1} (λ b k u. inl (inl (⊎_elim (λ e. omega arith) (λ e. e.1) u))) (λ h. tt) rep

  pub next_search : (i : ℕ) → Rep (late i) n bs rs ls st → Rep (late (i + 1)) n bs rs ls st
  next_search i rep =
      rep_wider {f = late i} {g = late (i + 1)}
      (λ b k u. inl (⊎_elim (λ e. ⊎_elim (λ z. inl z) (λ z. inr (omega arith)) e) (λ e. inr (omega (arith, e.1))) u)) (λ h. h) rep

-- ---- many pairs
module _ (measure : Measure) (breaks : Row) (penalty : Float) where
  abbrev all : List (ℕ × ℕ) → States → States
  all ps s = try_all measure breaks penalty ps s

  pub all_refused : (ps : List (ℕ × ℕ)) → all ps refused ≡ refused
  unfolding try_all
  all_refused [] = refl
  all_refused ((i, j) ∷ ps) = all_refused ps

  pub all_joined : (ps qs : List (ℕ × ℕ)) (s : States) → all (ps ++ qs) s ≡ all qs (all ps s)
  unfolding try_all
  all_joined [] qs s = refl
  all_joined ((i, j) ∷ ps) qs s = all_joined ps qs (onward measure breaks penalty i j s)

  -- the first of them lead on
  pub all_step : (ps more rest : List (ℕ × ℕ)) (s t : States) → rest ≡ ps ++ more → all ps s ≡ t → all rest s ≡ all more t
  all_step ps more rest s t is e = rw (is, all_joined ps more s, e) refl

  pub all_one : (i j : ℕ) (ps : List (ℕ × ℕ)) (st : List Best) → all ((i, j) ∷ ps) (states st) ≡ all ps (try_line_quad measure breaks penalty i j st)
  unfolding try_all
  all_one i j ps st = refl

  pub all_none : (s : States) → all [] s ≡ s
  unfolding try_all
  all_none s = refl

-- how many fell in them: of a piece at most 80
pub between_most : (samples : List (List Float)) (breaks : Row) (i j : ℕ) (q : Quad) → fallen_between samples breaks i j q ≤ 80
between_most samples breaks i j q = fallen_most samples (break_at breaks i).s (break_at breaks j).s q

module _ (measure : Measure) (fallen : Fallen) (breaks : Row) (penalty : Float) where
  abbrev fell : List (ℕ × ℕ) → States → ℕ
  fell ps s = fell_all measure fallen breaks penalty ps s

  fell_joined : (ps qs : List (ℕ × ℕ)) (s : States) → fell (ps ++ qs) s ≡ fell ps s + fell qs (all measure breaks penalty ps s)
  unfolding fell_all try_all
  fell_joined [] qs s = omega arith
  fell_joined ((i, j) ∷ ps) qs s =
      let later = fell_joined ps qs (onward measure breaks penalty i j s) in
      omega arith

  -- the first of them lead on
  pub fell_step : (ps more rest : List (ℕ × ℕ)) (s t : States) → rest ≡ ps ++ more → all measure breaks penalty ps s ≡ t → fell rest s ≡ fell ps s + fell more t
  fell_step ps more rest s t is e = rw (is, fell_joined ps more s, e) refl

  pub fell_one : (i j : ℕ) (st : List Best) → fell ((i, j) ∷ []) (states st) ≡ fell_pair measure fallen breaks penalty i j st
  unfolding fell_all
  fell_one i j st = omega arith

  pub fell_none : (s : States) → fell [] s ≡ 0
  unfolding fell_all
  fell_none s = refl

  -- ---- at most 80 an attempt, two attempts a pair
  module _ (few : (i j : ℕ) (q : Quad) → fallen i j q ≤ 80) where
    if_most : (b : Bool) (i j : ℕ) (q : Quad) → fell_if measure fallen breaks penalty b i j q ≤ 80
    if_most true i j q = few i j q
    if_most false i j q = omega arith

    pub bent_most : (i j : ℕ) (st : List Best) → fell_bent measure fallen breaks penalty i j st ≤ 80
    unfolding fell_bent
    bent_most i j st = go (intersect_of (break_at breaks i).xy (break_at breaks i).dir (break_at breaks j).xy (break_at breaks j).dir)
      where
        go : (c : Option Point) → fell_bent_at measure fallen breaks penalty c i j st ≤ 80
        go None = omega arith
        go (Some p) = if_most (ok_for_half (best_at st i) (bent_quad measure breaks penalty i j p)) i j (bent_quad measure breaks penalty i j p)

    then_most : (i j : ℕ) (s : States) → fell_then_bent measure fallen breaks penalty i j s ≤ 80
    then_most i j refused = omega arith
    then_most i j (states st) = bent_most i j st

    pub pair_most : (i j : ℕ) (st : List Best) → fell_pair measure fallen breaks penalty i j st ≤ 160
    unfolding fell_pair
    pair_most i j st =
        let first = if_most (is_whole (break_at breaks i).xy) i j (line_quad (break_at breaks i).xy (break_at breaks j).xy) in
        let second = then_most i j (straight measure breaks penalty i j st) in
        omega arith

    onward_most : (i j : ℕ) (s : States) → fell_onward measure fallen breaks penalty i j s ≤ 160
    onward_most i j refused = omega arith
    onward_most i j (states st) = pair_most i j st

    pub all_most : (ps : List (ℕ × ℕ)) (s : States) → fell ps s ≤ 160 * length ps
    unfolding fell_all
    all_most [] s = omega arith
    all_most ((i, j) ∷ ps) s =
        let here = onward_most i j s in
        let later = all_most ps (onward measure breaks penalty i j s) in
        omega arith

pub split_more : (i n : ℕ) → i < n → splits_from (n - i) i n ≡ ((0, i) ∷ (i, n) ∷ []) ++ splits_from (n - (i + 1)) (i + 1) n
unfolding splits_from
split_more i n h =
    let e : n - i ≡ suc (n - (i + 1)) = omega arith in
    rw e

pub split_none : (i n : ℕ) → n ≤ i → splits_from (n - i) i n ≡ []
unfolding splits_from
split_none i n h =
    let e : n - i ≡ 0 = omega arith in
    rw e

pub fall_more : (j i : ℕ) → 0 < j → falling j i ≡ (j - 1, i) ∷ falling (j - 1) i
unfolding falling
fall_more j i h =
    let e : j ≡ suc (j - 1) = omega arith in
    ap (λ (k : ℕ). falling k i) e

pub fall_none : (j i : ℕ) → j ≤ 0 → falling j i ≡ []
unfolding falling
fall_none j i h =
    let e : j ≡ 0 = omega arith in
    rw e

pub search_more : (i n : ℕ) → i ≤ n → search_from (n + 1 - i) i ≡ falling i i ++ search_from (n + 1 - (i + 1)) (i + 1)
unfolding search_from
search_more i n h =
    let e : n + 1 - i ≡ suc (n + 1 - (i + 1)) = omega arith in
    rw e

pub search_none : (i n : ℕ) → n < i → search_from (n + 1 - i) i ≡ []
unfolding search_from
search_none i n h =
    let e : n + 1 - i ≡ 0 = omega arith in
    rw e

-- ---- while pairs are tried: those that are left from the states that the rows stand for now end as all of them do from the first states, and what fell
-- in these is what fell so far and what will fall in those
pub record Reached (measure : Measure) (fallen : Fallen) (penalty : Float) (f : Phase) (n : ℕ) (bs : Row) (rs : List (List Float)) (ls : List ℕ) (so_far : ℕ)
    (rest : List (ℕ × ℕ)) (end : States) (total : ℕ) : Type 0 where
  pub now : List Best
  pub rep : Rep f n bs rs ls now
  pub left : end ≡ try_all measure bs penalty rest (states now)
  pub fell : total ≡ so_far + fell_all measure fallen bs penalty rest (states now)

pub record Reaching (measure : Measure) (fallen : Fallen) (penalty : Float) (n : ℕ) (bs : Row) (f₀ : Phase) (rs₀ : List (List Float)) (ls₀ : List ℕ)
    (all : List (ℕ × ℕ)) (f : Phase) (rs : List (List Float)) (ls : List ℕ) (so_far : ℕ) (rest : List (ℕ × ℕ)) : Type 0 where
  pub same_rs : length rs ≡ length rs₀
  pub same_ls : length ls ≡ length ls₀
  pub reach : (st : List Best) → Rep f₀ n bs rs₀ ls₀ st →
      Reached measure fallen penalty f n bs rs ls so_far rest (try_all measure bs penalty all (states st)) (fell_all measure fallen bs penalty all (states st))

pub sets_out : {measure : Measure} {fallen : Fallen} {penalty : Float} {n : ℕ} {bs : Row} {f : Phase} {rs : List (List Float)} {ls : List ℕ} {all : List (ℕ × ℕ)} →
    Reaching measure fallen penalty n bs f rs ls all f rs ls 0 all
sets_out = record { same_rs = refl; same_ls = refl; reach = λ st rep. record { now = st; rep = rep; left = refl; fell = omega arith } }

module _ {measure : Measure} {fallen : Fallen} {penalty : Float} {n : ℕ} {bs : Row} {f₀ : Phase} {rs₀ : List (List Float)} {ls₀ : List ℕ} {all : List (ℕ × ℕ)} {f : Phase}
    {rs : List (List Float)} {ls : List ℕ} {so_far : ℕ} {rest : List (ℕ × ℕ)} (x : Reaching measure fallen penalty n bs f₀ rs₀ ls₀ all f rs ls so_far rest) where
  pub holding : Holding f₀ n bs rs₀ ls₀ → Holding f n bs rs ls
  holding h = record { st = (x.reach h.st h.rep).now; room = same_room x.same_rs x.same_ls h.room; rep = (x.reach h.st h.rep).rep }

  -- what a call on some of the pairs makes of the rows
  abbrev Calls : Phase → List (List Float) → List ℕ → List (ℕ × ℕ) → Option ℕ → Type 0
  Calls g rs' ls' ps r =
      (st : List Best) → Rep f n bs rs ls st → Becomes g n bs rs' ls' (try_all measure bs penalty ps (states st)) (fell_all measure fallen bs penalty ps (states st)) r

  pub moves : (ps more : List (ℕ × ℕ)) {g : Phase} {rs' : List (List Float)} {ls' : List ℕ} {r : Option ℕ} → rest ≡ ps ++ more →
      length rs' ≡ length rs → length ls' ≡ length ls → Calls g rs' ls' ps r → {fell : ℕ} → r ≡ Some fell →
      Reaching measure fallen penalty n bs f₀ rs₀ ls₀ all g rs' ls' (so_far + fell) more
  moves ps more is e e' made ok = record {
    same_rs = e ∙ x.same_rs;
    same_ls = e' ∙ x.same_ls;
    reach = λ st rep.
        let t = x.reach st rep in
        let w = went (made t.now t.rep) ok in
        let split = fell_step measure fallen bs penalty ps more rest (states t.now) (states w.st) is w.is in
        record {
          now = w.st;
          rep = w.rep;
          left = t.left ∙ all_step measure bs penalty ps more rest (states t.now) (states w.st) is w.is;
          fell = omega (arith, t.fell, split, w.fell);
        };
  }

  -- the first of the pairs that are left are passed over
  pub skips : (more : List (ℕ × ℕ)) →
      ((st : List Best) → Rep f n bs rs ls st →
      ◌≡◌ {A = States × ℕ} (try_all measure bs penalty rest (states st), fell_all measure fallen bs penalty rest (states st))
      (try_all measure bs penalty more (states st), fell_all measure fallen bs penalty more (states st))) →
      Reaching measure fallen penalty n bs f₀ rs₀ ls₀ all f rs ls so_far more
  skips more same = record {
    same_rs = x.same_rs;
    same_ls = x.same_ls;
    reach = λ st rep.
        let t = x.reach st rep in
        let e = same t.now t.rep in
        record { now = t.now; rep = t.rep; left = t.left ∙ ap (λ (y : States × ℕ). y.0) e; fell = t.fell ∙ ap (λ (y : States × ℕ). so_far + y.1) e };
  }

  -- the count so far, and with one call more, is at most that of all pairs
  pub counts : (ps more : List (ℕ × ℕ)) {g : Phase} {rs' : List (List Float)} {ls' : List ℕ} {r : Option ℕ} → ((i j : ℕ) (q : Quad) → fallen i j q ≤ 80) →
      rest ≡ ps ++ more → Calls g rs' ls' ps r → {fell : ℕ} → r ≡ Some fell → Holding f₀ n bs rs₀ ls₀ → so_far + fell ≤ 160 * length all
  counts ps more few is made ok h =
      let t = x.reach h.st h.rep in
      let w = went (made t.now t.rep) ok in
      let split = fell_step measure fallen bs penalty ps more rest (states t.now) (states w.st) is w.is in
      let most = all_most measure fallen bs penalty few all (states h.st) in
      omega (arith, t.fell, split, w.fell, most)

  pub breaks_off : (ps more : List (ℕ × ℕ)) {g : Phase} (h : Phase) {rs' : List (List Float)} {ls' : List ℕ} {r : Option ℕ} → rest ≡ ps ++ more →
      Calls g rs' ls' ps r → r ≡ None → (st : List Best) → Rep f₀ n bs rs₀ ls₀ st →
      Becomes h n bs rs' ls' (try_all measure bs penalty all (states st)) (fell_all measure fallen bs penalty all (states st)) None
  breaks_off ps more h is made bad st rep =
      let t = x.reach st rep in
      rw (t.left ∙ all_step measure bs penalty ps more rest (states t.now) refused is (stopped (made t.now t.rep) bad) ∙ all_refused measure bs penalty more) (stops refl)

  pub arrives : {g : Phase} → f ≡ g → rest ≡ [] → (st : List Best) → Rep f₀ n bs rs₀ ls₀ st →
      Becomes g n bs rs ls (try_all measure bs penalty all (states st)) (fell_all measure fallen bs penalty all (states st)) (Some so_far)
  arrives at is st rep =
      let t = x.reach st rep in
      rw (← at, t.left ∙ all_step measure bs penalty [] [] rest (states t.now) (states t.now) is (all_none measure bs penalty (states t.now)) ∙ all_none measure bs penalty (states t.now))
      (goes (ap Some (ended t)) t.rep)
    where
      ended : {s : States} {c : ℕ} (t : Reached measure fallen penalty f n bs rs ls so_far rest s c) → so_far ≡ c
      ended t =
          let none = ap (λ (ps : List (ℕ × ℕ)). fell_all measure fallen bs penalty ps (states t.now)) is ∙ fell_none measure fallen bs penalty (states t.now) in
          omega (arith, t.fell, none)

-- one pair alone, as the code tries it
pub alone : (measure : Measure) (fallen : Fallen) (penalty : Float) (bs : Row) (i j : ℕ) {k : ℕ} {f : Phase} {n : ℕ} {rs rs' : List (List Float)} {ls ls' : List ℕ} {r : Option ℕ} →
    Room n bs rs ls → Into f n i j k →
    ((f : Phase) (n : ℕ) (st : List Best) → Room n bs rs ls → Into f n i j k → Rep f n bs rs ls st →
    Becomes f n bs rs' ls' (try_line_quad measure bs penalty i j st) (fell_pair measure fallen bs penalty i j st) r) → (st : List Best) → Rep f n bs rs ls st →
    Becomes f n bs rs' ls' (try_all measure bs penalty ((i, j) ∷ []) (states st)) (fell_all measure fallen bs penalty ((i, j) ∷ []) (states st)) r
alone measure fallen penalty bs i j {f = f} {n = n} room into call st rep =
    rw (all_one measure bs penalty i j [] st ∙ all_none measure bs penalty (try_line_quad measure bs penalty i j st), fell_one measure fallen bs penalty i j st) (call f n st room into rep)

-- the next pair of the search into break i
module _ {measure : Measure} {fallen : Fallen} {penalty : Float} {n : ℕ} {bs : Row} {f₀ : Phase} {rs₀ rs rs' : List (List Float)} {ls₀ ls ls' : List ℕ} {all : List (ℕ × ℕ)}
    {i j so_far : ℕ} {r : Option ℕ} (x : Reaching measure fallen penalty n bs f₀ rs₀ ls₀ all (late i) rs ls so_far (falling j i)) (h : Holding f₀ n bs rs₀ ls₀)
    (more : 0 < j) (low : j ≤ i) (upto : i ≤ n)
    (call : (f : Phase) (n : ℕ) (st : List Best) → Room n bs rs ls → Into f n (j - 1) i (2 * i + 1) → Rep f n bs rs ls st →
    Becomes f n bs rs' ls' (try_line_quad measure bs penalty (j - 1) i st) (fell_pair measure fallen bs penalty (j - 1) i st) r) where
  this : Calls x (late i) rs' ls' ((j - 1, i) ∷ []) r
  this = alone measure fallen penalty bs (j - 1) i (holding x h).room (into_search (j - 1) i n (omega arith) upto) call

  pub next_moves : length rs' ≡ length rs → length ls' ≡ length ls → {fell : ℕ} → r ≡ Some fell →
      Reaching measure fallen penalty n bs f₀ rs₀ ls₀ all (late i) rs' ls' (so_far + fell) (falling (j - 1) i)
  next_moves e e' ok = moves x ((j - 1, i) ∷ []) (falling (j - 1) i) (fall_more j i more) e e' this ok

  pub next_counts : ((i j : ℕ) (q : Quad) → fallen i j q ≤ 80) → {fell : ℕ} → r ≡ Some fell → so_far + fell ≤ 160 * length all
  next_counts few ok = counts x ((j - 1, i) ∷ []) (falling (j - 1) i) few (fall_more j i more) this ok h

  pub next_breaks_off : r ≡ None → (st : List Best) → Rep f₀ n bs rs₀ ls₀ st →
      Becomes (late i) n bs rs' ls' (try_all measure bs penalty all (states st)) (fell_all measure fallen bs penalty all (states st)) None
  next_breaks_off bad = breaks_off x ((j - 1, i) ∷ []) (falling (j - 1) i) (late i) (fall_more j i more) this bad

pub ready : {f : Phase} {n i j k : ℕ} {bs : Row} {rs : List (List Float)} {ls : List ℕ} → Holding f n bs rs ls → Into f n i j k → Ready bs rs ls i j k
ready {f} {n} h into = record { phase = f; last = n; st = h.st; room = h.room; into = into; rep = h.rep }

-- a phase that leads to the next
pub rephased : {f g : Phase} {n : ℕ} {bs : Row} {rs : List (List Float)} {ls : List ℕ} {s : States} {c : ℕ} {r : Option ℕ} →
    ((st : List Best) → Rep f n bs rs ls st → Rep g n bs rs ls st) → Becomes f n bs rs ls s c r → Becomes g n bs rs ls s c r
rephased h (stops e) = stops e
rephased h (goes {st = st} e rep) = goes e (h st rep)
