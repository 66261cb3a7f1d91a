-- What stands at the last break, and whether the next phase is gone into. Assumes nothing.
use Rattle.std.specs.Prelude.{Option, Some}
use Prim.Native.Nat.{ℕ, ◌+◌, ◌-◌}
use native.Mathlib.Omega.{arith}
use mathlib.Core.Bool.{true, false, false≢true}
use mathlib.Core.List.{List, []}
use mathlib.Core.Path.{◌≡◌, refl, ap, ◌∙◌}
use borrow.Author.Tests.{eq-eqb, ne_eqb}
use lib.ListN.{length, get_or, replicate}
use lib.Ieee.{Float, nan, binary64, mul, lt}
use Rattle.float.specs.Numbers.{three, four}
use Rattle.breaks.specs.Breaks.{Row}
use Rattle.optimize.specs.declared.Solved as S
use Rattle.optimize.specs.declared.Solved.TheVariants as Solved
use Rattle.attempt.specs.Answers.{score_of, Best, none}
use Rattle.optimize.specs.Optimize.{Measure, best_at, States, states, try_line_quad, try_all, splits, search, Optimised, ended, go_on, searched, splitted, tried, optimize_of}
use Rattle.optimize.specs.declared.Tally.{Tally}
use Rattle.optimize.specs.Fallen.{Fallen, fell_pair, fell_all, fell_going_on, fell_after_splits, fell_after_first, fell_of}
use Rattle.optimize.specs.Tally.{tally}
use Rattle.optimize.specs.Stored.{slot_at, Stands, lacks, has, solved_at, above_at, Solves, stays, found}
use Rattle.optimize.proofs.Held.{linked, scored, wider}

module _ (ls : List ℕ) (n : ℕ) (t : Tally) where
  pub solved_at_none : get_or ls (slot_at ls n) 0 ≡ 0 → solved_at ls n t ≡ Some (Solved.Unchanged t)
  unfolding solved_at
  solved_at_none z = rw (eq-eqb _ _ z) refl

  pub solved_at_some : (get_or ls (slot_at ls n) 0 ≡ 0 → ⊥) → solved_at ls n t ≡ Some (Solved.Done (slot_at ls n) t)
  unfolding solved_at
  solved_at_some some = rw (ne_eqb _ _ some) refl

module _ (rs : List (List Float)) (ls : List ℕ) (n : ℕ) (limit : Float) where
  pub above_none : get_or ls (slot_at ls n) 0 ≡ 0 → above_at rs ls n limit ≡ false
  unfolding above_at
  above_none z = rw (eq-eqb _ _ z) refl

  pub above_some : (get_or ls (slot_at ls n) 0 ≡ 0 → ⊥) → above_at rs ls n limit ≡ lt limit (get_or (get_or rs (slot_at ls n) []) 0 nan)
  unfolding above_at
  above_some some = rw (ne_eqb _ _ some) refl

module _ (measure : Measure) (fallen : Fallen) (penalty : Float) {P : ℕ → Type 0} (bs : Row) (rs : List (List Float)) (ls : List ℕ) (n : ℕ) where
  pub ends : (pairs c : ℕ) {t : Best} {r : Option S.Solved} → r ≡ solved_at ls n (tally pairs c) → Stands P bs rs ls n t → Solves bs rs ls (ended measure bs penalty pairs t) c r
  ends pairs c e (lacks z) = stays (e ∙ solved_at_none ls n (tally pairs c) z)
  ends pairs c e (has {a} h) = found {a = a} (e ∙ solved_at_some ls n (tally pairs c) (linked h)) (wider (λ k u. tt) h)

  pub no_further : (limit : Float) (pairs c : ℕ) (next : Optimised) (more : ℕ) {t : Best} {r : Option S.Solved} → r ≡ solved_at ls n (tally pairs c) → above_at rs ls n limit ≡ false →
      Stands P bs rs ls n t → Solves bs rs ls (go_on measure bs penalty limit pairs t next) (c + fell_going_on measure fallen bs penalty limit t more) r
  unfolding above_at
  no_further limit pairs c next more e low (lacks z) =
      let none : c + 0 ≡ c = omega arith in
      rw none (stays (e ∙ solved_at_none ls n (tally pairs c) z))
  no_further limit pairs c next more e low (has {a} h) =
      let not_above : lt limit (score_of a) ≡ false = rw (ne_eqb _ _ (linked h), scored h) at low in
      let none : c + 0 ≡ c = omega arith in
      rw (not_above, none) (found {a = a} (e ∙ solved_at_some ls n (tally pairs c) (linked h)) (wider (λ k u. tt) h))

  module _ (limit : Float) {t : Best} (high : above_at rs ls n limit ≡ true) (s : Stands P bs rs ls n t) where
    pub further : (pairs : ℕ) (next : Optimised) → go_on measure bs penalty limit pairs t next ≡ next
    unfolding above_at
    further pairs next = go high s
      where
        go : {t : Best} → above_at rs ls n limit ≡ true → Stands P bs rs ls n t → go_on measure bs penalty limit pairs t next ≡ next
        go high (lacks z) = absurd (false≢true (rw (eq-eqb _ _ z) at high))
        go high (has {a} h) =
            let is-above : lt limit (score_of a) ≡ true = rw (ne_eqb _ _ (linked h), scored h) at high in
            rw is-above refl

    pub further_fell : (more : ℕ) → fell_going_on measure fallen bs penalty limit t more ≡ more
    unfolding above_at
    further_fell more = go high s
      where
        go : {t : Best} → above_at rs ls n limit ≡ true → Stands P bs rs ls n t → fell_going_on measure fallen bs penalty limit t more ≡ more
        go high (lacks z) = absurd (false≢true (rw (eq-eqb _ _ z) at high))
        go high (has {a} h) =
            let is-above : lt limit (score_of a) ≡ true = rw (ne_eqb _ _ (linked h), scored h) at high in
            rw is-above refl

-- ---- the phases, where n is the last break
module _ (measure : Measure) (fallen : Fallen) (penalty : Float) {P : ℕ → Type 0} (bs : Row) (n : ℕ) (last : length bs - 1 ≡ n) (st : List Best) where
  pub after_search : {rs : List (List Float)} {ls : List ℕ} {r : Option S.Solved} (c : ℕ) → r ≡ solved_at ls n (tally (1 + length (splits n) + length (search n)) c) →
      Stands P bs rs ls n (best_at st n) → Solves bs rs ls (searched measure bs penalty (states st)) c r
  after_search {rs} {ls} c e s = rw last (ends measure fallen penalty bs rs ls n (1 + length (splits n) + length (search n)) c e s)

  module _ (rs : List (List Float)) (ls : List ℕ) (s : Stands P bs rs ls n (best_at st n)) where
    pub splits_on : (t : States) → above_at rs ls n (mul binary64 four penalty) ≡ true → try_all measure bs penalty (search n) (states st) ≡ t →
        splitted measure bs penalty (states st) ≡ searched measure bs penalty t
    splits_on t high e =
        rw (
          last,
          further measure fallen penalty bs rs ls n (mul binary64 four penalty) high s (1 + length (splits n))
              (searched measure bs penalty (try_all measure bs penalty (search n) (states st))),
          e,
        )
        refl

    pub splits_fell : above_at rs ls n (mul binary64 four penalty) ≡ true →
        fell_after_splits measure fallen bs penalty (states st) ≡ fell_all measure fallen bs penalty (search n) (states st)
    splits_fell high = rw (last, further_fell measure fallen penalty bs rs ls n (mul binary64 four penalty) high s (fell_all measure fallen bs penalty (search n) (states st))) refl

    pub splits_off : {r : Option S.Solved} (c : ℕ) → above_at rs ls n (mul binary64 four penalty) ≡ false → r ≡ solved_at ls n (tally (1 + length (splits n)) c) →
        Solves bs rs ls (splitted measure bs penalty (states st)) (c + fell_after_splits measure fallen bs penalty (states st)) r
    splits_off c low e =
        rw last
        (no_further measure fallen penalty bs rs ls n (mul binary64 four penalty) (1 + length (splits n)) c
        (searched measure bs penalty (try_all measure bs penalty (search n) (states st))) (fell_all measure fallen bs penalty (search n) (states st)) e low s)

    abbrev later : ℕ
    later = fell_all measure fallen bs penalty (splits n) (states st) + fell_after_splits measure fallen bs penalty (try_all measure bs penalty (splits n) (states st))

    pub first_on : (t : States) → above_at rs ls n (mul binary64 three penalty) ≡ true → try_all measure bs penalty (splits n) (states st) ≡ t →
        tried measure bs penalty (states st) ≡ splitted measure bs penalty t
    first_on t high e =
        rw (
          last,
          further measure fallen penalty bs rs ls n (mul binary64 three penalty) high s 1 (splitted measure bs penalty (try_all measure bs penalty (splits n) (states st))),
          e,
        )
        refl

    pub first_fell : (t : States) → above_at rs ls n (mul binary64 three penalty) ≡ true → try_all measure bs penalty (splits n) (states st) ≡ t →
        fell_after_first measure fallen bs penalty (states st) ≡ fell_all measure fallen bs penalty (splits n) (states st) + fell_after_splits measure fallen bs penalty t
    first_fell t high e = rw (last, further_fell measure fallen penalty bs rs ls n (mul binary64 three penalty) high s later, e) refl

    pub first_off : {r : Option S.Solved} (c : ℕ) → above_at rs ls n (mul binary64 three penalty) ≡ false → r ≡ solved_at ls n (tally 1 c) →
        Solves bs rs ls (tried measure bs penalty (states st)) (c + fell_after_first measure fallen bs penalty (states st)) r
    first_off c low e =
        rw last
        (no_further measure fallen penalty bs rs ls n (mul binary64 three penalty) 1 c (splitted measure bs penalty (try_all measure bs penalty (splits n) (states st))) later e low s)

-- the first pair
module _ (measure : Measure) (penalty : Float) (bs : Row) (n : ℕ) (s : States) (long : length bs ≡ n + 1)
    (e : try_line_quad measure bs penalty 0 n (replicate (n + 1) none) ≡ s) where
  last_is : length bs - 1 ≡ n
  last_is = omega arith

  first_pair : try_line_quad measure bs penalty 0 (length bs - 1) (replicate (length bs) none) ≡ s
  first_pair = rw (last_is, long) e

  pub optimized_by : optimize_of measure bs penalty ≡ tried measure bs penalty s
  unfolding optimize_of
  optimized_by = ap (tried measure bs penalty) first_pair

  pub fell_by_lem : (fallen : Fallen) →
      fell_of measure fallen bs penalty ≡ fell_pair measure fallen bs penalty 0 n (replicate (n + 1) none) + fell_after_first measure fallen bs penalty s
  unfolding fell_of
  fell_by_lem fallen = rw (first_pair, last_is, long) refl
