-- What each test reads of the row of flags. Assumes nothing.
use Prim.Native.Nat.{ℕ, suc, ◌-◌, ◌≤◌, ◌<◌}
use mathlib.Core.Bool.{Bool, true, false, not, ◌||◌}
use mathlib.Core.List.{List, [], ◌∷◌}
use mathlib.Core.Path.{◌≡◌, refl}
use native.Mathlib.Omega.{arith}
use lib.ListN.{length, get_or, drop, length-drop}
use lib.Seq.{drop-cons}
use Rattle.refusals.specs.Refusals.{is_on, both_off, first_off, off_neighbours, refuse}
use Rattle.std.specs.Prelude.{Result, Err}
use Rattle.refusals.specs.declared.refusal.Refusal.{Refusal}

-- ---- the first flag

pub first_none : (fs : List ℕ) → length fs ≡ 0 → false ≡ first_off fs
first_none [] h = refl
first_none (f ∷ fs) h = absurd (omega arith)

pub first_some : (fs : List ℕ) → (length fs ≡ 0 → ⊥) → not (is_on (get_or fs 0 0)) ≡ first_off fs
first_some [] h = absurd (h refl)
first_some (f ∷ fs) h = refl

-- ---- neighbours: from place i - 1 on

-- fewer than two are no neighbours
short : (fs : List ℕ) → length fs ≤ 1 → false ≡ off_neighbours fs
unfolding off_neighbours
short [] h = refl
short (a ∷ []) h = refl
short (a ∷ b ∷ fs) h = absurd (omega arith)

module _ (fs : List ℕ) (i : ℕ) where
  pub pairs_end : length fs ≤ i → false ≡ off_neighbours (drop (i - 1) fs)
  pairs_end h = short (drop (i - 1) fs) (simp length-drop (omega arith))

  pub pairs_more : 1 ≤ i → i < length fs → off_neighbours (drop (i - 1) fs) ≡ (both_off (get_or fs (i - 1) 0) (get_or fs i 0) || off_neighbours (drop i fs))
  unfolding off_neighbours
  pairs_more low h =
      let e : suc (i - 1) ≡ i = omega arith in
      rw (drop-cons fs (i - 1) 0 (omega arith), e, drop-cons fs i 0)

-- ---- the order of the tests: one that holds, and one that does not

pub refuses : (k : Refusal) {r t : Bool} (later : Result Unit Refusal) → r ≡ t → r ≡ true → Err k ≡ refuse k t later
refuses k later is h = rw (← is, h)

pub passes : (k : Refusal) {r t : Bool} {later j : Result Unit Refusal} → r ≡ t → r ≡ false → j ≡ later → j ≡ refuse k t later
passes k is h e = rw (← is, h) e
