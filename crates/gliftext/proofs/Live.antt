-- What is remembered and will be looked at, state by state, by the table. Assumes nothing.
use Prim.Native.Nat.{ℕ, zero, suc, ◌+◌, ◌*◌, ◌/◌, ◌%◌, ◌<◌}
use native.Mathlib.Omega.{arith}
use mathlib.Core.Bool.{Bool, true, false, not, false≢true}
use mathlib.Core.List.{List, [], ◌∷◌}
use mathlib.Core.Path.{◌≡◌, refl}
use borrow.Author.Tests.{ltb-true}
use lib.Dec.{eqb, ltb, leb}
use lib.ListN.{length, get_or}
use Rattle.gliftext.specs.Pick.{pick, both, either}
use Rattle.gliftext.specs.Actions.{does, actions, action_of}
use Rattle.gliftext.specs.Table.{table, move_of}
use Rattle.gliftext.proofs.Picks.{both_true}
use Rattle.gliftext.specs.declared.action.Action.{Action}
use Rattle.gliftext.specs.declared.action.Action.TheVariants.{Pass, Tag, NameStart, Quote, Attribute, Opens, Empty, Closes, Section, Reference, TextReference, Named, Numbered, Said, Declared, Declares, Target}

abbrev pub within : ℕ → ℕ → ℕ → Bool
within a b k = both (leb a k) (leb k b)

-- the tag's name, its attributes and its point
abbrev pub live_tag : ℕ → Bool
live_tag s = either (within 16 24 s) (within 49 60 s)

-- any other name
abbrev pub live_name : ℕ → Bool
live_name s = either (either (eqb s 3) (within 5 9 s)) (either (either (within 18 22 s) (within 49 60 s)) (either (within 26 27 s) (eqb s 34)))

abbrev pub live_value : ℕ → Bool
live_value s = either (within 8 9 s) (either (within 21 22 s) (within 49 60 s))

abbrev pub live_refer : ℕ → Bool
live_refer s = within 43 60 s

abbrev pub implies : Bool → Bool → Bool
implies a b = pick a b true

-- in an end tag
abbrev pub in_end : ℕ → Bool
in_end s = within 25 27 s

-- the declaration is read
abbrev pub declares : Action → Bool
declares a = either (does a Said) (either (does a Declared) (either (does a Declares) (does a Target)))

-- ---- what holds of each cell of the table: the state, the class, the action, the next state

abbrev pub sets_live : ℕ → Action → ℕ → Bool
sets_live s a t =
    both (both (implies (live_tag t) (either (does a Tag) (live_tag s))) (implies (live_name t) (either (does a NameStart) (live_name s))))
    (both (implies (live_value t) (either (either (does a Quote) (does a Said)) (live_value s)))
    (implies (live_refer t) (either (either (does a Reference) (does a TextReference)) (live_refer s))))

abbrev pub reads_live : ℕ → Action → Bool
reads_live s a =
    both
    (both (implies (either (either (does a Quote) (does a Attribute)) (either (does a Opens) (does a Empty))) (live_tag s))
    (implies (either (either (does a Quote) (does a Attribute)) (either (either (does a Closes) (does a Section)) (either (does a Declared) (does a Target)))) (live_name s)))
    (both (implies (either (does a Attribute) (does a Declared)) (live_value s)) (implies (either (does a Named) (does a Numbered)) (live_refer s)))

abbrev pub ends_well : ℕ → ℕ → Action → ℕ → Bool
ends_well s c a t =
    both
    (both (both (implies (does a Opens) (eqb c 3)) (implies (either (does a Opens) (either (does a Empty) (does a Closes))) (eqb t 12)))
    (both (implies (does a Closes) (in_end s)) (implies (either (declares a) (not (ltb 11 t))) (not (ltb 11 s)))))
    (both (implies (in_end t) (either (either (eqb s 15) (in_end s)) (not (ltb 11 s))))
    (implies (eqb t 15) (both (within 12 14 s) (both (eqb c 2) (does a Pass)))))

unfoldable pub cell_fine : ℕ → ℕ → ℕ → Bool
cell_fine s c m = both (sets_live s (action_of (m / 64)) (m % 64)) (both (reads_live s (action_of (m / 64))) (ends_well s c (action_of (m / 64)) (m % 64)))

unfoldable cells_fine : List ℕ → ℕ → Bool
cells_fine [] i = true
cells_fine (m ∷ ms) i = both (cell_fine (i / 23) (i % 23) m) (cells_fine ms (suc i))

all_fine : cells_fine table 0 ≡ true
unfolding cells_fine cell_fine table action_of actions pick
all_fine = refl

cell_fine_lem : (ms : List ℕ) (i j : ℕ) → cells_fine ms i ≡ true → j < length ms → cell_fine ((i + j) / 23) ((i + j) % 23) (get_or ms j 0) ≡ true
unfolding cells_fine
cell_fine_lem [] i j e h = absurd (omega arith)
cell_fine_lem (m ∷ ms) i zero e h =
    let n : i + 0 ≡ i = omega arith in
    rw n (both_true (cell_fine (i / 23) (i % 23) m) (cells_fine ms (suc i)) e).0
cell_fine_lem (m ∷ ms) i (suc j) e h =
    let n : i + suc j ≡ suc i + j = omega arith in
    rw n (cell_fine_lem ms (suc i) j (both_true (cell_fine (i / 23) (i % 23) m) (cells_fine ms (suc i)) e).1 (omega arith))

table_long : length table ≡ 1426
unfolding table
table_long = refl

inside : (s c : ℕ) → s < 62 → c < 23 → cell_fine s c (get_or table (s * 23 + c) 0) ≡ true
inside s c h k =
    let row : (0 + (s * 23 + c)) / 23 ≡ s = omega arith in
    let col : (0 + (s * 23 + c)) % 23 ≡ c = omega arith in
    rw (row, col) at (cell_fine_lem table 0 (s * 23 + c) all_fine (omega (arith, table_long)))

-- 61 is bad, with no action
outside : (s c : ℕ) → cell_fine s c 61 ≡ true
unfolding cell_fine action_of actions pick
outside s c = refl

pub moves_fine : (s c : ℕ) → cell_fine s c (move_of s c) ≡ true
unfolding move_of pick
moves_fine s c = by (ltb s 62) (ltb c 23) refl refl
  where
    by : (x y : Bool) → ltb s 62 ≡ x → ltb c 23 ≡ y → cell_fine s c (pick (ltb s 62) (pick (ltb c 23) (get_or table (s * 23 + c) 0) 61) 61) ≡ true
    by true true e f = rw (e, f) (inside s c (ltb-true s 62 e) (ltb-true c 23 f))
    by true false e f = rw (e, f) (outside s c)
    by false y e f = rw e (outside s c)

-- ---- the same, taken apart

pub record Facts (s c : ℕ) (a : Action) (t : ℕ) : Type 0 where
  pub sets_tag : live_tag t ≡ true → either (does a Tag) (live_tag s) ≡ true
  pub sets_name : live_name t ≡ true → either (does a NameStart) (live_name s) ≡ true
  pub sets_value : live_value t ≡ true → either (either (does a Quote) (does a Said)) (live_value s) ≡ true
  pub sets_refer : live_refer t ≡ true → either (either (does a Reference) (does a TextReference)) (live_refer s) ≡ true
  pub reads_tag : either (either (does a Quote) (does a Attribute)) (either (does a Opens) (does a Empty)) ≡ true → live_tag s ≡ true
  pub reads_name : either (either (does a Quote) (does a Attribute)) (either (either (does a Closes) (does a Section)) (either (does a Declared) (does a Target))) ≡ true → live_name s ≡ true
  pub reads_value : either (does a Attribute) (does a Declared) ≡ true → live_value s ≡ true
  pub reads_refer : either (does a Named) (does a Numbered) ≡ true → live_refer s ≡ true
  pub opens_gt : does a Opens ≡ true → eqb c 3 ≡ true
  pub tags_end : either (does a Opens) (either (does a Empty) (does a Closes)) ≡ true → eqb t 12 ≡ true
  pub closes_in : does a Closes ≡ true → in_end s ≡ true
  pub no_return : either (declares a) (not (ltb 11 t)) ≡ true → not (ltb 11 s) ≡ true
  pub end_from_lem : in_end t ≡ true → either (either (eqb s 15) (in_end s)) (not (ltb 11 s)) ≡ true
  pub less_from : eqb t 15 ≡ true → both (within 12 14 s) (both (eqb c 2) (does a Pass)) ≡ true

implied : (a b : Bool) → implies a b ≡ true → a ≡ true → b ≡ true
unfolding pick
implied true b e h = e
implied false b e h = absurd (false≢true h)

facts_by : (s c m : ℕ) → cell_fine s c m ≡ true → Facts s c (action_of (m / 64)) (m % 64)
unfolding cell_fine
facts_by s c m e =
    let x = both_true _ _ e in
    let y = both_true _ _ x.1 in
    let p = both_true _ _ x.0 in
    let p₀ = both_true _ _ p.0 in
    let p₁ = both_true _ _ p.1 in
    let q = both_true _ _ y.0 in
    let q₀ = both_true _ _ q.0 in
    let q₁ = both_true _ _ q.1 in
    let r = both_true _ _ y.1 in
    let r₀ = both_true _ _ r.0 in
    let r₁ = both_true _ _ r.1 in
    let r₀₀ = both_true _ _ r₀.0 in
    let r₀₁ = both_true _ _ r₀.1 in
    record {
      sets_tag = implied _ _ p₀.0;
      sets_name = implied _ _ p₀.1;
      sets_value = implied _ _ p₁.0;
      sets_refer = implied _ _ p₁.1;
      reads_tag = implied _ _ q₀.0;
      reads_name = implied _ _ q₀.1;
      reads_value = implied _ _ q₁.0;
      reads_refer = implied _ _ q₁.1;
      opens_gt = implied _ _ r₀₀.0;
      tags_end = implied _ _ r₀₀.1;
      closes_in = implied _ _ r₀₁.0;
      no_return = implied _ _ r₀₁.1;
      end_from_lem = implied _ _ r₁.0;
      less_from = implied _ _ r₁.1;
    }

pub facts : (s c : ℕ) → Facts s c (action_of (move_of s c / 64)) (move_of s c % 64)
facts s c = facts_by s c (move_of s c) (moves_fine s c)
