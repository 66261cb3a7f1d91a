-- What is written is refused by none of 1 to 5; a contour that they let through is written as itself; and where each middle is whole, the outline
-- is the same. Assumes nothing.
use Rattle.std.specs.Prelude.{Result, Ok, Err}
use Prim.Native.Nat.{ℕ, suc, ◌+◌, ◌*◌, ◌/◌, ◌≤◌, ◌<◌}
use mathlib.Core.Bool.{Bool, true, false, not, cond, ◌&&◌, true≢false}
use mathlib.Core.List.{List, [], ◌∷◌, ◌++◌, map, map-id, append-nil}
use mathlib.Core.Path.{◌≡◌, refl, sym, ap, ◌∙◌}
use native.Mathlib.Numerals.{add-one}
use native.Mathlib.Omega.{arith}
use borrow.Author.Tests.{ltb-false, le-ltb, eq-eqb, ne_eqb}
use lib.IntN.{ℤ, pos, negsuc, neg_ℤ, ◌+ℤ◌}
use lib.ListN.{length, get_or, take, drop, length-append, length-map}
use lib.Seq.{drop-cons}
use denote.Triple.Both.{Both}
use Rattle.refusals.specs.Refusals.{is_on, rows_differ, no_point, too_many, refuse, off_neighbours}
use Rattle.refusals.specs.Accepted.{Accepted, accepted, judged_fine}
use Rattle.refusals.specs.declared.refusal.Refusal.TheVariants.{UnevenRows, NoPoint, TooManyPoints, NoOnCurve}
use Rattle.refusals.specs.declared.refusal.Refusal.{Refusal}
use Rattle.outline.specs.Segments.{on_at}
use Rattle.rows.specs.Lent.{Inputs, inputs}
use Rattle.contour.specs.Points.{Points, point_as, came_to}
use Rattle.contour.specs.Implied.{number, off_curve}
use Rattle.contour.specs.Output.{Outputs, column, flag_of, flags}
use Rattle.halving.specs.Cubic.{mid, nearest}
use Rattle.explicit.specs.Explicit.{points_of, first_on, turned, both_off, only_if, after, put_in, middle, implied_point, itself, start_of, explicit_of}
use Rattle.explicit.specs.Explicit.{doubled, exact_middle, outline_of}
use Rattle.explicit.specs.Entry.{room_of, none_on, judged_rows, refuse_if, answer_in, after_judging, Promise}
use Rattle.explicit.specs.Determine.{rows_of, promise_shows}
use Rattle.explicit.specs.Statements.{read_again, NoneRefused, NeverFewer, HalvesAway, ItselfWhenExplicit, Even, WholeMiddle, WholeMiddles, OutlineKept}
use Rattle.explicit.proofs.Turning.{first_most, length_came, came_at, length_turned}
use Rattle.explicit.proofs.Apart.{Apart, as_they_are, put_apart, apart_flags, flags_apart}
use Rattle.explicit.proofs.Again.{column_x, column_y, flag_column, bits_apart, Formed, formed_came, formed_written, read_again_lem}

-- ---- what a contour that is written out tells

open_refusal : (k : Refusal) (t : Bool) (later : Result Unit Refusal) → refuse k t later ≡ Ok tt → (t ≡ false) × (later ≡ Ok tt)
open_refusal k true later h = let z : ◌≡◌ {A = ℕ} 0 1 = cc in absurd (omega arith)
open_refusal k false later h = (refl, h)

refused_or : (k : Refusal) (t : Bool) (later : Result ℕ Refusal) (n : ℕ) → refuse_if Err Ok k t later ≡ Ok n → (t ≡ false) × (later ≡ Ok n)
refused_or k true later n h = let z : ◌≡◌ {A = ℕ} 0 1 = cc in absurd (omega arith)
refused_or k false later n h = (refl, h)

fine_or : (j : Result Unit Refusal) (later : Result ℕ Refusal) (n : ℕ) → after_judging j later ≡ Ok n → (j ≡ Ok tt) × (later ≡ Ok n)
fine_or (Err k) later n h = let z : ◌≡◌ {A = ℕ} 0 1 = cc in absurd (omega arith)
fine_or (Ok tt) later n h = (refl, h)

judged_some : (xs ys : List ℤ) (fs : List ℕ) → judged_rows xs ys fs ≡ Ok tt → none_on fs ≡ false
unfolding judged_rows
judged_some xs ys fs h =
    let one = open_refusal UnevenRows (rows_differ (length xs) (length ys) (length fs)) _ h in
    let two = open_refusal NoPoint (no_point (length fs)) _ one.1 in
    (open_refusal NoOnCurve (none_on fs) (Ok tt) two.1).0

-- the first on-curve point is there, and is on-curve
first_is_on : (fs : List ℕ) → none_on fs ≡ false → (first_on fs < length fs) × (on_at fs (first_on fs) ≡ true)
unfolding none_on first_on
first_is_on [] h = absurd (true≢false h)
first_is_on (f ∷ fs) h = by (is_on f) refl (first_is_on fs) h
  where
    by : (t : Bool) → is_on f ≡ t → (none_on fs ≡ false → (first_on fs < length fs) × (on_at fs (first_on fs) ≡ true)) → (not t && none_on fs) ≡ false →
        (cond t 0 (first_on fs + 1) < suc (length fs)) × (on_at (f ∷ fs) (cond t 0 (first_on fs + 1)) ≡ true)
    by true e rest h = (omega arith, e)
    by false e rest h = let found = rest h in rw (add-one (first_on fs)) (omega (arith, found.0), found.1)

-- the points that are turned: an on-curve one, and those after it
pub record Started (ps : Points) : Type 0 where
  pub head : List ℤ
  pub rest : Points
  pub is : ps ≡ head ∷ rest
  pub on : off_curve head ≡ false

turned_starts : (xs ys : List ℤ) (fs : List ℕ) → judged_rows xs ys fs ≡ Ok tt → Started (turned (first_on fs) (points_of (inputs xs ys fs)))
turned_starts xs ys fs h =
    let found = first_is_on fs (judged_some xs ys fs h) in
    let ps = came_to xs ys fs (length fs) in
    let at : get_or ps (first_on fs) [] ≡ point_as (on_at fs (first_on fs)) xs ys (first_on fs) = came_at xs ys fs (length fs) (first_on fs) found.0 in
    let inside : first_on fs < length ps = rw (length_came xs ys fs (length fs)) found.0 in
    record {
      head = point_as true xs ys (first_on fs);
      rest = drop (suc (first_on fs)) ps ++ take (first_on fs) ps;
      is = ap (λ (l : Points). l ++ take (first_on fs) ps) (drop-cons ps (first_on fs) [] inside) ∙ rw (at, found.1) refl;
      on = refl;
    }

pub record Written (i : Inputs) : Type 0 where
  pub start : Started (turned (start_of i) (points_of i))
  pub few : length (explicit_of i) ≤ 1024

written_told : (i : Inputs) (w : Both Outputs Outputs) (n : ℕ) → Promise i w (Ok n) → Written i
written_told (inputs xs ys fs) w n p =
    let ps = explicit_of (inputs xs ys fs) in
    let past = fine_or (judged_rows xs ys fs) (answer_in (room_of w.entry) ps) n (sym p.answer) in
    let three = refused_or TooManyPoints (too_many (length ps)) _ n past.1 in
    record { start = turned_starts xs ys fs past.0; few = ltb-false 1024 (length ps) three.0 }

-- ---- 1 to 5

module _ {i : Inputs} (t : Written i) where
  abbrev head : List ℤ
  head = t.start.head

  abbrev rest : Points
  rest = after implied_point itself t.start.head t.start.rest

  explicit_is : explicit_of i ≡ head ∷ rest
  unfolding put_in
  explicit_is = ap (put_in implied_point itself) t.start.is

  head_on : is_on (flag_of head) ≡ true
  head_on = rw t.start.on

  accepted_rows : Accepted (column 0 (explicit_of i)) (column 1 (explicit_of i)) (flags (explicit_of i))
  accepted_rows =
      let ps = explicit_of i in
      let as_x : length (column 0 ps) ≡ length ps = length-map ps (λ (p : List ℤ). number p 0) in
      let as_y : length (column 1 ps) ≡ length ps = length-map ps (λ (p : List ℤ). number p 1) in
      let as-f : length (flags ps) ≡ length ps = length-map ps flag_of in
      record {
        same_x = as_x ∙ sym as-f;
        same_y = as_y ∙ sym as-f;
        some = rw (as-f, explicit_is) (omega arith);
        few = rw as-f t.few;
        first = rw explicit_is head_on;
        apart = rw explicit_is (apart_flags (put_apart head t.start.rest));
      }

pub none_refused : NoneRefused
none_refused i w n p = rw (promise_shows p) (judged_fine (accepted_rows (written_told i w n p)))

-- ---- never fewer

after_longer : (p : List ℤ) (ps : Points) → length ps ≤ length (after implied_point itself p ps)
unfolding after
after_longer p [] = omega arith
after_longer p (q ∷ qs) =
    let rest = after implied_point itself q qs in
    omega (arith, length-append (only_if (both_off p q) (implied_point p q)) (q ∷ rest), after_longer q qs)

put_longer : (ps : Points) → length ps ≤ length (put_in implied_point itself ps)
unfolding put_in
put_longer [] = omega arith
put_longer (p ∷ ps) = omega (arith, after_longer p ps)

pub never_fewer : NeverFewer
never_fewer xs ys fs =
    omega (arith, length_turned xs ys fs (first_on fs) (first_most fs), put_longer (turned (first_on fs) (points_of (inputs xs ys fs))))

-- ---- itself

no_turn : (ps : Points) → turned 0 ps ≡ ps
no_turn ps = append-nil ps

module _ {xs ys : List ℤ} {fs : List ℕ} (a : Accepted xs ys fs) where
  starts_on : (first_on fs ≡ 0) × (none_on fs ≡ false)
  unfolding first_on none_on
  starts_on = by fs a.some a.first
    where
      by : (fs : List ℕ) → 0 < length fs → is_on (get_or fs 0 0) ≡ true → (first_on fs ≡ 0) × (none_on fs ≡ false)
      by [] h on = absurd (omega arith)
      by (f ∷ fs) h on = rw on (refl, refl)

  let_through : judged_rows xs ys fs ≡ Ok tt
  unfolding judged_rows
  let_through =
      let none : length fs ≡ 0 → ⊥ = λ z. omega (arith, a.some) in
      rw (eq-eqb (length xs) (length ys) (a.same_x ∙ sym a.same_y), eq-eqb (length xs) (length fs) a.same_x, ne_eqb (length fs) 0 none, starts_on.1)

  points_apart : (p : List ℤ) (ps : Points) → points_of (inputs xs ys fs) ≡ p ∷ ps → Apart p ps
  points_apart p ps e =
      flags_apart p ps (ap (λ (l : Points). off_neighbours (flags l)) (sym e) ∙ ap off_neighbours (flag_column xs ys fs) ∙ bits_apart fs ∙ a.apart)

  explicit_itself : explicit_of (inputs xs ys fs) ≡ points_of (inputs xs ys fs)
  unfolding put_in
  explicit_itself = rw (starts_on.0, no_turn) (by (points_of (inputs xs ys fs)) refl)
    where
      by : (ps : Points) → points_of (inputs xs ys fs) ≡ ps → put_in implied_point itself ps ≡ ps
      by [] e = refl
      by (p ∷ ps) e = as_they_are p ps implied_point itself (points_apart p ps e) ∙ map-id (p ∷ ps)

pub itself_when_explicit : ItselfWhenExplicit
itself_when_explicit xs ys fs w r fine room p =
    let a = accepted xs ys fs fine in
    let is = explicit_itself a in
    let long : length (explicit_of (inputs xs ys fs)) ≡ length fs = ap length is ∙ length_came xs ys fs (length fs) in
    let all : r ≡ (Ok (length fs)) = p.answer ∙ rw (let_through a, long, le-ltb 1024 (length fs) a.few, le-ltb (room_of w.entry) (length fs) room) in
    record {
      all = all;
      same = promise_shows p ∙ rw (all, is, column_x xs ys fs a.same_x, column_y xs ys fs a.same_y, flag_column xs ys fs);
    }

-- ---- the middle

pub halves_away : HalvesAway
halves_away = record { up = λ n. ap pos (omega arith); down = λ n. by n (omega arith) }
  where
    by : (n : ℕ) → (2 * suc n + 2) / 4 ≡ (n + 2) / 2 → nearest 1 (negsuc n) ≡ neg_ℤ (pos ((n + 2) / 2))
    by n e = ap (λ (r : ℕ). neg_ℤ (pos r)) e

-- ---- the outline

nearest_whole : (h : ℤ) → nearest 1 (h +ℤ h) ≡ h
nearest_whole (pos n) = ap pos (omega arith)
nearest_whole (negsuc n) =
    let half : (2 * suc (suc (n + n)) + 2) / 4 ≡ suc n = omega arith in
    ap (λ (r : ℕ). neg_ℤ (pos r)) half

-- the middle of an even sum, doubled, is the sum
middle_whole : (a b : ℤ) → Even (a +ℤ b) → middle a b +ℤ middle a b ≡ mid a b
middle_whole a b e = rw (← e.even, nearest_whole e.half)

doubled_middle : (p q : List ℤ) → WholeMiddle p q → doubled (implied_point p q) ≡ exact_middle p q
doubled_middle p q e =
    λ k. middle_whole (number p 0) (number q 0) e.x k ∷ middle_whole (number p 1) (number q 1) e.y k ∷ pos 1 ∷ []

doubled_after : (p : List ℤ) (ps : Points) → WholeMiddles (p ∷ ps) → map doubled (after implied_point itself p ps) ≡ after exact_middle doubled p ps
unfolding after
doubled_after p [] whole = refl
doubled_after p (q ∷ qs) whole =
    by (both_off p q) refl (doubled_after q qs (λ k h both. whole (suc k) (omega arith) both))
  where
    by : (t : Bool) → both_off p q ≡ t → map doubled (after implied_point itself q qs) ≡ after exact_middle doubled q qs →
        map doubled (only_if t (implied_point p q) ++ (q ∷ after implied_point itself q qs)) ≡ only_if t (exact_middle p q) ++ (doubled q ∷ after exact_middle doubled q qs)
    by true e rest = λ k. doubled_middle p q (whole 0 (omega arith) e) k ∷ doubled q ∷ rest k
    by false e rest = λ k. doubled q ∷ rest k

doubled_written : (ps : Points) → WholeMiddles ps → map doubled (put_in implied_point itself ps) ≡ put_in exact_middle doubled ps
unfolding put_in
doubled_written [] whole = refl
doubled_written (p ∷ ps) whole = ap (λ (l : Points). doubled p ∷ l) (doubled_after p ps whole)

-- the outline of what is written: its points, doubled
formed_points : (i : Inputs) → Formed (explicit_of i)
formed_points (inputs xs ys fs) = formed_written (first_on fs) (came_to xs ys fs (length fs)) (formed_came xs ys fs (length fs))

module _ {i : Inputs} (t : Written i) where
  first_zero : first_on (flags (explicit_of i)) ≡ 0
  unfolding first_on
  first_zero = rw (explicit_is t, head_on t)

  outline_written : outline_of (read_again (rows_of (explicit_of i))) ≡ map doubled (explicit_of i)
  outline_written =
      let read = read_again_lem (formed_points i) in
      rw (first_zero, read, no_turn (explicit_of i), explicit_is t) (as_they_are (head t) (rest t) exact_middle doubled (put_apart (head t) t.start.rest))

pub outline_kept : OutlineKept
outline_kept i w n p whole =
    let t = written_told i w n p in
    let points = doubled_written (turned (start_of i) (points_of i)) whole in
    record {
      points = rw (promise_shows p, read_again_lem (formed_points i)) points;
      outline = rw (promise_shows p) (outline_written t ∙ points);
    }
