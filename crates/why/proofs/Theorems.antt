-- W1's theorems. Assumes nothing.
use Rattle.std.specs.Prelude.{Result, Ok, Err}
use Prim.Native.Nat.{ℕ, ◌<◌}
use mathlib.Core.Bool.{Bool, true, false, ◌&&◌, ◌||◌, false≢true}
use mathlib.Core.List.{List}
use mathlib.Core.Path.{◌≡◌, refl, sym, ap, ◌∙◌}
use native.Mathlib.Omega.{arith}
use borrow.Author.Tests.{ltb-true}
use lib.Dec.{ltb}
use lib.IntN.{ℤ, pos, nat_abs, ◌-ℤ◌}
use lib.ListN.{get_or}
use lib.Ieee.{binary64, sub}
use lib.Ieee.Fits.{sub-fits}
use Rattle.float.specs.Numbers.{nought}
use Rattle.float.specs.Float.{close_to}
use Rattle.float.proofs.Zeros.{IsZero}
use Rattle.refusals.specs.Refusals.{judged}
use Rattle.refusals.specs.Accepted.{accepted}
use Rattle.rows.specs.Sixteen.{SixteenBits}
use Rattle.geometry.specs.declared.Point.{Point}
use Rattle.refusals.specs.declared.refusal.Refusal.TheVariants.{NoSuchSegment}
use Rattle.refusals.specs.declared.refusal.Refusal.{Refusal}
use Rattle.outline.specs.Segments.{coordinate, count_of, start_of, previous}
use Rattle.outline.specs.Laws.{count_few}
use Rattle.corners.specs.Corners.{turns_x, turns_y, zero_tangent, chord_at, tangent_at}
use Rattle.corners.proofs.Reasons.{marked_when, twice_when, corner_when, no_corner_past}
use Rattle.corners.proofs.Whole.{step_whole, step_small, size_at, between, leaving_is, arriving_is}
use Rattle.why.specs.Tests.{first_state, second_state, tangent_before, tangent_after, none_before, none_after, angled, reasons_of, some_reason}
use Rattle.why.specs.Entry.{unless_below, after_judging}
use Rattle.why.specs.Statements.{in_first, in_second, Told, NamedWhenMarked, SomeWhenCorner, NoCornerPast, ZeroHasNoAngle}
use Rattle.why.specs.declared.Marks.{Marks}
use Rattle.why.proofs.Zero.{close_is_zero, IsNone, none_before_lem, none_after_lem}

-- ---- what an answer with reasons says: the index is below the number of segments, which is at most 1,024

pub record Within (xs ys : List ℤ) (fs : List ℕ) (k : ℕ) (r : Marks) : Type 0 where
  pub below : k < count_of fs
  pub few : k < 1024
  pub is : r ≡ reasons_of xs ys fs (count_of fs) k

refused_no : (n : Refusal) (r : Marks) → ◌≡◌ {A = Result Marks Refusal} (Ok r) (Err n) → ⊥
refused_no n r e = let z : ◌≡◌ {A = ℕ} 0 1 = cc in absurd (omega arith)

same_marks : (r r' : Marks) → ◌≡◌ {A = Result Marks Refusal} (Ok r) (Ok r') → r ≡ r'
same_marks r r' e = cc

within : (xs ys : List ℤ) (fs : List ℕ) (k : ℕ) (r : Marks) → Told xs ys fs k r → Within xs ys fs k r
within xs ys fs k r p = by (judged xs ys fs) refl (ltb k (count_of fs)) refl p.answer
  where
    by : (j : Result Unit Refusal) → judged xs ys fs ≡ j → (b : Bool) → ltb k (count_of fs) ≡ b →
        Ok r ≡ after_judging j (unless_below b (Ok (reasons_of xs ys fs (count_of fs) k))) → Within xs ys fs k r
    by (Err n) ej b eb e = absurd (refused_no n r e)
    by (Ok tt) ej false eb e = absurd (refused_no NoSuchSegment r e)
    by (Ok tt) ej true eb e =
        let h = ltb-true k (count_of fs) eb in
        let few = (accepted xs ys fs ej).few in
        let most = count_few fs in
        record { below = h; few = omega arith; is = same_marks r (reasons_of xs ys fs (count_of fs) k) e }

-- ---- each reason is named exactly when its own test marks that index

pub named_when_marked : NamedWhenMarked
named_when_marked xs ys fs k r p =
    let w = within xs ys fs k r p in
    let m = count_of fs in
    let tangent = marked_when m 1024 k w.below w.few in
    record {
      x = ap (λ (r : Marks). r.x) w.is ∙ sym (twice_when m 1024 k w.below w.few (in_first xs ys fs turns_x) (in_second xs ys fs turns_x));
      y = ap (λ (r : Marks). r.y) w.is ∙ sym (twice_when m 1024 k w.below w.few (in_first xs ys fs turns_y) (in_second xs ys fs turns_y));
      before = ap (λ (r : Marks). r.before) w.is ∙ sym (tangent (none_before xs ys fs m));
      after = ap (λ (r : Marks). r.after) w.is ∙ sym (tangent (none_after xs ys fs m));
      angle = ap (λ (r : Marks). r.angle) w.is ∙ sym (tangent (angled xs ys fs m));
    }

-- ---- some reason is named exactly when the index is a corner

-- the tests of x and of y, by rounds or by coordinate
by_rounds : (x1 x2 y1 y2 t : Bool) → ((x1 || x2) || ((y1 || y2) || t)) ≡ ((x1 || y1) || (x2 || y2) || t)
by_rounds true x2 y1 y2 t = refl
by_rounds false true true y2 t = refl
by_rounds false true false y2 t = refl
by_rounds false false true y2 t = refl
by_rounds false false false y2 t = refl

pub some_when_corner : SomeWhenCorner
some_when_corner xs ys fs k r p =
    let w = within xs ys fs k r p in
    let m = count_of fs in
    let c = chord_at xs ys fs k in
    let first = first_state xs ys fs m k in
    let second = second_state xs ys fs m k in
    ap some_reason w.is
    ∙ by_rounds (turns_x first c) (turns_x second c) (turns_y first c) (turns_y second c) (tangent_at xs ys fs m k)
    ∙ sym (corner_when xs ys fs 1024 k w.below w.few)

pub no_corner_beyond : NoCornerPast
no_corner_beyond xs ys fs k h = no_corner_past xs ys fs 1024 k h

-- ---- a zero tangent leaves the angle test false

both : (a b : Bool) → (a && b) ≡ true → (a ≡ true) × (b ≡ true)
both true true h = (refl, refl)
both true false h = absurd (false≢true h)
both false b h = absurd (false≢true h)

-- a tangent of a contour is the step between two of its points
none_of : (xs ys : List ℤ) → SixteenBits xs → SixteenBits ys → (i j : ℕ) {d : Point} → d ≡ between xs ys i j → zero_tangent d ≡ true → IsNone d
none_of xs ys hx hy i j is h =
    let e = both _ _ (rw is at h) in
    rw is (record { x = close xs hx i j e.0; y = close ys hy i j e.1 })
  where
    close : (row : List ℤ) → SixteenBits row → (i j : ℕ) → close_to (sub binary64 (coordinate row j) (coordinate row i)) nought ≡ true → IsZero (sub binary64 (coordinate row j) (coordinate row i))
    close row hr i j c =
        let u = get_or row j (pos 0) in
        let v = get_or row i (pos 0) in
        let hu = size_at row hr j in
        let hv = size_at row hr i in
        let small = step_small u v hu hv in
        close_is_zero (sub binary64 (coordinate row j) (coordinate row i)) (nat_abs (u -ℤ v)) (sub-fits binary64 _ _) (step_whole u v hu hv) (omega arith) c

pub zero_has_no_angle : ZeroHasNoAngle
zero_has_no_angle xs ys fs k r hx hy p =
    let w = within xs ys fs k r p in
    let m = count_of fs in
    let d0 = tangent_before xs ys fs m k in
    let d1 = tangent_after xs ys fs m k in
    let angle = ap (λ (r : Marks). r.angle) w.is in
    record {
      before = λ h. angle ∙ none_before_lem d0 d1 (none_of xs ys hx hy _ _ (arriving_is xs ys fs (start_of fs (previous m k))) (sym (ap (λ (r : Marks). r.before) w.is) ∙ h));
      after = λ h. angle ∙ none_after_lem d0 d1 (none_of xs ys hx hy _ _ (leaving_is xs ys fs (start_of fs k)) (sym (ap (λ (r : Marks). r.after) w.is) ∙ h));
    }
