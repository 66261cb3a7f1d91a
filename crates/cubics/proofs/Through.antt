-- A contour let through enters the base: what is written is refused by none of 1 to 5. And each of its cubics has one depth, of at most
-- five halvings. The statements are those of specs/Statements. Assumes nothing.
use Rattle.std.specs.Prelude.{Result, Ok, Err}
use Prim.Native.Nat.{ℕ, zero, suc, ◌+◌, ◌-◌, ◌<◌}
use mathlib.Core.Bool.{Bool, true, false, not, and-false, true≢false, false≢true}
use mathlib.Core.List.{List, [], ◌∷◌, ◌++◌, append_assoc}
use mathlib.Core.Path.{◌≡◌, refl, sym, ap, ◌∙◌}
use native.Mathlib.Omega.{arith}
use borrow.Author.Tests.{ltb-false, not-false}
use lib.IntN.{ℤ}
use lib.ListN.{length, get_or, length-map}
use Rattle.refusals.specs.Refusals.{is_on, first_off, off_neighbours, too_many, refuse, rows_differ, no_point}
use Rattle.refusals.specs.Accepted.{judged_fine}
use Rattle.refusals.specs.declared.refusal.Refusal.TheVariants.{UnevenRows, NoPoint, TooManyPoints, StartsOffCurve}
use Rattle.refusals.specs.declared.refusal.Refusal.{Refusal}
use Rattle.rows.specs.Lent.{inputs}
use Rattle.rows.specs.Sixteen.{SixteenBits}
use Rattle.rows.proofs.Sixteen.{sixteen_at}
use Rattle.contour.specs.Points.{Points}
use Rattle.contour.specs.Implied.{number, off_curve}
use Rattle.contour.specs.Output.{column, flag_of, flags}
use Rattle.halving.specs.Cubic.{Curve, first_part, second_part, bent, control_point, start_point, halved_if, between}
use Rattle.halving.specs.Statements as Halving
use Rattle.halving.proofs.Depth.{one_depth}
use Rattle.cubics.specs.Replacing.{on_at, after_pair, four_at, curve_at, itself_at, points_at, points_to}
use Rattle.cubics.specs.Refusing.{judged_cubics}
use Rattle.cubics.specs.Entry.{refuse_if, answer_in, after_judging}
use Rattle.cubics.specs.Statements.{QuadsEnterTheBase, EachHasOneDepth}

-- ---- points in which an off-curve one comes only after an on-curve one: from, and to, on-curve is true

data Chain : Bool → Points → Bool → Type 0 where
  stop : {b : Bool} → Chain b [] b
  onto : {b c : Bool} {p : List ℤ} {ps : Points} → off_curve p ≡ false → Chain true ps c → Chain b (p ∷ ps) c
  off : {c : Bool} {p : List ℤ} {ps : Points} → Chain false ps c → Chain true (p ∷ ps) c

joined : {a b c : Bool} {ps qs : Points} → Chain a ps b → Chain b qs c → Chain a (ps ++ qs) c
joined stop s = s
joined (onto h r) s = onto h (joined r s)
joined (off r) s = off (joined r s)

-- between a cubic's ends: off-curve first and last
between_chain : (left e : ℕ) (c : Curve) → Chain true (between left e c) false
unfolding between
between_chain zero e c = off stop
between_chain (suc left) e c = halved_chain (bent e c) (between_chain left (e + 3) (first_part c)) (between_chain left (e + 3) (second_part c))
  where
    halved_chain : (b : Bool) {ps qs : Points} → Chain true ps false → Chain true qs false →
        Chain true (halved_if b (ps ++ (start_point (e + 3) (second_part c) ∷ qs)) (control_point e c ∷ [])) false
    halved_chain true first second = joined first (onto refl second)
    halved_chain false first second = off stop

-- of the first k places: after an on-curve one an off-curve point may come
record Through (xs ys : List ℤ) (fs : List ℕ) (k : ℕ) : Type 0 where
  to : Bool
  chain : Chain true (points_to xs ys fs k) to
  open_to : on_at fs (k - 1) ≡ true → to ≡ true

one : (k : ℕ) → suc k - 1 ≡ k
one k = omega arith

place_chain : (xs ys : List ℤ) (fs : List ℕ) (k : ℕ) (s t : Bool) → on_at fs k ≡ s → on_at fs (k - 1) ≡ t → Through xs ys fs k → Through xs ys fs (suc k)
unfolding points_to
place_chain xs ys fs k true t hs ht r = record { to = true; chain = rw hs (joined r.chain (onto refl stop)); open_to = λ h. refl }
place_chain xs ys fs k false true hs ht r = record {
  to = false;
  chain = rw (hs, ht) (joined (rw (r.open_to ht) at r.chain) (between_chain 5 0 (curve_at xs ys (length fs) k)));
  open_to = λ h. absurd (false≢true (sym hs ∙ rw (one k) at h));
}
place_chain xs ys fs k false false hs ht r = record {
  to = r.to;
  chain = rw (hs, ht) (joined r.chain stop);
  open_to = λ h. absurd (false≢true (sym hs ∙ rw (one k) at h));
}

through : (xs ys : List ℤ) (fs : List ℕ) (k : ℕ) → Through xs ys fs k
unfolding points_to
through xs ys fs zero = record { to = true; chain = stop; open_to = λ h. refl }
through xs ys fs (suc k) = place_chain xs ys fs k (on_at fs k) (on_at fs (k - 1)) refl refl (through xs ys fs k)

-- ---- 5: no two neighbours are off-curve

-- after a flag f, on-curve where the chain says so
after_flag : (f : ℕ) {b c : Bool} {ps : Points} → Chain b ps c → (b ≡ true → is_on f ≡ true) → off_neighbours (f ∷ flags ps) ≡ false
unfolding off_neighbours
after_flag f stop on = refl
after_flag f (onto {p = p} h r) on =
    let is_on_lem : is_on (flag_of p) ≡ true = rw h refl in
    rw (is_on_lem, and-false (not (is_on f))) (after_flag (flag_of p) r (λ e. is_on_lem))
after_flag f (off {p = p} r) on = rw (on refl) (after_flag (flag_of p) r (λ e. absurd (false≢true e)))

chain_apart : {b c : Bool} {ps : Points} → Chain b ps c → off_neighbours (flags ps) ≡ false
unfolding off_neighbours
chain_apart stop = refl
chain_apart (onto {p = p} h r) = after_flag (flag_of p) r (λ e. rw h refl)
chain_apart (off {p = p} r) = after_flag (flag_of p) r (λ e. absurd (false≢true e))

-- ---- 4: the first point is the upload's first

first_stays : (xs ys : List ℤ) (fs : List ℕ) (k : ℕ) → on_at fs 0 ≡ true → (rest : Points) × (points_to xs ys fs (suc k) ≡ itself_at xs ys fs 0 ++ rest)
unfolding points_to
first_stays xs ys fs zero h = ([], rw h)
first_stays xs ys fs (suc k) h =
    let before = first_stays xs ys fs k h in
    (before.0 ++ points_at xs ys fs (suc k), ap (λ (ps : Points). ps ++ points_at xs ys fs (suc k)) before.1 ∙ append_assoc (itself_at xs ys fs 0) before.0 (points_at xs ys fs (suc k)))

head_on : (xs ys : List ℤ) (fs : List ℕ) (n : ℕ) → 0 < n → on_at fs 0 ≡ true → (0 < length (points_to xs ys fs n)) × (is_on (get_or (flags (points_to xs ys fs n)) 0 0) ≡ true)
head_on xs ys fs zero some h = absurd (omega arith)
head_on xs ys fs (suc k) some h = let first = first_stays xs ys fs k h in rw first.1 (omega arith, refl)

-- ---- what is let through

open_refusal : (k : Refusal) (t : Bool) (later : Result Unit Refusal) → refuse k t later ≡ Ok tt → (t ≡ false) × (later ≡ Ok tt)
open_refusal k true later h = let z : ◌≡◌ {A = ℕ} 0 1 = cc in absurd (omega arith)
open_refusal k false later h = (refl, h)

started : (fs : List ℕ) → no_point (length fs) ≡ false → first_off fs ≡ false → (0 < length fs) × (on_at fs 0 ≡ true)
started [] h k = absurd (true≢false h)
started (f ∷ fs) h k = (omega arith, not-false (is_on f) k)

judged_starts : (xs ys : List ℤ) (fs : List ℕ) → judged_cubics xs ys fs ≡ Ok tt → (0 < length fs) × (on_at fs 0 ≡ true)
unfolding judged_cubics
judged_starts xs ys fs h =
    let one = open_refusal UnevenRows (rows_differ (length xs) (length ys) (length fs)) _ h in
    let two = open_refusal NoPoint (no_point (length fs)) _ one.1 in
    let four = open_refusal StartsOffCurve (first_off fs) _ two.1 in
    started fs two.0 four.0

refused_or : (k : Refusal) (t : Bool) (later : Result ℕ Refusal) (n : ℕ) → refuse_if Err Ok k t later ≡ Ok n → (t ≡ false) × (later ≡ Ok n)
refused_or k true later n h = let z : ◌≡◌ {A = ℕ} 0 1 = cc in absurd (omega arith)
refused_or k false later n h = (refl, h)

fine_or : (j : Result Unit Refusal) (later : Result ℕ Refusal) (n : ℕ) → after_judging j later ≡ Ok n → (j ≡ Ok tt) × (later ≡ Ok n)
fine_or (Err k) later n h = let z : ◌≡◌ {A = ℕ} 0 1 = cc in absurd (omega arith)
fine_or (Ok tt) later n h = (refl, h)

pub none_refused : QuadsEnterTheBase
none_refused (inputs xs ys fs) room n h =
    let ps = points_to xs ys fs (length fs) in
    let past = fine_or (judged_cubics xs ys fs) (answer_in room ps) n h in
    let three = refused_or TooManyPoints (too_many (length ps)) _ n past.1 in
    let start = judged_starts xs ys fs past.0 in
    let head = head_on xs ys fs (length fs) start.0 start.1 in
    let as_x : length (column 0 ps) ≡ length ps = length-map ps (λ (p : List ℤ). number p 0) in
    let as_y : length (column 1 ps) ≡ length ps = length-map ps (λ (p : List ℤ). number p 1) in
    let as-f : length (flags ps) ≡ length ps = length-map ps flag_of in
    judged_fine (record {
      same_x = as_x ∙ sym as-f;
      same_y = as_y ∙ sym as-f;
      some = rw as-f head.0;
      few = rw as-f (ltb-false 1024 (length ps) three.0);
      first = head.1;
      apart = chain_apart (through xs ys fs (length fs)).chain;
    })

-- ---- each cubic of an upload, whose coordinates are of 16 bits: one depth

four_at_lem : (row : List ℤ) (n i : ℕ) → SixteenBits row → Halving.SixteenBits (four_at row n i)
four_at_lem row n i s = record { p0 = sixteen_at row s (i - 1); p1 = sixteen_at row s i; p2 = sixteen_at row s (i + 1); p3 = sixteen_at row s (after_pair i n) }

pub each_one_depth : EachHasOneDepth
each_one_depth xs ys n i sx sy = one_depth (curve_at xs ys n i) (four_at_lem xs n i sx) (four_at_lem ys n i sy)
