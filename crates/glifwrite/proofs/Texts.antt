-- Numbers of 16 bits, points and contours are put as their whole texts. Assumes nothing.
use Prim.Native.Nat.{ℕ, zero, suc, ◌+◌, ◌-◌, ◌/◌, ◌%◌, ◌^◌, ◌≤◌, ◌<◌, min}
use native.Mathlib.Omega.{arith}
use mathlib.Core.Bool.{Bool, true, false}
use mathlib.Core.List.{List, [], ◌∷◌, ◌++◌}
use mathlib.Core.Path.{◌≡◌, refl, sym, ap, ◌∙◌}
use borrow.Author.Tests.{ltb-false}
use lib.Dec.{eqb, ltb}
use lib.IntN.{ℤ, pos, negsuc}
use lib.Signed.{mag}
use lib.ListN.{length, length-append, take, drop, get_or, length-drop}
use lib.Seq.{sets, sets-eq, take-suc, get_or-drop, take-append_seam}
use native.Mathlib.Nat.{zero-add}
use Rattle.lines.specs.Text.{last_after, decimal_in, decimal_of, signed_of}
use Rattle.gliftext.specs.Pick.{pick, most}
use Rattle.glifwrite.specs.Puts.{Putting, put_byte, put_range, no_digits, put_number, kinds, put_kind, opening, between, closing, put_point}
use Rattle.gliftext.proofs.Picks.{plain_sum}
use Rattle.glifwrite.specs.Contours.{is_on, put_place, put_to}
use Rattle.glifwrite.specs.Texts.{put_text, kind_text, point_text, contour_text, NumbersFit, NumbersWhole, PointsWhole, ContoursWhole}

-- ---- the text of a number

one_more : (l : List ℕ) (b : ℕ) → length (l ++ (b ∷ [])) ≡ suc (length l)
one_more l b = simp length-append (omega arith)

-- below ten times ten to the d there are no more than d digits and one
digits : (d k n : ℕ) → n < 10 ^ suc d → length (decimal_in k n) ≤ suc d
unfolding decimal_in
digits d zero n h = omega arith
digits d (suc k) n h = by d h (ltb n 10) refl (λ e g. digits e k (n / 10) g)
  where
    by : (d : ℕ) → n < 10 ^ suc d → (t : Bool) → ltb n 10 ≡ t → ((e : ℕ) → n / 10 < 10 ^ suc e → length (decimal_in k (n / 10)) ≤ suc e) →
        length (last_after t n (decimal_in k (n / 10))) ≤ suc d
    by d h true e less = omega arith
    by zero h false e less = absurd (omega (arith, ltb-false n 10 e))
    by (suc d) h false e less = rw (one_more (decimal_in k (n / 10)) (48 + n % 10)) (omega (arith, less d (omega arith)))

few : (n : ℕ) → n ≤ 32768 → length (decimal_of n) ≤ 5
unfolding decimal_of
few n h = digits 4 (suc n) n (omega arith)

short : (v : ℤ) → mag v < 32768 → length (signed_of v) ≤ 6
unfolding signed_of
short (pos n) h = omega (arith, few n (omega arith))
short (negsuc n) h = omega (arith, few (suc n) (omega arith))

pub numbers_fit : NumbersFit
numbers_fit v h = omega (arith, short v h)

-- ---- bytes put one after the other

pub text_append : (u v : List ℕ) (q : Putting) → put_text (u ++ v) q ≡ put_text v (put_text u q)
unfolding put_text
text_append [] v q = refl
text_append (b ∷ u) v q = text_append u v (put_byte b q)

pub range_text : (bs : List ℕ) (from k : ℕ) (q : Putting) → from + k ≤ length bs → from + k ≤ most → put_range bs from k q ≡ put_text (take k (drop from bs)) q
unfolding put_range put_text
range_text bs from zero q h l = refl
range_text bs from (suc k) q h l =
    let room : k < length (drop from bs) = omega (arith, length-drop from bs) in
    rw (plain_sum from k (omega arith), take-suc (drop from bs) k 0 room, text_append (take k (drop from bs)) (get_or (drop from bs) k 0 ∷ []) q, get_or-drop from bs k 0)
    (ap (put_byte (get_or bs (from + k) 0)) (range_text bs from k q (omega arith) (omega arith)))

pub number_text : NumbersWhole
unfolding put_number
number_text v q h =
    let t : List ℕ = signed_of v in
    let few : length t ≤ 6 = short v h in
    let n : min (0 + length t) 8 - 0 ≡ length t = omega arith in
    let is : sets no_digits 0 t ≡ t ++ drop (length t) no_digits = sets-eq t no_digits 0 (omega arith) ∙ ap (λ (k : ℕ). t ++ drop k no_digits) (zero-add (length t)) in
    rw (n, is)
    (range_text (t ++ drop (length t) no_digits) 0 (length t) q (rw (length-append t (drop (length t) no_digits)) (omega arith)) (omega arith)
    ∙ ap (λ (l : List ℕ). put_text l q) (take-append_seam t (drop (length t) no_digits)))

pub kind_text_lem : (on before : Bool) (q : Putting) → put_kind on before q ≡ put_text (kind_text on before) q
unfolding put_kind kind_text pick
kind_text_lem true true q = range_text kinds 0 14 q (omega arith) (omega arith)
kind_text_lem true false q = range_text kinds 14 16 q (omega arith) (omega arith)
kind_text_lem false true q = range_text kinds 30 2 q (omega arith) (omega arith)
kind_text_lem false false q = range_text kinds 30 2 q (omega arith) (omega arith)

pub point_text_lem : PointsWhole
unfolding put_point point_text
point_text_lem x y on before q h k =
    kind_text_lem on before _
    ∙ ap (put_text (kind_text on before))
    (range_text closing 0 1 _ (omega arith) (omega arith)
    ∙ ap (put_text closing) (number_text y _ k ∙ ap (put_text (signed_of y)) (range_text between 0 5 _ (omega arith) (omega arith)
    ∙ ap (put_text between) (number_text x _ h ∙ ap (put_text (signed_of x)) (range_text opening 0 10 q (omega arith) (omega arith))))))
    ∙ simp text_append

pub contour_text_lem : ContoursWhole
unfolding put_to contour_text put_place put_text
contour_text_lem xs ys fs from to zero q sx sy h = refl
contour_text_lem xs ys fs from to (suc k) q sx sy h =
    rw (plain_sum from k (omega arith))
    (ap (put_point (get_or xs (from + k) (pos 0)) (get_or ys (from + k) (pos 0)) (is_on fs (from + k)) (is_on fs (pick (eqb (from + k) from) (to - 1) (from + k - 1)))) (contour_text_lem xs ys fs from to k q sx sy (omega arith))
    ∙ point_text_lem _ _ _ _ _ (sx (from + k)) (sy (from + k))
    ∙ sym (text_append (contour_text xs ys fs from to k) _ q))
