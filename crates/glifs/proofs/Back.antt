-- What is written of a coordinate and of a type is read back as that. Assumes nothing.
use Prim.Native.Nat.{ℕ, zero, suc, ◌+◌, ◌-◌, ◌*◌, ◌/◌, ◌%◌, ◌<◌}
use native.Mathlib.Omega.{arith}
use mathlib.Core.Bool.{Bool, true, false}
use mathlib.Core.List.{List, [], ◌∷◌, ◌++◌}
use mathlib.Core.Path.{◌≡◌, refl, sym, ap, subst, ◌∙◌}
use borrow.Author.Tests.{lt-ltb, le-ltb, le-leb, ne_eqb, ltb-true, ltb-false}
use lib.Dec.{ltb}
use lib.IntN.{ℤ, pos, negsuc}
use lib.Signed.{mag}
use Rattle.lines.specs.Text.{last_after, decimal_in, decimal_of}
use Rattle.lines.specs.Text as Text
use Rattle.gliftext.specs.Pick.{pick, sum}
use Rattle.gliftext.specs.Words.{pushed, digit_of, grown, no_number, before_point, after_digit, fed_number}
use Rattle.gliftext.specs.declared.word.Progress.{Progress}
use Rattle.gliftext.specs.declared.word.Progress.TheVariants.{Nothing, Sign, Whole}
use Rattle.gliftext.specs.declared.word.Number.{Number}
use Rattle.glif.specs.Outline.{is_number, is_far, offset_of}
use Rattle.gliftext.proofs.Picks.{plain_sum}
use Rattle.glifread.specs.Enter.{signed_of}
use Rattle.glifread.specs.Middles.{counted}
use Rattle.glifs.specs.Back.{number_in, word_in, Enters, CoordinateReadsBack, TypesReadBack}

-- ---- digits

-- no point stands before, and a digit makes it whole digits
record Unsplit (state : Progress) : Type 0 where
  unsplit : before_point state ≡ true
  whole : after_digit state ≡ Whole

-- what is known of a whole number so far
abbrev so : Bool → Progress → ℕ → Number
so minus state size = record { state = state; size = size; minus = minus; part = false }

digit : (minus : Bool) (state : Progress) (n d : ℕ) → Unsplit state → n < 1114112 → d < 10 → fed_number (so minus state n) (48 + d) ≡ so minus Whole (n * 10 + d)
unfolding fed_number grown digit_of pick
digit true state n d s h l =
    let back : 48 + d - 48 ≡ d = omega arith in
    rw (lt-ltb 47 (48 + d) (omega arith), lt-ltb (48 + d) 58 (omega arith), s.unsplit, s.whole, lt-ltb n 1114112 h, back) refl
digit false state n d s h l =
    let back : 48 + d - 48 ≡ d = omega arith in
    rw (lt-ltb 47 (48 + d) (omega arith), lt-ltb (48 + d) 58 (omega arith), s.unsplit, s.whole, lt-ltb n 1114112 h, back, ne_eqb (48 + d) 45 (λ e. omega (arith, e))) refl

one_more : (ds : List ℕ) (b : ℕ) (n : Number) → number_in (ds ++ (b ∷ [])) n ≡ fed_number (number_in ds n) b
unfolding number_in
one_more [] b n = refl
one_more (a ∷ ds) b n = one_more ds b (fed_number n a)

one : (b : ℕ) (n : Number) → number_in (b ∷ []) n ≡ fed_number n b
unfolding number_in
one b n = refl

in_steps_lem : (minus : Bool) (state : Progress) (k n : ℕ) → Unsplit state → n < k → n < 1114112 → number_in (decimal_in k n) (so minus state 0) ≡ so minus Whole n
unfolding decimal_in number_in
in_steps_lem minus state zero n s h l = absurd (omega arith)
in_steps_lem minus state (suc k) n s h l = by (ltb n 10) refl (λ m. in_steps_lem minus state k (n / 10) s m (omega arith))
  where
    by : (t : Bool) → ltb n 10 ≡ t → (n / 10 < k → number_in (decimal_in k (n / 10)) (so minus state 0) ≡ so minus Whole (n / 10)) →
        number_in (last_after t n (decimal_in k (n / 10))) (so minus state 0) ≡ so minus Whole n
    by true e front =
        let back : 0 * 10 + n ≡ n = omega arith in
        one (48 + n) (so minus state 0) ∙ digit minus state 0 n s (omega arith) (ltb-true n 10 e) ∙ ap (so minus Whole) back
    by false e front =
        let high = ltb-false n 10 e in
        let back : n / 10 * 10 + n % 10 ≡ n = omega arith in
        one_more (decimal_in k (n / 10)) (48 + n % 10) (so minus state 0)
        ∙ ap (λ (v : Number). fed_number v (48 + n % 10)) (front (omega arith))
        ∙ digit minus Whole (n / 10) (n % 10) (record { unsplit = refl; whole = refl }) (omega arith) (omega arith)
        ∙ ap (so minus Whole) back

-- ---- coordinates

above : (n : ℕ) → n < 32768 → Enters (pos n) (so false Whole n)
unfolding is_number is_far offset_of signed_of pick sum
above n h =
    let none : 32768 - (32768 + n) ≡ 0 = omega arith in
    let back : 32768 + n - 32768 ≡ n = omega arith in
    record {
      number = refl;
      whole = refl;
      near = le-ltb 32767 n (omega arith);
      same = rw (le-leb 32768 (18446744073709551615 - n) (omega arith), none, back, lt-ltb n 32768 h) refl;
    }

below : (n : ℕ) → n < 32768 → Enters (negsuc n) (so true Whole (suc n))
unfolding is_number is_far offset_of signed_of pick
below n h =
    let back : 32768 - (32768 - suc n) ≡ suc n = omega arith in
    record { number = refl; whole = refl; near = le-ltb 32768 (suc n) (omega arith); same = rw (back, lt-ltb 0 (suc n) (omega arith)) refl }

sign : fed_number no_number 45 ≡ so true Sign 0
unfolding fed_number pick
sign = refl

signed_text : (n : ℕ) → n < 32768 → number_in (45 ∷ decimal_of (suc n)) no_number ≡ so true Whole (suc n)
unfolding number_in decimal_of
signed_text n h =
    ap (number_in (decimal_in (suc (suc n)) (suc n))) sign ∙ in_steps_lem true Sign (suc (suc n)) (suc n) (record { unsplit = refl; whole = refl }) (omega arith) (omega arith)

text : (n : ℕ) → n < 32768 → number_in (decimal_of n) no_number ≡ so false Whole n
unfolding decimal_of
text n h = in_steps_lem false Nothing (suc n) n (record { unsplit = refl; whole = refl }) (omega arith) (omega arith)

pub coordinate_reads_back : CoordinateReadsBack
unfolding Text.signed_of
coordinate_reads_back (pos n) h = subst (Enters (pos n)) (sym (text n h)) (above n h)
coordinate_reads_back (negsuc n) h = subst (Enters (negsuc n)) (sym (signed_text n h)) (below n h)

pub types_read_back : TypesReadBack
unfolding word_in pushed pick
types_read_back = (refl, refl)

-- in the scratch row it is counted from -32768
pub coordinate_counted : (v : ℤ) → mag v < 32768 → offset_of (number_in (Text.signed_of v) no_number) ≡ counted v
unfolding Text.signed_of offset_of pick
coordinate_counted (pos n) h = rw (text n h) (plain_sum 32768 n (omega arith))
coordinate_counted (negsuc n) h = rw (signed_text n h) (omega arith)
