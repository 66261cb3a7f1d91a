-- Theorems on the definitions, of the types of specs/Statements: numbers are read back from their text, a line cut past its bound stays malformed, the
-- lines of a stream do not depend on where its chunks end, what the rows hold after a line, and what a buffer holds after a text. Assumes nothing.
use Rattle.std.proofs.Common.{ℕ, zero, suc, ◌+◌, ◌-◌, ◌*◌, ◌/◌, ◌%◌, ◌<◌, min, Bool, true, false, List, [], ◌∷◌, ◌++◌, Option, Some, None, option_map, ◌≡◌, refl, ap, ◌∙◌, arith, eqb-true, le-leb, leb-true, leb-false, ltb-true, ltb-false, eqb, leb, ltb, pos, negsuc, length, take, drop, set, length-take, length-append, take_all}
use borrow.Author.Tests.{lt-leb}
use Rattle.std.proofs.Math.Seq.{sets, sets-eq, take-nil}
use Rattle.lines.specs.Line.{before, split, until, up_to, provided, is_digit, digits_on, natural_of, negative, signed, number_of, contour_of, parsed_of}
use Rattle.lines.specs.Text.{Put, last_after, decimal_in, decimal_of, signed_of}
use Rattle.lines.specs.Statements.{DecimalReadBack, NumberReadBack, CutSaysTheSame, on_first, LineGoesOn, FirstPlacesHold, TextIsWhole}
use Rattle.lines.proofs.Texts.{sets_out}
use Rattle.lines.proofs.Reading.{some_digits}

-- ---- a number is read back from its text

is_digit_lem : (d : ℕ) → d < 10 → is_digit (48 + d) ≡ true
is_digit_lem d h = rw (le-leb 48 (48 + d) (omega arith), le-leb (48 + d) 57 (omega arith))

one_more : (ds : List ℕ) (v w d : ℕ) → d < 10 → digits_on v ds ≡ Some w → digits_on v (ds ++ ((48 + d) ∷ [])) ≡ Some (w * 10 + d)
unfolding digits_on
one_more [] v w d h e =
    let same : v ≡ w = cc in
    let back : v * 10 + (48 + d - 48) ≡ w * 10 + d = omega arith in
    rw (is_digit_lem d h) (ap Some back)
one_more (b ∷ ds) v w d h e = by (is_digit b) (λ l. one_more ds (v * 10 + (b - 48)) w d h l) e
  where
    by : (t : Bool) → (digits_on (v * 10 + (b - 48)) ds ≡ Some w → digits_on (v * 10 + (b - 48)) (ds ++ ((48 + d) ∷ [])) ≡ Some (w * 10 + d)) →
        provided t (digits_on (v * 10 + (b - 48)) ds) ≡ Some w → provided t (digits_on (v * 10 + (b - 48)) (ds ++ ((48 + d) ∷ []))) ≡ Some (w * 10 + d)
    by true later e = later e
    by false later e = cc

in_steps_lem : (k n : ℕ) → n < k → digits_on 0 (decimal_in k n) ≡ Some n
unfolding decimal_in digits_on
in_steps_lem zero n h = absurd (omega arith)
in_steps_lem (suc k) n h = by (ltb n 10) refl (λ l. in_steps_lem k (n / 10) l)
  where
    by : (t : Bool) → ltb n 10 ≡ t → (n / 10 < k → digits_on 0 (decimal_in k (n / 10)) ≡ Some (n / 10)) → digits_on 0 (last_after t n (decimal_in k (n / 10))) ≡ Some n
    by true e front =
        let low = ltb-true n 10 e in
        let back : 0 * 10 + (48 + n - 48) ≡ n = omega arith in
        rw (is_digit_lem n low) (ap Some back)
    by false e front =
        let high = ltb-false n 10 e in
        let back : n / 10 * 10 + n % 10 ≡ n = omega arith in
        one_more (decimal_in k (n / 10)) 0 (n / 10) (n % 10) (omega arith) (front (omega arith)) ∙ ap Some back

some_text : (k n : ℕ) → n < k → length (decimal_in k n) ≡ 0 → ⊥
unfolding decimal_in
some_text zero n h e = absurd (omega arith)
some_text (suc k) n h e = by (ltb n 10) e
  where
    by : (t : Bool) → length (last_after t n (decimal_in k (n / 10))) ≡ 0 → ⊥
    by true e = omega arith
    by false e = omega (arith, simp length-append at e)

pub decimal_back : DecimalReadBack
unfolding decimal_of
decimal_back n = some_digits (decimal_in (suc n) n) (some_text (suc n) n (omega arith)) ∙ in_steps_lem (suc n) n (omega arith)

-- a word of digits has no sign
unsigned : (word : List ℕ) (n : ℕ) → natural_of word ≡ Some n → number_of word ≡ Some (pos n)
unfolding natural_of number_of digits_on
unsigned [] n e = cc
unsigned (b ∷ bs) n e = by (eqb b 45) refl
  where
    by : (t : Bool) → eqb b 45 ≡ t → signed t b bs ≡ Some (pos n)
    by true h =
        let minus = eqb-true b 45 h in
        let no : ◌≡◌ {A = Option ℕ} None (Some n) = rw minus at e in
        cc
    by false h = ap (option_map pos) e

minus : (ds : List ℕ) (n : ℕ) → natural_of ds ≡ Some (suc n) → number_of (45 ∷ ds) ≡ Some (negsuc n)
unfolding number_of
minus ds n e = ap (option_map negative) e

pub signed_back : NumberReadBack
unfolding signed_of
signed_back (pos n) = unsigned (decimal_of n) n (decimal_back n)
signed_back (negsuc n) = minus (decimal_of (suc n)) n (decimal_back (suc n))

-- ---- a line that was cut where the buffer ended

pub cut : CutSaysTheSame
unfolding parsed_of
cut line = by (leb (length line) 65536) refl
  where
    by : (t : Bool) → leb (length line) 65536 ≡ t → provided (leb (length (take 65537 line)) 65536) (contour_of (take 65537 line)) ≡ provided t (contour_of line)
    by true h =
        let short = leb-true (length line) 65536 h in
        rw (take_all 65537 line (omega arith), h)
    by false h =
        let long = leb-false (length line) 65536 h in
        rw (length-take, lt-leb (min 65537 (length line)) 65536 (omega arith))

-- ---- chunks

pub carried : LineGoesOn
unfolding split up_to
carried stop [] bytes h = empty (split stop bytes)
  where
    empty : (parts : List (List ℕ)) → parts ≡ on_first [] parts
    empty [] = refl
    empty (p ∷ parts) = refl
carried stop (b ∷ line) bytes h = by (eqb b stop) h (λ l. carried stop line bytes l)
  where
    one : (parts : List (List ℕ)) → before false b (on_first line parts) ≡ on_first (b ∷ line) parts
    one [] = refl
    one (p ∷ parts) = refl

    by : (t : Bool) → until t b (up_to stop line) ≡ b ∷ line → (up_to stop line ≡ line → split stop (line ++ bytes) ≡ on_first line (split stop bytes)) →
        before t b (split stop (line ++ bytes)) ≡ on_first (b ∷ line) (split stop bytes)
    by true e later = let z : ◌≡◌ {A = ℕ} 0 (suc (length line)) = ap length e in absurd (omega arith)
    by false e later =
        let same : up_to stop line ≡ line = cc in
        rw (later same) (one (split stop bytes))

-- ---- rows

pub past_first : {A : Type 0} (vs : List A) (a : A) (row : List A) (i : ℕ) → sets (a ∷ row) (suc i) vs ≡ a ∷ sets row i vs
past_first [] a row i = refl
past_first (v ∷ vs) a row i = past_first vs a (set row i v) (suc i)

pub rows : {A : Type 0} → FirstPlacesHold A
rows {A} row [] = rw (take-nil {A = A} (length row))
rows [] (v ∷ vs) = sets_out vs [] 1 (omega arith)
rows {A} (a ∷ row) (v ∷ vs) = past_first vs v row 0 ∙ ap (λ (l : List A). v ∷ l) (rows row vs)

-- ---- texts

pub text_whole : TextIsWhole
text_whole out text out' at r p h =
    let next = p.next in
    (p.held ∙ sets-eq text out at (omega arith), omega arith)

-- the same, where the text is known
pub whole : {out text out' : List ℕ} {at r : ℕ} → Put out at text out' r → r < length out → (out' ≡ take at out ++ text ++ drop (at + length text) out) × (r ≡ at + length text)
whole p h = text_whole _ _ _ _ _ p h
