-- What the steps of reading give is what the definitions say. Assumes nothing.
use Rattle.std.proofs.Common.{ℕ, zero, suc, ◌+◌, ◌-◌, ◌*◌, ◌≤◌, ◌<◌, min, Bool, true, false, ◌&&◌, List, [], ◌∷◌, Option, Some, None, option_map, ◌≡◌, refl, ap, ◌∙◌, arith, add-one, le-leb, leb-true, leb-false, eq-eqb, ne_eqb, leb, pos, nat_abs, length, get_or, take, drop, drop_of_length-le, drop-cons}
use borrow.Author.Tests.{lt-leb}
use Rattle.std.proofs.Math.Dec.{leb-zero, leb-suc-suc}
use Rattle.std.proofs.Math.Seq.{take-length}
use Rattle.lines.specs.Line.{provided, is_digit, digits_on, natural_of, negative, only, is_coordinate, is_flag, number_of}
use Rattle.lines.specs.Steps.{size_of, below_zero, from_zero, flag_up_to}

-- ---- digits

-- what is more than 2^32 may be taken as that, whatever digits follow
on_from : (ds : List ℕ) (v w : ℕ) → min v 4294967296 ≡ min w 4294967296 → size_of (digits_on v ds) ≡ size_of (digits_on w ds)
unfolding digits_on size_of
on_from [] v w e = ap Some e
on_from (d ∷ ds) v w e = by (is_digit d) (on_from ds (v * 10 + (d - 48)) (w * 10 + (d - 48)) (omega arith))
  where
    by : (t : Bool) → size_of (digits_on (v * 10 + (d - 48)) ds) ≡ size_of (digits_on (w * 10 + (d - 48)) ds) → size_of (provided t (digits_on (v * 10 + (d - 48)) ds)) ≡ size_of (provided t (digits_on (w * 10 + (d - 48)) ds))
    by true later = later
    by false later = refl

module _ (ds : List ℕ) (i v : ℕ) where
  pub low : i < length ds → get_or ds i 0 < 48 → size_of (digits_on v (drop i ds)) ≡ None
  unfolding digits_on size_of
  low h l = rw (drop-cons ds i 0 h, lt-leb _ _ l)

  pub high : i < length ds → 57 < get_or ds i 0 → size_of (digits_on v (drop i ds)) ≡ None
  unfolding digits_on size_of
  high h l = rw (drop-cons ds i 0 h, le-leb 48 (get_or ds i 0) (omega arith), lt-leb _ _ l)

  pub digit : (w : ℕ) → i < length ds → 48 ≤ get_or ds i 0 → get_or ds i 0 ≤ 57 → w ≡ min (v * 10 + (get_or ds i 0 - 48)) 4294967296 →
      size_of (digits_on v (drop i ds)) ≡ size_of (digits_on w (drop (i + 1) ds))
  unfolding digits_on
  digit w h l m e = rw (drop-cons ds i 0 h, le-leb _ _ l, le-leb _ _ m, add-one) (on_from (drop (suc i) ds) (v * 10 + (get_or ds i 0 - 48)) w (omega arith))

  pub all : length ds ≤ i → size_of (digits_on v (drop i ds)) ≡ Some (min v 4294967296)
  unfolding digits_on size_of
  all h = rw (drop_of_length-le ds h)

pub some_digits : (ds : List ℕ) → (length ds ≡ 0 → ⊥) → natural_of ds ≡ digits_on 0 ds
unfolding natural_of
some_digits [] h = absurd (h refl)
some_digits (d ∷ ds) h = refl

pub no_digits_lem : (ds : List ℕ) → length ds ≡ 0 → natural_of ds ≡ None
unfolding natural_of
no_digits_lem [] h = refl
no_digits_lem (d ∷ ds) h = absurd (omega arith)

-- ---- whole numbers

pub cap_test : (v m : ℕ) → m < 4294967296 → leb (min v 4294967296) m ≡ leb v m
cap_test v m h = by (leb v m) refl
  where
    by : (t : Bool) → leb v m ≡ t → leb (min v 4294967296) m ≡ t
    by true e =
        let small = leb-true v m e in
        le-leb (min v 4294967296) m (omega arith)
    by false e =
        let large = leb-false v m e in
        lt-leb (min v 4294967296) m (omega arith)

pub uncapped : (v m : ℕ) → m < 4294967296 → leb v m ≡ true → min v 4294967296 ≡ v
uncapped v m h e =
    let small = leb-true v m e in
    omega arith

pub from_zero_lem : (o : Option ℕ) → from_zero (size_of o) ≡ only is_coordinate (option_map pos o)
unfolding from_zero size_of
from_zero_lem None = refl
from_zero_lem (Some v) = rw (cap_test v 32767 (omega arith)) (by (leb v 32767) refl)
  where
    by : (t : Bool) → leb v 32767 ≡ t → provided t (Some (pos (min v 4294967296))) ≡ provided t (Some (pos v))
    by true e = ap (λ (n : ℕ). Some (pos n)) (uncapped v 32767 (omega arith) e)
    by false e = refl

pub below_zero_lem : (o : Option ℕ) → below_zero (size_of o) ≡ only is_coordinate (option_map negative o)
unfolding below_zero size_of
below_zero_lem None = refl
below_zero_lem (Some zero) = refl
below_zero_lem (Some (suc n)) = rw (cap_test (suc n) 32768 (omega arith), leb-suc-suc n 32767) (by (leb n 32767) refl)
  where
    by : (t : Bool) → leb n 32767 ≡ t → provided t (Some (negative (min (suc n) 4294967296))) ≡ provided (t && true) (Some (negative (suc n)))
    by true e = ap (λ (k : ℕ). Some (negative k)) (uncapped (suc n) 32768 (omega arith) (leb-suc-suc n 32767 ∙ e))
    by false e = refl

pub flag_from_zero : (o : Option ℕ) → flag_up_to 255 (size_of o) ≡ option_map nat_abs (only is_flag (option_map pos o))
unfolding flag_up_to size_of
flag_from_zero None = refl
flag_from_zero (Some v) = rw (cap_test v 255 (omega arith), leb-zero v) (by (leb v 255) refl)
  where
    by : (t : Bool) → leb v 255 ≡ t → provided t (Some (min v 4294967296)) ≡ option_map nat_abs (provided t (Some (pos v)))
    by true e = ap Some (uncapped v 255 (omega arith) e)
    by false e = refl

pub flag_below_zero : (o : Option ℕ) → flag_up_to 0 (size_of o) ≡ option_map nat_abs (only is_flag (option_map negative o))
unfolding flag_up_to size_of
flag_below_zero None = refl
flag_below_zero (Some zero) = refl
flag_below_zero (Some (suc n)) = rw (cap_test (suc n) 0 (omega arith), lt-leb (suc n) 0 (omega arith))

-- ---- the sign

pub empty : (word : List ℕ) → length word ≡ 0 → number_of word ≡ None
unfolding number_of
empty [] h = refl
empty (b ∷ bs) h = absurd (omega arith)

pub minus : (word : List ℕ) → (length word ≡ 0 → ⊥) → get_or word 0 0 ≡ 45 → number_of word ≡ option_map negative (natural_of (take (length word - 1) (drop 1 word)))
unfolding number_of
minus [] h e = absurd (h refl)
minus (b ∷ bs) h e =
    let rest : suc (length bs) - 1 ≡ length bs = omega arith in
    rw (eq-eqb b 45 e, rest, take-length bs)

pub plain : (word : List ℕ) → (length word ≡ 0 → ⊥) → (get_or word 0 0 ≡ 45 → ⊥) → number_of word ≡ option_map pos (natural_of word)
unfolding number_of
plain [] h e = absurd (h refl)
plain (b ∷ bs) h e = rw (ne_eqb b 45 e)
