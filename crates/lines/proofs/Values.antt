-- Worked values of the definitions, by computation. Assumes nothing.
use Rattle.std.proofs.Common.{[], ◌∷◌, Some, None, ◌≡◌, refl, ℕ, ℤ, pos, negsuc, true}
use Rattle.std.specs.Float.{binary64, nan, inf}
use Rattle.std.specs.Float.Ieee.{of_bits, to_bits}
use Rattle.lines.specs.Line.{split, digits_on, natural_of, number_of, coordinate_of, flag_of, Point, points_of, parsed_of}
use Rattle.lines.specs.Text.{decimal_in, decimal_of, signed_of, hex_from, bits_of, hex_of}
use Rattle.lines.specs.Stream.{ended_by, all_but_empty_last, lines_of}

abbrev at : ℤ → ℤ → ℕ → Point
at a b c = record { x = a; y = b; flag = c }

-- `-32768 32767 255`
one : parsed_of (45 ∷ 51 ∷ 50 ∷ 55 ∷ 54 ∷ 56 ∷ 32 ∷ 51 ∷ 50 ∷ 55 ∷ 54 ∷ 55 ∷ 32 ∷ 50 ∷ 53 ∷ 53 ∷ []) ≡ Some (at (negsuc 32767) (pos 32767) 255 ∷ [])
unfolding parsed_of split points_of coordinate_of flag_of number_of natural_of digits_on
one = refl

-- `1 -2 1 3 4 0`
two : parsed_of (49 ∷ 32 ∷ 45 ∷ 50 ∷ 32 ∷ 49 ∷ 32 ∷ 51 ∷ 32 ∷ 52 ∷ 32 ∷ 48 ∷ []) ≡ Some (at (pos 1) (negsuc 1) 1 ∷ at (pos 3) (pos 4) 0 ∷ [])
unfolding parsed_of split points_of coordinate_of flag_of number_of natural_of digits_on
two = refl

-- `007 -0 -0`
zeros : parsed_of (48 ∷ 48 ∷ 55 ∷ 32 ∷ 45 ∷ 48 ∷ 32 ∷ 45 ∷ 48 ∷ []) ≡ Some (at (pos 7) (pos 0) 0 ∷ [])
unfolding parsed_of split points_of coordinate_of flag_of number_of natural_of digits_on
zeros = refl

-- ``
no_word : parsed_of ([]) ≡ Some []
unfolding parsed_of split points_of coordinate_of flag_of number_of natural_of digits_on
no_word = refl

-- `32768 0 1`
x_too_high : parsed_of (51 ∷ 50 ∷ 55 ∷ 54 ∷ 56 ∷ 32 ∷ 48 ∷ 32 ∷ 49 ∷ []) ≡ None
unfolding parsed_of split points_of coordinate_of flag_of number_of natural_of digits_on
x_too_high = refl

-- `0 -32769 1`
y_too_low : parsed_of (48 ∷ 32 ∷ 45 ∷ 51 ∷ 50 ∷ 55 ∷ 54 ∷ 57 ∷ 32 ∷ 49 ∷ []) ≡ None
unfolding parsed_of split points_of coordinate_of flag_of number_of natural_of digits_on
y_too_low = refl

-- `0 0 256`
flag_too_high : parsed_of (48 ∷ 32 ∷ 48 ∷ 32 ∷ 50 ∷ 53 ∷ 54 ∷ []) ≡ None
unfolding parsed_of split points_of coordinate_of flag_of number_of natural_of digits_on
flag_too_high = refl

-- `0 0 -1`
flag_below : parsed_of (48 ∷ 32 ∷ 48 ∷ 32 ∷ 45 ∷ 49 ∷ []) ≡ None
unfolding parsed_of split points_of coordinate_of flag_of number_of natural_of digits_on
flag_below = refl

-- `1  2 1`
two_blanks : parsed_of (49 ∷ 32 ∷ 32 ∷ 50 ∷ 32 ∷ 49 ∷ []) ≡ None
unfolding parsed_of split points_of coordinate_of flag_of number_of natural_of digits_on
two_blanks = refl

-- ` 1 2 1`
blank_first : parsed_of (32 ∷ 49 ∷ 32 ∷ 50 ∷ 32 ∷ 49 ∷ []) ≡ None
unfolding parsed_of split points_of coordinate_of flag_of number_of natural_of digits_on
blank_first = refl

-- `1 2 1 `
blank_last : parsed_of (49 ∷ 32 ∷ 50 ∷ 32 ∷ 49 ∷ 32 ∷ []) ≡ None
unfolding parsed_of split points_of coordinate_of flag_of number_of natural_of digits_on
blank_last = refl

-- `1 2 1 5`
one_over : parsed_of (49 ∷ 32 ∷ 50 ∷ 32 ∷ 49 ∷ 32 ∷ 53 ∷ []) ≡ None
unfolding parsed_of split points_of coordinate_of flag_of number_of natural_of digits_on
one_over = refl

-- `1 2 1 5 6`
two_over : parsed_of (49 ∷ 32 ∷ 50 ∷ 32 ∷ 49 ∷ 32 ∷ 53 ∷ 32 ∷ 54 ∷ []) ≡ None
unfolding parsed_of split points_of coordinate_of flag_of number_of natural_of digits_on
two_over = refl

-- `+1 2 1`
plus : parsed_of (43 ∷ 49 ∷ 32 ∷ 50 ∷ 32 ∷ 49 ∷ []) ≡ None
unfolding parsed_of split points_of coordinate_of flag_of number_of natural_of digits_on
plus = refl

-- `- 2 1`
sign_alone : parsed_of (45 ∷ 32 ∷ 50 ∷ 32 ∷ 49 ∷ []) ≡ None
unfolding parsed_of split points_of coordinate_of flag_of number_of natural_of digits_on
sign_alone = refl

-- `1 2 1\r`
carriage_return : parsed_of (49 ∷ 32 ∷ 50 ∷ 32 ∷ 49 ∷ 13 ∷ []) ≡ None
unfolding parsed_of split points_of coordinate_of flag_of number_of natural_of digits_on
carriage_return = refl

-- `99999999999999999999 0 1`
long_number : parsed_of (57 ∷ 57 ∷ 57 ∷ 57 ∷ 57 ∷ 57 ∷ 57 ∷ 57 ∷ 57 ∷ 57 ∷ 57 ∷ 57 ∷ 57 ∷ 57 ∷ 57 ∷ 57 ∷ 57 ∷ 57 ∷ 57 ∷ 57 ∷ 32 ∷ 48 ∷ 32 ∷ 49 ∷ []) ≡ None
unfolding parsed_of split points_of coordinate_of flag_of number_of natural_of digits_on
long_number = refl

-- `a`, an empty line, `b` with no line end
lines : lines_of (97 ∷ 10 ∷ 10 ∷ 98 ∷ []) ≡ (97 ∷ []) ∷ [] ∷ (98 ∷ []) ∷ []
unfolding ended_by all_but_empty_last split
lines = refl

no_line : lines_of [] ≡ []
unfolding ended_by all_but_empty_last split
no_line = refl

nought : decimal_of 0 ≡ 48 ∷ []
unfolding decimal_of decimal_in
nought = refl

three_digits : decimal_of 307 ≡ 51 ∷ 48 ∷ 55 ∷ []
unfolding decimal_of decimal_in
three_digits = refl

minus_ten : signed_of (negsuc 9) ≡ 45 ∷ 49 ∷ 48 ∷ []
unfolding signed_of decimal_of decimal_in
minus_ten = refl

no_number : hex_of nan ≡ 55 ∷ 102 ∷ 102 ∷ 56 ∷ 48 ∷ 48 ∷ 48 ∷ 48 ∷ 48 ∷ 48 ∷ 48 ∷ 48 ∷ 48 ∷ 48 ∷ 48 ∷ 48 ∷ []
unfolding hex_of bits_of hex_from
no_number = refl

minus_infinity : hex_of (inf true) ≡ 102 ∷ 102 ∷ 102 ∷ 48 ∷ 48 ∷ 48 ∷ 48 ∷ 48 ∷ 48 ∷ 48 ∷ 48 ∷ 48 ∷ 48 ∷ 48 ∷ 48 ∷ 48 ∷ []
unfolding hex_of bits_of hex_from to_bits
minus_infinity = refl

one_half : hex_of (of_bits binary64 0x3fe0_0000_0000_0000) ≡ 51 ∷ 102 ∷ 101 ∷ 48 ∷ 48 ∷ 48 ∷ 48 ∷ 48 ∷ 48 ∷ 48 ∷ 48 ∷ 48 ∷ 48 ∷ 48 ∷ 48 ∷ 48 ∷ []
unfolding hex_of bits_of hex_from to_bits of_bits
one_half = refl
