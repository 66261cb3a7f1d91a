-- Words of at most eight bytes as one number; numbers in attributes; the characters that references stand for. Definitions only.
use Rattle.std.specs.Prelude.{ℕ, ◌+◌, ◌-◌, ◌*◌, Bool, true, false, not, eqb, ltb}
use Rattle.gliftext.specs.Pick.{pick, both, either}
use Rattle.gliftext.specs.declared.word.Number.{Number}
use Rattle.gliftext.specs.declared.word.Progress.{Progress}
use Rattle.gliftext.specs.declared.word.Progress.TheVariants.{Nothing, Sign, Whole, Dot, Part, Broken}

-- the bytes of a word are digits to the base 256; a longer word is none that is looked for
unfoldable pub pushed : ℕ → ℕ → ℕ
pushed word b = pick (ltb word 72057594037927936) (word * 256 + b) 18446744073709551615

-- the value of 0 to 9, A to F, a to f
unfoldable pub digit_of : ℕ → ℕ
digit_of b = pick (ltb b 58) (b - 48) (pick (ltb b 71) (b - 55) (b - 87))

-- a number past every character and every coordinate is let stand
unfoldable pub grown : ℕ → ℕ → ℕ → ℕ
grown base n b = pick (ltb n 1114112) (n * base + digit_of b) n

-- ---- a number: an optional sign, digits, and perhaps a point and digits

abbrev pub no_number : Number
no_number = record { state = Nothing; size = 0; minus = false; part = false }

-- no point stands before
abbrev pub before_point : Progress → Bool
before_point Nothing = true
before_point Sign = true
before_point Whole = true
before_point _ = false

-- whole digits, digits after the point, or no number
abbrev pub after_digit : Progress → Progress
after_digit Dot = Part
after_digit Part = Part
after_digit Broken = Broken
after_digit _ = Whole

abbrev pub after_sign : Progress → Progress
after_sign Nothing = Sign
after_sign _ = Broken

abbrev pub after_point : Progress → Progress
after_point Whole = Dot
after_point _ = Broken

-- a number ends there
abbrev pub digit_last : Progress → Bool
digit_last Whole = true
digit_last Part = true
digit_last _ = false

abbrev pub state_fed : Progress → Bool → Bool → Bool → Progress
state_fed state digit sign point =
    pick digit (after_digit state) (pick sign (after_sign state) (pick point (after_point state) Broken))

unfoldable pub fed_number : Number → ℕ → Number
fed_number n b =
    record {
      state = state_fed n.state (both (ltb 47 b) (ltb b 58)) (either (eqb b 43) (eqb b 45)) (eqb b 46);
      size = pick (both (both (ltb 47 b) (ltb b 58)) (before_point n.state)) (grown 10 n.size b) n.size;
      minus = either n.minus (eqb b 45);
      part = either n.part (both (both (both (ltb 47 b) (ltb b 58)) (not (before_point n.state))) (ltb 48 b));
    }

-- ---- references

-- lt, gt, amp, apos, quot; 0 where it is no such name
unfoldable pub named_char : ℕ → ℕ
named_char word =
    pick (eqb word 27764) 60
    (pick (eqb word 26484) 62
    (pick (eqb word 6385008) 38
    (pick (eqb word 1634758515) 39 (pick (eqb word 1903521652) 34 0))))

-- XML's Char: tab, line feed, carriage return, 0x20 to 0xD7FF, 0xE000 to 0xFFFD, 0x10000 to 0x10FFFF
unfoldable pub is_char : ℕ → Bool
is_char n =
    either (either (eqb n 9) (either (eqb n 10) (eqb n 13)))
    (either (both (ltb 31 n) (ltb n 55296))
    (either (both (ltb 57343 n) (ltb n 65534)) (both (ltb 65535 n) (ltb n 1114112))))

-- a character as a byte; 255, which stands in no text, for those that are none
unfoldable pub narrowed : ℕ → ℕ
narrowed n = pick (ltb n 256) n 255
