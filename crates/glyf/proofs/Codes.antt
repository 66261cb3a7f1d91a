-- Words, differences and flags that are coded and read back. Assumes nothing.
use Prim.Native.Nat.{ℕ, suc, ◌+◌, ◌-◌, ◌*◌, ◌/◌, ◌%◌, ◌≤◌}
use mathlib.Core.Bool.{Bool, true, false, ◌&&◌}
use mathlib.Core.List.{List, [], ◌∷◌, ◌++◌, map}
use mathlib.Core.Path.{◌≡◌, refl}
use native.Mathlib.Nat.{div-add-mod'}
use native.Mathlib.Omega.{arith}
use borrow.Author.Tests.{lt-ltb, le-ltb, leb-true, eqb-true}
use lib.Dec.{eqb, leb, leb-zero}
use lib.IntN.{ℤ, pos, negsuc}
use lib.Signed.{le_z}
use lib.ListN.{length}
use Rattle.glyf.specs.Layout.{taken, byte, word, several, signed, unsigned, in16, word_bytes, joined, bit, is_on}
use Rattle.glyf.specs.Layout.{Size, still, small, large, size_if, size_of, bits_by, bits_of, code_by, code_of, difference_by}

-- ---- words and bytes

pub words_back : (es rest : List ℕ) → several word (length es) (joined (map word_bytes es) ++ rest) ≡ taken es rest
unfolding several joined
words_back [] rest = refl
words_back (e ∷ es) rest = rw (div-add-mod' e 256, words_back es rest)

pub bytes_back : (is rest : List ℕ) → several byte (length is) (is ++ rest) ≡ taken is rest
unfolding several
bytes_back [] rest = refl
bytes_back (b ∷ is) rest = rw (bytes_back is rest)

pub and_left : (a b : Bool) → (a && b) ≡ true → a ≡ true
and_left true b e = refl
and_left false b e = e

pub and_right : (a b : Bool) → (a && b) ≡ true → b ≡ true
and_right true b e = e
and_right false b e = absurd (let z : ◌≡◌ {A = ℕ} 0 1 = cc in omega arith)

pub sign_back : (z : ℤ) → in16 z ≡ true → signed (unsigned z) ≡ z
sign_back (pos n) h =
    let few = leb-true n 32767 h in
    rw (lt-ltb n 32768 (omega arith))
sign_back (negsuc n) h =
    let few = leb-true n 32767 (and_left (leb n 32767) true h) in
    let e : 65536 - (65535 - n) ≡ suc n = omega arith in
    rw (le-ltb (65535 - n) 32768 (omega arith), e)

-- ---- differences

-- the two bits of a difference
abbrev pub short_by : Size → Bool
short_by still = false
short_by small = true
short_by large = false

abbrev pub same_by : Size → Bool → Bool
same_by still up = true
same_by small up = up
same_by large up = false

abbrev pub short_of : ℤ → Bool
short_of d = short_by (size_of d)

abbrev pub same_of : ℤ → Bool
same_of d = same_by (size_of d) (le_z (pos 0) d)

pub difference_back : (d : ℤ) (rest : List ℕ) → in16 d ≡ true → difference_by (short_of d) (same_of d) (code_of d ++ rest) ≡ taken d rest
unfolding code_of
difference_back (pos n) rest h = by (eqb n 0) refl (leb n 255)
  where
    by : (b : Bool) → eqb n 0 ≡ b → (c : Bool) →
        difference_by (short_by (size_if b c)) (same_by (size_if b c) (leb 0 n)) (code_by (size_if b c) (pos n) ++ rest) ≡ taken (pos n) rest
    by true e c = rw (eqb-true n 0 e)
    by false e true = rw (leb-zero n)
    by false e false = rw (div-add-mod' n 256, sign_back (pos n) h)
difference_back (negsuc n) rest h = by (eqb (suc n) 0) refl (leb (suc n) 255)
  where
    by : (b : Bool) → eqb (suc n) 0 ≡ b → (c : Bool) →
        difference_by (short_by (size_if b c)) (same_by (size_if b c) false) (code_by (size_if b c) (negsuc n) ++ rest) ≡ taken (negsuc n) rest
    by true e c = absurd (omega (arith, eqb-true (suc n) 0 e))
    by false e true = refl
    by false e false = rw (div-add-mod' (65535 - n) 256, sign_back (negsuc n) h)

-- ---- flags

abbrev pub ind : Bool → ℕ
ind true = 1
ind false = 0

ind_small : (b : Bool) → ind b ≤ 1
ind_small true = omega arith
ind_small false = omega arith

ind_back : (b : Bool) (n : ℕ) → n ≡ ind b → eqb n 1 ≡ b
ind_back true n e = rw e
ind_back false n e = rw e

bits_are : (short same : ℕ) (d : ℤ) → bits_of short same d ≡ short * ind (short_of d) + same * ind (same_of d)
unfolding bits_of
bits_are short same d = by (size_of d) (le_z (pos 0) d)
  where
    by : (s : Size) (up : Bool) → bits_by s up short same ≡ short * ind (short_by s) + same * ind (same_by s up)
    by still up = omega arith
    by small true = omega arith
    by small false = omega arith
    by large up = omega arith

-- a flag with or without the repeat bit says the same of its point
pub record Says (f o : ℕ) (dx dy : ℤ) : Type 0 where
  pub short_x : bit 2 f ≡ short_of dx
  pub same_x : bit 16 f ≡ same_of dx
  pub short_y : bit 4 f ≡ short_of dy
  pub same_y : bit 32 f ≡ same_of dy
  pub on : is_on f ≡ is_on o

-- five bits and the repeat bit, apart again
module _ (n s m t u r : ℕ) (hn : n ≤ 1) (hs : s ≤ 1) (hm : m ≤ 1) (ht : t ≤ 1) (hu : u ≤ 1) (hr : r ≤ 1) where
  abbrev spelt : ℕ
  spelt = n + ((2 * s + 16 * m) + (4 * t + 32 * u)) + 8 * r

  bit_one : spelt % 2 ≡ n
  bit_one = omega arith

  bit_two : spelt / 2 % 2 ≡ s
  bit_two = omega arith

  bit_four : spelt / 4 % 2 ≡ t
  bit_four = omega arith

  bit_eight : spelt / 8 % 2 ≡ r
  bit_eight = omega arith

  bit_sixteen : spelt / 16 % 2 ≡ m
  bit_sixteen = omega arith

  bit_thirty_two : spelt / 32 % 2 ≡ u
  bit_thirty_two = omega arith

module _ (o : ℕ) (dx dy : ℤ) where
  abbrev coded : ℕ
  coded = is_on o + (bits_of 2 16 dx + bits_of 4 32 dy)

  bits_apart : coded ≡ is_on o + ((2 * ind (short_of dx) + 16 * ind (same_of dx)) + (4 * ind (short_of dy) + 32 * ind (same_of dy)))
  bits_apart = rw (bits_are 2 16 dx, bits_are 4 32 dy)

  -- a law of the bits apart, at this flag
  abbrev at_this : {X : (n s m t u r : ℕ) → Type 0} →
      ((n s m t u r : ℕ) → n ≤ 1 → s ≤ 1 → m ≤ 1 → t ≤ 1 → u ≤ 1 → r ≤ 1 → X n s m t u r) → (r : ℕ) → r ≤ 1 →
      X (is_on o) (ind (short_of dx)) (ind (same_of dx)) (ind (short_of dy)) (ind (same_of dy)) r
  at_this law r h =
      law (is_on o) (ind (short_of dx)) (ind (same_of dx)) (ind (short_of dy)) (ind (same_of dy)) r
      (omega arith) (ind_small (short_of dx)) (ind_small (same_of dx)) (ind_small (short_of dy)) (ind_small (same_of dy)) h

  pub flag_says : {f : ℕ} (r : ℕ) → r ≤ 1 → f ≡ is_on o + (bits_of 2 16 dx + bits_of 4 32 dy) + 8 * r → Says f o dx dy
  flag_says {f} r h e = record {
    short_x = ind_back (short_of dx) (f / 2 % 2) (rw (e, bits_apart) (at_this bit_two r h));
    same_x = ind_back (same_of dx) (f / 16 % 2) (rw (e, bits_apart) (at_this bit_sixteen r h));
    short_y = ind_back (short_of dy) (f / 4 % 2) (rw (e, bits_apart) (at_this bit_four r h));
    same_y = ind_back (same_of dy) (f / 32 % 2) (rw (e, bits_apart) (at_this bit_thirty_two r h));
    on = rw (e, bits_apart) (at_this bit_one r h);
  }

  pub no_repeat : bit 8 (is_on o + (bits_of 2 16 dx + bits_of 4 32 dy)) ≡ false
  no_repeat =
      let e : coded ≡ coded + 8 * 0 = omega arith in
      ind_back false (coded / 8 % 2) (rw (e, bits_apart) (at_this bit_eight 0 (omega arith)))
