-- Whole numbers as differences of natural ones, so that an identity of sums of whole numbers is one of natural numbers. Assumes nothing.
use Prim.Native.Nat.{ℕ, zero, suc, ◌+◌, ◌-◌, ◌^◌, ◌≤◌, ◌<◌}
use mathlib.Core.Bool.{Bool, true, false, cond}
use mathlib.Core.Path.{◌≡◌, refl, sym, ap, ◌∙◌}
use native.Mathlib.Omega.{arith}
use borrow.Author.Tests.{ltb-true, ltb-false, lt-ltb, le-ltb}
use lib.Dec.{ltb}
use lib.IntN.{ℤ, pos, negsuc, neg_ℤ, nat_abs, sub_ℕ, ◌+ℤ◌, ◌-ℤ◌, neg_ℤ-neg_ℤ, neg_ℤ-+ℤ, +ℤ_assoc, +ℤ_comm, +ℤ_idl, +ℤ_idr, zero-*ℤ, suc_ℤ-*ℤ}
use lib.Signed.{mag}
use Rattle.halving.specs.Cubic.{times}

-- z is more - less
pub record Gap (z : ℤ) : Type 0 where
  pub more : ℕ
  pub less : ℕ
  pub is : z ≡ pos more -ℤ pos less

swap : (x y z w : ℤ) → (x +ℤ y) +ℤ (z +ℤ w) ≡ (x +ℤ z) +ℤ (y +ℤ w)
swap x y z w =
    +ℤ_assoc x y (z +ℤ w)
    ∙ ap (λ (k : ℤ). x +ℤ k) (sym (+ℤ_assoc y z w) ∙ ap (λ (k : ℤ). k +ℤ w) (+ℤ_comm y z) ∙ +ℤ_assoc z y w)
    ∙ sym (+ℤ_assoc x z (y +ℤ w))

pub added : (a b c d : ℕ) → (pos a -ℤ pos b) +ℤ (pos c -ℤ pos d) ≡ pos (a + c) -ℤ pos (b + d)
added a b c d = swap (pos a) (neg_ℤ (pos b)) (pos c) (neg_ℤ (pos d)) ∙ ap (λ (k : ℤ). pos (a + c) +ℤ k) (sym (neg_ℤ-+ℤ (pos b) (pos d)))

abbrev pub plus : {z w : ℤ} → Gap z → Gap w → Gap (z +ℤ w)
plus g h = record {
  more = g.more + h.more;
  less = g.less + h.less;
  is = (λ i. g.is i +ℤ h.is i) ∙ added g.more g.less h.more h.less;
}

pub turned : (a b : ℕ) → neg_ℤ (pos a -ℤ pos b) ≡ pos b -ℤ pos a
turned a b = neg_ℤ-+ℤ (pos a) (neg_ℤ (pos b)) ∙ +ℤ_comm (neg_ℤ (pos a)) (neg_ℤ (neg_ℤ (pos b))) ∙ ap (λ (k : ℤ). k -ℤ pos a) (neg_ℤ-neg_ℤ (pos b))

abbrev pub minus : {z w : ℤ} → Gap z → Gap w → Gap (z -ℤ w)
minus {z} {w} g h = plus g (record { more = h.less; less = h.more; is = ap neg_ℤ h.is ∙ turned h.more h.less })

pub one_more : (n : ℕ) (z : ℤ) → times (suc n) z ≡ times n z +ℤ z
one_more n z = suc_ℤ-*ℤ (pos n) z

-- the n-fold, n times one more
abbrev pub fold : (n : ℕ) {z : ℤ} → Gap z → Gap (times n z)
fold zero {z} g = record { more = 0; less = 0; is = zero-*ℤ z }
fold (suc n) {z} g =
    let sum = plus (fold n g) g in
    record { more = sum.more; less = sum.less; is = one_more n z ∙ sum.is }

abbrev pub gap_of : (z : ℤ) → Gap z
gap_of (pos n) = record { more = n; less = 0; is = sym (+ℤ_idr (pos n)) }
gap_of (negsuc n) = record { more = 0; less = suc n; is = sym (+ℤ_idl (negsuc n)) }

-- ---- equal differences, and their size

as_sub : (a b : ℕ) → pos a -ℤ pos b ≡ sub_ℕ a b
as_sub a zero = +ℤ_idr (pos a) ∙ rw (le-ltb a 0 (omega arith)) (ap pos (omega arith))
as_sub a (suc b) = refl

sub_same : (a b c d : ℕ) → a + d ≡ c + b → sub_ℕ a b ≡ sub_ℕ c d
sub_same a b c d h = by (ltb a b) refl
  where
    by : (t : Bool) → ltb a b ≡ t → sub_ℕ a b ≡ sub_ℕ c d
    by true e = let l = ltb-true a b e in rw (e, lt-ltb c d (omega arith)) (ap negsuc (omega arith))
    by false e = let l = ltb-false a b e in rw (e, le-ltb c d (omega arith)) (ap pos (omega arith))

pub same : {z w : ℤ} (g : Gap z) (h : Gap w) → g.more + h.less ≡ h.more + g.less → z ≡ w
same g h e = g.is ∙ as_sub g.more g.less ∙ sub_same g.more g.less h.more h.less e ∙ sym (as_sub h.more h.less) ∙ sym h.is

sub_size : (a b : ℕ) → nat_abs (sub_ℕ a b) ≡ (a - b) + (b - a)
sub_size a b = by (ltb a b) refl
  where
    by : (c : Bool) → ltb a b ≡ c → nat_abs (cond c (negsuc (b - suc a)) (pos (a - b))) ≡ (a - b) + (b - a)
    by true e = let h = ltb-true a b e in omega arith
    by false e = let h = ltb-false a b e in omega arith

pub size_gap : {z : ℤ} (g : Gap z) → nat_abs z ≡ (g.more - g.less) + (g.less - g.more)
size_gap g = ap nat_abs (g.is ∙ as_sub g.more g.less) ∙ sub_size g.more g.less

-- of 16 bits: counted from -32768
pub record Sixteen (z : ℤ) : Type 0 where
  pub up : ℕ
  pub most : up ≤ 65535
  pub is : z ≡ pos up -ℤ pos 32768

abbrev pub gap_from : {z : ℤ} → Sixteen z → Gap z
gap_from s = record { more = s.up; less = 32768; is = s.is }

pub sixteen : (z : ℤ) → mag z < 2 ^ 15 → Sixteen z
sixteen (pos n) h = record {
  up = n + 32768;
  most = omega arith;
  is = same (gap_of (pos n)) (record { more = n + 32768; less = 32768; is = refl }) (omega arith);
}
sixteen (negsuc n) h = record {
  up = 32767 - n;
  most = omega arith;
  is = same (gap_of (negsuc n)) (record { more = 32767 - n; less = 32768; is = refl }) (omega arith);
}
