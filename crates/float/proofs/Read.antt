-- `radicand_of`: what its tests say of x, and how the bits of an x that is finite and above zero are read. Assumes nothing.
use Rattle.std.proofs.Common.{◌≡◌, ℕ, zero, suc, ◌+◌, ◌-◌, ◌*◌, ◌/◌, ◌%◌, ◌^◌, ◌<◌, Bool, true, false, cond, not, ◌&&◌, T, eqb, leb, ℤ, pos, sym, refl, ap, ◌∙◌, subst, true≢false, lt_irrefl, zero-lt-suc, mul-pos, zero-mul, mul-div_cancel, arith, pow_pos, ltb-false, ltb-true, eqb-true, leb-false}
use mathlib.Core.Bool.{false≢true}
use lib.Ieee.{Float, nan, inf, fin, binary64, up, down, lt, eq, level, fits, odd, of_fields, to_bits}
use lib.Ieee.Fits.{up_pos, down_pos}
use lib.Ieee.Digits.{Equals, odd_val}
use lib.Ieee.Bits.{of_bits-to_bits}
use Rattle.float.specs.Float.{root_of, root_units}
use Rattle.float.proofs.Sign.{and-true}
use Rattle.float.proofs.Pattern.{of_bits_is, above_low}

-- ---- the answers that need no root
pub infinite : (x : Float) → lt (fin false 0 (pos 0)) x ≡ true → lt x (inf false) ≡ false → x ≡ root_of x
unfolding lt root_of
infinite nan h k = refl
infinite (inf true) h k = absurd (false≢true h)
infinite (inf false) h k = refl
infinite (fin s m e) h k = absurd (true≢false k)

above_zero : (m : ℕ) (e : ℤ) → 0 < suc m * up e * 1
above_zero m e = mul-pos (mul-pos (zero-lt-suc m) (up_pos e)) (zero-lt-suc 0)

pub null : (x : Float) → eq x (fin false 0 (pos 0)) ≡ true → x ≡ root_of x
unfolding eq root_of
null nan h = refl
null (inf s) h = absurd (false≢true h)
null (fin s zero e) h = refl
null (fin s (suc m) e) h = absurd (omega (arith, above_zero m e, eqb-true (suc m * up e * 1) (0 * down e) (and-true (eqb (suc m * up e * 1) (0 * down e)) _ h)))

zero_is : (s : Bool) (e : ℤ) → eq (fin s 0 e) (fin false 0 (pos 0)) ≡ true
unfolding eq
zero_is s e =
    let a : 0 * up e * 1 ≡ 0 = omega arith in
    let b : 0 * down e ≡ 0 = omega arith in
    ap (λ (n : ℕ). level s n false (0 * down e)) a ∙ ap (λ (n : ℕ). level s 0 false n) b ∙ both s
  where
    both : (s : Bool) → level s 0 false 0 ≡ true
    both true = refl
    both false = refl

pub none : (x : Float) → lt (fin false 0 (pos 0)) x ≡ false → eq x (fin false 0 (pos 0)) ≡ false → nan ≡ root_of x
unfolding lt root_of
none nan h k = refl
none (inf true) h k = refl
none (inf false) h k = absurd (true≢false h)
none (fin s zero e) h k = absurd (true≢false (sym (zero_is s e) ∙ k))
none (fin true (suc m) e) h k = refl
none (fin false (suc m) e) h k = absurd (omega (arith, above_zero m e, ltb-false (0 * down e) (suc m * up e * 1) h))

-- ---- what is read is finite, so its exponent's field is not all ones, and it has its sign
odd_sign : (s u : Bool) (q k m : ℕ) (e : ℤ) → odd 53 s q k 1074 ≡ fin u m e → s ≡ u
unfolding odd
odd_sign s u zero k m e h = cc
odd_sign s u (suc q) k m e h = cc

cond_sign : (a b s u : Bool) (q k m : ℕ) (e : ℤ) → cond a (cond b (inf s) nan) (odd 53 s q k 1074) ≡ fin u m e → s ≡ u
cond_sign true true s u q k m e h = cc
cond_sign true false s u q k m e h = cc
cond_sign false b s u q k m e h = odd_sign s u q k m e h

sign_of : (s u : Bool) (y t m : ℕ) (e : ℤ) → of_fields binary64 s y t ≡ fin u m e → s ≡ u
unfolding of_fields
sign_of s u zero t m e h = odd_sign s u t 0 m e h
sign_of s u (suc y) t m e h = cond_sign (eqb (suc y) 2047) (eqb t 0) s u (2 ^ 52 + t) y m e h

not_ones : (s u : Bool) (t m : ℕ) (e : ℤ) → of_fields binary64 s 2047 t ≡ fin u m e → ⊥
unfolding of_fields
not_ones s u t m e h = go (eqb t 0) h
  where
    go : (b : Bool) → cond b (inf s) nan ≡ fin u m e → ⊥
    go true g = let z : ◌≡◌ {A = ℕ} 0 1 = cc in omega arith
    go false g = let z : ◌≡◌ {A = ℕ} 0 1 = cc in omega arith

-- ---- the bits b of x: its digits t and its exponent's field y give q and k with x = q * 2 ^ k smallest values
pub root_of_is : (m : ℕ) (e : ℤ) → root_of (fin false (suc m) e) ≡ root_units (suc m * up e * 2 ^ 1074 / down e)
unfolding root_of
root_of_is m e = refl

by_value : (q k m : ℕ) (e : ℤ) → odd 53 false q k 1074 ≡ fin false (suc m) e → (0 < q) × (root_of (fin false (suc m) e) ≡ root_units (q * 2 ^ k))
by_value q k m e h =
    let v : suc m * up e * 2 ^ 1074 ≡ q * 2 ^ k * down e = subst (λ (x : Float). Equals x (q * 2 ^ k) (2 ^ 1074)) h (odd_val 53 false q k 1074) in (
      positive q v,
      root_of_is m e ∙ ap root_units (ap (λ (a : ℕ). a / down e) v ∙ mul-div_cancel (q * 2 ^ k) (down_pos e)),
    )
  where
    positive : (q : ℕ) → suc m * up e * 2 ^ 1074 ≡ q * 2 ^ k * down e → 0 < q
    positive zero v = absurd (lt_irrefl 0 (subst (λ (a : ℕ). 0 < a) (v ∙ ap (λ (a : ℕ). a * down e) (zero-mul (2 ^ k)) ∙ zero-mul (down e)) (mul-pos (mul-pos (zero-lt-suc m) (up_pos e)) (pow_pos 1074))))
    positive (suc q) v = zero-lt-suc q

pub record Read (x : Float) (b : ℕ) : Type 0 where
  pub field : b / 2 ^ 52 < 2047
  pub low : b / 2 ^ 52 ≡ 0 → (0 < b % 2 ^ 52) × (root_of x ≡ root_units (b % 2 ^ 52 * 2 ^ 0))
  pub high : (b / 2 ^ 52 ≡ 0 → ⊥) → root_of x ≡ root_units ((b % 2 ^ 52 + 2 ^ 52) * 2 ^ (b / 2 ^ 52 - 1))

at_low : (t : ℕ) → of_fields binary64 false 0 t ≡ odd 53 false t 0 1074
unfolding of_fields
at_low t = refl

-- from the three fields
of_fields_lem : (m : ℕ) (e : ℤ) (b y t : ℕ) → b / 2 ^ 52 ≡ y → b % 2 ^ 52 ≡ t → y < 2048 → of_fields binary64 false y t ≡ fin false (suc m) e → Read (fin false (suc m) e) b
of_fields_lem m e b zero t Y P l h =
    let v = by_value t 0 m e (sym (at_low t) ∙ h) in
    record {
      field = omega arith;
      low = λ z. subst (λ (q : ℕ). (0 < q) × (root_of (fin false (suc m) e) ≡ root_units (q * 2 ^ 0))) (sym P) v;
      high = λ n. absurd (n Y);
    }
of_fields_lem m e b (suc y) t Y P l h =
    let not-all : suc y ≡ 2047 → ⊥ = λ g. not_ones false false t (suc m) e (subst (λ (k : ℕ). of_fields binary64 false k t ≡ fin false (suc m) e) g h) in
    let y-lt : y < 2046 = omega arith in
    let v = by_value (2 ^ 52 + t) y m e (sym (above_low false y t y-lt) ∙ h) in
    let q-is : 2 ^ 52 + t ≡ b % 2 ^ 52 + 2 ^ 52 = omega arith in
    let k-is : y ≡ b / 2 ^ 52 - 1 = omega arith in
    record {
      field = omega arith;
      low = λ z. absurd (omega arith);
      high = λ n. v.1 ∙ ap (λ (q : ℕ). root_units (q * 2 ^ y)) q-is ∙ ap (λ (k : ℕ). root_units ((b % 2 ^ 52 + 2 ^ 52) * 2 ^ k)) k-is;
    }

pub read_bits : (x : Float) → T (fits binary64 x) → lt (fin false 0 (pos 0)) x ≡ true → lt x (inf false) ≡ true → Read x (to_bits binary64 x)
unfolding lt
read_bits nan f h k = absurd (false≢true h)
read_bits (inf s) f h k = absurd (inf_not s h k)
  where
    inf_not : (s : Bool) → not s ≡ true → (s && true) ≡ true → ⊥
    inf_not true h k = false≢true h
    inf_not false h k = false≢true k
read_bits (fin true m e) f h k = absurd (false≢true h)
read_bits (fin false zero e) f h k = absurd (omega (arith, ltb-true (0 * down e) (0 * up e * 1) h))
read_bits (fin false (suc m) e) f h k = read m e f
  where
    read : (m : ℕ) (e : ℤ) → T (fits binary64 (fin false (suc m) e)) → Read (fin false (suc m) e) (to_bits binary64 (fin false (suc m) e))
    read m e f =
        let x = fin false (suc m) e in
        let b = to_bits binary64 x in
        let fields : of_fields binary64 (leb (2 ^ 63) b) (b % 2 ^ 63 / 2 ^ 52) (b % 2 ^ 52) ≡ x = sym (of_bits_is b) ∙ of_bits-to_bits binary64 x f in
        let sign : leb (2 ^ 63) b ≡ false = sign_of (leb (2 ^ 63) b) false (b % 2 ^ 63 / 2 ^ 52) (b % 2 ^ 52) (suc m) e fields in
        let b_lt : b < 2 ^ 63 = leb-false (2 ^ 63) b sign in
        of_fields_lem m e b (b % 2 ^ 63 / 2 ^ 52) (b % 2 ^ 52) (omega arith) refl (omega arith)
        (subst (λ (s : Bool). of_fields binary64 s (b % 2 ^ 63 / 2 ^ 52) (b % 2 ^ 52) ≡ x) sign fields)
