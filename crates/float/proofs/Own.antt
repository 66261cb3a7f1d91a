-- An f64 is not rounded: `round` gives back the f64 whose value it is handed, bit for bit; so 1 * x is x: two statements of specs/Unrounded.
-- Assumes nothing.
use Rattle.std.proofs.Common.{◌≡◌, ℕ, zero, suc, ◌+◌, ◌-◌, ◌*◌, ◌/◌, ◌^◌, Bool, true, false, cond, T, ℤ, pos, sym, refl, ap, ◌∙◌, subst, one-mul, mul_right_comm, arith, lit<}
use lib.Ieee.{Float, nan, inf, fin, Format, binary64, prec, low, top, hid, size, up, down, fits, round, mul, of_bits, to_bits}
use lib.Ieee.Bits.{of_bits-to_bits}
use lib.Ieee.Fits.{down_pos, round-fits}
use lib.Ieee.Exact.{HasValue, round_exact}
use lib.Ieee.Nearest.{div_same}
use lib.Ieee.Scale.{round_same}
use Rattle.float.specs.Unrounded.{RoundsToItself, OneTimesIsItself}
use Rattle.float.proofs.Fitting.{fits_says, in_units}

-- ---- the value of an f64, rounded

nothing : (a b c d : ℕ) → 0 * a * b ≡ 0 * c * d
nothing a b c d = omega arith

pub own_value : (s : Bool) (m : ℕ) (e : ℤ) → T (fits binary64 (fin s m e)) → HasValue (round binary64 s (m * up e) (down e)) s (m * up e) (down e)
own_value s zero e f = round_exact binary64 s (0 * up e) (down e) 0 0 (down_pos e) (lit< tt) (lit< tt) (nothing (up e) (2 ^ 1074) (2 ^ 0) (down e))
own_value s (suc m) e f =
    let u = in_units s m e f in
    round_exact binary64 s (suc m * up e) (down e) (suc m) u.j (down_pos e) (fits_says s m e f).0 u.few u.is

-- ---- two values that fit, of one sign and one size, have the same bits, so they are one

same_bits : (f : Format) (s : Bool) (m n : ℕ) (e d : ℤ) → m * up e * down d ≡ n * up d * down e → to_bits f (fin s m e) ≡ to_bits f (fin s n d)
unfolding to_bits
same_bits f s m n e d h =
    let scaled : m * up e * 2 ^ low f * down d ≡ n * up d * 2 ^ low f * down e =
    mul_right_comm (m * up e) (2 ^ low f) (down d) ∙ ap (λ (k : ℕ). k * 2 ^ low f) h ∙ mul_right_comm (n * up d) (down e) (2 ^ low f) in
    ap (λ (k : ℕ). cond s (top f) 0 + (size k - prec f) * hid f + k / 2 ^ (size k - prec f))
    (div_same (m * up e * 2 ^ low f) (down e) (n * up d * 2 ^ low f) (down d) (down_pos e) (down_pos d) scaled)

one_value : (f : Format) (s : Bool) (m n : ℕ) (e d : ℤ) → T (fits f (fin s m e)) → T (fits f (fin s n d)) →
    m * up e * down d ≡ n * up d * down e → fin s m e ≡ fin s n d
one_value f s m n e d p q h = sym (of_bits-to_bits f (fin s m e) p) ∙ ap (of_bits f) (same_bits f s m n e d h) ∙ of_bits-to_bits f (fin s n d) q

pub itself : RoundsToItself
itself s m e f = by (round binary64 s (m * up e) (down e)) (round-fits binary64 s (m * up e) (down e)) (own_value s m e f)
  where
    by : (y : Float) → T (fits binary64 y) → HasValue y s (m * up e) (down e) → y ≡ fin s m e
    by (fin t n d) g v =
        ap (λ (u : Bool). fin u n d) v.0 ∙ one_value binary64 s n m d e (subst (λ (u : Bool). T (fits binary64 (fin u n d))) v.0 g) f v.1
    by nan g v = elim v [ ]
    by (inf _) g v = elim v [ ]

-- ---- 1 * x

ones : (a d : ℕ) → 1 * a * d ≡ a * (1 * d)
ones a d = ap (λ (k : ℕ). k * d) (one-mul a) ∙ ap (λ (k : ℕ). a * k) (sym (one-mul d))

once : (s : Bool) (m : ℕ) (e : ℤ) → round binary64 s (1 * (m * up e)) (1 * down e) ≡ round binary64 s (m * up e) (down e)
once s m e = round_same binary64 s (1 * (m * up e)) (1 * down e) (m * up e) (down e) (omega (arith, down_pos e)) (down_pos e) (ones (m * up e) (down e))

times : (x : Float) → T (fits binary64 x) → mul binary64 (fin false 1 (pos 0)) x ≡ x
unfolding mul
times nan f = refl
times (inf true) f = refl
times (inf false) f = refl
times (fin true m e) f = once true m e ∙ itself true m e f
times (fin false m e) f = once false m e ∙ itself false m e f

pub one_times : OneTimesIsItself
unfolding of_bits
one_times x f = times x f
