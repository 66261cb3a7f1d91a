-- A quad whose control stands on one of its ends passes the places of the line between them, and leaves none out: the statements of specs/Statements.
-- Assumes nothing.
use Prim.Native.Nat.{ℕ, zero, suc, ◌+◌, ◌*◌, ◌≤◌, ◌<◌}
use mathlib.Core.Bool.{Bool, true, false}
use mathlib.Core.Path.{◌≡◌, refl, sym, ap, ◌∙◌}
use native.Mathlib.Nat.{mul-add, add-mul, mul_comm, mul-le-mul_right}
use native.Mathlib.Omega.{arith}
use borrow.Author.Tests.{leb-true, leb-false}
use lib.Dec.{leb}
use lib.IntN.{ℤ, pos, ◌+ℤ◌, +ℤ_assoc, +ℤ_comm, +ℤ_idl, zero-*ℤ, suc_ℤ-*ℤ}
use Rattle.idle.specs.Outline.{times}
use Rattle.idle.specs.Statements.{QuadIsLine, NoneLeftOut}

-- ---- on the line

times_sum : (m n : ℕ) (a : ℤ) → times (m + n) a ≡ times m a +ℤ times n a
times_sum zero n a =
    let e : 0 + n ≡ n = omega arith in
    rw (e, zero-*ℤ a) (sym (+ℤ_idl (times n a)))
times_sum (suc m) n a =
    let e : suc m + n ≡ suc (m + n) = omega arith in
    ap (λ (k : ℕ). times k a) e
    ∙ suc_ℤ-*ℤ (pos (m + n)) a
    ∙ ap (λ (z : ℤ). z +ℤ a) (times_sum m n a)
    ∙ +ℤ_assoc (times m a) (times n a) a
    ∙ ap (λ (z : ℤ). times m a +ℤ z) (+ℤ_comm (times n a) a)
    ∙ sym (+ℤ_assoc (times m a) a (times n a))
    ∙ ap (λ (z : ℤ). z +ℤ times n a) (sym (suc_ℤ-*ℤ (pos m) a))

square : (m k : ℕ) → (m + k) * (m + k) ≡ m * m + m * k + (m * k + k * k)
square m k =
    add-mul m k (m + k) ∙ ap (λ (z : ℕ). z + k * (m + k)) (mul-add m m k)
    ∙ ap (λ (z : ℕ). m * m + m * k + z) (mul-add k m k ∙ ap (λ (z : ℕ). z + k * k) (mul_comm k m))

pub quad_is_line : QuadIsLine
quad_is_line a b m k =
    record {
      by_start =
          record {
            whole = omega (arith, square m k);
            at =
                sym (+ℤ_assoc (times (m * m) a) (times (2 * (m * k)) a) (times (k * k) b))
                ∙ ap (λ (z : ℤ). z +ℤ times (k * k) b) (sym (times_sum (m * m) (2 * (m * k)) a));
          };
      by_end =
          record {
            whole = omega (arith, square m k);
            at = ap (λ (z : ℤ). times (m * m) a +ℤ z) (sym (times_sum (2 * (m * k)) (k * k) b));
          };
    }

-- ---- none left out

-- v is passed on the way from f 0 to f n
record Passed (f : ℕ → ℕ) (v n : ℕ) : Type 0 where
  pub k : ℕ
  pub inside : k < n
  pub low : f k ≤ v
  pub high : v ≤ f (k + 1)

passes : (f : ℕ → ℕ) (v : ℕ) → f 0 ≤ v → (n : ℕ) → v ≤ f (suc n) → Passed f v (suc n)
passes f v h zero top = record { k = 0; inside = omega arith; low = h; high = top }
passes f v h (suc n) top = by (leb (f (suc n)) v) refl (passes f v h n)
  where
    by : (b : Bool) → leb (f (suc n)) v ≡ b → (v ≤ f (suc n) → Passed f v (suc n)) → Passed f v (suc (suc n))
    by true e earlier =
        let up : suc n + 1 ≡ suc (suc n) = omega arith in
        record { k = suc n; inside = omega arith; low = leb-true (f (suc n)) v e; high = rw up top }
    by false e earlier =
        let above = leb-false (f (suc n)) v e in
        let r = earlier (omega arith) in
        record { k = r.k; inside = omega (arith, r.inside); low = r.low; high = r.high }

pub none_left_out : NoneLeftOut
none_left_out s whole zero few some = absurd (omega arith)
none_left_out s whole (suc n) few some =
    let m = suc n * suc n in
    let top : s * m ≤ m * whole = omega (arith, mul-le-mul_right m few, mul_comm whole m) in
    let r = passes (λ (k : ℕ). k * k * whole) (s * m) (omega arith) n top in
    record { k = r.k; inside = r.inside; low = r.low; high = r.high }
