-- Numbers below zero, at the widths of the code. Assumes nothing.
use Rattle.std.proofs.Common.{ℕ, zero, suc, ◌≤◌, ◌<◌, ◌^◌, ◌≡◌, ap, ◌∙◌, subst, sym, arith, ℤ, pos, ◌-ℤ◌, w16, w32, SFits, to_z, of_z, to_z-of_z}
use Rattle.std.proofs.Math.IntN.{+ℤ_idl}
use Rattle.std.specs.Int.Signed.{mag}
use mir.Facts.{to_z_pos, sfits_widen}
use Rattle.lines.specs.Line.{negative}

-- a number of 16 bits is read back from its bits
pub back : {z : ℤ} → mag z < 2 ^ 15 → to_z w16 (of_z w16 z) ≡ z
back {z} h = to_z-of_z {w = w16} {z = z} (record { sfits = h })

-- ---- below zero, from the size: at 32 bits, then at 16

mag_negative : (v : ℕ) → v ≤ 32768 → mag (negative v) < 32768
mag_negative zero h = omega arith
mag_negative (suc n) h = omega arith

module _ (v : ℕ) (h : v ≤ 32768) where
  in_16 : SFits w16 (negative v)
  in_16 = record { sfits = mag_negative v h }

  in_32 : SFits w32 (negative v)
  in_32 = sfits_widen {w = w16} {w' = w32} tt in_16

  minus : pos 0 -ℤ to_z w32 v ≡ negative v
  minus = ap (λ (z : ℤ). pos 0 -ℤ z) (to_z_pos w32 {n = v} (omega arith)) ∙ +ℤ_idl (negative v)

  pub minus_in : SFits w32 (pos 0 -ℤ to_z w32 v)
  minus_in = subst (λ (z : ℤ). SFits w32 z) (sym minus) in_32

  back_32 : to_z w32 (of_z w32 (pos 0 -ℤ to_z w32 v)) ≡ negative v
  back_32 = ap (λ (z : ℤ). to_z w32 (of_z w32 z)) minus ∙ to_z-of_z {w = w32} {z = negative v} in_32

  pub minus_in_16 : SFits w16 (to_z w32 (of_z w32 (pos 0 -ℤ to_z w32 v)))
  minus_in_16 = subst (λ (z : ℤ). SFits w16 z) (sym back_32) in_16

  pub read_back : to_z w16 (of_z w16 (to_z w32 (of_z w32 (pos 0 -ℤ to_z w32 v)))) ≡ negative v
  read_back = ap (λ (z : ℤ). to_z w16 (of_z w16 z)) back_32 ∙ back (mag_negative v h)
