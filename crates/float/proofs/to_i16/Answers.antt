-- `float::to_i16` meets its contract. Assumes nothing.
use Rattle.std.proofs.Common.{◌≡◌, ℤ, sym, ap, ◌∙◌, subst, w16, w64, SFits, to_z, of_z}
use lib.Ieee.{Float, of_bits, neg, to_signed}
use lib.Ieee.Casts.{to_signed_in}
use mir.ValLaws.{to_z-of_z}
use Rattle.float.proofs.Saturate.{above_i64, below_i64, inside, above, below, neither}
use Rattle.float.proofs.to_i16.Goals as goal
use Rattle.float.proofs.to_i16.Goals.{After-truncating_f64_to_i64}

pub truncating_f64_to_i64-requires : goal.truncating_f64_to_i64-requires
unfolding of_bits neg
truncating_f64_to_i64-requires c = record { lower_bound = above_i64 _ c.if-x.true; upper_bound = below_i64 _ c.if-x-2.true }

-- what the call gives, read back from its bits, is x cast to 16 bits
gave : (c : After-truncating_f64_to_i64) → to_z w64 (of_z w64 c.truncating_f64_to_i64.result) ≡ to_signed 15 c.args.x
unfolding of_bits neg
gave c =
    to_z-of_z w64 c.truncating_f64_to_i64.result (record { sfits = c.truncating_f64_to_i64.type_inv })
    ∙ c.truncating_f64_to_i64.ensures
    ∙ inside _ c.if-x.true c.if-x-2.true

in_16 : (x : Float) → SFits w16 (to_signed 15 x)
in_16 x = record { sfits = to_signed_in 15 x }

pub overflow_cast-result : goal.overflow_cast-result
overflow_cast-result c = subst (λ (z : ℤ). SFits w16 z) (sym (gave c)) (in_16 _)

pub returns-then-x-2 : goal.returns-then-x-2
returns-then-x-2 c = ap (λ (z : ℤ). to_z w16 (of_z w16 z)) (gave c) ∙ to_z-of_z w16 (to_signed 15 _) (in_16 _)

pub returns-else-x-2 : goal.returns-else-x-2
unfolding of_bits neg
returns-else-x-2 c = above _ c.if-x.true c.if-x-2.false

pub returns-then-x-3 : goal.returns-then-x-3
unfolding of_bits neg
returns-then-x-3 c = below _ c.if-x.false c.if-x-3.true

pub returns-else-x-3 : goal.returns-else-x-3
unfolding of_bits neg
returns-else-x-3 c = neither _ c.if-x.false c.if-x-3.false
