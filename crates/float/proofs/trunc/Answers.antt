-- `float::trunc` meets its contract. Assumes nothing.
use Rattle.std.proofs.Common.{◌≡◌, true, false, T, sym, ap, ◌∙◌, subst, arith}
use lib.Ieee.{Float, binary64, of_bits, lt, fits, to_unsigned}
use Rattle.float.specs.Float.{abs_of, to_zero}
use Rattle.float.proofs.Whole.{limit, Small, above_u64, below_u64, cut_is, cut_small, flat_zero, signed, large_stays}
use Rattle.float.proofs.trunc.Goals as goal
use Rattle.float.proofs.trunc.Goals.{After-truncating_f64_to_u64, Start, Then-y}

held : (c : Start) → T (fits binary64 c.args.x)
held c = subst T (sym c.well_formed.0.1) tt

small : (c : Then-y) → Small c.args.x
unfolding of_bits
small c = subst (λ (y : Float). lt y limit ≡ true) c.abs-y.ensures c.if-y.true

-- the call gives |x| cut
gave : (c : After-truncating_f64_to_u64) → c.truncating_f64_to_u64.result ≡ to_unsigned 64 (abs_of c.args.x)
gave c = c.truncating_f64_to_u64.ensures ∙ ap (to_unsigned 64) c.abs-y.ensures

pub truncating_f64_to_u64-requires : goal.truncating_f64_to_u64-requires
truncating_f64_to_u64-requires c = rw c.abs-y.ensures (record { lower_bound = above_u64 _ (small c); upper_bound = below_u64 _ (small c) })

pub with_sign-requires : goal.with_sign-requires
with_sign-requires c = omega (arith, gave c, cut_small _ (small c.before))

pub returns-then-y : goal.returns-then-y
returns-then-y c =
    let t = small c.before.before in
    c.with_sign.ensures ∙ signed to_zero flat_zero _ _ (held c.before.before.before.before) t (λ s. gave c.before ∙ cut_is s _ t)

pub returns-else-y : goal.returns-else-y
unfolding of_bits
returns-else-y c = large_stays to_zero flat_zero _ (held c.before.before) (subst (λ (y : Float). lt y limit ≡ false) c.abs-y.ensures c.if-y.false)
