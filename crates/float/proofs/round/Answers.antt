-- `float::round` meets its contract. Assumes nothing.
use Rattle.std.proofs.Common.{◌≡◌, ℕ, ◌+◌, ◌/◌, true, false, T, sym, ap, ◌∙◌, subst, arith}
use lib.Ieee.{Float, binary64, of_bits, lt, mul, fits, to_unsigned}
use Rattle.float.specs.Float.{abs_of, to_nearest}
use Rattle.float.proofs.Whole.{limit, Small, two, Near, near_call, flat_near, signed, large_stays}
use Rattle.float.proofs.round.Goals as goal
use Rattle.float.proofs.round.Goals.{After-truncating_f64_to_u64, Start, Then-y}

held : (c : Start) → T (fits binary64 c.args.x)
held c = subst T (sym c.well_formed.0.1) tt

small : (c : Then-y) → Small c.args.x
unfolding of_bits
small c = subst (λ (y : Float). lt y limit ≡ true) c.abs-y.ensures c.if-y.true

-- the call gives 2 * |x| cut
gave : (c : After-truncating_f64_to_u64) → c.truncating_f64_to_u64.result ≡ to_unsigned 64 (mul binary64 (abs_of c.args.x) two)
unfolding of_bits
gave c = c.truncating_f64_to_u64.ensures ∙ ap (λ (y : Float). to_unsigned 64 (mul binary64 y two)) c.abs-y.ensures

-- what is known of that call
call : (c : Then-y) → Near c.args.x
call c = near_call _ (held c.before.before) (small c)

pub truncating_f64_to_u64-requires : goal.truncating_f64_to_u64-requires
unfolding of_bits
truncating_f64_to_u64-requires c = rw c.abs-y.ensures (record { lower_bound = (call c).above; upper_bound = (call c).below })

pub overflow_add-truncating_f64_to_u64 : goal.overflow_add-truncating_f64_to_u64
overflow_add-truncating_f64_to_u64 c = omega (arith, gave c, (call c.before).small)

pub with_sign-requires : goal.with_sign-requires
with_sign-requires c = omega (arith, gave c, (call c.before).small)

pub returns-then-y : goal.returns-then-y
returns-then-y c =
    c.with_sign.ensures
    ∙ signed to_nearest flat_near _ _ (held c.before.before.before.before) (small c.before.before)
    (λ s. ap (λ (n : ℕ). (n + 1) / 2) (gave c.before) ∙ (call c.before.before).half s)

pub returns-else-y : goal.returns-else-y
unfolding of_bits
returns-else-y c = large_stays to_nearest flat_near _ (held c.before.before) (subst (λ (y : Float). lt y limit ≡ false) c.abs-y.ensures c.if-y.false)
