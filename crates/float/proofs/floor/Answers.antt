-- `float::floor` meets its contract. Assumes nothing.
use Rattle.std.proofs.Common.{◌≡◌, ◌^◌, ◌<◌, T, sym, ◌∙◌, subst, arith}
use lib.Ieee.{Float, of_bits, to_unsigned}
use Rattle.float.specs.Float.{abs_of}
use Rattle.float.proofs.Above.{abs_above, floor_above}
use Rattle.float.proofs.Downward.{floor_below, floor_same}
use Rattle.float.proofs.Whole.{Small, above_u64, below_u64, cut_small, exact}
use Rattle.float.proofs.floor.Goals as goal
use Rattle.float.proofs.floor.Goals.{Then-x-2}

-- above zero and below 2 ^ 52
module _ (c : Then-x-2) where
  abbrev x : Float
  x = c.args.x

  plain : abs_of x ≡ x
  plain = abs_above x c.if-x.true

  small : Small x
  unfolding of_bits
  small = rw plain c.if-x-2.true

  few : to_unsigned 64 x < 2 ^ 52
  few = rw plain at (cut_small x small)

pub truncating_f64_to_u64-requires : goal.truncating_f64_to_u64-requires
truncating_f64_to_u64-requires c = rw (← plain c) (record { lower_bound = above_u64 _ (small c); upper_bound = below_u64 _ (small c) })

pub int_to_float-result : goal.int_to_float-result
int_to_float-result c = exact _ (omega (arith, c.truncating_f64_to_u64.ensures, few c.before.before))

pub returns-then-x-2 : goal.returns-then-x-2
returns-then-x-2 c =
    floor_above _ _ c.if-x.true c.truncating_f64_to_u64.ensures (omega (arith, c.truncating_f64_to_u64.ensures, few c.before.before))

pub returns-then-x-t : goal.returns-then-x-t
unfolding of_bits
returns-then-x-t c = rw c.trunc-t.ensures (floor_below _ (subst T (sym c.well_formed.0.1) tt) (rw c.trunc-t.ensures at c.if-x-t.true))

pub returns-else-x-t : goal.returns-else-x-t
returns-else-x-t c = c.trunc-t.ensures ∙ floor_same _ (subst T (sym c.well_formed.0.1) tt) (rw c.trunc-t.ensures at c.if-x-t.false)
