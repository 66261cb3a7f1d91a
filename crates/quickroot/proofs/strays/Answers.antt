-- `quickroot::strays` meets its contract, by the law `nearest`. Assumes nothing.
use Rattle.std.proofs.Common.{arith}
use lib.Bits.{and_mask}
use Rattle.quickroot.proofs.Tested.{aa_le, ac_le, cc_le, nearest}
use Rattle.quickroot.proofs.strays.Goals as goal

pub overflow_mul-a : goal.overflow_mul-a
overflow_mul-a c = omega (arith, aa_le c.args.p c.requires.2)

pub overflow_mul-a-2 : goal.overflow_mul-a-2
overflow_mul-a-2 c = rw (and_mask c.args.p 26) (omega (arith, ac_le c.args.p c.requires.2))

pub overflow_mul-a-3 : goal.overflow_mul-a-3
overflow_mul-a-3 c = rw (and_mask c.args.p 26) (omega (arith, ac_le c.args.p c.requires.2))

pub overflow_mul-c : goal.overflow_mul-c
overflow_mul-c c = rw (and_mask c.args.p 26) (omega (arith, cc_le c.args.p c.requires.2))

pub overflow_add-c : goal.overflow_add-c
overflow_add-c c = rw (and_mask c.args.p 26) (omega (arith, cc_le c.args.p c.requires.2))

pub returns : goal.returns
returns c =
    λ z. nearest c.args.p c.requires.2 c.args.n c.wrapping_sub_u64-d.result c.wrapping_sub_u64-e.result c.wrapping_sub_u64-f.result c.wrapping_sub_u64-g.result c.requires.0 c.requires.1 (omega arith) (omega arith) (omega arith) (omega arith)
    c.wrapping_sub_u64-d.ensures.value
    (rw (← and_mask c.args.p 26) c.wrapping_sub_u64-e.ensures.value)
    (rw (← and_mask c.args.p 26) c.wrapping_sub_u64-f.ensures.value)
    c.wrapping_sub_u64-g.ensures.value
