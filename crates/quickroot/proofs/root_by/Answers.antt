-- `quickroot::root_by` meets its contract: digits that pass both tests are the root's, by the law `root_is`. Assumes nothing.
-- the radicand's digits, with one more where the exponent is odd
use Rattle.std.proofs.Common.{ℕ, ◌+◌, ◌*◌, ◌/◌, ◌^◌, ◌<◌, ◌∙◌, div-le_self, arith}
use lib.Bits.{and_mask, mask_lt}
use Rattle.quickroot.proofs.Normals.{root_is}
use Rattle.quickroot.proofs.root_by.Goals as goal

few : (m r : ℕ) → m < 2 ^ 52 → (m + 2 ^ 52) * 2 / 2 ^ r < 2 ^ 54
few m r h = omega (arith, div-le_self ((m + 2 ^ 52) * 2) (2 ^ r))

pub overflow_add-m : goal.overflow_add-m
overflow_add-m c = omega (arith, mask_lt c.pattern-b.result 52)

pub overflow_mul-m : goal.overflow_mul-m
overflow_mul-m c = omega (arith, mask_lt c.pattern-b.result 52)

pub strays-requires : goal.strays-requires
strays-requires c =
    (few _ _ (mask_lt c.pattern-b.result 52), c.digits-p.ensures.0, c.digits-p.ensures.1)

pub returns-then-strays-eq0 : goal.returns-then-strays-eq0
returns-then-strays-eq0 c =
    let nearest = rw (and_mask c.pattern-b.result 52) at (c.strays.ensures c.if-strays-eq0.true) in
    let normal = c.outside.ensures c.if-outside-eq0.true in
    c.from_digits.ensures ∙ root_is _ c.pattern-b.result c.digits-p.result c.pattern-b.ensures normal nearest
