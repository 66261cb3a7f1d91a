use Prim.Native.Nat.{ℕ, ◌+◌}
use native.Mathlib.Omega.{arith}
use mathlib.Core.Path.{refl, ap}
use Rattle.refusals.proofs.Passing.{handed_up}
use Rattle.glyphs.proofs.Going.{start, part, in_points, refuses, fits_after, again, ended}
use Rattle.glyphs.proofs.contours.crunch_contours.Goals as goal

pub loop-k-init : goal.loop-k-init
loop-k-init c = (refl, start _ _ _ _ _ _ _ _ refl c.requires)

pub crunch_part-requires : goal.crunch_part-requires
crunch_part-requires c = record { part = part _ _ _ _ _ _ _ c.loop-k.invariant.1 (rw c.loop-k.invariant.1.same c.loop-k-test.true) c.requires _ (ap (λ (n : ℕ). n + 1) c.wide-to.ensures.value); at_in_bounds = in_points _ _ _ _ _ _ _ c.loop-k.invariant.1 (rw c.loop-k.invariant.1.same c.loop-k-test.true) }

pub returns-in_err-part : goal.returns-in_err-part
returns-in_err-part c = rw (handed_up c.from_residual.result _ c.from_residual.ensures.1) (refuses _ _ _ _ _ _ _ c.loop-k.invariant.1 (rw c.loop-k.invariant.1.same c.loop-k-test.true) c.loop-k.invariant.0 _ (ap (λ (n : ℕ). n + 1) c.wide-to.ensures.value) c.crunch_part.ensures.adds c.in_err-part.was)

pub overflow_add-at : goal.overflow_add-at
overflow_add-at c = let few = fits_after _ _ _ _ _ _ _ c.loop-k.invariant.1 (rw c.loop-k.invariant.1.same c.loop-k-test.true) c.loop-k.invariant.0 _ (ap (λ (n : ℕ). n + 1) c.wide-to.ensures.value) c.crunch_part.ensures.adds c.in_ok-part.was c.crunch_part.auto.points in omega (arith, few, c.crunch_part.ensures.points_bound, c.loop-k.invariant.1.long)

pub loop-k-preserved : goal.loop-k-preserved
loop-k-preserved c = (
  rw (c.crunch_part.auto.samples, c.crunch_part.auto.breaks, c.crunch_part.auto.answers, c.crunch_part.auto.links) c.loop-k.invariant.0,
  again _ _ _ _ _ _ _ c.loop-k.invariant.1 (rw c.loop-k.invariant.1.same c.loop-k-test.true) c.loop-k.invariant.0 _ (ap (λ (n : ℕ). n + 1) c.wide-to.ensures.value) c.crunch_part.ensures.adds c.in_ok-part.was _ c.last_of.ensures c.crunch_part.auto.points,
)

pub returns : goal.returns
returns c = ended _ _ _ _ _ _ _ c.loop-k.invariant.1 (rw c.loop-k.invariant.1.same c.loop-k-test.false)
