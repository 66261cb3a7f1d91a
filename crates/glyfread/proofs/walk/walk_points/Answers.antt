use mir.Syntax.{w16}
use mir.Facts.{to_z-of_z}
use native.Mathlib.Omega.{arith}
use mathlib.Core.Path.{refl, subst}
use Rattle.glyfread.specs.Walks.{Advances}
use Rattle.glyfread.proofs.Filling.{walk_starts, walk_stops, walk_goes, walk_fits, walked, walked_none}
use Rattle.glyfread.proofs.walk.walk_points.Goals as goal

pub loop-i-init : goal.loop-i-init
loop-i-init c = walk_starts _ _ _ _ _ _

pub returns-in_default : goal.returns-in_default
returns-in_default c = let out = walk_stops c.loop-i.invariant c.loop-i-test.true (subst (Advances _ _) c.in_default.is c.advance.ensures) in
    record { value = out; walked = walked_none c.loop-i.invariant out }

pub loop-i-preserved : goal.loop-i-preserved
loop-i-preserved c = walk_goes c.loop-i.invariant c.loop-i-test.true (subst (Advances _ _) c.in-Some.is c.advance.ensures)
    (to_z-of_z {w = w16} {z = c.in-Some.v.x} (record { sfits = omega arith }))
    (to_z-of_z {w = w16} {z = c.in-Some.v.y} (record { sfits = omega arith })) refl
    c.store.ensures c.store-in-loop-i.ensures c.store-in-loop-i-2.ensures

pub returns : goal.returns
returns c = record { value = walk_fits c.loop-i.invariant c.loop-i-test.false; walked = walked c.loop-i.invariant c.loop-i-test.false }
