-- `glyfread::read::locate_points` meets its contract. Assumes nothing.
use Rattle.glyfread.specs.Steps.{ScanWithin}
use native.Mathlib.Omega.{arith}
use mathlib.Core.Path.{sym, ◌∙◌, subst}
use Rattle.glyfread.proofs.Parts.{no_flags, no_points_lem, stands}
use Rattle.glyfread.proofs.read.locate_points.Goals as goal

pub overflow_add-flags : goal.overflow_add-flags
overflow_add-flags c = omega (arith, c.requires.inside)

pub scan_flags-requires : goal.scan_flags-requires
scan_flags-requires c = (c.requires.inside, c.points_of-points.ensures.upper_bound)

pub returns-in_default : goal.returns-in_default
returns-in_default c = no_flags _ _ _ _ c.requires c.points_of-points.ensures.value (sym c.in_default.is ∙ c.scan_flags.ensures.value)

pub overflow_add-ys : goal.overflow_add-ys
overflow_add-ys c = let w = subst (ScanWithin _) c.in-Some.is c.scan_flags.ensures.scan_within in omega arith

pub overflow_add-ys-2 : goal.overflow_add-ys-2
overflow_add-ys-2 c = let w = subst (ScanWithin _) c.in-Some.is c.scan_flags.ensures.scan_within in omega arith

pub returns-then-bytes-ys : goal.returns-then-bytes-ys
returns-then-bytes-ys c = no_points_lem _ _ _ _ c.requires c.points_of-points.ensures.value (sym c.in-Some.is ∙ c.scan_flags.ensures.value) c.if-bytes-ys.true

pub returns : goal.returns
returns c = stands _ _ _ _ c.requires c.points_of-points.ensures.value (sym c.in-Some.is ∙ c.scan_flags.ensures.value) c.if-bytes-ys.false
