-- `runs::run_at` meets its contract. Assumes nothing.
use native.Mathlib.Numerals.{add-one}
use native.Mathlib.Omega.{arith}
use mathlib.Core.Path.{refl, sym}
use Rattle.runs.proofs.Listing.{run_is, run_past}
use borrow.Author.Rules.{rules}
use Rattle.runs.proofs.run_at.Goals as goal

pub returns-then-corners-eq0 : goal.returns-then-corners-eq0
returns-then-corners-eq0 c = sym (run_past _ _ (omega arith))

pub overflow_sub-corners : goal.overflow_sub-corners
overflow_sub-corners c = search rules

pub offset_bounds-corners-k : goal.offset_bounds-corners-k
offset_bounds-corners-k c = search rules

pub bounds-corners-k : goal.bounds-corners-k
bounds-corners-k c = search rules

pub offset_bounds-corners-k-then-k-corners : goal.offset_bounds-corners-k-then-k-corners
offset_bounds-corners-k-then-k-corners c = search rules

pub bounds-corners-k-then-k-corners : goal.bounds-corners-k-then-k-corners
bounds-corners-k-then-k-corners c = search rules

pub overflow_add-k : goal.overflow_add-k
overflow_add-k c = search rules

pub returns-then-k-corners : goal.returns-then-k-corners
returns-then-k-corners c = rw (run_is _ _ c.if-k-corners.true, c.gap-count.ensures, add-one) refl

pub returns : goal.returns
returns c = sym (run_past _ _ (omega arith))
