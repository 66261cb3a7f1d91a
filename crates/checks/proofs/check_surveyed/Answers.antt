-- `checks::check_surveyed` meets its contract. Assumes nothing.
use mathlib.Core.Path.{refl}
use borrow.Author.Tests.{lt-ltb, le-ltb}
use Rattle.checks.proofs.check_surveyed.Goals as goal

pub returns-then-half-breaks : goal.returns-then-half-breaks
returns-then-half-breaks c = rw (lt-ltb _ _ c.if-half-breaks.true) c.refused.ensures

pub returns : goal.returns
returns c =
    rw (le-ltb _ _ c.if-half-breaks.false, ← c.per_piece.ensures, ← c.check-c.ensures.0, ← c.check-c.ensures.1, ← c.verdict_of.ensures) refl
