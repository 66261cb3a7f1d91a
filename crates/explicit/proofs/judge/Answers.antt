-- `explicit::judge` meets its contract. Assumes nothing.
use mathlib.Core.Path.{sym, ◌∙◌}
use borrow.Author.Tests.{eq-eqb, ne_eqb}
use lib.ListN.{length}
use Rattle.explicit.specs.Explicit.{first_on}
use Rattle.explicit.specs.Entry.{judged_rows}
use Rattle.explicit.proofs.Turning.{none_on_lem}
use Rattle.explicit.proofs.judge.Goals as goal

pub returns-then-rows_differ : goal.returns-then-rows_differ
unfolding judged_rows
returns-then-rows_differ c = rw (← c.rows_differ.ensures, c.if-rows_differ.true)

pub returns-then-no_point : goal.returns-then-no_point
unfolding judged_rows
returns-then-no_point c = rw (← c.rows_differ.ensures, c.if-rows_differ.false, ← c.no_point.ensures, c.if-no_point.true)

pub returns-then-first_on-flags : goal.returns-then-first_on-flags
unfolding judged_rows
returns-then-first_on-flags c =
    rw (← c.rows_differ.ensures, c.if-rows_differ.false, ← c.no_point.ensures, c.if-no_point.false, none_on_lem c.args.flags.now, eq-eqb (first_on c.args.flags.now) (length c.args.flags.now) (sym c.first_on.ensures ∙ c.if-first_on-flags.true))

pub returns : goal.returns
unfolding judged_rows
returns c =
    rw (← c.rows_differ.ensures, c.if-rows_differ.false, ← c.no_point.ensures, c.if-no_point.false, none_on_lem c.args.flags.now, ne_eqb (first_on c.args.flags.now) (length c.args.flags.now) (λ e. c.if-first_on-flags.false (c.first_on.ensures ∙ e)))
