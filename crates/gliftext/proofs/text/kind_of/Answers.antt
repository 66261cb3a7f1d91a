-- `gliftext::text::kind_of` meets its contract. Assumes nothing.
use borrow.Author.Tests.{ne_eqb}
use native.Mathlib.Omega.{arith}
use Rattle.gliftext.specs.Pick.{pick}
use Rattle.gliftext.specs.Text.{kind_of}
use Rattle.gliftext.proofs.text.kind_of.Goals as goal

pub returns-in-1836021349 : goal.returns-in-1836021349
unfolding kind_of pick
returns-in-1836021349 c = rw c.in-1836021349.is

pub returns-in-1818848869 : goal.returns-in-1818848869
unfolding kind_of pick
returns-in-1818848869 c = rw c.in-1818848869.is

pub returns-in-427172197989 : goal.returns-in-427172197989
unfolding kind_of pick
returns-in-427172197989 c = rw c.in-427172197989.is

pub returns-in-124671986136677 : goal.returns-in-124671986136677
unfolding kind_of pick
returns-in-124671986136677 c = rw c.in-124671986136677.is

pub returns-in-8027215963192718949 : goal.returns-in-8027215963192718949
unfolding kind_of pick
returns-in-8027215963192718949 c = rw c.in-8027215963192718949.is

pub returns-in_default : goal.returns-in_default
unfolding kind_of pick
returns-in_default c = rw (
  ne_eqb c.args.word 1836021349 (λ e. omega (arith, e)),
  ne_eqb c.args.word 1818848869 (λ e. omega (arith, e)),
  ne_eqb c.args.word 427172197989 (λ e. omega (arith, e)),
  ne_eqb c.args.word 124671986136677 (λ e. omega (arith, e)),
  ne_eqb c.args.word 8027215963192718949 (λ e. omega (arith, e)),
)
