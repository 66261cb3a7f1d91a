use Rattle.std.proofs.Common.{◌≡◌, min, Some, sym, ap, ◌∙◌, arith}
use Rattle.lines.specs.Steps.{size_of}
use Rattle.lines.proofs.Reading.{low, high, digit, all, some_digits, no_digits_lem}
use Rattle.lines.proofs.word.read_size.Goals.{then-b-lt48-via-then-b-lt48, then-b-lt48-via-else-b-lt48+then-b-gt57}
use Rattle.lines.proofs.word.read_size.Goals as goal

pub returns-then-digits-eq0 : goal.returns-then-digits-eq0
unfolding size_of
returns-then-digits-eq0 c = sym (ap size_of (no_digits_lem _ c.if-digits-eq0.true))

pub loop-b-init : goal.loop-b-init
loop-b-init c = (omega arith, ap size_of (some_digits _ c.if-digits-eq0.false))

pub returns-then-b-lt48 : goal.returns-then-b-lt48
returns-then-b-lt48 c =
    let inv = c.loop-b.invariant.1 in
    elim c.then-b-lt48.branch [
      | then-b-lt48-via-then-b-lt48 w ↦ sym (inv ∙ low _ _ _ c.loop-b-test.true w.if-b-lt48.true)
      | then-b-lt48-via-else-b-lt48+then-b-gt57 w ↦ sym (inv ∙ high _ _ _ c.loop-b-test.true w.if-b-gt57.true)
    ]

pub loop-b-preserved : goal.loop-b-preserved
loop-b-preserved c = (
  omega arith,
  c.loop-b.invariant.1 ∙ digit _ _ _ _ c.loop-b-test.true c.if-b-lt48.false c.if-b-gt57.false (omega arith),
)

pub returns : goal.returns
returns c =
    let inv = c.loop-b.invariant in
    let small : min c.loop-b.v 4294967296 ≡ c.loop-b.v = omega arith in
    sym (inv.1 ∙ all _ _ _ c.loop-b-test.false ∙ ap (λ v. Some v) small)
