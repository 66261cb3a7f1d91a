use Prim.Native.Nat.{◌+◌, ◌-◌, ◌≤◌}
use native.Mathlib.Omega.{arith}
use mathlib.Core.Path.{◌≡◌, refl, ◌∙◌}
use Rattle.optimize.proofs.Attempt.{readable}
use Rattle.optimize.proofs.Trying.{readable_to}
use Rattle.optimize.proofs.Idle.{passed}
use Rattle.optimize.proofs.skip_down.Goals as goal

pub offset_bounds-links-k : goal.offset_bounds-links-k
offset_bounds-links-k c = omega (arith, c.slot_of-k.ensures, (readable_to c.requires.0).few)

pub bounds-links-k : goal.bounds-links-k
bounds-links-k c = rw c.slot_of-k.ensures (readable_to c.requires.0).in_links

pub returns-then-links-k-eq0 : goal.returns-then-links-k-eq0
returns-then-links-k-eq0 c = (omega arith, λ f n st upto rep. refl)

pub offset_bounds-answers-k : goal.offset_bounds-answers-k
offset_bounds-answers-k c = omega (arith, c.slot_of-k.ensures, (readable_to c.requires.0).few)

pub bounds-answers-k : goal.bounds-answers-k
bounds-answers-k c = rw c.slot_of-k.ensures (readable_to c.requires.0).in_answers

pub is_idle-requires : goal.is_idle-requires
is_idle-requires c =
    let low : c.loop-from.from - 1 ≤ c.requires.0.last = omega (arith, c.loop-from.invariant.0, c.requires.1, c.requires.0.into.upto) in
    (omega (arith, c.requires.0.room.in_links), readable c.requires.0.room low (c.requires.0.rep.stands (c.loop-from.from - 1) low))

pub returns-then-not-is_idle : goal.returns-then-not-is_idle
returns-then-not-is_idle c =
    let here : c.loop-from.from - 1 + 1 ≡ c.loop-from.from = omega arith in
    rw here c.loop-from.invariant

pub loop-from-preserved : goal.loop-from-preserved
loop-from-preserved c = (
  omega (arith, c.loop-from.invariant.0),
  λ f n st upto rep.
      c.loop-from.invariant.1 f n st upto rep
      ∙ passed c.slot_of-k.ensures c.if-links-k-eq0.false c.loop-from-test.true (omega (arith, c.loop-from.invariant.0, c.requires.1))
      (c.is_idle.ensures c.if-not-is_idle.false) upto rep,
)

pub returns : goal.returns
returns c =
    let over : c.loop-from.from ≡ 0 = omega arith in
    rw over at c.loop-from.invariant
