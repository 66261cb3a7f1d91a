-- `cubics::put_place` meets its contract. Assumes nothing.
use Prim.Native.Nat.{◌^◌}
use mathlib.Core.Path.{refl, sym, ◌∙◌}
use lib.IntN.{pos}
use Rattle.halving.specs.Cubic.{point}
use Rattle.cubics.proofs.Making.{makes_none, as_stored, kept, not_outside, outside_point_lem, place_on, place_pair, place_none, place_zero}
use Rattle.halving.proofs.Halving.{reach_five}
use borrow.Author.Rules.{sfits_of}
use native.Mathlib.Omega.{arith}
use Rattle.cubics.proofs.put_place.Goals as goal
use Rattle.cubics.proofs.put_place.Goals.{else-i-gt0-via-then-i-gt0+else-on_at-2, else-i-gt0-via-else-i-gt0}

pub returns-then-on_at : goal.returns-then-on_at
returns-then-on_at c =
    let fx = not_outside c.coordinate.result (sfits_of c.coordinate.type_inv) in
    let fy = not_outside c.coordinate-then-on_at.result (sfits_of c.coordinate-then-on_at.type_inv) in
    rw (place_on c.args.xs.now c.args.ys.now c.args.flags.now c.args.i (sym c.on_at.ensures ∙ c.if-on_at.true), ← c.coordinate.ensures, ← c.coordinate-then-on_at.ensures)
    (c.put.ensures (point c.coordinate.result c.coordinate-then-on_at.result (pos 1))
    (as_stored c.coordinate.result c.coordinate-then-on_at.result (pos 1) c.coordinate.result c.coordinate-then-on_at.result (pos 1) (kept c.coordinate.result fx) (kept c.coordinate-then-on_at.result fy) refl)
    (sym (outside_point_lem c.coordinate.result c.coordinate-then-on_at.result (pos 1) refl ∙ rw (fx, fy))))

pub returns-then-on_at-2 : goal.returns-then-on_at-2
returns-then-on_at-2 c =
    rw (place_pair c.args.xs.now c.args.ys.now c.args.flags.now c.args.i (sym c.on_at.ensures ∙ c.if-on_at.false) (sym c.on_at-then-i-gt0.ensures ∙ c.if-on_at-2.true))
    (c.between.ensures _ 0 (2 ^ 15) reach_five c.cubic_at.ensures)

pub returns : goal.returns
returns c =
    let off = sym c.on_at.ensures ∙ c.if-on_at.false in elim c.else-i-gt0.branch [
      | else-i-gt0-via-then-i-gt0+else-on_at-2 w ↦
          rw (place_none c.args.xs.now c.args.ys.now c.args.flags.now c.args.i off (sym w.on_at-then-i-gt0.ensures ∙ w.if-on_at-2.false))
          (makes_none c.args.points.now c.args.m c.requires.1)
      | else-i-gt0-via-else-i-gt0 w ↦
          rw (place_zero c.args.xs.now c.args.ys.now c.args.flags.now c.args.i off (omega (arith, w.if-i-gt0.false)))
          (makes_none c.args.points.now c.args.m c.requires.1)
    ]
