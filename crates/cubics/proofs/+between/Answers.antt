use Rattle.std.proofs.Common.{◌≡◌, true, false, [], ◌∷◌, ◌+◌, ◌*◌, sym, ◌∙◌}
use Rattle.halving.specs.Cubic.{first_part, second_part, bent, start_point}
use Rattle.halving.specs.Exact.{ExactCubic}
use Rattle.halving.proofs.Halving.{first_part_lem, second_part_lem, bent_part, reach_roomy, roomy_less}
use Rattle.cubics.proofs.Making.{makes_more, reach_next, none_left, not_halved, halved}
use Rattle.cubics.proofs.+between.Goals as goal
use Rattle.cubics.proofs.+between.Goals.{then-left-eq0-via-then-left-eq0, then-left-eq0-via-else-left-eq0+then-not-is_bent}

pub returns-then-left-eq0 : goal.returns-then-left-eq0
returns-then-left-eq0 t c = λ n e b reach v. elim c.then-left-eq0.branch [
  | then-left-eq0-via-then-left-eq0 w ↦ rw (none_left c.args.left e n w.if-left-eq0.true) (c.put_control.ensures n e b (reach_roomy reach) v)
  | then-left-eq0-via-else-left-eq0+then-not-is_bent w ↦
      (let flat : bent e n ≡ false = sym (bent_part (roomy_less (reach_roomy reach)) v) ∙ sym w.is_bent.ensures ∙ w.if-not-is_bent.true in
      rw (not_halved c.args.left e n flat) (c.put_control.ensures n e b (reach_roomy reach) v))
]

pub returns : goal.returns
returns t c = λ n e b reach v.
    let room = roomy_less (reach_roomy reach) in
    let less = reach_next c.args.left c.if-left-eq0.false reach in
    let full : bent e n ≡ true = sym (bent_part room v) ∙ sym c.is_bent.ensures ∙ c.if-not-is_bent.false in
    let first = c.between-first.ensures (first_part n) (e + 3) (8 * b) less (rw c.first.ensures (first_part_lem room v)) in
    let second : ExactCubic c.second-second.result (second_part n) (e + 3) (8 * b) = rw c.second-second.ensures (second_part_lem room v) in
    let met = c.put_start-met.ensures (second_part n) (e + 3) (8 * b) (roomy_less (reach_roomy less)) second in
    let rest = c.between.ensures (second_part n) (e + 3) (8 * b) less second in
    rw (halved c.args.left e n c.if-left-eq0.false full)
    (makes_more _ _ c.between-first.auto.points first (makes_more (start_point (e + 3) (second_part n) ∷ []) _ c.put_start-met.auto.points met rest))
