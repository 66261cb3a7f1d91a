use Rattle.std.proofs.Common.{◌≡◌, ◌∙◌, rules, to_z, of_z, w16}
use Rattle.lines.proofs.Texts.{joined}
use Rattle.lines.proofs.Digits.{below_zero_lem, from_zero_lem}
use Rattle.lines.proofs.put.put_signed.Goals as goal

pub returns-then-v-lt0 : goal.returns-then-v-lt0
returns-then-v-lt0 c =
    let v : to_z w16 (of_z w16 c.args.v) ≡ c.args.v = search rules in
    rw (below_zero_lem v c.if-v-lt0.true (c.from-size.ensures ∙ c.unsigned_abs.ensures.value)) (joined c.put_byte-a.ensures c.put_number.ensures)

pub returns : goal.returns
returns c =
    let v : to_z w16 (of_z w16 c.args.v) ≡ c.args.v = search rules in
    rw (from_zero_lem v c.if-v-lt0.false (c.from-size.ensures ∙ c.unsigned_abs.ensures.value)) c.put_number-2.ensures
