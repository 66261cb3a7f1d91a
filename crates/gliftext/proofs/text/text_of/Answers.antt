-- `gliftext::text::text_of` meets its contract. Assumes nothing.
use Rattle.gliftext.specs.Text.{texted}
use Rattle.gliftext.proofs.text.text_of.Goals as goal

pub returns : goal.returns
unfolding texted
returns c = rw (
  c.either.ensures,
  c.count_attributes.ensures,
  c.wrong_text-wrong.ensures,
  c.say-d.ensures,
  c.point_of-point.ensures,
  c.value_of-value.ensures,
  c.refer-r.ensures,
  c.name_of-name.ensures,
  c.eq-4.ensures,
  c.eq-3.ensures,
  c.name_of-tag.ensures,
  c.eq-2.ensures,
  c.eq.ensures,
)
