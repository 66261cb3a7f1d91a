-- `gliftext::text::value_of` meets its contract. Assumes nothing.
use Rattle.gliftext.specs.Text.{valued}
use Rattle.gliftext.proofs.text.value_of.Goals as goal

pub returns : goal.returns
unfolding valued
returns c = rw (
  c.pick-5.ensures,
  c.pick-4.ensures,
  c.push.ensures,
  c.pick-3.ensures,
  c.no_number.ensures,
  c.pick-fed.ensures,
  c.feed_number.ensures,
  c.narrow-c.ensures,
  c.pick-2.ensures,
  c.pick.ensures,
  c.named_char.ensures,
  c.eq-7.ensures,
  c.eq-6.ensures,
  c.either-goes.ensures,
  c.either.ensures,
  c.eq-5.ensures,
  c.eq-4.ensures,
  c.eq-3.ensures,
  c.either-begins.ensures,
  c.eq-2.ensures,
  c.eq.ensures,
)
