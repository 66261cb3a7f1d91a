-- `contour::wrapping_add_i16` meets its contract, by the laws of proofs/Sixteen.antt. Assumes nothing.
use Rattle.contour.proofs.Sixteen.{cut_is, above, beneath, between}
use Rattle.contour.proofs.wrapping_add_i16.Goals as goal

pub returns-then-s-gt32767 : goal.returns-then-s-gt32767
returns-then-s-gt32767 c = cut_is c.ranges.a c.ranges.b _ (above c.ranges.a c.ranges.b c.if-s-gt32767.true)

pub returns-then-s-ltminus32768 : goal.returns-then-s-ltminus32768
returns-then-s-ltminus32768 c = cut_is c.ranges.a c.ranges.b _ (beneath c.ranges.a c.ranges.b c.if-s-ltminus32768.true)

pub returns : goal.returns
returns c = cut_is c.ranges.a c.ranges.b _ (between c.ranges.a c.ranges.b c.if-s-gt32767.false c.if-s-ltminus32768.false)
