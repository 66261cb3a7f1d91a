-- The greatest of a row or the least, by one name. Definitions only.
use Rattle.std.specs.Prelude.{Bool, true, false, List, ℤ}
use Rattle.std.specs.Int.Signed.{le_z}
use Rattle.glyf.specs.Layout.{pick, least_from, greatest_from, least, greatest}

unfoldable pub further : Bool → ℤ → ℤ → ℤ
further true z x = pick (le_z x z) z x
further false z x = pick (le_z z x) z x

unfoldable pub outermost_from : Bool → ℤ → List ℤ → ℤ
outermost_from true z xs = greatest_from z xs
outermost_from false z xs = least_from z xs

unfoldable pub outermost : Bool → List ℤ → ℤ
outermost true xs = greatest xs
outermost false xs = least xs
