-- What W7 asks to be proved of a contour of cubics, as types; a theorem of proofs/Through is of each. Statements only.
use Rattle.std.specs.Prelude.{ℕ, List, ◌≡◌, ℤ, Ok}
use Rattle.refusals.specs.Refusals.{judged}
use Rattle.rows.specs.Lent.{Inputs}
use Rattle.rows.specs.Sixteen.{SixteenBits}
use Rattle.contour.specs.Output.{column, flags}
use Rattle.halving.specs.Depth.{Depth}
use Rattle.cubics.specs.Replacing.{curve_at}
use Rattle.cubics.specs.Entry.{points_of, whole_of}

-- The quads enter the base: those of a contour that is let through are refused by none of 1 to 5.
abbrev pub QuadsEnterTheBase : Type 0
QuadsEnterTheBase =
    (i : Inputs) (room n : ℕ) → whole_of i room ≡ Ok n →
    judged (column 0 (points_of i)) (column 1 (points_of i)) (flags (points_of i)) ≡ Ok tt

-- All parts of each cubic of 16-bit points have one depth, of at most five halvings.
abbrev pub EachHasOneDepth : Type 0
EachHasOneDepth = (xs ys : List ℤ) (n i : ℕ) → SixteenBits xs → SixteenBits ys → (d : ℕ) × Depth (curve_at xs ys n i) d
