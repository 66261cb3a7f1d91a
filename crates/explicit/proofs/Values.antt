-- Contours by the definition, computed. Assumes nothing.
use Rattle.std.specs.Prelude.{Ok, Err}
use Rattle.refusals.specs.declared.refusal.Refusal.TheVariants.{OutputTooShort, NoOnCurve}
use mathlib.Core.List.{[], ◌∷◌}
use mathlib.Core.Path.{◌≡◌, refl}
use lib.IntN.{pos, negsuc}
use Rattle.rows.specs.Lent.{Inputs, inputs}
use Rattle.contour.specs.Points.{came_to}
use Rattle.halving.specs.Cubic.{point}
use Rattle.explicit.specs.Explicit.{first_on, after, put_in, middle, explicit_of, outline_of}
use Rattle.explicit.specs.Entry.{none_on, judged_rows, whole_of}

-- halves go away from zero, at the ends of 16 bits too
pub halves : (middle (pos 0) (pos 1) ≡ pos 1) × (middle (negsuc 2) (pos 0) ≡ negsuc 1) × (middle (negsuc 32767) (pos 32767) ≡ negsuc 0)
    × (middle (pos 32766) (pos 32767) ≡ pos 32767) × (middle (negsuc 32767) (negsuc 32766) ≡ negsuc 32767)
halves = (refl, refl, refl, refl, refl)

-- off (3, -3), on (8, 0), on (0, 0), off (0, 0): flags 2, 1, 129, 254
abbrev arch : Inputs
arch = inputs (pos 3 ∷ pos 8 ∷ pos 0 ∷ pos 0 ∷ []) (negsuc 2 ∷ pos 0 ∷ pos 0 ∷ pos 0 ∷ []) (2 ∷ 1 ∷ 129 ∷ 254 ∷ [])

-- from (8, 0) on, with the middle (1.5, -1.5) between the two off-curve ones
pub arch_written : explicit_of arch
    ≡ point (pos 8) (pos 0) (pos 1) ∷ point (pos 0) (pos 0) (pos 1) ∷ point (pos 0) (pos 0) (pos 0) ∷ point (pos 2) (negsuc 1) (pos 1)
    ∷ point (pos 3) (negsuc 2) (pos 0) ∷ []
unfolding came_to first_on after put_in
arch_written = refl

-- the middle is exact in half units: (3, -3), where (4, -4) is written
pub arch_outline : outline_of arch
    ≡ point (pos 16) (pos 0) (pos 1) ∷ point (pos 0) (pos 0) (pos 1) ∷ point (pos 0) (pos 0) (pos 0) ∷ point (pos 3) (negsuc 2) (pos 1)
    ∷ point (pos 6) (negsuc 5) (pos 0) ∷ []
unfolding came_to first_on after put_in
arch_outline = refl

-- five places suffice, and four do not; without its on-curve points it is refused by 21
pub arch_answered : (whole_of arch 5 ≡ Ok 5) × (whole_of arch 4 ≡ Err OutputTooShort)
unfolding came_to first_on after put_in none_on judged_rows
arch_answered = (refl, refl)

pub none_on_curve : whole_of (inputs (pos 3 ∷ pos 0 ∷ []) (pos 3 ∷ pos 0 ∷ []) (2 ∷ 254 ∷ [])) 9 ≡ Err NoOnCurve
unfolding none_on judged_rows
none_on_curve = refl
