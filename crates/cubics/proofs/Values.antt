-- Worked values, by computing the definitions. Assumes nothing.
use Rattle.std.specs.Prelude.{Ok, Err}
use Rattle.refusals.specs.declared.refusal.Refusal.TheVariants.{OffCurveNeighbours, Outside16Bits}
use Prim.Native.Nat.{ℕ}
use mathlib.Core.List.{List, [], ◌∷◌}
use mathlib.Core.Path.{◌≡◌, refl}
use lib.IntN.{ℤ, pos, negsuc}
use Rattle.rows.specs.Lent.{inputs}
use Rattle.halving.specs.Cubic.{point, between}
use Rattle.cubics.specs.Replacing.{points_to, outside_point, any_outside}
use Rattle.cubics.specs.Refusing.{unpaired_from, judged_cubics}
use Rattle.cubics.specs.Entry.{points_of, whole_of}

row : ℤ → ℤ → ℤ → ℤ → List ℤ
row a b c d = a ∷ b ∷ c ∷ d ∷ []

still : List ℤ
still = pos 0 ∷ pos 0 ∷ pos 0 ∷ pos 0 ∷ []

pair : List ℕ
pair = 1 ∷ 0 ∷ 0 ∷ 1 ∷ []

-- a third difference of 8 is not halved; one of 9 is
eight : points_of (inputs (row (pos 0) (pos 0) (pos 0) (pos 8)) still pair) ≡ point (pos 0) (pos 0) (pos 1) ∷ point (negsuc 1) (pos 0) (pos 0) ∷ point (pos 8) (pos 0) (pos 1) ∷ []
unfolding row still pair points_to between
eight = refl

nine : points_of (inputs (row (pos 0) (pos 0) (pos 0) (pos 9)) still pair)
    ≡ point (pos 0) (pos 0) (pos 1) ∷ point (pos 0) (pos 0) (pos 0) ∷ point (pos 1) (pos 0) (pos 1) ∷ point (pos 3) (pos 0) (pos 0) ∷ point (pos 9) (pos 0) (pos 1) ∷ []
unfolding row still pair points_to between
nine = refl

-- a control outside 16 bits; 32767.25 passes, 32767.5 does not
outside_by_far : whole_of (inputs (row (negsuc 32767) (pos 32767) (pos 32767) (negsuc 32767)) still pair) 1024 ≡ Err Outside16Bits
unfolding row still pair points_to between outside_point any_outside unpaired_from judged_cubics
outside_by_far = refl

a_quarter : whole_of (inputs (row (pos 32766) (pos 32767) (pos 32767) (pos 32767)) still pair) 1024 ≡ Ok 3
unfolding row still pair points_to between outside_point any_outside unpaired_from judged_cubics
a_quarter = refl

a_half : whole_of (inputs (row (pos 32766) (pos 32767) (pos 32767) (pos 32766)) still pair) 1024 ≡ Err Outside16Bits
unfolding row still pair points_to between outside_point any_outside unpaired_from judged_cubics
a_half = refl

-- a last pair leads back to the start, which is not written again
closing : points_of (inputs (pos 0 ∷ pos 2 ∷ pos 2 ∷ []) (pos 0 ∷ pos 0 ∷ pos 2 ∷ []) (1 ∷ 0 ∷ 0 ∷ [])) ≡ point (pos 0) (pos 0) (pos 1) ∷ point (pos 3) (pos 2) (pos 0) ∷ []
unfolding points_to between
closing = refl

-- 5 before 17: three in a stretch
three : whole_of (inputs (row (pos 0) (pos 1) (pos 1) (pos 1)) still (1 ∷ 0 ∷ 0 ∷ 0 ∷ [])) 1024 ≡ Err OffCurveNeighbours
unfolding row still points_to between outside_point any_outside unpaired_from judged_cubics
three = refl
