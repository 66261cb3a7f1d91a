-- Which numbers are on whole units, and what closeness says of them: theorems for the breaks and the pieces. Assumes nothing.
use mathlib.Core.Path.{◌≡◌, refl}
use mathlib.Core.Bool.{true, false}
use lib.Dec.{T}
use lib.Ieee.{Float, nan, inf, fin, binary64, fits, sub, lt, round, of_bits}
use lib.Ieee.Fits.{and_l, and_r}
use lib.Ieee.Scale.{finite}
use Rattle.float.specs.Numbers.{nought}
use Rattle.float.specs.Float.{abs_of, tiny, close_to, whole_by, floor_of, round_of}
use Rattle.float.proofs.Exact.{round_floor}
use Rattle.float.proofs.Zeros.{IsZero, is_zero, zeros_sub, level_self, level_sub}
use Rattle.geometry.specs.Geometry.{is_int, is_whole, is_close, Finite}
use Rattle.geometry.specs.declared.Point.{Point}

-- ---- a rounded number is on whole units, where it is finite

pub nought_zero : IsZero nought
unfolding of_bits
nought_zero = is_zero false

zero_small : {x : Float} → IsZero x → lt (abs_of x) tiny ≡ true
unfolding abs_of tiny round lt
zero_small (is_zero s) = refl

pub zero_close : {x : Float} → IsZero x → close_to x nought ≡ true
unfolding close_to
zero_close z = zero_small (zeros_sub z nought_zero)

floor_int : (x : Float) → T (finite x) → floor_of x ≡ x → is_int x ≡ true
floor_int x t e = rw e (zero_close (level_sub (level_self x t)))

pub round_int : (x : Float) → T (fits binary64 x) → T (finite (round_of x)) → is_int (round_of x) ≡ true
round_int x f t = floor_int (round_of x) t (round_floor x f)

-- ---- what is on whole units is finite

pub int_finite : (x : Float) → T (is_int x) → T (finite x)
unfolding close_to whole_by abs_of sub lt
int_finite nan h = h
int_finite (inf true) h = h
int_finite (inf false) h = h
int_finite (fin s m e) h = tt

pub whole_finite : (p : Point) → is_whole p ≡ true → Finite p
whole_finite p e =
    let h : T (is_whole p) = rw e tt in
    (int_finite p.x (and_l (is_int p.x) (is_int p.y) h), int_finite p.y (and_r (is_int p.x) (is_int p.y) h))

-- ---- only a finite number is close to one

-- +∞ is below nothing
not_below : (y : Float) → T (lt (inf false) y) → ⊥
unfolding lt
not_below nan h = h
not_below (inf s) h = h
not_below (fin s m e) h = h

close_finite : (a b : Float) → T (close_to a b) → T (finite b)
unfolding close_to abs_of sub lt
close_finite a (fin s m e) h = tt
close_finite nan nan h = h
close_finite nan (inf s) h = h
close_finite (inf s) nan h = h
close_finite (inf true) (inf true) h = h
close_finite (inf false) (inf false) h = h
close_finite (inf true) (inf false) h = not_below tiny h
close_finite (inf false) (inf true) h = not_below tiny h
close_finite (fin s m e) nan h = h
close_finite (fin s m e) (inf t) h = not_below tiny h

pub near_finite : (p q : Point) → is_close p q ≡ true → Finite q
near_finite p q e =
    let in-x = close_to p.x q.x in
    let in-y = close_to p.y q.y in
    let h : T (is_close p q) = rw e tt in
    (close_finite p.x q.x (and_l in-x in-y h), close_finite p.y q.y (and_r in-x in-y h))
