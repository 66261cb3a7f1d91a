-- What a comparison that holds says of its sides: they are no NaN. Assumes nothing.
use Rattle.std.proofs.Common.{◌≡◌, true, false, not, T, refl, true≢false}
use mathlib.Core.Bool.{false≢true}
use lib.Ieee.{Float, nan, inf, fin, lt, ne, is_nan}

pub less : (x y : Float) → lt x y ≡ true → T (not (is_nan x))
unfolding lt is_nan
less nan y h = absurd (false≢true h)
less (inf s) y h = tt
less (fin s m e) y h = tt

pub more : (x y : Float) → lt x y ≡ true → T (not (is_nan y))
unfolding lt is_nan
more nan nan h = absurd (false≢true h)
more (inf s) nan h = absurd (false≢true h)
more (fin s m e) nan h = absurd (false≢true h)
more x (inf s) h = tt
more x (fin s m e) h = tt

-- only a NaN differs from itself
pub itself : (x : Float) → ne x x ≡ false → T (not (is_nan x))
unfolding ne is_nan
itself nan h = absurd (true≢false h)
itself (inf s) h = tt
itself (fin s m e) h = tt

pub only_nan : (x : Float) → is_nan x ≡ true → x ≡ nan
unfolding is_nan
only_nan nan h = refl
only_nan (inf s) h = absurd (false≢true h)
only_nan (fin s m e) h = absurd (false≢true h)
