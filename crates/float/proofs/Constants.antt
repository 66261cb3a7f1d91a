-- The constants of the documents are what specs/Constants says, by computation. Assumes nothing.
use Rattle.std.proofs.Common.{refl}
use lib.Ieee.{of_bits, round, div}
use Rattle.float.specs.Float.{tiny}
use Rattle.float.specs.Constants.{NumbersAreExact, NumbersAreNearest}

pub numbers_are_exact : NumbersAreExact
unfolding of_bits
numbers_are_exact = (
  (refl, refl),
  (
    (refl, refl),
    (
      (refl, refl),
      (
        (refl, refl),
        (
          (refl, refl),
          (
            (refl, refl),
            ((refl, refl), ((refl, refl), ((refl, refl), ((refl, refl), ((refl, refl), ((refl, refl), tt)))))),
          ),
        ),
      ),
    ),
  ),
)

pub numbers_are_nearest : NumbersAreNearest
unfolding of_bits round div tiny
numbers_are_nearest = (refl, (refl, (refl, (refl, (refl, tt)))))
