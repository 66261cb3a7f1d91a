-- `explicit::implied` meets its contract. Assumes nothing.
use mathlib.Core.List.{[], ◌∷◌}
use lib.IntN.{pos}
use Rattle.contour.specs.Implied.{number}
use Rattle.explicit.proofs.Half.{middle_back}
use borrow.Author.Rules.{sfits_of}
use Rattle.explicit.proofs.implied.Goals as goal

pub returns : goal.returns
returns c =
    let x_is = middle_back (number c.args.p 0) (number c.args.q 0) (sfits_of c.middle-arg-1.given) (sfits_of c.middle-arg-2-1.given) (sfits_of c.middle.type_inv) c.middle.ensures in
    let y_is = middle_back (number c.args.p 1) (number c.args.q 1) (sfits_of c.middle-arg-3-1.given) (sfits_of c.middle-arg-4-1.given) (sfits_of c.middle-2.type_inv) c.middle-2.ensures in
    λ k. x_is k ∷ y_is k ∷ pos 1 ∷ []
