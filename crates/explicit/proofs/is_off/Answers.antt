-- `explicit::is_off` meets its contract. Assumes nothing.
use lib.IntN.{pos}
use native.Mathlib.Omega.{arith}
use borrow.Author.Rules.{sfits_of}
use Rattle.contour.specs.Implied.{number}
use Rattle.contour.proofs.Sixteen.{same_bits}
use Rattle.explicit.proofs.is_off.Goals as goal

pub returns : goal.returns
returns c = same_bits {w = mir.Syntax.w16} {a = number c.args.p 2} {b = pos 0} (sfits_of c.result-1.given) (record { sfits = omega arith })
