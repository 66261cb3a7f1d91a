-- `fontcrunch::pieces_report` meets its contract. Assumes nothing.
use mathlib.Core.Path.{refl, sym, subst}
use lib.Dec.{T}
use Rattle.fontcrunch.proofs.Reports.{chain_pieces}
use Rattle.fontcrunch.proofs.pieces_report.Goals as goal

pub returns : goal.returns
returns c = record { is = chain_pieces refl refl c.bits.ensures; double = subst T (sym c.well_formed.0.1) tt }
