-- `fontcrunch::chain_report` meets its contract. Assumes nothing.
use mathlib.Core.Path.{sym, ◌∙◌}
use Rattle.fontcrunch.proofs.Reports.{chain_refused, chain_unchanged, pieces_are, refused_double, unchanged_double, pieces_double}
use Rattle.fontcrunch.proofs.chain_report.Goals as goal

pub returns-in-Err : goal.returns-in-Err
returns-in-Err c = record { is = rw c.number.ensures (chain_refused c.in-Err.is); double = refused_double c.in-Err.is }

pub returns-in-Ok-Unchanged : goal.returns-in-Ok-Unchanged
returns-in-Ok-Unchanged c = record {
  is = chain_unchanged c.in-Ok-Unchanged.is (rw c.in-Ok-Unchanged.is at c.in-Ok-Unchanged.field-0-is);
  double = unchanged_double c.in-Ok-Unchanged.is (rw c.in-Ok-Unchanged.is at c.in-Ok-Unchanged.field-0-is);
}

pub returns-in-Ok-Pieces : goal.returns-in-Ok-Pieces
returns-in-Ok-Pieces c = record {
  is = c.pieces_report.ensures.is ∙ sym (pieces_are c.in-Ok-Pieces.is (rw c.in-Ok-Pieces.is at c.in-Ok-Pieces.field-0-is));
  double = pieces_double c.in-Ok-Pieces.is (rw c.in-Ok-Pieces.is at c.in-Ok-Pieces.field-0-is) c.pieces_report.ensures.double;
}
