-- A call of an export, as its contract has it; and the calls of specs/Calls of it: the one place where a row or a number is taken by its place in the list of
-- arguments. Definitions only.
use Prim.Native.Nat.{ℕ}
use mathlib.Core.List.{List}
use contract.Lifetimes.{Lfts}
use denote.Triple.Clauses.{AtExit}
use borrow.Fn.Kinds.{ParamKind, ResultKind, Out, Dens, res_t, ended_of}
use Rattle.fontcrunch.specs.Calls.{CrunchGiven, CrunchLeft, ChainGiven, ChainLeft, CheckGiven, CheckLeft}
use Rattle.fontcrunch.proofs.fontcrunch_crunch.Kinds as crunchKinds
use Rattle.fontcrunch.proofs.fontcrunch_crunch.Reads as crunch
use Rattle.fontcrunch.proofs.fontcrunch_chain.Kinds as chainsKinds
use Rattle.fontcrunch.proofs.fontcrunch_chain.Reads as chains
use Rattle.fontcrunch.proofs.fontcrunch_check.Kinds as checkKinds
use Rattle.fontcrunch.proofs.fontcrunch_check.Reads as check

-- whatever goes in (a), is handed back (r) and is left in the parameters (x), both in C's order, where the contract's promise holds of them
pub record Call (n : ℕ) (ps : List (ParamKind n)) (result : ResultKind n) (Post : Out n ps result) : Type 0 where
  pub κs : Lfts n
  pub a : Dens κs ps
  pub r : (res_t result κs).Denot
  pub x : AtExit (ended_of n ps result) κs
  pub said : Post κs a r x

-- ---- fontcrunch_crunch

abbrev pub CrunchCall : Type 0
CrunchCall = Call 11 crunchKinds.ps crunchKinds.r crunch.Post

abbrev pub crunch_given : CrunchCall → CrunchGiven
crunch_given c = record {
  xs = c.a.0.now;
  ys = c.a.1.0.now;
  flags = c.a.1.1.0.now;
  penalty = c.a.1.1.1.0;
  whole_units = c.a.1.1.1.1.0;
  closed = c.a.1.1.1.1.1.0;
  ox = c.a.1.1.1.1.1.1.0.now;
  oy = c.a.1.1.1.1.1.1.1.0.now;
  of = c.a.1.1.1.1.1.1.1.1.0.now;
  samples = c.a.1.1.1.1.1.1.1.1.1.0.now;
  breaks = c.a.1.1.1.1.1.1.1.1.1.1.0.now;
  answers = c.a.1.1.1.1.1.1.1.1.1.1.1.0.now;
  links = c.a.1.1.1.1.1.1.1.1.1.1.1.1.0.now;
  points = c.a.1.1.1.1.1.1.1.1.1.1.1.1.1.0.now;
}

abbrev pub crunch_left : CrunchCall → CrunchLeft
crunch_left c = record {
  report = c.r;
  ox = c.x.1.1.1.1.1.1.0.now;
  oy = c.x.1.1.1.1.1.1.1.0.now;
  of = c.x.1.1.1.1.1.1.1.1.0.now;
  samples = c.x.1.1.1.1.1.1.1.1.1.0.now;
  breaks = c.x.1.1.1.1.1.1.1.1.1.1.0.now;
  answers = c.x.1.1.1.1.1.1.1.1.1.1.1.0.now;
  links = c.x.1.1.1.1.1.1.1.1.1.1.1.1.0.now;
  points = c.x.1.1.1.1.1.1.1.1.1.1.1.1.1.0.now;
}

-- ---- fontcrunch_chain

abbrev pub ChainCall : Type 0
ChainCall = Call 12 chainsKinds.ps chainsKinds.r chains.Post

abbrev pub chain_given : ChainCall → ChainGiven
chain_given c = record {
  xs = c.a.0.now;
  ys = c.a.1.0.now;
  flags = c.a.1.1.0.now;
  k = c.a.1.1.1.0;
  penalty = c.a.1.1.1.1.0;
  whole_units = c.a.1.1.1.1.1.0;
  closed = c.a.1.1.1.1.1.1.0;
  starts = c.a.1.1.1.1.1.1.1.0.now;
  ends = c.a.1.1.1.1.1.1.1.1.0.now;
  cxs = c.a.1.1.1.1.1.1.1.1.1.0.now;
  cys = c.a.1.1.1.1.1.1.1.1.1.1.0.now;
  spans = c.a.1.1.1.1.1.1.1.1.1.1.1.0.now;
  samples = c.a.1.1.1.1.1.1.1.1.1.1.1.1.0.now;
  breaks = c.a.1.1.1.1.1.1.1.1.1.1.1.1.1.0.now;
  answers = c.a.1.1.1.1.1.1.1.1.1.1.1.1.1.1.0.now;
  links = c.a.1.1.1.1.1.1.1.1.1.1.1.1.1.1.1.0.now;
}

abbrev pub chain_left : ChainCall → ChainLeft
chain_left c = record {
  report = c.r;
  starts = c.x.1.1.1.1.1.1.1.0.now;
  ends = c.x.1.1.1.1.1.1.1.1.0.now;
  cxs = c.x.1.1.1.1.1.1.1.1.1.0.now;
  cys = c.x.1.1.1.1.1.1.1.1.1.1.0.now;
  spans = c.x.1.1.1.1.1.1.1.1.1.1.1.0.now;
  samples = c.x.1.1.1.1.1.1.1.1.1.1.1.1.0.now;
  breaks = c.x.1.1.1.1.1.1.1.1.1.1.1.1.1.0.now;
  answers = c.x.1.1.1.1.1.1.1.1.1.1.1.1.1.1.0.now;
  links = c.x.1.1.1.1.1.1.1.1.1.1.1.1.1.1.1.0.now;
}

-- ---- fontcrunch_check

abbrev pub CheckCall : Type 0
CheckCall = Call 11 checkKinds.ps checkKinds.r check.Post

abbrev pub check_given : CheckCall → CheckGiven
check_given c = record {
  xs = c.a.0.now;
  ys = c.a.1.0.now;
  flags = c.a.1.1.0.now;
  k = c.a.1.1.1.0;
  penalty = c.a.1.1.1.1.0;
  whole_units = c.a.1.1.1.1.1.0;
  closed = c.a.1.1.1.1.1.1.0;
  starts = c.a.1.1.1.1.1.1.1.0.now;
  ends = c.a.1.1.1.1.1.1.1.1.0.now;
  cxs = c.a.1.1.1.1.1.1.1.1.1.0.now;
  cys = c.a.1.1.1.1.1.1.1.1.1.1.0.now;
  score = c.a.1.1.1.1.1.1.1.1.1.1.1.0;
  samples = c.a.1.1.1.1.1.1.1.1.1.1.1.1.0.now;
  breaks = c.a.1.1.1.1.1.1.1.1.1.1.1.1.1.0.now;
  answers = c.a.1.1.1.1.1.1.1.1.1.1.1.1.1.1.0.now;
  links = c.a.1.1.1.1.1.1.1.1.1.1.1.1.1.1.1.0.now;
}

abbrev pub check_left : CheckCall → CheckLeft
check_left c = record {
  report = c.r;
  samples = c.x.1.1.1.1.1.1.1.1.1.1.1.1.0.now;
  breaks = c.x.1.1.1.1.1.1.1.1.1.1.1.1.1.0.now;
  answers = c.x.1.1.1.1.1.1.1.1.1.1.1.1.1.1.0.now;
  links = c.x.1.1.1.1.1.1.1.1.1.1.1.1.1.1.1.0.now;
}
