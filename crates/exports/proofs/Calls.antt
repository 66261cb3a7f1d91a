-- A call of an export, as its contract has it; and below, a file for each module, what its caller gave and what it left, by name: the one place where a row
-- or a number is taken by its place in the list of arguments. Definitions only.
use Prim.Native.Nat.{ℕ}
use mathlib.Core.List.{List}
use contract.Lifetimes.{Lfts}
use denote.Triple.Clauses.{AtExit}
use borrow.Fn.Kinds.{ParamKind, ResultKind, Out, Dens, res_t, ended_of}
pub mod BothEditions
pub mod Cleaning
pub mod FromCubics
pub mod Glif
pub mod Glyph
pub mod IdleControls
pub mod Reasons
pub mod WrittenOut

-- whatever goes in (a), is handed back (r) and is left in the parameters (x), both in C's order, where the contract's promise holds of them
pub record Call (n : ℕ) (ps : List (ParamKind n)) (result : ResultKind n) (Post : Out n ps result) : Type 0 where
  pub κs : Lfts n
  pub a : Dens κs ps
  pub r : (res_t result κs).Denot
  pub x : AtExit (ended_of n ps result) κs
  pub said : Post κs a r x
