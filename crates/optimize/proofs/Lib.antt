-- What the proofs share, leaves first: the functions over one stored answer; what a store keeps and makes; one attempt; one pair;
-- the phases; pairs that are passed over; marks; what stands at the last break; rows with no answer yet; a run with one break, which `pieces`
-- cites; what each pair keeps; which controls are stored; the walk with a visitor.
mod Leaves
mod Held
mod Attempt
mod Trying
mod Phases
mod Idle
mod Marking
mod Solving
mod Fresh
pub mod FewFall
pub mod One
pub mod Compare
pub mod Good
pub mod Unchanged
pub mod WholeUnits
pub mod Walk
pub mod Seen
pub mod Controls
