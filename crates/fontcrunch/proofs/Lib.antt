-- What the proofs share; and the contracts of the exports as the check reads them.
mod Reports
mod Calls
mod Laws
mod Stated
mod Solved
mod Still
mod Ends
mod Curve
mod Lost
mod Table
