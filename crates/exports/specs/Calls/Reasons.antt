-- Calls of fontcrunch_why, and what it promises. Definitions and statements; the theorems stand in proofs/Stated/Reasons.
use Rattle.std.specs.Prelude.{ℕ, ◌/◌, ◌%◌, Bool, true, false, List, ◌≡◌, ℤ, Result, Ok, Err}
use Rattle.refusals.specs.Number.{number_of}
use Rattle.refusals.specs.declared.refusal.Refusal.{Refusal}
use Rattle.rows.specs.Lent.{Inputs, inputs, Shown}
use Rattle.why.specs.Entry.{why_of, Promise}
use Rattle.why.specs.declared.Marks.{Marks}
use Rattle.exports.specs.Reasons as Reports
use Rattle.exports.specs.declared.reasons.WhyReport.{WhyReport}

pub record WhyGiven : Type 0 where
  pub xs : List ℤ
  pub ys : List ℤ
  pub flags : List ℕ
  pub k : ℕ

pub record WhyLeft : Type 0 where
  pub report : WhyReport

abbrev pub why_contour : WhyGiven → Inputs
why_contour g = inputs g.xs g.ys g.flags

-- the promise of the entry that tells reasons, for what the caller gave
pub record WhyIs (g : WhyGiven) (l : WhyLeft) : Type 0 where
  pub shown : Shown Reports.report (Promise (why_contour g) g.k) l.report

-- what the definition of reasons gives, for what the caller gave
abbrev pub why_defined : WhyGiven → Result Marks Refusal
why_defined g = why_of (why_contour g) g.k

abbrev pub bit : Bool → ℕ
bit true = 1
bit false = 0

-- the binary digits of a number, the last first, are the reasons in the header's order
pub record Digits (m : Marks) (n : ℕ) : Type 0 where
  pub x : n % 2 ≡ bit m.x
  pub y : n / 2 % 2 ≡ bit m.y
  pub before : n / 4 % 2 ≡ bit m.before
  pub after : n / 8 % 2 ≡ bit m.after
  pub angle : n / 16 ≡ bit m.angle

-- the report of a refusal shows its number and nothing else; else a binary digit for each reason
abbrev pub WhyShows : Result Marks Refusal → WhyReport → Type 0
WhyShows (Err k) r = (r.number ≡ number_of k) × (r.reasons ≡ 0)
WhyShows (Ok m) r = (r.number ≡ 0) × Digits m r.reasons

-- one contour and one segment. No row is lent to be written, so that this is all that is given
pub record WhyAlike (g g' : WhyGiven) : Type 0 where
  pub contour : why_contour g ≡ why_contour g'
  pub segment : g.k ≡ g'.k
