-- Demand 3, for what C and Rust get: the first `pieces` places of the chain rows that the chain export leaves, with the score read back from its bits,
-- handed to the check export with scratch rows of the same lengths: number 0, accepted 1. Assumes nothing.
use Rattle.std.specs.Prelude.{ℕ, ◌<◌, List, ◌≡◌, refl, T, Float, length, Result, Ok, true}
use Rattle.std.proofs.Common.{arith, ap, subst, ◌∙◌}
use Rattle.std.specs.Float.{binary64}
use Rattle.std.specs.Float.Ieee.{of_bits, to_bits, fits}
use Rattle.std.specs.Float.Ieee.Bits.{of_bits-to_bits}
use Rattle.refusals.specs.declared.refusal.Refusal.{Refusal}
use Rattle.rows.specs.Lent.{Inputs, Shown}
use Rattle.settings.specs.declared.Settings.{Settings}
use Rattle.breaks.specs.Breaks.{Row}
use Rattle.optimize.specs.declared.Tally.{Tally}
use Rattle.edition.specs.Scratch.{Scratch, rooms_of}
use Rattle.chains.specs.Chains.{Outcome, refused, unchanged, chained}
use Rattle.chains.specs.Entry as Chains
use Rattle.chains.specs.Determine.{places_of}
use Rattle.chains.specs.declared.Chained.{Chained}
use Rattle.chain.specs.declared.Piece.{Piece}
use Rattle.checks.specs.Checks.{GivenChain}
use Rattle.checks.specs.Entry as Checks
use Rattle.checks.specs.declared.Ruling.{Ruling}
use Rattle.fontcrunch.specs.Accepted.{given_by, demand_three}
use Rattle.fontcrunch.specs.Exports.{check_report, ChainShown}
use Rattle.fontcrunch.specs.declared.ChainReport.{ChainReport}
use Rattle.fontcrunch.specs.declared.CheckReport.{CheckReport}

-- what the checker's export says of them
pub record Yes (v : CheckReport) : Type 0 where
  pub number : v.number ≡ 0
  pub accepted : v.accepted ≡ 1

module _ {i : Inputs} {settings : Settings} {k : ℕ} {c : Chains.LentChain} {w w' : Scratch} {r : ChainReport} {v : CheckReport}
    (said : ChainShown (Chains.Promise i settings k c w) r) (some : 0 < r.pieces) (same : rooms_of w.entry ≡ rooms_of w'.entry)
    (asked : Shown check_report (Checks.Promise i settings k (given_by (places_of r.pieces c.exit) (of_bits binary64 r.score_bits)) w') v) where
  abbrev pub whole : Outcome
  whole = Chains.whole_of i settings k c.entry w.entry

  abbrev breaks : Row
  breaks = Chains.breaks_in i settings k w.entry

  pieces_are : (o : Outcome) → whole ≡ o → r.pieces ≡ (Chains.report (Chains.answer_of o)).pieces
  pieces_are o e =
      ap (λ (x : ChainReport). x.pieces) said.shown.is
      ∙ ap (λ (a : Result Chained Refusal). (Chains.report a).pieces) (said.shown.promise.answer ∙ ap Chains.answer_of e)

  accepted_by : (ps : List Piece) (s : Float) (t : Tally) → whole ≡ chained ps s t → asked.answer.verdict ≡ Ok true
  accepted_by ps s t e =
      let answer : said.shown.answer ≡ (Ok (Chained.Pieces (length ps) s t)) = said.shown.promise.answer ∙ ap Chains.answer_of e in
      let fit : T (fits binary64 s) = subst (λ (a : Result Chained Refusal). T (fits binary64 (Chains.report a).score)) answer said.double in
      let bits : r.score_bits ≡ to_bits binary64 s =
      ap (λ (x : ChainReport). x.score_bits) said.shown.is ∙ ap (λ (a : Result Chained Refusal). to_bits binary64 (Chains.report a).score) answer in
      let score : of_bits binary64 r.score_bits ≡ s = ap (of_bits binary64) bits ∙ of_bits-to_bits binary64 s fit in
      let given : given_by (places_of r.pieces c.exit) (of_bits binary64 r.score_bits)
      ≡ given_by (places_of (length ps) (Chains.rows_of whole breaks c.entry)) s =
      rw (pieces_are (chained ps s t) e, said.shown.promise.rows, score) refl in
      ap (λ (v : Ruling). v.verdict) asked.promise.ruling
      ∙ ap (λ (g : GivenChain). (Checks.whole_of i settings k g w'.entry).verdict) given
      ∙ demand_three i settings k c.entry w.entry w'.entry ps s t same e

  handed_by : (o : Outcome) → whole ≡ o → Yes v
  handed_by (refused n) e = let none : r.pieces ≡ 0 = pieces_are (refused n) e in absurd (omega arith)
  handed_by (unchanged t) e = let none : r.pieces ≡ 0 = pieces_are (unchanged t) e in absurd (omega arith)
  handed_by (chained ps s t) e =
      let yes = accepted_by ps s t e in
      record {
        number = ap (λ (x : CheckReport). x.number) asked.is ∙ rw yes refl;
        accepted = ap (λ (x : CheckReport). x.accepted) asked.is ∙ rw yes refl;
      }

  pub handed_back : Yes v
  handed_back = handed_by whole refl
