-- No control that the chain entry writes has a NaN, in a run whose last break has none: `NoNanWritten` of specs/Controls. Assumes nothing.
use Rattle.std.specs.Prelude.{Option, Some}
use mathlib.Core.Bool.{false}
use mathlib.Core.List.{List, [], ◌∷◌, ◌++◌}
use mathlib.Core.Path.{◌≡◌, sym, ap, ◌∙◌, subst}
use Rattle.quickmeasure.specs.Statements.{has_nan}
use Rattle.runs.specs.declared.Run.{Run}
use Rattle.survey.specs.Survey.{surveyed}
use Rattle.settings.specs.Settings.{grid_of, penalty_of}
use Rattle.attempt.specs.Answers.{Statelet}
use Rattle.optimize.specs.Controls.{NoNan, starts, goes}
use Rattle.optimize.proofs.Controls.{no_nan_control}
use Rattle.edition.specs.Laws.{work_solved}
use Rattle.chain.specs.declared.Piece.{Piece}
use Rattle.pieces.specs.Pieces.{pieces_of}
use Rattle.pieces.specs.Slots.{Each, none, one}
use Rattle.chains.specs.Controls.{NoNanWritten}
use Rattle.chains.proofs.Solved.{chain_solved}

abbrev Number : Piece → Type 0
Number p = has_nan p.control ≡ false

each_on : {ps : List Piece} (p : Piece) → Each Number ps → Number p → Each Number (ps ++ (p ∷ []))
each_on p none h = one h none
each_on p (one k e) h = one k (each_on p e h)

pieces_number : {a : Statelet} → NoNan a → Each Number (pieces_of a)
unfolding pieces_of
pieces_number (starts h) = one h none
pieces_number (goes n h) = each_on _ (pieces_number n) h

pub no_nan_written : NoNanWritten
no_nan_written rooms room settings xs ys fs k first count samples breaks run survey number ps score tally e =
    let r = chain_solved rooms room settings xs ys fs k ps score tally e in
    let same : ◌≡◌ {A = Option Run} (Some (record { first = r.first; count = r.count })) (Some (record { first = first; count = count })) = sym r.run ∙ run in
    let ran : ◌≡◌ {A = Run} (record { first = r.first; count = r.count }) (record { first = first; count = count }) = cc in
    let firsts : r.first ≡ first = ap (λ (x : Run). x.first) ran in
    let counts : r.count ≡ count = ap (λ (x : Run). x.count) ran in
    let o = work_solved rooms (grid_of settings) (penalty_of settings) xs ys fs r.first r.count r.answer r.counted r.work in
    let there : surveyed o.samples o.breaks ≡ surveyed samples breaks = sym o.survey ∙ rw (firsts, counts) survey in
    let rows : o.breaks ≡ breaks = cc in
    let n = no_nan_control o.samples o.breaks (penalty_of settings) (rw rows number) r.answer r.counted.pairs o.is in
    subst (Each Number) r.pieces (pieces_number n)
