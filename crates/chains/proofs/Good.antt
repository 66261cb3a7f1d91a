-- The score that the chain entry reports is the optimiser's. Assumes nothing.
use Rattle.std.specs.Prelude.{Ok}
use Prim.Native.Nat.{ℕ}
use mathlib.Core.List.{List}
use mathlib.Core.Path.{◌≡◌, refl, subst}
use lib.Ieee.{Float}
use lib.IntN.{ℤ}
use Rattle.settings.specs.Settings.{grid_of, penalty_of}
use Rattle.settings.specs.declared.Settings.{Settings}
use Rattle.edition.specs.Laws.{work_solved}
use Rattle.edition.specs.Scratch.{rooms_of}
use Rattle.optimize.specs.Optimize.{measure_by}
use Rattle.optimize.specs.declared.Tally.{Tally}
use Rattle.optimize.specs.Trace.{last_scores, Least}
use Rattle.optimize.proofs.Good.{how_good}
use Rattle.rows.specs.Lent.{inputs}
use Rattle.rows.specs.Rows.{Work}
use Rattle.chains.specs.Chains.{Outcome, refused, unchanged, chained}
use Rattle.chains.specs.Entry.{Rows, room_in, answer_of, whole_of}
use Rattle.chains.specs.Good.{Good, ChainGood, ReportsGood}
use Rattle.chains.specs.declared.Chained.TheVariants as Chained
use Rattle.chains.proofs.Solved.{chain_solved}

pub chain_good : ChainGood
chain_good rooms room settings xs ys fs k ps score tally e =
    let r = chain_solved rooms room settings xs ys fs k ps score tally e in
    let penalty = penalty_of settings in
    let o = work_solved rooms (grid_of settings) penalty xs ys fs r.first r.count r.answer r.counted r.work in
    let measure = measure_by o.samples o.breaks in
    record {
      first = r.first;
      count = r.count;
      run = r.run;
      samples = o.samples;
      breaks = o.breaks;
      survey = o.survey;
      scores = last_scores measure o.breaks penalty;
      are = refl;
      least = λ n. subst (λ (x : Float). Least x (last_scores measure o.breaks penalty)) r.scored (how_good measure o.breaks penalty r.answer r.counted.pairs o.fine.some o.is n);
    }

-- ---- the answer of the entry

module _ (xs ys : List ℤ) (fs : List ℕ) (settings : Settings) (k : ℕ) (c : Rows) (w : Work) (n : ℕ) (score : Float) (tally : Tally) where
  answer_good : (o : Outcome) → whole_of (inputs xs ys fs) settings k c w ≡ o → answer_of o ≡ Ok (Chained.Pieces n score tally) → Good (rooms_of w) settings xs ys fs k score
  answer_good (refused m) e h = absurd cc
  answer_good (unchanged t) e h = absurd cc
  answer_good (chained ps s t) e h =
      let same : s ≡ score = cc in
      subst (Good (rooms_of w) settings xs ys fs k) same (chain_good (rooms_of w) (room_in c) settings xs ys fs k ps s t e)

pub reports_good : ReportsGood
reports_good xs ys fs settings k c w n score tally e = answer_good xs ys fs settings k c w n score tally _ refl e
