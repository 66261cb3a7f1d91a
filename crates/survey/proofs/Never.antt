-- A run of a contour in 16 bits that is not given 6 has breaks, or is given 7: `FindsBreaks` and `AlwaysAnswered` hold. Assumes nothing.
use Prim.Native.Nat.{ℕ, ◌^◌, ◌≤◌, ◌<◌}
use mathlib.Core.List.{List}
use mathlib.Core.Path.{◌≡◌, refl, ap}
use native.Mathlib.Omega.{arith}
use lib.Dec.{lit≤}
use lib.Ieee.{Float}
use lib.IntN.{ℤ}
use lib.ListN.{length}
use Rattle.outline.specs.Segments.{start_of}
use Rattle.breaks.specs.Breaks.{RunBreaks, breaks_of}
use Rattle.breaks.specs.Breaks as Breaks
use Rattle.breaks.specs.declared.Grid.{Grid}
use Rattle.samples.specs.Samples.{Sample, Run, thetas_of, quads_of}
use Rattle.samples.specs.Samples as Samples
use Rattle.refusals.specs.declared.refusal.Refusal.TheVariants.{PastLastSample}
use Rattle.survey.specs.Survey.{Survey, refused, past, surveyed, sample_room, break_room, searched, after_sampling, survey_of}
use Rattle.survey.specs.Never.{Sixteen, FindsBreaks, Finds, FindsExactly, Answered, six, seven, found, AlwaysAnswered, NeverPast}
use Rattle.survey.proofs.Speeds.{length_size}
use Rattle.survey.proofs.Reach.{Reached, run_reaches}
use Rattle.survey.proofs.Inside.{Only, all, short, all_places, breaks_only}
use Rattle.survey.proofs.Many.{finds}

-- the places of a sampled run are found
module _ (sampleRow : ℕ) (xs ys : List ℤ) (fs : List ℕ) (first count : ℕ) (g : Grid) (sx : Sixteen xs) (sy : Sixteen ys) (samples : List Sample) (len : Float)
    (e : thetas_of (sample_room sampleRow) (quads_of xs ys fs first count) ≡ Samples.sampled samples len) where
  few : sample_room sampleRow ≤ 2 ^ 52
  few = omega arith

  reached : (length samples ≤ sample_room sampleRow) × Reached (length samples) len
  reached = run_reaches (sample_room sampleRow) few (quads_of xs ys fs first count) samples len (length_size xs ys sx sy fs (start_of fs first) count) e

  small : reached.1.size ≤ 2 ^ 22
  small = omega (arith, reached.0, reached.1.more)

  only : (room : ℕ) → Only (breaks_of room samples g len)
  only = breaks_only samples g len reached.1.size small reached.1.is reached.1.more

  finds_all : (room : ℕ) → Finds room samples g len
  finds_all room = finds room samples g len (all_places samples g len reached.1.size small reached.1.is reached.1.more)

module _ (sampleRow breakRow : ℕ) (xs ys : List ℤ) (fs : List ℕ) (first count : ℕ) (g : Grid) (sx : Sixteen xs) (sy : Sixteen ys) where
  searched_answered : (samples : List Sample) {r : RunBreaks} → Only r → Answered (searched samples r)
  searched_answered samples (all row) = found samples row
  searched_answered samples short = seven

  sampled_answered : (r : Run) → thetas_of (sample_room sampleRow) (quads_of xs ys fs first count) ≡ r → Answered (after_sampling (break_room breakRow) g r)
  sampled_answered Samples.refused e = six
  sampled_answered (Samples.sampled samples len) e = searched_answered samples (only sampleRow xs ys fs first count g sx sy samples len e (break_room breakRow))

-- breaks, or too many of them: neither of the two other kinds of answer
not_unchanged : {r : RunBreaks} → Only r → r ≡ Breaks.unchanged → ⊥
not_unchanged (all row) e = cc
not_unchanged short e = cc

not_eight : {r : RunBreaks} → Only r → r ≡ Breaks.refused PastLastSample → ⊥
not_eight (all row) e = cc
not_eight short e = cc

pub finds_breaks : FindsBreaks
finds_breaks sampleRow breakRow xs ys fs first count g samples len sx sy e =
    let o = only sampleRow xs ys fs first count g sx sy samples len e (break_room breakRow) in
    (not_unchanged o, not_eight o)

pub finds_exactly : FindsExactly
finds_exactly sampleRow room xs ys fs first count g samples len sx sy e = finds_all sampleRow xs ys fs first count g sx sy samples len e room

pub answered : AlwaysAnswered
unfolding survey_of
answered sampleRow breakRow xs ys fs first count g sx sy = sampled_answered sampleRow breakRow xs ys fs first count g sx sy _ refl

-- the same of what is answered
never_a_past : {s : Survey} → Answered s → s ≡ past → ⊥
never_a_past six e = cc
never_a_past seven e = cc
never_a_past (found samples row) e = cc

never_eight : {s : Survey} → Answered s → s ≡ refused PastLastSample → ⊥
never_eight six e = cc
never_eight seven e = cc
never_eight (found samples row) e = cc

pub never_past : NeverPast
never_past sampleRow breakRow xs ys fs first count g sx sy =
    let a = answered sampleRow breakRow xs ys fs first count g sx sy in
    (never_a_past a, never_eight a)
