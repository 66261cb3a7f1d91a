-- The loop's invariant: the words from here on, after what was read, ask for what they all ask for.
use Rattle.std.proofs.Common.{◌≡◌, ◌-◌, length, drop}
use Rattle.lines.specs.Stream.{ended_by}
use Rattle.words.specs.Words.{default_order, all_taken}
use Rattle.words.specs.declared.Reading.TheVariants.{Has}
use Rattle.words.proofs.read.Given as goal

abbrev pub invariant-loop-at : goal.invariant-loop-at
invariant-loop-at l = all_taken (Has default_order) (ended_by 0 l.words) ≡ all_taken l.r (ended_by 0 (drop l.at l.words))

abbrev pub decreases-loop-at : goal.decreases-loop-at
decreases-loop-at l = length l.words - l.at
