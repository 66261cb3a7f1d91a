-- Rows with no answer yet. Assumes nothing.
use Prim.Native.Nat.{ℕ, zero, ◌+◌, ◌*◌, ◌<◌}
use native.Mathlib.Omega.{arith}
use mathlib.Core.List.{List, ◌++◌}
use mathlib.Core.Path.{◌≡◌, ◌∙◌}
use lib.ListN.{length, get_or, drop, replicate, length-replicate, get_or-replicate, get_or-append}
use lib.Ieee.{Float}
use Rattle.breaks.specs.Breaks.{Row}
use Rattle.attempt.specs.Answers.{none}
use Rattle.optimize.specs.Stored.{slot_at, lacks, early, Rep}
use Rattle.optimize.proofs.Held.{slot_most}

module _ (n : ℕ) (ls ls' : List ℕ) (is : ls' ≡ replicate (2 * n + 2) 0 ++ drop (2 * n + 2) ls) where
  empty : (k : ℕ) → k < 2 * n + 2 → get_or ls' k 0 ≡ 0
  empty k h =
      let long : length (replicate (2 * n + 2) (zero)) ≡ 2 * n + 2 = length-replicate (2 * n + 2) zero in
      rw is
      (get_or-append (replicate (2 * n + 2) zero) (drop (2 * n + 2) ls) 0 k (omega arith) ∙ get_or-replicate (2 * n + 2) k zero 0 h)

  pub no_answer : (bs : Row) (rs : List (List Float)) → Rep (early 1) n bs rs ls' (replicate (n + 1) none)
  no_answer bs rs = record {
    long = length-replicate (n + 1) none;
    bare = get_or-replicate (n + 1) 0 none none (omega arith);
    fresh = λ b h. empty (2 * b + 1) (omega arith);
    stands = λ b h. rw (get_or-replicate (n + 1) b none none (omega arith)) (lacks (empty (slot_at ls' b) (omega (arith, slot_most ls' b))));
  }
