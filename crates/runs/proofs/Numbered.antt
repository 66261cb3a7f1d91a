-- Corner k is the k-th marked index, and run k lies between stops k and k + 1. Theorems on the definitions, for a reader: no proof of a function uses
-- them. Assumes nothing.
use Prim.Native.Nat.{ℕ, zero, suc, ◌+◌, ◌<◌}
use native.Mathlib.Omega.{arith}
use mathlib.Core.Bool.{Bool, true, false}
use mathlib.Core.List.{List, [], ◌∷◌}
use mathlib.Core.Path.{◌≡◌, refl, ap, subst}
use lib.ListN.{length, get_or}
use Rattle.corners.specs.Corners.{corners_of}
use Rattle.runs.specs.Runs.{marks_from, corner_list, stops_of, runs_of}
use Rattle.runs.specs.Numbered.{marked_below, KthMarked, CornerIsMarked, AllMarkedAreCorners, RunLiesBetween, NoRunPast}
use Rattle.runs.proofs.Listing.{run_is, run_past}

-- place p of the marks, which are counted from i
record Found (marks : List Bool) (i k : ℕ) : Type 0 where
  p : ℕ
  is : get_or (marks_from marks i) k 0 ≡ i + p
  kth : KthMarked marks k p

found : (marks : List Bool) (i k : ℕ) → k < length (marks_from marks i) → Found marks i k
unfolding marks_from marked_below
found [] i k h = absurd (omega arith)
found (true ∷ marks) i zero h = record { p = 0; is = omega arith; kth = record { marked = refl; before = refl } }
found (true ∷ marks) i (suc k) h =
    let f = found marks (i + 1) k (omega arith) in
    record { p = suc f.p; is = omega (arith, f.is); kth = record { marked = f.kth.marked; before = ap suc f.kth.before } }
found (false ∷ marks) i k h =
    let f = found marks (i + 1) k h in
    record { p = suc f.p; is = omega (arith, f.is); kth = record { marked = f.kth.marked; before = f.kth.before } }

pub corner_is_marked : CornerIsMarked
unfolding corner_list
corner_is_marked xs ys fs k h =
    let f = found (corners_of xs ys fs 1024) 0 k h in
    let same : f.p ≡ get_or (marks_from (corners_of xs ys fs 1024) 0) k 0 = omega (arith, f.is) in
    subst (KthMarked (corners_of xs ys fs 1024) k) same f.kth

as_many : (marks : List Bool) (i : ℕ) → length (marks_from marks i) ≡ marked_below marks (length marks)
unfolding marks_from marked_below
as_many [] i = refl
as_many (true ∷ marks) i = ap suc (as_many marks (i + 1))
as_many (false ∷ marks) i = as_many marks (i + 1)

pub all_are_corners : AllMarkedAreCorners
unfolding corner_list
all_are_corners xs ys fs = as_many (corners_of xs ys fs 1024) 0

pub lies_between : RunLiesBetween
unfolding runs_of
lies_between closed xs ys fs k h = run_is (stops_of closed xs ys fs) k (omega arith)

pub none_past : NoRunPast
unfolding runs_of
none_past closed xs ys fs k h = run_past (stops_of closed xs ys fs) k (omega arith)
