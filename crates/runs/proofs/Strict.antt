-- Corners rise, each above the one before it, so that each run has a segment; and none goes round twice: `RunHasSegments` holds. Assumes nothing.
use Rattle.std.specs.Prelude.{Option, Some}
use Prim.Native.Nat.{ℕ, zero, suc, ◌+◌, ◌-◌, ◌≤◌, ◌<◌}
use native.Mathlib.Nat.{lt_of_not-le}
use native.Mathlib.Omega.{arith}
use mathlib.Core.Bool.{Bool, true, false, false≢true}
use mathlib.Core.List.{List, [], ◌∷◌, ◌++◌}
use mathlib.Core.Path.{◌≡◌, sym, ap}
use lib.ListN.{get_or}
use Rattle.outline.specs.Segments.{count_of}
use Rattle.corners.specs.Corners.{corners_of}
use Rattle.corners.proofs.Reasons.{no_corner_past}
use Rattle.runs.specs.Runs.{marks_from, corner_list, between, stops_in, stops_of, runs_of, run_at, is_copied, unless_copied, numbered_run}
use Rattle.runs.specs.Numbered.{RunHasSegments}
use Rattle.runs.specs.declared.Run.{Run}

-- numbers from lo on and below hi, each above the one before it
data Up : ℕ → ℕ → List ℕ → Type 0 where
  none : {lo hi : ℕ} → lo ≤ hi → Up lo hi []
  next : {lo hi b : ℕ} {l : List ℕ} → lo ≤ b → Up (suc b) hi l → Up lo hi (b ∷ l)

spread : {lo hi : ℕ} {l : List ℕ} → Up lo hi l → lo ≤ hi
spread (none h) = h
spread (next h u) = omega (arith, spread u)

-- where no place from top on is marked
marks_up : (top : ℕ) (marks : List Bool) (lo i : ℕ) → lo ≤ i → lo ≤ top → ((j : ℕ) → top ≤ i + j → get_or marks j false ≡ false) → Up lo top (marks_from marks i)
unfolding marks_from
marks_up top [] lo i h t off = none t
marks_up top (false ∷ marks) lo i h t off = marks_up top marks lo (i + 1) (omega arith) t (λ j p. off (suc j) (omega arith))
marks_up top (true ∷ marks) lo i h t off =
    let low : i < top = lt_of_not-le (λ p. false≢true (sym (off 0 (omega arith)))) in
    next h (marks_up top marks (suc i) (i + 1) (omega arith) (omega arith) (λ j p. off (suc j) (omega arith)))

more : {lo hi : ℕ} {l : List ℕ} (b : ℕ) → hi ≤ b → Up lo hi l → Up lo (suc b) (l ++ (b ∷ []))
more {lo} b h (none t) =
    let first : lo ≤ b = omega arith in
    let over : suc b ≤ suc b = omega arith in
    next first (none over)
more b h (next p u) = next p (more b h u)

wider : {lo hi : ℕ} {l : List ℕ} (top : ℕ) → hi ≤ top → Up lo hi l → Up lo top l
wider {lo} top h (none t) =
    let over : lo ≤ top = omega arith in
    none over
wider top h (next p u) = next p (wider top h u)

-- the stops: in closed mode the first corner comes again, all segments later
stops_up : (closed : Bool) (segments : ℕ) (corners : List ℕ) → Up 0 segments corners → Up 0 (suc (segments + segments)) (stops_in closed segments corners)
stops_up false segments corners u = wider (suc (segments + segments)) (omega arith) u
stops_up true segments [] u = wider (suc (segments + segments)) (omega arith) u
stops_up true segments (a ∷ corners) (next h u) =
    let low = spread u in
    wider (suc (segments + segments)) (omega (arith, low)) (more (a + segments) (omega arith) (next h u))

-- run k of these stops
run_up : {lo hi : ℕ} (stops : List ℕ) (k first count : ℕ) → Up lo hi stops → run_at (between stops) k ≡ Some (record { first = first; count = count }) → (0 < count) × (first + count < hi)
unfolding between run_at
run_up [] k first count u e = absurd cc
run_up (a ∷ []) k first count u e = absurd cc
run_up (a ∷ b ∷ stops) zero first count (next h (next p u)) e =
    let same : record { first = a; count = b - a } ≡ record { first = first; count = count } = cc in
    let f : a ≡ first = ap (λ (r : Run). r.first) same in
    let c : b - a ≡ count = ap (λ (r : Run). r.count) same in
    (omega arith, omega (arith, spread u))
run_up (a ∷ b ∷ stops) (suc k) first count (next h u) e = run_up (b ∷ stops) k first count u e

not_copied : (t : Bool) {r : Option Run} {first count : ℕ} → unless_copied t r ≡ Some (record { first = first; count = count }) → r ≡ Some (record { first = first; count = count })
not_copied true e = absurd cc
not_copied false e = e

pub run_has_segments : RunHasSegments
unfolding numbered_run runs_of stops_of corner_list
run_has_segments closed xs ys fs k first count e =
    let corners = marks_from (corners_of xs ys fs 1024) 0 in
    let up : Up 0 (count_of fs) corners =
    marks_up (count_of fs) (corners_of xs ys fs 1024) 0 0 (omega arith) (omega arith) (λ j p. no_corner_past xs ys fs 1024 j (omega arith)) in
    let stops = stops_in closed (count_of fs) corners in
    let found = run_up stops k first count (stops_up closed (count_of fs) corners up) (not_copied (is_copied xs ys fs (run_at (between stops) k)) e) in
    (found.0, omega (arith, found.1))
