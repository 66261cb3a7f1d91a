-- Run k of a contour of at most 1,024 points starts at a segment of at most 2,048, counted on going round, and has at most so many. Assumes nothing.
use Rattle.std.specs.Prelude.{Option, Some, None}
use Prim.Native.Nat.{ℕ, zero, suc, ◌+◌, ◌≤◌, ◌<◌}
use native.Mathlib.Omega.{arith}
use mathlib.Core.Bool.{Bool, true, false, true≢false}
use mathlib.Core.List.{List, [], ◌∷◌, ◌++◌}
use mathlib.Core.Path.{◌≡◌, sym, ap, ◌∙◌}
use lib.IntN.{ℤ}
use lib.ListN.{length, get_or}
use Rattle.outline.specs.Segments.{count_of}
use Rattle.corners.specs.Corners.{corners_of}
use Rattle.outline.specs.Laws.{count_few}
use Rattle.corners.proofs.Reasons.{no_corner_past}
use Rattle.runs.specs.Runs.{marks_from, corner_list, between, stops_in, stops_of, runs_of, run_at, is_copied, unless_copied, numbered_run}
use Rattle.runs.specs.declared.Run.{Run}

-- each is at most n
data Low (n : ℕ) : List ℕ → Type 0 where
  none : Low n []
  one : {a : ℕ} {l : List ℕ} → a ≤ n → Low n l → Low n (a ∷ l)

lower : {n m : ℕ} {l : List ℕ} → n ≤ m → Low n l → Low m l
lower h none = none
lower h (one {a} low rest) = one {a = a} (omega arith) (lower h rest)

then_one : {n b : ℕ} {l : List ℕ} → Low n l → b ≤ n → Low n (l ++ (b ∷ []))
then_one none h = one h none
then_one (one low rest) h = one low (then_one rest h)

-- no mark lies past the first m places
marks_few : (marks : List Bool) (i m n : ℕ) → (0 < m → i + m ≤ n) → ((k : ℕ) → m ≤ k → get_or marks k false ≡ false) → Low n (marks_from marks i)
unfolding marks_from
marks_few [] i m n h off = none
marks_few (true ∷ marks) i zero n h off = absurd (true≢false (off 0 (omega arith)))
marks_few (true ∷ marks) i (suc m) n h off =
    let most : i + suc m ≤ n = h (omega arith) in
    one {a = i} (omega (arith, most)) (marks_few marks (i + 1) m n (λ some. omega (arith, most)) (λ k low. off (suc k) (omega arith)))
marks_few (false ∷ marks) i zero n h off = marks_few marks (i + 1) zero n (λ some. absurd (omega arith)) (λ k low. off (suc k) (omega arith))
marks_few (false ∷ marks) i (suc m) n h off =
    let most : i + suc m ≤ n = h (omega arith) in
    marks_few marks (i + 1) m n (λ some. omega (arith, most)) (λ k low. off (suc k) (omega arith))

-- the stops, of which one may be the first corner and all segments more
stops_few : (closed : Bool) (segments n : ℕ) (corners : List ℕ) → Low n corners → Low (n + segments) (stops_in closed segments corners)
stops_few true segments n [] low = none
stops_few true segments n (a ∷ corners) (one h low) = then_one {b = a + segments} (one {a = a} (omega arith) (lower (omega arith) low)) (omega arith)
stops_few false segments n corners low = lower (omega arith) low

-- a run's first segment, and how many it has
record Few (n : ℕ) (r : Option Run) : Type 0 where
  all : {first count : ℕ} → r ≡ Some (record { first = first; count = count }) → (first ≤ n) × (count ≤ n)

abbrev first_in : Option Run → ℕ
first_in (Some r) = r.first
first_in None = 0

abbrev count_in : Option Run → ℕ
count_in (Some r) = r.count
count_in None = 0

low_run : {n first count : ℕ} → first ≤ n → count ≤ n → Few n (Some (record { first = first; count = count }))
low_run f c = record { all = λ e. (omega (arith, ap first_in e), omega (arith, ap count_in e)) }

no_run : {n : ℕ} → Few n None
no_run = record { all = λ e. absurd cc }

runs_few : {n : ℕ} (k : ℕ) (l : List ℕ) → Low n l → Few n (run_at (between l) k)
unfolding between run_at
runs_few k [] low = no_run
runs_few k (a ∷ []) low = no_run
runs_few zero (a ∷ b ∷ l) (one h (one g low)) = low_run h (omega arith)
runs_few (suc k) (a ∷ b ∷ l) (one h low) = runs_few k (b ∷ l) low

copied_few : {n : ℕ} (t : Bool) {r : Option Run} → Few n r → Few n (unless_copied t r)
copied_few true f = no_run
copied_few false f = f

pub run_few : (closed : Bool) (xs ys : List ℤ) (fs : List ℕ) (k : ℕ) {r : Option Run} {first count : ℕ} → length fs ≤ 1024 →
    r ≡ numbered_run closed xs ys fs k → r ≡ Some (record { first = first; count = count }) → (first ≤ 2048) × (count ≤ 2048)
unfolding numbered_run runs_of stops_of corner_list
run_few closed xs ys fs k {r} few e is =
    let m = count_of fs in
    let corners = marks_from (corners_of xs ys fs 1024) 0 in
    let low : Low m corners = marks_few (corners_of xs ys fs 1024) 0 m m (λ some. omega arith) (λ j past. no_corner_past xs ys fs 1024 j past) in
    let stops : Low 2048 (stops_in closed m corners) = lower (omega (arith, count_few fs)) (stops_few closed m m corners low) in
    (copied_few (is_copied xs ys fs (run_at (between (stops_in closed m corners)) k)) (runs_few k (stops_in closed m corners) stops)).all (sym e ∙ is)
