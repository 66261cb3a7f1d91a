-- `runs::list_corners` meets its contract: past the last segment there is no mark, by `corners_taken`. Assumes nothing.
use Rattle.std.proofs.Common.{ℕ, ◌≤◌, ◌≡◌, min, Bool, List, length, take, length-take-le, sym, arith}
use Rattle.outline.specs.Segments.{count_of}
use Rattle.outline.specs.Laws.{count_few}
use Rattle.runs.proofs.Listing.{first_low, corners_taken}
use Rattle.runs.proofs.list_corners.Goals as goal

-- so many marks are there as are looked at
enough : {m count long n : ℕ} (fs : List ℕ) → m ≡ min count 1024 → count ≡ count_of fs → long ≡ n → min (length fs) 1024 ≤ n → m ≤ long
enough fs least counted same fits = omega (arith, count_few fs)

-- and a row for the list holds them
looked : {m n : ℕ} (marks : List Bool) → m ≤ length marks → length marks ≡ n → length (take m marks) ≤ n
looked {m} marks fits same = omega (arith, length-take-le m marks fits)

pub slice_bounds-list_marks-end : goal.slice_bounds-list_marks-end
slice_bounds-list_marks-end c =
    enough c.args.flags.now c.least-m.ensures c.segment_sp.ensures.count c.segment_sp.auto.marks c.requires.0

pub slice_bounds-list_marks-end-2 : goal.slice_bounds-list_marks-end-2
slice_bounds-list_marks-end-2 c =
    sym (length-take-le _ _ (enough c.args.flags.now c.least-m.ensures c.segment_sp.ensures.count c.segment_sp.auto.marks c.requires.0))

pub list_marks-requires : goal.list_marks-requires
list_marks-requires c =
    let fits = enough c.args.flags.now c.least-m.ensures c.segment_sp.ensures.count c.segment_sp.auto.marks c.requires.0 in
    omega (arith, c.requires.2, looked c.segment_sp.new.marks fits c.segment_sp.auto.marks)

pub returns : goal.returns
returns c =
    let fits = enough c.args.flags.now c.least-m.ensures c.segment_sp.ensures.count c.segment_sp.auto.marks c.requires.0 in
    let few = looked c.segment_sp.new.marks fits c.segment_sp.auto.marks in
    record {
      listed = rw (← corners_taken _ _ _ _ _ _ _ c.segment_sp.ensures.marks c.segment_sp.ensures.count c.requires.0 c.requires.1 c.segment_sp.auto.marks c.least-m.ensures) c.list_marks.ensures.listed;
      few = omega (arith, c.list_marks.ensures.few, few);
      low = λ some. omega (arith, first_low _ c.list_marks.ensures.listed some, few, c.requires.1);
    }
