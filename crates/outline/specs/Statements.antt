-- What a reader should know of segments, as a type; the theorem `read_by_opentype` of proofs/Outline is of it. Statements only.
use Rattle.std.specs.Prelude.{ℕ, ◌+◌, ◌<◌, List, ◌≡◌, ℤ, length, get_or, Ok}
use Rattle.refusals.specs.Refusals.{judged}
use Rattle.outline.specs.declared.Seg.{Seg}
use Rattle.outline.specs.Segments.{count_of, seg_at}
use Rattle.outline.specs.OpenType.{points, outline}

-- the segments that are read are those of the closed outline that OpenType describes: as many, segment k the k-th, and after the last the first again
pub record ReadByOpenType (xs ys : List ℤ) (fs : List ℕ) : Type 0 where
  pub count : count_of fs ≡ length (outline (points xs ys fs))
  pub segment : (k : ℕ) (past : Seg) → k < count_of fs → seg_at xs ys fs k ≡ get_or (outline (points xs ys fs)) k past
  pub round : (k : ℕ) → seg_at xs ys fs (count_of fs + k) ≡ seg_at xs ys fs k

-- of every contour that refusals 1 to 5 let through
abbrev pub SegmentsAreOpenTypes : Type 0
SegmentsAreOpenTypes = (xs ys : List ℤ) (fs : List ℕ) → judged xs ys fs ≡ Ok tt → ReadByOpenType xs ys fs
