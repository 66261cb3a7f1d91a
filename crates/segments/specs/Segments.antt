-- Document 02's W8: which segment of its contour holds each break of a run. Definitions only.
use Rattle.std.specs.Prelude.{ℕ, suc, ◌+◌, ◌-◌, Bool, true, false, List, [], ◌∷◌, map, ltb, ℤ, pos, get_or, Float}
use Rattle.std.specs.Float.{nan, binary64}
use Rattle.std.specs.Float.Ieee.{is_nan, le, of_int, to_unsigned}
use Rattle.float.specs.Numbers.{nought}
use Rattle.geometry.specs.declared.Quad.{Quad}
use Rattle.outline.specs.Segments.{count_of}
use Rattle.samples.specs.Samples.{length_after, quads_of}
use Rattle.breaks.specs.Breaks.{Row}

-- ---- the lengths at which segments end

-- the running length after each quad, as the sampling has it
unfoldable pub ends_from : List Quad → Float → List Float
ends_from [] y = []
ends_from (q ∷ qs) y = length_after q y ∷ ends_from qs (length_after q y)

-- those of a run, of which the last is not asked: what no segment before it holds, the last one holds
abbrev pub ends_of : List ℤ → List ℤ → List ℕ → ℕ → ℕ → List Float
ends_of xs ys fs first count = ends_from (quads_of xs ys fs first (count - 1)) nought

-- ---- the segment that holds a length

abbrev pub here_if : Bool → ℕ → ℕ
here_if true later = 0
here_if false later = later

-- the first whose end length is at least s, so the earlier one where a segment ends exactly at s; past the last of these ends, the segment after it
unfoldable pub first_holding : List Float → Float → ℕ
first_holding [] s = 0
first_holding (end ∷ ends) s = here_if (le s end) (suc (first_holding ends s))

-- a NaN names the run's first
abbrev pub place_in : List Float → Float → ℕ
place_in ends s = here_if (is_nan s) (first_holding ends s)

-- ---- its number in the contour

-- going round a contour of so many segments
abbrev pub round_if : Bool → ℕ → ℕ → ℕ
round_if true total n = n
round_if false total n = n - total

abbrev pub number_of : ℕ → ℕ → ℕ
number_of total n = round_if (ltb n total) total n

abbrev pub segment_of : List Float → ℕ → ℕ → Float → ℕ
segment_of ends first total s = number_of total (first + place_in ends s)

-- ---- a break that carries it, as its sixth number

abbrev pub with_segment : List Float → ℕ → List Float
with_segment b n = get_or b 0 nan ∷ get_or b 1 nan ∷ get_or b 2 nan ∷ get_or b 3 nan ∷ get_or b 4 nan ∷ of_int binary64 (pos n) ∷ []

abbrev pub named_of : List Float → ℕ → ℕ → List Float → List Float
named_of ends first total b = with_segment b (segment_of ends first total (get_or b 0 nan))

-- the breaks of the run of `count` segments from segment `first` on
abbrev pub carried : List ℤ → List ℤ → List ℕ → ℕ → ℕ → Row → Row
carried xs ys fs first count row = map (named_of (ends_of xs ys fs first count) first (count_of fs)) row

-- what break i carries
abbrev pub segment_at : Row → ℕ → ℕ
segment_at row i = to_unsigned 31 (get_or (get_or row i []) 5 nan)
