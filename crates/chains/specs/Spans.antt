-- Document 02's W8 in a chain: for each piece, the segments of the contour that hold its start break and its end break. Definitions only.
use Rattle.std.specs.Prelude.{ℕ, List, [], ◌∷◌, ℤ, Option, Some, None}
use Rattle.breaks.specs.Breaks.{Row}
use Rattle.chain.specs.declared.Piece.{Piece}
use Rattle.edition.specs.Edition.{Rooms}
use Rattle.runs.specs.Runs.{numbered_run}
use Rattle.runs.specs.declared.Run.{Run}
use Rattle.segments.specs.Segments.{carried, segment_at}
use Rattle.settings.specs.Settings.{grid_of}
use Rattle.settings.specs.declared.Settings.{Settings}
use Rattle.survey.specs.Survey.{Survey, refused, past, surveyed, survey_of}

-- a piece replaces the segments from the one that its start break carries to the one that its end break carries
abbrev pub span_of : Row → Piece → List ℕ
span_of breaks p = segment_at breaks p.from ∷ segment_at breaks p.to ∷ []

-- the same, of break numbers in two rows
unfoldable pub spans_from : Row → List ℕ → List ℕ → List (List ℕ)
spans_from breaks (a ∷ starts) (b ∷ ends) = (segment_at breaks a ∷ segment_at breaks b ∷ []) ∷ spans_from breaks starts ends
spans_from breaks [] ends = []
spans_from breaks (a ∷ starts) [] = []

-- the breaks of a survey
abbrev pub row_of : Survey → Row
row_of (refused k) = []
row_of past = []
row_of (surveyed samples breaks) = breaks

module _ (rooms : Rooms) (settings : Settings) (xs ys : List ℤ) (fs : List ℕ) where
  -- those of a run, each with its segment
  abbrev pub breaks_of : Option Run → Row
  breaks_of None = []
  breaks_of (Some r) =
      carried xs ys fs r.first r.count (row_of (survey_of rooms.samples rooms.breaks xs ys fs r.first r.count (grid_of settings)))

  -- of run k
  abbrev pub breaks_at : ℕ → Row
  breaks_at k = breaks_of (numbered_run settings.closed xs ys fs k)
