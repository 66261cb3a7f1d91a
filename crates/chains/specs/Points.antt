-- The points of a contour that comes out are those of its runs' chains: each worked run adds the points of the chain that the chain entry gives for it with the
-- same settings, in both modes, and a copied run its end; and the checker accepts that chain. So it accepts what was filed. The theorem `points_are_chains`
-- of proofs/Points is of the statement here. Definitions and statements.
use Rattle.std.specs.Prelude.{ℕ, ◌≤◌, ◌<◌, Bool, true, false, List, [], ◌∷◌, ◌++◌, map, ◌≡◌, Float, ℤ, length, get_or, Some}
use Rattle.refusals.specs.declared.refusal.Refusal.TheVariants.{NoSuchRun}
use Rattle.breaks.specs.Breaks.{Row}
use Rattle.outline.specs.Segments.{start_of, seg_at}
use Rattle.runs.specs.Runs.{stops_of, runs_of, run_at, is_copied, numbered_run}
use Rattle.samples.specs.Samples.{Sample}
use Rattle.survey.specs.Survey.{surveyed, survey_of}
use Rattle.settings.specs.Settings.{grid_of, penalty_of}
use Rattle.settings.specs.declared.Settings.{Settings}
use Rattle.optimize.specs.declared.Tally.{Tally}
use Rattle.edition.specs.Edition.{Rooms}
use Rattle.chain.specs.Valid.{piece_quad, checked_chain}
use Rattle.chain.specs.declared.Piece.{Piece}
use Rattle.contour.specs.Points.{Points, points_of, pieces_points, point_as, start_point, unchanged_in, around}
use Rattle.contour.specs.Implied.{finished}
use Rattle.crunch.specs.Crunch.{crunched, crunch_of}
use Rattle.chains.specs.Chains.{refused, unchanged, chained, chain_of}

-- the points of a chain: those of its pieces, each drawn between its breaks
abbrev pub chain_points : Row → List Piece → Points
chain_points breaks ps = pieces_points (map (piece_quad breaks) ps)

-- one part after the other
unfoldable pub all_of : List Points → Points
all_of [] = []
all_of (p ∷ ps) = p ++ all_of ps

module _ (rooms : Rooms) (settings : Settings) (xs ys : List ℤ) (fs : List ℕ) where
  -- ---- what run k adds

  -- the chain that the chain entry gives for it, in chain rows that have room for it, and that the checker accepts; with the breaks of the run's survey
  pub record ByChain (k : ℕ) (added : Points) : Type 0 where
    pub first : ℕ
    pub count : ℕ
    pub run : numbered_run settings.closed xs ys fs k ≡ Some (record { first = first; count = count })
    pub samples : List Sample
    pub breaks : Row
    pub survey : survey_of rooms.samples rooms.breaks xs ys fs first count (grid_of settings) ≡ surveyed samples breaks
    pub pieces : List Piece
    pub score : Float
    pub tally : Tally
    pub chain : (room : ℕ) → length pieces ≤ room → chain_of rooms room settings xs ys fs k ≡ chained pieces score tally
    pub accepted : checked_chain samples breaks (penalty_of settings) pieces score ≡ Some true
    pub points : added ≡ chain_points breaks pieces

  -- the end of a line, for which the chain entry gives 10
  pub record ByCopy (k : ℕ) (added : Points) : Type 0 where
    pub first : ℕ
    pub count : ℕ
    pub run : run_at (runs_of settings.closed xs ys fs) k ≡ Some (record { first = first; count = count })
    pub copied : is_copied xs ys fs (Some (record { first = first; count = count })) ≡ true
    pub no_chain : (room : ℕ) → chain_of rooms room settings xs ys fs k ≡ refused NoSuchRun
    pub points : added ≡ points_of (seg_at xs ys fs first)

  pub data Adds (k : ℕ) (added : Points) : Type 0 where
    by_chain : ByChain k added → Adds k added
    by_copy : ByCopy k added → Adds k added

  -- ---- the whole

  -- the crate's mode: after the start point; closed mode: round from the first corner
  abbrev pub joined_in : Bool → Points → Points
  joined_in false ps = start_point xs ys ∷ ps
  joined_in true ps = around (point_as true xs ys (start_of fs (get_or (stops_of true xs ys fs) 0 0))) ps

  -- a contour is left unchanged where the chain entry says so of a run, and in closed mode where there is no corner
  pub data Left : Type 0 where
    by_run : (k : ℕ) (t : Tally) → ((room : ℕ) → chain_of rooms room settings xs ys fs k ≡ unchanged t) → Left
    no_corner : settings.closed ≡ true → stops_of true xs ys fs ≡ [] → Left

  pub record OfRuns (out : Points) : Type 0 where
    pub parts : List Points
    pub all : length parts ≡ length (runs_of settings.closed xs ys fs)
    pub each : (k : ℕ) → k < length parts → Adds k (get_or parts k [])
    pub is : out ≡ finished settings.closed (joined_in settings.closed (all_of parts))

  pub data ComesOut (out : Points) : Type 0 where
    of_runs : OfRuns out → ComesOut out
    left : Left → out ≡ finished settings.closed (unchanged_in xs ys fs settings.closed) → ComesOut out

abbrev pub PointsAreChains : Type 0
PointsAreChains =
    (rooms : Rooms) (room : ℕ) (settings : Settings) (xs ys : List ℤ) (fs : List ℕ) (out : Points) (t : Tally) →
    crunch_of rooms room settings xs ys fs ≡ crunched out t → ComesOut rooms settings xs ys fs out
