-- Module 5, the Rust's `Thetas::new`: a place and a unit direction at each whole arc length of a run, up to its length + 2. Definitions only.
use Rattle.std.specs.Prelude.{ℕ, zero, suc, ◌-◌, Bool, true, false, List, [], ◌∷◌, ◌++◌, ℤ, length, take, Float, Option, Some, None}
use Rattle.std.specs.Float.{binary64}
use Rattle.std.specs.Float.Ieee.{add, sub, div, neg, le}
use Rattle.float.specs.Numbers.{nought, one, two}
use Rattle.geometry.specs.Geometry.{lerp_of, unitize_of, line_quad, point_at_t}
use Rattle.geometry.specs.declared.Point.{Point}
use Rattle.geometry.specs.declared.Quad.{Quad}
use Rattle.arclen.specs.Arclen.{hundredth, arclen_functor_of, deriv_of, rk4_one}
use Rattle.arclen.specs.declared.ArclenFunctor.{ArclenFunctor}
use Rattle.outline.specs.declared.Seg as S
use Rattle.outline.specs.declared.Seg.TheVariants as Seg
use Rattle.outline.specs.Segments.{point, start_of, end_of, seg_from, origin}
use Rattle.samples.specs.declared.Step.{Step}
use Rattle.samples.specs.declared.Walk.{Walk}
use Rattle.samples.specs.declared.Filled.{Filled}
use Rattle.samples.specs.declared.Thetas.{Thetas}

-- ---- the quads of a run

-- a line enters as the quad with its control at the lerp 0.5
abbrev pub quad_of : S.Seg → Quad
quad_of (Seg.Line x0 y0 x1 y1) = line_quad (point x0 y0) (point x1 y1)
quad_of (Seg.Quad x0 y0 x1 y1 x2 y2) = record { p0 = point x0 y0; p1 = point x1 y1; p2 = point x2 y2 }

-- those of n segments from place a on, each starting where the one before it ended
unfoldable pub quads_from : List ℤ → List ℤ → List ℕ → ℕ → ℕ → List Quad
quads_from xs ys fs a zero = []
quads_from xs ys fs a (suc n) = quad_of (seg_from xs ys fs a) ∷ quads_from xs ys fs (end_of fs a) n

-- those of a run: its first segment, and how many it has
abbrev pub quads_of : List ℤ → List ℤ → List ℕ → ℕ → ℕ → List Quad
quads_of xs ys fs first count = quads_from xs ys fs (start_of fs first) count

-- ---- one sample

-- a place and a unit direction
abbrev pub Sample : Type 0
Sample = List Float

abbrev pub sample_from : Point → Point → Sample
sample_from p d = p.x ∷ p.y ∷ d.x ∷ d.y ∷ []

-- how far the length ix lies between the last step and this one: above 1 past the end
abbrev pub part_of : Step → Step → Float → Float
part_of last this ix = div binary64 (sub binary64 ix last.s) (sub binary64 this.s last.s)

abbrev pub between : Step → Step → Float → Sample
between last this u = sample_from (lerp_of last.xy this.xy u) (unitize_of (lerp_of last.d this.d u))

abbrev pub sample_at : Step → Step → Float → Sample
sample_at last this ix = between last this (part_of last this ix)

-- ---- the walk: the samples so far, the next whole length, and the last step; or more samples than the room

pub data Walked : Type 0 where
  full : Walked
  at : List Sample → Float → Step → Walked

-- samples up to the length `limit`, with k places left and the answer of the test
unfoldable pub fill_from : ℕ → Bool → Step → Float → List Sample → Float → Step → Walked
fill_from zero true this limit row ix last = full
fill_from zero false this limit row ix last = at row ix last
fill_from (suc k) true this limit row ix last =
    fill_from k (le (add binary64 ix one) limit) this limit (row ++ (sample_at last this ix ∷ [])) (add binary64 ix one) last
fill_from (suc k) false this limit row ix last = at row ix last

unfoldable pub fill_to : ℕ → Step → Float → List Sample → Float → Step → Walked
fill_to room this limit row ix last = fill_from (room - length row) (le ix limit) this limit row ix last

unfoldable pub filled : ℕ → Step → Float → Walked → Walked
filled room this limit full = full
filled room this limit (at row ix last) = fill_to room this limit row ix last

unfoldable pub moved_to : Step → Walked → Walked
moved_to this full = full
moved_to this (at row ix last) = at row ix this

-- samples up to this step, which then is the last one
abbrev pub step_to : ℕ → Step → Walked → Walked
step_to room this w = moved_to this (filled room this this.s w)

-- ---- 100 steps a quad

abbrev pub step_at : Quad → Float → Float → Step
step_at q t y = record { xy = point_at_t q t; d = deriv_of (arclen_functor_of q) t; s = y }

-- k steps from the time t and the length y
unfoldable pub sweep_from : ℕ → ℕ → Quad → Float → Float → Walked → Walked
sweep_from zero room q t y w = w
sweep_from (suc k) room q t y w =
    sweep_from k room q (add binary64 t hundredth) (rk4_one (arclen_functor_of q) hundredth t y) (step_to room (step_at q t y) w)

-- the length after them
unfoldable pub length_from : ℕ → ArclenFunctor → Float → Float → Float
length_from zero f t y = y
length_from (suc k) f t y = length_from k f (add binary64 t hundredth) (rk4_one f hundredth t y)

abbrev pub length_after : Quad → Float → Float
length_after q y = length_from 100 (arclen_functor_of q) nought y

-- quad after quad
unfoldable pub sweep_all : ℕ → List Quad → Float → Walked → Walked
sweep_all room [] y w = w
sweep_all room (q ∷ qs) y w = sweep_all room qs (length_after q y) (sweep_from 100 room q nought y w)

unfoldable pub length_all : List Quad → Float → Float
length_all [] y = y
length_all (q ∷ qs) y = length_all qs (length_after q y)

-- ---- the whole run

abbrev pub before_all : Step
before_all = record { xy = origin; d = origin; s = neg one }

abbrev pub begun : Walked
begun = at [] nought before_all

-- the last quad, after r
unfoldable pub last_of : Quad → List Quad → Quad
last_of r [] = r
last_of r (q ∷ qs) = last_of q qs

abbrev pub nowhere : Quad
nowhere = record { p0 = origin; p1 = origin; p2 = origin }

-- the end of the run, whose length is y
abbrev pub last_step : Quad → Float → Step
last_step q y = record { xy = q.p2; d = deriv_of (arclen_functor_of q) one; s = y }

-- the samples and the length of a run; or more samples than the room, refusal 6
pub data Run : Type 0 where
  refused : Run
  sampled : List Sample → Float → Run

abbrev pub run_of : Float → Walked → Run
run_of y full = refused
run_of y (at row ix last) = sampled row y

-- after the last step, samples go on to the length + 2
unfoldable pub finished : ℕ → Quad → Float → Walked → Run
finished room q y w = run_of y (filled room (last_step q y) (add binary64 y two) w)

unfoldable pub thetas_of : ℕ → List Quad → Run
thetas_of room qs = finished room (last_of nowhere qs) (length_all qs nought) (sweep_all room qs nought begun)

-- ---- what the functions leave in a row

abbrev pub start : Walk
start = record { n = 0; ix = nought; last = before_all; len = nought }

abbrev pub walked_in : List Sample → Walk → Walked
walked_in row w = at (take w.n row) w.ix w.last

abbrev pub filled_in : List Sample → Step → Option Filled → Walked
filled_in row last None = full
filled_in row last (Some f) = at (take f.count row) f.ix last

abbrev pub places_filled : Option Filled → ℕ
places_filled None = 0
places_filled (Some f) = f.count

abbrev pub swept_in : List Sample → Option Walk → Walked
swept_in row None = full
swept_in row (Some w) = walked_in row w

abbrev pub places_swept : Option Walk → ℕ
places_swept None = 0
places_swept (Some w) = w.n

-- the length of a walk that goes on; where it does not, y
abbrev pub length_swept : Float → Option Walk → Float
length_swept y None = y
length_swept y (Some w) = w.len

abbrev pub run_in : List Sample → Option Thetas → Run
run_in row None = refused
run_in row (Some t) = sampled (take t.count row) t.length

abbrev pub places_sampled : Option Thetas → ℕ
places_sampled None = 0
places_sampled (Some t) = t.count
