-- The quads of an answer are its pieces drawn between their breaks: `QuadsAreDrawn` of specs/Statements. Assumes nothing.
use Rattle.std.specs.Prelude.{Option, Some, None}
use Prim.Native.Nat.{ℕ}
use mathlib.Core.Bool.{Bool, true, false}
use mathlib.Core.List.{List, [], ◌∷◌, ◌++◌, map}
use mathlib.Core.Path.{◌≡◌, refl, ap, ◌∙◌, subst}
use lib.Ieee.{Float}
use lib.ListN.{length}
use Rattle.geometry.specs.Geometry.{is_whole, line_quad, intersect_of}
use Rattle.geometry.specs.declared.Point.{Point}
use Rattle.geometry.specs.declared.Quad.{Quad}
use Rattle.breaks.specs.Breaks.{Row, break_at}
use Rattle.chain.specs.Valid.{piece_quad}
use Rattle.attempt.specs.Answers.{Leg, Statelet, first, on, Best, none, best, ok_for_half, built_on, is_less, may_build, combined_if, combined}
use Rattle.optimize.specs.Optimize.{Measure, best_at, States, measured, try_quad, try_if, bent_quad, bent_at, bent, then_bent, try_line_quad}
use Rattle.optimize.proofs.Walk.{set_each, none_yet, After, stops, holds, answered}
use Rattle.pieces.specs.Pieces.{as_piece, pieces_of}
use Rattle.pieces.specs.Slots.{quads_of}
use Rattle.pieces.specs.Statements.{QuadsAreDrawn}
use Rattle.measure.specs.declared.Measure as M
use Rattle.std.specs.Prelude.{Option, Some, None}

map_on : {A B : Type 0} (f : A → B) (l : List A) (a : A) → map f l ++ (f a ∷ []) ≡ map f (l ++ (a ∷ []))
map_on f [] a = refl
map_on f (b ∷ l) a = ap (λ r. f b ∷ r) (map_on f l a)

module _ (measure : Measure) (breaks : Row) (penalty : Float) where
  -- what stands at a break
  data Drawn : Best → Type 0 where
    nothing : Drawn none
    stands : {a : Statelet} → quads_of a ≡ map (piece_quad breaks) (pieces_of a) → Drawn (best a)

  abbrev AllDrawn : List Best → Type 0
  AllDrawn st = (b : ℕ) → Drawn (best_at st b)

  built_drawn : (t : Best) (p : Leg) (s : Float) → Drawn t → p.quad ≡ piece_quad breaks (as_piece p) → Drawn (best (built_on t p s))
  unfolding quads_of pieces_of
  built_drawn none p s d e = stands {a = first p s} (ap (λ (q : Quad). q ∷ []) e)
  built_drawn (best a) p s (stands h) e =
      stands {a = on a p s} (ap (λ (qs : List Quad). qs ++ (p.quad ∷ [])) h ∙ ap (λ (q : Quad). map (piece_quad breaks) (pieces_of a) ++ (q ∷ [])) e ∙ map_on (piece_quad breaks) (pieces_of a) (as_piece p))

  combined_drawn : (may less : Bool) (old t : Best) (p : Leg) (s : Float) → is_less s old ≡ less → Drawn old → Drawn t → p.quad ≡ piece_quad breaks (as_piece p) → Drawn (combined_if may old t p s)
  combined_drawn false less old t p s e c d h = c
  combined_drawn true true old t p s e c d h = rw e (built_drawn t p s d h)
  combined_drawn true false old t p s e c d h = rw e c

  -- one attempt
  measured_drawn : (w : Option M.Measure) (i j : ℕ) (q : Quad) (st : List Best) → AllDrawn st → q ≡ piece_quad breaks (as_piece (record { from = i; to = j; quad = q })) →
      After AllDrawn (measured measure breaks penalty w i j q st)
  unfolding combined
  measured_drawn None i j q st all e = stops
  measured_drawn (Some m) i j q st all e =
      holds (set_each (λ (b : ℕ) (t : Best). Drawn t) st j _ all (combined_drawn (may_build i (best_at st i)) _ (best_at st j) (best_at st i) (record { from = i; to = j; quad = q }) _ refl (all j) (all i) e))

  try_drawn : (b : Bool) (i j : ℕ) (q : Quad) (st : List Best) → AllDrawn st → q ≡ piece_quad breaks (as_piece (record { from = i; to = j; quad = q })) →
      After AllDrawn (try_if measure breaks penalty b i j q st)
  unfolding try_quad
  try_drawn true i j q st all e = measured_drawn (measure i j q) i j q st all e
  try_drawn false i j q st all e = holds all

  -- one pair
  bent_drawn : (x : Option Point) (i j : ℕ) (st : List Best) → AllDrawn st → After AllDrawn (bent_at measure breaks penalty x i j st)
  bent_drawn None i j st all = holds all
  bent_drawn (Some p) i j st all = let q = bent_quad measure breaks penalty i j p in try_drawn (ok_for_half (best_at st i) q) i j q st all refl

  then_drawn : (i j : ℕ) {s : States} → After AllDrawn s → After AllDrawn (then_bent measure breaks penalty i j s)
  unfolding bent
  then_drawn i j stops = stops
  then_drawn i j (holds {st} all) = bent_drawn (intersect_of (break_at breaks i).xy (break_at breaks i).dir (break_at breaks j).xy (break_at breaks j).dir) i j st all

  pair_drawn : (i j : ℕ) (st : List Best) → AllDrawn st → After AllDrawn (try_line_quad measure breaks penalty i j st)
  unfolding try_line_quad
  pair_drawn i j st all = then_drawn i j (try_drawn (is_whole (break_at breaks i).xy) i j (line_quad (break_at breaks i).xy (break_at breaks j).xy) st all refl)

  drawn_is : {a : Statelet} → Drawn (best a) → quads_of a ≡ map (piece_quad breaks) (pieces_of a)
  drawn_is (stands h) = h

pub quads_drawn : QuadsAreDrawn
quads_drawn measure breaks penalty a pairs e =
    let s = answered (AllDrawn measure breaks penalty) measure breaks penalty (pair_drawn measure breaks penalty) (λ b. rw (none_yet (length breaks) b) nothing) e in
    drawn_is measure breaks penalty (subst (Drawn measure breaks penalty) s.there (s.keeps _))
