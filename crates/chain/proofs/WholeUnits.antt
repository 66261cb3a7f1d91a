-- The statement of specs/WholeUnits. A piece that starts off whole units has its start close to a middle of two controls, so at a finite break; and no
-- finite break of this grid is off whole units. Assumes nothing.
use Rattle.std.specs.Prelude.{Option}
use Prim.Native.Nat.{ℕ, ◌<◌, ◌≤◌}
use native.Mathlib.Omega.{arith}
use mathlib.Core.List.{List, Memᴰ}
use mathlib.Core.Logic.{◌⊎◌, inl, inr}
use mathlib.Core.Path.{sym}
use lib.ListN.{length}
use Rattle.geometry.specs.Geometry.{Finite}
use Rattle.geometry.specs.declared.Break.{Break}
use Rattle.geometry.specs.declared.Point.{Point}
use Rattle.geometry.proofs.Whole.{near_finite, whole_finite}
use Rattle.geometry.specs.declared.Quad.{Quad}
use Rattle.breaks.specs.Breaks.{Row, whole_grid, break_at}
use Rattle.breaks.specs.Laws.{Brought, found_some, found_on}
use Rattle.breaks.proofs.WholeUnits.{brought_whole}
use Rattle.chain.specs.Valid.{drawn}
use Rattle.chain.specs.Rule.{OnWhole, Curved, Follows, smoothly, Fine, Leads, onward, Joined, staying, leading, Each, and}
use Rattle.chain.specs.WholeUnits.{StartsOnUnits}
use Rattle.chain.specs.declared.Piece.{Piece}
use Rattle.chain.proofs.Rule.{valid_exactly}

-- ---- one piece

follows_finite : {before : Option Quad} (a b : Break) (c : Point) → Follows before (drawn a b c) → Finite a.xy
follows_finite a b c (smoothly curved close) = near_finite _ a.xy close

fine_whole : {before : Option Quad} (a b : Break) (c : Point) → Brought whole_grid a.xy → Fine before a b c → OnWhole a
fine_whole {before} a b c g f = by f.on_grid_lem
  where
    by : OnWhole a ⊎ (Curved (drawn a b c) × Follows before (drawn a b c)) → OnWhole a
    by (inl whole) = whole
    by (inr off) = brought_whole a.xy g (follows_finite a b c off.1)

-- ---- the pieces of a chain

leads_inside : {n at : ℕ} {ps : List Piece} → Leads n at ps → (p : Piece) → Memᴰ p ps → p.from < n
leads_inside (onward less most rest) p (Memᴰ.head e) = rw e (omega arith)
leads_inside (onward less most rest) p (Memᴰ.tail m) = leads_inside rest p m
leads_inside {n = n} Rattle.chain.specs.Rule.arrived p x4 = elim x4 [ ]

inside : {n : ℕ} {ps : List Piece} → Joined n ps → (p : Piece) → Memᴰ p ps → p.from ≤ n
inside (staying from to) p (Memᴰ.head e) = rw e (omega arith)
inside (leading l) p m = omega (arith, leads_inside l p m)
inside (staying from to) p (mathlib.Core.List.Memᴰ.tail x8) = elim x8 [ ]

module _ (breaks : Row) (brought : (i : ℕ) → i < length breaks → Brought whole_grid (break_at breaks i).xy) where
  whole_in : {before : Option Quad} {ps : List Piece} → Each breaks before ps → (p : Piece) → Memᴰ p ps → p.from < length breaks →
      OnWhole (break_at breaks p.from)
  whole_in (and fine rest) p (Memᴰ.head e) h = rw e (fine_whole _ _ _ (brought _ (rw (sym e) h)) fine)
  whole_in (and fine rest) p (Memᴰ.tail m) h = whole_in rest p m h
  whole_in (Rattle.chain.specs.Rule.all {before = before}) p x7 h = elim x7 [ ]

pub starts_on_units : StartsOnUnits
starts_on_units room samples len breaks found penalty starts ends xs ys score accepted p m =
    let shape = ((valid_exactly samples breaks penalty starts ends xs ys score).0 accepted).obeys.shape in
    let brought = found_on room samples whole_grid len breaks found in
    let within : p.from < length breaks = omega (arith, found_some room samples whole_grid len breaks found, inside shape.joined p m) in
    let whole = whole_in breaks brought shape.pieces p m within in
    (whole, whole_finite (break_at breaks p.from).xy whole)
