-- The checker says yes exactly when a chain obeys the user's rule. Assumes nothing.
use Rattle.std.specs.Prelude.{Option, Some, None}
use Prim.Native.Nat.{ℕ, zero, suc}
use native.Mathlib.Omega.{arith}
use mathlib.Core.Bool.{Bool, true, false, not, ◌&&◌, ◌||◌, false≢true}
use mathlib.Core.List.{List, [], ◌∷◌}
use mathlib.Core.Logic.{◌⊎◌, inl, inr, ⊎_elim}
use mathlib.Core.Path.{◌≡◌, refl, sym, subst}
use borrow.Author.Tests.{eq-eqb, eqb-true, lt-ltb, ltb-true, le-leb, leb-true}
use lib.Dec.{eqb, ltb, leb}
use lib.ListN.{length}
use lib.Ieee.{Float, nan, inf, fin, eq, is_nan}
use Rattle.float.specs.Numbers.{half}
use Rattle.geometry.specs.Geometry.{lerp_of, is_line, is_whole, intersect_of, is_close}
use Rattle.geometry.specs.declared.Break.{Break}
use Rattle.geometry.specs.declared.Point.{Point}
use Rattle.geometry.specs.declared.Quad.{Quad}
use Rattle.breaks.specs.Breaks.{Row, break_at}
use Rattle.chain.specs.Valid.{equals, equal_points, drawn, straight, at_rounded, bent, curved, follows_curve, valid_piece, leads, joined}
use Rattle.chain.specs.Valid.{piece_quad, valid_from, good_shape, sum_of, verdict, judged_by, checked_chain, even_rows, checked_if, chain_in, check_rows}
use Rattle.chain.specs.Laws.{accepts_exactly}
use Rattle.chain.specs.Rule.{Equal, EqualPoints, Straight, Bent, OnWhole, Curved, Follows, smoothly, Fine, Leads, arrived, onward}
use Rattle.chain.specs.Rule.{Joined, staying, leading, Each, all, and, Shaped, Obeys, Even, Valid, ValidExactly}
use Rattle.chain.specs.declared.Piece.{Piece}

-- ---- tests and facts

both : (a b : Bool) → (a && b) ≡ true → (a ≡ true) × (b ≡ true)
both true true e = (refl, refl)
both true false e = absurd (false≢true e)
both false b e = absurd (false≢true e)

one_of : (a b : Bool) → (a || b) ≡ true → (a ≡ true) ⊎ (b ≡ true)
one_of true b e = inl refl
one_of false b e = inr e

first_so : (a b : Bool) → a ≡ true → (a || b) ≡ true
first_so true b e = refl
first_so false b e = absurd (false≢true e)

second_so : (a b : Bool) → b ≡ true → (a || b) ≡ true
second_so true b e = refl
second_so false b e = e

not_so : (a : Bool) → not a ≡ true → a ≡ false
not_so true e = absurd (false≢true e)
not_so false e = refl

is_nan_lem : (x : Float) → is_nan x ≡ true → x ≡ nan
unfolding is_nan
is_nan_lem nan e = refl
is_nan_lem (inf s) e = absurd (false≢true e)
is_nan_lem (fin s m e) h = absurd (false≢true h)

-- ---- equality

equal_so : (a b : Float) → equals a b ≡ true → Equal a b
equal_so a b e = by (one_of (eq a b) (is_nan a && is_nan b) e)
  where
    by : (eq a b ≡ true) ⊎ ((is_nan a && is_nan b) ≡ true) → Equal a b
    by (inl h) = inl h
    by (inr h) = let n = both (is_nan a) (is_nan b) h in inr (is_nan_lem a n.0, is_nan_lem b n.1)

equals_so : (a b : Float) → Equal a b → equals a b ≡ true
unfolding is_nan
equals_so a b (inl h) = first_so (eq a b) (is_nan a && is_nan b) h
equals_so a b (inr h) = rw (h.0, h.1) (second_so (eq nan nan) true refl)

points_so : (p q : Point) → equal_points p q ≡ true → EqualPoints p q
points_so p q e =
    let h = both (equals p.x q.x) (equals p.y q.y) e in
    (equal_so p.x q.x h.0, equal_so p.y q.y h.1)

points_are : (p q : Point) → EqualPoints p q → equal_points p q ≡ true
points_are p q h = rw (equals_so p.x q.x h.0, equals_so p.y q.y h.1) refl

-- ---- one piece

module _ (a b : Break) (c : Point) where
  bent_by : (x : Option Point) → intersect_of a.xy a.dir b.xy b.dir ≡ x → at_rounded c x ≡ true → Bent a b c
  bent_by None e h = absurd (false≢true h)
  bent_by (Some p) e h = record { crossing = p; crosses = e; control = points_so c _ h }

  bent_is : Bent a b c → bent a b c ≡ true
  bent_is k = rw k.crosses (points_are c _ k.control)

follows_so : (before : Option Quad) (q : Quad) → follows_curve before q ≡ true → Follows before q
follows_so None q e = absurd (false≢true e)
follows_so (Some p) q e =
    let h = both (curved p) (is_close (lerp_of p.p1 q.p1 half) q.p0) e in
    smoothly (not_so (is_line p) h.0) h.1

follows_is : {before : Option Quad} {q : Quad} → Follows before q → follows_curve before q ≡ true
follows_is (smoothly k h) = rw (k, h) refl

module _ (before : Option Quad) (a b : Break) (c : Point) where
  fine_so : valid_piece before a b c ≡ true → Fine before a b c
  unfolding valid_piece
  fine_so e =
      let h = both ((is_whole a.xy && straight a b c) || bent a b c) _ e in
      record {
        drawn_so = ⊎_elim (λ k. let s = both (is_whole a.xy) (straight a b c) k in inl (s.0, points_so c _ s.1)) (λ k. inr (bent_by a b c _ refl k))
            (one_of (is_whole a.xy && straight a b c) (bent a b c) h.0);
        on_grid_lem = ⊎_elim (λ k. inl k)
            (λ k. let s = both (curved (drawn a b c)) (follows_curve before (drawn a b c)) k in inr (not_so (is_line (drawn a b c)) s.0, follows_so before (drawn a b c) s.1))
            (one_of (is_whole a.xy) (curved (drawn a b c) && follows_curve before (drawn a b c)) h.1);
      }

  drawn_is : (OnWhole a × Straight a b c) ⊎ Bent a b c → ((is_whole a.xy && straight a b c) || bent a b c) ≡ true
  drawn_is (inl k) = first_so (is_whole a.xy && straight a b c) (bent a b c) (rw (k.0, points_are c _ k.1) refl)
  drawn_is (inr k) = second_so (is_whole a.xy && straight a b c) (bent a b c) (bent_is a b c k)

  grid_is : OnWhole a ⊎ (Curved (drawn a b c) × Follows before (drawn a b c)) → (is_whole a.xy || (curved (drawn a b c) && follows_curve before (drawn a b c))) ≡ true
  grid_is (inl k) = first_so (is_whole a.xy) _ k
  grid_is (inr k) = second_so (is_whole a.xy) _ (rw (k.0, follows_is k.1) refl)

  fine_is : Fine before a b c → valid_piece before a b c ≡ true
  unfolding valid_piece
  fine_is f = rw (drawn_is f.drawn_so, grid_is f.on_grid_lem) refl

-- ---- the pieces

leads_so : (n at : ℕ) (ps : List Piece) → leads n at ps ≡ true → Leads n at ps
unfolding leads
leads_so n at [] e = subst (λ (k : ℕ). Leads n k []) (sym (eqb-true at n e)) arrived
leads_so n at (p ∷ ps) e =
    let h = both (eqb p.from at) _ e in
    let k = both (ltb p.from p.to) _ h.1 in
    let l = both (leb p.to n) (leads n p.to ps) k.1 in
    subst (λ (m : ℕ). Leads n m (p ∷ ps)) (eqb-true p.from at h.0)
    (onward (ltb-true p.from p.to k.0) (leb-true p.to n l.0) (leads_so n p.to ps l.1))

leads_is : {n at : ℕ} {ps : List Piece} → Leads n at ps → leads n at ps ≡ true
unfolding leads
leads_is {n} arrived = eq-eqb n n refl
leads_is {n} (onward {p} {ps} less most rest) =
    rw (eq-eqb p.from p.from refl, lt-ltb p.from p.to less, le-leb p.to n most, leads_is rest) refl

joined_so : (n : ℕ) (ps : List Piece) → joined n ps ≡ true → Joined n ps
joined_so zero [] e = absurd (false≢true e)
joined_so zero (p ∷ []) e =
    let h = both (eqb p.from 0) (eqb p.to 0) e in
    staying (eqb-true p.from 0 h.0) (eqb-true p.to 0 h.1)
joined_so zero (p ∷ q ∷ ps) e = absurd (false≢true e)
joined_so (suc n) ps e = leading (leads_so (suc n) 0 ps e)

joined_is : {n : ℕ} {ps : List Piece} → Joined n ps → joined n ps ≡ true
joined_is (staying {p} f t) = rw (eq-eqb p.from 0 f, eq-eqb p.to 0 t) refl
joined_is (leading h) = leads_is h

module _ (breaks : Row) where
  each_so : (before : Option Quad) (ps : List Piece) → valid_from breaks before ps ≡ true → Each breaks before ps
  unfolding valid_from
  each_so before [] e = all
  each_so before (p ∷ ps) e =
      let h = both (valid_piece before (break_at breaks p.from) (break_at breaks p.to) p.control) (valid_from breaks (Some (piece_quad breaks p)) ps) e in
      and (fine_so before _ _ _ h.0) (each_so (Some (piece_quad breaks p)) ps h.1)

  each_is : {before : Option Quad} {ps : List Piece} → Each breaks before ps → valid_from breaks before ps ≡ true
  unfolding valid_from
  each_is all = refl
  each_is {before} (and {p = p} fine rest) = rw (fine_is before _ _ _ fine, each_is rest) refl

  shaped_so : (ps : List Piece) → good_shape breaks ps ≡ true → Shaped breaks ps
  unfolding good_shape
  shaped_so ps e = let h = both _ (valid_from breaks None ps) e in record { joined = joined_so _ ps h.0; pieces = each_so None ps h.1 }

  shaped_is : (ps : List Piece) → Shaped breaks ps → good_shape breaks ps ≡ true
  unfolding good_shape
  shaped_is ps s = rw (joined_is s.joined, each_is s.pieces) refl

-- ---- the chain

module _ (samples : List (List Float)) (breaks : Row) (penalty : Float) (ps : List Piece) (score : Float) where
  obeys_by : (s : Option Float) → sum_of samples breaks penalty ps ≡ s → checked_chain samples breaks penalty ps score ≡ Some true → Obeys samples breaks penalty ps score
  unfolding checked_chain
  obeys_by None e h = absurd (by (good_shape breaks ps) h)
    where
      by : (good : Bool) → verdict samples breaks penalty good ps score ≡ Some true → ⊥
      by true k =
          let last : judged_by samples breaks penalty None score ≡ (Some true) = rw e at k in
          let z : ◌≡◌ {A = ℕ} 0 1 = cc in
          omega arith
      by false k = cc
  obeys_by (Some s) e h =
      let k = (accepts_exactly samples breaks penalty ps score s e).0 h in
      record { shape = shaped_so breaks ps k.0; sum = s; summed = e; equal = equal_so s score k.1 }

  obeys_is : Obeys samples breaks penalty ps score → checked_chain samples breaks penalty ps score ≡ Some true
  obeys_is o = (accepts_exactly samples breaks penalty ps score o.sum o.summed).1 (shaped_is breaks ps o.shape, equals_so o.sum score o.equal)

even_so : (starts ends : List ℕ) (xs ys : List Float) → even_rows starts ends xs ys ≡ true → Even starts ends xs ys
even_so starts ends xs ys e =
    let h = both (eqb (length ends) (length starts)) _ e in
    let k = both (eqb (length xs) (length starts)) (eqb (length ys) (length starts)) h.1 in
    record { to = eqb-true _ _ h.0; x = eqb-true _ _ k.0; y = eqb-true _ _ k.1 }

even_is : (starts ends : List ℕ) (xs ys : List Float) → Even starts ends xs ys → even_rows starts ends xs ys ≡ true
even_is starts ends xs ys e =
    rw (eq-eqb (length ends) (length starts) e.to, eq-eqb (length xs) (length starts) e.x, eq-eqb (length ys) (length starts) e.y) refl

pub valid_exactly : ValidExactly
unfolding check_rows
valid_exactly samples breaks penalty starts ends xs ys score = (by (even_rows starts ends xs ys) refl, λ v. rw (even_is starts ends xs ys v.even) (obeys_is samples breaks penalty _ score v.obeys))
  where
    by : (even : Bool) → even_rows starts ends xs ys ≡ even → checked_if even (checked_chain samples breaks penalty (chain_in starts ends xs ys) score) ≡ Some true →
        Valid samples breaks penalty starts ends xs ys score
    by true e h = record { even = even_so starts ends xs ys e; obeys = obeys_by samples breaks penalty _ score _ refl h }
    by false e h = absurd cc
