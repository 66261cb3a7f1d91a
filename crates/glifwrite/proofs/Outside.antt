-- What is written is the file's own bytes outside the insides of its contours, and the points of the rows between them. Assumes nothing.
use Prim.Native.Nat.{ℕ, zero, suc, ◌-◌}
use mathlib.Core.Bool.{Bool, true, false}
use mathlib.Core.List.{List, [], ◌∷◌, ◌++◌}
use mathlib.Core.Path.{◌≡◌, refl, sym, ap, ◌∙◌}
use native.Mathlib.Omega.{arith}
use lib.Dec.{eqb}
use lib.IntN.{ℤ}
use Rattle.gliftext.specs.Pick.{pick, both, more}
use Rattle.glif.specs.declared.scan.Scan.{Scan}
use Rattle.glifwrite.specs.Puts.{Putting, put, put_range}
use Rattle.glifwrite.specs.Contours.{start_of, put_to}
use Rattle.glifwrite.specs.Writes.{GivenRows, given, read_to, scan_in, Copying, copying, no_copy, copied, copy_as, copy_on, copy_to, rest, write_all}
use Rattle.glifwrite.specs.Outside.{Part, own, contour, put_part, put_parts, Track, track, track_on, track_to, closed, OutsideIsKept}

pieces_append : (bytes : List ℕ) (g : GivenRows) (ps rs : List Part) (q : Putting) → put_parts bytes g (ps ++ rs) q ≡ put_parts bytes g rs (put_parts
    bytes g ps q)
unfolding put_parts
pieces_append bytes g [] rs q = refl
pieces_append bytes g (p ∷ ps) rs q = pieces_append bytes g ps rs (put_part bytes g p q)

-- copying stands where the track does, with its pieces put
abbrev along : List ℕ → GivenRows → Putting → Track → Copying
along bytes g q₀ (track from tag k ps) = copied from tag k (put_parts bytes g ps q₀)

none : (bytes : List ℕ) (from n : ℕ) (q : Putting) → n ≡ 0 → put_range bytes from n q ≡ q
unfolding put_range
none bytes from n q e = rw e

module _ (bytes ends : List ℕ) (xs ys : List ℤ) (fs : List ℕ) where
  abbrev g : GivenRows
  g = given ends xs ys fs

  no_points_lem : (from to n : ℕ) (q : Putting) → n ≡ 0 → put_to xs ys fs from to n q ≡ q
  unfolding put_to
  no_points_lem from to n q e = rw e

  -- with the row in hand
  step_put : (i tag from old k at : ℕ) (out : List ℕ) (closes : Bool) (opens : Bool) →
      copy_as bytes g i tag opens closes (copying (record { from = from; tag = old; k = k; at = at }) out)
      ≡ copied (pick closes tag from) tag (pick opens (more k) k) (put_parts bytes g (pick opens (own from (more i) ∷ contour k ∷ []) []) (put at out))
  unfolding pick put_parts
  step_put i tag from old k at out closes true = refl
  step_put i tag from old k at out closes false =
      let nothing : from - from ≡ 0 = omega arith in
      let fewer : 0 - start_of ends k ≡ 0 = omega arith in
      ap (copied (pick closes tag from) tag k) (no_points_lem (start_of ends k) 0 (0 - start_of ends k) _ fewer ∙ none bytes from (from - from) (put at out)
      nothing)

  step_any : (i tag from old k : ℕ) (closes opens : Bool) (q : Putting) →
      copy_as bytes g i tag opens closes (copied from old k q)
      ≡ copied (pick closes tag from) tag (pick opens (more k) k) (put_parts bytes g (pick opens (own from (more i) ∷ contour k ∷ []) []) q)
  step_any i tag from old k closes opens (put at out) = step_put i tag from old k at out closes opens

  more_pieces : (opens : Bool) (ps rs : List Part) (q : Putting) →
      put_parts bytes g (pick opens rs []) (put_parts bytes g ps q) ≡ put_parts bytes g (pick opens (ps ++ rs) ps) q
  unfolding pick put_parts
  more_pieces true ps rs q = sym (pieces_append bytes g ps rs q)
  more_pieces false ps rs q = refl

  -- the tag of what is copied does not hang on the row
  on_any : (i : ℕ) (s t : Scan) (from old k : ℕ) (q : Putting) → copy_on bytes g i s t (copied from old k q)
      ≡ copy_as bytes g i (pick (eqb t.text.state 15) i old) (both (eqb s.tree.level 2) (eqb t.tree.level 3))
      (both (eqb s.tree.level 3) (eqb t.tree.level 2)) (copied from old k q)
  unfolding copy_on
  on_any i s t from old k (put at out) = refl

  step : (i : ℕ) (s t : Scan) (q₀ : Putting) (w : Track) → copy_on bytes g i s t (along bytes g q₀ w) ≡ along bytes g q₀ (track_on i s t w)
  unfolding track_on
  step i s t q₀ (track from old k ps) =
      on_any i s t from old k (put_parts bytes g ps q₀)
      ∙ step_any i (pick (eqb t.text.state 15) i old) from old k (both (eqb s.tree.level 3) (eqb t.tree.level 2))
      (both (eqb s.tree.level 2) (eqb t.tree.level 3)) (put_parts bytes g ps q₀)
      ∙ ap (copied _ _ _) (more_pieces (both (eqb s.tree.level 2) (eqb t.tree.level 3)) ps (own from (more i) ∷ contour k ∷ []) q₀)

  tracked : (k : ℕ) (out : List ℕ) → copy_to bytes g k (copying no_copy out) ≡ along bytes g (put 0 out) (track_to bytes k)
  unfolding copy_to track_to put_parts
  tracked zero out = refl
  tracked (suc k) out =
      ap (copy_on bytes g k (scan_in (read_to bytes k)) (scan_in (read_to bytes (suc k)))) (tracked k out)
      ∙ step k (scan_in (read_to bytes k)) (scan_in (read_to bytes (suc k))) (put 0 out) (track_to bytes k)

  rest_any : (n from tag k : ℕ) (q : Putting) → rest bytes n (copied from tag k q) ≡ put_range bytes from (n - from) q
  rest_any n from tag k (put at out) = refl

  finished : (n : ℕ) (q₀ : Putting) (w : Track) → rest bytes n (along bytes g q₀ w) ≡ put_parts bytes g (closed n w) q₀
  unfolding put_parts
  finished n q₀ (track from tag k ps) = rest_any n from tag k (put_parts bytes g ps q₀) ∙ sym (pieces_append bytes g ps (own from n ∷ []) q₀)

pub outside_is_kept : OutsideIsKept
unfolding write_all
outside_is_kept bytes (given ends xs ys fs) n out =
    ap (rest bytes n) (tracked bytes ends xs ys fs n out) ∙ finished bytes ends xs ys fs n (put 0 out) (track_to bytes n)
