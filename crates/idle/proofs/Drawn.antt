-- The outline of what is left is that of the upload, with each quad whose control stands on an end of it as a line: the statement of specs/Statements.
-- Assumes nothing.
use Prim.Native.Nat.{ℕ, zero, suc, ◌+◌, ◌-◌, ◌<◌}
use mathlib.Core.Bool.{Bool, true, false, ◌||◌, true≢false}
use mathlib.Core.List.{List, [], ◌∷◌, ◌++◌, map}
use mathlib.Core.Path.{◌≡◌, refl, sym, ap, ◌∙◌}
use native.Mathlib.Omega.{arith}
use borrow.Author.Tests.{lt-ltb, le-ltb}
use lib.IntN.{ℤ}
use lib.ListN.{length, length-map}
use Rattle.refusals.specs.Accepted.{Accepted, accepted}
use Rattle.clean.specs.Clean.{on_place, same_place, up_from}
use Rattle.clean.specs.Pass.{after_of}
use Rattle.clean.specs.Statements.{coordinates_left, flags_left}
use Rattle.clean.proofs.Theorems.{up_of, past, number, coordinate_as, on_as}
use Rattle.clean.proofs.Back.{map_as}
use Rattle.idle.specs.Idle.{before_of, beside_of, gathered, kept_at, kept_of, places_of}
use Rattle.idle.specs.Outline.{Place, Piece, line, quad, Vertex, from, traced, drawn, place_at, vertex_at, vertices_of, outline_of, straightened}
use Rattle.idle.specs.Statements.{on_curve, OutlineKept}
use Rattle.idle.proofs.Neighbours.{Seen, on_curve_lem, free, by_before, by_after, seen, on_stays, after_on}
use Rattle.idle.proofs.Theorems.{starts}

-- ---- the rows of what is left hold the points kept

module _ (xs ys : List ℤ) (fs kept : List ℕ) where
  abbrev anew : ℕ → Vertex
  anew = vertex_at (coordinates_left xs kept) (coordinates_left ys kept) (flags_left fs kept)

  as_kept : (i : ℕ) → anew i ≡ vertex_at xs ys fs (number xs ys fs kept i)
  as_kept i = rw (on_as xs ys fs kept i, coordinate_as xs ys fs kept xs (omega arith) i, coordinate_as xs ys fs kept ys (omega arith) i)

  vertices_left : vertices_of (coordinates_left xs kept) (coordinates_left ys kept) (flags_left fs kept) ≡ map (vertex_at xs ys fs) kept
  vertices_left =
      let size : length (flags_left fs kept) ≡ length kept = simp length-map in
      ap (λ (n : ℕ). map anew (up_from 0 n)) size
      ∙ map_as anew (vertex_at xs ys fs) (number xs ys fs kept) as_kept (up_from 0 (length kept))
      ∙ ap (map (vertex_at xs ys fs)) (up_of (past xs ys fs kept) 0 [] kept refl)

-- ---- piece by piece

module _ {xs ys : List ℤ} {fs : List ℕ} (a : Accepted xs ys fs) where
  abbrev vertex : ℕ → Vertex
  vertex = vertex_at xs ys fs

  abbrev P : ℕ → Place
  P = place_at xs ys fs

  abbrev keeps : List ℕ → List ℕ
  keeps = kept_of (beside_of xs ys fs)

  -- from the on-curve place b to the start
  abbrev Same : List ℕ → List ℕ → ℕ → Type 0
  Same left all b = traced (P 0) (from (P b)) (map vertex left) ≡ map straightened (traced (P 0) (from (P b)) (map vertex all))

  before_is : (b : ℕ) → before_of (b + 1) (length fs) ≡ b
  before_is b =
      let e : b + 1 - 1 ≡ b = omega arith in
      rw (lt-ltb 0 (b + 1) (omega arith), e)

  -- ---- a control q after b, of a quad that ends at e

  either : (s t : Bool) → t ≡ true → (s || t) ≡ true
  either true t h = refl
  either false t h = h

  -- what is left of the quad
  abbrev piece_by : ℕ → ℕ → ℕ → ℕ → Piece
  piece_by zero b q e = quad (P b) (P q) (P e)
  piece_by (suc w) b q e = line (P b) (P e)

  control : (b q e w : ℕ) → before_of q (length fs) ≡ b → after_of q (length fs) ≡ e → on_place fs q ≡ false → Seen xs ys fs q w →
      straightened (quad (P b) (P q) (P e)) ≡ piece_by w b q e
  control b q e w h g away (on_curve_lem z o) = absurd (true≢false (sym o ∙ away))
  control b q e w h g away (free z _ f k) =
      let start : same_place xs ys q b ≡ false = rw h at f in
      let end : same_place xs ys q e ≡ false = rw g at k in
      rw (z, start, end)
  control b q e w h g away (by_before z _ f) = let start : same_place xs ys q b ≡ true = rw h at f in rw (z, start)
  control b q e w h g away (by_after z _ f) =
      let end : same_place xs ys q e ≡ true = rw g at f in
      rw (z, either (same_place xs ys q b) (same_place xs ys q e) end)

  left_ends : (b q w : ℕ) → on_place fs q ≡ false → traced (P 0) (from (P b)) (map vertex (kept_at w q ++ [])) ≡ piece_by w b q 0 ∷ []
  unfolding traced
  left_ends b q zero away = rw away
  left_ends b q (suc w) away = refl

  left_next : (b q e w : ℕ) (rest : List ℕ) → on_place fs q ≡ false → on_place fs e ≡ true →
      traced (P 0) (from (P b)) (map vertex (kept_at w q ++ (e ∷ rest))) ≡ piece_by w b q e ∷ traced (P 0) (from (P e)) (map vertex rest)
  unfolding traced
  left_next b q e zero rest away o = rw (away, o)
  left_next b q e (suc w) rest away o = rw o

  -- ---- the next point is on-curve; it is the last of all, a control; it is a control, and then comes an on-curve point

  on_next : (b : ℕ) (rest : List ℕ) → on_place fs (b + 1) ≡ true → Same (keeps rest) rest (b + 1) → Same (keeps ((b + 1) ∷ rest)) ((b + 1) ∷ rest) b
  unfolding gathered traced
  on_next b rest o later = rw (on_stays xs ys fs (b + 1) o, o) (ap (◌∷◌ (line (P b) (P (b + 1)))) later)

  control_last : (b : ℕ) → b + 1 + 1 ≡ length fs → on_place fs (b + 1) ≡ false → Same (keeps ((b + 1) ∷ [])) ((b + 1) ∷ []) b
  unfolding gathered traced
  control_last b n away =
      let q = b + 1 in
      let w = beside_of xs ys fs q in
      let round : after_of q (length fs) ≡ 0 = rw (le-ltb (q + 1) (length fs) (omega arith)) in
      left_ends b q w away
      ∙ rw away (ap (λ (c : Piece). c ∷ []) (sym (control b q 0 w (before_is b) round away (seen xs ys fs q))))

  control_then : (b : ℕ) (rest : List ℕ) → b + 1 + 1 < length fs → on_place fs (b + 1) ≡ false → Same (keeps rest) rest (b + 1 + 1) →
      Same (keeps ((b + 1) ∷ (b + 1 + 1) ∷ rest)) ((b + 1) ∷ (b + 1 + 1) ∷ rest) b
  unfolding gathered traced
  control_then b rest n away later =
      let q = b + 1 in
      let e = b + 1 + 1 in
      let w = beside_of xs ys fs q in
      let o : on_place fs e ≡ true = after_on xs ys fs a q n away in
      let next : after_of q (length fs) ≡ e = rw (lt-ltb e (length fs) n) in
      let here = sym (control b q e w (before_is b) next away (seen xs ys fs q)) in
      rw (on_stays xs ys fs e o) (left_next b q e w (keeps rest) away o ∙ rw (away, o) (λ i. here i ∷ later i))

  outline_from_lem : (m b : ℕ) → b + 1 + m ≡ length fs → on_place fs b ≡ true → Same (keeps (up_from (b + 1) m)) (up_from (b + 1) m) b
  unfolding up_from gathered traced
  outline_from_lem zero b n o = refl
  outline_from_lem (suc zero) b n o = by (on_place fs (b + 1)) refl (λ o. outline_from_lem zero (b + 1) (omega arith) o)
    where
      by : (t : Bool) → on_place fs (b + 1) ≡ t → (on_place fs (b + 1) ≡ true → Same (keeps []) [] (b + 1)) → Same (keeps ((b + 1) ∷ [])) ((b + 1) ∷ []) b
      by true e later = on_next b [] e (later e)
      by false e later = control_last b (omega arith) e
  outline_from_lem (suc (suc m)) b n o =
      by (on_place fs (b + 1)) refl (λ o. outline_from_lem (suc m) (b + 1) (omega arith) o) (λ o. outline_from_lem m (b + 1 + 1) (omega arith) o)
    where
      rest : List ℕ
      rest = up_from (b + 1 + 1 + 1) m

      by : (t : Bool) → on_place fs (b + 1) ≡ t → (on_place fs (b + 1) ≡ true → Same (keeps ((b + 1 + 1) ∷ rest)) ((b + 1 + 1) ∷ rest) (b + 1)) →
          (on_place fs (b + 1 + 1) ≡ true → Same (keeps rest) rest (b + 1 + 1)) → Same (keeps ((b + 1) ∷ (b + 1 + 1) ∷ rest)) ((b + 1) ∷ (b + 1 + 1) ∷ rest) b
      by true e next after = on_next b ((b + 1 + 1) ∷ rest) e (next e)
      by false e next after = control_then b rest (omega arith) e (after (after_on xs ys fs a (b + 1) (omega arith) e))

  -- ---- all of it

  all_places : places_of fs ≡ 0 ∷ up_from 1 (length fs - 1)
  unfolding up_from
  all_places = let n : length fs ≡ suc (length fs - 1) = omega (arith, a.some) in ap (up_from 0) n

  pieces_kept : drawn (map vertex (keeps (places_of fs))) ≡ map straightened (outline_of xs ys fs)
  pieces_kept = rw (starts a, all_places, a.first) (outline_from_lem (length fs - 1) 0 (omega (arith, a.some)) a.first)

  curve_kept : (row : List ℕ) → on_curve (map vertex (keeps row)) ≡ on_curve (map vertex row)
  unfolding gathered on_curve
  curve_kept [] = refl
  curve_kept (p ∷ row) = by (beside_of xs ys fs p) (seen xs ys fs p) (curve_kept row)
    where
      by : (w : ℕ) → Seen xs ys fs p w → on_curve (map vertex (keeps row)) ≡ on_curve (map vertex row) → on_curve (map vertex (kept_at w p ++ keeps row)) ≡ on_curve (map vertex (p ∷ row))
      by w (on_curve_lem z o) later = rw (z, o, later)
      by w (free z o f g) later = rw (z, o, later)
      by w (by_before z o f) later = rw (z, o, later)
      by w (by_after z o f) later = rw (z, o, later)

pub outline_kept : OutlineKept
outline_kept xs ys fs kept drops c =
    let is = c.is in
    let same_kept : kept_of (beside_of xs ys fs) (places_of fs) ≡ kept = cc in
    let a = accepted xs ys fs c.fine in
    let row = kept_of (beside_of xs ys fs) (places_of fs) in
    rw (← same_kept)
    (record {
      pieces = ap drawn (vertices_left xs ys fs row) ∙ pieces_kept a;
      on_curve_lem = ap on_curve (vertices_left xs ys fs row) ∙ curve_kept a (places_of fs);
    })
