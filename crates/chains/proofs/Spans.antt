-- The segments of a chain's pieces, as they are written from the rows of break numbers. Assumes nothing.
use Prim.Native.Nat.{ℕ, zero, suc, ◌+◌, ◌≤◌, ◌<◌}
use native.Mathlib.Omega.{arith}
use mathlib.Core.List.{List, [], ◌∷◌, ◌++◌, map}
use mathlib.Core.Path.{◌≡◌, refl, sym, ap, ◌∙◌}
use lib.ListN.{length, get_or, take, drop, set}
use lib.Seq.{length-take-le, get_or-take, take-length}
use Rattle.breaks.specs.Breaks.{Row}
use Rattle.chain.specs.declared.Piece.{Piece}
use Rattle.contour.specs.Output.{front}
use Rattle.rows.proofs.Filled.{Filled, more, filled}
use Rattle.segments.specs.Segments.{segment_at}
use Rattle.chains.specs.Spans.{span_of, spans_from}

module _ (breaks : Row) where
  -- of two rows of one length
  spans_many : (st en : List ℕ) → length st ≡ length en → length (spans_from breaks st en) ≡ length st
  unfolding spans_from
  spans_many [] en h = refl
  spans_many (a ∷ st) [] h = absurd (omega arith)
  spans_many (a ∷ st) (b ∷ en) h = ap suc (spans_many st en (omega arith))

  spans_at : (st en : List ℕ) (i : ℕ) → i < length st → i < length en →
      get_or (spans_from breaks st en) i [] ≡ segment_at breaks (get_or st i 0) ∷ segment_at breaks (get_or en i 0) ∷ []
  unfolding spans_from
  spans_at [] en i h k = absurd (omega arith)
  spans_at (a ∷ st) [] i h k = absurd (omega arith)
  spans_at (a ∷ st) (b ∷ en) zero h k = refl
  spans_at (a ∷ st) (b ∷ en) (suc i) h k = spans_at st en i (omega arith) (omega arith)

  pub spans_of : (ps : List Piece) → spans_from breaks (map (λ (p : Piece). p.from) ps) (map (λ (p : Piece). p.to) ps) ≡ map (span_of breaks) ps
  unfolding spans_from
  spans_of [] = refl
  spans_of (p ∷ ps) = ap (◌∷◌ (span_of breaks p)) (spans_of ps)

  -- the first n, one place after the other
  module _ (st en : List ℕ) (n : ℕ) (hs : n ≤ length st) (he : n ≤ length en) where
    abbrev all : List (List ℕ)
    all = spans_from breaks (take n st) (take n en)

    many : length all ≡ n
    many = spans_many (take n st) (take n en) (length-take-le n st hs ∙ sym (length-take-le n en he)) ∙ length-take-le n st hs

    pub put_one : {l m : List (List ℕ)} {i a b : ℕ} → Filled all l m i → i < n → n ≤ length l → a ≡ segment_at breaks (get_or st i 0) →
        b ≡ segment_at breaks (get_or en i 0) → Filled all l (set m i (a ∷ b ∷ [])) (i + 1)
    put_one {l} {m} {i} {a} {b} f h fits ea eb =
        let low-s : i < length (take n st) = rw (length-take-le n st hs) h in
        let low-e : i < length (take n en) = rw (length-take-le n en he) h in
        let here = spans_at (take n st) (take n en) i low-s low-e in
        more [] (a ∷ b ∷ []) f (omega (arith, f.same)) (omega (arith, many))
        (rw (ea, eb) (sym (here ∙ rw (get_or-take n st i 0 h, get_or-take n en i 0 h) refl)))

    pub put_all : {l m : List (List ℕ)} {i : ℕ} → Filled all l m i → n ≤ i → m ≡ front all l
    put_all {l} {m} {i} f past =
        let done : i ≡ length all = omega (arith, f.given, many) in
        filled (length all) f done ∙ ap (λ (s : List (List ℕ)). s ++ drop (length all) l) (take-length all)
