-- Dropping from place 1 on, as a walk along the points after the first: each is looked at with the one that stayed before it. Assumes nothing.
use Prim.Native.Nat.{ℕ, ◌+◌, ◌%◌, ◌<◌}
use mathlib.Core.Bool.{Bool, true, false, cond}
use mathlib.Core.List.{List, [], ◌∷◌, ◌++◌}
use mathlib.Core.Path.{◌≡◌, refl, sym, ap, ◌∙◌}
use native.Mathlib.Nat.{mod-eq_of_lt, mod_self}
use native.Mathlib.Omega.{arith}
use lib.IntN.{ℤ}
use lib.ListN.{length, get_or, length-append, get_or-append}
use lib.Seq.{append_snoc, take-append_seam, drop-append-add, get_or-append_seam, get_or-append-add, get_or_at}
use Rattle.contour.specs.Points.{Points}
use Rattle.contour.specs.Implied.{implied_at, removed, drop_from}
use Rattle.contour.proofs.Dropping.{stops, drops, keeps}

-- the next point, or the end after the last
abbrev pub next_or : List ℤ → Points → List ℤ
next_or end [] = end
next_or end (q ∷ qs) = q

module _ (implied : List ℤ → List ℤ → List ℤ → Bool) where
  -- what stays of the points after b
  unfoldable pub walk : List ℤ → List ℤ → Points → Points
  walk end b [] = []
  walk end b (t ∷ ts) = cond (implied b t (next_or end ts)) (walk end b ts) (t ∷ walk end t ts)

  module _ (s : List ℤ) where
    abbrev last_of : Points → List ℤ
    last_of mid = get_or (s ∷ mid) (length mid) []

    -- the test, after the points s ∷ mid
    next_is : (mid : Points) (t : List ℤ) (ts : Points) →
        get_or ((s ∷ mid) ++ (t ∷ ts)) ((length (s ∷ mid) + 1) % length ((s ∷ mid) ++ (t ∷ ts))) [] ≡ next_or s ts
    next_is mid t [] =
        let all : length ((s ∷ mid) ++ (t ∷ [])) ≡ length (s ∷ mid) + 1 = length-append (s ∷ mid) (t ∷ []) in
        ap (λ (j : ℕ). get_or ((s ∷ mid) ++ (t ∷ [])) j []) (ap (λ (m : ℕ). (length (s ∷ mid) + 1) % m) all ∙ mod_self (length (s ∷ mid) + 1))
    next_is mid t (q ∷ ts) =
        let less : length (s ∷ mid) + 1 < length ((s ∷ mid) ++ (t ∷ q ∷ ts)) = omega (arith, length-append (s ∷ mid) (t ∷ q ∷ ts)) in
        ap (λ (j : ℕ). get_or ((s ∷ mid) ++ (t ∷ q ∷ ts)) j []) (mod-eq_of_lt less) ∙ get_or-append-add (s ∷ mid) (t ∷ q ∷ ts) 1 []

    test_is : (mid : Points) (t : List ℤ) (ts : Points) →
        implied_at implied ((s ∷ mid) ++ (t ∷ ts)) (length (s ∷ mid)) ≡ implied (last_of mid) t (next_or s ts)
    unfolding implied_at
    test_is mid t ts =
        let before = get_or-append (s ∷ mid) (t ∷ ts) [] (length mid) (omega arith) in
        let this = get_or-append_seam (s ∷ mid) t ts [] in
        λ k. implied (before k) (this k) (next_is mid t ts k)

    removed_is : (mid : Points) (t : List ℤ) (ts : Points) → removed ((s ∷ mid) ++ (t ∷ ts)) (length (s ∷ mid)) ≡ (s ∷ mid) ++ ts
    removed_is mid t ts = λ k. take-append_seam (s ∷ mid) (t ∷ ts) k ++ drop-append-add (s ∷ mid) (t ∷ ts) 1 k

    last_is : (mid : Points) (t : List ℤ) → last_of (mid ++ (t ∷ [])) ≡ t
    last_is mid t = get_or_at (s ∷ mid) t [] [] (length (mid ++ (t ∷ []))) (omega (arith, length-append mid (t ∷ [])))

    walked : (ts mid : Points) → drop_from implied ((s ∷ mid) ++ ts) (length (s ∷ mid)) ≡ (s ∷ mid) ++ walk s (last_of mid) ts
    unfolding walk
    walked [] mid = stops implied ((s ∷ mid) ++ []) (length (s ∷ mid)) (omega (arith, length-append (s ∷ mid) []))
    walked (t ∷ ts) mid = by (implied (last_of mid) t (next_or s ts)) refl (walked ts mid) (walked ts (mid ++ (t ∷ [])))
      where
        inside : length (s ∷ mid) < length ((s ∷ mid) ++ (t ∷ ts))
        inside = omega (arith, length-append (s ∷ mid) (t ∷ ts))

        place : length (s ∷ mid) + 1 ≡ length (s ∷ (mid ++ (t ∷ [])))
        place = omega (arith, length-append mid (t ∷ []))

        by : (b : Bool) → implied (last_of mid) t (next_or s ts) ≡ b →
            drop_from implied ((s ∷ mid) ++ ts) (length (s ∷ mid)) ≡ (s ∷ mid) ++ walk s (last_of mid) ts →
            drop_from implied ((s ∷ (mid ++ (t ∷ []))) ++ ts) (length (s ∷ (mid ++ (t ∷ [])))) ≡ (s ∷ (mid ++ (t ∷ []))) ++ walk s (last_of (mid ++ (t ∷ []))) ts →
            drop_from implied ((s ∷ mid) ++ (t ∷ ts)) (length (s ∷ mid)) ≡ (s ∷ mid) ++ cond b (walk s (last_of mid) ts) (t ∷ walk s t ts)
        by true e gone kept =
            drops implied ((s ∷ mid) ++ (t ∷ ts)) (length (s ∷ mid)) inside (test_is mid t ts ∙ e)
            ∙ ap (λ (ps : Points). drop_from implied ps (length (s ∷ mid))) (removed_is mid t ts)
            ∙ gone
        by false e gone kept =
            keeps implied ((s ∷ mid) ++ (t ∷ ts)) (length (s ∷ mid)) inside (test_is mid t ts ∙ e)
            ∙ (λ k. drop_from implied (s ∷ sym (append_snoc mid t ts) k) (place k))
            ∙ kept
            ∙ ap (λ (b : List ℤ). (s ∷ (mid ++ (t ∷ []))) ++ walk s b ts) (last_is mid t)
            ∙ ap (λ (ps : Points). s ∷ ps) (append_snoc mid t (walk s t ts))

  -- the first point stays
  pub from_one : (s : List ℤ) (ts : Points) → drop_from implied (s ∷ ts) 1 ≡ s ∷ walk s s ts
  from_one s ts = walked s ts []

  pub from_none : drop_from implied [] 1 ≡ []
  from_none = stops implied [] 1 (omega arith)
