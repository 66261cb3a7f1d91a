-- Rising ends, and the number of points. Assumes nothing.
use Prim.Native.Nat.{ℕ, suc, ◌+◌, ◌-◌, ◌≤◌, ◌<◌}
use mathlib.Core.Bool.{true, false, ◌&&◌}
use mathlib.Core.List.{List, [], ◌∷◌}
use mathlib.Core.Path.{◌≡◌, refl, ◌∙◌}
use native.Mathlib.Omega.{arith}
use borrow.Author.Tests.{lt-ltb, le-ltb}
use lib.Dec.{ltb}
use lib.ListN.{length, get_or, drop, length-drop}
use lib.Seq.{drop-cons}
use Rattle.glyf.specs.Layout.{count_of, rising}

short : (es : List ℕ) → length es ≤ 1 → true ≡ rising es
unfolding rising
short [] h = refl
short (a ∷ []) h = refl
short (a ∷ b ∷ es) h = absurd (omega arith)

module _ (es : List ℕ) (i : ℕ) where
  pub rise_end : length es ≤ i → true ≡ rising (drop (i - 1) es)
  rise_end h = short (drop (i - 1) es) (simp length-drop (omega arith))

  more : 1 ≤ i → i < length es → rising (drop (i - 1) es) ≡ (ltb (get_or es (i - 1) 0) (get_or es i 0) && rising (drop i es))
  unfolding rising
  more low h =
      let e : suc (i - 1) ≡ i = omega arith in
      rw (drop-cons es (i - 1) 0 (omega arith), e, drop-cons es i 0)

  pub rise_stops : 1 ≤ i → i < length es → get_or es i 0 ≤ get_or es (i - 1) 0 → rising (drop (i - 1) es) ≡ false
  rise_stops low h t = more low h ∙ rw (le-ltb (get_or es (i - 1) 0) (get_or es i 0) t)

  pub rise_goes : 1 ≤ i → i < length es → get_or es (i - 1) 0 < get_or es i 0 → rising (drop (i - 1) es) ≡ rising (drop (i + 1 - 1) es)
  rise_goes low h t =
      let e : i + 1 - 1 ≡ i = omega arith in
      more low h ∙ rw (lt-ltb (get_or es (i - 1) 0) (get_or es i 0) t, e)

-- ---- the number of points

pub no_points_lem : (es : List ℕ) → length es ≡ 0 → 0 ≡ count_of es
unfolding count_of
no_points_lem [] h = refl
no_points_lem (e ∷ es) h = absurd (omega arith)

pub some_points : (es : List ℕ) → (length es ≡ 0 → ⊥) → get_or es (length es - 1) 0 + 1 ≡ count_of es
unfolding count_of
some_points [] h = absurd (h refl)
some_points (e ∷ []) h = refl
some_points (e ∷ f ∷ es) h =
    let at : length (e ∷ f ∷ es) - 1 ≡ suc (length (f ∷ es) - 1) = omega arith in
    rw at (some_points (f ∷ es) (λ z. omega arith))
