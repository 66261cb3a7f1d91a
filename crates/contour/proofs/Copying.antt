-- A row whose first n places are given something of each of the first n places of a source: the law of `rows` for a list that is made of another.
-- Assumes nothing.
use Prim.Native.Nat.{ℕ, ◌+◌, ◌≤◌, ◌<◌}
use mathlib.Core.List.{List, ◌++◌, map}
use mathlib.Core.Path.{◌≡◌, sym, ap, ◌∙◌}
use native.Mathlib.Nat.{le_refl}
use native.Mathlib.Omega.{arith}
use lib.ListN.{length, take, drop, set, get_or, length-map, get_or-map}
use lib.Seq.{length-take-le, take_all, get_or-take}
use Rattle.rows.proofs.Filled.{Filled, more, filled}
use Rattle.contour.specs.Output.{front}

module _ {A B : Type 0} (past : A) (f : A → B) (source : List A) (n : ℕ) (inside : n ≤ length source) where
  size : length (map f (take n source)) ≡ n
  size = length-map (take n source) f ∙ length-take-le n source inside

  module _ {l m : List B} {i : ℕ} (r : Filled (map f (take n source)) l m i) where
    pub copy_more : {v : B} → i < n → n ≤ length l → v ≡ f (get_or source i past) → Filled (map f (take n source)) l (set m i v) (i + 1)
    copy_more {v} h k e =
        more (f past) v r (omega (arith, r.same)) (rw size h) (e ∙ sym (get_or-map f (take n source) i past ∙ ap f (get_or-take n source i past h)))

    pub copy_all : n ≤ i → m ≡ front (map f (take n source)) l
    copy_all h =
        rw size (filled n r (omega (arith, r.given, size)) ∙ ap (λ (s : List B). s ++ drop n l) (take_all n (map f (take n source)) (rw size (le_refl n))))
