-- How long a description is at most. Assumes nothing.
use Prim.Native.Nat.{ℕ, suc, ◌+◌, ◌*◌, ◌≤◌}
use native.Mathlib.Omega.{arith}
use mathlib.Core.Bool.{Bool, true, false, ◌&&◌}
use mathlib.Core.List.{List, [], ◌∷◌, ◌++◌, map}
use borrow.Author.Tests.{ltb-true}
use mathlib.Core.Path.{◌≡◌, refl}
use lib.Dec.{eqb, ltb}
use lib.IntN.{ℤ, pos}
use lib.ListN.{length, take, length-append, length-take, length-replicate}
use Rattle.glyf.specs.Layout.{Size, still, small, large, size_of, code_by, code_of, joined, steps, coded_flags, run_bytes, run_of, packed_if, packed, packed_flags, word_bytes, signed_bytes, box_of, count_of, bytes_of}
use Rattle.glyf.specs.Long.{AlwaysSuffices}

-- ---- each part

run_short : (b : Bool) (f k : ℕ) → ltb 2 k ≡ b → length (run_bytes b f k) ≤ k
run_short true f k e = omega (arith, ltb-true 2 k e)
run_short false f k e = omega (arith, length-replicate k f)

packed_short : (gs : List ℕ) (f k : ℕ) → length (packed gs f k) ≤ k + length gs
unfolding packed
packed_short [] f k = omega (arith, run_short (ltb 2 k) f k refl)
packed_short (g ∷ gs) f k = by (eqb g f && ltb k 256) (packed_short gs f (k + 1)) (packed_short gs g 1)
  where
    by : (b : Bool) → length (packed gs f (k + 1)) ≤ k + 1 + length gs → length (packed gs g 1) ≤ 1 + length gs →
        length (packed_if b f k g (λ h m. packed gs h m)) ≤ k + suc (length gs)
    by true more new = omega arith
    by false more new = omega (arith, length-append (run_of f k) (packed gs g 1), run_short (ltb 2 k) f k refl)

flags_short : (fs : List ℕ) → length (packed_flags fs) ≤ length fs
unfolding packed_flags
flags_short [] = omega arith
flags_short (f ∷ fs) = omega (arith, packed_short fs f 1)

coded_short : (fs : List ℕ) (dxs dys : List ℤ) → length (coded_flags fs dxs dys) ≤ length fs
unfolding coded_flags
coded_short [] dxs dys = omega arith
coded_short (f ∷ fs) [] dys = omega arith
coded_short (f ∷ fs) (dx ∷ dxs) [] = omega arith
coded_short (f ∷ fs) (dx ∷ dxs) (dy ∷ dys) = omega (arith, coded_short fs dxs dys)

code_short : (s : Size) (d : ℤ) → length (code_by s d) ≤ 2
code_short still d = omega arith
code_short small d = omega arith
code_short large d = omega arith

-- two bytes each at most
joined_short : {A : Type 0} (f : A → List ℕ) → ((a : A) → length (f a) ≤ 2) → (xs : List A) → length (joined (map f xs)) ≤ 2 * length xs
unfolding joined
joined_short f h [] = omega arith
joined_short f h (x ∷ xs) = omega (arith, length-append (f x) (joined (map f xs)), h x, joined_short f h xs)

codes_short : (ds : List ℤ) → length (joined (map code_of ds)) ≤ 2 * length ds
unfolding code_of
codes_short ds = joined_short code_of (λ d. code_short (size_of d) d) ds

steps_long : (z : ℤ) (xs : List ℤ) → length (steps z xs) ≡ length xs
unfolding steps
steps_long z [] = refl
steps_long z (x ∷ xs) = λ i. suc (steps_long x xs i)

-- ---- the whole

pub always_suffices : AlwaysSuffices
unfolding bytes_of
always_suffices g =
    let n = count_of g.ends in
    let xs = take n g.xs in
    let ys = take n g.ys in
    let fs = take n g.flags in
    let dxs = steps (pos 0) xs in
    let dys = steps (pos 0) ys in
    let box = joined (map signed_bytes (box_of xs ys)) in
    let ends = joined (map word_bytes g.ends) in
    let flags = packed_flags (coded_flags fs dxs dys) in
    let x-codes = joined (map code_of dxs) in
    let y-codes = joined (map code_of dys) in
    omega (
      arith,
      length-append (word_bytes (length g.ends)) (box ++ (ends ++ (word_bytes (length g.instructions) ++ (g.instructions ++ (flags ++ (x-codes ++ y-codes)))))),
      length-append box (ends ++ (word_bytes (length g.instructions) ++ (g.instructions ++ (flags ++ (x-codes ++ y-codes))))),
      length-append ends (word_bytes (length g.instructions) ++ (g.instructions ++ (flags ++ (x-codes ++ y-codes)))),
      length-append (word_bytes (length g.instructions)) (g.instructions ++ (flags ++ (x-codes ++ y-codes))),
      length-append g.instructions (flags ++ (x-codes ++ y-codes)),
      length-append flags (x-codes ++ y-codes),
      length-append x-codes y-codes,
      joined_short signed_bytes (λ z. two_bytes z) (box_of xs ys),
      joined_short word_bytes (λ v. word_two v) g.ends,
      flags_short (coded_flags fs dxs dys),
      coded_short fs dxs dys,
      codes_short dxs,
      codes_short dys,
      steps_long (pos 0) xs,
      steps_long (pos 0) ys,
      length-take n g.xs,
      length-take n g.ys,
      length-take n g.flags,
    )
  where
    word_two : (v : ℕ) → length (word_bytes v) ≤ 2
    word_two v = omega arith

    two_bytes : (z : ℤ) → length (signed_bytes z) ≤ 2
    two_bytes z = omega arith
