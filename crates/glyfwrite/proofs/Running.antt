-- Flags in runs. Assumes nothing.
use Prim.Native.Nat.{ℕ, ◌+◌, ◌≤◌, ◌<◌}
use mathlib.Core.Bool.{Bool, true, false, ◌&&◌}
use mathlib.Core.List.{List, [], ◌∷◌, append-nil}
use mathlib.Core.Path.{◌≡◌, refl, sym}
use native.Mathlib.Omega.{arith}
use native.Mathlib.Numerals.{add-one}
use borrow.Author.Tests.{eqb-true, ltb-true}
use lib.Dec.{eqb, ltb}
use lib.IntN.{ℤ, pos, ◌-ℤ◌}
use lib.ListN.{length, get_or, drop, drop_of_length-le}
use lib.Seq.{drop-cons}
use Rattle.glyf.specs.Layout.{run_of, packed, packed_if, packed_flags, coded_flags, steps}
use Rattle.glyfwrite.specs.Differences.{difference_of, flag_by}
use Rattle.glyfwrite.specs.Puts.{Put}
use Rattle.glyfwrite.specs.Runs.{Turned}
use Rattle.glyfwrite.specs.declared.difference.Difference.{Difference}
use Rattle.glyfwrite.specs.declared.flags.Run.{Run}
use Rattle.glyfwrite.proofs.Putting.{Going, more, all, nothing}
use Rattle.glyfwrite.proofs.Coding.{same_bits}

-- ---- one flag more

pub goes : (out : List ℕ) (v : Run) (f : ℕ) → v.times ≤ 256 → (eqb f v.flag && ltb v.times 256) ≡ true →
    Turned out v f out (record { at = v.at; flag = v.flag; times = v.times + 1 })
unfolding packed
goes out v f h e = record {
  text = [];
  put = nothing out v.at;
  is = λ gs. rw e;
  near = omega arith;
  either = (by (eqb f v.flag) (ltb v.times 256) refl e, λ k a b. a);
}
  where
    by : (s t : Bool) → ltb v.times 256 ≡ t → (s && t) ≡ true → v.times + 1 ≤ 256
    by true true q p = omega (arith, ltb-true v.times 256 q)
    by true false q p = absurd (let z : ◌≡◌ {A = ℕ} 0 1 = cc in omega arith)
    by false t q p = absurd (let z : ◌≡◌ {A = ℕ} 0 1 = cc in omega arith)

pub ends : {out out' : List ℕ} {v : Run} {f r : ℕ} → (eqb f v.flag && ltb v.times 256) ≡ false → Put out v.at (run_of v.flag v.times) out' r → r ≤ v.at + 2 →
    Turned out v f out' (record { at = r; flag = f; times = 1 })
unfolding packed
ends {out} {out'} {v} {f} {r} e p h = record {
  text = run_of v.flag v.times;
  put = p;
  is = λ gs. rw e;
  near = h;
  either = (omega arith, λ k a b. b);
}

-- ---- the flags of points

-- a run of no flag comes before the first
pub starts : (fs : List ℕ) → packed_flags fs ≡ packed fs 0 0
unfolding packed_flags packed
starts [] = refl
starts (f ∷ fs) = by (eqb f 0) refl
  where
    by : (t : Bool) → eqb f 0 ≡ t → packed fs f 1 ≡ packed_if (t && true) 0 0 f (λ h m. packed fs h m)
    by true e = rw (eqb-true f 0 e)
    by false e = refl

module _ (fs : List ℕ) (xs ys : List ℤ) (i : ℕ) (lx ly : ℤ) where
  pub next_flag_lem : i < length fs → i < length xs → i < length ys → {x y : ℤ} → x ≡ get_or xs i (pos 0) → y ≡ get_or ys i (pos 0) → {dx dy : Difference} →
      dx ≡ difference_of (x -ℤ lx) → dy ≡ difference_of (y -ℤ ly) → {g : ℕ} → g ≡ flag_by (get_or fs i 0) dx dy →
      coded_flags (drop i fs) (steps lx (drop i xs)) (steps ly (drop i ys)) ≡ g ∷ coded_flags (drop (i + 1) fs) (steps x (drop (i + 1) xs)) (steps y (drop (i + 1) ys))
  unfolding coded_flags steps flag_by
  next_flag_lem hf hx hy {x} {y} ex ey {dx} {dy} edx edy {g} eg =
      rw (add-one, drop-cons fs i 0 hf, drop-cons xs i (pos 0) hx, drop-cons ys i (pos 0) hy, eg, edx, edy, same_bits, same_bits, ex, ey)

  pub no_flag : length fs ≤ i → coded_flags (drop i fs) (steps lx (drop i xs)) (steps ly (drop i ys)) ≡ []
  unfolding coded_flags
  no_flag h = rw (drop_of_length-le fs h)

pub last_run : {out₀ text out out' : List ℕ} {from at r : ℕ} (cs : List ℕ) (f k : ℕ) → Going out₀ from text out at (packed cs f k) → cs ≡ [] → Put out at (run_of f k) out' r →
    Put out₀ from text out' r
unfolding packed
last_run cs f k g e p = all (more g (rw e (sym (append-nil (run_of f k)))) p) refl
