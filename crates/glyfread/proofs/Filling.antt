-- The points of a walk, put into their rows. Assumes nothing.
use Prim.Native.Nat.{ℕ, suc, ◌+◌, ◌-◌, ◌≤◌, ◌<◌}
use mathlib.Core.Bool.{true, false, false≢true}
use mathlib.Core.List.{List, [], ◌∷◌}
use mathlib.Core.Path.{◌≡◌, refl, sym, ap, ◌∙◌}
use native.Mathlib.Omega.{arith}
use native.Mathlib.Numerals.{add-one}
use lib.IntN.{ℤ, pos}
use lib.ListN.{length, get_or, set, drop, length-drop, length-set}
use lib.Seq.{drop-cons}
use Rattle.glyf.specs.Layout.{Taken, taken, cut, is_on}
use Rattle.glyf.specs.Layout.{laid}
use Rattle.glyfread.specs.Walks.{Coords, coords, ahead, fits, xs_in, ys_in, on_in, in_front, Advanced, Roomy, Walked}
use Rattle.glyfread.specs.declared.walk.Walk.{Walk}
use Rattle.rows.proofs.Filled.{Filled, start, more}
use Rattle.glyfread.proofs.Words.{laid_all}
use Rattle.glyfread.proofs.Advancing.{fit_starts, fit_stops, fit_goes, fit_ends, goes, ends}

-- ---- the next of what is left

module _ {A : Type 0} (s : List A) (i : ℕ) {a : A} {r : List A} (e : drop i s ≡ a ∷ r) where
  pub there : i < length s
  there = omega (arith, sym (length-drop i s) ∙ ap length e)

  pub at_place : (z : A) → a ≡ get_or s i z
  at_place z = let d = drop-cons s i z there in cc

  pub after_it : (z : A) → r ≡ drop (i + 1) s
  after_it z = let d = drop-cons s i z there in rw add-one (cc)

none_after : {A : Type 0} (s : List A) (i : ℕ) → [] ≡ drop i s → length s ≤ i
none_after s i e = omega (arith, sym (length-drop i s) ∙ ap length (sym e))

-- what is in front, where the points fit
front : (v : Walk) (t : Taken Coords) → fits (in_front v t) ≡ true →
    (xs_in (in_front v t) ≡ v.x ∷ xs_in t) × (ys_in (in_front v t) ≡ v.y ∷ ys_in t) × (on_in (in_front v t) ≡ is_on v.flag ∷ on_in t)
unfolding fits
front v (taken (coords fs xs ys) end) h = (refl, refl, refl)
front v cut h = absurd (false≢true h)

-- i points are in the rows, and those of the walk w are left
pub record Filling (bs : List ℕ) (count : ℕ) (whole : Taken Coords) (xs₀ ys₀ : List ℤ) (fs₀ : List ℕ) (xs ys : List ℤ) (fs : List ℕ) (w : Walk) (i : ℕ) : Type 0 where
  pub in_xs : Filled (xs_in whole) xs₀ xs i
  pub in_ys : Filled (ys_in whole) ys₀ ys i
  pub in_fs : Filled (on_in whole) fs₀ fs i
  pub left_xs : xs_in (ahead (count - i) bs w) ≡ drop i (xs_in whole)
  pub left_ys : ys_in (ahead (count - i) bs w) ≡ drop i (ys_in whole)
  pub left_fs : on_in (ahead (count - i) bs w) ≡ drop i (on_in whole)
  pub fine : fits (ahead (count - i) bs w) ≡ true
  pub passed : i ≤ count

pub fill_starts : (bs : List ℕ) (w : Walk) (count : ℕ) (xs ys : List ℤ) (fs : List ℕ) → fits (ahead count bs w) ≡ true → Filling bs count (ahead count bs w) xs ys fs xs ys fs w 0
fill_starts bs w count xs ys fs h =
    let e = sym (fit_starts bs w count) in
    record {
      in_xs = start (xs_in (ahead count bs w)) xs;
      in_ys = start (ys_in (ahead count bs w)) ys;
      in_fs = start (on_in (ahead count bs w)) fs;
      left_xs = ap xs_in e;
      left_ys = ap ys_in e;
      left_fs = ap on_in e;
      fine = ap fits e ∙ h;
      passed = omega arith;
    }

module _ {bs : List ℕ} {count : ℕ} {whole : Taken Coords} {xs₀ ys₀ : List ℤ} {fs₀ : List ℕ} {xs ys : List ℤ} {fs : List ℕ} {w : Walk} {i : ℕ}
    (f : Filling bs count whole xs₀ ys₀ fs₀ xs ys fs w i) where
  pub fill_stops : i < count → ((n : ℕ) → fits (ahead (suc n) bs w) ≡ false) → ⊥
  fill_stops h out = false≢true (sym (fit_stops bs w count i h out) ∙ f.fine)

  module _ (h : i < count) {v : Walk} (a : Advanced bs w v) where
    abbrev t : Taken Coords
    t = ahead (count - (i + 1)) bs v

    step : ahead (count - i) bs w ≡ in_front v t
    step = goes bs w count i h a

    parts : (xs_in (in_front v t) ≡ v.x ∷ xs_in t) × (ys_in (in_front v t) ≡ v.y ∷ ys_in t) × (on_in (in_front v t) ≡ is_on v.flag ∷ on_in t)
    parts = front v t (sym (ap fits step) ∙ f.fine)

    of_xs : drop i (xs_in whole) ≡ v.x ∷ xs_in t
    of_xs = sym f.left_xs ∙ ap xs_in step ∙ parts.0

    of_ys : drop i (ys_in whole) ≡ v.y ∷ ys_in t
    of_ys = sym f.left_ys ∙ ap ys_in step ∙ parts.1

    of_fs : drop i (on_in whole) ≡ is_on v.flag ∷ on_in t
    of_fs = sym f.left_fs ∙ ap on_in step ∙ parts.2

    pub fill_goes : i < length xs → i < length ys → i < length fs → {x y : ℤ} {o : ℕ} → x ≡ v.x → y ≡ v.y → o ≡ is_on v.flag →
        Filling bs count whole xs₀ ys₀ fs₀ (set xs i x) (set ys i y) (set fs i o) v (i + 1)
    fill_goes kx ky kf {x} {y} {o} ex ey eo = record {
      in_xs = more (pos 0) x f.in_xs kx (there (xs_in whole) i of_xs) (ex ∙ at_place (xs_in whole) i of_xs (pos 0));
      in_ys = more (pos 0) y f.in_ys ky (there (ys_in whole) i of_ys) (ey ∙ at_place (ys_in whole) i of_ys (pos 0));
      in_fs = more 0 o f.in_fs kf (there (on_in whole) i of_fs) (eo ∙ at_place (on_in whole) i of_fs 0);
      left_xs = after_it (xs_in whole) i of_xs (pos 0);
      left_ys = after_it (ys_in whole) i of_ys (pos 0);
      left_fs = after_it (on_in whole) i of_fs 0;
      fine = sym (fit_goes bs w count i h a) ∙ f.fine;
      passed = omega arith;
    }

  module _ (h : count ≤ i) where
    last : ahead (count - i) bs w ≡ taken (coords [] [] []) (drop w.ys bs)
    last = ends bs w count i h

    pub filled_xs : xs ≡ laid (xs_in whole) xs₀
    filled_xs = laid_all f.in_xs (none_after (xs_in whole) i (sym (ap xs_in last) ∙ f.left_xs))

    pub filled_ys : ys ≡ laid (ys_in whole) ys₀
    filled_ys = laid_all f.in_ys (none_after (ys_in whole) i (sym (ap ys_in last) ∙ f.left_ys))

    pub filled_fs : fs ≡ laid (on_in whole) fs₀
    filled_fs = laid_all f.in_fs (none_after (on_in whole) i (sym (ap on_in last) ∙ f.left_fs))

-- ---- a walk into rows that may be too short

-- whether the points left fit is whether all do; where they do and have room, i of them are in the rows
pub record Walking (bs : List ℕ) (count : ℕ) (from : Walk) (xs₀ ys₀ : List ℤ) (fs₀ : List ℕ) (xs ys : List ℤ) (fs : List ℕ) (w : Walk) (i : ℕ) : Type 0 where
  pub same_xs : length xs ≡ length xs₀
  pub same_ys : length ys ≡ length ys₀
  pub same_fs : length fs ≡ length fs₀
  pub passed : i ≤ count
  pub fit : fits (ahead count bs from) ≡ fits (ahead (count - i) bs w)
  pub filling : fits (ahead count bs from) ≡ true → Roomy count (length xs₀) (length ys₀) (length fs₀) →
      Filling bs count (ahead count bs from) xs₀ ys₀ fs₀ xs ys fs w i

pub walk_starts : (bs : List ℕ) (w : Walk) (count : ℕ) (xs ys : List ℤ) (fs : List ℕ) → Walking bs count w xs ys fs xs ys fs w 0
walk_starts bs w count xs ys fs = record {
  same_xs = refl;
  same_ys = refl;
  same_fs = refl;
  passed = omega arith;
  fit = ap fits (fit_starts bs w count);
  filling = λ h r. fill_starts bs w count xs ys fs h;
}

module _ {bs : List ℕ} {count : ℕ} {from : Walk} {xs₀ ys₀ : List ℤ} {fs₀ : List ℕ} {xs ys : List ℤ} {fs : List ℕ} {w : Walk} {i : ℕ}
    (k : Walking bs count from xs₀ ys₀ fs₀ xs ys fs w i) where
  pub walk_stops : i < count → ((n : ℕ) → fits (ahead (suc n) bs w) ≡ false) → false ≡ fits (ahead count bs from)
  walk_stops h out = sym (k.fit ∙ fit_stops bs w count i h out)

  pub walk_goes : (h : i < count) {v : Walk} → Advanced bs w v → {x y : ℤ} {o : ℕ} → x ≡ v.x → y ≡ v.y → o ≡ is_on v.flag →
      {xs' ys' : List ℤ} {fs' : List ℕ} → xs' ≡ set xs i x → ys' ≡ set ys i y → fs' ≡ set fs i o → Walking bs count from xs₀ ys₀ fs₀ xs' ys' fs' v (i + 1)
  walk_goes h {v} a {x} {y} {o} ex ey eo {xs'} {ys'} {fs'} px py pf = rw (px, py, pf) (record {
    same_xs = length-set xs i x ∙ k.same_xs;
    same_ys = length-set ys i y ∙ k.same_ys;
    same_fs = length-set fs i o ∙ k.same_fs;
    passed = omega arith;
    fit = k.fit ∙ fit_goes bs w count i h a;
    filling = λ f r.
        fill_goes (k.filling f r) h a (omega (arith, k.same_xs, r.for_xs)) (omega (arith, k.same_ys, r.for_ys)) (omega (arith, k.same_fs, r.for_flags)) ex ey eo;
  })

  module _ (h : count ≤ i) where
    pub walk_fits : true ≡ fits (ahead count bs from)
    walk_fits = sym (k.fit ∙ fit_ends bs w count i h)

    pub walked : Walked (ahead count bs from) count xs₀ ys₀ fs₀ xs ys fs
    walked = record { in_xs = λ f r. filled_xs (k.filling f r) h; in_ys = λ f r. filled_ys (k.filling f r) h; in_fs = λ f r. filled_fs (k.filling f r) h }

  pub walked_none : false ≡ fits (ahead count bs from) → Walked (ahead count bs from) count xs₀ ys₀ fs₀ xs ys fs
  walked_none e = record {
    in_xs = λ f r. absurd (false≢true (e ∙ f));
    in_ys = λ f r. absurd (false≢true (e ∙ f));
    in_fs = λ f r. absurd (false≢true (e ∙ f));
  }
