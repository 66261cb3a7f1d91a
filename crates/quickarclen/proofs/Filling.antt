-- The loops of `fill_squares`, `fill_roots` and `lengths`: their invariants, and the 21 speeds. Assumes nothing.
use Rattle.std.proofs.Common.{ℕ, zero, suc, ◌+◌, ◌*◌, ◌/◌, ◌%◌, ◌<◌, ◌≡◌, refl, sym, ◌∙◌, List, add-one, arith, below_more, length, set, get_or, replicate, length-set, get_or-set_same, get_or-set_other}
use lib.ListN.{length-replicate, get_or-replicate}
use lib.Ieee.{Float, nan, binary64, add}
use Rattle.float.specs.Float.{root_of}
use Rattle.geometry.specs.Geometry.{square_norm_of}
use Rattle.arclen.specs.Rk4.{half_of, grown_by}
use Rattle.arclen.specs.Arclen.{deriv_of, speed_of, rk4_one}
use Rattle.quickarclen.specs.Stages.{time_from, place_at, Squares, Ready, Roots, Lengths}
use Rattle.arclen.specs.declared.ArclenFunctor.{ArclenFunctor}
use Rattle.arclen.proofs.Laws.{is_longer}
use Rattle.quickarclen.proofs.Walking.{stored}

module _ (h : Float) where
  -- one step more
  pub time_next : (t : Float) (i : ℕ) → time_from h t (suc i) ≡ add binary64 (time_from h t i) h
  unfolding time_from
  time_next t zero = refl
  time_next t (suc i) = time_next (add binary64 t h) i

  -- the times of the step i
  place_even : (t : Float) (i : ℕ) → place_at h t (2 * i) ≡ time_from h t i
  unfolding place_at
  place_even t i =
      let step : 2 * i / 2 ≡ i = omega arith in
      let part : 2 * i % 2 ≡ 0 = omega arith in
      rw (step, part)

  place_odd : (t : Float) (i : ℕ) → place_at h t (2 * i + 1) ≡ add binary64 (time_from h t i) (half_of h)
  unfolding place_at
  place_odd t i =
      let step : (2 * i + 1) / 2 ≡ i = omega arith in
      let part : (2 * i + 1) % 2 ≡ 1 = omega arith in
      rw (step, part)

  -- a step later
  place_later : (t : Float) (k : ℕ) → place_at h t (k + 2) ≡ place_at h (add binary64 t h) k
  unfolding place_at time_from
  place_later t k =
      let step : (k + 2) / 2 ≡ suc (k / 2) = omega arith in
      let part : (k + 2) % 2 ≡ k % 2 = omega arith in
      rw (step, part)

-- ---- the squares

-- that of the place after k
abbrev square_after : ArclenFunctor → Float → Float → ℕ → Float
square_after f h t k = square_norm_of (deriv_of f (place_at h t (k + 1)))

pub no_squares : {f : ArclenFunctor} {h t : Float} {w : List Float} → length w ≡ 20 → Squares f h t w 0
no_squares e = record { long = e; is = λ j less. absurd (omega arith) }

pub two_more : (f : ArclenFunctor) (h s : Float) (w : List Float) (i : ℕ) (t a b : Float) → i < 10 → t ≡ time_from h s i → Squares f h s w (2 * i) →
    a ≡ square_norm_of (deriv_of f (add binary64 t (half_of h))) → b ≡ square_norm_of (deriv_of f (add binary64 t h)) →
    Squares f h s (set (set w (2 * i) a) (2 * i + 1) b) (2 * (i + 1))
two_more f h s w i t a b less time all ea eb =
    let h0 : 2 * i < length w = omega (arith, all.long) in
    let h1 : 2 * i + 1 < length (set w (2 * i) a) = simp length-set (omega (arith, all.long)) in
    let after : 2 * i + 1 + 1 ≡ 2 * suc i = omega arith in
    record {
      long = simp length-set all.long;
      is =
          λ k l. stored nan (square_after f h s) (set w (2 * i) a) (2 * i + 1) b h1 (eb ∙ rw (time, after, place_even h s (suc i), time_next))
          (stored nan (square_after f h s) w (2 * i) a h0 (ea ∙ rw (time, place_odd h s i)) all.is) k (omega arith);
    }

-- ---- the roots: below k there are those of what w holds, after the first place
pub no_roots : {w v : List Float} → length v ≡ 21 → Roots w (get_or v 0 nan) v 0
no_roots e = record { long = e; start = refl; is = λ j less. absurd (omega arith) }

pub one_root : {w v : List Float} {first : Float} {k : ℕ} (a : Float) → Roots w first v k → k < 20 → a ≡ root_of (get_or w k nan) →
    Roots w first (set v (k + 1) a) (k + 1)
one_root {w} {v} {first} {k} a r less e =
    record {
      long = simp length-set r.long;
      start = get_or-set_other v (k + 1) 0 a nan (λ same. omega arith) ∙ r.start;
      is =
          below_more _ k (λ j low. get_or-set_other v (k + 1) (j + 1) a nan (λ same. omega arith) ∙ r.is j low)
          (get_or-set_same v (k + 1) a nan (omega (arith, r.long)) ∙ e);
    }

-- ---- the speeds

all_ready : {f : ArclenFunctor} {h t first : Float} {w v : List Float} → first ≡ speed_of f t → Squares f h t w 20 → Roots w first v 20 → Ready f h t v 0
unfolding speed_of place_at time_from
all_ready {f} {h} {t} {first} {w} {v} e s r = record { is = λ k less. by k (omega arith) }
  where
    by : (k : ℕ) → k < 21 → get_or v (2 * 0 + k) nan ≡ speed_of f (place_at h t k)
    by zero low = r.start ∙ e
    by (suc j) low =
        let all : 2 * 0 + suc j ≡ j + 1 = omega arith in
        let next : suc j ≡ j + 1 = omega arith in
        rw (all, next) (r.is j (omega arith) ∙ rw (s.is j (omega arith)))

-- the last of the speeds before them is the first
pub speeds_ready : {f : ArclenFunctor} {h t : Float} (before : List Float) {w v : List Float} → length before ≡ 21 → get_or before 20 nan ≡ speed_of f t →
    Squares f h t w 20 → Roots w (get_or (set before 0 (get_or before 20 nan)) 0 nan) v 20 → Ready f h t v 0
speeds_ready before long last s r = all_ready (get_or-set_same before 0 (get_or before 20 nan) nan (omega arith) ∙ last) s r

module _ {f : ArclenFunctor} {h t : Float} {v : List Float} {i : ℕ} (now : Ready f h t v i) where
  pub speed_first : i < 10 → get_or v (2 * i) nan ≡ speed_of f t
  unfolding place_at time_from
  speed_first less =
      let same : 2 * i ≡ 2 * i + 0 = omega arith in
      rw same (now.is 0 (omega arith))

  pub speed_middle : i < 10 → get_or v (2 * i + 1) nan ≡ speed_of f (add binary64 t (half_of h))
  unfolding place_at time_from
  speed_middle less = now.is 1 (omega arith)

  pub speed_last : i < 10 → get_or v (2 * i + 2) nan ≡ speed_of f (add binary64 t h)
  unfolding place_at time_from
  speed_last less = now.is 2 (omega arith)

  -- for the next step
  pub ready_next : Ready f h (add binary64 t h) v (i + 1)
  ready_next =
      record {
        is = λ k less.
            let same : 2 * (i + 1) + k ≡ 2 * i + (k + 2) = omega arith in
            rw (same, ← place_later h t k) (now.is (k + 2) (omega arith));
      }

-- ---- the lengths: those of k steps are written

pub no_lengths : (h y : Float) (v : List Float) → Lengths h y v (replicate 11 y) 0
no_lengths h y v = record { long = length-replicate 11 y; start = get_or-replicate 11 0 y nan (omega arith); next = λ i less. absurd (omega arith) }

pub one_length : {h y : Float} {v at : List Float} {k : ℕ} (z : Float) → Lengths h y v at k → k < 10 →
    z ≡ grown_by h (get_or at k nan) (get_or v (2 * k) nan) (get_or v (2 * k + 1) nan) (get_or v (2 * k + 1) nan) (get_or v (2 * k + 2) nan) →
    Lengths h y v (set at (k + 1) z) (k + 1)
one_length {h} {y} {v} {at} {k} z l less e =
    record {
      long = simp length-set l.long;
      start = kept 0 (omega arith) ∙ l.start;
      next =
          below_more _ k (λ i low. kept (i + 1) (omega arith) ∙ l.next i low ∙ rw (kept i (omega arith)))
          (get_or-set_same at (k + 1) z nan (omega (arith, l.long)) ∙ e ∙ rw (kept k (omega arith)));
    }
  where
    kept : (j : ℕ) → j < k + 1 → get_or (set at (k + 1) z) j nan ≡ get_or at j nan
    kept j low = get_or-set_other at (k + 1) j z nan (λ same. omega arith)

-- with the speeds of ten steps they are those of RK4
ready_from : {f : ArclenFunctor} {h t : Float} {v : List Float} → Ready f h t v 0 → (i : ℕ) → Ready f h (time_from h t i) v i
unfolding time_from
ready_from now zero = now
ready_from {f} {h} {t} {v} now (suc i) = rw (time_next h t i, ← add-one i) (ready_next (ready_from now i))

pub reached : {f : ArclenFunctor} {h t y : Float} {v at : List Float} → Ready f h t v 0 → Lengths h y v at 10 → (i : ℕ) → i < 10 →
    get_or at (i + 1) nan ≡ rk4_one f h (time_from h t i) (get_or at i nan)
reached {f} {h} {t} {y} {v} {at} now l i less =
    let here = ready_from now i in
    l.next i less ∙ rw (speed_first here less, speed_middle here less, speed_last here less) (sym (is_longer f h (time_from h t i) (get_or at i nan)))
