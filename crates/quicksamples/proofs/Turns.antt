-- Ten steps at a time of the samples over a quad, as the code takes them. Assumes nothing.
use Prim.Native.Nat.{ℕ, zero, suc, ◌+◌, ◌-◌, ◌*◌, ◌≤◌, ◌<◌}
use native.Mathlib.Numerals.{add-one}
use native.Mathlib.Omega.{arith}
use borrow.Author.Count.{below_more}
use mathlib.Core.Bool.{Bool, true, false, ◌||◌, true≢false}
use mathlib.Core.List.{List}
use mathlib.Core.Path.{◌≡◌, refl, sym, ◌∙◌}
use lib.ListN.{length, get_or, take}
use lib.Ieee.{Float, nan, binary64, add, le}
use Rattle.float.specs.Numbers.{nought}
use Rattle.geometry.specs.declared.Quad.{Quad}
use Rattle.arclen.specs.Arclen.{hundredth, arclen_functor_of, speed_of, rk4_one}
use Rattle.arclen.specs.declared.ArclenFunctor.{ArclenFunctor}
use Rattle.quickarclen.specs.Stages.{time_from, place_at, Ready, SameSpeeds, Lengths}
use Rattle.quickarclen.specs.Straight.{Straight}
use Rattle.quickarclen.proofs.Filling.{time_next, reached}
use Rattle.quickarclen.proofs.Times.{time_on}
use Rattle.quickarclen.proofs.Straight.{straight_ready}
use Rattle.samples.specs.Samples.{Sample, Walked, full, at, fill_to, filled, moved_to, step_at, step_to, sweep_from, length_from, length_after, walked_in}
use Rattle.samples.specs.declared.Step.{Step}
use Rattle.samples.specs.declared.Walk.{Walk}
use Rattle.samples.proofs.Turns.{not_due, sweep_full}
use Rattle.quicksamples.specs.Tens.{steps_along, NoneDue}

-- ---- ten steps over a quad from t₀ on, of which i are done
pub record Stepping (q : Quad) (row₀ : List Sample) (n₀ : ℕ) (ix₀ : Float) (last₀ : Step) (t₀ : Float) (starts : List Float)
    (row : List Sample) (n : ℕ) (ix : Float) (last : Step) (t : Float) (i : ℕ) : Type 0 where
  pub long : length row ≡ length row₀
  pub inside : n ≤ length row₀
  pub rows : steps_along 10 (length row₀) q t₀ starts 0 (at (take n₀ row₀) ix₀ last₀) ≡ steps_along (10 - i) (length row₀) q t starts i (at (take n row) ix last)

-- a full row stays full
steps_full : (k room : ℕ) (q : Quad) (t : Float) (starts : List Float) (i : ℕ) → steps_along k room q t starts i full ≡ full
unfolding steps_along filled moved_to
steps_full zero room q t starts i = refl
steps_full (suc k) room q t starts i = steps_full k room q (add binary64 t hundredth) starts (i + 1)

module _ {q : Quad} {row₀ : List Sample} {n₀ : ℕ} {ix₀ : Float} {last₀ : Step} {t₀ : Float} {starts : List Float}
    {row : List Sample} {n : ℕ} {ix : Float} {last : Step} {t : Float} {i : ℕ}
    (s : Stepping q row₀ n₀ ix₀ last₀ t₀ starts row n ix last t i) where
  -- one step more
  turn : i < 10 → steps_along (10 - i) (length row₀) q t starts i (at (take n row) ix last)
      ≡ steps_along (10 - (i + 1)) (length row₀) q (add binary64 t hundredth) starts (i + 1)
      (moved_to (step_at q t (get_or starts i nan)) (fill_to (length row₀) (step_at q t (get_or starts i nan)) (get_or starts i nan) (take n row) ix last))
  unfolding steps_along filled
  turn h =
      let one_less : 10 - i ≡ suc (10 - (i + 1)) = omega arith in
      rw one_less

  pub steps : {row' : List Sample} {m : ℕ} {x : Float} {this : Step} → i < 10 → this ≡ step_at q t (get_or starts i nan) →
      fill_to (length row) this (get_or starts i nan) (take n row) ix last ≡ at (take m row') x last → length row' ≡ length row → m ≤ length row →
      Stepping q row₀ n₀ ix₀ last₀ t₀ starts row' m x this (add binary64 t hundredth) (i + 1)
  unfolding moved_to
  steps h is fills same few =
      record {
        long = same ∙ s.long;
        inside = omega (arith, s.long);
        rows = s.rows ∙ turn h ∙ rw (← is, ← s.long, fills) refl;
      }

  pub steps_over : {this : Step} → i < 10 → this ≡ step_at q t (get_or starts i nan) → fill_to (length row) this (get_or starts i nan) (take n row) ix last ≡ full →
      steps_along 10 (length row₀) q t₀ starts 0 (at (take n₀ row₀) ix₀ last₀) ≡ full
  unfolding moved_to
  steps_over h is fills = s.rows ∙ turn h ∙ rw (← is, ← s.long, fills) (steps_full (10 - (i + 1)) _ q _ _ _)

  pub steps_all : 10 ≤ i → steps_along 10 (length row₀) q t₀ starts 0 (at (take n₀ row₀) ix₀ last₀) ≡ at (take n row) ix last
  unfolding steps_along
  steps_all h =
      let none : 10 - i ≡ 0 = omega arith in
      s.rows ∙ rw none

-- where no sample is due, only the last step counts
idle_steps : (k room : ℕ) (q : Quad) (t : Float) (starts : List Float) (i : ℕ) (rows : List Sample) (ix : Float) (last : Step) → NoneDue starts ix (i + suc k) →
    steps_along (suc k) room q t starts i (at rows ix last) ≡ at rows ix (step_at q (time_from hundredth t k) (get_or starts (i + k) nan))
unfolding steps_along filled moved_to time_from
idle_steps zero room q t starts i rows ix last none =
    let here : i + 0 ≡ i = omega arith in
    rw (not_due room rows ix last (step_at q t (get_or starts i nan)) (get_or starts i nan) (none.is i (omega arith)), here)
idle_steps (suc k) room q t starts i rows ix last none =
    let there : i + suc k ≡ i + 1 + k = omega arith in
    let all : i + suc (suc k) ≡ i + 1 + suc k = omega arith in
    rw (not_due room rows ix last (step_at q t (get_or starts i nan)) (get_or starts i nan) (none.is i (omega arith)), there)
    (idle_steps k room q (add binary64 t hundredth) starts (i + 1) rows ix (step_at q t (get_or starts i nan)) (rw all at none))

pub idle : (room : ℕ) (q : Quad) (t : Float) (starts : List Float) (rows : List Sample) (ix : Float) (last : Step) → NoneDue starts ix 10 →
    steps_along 10 room q t starts 0 (at rows ix last) ≡ at rows ix (step_at q (time_from hundredth t 9) (get_or starts 9 nan))
idle room q t starts rows ix last none = idle_steps 9 room q t starts 0 rows ix last none

pub neither : (p q : Bool) → p || q ≡ false → (p ≡ false) × (q ≡ false)
neither false q h = (refl, h)
neither true q h = absurd (true≢false h)

pub one_not_due : {starts : List Float} {ix : Float} {i : ℕ} → NoneDue starts ix i → le ix (get_or starts i nan) ≡ false → NoneDue starts ix (i + 1)
one_not_due {starts} {ix} {i} none e = record { is = below_more (λ (j : ℕ). le ix (get_or starts j nan) ≡ false) i none.is e }

-- ---- one step more
sweep_more : (k room : ℕ) (q : Quad) (t y : Float) (w : Walked) →
    sweep_from (suc k) room q t y w ≡ sweep_from k room q (add binary64 t hundredth) (rk4_one (arclen_functor_of q) hundredth t y) (step_to room (step_at q t y) w)
unfolding sweep_from
sweep_more k room q t y w = refl

steps_more : (k room : ℕ) (q : Quad) (t : Float) (starts : List Float) (i : ℕ) (w : Walked) →
    steps_along (suc k) room q t starts i w ≡ steps_along k room q (add binary64 t hundredth) starts (i + 1) (step_to room (step_at q t (get_or starts i nan)) w)
unfolding steps_along
steps_more k room q t starts i w = refl

length_more : (k : ℕ) (f : ArclenFunctor) (t y : Float) → length_from (suc k) f t y ≡ length_from k f (add binary64 t hundredth) (rk4_one f hundredth t y)
unfolding length_from
length_more k f t y = refl

-- ---- ten steps with their speeds and lengths are ten of RK4
module _ {f : ArclenFunctor} {t y : Float} {v starts : List Float} (q : Quad) (is : f ≡ arclen_functor_of q) (now : Ready f hundredth t v 0) (l : Lengths hundredth y v starts 10) where
  next : (i : ℕ) → i < 10 → rk4_one (arclen_functor_of q) hundredth (time_from hundredth t i) (get_or starts i nan) ≡ get_or starts (i + 1) nan
  next i less = sym (reached now l i less ∙ rw is)

  later : (i : ℕ) → add binary64 (time_from hundredth t i) hundredth ≡ time_from hundredth t (i + 1)
  later i = sym (rw (add-one i) (time_next hundredth t i))

  swept : (n i m room : ℕ) (w : Walked) → i + n ≡ 10 → sweep_from (n + m) room q (time_from hundredth t i) (get_or starts i nan) w
      ≡ sweep_from m room q (time_from hundredth t 10) (get_or starts 10 nan) (steps_along n room q (time_from hundredth t i) starts i w)
  unfolding sweep_from steps_along
  swept zero i m room w e =
      let ten : i ≡ 10 = omega arith in
      let all : 0 + m ≡ m = omega arith in
      rw (all, ten)
  swept (suc n) i m room w e =
      let more : suc n + m ≡ suc (n + m) = omega arith in
      rw (more, sweep_more (n + m), steps_more n, next i (omega arith), later i) (swept n (i + 1) m room (step_to room (step_at q (time_from hundredth t i) (get_or starts i nan)) w) (omega arith))

  grown : (n i m : ℕ) → i + n ≡ 10 → length_from (n + m) (arclen_functor_of q) (time_from hundredth t i) (get_or starts i nan)
      ≡ length_from m (arclen_functor_of q) (time_from hundredth t 10) (get_or starts 10 nan)
  unfolding length_from
  grown zero i m e =
      let ten : i ≡ 10 = omega arith in
      let all : 0 + m ≡ m = omega arith in
      rw (all, ten)
  grown (suc n) i m e =
      let more : suc n + m ≡ suc (n + m) = omega arith in
      rw (more, length_more (n + m), next i (omega arith), later i) (grown n (i + 1) m (omega arith))

  pub ten_swept : (m room : ℕ) (w : Walked) → sweep_from (10 + m) room q t y w
      ≡ sweep_from m room q (time_from hundredth t 10) (get_or starts 10 nan) (steps_along 10 room q t starts 0 w)
  unfolding time_from
  ten_swept m room w = rw (← l.start) (swept 10 0 m room w (omega arith))

  pub ten_grown : (m : ℕ) → length_from (10 + m) (arclen_functor_of q) t y ≡ length_from m (arclen_functor_of q) (time_from hundredth t 10) (get_or starts 10 nan)
  unfolding time_from
  ten_grown m = rw (← l.start) (grown 10 0 m (omega arith))

-- ---- 100 steps over a quad, of which 10 * k are done. The speed where the next ones start is known, and of a straight quad all speeds
pub record Sweeping (q : Quad) (f : ArclenFunctor) (straight : Bool) (row₀ : List Sample) (w₀ : Walk) (row : List Sample) (w : Walk) (t : Float) (v : List Float) (k : ℕ) : Type 0 where
  pub functor : f ≡ arclen_functor_of q
  pub known : length v ≡ 21
  pub speed : get_or v 20 nan ≡ speed_of f t
  pub even : straight ≡ true → Straight f × SameSpeeds f nought v
  pub time : t ≡ time_from hundredth nought (10 * k)
  pub long : length row ≡ length row₀
  pub inside : w.n ≤ length row₀
  pub rows : sweep_from 100 (length row₀) q nought w₀.len (walked_in row₀ w₀) ≡ sweep_from (100 - 10 * k) (length row₀) q t w.len (walked_in row w)
  pub len : length_after q w₀.len ≡ length_from (100 - 10 * k) (arclen_functor_of q) t w.len

-- the last of the speeds of ten steps is that where the next ones start
last_speed : {f : ArclenFunctor} {t : Float} {v : List Float} → Ready f hundredth t v 0 → get_or v 20 nan ≡ speed_of f (time_from hundredth t 10)
unfolding place_at
last_speed now = now.is 20 (omega arith)

module _ {q : Quad} {f : ArclenFunctor} {straight : Bool} {row₀ : List Sample} {w₀ : Walk} {row : List Sample} {w : Walk} {t : Float} {v : List Float} {k : ℕ}
    (s : Sweeping q f straight row₀ w₀ row w t v k) (h : k < 10) where
  -- the speeds of ten steps of a straight quad
  pub straight_speeds : straight ≡ true → Ready f hundredth t v 0
  straight_speeds e = rw s.time (straight_ready (s.even e).0 (s.even e).1 (10 * k) (omega arith))

  module _ {v' starts : List Float} (now : Ready f hundredth t v' 0) (l : Lengths hundredth w.len v' starts 10) where
    more : 100 - 10 * k ≡ 10 + (100 - 10 * (k + 1))
    more = omega arith

    turned : sweep_from 100 (length row₀) q nought w₀.len (walked_in row₀ w₀)
        ≡ sweep_from (100 - 10 * (k + 1)) (length row₀) q (time_from hundredth t 10) (get_or starts 10 nan) (steps_along 10 (length row₀) q t starts 0 (walked_in row w))
    turned = s.rows ∙ rw more (ten_swept q s.functor now l (100 - 10 * (k + 1)) (length row₀) (walked_in row w))

    pub sweeps : {row' : List Sample} {z : Walk} {u : Float} → length v' ≡ 21 → (straight ≡ true → v' ≡ v) → u ≡ time_from hundredth t 10 →
        steps_along 10 (length row) q t starts 0 (walked_in row w) ≡ walked_in row' z → z.len ≡ get_or starts 10 nan → length row' ≡ length row → z.n ≤ length row →
        Sweeping q f straight row₀ w₀ row' z u v' (k + 1)
    sweeps {row'} {z} {u} known kept is steps longer same few =
        let there : 10 * k + 10 ≡ 10 * (k + 1) = omega arith in
        record {
          functor = s.functor;
          known = known;
          speed = last_speed now ∙ rw is;
          even = λ e. ((s.even e).0, rw (kept e) (s.even e).1);
          time = is ∙ rw (s.time, time_on hundredth nought (10 * k) 10, there);
          long = same ∙ s.long;
          inside = omega (arith, s.long);
          rows = turned ∙ rw (← s.long, steps, longer, is) refl;
          len = s.len ∙ rw (more, ten_grown q s.functor now l (100 - 10 * (k + 1)), longer, is) refl;
        }

    pub sweeps_over : steps_along 10 (length row) q t starts 0 (walked_in row w) ≡ full → sweep_from 100 (length row₀) q nought w₀.len (walked_in row₀ w₀) ≡ full
    sweeps_over steps = turned ∙ rw (← s.long, steps) (sweep_full (100 - 10 * (k + 1)) _ q _ _)

module _ {q : Quad} {f : ArclenFunctor} {straight : Bool} {row₀ : List Sample} {w₀ : Walk} {row : List Sample} {w : Walk} {t : Float} {v : List Float} {k : ℕ}
    (s : Sweeping q f straight row₀ w₀ row w t v k) (h : 10 ≤ k) where
  none : 100 - 10 * k ≡ 0
  none = omega arith

  pub swept_all : sweep_from 100 (length row₀) q nought w₀.len (walked_in row₀ w₀) ≡ walked_in row w
  unfolding sweep_from
  swept_all = s.rows ∙ rw none

  pub length_all_lem : w.len ≡ length_after q w₀.len
  unfolding length_from
  length_all_lem = sym (s.len ∙ rw none)
