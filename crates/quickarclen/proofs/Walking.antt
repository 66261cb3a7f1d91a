-- The loops of `walk_straight` and `walk_bent`: their invariant, that it holds at first, after one more turn, and what it gives at the end. Assumes nothing.
use Prim.Native.Nat.{ℕ, ◌+◌, ◌*◌, ◌≤◌, ◌<◌}
use mathlib.Core.Path.{◌≡◌, refl, ◌∙◌}
use mathlib.Core.List.{List, []}
use native.Mathlib.Numerals.{add-one}
use native.Mathlib.Omega.{arith}
use borrow.Author.Count.{below_more}
use lib.ListN.{length, set, get_or, length-set}
use lib.Seq.{get_or-set_same, get_or-set_other}
use lib.Ieee.{Float, binary64, add}
use Rattle.float.specs.Numbers.{nought}
use Rattle.arclen.specs.Rk4.{half_of, grown_by}
use Rattle.arclen.specs.Arclen.{tenth, speed_of}
use Rattle.quickarclen.specs.Stages.{time_at, length_at, stage_of, stage_at, with_step, Walked}
use Rattle.arclen.specs.declared.ArclenFunctor.{ArclenFunctor}
use Rattle.arclen.proofs.Laws.{is_longer}
use Rattle.quickarclen.proofs.Laws.{stage_first, stage_next}

-- a row that holds g k at each place k below i holds one more after a store
pub stored : {A : Type 0} (d : A) (g : ℕ → A) (l : List A) (i : ℕ) (x : A) → i < length l → x ≡ g i →
    ((k : ℕ) → k < i → get_or l k d ≡ g k) → (k : ℕ) → k < i + 1 → get_or (set l i x) k d ≡ g k
stored d g l i x h e all =
    below_more _ i (λ k less. get_or-set_other l i k x d (λ same. omega arith) ∙ all k less) (get_or-set_same l i x d h ∙ e)

-- four stores
stored4 : (g : ℕ → List Float) (l : List (List Float)) (i : ℕ) (x0 x1 x2 x3 : List Float) → length l ≡ 40 → i < 10 →
    x0 ≡ g (4 * i) → x1 ≡ g (4 * i + 1) → x2 ≡ g (4 * i + 2) → x3 ≡ g (4 * i + 3) →
    ((k : ℕ) → k < 4 * i → get_or l k [] ≡ g k) →
    (k : ℕ) → k < 4 * (i + 1) → get_or (set (set (set (set l (4 * i) x0) (4 * i + 1) x1) (4 * i + 2) x2) (4 * i + 3) x3) k [] ≡ g k
stored4 g l i x0 x1 x2 x3 forty less e0 e1 e2 e3 all k h =
    let l1 : List (List Float) = set l (4 * i) x0 in
    let l2 : List (List Float) = set l1 (4 * i + 1) x1 in
    let l3 : List (List Float) = set l2 (4 * i + 2) x2 in
    let h0 : 4 * i < length l = omega arith in
    let h1 : 4 * i + 1 < length l1 = simp length-set (omega arith) in
    let h2 : 4 * i + 2 < length l2 = simp length-set (omega arith) in
    let h3 : 4 * i + 3 < length l3 = simp length-set (omega arith) in
    stored [] g l3 (4 * i + 3) x3 h3 e3
    (λ k3 b3. stored [] g l2 (4 * i + 2) x2 h2 e2
    (λ k2 b2. stored [] g l1 (4 * i + 1) x1 h1 e1 (stored [] g l (4 * i) x0 h0 e0 all) k2 (omega arith)) k3 (omega arith)) k (omega arith)

-- i steps are gone, and t and y are the time and the length there
pub record Walking (f : ArclenFunctor) (stages : List (List Float)) (t y : Float) (i : ℕ) : Type 0 where
  pub forty : length stages ≡ 40
  pub within : i ≤ 10
  pub time : t ≡ time_at tenth i
  pub long : y ≡ length_at f i
  pub done : (k : ℕ) → k < 4 * i → get_or stages k [] ≡ stage_at f k

-- a step more leaves as many places
pub as_long : (stages : List (List Float)) (i : ℕ) (t y a b d : Float) → length (with_step stages i t y a b d) ≡ length stages
unfolding with_step
as_long stages i t y a b d = simp length-set

module _ {f : ArclenFunctor} {stages : List (List Float)} where
  pub none : length stages ≡ 40 → Walking f stages nought nought 0
  unfolding time_at length_at
  none e =
      record {
        forty = e;
        within = omega arith;
        time = refl;
        long = refl;
        done = λ k less. absurd (omega arith);
      }

  pub more : {after : List (List Float)} {t y z a b d : Float} {i : ℕ} → Walking f stages t y i → i < 10 →
      a ≡ speed_of f t → b ≡ speed_of f (add binary64 t (half_of tenth)) → d ≡ speed_of f (add binary64 t tenth) →
      (after ≡ with_step stages i t y a b d) × (z ≡ grown_by tenth y a b b d) → Walking f after (add binary64 t tenth) z (i + 1)
  unfolding time_at length_at stage_of with_step
  more {t = t} {y} {z} {a} {b} {d} {i} w less first middle end (written, grows) = rw written
      record {
        forty = as_long stages i t y a b d ∙ w.forty;
        within = omega arith;
        time = rw (add-one, w.time);
        long = rw (grows, first, middle, end, w.long, w.time, add-one i, is_longer);
        done =
            stored4 (stage_at f) stages i _ _ _ _ w.forty less (rw (stage_first f i, first, w.long, w.time))
            (rw (stage_next f i 1 (omega arith), first, middle, w.long, w.time)) (rw (stage_next f i 2 (omega arith), middle, w.long, w.time))
            (rw (stage_next f i 3 (omega arith), middle, end, w.long, w.time)) w.done;
      }

  pub all : {t y : Float} {i : ℕ} → Walking f stages t y i → 10 ≤ i → Walked f stages y
  all {t} {y} {i} w h =
      let end : i ≡ 10 = omega arith in
      record { written = record { is = λ k less. w.done k (omega arith) }; whole = w.long ∙ rw end }
