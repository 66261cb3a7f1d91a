-- One attempt: the rows stand for the states that it makes. Assumes nothing.
use Prim.Native.Nat.{ℕ, zero, suc, ◌+◌, ◌*◌, ◌/◌, ◌≤◌, ◌<◌}
use native.Mathlib.Nat.{lt_of_not-le}
use native.Mathlib.Omega.{arith}
use mathlib.Core.Bool.{Bool, true, false}
use mathlib.Core.List.{List}
use mathlib.Core.Path.{◌≡◌, refl, sym, ap, subst, ◌∙◌}
use borrow.Author.Tests.{eq-eqb, ne_eqb, eqb-true, eqb-false}
use lib.Dec.{eqb}
use lib.ListN.{length, get_or, set, length-set}
use lib.Seq.{get_or-set_same, get_or-set_other}
use lib.Ieee.{Float}
use Rattle.geometry.specs.declared.Quad.{Quad}
use Rattle.breaks.specs.Breaks.{Row, break_at}
use Rattle.attempt.specs.declared.answer.Answer as A
use Rattle.attempt.specs.Answers.{Leg, Statelet, first, on, score_of, leg_of, Best, none, best, ok_for_half, total_of, is_less, built_on, may_build, combined}
use Rattle.optimize.specs.Optimize.{best_at}
use Rattle.attempt.specs.Value.{best_of, new_answer, combine_of}
use Rattle.optimize.specs.Stored.{from_break, slot_at, quad_in, loaded, standing_at, row_of, Inside, Holds, Stands, lacks, has, Phase, early, late, Uses, Fresh, Newest, Rep, Room, Into}
use Rattle.optimize.proofs.Held.{from_nothing, slot_early, slot_late, slot_most, slot_break, linked, scored, pieced, names, wider, kept, new_start, new_on, copied}

-- ---- what is known of the answer that stands at a break

-- of an answer only its quad and its score are looked at
module _ (a : Statelet) (q₀ : Quad) (s₀ : Float) (quad : q₀ ≡ (leg_of a).quad) (score : s₀ ≡ score_of a) where
  total_like : (q : Quad) (m penalty : Float) → total_of (best (first (record { from = 0; to = 0; quad = q₀ }) s₀)) q m penalty ≡ total_of (best a) q m penalty
  total_like q m penalty = rw (quad, score) refl

  half_like : (q : Quad) → ok_for_half (best (first (record { from = 0; to = 0; quad = q₀ }) s₀)) q ≡ ok_for_half (best a) q
  half_like q = rw quad refl

  less_like : (s : Float) → is_less s (best (first (record { from = 0; to = 0; quad = q₀ }) s₀)) ≡ is_less s (best a)
  less_like s = rw score refl

module _ {P : ℕ → Type 0} {bs : Row} {rs : List (List Float)} {ls : List ℕ} {k : ℕ} {a : Statelet} (h : Holds P bs rs ls k a) where
  quad_held : quad_in bs rs k (get_or ls k 0) ≡ (leg_of a).quad
  quad_held = ap (λ (p : Leg). p.quad) (pieced h)

  some : eqb (get_or ls k 0) 0 ≡ false
  some = ne_eqb _ _ (linked h)

module _ {P : ℕ → Type 0} {bs : Row} {rs : List (List Float)} {ls : List ℕ} {b : ℕ} where
  -- the answer that stands there, as it is loaded
  pub stands_total : {t : Best} (q : Quad) (m penalty : Float) → Stands P bs rs ls b t → total_of (best_of (standing_at bs rs ls b)) q m penalty ≡ total_of t q m penalty
  unfolding standing_at
  stands_total q m penalty (lacks z) = rw (eq-eqb _ _ z) refl
  stands_total q m penalty (has {a} h) = rw (some h) (rw (some h) (total_like a _ _ (quad_held h) (scored h) q m penalty))

  pub stands_half : {t : Best} (q : Quad) → Stands P bs rs ls b t → ok_for_half (best_of (standing_at bs rs ls b)) q ≡ ok_for_half t q
  unfolding standing_at
  stands_half q (lacks z) = rw (eq-eqb _ _ z) refl
  stands_half q (has {a} h) = rw (some h) (rw (some h) (half_like a _ _ (quad_held h) (scored h) q))

  pub stands_less : {t : Best} (s : Float) → Stands P bs rs ls b t → is_less s (best_of (loaded bs rs ls (slot_at ls b))) ≡ is_less s t
  stands_less s (lacks z) = rw (eq-eqb _ _ z) refl
  stands_less s (has {a} h) = rw (some h) (less_like a _ _ (quad_held h) (scored h) s)

  pub readable : {t : Best} {n : ℕ} → Room n bs rs ls → b ≤ n → Stands P bs rs ls b t → Inside bs rs ls (slot_at ls b)
  readable {n = n} room upto s = record {
    in_answers = omega (arith, slot_most ls b, room.in_answers);
    in_links = omega (arith, slot_most ls b, room.in_links);
    to = rw (slot_break ls b) (omega (arith, room.all_breaks_lem));
    from = from s;
    few = omega (arith, slot_most ls b, room.few);
  }
    where
      from : {t : Best} → Stands P bs rs ls b t → from_break (get_or ls (slot_at ls b) 0) < length bs
      from (lacks z) = rw (z, from_nothing) (omega (arith, room.all_breaks_lem))
      from (has h) = names h (rw (slot_break ls b) (omega (arith, room.all_breaks_lem)))

-- ---- what a piece from break i is built on

pub data Previous (P : ℕ → Type 0) (bs : Row) (rs : List (List Float)) (ls : List ℕ) (i : ℕ) : Best → Type 0 where
  nothing : (standing_at bs rs ls i).name ≡ 0 → may_build i none ≡ false → Previous P bs rs ls i none
  start : (standing_at bs rs ls i).name ≡ 1 → i ≡ 0 → may_build i none ≡ true → Previous P bs rs ls i none
  answer : {a : Statelet} → (standing_at bs rs ls i).name ≡ slot_at ls i + 2 → Holds P bs rs ls (slot_at ls i) a → Previous P bs rs ls i (best a)

previous : {P : ℕ → Type 0} {bs : Row} {rs : List (List Float)} {ls : List ℕ} (i : ℕ) {t : Best} → Stands P bs rs ls i t → Previous P bs rs ls i t
unfolding standing_at
previous zero (lacks z) = start (rw (eq-eqb _ _ z) refl) refl refl
previous (suc i) (lacks z) = nothing (rw (eq-eqb _ _ z) refl) refl
previous i (has h) = answer (rw (some h) refl) h

-- ---- the three ways of `combine`, by value and of trees

module _ (old prev : A.Answer) (m : Float) (q : Quad) (penalty : Float) where
  combine_nothing : prev.name ≡ 0 → combine_of old prev m q penalty ≡ old
  unfolding combine_of
  combine_nothing e = rw (eq-eqb _ _ e) refl

  module _ (some : prev.name ≡ 0 → ⊥) where
    combine_new : is_less (total_of (best_of prev) q m penalty) (best_of old) ≡ true → combine_of old prev m q penalty ≡ new_answer old prev q (total_of (best_of prev) q m penalty)
    unfolding combine_of
    combine_new e = rw (ne_eqb _ _ some, e) refl

    combine_old : is_less (total_of (best_of prev) q m penalty) (best_of old) ≡ false → combine_of old prev m q penalty ≡ old
    unfolding combine_of
    combine_old e = rw (ne_eqb _ _ some, e) refl

module _ (old prev : Best) (p : Leg) (m penalty : Float) where
  combined_nothing : may_build p.from prev ≡ false → combined old prev p m penalty ≡ old
  unfolding combined
  combined_nothing e = rw e refl

  module _ (may : may_build p.from prev ≡ true) where
    combined_new : is_less (total_of prev p.quad m penalty) old ≡ true → combined old prev p m penalty ≡ best (built_on prev p (total_of prev p.quad m penalty))
    unfolding combined
    combined_new e = rw (may, e) refl

    combined_old : is_less (total_of prev p.quad m penalty) old ≡ false → combined old prev p m penalty ≡ old
    unfolding combined
    combined_old e = rw (may, e) refl

  -- whether a piece may be built there or not
  pub combined_kept : is_less (total_of prev p.quad m penalty) old ≡ false → combined old prev p m penalty ≡ old
  combined_kept e = go (may_build p.from prev) refl
    where
      go : (may : Bool) → may_build p.from prev ≡ may → combined old prev p m penalty ≡ old
      go true may = combined_old may e
      go false may = combined_nothing may

-- ---- a store for a pair (i, j)

-- the place that is written is the newest of break j: its second, or its first where there is no second
pub data Top (ls : List ℕ) (j k : ℕ) : Type 0 where
  second : k ≡ 2 * j + 1 → Top ls j k
  only : k ≡ 2 * j → get_or ls (2 * j + 1) 0 ≡ 0 → Top ls j k

by_place : {ls : List ℕ} {j k : ℕ} {A : Type 0} → (k ≡ 2 * j + 1 → A) → ((k ≡ 2 * j) × (get_or ls (2 * j + 1) 0 ≡ 0) → A) → Top ls j k → A
by_place f g (second e) = f e
by_place f g (only e z) = g (e, z)

written_newest : (f : Phase) (n j k : ℕ) (ls : List ℕ) → j ≤ n → Newest f j k → Fresh f n ls → Top ls j k
written_newest (early i) n j k ls upto e fresh = only e (fresh j upto)
written_newest (late i) n j k ls upto e fresh = second e

still_fresh : (f : Phase) (n j k l : ℕ) (ls : List ℕ) → Newest f j k → Fresh f n ls → Fresh f n (set ls k l)
still_fresh (early i) n j k l ls e fresh = λ b h. get_or-set_other ls k (2 * b + 1) l 0 (λ z. omega arith) ∙ fresh b h
still_fresh (late i) n j k l ls e fresh = fresh

module _ {f : Phase} {n : ℕ} {ls : List ℕ} {i j k : ℕ} (into : Into f n i j k) (newest : Top ls j k) where
  pub k_break : k / 2 ≡ j
  k_break = by_place (λ e. omega arith) (λ e. omega (arith, e.0)) newest

  pub k_most : k ≤ 2 * j + 1
  k_most = by_place (λ e. omega arith) (λ e. omega (arith, e.0)) newest

  k_least : 2 * j ≤ k
  k_least = by_place (λ e. omega arith) (λ e. omega (arith, e.0)) newest

  slot_upto : slot_at ls j ≤ k
  slot_upto = by_place (λ e. omega (arith, slot_most ls j)) (λ e. omega (arith, e.0, slot_early ls j e.1)) newest

  module _ (l : ℕ) where
    -- the newest answer stands
    slot_this : k < length ls → (l ≡ 0 → ⊥) → slot_at (set ls k l) j ≡ k
    slot_this in_ls some =
        by_place
        (λ e. slot_late (set ls k l) j (λ z. some (sym (get_or-set_same ls k l 0 in_ls) ∙ subst (λ (a : ℕ). get_or (set ls k l) a 0 ≡ 0) (sym e) z)) ∙ sym e)
        (λ e. slot_early (set ls k l) j (get_or-set_other ls k (2 * j + 1) l 0 (λ z. omega (arith, e.0)) ∙ e.1) ∙ sym e.0)
        newest

    module _ (b : ℕ) (other : b ≡ j → ⊥) where
      apart : (m : ℕ) → m / 2 ≡ b → m ≡ k → ⊥
      apart m e z = other (sym e ∙ ap (λ (a : ℕ). a / 2) z ∙ k_break)

      slot_other : slot_at (set ls k l) b ≡ slot_at ls b
      unfolding slot_at
      slot_other = rw (get_or-set_other ls k (2 * b + 1) l 0 (apart (2 * b + 1) (omega arith))) refl

      link_other : get_or (set ls k l) (slot_at ls b) 0 ≡ get_or ls (slot_at ls b) 0
      link_other = get_or-set_other ls k (slot_at ls b) l 0 (apart (slot_at ls b) (slot_break ls b))

  module _ {bs : Row} {rs : List (List Float)} (room : Room n bs rs ls) where
    in_rs : k < length rs
    in_rs = omega (arith, k_most, into.upto, room.in_answers)

    in_ls : k < length ls
    in_ls = omega (arith, k_most, into.upto, room.in_links)

    stands_other : (v : List Float) (l b : ℕ) {t : Best} → (b ≡ j → ⊥) → Stands (Uses f n b) bs rs ls b t → Stands (Uses f n b) bs (set rs k v) (set ls k l) b t
    stands_other v l b other (lacks z) = lacks (rw (slot_other l b other, link_other l b other) z)
    stands_other v l b other (has {a} h) = has {a = a} (rw (slot_other l b other) (kept k v l (into.free b other) h))

    -- the old answer stays
    stays : {t : Best} → Stands (Uses f n j) bs rs ls j t → Stands (Uses f n j) bs (set rs k (row_of (loaded bs rs ls (slot_at ls j)))) (set ls k (loaded bs rs ls (slot_at ls j)).link) j t
    stays (lacks z) = lacks (rw z (emptied z))
      where
        emptied : get_or ls (slot_at ls j) 0 ≡ 0 → get_or (set ls k 0) (slot_at (set ls k 0) j) 0 ≡ 0
        emptied z =
            by_place
            (λ e.
            let now : slot_at (set ls k 0) j ≡ 2 * j = slot_early (set ls k 0) j (rw (← e) (get_or-set_same ls k 0 0 in_ls)) in
            let was : get_or ls (2 * j + 1) 0 ≡ 0 = late_empty z in
            rw (now, get_or-set_other ls k (2 * j) 0 0 (λ y. omega arith)) (rw (slot_early ls j was) at z))
            (λ e.
            let now : slot_at (set ls k 0) j ≡ 2 * j = slot_early (set ls k 0) j (get_or-set_other ls k (2 * j + 1) 0 0 (λ y. omega (arith, e.0)) ∙ e.1) in
            rw (now, ← e.0) (get_or-set_same ls k 0 0 in_ls))
            newest
          where
            late_empty : get_or ls (slot_at ls j) 0 ≡ 0 → get_or ls (2 * j + 1) 0 ≡ 0
            late_empty z = go (eqb (get_or ls (2 * j + 1) 0) 0) refl
              where
                go : (t : Bool) → eqb (get_or ls (2 * j + 1) 0) 0 ≡ t → get_or ls (2 * j + 1) 0 ≡ 0
                go true e = eqb-true _ _ e
                go false e = rw (slot_late ls j (eqb-false _ _ e)) at z
    stays (has {a} h) =
        has {a = a}
        (rw (slot_this (get_or ls (slot_at ls j) 0) in_ls (linked h))
        (copied (Uses f n j) bs rs ls (slot_at ls j) k into.own in_rs in_ls slot_upto (slot_break ls j ∙ sym k_break) h))

    -- a new answer stands
    module _ (q : Quad) (begins : q.p0 ≡ (break_at bs i).xy) (ends : q.p2 ≡ (break_at bs j).xy) (x : A.Answer) (is : q ≡ x.quad) where
      abbrev piece : Leg
      piece = record { from = i; to = j; quad = q }

      starts_run : {s : Float} → x.score ≡ s → x.link ≡ 1 → i ≡ 0 → Stands (Uses f n j) bs (set rs k (row_of x)) (set ls k x.link) j (best (first piece s))
      starts_run {s} score e zero' =
          has {a = first piece s}
          (rw (slot_this x.link in_ls (λ z. omega arith), ← score)
          (new_start (Uses f n j) bs rs ls k x into.own in_rs in_ls piece e zero' (sym k_break) begins ends is))

      goes_on : {s : Float} {a : Statelet} → x.score ≡ s → x.link ≡ slot_at ls i + 2 → 0 < i → Holds (Uses f n i) bs rs ls (slot_at ls i) a →
          Stands (Uses f n j) bs (set rs k (row_of x)) (set ls k x.link) j (best (on a piece s))
      goes_on {s} {a} score e some h =
          has {a = on a piece s}
          (rw (slot_this x.link in_ls (λ z. omega arith), ← score)
          (new_on (Uses f n j) bs rs ls k x into.own in_rs in_ls (slot_at ls i) piece e (omega (arith, slot_most ls i, into.rising, k_least)) (sym (slot_break ls i)) (sym k_break) begins ends is
          (wider (λ m u. into.wide m some u) h)))

    -- the attempt
    module _ (q : Quad) (begins : q.p0 ≡ (break_at bs i).xy) (ends : q.p2 ≡ (break_at bs j).xy) (m penalty : Float) where
      abbrev old : A.Answer
      old = loaded bs rs ls (slot_at ls j)

      abbrev prev : A.Answer
      prev = standing_at bs rs ls i

      abbrev tried : Leg
      tried = record { from = i; to = j; quad = q }

      abbrev Now : A.Answer → Best → Type 0
      Now x t = Stands (Uses f n j) bs (set rs k (row_of x)) (set ls k x.link) j t

      this : {t u : Best} → (i ≡ 0 → u ≡ none) → Stands (Uses f n j) bs rs ls j t → Stands (Uses f n i) bs rs ls i u → Now (combine_of old prev m q penalty) (combined t u tried m penalty)
      this {t} bare sj si = go bare (stands_total q m penalty si) (previous i si)
        where
          fresh : A.Answer
          fresh = new_answer old prev q (total_of (best_of prev) q m penalty)

          less : (u : Best) → total_of (best_of prev) q m penalty ≡ total_of u q m penalty → is_less (total_of (best_of prev) q m penalty) (best_of old) ≡ is_less (total_of u q m penalty) t
          less u total = stands_less (total_of (best_of prev) q m penalty) sj ∙ ap (λ (s : Float). is_less s t) total

          -- by what the test says
          decide : (u : Best) (b : Bool) → is_less (total_of u q m penalty) t ≡ b → total_of (best_of prev) q m penalty ≡ total_of u q m penalty → (prev.name ≡ 0 → ⊥) → may_build i u ≡ true →
              Now fresh (best (built_on u tried (total_of u q m penalty))) → Now (combine_of old prev m q penalty) (combined t u tried m penalty)
          decide u true l total some may new =
              rw (combine_new old prev m q penalty some (less u total ∙ l), combined_new t u tried m penalty may l) new
          decide u false l total some may new =
              rw (combine_old old prev m q penalty some (less u total ∙ l), combined_old t u tried m penalty may l) (stays sj)

          go : {u : Best} → (i ≡ 0 → u ≡ none) → total_of (best_of prev) q m penalty ≡ total_of u q m penalty → Previous (Uses f n i) bs rs ls i u → Now (combine_of old prev m q penalty) (combined t u tried m penalty)
          go bare total (nothing e may) = rw (combine_nothing old prev m q penalty e, combined_nothing t none tried m penalty may) (stays sj)
          go bare total (start e z may) = decide none (is_less (total_of none q m penalty) t) refl total (λ w. omega arith) may (starts_run q begins ends fresh refl total e z)
          go bare total (answer {a} e h) = decide (best a) (is_less (total_of (best a) q m penalty) t) refl total (λ w. omega arith) refl (goes_on q begins ends fresh refl total e (positive a bare) h)
            where
              positive : (a : Statelet) → (i ≡ 0 → best a ≡ none) → 0 < i
              positive a bare = lt_of_not-le (λ g. let z : ◌≡◌ {A = ℕ} 0 1 = cc (bare (omega arith)) in omega arith)

-- the rows after an attempt stand for the states after it
module _ {f : Phase} {n : ℕ} {bs : Row} {rs : List (List Float)} {ls : List ℕ} {st : List Best} {i j k : ℕ} (room : Room n bs rs ls) (into : Into f n i j k) (rep : Rep f n bs rs ls st) where
  abbrev top : Top ls j k
  top = written_newest f n j k ls into.upto into.newest rep.fresh

  pub place_in : (k < length rs) × (k < length ls)
  place_in = (in_rs into top room, in_ls into top room)

  pub attempted : (q : Quad) → q.p0 ≡ (break_at bs i).xy → q.p2 ≡ (break_at bs j).xy → (m penalty : Float) (x : A.Answer) →
      x ≡ combine_of (loaded bs rs ls (slot_at ls j)) (standing_at bs rs ls i) m q penalty →
      Rep f n bs (set rs k (row_of x)) (set ls k x.link) (set st j (combined (best_at st j) (best_at st i) (record { from = i; to = j; quad = q }) m penalty))
  attempted q begins ends m penalty x is =
      let t = combined (best_at st j) (best_at st i) (record { from = i; to = j; quad = q }) m penalty in
      record {
        long = length-set st j t ∙ rep.long;
        bare = get_or-set_other st j 0 t none (λ z. omega (arith, into.rising)) ∙ rep.bare;
        fresh = still_fresh f n j k x.link ls into.newest rep.fresh;
        stands = λ b h. by_break t b h (eqb b j) refl;
      }
    where
      by_break : (t : Best) (b : ℕ) → b ≤ n → (c : Bool) → eqb b j ≡ c →
          Stands (Uses f n b) bs (set rs k (row_of x)) (set ls k x.link) b (best_at (set st j (combined (best_at st j) (best_at st i) (record { from = i; to = j; quad = q }) m penalty)) b)
      by_break t b h true e =
          rw (eqb-true b j e, get_or-set_same st j (combined (best_at st j) (best_at st i) (record { from = i; to = j; quad = q }) m penalty) none (omega (arith, rep.long, into.upto)), is)
          (this into top room q begins ends m penalty (λ z. rw z rep.bare) (rep.stands j into.upto) (rep.stands i (omega (arith, into.rising, into.upto))))
      by_break t b h false e =
          rw (get_or-set_other st j b (combined (best_at st j) (best_at st i) (record { from = i; to = j; quad = q }) m penalty) none (eqb-false b j e))
          (stands_other into top room (row_of x) x.link b (eqb-false b j e) (rep.stands b h))
