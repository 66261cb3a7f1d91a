-- One turn of dropping implied points, by the test's answer; and a point taken out of a row, by moving those after it up. Assumes nothing.
use Rattle.std.proofs.Common.{ℕ, zero, suc, ◌+◌, ◌-◌, ◌%◌, ◌≤◌, ◌<◌, Bool, true, false, List, [], ◌≡◌, refl, sym, ap, ◌∙◌, arith, ℤ, length, take, drop, set, get_or, length-append, length-drop, length-set, length-take-le, take-take, get_or-take, mod-lt}
use lib.Seq.{take-add, drop_at, get_or-drop, paste, paste-zero, paste-suc, take-paste, drop-paste}
use Rattle.outline.specs.Segments.{previous}
use Rattle.contour.specs.Points.{Points}
use Rattle.contour.specs.Writing.{Holds}
use Rattle.contour.specs.Implied.{removed, implied_at, look, drop_from}

-- ---- one turn

module _ (implied : List ℤ → List ℤ → List ℤ → Bool) (ps : Points) (i : ℕ) where
  pub stops : length ps ≤ i → drop_from implied ps i ≡ ps
  unfolding drop_from look
  stops h =
      let none : length ps - i ≡ 0 = omega arith in
      rw none

  module _ (h : i < length ps) where
    pub removed_length : length (removed ps i) ≡ length ps - 1
    removed_length = omega (arith, length-append (take i ps) (drop (i + 1) ps), length-take-le i ps (omega arith), length-drop (i + 1) ps)

    pub drops : implied_at implied ps i ≡ true → drop_from implied ps i ≡ drop_from implied (removed ps i) i
    unfolding drop_from look
    drops e =
        let left : length ps - i ≡ suc (length (removed ps i) - i) = omega (arith, removed_length) in
        rw (e, left)

    pub keeps : implied_at implied ps i ≡ false → drop_from implied ps i ≡ drop_from implied ps (i + 1)
    unfolding drop_from look
    keeps e =
        let left : length ps - i ≡ suc (length ps - (i + 1)) = omega arith in
        rw (e, left)

-- ---- in the first places of a row l, of which n were to be looked at from one on: left are left, and those before place i are done

pub record Dropping (implied : List ℤ → List ℤ → List ℤ → Bool) (l m : Points) (n from left i : ℕ) : Type 0 where
  pub fits : left ≤ length l
  pub same : length m ≡ length l
  pub is : drop_from implied (take n l) from ≡ drop_from implied (take left m) i

pub drop_start : (implied : List ℤ → List ℤ → List ℤ → Bool) (l : Points) (n from i : ℕ) → n ≤ length l → i ≡ from → Dropping implied l l n from n i
drop_start implied l n from i h e = record { fits = h; same = refl; is = ap (drop_from implied (take n l)) (sym e) }

module _ {implied : List ℤ → List ℤ → List ℤ → Bool} {l m : Points} {n from left i : ℕ} (d : Dropping implied l m n from left i) where
  count : length (take left m) ≡ left
  count = length-take-le left m (omega (arith, d.fits, d.same))

  pub drop_one : {m' : Points} → i < left → implied_at implied (take left m) i ≡ true → length m' ≡ length m →
      Holds m' (left - 1) (removed (take left m) i) → Dropping implied l m' n from (left - 1) i
  drop_one h e same out = record {
    fits = omega (arith, d.fits);
    same = same ∙ d.same;
    is = d.is ∙ drops implied (take left m) i (rw count h) e ∙ ap (λ (ps : Points). drop_from implied ps i) (sym out.are);
  }

  pub keep_one : i < left → implied_at implied (take left m) i ≡ false → Dropping implied l m n from left (i + 1)
  keep_one h e = record { fits = d.fits; same = d.same; is = d.is ∙ keeps implied (take left m) i (rw count h) e }

  pub dropped : left ≤ i → Holds m left (drop_from implied (take n l) from)
  dropped h = record { within = omega (arith, d.fits, d.same); are = sym (d.is ∙ stops implied (take left m) i (rw count h)) }

-- ---- neighbours

pub previous_first : (n i : ℕ) → i ≡ 0 → n - 1 ≡ previous n i
previous_first n i e = rw e

pub previous_later : (n i : ℕ) → (i ≡ 0 → ⊥) → i - 1 ≡ previous n i
previous_later n zero f = absurd (f refl)
previous_later n (suc i) f = omega arith

pub previous_below : (n i : ℕ) → i < n → previous n i < n
previous_below n zero h = omega arith
previous_below n (suc i) h = omega arith

pub implied_in : (implied : List ℤ → List ℤ → List ℤ → Bool) (row : Points) (n i : ℕ) → i < n → n ≤ length row →
    implied (get_or row (previous n i) []) (get_or row i []) (get_or row ((i + 1) % n) []) ≡ implied_at implied (take n row) i
unfolding implied_at
implied_in implied row n i h k =
    rw (length-take-le n row k, get_or-take n row (previous n i) [] (previous_below n i h), get_or-take n row i [] h, get_or-take n row ((i + 1) % n) [] (mod-lt (i + 1) (omega arith)))

-- ---- a point taken out: k of those after place at stand one place further up

module _ (l : Points) (at k : ℕ) where
  abbrev rest : Points
  rest = drop (at + 1) l

  abbrev moved : Points
  moved = paste l at rest k

  -- the place after those that are moved is as it was
  next_is : at + 1 + k ≤ length l → get_or moved (at + k + 1) [] ≡ get_or rest k []
  next_is h =
      let there : drop (at + k) moved ≡ drop (at + k) l = drop-paste l at rest k (omega arith) (omega (arith, length-drop (at + 1) l)) in
      let place : at + k + 1 ≡ at + 1 + k = omega arith in
      sym (get_or-drop (at + k) moved 1 []) ∙ ap (λ (m : Points). get_or m 1 []) there ∙ get_or-drop (at + k) l 1 []
      ∙ ap (λ (j : ℕ). get_or l j []) place
      ∙ sym (get_or-drop (at + 1) l k [])

  one_more : at + 1 + k < length l → set moved (at + k) (get_or moved (at + k + 1) []) ≡ paste l at rest (suc k)
  one_more h =
      ap (set moved (at + k)) (next_is (omega arith))
      ∙ paste-suc l at rest k [] (omega arith) (omega (arith, length-drop (at + 1) l))

  -- all are moved
  all_moved : at + 1 + k ≤ length l → take (at + k) moved ≡ removed (take (at + 1 + k) l) at
  all_moved h =
      let front : take at (take (at + 1 + k) l) ≡ take at l = take-take at (at + 1 + k) l (omega arith) in
      let back : drop (at + 1) (take (at + 1 + k) l) ≡ take k rest =
      ap (drop (at + 1)) (take-add (at + 1) k l) ∙ drop_at (take (at + 1) l) (take k rest) (at + 1) (length-take-le (at + 1) l (omega arith)) in
      take-paste l at rest k (omega arith) (omega (arith, length-drop (at + 1) l)) ∙ sym (rw (front, back))

pub record Moving (l m : Points) (at n i : ℕ) : Type 0 where
  pub after : at < i
  pub within : i ≤ n
  pub fits : n ≤ length l
  pub same : length m ≡ length l
  pub is : m ≡ moved l at (i - (at + 1))

pub move_start : (l : Points) (at n : ℕ) → at < n → n ≤ length l → Moving l l at n (at + 1)
move_start l at n h k =
    let none : at + 1 - (at + 1) ≡ 0 = omega arith in
    record { after = omega arith; within = omega arith; fits = k; same = refl; is = rw none (paste-zero l at (rest l at 0)) }

module _ {l m : Points} {at n i : ℕ} (r : Moving l m at n i) where
  pub move_more : i < n → Moving l (set m (i - 1) (get_or m i [])) at n (i + 1)
  move_more h =
      let k : ℕ = i - (at + 1) in
      let here : i ≡ at + k + 1 = omega (arith, r.after) in
      let gap : i - 1 ≡ at + k = omega (arith, r.after) in
      let more : i + 1 - (at + 1) ≡ suc k = omega (arith, r.after) in
      record {
        after = omega (arith, r.after);
        within = omega arith;
        fits = r.fits;
        same = simp length-set r.same;
        is = (λ q. set (r.is q) (gap q) (get_or (r.is q) (here q) [])) ∙ one_more l at k (omega (arith, r.fits, r.after)) ∙ ap (moved l at) (sym more);
      }

  pub move_all : n ≤ i → Holds m (n - 1) (removed (take n l) at)
  move_all h =
      let k : ℕ = i - (at + 1) in
      let end : n ≡ at + 1 + k = omega (arith, r.after, r.within) in
      let gap : n - 1 ≡ at + k = omega (arith, r.after, r.within) in
      record { within = omega (arith, r.fits, r.same); are = rw (gap, end, r.is) (all_moved l at k (omega (arith, r.fits))) }
