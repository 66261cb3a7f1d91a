-- Closed mode: the points as they came, one after the other; and the start put before what was written, whose last point goes. Assumes nothing.
use Rattle.std.proofs.Common.{ℕ, zero, suc, ◌+◌, ◌-◌, ◌≤◌, ◌<◌, Bool, true, false, List, [], ◌∷◌, ◌++◌, ◌≡◌, refl, sym, ap, ◌∙◌, le_antisymm, le_of_suc-le-suc, add-one, arith, lt-ltb, le-ltb, ℤ, length, take, drop, set, get_or, length-append, length-take, length-drop, length-take-le, take_all}
use lib.Seq.{take-append-le}
use Rattle.outline.specs.Segments.{on_at}
use Rattle.contour.specs.declared.Written.{Written}
use Rattle.contour.specs.Points.{Points, point_as, came_to, around}
use Rattle.contour.specs.Writing.{so, written, extended, writing_in, Wrote, Closed}
use Rattle.contour.specs.Laws.{nothing_written, wrote_after, wrote_over, wrote_all, holds_count}

-- ---- the first k points as they came, in a row of so many places

pub record Coming (xs ys : List ℤ) (fs : List ℕ) (room : ℕ) (row : Points) (w : Written) (k : ℕ) : Type 0 where
  pub within : k ≤ length fs
  pub long : length row ≡ room
  pub wrote : Wrote row w (written room (came_to xs ys fs k))

pub coming_start : (xs ys : List ℤ) (fs : List ℕ) (row : Points) {w : Written} → w ≡ record { count = 0; over = false } → Coming xs ys fs (length row) row w 0
unfolding came_to
coming_start xs ys fs row e = record { within = omega arith; long = refl; wrote = rw e (nothing_written row) }

module _ {xs ys : List ℤ} {fs : List ℕ} {room : ℕ} {row : Points} {w : Written} {k : ℕ} (g : Coming xs ys fs room row w k) where
  pub coming_more : {on : Bool} {p : List ℤ} {row' : Points} {w' : Written} → k < length fs → on ≡ on_at fs k → p ≡ point_as on xs ys k → length row' ≡ length row →
      Wrote row' w' (extended (length row) (writing_in row w) (p ∷ [])) → Coming xs ys fs room row' w' (k + 1)
  unfolding came_to
  coming_more {p = p} h flag read same then = record {
    within = omega arith;
    long = same ∙ g.long;
    wrote = rw (add-one, ← flag, ← read) (wrote_after room (came_to xs ys fs k) (p ∷ []) g.long then g.wrote);
  }

  pub all_came : {room₀ : ℕ} → length fs ≤ k → room ≡ room₀ → Wrote row w (written room₀ (came_to xs ys fs (length fs)))
  all_came h same = rw (le_antisymm h g.within, ← same) g.wrote

-- ---- every point one place up, with s first

abbrev pub shifted : List ℤ → Points → ℕ → Points
shifted s ps i = take i (s ∷ ps) ++ drop i ps

shift_set : (s : List ℤ) (ps : Points) (i : ℕ) → i < length ps → set (shifted s ps i) i (get_or (s ∷ ps) i []) ≡ shifted s ps (suc i)
shift_set s [] i h = absurd (omega arith)
shift_set s (p ∷ ps) zero h = refl
shift_set s (p ∷ ps) (suc i) h = ap (λ (qs : Points). s ∷ qs) (shift_set p ps i (le_of_suc-le-suc h))

shift_read : (s : List ℤ) (ps : Points) (i : ℕ) → i < length ps → get_or (shifted s ps i) i [] ≡ get_or ps i []
shift_read s [] i h = absurd (omega arith)
shift_read s (p ∷ ps) zero h = refl
shift_read s (p ∷ ps) (suc i) h = shift_read p ps i (le_of_suc-le-suc h)

length_shifted : (s : List ℤ) (ps : Points) (i : ℕ) → i ≤ length ps → length (shifted s ps i) ≡ length ps
length_shifted s ps i h = omega (arith, length-append (take i (s ∷ ps)) (drop i ps), length-take i (s ∷ ps), length-drop i ps)

pub record Shifting (old : Points) (s : List ℤ) (n : ℕ) (row : Points) (carried : List ℤ) (i : ℕ) : Type 0 where
  pub few : i ≤ n
  pub within : n ≤ length old
  pub same : length row ≡ length old
  pub is : row ≡ shifted s old i
  pub next : carried ≡ get_or (s ∷ old) i []

pub shift_start : (old : Points) (s : List ℤ) (n : ℕ) → n ≤ length old → Shifting old s n old s 0
shift_start old s n h = record { few = omega arith; within = h; same = refl; is = refl; next = refl }

pub shift_more : {old : Points} {s : List ℤ} {n : ℕ} {row : Points} {carried : List ℤ} {i : ℕ} → Shifting old s n row carried i → i < n →
    Shifting old s n (set row i carried) (get_or row i []) (i + 1)
shift_more {old} {s} {n} {row} {carried} {i} g h =
    let in-old : i < length old = omega (arith, g.within) in
    let set_is : set row i carried ≡ shifted s old (suc i) = rw (g.is, g.next) (shift_set s old i in-old) in
    record {
      few = omega arith;
      within = g.within;
      same = ap length set_is ∙ length_shifted s old (suc i) in-old;
      is = rw add-one set_is;
      next = rw add-one (ap (λ (ps : Points). get_or ps i []) g.is ∙ shift_read s old i in-old);
    }

pub shift_all : {old : Points} {s : List ℤ} {n : ℕ} {row : Points} {carried : List ℤ} {i : ℕ} → Shifting old s n row carried i → n ≤ i → row ≡ shifted s old n
shift_all {old} {s} g h = g.is ∙ ap (shifted s old) (le_antisymm g.few h)

-- ---- round from s

around_long : (s : List ℤ) (ps : Points) → length ps ≤ length (around s ps)
around_long s [] = omega arith
around_long s (p ∷ ps) = omega (arith, length-take (length (p ∷ ps) - 1) (p ∷ ps))

module _ (row : Points) (w : Written) (s : List ℤ) where
  -- there was no room before, so there is none
  pub over_closed : w.over ≡ true → Closed row w row w s
  unfolding written
  over_closed o ps wrote =
      let more : length row < length (around s ps) = omega (arith, wrote_over (length row) ps wrote o, around_long s ps) in
      record { within = wrote.within; is = rw (o, lt-ltb (length row) (length (around s ps)) more) refl }

  -- of no point, s alone
  pub none_closed : w.over ≡ false → w.count ≡ 0 → {row' : Points} {r : Written} → Wrote row' r (extended (length row) (writing_in row w) (s ∷ [])) → Closed row w row' r s
  none_closed o none {row'} {r} pushed ps wrote =
      let held = (wrote_all (length row) ps wrote o).0 in
      let empty : ps ≡ [] = sym held.are ∙ ap (λ (n : ℕ). take n row) none in
      let put = wrote_after (length row) ps (s ∷ []) refl pushed wrote in
      rw empty (rw empty at put)

  take_less : (n : ℕ) (ps : Points) → take n (take (suc n) ps) ≡ take n ps
  take_less n [] = refl
  take_less zero (p ∷ ps) = refl
  take_less (suc n) (p ∷ ps) = ap (λ (qs : Points). p ∷ qs) (take_less n ps)

  shifted_front : (n : ℕ) → n < length row → take (suc n) (shifted s row (suc n)) ≡ s ∷ take n row
  shifted_front n h =
      let front : length (take (suc n) (s ∷ row)) ≡ suc n = length-take-le (suc n) (s ∷ row) (omega arith) in
      take-append-le (suc n) (take (suc n) (s ∷ row)) (drop (suc n) row) (omega arith) ∙ take_all (suc n) (take (suc n) (s ∷ row)) (omega arith)

  moved : (n : ℕ) → w.count ≡ suc n → w.over ≡ false → {row' : Points} → row' ≡ shifted s row (suc n) → Closed row w row' w s
  unfolding written
  moved n some o {row'} is ps wrote =
      let held = wrote_all (length row) ps wrote o in
      let many : length ps ≡ suc n = holds_count held.0 ∙ some in
      let inside : n < length row = omega (arith, held.1) in
      let points : ps ≡ take (suc n) row = sym held.0.are ∙ ap (λ (k : ℕ). take k row) some in
      let less : length ps - 1 ≡ n = omega arith in
      let round : around s ps ≡ s ∷ take n row =
      ap (λ (k : ℕ). s ∷ take k ps) less ∙ ap (λ (qs : Points). s ∷ take n qs) points ∙ ap (λ (qs : Points). s ∷ qs) (take_less n row) in
      let long : length (around s ps) ≡ suc n = ap length round ∙ ap suc (length-take-le n row (omega arith)) in
      let fits : length (around s ps) ≤ length row = omega arith in
      record {
        within = omega (arith, some, ap length is, length_shifted s row (suc n) inside);
        is = rw (o, le-ltb (length row) (length (around s ps)) fits, some, is) (ap so (shifted_front n inside ∙ sym round));
      }

  pub all_closed : (w.count ≡ 0 → ⊥) → w.over ≡ false → {row' : Points} → row' ≡ shifted s row w.count → Closed row w row' w s
  all_closed some o {row'} is = by w.count refl
    where
      by : (n : ℕ) → w.count ≡ n → Closed row w row' w s
      by zero e = absurd (some e)
      by (suc n) e = moved n e o (is ∙ ap (shifted s row) e)
