-- Pairs that change nothing, and are passed over. Assumes nothing.
use Rattle.std.specs.Prelude.{Option, Some, None}
use Prim.Native.Nat.{ℕ, ◌-◌, ◌≤◌, ◌<◌}
use native.Mathlib.Nat.{zero-add}
use native.Mathlib.Omega.{arith}
use mathlib.Core.Bool.{Bool, true, false, false≢true}
use mathlib.Core.List.{List, ◌∷◌}
use mathlib.Core.Path.{◌≡◌, refl, sym, ap, ◌∙◌}
use borrow.Author.Tests.{ne_eqb}
use lib.ListN.{get_or}
use lib.Seq.{set-get_or}
use lib.Ieee.{Float, lt}
use Rattle.geometry.specs.Geometry.{is_whole, line_quad, intersect_of}
use Rattle.geometry.specs.declared.Point.{Point}
use Rattle.geometry.specs.declared.Quad.{Quad}
use Rattle.breaks.specs.Breaks.{Row, break_at}
use Rattle.attempt.specs.Answers.{Best, none, ok_for_half, total_of, is_less}
use Rattle.attempt.specs.Value.{best_of}
use Rattle.optimize.specs.Optimize.{Measure, measure_by, best_at, states, try_quad, try_if, bent_quad, bent_at, bent, try_line_quad, try_all, falling}
use Rattle.optimize.specs.Fallen.{Fallen, fallen_between, fell_if, fell_bent_at, fell_bent, fell_pair, fell_all}
use Rattle.optimize.specs.Stored.{slot_at, score_in, standing_at, Phase, Rep}
use Rattle.optimize.specs.Steps.{by_all, Idle, beaten, untried}
use Rattle.optimize.proofs.Attempt.{stands_total, stands_half, stands_less, combined_kept}
use Rattle.optimize.proofs.Trying.{quad_made, no_bend}
use Rattle.optimize.proofs.Phases.{fall_more}

-- ---- a pair whose pieces change nothing, where they are tried

module _ (measure : Measure) (fallen : Fallen) (breaks : Row) (penalty : Float) (i j : ℕ) (st : List Best) where
  abbrev line : Quad
  line = line_quad (break_at breaks i).xy (break_at breaks j).xy

  abbrev curve : Point → Quad
  curve p = bent_quad measure breaks penalty i j p

  abbrev Leaves : Quad → Type 0
  Leaves q = (try_quad measure breaks penalty i j q st ≡ states st) × (fallen i j q ≡ 0)

  left_if : (b : Bool) (q : Quad) → (b ≡ true → Leaves q) → (try_if measure breaks penalty b i j q st ≡ states st) × (fell_if measure fallen breaks penalty b i j q ≡ 0)
  left_if true q h = h refl
  left_if false q h = (refl, refl)

  module _ (straight : is_whole (break_at breaks i).xy ≡ true → Leaves line) (bends : (p : Point) → ok_for_half (best_at st i) (curve p) ≡ true → Leaves (curve p)) where
    bent_left : (bent measure breaks penalty i j st ≡ states st) × (fell_bent measure fallen breaks penalty i j st ≡ 0)
    unfolding bent fell_bent
    bent_left = go (intersect_of (break_at breaks i).xy (break_at breaks i).dir (break_at breaks j).xy (break_at breaks j).dir)
      where
        go : (c : Option Point) → (bent_at measure breaks penalty c i j st ≡ states st) × (fell_bent_at measure fallen breaks penalty c i j st ≡ 0)
        go None = (refl, refl)
        go (Some p) = left_if (ok_for_half (best_at st i) (curve p)) (curve p) (bends p)

    pair_left : (try_line_quad measure breaks penalty i j st ≡ states st) × (fell_pair measure fallen breaks penalty i j st ≡ 0)
    unfolding try_line_quad fell_pair
    pair_left =
        let first = left_if (is_whole (break_at breaks i).xy) line straight in
        (rw first.0 bent_left.0, rw (first.0, first.1) (zero-add _ ∙ bent_left.1))

-- ---- the two reasons why, where an answer stands at break i

module _ (samples : List (List Float)) (penalty : Float) {bs : Row} {rs : List (List Float)} {ls : List ℕ} {i j : ℕ} {f : Phase} {n : ℕ} {st : List Best}
    (upto : i ≤ n) (below : j ≤ n) (rep : Rep f n bs rs ls st) (some : get_or ls (slot_at ls i) 0 ≡ 0 → ⊥) where
  abbrev measure : Measure
  measure = measure_by samples bs

  abbrev fallen : Fallen
  fallen = fallen_between samples bs

  -- what stands at break i stays where no score is less than its own
  not_less : (q : Quad) (error : Float) → lt (total_of (best_at st j) q error penalty) (score_in bs rs (slot_at ls i)) ≡ false →
      is_less (total_of (best_at st j) q error penalty) (best_at st i) ≡ false
  not_less q error most = sym (stands_less (total_of (best_at st j) q error penalty) (rep.stands i upto)) ∙ rw (ne_eqb (get_or ls (slot_at ls i) 0) 0 some) most

  idle_pair : Idle samples bs rs ls penalty j (break_at bs i).s (score_in bs rs (slot_at ls i)) →
      (try_line_quad measure bs penalty j i st ≡ states st) × (fell_pair measure fallen bs penalty j i st ≡ 0)
  idle_pair (beaten sees most) = pair_left measure fallen bs penalty j i st (λ e. leaves (line_quad (break_at bs j).xy (break_at bs i).xy)) (λ p e. leaves (bent_quad measure bs penalty j i p))
    where
      leaves : (q : Quad) → Leaves measure fallen bs penalty j i st q
      leaves q =
          let seen = sees q in
          let total = stands_total q seen.error penalty (rep.stands j below) in (
            quad_made measure bs penalty j i q st (record { error = seen.error }) seen.is
                ∙ rw (combined_kept (best_at st i) (best_at st j) (record { from = j; to = i; quad = q }) seen.error penalty (not_less q seen.error (rw total at (most q seen.error seen.sign))))
                (ap states (set-get_or st i none)),
            seen.none,
          )
  idle_pair (untried off plain) =
      pair_left measure fallen bs penalty j i st (λ e. absurd (false≢true (sym off ∙ e))) (λ p e. absurd (false≢true (sym (not_allowed (bent_quad measure bs penalty j i p) off) ∙ e)))
    where
      not_allowed : (q : Quad) → is_whole q.p0 ≡ false → ok_for_half (best_at st j) q ≡ false
      not_allowed q off = sym (stands_half q (rep.stands j below)) ∙ no_bend (best_of (standing_at bs rs ls j)) q off plain

-- ---- the first of the pairs that are left is passed over

first_passed : (samples : List (List Float)) (bs : Row) (penalty : Float) (i j : ℕ) (ps : List (ℕ × ℕ)) (st : List Best) →
    (try_line_quad (measure_by samples bs) bs penalty i j st ≡ states st) × (fell_pair (measure_by samples bs) (fallen_between samples bs) bs penalty i j st ≡ 0) →
    by_all samples bs penalty ((i, j) ∷ ps) st ≡ by_all samples bs penalty ps st
unfolding try_all fell_all
first_passed samples bs penalty i j ps st nothing =
    rw (nothing.0, nothing.1, zero-add (fell_all (measure_by samples bs) (fallen_between samples bs) bs penalty ps (states st))) refl

-- k is the place of what stands at break i
pub passed : {samples : List (List Float)} {bs : Row} {rs : List (List Float)} {ls : List ℕ} {penalty : Float} {i r k : ℕ} {f : Phase} {n : ℕ} {st : List Best} →
    k ≡ slot_at ls i → (get_or ls k 0 ≡ 0 → ⊥) → 0 < r → r ≤ i → Idle samples bs rs ls penalty (r - 1) (break_at bs i).s (score_in bs rs k) →
    i ≤ n → Rep f n bs rs ls st → by_all samples bs penalty (falling r i) st ≡ by_all samples bs penalty (falling (r - 1) i) st
passed {samples} {bs} {penalty = penalty} {i} {r} {st = st} place some more most idle upto rep =
    rw (fall_more r i more)
    (first_passed samples bs penalty (r - 1) i (falling (r - 1) i) st (idle_pair samples penalty {j = r - 1} upto (omega arith) rep (rw place at some) (rw place at idle)))
