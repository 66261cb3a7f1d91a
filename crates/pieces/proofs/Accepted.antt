-- Demand 3, of the optimiser's own answers: the pieces of the answer that it ends with are a valid chain for the run, and its score is the sum that
-- the checker works out: specs/Statements. Assumes nothing.
use Rattle.std.specs.Prelude.{Option, Some, None}
use Prim.Native.Nat.{ℕ, zero, suc, ◌-◌, ◌<◌}
use native.Mathlib.Omega.{arith}
use native.Mathlib.Decide.{dec_lt}
use mathlib.Core.Bool.{Bool, true, false}
use mathlib.Core.List.{List, [], ◌∷◌}
use mathlib.Core.Path.{◌≡◌, refl, ap, subst, ◌∙◌}
use lib.Dec.{T}
use lib.ListN.{length, replicate}
use lib.Ieee.{Float, binary64, fits, mul, lt}
use lib.Ieee.Fits.{and_i}
use Rattle.float.specs.Numbers.{nought, three, four}
use Rattle.geometry.specs.Geometry.{is_whole}
use Rattle.geometry.specs.declared.Break.{Break}
use Rattle.geometry.specs.declared.Quad.{Quad}
use Rattle.measure.specs.Measure.{measure_of}
use Rattle.measure.specs.declared.Measure as M
use Rattle.quickmeasure.proofs.Still.{still}
use Rattle.breaks.specs.Breaks.{Row, break_at}
use Rattle.chain.specs.declared.Piece as C
use Rattle.chain.specs.Valid.{valid_piece, leads, joined, valid_from, good_shape, sum_from, judged_by, verdict, checked_chain}
use Rattle.chain.specs.Laws.{equals_same}
use Rattle.attempt.specs.Answers.{Statelet, first, score_of, leg_of, Best, none, total_of}
use Rattle.optimize.specs.Optimize.{Measure, measure_by, States, states, Optimised, refused8, unchanged, solved, pairs_after_splits, pairs_after_search, ended, chosen_if, go_on, searched, splitted, tried, optimize_of}
use Rattle.optimize.specs.Stored.{in_place, bend_in_place}
use Rattle.optimize.proofs.Walk.{none_yet}
use Rattle.optimize.proofs.One.{off_whole, one_refused, one_solved, one_bent_refused}
use Rattle.pieces.specs.Pieces.{as_piece, pieces_of}
use Rattle.pieces.specs.Statements.{EveryAnswerAccepted}
use Rattle.pieces.proofs.Chained.{Good, Chained, chained}
use Rattle.pieces.proofs.Phases.{totals, middle, line_valid, GoodAt, nothing, stands, All, Fair, stops, goes_on, pair_fair, all_fair, splits_rise, search_rise}
use Rattle.std.specs.Prelude.{Option, Some, None}

-- ---- a test that is passed
passed : (t : Bool) → T t → t ≡ true
passed true h = refl
passed false h = absurd h

-- P holds of what the optimiser ends with, where that is an answer
data Sound (P : Statelet → Type 0) : Optimised → Type 0 where
  refuses : Sound P refused8
  leaves : {pairs : ℕ} → Sound P (unchanged pairs)
  solves : {a : Statelet} {pairs : ℕ} → P a → Sound P (solved a pairs)

answered : {P : Statelet → Type 0} {o : Optimised} (a : Statelet) (pairs : ℕ) → Sound P o → o ≡ solved a pairs → P a
answered {P} a pairs s e = by (subst (Sound P) e s)
  where
    by : Sound P (solved a pairs) → P a
    by (solves h) = h

module _ (samples : List (List Float)) (breaks : Row) (penalty : Float) where
  abbrev measure : Measure
  measure = measure_by samples breaks

  abbrev Yes : Statelet → Type 0
  Yes a = checked_chain samples breaks penalty (pieces_of a) (score_of a) ≡ Some true

  -- a good answer that ends at the last break
  abbrev AtLast : Statelet → Type 0
  AtLast a = Good samples breaks penalty a × ((leg_of a).to ≡ length breaks - 1)

  -- ---- what the checker says of a chain with a good shape and the score that it sums up to
  says_yes : (ps : List C.Piece) (s : Float) → T (good_shape breaks ps) → sum_from samples breaks penalty None (Some nought) ps ≡ Some s → checked_chain samples breaks penalty ps s ≡ Some true
  unfolding checked_chain
  says_yes ps s shape sum =
      ap (λ (t : Bool). verdict samples breaks penalty t ps s) (passed (good_shape breaks ps) shape)
      ∙ ap (λ (t : Option Float). judged_by samples breaks penalty t s) sum
      ∙ ap Some (equals_same s)

  joined_up : (n : ℕ) (ps : List C.Piece) → 0 < n → T (leads n 0 ps) → T (joined n ps)
  joined_up zero ps some t = absurd (omega arith)
  joined_up (suc n) ps some t = t

  shaped : (a : Statelet) (ps : List C.Piece) → 1 < length breaks → (leg_of a).to ≡ length breaks - 1 → Chained samples breaks penalty a ps → T (good_shape breaks ps)
  unfolding good_shape
  shaped a ps many e c =
      and_i (joined (length breaks - 1) ps) (valid_from breaks None ps)
      (joined_up (length breaks - 1) ps (omega arith) (subst (λ (n : ℕ). T (leads n 0 ps)) e c.leading)) c.valid

  -- ---- what the optimiser ends with, in a run with two breaks or more
  ends : (pairs : ℕ) {t : Best} → GoodAt samples breaks penalty (length breaks - 1) t → Sound AtLast (ended measure breaks penalty pairs t)
  ends pairs nothing = leaves
  ends pairs (stands g e) = solves (g, e)

  chosen : (above : Bool) {next now : Optimised} → Sound AtLast next → Sound AtLast now → Sound AtLast (chosen_if measure breaks penalty above next now)
  chosen true next now = next
  chosen false next now = now

  goes : (limit : Float) (pairs : ℕ) {t : Best} {next : Optimised} → GoodAt samples breaks penalty (length breaks - 1) t → Sound AtLast next → Sound AtLast (go_on measure breaks penalty limit pairs t next)
  goes limit pairs nothing next = leaves
  goes limit pairs (stands {a} g e) next = chosen (lt limit (score_of a)) next (solves (g, e))

  abbrev n : ℕ
  n = length breaks - 1

  none_good : (k : ℕ) → All samples breaks penalty (replicate k none)
  none_good k b = rw (none_yet k b) nothing

  module _ (many : 1 < length breaks) where
    after_search : {s : States} → Fair samples breaks penalty s → Sound AtLast (searched measure breaks penalty s)
    after_search stops = refuses
    after_search (goes_on all) = ends (pairs_after_search measure breaks penalty) (all n)

    after_splits_lem : {s : States} → Fair samples breaks penalty s → Sound AtLast (splitted measure breaks penalty s)
    after_splits_lem stops = refuses
    after_splits_lem (goes_on {st} all) =
        goes (mul binary64 four penalty) (pairs_after_splits measure breaks penalty) (all n) (after_search (all_fair samples breaks penalty (states st) (search_rise n 1) (goes_on all)))

    after_first : {s : States} → Fair samples breaks penalty s → Sound AtLast (tried measure breaks penalty s)
    after_first stops = refuses
    after_first (goes_on {st} all) =
        goes (mul binary64 three penalty) 1 (all n) (after_splits_lem (all_fair samples breaks penalty (states st) (splits_rise (n - 1) 1 n (omega arith) (omega arith)) (goes_on all)))

    many_sound : Sound AtLast (optimize_of measure breaks penalty)
    unfolding optimize_of
    many_sound = after_first (pair_fair samples breaks penalty 0 n (omega arith) (replicate (length breaks) none) (none_good (length breaks)))

    pub accepted : (a : Statelet) (pairs : ℕ) → optimize_of measure breaks penalty ≡ solved a pairs → checked_chain samples breaks penalty (pieces_of a) (score_of a) ≡ Some true
    accepted a pairs e =
        let (good, end) = answered a pairs many_sound e in
        let c = chained samples breaks penalty good in
        says_yes (pieces_of a) (score_of a) (shaped a (pieces_of a) many end c) c.summing

  -- ---- a run with one break: the piece that stays there, whose score is a NaN
  module _ (one : length breaks ≡ 1) (fits-x : T (fits binary64 (break_at breaks 0).xy.x)) (fits-y : T (fits binary64 (break_at breaks 0).xy.y)) where
    abbrev there : Break
    there = break_at breaks 0

    abbrev line : Quad
    line = in_place there.xy

    stays_shaped : is_whole there.xy ≡ true → T (good_shape breaks (as_piece (record { from = 0; to = 0; quad = line }) ∷ []))
    unfolding good_shape valid_from
    stays_shaped whole =
        let zero-last : length breaks - 1 ≡ 0 = omega arith in
        rw zero-last (and_i (valid_piece None there there (middle there there)) true (line_valid there there None whole) tt)

    answer_yes : (m : M.Measure) → measure_of samples there.s there.s line ≡ Some m → is_whole there.xy ≡ true →
        Yes (first (record { from = 0; to = 0; quad = line }) (total_of none line m.error penalty))
    unfolding pieces_of sum_from
    answer_yes m made whole = says_yes _ _ (stays_shaped whole) (totals penalty none line m made)

    bent_sound : (m : M.Measure) → measure_of samples there.s there.s line ≡ Some m → is_whole there.xy ≡ true → (fell : Option ℕ) → bend_in_place samples there ≡ fell →
        Sound Yes (optimize_of measure breaks penalty)
    bent_sound m made whole (Some n) ok = rw (one_solved samples breaks penalty one whole m made (still samples there.s there.s there.xy fits-x fits-y whole m made) ok) (solves (answer_yes m made whole))
    bent_sound m made whole None bad = rw (one_bent_refused samples breaks penalty one whole m made (still samples there.s there.s there.xy fits-x fits-y whole m made) bad) refuses

    line_sound : is_whole there.xy ≡ true → (w : Option M.Measure) → measure_of samples there.s there.s line ≡ w → Sound Yes (optimize_of measure breaks penalty)
    line_sound whole None made = rw (one_refused samples breaks penalty one whole made) refuses
    line_sound whole (Some m) made = bent_sound m made whole (bend_in_place samples there) refl

    one_sound : (whole : Bool) → is_whole there.xy ≡ whole → Sound Yes (optimize_of measure breaks penalty)
    one_sound true e = line_sound e (measure_of samples there.s there.s line) refl
    one_sound false e = rw (off_whole samples breaks penalty one e) leaves

    pub accepted_one : (a : Statelet) (pairs : ℕ) → optimize_of measure breaks penalty ≡ solved a pairs → checked_chain samples breaks penalty (pieces_of a) (score_of a) ≡ Some true
    accepted_one a pairs e = answered a pairs (one_sound (is_whole there.xy) refl) e

  -- ---- any run
  pub accepted_any : EveryAnswerAccepted samples breaks penalty
  accepted_any some fits-x fits-y a pairs e = by (dec_lt 1 (length breaks))
    where
      by : Dec (1 < length breaks) → checked_chain samples breaks penalty (pieces_of a) (score_of a) ≡ Some true
      by (yes many) = accepted many a pairs e
      by (no few) = accepted_one (omega arith) fits-x fits-y a pairs e
