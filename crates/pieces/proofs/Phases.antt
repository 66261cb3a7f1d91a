-- Every answer that stands at a break, in any phase, is a valid chain to that break: an attempt keeps it so, and the phases are attempts.
-- Assumes nothing.
use Rattle.std.specs.Prelude.{Option, Some, None}
use Prim.Native.Nat.{ℕ, zero, suc, ◌+◌, ◌≤◌, ◌<◌}
use native.Mathlib.Omega.{arith}
use mathlib.Core.Bool.{Bool, true, false, ◌&&◌, ◌||◌}
use mathlib.Core.List.{List, [], ◌∷◌, ◌++◌}
use mathlib.Core.Path.{◌≡◌, refl, sym, ap, ◌∙◌}
use lib.Dec.{T}
use lib.ListN.{set}
use lib.Ieee.{Float, binary64, add, mul}
use lib.Ieee.Fits.{and_i}
use Rattle.float.specs.Numbers.{half}
use Rattle.geometry.specs.Geometry.{is_line, is_whole, line_quad, lerp_of, round_point_of, intersect_of}
use Rattle.geometry.specs.declared.Break.{Break}
use Rattle.geometry.specs.declared.Point.{Point}
use Rattle.geometry.specs.declared.Quad.{Quad}
use Rattle.measure.specs.declared.Measure as M
use Rattle.breaks.specs.Breaks.{Row, break_at}
use Rattle.chain.specs.Valid as Valid
use Rattle.chain.specs.Valid.{equal_points, drawn, curved, follows_curve, valid_piece, added}
use Rattle.chain.specs.Laws.{equals_same}
use Rattle.attempt.specs.Answers.{Leg, Statelet, first, on, leg_of, Best, none, best, smooth_after, ok_for_half, one_or_two, joint_of, previous_score, total_of, is_less, replaced_if, may_build, combined_if, combined}
use Rattle.optimize.specs.Optimize.{Measure, measure_by, best_at, States, refused, states, measured, try_quad, try_if, bent_quad, bent_at, bent, then_bent, try_line_quad, onward, try_all, splits_from, falling, search_from}
use Rattle.optimize.proofs.Walk.{set_each}
use Rattle.pieces.proofs.Chained.{Fine, Good, starts, goes}
use Rattle.std.specs.Prelude.{Option, Some, None}

-- ---- what stands at a break, as a chain has it before a piece from there
abbrev pub before_of : Best → Option Quad
before_of none = None
before_of (best a) = Some (leg_of a).quad

follows : (t : Best) (q : Quad) → follows_curve (before_of t) q ≡ smooth_after t q
follows none q = refl
follows (best a) q = refl

one_or_two_lem : (t : Bool) → Valid.one_or_two t ≡ one_or_two t
one_or_two_lem true = refl
one_or_two_lem false = refl

same_joint : (t : Best) (q : Quad) → Valid.joint_of (before_of t) q ≡ joint_of t q
same_joint t q = ap (λ (c : Bool). Valid.one_or_two (is_line q || c)) (follows t q) ∙ one_or_two_lem (is_line q || smooth_after t q)

-- a piece with the measure m adds to the chain's sum as it does to the score
pub totals : (penalty : Float) (t : Best) (q : Quad) (m : M.Measure) {w : Option M.Measure} → w ≡ Some m →
    added penalty (before_of t) q (Some (previous_score t)) w ≡ Some (total_of t q m.error penalty)
totals penalty t q m made =
    ap (added penalty (before_of t) q (Some (previous_score t))) made
    ∙ ap (λ (k : Float). (Some (add binary64 (add binary64 (previous_score t) (mul binary64 penalty k)) m.error))) (same_joint t q)

-- ---- a piece that is tried is valid
points_same : (p : Point) → T (equal_points p p)
points_same p = rw (equals_same p.x, equals_same p.y) tt

or_l : (a b : Bool) → T a → T (a || b)
or_l true b t = tt
or_l false b t = elim t [ ]

or_r : (a b : Bool) → T b → T (a || b)
or_r true b t = tt
or_r false b t = t

module _ (a b : Break) where
  -- straight, from a whole-unit break
  abbrev pub middle : Point
  middle = lerp_of a.xy b.xy half

  pub line_valid : (before : Option Quad) → is_whole a.xy ≡ true → T (valid_piece before a b middle)
  unfolding valid_piece
  line_valid before whole = rw whole (and_i (Valid.straight a b middle || Valid.bent a b middle) true (or_l (Valid.straight a b middle) (Valid.bent a b middle) (points_same middle)) tt)

  -- bent, at the rounded crossing, where it is allowed
  module _ (p : Point) (e : intersect_of a.xy a.dir b.xy b.dir ≡ Some p) where
    abbrev control : Point
    control = round_point_of p

    rounded : T (Valid.bent a b control)
    rounded = rw e (points_same control)

    allowed : (t : Best) → ok_for_half t (drawn a b control) ≡ true → T (is_whole a.xy || (curved (drawn a b control) && follows_curve (before_of t) (drawn a b control)))
    allowed t ok = rw (follows t (drawn a b control), ok) tt

    bent_valid : (t : Best) → ok_for_half t (drawn a b control) ≡ true → T (valid_piece (before_of t) a b control)
    unfolding valid_piece
    bent_valid t ok =
        and_i ((is_whole a.xy && Valid.straight a b control) || Valid.bent a b control) _ (or_r (is_whole a.xy && Valid.straight a b control) (Valid.bent a b control) rounded) (allowed t ok)

-- ---- one attempt
module _ (samples : List (List Float)) (breaks : Row) (penalty : Float) where
  abbrev measure : Measure
  measure = measure_by samples breaks

  pub data GoodAt (b : ℕ) : Best → Type 0 where
    nothing : GoodAt b none
    stands : {a : Statelet} → Good samples breaks penalty a → (leg_of a).to ≡ b → GoodAt b (best a)

  abbrev pub All : List Best → Type 0
  All st = (b : ℕ) → GoodAt b (best_at st b)

  -- where it breaks off, nothing is asked
  pub data Fair : States → Type 0 where
    stops : Fair refused
    goes_on : {st : List Best} → All st → Fair (states st)

  set_keeps : (st : List Best) (j : ℕ) (t : Best) → All st → GoodAt j t → All (set st j t)
  set_keeps st j t all good = set_each GoodAt st j t all good

  -- it stays, or a piece that fits what stands where it starts is built on that
  module _ (p : Leg) (s : Float) (old : Best) (was : GoodAt p.to old) where
    replaced : (less : Bool) (a : Statelet) → GoodAt p.to (best a) → GoodAt p.to (replaced_if less old a)
    replaced true a new = new
    replaced false a new = was

    combines : (i : ℕ) {t : Best} → p.from ≡ i → GoodAt i t → Fine samples breaks penalty (before_of t) (previous_score t) p s → GoodAt p.to (combined_if (may_build i t) old t p s)
    combines i at (stands {a} g e) f = replaced (is_less s old) (on a p s) (stands (goes g (at ∙ sym e) f) refl)
    combines zero at nothing f = replaced (is_less s old) (first p s) (stands (starts at f) refl)
    combines (suc i) at nothing f = was

  module _ (i j : ℕ) (rising : i < j) (st : List Best) (all : All st) where
    abbrev from : Break
    from = break_at breaks i

    abbrev to : Break
    to = break_at breaks j

    abbrev stands_there : Option Quad
    stands_there = before_of (best_at st i)

    module _ (c : Point) (valid : T (valid_piece stands_there from to c)) where
      abbrev quad : Quad
      quad = drawn from to c

      fine : (m : M.Measure) → measure i j quad ≡ Some m →
          Fine samples breaks penalty stands_there (previous_score (best_at st i)) (record { from = i; to = j; quad = quad }) (total_of (best_at st i) quad m.error penalty)
      fine m made = record { rising = rising; between = refl; valid = valid; adds = totals penalty (best_at st i) quad m made }

      measured_fair : (w : Option M.Measure) → measure i j quad ≡ w → Fair (measured measure breaks penalty w i j quad st)
      unfolding combined
      measured_fair None e = stops
      measured_fair (Some m) e =
          goes_on (set_keeps st j _ all (combines (record { from = i; to = j; quad = quad }) (total_of (best_at st i) quad m.error penalty) (best_at st j) (all j) i refl (all i) (fine m e)))

      quad_fair : Fair (try_quad measure breaks penalty i j quad st)
      unfolding try_quad
      quad_fair = measured_fair (measure i j quad) refl

    line_if : (whole : Bool) → is_whole from.xy ≡ whole → Fair (try_if measure breaks penalty whole i j (line_quad from.xy to.xy) st)
    line_if true e = quad_fair (middle from to) (line_valid from to stands_there e)
    line_if false e = goes_on all

    bent_if : (p : Point) → intersect_of from.xy from.dir to.xy to.dir ≡ Some p → (ok : Bool) → ok_for_half (best_at st i) (bent_quad measure breaks penalty i j p) ≡ ok →
        Fair (try_if measure breaks penalty ok i j (bent_quad measure breaks penalty i j p) st)
    bent_if p e true ok = quad_fair (round_point_of p) (bent_valid from to p e (best_at st i) ok)
    bent_if p e false ok = goes_on all

    crossed : (x : Option Point) → intersect_of from.xy from.dir to.xy to.dir ≡ x → Fair (bent_at measure breaks penalty x i j st)
    crossed None e = goes_on all
    crossed (Some p) e = bent_if p e (ok_for_half (best_at st i) (bent_quad measure breaks penalty i j p)) refl

    bent_fair : Fair (bent measure breaks penalty i j st)
    unfolding bent
    bent_fair = crossed (intersect_of from.xy from.dir to.xy to.dir) refl

  -- ---- one pair, and many
  module _ (i j : ℕ) (rising : i < j) where
    then_bent_lem : {s : States} → Fair s → Fair (then_bent measure breaks penalty i j s)
    then_bent_lem stops = stops
    then_bent_lem (goes_on {st} all) = bent_fair i j rising st all

    pub pair_fair : (st : List Best) → All st → Fair (try_line_quad measure breaks penalty i j st)
    unfolding try_line_quad
    pair_fair st all = then_bent_lem (line_if i j rising st all (is_whole (break_at breaks i).xy) refl)

    onward_fair : {s : States} → Fair s → Fair (onward measure breaks penalty i j s)
    onward_fair stops = stops
    onward_fair (goes_on {st} all) = pair_fair st all

-- pairs that rise
pub data Rising : List (ℕ × ℕ) → Type 0 where
  no_more : Rising []
  rises : {i j : ℕ} {ps : List (ℕ × ℕ)} → i < j → Rising ps → Rising ((i, j) ∷ ps)

pub all_fair : (samples : List (List Float)) (breaks : Row) (penalty : Float) {ps : List (ℕ × ℕ)} (s : States) → Rising ps → Fair samples breaks penalty s → Fair samples breaks penalty (try_all (measure_by samples breaks) breaks penalty ps s)
unfolding try_all
all_fair samples breaks penalty s no_more fair = fair
all_fair samples breaks penalty s (rises {i} {j} h r) fair = all_fair samples breaks penalty (onward (measure_by samples breaks) breaks penalty i j s) r (onward_fair samples breaks penalty i j h fair)

pub splits_rise : (k i n : ℕ) → 0 < i → i + k ≤ n → Rising (splits_from k i n)
unfolding splits_from
splits_rise zero i n some few = no_more
splits_rise (suc k) i n some few =
    let less : i < n = omega arith in
    rises some (rises less (splits_rise k (i + 1) n (omega arith) (omega arith)))

falling_rise : (j i : ℕ) → j ≤ i → Rising (falling j i)
unfolding falling
falling_rise zero i h = no_more
falling_rise (suc j) i h = rises h (falling_rise j i (omega arith))

rise_append : {ps qs : List (ℕ × ℕ)} → Rising ps → Rising qs → Rising (ps ++ qs)
rise_append no_more r = r
rise_append (rises h t) r = rises h (rise_append t r)

pub search_rise : (k i : ℕ) → Rising (search_from k i)
unfolding search_from
search_rise zero i = no_more
search_rise (suc k) i = rise_append (falling_rise i i (omega arith)) (search_rise k (i + 1))
