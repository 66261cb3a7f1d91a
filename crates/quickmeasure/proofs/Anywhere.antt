-- Whatever the quad, no stage of RK4 is more than 1.37 of its length ahead, but for what rounding adds: its speeds cannot change much in a step unless a step
-- before it, or after it, is long. Assumes nothing.
use Prim.Native.Nat.{ℕ, zero, suc, ◌+◌, ◌*◌, ◌≤◌, ◌<◌}
use mathlib.Core.Logic.{◌⊎◌, inl, inr}
use mathlib.Core.Path.{◌≡◌, refl}
use mathlib.Core.List.{List}
use native.Mathlib.Omega.{arith}
use lib.Dec.{T, lit≤}
use lib.Pow.{pow_pos}
use lib.IntN.{pos, negsuc}
use lib.Ieee.{Float, binary64, fits, add, of_bits}
use lib.Ieee.Fits.{mul-fits}
use Rattle.float.proofs.Nearly.{grain, grain_pos, Ratio, ratio, ratio_finite, same_size}
use Rattle.geometry.specs.declared.Quad.{Quad}
use Rattle.arclen.specs.Rk4.{half_of}
use Rattle.arclen.specs.Arclen.{tenth, arclen_functor_of}
use Rattle.quickarclen.specs.Stages.{time_at, length_at}
use Rattle.arclen.specs.declared.ArclenFunctor.{ArclenFunctor}
use Rattle.quickmeasure.specs.Early.{Shows}
use Rattle.quickmeasure.specs.Ahead.{WellBefore}
use Rattle.quickmeasure.proofs.Clock.{Clock, clock, none_yet, eight_times}
use Rattle.quickmeasure.proofs.Slow.{NotFaster, Lines, lines, Seen, see, Slow, than_before, than_after, slow, Opens, goes_on, comes_again, opens}
use Rattle.quickmeasure.proofs.Ahead.{speck, speck_some, Least, NotPast, NoLonger, own_share, first, last, Part, Parts, within, Shares, Factor, seen_by}

-- ---- how far the speeds a, b and d at the start, the middle and the end of a step lead: v is what it adds, y where it starts, and l the whole length
-- from the middle: the speed there is at most 1.42 times one of the others
middle_ahead : (a b d v : ℕ) → Least a b d v → NotFaster b a ⊎ NotFaster b d → 1002 * b ≤ 10000 * v + 3700 * v + 50 * speck
middle_ahead a b d v least (inl h) = omega (arith, speck_some)
middle_ahead a b d v least (inr h) = omega (arith, speck_some)

-- from the start, where the speed rises after it
first_ahead : (a b d v : ℕ) → Least a b d v → NotFaster a b → NotFaster a d → 501 * a ≤ 10000 * v + 3700 * v + 50 * speck
first_ahead a b d v least h k = omega (arith, speck_some)

-- where it fell before: then the step before, which adds w and has the speeds e and g, is long, and so is y
fell_long : (a e g w y : ℕ) → Least e g a w → NotFaster a e → NotFaster a g → NoLonger w y → 748 * a ≤ 10000 * y + 12 * speck
fell_long a e g w y least h k start =
    let long : 749 * a ≤ 10000 * w + 10 * speck = omega (arith, speck_some) in
    omega (arith, speck_some)

fell_whole : (y a v l : ℕ) → 748 * a ≤ 10000 * y + 12 * speck → 165 * a ≤ 10000 * v + speck → NoLonger (y + v) l → NotPast 3700 (10000 * y + 501 * a) l
fell_whole y a v l from more whole = omega (arith, speck_some)

fell_ahead : (y a b d v e g w l : ℕ) → Least e g a w → NotFaster a e → NotFaster a g → NoLonger w y → Least a b d v → NoLonger (y + v) l →
    NotPast 3700 (10000 * y + 501 * a) l
fell_ahead y a b d v e g w l prior h k start least whole = fell_whole y a v l (fell_long a e g w y prior h k start) (omega (arith, speck_some)) whole

-- in the first step, where the speed goes on
on_ahead : (a b d v : ℕ) → Least a b d v → 1000 * a ≤ 2840 * b + 9 * speck → 501 * a ≤ 10000 * v + 3700 * v + 50 * speck
on_ahead a b d v least h = omega (arith, speck_some)

-- and where a later step, which adds w from z on, has such speeds again
again_ahead : (a e g i w z l : ℕ) → Least e g i w → NotFaster a e → NotFaster a g → NotFaster a i → NoLonger (z + w) l → NotPast 3700 (501 * a) l
again_ahead a e g i w z l least h k m whole =
    let long : 700 * a ≤ 10000 * w + 10 * speck = omega (arith, speck_some) in
    omega (arith, speck_some)

-- ---- the steps of a quad: one ends where and when the next one starts
same_time : (i : ℕ) {p q : ℕ} → Ratio (add binary64 (time_at tenth i) tenth) p grain → Ratio (time_at tenth (suc i)) q grain → p ≡ q
unfolding time_at
same_time i r s = same_size r s

same_speed : (f : ArclenFunctor) (i : ℕ) {p q : ℕ} → Ratio (last f i) p grain → Ratio (first f (suc i)) q grain → p ≡ q
unfolding time_at
same_speed f i r s = same_size r s

-- the first one starts at 0
starts_at : (f : ArclenFunctor) {y : ℕ} → Ratio (length_at f 0) y grain → y ≡ 0
unfolding length_at of_bits
starts_at f r = same_size r (ratio {a = 0} {c = grain} 0 (pos 0) grain_pos (omega arith))

module _ (f : ArclenFunctor) (fx : T (fits binary64 f.dx0)) (fy : T (fits binary64 f.dy0)) (l : ℕ) (all : Parts f l) where
  abbrev c : Lines f
  c = lines f fx fy (clock 0 (omega arith)).start.value (ratio_finite (all 0 (omega arith)).step.a.value)

  module _ (i : ℕ) (less : i < 10) where
    abbrev at : Clock (time_at tenth i)
    at = clock i less

    abbrev part : Part f i l
    part = all i less

    -- what is known at its start, in its middle and at its end
    starts : Seen c (time_at tenth i) at.start.size part.step.a.size
    starts = see c at.start.value part.step.a.value

    halves : Seen c (add binary64 (time_at tenth i) (half_of tenth)) at.half.size part.step.b.size
    halves = see c at.half.value part.step.b.value

    ends : Seen c (add binary64 (time_at tenth i) tenth) at.whole.size part.step.d.size
    ends = see c at.whole.value part.step.d.value

    -- from its middle
    middle_share : NotPast 3700 (10000 * part.from + 1002 * part.step.b.size) l
    middle_share =
        own_share 3700 part.from part.step.v (1002 * part.step.b.size) l (omega arith) (within f part)
        (middle_ahead part.step.a.size part.step.b.size part.step.d.size part.step.v part.step.least (by (slow c halves)))
      where
        by : Slow c at.half.size part.step.b.size →
            NotFaster part.step.b.size part.step.a.size ⊎ NotFaster part.step.b.size part.step.d.size
        by (than_before slower) = inl (slower _ _ _ starts at.first)
        by (than_after slower) = inr (slower _ _ _ ends at.second)

  -- from the start of a step that has one before it
  later_share : (j : ℕ) (less : suc j < 10) → NotPast 3700 (10000 * (part (suc j) less).from + 501 * (part (suc j) less).step.a.size) l
  later_share j less = by (slow c (starts (suc j) less))
    where
      here : Part f (suc j) l
      here = part (suc j) less

      less_one : j < 10
      less_one = omega arith

      prior : Part f j l
      prior = part j less_one

      now : (at j less_one).whole.size ≡ (at (suc j) less).start.size
      now = same_time j (at j less_one).whole.value (at (suc j) less).start.value

      speed : prior.step.d.size ≡ here.step.a.size
      speed = same_speed f j prior.step.d.value here.step.a.value

      reached : prior.step.z ≡ here.from
      reached = same_size prior.step.end here.start

      by : Slow c (at (suc j) less).start.size here.step.a.size →
          NotPast 3700 (10000 * here.from + 501 * here.step.a.size) l
      by (than_before slower) =
          fell_ahead here.from here.step.a.size here.step.b.size here.step.d.size here.step.v prior.step.a.size prior.step.b.size
          prior.step.v l (rw (← speed) prior.step.least)
          (slower _ _ _ (starts j less_one) (omega (arith, now, (at j less_one).first, (at j less_one).second)))
          (slower _ _ _ (halves j less_one) (omega (arith, now, (at j less_one).second))) (omega (arith, reached, prior.step.sum.least)) here.step.least (within f here)
      by (than_after slower) =
          own_share 3700 here.from here.step.v (501 * here.step.a.size) l (omega arith) (within f here)
          (first_ahead here.step.a.size here.step.b.size here.step.d.size here.step.v here.step.least
          (slower _ _ _ (halves (suc j) less) (at (suc j) less).first)
          (slower _ _ _ (ends (suc j) less) (omega (arith, (at (suc j) less).first, (at (suc j) less).second))))

  -- from the start of the first step
  opening_share : (less : 0 < 10) → NotPast 3700 (10000 * (part 0 less).from + 501 * (part 0 less).step.a.size) l
  opening_share less =
      by (opens c (starts 0 less) (halves 0 less) (starts 4 four) (none_yet (at 0 less).start.value) (eight_times (at 0 less).half.value (at 4 four).start.value))
    where
      four : 4 < 10
      four = omega arith

      here : Part f 0 l
      here = part 0 less

      there : Part f 4 l
      there = part 4 four

      by : Opens c (at 4 four).start.size here.step.a.size here.step.b.size →
          NotPast 3700 (10000 * here.from + 501 * here.step.a.size) l
      by (goes_on h) =
          own_share 3700 here.from here.step.v (501 * here.step.a.size) l (omega arith) (within f here)
          (on_ahead here.step.a.size here.step.b.size here.step.d.size here.step.v here.step.least h)
      by (comes_again fast) =
          let none = starts_at f here.start in
          let ahead = again_ahead here.step.a.size there.step.a.size there.step.b.size there.step.d.size there.step.v there.from l
          there.step.least (fast _ _ _ (starts 4 four) (omega arith)) (fast _ _ _ (halves 4 four) (at 4 four).first)
          (fast _ _ _ (ends 4 four) (omega (arith, (at 4 four).first, (at 4 four).second))) (within f there) in
          omega arith

  first_share : (i : ℕ) (less : i < 10) → NotPast 3700 (10000 * (part i less).from + 501 * (part i less).step.a.size) l
  first_share zero less = opening_share less
  first_share (suc j) less = later_share j less

any_shares : (f : ArclenFunctor) → T (fits binary64 f.dx0) → T (fits binary64 f.dy0) → Shares f 3700
any_shares f fx fy = record {
  few = omega arith;
  each = λ l all i less. record { first = first_share f fx fy l all i less; middle = middle_share f fx fy l all i less };
}

-- a gap and three eighths
abbrev three_eighths : Float
three_eighths = of_bits binary64 0x3ff6_0000_0000_0000

three_eighths_is : Factor 3700 three_eighths
unfolding of_bits
three_eighths_is = record { num = 11; den = 8; some = pow_pos 3; value = ratio 11 (negsuc 2) (pow_pos 3) refl; over = lit≤ tt }

pub seen_any : (row : List (List Float)) (s0 s1 : Float) (q : Quad) → WellBefore row s0 s1 three_eighths → Shows row s0 s1 q
unfolding arclen_functor_of
seen_any row s0 s1 q w = seen_by w three_eighths_is q (any_shares (arclen_functor_of q) (mul-fits binary64 _ _) (mul-fits binary64 _ _))
