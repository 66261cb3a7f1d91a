-- An answer against an attempt: which of the two is kept. Assumes nothing.
use Prim.Native.Nat.{ℕ}
use mathlib.Core.Bool.{Bool, true, false, ◌&&◌, ◌||◌}
use mathlib.Core.Path.{◌≡◌, refl, sym, ◌∙◌}
use borrow.Author.Tests.{ne_eqb}
use lib.Dec.{T, eqb}
use lib.Ieee.{Float, binary64, add, mul, lt}
use Rattle.float.specs.Numbers.{nought, one, two}
use Rattle.geometry.specs.Geometry.{is_line, is_smooth}
use Rattle.geometry.specs.declared.Quad.{Quad}
use Rattle.measure.specs.NotNegative.{not_negative}
use Rattle.quickmeasure.specs.Early.{Beyond}
use Rattle.attempt.specs.declared.answer.Answer as A
use Rattle.attempt.specs.Answers.{is_curve, smooth_after, one_or_two, total_of}
use Rattle.attempt.specs.Value.{best_if, best_of, or_else, new_answer, combine_of, base_of, Makes}
use Rattle.attempt.proofs.Order.{no_less}
use Rattle.measure.specs.declared.Measure.{Measure}
use Rattle.std.specs.Prelude.{Option}

-- a joint with an answer is smooth where this is a curve and the joint of the two quads is
pub smooth_on : (x : A.Answer) (q : Quad) (t : Bool) → t ≡ is_curve (best_of x) → (t && is_smooth x.quad q) ≡ smooth_after (best_of x) q
smooth_on x q t e = rw e (go (eqb x.link 0))
  where
    go : (none : Bool) → (is_curve (best_if none x) && is_smooth x.quad q) ≡ smooth_after (best_if none x) q
    go true = refl
    go false = refl

-- ---- an answer against an attempt with the score s

module _ (old previous : A.Answer) (measure : Float) (q : Quad) (penalty s : Float) (e : s ≡ total_of (best_of previous) q measure penalty) where
  pub compared : (less : Bool) → (previous.name ≡ 0 → ⊥) → (old.link ≡ 0 → ⊥) → lt s old.score ≡ less →
      or_else less (new_answer old previous q s) old ≡ combine_of old previous measure q penalty
  unfolding combine_of
  compared less h k l = rw (ne_eqb previous.name 0 h, ← e, ne_eqb old.link 0 k, l)

-- an answer stays where an attempt's score is not less
pub kept : (old previous : A.Answer) (measure : Float) (q : Quad) (penalty : Float) → (old.link ≡ 0 → ⊥) →
    lt (total_of (best_of previous) q measure penalty) old.score ≡ false → old ≡ combine_of old previous measure q penalty
unfolding combine_of
kept old previous measure q penalty some most = rw (ne_eqb old.link 0 some, most) (either (eqb previous.name 0))
  where
    either : (t : Bool) → old ≡ or_else t old old
    either true = refl
    either false = refl

-- so it is where a measure was ended early
pub ended : (old previous : A.Answer) (q : Quad) (penalty : Float) (x : Option Measure) (n : ℕ) (base : Float) →
    Beyond x n base old.score → (old.link ≡ 0 → ⊥) → base ≡ base_of (best_of previous) q penalty → Makes x n old previous q penalty old 0
ended old previous q penalty x n base b some is =
    record { error = b.error; is = b.is; same = kept old previous b.error q penalty some (rw is at b.most); fell = sym b.none }

-- a score is not less than a limit where it would not be with no error
pub not_less : (x least limit : Float) → least ≡ add binary64 x nought → lt nought least ≡ true → lt least limit ≡ false →
    (measure : Float) → T (not_negative measure) → lt (add binary64 x measure) limit ≡ false
not_less x least limit e above most measure p = go (lt (add binary64 x measure) limit) refl
  where
    go : (t : Bool) → lt (add binary64 x measure) limit ≡ t → t ≡ false
    go true k = sym (no_less x measure limit (rw e at above) p k) ∙ (rw e at most)
    go false k = refl

-- so it is of every piece that is built on an answer, where it is of the two joints
pub at_each_joint : (x : A.Answer) (limit penalty : Float) → (x.link ≡ 0 → ⊥) →
    ((measure : Float) → T (not_negative measure) → lt (add binary64 (add binary64 x.score (mul binary64 penalty one)) measure) limit ≡ false) →
    ((measure : Float) → T (not_negative measure) → lt (add binary64 (add binary64 x.score (mul binary64 penalty two)) measure) limit ≡ false) →
    (q : Quad) (measure : Float) → T (not_negative measure) → lt (total_of (best_of x) q measure penalty) limit ≡ false
at_each_joint x limit penalty some with-one with_two q measure p = rw (ne_eqb x.link 0 some) (go (is_line q || smooth_after (best_if false x) q))
  where
    go : (t : Bool) → lt (add binary64 (add binary64 x.score (mul binary64 penalty (one_or_two t))) measure) limit ≡ false
    go true = with-one measure p
    go false = with_two measure p
