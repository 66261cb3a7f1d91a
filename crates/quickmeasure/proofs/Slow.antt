-- A speed of a quad is at most 1.42 times each one before it, or each one after it, but for what rounding adds: either coordinate of the derivative falls, then
-- rises, and the larger one makes most of the speed. Assumes nothing.
use Prim.Native.Nat.{ℕ, ◌+◌, ◌*◌, ◌≤◌, ◌<◌}
use mathlib.Core.Bool.{Bool, true, false}
use mathlib.Core.Logic.{◌⊎◌, inl, inr}
use mathlib.Core.Path.{◌≡◌, refl, ap, ◌∙◌}
use native.Mathlib.Nat.{mul_right_comm, add-mul, mul-le-mul_right}
use native.Mathlib.Omega.{arith}
use borrow.Author.Tests.{ltb-true, ltb-false}
use lib.Dec.{T, ltb}
use lib.Ieee.{Float, nan, inf, fin, binary64, fits, sub, mul}
use lib.Ieee.Fits.{sub-fits, mul-fits}
use lib.Ieee.Scale.{finite}
use Rattle.float.specs.Float.{abs_of, root_of}
use Rattle.float.proofs.NotNegative.{square_plus, square_abs}
use Rattle.float.proofs.Nearly.{Near, grain, grain_pos, Ratio, ratio_finite, same_size, sum_of, times, add_parts}
use Rattle.float.proofs.Roots.{root_le, squared, sum_squared, root_of_lem}
use Rattle.geometry.specs.Geometry.{squares}
use Rattle.arclen.specs.Arclen.{deriv_of, speed_of}
use Rattle.arclen.specs.declared.ArclenFunctor.{ArclenFunctor}
use Rattle.quickmeasure.proofs.NoMore.{turned_round}
use Rattle.quickmeasure.proofs.Climb.{no_less}
use Rattle.quickmeasure.proofs.Valley.{Line, line, Spot, spot, far, Valley, fell_before, rises_after, valley, at_start, Kept, kept, past, kept_or_past}
use Rattle.quickmeasure.proofs.Ahead.{speck, speck_some, speck_square}

-- ---- a speed is no less than either coordinate, and at most 1.42 times the larger one
-- z is a coordinate, a its square, s the square of the speed v, and u the grain
least_root : (z a s u v k : ℕ) → 10000000 * u ≤ k * k → Near (z * z) u a → a ≤ s → s * u * 100000 ≤ 100001 * (v * v) → 1000 * z ≤ 1001 * v + k
least_root z a s u v k small near less root =
    let scaled : a * u ≤ s * u = mul-le-mul_right u less in
    root_le (1000 * z) (1001 * v + k) (omega (arith, near.least, squared 1000 z, squared 1001 v, sum_squared (1001 * v) k))

most_root : (z a b s u v k : ℕ) → 10000000 * u ≤ k * k → Near (z * z) u a → b ≤ a → Near (a + b) 1 s → v * v * 100000 ≤ 100001 * (s * u) →
    1000 * v ≤ 1416 * z + k
most_root z a b s u v k small near less sum root =
    let twice : s * 4096 ≤ a * 8194 + 4096 = omega (arith, sum.most) in
    let scaled : s * 4096 * u ≤ (a * 8194 + 4096) * u = mul-le-mul_right u twice in
    let l : s * 4096 * u ≡ s * u * 4096 = mul_right_comm s 4096 u in
    let r : (a * 8194 + 4096) * u ≡ a * u * 8194 + 4096 * u = add-mul (a * 8194) 4096 u ∙ ap (λ (n : ℕ). n + 4096 * u) (mul_right_comm a 8194 u) in
    root_le (1000 * v) (1416 * z + k) (omega (arith, near.most, squared 1000 v, squared 1416 z, sum_squared (1416 * z) k))

-- the coordinates x and y, and the speed v
record Tied (x y v : ℕ) : Type 0 where
  x_least : 1000 * x ≤ 1001 * v + speck
  y_least : 1000 * y ≤ 1001 * v + speck
  most : (1000 * v ≤ 1416 * x + speck) ⊎ (1000 * v ≤ 1416 * y + speck)

tied_by : (x y a b s v : ℕ) → Near (x * x) grain a → Near (y * y) grain b → a ≤ s → b ≤ s → Near (a + b) 1 s → v * v * 100000 ≤ 100001 * (s * grain) →
    s * grain * 100000 ≤ 100001 * (v * v) → Tied x y v
tied_by x y a b s v nx ny la lb sum most least = record {
  x_least = least_root x a s grain v speck speck_square nx la least;
  y_least = least_root y b s grain v speck speck_square ny lb least;
  most = by (ltb a b) (ltb-true a b) (ltb-false a b);
}
  where
    turned : Near (b + a) 1 s
    turned = record { most = omega (arith, sum.most); least = omega (arith, sum.least) }

    by : (t : Bool) → (t ≡ true → a < b) → (t ≡ false → b ≤ a) → (1000 * v ≤ 1416 * x + speck) ⊎ (1000 * v ≤ 1416 * y + speck)
    by true h k =
        let less = h refl in
        inr (most_root y b a s grain v speck speck_square ny (omega arith) turned most)
    by false h k = inl (most_root x a b s grain v speck speck_square nx (k refl) sum most)

-- ---- the parts of what is finite
root_whole : (x : Float) → T (finite (root_of x)) → T (finite x)
unfolding root_of
root_whole nan h = absurd h
root_whole (inf true) h = absurd h
root_whole (inf false) h = absurd h
root_whole (fin s m e) h = tt

square_whole : (x : Float) → T (finite (mul binary64 x x)) → T (finite x)
unfolding mul
square_whole nan h = absurd h
square_whole (inf s) h = absurd h
square_whole (fin s m e) h = tt

record Square (x : Float) (n : ℕ) : Type 0 where
  size : ℕ
  value : Ratio (mul binary64 x x) size grain
  near : Near (n * n) grain size

square : {x : Float} {n : ℕ} → Ratio (abs_of x) n grain → T (finite (mul binary64 x x)) → Square x n
square {x} {n} r h =
    let s = times r grain_pos r in
    record { size = s.size; value = rw (square_abs x) (s.value (s.under (rw (← square_abs x) h))); near = s.near }

tied : (x y : Float) {m n v : ℕ} → Ratio (abs_of x) m grain → Ratio (abs_of y) n grain → T (finite (squares x y)) → Ratio (root_of (squares x y)) v grain → Tied m n v
tied x y {m} {n} {v} rx ry h root =
    let px = square_plus x in
    let py = square_plus y in
    let parts = add_parts px py h in
    let a = square rx parts.0 in
    let b = square ry parts.1 in
    let s = sum_of a.value b.value in
    let whole = s.value (s.under h) in
    let r = root_of_lem whole in
    let is = same_size r.value root in
    tied_by m n a.size b.size s.size v a.near b.near (no_less a.value (mul-fits binary64 x x) py whole)
    (no_less b.value (mul-fits binary64 y y) px (rw (turned_round px py) whole)) s.near (rw (← is) r.most) (rw (← is) r.least)

-- ---- coordinates and speeds, by numbers alone
-- the coordinate w is not above the speed v
abbrev Under : ℕ → ℕ → Type 0
Under w v = 1000 * w ≤ 1002 * v + 2 * speck

-- the coordinate w is the larger one, at the speed v
abbrev Leads : ℕ → ℕ → Type 0
Leads w v = 1000 * v ≤ 1417 * w + 2 * speck

-- the speed v is at most 1.42 times the speed w
abbrev pub NotFaster : ℕ → ℕ → Type 0
NotFaster v w = 1000 * v ≤ 1420 * w + 5 * speck

-- n is the coordinate w, rounded
coordinate_least : (w n v : ℕ) → Near w 1 n → 1000 * n ≤ 1001 * v + speck → Under w v
coordinate_least w n v near h = omega (arith, near.least, speck_some)

coordinate_most : (w n v : ℕ) → Near w 1 n → 1000 * v ≤ 1416 * n + speck → Leads w v
coordinate_most w n v near h = omega (arith, near.most, speck_some)

-- from one speed by two coordinates to the other
chain : (v a b w : ℕ) → Leads a v → a ≤ b → Under b w → NotFaster v w
chain v a b w h less k = omega arith

-- the same where the coordinate starts at c, with a for it in no time, and is still half of c, or nearly c again
goes_on_by : (v a c b w : ℕ) → Leads a v → a ≤ c + 1 → c ≤ 2 * b → Under b w → 1000 * v ≤ 2840 * w + 9 * speck
goes_on_by v a c b w h start half k = omega (arith, speck_some)

comes_again_by : (v a c b w : ℕ) → Leads a v → a ≤ c + 1 → c ≤ b + 9 → Under b w → NotFaster v w
comes_again_by v a c b w h start most k = omega (arith, speck_some)

-- ---- along a quad: its coordinates, from the time 0 on
pub record Lines (f : ArclenFunctor) : Type 0 where
  pub x : Line f.dx0 (sub binary64 f.dx1 f.dx0)
  pub y : Line f.dy0 (sub binary64 f.dy1 f.dy0)

pub lines : (f : ArclenFunctor) {t : Float} {p : ℕ} → T (fits binary64 f.dx0) → T (fits binary64 f.dy0) → Ratio t p grain → T (finite (speed_of f t)) → Lines f
unfolding speed_of deriv_of
lines f fx fy time h =
    let parts = add_parts (square_plus _) (square_plus _) (root_whole _ h) in
    record {
      x = line fx (sub-fits binary64 _ _) time (square_whole _ parts.0);
      y = line fy (sub-fits binary64 _ _) time (square_whole _ parts.1);
    }

module _ {f : ArclenFunctor} (c : Lines f) where
  -- at the time t, with the speed v
  pub record Seen (t : Float) (p v : ℕ) : Type 0 where
    pub x : Spot c.x t p
    pub y : Spot c.y t p
    pub x_least : Under (far x) v
    pub y_least : Under (far y) v
    pub most : Leads (far x) v ⊎ Leads (far y) v

  pub see : {t : Float} {p v : ℕ} → Ratio t p grain → Ratio (speed_of f t) v grain → Seen t p v
  unfolding speed_of deriv_of
  see {t} {p} {v} time speed =
      let whole = root_whole _ (ratio_finite speed) in
      let parts = add_parts (square_plus _) (square_plus _) whole in
      let x = spot c.x time (square_whole _ parts.0) in
      let y = spot c.y time (square_whole _ parts.1) in
      let k = tied _ _ x.value y.value whole speed in
      record {
        x = x;
        y = y;
        x_least = coordinate_least (far x) x.size v x.near k.x_least;
        y_least = coordinate_least (far y) y.size v y.near k.y_least;
        most = larger x y k.most;
      }
    where
      larger : (x : Spot c.x t p) (y : Spot c.y t p) → (1000 * v ≤ 1416 * x.size + speck) ⊎ (1000 * v ≤ 1416 * y.size + speck) →
          Leads (far x) v ⊎ Leads (far y) v
      larger x y (inl h) = inl (coordinate_most (far x) x.size v x.near h)
      larger x y (inr h) = inr (coordinate_most (far y) y.size v y.near h)

  -- a speed is at most 1.42 times each one before it, or each one after it
  pub data Slow (p v : ℕ) : Type 0 where
    than_before : ((u : Float) (q w : ℕ) → Seen u q w → q ≤ p → NotFaster v w) → Slow p v
    than_after : ((u : Float) (q w : ℕ) → Seen u q w → p ≤ q → NotFaster v w) → Slow p v

  pub slow : {t : Float} {p v : ℕ} → Seen t p v → Slow p v
  slow {t} {p} {v} s = by s.most (valley s.x) (valley s.y)
    where
      by : Leads (far s.x) v ⊎ Leads (far s.y) v → Valley s.x → Valley s.y → Slow p v
      by (inl h) (fell_before all) k = than_before (λ u q w r l. chain v (far s.x) (far r.x) w h (all u q r.x l) r.x_least)
      by (inl h) (rises_after all) k = than_after (λ u q w r l. chain v (far s.x) (far r.x) w h (all u q r.x l) r.x_least)
      by (inr h) k (fell_before all) = than_before (λ u q w r l. chain v (far s.y) (far r.y) w h (all u q r.y l) r.y_least)
      by (inr h) k (rises_after all) = than_after (λ u q w r l. chain v (far s.y) (far r.y) w h (all u q r.y l) r.y_least)

  -- from the start on: in the middle of the first step it is a third as fast, or from the step 4 on it is fast again
  pub data Opens (q v w : ℕ) : Type 0 where
    goes_on : 1000 * v ≤ 2840 * w + 9 * speck → Opens q v w
    comes_again : ((u : Float) (n m : ℕ) → Seen u n m → q ≤ n → NotFaster v m) → Opens q v w

  pub opens : {t u r : Float} {p q n v w m : ℕ} → Seen t p v → Seen u n w → Seen r q m → p ≡ 0 → q ≡ 8 * n → Opens q v w
  opens {p = p} {q} {n} {v} {w} s e l none eight = by s.most (kept_or_past e.x l.x eight) (kept_or_past e.y l.y eight)
    where
      by : Leads (far s.x) v ⊎ Leads (far s.y) v → Kept e.x l.x → Kept e.y l.y → Opens q v w
      by (inl h) (kept k) o = goes_on (goes_on_by v (far s.x) c.x.from (far e.x) w h (at_start s.x none) k e.x_least)
      by (inl h) (past all) o =
          comes_again (λ u i j z less. comes_again_by v (far s.x) c.x.from (far z.x) j h (at_start s.x none) (all u i z.x less) z.x_least)
      by (inr h) o (kept k) = goes_on (goes_on_by v (far s.y) c.y.from (far e.y) w h (at_start s.y none) k e.y_least)
      by (inr h) o (past all) =
          comes_again (λ u i j z less. comes_again_by v (far s.y) c.y.from (far z.y) j h (at_start s.y none) (all u i z.y less) z.y_least)
