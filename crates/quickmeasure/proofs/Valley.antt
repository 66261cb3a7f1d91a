-- A coordinate of a quad's derivative falls, then rises: at each time it is no larger than at all times before, or than at all times after, but for its sign
-- and for what rounding adds. Assumes nothing.
use Prim.Native.Nat.{ℕ, ◌+◌, ◌-◌, ◌*◌, ◌≤◌, ◌<◌}
use mathlib.Core.Bool.{Bool, true, false, not, ◌&&◌, beq, cond, true≢false, false≢true}
use mathlib.Core.Logic.{◌⊎◌, inl, inr}
use mathlib.Core.Path.{◌≡◌, refl, sym, ap, ◌∙◌}
use native.Mathlib.Nat.{one-mul, add-mul, mul_comm, mul_assoc, mul-sub, mul-mul-mul_comm, mul-pos, mul-le-mul_right, le_of_mul-le-mul_right}
use native.Mathlib.Omega.{arith}
use borrow.Author.Tests.{ltb-true, ltb-false}
use lib.Dec.{T, ltb, eqb}
use lib.Pow.{pow_pos}
use lib.IntN.{ℤ}
use lib.Ieee.{Float, nan, inf, fin, binary64, up, down, fits, round, sum, add, mul}
use lib.Ieee.Fits.{down_pos}
use lib.Ieee.Order.{round_mono}
use lib.Ieee.Scale.{finite, round_same}
use Rattle.float.specs.Float.{abs_of}
use Rattle.float.proofs.Dyadic.{left, right}
use Rattle.float.proofs.NotNegative.{sign_fits, abs_round}
use Rattle.float.proofs.Nearly.{Near, grain, grain_pos, Ratio, ratio, rounded, size_le_of, sized, neither}
use Rattle.measure.specs.NotNegative.{not_negative}
use Rattle.quickmeasure.proofs.Signs.{round_plus}

-- ---- two sizes together, or apart
abbrev pub mix : Bool → ℕ → ℕ → ℕ
mix true a b = a + b
mix false a b = a - b + (b - a)

less_scaled : (A B a b C c : ℕ) → A * c ≡ a * C → B * c ≡ b * C → (A - B) * c ≡ (a - b) * C
less_scaled A B a b C c p q =
    mul_comm (A - B) c
    ∙ mul-sub c A B
    ∙ rw (mul_comm c A, mul_comm c B, p, q, mul_comm a C, mul_comm b C) (sym (mul-sub C a b) ∙ mul_comm C (a - b))

mix_scaled : (t : Bool) (A B a b C c : ℕ) → A * c ≡ a * C → B * c ≡ b * C → mix t A B * c ≡ mix t a b * C
mix_scaled true A B a b C c p q = add-mul A B c ∙ rw (p, q) (sym (add-mul a b C))
mix_scaled false A B a b C c p q = add-mul (A - B) (B - A) c ∙ rw (less_scaled A B a b C c p q, less_scaled B A b a C c q p) (sym (add-mul (a - b) (b - a) C))

-- what a sum rounds, without its sign
abs_apart : (s t : Bool) (a b c : ℕ) →
    abs_of (cond (ltb a b) (round binary64 t (b - a) c) (round binary64 (s && ltb b a) (a - b) c)) ≡ round binary64 false (mix false a b) c
abs_apart s t a b c = by (ltb a b) (ltb-true a b) (ltb-false a b)
  where
    by : (u : Bool) → (u ≡ true → a < b) → (u ≡ false → b ≤ a) →
        abs_of (cond u (round binary64 t (b - a) c) (round binary64 (s && ltb b a) (a - b) c)) ≡ round binary64 false (mix false a b) c
    by true h k =
        let less = h refl in
        let all : a - b + (b - a) ≡ b - a = omega arith in
        rw all (abs_round t (b - a) c)
    by false h k =
        let more = k refl in
        let all : a - b + (b - a) ≡ a - b = omega arith in
        rw all (abs_round _ (a - b) c)

abs_sum : (s t : Bool) (a b c : ℕ) → abs_of (sum binary64 s a t b c) ≡ round binary64 false (mix (beq s t) a b) c
unfolding sum
abs_sum true true a b c = abs_round true (a + b) c
abs_sum false false a b c = abs_round false (a + b) c
abs_sum true false a b c = abs_apart true false a b c
abs_sum false true a b c = abs_apart false true a b c

-- ---- x has the sign s, and its size is the fraction a / c
pub data Signed : Float → Bool → ℕ → ℕ → Type 0 where
  signed : {a c : ℕ} (s : Bool) (m : ℕ) (e : ℤ) → Ratio (fin false m e) a c → Signed (fin s m e) s a c

abs_add : {x y : Float} {s t : Bool} {a b c : ℕ} → Signed x s a c → Signed y t b c → abs_of (add binary64 x y) ≡ round binary64 false (mix (beq s t) a b) c
unfolding add
abs_add {a = a} {b} {c} (signed s m e (ratio _ _ p v)) (signed t n d (ratio _ _ q w)) =
    let A = m * up e * down d in
    let B = n * up d * down e in
    let C = down e * down d in
    let u = beq s t in
    abs_sum s t A B C
    ∙ round_same binary64 false (mix u A B) C (mix u a b) c (mul-pos (down_pos e) (down_pos d)) p
    (mix_scaled u A B a b C c (left m n a b c e d v w) (right m n a b c e d v w))

-- what is not negative leaves the sign
mul_signed : {x y : Float} {t : Bool} {a b c d : ℕ} → Ratio x a c → Signed y t b d → mul binary64 x y ≡ round binary64 t (a * b) (c * d)
unfolding mul
mul_signed {a = a} {b} {c} {d} (ratio m e p v) (signed t n g (ratio _ _ q w)) = by t
  where
    same : (s : Bool) → round binary64 s (m * up e * (n * up g)) (down e * down g) ≡ round binary64 s (a * b) (c * d)
    same s =
        round_same binary64 s (m * up e * (n * up g)) (down e * down g) (a * b) (c * d) (mul-pos (down_pos e) (down_pos g)) (mul-pos p q)
        (mul-mul-mul_comm (m * up e) (n * up g) c d ∙ rw (v, w) (mul-mul-mul_comm a (down e) b (down g)))

    by : (t : Bool) → mul binary64 (fin false m e) (fin t n g) ≡ round binary64 t (a * b) (c * d)
    by true = same true
    by false = same false

signed_of : (x : Float) (s : Bool) {a c : ℕ} → not_negative x ≡ not s → Ratio (abs_of x) a c → Signed x s a c
unfolding abs_of
signed_of (fin true m e) true h r = signed true m e r
signed_of (fin true m e) false h r = absurd (false≢true h)
signed_of (fin false m e) true h r = absurd (true≢false h)
signed_of (fin false m e) false h r = signed false m e r
signed_of nan s {a = a} {c = c} h r = elim r [ ]
signed_of (inf _) s {a = a} {c = c} h r = elim r [ ]

-- any f64 is a number of smallest ones, with a sign
record Whole (x : Float) : Type 0 where
  sign : Bool
  size : ℕ
  value : Signed x sign size grain

whole : (x : Float) → T (fits binary64 x) → T (finite x) → Whole x
whole (fin s m e) f h =
    let own = sized m e (sign_fits s m e f) in
    record { sign = s; size = own.size; value = signed s m e own.value }
whole nan f h = elim h [ ]
whole (inf _) f h = elim h [ ]

-- ---- what is finite has finite parts, whatever their signs
add_whole : (x y : Float) → T (finite (add binary64 x y)) → T (finite x) × T (finite y)
unfolding add
add_whole nan y h = absurd h
add_whole (inf s) nan h = absurd h
add_whole (inf true) (inf true) h = absurd h
add_whole (inf true) (inf false) h = absurd h
add_whole (inf false) (inf true) h = absurd h
add_whole (inf false) (inf false) h = absurd h
add_whole (inf s) (fin t n d) h = absurd h
add_whole (fin s m e) nan h = absurd h
add_whole (fin s m e) (inf t) h = absurd h
add_whole (fin s m e) (fin t n d) h = (tt, tt)

mul_whole : {x : Float} {a c : ℕ} (y : Float) → Ratio x a c → T (finite (mul binary64 x y)) → T (finite y)
unfolding mul
mul_whole nan (ratio m e p v) h = absurd h
mul_whole (inf t) (ratio m e p v) h = absurd (neither (eqb m 0) _ h)
mul_whole (fin t n d) (ratio m e p v) h = tt

abs_finite : (x : Float) → T (finite x) → T (finite (abs_of x))
unfolding abs_of
abs_finite (fin s m e) h = tt
abs_finite nan h = elim h [ ]
abs_finite (inf _) h = elim h [ ]

-- ---- a coordinate starts at d, and in the time t it goes by t times g
pub record Line (d g : Float) : Type 0 where
  pub sign : Bool
  pub from : ℕ
  pub way : Bool
  pub by : ℕ
  pub start : Signed d sign from grain
  pub pace : Signed g way by grain

pub line : {d g t : Float} {p : ℕ} → T (fits binary64 d) → T (fits binary64 g) → Ratio t p grain → T (finite (add binary64 d (mul binary64 t g))) → Line d g
line {d} {g} {t} fd fg time h =
    let parts = add_whole d (mul binary64 t g) h in
    let x = whole d fd parts.0 in
    let y = whole g fg (mul_whole g time parts.1) in
    record { sign = x.sign; from = x.size; way = y.sign; by = y.size; start = x.value; pace = y.value }

-- where it is at the time t, of p smallest f64s, but for its sign: it moved from the start, away from zero, or toward it and past it
pub record Spot {d g : Float} (c : Line d g) (t : Float) (p : ℕ) : Type 0 where
  pub moved : ℕ
  pub moves : Ratio (round binary64 false (p * c.by) (grain * grain)) moved grain
  pub near_moved : Near (p * c.by) grain moved
  pub size : ℕ
  pub value : Ratio (abs_of (add binary64 d (mul binary64 t g))) size grain
  pub near : Near (mix (beq c.sign c.way) c.from moved) 1 size

abbrev pub far : {d g t : Float} {p : ℕ} {c : Line d g} → Spot c t p → ℕ
far {c = c} s = mix (beq c.sign c.way) c.from s.moved

pub spot : {d g t : Float} {p : ℕ} (c : Line d g) → Ratio t p grain → T (finite (add binary64 d (mul binary64 t g))) → Spot c t p
spot {d} {g} {t} {p} c time h =
    let is = mul_signed time c.pace in
    let parts = add_whole d (mul binary64 t g) h in
    let bare : abs_of (mul binary64 t g) ≡ round binary64 false (p * c.by) (grain * grain) = ap abs_of is ∙ abs_round c.way (p * c.by) (grain * grain) in
    let r = rounded (p * c.by) grain grain_pos in
    let moves = r.value (r.under (rw (← bare) (abs_finite _ parts.1))) in
    let sign : not_negative (mul binary64 t g) ≡ not c.way = ap not_negative is ∙ round_plus binary64 c.way (p * c.by) (grain * grain) in
    let move = signed_of (mul binary64 t g) c.way {a = r.size} {c = grain} sign (rw bare moves) in
    let there = abs_add c.start move in
    let m = mix (beq c.sign c.way) c.from r.size in
    let q = rounded m 1 (pow_pos 0) in
    let all : abs_of (add binary64 d (mul binary64 t g)) ≡ round binary64 false m (1 * grain) = there ∙ rw (one-mul grain) in
    record {
      moved = r.size;
      moves = moves;
      near_moved = r.near;
      size = q.size;
      value = rw all (q.value (q.under (rw (← all) (abs_finite _ h))));
      near = q.near;
    }

-- later it moved no less
later : {d g t u : Float} {p q : ℕ} {c : Line d g} (a : Spot c t p) (b : Spot c u q) → p ≤ q → a.moved ≤ b.moved
later {p = p} {q} {c} a b h =
    size_le_of a.moves b.moves
    (round_mono binary64 (p * c.by) (grain * grain) (q * c.by) (grain * grain) (mul-pos grain_pos grain_pos) (mul-pos grain_pos grain_pos)
    (mul-le-mul_right (grain * grain) (mul-le-mul_right c.by h)))

-- ---- it falls before, or it rises after
data Bottom (t : Bool) (a b : ℕ) : Type 0 where
  fell : ((k : ℕ) → k ≤ b → mix t a b ≤ mix t a k) → Bottom t a b
  rises : ((k : ℕ) → b ≤ k → mix t a b ≤ mix t a k) → Bottom t a b

bottom : (t : Bool) (a b : ℕ) → Bottom t a b
bottom true a b = rises (λ k h. omega arith)
bottom false a b = by (ltb a b) (ltb-true a b) (ltb-false a b)
  where
    by : (u : Bool) → (u ≡ true → a < b) → (u ≡ false → b ≤ a) → Bottom false a b
    by true h l =
        let less = h refl in
        rises (λ k m. omega arith)
    by false h l =
        let more = l refl in
        fell (λ k m. omega arith)

pub data Valley {d g t : Float} {p : ℕ} {c : Line d g} (s : Spot c t p) : Type 0 where
  fell_before : ((u : Float) (q : ℕ) (r : Spot c u q) → q ≤ p → far s ≤ far r) → Valley s
  rises_after : ((u : Float) (q : ℕ) (r : Spot c u q) → p ≤ q → far s ≤ far r) → Valley s

pub valley : {d g t : Float} {p : ℕ} {c : Line d g} (s : Spot c t p) → Valley s
valley {c = c} s = by (bottom (beq c.sign c.way) c.from s.moved)
  where
    by : Bottom (beq c.sign c.way) c.from s.moved → Valley s
    by (fell all) = fell_before (λ u q r h. all r.moved (later r s h))
    by (rises all) = rises_after (λ u q r h. all r.moved (later s r h))

-- ---- from the start on
-- in no time it does not move
start_moved : (n u k : ℕ) → 0 < u → n ≡ 0 → Near n u k → k ≤ 1
start_moved n u k some none h = le_of_mul-le-mul_right (omega (arith, h.most)) some

pub at_start : {d g t : Float} {p : ℕ} {c : Line d g} (s : Spot c t p) → p ≡ 0 → far s ≤ c.from + 1
at_start {c = c} s none =
    by (beq c.sign c.way) (start_moved _ grain s.moved grain_pos (rw none (omega arith)) s.near_moved)
  where
    by : (t : Bool) → s.moved ≤ 1 → mix t c.from s.moved ≤ c.from + 1
    by true h = omega arith
    by false h = omega arith

-- in eight times the time it moved more than seven times as far
eight_moved : (n m u k l : ℕ) → 0 < u → m ≡ 8 * n → Near n u k → Near m u l → 7 * k ≤ l + 9
eight_moved n m u k l some eight h g =
    let a : 7 * k * u ≡ 7 * (k * u) = mul_assoc 7 k u in
    let b : (l + 9) * u ≡ l * u + 9 * u = add-mul l 9 u in
    le_of_mul-le-mul_right (rw (a, b) (omega (arith, h.most, g.least))) some

-- either it is still half as far as at the start, or past eight times the time it is as far again, on the other side of zero
again : (t : Bool) (a b k : ℕ) → 7 * b ≤ k + 9 → (a ≤ 2 * mix t a b) ⊎ ((m : ℕ) → k ≤ m → a ≤ mix t a m + 9)
again true a b k h = inl (omega arith)
again false a b k h = by (ltb a (2 * b)) (ltb-true a (2 * b)) (ltb-false a (2 * b))
  where
    by : (u : Bool) → (u ≡ true → a < 2 * b) → (u ≡ false → 2 * b ≤ a) → (a ≤ 2 * mix false a b) ⊎ ((m : ℕ) → k ≤ m → a ≤ mix false a m + 9)
    by true p q =
        let less = p refl in
        inr (λ m more. omega arith)
    by false p q =
        let more = q refl in
        inl (omega arith)

pub data Kept {d g t u : Float} {p q : ℕ} {c : Line d g} (s : Spot c t p) (r : Spot c u q) : Type 0 where
  kept : c.from ≤ 2 * far s → Kept s r
  past : ((w : Float) (n : ℕ) (m : Spot c w n) → q ≤ n → c.from ≤ far m + 9) → Kept s r

pub kept_or_past : {d g t u : Float} {p q : ℕ} {c : Line d g} (s : Spot c t p) (r : Spot c u q) → q ≡ 8 * p → Kept s r
kept_or_past {p = p} {q} {c} s r eight =
    let times : q * c.by ≡ 8 * (p * c.by) = ap (λ (k : ℕ). k * c.by) eight ∙ mul_assoc 8 p c.by in
    by
    (again (beq c.sign c.way) c.from s.moved r.moved
    (eight_moved _ _ grain s.moved r.moved grain_pos times s.near_moved r.near_moved))
  where
    by : (c.from ≤ 2 * far s) ⊎ ((m : ℕ) → r.moved ≤ m → c.from ≤ mix (beq c.sign c.way) c.from m + 9) → Kept s r
    by (inl h) = kept h
    by (inr all) = past (λ w n m h. all m.moved (later r m h))
