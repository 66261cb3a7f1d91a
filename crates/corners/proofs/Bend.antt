-- The bend test by squares. Where the square of the bend is more than a 2048th of the product of the two squared lengths there is a corner by angle, and
-- where it is less than a 4096th there is none: the square of 0.02 lies between, with room for what rounding adds. Assumes nothing.
use Prim.Native.Nat.{ℕ, ◌*◌, ◌≤◌, ◌<◌}
use mathlib.Core.Bool.{Bool, true, false, cond, false≢true}
use mathlib.Core.Path.{◌≡◌, refl, sym, ◌∙◌, subst}
use native.Mathlib.Nat.{mul-mul-mul_comm, lt_of_mul-lt-mul_right, lt_of_le_of_lt, lt_of_not-le, not-le_of_lt}
use native.Mathlib.Omega.{arith}
use borrow.Author.Tests.{lt-ltb}
use lib.Dec.{T, eqb}
use lib.Pow.{pow_pos}
use lib.IntN.{ℤ, pos, negsuc}
use lib.Ieee.{Float, nan, inf, fin, binary64, up, down, unlike, fits, round, mul, div, lt, le, of_bits}
use lib.Ieee.Fits.{down_pos, add-fits, sub-fits}
use lib.Ieee.Order.{round_mono}
use Rattle.float.specs.Numbers.{half, fiftieth}
use Rattle.float.specs.Float.{abs_of, root_of}
use Rattle.float.proofs.Own.{itself}
use Rattle.float.proofs.Less.{not_less, less_nan}
use Rattle.float.proofs.NotNegative.{NotNegative, no_number, endless, number, sign_fits, abs_round, rounded_plus, mul_plus, square_abs, square_plus, squares_plus, none_above, less_finite}
use Rattle.float.proofs.Nearly.{grain, grain_pos, grain_some, top, room, Ratio, ratio, ratio_plus, Rounded, times, div_is, sized, size_of, less_true, at_most, mul_parts}
use Rattle.float.proofs.Roots.{root_of_lem}
use Rattle.geometry.specs.declared.Point.{Point}
use Rattle.geometry.specs.Geometry.{square_norm_of}
use Rattle.corners.specs.Corners.{bend, angle_corner}
use Rattle.corners.proofs.TwoLengths.{TwoLengths, multiplied, product_pos, product_under, wide, narrow}

-- ---- the product of the squared lengths is told to be above 0.5 and below 1e20
abbrev limit : Float
limit = of_bits binary64 0x4415_af1d_78b5_8c40

half_is : Ratio half 1 2
unfolding of_bits
half_is = ratio 1 (negsuc 0) (pow_pos 1) refl

limit_is : Ratio limit 100000000000000000000 1
unfolding of_bits
limit_is = ratio 95367431640625 (pos 20) (pow_pos 0) refl

-- two squared lengths, n and k
record Norms (n k : Float) : Type 0 where
  N : ℕ
  s : ℕ
  x : ℕ
  p : ℕ
  lengths : TwoLengths N s x p grain
  both : Ratio (mul binary64 n k) s grain
  roots : Ratio (mul binary64 (root_of n) (root_of k)) p grain

norms_of : {n k : Float} → NotNegative n → NotNegative k → T (fits binary64 n) → T (fits binary64 k) → lt half (mul binary64 n k) ≡ true →
    lt (mul binary64 n k) limit ≡ true → Norms n k
norms_of pn pk fn fk low high =
    let whole = less_finite _ (mul_plus pn pk) high in
    let parts = mul_parts pn pk whole in
    let a = size_of pn fn parts.0 in
    let b = size_of pk fk parts.1 in
    let n = a.size in
    let k = b.size in
    let s = times a.value grain_pos b.value in
    let both = s.value (s.under whole) in
    let x = root_of_lem a.value in
    let y = root_of_lem b.value in
    let p = times x.value grain_pos y.value in
    let r = x.size in
    let q = y.size in
    let roots : r * r * (q * q) ≡ r * q * (r * q) = mul-mul-mul_comm r r q q in
    let lengths : n * grain * (k * grain) ≡ n * k * (grain * grain) = mul-mul-mul_comm n grain k grain in
    let l : TwoLengths (n * k) s.size (r * q) p.size grain = record {
      some = grain_some;
      low = omega (arith, less_true half_is both low);
      high = omega (arith, less_true both limit_is high);
      near = s.near;
      most = rw (← roots, ← lengths) (multiplied (r * r) (q * q) (n * grain) (k * grain) x.most y.most);
      least = rw (← roots, ← lengths) (multiplied (n * grain) (k * grain) (r * r) (q * q) x.least y.least);
      product = p.near;
    } in
    record {
      N = n * k;
      s = s.size;
      x = r * q;
      p = p.size;
      lengths = l;
      both = both;
      roots = p.value (product_under (n * k) s.size (r * q) p.size grain l top room);
    }

-- ---- a quotient against 0.02, which is less than 21 / 1024
above : {w : Float} → NotNegative w → T (le (fin false 21 (negsuc 9)) w) → lt fiftieth w ≡ true
unfolding le lt of_bits
above no_number h = absurd h
above endless h = refl
above (number n d) h =
    let k : 21 * 1 * down d ≤ n * up d * 1024 = at_most (21 * 1 * down d) (n * up d * 1024) h in
    lt-ltb (5764607523034235 * 1 * down d) (n * up d * 288230376151711744) (omega (arith, k, down_pos d))

not_below : (x y : Float) → T (le x y) → lt y x ≡ false
not_below x y h = by (lt y x) refl
  where
    by : (t : Bool) → lt y x ≡ t → t ≡ false
    by true k = absurd (subst T (not_less y x k) h)
    by false k = refl

quotient_more : {x y : Float} {b p : ℕ} → Ratio x b grain → Ratio y p grain → 0 < p → p * 21 ≤ b * 1024 → lt fiftieth (div binary64 x y) ≡ true
quotient_more {b = b} {p} h k some wide =
    let own : round binary64 false 21 1024 ≡ fin false 21 (negsuc 9) = itself false 21 (negsuc 9) (unfold fits in tt) in
    let more : T (le (round binary64 false 21 1024) (round binary64 false b p)) = round_mono binary64 21 1024 b p (pow_pos 10) some (omega arith) in
    rw (div_is h k some) (above (rounded_plus b p) (rw own at more))

quotient_less : {x y : Float} {b p : ℕ} → Ratio x b grain → Ratio y p grain → 0 < p → b * 50 ≤ p → lt fiftieth (div binary64 x y) ≡ false
unfolding of_bits
quotient_less {b = b} {p} h k some narrow =
    let own : round binary64 false 5764607523034235 288230376151711744 ≡ fin false 5764607523034235 (negsuc 57) = itself false 5764607523034235 (negsuc 57) (unfold fits in tt) in
    let less : T (le (round binary64 false b p) (round binary64 false 5764607523034235 288230376151711744)) =
    round_mono binary64 b p 5764607523034235 288230376151711744 some (pow_pos 58) (omega arith) in
    rw (div_is h k some) (not_below _ _ (rw own at less))

-- ---- the bend, without its sign
quotient_abs : (s : Bool) (m : ℕ) (e : ℤ) {y : Float} {p c : ℕ} → Ratio y p c → abs_of (div binary64 (fin s m e) y) ≡ div binary64 (fin false m e) y
unfolding div
quotient_abs s m e (ratio n d _ _) = by (eqb n 0) (eqb m 0) s
  where
    by : (t u s : Bool) →
        abs_of (cond t (cond u nan (inf (unlike s false))) (round binary64 (unlike s false) (m * up e * down d) (n * up d * down e)))
        ≡ cond t (cond u nan (inf false)) (round binary64 false (m * up e * down d) (n * up d * down e))
    by true true s = unfold abs_of in refl
    by true false s = unfold abs_of in refl
    by false u s = abs_round (unlike s false) (m * up e * down d) (n * up d * down e)

endless_more : (s : Bool) {y : Float} {p c : ℕ} → Ratio y p c → lt fiftieth (abs_of (div binary64 (inf s) y)) ≡ true
unfolding div abs_of lt of_bits
endless_more s (ratio n d _ _) = refl

-- ---- the two tests
abbrev wide_share : Float
wide_share = of_bits binary64 0x3f40_0000_0000_0000

abbrev narrow_share : Float
narrow_share = of_bits binary64 0x3f30_0000_0000_0000

wide_is : Ratio wide_share 1 2048
unfolding of_bits
wide_is = ratio 1 (negsuc 10) (pow_pos 11) refl

narrow_is : Ratio narrow_share 1 4096
unfolding of_bits
narrow_is = ratio 1 (negsuc 11) (pow_pos 12) refl

-- of two rounded numbers the lesser has the lesser size, though the other be past all f64s
less_size : {x y : Float} {n d M K : ℕ} (a : Rounded n M x) (b : Rounded d K y) → NotNegative x → lt x y ≡ true → a.size < b.size
less_size a b p h =
    let under = a.under (less_finite _ p h) in
    lt_of_not-le (λ (g : b.size ≤ a.size).
    not-le_of_lt (lt_of_mul-lt-mul_right grain (less_true (a.value under) (b.value (lt_of_le_of_lt g under)) h)) g)

module _ {n k : Float} (v : Norms n k) where
  abbrev both : Float
  both = mul binary64 n k

  abbrev turn : Float → Float
  turn z = div binary64 z (mul binary64 (root_of n) (root_of k))

  some : 0 < v.p
  some = product_pos _ _ _ _ _ v.lengths

  wide_number : {z : Float} {b : ℕ} → Ratio z b grain → lt (mul binary64 wide_share both) (mul binary64 z z) ≡ true → lt fiftieth (turn z) ≡ true
  wide_number {b = b} value h =
      let c = times wide_is (pow_pos 11) v.both in
      let q = times value grain_pos value in
      let less = less_size c q (mul_plus (ratio_plus wide_is) (ratio_plus v.both)) h in
      quotient_more value v.roots some (wide _ _ _ _ _ v.lengths b q.size c.size q.near c.near less)

  narrow_number : {z : Float} {b : ℕ} → Ratio z b grain → lt (mul binary64 z z) (mul binary64 narrow_share both) ≡ true → lt fiftieth (turn z) ≡ false
  narrow_number {z} {b} value h =
      let c = times narrow_is (pow_pos 12) v.both in
      let q = times value grain_pos value in
      let less = less_size q c (square_plus z) h in
      quotient_less value v.roots some (narrow _ _ _ _ _ v.lengths b q.size c.size q.near c.near less)

  wide_bend : (z : Float) → T (fits binary64 z) → lt (mul binary64 wide_share both) (mul binary64 z z) ≡ true → lt fiftieth (abs_of (turn z)) ≡ true
  unfolding abs_of
  wide_bend nan f h = absurd (false≢true (sym (less_nan (mul binary64 wide_share both)) ∙ (unfold mul in h)))
  wide_bend (inf s) f h = endless_more s v.roots
  wide_bend (fin s m e) f h =
      rw (quotient_abs s m e v.roots) (wide_number (sized m e (sign_fits s m e f)).value (rw (square_abs (fin s m e)) at h))

  narrow_bend : (z : Float) → T (fits binary64 z) → lt (mul binary64 z z) (mul binary64 narrow_share both) ≡ true → lt fiftieth (abs_of (turn z)) ≡ false
  unfolding abs_of
  narrow_bend nan f h = absurd (unfold mul lt in false≢true h)
  narrow_bend (inf true) f h = absurd (none_above (mul binary64 narrow_share both) (unfold mul in h))
  narrow_bend (inf false) f h = absurd (none_above (mul binary64 narrow_share both) (unfold mul in h))
  narrow_bend (fin s m e) f h =
      rw (quotient_abs s m e v.roots) (narrow_number (sized m e (sign_fits s m e f)).value (rw (square_abs (fin s m e)) at h))

-- ---- two tangents, n and k their squared lengths
module _ (d0 d1 : Point) {n k : Float} (first : n ≡ square_norm_of d0) (second : k ≡ square_norm_of d1) (low : lt half (mul binary64 n k) ≡ true)
    (high : lt (mul binary64 n k) limit ≡ true) where
  norms : Norms n k
  norms = norms_of (rw first (squares_plus _ _)) (rw second (squares_plus _ _)) (rw first (add-fits binary64 _ _)) (rw second (add-fits binary64 _ _)) low high

  pub wide_angle : lt (mul binary64 wide_share (mul binary64 n k)) (mul binary64 (bend d0 d1) (bend d0 d1)) ≡ true → true ≡ angle_corner d0 d1
  wide_angle h = rw (← first, ← second) (sym (wide_bend norms (bend d0 d1) (sub-fits binary64 _ _) h))

  pub narrow_angle : lt (mul binary64 (bend d0 d1) (bend d0 d1)) (mul binary64 narrow_share (mul binary64 n k)) ≡ true → false ≡ angle_corner d0 d1
  narrow_angle h = rw (← first, ← second) (sym (narrow_bend norms (bend d0 d1) (sub-fits binary64 _ _) h))
