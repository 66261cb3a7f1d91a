-- A flag at a place, and the flags of the points from there on. Assumes nothing.
use Rattle.std.specs.Prelude.{Option, Some, None}
use Prim.Native.Nat.{ℕ, zero, suc, ◌+◌, ◌-◌, ◌*◌, ◌≤◌, ◌<◌}
use mathlib.Core.Bool.{Bool, true, false, cond}
use mathlib.Core.List.{List, ◌∷◌}
use mathlib.Core.Path.{◌≡◌, refl, sym, ◌∙◌}
use native.Mathlib.Omega.{arith}
use native.Mathlib.Numerals.{add-one}
use borrow.Author.Tests.{le-leb, lt-leb, leb-true, leb-false}
use lib.Dec.{leb}
use lib.ListN.{length, get_or, drop, length-drop, drop_of_length-le}
use lib.Seq.{drop-cons}
use lib.IntN.{ℤ, pos, neg_ℤ}
use mir.Syntax.{w32}
use mir.Val.{to_z, of_z}
use mir.Facts.{to_z-of_z}
use Rattle.glyfread.proofs.Signs.{pos_fits, neg_fits, word_fits}
use Rattle.glyf.specs.Layout.{bit, signed, Taken, taken, cut, next, byte, flagged, flags_of}
use Rattle.glyfread.specs.Steps.{fresh_flag, next_flag, width_of, widths, scan_on, scan_of, word_at, short_at, long_at}
use Rattle.glyfread.specs.declared.walk.Flag.{Flag}
use Rattle.glyfread.specs.declared.walk.Scan.{Scan}

-- ---- the next flag

module _ (bs : List ℕ) (at f : ℕ) where
  pub still_due : (due : ℕ) → 0 < due → Some (record { at = at; due = due - 1; flag = f }) ≡ next_flag bs at due f
  unfolding next_flag
  still_due zero h = absurd (omega arith)
  still_due (suc due) h = rw (let e : suc due - 1 ≡ due = omega arith in e)

  module _ (due : ℕ) (none : due ≤ 0) where
    is_fresh : next_flag bs at due f ≡ fresh_flag bs at
    unfolding next_flag
    is_fresh = let e : due ≡ 0 = omega arith in rw e

    pub no_flag : length bs ≤ at → None ≡ next_flag bs at due f
    no_flag h = rw (is_fresh, le-leb (length bs) at h)

    pub plain_flag : at < length bs → bit 8 (get_or bs at 0) ≡ false → Some (record { at = at + 1; due = 0; flag = get_or bs at 0 }) ≡ next_flag bs at due f
    plain_flag h p = rw (is_fresh, lt-leb (length bs) at h, p)

    pub no_count : at < length bs → bit 8 (get_or bs at 0) ≡ true → length bs ≤ at + 1 → None ≡ next_flag bs at due f
    no_count h p k = rw (is_fresh, lt-leb (length bs) at h, p, le-leb (length bs) (at + 1) k)

    pub counted_flag : at < length bs → bit 8 (get_or bs at 0) ≡ true → at + 1 < length bs →
        (Some (record { at = at + 1 + 1; due = get_or bs (at + 1) 0; flag = get_or bs at 0 })) ≡ next_flag bs at due f
    counted_flag h p k = let two : at + 1 + 1 ≡ at + 2 = omega arith in rw (two, is_fresh, lt-leb (length bs) at h, p, lt-leb (length bs) (at + 1) k)

-- ---- one difference

module _ (bs : List ℕ) (at : ℕ) where
  pub no_short : (same : Bool) → length bs ≤ at → None ≡ short_at bs at same
  unfolding short_at
  no_short same h = rw (le-leb (length bs) at h)

  module _ (same : Bool) (h : at < length bs) (byte : get_or bs at 0 < 256) {r : ℤ} where
    pub short_up : same ≡ true → r ≡ pos (get_or bs at 0) → Some (record { value = to_z w32 (of_z w32 r); at = at + 1 }) ≡ short_at bs at same
    unfolding short_at
    short_up t e = rw (lt-leb (length bs) at h, t, e, to_z-of_z (pos_fits (get_or bs at 0) byte))

    pub short_down : same ≡ false → r ≡ neg_ℤ (pos (get_or bs at 0)) → Some (record { value = to_z w32 (of_z w32 r); at = at + 1 }) ≡ short_at bs at same
    unfolding short_at
    short_down t e = rw (lt-leb (length bs) at h, t, e, to_z-of_z (neg_fits (get_or bs at 0) byte))

  pub no_change : (same : Bool) → same ≡ true → Some (record { value = pos 0; at = at }) ≡ long_at bs at same
  unfolding long_at
  no_change same t = rw t

  pub no_long : (same : Bool) → same ≡ false → length bs ≤ at → None ≡ long_at bs at same
  unfolding long_at
  no_long same t h = rw (t, le-leb (length bs) at h)

  pub half_long : (same : Bool) → same ≡ false → at < length bs → length bs ≤ at + 1 → None ≡ long_at bs at same
  unfolding long_at
  half_long same t h k = rw (t, lt-leb (length bs) at h, le-leb (length bs) (at + 1) k)

  pub long_is : (same : Bool) → same ≡ false → at < length bs → at + 1 < length bs → word_at bs at < 65536 → {v : ℕ} {r : ℤ} → v ≡ word_at bs at → r ≡ signed v →
      (Some (record { value = to_z w32 (of_z w32 r); at = at + 2 })) ≡ long_at bs at same
  unfolding long_at
  long_is same t h k w e d = rw (t, lt-leb (length bs) at h, lt-leb (length bs) (at + 1) k, d, e, to_z-of_z (word_fits (word_at bs at) w))

-- ---- the flags of the points from a place on

abbrev pub on_flag : ℕ → List ℕ → Option Flag → Taken (List ℕ)
on_flag n bs (Some v) = next (flags_of n v.due v.flag (drop v.at bs)) (λ fs end. taken (v.flag ∷ fs) end)
on_flag n bs None = cut

abbrev go_on : ℕ → ℕ → ℕ → List ℕ → Taken (List ℕ)
go_on n b due rest = next (flags_of n due b rest) (λ fs end. taken (b ∷ fs) end)

counted : (n : ℕ) (bs : List ℕ) (at b : ℕ) → next (byte (drop (suc at) bs)) (go_on n b) ≡
    on_flag n bs (cond (leb (length bs) (at + 1)) None (Some (record { at = at + 2; due = get_or bs (at + 1) 0; flag = b })))
counted n bs at b = by (leb (length bs) (at + 1)) refl
  where
    one : at + 1 ≡ suc at
    one = add-one at

    two : at + 2 ≡ suc (suc at)
    two = omega arith

    by : (t : Bool) → leb (length bs) (at + 1) ≡ t → next (byte (drop (suc at) bs)) (go_on n b) ≡ on_flag n bs (cond t None (Some (record { at = at + 2; due = get_or bs (at + 1) 0; flag = b })))
    by true h =
        let past = leb-true (length bs) (at + 1) h in
        let out : length bs ≤ suc at = omega arith in
        rw (drop_of_length-le bs out)
    by false h =
        let inside = leb-false (length bs) (at + 1) h in
        let in-it : suc at < length bs = omega arith in
        rw (drop-cons bs (suc at) 0 in-it, one, two)

kind : (t : Bool) (n : ℕ) (bs : List ℕ) (at b : ℕ) → flagged t b (drop (suc at) bs) (go_on n b) ≡
    on_flag n bs (cond t (cond (leb (length bs) (at + 1)) None (Some (record { at = at + 2; due = get_or bs (at + 1) 0; flag = b }))) (Some (record { at = at + 1; due = 0; flag = b })))
kind true n bs at b = counted n bs at b
kind false n bs at b = let one : at + 1 ≡ suc at = add-one at in rw one

fresh_step : (n : ℕ) (bs : List ℕ) (at f : ℕ) → flags_of (suc n) zero f (drop at bs) ≡ on_flag n bs (fresh_flag bs at)
unfolding flags_of
fresh_step n bs at f = by (leb (length bs) at) refl
  where
    by : (t : Bool) → leb (length bs) at ≡ t → flags_of (suc n) zero f (drop at bs) ≡ on_flag n bs (cond t None
        (cond (bit 8 (get_or bs at 0))
        (cond (leb (length bs) (at + 1)) None (Some (record { at = at + 2; due = get_or bs (at + 1) 0; flag = get_or bs at 0 })))
        (Some (record { at = at + 1; due = 0; flag = get_or bs at 0 }))))
    by true h = rw (drop_of_length-le bs (leb-true (length bs) at h))
    by false h = rw (drop-cons bs at 0 (leb-false (length bs) at h)) (kind (bit 8 (get_or bs at 0)) n bs at (get_or bs at 0))

pub flag_step : (n : ℕ) (bs : List ℕ) (at due f : ℕ) → flags_of (suc n) due f (drop at bs) ≡ on_flag n bs (next_flag bs at due f)
unfolding next_flag flags_of
flag_step n bs at zero f = fresh_step n bs at f
flag_step n bs at (suc due) f = refl

-- ---- the scan

scan_step : (n wx wy g : ℕ) (t : Taken (List ℕ)) →
    scan_on n wx wy (next t (λ fs end. taken (g ∷ fs) end)) ≡ scan_on n (wx + width_of (bit 2 g) (bit 16 g)) (wy + width_of (bit 4 g) (bit 32 g)) t
unfolding scan_on widths
scan_step n wx wy g (taken fs rest) =
    let x : wx + (width_of (bit 2 g) (bit 16 g) + widths 2 16 fs) ≡ wx + width_of (bit 2 g) (bit 16 g) + widths 2 16 fs = omega arith in
    let y : wy + (width_of (bit 4 g) (bit 32 g) + widths 4 32 fs) ≡ wy + width_of (bit 4 g) (bit 32 g) + widths 4 32 fs = omega arith in
    rw (x, y)
scan_step n wx wy g cut = refl

narrow : (a b : Bool) → width_of a b ≤ 2
narrow true b = omega arith
narrow false true = omega arith
narrow false false = omega arith

-- i flags are passed, and those from `at` on are left
pub record Scanning (bs : List ℕ) (whole : Option Scan) (count at due f wx wy i : ℕ) : Type 0 where
  pub inside : at ≤ length bs
  pub passed : i ≤ count
  pub x_bytes : wx ≤ 2 * i
  pub y_bytes : wy ≤ 2 * i
  pub is : whole ≡ scan_on (length bs) wx wy (flags_of (count - i) due f (drop at bs))

pub scan_start : (bs : List ℕ) (from count : ℕ) → from ≤ length bs → Scanning bs (scan_of (length bs) (flags_of count 0 0 (drop from bs))) count from 0 0 0 0 0
scan_start bs from count h = record { inside = h; passed = omega arith; x_bytes = omega arith; y_bytes = omega arith; is = let e : count - 0 ≡ count = omega arith in rw e }

module _ {bs : List ℕ} {whole : Option Scan} {count at due f wx wy i : ℕ} (s : Scanning bs whole count at due f wx wy i) where
  left : i < count → whole ≡ scan_on (length bs) wx wy (on_flag (count - (i + 1)) bs (next_flag bs at due f))
  left h =
      let e : count - i ≡ suc (count - (i + 1)) = omega arith in
      s.is ∙ rw (e, flag_step (count - (i + 1)) bs at due f)

  pub scan_cut : i < count → next_flag bs at due f ≡ None → None ≡ whole
  unfolding scan_on
  scan_cut h e = sym (left h ∙ rw e)

  pub scan_more : i < count → {a d g : ℕ} → next_flag bs at due f ≡ Some (record { at = a; due = d; flag = g }) → a ≤ length bs → {v w : ℕ} {b₁ b₂ b₃ b₄ : Bool} →
      v ≡ width_of b₁ b₂ → b₁ ≡ bit 2 g → b₂ ≡ bit 16 g → w ≡ width_of b₃ b₄ → b₃ ≡ bit 4 g → b₄ ≡ bit 32 g →
      Scanning bs whole count a d g (wx + v) (wy + w) (i + 1)
  scan_more h {a} {d} {g} e k {v} {w} {b₁} {b₂} {b₃} {b₄} p p₁ p₂ q q₁ q₂ =
      record {
        inside = k;
        passed = omega arith;
        x_bytes = omega (arith, s.x_bytes, narrow b₁ b₂);
        y_bytes = omega (arith, s.y_bytes, narrow b₃ b₄);
        is = left h ∙ rw (e, scan_step (length bs) wx wy g (flags_of (count - (i + 1)) d g (drop a bs)), p, p₁, p₂, q, q₁, q₂);
      }

  pub scan_end : count ≤ i → Some (record { xs = at; wide_x = wx; wide_y = wy }) ≡ whole
  unfolding scan_on flags_of widths
  scan_end h =
      let e : count - i ≡ 0 = omega arith in
      let back : length bs - (length bs - at) ≡ at = omega (arith, s.inside) in
      let x : wx + 0 ≡ wx = omega arith in
      let y : wy + 0 ≡ wy = omega arith in
      sym (s.is ∙ rw (e, length-drop at bs, back, x, y))
