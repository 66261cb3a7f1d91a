-- One point of a walk, and the points after it. Assumes nothing.
use Rattle.std.specs.Prelude.{Option, Some, None}
use Prim.Native.Nat.{ℕ, suc, ◌+◌, ◌-◌, ◌≤◌, ◌<◌}
use mathlib.Core.Bool.{Bool, true, false, cond, ◌&&◌}
use mathlib.Core.List.{List, [], ◌∷◌}
use mathlib.Core.Path.{◌≡◌, refl, sym, ◌∙◌}
use native.Mathlib.Omega.{arith}
use native.Mathlib.Numerals.{add-one}
use borrow.Author.Tests.{leb-true, leb-false}
use lib.Dec.{leb}
use lib.IntN.{ℤ, pos, neg_ℤ, ◌+ℤ◌}
use lib.ListN.{length, get_or, drop, drop_of_length-le}
use lib.Seq.{drop-cons}
use mir.Syntax.{w16, w32}
use mir.Val.{SFits, to_z, of_z}
use mir.Facts.{to_z-of_z}
use Rattle.glyf.specs.Layout.{bit, signed, in16, all16, Taken, taken, cut, next, flags_of, difference_by, differences, sums}
use Rattle.glyfread.specs.Steps.{next_flag, short_at, long_at, delta_at, word_at, moved_if, moved_to}
use Rattle.glyfread.specs.Walks.{Coords, coords, up_to, ahead, fits, in_front, Advanced}
use Rattle.glyfread.specs.declared.walk.Walk.{Walk}
use Rattle.glyfread.specs.declared.walk.Delta.{Delta}
use Rattle.glyfread.proofs.Walking.{flag_step}

-- ---- a difference at a place

abbrev on_delta : List ℕ → Option Delta → Taken ℤ
on_delta bs (Some d) = taken d.value (drop d.at bs)
on_delta bs None = cut

short_step : (bs : List ℕ) (at : ℕ) (same : Bool) → difference_by true same (drop at bs) ≡ on_delta bs (short_at bs at same)
unfolding short_at
short_step bs at same = by (leb (length bs) at) refl same
  where
    by : (t : Bool) → leb (length bs) at ≡ t → (s : Bool) → difference_by true s (drop at bs) ≡ on_delta bs (cond t None
        (cond s (Some (record { value = pos (get_or bs at 0); at = at + 1 })) (Some (record { value = neg_ℤ (pos (get_or bs at 0)); at = at + 1 }))))
    by true h true = rw (drop_of_length-le bs (leb-true (length bs) at h))
    by true h false = rw (drop_of_length-le bs (leb-true (length bs) at h))
    by false h true = rw (drop-cons bs at 0 (leb-false (length bs) at h), add-one)
    by false h false = rw (drop-cons bs at 0 (leb-false (length bs) at h), add-one)

word_step : (bs : List ℕ) (at : ℕ) → difference_by false false (drop at bs) ≡ on_delta bs (long_at bs at false)
unfolding long_at
word_step bs at = by (leb (length bs) at) refl
  where
    one : at + 1 ≡ suc at
    one = add-one at

    two : at + 2 ≡ suc (suc at)
    two = omega arith

    after : at < length bs → (t : Bool) → leb (length bs) (at + 1) ≡ t → difference_by false false (get_or bs at 0 ∷ drop (suc at) bs) ≡
        on_delta bs (cond t None (Some (record { value = signed (word_at bs at); at = at + 2 })))
    after k true h =
        let past = leb-true (length bs) (at + 1) h in
        let out : length bs ≤ suc at = omega arith in
        rw (drop_of_length-le bs out)
    after k false h =
        let inside = leb-false (length bs) (at + 1) h in
        let in-it : suc at < length bs = omega arith in
        rw (drop-cons bs (suc at) 0 in-it, one, two)

    by : (t : Bool) → leb (length bs) at ≡ t → difference_by false false (drop at bs) ≡ on_delta bs (cond t None
        (cond (leb (length bs) (at + 1)) None (Some (record { value = signed (word_at bs at); at = at + 2 }))))
    by true h = rw (drop_of_length-le bs (leb-true (length bs) at h))
    by false h = rw (drop-cons bs at 0 (leb-false (length bs) at h)) (after (leb-false (length bs) at h) (leb (length bs) (at + 1)) refl)

delta_step : (bs : List ℕ) (at : ℕ) (short same : Bool) → difference_by short same (drop at bs) ≡ on_delta bs (delta_at bs at short same)
unfolding long_at
delta_step bs at true same = short_step bs at same
delta_step bs at false true = refl
delta_step bs at false false = word_step bs at

-- ---- a coordinate moved

moved_by : (t : Bool) (z x : ℤ) → moved_if t z ≡ Some x → (x ≡ z) × (t ≡ true)
moved_by true z x e = ((cc), refl)
moved_by false z x e = ((cc), (cc))

moved_out : (t : Bool) (z : ℤ) → moved_if t z ≡ None → t ≡ false
moved_out true z e = cc
moved_out false z e = refl

module _ {a b : ℤ} {r : Option ℤ} (fa : SFits w16 a) (fb : SFits w32 b) (is : r ≡ moved_to (to_z w16 (of_z w16 a) +ℤ to_z w32 (of_z w32 b))) where
  plain : r ≡ moved_to (a +ℤ b)
  plain = is ∙ (λ k. moved_to (to_z-of_z fa k +ℤ to_z-of_z fb k))

  pub sum_of : {x : ℤ} → r ≡ Some x → x ≡ a +ℤ b
  unfolding moved_to
  sum_of {x} e = (moved_by (in16 (a +ℤ b)) (a +ℤ b) x (sym plain ∙ e)).0

  pub sum_in_lem : {x : ℤ} → r ≡ Some x → in16 (a +ℤ b) ≡ true
  unfolding moved_to
  sum_in_lem {x} e = (moved_by (in16 (a +ℤ b)) (a +ℤ b) x (sym plain ∙ e)).1

  pub sum_out : r ≡ None → in16 (a +ℤ b) ≡ false
  unfolding moved_to
  sum_out e = moved_out (in16 (a +ℤ b)) (a +ℤ b) (sym plain ∙ e)

-- ---- what follows what was taken

next_next : {A B C : Type 0} (t : Taken A) (f : A → B) (k : B → List ℕ → Taken C) → next (next t (λ a end. taken (f a) end)) k ≡ next t (λ a end. k (f a) end)
next_next (taken a end) f k = refl
next_next cut f k = refl

fits_next : {A : Type 0} (t : Taken A) (k : A → List ℕ → Taken Coords) → ((a : A) (end : List ℕ) → fits (k a end) ≡ false) → fits (next t k) ≡ false
unfolding fits
fits_next (taken a end) k h = h a end
fits_next cut k h = refl

and-false : (b : Bool) → (b && false) ≡ false
and-false true = refl
and-false false = refl

module _ (bs : List ℕ) (w : Walk) where
  pub no_flag : next_flag bs w.flags w.due w.flag ≡ None → (n : ℕ) → fits (ahead (suc n) bs w) ≡ false
  unfolding ahead fits
  no_flag e n = rw (flag_step n bs w.flags w.due w.flag, e)

  module _ {a d g : ℕ} (flag : next_flag bs w.flags w.due w.flag ≡ Some (record { at = a; due = d; flag = g })) where
    -- the points after the flag
    abbrev opened : List ℕ → Taken Coords
    opened fs =
        next (differences 2 16 (g ∷ fs) (drop w.xs bs)) (λ dxs r₂.
        up_to w.x w.y (g ∷ fs) dxs (differences 4 32 (g ∷ fs) (drop w.ys bs)))

    opens : (n : ℕ) → ahead (suc n) bs w ≡ next (flags_of n d g (drop a bs)) (λ fs r. opened fs)
    unfolding ahead
    opens n = rw (flag_step n bs w.flags w.due w.flag, flag) (next_next (flags_of n d g (drop a bs)) (λ fs. g ∷ fs) (λ fs r₁.
        next (differences 2 16 fs (drop w.xs bs)) (λ dxs r₂.
        up_to w.x w.y fs dxs (differences 4 32 fs (drop w.ys bs)))))

    outside : (n : ℕ) → ((fs : List ℕ) → fits (opened fs) ≡ false) → fits (ahead (suc n) bs w) ≡ false
    outside n h = rw (opens n) (fits_next (flags_of n d g (drop a bs)) (λ fs r. opened fs) (λ fs r. h fs))

    x_taken : {b₁ b₂ : Bool} {r : Option Delta} → r ≡ delta_at bs w.xs b₁ b₂ → b₁ ≡ bit 2 g → b₂ ≡ bit 16 g → difference_by (bit 2 g) (bit 16 g) (drop w.xs bs) ≡ on_delta bs r
    x_taken e p q = rw (e, p, q) (delta_step bs w.xs (bit 2 g) (bit 16 g))

    y_taken : {b₁ b₂ : Bool} {r : Option Delta} → r ≡ delta_at bs w.ys b₁ b₂ → b₁ ≡ bit 4 g → b₂ ≡ bit 32 g → difference_by (bit 4 g) (bit 32 g) (drop w.ys bs) ≡ on_delta bs r
    y_taken e p q = rw (e, p, q) (delta_step bs w.ys (bit 4 g) (bit 32 g))

    module _ {b₁ b₂ : Bool} {r : Option Delta} (er : r ≡ delta_at bs w.xs b₁ b₂) (p₁ : b₁ ≡ bit 2 g) (p₂ : b₂ ≡ bit 16 g) where
      pub no_x : r ≡ None → (n : ℕ) → fits (ahead (suc n) bs w) ≡ false
      unfolding differences fits
      no_x e n = outside n (λ fs. rw (x_taken er p₁ p₂, e))

      module _ {dx : ℤ} {xa : ℕ} (ex : r ≡ Some (record { value = dx; at = xa })) where
        abbrev opened_x : List ℕ → List ℤ → Taken Coords
        opened_x fs dxs = up_to w.x w.y (g ∷ fs) (dx ∷ dxs) (differences 4 32 (g ∷ fs) (drop w.ys bs))

        opens_x : (fs : List ℕ) → opened fs ≡ next (differences 2 16 fs (drop xa bs)) (λ dxs r₂. opened_x fs dxs)
        unfolding differences
        opens_x fs = rw (x_taken er p₁ p₂, ex) (next_next (differences 2 16 fs (drop xa bs)) (λ dxs. dx ∷ dxs) (λ dxs r₂.
            up_to w.x w.y (g ∷ fs) dxs (differences 4 32 (g ∷ fs) (drop w.ys bs))))

        outside_x : (n : ℕ) → ((fs : List ℕ) (dxs : List ℤ) → fits (opened_x fs dxs) ≡ false) → fits (ahead (suc n) bs w) ≡ false
        outside_x n h = outside n (λ fs. rw (opens_x fs) (fits_next (differences 2 16 fs (drop xa bs)) (λ dxs r₂. opened_x fs dxs) (λ dxs r₂. h fs dxs)))

        pub out_x : in16 (w.x +ℤ dx) ≡ false → (n : ℕ) → fits (ahead (suc n) bs w) ≡ false
        unfolding fits sums all16
        out_x e n = outside_x n (λ fs dxs. fits_next (differences 4 32 (g ∷ fs) (drop w.ys bs))
            (λ dys end. taken (coords (g ∷ fs) (sums w.x (dx ∷ dxs)) (sums w.y dys)) end) (λ dys end. rw e))

        module _ {b₃ b₄ : Bool} {s : Option Delta} (es : s ≡ delta_at bs w.ys b₃ b₄) (p₃ : b₃ ≡ bit 4 g) (p₄ : b₄ ≡ bit 32 g) where
          pub no_y : s ≡ None → (n : ℕ) → fits (ahead (suc n) bs w) ≡ false
          unfolding differences fits
          no_y e n = outside_x n (λ fs dxs. rw (y_taken es p₃ p₄, e))

          module _ {dy : ℤ} {ya : ℕ} (ey : s ≡ Some (record { value = dy; at = ya })) where
            abbrev opened_y : List ℕ → List ℤ → List ℤ → List ℕ → Taken Coords
            opened_y fs dxs dys end = taken (coords (g ∷ fs) (sums w.x (dx ∷ dxs)) (sums w.y (dy ∷ dys))) end

            opens_y : (fs : List ℕ) (dxs : List ℤ) → opened_x fs dxs ≡ next (differences 4 32 fs (drop ya bs)) (opened_y fs dxs)
            unfolding differences
            opens_y fs dxs = rw (y_taken es p₃ p₄, ey) (next_next (differences 4 32 fs (drop ya bs)) (λ dys. dy ∷ dys)
                (λ dys end. taken (coords (g ∷ fs) (sums w.x (dx ∷ dxs)) (sums w.y dys)) end))

            pub out_y : in16 (w.y +ℤ dy) ≡ false → (n : ℕ) → fits (ahead (suc n) bs w) ≡ false
            unfolding fits sums all16
            out_y e n = outside_x n (λ fs dxs. rw (opens_y fs dxs) (fits_next (differences 4 32 fs (drop ya bs)) (opened_y fs dxs)
                (λ dys end. rw e (and-false (all16 (sums w.x (dx ∷ dxs)))))))

            module _ {x y : ℤ} (x_is : x ≡ w.x +ℤ dx) (y_is : y ≡ w.y +ℤ dy) (x-in : in16 (w.x +ℤ dx) ≡ true) (y-in : in16 (w.y +ℤ dy) ≡ true) where
              abbrev then : Walk
              then = record { flags = a; xs = xa; ys = ya; due = d; flag = g; x = x; y = y }

              last : (fs : List ℕ) (dxs : List ℤ) (t : Taken (List ℤ)) → next t (opened_y fs dxs) ≡ in_front then (up_to x y fs dxs t)
              unfolding sums
              last fs dxs (taken dys end) = rw (x_is, y_is)
              last fs dxs cut = refl

              middle : (fs : List ℕ) (t : Taken (List ℤ)) → next t (λ dxs r₂. opened_x fs dxs) ≡
                  in_front then (next t (λ dxs r₂. up_to x y fs dxs (differences 4 32 fs (drop ya bs))))
              middle fs (taken dxs r) = opens_y fs dxs ∙ last fs dxs (differences 4 32 fs (drop ya bs))
              middle fs cut = refl

              first : (t : Taken (List ℕ)) → next t (λ fs r. opened fs) ≡ in_front then (next t (λ fs r₁.
                  next (differences 2 16 fs (drop xa bs)) (λ dxs r₂. up_to x y fs dxs (differences 4 32 fs (drop ya bs)))))
              first (taken fs r) = opens_x fs ∙ middle fs (differences 2 16 fs (drop xa bs))
              first cut = refl

              pub advanced : Advanced bs w then
              unfolding ahead
              advanced = record {
                x_fits = rw x_is x-in;
                y_fits = rw y_is y-in;
                onward = λ n. opens n ∙ first (flags_of n d g (drop a bs));
              }

-- ---- whether they fit

fits_front : (v : Walk) (t : Taken Coords) → in16 v.x ≡ true → in16 v.y ≡ true → fits (in_front v t) ≡ fits t
unfolding fits all16
fits_front v (taken (coords fs xs ys) end) p q = rw (p, q)
fits_front v cut p q = refl

less : (count i : ℕ) → i < count → count - i ≡ suc (count - (i + 1))
less count i h = omega arith

none_left : (count i : ℕ) → count ≤ i → count - i ≡ 0
none_left count i h = omega arith

module _ (bs : List ℕ) (w : Walk) (count : ℕ) where
  pub fit_starts : ahead count bs w ≡ ahead (count - 0) bs w
  fit_starts = let e : count - 0 ≡ count = omega arith in rw e

  module _ (i : ℕ) where
    pub fit_stops : i < count → ((n : ℕ) → fits (ahead (suc n) bs w) ≡ false) → fits (ahead (count - i) bs w) ≡ false
    fit_stops h out = rw (less count i h) (out (count - (i + 1)))

    pub goes : i < count → {v : Walk} → Advanced bs w v → ahead (count - i) bs w ≡ in_front v (ahead (count - (i + 1)) bs v)
    goes h {v} a = rw (less count i h) (a.onward (count - (i + 1)))

    pub fit_goes : i < count → {v : Walk} → Advanced bs w v → fits (ahead (count - i) bs w) ≡ fits (ahead (count - (i + 1)) bs v)
    fit_goes h {v} a = rw (goes h a) (fits_front v (ahead (count - (i + 1)) bs v) a.x_fits a.y_fits)

    pub ends : count ≤ i → ahead (count - i) bs w ≡ taken (coords [] [] []) (drop w.ys bs)
    unfolding ahead flags_of differences sums
    ends h = rw (none_left count i h)

    pub fit_ends : count ≤ i → fits (ahead (count - i) bs w) ≡ true
    unfolding fits all16
    fit_ends h = rw (ends h)
