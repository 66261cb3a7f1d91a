-- The parts of a description, by their places. Assumes nothing.
use Rattle.std.specs.Prelude.{Some, None}
use Prim.Native.Nat.{ℕ, zero, suc, ◌+◌, ◌-◌, ◌*◌, ◌≤◌, ◌<◌}
use mathlib.Core.Bool.{Bool, true, false}
use mathlib.Core.List.{List, [], ◌∷◌}
use mathlib.Core.Path.{◌≡◌, refl, sym, ap, ◌∙◌}
use native.Mathlib.Omega.{arith}
use native.Mathlib.Numerals.{add-one}
use borrow.Author.Tests.{leb-true, leb-false}
use lib.Dec.{leb}
use lib.IntN.{ℤ, pos}
use lib.ListN.{length, get_or, take, drop, drop_of_length-le}
use lib.Seq.{drop-cons}
use Rattle.refusals.specs.declared.refusal.Refusal.TheVariants.{CutShort, Composite}
use Rattle.glyf.specs.Layout.{Taken, taken, cut, next, byte, word, several, flagged, flags_of, bit}
use Rattle.glyf.specs.Layout.{difference_by, differences, signed, count_of, Parts, parts_of, judged_parts, described, refused, sums}
use Rattle.glyfread.specs.Steps.{word_at, words_at, width_of, widths, scan_on, scan_of}
use Rattle.glyfread.specs.Walks.{Coords, coords, up_to, start_at, ahead, fits, on_in}
use Rattle.glyf.specs.Layout.{is_on}
use mathlib.Core.Bool.{false≢true}
use lib.ListN.{length-map}
use Rattle.glyfread.specs.declared.walk.Scan.{Scan}
use Rattle.glyfread.specs.declared.walk.Walk.{Walk}
use Rattle.glyfread.specs.declared.read.Places.{Places}
use Rattle.glyfread.specs.Reads.{Headed, points_at, Stands}
use lib.IntN.{neg_ℤ}
use borrow.Author.Tests.{lt-ltb, le-ltb}

-- ---- a byte and a word at a place

module _ (bs : List ℕ) (at : ℕ) where
  byte_at : at < length bs → byte (drop at bs) ≡ taken (get_or bs at 0) (drop (suc at) bs)
  byte_at h = rw (drop-cons bs at 0 h)

  no_byte : length bs ≤ at → byte (drop at bs) ≡ cut
  no_byte h = rw (drop_of_length-le bs h)

  pub word_taken : at + 1 < length bs → word (drop at bs) ≡ taken (word_at bs at) (drop (at + 2) bs)
  word_taken h =
      let one : at + 1 ≡ suc at = omega arith in
      let two : at + 2 ≡ suc (suc at) = omega arith in
      rw (drop-cons bs at 0 (omega arith), drop-cons bs (suc at) 0 (omega arith), one, two)

  pub word_cut : length bs < at + 2 → word (drop at bs) ≡ cut
  word_cut h = by (leb (length bs) at) refl
    where
      by : (t : Bool) → leb (length bs) at ≡ t → word (drop at bs) ≡ cut
      by true e = rw (drop_of_length-le bs (leb-true (length bs) at e))
      by false e =
          let inside = leb-false (length bs) at e in
          let out : length bs ≤ suc at = omega arith in
          rw (drop-cons bs at 0 inside, drop_of_length-le bs out)

-- ---- so many of them

pub bytes_taken : (bs : List ℕ) (n at : ℕ) → at + n ≤ length bs → several byte n (drop at bs) ≡ taken (take n (drop at bs)) (drop (at + n) bs)
unfolding several
bytes_taken bs zero at h = let e : at + 0 ≡ at = omega arith in rw e
bytes_taken bs (suc n) at h =
    let e : at + suc n ≡ suc at + n = omega arith in
    rw (drop-cons bs at 0 (omega arith), bytes_taken bs n (suc at) (omega arith), e)

pub bytes_cut : (bs : List ℕ) (n at : ℕ) → at ≤ length bs → length bs < at + n → several byte n (drop at bs) ≡ cut
unfolding several
bytes_cut bs zero at k h = absurd (omega arith)
bytes_cut bs (suc n) at k h = by (leb (length bs) at) refl (λ q. bytes_cut bs n (suc at) q (omega arith))
  where
    by : (t : Bool) → leb (length bs) at ≡ t → (suc at ≤ length bs → several byte n (drop (suc at) bs) ≡ cut) → several byte (suc n) (drop at bs) ≡ cut
    by true e later = rw (no_byte bs at (leb-true (length bs) at e))
    by false e later =
        let inside = leb-false (length bs) at e in
        rw (byte_at bs at inside, later (omega arith))

pub words_taken : (bs : List ℕ) (n at : ℕ) → at + 2 * n ≤ length bs → several word n (drop at bs) ≡ taken (words_at bs at n) (drop (at + 2 * n) bs)
unfolding several words_at
words_taken bs zero at h = let e : at + 2 * 0 ≡ at = omega arith in rw e
words_taken bs (suc n) at h =
    let e : at + 2 * suc n ≡ at + 2 + 2 * n = omega arith in
    rw (word_taken bs at (omega arith), words_taken bs n (at + 2) (omega arith), e)

pub words_cut : (bs : List ℕ) (n at : ℕ) → at ≤ length bs → length bs < at + 2 * n → several word n (drop at bs) ≡ cut
unfolding several
words_cut bs zero at k h = absurd (omega arith)
words_cut bs (suc n) at k h = by (leb (at + 2) (length bs)) refl (λ q. words_cut bs n (at + 2) q (omega arith))
  where
    by : (t : Bool) → leb (at + 2) (length bs) ≡ t → (at + 2 ≤ length bs → several word n (drop (at + 2) bs) ≡ cut) → several word (suc n) (drop at bs) ≡ cut
    by true e later =
        let inside = leb-true (at + 2) (length bs) e in
        rw (word_taken bs at (omega arith), later inside)
    by false e later = rw (word_cut bs at (leb-false (at + 2) (length bs) e))

-- ---- what is left after the flags is an end of the bytes

record Suffix (rest bs : List ℕ) : Type 0 where
  within : length rest ≤ length bs
  is : drop (length bs - length rest) bs ≡ rest

whole_suffix : (bs : List ℕ) → Suffix bs bs
whole_suffix bs = record { within = omega arith; is = let e : length bs - length bs ≡ 0 = omega arith in rw e }

cons_suffix : (b : ℕ) {rest bs : List ℕ} → Suffix rest bs → Suffix rest (b ∷ bs)
cons_suffix b {rest} {bs} s = record {
  within = omega (arith, s.within);
  is = let e : suc (length bs) - length rest ≡ suc (length bs - length rest) = omega (arith, s.within) in rw e s.is;
}

drop_suffix : (at : ℕ) (bs : List ℕ) {rest : List ℕ} → Suffix rest (drop at bs) → Suffix rest bs
drop_suffix zero bs s = s
drop_suffix (suc at) [] s = s
drop_suffix (suc at) (b ∷ bs) s = cons_suffix b (drop_suffix at bs s)

abbrev SuffixOf : List ℕ → Taken (List ℕ) → Type 0
SuffixOf bs (taken fs rest) = Suffix rest bs
SuffixOf bs cut = Unit

put_suffix : (g : ℕ) (bs : List ℕ) (t : Taken (List ℕ)) → SuffixOf bs t → SuffixOf bs (next t (λ fs end. taken (g ∷ fs) end))
put_suffix g bs (taken fs rest) s = s
put_suffix g bs cut s = tt

cons_suffix_of : (b : ℕ) (bs : List ℕ) (t : Taken (List ℕ)) → SuffixOf bs t → SuffixOf (b ∷ bs) t
cons_suffix_of b bs (taken fs rest) s = cons_suffix b s
cons_suffix_of b bs cut s = tt

flag_suffix : (t : Bool) (n b : ℕ) (bs : List ℕ) → ((due : ℕ) (cs : List ℕ) → SuffixOf cs (flags_of n due b cs)) →
    SuffixOf (b ∷ bs) (flagged t b bs (λ due rest. next (flags_of n due b rest) (λ fs end. taken (b ∷ fs) end)))
flag_suffix false n b bs later =
    cons_suffix_of b bs (next (flags_of n 0 b bs) (λ fs end. taken (b ∷ fs) end)) (put_suffix b bs (flags_of n 0 b bs) (later 0 bs))
flag_suffix true n b [] later = tt
flag_suffix true n b (c ∷ cs) later =
    let t = next (flags_of n c b cs) (λ fs end. taken (b ∷ fs) end) in
    cons_suffix_of b (c ∷ cs) t (cons_suffix_of c cs t (put_suffix b cs (flags_of n c b cs) (later c cs)))

flags_suffix : (n due f : ℕ) (bs : List ℕ) → SuffixOf bs (flags_of n due f bs)
unfolding flags_of
flags_suffix zero due f bs = whole_suffix bs
flags_suffix (suc n) (suc due) f bs = put_suffix f bs (flags_of n due f bs) (flags_suffix n due f bs)
flags_suffix (suc n) zero f [] = tt
flags_suffix (suc n) zero f (b ∷ bs) = flag_suffix (bit 8 b) n b bs (λ due cs. flags_suffix n due b cs)

-- the flags stand there, and where
data Flagged (bs : List ℕ) (t : Taken (List ℕ)) (xa wx wy : ℕ) : Type 0 where
  flags_there : (fs : List ℕ) → t ≡ taken fs (drop xa bs) → wx ≡ widths 2 16 fs → wy ≡ widths 4 32 fs → xa ≤ length bs → Flagged bs t xa wx wy

same_scan : {s t : Scan} → Some s ≡ Some t → s ≡ t
same_scan e = cc

scanned : (bs : List ℕ) (at : ℕ) (t : Taken (List ℕ)) {xa wx wy : ℕ} → SuffixOf (drop at bs) t → Some (record { xs = xa; wide_x = wx; wide_y = wy }) ≡ scan_of (length bs) t → Flagged bs t xa wx wy
unfolding scan_on
scanned bs at (taken fs rest) {xa} {wx} {wy} s e =
    let whole = drop_suffix at bs s in
    let place : xa ≡ length bs - length rest = ap (λ (s : Scan). s.xs) (same_scan e) in
    let x : wx ≡ 0 + widths 2 16 fs = ap (λ (s : Scan). s.wide_x) (same_scan e) in
    let y : wy ≡ 0 + widths 4 32 fs = ap (λ (s : Scan). s.wide_y) (same_scan e) in
    flags_there fs (rw place (ap (taken fs) (sym whole.is))) (omega arith) (omega arith) (omega arith)
scanned bs at cut s e = absurd (let z : ◌≡◌ {A = ℕ} 0 1 = cc in omega arith)

scan_none : (n : ℕ) (t : Taken (List ℕ)) → None ≡ scan_of n t → t ≡ cut
unfolding scan_on
scan_none n (taken fs rest) e = absurd (let z : ◌≡◌ {A = ℕ} 0 1 = cc in omega arith)
scan_none n cut e = refl

-- ---- the differences stand there, as many bytes as their widths, or they are cut short

data Diffed {A : Type 0} (bs : List ℕ) (at w : ℕ) (t : Taken A) : Type 0 where
  there : (a : A) → t ≡ taken a (drop (at + w) bs) → at + w ≤ length bs → Diffed bs at w t
  cut_off : t ≡ cut → length bs < at + w → Diffed bs at w t

one_diff : (bs : List ℕ) (at : ℕ) → at ≤ length bs → (short same : Bool) → Diffed bs at (width_of short same) (difference_by short same (drop at bs))
one_diff bs at k true same = by (leb (length bs) at) refl same
  where
    by : (t : Bool) → leb (length bs) at ≡ t → (s : Bool) → Diffed bs at 1 (difference_by true s (drop at bs))
    by true e true = cut_off (rw (no_byte bs at (leb-true (length bs) at e))) (let out = leb-true (length bs) at e in omega arith)
    by true e false = cut_off (rw (no_byte bs at (leb-true (length bs) at e))) (let out = leb-true (length bs) at e in omega arith)
    by false e true = there (pos (get_or bs at 0)) (rw (byte_at bs at (leb-false (length bs) at e), add-one)) (let in-it = leb-false (length bs) at e in omega arith)
    by false e false = there (neg_ℤ (pos (get_or bs at 0))) (rw (byte_at bs at (leb-false (length bs) at e), add-one)) (let in-it = leb-false (length bs) at e in omega arith)
one_diff bs at k false true = there (pos 0) (let e : at + 0 ≡ at = omega arith in rw e) (omega arith)
one_diff bs at k false false = by (leb (at + 2) (length bs)) refl
  where
    by : (t : Bool) → leb (at + 2) (length bs) ≡ t → Diffed bs at 2 (difference_by false false (drop at bs))
    by true e = let in-it = leb-true (at + 2) (length bs) e in there (signed (word_at bs at)) (rw (word_taken bs at (omega arith))) in-it
    by false e = let out = leb-false (at + 2) (length bs) e in cut_off (rw (word_cut bs at out)) out

diffed : (short same : ℕ) (fs bs : List ℕ) (at : ℕ) → at ≤ length bs → Diffed bs at (widths short same fs) (differences short same fs (drop at bs))
unfolding differences widths
diffed short same [] bs at h = there [] (let e : at + 0 ≡ at = omega arith in rw e) (omega arith)
diffed short same (f ∷ fs) bs at h = go (one_diff bs at h (bit short f) (bit same f)) (λ k l. diffed short same fs bs k l)
  where
    w : ℕ
    w = width_of (bit short f) (bit same f)

    go : Diffed bs at (width_of (bit short f) (bit same f)) (difference_by (bit short f) (bit same f) (drop at bs)) →
        ((k : ℕ) → k ≤ length bs → Diffed bs k (widths short same fs) (differences short same fs (drop k bs))) →
        Diffed bs at (width_of (bit short f) (bit same f) + widths short same fs)
        (next (difference_by (bit short f) (bit same f) (drop at bs)) (λ d rest. next (differences short same fs rest) (λ ds end. taken (d ∷ ds) end)))
    go (cut_off e l) later = cut_off (rw e) (omega arith)
    go (there d e l) later = last (later (at + width_of (bit short f) (bit same f)) l)
      where
        last : Diffed bs (at + width_of (bit short f) (bit same f)) (widths short same fs) (differences short same fs (drop (at + width_of (bit short f) (bit same f)) bs)) →
            Diffed bs at (width_of (bit short f) (bit same f) + widths short same fs)
            (next (difference_by (bit short f) (bit same f) (drop at bs)) (λ d rest. next (differences short same fs rest) (λ ds end. taken (d ∷ ds) end)))
        last (cut_off q m) = cut_off (rw (e, q)) (omega arith)
        last (there ds q m) =
            let sum : at + (width_of (bit short f) (bit same f) + widths short same fs) ≡ at + width_of (bit short f) (bit same f) + widths short same fs = omega arith in
            there (d ∷ ds) (rw (e, q, sum)) (omega arith)

-- ---- the head

module _ (bs : List ℕ) where
  pub too_short : length bs < 2 → described bs ≡ refused CutShort
  unfolding described
  too_short h = rw (word_cut bs 0 h)

  module _ (two : 2 ≤ length bs) where
    pub composite : 32768 ≤ word_at bs 0 → described bs ≡ refused Composite
    unfolding described
    composite h = rw (word_taken bs 0 two, le-ltb (word_at bs 0) 32768 h)

    pub simple_one : word_at bs 0 < 32768 → described bs ≡ judged_parts (parts_of (word_at bs 0) (drop 2 bs))
    unfolding described
    simple_one h = rw (word_taken bs 0 two, lt-ltb (word_at bs 0) 32768 h)

    pub no_head : (n : ℕ) → length bs < 12 + 2 * n → parts_of n (drop 2 bs) ≡ cut
    unfolding parts_of
    no_head n h = by (leb 10 (length bs)) refl (leb (10 + 2 * n) (length bs)) refl
      where
        by : (t : Bool) → leb 10 (length bs) ≡ t → (s : Bool) → leb (10 + 2 * n) (length bs) ≡ s → parts_of n (drop 2 bs) ≡ cut
        by false e s d = rw (bytes_cut bs 8 2 two (leb-false 10 (length bs) e))
        by true e false d = rw (bytes_taken bs 8 2 (leb-true 10 (length bs) e), words_cut bs n 10 (leb-true 10 (length bs) e) (leb-false (10 + 2 * n) (length bs) d))
        by true e true d =
            let inside = leb-true (10 + 2 * n) (length bs) d in
            rw (bytes_taken bs 8 2 (leb-true 10 (length bs) e), words_taken bs n 10 inside, word_cut bs (10 + 2 * n) (omega arith))

    module _ (n : ℕ) (h : 12 + 2 * n ≤ length bs) where
      at_code : 10 + 2 * n + 2 ≡ 12 + 2 * n
      at_code = omega arith

      pub no_code : length bs < 12 + 2 * n + word_at bs (10 + 2 * n) → parts_of n (drop 2 bs) ≡ cut
      unfolding parts_of
      no_code k =
          rw (
            bytes_taken bs 8 2 (omega arith),
            words_taken bs n 10 (omega arith),
            word_taken bs (10 + 2 * n) (omega arith),
            at_code,
            bytes_cut bs (word_at bs (10 + 2 * n)) (12 + 2 * n) h k,
          )

-- ---- the points

abbrev after : List ℕ → List ℕ → List ℕ → Taken Parts
after es is b₄ =
    next (flags_of (count_of es) 0 0 b₄) (λ fs b₅.
    next (differences 2 16 fs b₅) (λ dxs b₆.
    next (differences 4 32 fs b₆) (λ dys b₇.
    taken (record { ends = es; instructions = is; flags = fs; dxs = dxs; dys = dys }) b₇)))

points_are : (bs : List ℕ) (n f xa wx w : ℕ) {fs r₁ r₂ r₃ : List ℕ} {dxs dys : List ℤ} → flags_of n 0 0 (drop f bs) ≡ taken fs r₁ →
    differences 2 16 fs (drop xa bs) ≡ taken dxs r₂ → wx ≡ w → differences 4 32 fs (drop (xa + w) bs) ≡ taken dys r₃ →
    ahead n bs (start_at f xa (xa + wx)) ≡ taken (coords fs (sums (pos 0) dxs) (sums (pos 0) dys)) r₃
unfolding ahead
points_are bs n f xa wx w p q e r = rw (p, q, e, r)

module _ (bs : List ℕ) (n code size : ℕ) (head : Headed bs n code size) where
  abbrev es : List ℕ
  es = words_at bs 10 n

  abbrev is : List ℕ
  is = take size (drop code bs)

  says_parts : described bs ≡ judged_parts (parts_of n (drop 2 bs))
  says_parts =
      let e = head.first in
      rw e (simple_one bs (omega (arith, head.inside, head.after_ends)) (omega (arith, head.simple)))

  pub head_parts : parts_of n (drop 2 bs) ≡ after es is (drop (code + size) bs)
  unfolding parts_of
  head_parts =
      let at : 10 + 2 * n + 2 ≡ code = omega (arith, head.after_ends) in
      let room = head.inside in
      let place = head.after_ends in
      rw (bytes_taken bs 8 2 (omega arith), words_taken bs n 10 (omega arith), word_taken bs (10 + 2 * n) (omega arith), ← head.sized, at, bytes_taken bs size code room)

  says : described bs ≡ judged_parts (after es is (drop (code + size) bs))
  says = says_parts ∙ ap judged_parts head_parts

  module _ {points : ℕ} (count : points ≡ count_of es) where
    pub no_flags : None ≡ scan_of (length bs) (flags_of points 0 0 (drop (code + size) bs)) → described bs ≡ refused CutShort
    no_flags e = says ∙ rw (← count, scan_none (length bs) (flags_of points 0 0 (drop (code + size) bs)) e)

    module _ {xa wx wy : ℕ} (e : Some (record { xs = xa; wide_x = wx; wide_y = wy }) ≡ scan_of (length bs) (flags_of points 0 0 (drop (code + size) bs))) where
      found : Flagged bs (flags_of points 0 0 (drop (code + size) bs)) xa wx wy
      found = scanned bs (code + size) (flags_of points 0 0 (drop (code + size) bs)) (flags_suffix points 0 0 (drop (code + size) bs)) e

      pub no_points_lem : length bs < xa + wx + wy → described bs ≡ refused CutShort
      no_points_lem short = says ∙ by found
        where
          by : Flagged bs (flags_of points 0 0 (drop (code + size) bs)) xa wx wy → judged_parts (after es is (drop (code + size) bs)) ≡ refused CutShort
          by (flags_there fs q px py inside) = on_x (diffed 2 16 fs bs xa inside)
            where
              on_x : Diffed bs xa (widths 2 16 fs) (differences 2 16 fs (drop xa bs)) → judged_parts (after es is (drop (code + size) bs)) ≡ refused CutShort
              on_x (cut_off c l) = rw (← count, q, c)
              on_x (there dxs c l) = on_y (diffed 4 32 fs bs (xa + widths 2 16 fs) l)
                where
                  on_y : Diffed bs (xa + widths 2 16 fs) (widths 4 32 fs) (differences 4 32 fs (drop (xa + widths 2 16 fs) bs)) → judged_parts (after es is (drop (code + size) bs)) ≡ refused CutShort
                  on_y (cut_off d m) = rw (← count, q, c, d)
                  on_y (there dys d m) = absurd (omega arith)

      pub stands : xa + wx + wy ≤ length bs → Stands bs (record { contours = n; points = points; code = code; size = size; flags = code + size; xs = xa; ys = xa + wx })
      stands room = by found
        where
          by : Flagged bs (flags_of points 0 0 (drop (code + size) bs)) xa wx wy →
              Stands bs (record { contours = n; points = points; code = code; size = size; flags = code + size; xs = xa; ys = xa + wx })
          by (flags_there fs q px py inside) = on_x (diffed 2 16 fs bs xa inside)
            where
              on_x : Diffed bs xa (widths 2 16 fs) (differences 2 16 fs (drop xa bs)) →
                  Stands bs (record { contours = n; points = points; code = code; size = size; flags = code + size; xs = xa; ys = xa + wx })
              on_x (cut_off c l) = absurd (omega arith)
              on_x (there dxs c l) = on_y (diffed 4 32 fs bs (xa + widths 2 16 fs) l)
                where
                  on_y : Diffed bs (xa + widths 2 16 fs) (widths 4 32 fs) (differences 4 32 fs (drop (xa + widths 2 16 fs) bs)) →
                      Stands bs (record { contours = n; points = points; code = code; size = size; flags = code + size; xs = xa; ys = xa + wx })
                  on_y (cut_off d m) = absurd (omega arith)
                  on_y (there dys d m) = record {
                    ends_inside = omega (arith, head.inside, head.after_ends);
                    code_inside = head.inside;
                    points_stand = rw (points_are bs points (code + size) xa wx (widths 2 16 fs) q c px d);
                    says = says ∙ rw (← count, q, c, d, points_are bs points (code + size) xa wx (widths 2 16 fs) q c px d);
                  }

-- ---- as the code meets them

module _ (bs : List ℕ) (two : 2 ≤ length bs) {v n : ℕ} (e : v ≡ word_at bs 0) (d : n ≡ v) where
  first_is : n ≡ word_at bs 0
  first_is = d ∙ e

  pub composite_at : 32768 ≤ n → described bs ≡ refused Composite
  composite_at h = let f = first_is in composite bs two (omega arith)

  module _ (simple : n < 32768) where
    as_parts : described bs ≡ judged_parts (parts_of n (drop 2 bs))
    as_parts = let f = first_is in rw f (simple_one bs two (omega arith))

    pub cut_head : length bs < 10 + 2 * n + 2 → described bs ≡ refused CutShort
    cut_head h = as_parts ∙ ap judged_parts (no_head bs two n (omega arith))

    module _ (h : 10 + 2 * n + 2 ≤ length bs) {u size : ℕ} (p : u ≡ word_at bs (10 + 2 * n)) (q : size ≡ u) where
      pub cut_code : length bs < 10 + 2 * n + 2 + size → described bs ≡ refused CutShort
      cut_code k =
          let s : size ≡ word_at bs (10 + 2 * n) = q ∙ p in
          as_parts ∙ ap judged_parts (no_code bs two n (omega arith) (omega arith))

      pub headed_at : size < 65536 → 10 + 2 * n + 2 + size ≤ length bs → Headed bs n (10 + 2 * n + 2) size
      headed_at l k = record { first = first_is; simple = simple; after_ends = omega arith; sized = q ∙ p; small = l; inside = k }

-- ---- as many points as are asked for

abbrev LengthOf : ℕ → Taken (List ℕ) → Type 0
LengthOf n (taken fs rest) = length fs ≡ n
LengthOf n cut = Unit

put_length : (g n : ℕ) (t : Taken (List ℕ)) → LengthOf n t → LengthOf (suc n) (next t (λ fs end. taken (g ∷ fs) end))
put_length g n (taken fs rest) s = ap suc s
put_length g n cut s = tt

kind : (t : Bool) (n b : ℕ) (bs : List ℕ) → ((due : ℕ) (cs : List ℕ) → LengthOf n (flags_of n due b cs)) →
    LengthOf (suc n) (flagged t b bs (λ due rest. next (flags_of n due b rest) (λ fs end. taken (b ∷ fs) end)))
kind false n b bs later = put_length b n (flags_of n 0 b bs) (later 0 bs)
kind true n b [] later = tt
kind true n b (c ∷ cs) later = put_length b n (flags_of n c b cs) (later c cs)

length_flags : (n due f : ℕ) (bs : List ℕ) → LengthOf n (flags_of n due f bs)
unfolding flags_of
length_flags zero due f bs = refl
length_flags (suc n) (suc due) f bs = put_length f n (flags_of n due f bs) (length_flags n due f bs)
length_flags (suc n) zero f [] = tt
length_flags (suc n) zero f (b ∷ bs) = kind (bit 8 b) n b bs (λ due cs. length_flags n due b cs)

ahead_length : (n : ℕ) (bs : List ℕ) (w : Walk) → fits (ahead n bs w) ≡ true → length (on_in (ahead n bs w)) ≡ n
unfolding ahead fits
ahead_length n bs w h = by (flags_of n w.due w.flag (drop w.flags bs)) (length_flags n w.due w.flag (drop w.flags bs)) h
  where
    on : List ℕ → Taken Coords
    on fs = next (differences 2 16 fs (drop w.xs bs)) (λ dxs r₂. up_to w.x w.y fs dxs (differences 4 32 fs (drop w.ys bs)))

    last : (fs : List ℕ) (dxs : List ℤ) (t : Taken (List ℤ)) → length fs ≡ n → fits (up_to w.x w.y fs dxs t) ≡ true → length (on_in (up_to w.x w.y fs dxs t)) ≡ n
    last fs dxs (taken dys end) l k = length-map fs is_on ∙ l
    last fs dxs cut l k = absurd (false≢true k)

    middle : (fs : List ℕ) (t : Taken (List ℤ)) → length fs ≡ n → fits (next t (λ dxs r₂. up_to w.x w.y fs dxs (differences 4 32 fs (drop w.ys bs)))) ≡ true →
        length (on_in (next t (λ dxs r₂. up_to w.x w.y fs dxs (differences 4 32 fs (drop w.ys bs))))) ≡ n
    middle fs (taken dxs r) l k = last fs dxs (differences 4 32 fs (drop w.ys bs)) l k
    middle fs cut l k = absurd (false≢true k)

    by : (t : Taken (List ℕ)) → LengthOf n t → fits (next t (λ fs r₁. on fs)) ≡ true → length (on_in (next t (λ fs r₁. on fs))) ≡ n
    by (taken fs r) l k = middle fs (differences 2 16 fs (drop w.xs bs)) l k
    by cut l k = absurd (false≢true k)

pub points_counted : (bs : List ℕ) (p : Places) → fits (points_at bs p) ≡ true → length (on_in (points_at bs p)) ≡ p.points
points_counted bs p h = ahead_length p.points bs (start_at p.flags p.xs p.ys) h
