-- The bytes written say the new glyph. Assumes nothing.
use Prim.Native.Nat.{ℕ, zero, suc, ◌+◌, ◌-◌, ◌<◌}
use native.Mathlib.Omega.{arith}
use mathlib.Core.Bool.{Bool, true, false, not, ◌&&◌}
use mathlib.Core.List.{List, [], ◌∷◌, map}
use mathlib.Core.Path.{◌≡◌, refl, sym, ap, ◌∙◌}
use borrow.Author.Tests.{lt-ltb, le-ltb, eq-eqb}
use lib.Dec.{ltb}
use lib.IntN.{ℤ, pos}
use lib.ListN.{length, take, drop, length-append, length-map}
use lib.Seq.{take_all}
use Rattle.refusals.specs.declared.refusal.Refusal.TheVariants.{EndsNotRising, TooLarge}
use Rattle.rows.specs.Lent.{Inputs, inputs}
use Rattle.settings.specs.declared.Settings.{Settings}
use Rattle.contour.specs.Points.{Points}
use Rattle.contour.specs.Implied.{number, off_curve}
use Rattle.contour.specs.Output.{column, flag_if, flag_of, flags}
use Rattle.edition.specs.Edition as Edition
use Rattle.glyf.specs.Layout.{Glyph, glyph, done, refuse, Taken, taken, cut, Parts, word, parts_of, sums, in16, all16, rising, is_on, count_of}
use Rattle.glyf.specs.Layout.{glyph_of, judged_parts, simple_only, headed, described, trimmed, too_large, bytes_of, fitting, written_of}
use Rattle.glyf.specs.Trips.{Held, as_read}
use Rattle.glyf.proofs.Again.{done_is}
use Rattle.glyf.proofs.Back.{written_read_back}
use Rattle.glyf.proofs.Codes.{and_left, and_right}
use Rattle.glyphs.specs.Glyphs.{stretch, contours_from, together, ends_from}
use Rattle.glyphs.specs.Glyphs as New
use Rattle.glyphs.specs.Separately.{Each, none, next}
use Rattle.glyphs.proofs.Some.{some_point}
use Rattle.glyphs.proofs.Sixteen.{All16, crunched_16}
use Rattle.glyphs.proofs.Sixteen as S

-- ---- what is read has 16 bits

module _ (g : Glyph) where
  judged_held : (t : Taken Parts) → judged_parts t ≡ done g → Held g
  judged_held cut e = absurd (let z : ◌≡◌ {A = ℕ} 0 1 = cc in omega arith)
  judged_held (taken p end) e = by (rising p.ends) (all16 (sums (pos 0) p.dxs)) refl (all16 (sums (pos 0) p.dys)) refl e
    where
      by : (a : Bool) (b : Bool) → all16 (sums (pos 0) p.dxs) ≡ b → (c : Bool) → all16 (sums (pos 0) p.dys) ≡ c →
          refuse EndsNotRising (not a) (refuse TooLarge (not (b && c)) (done (glyph_of p))) ≡ done g → Held g
      by true true x true y e = let is : glyph_of p ≡ g = done_is e in rw (← is) (record { xs = x; ys = y })
      by false b x c y e = absurd (let z : ◌≡◌ {A = ℕ} 0 1 = cc in omega arith)
      by true false x c y e = absurd (let z : ◌≡◌ {A = ℕ} 0 1 = cc in omega arith)
      by true true x false y e = absurd (let z : ◌≡◌ {A = ℕ} 0 1 = cc in omega arith)

  headed_held : (t : Taken ℕ) → headed t ≡ done g → Held g
  headed_held cut e = absurd (let z : ◌≡◌ {A = ℕ} 0 1 = cc in omega arith)
  headed_held (taken n bs) e = by (ltb n 32768) e
    where
      by : (b : Bool) → simple_only b n bs ≡ done g → Held g
      by true e = judged_held (parts_of n bs) e
      by false e = absurd (let z : ◌≡◌ {A = ℕ} 0 1 = cc in omega arith)

  pub read_held : (bytes : List ℕ) → described bytes ≡ done g → Held g
  unfolding described
  read_held bytes e = headed_held (word bytes) e

-- ---- so has each contour

taken_16 : (n : ℕ) (xs : List ℤ) → all16 xs ≡ true → all16 (take n xs) ≡ true
unfolding all16
taken_16 zero [] h = refl
taken_16 zero (x ∷ xs) h = refl
taken_16 (suc n) [] h = refl
taken_16 (suc n) (x ∷ xs) h = rw (and_left (in16 x) (all16 xs) h) (taken_16 n xs (and_right (in16 x) (all16 xs) h))

dropped_16 : (n : ℕ) (xs : List ℤ) → all16 xs ≡ true → all16 (drop n xs) ≡ true
unfolding all16
dropped_16 zero [] h = refl
dropped_16 zero (x ∷ xs) h = h
dropped_16 (suc n) [] h = refl
dropped_16 (suc n) (x ∷ xs) h = dropped_16 n xs (and_right (in16 x) (all16 xs) h)

stretch_16 : (from to : ℕ) (xs : List ℤ) → all16 xs ≡ true → all16 (stretch from to xs) ≡ true
stretch_16 from to xs h = taken_16 (to - from) (drop from xs) (dropped_16 from xs h)

data Inputs16 : List Inputs → Type 0 where
  no_more : Inputs16 []
  one_more : {xs ys : List ℤ} {fs : List ℕ} {contours : List Inputs} → all16 xs ≡ true → all16 ys ≡ true → Inputs16 contours →
      Inputs16 (inputs xs ys fs ∷ contours)

contours_16 : (from : ℕ) (ends : List ℕ) (xs ys : List ℤ) (fs : List ℕ) → all16 xs ≡ true → all16 ys ≡ true → Inputs16 (contours_from from ends xs ys fs)
unfolding contours_from
contours_16 from [] xs ys fs hx hy = no_more
contours_16 from (end ∷ ends) xs ys fs hx hy =
    one_more (stretch_16 from (end + 1) xs hx) (stretch_16 from (end + 1) ys hy) (contours_16 (end + 1) ends xs ys fs hx hy)

-- ---- and what they are crunched to

module _ (rooms : Edition.Rooms) (settings : Settings) where
  each_16 : (room : ℕ) {olds : List Inputs} {news : List Points} → Each rooms settings room olds news → Inputs16 olds → All16 (together news)
  unfolding together
  each_16 room none no_more = S.none
  each_16 room (next {xs = xs} {ys = ys} {fs = fs} {ps = ps} e l) (one_more hx hy h) =
      S.both (crunched_16 rooms room settings xs ys fs hx hy e) (each_16 (room - length ps) l h)

  -- the last end says how many points there are
  counted : (room at : ℕ) {olds : List Inputs} {news : List Points} → Each rooms settings room olds news → 0 < length news →
      count_of (ends_from at news) ≡ at + length (together news)
  unfolding count_of ends_from together
  counted room at none some = absurd (omega (arith, some))
  counted room at (next {xs = xs} {ys = ys} {fs = fs} {ps = ps} e none) some =
      let p = some_point rooms room settings xs ys fs e in
      omega (arith, p, length-append ps [])
  counted room at (next {ps = ps} {more = qs ∷ more} e (next f l)) some =
      let rest = counted (room - length ps) (at + length ps) (next f l) (omega arith) in
      rest ∙ omega (arith, length-append ps (together (qs ∷ more)))

  -- each contour has a point, so that its end is above the one before it
  pub rises : (room at : ℕ) {olds : List Inputs} {news : List Points} → Each rooms settings room olds news → rising (ends_from at news) ≡ true
  unfolding rising ends_from
  rises room at none = refl
  rises room at (next e none) = refl
  rises room at (next {xs = oxs} {ys = oys} {fs = ofs} {ps = ps} e (next {xs = xs} {ys = ys} {fs = fs} {ps = qs} f l)) =
      let left = room - length ps in
      let o = some_point rooms room settings oxs oys ofs e in
      let p = some_point rooms left settings xs ys fs f in
      let above : at + length ps - 1 < at + length ps + length qs - 1 = omega (arith, o, p) in
      rw (lt-ltb (at + length ps - 1) (at + length ps + length qs - 1) above) (rises left (at + length ps) (next f l))

columns : {ps : Points} → All16 ps → (all16 (column 0 ps) ≡ true) × (all16 (column 1 ps) ≡ true)
unfolding all16
columns S.none = (refl, refl)
columns (S.one x y h) = let c = columns h in (rw x c.0, rw y c.1)

-- flags are 1 or 0
flag_on : (b : Bool) → is_on (flag_if b) ≡ flag_if b
flag_on true = refl
flag_on false = refl

flags_on : (ps : Points) → map is_on (flags ps) ≡ flags ps
flags_on [] = refl
flags_on (p ∷ ps) = λ k. flag_on (off_curve p) k ∷ flags_on ps k

module _ (news : List Points) (instructions : List ℕ) (all : count_of (ends_from 0 news) ≡ length (together news)) where
  abbrev new : Glyph
  new = New.glyph_of news instructions

  whole : {A : Type 0} (f : List ℤ → A) → take (count_of (ends_from 0 news)) (map f (together news)) ≡ map f (together news)
  whole f = take_all (count_of (ends_from 0 news)) (map f (together news)) (omega (arith, all, length-map (together news) f))

  all_taken_lem : trimmed new ≡ new
  all_taken_lem =
      λ k. glyph (ends_from 0 news) (whole (λ (q : List ℤ). number q 0) k) (whole (λ (q : List ℤ). number q 1) k) (whole flag_of k) instructions

  pub only_large : rising (ends_from 0 news) ≡ true → (out : ℕ) → written_of out new ≡ refuse TooLarge (too_large new) (fitting out (bytes_of new))
  unfolding written_of
  only_large rise out =
      let ps = together news in
      let xs = length-map ps (λ (q : List ℤ). number q 0) in
      let ys = length-map ps (λ (q : List ℤ). number q 1) in
      let fs = length-map ps flag_of in
      rw (
        eq-eqb (length (column 0 ps)) (length (column 1 ps)) (xs ∙ sym ys),
        eq-eqb (length (column 0 ps)) (length (flags ps)) (xs ∙ sym fs),
        le-ltb (length (flags ps)) (count_of (ends_from 0 news)) (omega (arith, all, fs)),
        rise,
      )
      (ap (λ (v : Glyph). refuse TooLarge (too_large v) (fitting out (bytes_of v))) all_taken_lem)

  trimmed_is : as_read (trimmed new) ≡ new
  trimmed_is =
      λ k. glyph (ends_from 0 news) (whole (λ (q : List ℤ). number q 0) k) (whole (λ (q : List ℤ). number q 1) k)
      ((ap (map is_on) (whole flag_of) ∙ flags_on (together news)) k) instructions

  pub says_new : (room : ℕ) (bytes : List ℕ) → All16 (together news) → written_of room new ≡ done bytes → described bytes ≡ done new
  says_new room bytes h e =
      let c = columns h in
      written_read_back room new bytes (record { xs = c.0; ys = c.1 }) e ∙ ap done trimmed_is

none_counted : (news : List Points) → length news ≡ 0 → count_of (ends_from 0 news) ≡ length (together news)
unfolding count_of ends_from together
none_counted [] e = refl
none_counted (ps ∷ news) e = absurd (omega (arith, e))

pub counted_all : (rooms : Edition.Rooms) (settings : Settings) (room : ℕ) {olds : List Inputs} {news : List Points} → Each rooms settings room olds news →
    count_of (ends_from 0 news) ≡ length (together news)
counted_all rooms settings room none = none_counted [] refl
counted_all rooms settings room (next e l) = counted rooms settings room 0 (next e l) (omega arith) ∙ omega arith

pub news_16 : (rooms : Edition.Rooms) (settings : Settings) (room : ℕ) (g : Glyph) {news : List Points} → Held g →
    Each rooms settings room (New.contours_of g) news → All16 (together news)
news_16 rooms settings room g h each = each_16 rooms settings room each (contours_16 0 g.ends g.xs g.ys g.flags h.xs h.ys)
