-- What is written is read back as it was. Assumes nothing.
use Prim.Native.Nat.{ℕ, zero, suc, ◌<◌}
use mathlib.Core.Bool.{Bool, true, false, not, ◌||◌}
use mathlib.Core.List.{List, [], ◌∷◌, ◌++◌, map, append_assoc, append-nil}
use mathlib.Core.Path.{◌≡◌, refl, sym, ap, ◌∙◌}
use native.Mathlib.Nat.{div-add-mod'}
use native.Mathlib.Omega.{arith}
use borrow.Author.Tests.{lt-ltb, ltb-false, eqb-true}
use lib.Dec.{eqb, ltb}
use lib.IntN.{ℤ, pos, ◌+ℤ◌, ◌-ℤ◌, +ℤ_comm, -ℤ-+ℤ_cancel, +ℤ-neg_ℤ_cancel}
use lib.ListN.{length, take}
use lib.Seq.{length-take-le}
use Rattle.refusals.specs.declared.refusal.Refusal.TheVariants.{UnevenRows, OutputTooShort, CutShort, EndsNotRising, TooLarge}
use Rattle.glyf.specs.Layout.{Glyph, done, refuse, taken, byte, several, is_on, flags_of, differences}
use Rattle.glyf.specs.Layout.{count_of, parts_of, sums, in16, all16, rising, described, word_bytes, signed_bytes, joined}
use Rattle.glyf.specs.Layout.{box_of, steps, code_of, coded_flags, packed_flags, bytes_of, trimmed, rows_differ, too_large, written_of}
use Rattle.glyf.specs.Trips.{Held, as_read, WrittenReadBack}
use Rattle.glyf.proofs.Codes.{and_left, and_right, words_back, bytes_back, difference_back, Says, flag_says, no_repeat}
use Rattle.glyf.proofs.Unpacked.{Plain, Alike, Unpacks, flags_back}
use Rattle.glyf.proofs.Unpacked as U

-- ---- points

pub data Saying : List ℕ → List ℕ → List ℤ → List ℤ → Type 0 where
  none : Saying [] [] [] []
  one : {f o : ℕ} {dx dy : ℤ} {fs os : List ℕ} {dxs dys : List ℤ} → Says f o dx dy → Saying fs os dxs dys → Saying (f ∷ fs) (o ∷ os) (dx ∷ dxs) (dy ∷ dys)

all_plain : (os : List ℕ) (dxs dys : List ℤ) → Plain (coded_flags os dxs dys)
unfolding coded_flags
all_plain (o ∷ os) (dx ∷ dxs) (dy ∷ dys) = U.Plain.one (no_repeat o dx dy) (all_plain os dxs dys)
all_plain [] dxs dys = U.Plain.none
all_plain (o ∷ os) [] dys = U.Plain.none
all_plain (o ∷ os) (dx ∷ dxs) [] = U.Plain.none

coded_length : (os : List ℕ) (dxs dys : List ℤ) → length dxs ≡ length os → length dys ≡ length os → length (coded_flags os dxs dys) ≡ length os
unfolding coded_flags
coded_length (o ∷ os) (dx ∷ dxs) (dy ∷ dys) e h = ap suc (coded_length os dxs dys (omega arith) (omega arith))
coded_length [] dxs dys e h = refl
coded_length (o ∷ os) [] dys e h = absurd (omega arith)
coded_length (o ∷ os) (dx ∷ dxs) [] e h = absurd (omega arith)

said : (fs os : List ℕ) (dxs dys : List ℤ) → length dxs ≡ length os → length dys ≡ length os → Alike fs (coded_flags os dxs dys) → Saying fs os dxs dys
unfolding coded_flags
said (f ∷ fs) (o ∷ os) (dx ∷ dxs) (dy ∷ dys) e h (U.Alike.one r k q a) = one (flag_says o dx dy r k q) (said fs os dxs dys (omega arith) (omega arith) a)
said [] [] [] [] e h a = none
said fs [] (dx ∷ dxs) dys e h a = absurd (omega arith)
said fs [] [] (dy ∷ dys) e h a = absurd (omega arith)
said fs (o ∷ os) [] dys e h a = absurd (omega arith)
said fs (o ∷ os) (dx ∷ dxs) [] e h a = absurd (omega arith)
said (f ∷ fs) [] [] [] e h a = elim a [ ]
said [] (o ∷ os) (dx ∷ dxs) (dy ∷ dys) e h a = elim a [ ]

xs_back : {fs os : List ℕ} {dxs dys : List ℤ} → Saying fs os dxs dys → all16 dxs ≡ true → (rest : List ℕ) →
    differences 2 16 fs (joined (map code_of dxs) ++ rest) ≡ taken dxs rest
unfolding differences joined all16
xs_back none h rest = refl
xs_back {dxs = dx ∷ dxs} (one s more) h rest =
    let fits = and_left (in16 dx) (all16 dxs) h in
    let later = xs_back more (and_right (in16 dx) (all16 dxs) h) rest in
    rw (s.short_x, s.same_x, append_assoc (code_of dx) (joined (map code_of dxs)) rest, difference_back dx (joined (map code_of dxs) ++ rest) fits, later)

ys_back : {fs os : List ℕ} {dxs dys : List ℤ} → Saying fs os dxs dys → all16 dys ≡ true → (rest : List ℕ) →
    differences 4 32 fs (joined (map code_of dys) ++ rest) ≡ taken dys rest
unfolding differences joined all16
ys_back none h rest = refl
ys_back {dys = dy ∷ dys} (one s more) h rest =
    let fits = and_left (in16 dy) (all16 dys) h in
    let later = ys_back more (and_right (in16 dy) (all16 dys) h) rest in
    rw (s.short_y, s.same_y, append_assoc (code_of dy) (joined (map code_of dys)) rest, difference_back dy (joined (map code_of dys) ++ rest) fits, later)

on_back : {fs os : List ℕ} {dxs dys : List ℤ} → Saying fs os dxs dys → map is_on fs ≡ map is_on os
on_back none = refl
on_back (one s more) = λ k. s.on k ∷ on_back more k

-- ---- sums and steps

pub sums_steps : (z : ℤ) (xs : List ℤ) → sums z (steps z xs) ≡ xs
unfolding sums steps
sums_steps z [] = refl
sums_steps z (x ∷ xs) =
    let e : z +ℤ (x -ℤ z) ≡ x = +ℤ_comm z (x -ℤ z) ∙ -ℤ-+ℤ_cancel x z in
    rw e (ap (◌∷◌ x) (sums_steps x xs))

pub steps_sums : (z : ℤ) (ds : List ℤ) → steps z (sums z ds) ≡ ds
unfolding sums steps
steps_sums z [] = refl
steps_sums z (d ∷ ds) =
    let e : (z +ℤ d) -ℤ z ≡ d = ap (λ (y : ℤ). y -ℤ z) (+ℤ_comm z d) ∙ +ℤ-neg_ℤ_cancel d z in
    λ k. e k ∷ steps_sums (z +ℤ d) ds k

pub steps_length : (z : ℤ) (xs : List ℤ) → length (steps z xs) ≡ length xs
unfolding steps
steps_length z [] = refl
steps_length z (x ∷ xs) = ap suc (steps_length x xs)

-- ---- a description

-- a glyph that can be written: its rows are as long as its points, its counts and differences fit their fields
pub record Whole (g : Glyph) : Type 0 where
  pub few : length g.ends < 32768
  pub rise : rising g.ends ≡ true
  pub count : count_of g.ends ≡ length g.flags
  pub as_xs : length g.xs ≡ length g.flags
  pub as_ys : length g.ys ≡ length g.flags
  pub near_xs : all16 (steps (pos 0) g.xs) ≡ true
  pub near_ys : all16 (steps (pos 0) g.ys) ≡ true
  pub xs : all16 g.xs ≡ true
  pub ys : all16 g.ys ≡ true

module _ (g : Glyph) (w : Whole g) where
  abbrev dxs : List ℤ
  dxs = steps (pos 0) g.xs

  abbrev dys : List ℤ
  dys = steps (pos 0) g.ys

  abbrev cs : List ℕ
  cs = coded_flags g.flags dxs dys

  like_xs : length dxs ≡ length g.flags
  like_xs = steps_length (pos 0) g.xs ∙ w.as_xs

  like_ys : length dys ≡ length g.flags
  like_ys = steps_length (pos 0) g.ys ∙ w.as_ys

  counted : count_of g.ends ≡ length cs
  counted = w.count ∙ sym (coded_length g.flags dxs dys like_xs like_ys)

  abbrev coordinates : List ℕ
  coordinates = joined (map code_of dxs) ++ joined (map code_of dys)

  unpacked : Unpacks (flags_of (length cs) 0 0 (packed_flags cs ++ coordinates)) cs coordinates
  unpacked = flags_back cs (all_plain g.flags dxs dys) coordinates

  saying : Saying unpacked.fs g.flags dxs dys
  saying = said unpacked.fs g.flags dxs dys like_xs like_ys unpacked.alike

  last_back : differences 4 32 unpacked.fs (joined (map code_of dys)) ≡ taken dys []
  last_back = rw append-nil at (ys_back saying w.near_ys [])

  box_back : (rest : List ℕ) → several byte 8 (joined (map signed_bytes (box_of g.xs g.ys)) ++ rest) ≡ taken (joined (map signed_bytes (box_of g.xs g.ys))) rest
  unfolding joined
  box_back rest = bytes_back (joined (map signed_bytes (box_of g.xs g.ys))) rest

  abbrev after_count : List ℕ
  after_count =
      joined (map signed_bytes (box_of g.xs g.ys)) ++ (joined (map word_bytes g.ends) ++
      (word_bytes (length g.instructions) ++ (g.instructions ++ (packed_flags cs ++ coordinates))))

  parts_back : parts_of (length g.ends) after_count
      ≡ taken (record { ends = g.ends; instructions = g.instructions; flags = unpacked.fs; dxs = dxs; dys = dys }) []
  unfolding parts_of
  parts_back =
      rw (
        box_back (joined (map word_bytes g.ends) ++ (word_bytes (length g.instructions) ++ (g.instructions ++ (packed_flags cs ++ coordinates)))),
        words_back g.ends (word_bytes (length g.instructions) ++ (g.instructions ++ (packed_flags cs ++ coordinates))),
        div-add-mod' (length g.instructions) 256,
        bytes_back g.instructions (packed_flags cs ++ coordinates),
        counted,
        unpacked.is,
        xs_back saying w.near_xs (joined (map code_of dys)),
        last_back,
      )

  pub whole_back : described (bytes_of g) ≡ done (as_read g)
  unfolding described bytes_of
  whole_back =
      rw (
        div-add-mod' (length g.ends) 256,
        lt-ltb (length g.ends) 32768 w.few,
        parts_back,
        w.rise,
        sums_steps (pos 0) g.xs,
        sums_steps (pos 0) g.ys,
        w.xs,
        w.ys,
        on_back saying,
      )

-- ---- rows that were written

-- nothing was refused
pub record Written (room : ℕ) (g : Glyph) (bytes : List ℕ) : Type 0 where
  pub like : rows_differ g ≡ false
  pub enough : ltb (length g.flags) (count_of g.ends) ≡ false
  pub rise : rising g.ends ≡ true
  pub small : too_large (trimmed g) ≡ false
  pub is : bytes ≡ bytes_of (trimmed g)

pub written : (room : ℕ) (g : Glyph) (bytes : List ℕ) → written_of room g ≡ done bytes → Written room g bytes
unfolding written_of
written room g bytes e = by (rows_differ g) refl (ltb (length g.flags) (count_of g.ends)) refl (rising g.ends) refl (too_large (trimmed g)) refl
    (ltb room (length (bytes_of (trimmed g)))) e
  where
    by : (a : Bool) → rows_differ g ≡ a → (b : Bool) → ltb (length g.flags) (count_of g.ends) ≡ b → (c : Bool) → rising g.ends ≡ c →
        (d : Bool) → too_large (trimmed g) ≡ d → (f : Bool) →
        refuse UnevenRows a (refuse CutShort b (refuse EndsNotRising (not c) (refuse TooLarge d (refuse OutputTooShort f (done (bytes_of (trimmed g))))))) ≡ done bytes → Written room g bytes
    by false p false q true s false t false e = record { like = p; enough = q; rise = s; small = t; is = cc }
    by true p b q c s d t f e = absurd (let z : ◌≡◌ {A = ℕ} 0 1 = cc in omega arith)
    by false p true q c s d t f e = absurd (let z : ◌≡◌ {A = ℕ} 0 1 = cc in omega arith)
    by false p false q false s d t f e = absurd (let z : ◌≡◌ {A = ℕ} 0 1 = cc in omega arith)
    by false p false q true s true t f e = absurd (let z : ◌≡◌ {A = ℕ} 0 1 = cc in omega arith)
    by false p false q true s false t true e = absurd (let z : ◌≡◌ {A = ℕ} 0 1 = cc in omega arith)

alike_rows : (a b : Bool) → (not a || not b) ≡ false → (a ≡ true) × (b ≡ true)
alike_rows true true e = (refl, refl)
alike_rows true false e = absurd (let z : ◌≡◌ {A = ℕ} 0 1 = cc in omega arith)
alike_rows false b e = absurd (let z : ◌≡◌ {A = ℕ} 0 1 = cc in omega arith)

none_large : (a b c d : Bool) → (a || (b || (not c || not d))) ≡ false → (a ≡ false) × (c ≡ true) × (d ≡ true)
none_large false false true true e = (refl, refl, refl)
none_large true b c d e = absurd (let z : ◌≡◌ {A = ℕ} 0 1 = cc in omega arith)
none_large false true c d e = absurd (let z : ◌≡◌ {A = ℕ} 0 1 = cc in omega arith)
none_large false false false d e = absurd (let z : ◌≡◌ {A = ℕ} 0 1 = cc in omega arith)
none_large false false true false e = absurd (let z : ◌≡◌ {A = ℕ} 0 1 = cc in omega arith)

first_16 : (n : ℕ) (xs : List ℤ) → all16 xs ≡ true → all16 (take n xs) ≡ true
unfolding all16
first_16 zero xs e = refl
first_16 (suc n) [] e = refl
first_16 (suc n) (x ∷ xs) e = rw (and_left (in16 x) (all16 xs) e) (first_16 n xs (and_right (in16 x) (all16 xs) e))

pub whole_of : {room : ℕ} {g : Glyph} {bytes : List ℕ} → Held g → Written room g bytes → Whole (trimmed g)
whole_of {room} {g} {bytes} h w =
    let n = count_of g.ends in
    let like = alike_rows (eqb (length g.xs) (length g.ys)) (eqb (length g.xs) (length g.flags)) w.like in
    let like-y = eqb-true (length g.xs) (length g.ys) like.0 in
    let like-f = eqb-true (length g.xs) (length g.flags) like.1 in
    let enough = ltb-false (length g.flags) n w.enough in
    let in_fs = length-take-le n g.flags enough in
    let in_xs = length-take-le n g.xs (rw like-f enough) in
    let in_ys = length-take-le n g.ys (rw (← like-y, like-f) enough) in
    let small = none_large (ltb 32767 (length g.ends)) (ltb 65535 (length g.instructions)) (all16 (steps (pos 0) (take n g.xs))) (all16 (steps (pos 0) (take n g.ys))) w.small in
    let few = ltb-false 32767 (length g.ends) small.0 in
    record {
      few = omega arith;
      rise = w.rise;
      count = sym in_fs;
      as_xs = in_xs ∙ sym in_fs;
      as_ys = in_ys ∙ sym in_fs;
      near_xs = small.1;
      near_ys = small.2;
      xs = first_16 n g.xs h.xs;
      ys = first_16 n g.ys h.ys;
    }

pub written_read_back : WrittenReadBack
written_read_back room g bytes h e =
    let w = written room g bytes e in
    ap described w.is ∙ whole_back (trimmed g) (whole_of h w)
