-- The parts of a description put together, and rows judged. Assumes nothing.
use Rattle.std.specs.Prelude.{Result, Ok, Err}
use Rattle.refusals.specs.declared.refusal.Refusal.TheVariants.{UnevenRows, OutputTooShort, CutShort, EndsNotRising, TooLarge}
use Rattle.refusals.specs.declared.refusal.Refusal.{Refusal}
use Prim.Native.Nat.{ℕ, suc, ◌≤◌, ◌<◌}
use mathlib.Core.Bool.{Bool, true, false, not, ◌||◌}
use mathlib.Core.List.{List, [], ◌∷◌, ◌++◌, append_assoc}
use mathlib.Core.Path.{◌≡◌, refl, sym, ap, ◌∙◌}
use native.Mathlib.Nat.{zero-add}
use native.Mathlib.Omega.{arith}
use borrow.Author.Tests.{eq-eqb, ne_eqb, lt-ltb, le-ltb, ltb-false}
use lib.Dec.{ltb}
use lib.IntN.{ℤ, pos}
use lib.ListN.{length, take}
use lib.Seq.{sets, sets-eq, length-take-le}
use Rattle.glyf.specs.Layout.{Glyph, Outcome, refused, laid, left_by, glyph, bytes_of, count_of, trimmed, rising, too_large, fitting, written_of, all16, steps}
use Rattle.glyfwrite.specs.Puts.{Put}
use Rattle.glyfwrite.specs.Writes.{head_text, code_text, points_text, Counted, Fine, Writes, answer_of}
use Rattle.glyfwrite.proofs.Putting.{then}

-- ---- the parts together

module _ (es : List ℕ) (xs ys : List ℤ) (fs is : List ℕ) where
  whole_text : head_text es xs ys ++ (code_text is ++ points_text xs ys fs) ≡ bytes_of (glyph es xs ys fs is)
  unfolding bytes_of
  whole_text = simp append_assoc

  pub whole_put : {out o₁ o₂ out' : List ℕ} {r₁ r₂ r : ℕ} → Put out 0 (head_text es xs ys) o₁ r₁ → Put o₁ r₁ (code_text is) o₂ r₂ → Put o₂ r₂ (points_text xs ys fs) out' r →
      Put out 0 (bytes_of (glyph es xs ys fs is)) out' r
  whole_put p q s = rw (← whole_text) (then p (then q s))

-- ---- measured, and put where there is room

no_row : (text : List ℕ) (at : ℕ) → sets [] at text ≡ []
no_row [] at = refl
no_row (b ∷ text) at = no_row text (suc at)

module _ (bytes out : List ℕ) {mid : List ℕ} {n : ℕ} (p : Put [] 0 bytes mid n) where
  still : mid ++ out ≡ out
  still = rw (p.held, no_row bytes 0)

  count : n ≡ length bytes
  count = omega (arith, p.next)

  pub no_room : length (mid ++ out) < n → Writes (fitting (length out) bytes) out (mid ++ out) (Err OutputTooShort)
  no_room h =
      let k : length out < length bytes = rw (still, count) at h in
      rw (still, lt-ltb (length out) (length bytes) k) (record { answer = refl; left = refl })

  pub with_room : n ≤ length (mid ++ out) → {out' : List ℕ} {r : ℕ} → Put (mid ++ out) 0 bytes out' r → Writes (fitting (length out) bytes) out out' (Ok n)
  with_room h {out'} q =
      let k : length bytes ≤ length out = rw (still, count) at h in
      let put : out' ≡ sets out 0 bytes = q.held ∙ ap (λ (l : List ℕ). sets l 0 bytes) still in
      rw (le-ltb (length out) (length bytes) k) (record { answer = ap Ok count; left = put ∙ sets-eq bytes out 0 (omega arith) ∙ rw (zero-add (length bytes)) })

-- ---- 14

module _ (es : List ℕ) (xs ys : List ℤ) (is : List ℕ) where
  pub many_ends : 32767 < length es → true ≡ too_large (glyph es xs ys [] is)
  many_ends h = rw (lt-ltb 32767 (length es) h)

  module _ (few : length es ≤ 32767) where
    pub many_bytes : 65535 < length is → true ≡ too_large (glyph es xs ys [] is)
    many_bytes h = rw (le-ltb 32767 (length es) few, lt-ltb 65535 (length is) h)

    module _ (short : length is ≤ 65535) where
      pub wide_x : {b : Bool} → b ≡ all16 (steps (pos 0) xs) → b ≡ false → true ≡ too_large (glyph es xs ys [] is)
      wide_x e f = rw (le-ltb 32767 (length es) few, le-ltb 65535 (length is) short, ← e, f)

      module _ {a b : Bool} (ex : a ≡ all16 (steps (pos 0) xs)) (fx : a ≡ true) (ey : b ≡ all16 (steps (pos 0) ys)) where
        pub wide_y : b ≡ false → true ≡ too_large (glyph es xs ys [] is)
        wide_y f = rw (le-ltb 32767 (length es) few, le-ltb 65535 (length is) short, ← ex, fx, ← ey, f)

        pub none_wide : b ≡ true → false ≡ too_large (glyph es xs ys [] is)
        none_wide f = rw (le-ltb 32767 (length es) few, le-ltb 65535 (length is) short, ← ex, fx, ← ey, f)

-- what is not too large
few_of : (es : List ℕ) (xs ys : List ℤ) (is : List ℕ) → too_large (glyph es xs ys [] is) ≡ false → (length es ≤ 32767) × (length is ≤ 65535)
few_of es xs ys is h = by (ltb 32767 (length es)) refl (ltb 65535 (length is)) refl h
  where
    by : (s : Bool) → ltb 32767 (length es) ≡ s → (t : Bool) → ltb 65535 (length is) ≡ t →
        (s || (t || (not (all16 (steps (pos 0) xs)) || not (all16 (steps (pos 0) ys))))) ≡ false → (length es ≤ 32767) × (length is ≤ 65535)
    by false p false q k = (ltb-false 32767 (length es) p, ltb-false 65535 (length is) q)
    by true p t q k = absurd (let z : ◌≡◌ {A = ℕ} 0 1 = cc in omega arith)
    by false p true q k = absurd (let z : ◌≡◌ {A = ℕ} 0 1 = cc in omega arith)

-- ---- 1, 12, 13, 14

or-true : (b : Bool) → (b || true) ≡ true
or-true true = refl
or-true false = refl

module _ (es : List ℕ) (xs ys : List ℤ) (fs is : List ℕ) where
  abbrev g : Glyph
  g = glyph es xs ys fs is

  pub unlike_y : (length xs ≡ length ys → ⊥) → (room : ℕ) → written_of room g ≡ refused UnevenRows
  unfolding written_of
  unlike_y n room = rw (ne_eqb (length xs) (length ys) n)

  pub unlike_f : (length xs ≡ length fs → ⊥) → (room : ℕ) → written_of room g ≡ refused UnevenRows
  unfolding written_of
  unlike_f n room = rw (ne_eqb (length xs) (length fs) n, or-true)

  module _ (ey : length xs ≡ length ys) (ef : length xs ≡ length fs) {n : ℕ} (en : n ≡ count_of es) where
    pub too_few : length fs < n → (room : ℕ) → written_of room g ≡ refused CutShort
    unfolding written_of
    too_few h room = rw (eq-eqb (length xs) (length ys) ey, eq-eqb (length xs) (length fs) ef, ← en, lt-ltb (length fs) n h)

    module _ (enough : n ≤ length fs) {b : Bool} (eb : b ≡ rising es) where
      pub falling : b ≡ false → (room : ℕ) → written_of room g ≡ refused EndsNotRising
      unfolding written_of
      falling e room = rw (eq-eqb (length xs) (length ys) ey, eq-eqb (length xs) (length fs) ef, ← en, le-ltb (length fs) n enough, ← eb, e)

      module _ (rise : b ≡ true) {t : Bool} (et : t ≡ too_large (glyph es (take n xs) (take n ys) [] is)) where
        pub large : t ≡ true → (room : ℕ) → written_of room g ≡ refused TooLarge
        unfolding written_of
        large e room = rw (eq-eqb (length xs) (length ys) ey, eq-eqb (length xs) (length fs) ef, ← en, le-ltb (length fs) n enough, ← eb, rise, ← et, e)

        fine_says : (room : ℕ) → t ≡ false → written_of room g ≡ fitting room (bytes_of (trimmed g))
        unfolding written_of
        fine_says room e = rw (eq-eqb (length xs) (length ys) ey, eq-eqb (length xs) (length fs) ef, ← en, le-ltb (length fs) n enough, ← eb, rise, ← et, e)

        pub fine : t ≡ false → n ≤ 65536 → Fine g n
        fine e few = record {
          says = λ room. fine_says room e;
          count = en;
          few = few;
          in_xs = omega arith;
          in_ys = omega arith;
          in_flags = enough;
          few_ends = (few_of es (take n xs) (take n ys) is (sym et ∙ e)).0;
          few_bytes = (few_of es (take n xs) (take n ys) is (sym et ∙ e)).1;
        }

-- ---- the answer and the row

module _ {es : List ℕ} {xs ys : List ℤ} {fs is : List ℕ} {n : ℕ} (f : Fine (glyph es xs ys fs is) n) where
  pub counted : Counted es (take n xs) (take n ys) (take n fs) is
  counted =
      let in_fs = length-take-le n fs f.in_flags in
      let few = f.few in
      record {
        few_ends = f.few_ends;
        few_bytes = f.few_bytes;
        few_points = omega arith;
        as_xs = length-take-le n xs f.in_xs ∙ sym in_fs;
        as_ys = length-take-le n ys f.in_ys ∙ sym in_fs;
      }

  pub fits_as : (room : ℕ) → fitting room (bytes_of (glyph es (take n xs) (take n ys) (take n fs) is)) ≡ written_of room (glyph es xs ys fs is)
  fits_as room = sym (f.says room ∙ rw (← f.count))

module _ {out out' : List ℕ} {r : Result ℕ Refusal} {o p : Outcome (List ℕ)} (wr : Writes o out out' r) (e : o ≡ p) where
  pub answers : r ≡ answer_of p
  answers = wr.answer ∙ ap answer_of e

  pub leaves : out' ≡ left_by laid p out
  leaves = wr.left ∙ ap (λ (q : Outcome (List ℕ)). left_by laid q out) e

pub unwritten : (out : List ℕ) (k : Refusal) → Writes (refused k) out out (Err k)
unwritten out k = record { answer = refl; left = refl }
