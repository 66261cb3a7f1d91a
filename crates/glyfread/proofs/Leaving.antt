-- What reading leaves in the rows. Assumes nothing.
use Rattle.std.specs.Prelude.{Result, Ok, Err}
use Rattle.refusals.specs.declared.refusal.Refusal.TheVariants.{OutputTooShort}
use Rattle.refusals.specs.declared.refusal.Refusal.{Refusal}
use Prim.Native.Nat.{ℕ, ◌≤◌}
use mathlib.Core.Bool.{Bool, true, false, ◌||◌}
use mathlib.Core.List.{List}
use mathlib.Core.Path.{◌≡◌, refl, sym, ap, ◌∙◌}
use native.Mathlib.Omega.{arith}
use borrow.Author.Tests.{ltb-false}
use lib.Dec.{ltb}
use lib.IntN.{ℤ}
use lib.ListN.{length, take, drop}
use Rattle.glyf.specs.Layout.{Glyph, glyph, Outcome, refused, refuse, done, described, rooms_of, too_small, roomy, read_of, laid_in, left_by}
use Rattle.glyfread.specs.Steps.{words_at}
use Rattle.glyf.specs.Layout.{laid}
use Rattle.glyfread.specs.Walks.{start_at, ahead, xs_in, ys_in, on_in, Roomy}
use Rattle.glyfread.specs.Reads.{points_at, glyph_at, Judged, lacking, answer_of}
use Rattle.glyfread.specs.declared.read.Places.{Places}
use Rattle.glyfread.specs.declared.walk.Walk.{Walk}
use Rattle.glyfread.specs.declared.read.Counts.{Counts}
use Rattle.glyfread.proofs.Words.{length_words, length_part}
use Rattle.glyfread.proofs.Parts.{points_counted}

module _ (bs : List ℕ) (w : Glyph) where
  -- the answer and the rows, of what is read
  pub record Leaves (r : Result Counts Refusal) (v : Glyph) : Type 0 where
    pub answer : r ≡ answer_of (read_of (rooms_of w) bs)
    pub left : v ≡ left_by laid_in (read_of (rooms_of w) bs) w

  unread : (k : Refusal) → read_of (rooms_of w) bs ≡ refused k → Leaves (Err k) w
  unread k e = record { answer = sym (ap answer_of e); left = sym (ap (λ (o : Outcome Glyph). left_by laid_in o w) e) }

  pub leaves_all : (k : Refusal) → described bs ≡ refused k → Leaves (Err k) w
  unfolding read_of
  leaves_all k e = unread k (rw e)

  module _ (p : Places) (j : Judged bs p) {b : Bool}
      (room : b ≡ lacking p (length w.ends) (length w.instructions) (length w.xs) (length w.ys) (length w.flags)) where
    ends_are : length (words_at bs 10 p.contours) ≡ p.contours
    ends_are = length_words bs 10 p.contours

    code_is : length (take p.size (drop p.code bs)) ≡ p.size
    code_is = length_part bs p.code p.size j.code_inside

    points_are : length (on_in (points_at bs p)) ≡ p.points
    points_are = points_counted bs p j.fine

    small : too_small (rooms_of w) (glyph_at bs p) ≡ b
    small = rw (ends_are, code_is, points_are) (sym room)

    says : read_of (rooms_of w) bs ≡ refuse OutputTooShort b (done (glyph_at bs p))
    unfolding read_of
    says = ap (roomy (rooms_of w)) j.says ∙ ap (λ (t : Bool). refuse OutputTooShort t (done (glyph_at bs p))) small

    pub leaves_short : b ≡ true → Leaves (Err OutputTooShort) w
    leaves_short e = unread OutputTooShort (says ∙ rw e)

    pub leaves_filled : b ≡ false → {v : Walk} → v ≡ start_at p.flags p.xs p.ys →
        {es is : List ℕ} {xs ys : List ℤ} {fs : List ℕ} → es ≡ laid (words_at bs 10 p.contours) w.ends →
        is ≡ laid (take p.size (drop p.code bs)) w.instructions → xs ≡ laid (xs_in (ahead p.points bs v)) w.xs →
        ys ≡ laid (ys_in (ahead p.points bs v)) w.ys → fs ≡ laid (on_in (ahead p.points bs v)) w.flags →
        Leaves (Ok (record { contours = p.contours; points = p.points; instructions = p.size })) (glyph es xs ys fs is)
    leaves_filled e from {es} {is} {xs} {ys} {fs} a b' c d f =
        let whole = says ∙ ap (λ (t : Bool). refuse OutputTooShort t (done (glyph_at bs p))) e in
        let x : xs ≡ laid (xs_in (points_at bs p)) w.xs = c ∙ ap (λ (v : Walk). laid (xs_in (ahead p.points bs v)) w.xs) from in
        let y : ys ≡ laid (ys_in (points_at bs p)) w.ys = d ∙ ap (λ (v : Walk). laid (ys_in (ahead p.points bs v)) w.ys) from in
        let o : fs ≡ laid (on_in (points_at bs p)) w.flags = f ∙ ap (λ (v : Walk). laid (on_in (ahead p.points bs v)) w.flags) from in
        record {
          answer = rw (whole, ends_are, code_is, points_are);
          left = (λ k. glyph (a k) (x k) (y k) (o k) (b' k)) ∙ sym (ap (λ (t : Outcome Glyph). left_by laid_in t w) whole);
        }

    -- room for each
    pub rooms_are : b ≡ false → (p.contours ≤ length w.ends) × (p.size ≤ length w.instructions) × Roomy p.points (length w.xs) (length w.ys) (length w.flags)
    rooms_are e = by (ltb (length w.ends) p.contours) refl (ltb (length w.instructions) p.size) refl (ltb (length w.xs) p.points) refl (ltb (length w.ys) p.points) refl
        (ltb (length w.flags) p.points) refl (sym room ∙ e)
      where
        by : (s : Bool) → ltb (length w.ends) p.contours ≡ s → (t : Bool) → ltb (length w.instructions) p.size ≡ t → (u : Bool) → ltb (length w.xs) p.points ≡ u →
            (v : Bool) → ltb (length w.ys) p.points ≡ v → (z : Bool) → ltb (length w.flags) p.points ≡ z → (s || (t || (u || (v || z)))) ≡ false →
            (p.contours ≤ length w.ends) × (p.size ≤ length w.instructions) × Roomy p.points (length w.xs) (length w.ys) (length w.flags)
        by false a false b'' false c false d false f g =
            (ltb-false _ _ a, ltb-false _ _ b'', record { for_xs = ltb-false _ _ c; for_ys = ltb-false _ _ d; for_flags = ltb-false _ _ f })
        by true a t b'' u c v d z' f g = absurd (let z : ◌≡◌ {A = ℕ} 0 1 = cc in omega arith)
        by false a true b'' u c v d z' f g = absurd (let z : ◌≡◌ {A = ℕ} 0 1 = cc in omega arith)
        by false a false b'' true c v d z' f g = absurd (let z : ◌≡◌ {A = ℕ} 0 1 = cc in omega arith)
        by false a false b'' false c true d z' f g = absurd (let z : ◌≡◌ {A = ℕ} 0 1 = cc in omega arith)
        by false a false b'' false c false d true f g = absurd (let z : ◌≡◌ {A = ℕ} 0 1 = cc in omega arith)
