-- A glyph that was read stands in the first places of the rows. Assumes nothing.
use Rattle.std.specs.Prelude.{Result, Ok, Err}
use Rattle.refusals.specs.declared.refusal.Refusal.{Refusal}
use Prim.Native.Nat.{ℕ, ◌≤◌}
use native.Mathlib.Omega.{arith}
use mathlib.Core.List.{List}
use mathlib.Core.Path.{◌≡◌, refl, sym, ap, subst, ◌∙◌}
use denote.Triple.Both.{Both}
use lib.ListN.{length, take, drop, length-append}
use lib.Seq.{take_at}
use Rattle.glyf.specs.Layout.{Glyph, glyph, Outcome, done, refused, laid, laid_in, left_by, count_of, rooms_of, read_of}
use Rattle.glyf.specs.Layout as Layout
use Rattle.glyf.proofs.Sound.{sound, read_says}
use Rattle.settings.specs.declared.Settings.{Settings}
use Rattle.glyfread.specs.Reads.{answer_of}
use Rattle.glyfread.specs.Entry.{Promise}
use Rattle.glyfread.specs.declared.read.Counts.{Counts}
use Rattle.glyfwrite.specs.Writes.{Writes}
use Rattle.glyphs.specs.Glyphs.{Rooms, and_then, crunched_of, crunch_glyph_of}
use Rattle.glyphs.specs.Entry.{zero_glyph}
use Rattle.glyphs.specs.Stands.{first_of, Stood}

-- a list at the front of a row
front_is : {A : Type 0} (s row : List A) {row' : List A} {n : ℕ} → row' ≡ laid s row → n ≡ length s → take n row' ≡ s
front_is s row {n = n} e c = ap (take n) e ∙ take_at s (drop (length s) row) n (sym c)

front_fits : {A : Type 0} (s row : List A) {row' : List A} {n : ℕ} → row' ≡ laid s row → n ≡ length s → n ≤ length row'
front_fits s row e c = omega (arith, c, ap length e, length-append s (drop (length s) row))

module _ {bytes : List ℕ} {w : Both Glyph Glyph} {r : Result Counts Refusal} (p : Promise bytes w r) where
  abbrev outcome : Outcome Glyph
  outcome = read_of (rooms_of w.entry) bytes

  not_read : (o : Outcome Glyph) {k : Refusal} → r ≡ answer_of o → r ≡ Err k → o ≡ refused k
  not_read (done g) a h = absurd (let z : ◌≡◌ {A = ℕ} 0 1 = cc in omega arith)
  not_read (refused j) a h = cc

  pub unread : {k : Refusal} → r ≡ Err k → outcome ≡ refused k
  unread h = not_read outcome p.answer h

  -- what was read, and where it stands
  pub record WasRead (contours count size : ℕ) : Type 0 where
    pub g : Glyph
    pub is : outcome ≡ done g
    pub first : first_of contours count size w.exit ≡ g
    pub stood : Stood w.exit contours count size

  module _ {contours count size : ℕ} (h : r ≡ Ok (record { contours = contours; points = count; instructions = size })) where
    stands : (g : Glyph) → outcome ≡ done g → r ≡ answer_of (done g) → w.exit ≡ laid_in g w.entry → WasRead contours count size
    stands g is a left =
        let s = sound g bytes (read_says g (rooms_of w.entry) bytes is) in
        let same : ◌≡◌ {A = Counts} (record { contours = contours; points = count; instructions = size })
        (record { contours = length g.ends; points = length g.flags; instructions = length g.instructions }) = cc in
        let c : contours ≡ length g.ends = ap (λ (t : Counts). t.contours) same in
        let n : count ≡ length g.flags = ap (λ (t : Counts). t.points) same in
        let i : size ≡ length g.instructions = ap (λ (t : Counts). t.instructions) same in
        let nx : count ≡ length g.xs = n ∙ s.as_flags ∙ sym s.as_xs in
        let ny : count ≡ length g.ys = n ∙ s.as_flags ∙ sym s.as_ys in
        let ends = ap (λ (v : Glyph). v.ends) left in
        let xs = ap (λ (v : Glyph). v.xs) left in
        let ys = ap (λ (v : Glyph). v.ys) left in
        let fs = ap (λ (v : Glyph). v.flags) left in
        let code = ap (λ (v : Glyph). v.instructions) left in
        let e = w.entry in
        let at-ends = front_is g.ends e.ends ends c in
        record {
          g = g;
          is = is;
          first = λ k. glyph (at-ends k) (front_is g.xs e.xs xs nx k) (front_is g.ys e.ys ys ny k) (front_is g.flags e.flags fs n k)
              (front_is g.instructions e.instructions code i k);
          stood = record {
            in_ends = front_fits g.ends e.ends ends c;
            in_xs = front_fits g.xs e.xs xs nx;
            in_ys = front_fits g.ys e.ys ys ny;
            in_flags = front_fits g.flags e.flags fs n;
            in_instructions = front_fits g.instructions e.instructions code i;
            rise = rw at-ends s.rise;
            counted = n ∙ s.as_flags ∙ sym (ap count_of at-ends);
          };
        }

    by : (o : Outcome Glyph) → outcome ≡ o → WasRead contours count size
    by (done g) is = stands g is (p.answer ∙ ap answer_of is) (p.left ∙ ap (λ (o : Outcome Glyph). left_by laid_in o w.entry) is)
    by (refused k) is = absurd (let a : r ≡ Err k = p.answer ∙ ap answer_of is in let z : ◌≡◌ {A = ℕ} 0 1 = cc in omega arith)

    pub was_read : WasRead contours count size
    was_read = by outcome refl

-- ---- `crunch_bytes`

-- rows of the lengths of others
pub same_rooms : {e e' x x' y y' f f' i i' : ℕ} → e ≡ e' → x ≡ x' → y ≡ y' → f ≡ f' → i ≡ i' →
    ◌≡◌ {A = Layout.Rooms} (record { ends = e; instructions = i; xs = x; ys = y; flags = f })
    (record { ends = e'; instructions = i'; xs = x'; ys = y'; flags = f' })
same_rooms e x y f i = λ k. record { ends = e k; instructions = i k; xs = x k; ys = y k; flags = f k }

module _ (r : Rooms) (settings : Settings) (bytes out : List ℕ) where
  pub none_read : {k : Refusal} → read_of r.read bytes ≡ refused k → Writes (crunch_glyph_of r settings bytes) out out (Err k)
  unfolding crunch_glyph_of
  none_read e = rw e (record { answer = refl; left = refl })

  pub all_read : {g g' : Glyph} {rooms : Layout.Rooms} {out' : List ℕ} {a : Result ℕ Refusal} → read_of r.read bytes ≡ done g → g' ≡ g → rooms ≡ r.read →
      Writes (crunched_of (record { out = r.out; read = rooms; work = r.work; points = r.points }) settings g') out out' a →
      Writes (crunch_glyph_of r settings bytes) out out' a
  unfolding crunch_glyph_of
  all_read {g} {g'} {rooms} {out'} {a} e same lengths w =
      let is : and_then (read_of r.read bytes) (crunched_of r settings) ≡
      crunched_of (record { out = r.out; read = rooms; work = r.work; points = r.points }) settings g' =
      ap (λ (o : Outcome Glyph). and_then o (crunched_of r settings)) e
      ∙ (λ k. crunched_of (record { out = r.out; read = sym lengths k; work = r.work; points = r.points }) settings (sym same k)) in
      subst (λ (o : Outcome (List ℕ)). Writes o out out' a) (sym is) w

-- ---- `crunch_glyph`

pub cleared_glyph : {w : Glyph} {rooms rooms' : Layout.Rooms} → w ≡ zero_glyph rooms → rooms ≡ rooms' → w ≡ zero_glyph rooms'
cleared_glyph e same = e ∙ ap zero_glyph same
