-- What is written of a glyph is its contours, each crunched; and the first that is refused refuses the glyph. Assumes nothing.
use Prim.Native.Nat.{ℕ, ◌+◌, ◌-◌}
use native.Mathlib.Omega.{arith}
use mathlib.Core.Bool.{Bool, true, false, not}
use mathlib.Core.List.{List, [], ◌∷◌, ◌++◌, map, map-append}
use mathlib.Core.Path.{◌≡◌, refl, sym, ap, subst, ◌∙◌}
use lib.Dec.{ltb}
use lib.IntN.{ℤ}
use lib.ListN.{length, take, drop, length-map}
use lib.Seq.{take_at, drop_at, drop-drop}
use Rattle.refusals.specs.declared.refusal.Refusal.TheVariants.{TooLarge, NoSuchPenalty}
use Rattle.refusals.specs.declared.refusal.Refusal.{Refusal}
use Rattle.rows.specs.Lent.{Inputs, inputs}
use Rattle.settings.specs.Settings.{settings_fine}
use Rattle.settings.specs.declared.Settings.{Settings}
use Rattle.contour.specs.Points.{Points}
use Rattle.contour.specs.Implied.{number}
use Rattle.contour.specs.Output.{column, flag_of, flags}
use Rattle.edition.specs.Edition as Edition
use Rattle.crunch.specs.Crunch.{crunched, crunch_of}
use Rattle.crunch.specs.Crunch as Crunch
use Rattle.glyf.specs.Layout.{Glyph, Outcome, done, refused, refuse, read_of, written_of}
use Rattle.glyphs.specs.Glyphs.{Rooms, and_then, stretch, contours_from, contours_of, with_first, onward, crunch_each, together, ends_from, glyph_of}
use Rattle.glyphs.specs.Glyphs.{point_room, rewritten, crunched_of, crunch_glyph_of}
use Rattle.glyphs.specs.Separately.{Each, none, next, FirstRefused, here, later, contour_of}
use Rattle.glyphs.specs.Separately.{ContourByContour, WrittenByContours, OnlyTooLarge, RefusedByFirst}
use Rattle.glyf.proofs.Again.{done_is}
use Rattle.glyf.proofs.Sound.{read_says}
use Rattle.glyphs.proofs.Some.{some_point}
use Rattle.glyphs.proofs.Says.{read_held, rises, news_16, counted_all, only_large, says_new}

-- ---- what was gathered is each contour's

module _ (rooms : Edition.Rooms) (settings : Settings) where
  -- what followed
  record Followed (room : ℕ) (contours : List Inputs) (ps : Points) (all : List Points) : Type 0 where
    more : List Points
    is : crunch_each rooms settings (room - length ps) contours ≡ done more
    all_is : all ≡ ps ∷ more

  followed : (room : ℕ) (contours : List Inputs) (ps : Points) {all : List Points} →
      with_first ps (crunch_each rooms settings (room - length ps) contours) ≡ done all → Followed room contours ps all
  followed room contours ps {all} e = by (crunch_each rooms settings (room - length ps) contours) refl e
    where
      by : (o : Outcome (List Points)) → crunch_each rooms settings (room - length ps) contours ≡ o → with_first ps o ≡ done all → Followed room contours ps all
      by (done more) is e = record { more = more; is = is; all_is = sym (done_is e) }
      by (refused k) is e = absurd (let z : ◌≡◌ {A = ℕ} 0 1 = cc in omega arith)

  pub each : (room : ℕ) (contours : List Inputs) {all : List Points} → crunch_each rooms settings room contours ≡ done all → Each rooms settings room contours all
  unfolding crunch_each
  each room [] {all} e = subst (Each rooms settings room []) (done_is e) none
  each room (inputs xs ys fs ∷ contours) {all} e =
      by (crunch_of rooms room settings xs ys fs) refl (λ left more was. each left contours was) e
    where
      by : (o : Crunch.Outcome) → crunch_of rooms room settings xs ys fs ≡ o →
          ((left : ℕ) (more : List Points) → crunch_each rooms settings left contours ≡ done more → Each rooms settings left contours more) →
          onward room o (λ left. crunch_each rooms settings left contours) ≡ done all → Each rooms settings room (inputs xs ys fs ∷ contours) all
      by (Crunch.refused k) is go e = absurd (let z : ◌≡◌ {A = ℕ} 0 1 = cc in omega arith)
      by (crunched ps tally) is go e =
          let f = followed room contours ps e in
          subst (Each rooms settings room (inputs xs ys fs ∷ contours)) (sym f.all_is) (next is (go (room - length ps) f.more f.is))

  pub first : (k : Refusal) (room : ℕ) (contours : List Inputs) → FirstRefused rooms settings k room contours → crunch_each rooms settings room contours ≡ refused k
  unfolding crunch_each
  first k room (inputs xs ys fs ∷ contours) (here e) = rw e refl
  first k room (inputs xs ys fs ∷ contours) (later {ps = ps} e l) = rw (e, first k (room - length ps) contours l) refl
  first k room [] x' = elim x' [ ]

-- ---- the contours of the new glyph

-- the part of a row that is n points long, and what is after it
module _ {B : Type 0} (f : List ℤ → B) (ps rest : Points) (at : ℕ) (row : List B) (e : drop at row ≡ map f (ps ++ rest)) where
  here_is : (end : ℕ) → end ≡ at + length ps → stretch at end row ≡ map f ps
  here_is end h =
      let n : end - at ≡ length ps = omega (arith, h) in
      rw (n, e) (ap (take (length ps)) (map-append f ps rest) ∙ take_at (map f ps) (map f rest) (length ps) (length-map ps f))

  after_is : (end : ℕ) → end ≡ at + length ps → drop end row ≡ map f rest
  after_is end h =
      let cut = drop_at (map f ps) (map f rest) (length ps) (length-map ps f) in
      rw h (sym (drop-drop (length ps) at row) ∙ rw e (ap (drop (length ps)) (map-append f ps rest) ∙ cut))

module _ (rooms : Edition.Rooms) (settings : Settings) where
  new_contours : (room at : ℕ) {olds : List Inputs} {news : List Points} → Each rooms settings room olds news → (xs ys : List ℤ) (fs : List ℕ) →
      drop at xs ≡ column 0 (together news) → drop at ys ≡ column 1 (together news) → drop at fs ≡ flags (together news) →
      contours_from at (ends_from at news) xs ys fs ≡ map contour_of news
  unfolding contours_from ends_from together
  new_contours room at none xs ys fs x y f = refl
  new_contours room at (next {xs = oxs} {ys = oys} {fs = ofs} {ps = ps} {more = more} e l) xs ys fs x y f =
      let some = some_point rooms room settings oxs oys ofs e in
      let end : at + length ps - 1 + 1 ≡ at + length ps = omega (arith, some) in
      let hx = here_is (λ (q : List ℤ). number q 0) ps (together more) at xs x (at + length ps - 1 + 1) end in
      let hy = here_is (λ (q : List ℤ). number q 1) ps (together more) at ys y (at + length ps - 1 + 1) end in
      let hf = here_is flag_of ps (together more) at fs f (at + length ps - 1 + 1) end in
      let ax = after_is (λ (q : List ℤ). number q 0) ps (together more) at xs x (at + length ps) refl in
      let ay = after_is (λ (q : List ℤ). number q 1) ps (together more) at ys y (at + length ps) refl in
      let af = after_is flag_of ps (together more) at fs f (at + length ps) refl in
      let rest = new_contours (room - length ps) (at + length ps) l xs ys fs ax ay af in
      λ k. inputs (hx k) (hy k) (hf k) ∷ (ap (λ (m : ℕ). contours_from m (ends_from (at + length ps) more) xs ys fs) end ∙ rest) k

-- ---- the whole

module _ (r : Rooms) (settings : Settings) (bytes bytes' : List ℕ) where
  rewritten_done : (g : Glyph) (news : List Points) → rewritten settings r.out g.instructions news ≡ done bytes' →
      written_of r.out (glyph_of news g.instructions) ≡ done bytes'
  rewritten_done g news e = by (not (settings_fine settings)) (ltb 65536 (length (together news))) e
    where
      by : (b c : Bool) → refuse NoSuchPenalty b (refuse TooLarge c (written_of r.out (glyph_of news g.instructions))) ≡ done bytes' →
          written_of r.out (glyph_of news g.instructions) ≡ done bytes'
      by true c e = absurd (let z : ◌≡◌ {A = ℕ} 0 1 = cc in omega arith)
      by false true e = absurd (let z : ◌≡◌ {A = ℕ} 0 1 = cc in omega arith)
      by false false e = e

  module _ (g : Glyph) (read : read_of r.read bytes ≡ done g) where
    crunched_so : (o : Outcome (List Points)) → crunch_each r.work settings (point_room r) (contours_of g) ≡ o →
        and_then o (rewritten settings r.out g.instructions) ≡ done bytes' → ContourByContour r settings bytes bytes'
    crunched_so (refused k) is e = absurd (let z : ◌≡◌ {A = ℕ} 0 1 = cc in omega arith)
    crunched_so (done news) is e =
        let all = each r.work settings (point_room r) (contours_of g) is in
        let ps = together news in
        let wrote = rewritten_done g news e in
        let was = read_says g r.read bytes read in
        let fit = news_16 r.work settings (point_room r) g (read_held g bytes was) all in
        record {
          old = g;
          read = was;
          new = glyph_of news g.instructions;
          written = wrote;
          says = says_new news g.instructions (counted_all r.work settings (point_room r) all) r.out bytes' fit wrote;
          contours = news;
          each = all;
          are = new_contours r.work settings (point_room r) 0 all (column 0 ps) (column 1 ps) (flags ps) refl refl refl;
          instructions = refl;
        }

  read_so : (o : Outcome Glyph) → read_of r.read bytes ≡ o → and_then o (crunched_of r settings) ≡ done bytes' → ContourByContour r settings bytes bytes'
  read_so (refused k) is e = absurd (let z : ◌≡◌ {A = ℕ} 0 1 = cc in omega arith)
  read_so (done g) is e = crunched_so g is (crunch_each r.work settings (point_room r) (contours_of g)) refl e

pub written_by_contours : WrittenByContours
unfolding crunch_glyph_of
written_by_contours r settings bytes bytes' e = read_so r settings bytes bytes' (read_of r.read bytes) refl e

pub only_too_large : OnlyTooLarge
only_too_large rooms settings room olds news all out instructions =
    only_large news instructions (counted_all rooms settings room all) (rises rooms settings room 0 all) out

pub refused_by_first : RefusedByFirst
unfolding crunch_glyph_of
refused_by_first r settings bytes g k read l = rw (read, first r.work settings k (point_room r) (contours_of g) l) refl
