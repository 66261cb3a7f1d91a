-- 13 and 14 of a description that stands whole. Assumes nothing.
use Prim.Native.Nat.{ℕ}
use mathlib.Core.Bool.{Bool, true, false, false≢true}
use mathlib.Core.List.{List}
use mathlib.Core.Path.{◌≡◌, sym, ap, ◌∙◌}
use lib.ListN.{take, drop}
use Rattle.refusals.specs.declared.refusal.Refusal.TheVariants.{EndsNotRising, TooLarge}
use Rattle.glyf.specs.Layout.{done, refused, Taken, taken, cut, rising, described}
use Rattle.glyfread.specs.Steps.{words_at}
use Rattle.glyfread.specs.Walks.{Coords, coords, start_at, ahead, fits, xs_in, ys_in, on_in}
use Rattle.glyfread.specs.Reads.{judged_as, standing, points_at, Stands, Judged}
use Rattle.glyfread.specs.declared.read.Places.{Places}
use Rattle.glyfread.specs.declared.walk.Walk.{Walk}

module _ (es is : List ℕ) where
  falls : (t : Taken Coords) → standing t ≡ true → rising es ≡ false → judged_as es is t ≡ refused EndsNotRising
  falls (taken (coords fs xs ys) end) s h = rw h
  falls cut s h = absurd (false≢true s)

  leaves : (t : Taken Coords) → standing t ≡ true → rising es ≡ true → fits t ≡ false → judged_as es is t ≡ refused TooLarge
  unfolding fits
  leaves (taken (coords fs xs ys) end) s h k = rw (h, k)
  leaves cut s h k = absurd (false≢true s)

  stays : (t : Taken Coords) → standing t ≡ true → rising es ≡ true → fits t ≡ true →
      judged_as es is t ≡ done (record { ends = es; instructions = is; xs = xs_in t; ys = ys_in t; flags = on_in t })
  unfolding fits
  stays (taken (coords fs xs ys) end) s h k = rw (h, k)
  stays cut s h k = absurd (false≢true s)

module _ {bs : List ℕ} {p : Places} (s : Stands bs p) {b : Bool} (is : b ≡ rising (words_at bs 10 p.contours)) where
  pub not_rising : b ≡ false → described bs ≡ refused EndsNotRising
  not_rising e = s.says ∙ falls (words_at bs 10 p.contours) (take p.size (drop p.code bs)) (points_at bs p) s.points_stand (sym is ∙ e)

  module _ (e : b ≡ true) {w : Walk} (from : w ≡ start_at p.flags p.xs p.ys) {f : Bool} (fit : f ≡ fits (ahead p.points bs w)) where
    fit_is : f ≡ fits (points_at bs p)
    fit_is = fit ∙ ap (λ (v : Walk). fits (ahead p.points bs v)) from

    pub not_fitting : f ≡ false → described bs ≡ refused TooLarge
    not_fitting h = s.says ∙ leaves (words_at bs 10 p.contours) (take p.size (drop p.code bs)) (points_at bs p) s.points_stand (sym is ∙ e) (sym fit_is ∙ h)

    pub judged : f ≡ true → Judged bs p
    judged h = record {
      ends_inside = s.ends_inside;
      code_inside = s.code_inside;
      fine = sym fit_is ∙ h;
      says = s.says ∙ stays (words_at bs 10 p.contours) (take p.size (drop p.code bs)) (points_at bs p) s.points_stand (sym is ∙ e) (sym fit_is ∙ h);
    }
