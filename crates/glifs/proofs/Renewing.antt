-- Contours that were read are crunched, and written into the file. Assumes nothing.
use Prim.Native.Nat.{ℕ}
use mathlib.Core.Bool.{Bool, true, false, not, ◌&&◌, false≢true}
use mathlib.Core.List.{List}
use mathlib.Core.Path.{◌≡◌, refl, sym, ap, subst, ◌∙◌}
use borrow.Author.Tests.{eqb-true}
use lib.Dec.{eqb}
use lib.IntN.{ℤ}
use lib.ListN.{length, take}
use lib.Seq.{length-take-le}
use Rattle.std.specs.Prelude.{Result, Err}
use Rattle.refusals.specs.declared.refusal.Refusal.{Refusal}
use Rattle.refusals.specs.declared.refusal.Refusal.TheVariants.{UnevenRows}
use Rattle.settings.specs.declared.Settings.{Settings}
use Rattle.contour.specs.Points.{Points}
use Rattle.edition.specs.Edition as Edition
use Rattle.glyf.specs.Layout.{Outcome, done, refused, refuse, count_of, rising}
use Rattle.glyphs.specs.Glyphs.{and_then, contours_from, least_of, crunch_rows}
use Rattle.glyphs.specs.Stands.{Held}
use Rattle.glyphs.proofs.Writing.{Anew}
use Rattle.glifwrite.specs.Writes.{GivenRows, given}
use Rattle.glifwrite.specs.Entry as Written
use Rattle.glifs.specs.Glifs.{belong, given_of, renewed_of}
use Rattle.glifs.specs.Stands.{InRows, Writes}

-- ---- what the test says

both_hold : (a b : Bool) → not (a && b) ≡ false → (a ≡ true) × (b ≡ true)
both_hold true true h = (refl, refl)
both_hold true false h = absurd (false≢true (sym h))
both_hold false b h = absurd (false≢true (sym h))

module _ (ends : List ℕ) (xs ys : List ℤ) (fs : List ℕ) {contours count : ℕ} (in_rows : InRows (length ends) (length xs) (length ys) (length fs) contours count) where
  counted : length (take count xs) ≡ count
  counted = length-take-le count xs in_rows.in_xs

  module _ {t : Bool} (e : t ≡ belong (take contours ends) count) where
    pub held : not t ≡ false → Held ends (length xs) (length ys) (length fs) contours count
    unfolding belong
    held h =
        let b = both_hold (rising (take contours ends)) (eqb count (count_of (take contours ends))) (sym (ap not e) ∙ h) in
        record {
          in_ends = in_rows.in_ends;
          in_xs = in_rows.in_xs;
          in_ys = in_rows.in_ys;
          in_flags = in_rows.in_flags;
          rise = b.0;
          counted = eqb-true count (count_of (take contours ends)) b.1;
        }

    module _ (work : Edition.Rooms) (settings : Settings) (np : ℕ) where
      abbrev crunched : Outcome (List Points)
      crunched =
          crunch_rows work settings (least_of (length xs) (length ys) (length fs) np)
          (contours_from 0 (take contours ends) (take count xs) (take count ys) (take count fs))

      abbrev renewed : Outcome GivenRows
      renewed =
          renewed_of work settings (length xs) (length ys) (length fs) np (given (take contours ends) (take count xs) (take count ys) (take count fs))

      tested : {b : Bool} → not t ≡ b → renewed ≡ refuse UnevenRows b (and_then crunched (λ cs. done (given_of cs)))
      tested h =
          let same : belong (take contours ends) (length (take count xs)) ≡ t = ap (belong (take contours ends)) counted ∙ sym e in
          λ i. refuse UnevenRows ((ap not same ∙ h) i) (and_then crunched (λ cs. done (given_of cs)))

      module _ (bytes out : List ℕ) where
        pub not_held : not t ≡ true → Writes bytes out out renewed (Err UnevenRows)
        not_held h = subst (λ (o : Outcome GivenRows). Writes bytes out out o (Err UnevenRows)) (sym (tested h)) (record { answer = refl; left = refl })

        module _ (h : not t ≡ false) where
          after : {o : Outcome (List Points)} → crunched ≡ o → renewed ≡ and_then o (λ cs. done (given_of cs))
          after c = tested h ∙ ap (λ (o : Outcome (List Points)). and_then o (λ cs. done (given_of cs))) c

          pub not_crunched : {k : Refusal} → crunched ≡ refused k → Writes bytes out out renewed (Err k)
          not_crunched {k} c = subst (λ (o : Outcome GivenRows). Writes bytes out out o (Err k)) (sym (after c)) (record { answer = refl; left = refl })

          pub all_crunched : {ends' : List ℕ} {n : ℕ} {xs' ys' : List ℤ} {fs' : List ℕ} → Anew crunched ends' n xs' ys' fs' → {out' : List ℕ} {r : Result ℕ Refusal} →
              Written.Promise bytes (given ends' (take n xs') (take n ys') (take n fs')) (record { entry = out; exit = out' }) r → Writes bytes out out' renewed r
          all_crunched {ends'} {n} {xs'} {ys'} {fs'} a {out'} {r} p =
              let q = a.placed in
              let is : renewed ≡ done (given ends' (take n xs') (take n ys') (take n fs')) =
              after a.is ∙ (λ i. done (given (sym a.ends_are i) (sym q.are_xs i) (sym q.are_ys i) (sym q.are_flags i))) in
              subst (λ (o : Outcome GivenRows). Writes bytes out out' o r) (sym is) (record { answer = p.answer; left = p.left })
