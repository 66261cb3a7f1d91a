-- What was crunched goes through the rows that the old points stood in, and is written. Assumes nothing.
use Rattle.std.specs.Prelude.{Result, Ok, Err}
use Rattle.refusals.specs.declared.refusal.Refusal.TheVariants.{TooLarge, NoSuchPenalty}
use Rattle.refusals.specs.declared.refusal.Refusal.{Refusal}
use Prim.Native.Nat.{ℕ, ◌≤◌, ◌<◌}
use native.Mathlib.Nat.{le_trans}
use native.Mathlib.Omega.{arith}
use mathlib.Core.Bool.{Bool, true, false, not}
use mathlib.Core.List.{List, ◌++◌}
use mathlib.Core.Path.{◌≡◌, refl, sym, ap, subst, ◌∙◌}
use borrow.Author.Tests.{lt-ltb, le-ltb, ltb-false}
use lib.Dec.{ltb}
use lib.IntN.{ℤ}
use lib.ListN.{length, take, drop, length-map, length-append}
use lib.Seq.{length-take-le, take_at, take-append-le}
use Rattle.rows.specs.Lent.{Inputs}
use Rattle.settings.specs.Settings.{settings_fine}
use Rattle.settings.specs.declared.Settings.{Settings}
use Rattle.edition.specs.Edition.{Rooms}
use Rattle.contour.specs.Points.{Points}
use Rattle.contour.specs.Implied.{number}
use Rattle.contour.specs.Output.{outputs, with_points, column, flag_of, flags, front}
use Rattle.contour.specs.Writing.{Holds}
use Rattle.contour.specs.Laws.{holds_count}
use Rattle.glyf.specs.Layout.{Glyph, glyph, Outcome, done, refused, refuse, written_of}
use Rattle.glyfwrite.specs.Writes.{Writes}
use Rattle.glyphs.specs.Glyphs.{and_then, crunch_each, crunch_rows, numbered, rewritten, glyph_of, together, ends_from}
use Rattle.glyphs.specs.Stands.{Apart, Gathers, FitsIn, judged_by, Placed, Copied, not_copied, copied, Copies, Renews, not_renewed, renewed, Held, Stood}

-- ---- `copy_points`

copied_as : {row : Points} {xs ys : List ℤ} {fs : List ℕ} {o o' : Outcome ℕ} {r : Result ℕ Refusal} → o ≡ o' → Copied row xs ys fs o' r → Copied row xs ys fs o r
copied_as {row} {xs} {ys} {fs} {r = r} e h = subst (λ (x : Outcome ℕ). Copied row xs ys fs x r) (sym e) h

module _ (settings : Settings) (row : Points) (n : ℕ) where
  by_tests : {unfit many : Bool} → not (settings_fine settings) ≡ unfit → ltb 65536 n ≡ many → judged_by settings n ≡ refuse NoSuchPenalty unfit (refuse TooLarge many (done n))
  by_tests f m = λ i. refuse NoSuchPenalty (f i) (refuse TooLarge (m i) (done n))

  module _ (xs ys : List ℤ) (fs : List ℕ) {fine : Bool} (e : fine ≡ settings_fine settings) where
    pub not_fine : not fine ≡ true → Copies settings row n xs ys fs (Err NoSuchPenalty)
    not_fine f = copied_as (by_tests (sym (ap not e) ∙ f) refl) (not_copied refl)

    module _ (f : not fine ≡ false) where
      pub too_many : 65536 < n → Copies settings row n xs ys fs (Err TooLarge)
      too_many h = copied_as (by_tests (sym (ap not e) ∙ f) (lt-ltb 65536 n h)) (not_copied refl)

      pub all_copied : n ≤ 65536 → Placed (take n row) n xs ys fs → Copies settings row n xs ys fs (Ok n)
      all_copied h placed = copied_as (by_tests (sym (ap not e) ∙ f) (le-ltb 65536 n h)) (copied refl placed)

-- the first n places of a row that the points were copied to
first_copied : {A : Type 0} (n : ℕ) (s row : List A) {row' : List A} → length s ≡ n → row' ≡ front s row → take n row' ≡ s
first_copied n s row e h = ap (take n) h ∙ take_at s (drop (length s) row) n e

module _ (row : Points) (n : ℕ) (few : n ≤ length row) (xs ys : List ℤ) (fs : List ℕ) {xs' ys' : List ℤ} {fs' : List ℕ}
    (e : outputs xs' ys' fs' ≡ with_points (take n row) (outputs xs ys fs)) where
  many : length (take n row) ≡ n
  many = length-take-le n row few

  copied_xs : take n xs' ≡ column 0 (take n row)
  copied_xs = let h : xs' ≡ front (column 0 (take n row)) xs = cc in first_copied n _ xs (length-map (take n row) (λ (q : List ℤ). number q 0) ∙ many) h

  copied_ys : take n ys' ≡ column 1 (take n row)
  copied_ys = let h : ys' ≡ front (column 1 (take n row)) ys = cc in first_copied n _ ys (length-map (take n row) (λ (q : List ℤ). number q 1) ∙ many) h

  copied_flags : take n fs' ≡ flags (take n row)
  copied_flags = let h : fs' ≡ front (flags (take n row)) fs = cc in first_copied n _ fs (length-map (take n row) flag_of ∙ many) h

  pub all_placed : n ≤ length xs' → n ≤ length ys' → n ≤ length fs' → Placed (take n row) n xs' ys' fs'
  all_placed x y f = record { in_xs = x; in_ys = y; in_flags = f; are_xs = copied_xs; are_ys = copied_ys; are_flags = copied_flags }

-- ---- `copy_gathered`

renews_as : {ends : List ℕ} {xs ys : List ℤ} {fs : List ℕ} {o o' : Outcome (List Points)} {r : Result ℕ Refusal} → o ≡ o' → Renews ends xs ys fs o' r →
    Renews ends xs ys fs o r
renews_as {ends} {xs} {ys} {fs} {r = r} e h = subst (λ (x : Outcome (List Points)). Renews ends xs ys fs x r) (sym e) h

-- the tests are those of the number of points
by_count : (settings : Settings) (row : Points) (contours : List Points) (n : ℕ) → Holds row n (together contours) → {unfit many : Bool} →
    not (settings_fine settings) ≡ unfit → ltb 65536 n ≡ many → numbered settings contours ≡ refuse NoSuchPenalty unfit (refuse TooLarge many (done contours))
by_count settings row contours n held f m =
    let h : ltb 65536 (length (together contours)) ≡ ltb 65536 n = ap (ltb 65536) (holds_count held) in
    λ i. refuse NoSuchPenalty (f i) (refuse TooLarge ((h ∙ m) i) (done contours))

module _ (settings : Settings) (row : Points) {xs ys : List ℤ} {fs ends : List ℕ} where
  pub gathered_none : {o : Outcome (List Points)} {g : Result ℕ Refusal} {k : Refusal} → Gathers row ends o g → g ≡ Err k →
      Renews ends xs ys fs (and_then o (numbered settings)) (Err k)
  gathered_none (Gathers.no {k = j} e) h = not_renewed {k = j} (sym h ∙ e)
  gathered_none (Gathers.yes e held n) h = absurd (let z : ◌≡◌ {A = ℕ} 0 1 = cc in omega arith)

  renewed_by : (contours : List Points) (n : ℕ) → Holds row n (together contours) → (n ≤ 65536 → ends ≡ ends_from 0 contours) → {r : Result ℕ Refusal} →
      (unfit many : Bool) → not (settings_fine settings) ≡ unfit → ltb 65536 n ≡ many →
      Copied row xs ys fs (refuse NoSuchPenalty unfit (refuse TooLarge many (done n))) r → Renews ends xs ys fs (numbered settings contours) r
  renewed_by contours n held ends_are true many f m (not_copied e) = renews_as (by_count settings row contours n held f m) (not_renewed {k = NoSuchPenalty} e)
  renewed_by contours n held ends_are false true f m (not_copied e) = renews_as (by_count settings row contours n held f m) (not_renewed {k = TooLarge} e)
  renewed_by contours n held ends_are false false f m (copied e placed) =
      renews_as (by_count settings row contours n held f m)
      (renewed {n = n} e (ends_are (ltb-false 65536 n m)) (subst (λ (ps : Points). Placed ps n xs ys fs) held.are placed))

  pub gathered_all : {o : Outcome (List Points)} {g r : Result ℕ Refusal} {n : ℕ} → Gathers row ends o g → g ≡ Ok n → Copies settings row n xs ys fs r →
      Renews ends xs ys fs (and_then o (numbered settings)) r
  gathered_all (Gathers.no e) h c = absurd (let z : ◌≡◌ {A = ℕ} 0 1 = cc in omega arith)
  gathered_all {r = r} {n} (Gathers.yes {contours = contours} {n = m} e held ends_are) h c =
      let same : n ≡ m = cc in
      renewed_by contours m held ends_are (not (settings_fine settings)) (ltb 65536 m) refl refl
      (subst (λ (k : ℕ). Copied row xs ys fs (judged_by settings k) r) same c)

pub fits_in : (points xs ys fs : ℕ) {x y : Result ℕ Refusal} → x ≡ y → FitsIn points xs ys fs x → FitsIn points xs ys fs y
fits_in points xs ys fs e f = subst (FitsIn points xs ys fs) e f

-- ---- `crunch_rows`

-- a row that was lent up to a place
module _ {A : Type 0} (row sub : List A) (k : ℕ) (inside : k ≤ length row) (kept : length sub ≡ length (take k row)) where
  pub first_is : take k (sub ++ drop k row) ≡ sub
  first_is = take_at sub (drop k row) k (kept ∙ length-take-le k row inside)

pub apart : (ends : List ℕ) (xs ys : List ℤ) (fs : List ℕ) {contours count : ℕ} → Held ends (length xs) (length ys) (length fs) contours count →
    Apart (take contours ends) (length (take count xs)) (length (take count ys)) (length (take count fs))
apart ends xs ys fs {count = count} s = record {
  rise = s.rise;
  as_xs = length-take-le count xs s.in_xs ∙ s.counted;
  as_ys = length-take-le count ys s.in_ys ∙ s.counted;
  as_flags = length-take-le count fs s.in_flags ∙ s.counted;
}

held_in : {sub : Points} (rest : Points) {n : ℕ} {ps : Points} → Holds sub n ps → Holds (sub ++ rest) n ps
held_in {sub} rest {n} h = record { within = omega (arith, h.within, length-append sub rest); are = take-append-le n sub rest h.within ∙ h.are }

module _ {sub : Points} {ends : List ℕ} {g : Result ℕ Refusal} (rest : Points) where
  pub gathered_in : {o : Outcome (List Points)} {ends' : List ℕ} → ends' ≡ ends → Gathers sub ends o g → Gathers (sub ++ rest) ends' o g
  gathered_in e (Gathers.no f) = Gathers.no f
  gathered_in e (Gathers.yes f h numbered) = Gathers.yes f (held_in rest h) (λ few. e ∙ numbered few)

  pub gathered_fits : (xs ys fs : ℕ) {o : Outcome (List Points)} → Gathers sub ends o g →
      (length sub ≤ xs) × (length sub ≤ ys) × (length sub ≤ fs) → FitsIn (length (sub ++ rest)) xs ys fs g
  gathered_fits xs ys fs (Gathers.no f) few = subst (FitsIn (length (sub ++ rest)) xs ys fs) (sym f) tt
  gathered_fits xs ys fs (Gathers.yes f h numbered) few =
      subst (FitsIn (length (sub ++ rest)) xs ys fs) (sym f)
      ((held_in rest h).within, le_trans h.within few.0, le_trans h.within few.1, le_trans h.within few.2)

pub at_room : (rooms : Rooms) (settings : Settings) (contours : List Inputs) {row : Points} {ends : List ℕ} {g : Result ℕ Refusal} {m n : ℕ} → m ≡ n →
    Gathers row ends (crunch_each rooms settings m contours) g → Gathers row ends (crunch_each rooms settings n contours) g
at_room rooms settings contours {row} {ends} {g} e h = subst (λ (k : ℕ). Gathers row ends (crunch_each rooms settings k contours) g) e h

-- ---- what follows on rows that were renewed

-- they hold the new contours
pub record Anew (o : Outcome (List Points)) (ends : List ℕ) (n : ℕ) (xs ys : List ℤ) (fs : List ℕ) : Type 0 where
  pub contours : List Points
  pub is : o ≡ done contours
  pub ends_are : ends ≡ ends_from 0 contours
  pub placed : Placed (together contours) n xs ys fs

pub none_anew : {ends : List ℕ} {xs ys : List ℤ} {fs : List ℕ} {o : Outcome (List Points)} {g : Result ℕ Refusal} {k : Refusal} → Renews ends xs ys fs o g →
    g ≡ Err k → o ≡ refused k
none_anew {k = k} (not_renewed {k = j} e) h = let same : j ≡ k = cc in ap refused same
none_anew (renewed e are placed) h = absurd (let z : ◌≡◌ {A = ℕ} 0 1 = cc in omega arith)

pub all_anew : {ends : List ℕ} {xs ys : List ℤ} {fs : List ℕ} {o : Outcome (List Points)} {g : Result ℕ Refusal} {n : ℕ} → Renews ends xs ys fs o g →
    g ≡ Ok n → Anew o ends n xs ys fs
all_anew (not_renewed e) h = absurd (let z : ◌≡◌ {A = ℕ} 0 1 = cc in omega arith)
all_anew {xs = xs} {ys} {fs} {n = n} (renewed {contours = contours} {n = m} e are placed) h = let same : m ≡ n = cc in record {
  contours = contours;
  is = refl;
  ends_are = are;
  placed = subst (λ (k : ℕ). Placed (together contours) k xs ys fs) same placed;
}

-- ---- `crunch_read`

pub held_of : {w : Glyph} {contours count size : ℕ} → Stood w contours count size →
    Held w.ends (length w.xs) (length w.ys) (length w.flags) contours count
held_of s = record { in_ends = s.in_ends; in_xs = s.in_xs; in_ys = s.in_ys; in_flags = s.in_flags; rise = s.rise; counted = s.counted }

module _ (settings : Settings) (instructions out : List ℕ) where
  abbrev last : List Points → Outcome (List ℕ)
  last contours = written_of (length out) (glyph_of contours instructions)

  -- 16 and 14 are tested before anything is written
  tested : (contours : List Points) → rewritten settings (length out) instructions contours ≡ and_then (numbered settings contours) last
  tested contours = by (not (settings_fine settings)) (ltb 65536 (length (together contours)))
    where
      by : (unfit many : Bool) → refuse NoSuchPenalty unfit (refuse TooLarge many (last contours)) ≡ and_then (refuse NoSuchPenalty unfit (refuse TooLarge many (done contours))) last
      by true many = refl
      by false true = refl
      by false false = refl

  all_tested : (o : Outcome (List Points)) → and_then o (rewritten settings (length out) instructions) ≡ and_then (and_then o (numbered settings)) last
  all_tested (done contours) = tested contours
  all_tested (refused k) = refl

  abbrev Written : Outcome (List Points) → List ℕ → Result ℕ Refusal → Type 0
  Written o out' r = Writes (and_then o (rewritten settings (length out) instructions)) out out' r

  written_as : (o : Outcome (List Points)) {a : Outcome (List ℕ)} {out' : List ℕ} {r : Result ℕ Refusal} → and_then (and_then o (numbered settings)) last ≡ a →
      Writes a out out' r → Written o out' r
  written_as o {out' = out'} {r} e w = subst (λ (x : Outcome (List ℕ)). Writes x out out' r) (sym (all_tested o ∙ e)) w

  module _ (rooms : Rooms) (room : ℕ) (contours : List Inputs) where
    pub none_written : {k : Refusal} → crunch_rows rooms settings room contours ≡ refused k → Written (crunch_each rooms settings room contours) out (Err k)
    none_written {k} e =
        written_as (crunch_each rooms settings room contours) {a = refused k} (ap (λ (x : Outcome (List Points)). and_then x last) e)
        (record { answer = refl; left = refl })

    pub all_written : {ends : List ℕ} {n : ℕ} {xs ys : List ℤ} {fs : List ℕ} → Anew (crunch_rows rooms settings room contours) ends n xs ys fs →
        {out' : List ℕ} {r : Result ℕ Refusal} → Writes (written_of (length out) (glyph ends (take n xs) (take n ys) (take n fs) instructions)) out out' r →
        Written (crunch_each rooms settings room contours) out' r
    all_written a w =
        let p = a.placed in
        written_as (crunch_each rooms settings room contours)
        (ap (λ (x : Outcome (List Points)). and_then x last) a.is
        ∙ (λ i. written_of (length out) (glyph (sym a.ends_are i) (sym p.are_xs i) (sym p.are_ys i) (sym p.are_flags i) instructions)))
        w
