-- A file copied byte by byte, and what writing leaves. Assumes nothing.
use Prim.Native.Nat.{ℕ, ◌+◌, ◌-◌, ◌≤◌}
use mathlib.Core.Bool.{Bool, true, false}
use mathlib.Core.List.{List}
use mathlib.Core.Path.{◌≡◌, ap, ◌∙◌}
use native.Mathlib.Numerals.{add-one}
use native.Mathlib.Omega.{arith}
use lib.Dec.{eqb, ltb}
use Rattle.std.specs.Prelude.{Option, Some, None, is_some, Result}
use Rattle.std.specs.Option.{option_or}
use Rattle.refusals.specs.declared.refusal.Refusal.{Refusal}
use Rattle.refusals.specs.declared.refusal.Refusal.TheVariants.{OutputTooShort}
use lib.IntN.{ℤ}
use lib.ListN.{length, replicate}
use Rattle.gliftext.specs.Pick.{pick, both, more}
use Rattle.glif.specs.Scan.{pass, turned, scanned, Judged, judged, judged_of}
use Rattle.glif.specs.declared.scan.Scan.{Scan}
use Rattle.glif.specs.declared.scan.Totals.{Totals}
use Rattle.glifwrite.specs.Puts.{Putting, put, put_range}
use Rattle.glifwrite.specs.Contours.{end_at, start_of, put_to, rows_refused}
use Rattle.glifwrite.specs.Writes.{GivenRows, given, no_points, read_to, Copying, copying, no_copy, copy_on, copy_to, write_all}
use Rattle.glifwrite.specs.Writes.{place_in, row_in, totals_in, refused_by, file_in, refusal_of, answer_as, refusal_in, answer_of, left_in}
use Rattle.glifwrite.specs.declared.write.Copy.{Copy}

pub copy_is : (bs ends : List ℕ) (xs ys : List ℤ) (fs : List ℕ) (i : ℕ) (s t : Scan) (c : Copy) (out : List ℕ) {opens closes : Bool} {tag next stop a
    last first end at count from : ℕ}
    {out₁ out₂ : List ℕ} → opens ≡ both (eqb s.tree.level 2) (eqb t.tree.level 3) → closes ≡ both (eqb s.tree.level 3) (eqb t.tree.level 2) →
    tag ≡ pick (eqb t.text.state 15) i c.tag → next ≡ more i → stop ≡ pick opens next c.from →
    put a out₁ ≡ put_range bs c.from (stop - c.from) (put c.at out) → last ≡ end_at ends c.k → end ≡ pick opens last 0 → first ≡ start_of ends c.k →
    put at out₂ ≡ put_to xs ys fs first end (end - first) (put a out₁) → from ≡ pick closes tag c.from → count ≡ pick opens (more c.k) c.k →
    copying (record { from = from; tag = tag; k = count; at = at }) out₂ ≡ copy_on bs (given ends xs ys fs) i s t (copying c out)
unfolding copy_on
copy_is bs ends xs ys fs i s t c out e₁ e₂ e₃ e₄ e₅ e₆ e₇ e₈ e₉ f₁ f₂ f₃ = rw (f₂, f₃, e₂, e₃, ← e₁, ← e₄, ← e₅, ← e₆, ← e₇, ← e₈, ← e₉, ← f₁)

pub copy_starts : (bs : List ℕ) (g : GivenRows) (out : List ℕ) {c : Copy} → c ≡ no_copy → copying c out ≡ copy_to bs g 0 (copying no_copy out)
unfolding copy_to
copy_starts bs g out e = rw e

module _ (bs : List ℕ) (g : GivenRows) (q₀ : Copying) where
  pub copy_more : (i : ℕ) {s t : Scan} {ns ns' : List ℕ} {ps ps' : List (List ℕ)} {q r : Copying} → pass s ns ps ≡ read_to bs i → pass t ns' ps' ≡
      turned bs i (pass s ns ps) →
      q ≡ copy_to bs g i q₀ → r ≡ copy_on bs g i s t q → r ≡ copy_to bs g (i + 1) q₀
  unfolding copy_to scanned
  copy_more i a b d e = e ∙ rw (add-one i, ← d, ← a, ← b)

pub copy_all : (bs : List ℕ) (g : GivenRows) (n : ℕ) (out₀ : List ℕ) {i : ℕ} {c : Copy} {out : List ℕ} {r : Putting} → i ≤ n → n ≤ i →
    copying c out ≡ copy_to bs g i (copying no_copy out₀) → r ≡ put_range bs c.from (n - c.from) (put c.at out) → r ≡ write_all bs g n out₀
unfolding write_all
copy_all bs g n out₀ {i} h k e f =
    let same : i ≡ n = omega arith in
    f ∙ rw (← same, ← e)

-- at most so many bytes are read
pub few : (t : Bool) {n m : ℕ} → m ≡ pick t 0 n → m ≤ n
unfolding pick
few true {n} {m} e = omega arith
few false {n} {m} e = omega arith

module _ (bytes ends : List ℕ) (xs ys : List ℤ) (fs out : List ℕ) {f : Totals} {p : List (List ℕ)} {k nine last : Option Refusal} {n size m place : ℕ} {nothing out' :
    List ℕ} {r : Result ℕ Refusal}
    (found : judged f p ≡ judged_of bytes no_points) (refused : k ≡ rows_refused f.refusal f.contours ends (length xs) (length ys) (length fs))
    (many : n ≡ pick (is_some k) 0 (length bytes)) (measured : put size nothing ≡ write_all bytes (given ends xs ys fs) n (replicate 1 0))
    (short : nine ≡ pick (ltb (length out) size) (Some OutputTooShort) None) (all : last ≡ option_or k nine) (most : m ≡ pick (is_some last) 0 (length bytes))
    (written : put place out' ≡ write_all bytes (given ends xs ys fs) m out) (answer : r ≡ answer_as last size) where
  abbrev g : GivenRows
  g = given ends xs ys fs

  abbrev refusal : Option Refusal
  refusal = refused_by (file_in bytes) g

  is_refusal : k ≡ refusal
  is_refusal = refused ∙ ap (λ (j : Judged). refused_by (totals_in j) g) found

  is_size : size ≡ place_in (write_all bytes g (pick (is_some refusal) 0 (length bytes)) (replicate 1 0))
  is_size = ap place_in measured ∙ ap (λ (v : ℕ). place_in (write_all bytes g v (replicate 1 0))) (many ∙ ap (λ (o : Option Refusal). pick (is_some o) 0 (length bytes))
      is_refusal)

  is_last : last ≡ refusal_in bytes g (length out)
  unfolding refusal_of
  is_last = all ∙ rw (short, is_size, is_refusal)

  pub write_answer : r ≡ answer_of bytes g (length out)
  write_answer = answer ∙ rw (is_last, is_size)

  pub write_left : out' ≡ left_in bytes g (length out) out
  write_left = ap row_in written ∙ ap (λ (v : ℕ). row_in (write_all bytes g v out)) (most ∙ ap (λ (o : Option Refusal). pick (is_some o) 0 (length bytes)) is_last)
