-- Texts put one after the other, and a text put byte by byte. Assumes nothing.
use Prim.Native.Nat.{ℕ, suc, ◌+◌, ◌≤◌, ◌<◌, min}
use mathlib.Core.Bool.{Bool, true, false}
use mathlib.Core.List.{List, [], ◌∷◌, ◌++◌}
use mathlib.Core.Path.{◌≡◌, refl, sym, ap, ◌∙◌}
use native.Mathlib.Omega.{arith}
use borrow.Author.Tests.{ltb-true, ltb-false}
use lib.Dec.{ltb}
use native.Mathlib.Numerals.{add-one}
use lib.ListN.{length, get_or, drop, set, length-append, drop_of_length-le}
use lib.Seq.{sets, set_out, length-sets, drop-cons}
use Rattle.lines.specs.Text.{Put}

-- ---- stores

-- past the end nothing is stored
pub sets_out : {A : Type 0} (vs l : List A) (i : ℕ) → length l ≤ i → sets l i vs ≡ l
sets_out [] l i h = refl
sets_out {A} (v ∷ vs) l i h = ap (λ (k : List A). sets k (suc i) vs) (set_out l i v h) ∙ sets_out vs l (suc i) (omega arith)

-- so that places past the end are all the same
pub sets_same : (vs l : List ℕ) (i j : ℕ) → min i (length l) ≡ min j (length l) → sets l i vs ≡ sets l j vs
sets_same vs l i j e = by (ltb i (length l)) refl
  where
    by : (t : Bool) → ltb i (length l) ≡ t → sets l i vs ≡ sets l j vs
    by true h =
        let inside = ltb-true i (length l) h in
        let k : i ≡ j = omega arith in
        ap (λ (k : ℕ). sets l k vs) k
    by false h =
        let past = ltb-false i (length l) h in
        sets_out vs l i past ∙ sym (sets_out vs l j (omega arith))

pub sets_append : (a b l : List ℕ) (i : ℕ) → sets l i (a ++ b) ≡ sets (sets l i a) (i + length a) b
sets_append [] b l i =
    let k : i ≡ i + 0 = omega arith in
    ap (λ (k : ℕ). sets l k b) k
sets_append (v ∷ a) b l i =
    let k : suc i + length a ≡ i + suc (length a) = omega arith in
    sets_append a b (set l i v) (suc i) ∙ ap (λ (k : ℕ). sets (sets (set l i v) (suc i) a) k b) k

-- ---- texts

-- no text
pub nothing : (out : List ℕ) (at : ℕ) → at ≤ length out → Put out at [] out at
nothing out at h = record { held = refl; next = omega arith }

-- a text after another
pub joined : {out out₁ out₂ : List ℕ} {at r₁ r₂ : ℕ} {a b : List ℕ} → Put out at a out₁ r₁ → Put out₁ r₁ b out₂ r₂ → Put out at (a ++ b) out₂ r₂
joined {out} {out₁} {out₂} {at} {r₁} {r₂} {a} {b} p q =
    let same : length out₁ ≡ length out = ap length p.held ∙ length-sets out at a in
    let place = p.next in
    let n = q.next in
    record {
      held =
          q.held
          ∙ sets_same b out₁ r₁ (at + length a) (omega arith)
          ∙ ap (λ (l : List ℕ). sets l (at + length a) b) p.held
          ∙ sym (sets_append a b out at);
      next = simp length-append (omega arith);
    }

-- ---- one text after the other

-- `rest`, put from place a on, makes the whole text put from `at` on
pub record Going (out₀ : List ℕ) (at : ℕ) (whole out : List ℕ) (a : ℕ) (rest : List ℕ) : Type 0 where
  pub inside : a ≤ length out
  pub same : length out ≡ length out₀
  pub whole_by : (out' : List ℕ) (r : ℕ) → Put out a rest out' r → Put out₀ at whole out' r

pub begin : (out : List ℕ) (at : ℕ) (text : List ℕ) (a : ℕ) → a ≡ min at (length out) → Going out at text out a text
begin out at text a e = record {
  inside = omega arith;
  same = refl;
  whole_by = λ out' r p.
      let n = p.next in
      record { held = p.held ∙ sets_same text out a at (omega arith); next = omega arith };
}

pub more_text : {out₀ whole out out₁ : List ℕ} {at a a₁ : ℕ} (text rest : List ℕ) → Going out₀ at whole out a (text ++ rest) → Put out a text out₁ a₁ →
    Going out₀ at whole out₁ a₁ rest
more_text {out₀} {whole} {out} {out₁} {at} {a} {a₁} text rest g p =
    let same : length out₁ ≡ length out = ap length p.held ∙ length-sets out a text in
    let place = p.next in
    record {
      inside = omega arith;
      same = same ∙ g.same;
      whole_by = λ out' r q. g.whole_by out' r (joined p q);
    }

pub more : {out₀ whole out rest out₁ : List ℕ} {at a b a₁ : ℕ} → Going out₀ at whole out a (b ∷ rest) → Put out a (b ∷ []) out₁ a₁ → Going out₀ at whole out₁ a₁ rest
more {rest} {b} g p = more_text (b ∷ []) rest g p

pub done : {out₀ whole out : List ℕ} {at a : ℕ} → Going out₀ at whole out a [] → Put out₀ at whole out a
done {out₀} {whole} {out} {at} {a} g = g.whole_by out a (nothing out a g.inside)

-- the byte at place i of a text that is lent
pub next_of : {out₀ whole out out₁ : List ℕ} {at a a₁ : ℕ} (text : List ℕ) (i : ℕ) → i < length text →
    Going out₀ at whole out a (drop i text) → Put out a (get_or text i 0 ∷ []) out₁ a₁ → Going out₀ at whole out₁ a₁ (drop (i + 1) text)
next_of text i h g p = rw add-one (more (rw (drop-cons text i 0 h) at g) p)

pub all_of : {out₀ whole out : List ℕ} {at a : ℕ} (text : List ℕ) (i : ℕ) → length text ≤ i → Going out₀ at whole out a (drop i text) → Put out₀ at whole out a
all_of text i h g = done (rw (drop_of_length-le text h) at g)
