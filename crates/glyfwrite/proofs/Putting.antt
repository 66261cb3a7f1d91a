-- Texts put one after the other, and a loop that puts a text part by part. Assumes nothing.
use Prim.Native.Nat.{ℕ, suc, ◌+◌, ◌/◌, ◌%◌, ◌≤◌, ◌<◌}
use mathlib.Core.List.{List, [], ◌∷◌, ◌++◌, map}
use mathlib.Core.Path.{◌≡◌, refl, sym, ap, ◌∙◌}
use native.Mathlib.Omega.{arith}
use native.Mathlib.Numerals.{add-one}
use lib.ListN.{length, get_or, drop, set, length-append, drop_of_length-le}
use lib.Seq.{sets, set_out, length-sets, drop-cons}
use Rattle.glyf.specs.Layout.{word_bytes, joined}
use Rattle.glyfwrite.specs.Puts.{Put}

sets_append : (a b out : List ℕ) (at : ℕ) → sets out at (a ++ b) ≡ sets (sets out at a) (at + length a) b
sets_append [] b out at = let e : at + 0 ≡ at = omega arith in rw e
sets_append (v ∷ a) b out at =
    let e : at + suc (length a) ≡ suc at + length a = omega arith in
    sets_append a b (set out at v) (suc at) ∙ rw e

pub same_row : {out text out' : List ℕ} {at r : ℕ} → Put out at text out' r → length out' ≡ length out
same_row {out} {text} {out'} {at} p = ap length p.held ∙ length-sets out at text

-- nothing put
pub nothing : (out : List ℕ) (at : ℕ) → Put out at [] out at
nothing out at = record { held = refl; next = omega arith }

-- a byte past the end is not put
pub past : (out : List ℕ) (at b : ℕ) → length out ≤ at → Put out at (b ∷ []) out (at + 1)
past out at b h = record { held = sym (set_out out at b h); next = refl }

-- one text, then another
pub then : {out a mid b out' : List ℕ} {at m r : ℕ} → Put out at a mid m → Put mid m b out' r → Put out at (a ++ b) out' r
then {out} {a} {mid} {b} {out'} {at} {m} {r} p q = record {
  held = q.held ∙ rw (p.next, p.held) (sym (sets_append a b out at));
  next = omega (arith, p.next, q.next, length-append a b);
}

-- the places before `at` are put: the rest, put from here, makes the whole
pub record Going (out₀ : List ℕ) (from : ℕ) (text out : List ℕ) (at : ℕ) (rest : List ℕ) : Type 0 where
  pub same : length out ≡ length out₀
  pub whole : (out' : List ℕ) (r : ℕ) → Put out at rest out' r → Put out₀ from text out' r

pub begin : (out : List ℕ) (from : ℕ) (text : List ℕ) → Going out from text out from text
begin out from text = record { same = refl; whole = λ out' r p. p }

-- one part more
pub more : {out₀ text out rest a later out' : List ℕ} {from at r : ℕ} → Going out₀ from text out at rest → rest ≡ a ++ later →
    Put out at a out' r → Going out₀ from text out' r later
more {out₀} {text} {out} {rest} {a} {later} {out'} {from} {at} {r} g e p = record {
  same = same_row p ∙ g.same;
  whole = λ end k q. g.whole end k (rw e (then p q));
}

-- none is left
pub all : {out₀ text out rest : List ℕ} {from at : ℕ} → Going out₀ from text out at rest → rest ≡ [] → Put out₀ from text out at
all {out₀} {text} {out} {rest} {from} {at} g e = g.whole out at (rw e (nothing out at))

-- ---- words and rows

-- the two bytes of a word, as std gives them
pub word_put : (v : ℕ) → v < 65536 → {bytes : List ℕ} {m r at : ℕ} {out mid out' : List ℕ} → bytes ≡ v / 256 % 256 ∷ v % 256 ∷ [] →
    Put out at (get_or bytes 0 0 ∷ []) mid m → Put mid m (get_or bytes 1 0 ∷ []) out' r → Put out at (word_bytes v) out' r
word_put v h {bytes} e p q =
    let high : v / 256 % 256 ≡ v / 256 = omega arith in
    rw (e, high) at (then p q)

module _ (row : List ℕ) (i : ℕ) (h : i < length row) where
  pub next_byte : drop i row ≡ (get_or row i 0 ∷ []) ++ drop (i + 1) row
  next_byte = rw (add-one, drop-cons row i 0 h)

  pub next_word : joined (map word_bytes (drop i row)) ≡ word_bytes (get_or row i 0) ++ joined (map word_bytes (drop (i + 1) row))
  unfolding joined
  next_word = rw (add-one, drop-cons row i 0 h)

pub no_byte : (row : List ℕ) (i : ℕ) → length row ≤ i → drop i row ≡ []
no_byte row i h = drop_of_length-le row h

pub no_word : (row : List ℕ) (i : ℕ) → length row ≤ i → joined (map word_bytes (drop i row)) ≡ []
unfolding joined
no_word row i h = rw (drop_of_length-le row h)
