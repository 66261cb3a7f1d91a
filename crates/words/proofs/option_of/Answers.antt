use Rattle.std.proofs.Common.{◌≡◌, ℕ, Bool, List, sym, ap, ◌∙◌}
use Rattle.std.specs.Str.{bytes_eq}
use Rattle.words.specs.Words.{option_of}
use Rattle.words.proofs.option_of.Goals as goal

-- what `==` said of a word
told : {r t : Bool} (k : List ℕ) {m l : List ℕ} → r ≡ bytes_eq k m → m ≡ l → r ≡ t → bytes_eq k l ≡ t
told k e known is = sym (e ∙ ap (bytes_eq k) known) ∙ is

pub returns-then-eq : goal.returns-then-eq
unfolding option_of
returns-then-eq c = rw (told _ c.eq.ensures c.as_slice.ensures c.if-eq.true)

pub returns-then-eq-2 : goal.returns-then-eq-2
unfolding option_of
returns-then-eq-2 c = rw (told _ c.eq.ensures c.as_slice.ensures c.if-eq.false, told _ c.eq-2.ensures c.as_slice-2.ensures c.if-eq-2.true)

pub returns-then-eq-3 : goal.returns-then-eq-3
unfolding option_of
returns-then-eq-3 c =
    rw (told _ c.eq.ensures c.as_slice.ensures c.if-eq.false, told _ c.eq-2.ensures c.as_slice-2.ensures c.if-eq-2.false, told _ c.eq-3.ensures c.as_slice-3.ensures c.if-eq-3.true)

pub returns-then-eq-4 : goal.returns-then-eq-4
unfolding option_of
returns-then-eq-4 c =
    rw (
      told _ c.eq.ensures c.as_slice.ensures c.if-eq.false,
      told _ c.eq-2.ensures c.as_slice-2.ensures c.if-eq-2.false,
      told _ c.eq-3.ensures c.as_slice-3.ensures c.if-eq-3.false,
      told _ c.eq-4.ensures c.as_slice-4.ensures c.if-eq-4.true,
    )

pub returns : goal.returns
unfolding option_of
returns c =
    rw (
      told _ c.eq.ensures c.as_slice.ensures c.if-eq.false,
      told _ c.eq-2.ensures c.as_slice-2.ensures c.if-eq-2.false,
      told _ c.eq-3.ensures c.as_slice-3.ensures c.if-eq-3.false,
      told _ c.eq-4.ensures c.as_slice-4.ensures c.if-eq-4.false,
    )
