-- The bytes up to a line end, as the code finds them, and the lines of what was read so far. Assumes nothing.
use Prim.Native.Nat.{ℕ, ◌+◌, ◌-◌, ◌≤◌, ◌<◌}
use mathlib.Core.Bool.{Bool, true, false}
use mathlib.Core.List.{List, [], ◌∷◌}
use mathlib.Core.Path.{◌≡◌, refl, ap, ◌∙◌, subst}
use native.Mathlib.Omega.{arith}
use borrow.Author.Tests.{lt-ltb, le-ltb}
use lib.Dec.{eqb}
use lib.ListN.{length, take, drop}
use Rattle.lines.specs.Line.{until, up_to}
use Rattle.lines.specs.Text.{Put}
use Rattle.lines.specs.Stream.{Feeds}
use Rattle.lines.specs.declared.stream.Fed.TheVariants.{Line, Part}
use Rattle.lines.proofs.Words.{end_from}

pub prefix : (stop : ℕ) (l : List ℕ) → take (length (up_to stop l)) l ≡ up_to stop l
unfolding up_to
prefix stop [] = refl
prefix stop (b ∷ bs) = by (eqb b stop) (prefix stop bs)
  where
    by : (t : Bool) → take (length (up_to stop bs)) bs ≡ up_to stop bs → take (length (until t b (up_to stop bs))) (b ∷ bs) ≡ until t b (up_to stop bs)
    by true later = refl
    by false later = ap (λ (l : List ℕ). b ∷ l) later

module _ (chunk : List ℕ) (from : ℕ) {buffer buffer' : List ℕ} {used e kept : ℕ} (ends : e ≡ end_from 10 chunk from) (p : Put buffer used (take (e - from) (drop from chunk)) buffer' kept) where
  puts : Put buffer used (up_to 10 (drop from chunk)) buffer' kept
  puts =
      let n : e - from ≡ length (up_to 10 (drop from chunk)) = omega arith in
      subst (λ (text : List ℕ). Put buffer used text buffer' kept) (ap (λ (k : ℕ). take k (drop from chunk)) n ∙ prefix 10 (drop from chunk)) p

  pub inside : kept ≤ length buffer
  inside = omega (arith, p.next)

  pub whole : e < length chunk → Feeds buffer used chunk from buffer' (Line kept (e + 1))
  whole h = record { kept = kept; puts = puts; tells = rw (← ends, lt-ltb _ _ h) }

  pub part : length chunk ≤ e → Feeds buffer used chunk from buffer' (Part kept)
  part h = record { kept = kept; puts = puts; tells = rw (← ends, le-ltb _ _ h) }
