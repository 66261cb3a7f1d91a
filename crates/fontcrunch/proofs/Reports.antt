-- The reports as C sees them, of each answer. Assumes nothing.
use Rattle.std.specs.Prelude.{Result, Ok, Err}
use Prim.Native.Nat.{ℕ}
use mathlib.Core.Path.{◌≡◌, refl}
use lib.Ieee as Ieee
use lib.Dec.{T}
use lib.Ieee.{Float, binary64, to_bits, fits}
use lib.Ieee.Bits.{of_bits-fits}
use Rattle.float.specs.Numbers.{nought}
use Rattle.refusals.specs.declared.refusal.Refusal.{Refusal}
use Rattle.refusals.specs.Number.{number_of}
use Rattle.optimize.specs.declared.Tally.{Tally}
use Rattle.chains.specs.Entry as Chains
use Rattle.chains.specs.declared.Chained as C
use Rattle.chains.specs.declared.Chained.TheVariants as Chained
use Rattle.fontcrunch.specs.Exports.{chain_report}

-- 0.0 is a double
nought_fits : T (fits binary64 nought)
nought_fits = of_bits-fits binary64 0

pub refused_double : {c : Result C.Chained Refusal} {k : Refusal} → c ≡ Err k → T (fits binary64 (Chains.report c).score)
refused_double e = rw e nought_fits

-- of an answer that is a chain or none
module _ {c : Result C.Chained Refusal} {x : C.Chained} (e : c ≡ Ok x) where
  pub unchanged_double : {t : Tally} → x ≡ Chained.Unchanged t → T (fits binary64 (Chains.report c).score)
  unchanged_double f = rw (e, f) nought_fits

  pub pieces_double : {n : ℕ} {t : Tally} {s : Float} → x ≡ Chained.Pieces n s t → T (fits binary64 s) → T (fits binary64 (Chains.report c).score)
  pieces_double f h = rw (e, f) h

pub nought_bits : to_bits binary64 nought ≡ 0
unfolding Ieee.to_bits Ieee.of_bits
nought_bits = refl

pub chain_refused : {c : Result C.Chained Refusal} {k : Refusal} → c ≡ Err k → record { number = number_of k; pieces = 0; pairs = 0; score_bits = 0; fallen = 0 } ≡ chain_report c
chain_refused e = rw (e, nought_bits) refl

module _ {c : Result C.Chained Refusal} {x : C.Chained} (e : c ≡ Ok x) where
  pub chain_unchanged : {t : Tally} → x ≡ Chained.Unchanged t → record { number = 0; pieces = 0; pairs = t.pairs; score_bits = 0; fallen = t.fallen } ≡ chain_report c
  chain_unchanged f = rw (e, f, nought_bits) refl

  pub chain_pieces : {n b : ℕ} {t : Tally} {s : Float} → x ≡ Chained.Pieces n s t → b ≡ to_bits binary64 s →
      record { number = 0; pieces = n; pairs = t.pairs; score_bits = b; fallen = t.fallen } ≡ chain_report c
  chain_pieces f h = rw (e, f, h) refl

  -- the answer itself
  pub pieces_are : {n : ℕ} {t : Tally} {s : Float} → x ≡ Chained.Pieces n s t → chain_report c ≡ chain_report (Ok (Chained.Pieces n s t))
  pieces_are f = rw (e, f) refl
