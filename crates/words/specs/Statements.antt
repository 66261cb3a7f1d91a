-- What a reader should know of the words of a command line, as types; a theorem of proofs/Theorems is of each. Statements only.
use Rattle.std.specs.Prelude.{ℕ, ◌^◌, ◌<◌, [], ◌∷◌, ◌≡◌, Some}
use Rattle.lines.specs.Text.{decimal_of}
use Rattle.settings.specs.Settings.{default_settings}
use Rattle.words.specs.Words.{penalty_word, fallen_word, with_penalty, with_settings, with_fallen, default_order, asked_of}

-- no words ask for the default
abbrev pub NoneAskForTheDefault : Type 0
NoneAskForTheDefault = asked_of [] ≡ Some default_order

-- `--penalty` and a number in decimal ask for that penalty
abbrev pub PenaltyIsAskedFor : Type 0
PenaltyIsAskedFor = (n : ℕ) → n < 2 ^ 32 → asked_of (penalty_word ∷ decimal_of n ∷ []) ≡ Some (with_settings default_order (with_penalty default_settings n))

-- `--fallen` asks for the lookups that fell, and changes no setting
abbrev pub FallenIsAskedFor : Type 0
FallenIsAskedFor = asked_of (fallen_word ∷ []) ≡ Some (with_fallen default_order)

-- of two the last counts
abbrev pub LastCounts : Type 0
LastCounts =
    (m n : ℕ) → m < 2 ^ 32 → n < 2 ^ 32 →
    asked_of (penalty_word ∷ decimal_of m ∷ penalty_word ∷ decimal_of n ∷ []) ≡ asked_of (penalty_word ∷ decimal_of n ∷ [])
