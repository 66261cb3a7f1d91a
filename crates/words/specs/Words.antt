-- What the words of a command line ask for. Definitions only.
use Rattle.std.specs.Prelude.{ℕ, true, false, cond, List, [], ◌∷◌, leb, Option, Some, None, option_and_then}
use Rattle.std.specs.Str.{bytes_eq}
use Rattle.lines.specs.Line.{natural_of}
use Rattle.settings.specs.Settings.{default_settings}
use Rattle.settings.specs.declared.Settings.{Settings}
use Rattle.words.specs.declared.Order.{Order}
use Rattle.words.specs.declared.Reading.{Reading}
use Rattle.words.specs.declared.Reading.TheVariants.{Has, Penalty}

-- `--penalty`
abbrev pub penalty_word : List ℕ
penalty_word = 45 ∷ 45 ∷ 112 ∷ 101 ∷ 110 ∷ 97 ∷ 108 ∷ 116 ∷ 121 ∷ []

-- `--whole-units`
abbrev pub whole_units_word : List ℕ
whole_units_word = 45 ∷ 45 ∷ 119 ∷ 104 ∷ 111 ∷ 108 ∷ 101 ∷ 45 ∷ 117 ∷ 110 ∷ 105 ∷ 116 ∷ 115 ∷ []

-- `--closed`
abbrev pub closed_word : List ℕ
closed_word = 45 ∷ 45 ∷ 99 ∷ 108 ∷ 111 ∷ 115 ∷ 101 ∷ 100 ∷ []

-- `--fallen`
abbrev pub fallen_word : List ℕ
fallen_word = 45 ∷ 45 ∷ 102 ∷ 97 ∷ 108 ∷ 108 ∷ 101 ∷ 110 ∷ []

-- the same settings with another penalty, on whole units, and closed
abbrev pub with_penalty : Settings → ℕ → Settings
with_penalty s n = record { penalty = n; whole_units = s.whole_units; closed = s.closed }

abbrev pub on_whole_units : Settings → Settings
on_whole_units s = record { penalty = s.penalty; whole_units = true; closed = s.closed }

abbrev pub in_closed_mode : Settings → Settings
in_closed_mode s = record { penalty = s.penalty; whole_units = s.whole_units; closed = true }

-- the same order with other settings, and with the lookups that fell
abbrev pub with_settings : Order → Settings → Order
with_settings o s = record { settings = s; told = o.told }

abbrev pub with_fallen : Order → Order
with_fallen o = record { settings = o.settings; told = true }

-- a word that stands where none is awaited
unfoldable pub option_of : Order → List ℕ → Option Reading
option_of o word =
    cond (bytes_eq word penalty_word) (Some (Penalty o))
    (cond (bytes_eq word whole_units_word) (Some (Has (with_settings o (on_whole_units o.settings))))
    (cond (bytes_eq word closed_word) (Some (Has (with_settings o (in_closed_mode o.settings))))
    (cond (bytes_eq word fallen_word) (Some (Has (with_fallen o))) None)))

-- the penalty: decimal digits and nothing else, of any number below 2^32; zeros in front count for nothing
unfoldable pub sixteenths : Order → Option ℕ → Option Reading
sixteenths o (Some n) = cond (leb n 4294967295) (Some (Has (with_settings o (with_penalty o.settings n)))) None
sixteenths o None = None

-- one word more; None: a word that is not known, or a number that is none
unfoldable pub taken : Reading → List ℕ → Option Reading
taken (Has o) word = option_of o word
taken (Penalty o) word = sixteenths o (natural_of word)

unfoldable pub all_taken : Reading → List (List ℕ) → Option Reading
all_taken r [] = Some r
all_taken r (word ∷ words) = option_and_then (λ r'. all_taken r' words) (taken r word)

-- after the last word none may be awaited
abbrev pub ended : Reading → Option Order
ended (Has o) = Some o
ended (Penalty o) = None

-- where no words ask for anything
abbrev pub default_order : Order
default_order = record { settings = default_settings; told = false }

-- what the words ask for, the default where they say nothing; None where they are wrong
unfoldable pub asked_of : List (List ℕ) → Option Order
asked_of words = option_and_then ended (all_taken (Has default_order) words)
