-- What words come to: none of them, the default; a penalty in decimal, that penalty; of two, the last; `--fallen`, the lookups that fell. The statements are those of specs/Statements.
-- Assumes nothing.
use Rattle.std.proofs.Common.{ℕ, ◌<◌, List, [], ◌∷◌, ◌≡◌, refl, sym, ap, ◌∙◌, arith, le-leb, option_and_then}
use Rattle.lines.specs.Text.{decimal_of}
use Rattle.lines.proofs.Theorems.{decimal_back}
use Rattle.settings.specs.Settings.{default_settings}
use Rattle.words.specs.Words.{penalty_word, with_penalty, with_settings, default_order, option_of, sixteenths, taken, all_taken, ended, asked_of}
use Rattle.words.specs.Statements.{NoneAskForTheDefault, PenaltyIsAskedFor, FallenIsAskedFor, LastCounts}
use Rattle.words.specs.declared.Order.{Order}
use Rattle.words.specs.declared.Reading.TheVariants.{Has}

pub none_said : NoneAskForTheDefault
unfolding asked_of all_taken
none_said = refl

-- two words: the name and the number
module _ (o : Order) (n : ℕ) (small : n < 4294967296) (words : List (List ℕ)) where
  said : all_taken (Has o) (penalty_word ∷ decimal_of n ∷ words) ≡ all_taken (Has (with_settings o (with_penalty o.settings n))) words
  unfolding all_taken taken option_of sixteenths
  said = rw (decimal_back n, le-leb n 4294967295 (omega arith)) refl

pub one_said : PenaltyIsAskedFor
unfolding asked_of all_taken
one_said n small = ap (option_and_then ended) (said default_order n small [])

pub fallen_said : FallenIsAskedFor
unfolding asked_of all_taken taken option_of
fallen_said = refl

pub last_said : LastCounts
unfolding asked_of
last_said m n small small' =
    ap (option_and_then ended)
    (said default_order m small _ ∙ said (with_settings default_order (with_penalty default_settings m)) n small' [] ∙ sym (said default_order n small' []))
