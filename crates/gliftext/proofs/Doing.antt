-- What a test of an action tells, and that each has its number. Assumes nothing.
use Rattle.std.proofs.Common.{◌≡◌, true, false, refl}
use denote.Enum.Bare.{same_true, false_same}
use Rattle.gliftext.specs.Actions.{actions, action_of, number, does}
use Rattle.gliftext.specs.contracts.action.Action.{the_type}
use Rattle.gliftext.specs.declared.action.Action.{Action}
use Rattle.gliftext.specs.declared.action.Action.TheVariants.{Pass, Tag, TagOn, NameStart, NameOn, Quote, Char, Attribute, Opens, Empty, Closes, Content, Section, Reference, TextReference, LetterOf, Decimal, Hexadecimal, Named, Numbered, Said, Declared, Declares, Target}

pub does_true : (a b : Action) → does a b ≡ true → a ≡ b
does_true a b e = same_true the_type tt a b e

pub does_false : (a b : Action) → (a ≡ b → ⊥) → does a b ≡ false
does_false a b h = false_same the_type tt a b h

-- the number of an action is its place in the list
pub action_of-number : (a : Action) → action_of (number a) ≡ a
unfolding action_of actions
action_of-number Pass = refl
action_of-number Tag = refl
action_of-number TagOn = refl
action_of-number NameStart = refl
action_of-number NameOn = refl
action_of-number Quote = refl
action_of-number Char = refl
action_of-number Attribute = refl
action_of-number Opens = refl
action_of-number Empty = refl
action_of-number Closes = refl
action_of-number Content = refl
action_of-number Section = refl
action_of-number Reference = refl
action_of-number TextReference = refl
action_of-number LetterOf = refl
action_of-number Decimal = refl
action_of-number Hexadecimal = refl
action_of-number Named = refl
action_of-number Numbered = refl
action_of-number Said = refl
action_of-number Declared = refl
action_of-number Declares = refl
action_of-number Target = refl
