-- The actions of docs/GLIF.md. Definitions only.
use Rattle.std.specs.Prelude.{ℕ, Bool, List, [], ◌∷◌, get_or}
use denote.Enum.Bare.{sameb}
use denote.Enum.Declared.{tag_of}
use Rattle.gliftext.specs.declared.action.Action.{Action}
use Rattle.gliftext.specs.declared.action.Action.TheVariants.{Pass, Tag, TagOn, NameStart, NameOn, Quote, Char, Attribute, Opens, Empty, Closes, Content, Section, Reference, TextReference, LetterOf, Decimal, Hexadecimal, Named, Numbered, Said, Declared, Declares, Target}
use Rattle.gliftext.specs.contracts.action.Action.{the_type}

-- in the order of their numbers
unfoldable pub actions : List Action
actions =
    Pass ∷ Tag ∷ TagOn ∷ NameStart ∷ NameOn ∷ Quote ∷ Char ∷ Attribute ∷ Opens ∷ Empty ∷ Closes ∷ Content ∷
    Section ∷ Reference ∷ TextReference ∷ LetterOf ∷ Decimal ∷ Hexadecimal ∷ Named ∷ Numbered ∷ Said ∷ Declared ∷ Declares ∷ Target ∷ []

-- the action of a number
unfoldable pub action_of : ℕ → Action
action_of n = get_or actions n Pass

-- its number
abbrev pub number : Action → ℕ
number a = tag_of the_type a

-- whether an action is that one
abbrev pub does : Action → Action → Bool
does a b = sameb the_type a b
