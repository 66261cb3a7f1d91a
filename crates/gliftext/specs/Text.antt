-- What is remembered of the text while it is read, and how the action of a byte changes it. Definitions only.
use Rattle.std.specs.Prelude.{ℕ, Bool, false, not, eqb, ltb}
use Rattle.gliftext.specs.Pick.{pick, both, either, more}
use Rattle.gliftext.specs.Words.{pushed, grown, no_number, fed_number, named_char, is_char, narrowed}
use Rattle.gliftext.specs.declared.text.Name.{Name}
use Rattle.gliftext.specs.declared.text.Value.{Value}
use Rattle.gliftext.specs.declared.text.Kind.{Kind}
use Rattle.gliftext.specs.declared.text.Kind.TheVariants.{Move, Line, Curve, Qcurve, Offcurve, Unknown}
use Rattle.gliftext.specs.declared.text.Declaration.{Declaration}
use Rattle.gliftext.specs.declared.text.Declaration.TheVariants.{Bare, Version, Encoding, Wrong}
use Rattle.gliftext.specs.contracts.text.Kind.{the_type as kind_type}
use Rattle.gliftext.specs.contracts.text.Declaration.{the_type as declaration}
use denote.Enum.Bare.{sameb}
use Rattle.gliftext.specs.declared.text.Point.{Point}
use Rattle.gliftext.specs.declared.text.Text.{Text}
use Rattle.gliftext.specs.Actions.{does}
use Rattle.gliftext.specs.declared.action.Action.{Action}
use Rattle.gliftext.specs.declared.action.Action.TheVariants.{Tag, TagOn, NameStart, NameOn, Quote, Char, Attribute, Section, Reference, TextReference, LetterOf, Decimal, Hexadecimal, Named, Numbered, Said, Declared, Declares, Target}

-- a name: the place where it begins, and its word
unfoldable pub named : Name → Bool → Bool → ℕ → ℕ → Name
named n begins goesOn b i =
    record { at = pick begins i n.at; word = pick begins (pushed 0 b) (pick goesOn (pushed n.word b) n.word) }

-- a reference begins; a letter of its name; a digit of its number to the base 10, or 16
unfoldable pub referred : ℕ → Action → ℕ → ℕ
referred r action b =
    pick (either (does action Reference) (does action TextReference)) 0
    (pick (does action LetterOf) (pushed r b)
    (pick (does action Decimal) (grown 10 r b) (pick (does action Hexadecimal) (grown 16 r b) r)))

-- the character that goes into a value: the byte itself, or what a named or a numbered reference stands for
abbrev pub character : Action → ℕ → ℕ → ℕ
character action b r = narrowed (pick (does action Char) b (pick (does action Named) (named_char r) r))

abbrev pub goes_in : Action → Bool
goes_in action = either (does action Char) (either (does action Named) (does action Numbered))

-- a value begins with its quotation mark, in a tag or in the declaration
abbrev pub value_begins : Action → Bool
value_begins action = either (does action Quote) (does action Said)

unfoldable pub valued : Value → Action → ℕ → ℕ → Value
valued v action b r =
    record {
      number =
          pick (value_begins action) no_number
          (pick (goes_in action) (fed_number v.number (character action b r)) v.number);
      word =
          pick (value_begins action) 0
          (pick (goes_in action) (pushed v.word (character action b r)) v.word);
    }

-- ---- what a tag says of a point: x, y, and its type, offcurve if none is named

abbrev pub move : ℕ
move = 1836021349

abbrev pub line : ℕ
line = 1818848869

abbrev pub curve : ℕ
curve = 427172197989

abbrev pub qcurve : ℕ
qcurve = 124671986136677

abbrev pub offcurve : ℕ
offcurve = 8027215963192718949

-- the type that a word names
unfoldable pub kind_of : ℕ → Kind
kind_of word =
    pick (eqb word move) Move
    (pick (eqb word line) Line
    (pick (eqb word curve) Curve (pick (eqb word qcurve) Qcurve (pick (eqb word offcurve) Offcurve Unknown))))

abbrev pub is_kind : Kind → Kind → Bool
is_kind k l = sameb kind_type k l

abbrev pub no_point : Point
no_point = record { x = no_number; y = no_number; kind = Offcurve }

-- a tag begins; an attribute ends: x is 120, y is 121, type is 1954115685
unfoldable pub pointed : Point → Action → ℕ → Value → Point
pointed p action name v =
    record {
      x = pick (does action Tag) no_number (pick (both (does action Attribute) (eqb name 120)) v.number p.x);
      y = pick (does action Tag) no_number (pick (both (does action Attribute) (eqb name 121)) v.number p.y);
      kind = pick (does action Tag) Offcurve (pick (both (does action Attribute) (eqb name 1954115685)) (kind_of v.word) p.kind);
    }

-- ---- the declaration: nothing, its version, 1.0; its encoding too, UTF-8 or utf-8; or wrong

abbrev pub declared : Declaration → Declaration → Bool
declared d e = sameb declaration d e

abbrev pub told : Declaration → ℕ → ℕ → Declaration
told d name word =
    pick (both (declared d Bare) (both (eqb name 33325589488824174) (eqb word 3223088))) Version
    (pick (both (declared d Version) (both (eqb name 7308888575346044519) (either (eqb word 366486105400) (eqb word 504464026936)))) Encoding Wrong)

-- an attribute of it ends; it ends; its name ends, which is xml
unfoldable pub said : Declaration → Action → ℕ → ℕ → Declaration
said d action name word =
    pick (does action Declared) (told d name word)
    (pick (does action Declares) (pick (declared d Bare) Wrong d) (pick (does action Target) (pick (eqb name 7892332) d Wrong) d))

-- ---- all of it

-- what is wrong by itself: a reference to no character, a section but CDATA, the declaration
unfoldable pub wrong_text : Action → ℕ → ℕ → Declaration → Bool
wrong_text action name r d =
    either (both (does action Named) (eqb (named_char r) 0))
    (either (both (does action Numbered) (not (is_char r)))
    (either (both (does action Section) (not (eqb name 288907940929))) (declared d Wrong)))

-- how many attributes the tag has so far; past 256, which are malformed, they are not counted
unfoldable pub attributed : ℕ → Action → ℕ
attributed n action = pick (does action Tag) 0 (pick (does action Quote) (pick (ltb n 256) (more n) n) n)

abbrev pub fresh_text : Text
fresh_text =
    record {
      state = 0;
      tag = record { at = 0; word = 0 };
      name = record { at = 0; word = 0 };
      refer = 0;
      value = record { number = no_number; word = 0 };
      point = no_point;
      said = Bare;
      attributes = 0;
      wrong = false;
    }

-- names first; then the reference, the value with it, and the rest with those
unfoldable pub texted : Text → ℕ → Action → ℕ → ℕ → Text
texted t state action b i =
    let name : Name = named t.name (does action NameStart) (does action NameOn) b i in
    let r : ℕ = referred t.refer action b in
    let value : Value = valued t.value action b r in
    let d : Declaration = said t.said action name.word value.word in
    record {
      state = state;
      tag = named t.tag (does action Tag) (does action TagOn) b i;
      name = name;
      refer = r;
      value = value;
      point = pointed t.point action name.word value;
      said = d;
      attributes = attributed t.attributes action;
      wrong = either t.wrong (wrong_text action name.word r d);
    }
