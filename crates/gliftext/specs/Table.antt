-- The grammar of docs/GLIF.md, line by line: what each state does at each class of byte. Definitions only.
use Rattle.std.specs.Prelude.{ℕ, zero, suc, ◌+◌, ◌*◌, Bool, true, false, List, [], ◌∷◌, ◌++◌, eqb, ltb, get_or}
use Rattle.gliftext.specs.Pick.{pick, either, both}
use Rattle.gliftext.specs.Actions.{number}
use Rattle.gliftext.specs.declared.action.Action.{Action}
use Rattle.gliftext.specs.declared.action.Action.TheVariants.{Pass, Tag, TagOn, NameStart, NameOn, Quote, Char, Attribute, Opens, Empty, Closes, Content, Section, Reference, TextReference, LetterOf, Decimal, Hexadecimal, Named, Numbered, Said, Declared, Declares, Target}

-- ---- the class of each byte

unfoldable pub classes : List ℕ
classes =
    0 ∷ 0 ∷ 0 ∷ 0 ∷ 0 ∷ 0 ∷ 0 ∷ 0 ∷ 0 ∷ 1 ∷ 1 ∷ 0 ∷ 0 ∷ 1 ∷ 0 ∷ 0 ∷
    0 ∷ 0 ∷ 0 ∷ 0 ∷ 0 ∷ 0 ∷ 0 ∷ 0 ∷ 0 ∷ 0 ∷ 0 ∷ 0 ∷ 0 ∷ 0 ∷ 0 ∷ 0 ∷
    1 ∷ 9 ∷ 6 ∷ 15 ∷ 22 ∷ 22 ∷ 4 ∷ 7 ∷ 22 ∷ 22 ∷ 22 ∷ 22 ∷ 22 ∷ 11 ∷ 21 ∷ 5 ∷
    16 ∷ 16 ∷ 16 ∷ 16 ∷ 16 ∷ 16 ∷ 16 ∷ 16 ∷ 16 ∷ 16 ∷ 20 ∷ 14 ∷ 2 ∷ 8 ∷ 3 ∷ 10 ∷
    22 ∷ 17 ∷ 17 ∷ 17 ∷ 17 ∷ 17 ∷ 17 ∷ 20 ∷ 20 ∷ 20 ∷ 20 ∷ 20 ∷ 20 ∷ 20 ∷ 20 ∷ 20 ∷
    20 ∷ 20 ∷ 20 ∷ 20 ∷ 20 ∷ 20 ∷ 20 ∷ 20 ∷ 19 ∷ 20 ∷ 20 ∷ 12 ∷ 22 ∷ 13 ∷ 22 ∷ 20 ∷
    22 ∷ 17 ∷ 17 ∷ 17 ∷ 17 ∷ 17 ∷ 17 ∷ 20 ∷ 20 ∷ 20 ∷ 20 ∷ 20 ∷ 20 ∷ 20 ∷ 20 ∷ 20 ∷
    20 ∷ 20 ∷ 20 ∷ 20 ∷ 20 ∷ 20 ∷ 20 ∷ 20 ∷ 18 ∷ 20 ∷ 20 ∷ 22 ∷ 22 ∷ 22 ∷ 22 ∷ 22 ∷
    20 ∷ 20 ∷ 20 ∷ 20 ∷ 20 ∷ 20 ∷ 20 ∷ 20 ∷ 20 ∷ 20 ∷ 20 ∷ 20 ∷ 20 ∷ 20 ∷ 20 ∷ 20 ∷
    20 ∷ 20 ∷ 20 ∷ 20 ∷ 20 ∷ 20 ∷ 20 ∷ 20 ∷ 20 ∷ 20 ∷ 20 ∷ 20 ∷ 20 ∷ 20 ∷ 20 ∷ 20 ∷
    20 ∷ 20 ∷ 20 ∷ 20 ∷ 20 ∷ 20 ∷ 20 ∷ 20 ∷ 20 ∷ 20 ∷ 20 ∷ 20 ∷ 20 ∷ 20 ∷ 20 ∷ 20 ∷
    20 ∷ 20 ∷ 20 ∷ 20 ∷ 20 ∷ 20 ∷ 20 ∷ 20 ∷ 20 ∷ 20 ∷ 20 ∷ 20 ∷ 20 ∷ 20 ∷ 20 ∷ 20 ∷
    20 ∷ 20 ∷ 20 ∷ 20 ∷ 20 ∷ 20 ∷ 20 ∷ 20 ∷ 20 ∷ 20 ∷ 20 ∷ 20 ∷ 20 ∷ 20 ∷ 20 ∷ 20 ∷
    20 ∷ 20 ∷ 20 ∷ 20 ∷ 20 ∷ 20 ∷ 20 ∷ 20 ∷ 20 ∷ 20 ∷ 20 ∷ 20 ∷ 20 ∷ 20 ∷ 20 ∷ 20 ∷
    20 ∷ 20 ∷ 20 ∷ 20 ∷ 20 ∷ 20 ∷ 20 ∷ 20 ∷ 20 ∷ 20 ∷ 20 ∷ 20 ∷ 20 ∷ 20 ∷ 20 ∷ 20 ∷
    20 ∷ 20 ∷ 20 ∷ 20 ∷ 20 ∷ 20 ∷ 20 ∷ 20 ∷ 20 ∷ 20 ∷ 20 ∷ 20 ∷ 20 ∷ 20 ∷ 20 ∷ 20 ∷ []

unfoldable pub class_of : ℕ → ℕ
class_of b = get_or classes b 0

-- a byte of a name: a letter, a digit, _ : - . or a byte from 0x80 on
unfoldable pub is_name : ℕ → Bool
is_name b = either (eqb (class_of b) 11) (both (ltb 15 (class_of b)) (ltb (class_of b) 22))

-- ---- a line of the grammar: on these classes, to that state with that action; on any other, what stands last

pub data Line : Type 0 where
  rest : ℕ → Action → Line
  on : List ℕ → ℕ → Action → Line → Line

abbrev or_else : Bool → Bool → Bool
or_else true b = true
or_else false b = b

abbrev pub among : ℕ → List ℕ → Bool
among k [] = false
among k (c ∷ cs) = or_else (eqb k c) (among k cs)

abbrev cell_if : Bool → ℕ → ℕ → ℕ
cell_if true a b = a
cell_if false a b = b

abbrev pub cell : Line → ℕ → ℕ
cell (rest state action) k = number action * 64 + state
cell (on cs state action l) k = cell_if (among k cs) (number action * 64 + state) (cell l k)

abbrev pub cells : ℕ → ℕ → Line → List ℕ
cells zero k l = []
cells (suc n) k l = cell l k ∷ cells n (k + 1) l

abbrev pub lined : List Line → List ℕ
lined [] = []
lined (l ∷ ls) = cells 23 0 l ++ lined ls

-- ---- the lines; the numbers of classes and states are those of docs/GLIF.md

abbrev bad : Line
bad = rest 61 Pass

abbrev starts : List ℕ
starts = 17 ∷ 18 ∷ 19 ∷ 20 ∷ []

abbrev names : List ℕ
names = 17 ∷ 18 ∷ 19 ∷ 20 ∷ 16 ∷ 11 ∷ 21 ∷ []

abbrev pub grammar : List Line
grammar =
    -- 0 start
    on (1 ∷ []) 12 Pass (on (2 ∷ []) 1 Pass bad) ∷
    -- 1 start-lt
    on starts 16 Tag (on (5 ∷ []) 25 Pass (on (9 ∷ []) 28 Pass (on (10 ∷ []) 2 Pass bad))) ∷
    -- 2 start-pi
    on starts 3 NameStart bad ∷
    -- 3 d-target
    on names 3 NameOn (on (1 ∷ []) 4 Target bad) ∷
    -- 4 d-blank
    on (1 ∷ []) 4 Pass (on starts 5 NameStart (on (10 ∷ []) 11 Pass bad)) ∷
    -- 5 d-name
    on names 5 NameOn (on (1 ∷ []) 6 Pass (on (8 ∷ []) 7 Pass bad)) ∷
    -- 6 d-after
    on (1 ∷ []) 6 Pass (on (8 ∷ []) 7 Pass bad) ∷
    -- 7 d-equals
    on (1 ∷ []) 7 Pass (on (6 ∷ []) 8 Said (on (7 ∷ []) 9 Said bad)) ∷
    -- 8 d-double
    on (0 ∷ 2 ∷ 4 ∷ []) 61 Pass (on (6 ∷ []) 10 Declared (rest 8 Char)) ∷
    -- 9 d-single
    on (0 ∷ 2 ∷ 4 ∷ []) 61 Pass (on (7 ∷ []) 10 Declared (rest 9 Char)) ∷
    -- 10 d-done
    on (1 ∷ []) 4 Pass (on (10 ∷ []) 11 Pass bad) ∷
    -- 11 d-end
    on (3 ∷ []) 12 Declares bad ∷
    -- 12 content
    on (0 ∷ []) 61 Pass (on (1 ∷ []) 12 Pass (on (2 ∷ []) 15 Pass (on (4 ∷ []) 43 TextReference (on (13 ∷ []) 13 Content (rest 12 Content))))) ∷
    -- 13 text1
    on (0 ∷ []) 61 Pass (on (1 ∷ []) 12 Pass (on (2 ∷ []) 15 Pass (on (4 ∷ []) 43 TextReference (on (13 ∷ []) 14 Content (rest 12 Content))))) ∷
    -- 14 text2
    on (0 ∷ []) 61 Pass (on (1 ∷ []) 12 Pass (on (2 ∷ []) 15 Pass (on (4 ∷ []) 43 TextReference (on (13 ∷ []) 14 Content (on (3 ∷ []) 61 Pass (rest 12 Content)))))) ∷
    -- 15 lt
    on starts 16 Tag (on (5 ∷ []) 25 Pass (on (9 ∷ []) 28 Pass (on (10 ∷ []) 38 Pass bad))) ∷
    -- 16 tag
    on names 16 TagOn (on (1 ∷ []) 17 Pass (on (5 ∷ []) 24 Pass (on (3 ∷ []) 12 Opens bad))) ∷
    -- 17 in-tag
    on (1 ∷ []) 17 Pass (on starts 18 NameStart (on (5 ∷ []) 24 Pass (on (3 ∷ []) 12 Opens bad))) ∷
    -- 18 attr
    on names 18 NameOn (on (1 ∷ []) 19 Pass (on (8 ∷ []) 20 Pass bad)) ∷
    -- 19 after
    on (1 ∷ []) 19 Pass (on (8 ∷ []) 20 Pass bad) ∷
    -- 20 equals
    on (1 ∷ []) 20 Pass (on (6 ∷ []) 21 Quote (on (7 ∷ []) 22 Quote bad)) ∷
    -- 21 double
    on (0 ∷ 2 ∷ []) 61 Pass (on (6 ∷ []) 23 Attribute (on (4 ∷ []) 49 Reference (rest 21 Char))) ∷
    -- 22 single
    on (0 ∷ 2 ∷ []) 61 Pass (on (7 ∷ []) 23 Attribute (on (4 ∷ []) 55 Reference (rest 22 Char))) ∷
    -- 23 done
    on (1 ∷ []) 17 Pass (on (5 ∷ []) 24 Pass (on (3 ∷ []) 12 Opens bad)) ∷
    -- 24 slash
    on (3 ∷ []) 12 Empty bad ∷
    -- 25 end-lt
    on starts 26 NameStart bad ∷
    -- 26 end-name
    on names 26 NameOn (on (1 ∷ []) 27 Pass (on (3 ∷ []) 12 Closes bad)) ∷
    -- 27 end-blank
    on (1 ∷ []) 27 Pass (on (3 ∷ []) 12 Closes bad) ∷
    -- 28 bang
    on (11 ∷ []) 29 Pass (on (12 ∷ []) 33 Pass bad) ∷
    -- 29 bang-dash
    on (11 ∷ []) 30 Pass bad ∷
    -- 30 comment
    on (0 ∷ []) 61 Pass (on (11 ∷ []) 31 Pass (rest 30 Pass)) ∷
    -- 31 comment1
    on (0 ∷ []) 61 Pass (on (11 ∷ []) 32 Pass (rest 30 Pass)) ∷
    -- 32 comment2
    on (3 ∷ []) 12 Pass bad ∷
    -- 33 bang-open
    on starts 34 NameStart bad ∷
    -- 34 section
    on names 34 NameOn (on (12 ∷ []) 35 Section bad) ∷
    -- 35 cdata
    on (0 ∷ []) 61 Pass (on (13 ∷ []) 36 Pass (rest 35 Pass)) ∷
    -- 36 cdata1
    on (0 ∷ []) 61 Pass (on (13 ∷ []) 37 Pass (rest 35 Pass)) ∷
    -- 37 cdata2
    on (0 ∷ []) 61 Pass (on (13 ∷ []) 37 Pass (on (3 ∷ []) 12 Pass (rest 35 Pass))) ∷
    -- 38 pi
    on (17 ∷ 20 ∷ []) 39 Pass bad ∷
    -- 39 pi-target
    on names 39 Pass (on (1 ∷ []) 40 Pass (on (10 ∷ []) 42 Pass bad)) ∷
    -- 40 pi-body
    on (0 ∷ []) 61 Pass (on (10 ∷ []) 41 Pass (rest 40 Pass)) ∷
    -- 41 pi-question
    on (0 ∷ []) 61 Pass (on (10 ∷ []) 41 Pass (on (3 ∷ []) 12 Pass (rest 40 Pass))) ∷
    -- 42 pi-end
    on (3 ∷ []) 12 Pass bad ∷
    -- 43 ref
    on starts 44 LetterOf (on (15 ∷ []) 45 Pass bad) ∷
    -- 44 word
    on names 44 LetterOf (on (14 ∷ []) 12 Named bad) ∷
    -- 45 hash
    on (16 ∷ []) 46 Decimal (on (18 ∷ []) 47 Pass bad) ∷
    -- 46 decimal
    on (16 ∷ []) 46 Decimal (on (14 ∷ []) 12 Numbered bad) ∷
    -- 47 x
    on (16 ∷ 17 ∷ []) 48 Hexadecimal bad ∷
    -- 48 hex
    on (16 ∷ 17 ∷ []) 48 Hexadecimal (on (14 ∷ []) 12 Numbered bad) ∷
    -- 49 ref-d
    on starts 50 LetterOf (on (15 ∷ []) 51 Pass bad) ∷
    -- 50 word-d
    on names 50 LetterOf (on (14 ∷ []) 21 Named bad) ∷
    -- 51 hash-d
    on (16 ∷ []) 52 Decimal (on (18 ∷ []) 53 Pass bad) ∷
    -- 52 decimal-d
    on (16 ∷ []) 52 Decimal (on (14 ∷ []) 21 Numbered bad) ∷
    -- 53 x-d
    on (16 ∷ 17 ∷ []) 54 Hexadecimal bad ∷
    -- 54 hex-d
    on (16 ∷ 17 ∷ []) 54 Hexadecimal (on (14 ∷ []) 21 Numbered bad) ∷
    -- 55 ref-s
    on starts 56 LetterOf (on (15 ∷ []) 57 Pass bad) ∷
    -- 56 word-s
    on names 56 LetterOf (on (14 ∷ []) 22 Named bad) ∷
    -- 57 hash-s
    on (16 ∷ []) 58 Decimal (on (18 ∷ []) 59 Pass bad) ∷
    -- 58 decimal-s
    on (16 ∷ []) 58 Decimal (on (14 ∷ []) 22 Numbered bad) ∷
    -- 59 x-s
    on (16 ∷ 17 ∷ []) 60 Hexadecimal bad ∷
    -- 60 hex-s
    on (16 ∷ 17 ∷ []) 60 Hexadecimal (on (14 ∷ []) 22 Numbered bad) ∷
    -- 61 bad
    bad ∷
    []

unfoldable pub table : List ℕ
table = lined grammar

-- the next state and the number of the action; out of the table, bad
unfoldable pub move_of : ℕ → ℕ → ℕ
move_of state class = pick (ltb state 62) (pick (ltb class 23) (get_or table (state * 23 + class) 0) 61) 61
