-- The text of a point, read in a contour. Assumes nothing.
use Prim.Native.Nat.{ℕ, zero, suc, ◌+◌, ◌/◌, ◌%◌, ◌<◌}
use native.Mathlib.Omega.{arith}
use mathlib.Core.Bool.{Bool, true, false}
use mathlib.Core.List.{List, [], ◌∷◌, ◌++◌}
use mathlib.Core.Path.{◌≡◌, refl, sym, ap, subst, ◌∙◌}
use borrow.Author.Tests.{lt-leb, ltb-true}
use lib.Dec.{eqb, ltb}
use lib.ListN.{length, get_or, set, length-set}
use lib.Seq.{get_or-set_same, get_or-set_other}
use Rattle.gliftext.specs.Pick.{pick, more, sum}
use Rattle.gliftext.specs.Table.{classes, class_of, is_name, table, move_of}
use Rattle.gliftext.specs.Words.{pushed, no_number, fed_number, narrowed}
use Rattle.gliftext.specs.Text.{named, referred, valued, kind_of, pointed, declared, said, wrong_text, attributed, texted, no_point}
use Rattle.gliftext.specs.Utf8.{runes, rune_class, rune_table, rune_on}
use Rattle.gliftext.specs.declared.word.Number.{Number}
use Rattle.gliftext.specs.declared.text.Name.{Name}
use Rattle.gliftext.specs.declared.text.Value.{Value}
use Rattle.gliftext.specs.declared.text.Point.{Point}
use Rattle.gliftext.specs.declared.text.Kind.{Kind}
use Rattle.gliftext.specs.declared.text.Kind.TheVariants.{Line, Qcurve, Offcurve}
use Rattle.gliftext.specs.declared.text.Declaration.{Declaration}
use Rattle.gliftext.specs.declared.text.Declaration.TheVariants.{Wrong}
use Rattle.glif.specs.Names.{alike}
use Rattle.glif.specs.Tree.{path_word, on_path, entered, left, text_fits, opens_tag, treed}
use Rattle.glif.specs.Outline.{point_met, contour_met, contour_left, summed, with_point}
use Rattle.glif.specs.declared.tree.Tree.{Tree}
use Rattle.glif.specs.declared.outline.Sum.{Sum}
use lib.IntN.{ℤ, pos, negsuc}
use Rattle.lines.specs.Text.{last_after, decimal_in, decimal_of, signed_of}
use Rattle.glifwrite.specs.Puts.{opening, between, closing}
use Rattle.glifwrite.specs.Texts.{kind_text, point_text}
use Rattle.glif.proofs.Stems.{stem, Abs, Fed, fed, fed_of, seen_in, wrong_in, kept_in, place_of, point_in, moved, step, steps, steps_append, Closed, last}
use Rattle.glif.proofs.Stems.{closed_append, closed_fed}
use Rattle.glifs.specs.Back.{number_in, word_in}
use Rattle.gliftext.specs.Actions.{actions, action_of}

-- in a contour: glyph, outline, contour
abbrev pub in_contour : Tree
in_contour = record { depth = 3; level = 3; root = true; outline = true; wrong = false }

-- what is remembered there, between two characters
abbrev pub here : ℕ → Name → Name → ℕ → Value → Point → Declaration → ℕ → Sum → List ℕ → List ℕ → List (List ℕ) → List (List ℕ) → Abs
here state tag name r v p d n sm tagStem nameStem names points =
    record {
      text = record { state = state; tag = tag; name = name; refer = r; value = v; point = p; said = d; attributes = n; wrong = false };
      tree = in_contour;
      sum = sm;
      tag = tagStem;
      name = nameStem;
      names = names;
      points = points;
      rune = 0;
    }

abbrev at_word : ℕ → Name
at_word w = record { at = 0; word = w }

abbrev no_value : Value
no_value = record { number = no_number; word = 0 }

abbrev point_stem : List ℕ
point_stem = 112 ∷ 111 ∷ 105 ∷ 110 ∷ 116 ∷ 0 ∷ []

abbrev x_stem : List ℕ
x_stem = 120 ∷ 0 ∷ []

abbrev y_stem : List ℕ
y_stem = 121 ∷ 0 ∷ []

abbrev type_stem : List ℕ
type_stem = 116 ∷ 121 ∷ 112 ∷ 101 ∷ 0 ∷ []

module _ (z : List ℕ) (tg nm : Name) (r : ℕ) (v : Value) (p : Point) (d : Declaration) (n : ℕ) (sm : Sum) (ts ns : List ℕ) (names points : List (List ℕ)) (known : declared d Wrong ≡ false) (room : 5 < length names) where
  opens : steps z (fed_of opening) (here 12 tg nm r v p d n sm ts ns names points)
      ≡ here 21 (at_word 482905517684) (at_word 120) r no_value no_point d 1 sm point_stem x_stem (set names 3 x_stem) points
  unfolding steps step moved fed_of stem is_name class_of classes table move_of actions action_of pick more sum texted named pushed referred valued pointed said wrong_text attributed
      treed summed point_met contour_met contour_left opens_tag on_path text_fits wrong_in seen_in kept_in point_in rune_on rune_class runes rune_table
  opens = rw (known, lt-leb (length names) 3 (omega arith))

-- ---- a number's bytes, in a value

pub record Plain (b : ℕ) : Type 0 where
  pub move : move_of 21 (class_of b) ≡ 405
  pub rune : rune_class b ≡ 0
  pub small : narrowed b ≡ b

digit : (d : ℕ) → d < 10 → Plain (48 + d)
unfolding move_of pick table class_of classes rune_class runes narrowed
digit zero h = record { move = refl; rune = refl; small = refl }
digit (suc zero) h = record { move = refl; rune = refl; small = refl }
digit (suc (suc zero)) h = record { move = refl; rune = refl; small = refl }
digit (suc (suc (suc zero))) h = record { move = refl; rune = refl; small = refl }
digit (suc (suc (suc (suc zero)))) h = record { move = refl; rune = refl; small = refl }
digit (suc (suc (suc (suc (suc zero))))) h = record { move = refl; rune = refl; small = refl }
digit (suc (suc (suc (suc (suc (suc zero)))))) h = record { move = refl; rune = refl; small = refl }
digit (suc (suc (suc (suc (suc (suc (suc zero))))))) h = record { move = refl; rune = refl; small = refl }
digit (suc (suc (suc (suc (suc (suc (suc (suc zero)))))))) h = record { move = refl; rune = refl; small = refl }
digit (suc (suc (suc (suc (suc (suc (suc (suc (suc zero))))))))) h = record { move = refl; rune = refl; small = refl }
digit (suc (suc (suc (suc (suc (suc (suc (suc (suc (suc d)))))))))) h = absurd (omega arith)

minus : Plain 45
unfolding move_of pick table class_of classes rune_class runes narrowed
minus = record { move = refl; rune = refl; small = refl }

data AllPlain : List ℕ → Type 0 where
  none : AllPlain []
  also : {b : ℕ} {bs : List ℕ} → Plain b → AllPlain bs → AllPlain (b ∷ bs)

plain_append : {xs ys : List ℕ} → AllPlain xs → AllPlain ys → AllPlain (xs ++ ys)
plain_append none q = q
plain_append (also p ps) q = also p (plain_append ps q)

plain_decimal : (k n : ℕ) → AllPlain (decimal_in k n)
unfolding decimal_in
plain_decimal zero n = none
plain_decimal (suc k) n = by (ltb n 10) refl (plain_decimal k (n / 10))
  where
    by : (t : Bool) → ltb n 10 ≡ t → AllPlain (decimal_in k (n / 10)) → AllPlain (last_after t n (decimal_in k (n / 10)))
    by true e front = also (digit n (ltb-true n 10 e)) none
    by false e front = plain_append front (also (digit (n % 10) (omega arith)) none)

plain_signed : (v : ℤ) → AllPlain (signed_of v)
unfolding signed_of decimal_of
plain_signed (pos n) = plain_decimal (suc n) n
plain_signed (negsuc n) = also minus (plain_decimal (suc (suc n)) (suc n))

abbrev value_in : List ℕ → Value → Value
value_in bs v = record { number = number_in bs v.number; word = word_in bs v.word }

module _ (z : List ℕ) (tg nm : Name) (r : ℕ) (p : Point) (d : Declaration) (n : ℕ) (sm : Sum) (ts ns : List ℕ) (names points : List (List ℕ)) (known : declared d Wrong ≡ false) where
  abbrev reading : Value → Abs
  reading v = here 21 tg nm r v p d n sm ts ns names points

  one_byte : (b : ℕ) (st : List ℕ) (v : Value) → Plain b → step z (fed b st) (reading v) ≡ reading (record { number = fed_number v.number b; word = pushed v.word b })
  unfolding step moved actions action_of pick more sum texted named referred valued pointed said wrong_text attributed
      treed summed point_met contour_met contour_left opens_tag on_path text_fits wrong_in seen_in kept_in point_in rune_on rune_table
  one_byte b st v q = rw (q.move, q.rune, q.small, known)

  bytes : (ds rest : List ℕ) (v : Value) → AllPlain ds → steps z (fed_of (ds ++ rest)) (reading v) ≡ steps z (fed_of rest) (reading (value_in ds v))
  unfolding steps fed_of number_in word_in
  bytes [] rest v q = refl
  bytes (b ∷ ds) rest v (also q qs) =
      ap (steps z (fed_of (ds ++ rest))) (one_byte b (stem (b ∷ ds ++ rest)) v q)
      ∙ bytes ds rest (record { number = fed_number v.number b; word = pushed v.word b }) qs

-- ---- between the numbers, and after them

abbrev point_word : Name
point_word = at_word 482905517684

module _ (z : List ℕ) (r : ℕ) (v : Value) (d : Declaration) (sm : Sum) (names points : List (List ℕ)) (known : declared d Wrong ≡ false) (room : 5 < length names) where
  turns : get_or names 3 z ≡ x_stem → steps z (fed_of between) (here 21 point_word (at_word 120) r v no_point d 1 sm point_stem x_stem names points)
      ≡ here 21 point_word (at_word 121) r no_value (record { x = v.number; y = no_number; kind = Offcurve }) d 2 sm point_stem y_stem (set names 4 y_stem) points
  unfolding steps step moved fed_of stem is_name class_of classes table move_of actions action_of pick more sum texted named pushed referred valued pointed said wrong_text attributed
      treed summed point_met contour_met contour_left opens_tag on_path text_fits wrong_in seen_in kept_in point_in rune_on rune_class runes rune_table alike
  turns e = rw (known, lt-leb (length names) 4 (omega arith), e)

  module _ (nx : Number) where
    abbrev before : Abs
    before = here 21 point_word (at_word 121) r v (record { x = nx; y = no_number; kind = Offcurve }) d 2 sm point_stem y_stem names points

    -- `" type="`
    typed : get_or names 3 z ≡ x_stem → get_or names 4 z ≡ y_stem → steps z (fed_of (34 ∷ 32 ∷ 116 ∷ 121 ∷ 112 ∷ 101 ∷ 61 ∷ 34 ∷ [])) before
        ≡ here 21 point_word (at_word 1954115685) r no_value (record { x = nx; y = v.number; kind = Offcurve }) d 3 sm point_stem type_stem (set names 5 type_stem) points
    unfolding steps step moved fed_of stem is_name class_of classes table move_of actions action_of pick more sum texted named pushed referred valued pointed said wrong_text attributed
        treed summed point_met contour_met contour_left opens_tag on_path text_fits wrong_in seen_in kept_in point_in rune_on rune_class runes rune_table alike
    typed three four = rw (known, lt-leb (length names) 5 (omega arith), three, four)

    abbrev after : Name → ℕ → List ℕ → Point → Abs
    after nm n ns p = here 12 point_word nm r v p d n (with_point sm p) point_stem ns names (set points sm.points (place_of sm p))

    ends_off : (b : Bool) → steps z (fed_of (closing ++ kind_text false b)) before ≡ after (at_word 121) 2 y_stem (record { x = nx; y = v.number; kind = Offcurve })
    unfolding steps step moved fed_of stem is_name class_of classes table move_of actions action_of pick more sum texted named pushed referred valued pointed said wrong_text attributed
        treed summed point_met contour_met contour_left opens_tag on_path entered left path_word text_fits wrong_in seen_in kept_in point_in rune_on rune_class runes rune_table alike kind_text
    ends_off b = rw known

    ends_on : (ny : Number) → steps z (fed_of (34 ∷ 47 ∷ 62 ∷ [])) (here 21 point_word (at_word 1954115685) r v (record { x = nx; y = ny; kind = Offcurve }) d 3 sm point_stem type_stem names points)
        ≡ after (at_word 1954115685) 3 type_stem (record { x = nx; y = ny; kind = kind_of v.word })
    unfolding steps step moved fed_of stem is_name class_of classes table move_of actions action_of pick more sum texted named pushed referred valued pointed said wrong_text attributed
        treed summed point_met contour_met contour_left opens_tag on_path entered left path_word text_fits wrong_in seen_in kept_in point_in rune_on rune_class runes rune_table alike
    ends_on ny = rw known

-- ---- a point

pub record Ready (w : Abs) : Type 0 where
  pub state : w.text.state ≡ 12
  pub clean : w.text.wrong ≡ false
  pub known : declared w.text.said Wrong ≡ false
  pub tree : w.tree ≡ in_contour
  pub rune : w.rune ≡ 0
  pub room : 5 < length w.names

-- what was there before is as it was, but for the points
pub record Kept (z : List ℕ) (w w' : Abs) (sm : Sum) (ps : List (List ℕ)) : Type 0 where
  pub ready : Ready w'
  pub said : w'.text.said ≡ w.text.said
  pub long : length w'.names ≡ length w.names
  pub below : (j : ℕ) → j < 3 → get_or w'.names j z ≡ get_or w.names j z
  pub sum : w'.sum ≡ sm
  pub points : w'.points ≡ ps

abbrev pub written_kind : Bool → Bool → Kind
written_kind true true = Line
written_kind true false = Qcurve
written_kind false before = Offcurve

abbrev pub point_of : ℤ → ℤ → Bool → Bool → Point
point_of x y on before = record { x = number_in (signed_of x) no_number; y = number_in (signed_of y) no_number; kind = written_kind on before }

letters : AllPlain (108 ∷ 105 ∷ 110 ∷ 101 ∷ []) × AllPlain (113 ∷ 99 ∷ 117 ∷ 114 ∷ 118 ∷ 101 ∷ [])
unfolding move_of pick table class_of classes rune_class runes narrowed
letters = (
  also (record { move = refl; rune = refl; small = refl }) (also (record { move = refl; rune = refl; small = refl })
      (also (record { move = refl; rune = refl; small = refl }) (also (record { move = refl; rune = refl; small = refl }) none))),
  also (record { move = refl; rune = refl; small = refl }) (also (record { move = refl; rune = refl; small = refl })
      (also (record { move = refl; rune = refl; small = refl }) (also (record { move = refl; rune = refl; small = refl })
      (also (record { move = refl; rune = refl; small = refl }) (also (record { move = refl; rune = refl; small = refl }) none))))),
)

line_word : kind_of (word_in (108 ∷ 105 ∷ 110 ∷ 101 ∷ []) 0) ≡ Line
unfolding word_in pushed pick kind_of
line_word = refl

curve_word : kind_of (word_in (113 ∷ 99 ∷ 117 ∷ 114 ∷ 118 ∷ 101 ∷ []) 0) ≡ Qcurve
unfolding word_in pushed pick kind_of
curve_word = refl

abbrev typing : List ℕ
typing = 34 ∷ 32 ∷ 116 ∷ 121 ∷ 112 ∷ 101 ∷ 61 ∷ 34 ∷ []

abbrev ending : List ℕ
ending = 34 ∷ 47 ∷ 62 ∷ []

no_quote : is_name 34 ≡ false
unfolding is_name class_of classes pick
no_quote = refl

no_greater : is_name 62 ≡ false
unfolding is_name class_of classes pick
no_greater = refl

opening_closed : Closed opening
opening_closed = closed_append (60 ∷ 112 ∷ 111 ∷ 105 ∷ 110 ∷ 116 ∷ 32 ∷ 120 ∷ 61 ∷ []) (last no_quote)

between_closed : Closed between
between_closed = closed_append (34 ∷ 32 ∷ 121 ∷ 61 ∷ []) (last no_quote)

typing_closed : Closed typing
typing_closed = closed_append (34 ∷ 32 ∷ 116 ∷ 121 ∷ 112 ∷ 101 ∷ 61 ∷ []) (last no_quote)

kind_closed : (on before : Bool) → Closed (kind_text on before)
unfolding kind_text
kind_closed true true = closed_append (32 ∷ 116 ∷ 121 ∷ 112 ∷ 101 ∷ 61 ∷ 34 ∷ 108 ∷ 105 ∷ 110 ∷ 101 ∷ 34 ∷ 47 ∷ []) (last no_greater)
kind_closed true false = closed_append (32 ∷ 116 ∷ 121 ∷ 112 ∷ 101 ∷ 61 ∷ 34 ∷ 113 ∷ 99 ∷ 117 ∷ 114 ∷ 118 ∷ 101 ∷ 34 ∷ 47 ∷ []) (last no_greater)
kind_closed false before = closed_append (47 ∷ []) (last no_greater)

pub point_closed : (x y : ℤ) (on before : Bool) → Closed (point_text x y on before)
unfolding point_text
point_closed x y on before =
    closed_append opening (closed_append (signed_of x) (closed_append between (closed_append (signed_of y) (closed_append closing (kind_closed on before)))))

run_closed : (z : List ℕ) {u : List ℕ} → Closed u → (v : List ℕ) (w : Abs) → steps z (fed_of (u ++ v)) w ≡ steps z (fed_of v) (steps z (fed_of u) w)
run_closed z {u} c v w = ap (λ (l : List Fed). steps z l w) (closed_fed c v) ∙ steps_append z (fed_of u) (fed_of v) w

module _ (z : List ℕ) (tg nm : Name) (r : ℕ) (v : Value) (p : Point) (d : Declaration) (n : ℕ) (sm : Sum) (ts ns : List ℕ) (names points : List (List ℕ)) (known : declared d Wrong ≡ false) (room : 5 < length names) where
  abbrev start : Abs
  start = here 12 tg nm r v p d n sm ts ns names points

  abbrev x_text : ℤ → Value
  x_text x = value_in (signed_of x) no_value

  abbrev named3 : List (List ℕ)
  named3 = set names 3 x_stem

  abbrev named4 : List (List ℕ)
  named4 = set named3 4 y_stem

  long3 : length named3 ≡ length names
  long3 = length-set names 3 x_stem

  long4 : length named4 ≡ length names
  long4 = length-set named3 4 y_stem ∙ long3

  at3 : get_or named3 3 z ≡ x_stem
  at3 = get_or-set_same names 3 x_stem z (omega arith)

  at34 : get_or named4 3 z ≡ x_stem
  at34 = get_or-set_other named3 4 3 y_stem z (λ e. omega (arith, e)) ∙ at3

  at4 : get_or named4 4 z ≡ y_stem
  at4 = get_or-set_same named3 4 y_stem z (omega (arith, long3))

  -- both numbers read, at the quotation mark after them
  numbers : (x y : ℤ) (rest : List ℕ) → steps z (fed_of (opening ++ (signed_of x ++ (between ++ (signed_of y ++ rest))))) start
      ≡ steps z (fed_of rest) (here 21 point_word (at_word 121) r (x_text y) (record { x = number_in (signed_of x) no_number; y = no_number; kind = Offcurve }) d 2 sm point_stem y_stem named4 points)
  numbers x y rest =
      run_closed z opening_closed (signed_of x ++ (between ++ (signed_of y ++ rest))) start
      ∙ ap (steps z (fed_of (signed_of x ++ (between ++ (signed_of y ++ rest))))) (opens z tg nm r v p d n sm ts ns names points known room)
      ∙ bytes z point_word (at_word 120) r no_point d 1 sm point_stem x_stem named3 points known (signed_of x) (between ++ (signed_of y ++ rest)) no_value (plain_signed x)
      ∙ run_closed z between_closed (signed_of y ++ rest) _
      ∙ ap (steps z (fed_of (signed_of y ++ rest))) (turns z r (x_text x) d sm named3 points known (omega (arith, long3)) at3)
      ∙ bytes z point_word (at_word 121) r (record { x = number_in (signed_of x) no_number; y = no_number; kind = Offcurve }) d 2 sm point_stem y_stem named4 points known (signed_of y) rest no_value (plain_signed y)

  -- names that are put at 3 and later
  kept_here : {nm' : Name} {v' : Value} {n' : ℕ} {ns' : List ℕ} (x : Point) (sm' : Sum) (names' points' : List (List ℕ)) → length names' ≡ length names →
      ((j : ℕ) → j < 3 → get_or names' j z ≡ get_or names j z) → Kept z start (here 12 point_word nm' r v' x d n' sm' point_stem ns' names' points') sm' points'
  kept_here x sm' names' points' long below = record {
    ready = record { state = refl; clean = refl; known = known; tree = refl; rune = refl; room = omega (arith, long) };
    said = refl;
    long = long;
    below = below;
    sum = refl;
    points = refl;
  }

  below4 : (j : ℕ) → j < 3 → get_or named4 j z ≡ get_or names j z
  below4 j h = get_or-set_other named3 4 j y_stem z (λ e. omega (arith, e)) ∙ get_or-set_other names 3 j x_stem z (λ e. omega (arith, e))

  abbrev named5 : List (List ℕ)
  named5 = set named4 5 type_stem

  long5 : length named5 ≡ length names
  long5 = length-set named4 5 type_stem ∙ long4

  below5 : (j : ℕ) → j < 3 → get_or named5 j z ≡ get_or names j z
  below5 j h = get_or-set_other named4 5 j type_stem z (λ e. omega (arith, e)) ∙ below4 j h

  abbrev Read : ℤ → ℤ → Bool → Bool → Type 0
  Read x y on before = Kept z start (steps z (fed_of (point_text x y on before)) start) (with_point sm (point_of x y on before)) (set points sm.points (place_of sm (point_of x y on before)))

  read_off : (x y : ℤ) (before : Bool) → Read x y false before
  unfolding point_text
  read_off x y before =
      subst (λ (w : Abs). Kept z start w (with_point sm (point_of x y false before)) (set points sm.points (place_of sm (point_of x y false before))))
      (sym (numbers x y (closing ++ kind_text false before) ∙ ends_off z r (x_text y) d sm named4 points known (omega (arith, long4)) (number_in (signed_of x) no_number) before))
      (kept_here (point_of x y false before) _ named4 _ long4 below4)

  -- a type, from its letters
  read_on : (x y : ℤ) (word : List ℕ) (kind : Kind) → AllPlain word → kind_of (word_in word 0) ≡ kind →
      let p : Point = record { x = number_in (signed_of x) no_number; y = number_in (signed_of y) no_number; kind = kind } in
      Kept z start (steps z (fed_of (opening ++ (signed_of x ++ (between ++ (signed_of y ++ (typing ++ (word ++ ending))))))) start) (with_point sm p) (set points sm.points (place_of sm p))
  read_on x y word kind plain is =
      let p : Point = record { x = number_in (signed_of x) no_number; y = number_in (signed_of y) no_number; kind = kind } in
      let q : Kind → Point = λ k. record { x = number_in (signed_of x) no_number; y = number_in (signed_of y) no_number; kind = k } in
      let nx : Number = number_in (signed_of x) no_number in
      let ny : Number = number_in (signed_of y) no_number in
      let run : steps z (fed_of (opening ++ (signed_of x ++ (between ++ (signed_of y ++ (typing ++ (word ++ ending))))))) start
      ≡ here 12 point_word (at_word 1954115685) r (value_in word no_value) (q (kind_of (word_in word 0))) d 3 (with_point sm (q (kind_of (word_in word 0)))) point_stem type_stem named5 (set points sm.points (place_of sm (q (kind_of (word_in word 0))))) =
      numbers x y (typing ++ (word ++ ending))
      ∙ run_closed z typing_closed (word ++ ending) _
      ∙ ap (steps z (fed_of (word ++ ending))) (typed z r (x_text y) d sm named4 points known (omega (arith, long4)) nx at34 at4)
      ∙ bytes z point_word (at_word 1954115685) r (record { x = nx; y = ny; kind = Offcurve }) d 3 sm point_stem type_stem named5 points known word ending no_value plain
      ∙ ends_on z r (value_in word no_value) d sm named5 points known (omega (arith, long5)) nx ny in
      let kept = kept_here {nm' = at_word 1954115685} {v' = value_in word no_value} {n' = 3} {ns' = type_stem} (q (kind_of (word_in word 0))) (with_point sm (q (kind_of (word_in word 0)))) named5 (set points sm.points (place_of sm (q (kind_of (word_in word 0))))) long5 below5 in
      subst (λ (k : Kind). Kept z start (steps z (fed_of (opening ++ (signed_of x ++ (between ++ (signed_of y ++ (typing ++ (word ++ ending))))))) start) (with_point sm (q k)) (set points sm.points (place_of sm (q k)))) is
      (subst (λ (w : Abs). Kept z start w (with_point sm (q (kind_of (word_in word 0)))) (set points sm.points (place_of sm (q (kind_of (word_in word 0)))))) (sym run) kept)

  read : (x y : ℤ) (on before : Bool) → Read x y on before
  unfolding point_text kind_text
  read x y true true = read_on x y (108 ∷ 105 ∷ 110 ∷ 101 ∷ []) Line letters.0 line_word
  read x y true false = read_on x y (113 ∷ 99 ∷ 117 ∷ 114 ∷ 118 ∷ 101 ∷ []) Qcurve letters.1 curve_word
  read x y false before = read_off x y before

pub point_read : (z : List ℕ) (w : Abs) → Ready w → (x y : ℤ) (on before : Bool) →
    Kept z w (steps z (fed_of (point_text x y on before)) w) (with_point w.sum (point_of x y on before)) (set w.points w.sum.points (place_of w.sum (point_of x y on before)))
point_read z w ready x y on before =
    let t = w.text in
    let is : here 12 t.tag t.name t.refer t.value t.point t.said t.attributes w.sum w.tag w.name w.names w.points ≡ w =
    λ i. record {
      text = record { state = sym ready.state i; tag = t.tag; name = t.name; refer = t.refer; value = t.value; point = t.point; said = t.said; attributes = t.attributes; wrong = sym ready.clean i };
      tree = sym ready.tree i;
      sum = w.sum;
      tag = w.tag;
      name = w.name;
      names = w.names;
      points = w.points;
      rune = sym ready.rune i;
    } in
    subst (λ (u : Abs). Kept z u (steps z (fed_of (point_text x y on before)) u) (with_point u.sum (point_of x y on before)) (set u.points u.sum.points (place_of u.sum (point_of x y on before)))) is
    (read z t.tag t.name t.refer t.value t.point t.said t.attributes w.sum w.tag w.name w.names w.points ready.known ready.room x y on before)

-- ---- the `<` after them

less_moves : move_of 12 2 ≡ 15
unfolding move_of table pick
less_moves = refl

less_here : (z : List ℕ) (b : ℕ) (st : List ℕ) (tg nm : Name) (r : ℕ) (v : Value) (p : Point) (d : Declaration) (n : ℕ) (sm : Sum) (ts ns : List ℕ) (names points : List (List ℕ)) →
    declared d Wrong ≡ false → class_of b ≡ 2 → rune_class b ≡ 0 →
    step z (fed b st) (here 12 tg nm r v p d n sm ts ns names points) ≡ here 15 tg nm r v p d n sm ts ns names points
unfolding step moved actions action_of pick more sum texted named referred valued pointed said wrong_text attributed
    treed summed point_met contour_met contour_left opens_tag on_path text_fits wrong_in seen_in kept_in point_in rune_on rune_table
less_here z b st tg nm r v p d n sm ts ns names points known class rune = rw (class, less_moves, rune, known)

-- all that is remembered, as it stands in a contour
abbrev pub standing : ℕ → Abs → Abs
standing state w =
    let t = w.text in
    here state t.tag t.name t.refer t.value t.point t.said t.attributes w.sum w.tag w.name w.names w.points

pub stands : (w : Abs) → Ready w → standing 12 w ≡ w
stands w ready =
    let t = w.text in
    λ i. record {
      text = record { state = sym ready.state i; tag = t.tag; name = t.name; refer = t.refer; value = t.value; point = t.point; said = t.said; attributes = t.attributes; wrong = sym ready.clean i };
      tree = sym ready.tree i;
      sum = w.sum;
      tag = w.tag;
      name = w.name;
      names = w.names;
      points = w.points;
      rune = sym ready.rune i;
    }

pub less_read : (z : List ℕ) (b : ℕ) (st : List ℕ) (w : Abs) → Ready w → class_of b ≡ 2 → rune_class b ≡ 0 → step z (fed b st) w ≡ standing 15 w
less_read z b st w ready class rune =
    let t = w.text in
    ap (step z (fed b st)) (sym (stands w ready))
    ∙ less_here z b st t.tag t.name t.refer t.value t.point t.said t.attributes w.sum w.tag w.name w.names w.points ready.known class rune
