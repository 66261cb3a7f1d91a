-- Files by the definition, computed: what is read of them. Assumes nothing.
use Rattle.std.specs.Prelude.{ℕ, List, [], ◌∷◌, ◌≡◌, refl, pos, negsuc, Result, Ok, Err}
use Rattle.refusals.specs.declared.refusal.Refusal.{Refusal}
use Rattle.refusals.specs.declared.refusal.Refusal.TheVariants.{Malformed, CubicOrOpen}
use Rattle.gliftext.specs.Pick.{pick, more, sum}
use Rattle.gliftext.specs.Words.{pushed, digit_of, grown, fed_number, named_char, is_char, narrowed}
use Rattle.gliftext.specs.Actions.{actions, action_of}
use Rattle.gliftext.specs.Table.{classes, class_of, is_name, table, move_of}
use Rattle.gliftext.specs.Utf8.{runes, rune_class, rune_table, rune_on, rune_at, is_utf8}
use Rattle.gliftext.specs.Text.{named, referred, valued, kind_of, pointed, said, wrong_text, attributed, texted}
use Rattle.glif.specs.Tree.{path_word, on_path, entered, left, text_fits, opens_tag, treed}
use Rattle.glif.specs.Names.{alike, same_name, seen_to, repeated, unclosed, wrong_names, kept_names}
use Rattle.glif.specs.Outline.{is_number, is_far, offset_of, cubic_of, begun, ended}
use Rattle.glif.specs.Outline.{wrong_point, with_point, point_met, contour_met, contour_left, summed, mark_of, kept_point}
use Rattle.glif.specs.Scan.{turned, scanned, refusal_of, totals_of, judged_of}
use Rattle.glifread.specs.Enter.{is_off, is_first, middle_of, signed_of, flag_of, end_of, rows, put_at}
use Rattle.glifread.specs.Enter.{enter_one, enter_to, seek_from, enter_contour, enter_next, enter_up_to, Filled, filled, enter_all}
use Rattle.glifread.specs.Reads.{Rooms, rooms, refusal, answer_by, enters_by}
use Rattle.glifread.specs.declared.read.Counts.{Counts}
use Rattle.glifread.specs.Entry.{judged_in}

-- the answer to a file, with rows of four places
abbrev four : Rooms
four = rooms 4 4 4 4 4

abbrev reported : List ℕ → Result Counts Refusal
reported bytes = answer_by (judged_in bytes four) four

-- and the rows, which held zeros
abbrev zeros : Filled
zeros = filled (0 ∷ 0 ∷ 0 ∷ 0 ∷ []) (rows (pos 0 ∷ pos 0 ∷ pos 0 ∷ pos 0 ∷ []) (pos 0 ∷ pos 0 ∷ pos 0 ∷ pos 0 ∷ []) (0 ∷ 0 ∷ 0 ∷ 0 ∷ []))

abbrev filled_by : List ℕ → Filled
filled_by bytes = enters_by (judged_in bytes four) four zeros

-- <glyph/>
abbrev alone : List ℕ
alone =
    60 ∷ 103 ∷ 108 ∷ 121 ∷ 112 ∷ 104 ∷ 47 ∷ 62 ∷ []

pub reads_alone : reported alone ≡ Ok (record { contours = 0; points = 0 })
unfolding pick more sum pushed digit_of grown fed_number named_char is_char narrowed classes class_of is_name table move_of actions action_of runes rune_class
    rune_table rune_on rune_at is_utf8 named referred valued kind_of pointed said wrong_text attributed texted path_word on_path entered left text_fits opens_tag
    treed alike same_name seen_to repeated unclosed wrong_names kept_names is_number is_far offset_of cubic_of begun ended wrong_point with_point
    point_met contour_met contour_left summed mark_of kept_point turned scanned refusal_of totals_of judged_of refusal
reads_alone = refl

-- <glyph><outline><contour><point x="0" y="0"/><point x="-3" y="1"/><point x="9" y="9" type="qcurve"/></contour></outline></glyph>
abbrev entering : List ℕ
entering =
    60 ∷ 103 ∷ 108 ∷ 121 ∷ 112 ∷ 104 ∷ 62 ∷ 60 ∷ 111 ∷ 117 ∷ 116 ∷ 108 ∷ 105 ∷ 110 ∷ 101 ∷ 62 ∷ 60 ∷ 99 ∷ 111 ∷ 110 ∷ 116 ∷ 111 ∷ 117 ∷ 114 ∷
    62 ∷ 60 ∷ 112 ∷ 111 ∷ 105 ∷ 110 ∷ 116 ∷ 32 ∷ 120 ∷ 61 ∷ 34 ∷ 48 ∷ 34 ∷ 32 ∷ 121 ∷ 61 ∷ 34 ∷ 48 ∷ 34 ∷ 47 ∷ 62 ∷ 60 ∷ 112 ∷ 111 ∷
    105 ∷ 110 ∷ 116 ∷ 32 ∷ 120 ∷ 61 ∷ 34 ∷ 45 ∷ 51 ∷ 34 ∷ 32 ∷ 121 ∷ 61 ∷ 34 ∷ 49 ∷ 34 ∷ 47 ∷ 62 ∷ 60 ∷ 112 ∷ 111 ∷ 105 ∷ 110 ∷ 116 ∷
    32 ∷ 120 ∷ 61 ∷ 34 ∷ 57 ∷ 34 ∷ 32 ∷ 121 ∷ 61 ∷ 34 ∷ 57 ∷ 34 ∷ 32 ∷ 116 ∷ 121 ∷ 112 ∷ 101 ∷ 61 ∷ 34 ∷ 113 ∷ 99 ∷ 117 ∷ 114 ∷ 118 ∷
    101 ∷ 34 ∷ 47 ∷ 62 ∷ 60 ∷ 47 ∷ 99 ∷ 111 ∷ 110 ∷ 116 ∷ 111 ∷ 117 ∷ 114 ∷ 62 ∷ 60 ∷ 47 ∷ 111 ∷ 117 ∷ 116 ∷ 108 ∷ 105 ∷ 110 ∷ 101 ∷ 62 ∷
    60 ∷ 47 ∷ 103 ∷ 108 ∷ 121 ∷ 112 ∷ 104 ∷ 62 ∷ []

-- from the on-curve point, with the middle (-1.5, 0.5) between the two off-curve ones
pub reads_contour : reported entering ≡ Ok (record { contours = 1; points = 4 })
unfolding pick more sum pushed digit_of grown fed_number named_char is_char narrowed classes class_of is_name table move_of actions action_of runes rune_class
    rune_table rune_on rune_at is_utf8 named referred valued kind_of pointed said wrong_text attributed texted path_word on_path entered left text_fits opens_tag
    treed alike same_name seen_to repeated unclosed wrong_names kept_names is_number is_far offset_of cubic_of begun ended wrong_point with_point
    point_met contour_met contour_left summed mark_of kept_point turned scanned refusal_of totals_of judged_of refusal
reads_contour = refl

pub enters_contour : filled_by entering
    ≡ filled (3 ∷ 0 ∷ 0 ∷ 0 ∷ []) (rows (pos 9 ∷ pos 0 ∷ negsuc 1 ∷ negsuc 2 ∷ []) (pos 9 ∷ pos 0 ∷ pos 1 ∷ pos 1 ∷ []) (1 ∷ 0 ∷ 1 ∷ 0 ∷ []))
unfolding pick more sum pushed digit_of grown fed_number named_char is_char narrowed classes class_of is_name table move_of actions action_of runes rune_class
    rune_table rune_on rune_at is_utf8 named referred valued kind_of pointed said wrong_text attributed texted path_word on_path entered left text_fits opens_tag
    treed alike same_name seen_to repeated unclosed wrong_names kept_names is_number is_far offset_of cubic_of begun ended wrong_point with_point
    point_met contour_met contour_left summed mark_of kept_point turned scanned refusal_of totals_of judged_of refusal is_off is_first
    middle_of signed_of flag_of end_of put_at enter_one enter_to seek_from enter_contour enter_next enter_up_to enter_all
enters_contour = refl

-- <glyph><outline><!-- <contour><point x="1" y="1" type="line"/></contour> --></outline></glyph>
abbrev commented : List ℕ
commented =
    60 ∷ 103 ∷ 108 ∷ 121 ∷ 112 ∷ 104 ∷ 62 ∷ 60 ∷ 111 ∷ 117 ∷ 116 ∷ 108 ∷ 105 ∷ 110 ∷ 101 ∷ 62 ∷ 60 ∷ 33 ∷ 45 ∷ 45 ∷ 32 ∷ 60 ∷ 99 ∷ 111 ∷
    110 ∷ 116 ∷ 111 ∷ 117 ∷ 114 ∷ 62 ∷ 60 ∷ 112 ∷ 111 ∷ 105 ∷ 110 ∷ 116 ∷ 32 ∷ 120 ∷ 61 ∷ 34 ∷ 49 ∷ 34 ∷ 32 ∷ 121 ∷ 61 ∷ 34 ∷ 49 ∷ 34 ∷
    32 ∷ 116 ∷ 121 ∷ 112 ∷ 101 ∷ 61 ∷ 34 ∷ 108 ∷ 105 ∷ 110 ∷ 101 ∷ 34 ∷ 47 ∷ 62 ∷ 60 ∷ 47 ∷ 99 ∷ 111 ∷ 110 ∷ 116 ∷ 111 ∷ 117 ∷ 114 ∷ 62 ∷
    32 ∷ 45 ∷ 45 ∷ 62 ∷ 60 ∷ 47 ∷ 111 ∷ 117 ∷ 116 ∷ 108 ∷ 105 ∷ 110 ∷ 101 ∷ 62 ∷ 60 ∷ 47 ∷ 103 ∷ 108 ∷ 121 ∷ 112 ∷ 104 ∷ 62 ∷ []

pub reads_no_comment : reported commented ≡ Ok (record { contours = 0; points = 0 })
unfolding pick more sum pushed digit_of grown fed_number named_char is_char narrowed classes class_of is_name table move_of actions action_of runes rune_class
    rune_table rune_on rune_at is_utf8 named referred valued kind_of pointed said wrong_text attributed texted path_word on_path entered left text_fits opens_tag
    treed alike same_name seen_to repeated unclosed wrong_names kept_names is_number is_far offset_of cubic_of begun ended wrong_point with_point
    point_met contour_met contour_left summed mark_of kept_point turned scanned refusal_of totals_of judged_of refusal
reads_no_comment = refl

-- <glyph><outline></glyph></outline>
abbrev crossed : List ℕ
crossed =
    60 ∷ 103 ∷ 108 ∷ 121 ∷ 112 ∷ 104 ∷ 62 ∷ 60 ∷ 111 ∷ 117 ∷ 116 ∷ 108 ∷ 105 ∷ 110 ∷ 101 ∷ 62 ∷ 60 ∷ 47 ∷ 103 ∷ 108 ∷ 121 ∷ 112 ∷ 104 ∷ 62 ∷
    60 ∷ 47 ∷ 111 ∷ 117 ∷ 116 ∷ 108 ∷ 105 ∷ 110 ∷ 101 ∷ 62 ∷ []

pub refuses_crossed : reported crossed ≡ Err Malformed
unfolding pick more sum pushed digit_of grown fed_number named_char is_char narrowed classes class_of is_name table move_of actions action_of runes rune_class
    rune_table rune_on rune_at is_utf8 named referred valued kind_of pointed said wrong_text attributed texted path_word on_path entered left text_fits opens_tag
    treed alike same_name seen_to repeated unclosed wrong_names kept_names is_number is_far offset_of cubic_of begun ended wrong_point with_point
    point_met contour_met contour_left summed mark_of kept_point turned scanned refusal_of totals_of judged_of refusal
refuses_crossed = refl

-- <glyph><outline><contour><point x="1.5" y="40000" type="line"/></contour></outline></glyph>: 20 comes before 14
abbrev fractional : List ℕ
fractional =
    60 ∷ 103 ∷ 108 ∷ 121 ∷ 112 ∷ 104 ∷ 62 ∷ 60 ∷ 111 ∷ 117 ∷ 116 ∷ 108 ∷ 105 ∷ 110 ∷ 101 ∷ 62 ∷ 60 ∷ 99 ∷ 111 ∷ 110 ∷ 116 ∷ 111 ∷ 117 ∷ 114 ∷
    62 ∷ 60 ∷ 112 ∷ 111 ∷ 105 ∷ 110 ∷ 116 ∷ 32 ∷ 120 ∷ 61 ∷ 34 ∷ 49 ∷ 46 ∷ 53 ∷ 34 ∷ 32 ∷ 121 ∷ 61 ∷ 34 ∷ 52 ∷ 48 ∷ 48 ∷ 48 ∷ 48 ∷
    34 ∷ 32 ∷ 116 ∷ 121 ∷ 112 ∷ 101 ∷ 61 ∷ 34 ∷ 108 ∷ 105 ∷ 110 ∷ 101 ∷ 34 ∷ 47 ∷ 62 ∷ 60 ∷ 47 ∷ 99 ∷ 111 ∷ 110 ∷ 116 ∷ 111 ∷ 117 ∷ 114 ∷
    62 ∷ 60 ∷ 47 ∷ 111 ∷ 117 ∷ 116 ∷ 108 ∷ 105 ∷ 110 ∷ 101 ∷ 62 ∷ 60 ∷ 47 ∷ 103 ∷ 108 ∷ 121 ∷ 112 ∷ 104 ∷ 62 ∷ []

pub refuses_fractional : reported fractional ≡ Err CubicOrOpen
unfolding pick more sum pushed digit_of grown fed_number named_char is_char narrowed classes class_of is_name table move_of actions action_of runes rune_class
    rune_table rune_on rune_at is_utf8 named referred valued kind_of pointed said wrong_text attributed texted path_word on_path entered left text_fits opens_tag
    treed alike same_name seen_to repeated unclosed wrong_names kept_names is_number is_far offset_of cubic_of begun ended wrong_point with_point
    point_met contour_met contour_left summed mark_of kept_point turned scanned refusal_of totals_of judged_of refusal
refuses_fractional = refl
