-- A file written by the definition, computed. Assumes nothing.
use Rattle.std.specs.Prelude.{ℕ, List, [], ◌∷◌, ◌≡◌, refl, pos, negsuc, replicate, Ok, Err}
use Rattle.gliftext.specs.Pick.{pick, more, sum}
use Rattle.gliftext.specs.Words.{pushed, digit_of, grown, fed_number, named_char, is_char, narrowed}
use Rattle.gliftext.specs.Actions.{actions, action_of}
use Rattle.gliftext.specs.Table.{classes, class_of, is_name, table, move_of}
use Rattle.gliftext.specs.Utf8.{runes, rune_class, rune_table, rune_on, rune_at, is_utf8}
use Rattle.gliftext.specs.Text.{named, referred, valued, kind_of, pointed, said, wrong_text, attributed, texted}
use Rattle.glif.specs.Tree.{path_word, on_path, entered, left, text_fits, opens_tag, treed}
use Rattle.glif.specs.Names.{alike, same_name, seen_to, repeated, unclosed, wrong_names, kept_names}
use Rattle.glif.specs.Outline.{is_number, is_far, offset_of, cubic_of, begun, ended}
use Rattle.glif.specs.Outline.{wrong_point, with_point, point_met, contour_met, contour_left, summed, mark_of, kept_point}
use Rattle.glif.specs.Scan.{turned, scanned, totals_of, judged_of}
use Rattle.glif.specs.Scan as scan
use Rattle.refusals.specs.declared.refusal.Refusal.TheVariants.{OutputTooShort}
use Rattle.lines.specs.Text.{decimal_in, decimal_of, signed_of}
use Rattle.glifwrite.specs.Puts.{put_byte, put_range, put_number, put_kind, put_point}
use Rattle.glifwrite.specs.Contours.{is_on, end_at, start_of, put_place, put_to, empty_to, some_empty, even, rows_refused}
use Rattle.glifwrite.specs.Writes.{GivenRows, given, copy_on, copy_to, write_all, refusal_of, answer_of, left_in}

-- <glyph><outline><contour><point x="0" y="0" type="line"/></contour></outline></glyph>
abbrev pub file : List ℕ
file =
    60 ∷ 103 ∷ 108 ∷ 121 ∷ 112 ∷ 104 ∷ 62 ∷ 60 ∷ 111 ∷ 117 ∷ 116 ∷ 108 ∷ 105 ∷ 110 ∷ 101 ∷ 62 ∷ 60 ∷ 99 ∷ 111 ∷ 110 ∷ 116 ∷ 111 ∷ 117 ∷ 114 ∷
    62 ∷ 60 ∷ 112 ∷ 111 ∷ 105 ∷ 110 ∷ 116 ∷ 32 ∷ 120 ∷ 61 ∷ 34 ∷ 48 ∷ 34 ∷ 32 ∷ 121 ∷ 61 ∷ 34 ∷ 48 ∷ 34 ∷ 32 ∷ 116 ∷ 121 ∷ 112 ∷ 101 ∷
    61 ∷ 34 ∷ 108 ∷ 105 ∷ 110 ∷ 101 ∷ 34 ∷ 47 ∷ 62 ∷ 60 ∷ 47 ∷ 99 ∷ 111 ∷ 110 ∷ 116 ∷ 111 ∷ 117 ∷ 114 ∷ 62 ∷ 60 ∷ 47 ∷ 111 ∷ 117 ∷ 116 ∷
    108 ∷ 105 ∷ 110 ∷ 101 ∷ 62 ∷ 60 ∷ 47 ∷ 103 ∷ 108 ∷ 121 ∷ 112 ∷ 104 ∷ 62 ∷ []

-- (1, -20) on-curve, (3, 40) off-curve
abbrev pub points : GivenRows
points = given (1 ∷ []) (pos 1 ∷ pos 3 ∷ []) (negsuc 19 ∷ pos 40 ∷ []) (1 ∷ 0 ∷ [])

-- <glyph><outline><contour><point x="1" y="-20" type="qcurve"/><point x="3" y="40"/></contour></outline></glyph>
abbrev written : List ℕ
written =
    60 ∷ 103 ∷ 108 ∷ 121 ∷ 112 ∷ 104 ∷ 62 ∷ 60 ∷ 111 ∷ 117 ∷ 116 ∷ 108 ∷ 105 ∷ 110 ∷ 101 ∷ 62 ∷ 60 ∷ 99 ∷ 111 ∷ 110 ∷ 116 ∷ 111 ∷ 117 ∷ 114 ∷
    62 ∷ 60 ∷ 112 ∷ 111 ∷ 105 ∷ 110 ∷ 116 ∷ 32 ∷ 120 ∷ 61 ∷ 34 ∷ 49 ∷ 34 ∷ 32 ∷ 121 ∷ 61 ∷ 34 ∷ 45 ∷ 50 ∷ 48 ∷ 34 ∷ 32 ∷ 116 ∷ 121 ∷
    112 ∷ 101 ∷ 61 ∷ 34 ∷ 113 ∷ 99 ∷ 117 ∷ 114 ∷ 118 ∷ 101 ∷ 34 ∷ 47 ∷ 62 ∷ 60 ∷ 112 ∷ 111 ∷ 105 ∷ 110 ∷ 116 ∷ 32 ∷ 120 ∷ 61 ∷ 34 ∷ 51 ∷
    34 ∷ 32 ∷ 121 ∷ 61 ∷ 34 ∷ 52 ∷ 48 ∷ 34 ∷ 47 ∷ 62 ∷ 60 ∷ 47 ∷ 99 ∷ 111 ∷ 110 ∷ 116 ∷ 111 ∷ 117 ∷ 114 ∷ 62 ∷ 60 ∷ 47 ∷ 111 ∷ 117 ∷
    116 ∷ 108 ∷ 105 ∷ 110 ∷ 101 ∷ 62 ∷ 60 ∷ 47 ∷ 103 ∷ 108 ∷ 121 ∷ 112 ∷ 104 ∷ 62 ∷ []

-- into a row of as many places as it takes
pub writes_points : left_in file points 110 (replicate 110 0) ≡ written
unfolding pick more sum pushed digit_of grown fed_number named_char is_char narrowed classes class_of is_name table move_of actions action_of runes rune_class
    rune_table rune_on rune_at is_utf8 named referred valued kind_of pointed said wrong_text attributed texted path_word on_path entered left text_fits opens_tag
    treed alike same_name seen_to repeated unclosed wrong_names kept_names is_number is_far offset_of cubic_of begun ended wrong_point with_point
    point_met contour_met contour_left summed mark_of kept_point turned scanned totals_of judged_of scan.refusal_of decimal_in decimal_of signed_of put_byte
    put_range put_number put_kind put_point is_on end_at start_of put_place put_to empty_to some_empty even rows_refused copy_on copy_to write_all refusal_of
writes_points = refl

pub reports_bytes : answer_of file points 110 ≡ Ok 110
unfolding pick more sum pushed digit_of grown fed_number named_char is_char narrowed classes class_of is_name table move_of actions action_of runes rune_class
    rune_table rune_on rune_at is_utf8 named referred valued kind_of pointed said wrong_text attributed texted path_word on_path entered left text_fits opens_tag
    treed alike same_name seen_to repeated unclosed wrong_names kept_names is_number is_far offset_of cubic_of begun ended wrong_point with_point
    point_met contour_met contour_left summed mark_of kept_point turned scanned totals_of judged_of scan.refusal_of decimal_in decimal_of signed_of put_byte
    put_range put_number put_kind put_point is_on end_at start_of put_place put_to empty_to some_empty even rows_refused copy_on copy_to write_all refusal_of
reports_bytes = refl

-- one place less: 9
pub refuses_short : answer_of file points 109 ≡ Err OutputTooShort
unfolding pick more sum pushed digit_of grown fed_number named_char is_char narrowed classes class_of is_name table move_of actions action_of runes rune_class
    rune_table rune_on rune_at is_utf8 named referred valued kind_of pointed said wrong_text attributed texted path_word on_path entered left text_fits opens_tag
    treed alike same_name seen_to repeated unclosed wrong_names kept_names is_number is_far offset_of cubic_of begun ended wrong_point with_point
    point_met contour_met contour_left summed mark_of kept_point turned scanned totals_of judged_of scan.refusal_of decimal_in decimal_of signed_of put_byte
    put_range put_number put_kind put_point is_on end_at start_of put_place put_to empty_to some_empty even rows_refused copy_on copy_to write_all refusal_of
refuses_short = refl
