-- A file read byte by byte. Definitions only.
use Rattle.std.specs.Prelude.{ℕ, zero, suc, ◌/◌, ◌%◌, Bool, not, List, eqb, length, get_or, replicate, Option, Some, None}
use Rattle.refusals.specs.declared.refusal.Refusal.{Refusal}
use Rattle.refusals.specs.declared.refusal.Refusal.TheVariants.{TooLarge, Malformed, CubicOrOpen, NoOnCurve}
use Rattle.gliftext.specs.Pick.{pick, both, either}
use Rattle.gliftext.specs.Table.{class_of, move_of}
use Rattle.gliftext.specs.Text.{fresh_text, texted}
use Rattle.gliftext.specs.Utf8.{is_utf8}
use Rattle.glif.specs.Names.{wrong_names, kept_names}
use Rattle.glif.specs.Tree.{no_tree, treed}
use Rattle.glif.specs.Outline.{no_sum, point_met, summed, kept_point}
use Rattle.gliftext.specs.declared.text.Text.{Text}
use Rattle.glif.specs.declared.scan.Totals.{Totals}
use Rattle.glif.specs.declared.scan.Scan.{Scan}
use Rattle.gliftext.specs.Actions.{action_of}
use Rattle.gliftext.specs.declared.action.Action.{Action}

abbrev pub fresh_scan : Scan
fresh_scan = record { text = fresh_text; tree = no_tree; sum = no_sum }

-- what is remembered, the names' row, the points' row
pub data Pass : Type 0 where
  pass : Scan → List ℕ → List (List ℕ) → Pass

-- one byte: its action on the text; then on the open elements, the contours and the rows, with the text as it is after it
abbrev pub acted : List ℕ → Action → Text → Scan → List ℕ → List (List ℕ) → Pass
acted bytes action text s names points =
    pass
    (record {
      text = text;
      tree = treed s.tree action text.tag.word (wrong_names bytes names action s.tree.depth s.text.attributes text.name.at);
      sum = summed s.sum s.tree action text.tag.word text.point;
    })
    (kept_names names action s.tree.depth s.text.attributes text.tag.at text.name.at)
    (kept_point points (point_met s.tree action text.tag.word) s.sum text.point)

unfoldable pub turned : List ℕ → ℕ → Pass → Pass
turned bytes i (pass s names points) =
    let b : ℕ = get_or bytes i 0 in
    let m : ℕ = move_of s.text.state (class_of b) in
    let action : Action = action_of (m / 64) in
    acted bytes action (texted s.text (m % 64) action b i) s names points

-- the first k bytes
unfoldable pub scanned : List ℕ → ℕ → List ℕ → List (List ℕ) → Pass
scanned bytes zero names points = pass fresh_scan names points
scanned bytes (suc k) names points = turned bytes k (scanned bytes k names points)

-- 19, 20, 14, 21, each over the whole file before the next
unfoldable pub refusal_of : Scan → Bool → Option Refusal
refusal_of s utf8 =
    pick
    (either (either s.text.wrong (either s.tree.wrong s.sum.wrong))
    (either (not (both (eqb s.text.state 12) (both (eqb s.tree.depth 0) s.tree.root))) (not utf8)))
    (Some Malformed)
    (pick s.sum.cubic (Some CubicOrOpen) (pick s.sum.far (Some TooLarge) (pick s.sum.bare (Some NoOnCurve) None)))

unfoldable pub totals_of : Scan → Bool → Totals
totals_of s utf8 = record { refusal = refusal_of s utf8; contours = s.sum.contours; points = s.sum.points; full = s.sum.full }

-- what is found, and the points' row
pub data Judged : Type 0 where
  judged : Totals → List (List ℕ) → Judged

abbrev judged_by : Bool → Pass → Judged
judged_by utf8 (pass s names points) = judged (totals_of s utf8) points

-- at most 256 names are kept
unfoldable pub judged_of : List ℕ → List (List ℕ) → Judged
judged_of bytes points = judged_by (is_utf8 bytes) (scanned bytes (length bytes) (replicate 256 0) points)
