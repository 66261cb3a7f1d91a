-- A file byte by byte. Assumes nothing.
use Prim.Native.Nat.{ℕ, ◌+◌, ◌/◌, ◌%◌, ◌≤◌}
use mathlib.Core.Bool.{Bool}
use mathlib.Core.List.{List}
use mathlib.Core.Path.{◌≡◌, ◌∙◌}
use native.Mathlib.Numerals.{add-one}
use native.Mathlib.Omega.{arith}
use lib.ListN.{length, get_or, replicate}
use Rattle.gliftext.specs.Table.{class_of, move_of}
use Rattle.gliftext.specs.Text.{texted}
use Rattle.gliftext.specs.Utf8.{is_utf8}
use Rattle.gliftext.specs.declared.text.Text.{Text}
use Rattle.glif.specs.Names.{wrong_names, kept_names}
use Rattle.glif.specs.Outline.{point_met, summed, kept_point}
use Rattle.glif.specs.Tree.{treed}
use Rattle.glif.specs.declared.outline.Sum.{Sum}
use Rattle.glif.specs.declared.tree.Tree.{Tree}
use Rattle.glif.specs.Scan.{fresh_scan, Pass, pass, turned, scanned, totals_of, judged, judged_of}
use Rattle.glif.specs.declared.scan.Scan.{Scan}
use Rattle.glif.specs.declared.scan.Totals.{Totals}
use Rattle.gliftext.specs.Actions.{action_of}
use Rattle.gliftext.specs.declared.action.Action.{Action}

module _ (bs ns : List ℕ) (ps : List (List ℕ)) where
  pub scan_starts : {s : Scan} → s ≡ fresh_scan → pass s ns ps ≡ scanned bs 0 ns ps
  unfolding scanned
  scan_starts e = rw e

  pub scan_more : (i : ℕ) {q r : Pass} → q ≡ scanned bs i ns ps → r ≡ turned bs i q → r ≡ scanned bs (i + 1) ns ps
  unfolding scanned
  scan_more i e f = f ∙ rw (e, add-one i)

  pub scan_all : {i : ℕ} {q : Pass} → i ≤ length bs → length bs ≤ i → q ≡ scanned bs i ns ps → q ≡ scanned bs (length bs) ns ps
  scan_all {i} h k e =
      let same : i ≡ length bs = omega arith in
      e ∙ rw same

pub judge_is : (bs : List ℕ) (ps₀ : List (List ℕ)) {s : Scan} {ns : List ℕ} {ps : List (List ℕ)} {u : Bool} {r : Totals} →
    pass s ns ps ≡ scanned bs (length bs) (replicate 256 0) ps₀ → u ≡ is_utf8 bs → r ≡ totals_of s u → judged r ps ≡ judged_of bs ps₀
unfolding judged_of
judge_is bs ps₀ e f g = rw (← e, g, f)

-- one byte, from what each part gives
pub turn_is : (bs : List ℕ) (i : ℕ) (s : Scan) (ns : List ℕ) (ps : List (List ℕ)) {k m : ℕ} {action : Action} {text : Text} {wrong met : Bool} {tree : Tree} {sum : Sum}
    {ns' : List ℕ} {ps' : List (List ℕ)} → k ≡ class_of (get_or bs i 0) → m ≡ move_of s.text.state k → action ≡ action_of (m / 64) →
    text ≡ texted s.text (m % 64) action (get_or bs i 0) i →
    wrong ≡ wrong_names bs ns action s.tree.depth s.text.attributes text.name.at →
    ns' ≡ kept_names ns action s.tree.depth s.text.attributes text.tag.at text.name.at →
    met ≡ point_met s.tree action text.tag.word → ps' ≡ kept_point ps met s.sum text.point →
    tree ≡ treed s.tree action text.tag.word wrong → sum ≡ summed s.sum s.tree action text.tag.word text.point →
    pass (record { text = text; tree = tree; sum = sum }) ns' ps' ≡ turned bs i (pass s ns ps)
unfolding turned
turn_is bs i s ns ps a b n d e f g h j l = rw (l, j, h, g, f, e, d, n, b, a)
