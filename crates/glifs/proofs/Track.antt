-- Where the pieces of a file begin and end, and how many contours it has. Assumes nothing.
use Prim.Native.Nat.{ℕ, suc, ◌-◌, ◌/◌, ◌%◌, ◌≤◌, ◌<◌}
use native.Mathlib.Omega.{arith}
use mathlib.Core.Bool.{Bool, true, false}
use mathlib.Core.List.{List, [], ◌∷◌, ◌++◌}
use mathlib.Core.Path.{◌≡◌, refl, sym, ap, subst, ◌∙◌}
use borrow.Author.Tests.{ne_eqb, eqb-true, eq-eqb}
use lib.Dec.{eqb}
use lib.ListN.{length, get_or, replicate, length-replicate, length-map}
use Rattle.gliftext.specs.Pick.{pick, both, more, most}
use Rattle.gliftext.specs.Table.{class_of, is_name, move_of}
use Rattle.gliftext.specs.Text.{declared, texted}
use Rattle.gliftext.specs.Utf8.{rune_at}
use Rattle.gliftext.specs.declared.text.Text.{Text}
use Rattle.gliftext.specs.declared.text.Declaration.TheVariants.{Wrong}
use Rattle.glif.specs.Tree.{on_path, treed, opens_tag}
use Rattle.glif.specs.Outline.{summed, begun, ended}
use Rattle.glif.specs.Scan.{Pass, pass, scanned}
use Rattle.glif.specs.declared.tree.Tree.{Tree}
use Rattle.glif.specs.declared.outline.Sum.{Sum}
use Rattle.glifwrite.specs.Writes.{read_to, scan_in, no_points}
use Rattle.glifwrite.specs.Outside.{Part, own, contour, track, track_as, track_on, track_to}
use Rattle.gliftext.proofs.Picks.{plain_more, both_is, both_left, both_right}
use Rattle.glif.proofs.Stems.{Abs, Fed, fed, wrong_in, acts, moved, step, abs_of, name_at, names_in, abs_turned, long_names, long_points}
use Rattle.gliftext.proofs.Live.{Facts, facts}
use Rattle.glif.proofs.Like.{depth_opens, depth_less, opens_shallow}
use Rattle.glif.proofs.Ways.{Went, went, Way, opening, closing, outer, inner, way_of, Quiet, quiet_sum, outer_quiet, Points, points_count, inner_points}
use Rattle.glif.proofs.Ways.{root_made, root_kept, outline_next, summed_by, contour_on, point_off, left_closed, left_open, tags_none, met_none}
use Rattle.gliftext.specs.Actions.{does}
use Rattle.gliftext.specs.Actions.{action_of}
use Rattle.gliftext.proofs.Doing.{does_true, does_false}
use Rattle.gliftext.specs.declared.action.Action.{Action}
use Rattle.gliftext.specs.declared.action.Action.TheVariants.{NameStart, Opens, Empty, Closes}

-- ---- one byte, in its parts

abbrev pub act : Abs → ℕ → Action
act f b = action_of (move_of f.text.state (class_of b) / 64)

abbrev pub to : Abs → ℕ → ℕ
to f b = move_of f.text.state (class_of b) % 64

abbrev pub text_after : Abs → ℕ → Text
text_after f b = texted f.text (to f b) (act f b) b 0

abbrev pub word_after : Abs → ℕ → ℕ
word_after f b = (text_after f b).tag.word

abbrev pub wrong_after : List ℕ → Abs → ℕ → List ℕ → Bool
wrong_after z f b st = wrong_in z f.names (act f b) f.tree.depth f.text.attributes (pick (does (act f b) NameStart) st f.name)

pub step_is : (z : List ℕ) (b : ℕ) (st : List ℕ) (f : Abs) → step z (fed b st) f ≡ acts z (act f b) b st (text_after f b) f
unfolding step moved
step_is z b st f = refl

pub state_is : (z : List ℕ) (b : ℕ) (st : List ℕ) (f : Abs) → (step z (fed b st) f).text.state ≡ to f b
unfolding step moved texted
state_is z b st f = refl

-- nothing refused so far
pub record Fine (a : Abs) : Type 0 where
  pub text : a.text.wrong ≡ false
  pub tree : a.tree.wrong ≡ false
  pub bare : a.sum.bare ≡ false
  pub known : declared a.text.said Wrong ≡ false
  pub rune : eqb a.rune 10 ≡ false

pub tag_on : (a : Action) → does a Opens ≡ true → opens_tag a ≡ true
unfolding opens_tag pick
tag_on a e = rw e

begun_count : (s : Sum) → (begun s).contours ≡ s.contours
unfolding begun
begun_count s = refl

ended_count : (s : Sum) → (ended s).contours ≡ more s.contours
unfolding ended
ended_count s = refl

-- ---- the file

module _ (bs : List ℕ) where
  -- what is remembered after i bytes
  unfoldable pub at : ℕ → Abs
  at i = abs_of bs (rune_at bs i) (read_to bs i)

  abbrev pub fed_at : ℕ → Fed
  fed_at i = fed (get_or bs i 0) (name_at bs i)

  pub at_next : (i : ℕ) → at (suc i) ≡ step (name_at bs 0) (fed_at i) (at i)
  unfolding at scanned rune_at
  at_next i =
      abs_turned bs (rune_at bs i) i (read_to bs i)
      (omega (arith, long_names bs (replicate 256 0) no_points i, length-replicate {A = ℕ} 256 0)) (omega (arith, long_points bs (replicate 256 0) no_points i))

  names_of : (r : ℕ) (p : Pass) → length (abs_of bs r p).names ≡ length (names_in bs p)
  unfolding abs_of
  names_of r (pass s names points) = length-map names (name_at bs)

  pub names_at : (i : ℕ) → length (at i).names ≡ 256
  unfolding at
  names_at i = names_of (rune_at bs i) (read_to bs i) ∙ long_names bs (replicate 256 0) no_points i

  scan_tree : (r : ℕ) (p : Pass) → (abs_of bs r p).tree ≡ (scan_in p).tree
  unfolding abs_of
  scan_tree r (pass s names points) = refl

  scan_state : (r : ℕ) (p : Pass) → (abs_of bs r p).text.state ≡ (scan_in p).text.state
  unfolding abs_of Rattle.glif.proofs.Stems.flat
  scan_state r (pass s names points) = refl

  pub tree_at_lem : (i : ℕ) → (scan_in (read_to bs i)).tree ≡ (at i).tree
  unfolding at
  tree_at_lem i = sym (scan_tree (rune_at bs i) (read_to bs i))

  pub state_at_lem : (i : ℕ) → (scan_in (read_to bs i)).text.state ≡ (at i).text.state
  unfolding at
  state_at_lem i = sym (scan_state (rune_at bs i) (read_to bs i))

  abbrev pub opens : ℕ → Bool
  opens i = both (eqb (at i).tree.level 2) (eqb (at (suc i)).tree.level 3)

  abbrev pub closes : ℕ → Bool
  closes i = both (eqb (at i).tree.level 3) (eqb (at (suc i)).tree.level 2)

  pub track_next : (i from tag k : ℕ) (ps : List Part) → track_to bs i ≡ track from tag k ps →
      track_to bs (suc i) ≡ track_as i (pick (eqb (at (suc i)).text.state 15) i tag) (opens i) (closes i) (track from tag k ps)
  unfolding track_to track_on
  track_next i from tag k ps e = rw (e, tree_at_lem i, tree_at_lem (suc i), state_at_lem (suc i))

-- pieces of the file that end with a byte that is no name's
pub data Good (bs : List ℕ) : List Part → Type 0 where
  good_nil : Good bs []
  good_own : {from end : ℕ} {ps : List Part} → from < end → end ≤ length bs → is_name (get_or bs (end - 1) 0) ≡ false → Good bs ps → Good bs (own from end ∷ ps)
  good_contour : {k : ℕ} {ps : List Part} → Good bs ps → Good bs (contour k ∷ ps)

pub good_append : {bs : List ℕ} {ps qs : List Part} → Good bs ps → Good bs qs → Good bs (ps ++ qs)
good_append good_nil h = h
good_append (good_own a b c g) h = good_own a b c (good_append g h)
good_append (good_contour g) h = good_contour (good_append g h)

-- the pieces begin where the file does
pub data Begun : List Part → Type 0 where
  begun_by : {end : ℕ} {ps : List Part} → Begun (own 0 end ∷ ps)

pub data Front : ℕ → List Part → Type 0 where
  front_none : Front 0 []
  front_some : {from : ℕ} {ps : List Part} → Begun ps → Front from ps

begun_append : {ps : List Part} (qs : List Part) → Begun ps → Begun (ps ++ qs)
begun_append qs begun_by = begun_by

front_opens : {from : ℕ} {ps : List Part} (end : ℕ) (qs : List Part) → Front from ps → Begun (ps ++ own from end ∷ qs)
front_opens end qs front_none = begun_by
front_opens {from} end qs (front_some b) = begun_append (own from end ∷ qs) b

-- `>` is no name's, nor a longer character's
greater : (b : ℕ) → eqb (class_of b) 3 ≡ true → is_name b ≡ false
unfolding is_name pick
greater b e = rw (eqb-true (class_of b) 3 e)

pub record Tracked (bs : List ℕ) (i : ℕ) : Type 0 where
  pub from : ℕ
  pub tag : ℕ
  pub k : ℕ
  pub ps : List Part
  pub is : track_to bs i ≡ track from tag k ps
  pub fits : (at bs i).tree.level ≤ (at bs i).tree.depth
  pub shallow : (at bs i).tree.depth ≤ 256
  pub met : 1 < (at bs i).tree.level → (at bs i).tree.outline ≡ true
  pub rooted : 2 < (at bs i).tree.level → (at bs i).tree.root ≡ true
  pub in_from : from ≤ i
  pub in_tag : tag ≤ i
  pub good : Good bs ps
  pub outside : (at bs i).tree.level ≤ 2 → (at bs i).sum.contours ≡ k
  pub inside : 2 < (at bs i).tree.level → suc (at bs i).sum.contours ≡ k
  pub low : k ≤ i
  pub front : (at bs i).tree.level ≤ 2 → Front from ps
  pub begins : 2 < (at bs i).tree.level → Begun ps

pub tracked_start : (bs : List ℕ) → Tracked bs 0
unfolding track_to at abs_of scanned
tracked_start bs = record {
  from = 0;
  tag = 0;
  k = 0;
  ps = [];
  is = refl;
  fits = omega arith;
  shallow = omega arith;
  met = λ h. absurd (omega arith);
  rooted = λ h. absurd (omega arith);
  in_from = omega arith;
  in_tag = omega arith;
  good = good_nil;
  outside = λ h. refl;
  inside = λ h. absurd (omega arith);
  low = omega arith;
  front = λ h. front_none;
  begins = λ h. absurd (omega arith);
}

module _ (bs : List ℕ) (i : ℕ) (room : i < length bs) (few : length bs ≤ most) (t : Tracked bs i) (fine : Fine (at bs (suc i))) where
  abbrev z : List ℕ
  z = name_at bs 0

  abbrev f : Abs
  f = at bs i

  abbrev b : ℕ
  b = get_or bs i 0

  abbrev f' : Abs
  f' = at bs (suc i)

  abbrev a : Action
  a = act f b

  pub next_is : f' ≡ acts z a b (name_at bs i) (text_after f b) f
  next_is = at_next bs i ∙ step_is z b (name_at bs i) f

  abbrev word : ℕ
  word = word_after f b

  abbrev wr : Bool
  wr = wrong_after z f b (name_at bs i)

  pub tree_is : f'.tree ≡ treed f.tree a word wr
  tree_is = ap (λ (v : Abs). v.tree) next_is

  pub sum_is : f'.sum ≡ summed f.sum f.tree a word (text_after f b).point
  sum_is = ap (λ (v : Abs). v.sum) next_is

  pub facts_are : Facts f.text.state (class_of b) a (to f b)
  facts_are = facts f.text.state (class_of b)

  tree_fine : (treed f.tree a word wr).wrong ≡ false
  tree_fine = sym (ap (λ (v : Tree). v.wrong) tree_is) ∙ fine.tree

  pub went_is : Went f.tree f'.tree a (on_path f.tree word)
  went_is = subst (λ (v : Tree). Went f.tree v a (on_path f.tree word)) (sym tree_is) (went f.tree a word wr t.fits t.shallow tree_fine)

  pub way_is : Way f.tree f'.tree a (on_path f.tree word)
  way_is = way_of t.fits went_is

  pub shallow_next : f'.tree.depth ≤ 256
  shallow_next = subst (λ (v : Tree). v.depth ≤ 256) (sym tree_is) (by (does a Opens) refl)
    where
      by : (x : Bool) → does a Opens ≡ x → (treed f.tree a word wr).depth ≤ 256
      by true e = omega (arith, depth_opens f.tree word wr a e t.shallow, opens_shallow f.tree word wr a e tree_fine)
      by false e = omega (arith, depth_less f.tree word wr a e t.shallow, t.shallow)

  met_next : 1 < f'.tree.level → f'.tree.outline ≡ true
  met_next = subst (λ (v : Tree). 1 < v.level → v.outline ≡ true) (sym tree_is) (outline_next f.tree a word wr t.fits t.shallow tree_fine t.met)

  root_next : f.tree.root ≡ true → f'.tree.root ≡ true
  root_next h = subst (λ (v : Tree). v.root ≡ true) (sym tree_is) (root_kept f.tree a word wr t.fits t.shallow tree_fine h)

  root_opens : does a Opens ≡ true → f'.tree.root ≡ true
  root_opens e = subst (λ (v : Tree). v.root ≡ true) (sym tree_is) (root_made f.tree a word wr t.fits t.shallow tree_fine e)

  pub quiet_is : f.tree.level ≤ 2 → f'.tree.level ≤ 2 → Quiet f.tree a word
  quiet_is l l' =
      outer_quiet f.tree f'.tree a word f.sum (text_after f b).point l l' went_is (sym (ap (λ (v : Sum). v.bare) sum_is) ∙ fine.bare)

  abbrev tag' : ℕ
  tag' = pick (eqb f'.text.state 15) i t.tag

  tag_in : tag' ≤ suc i
  unfolding pick
  tag_in = by (eqb f'.text.state 15)
    where
      by : (x : Bool) → pick x i t.tag ≤ suc i
      by true = omega arith
      by false = omega (arith, t.in_tag)

  pub goes : {x y : Bool} → opens bs i ≡ x → closes bs i ≡ y →
      track_to bs (suc i) ≡ track (pick y tag' t.from) tag' (pick x (more t.k) t.k) (pick x (t.ps ++ own t.from (more i) ∷ contour t.k ∷ []) t.ps)
  goes e g = track_next bs i t.from t.tag t.k t.ps t.is ∙ rw (e, g)

  pub opens_not : (f.tree.level ≡ 2 → ⊥) → opens bs i ≡ false
  opens_not h = both_left _ _ (ne_eqb f.tree.level 2 h)

  pub opens_not' : (f'.tree.level ≡ 3 → ⊥) → opens bs i ≡ false
  opens_not' h = both_right (eqb f.tree.level 2) _ (ne_eqb f'.tree.level 3 h)

  pub closes_not : (f.tree.level ≡ 3 → ⊥) → closes bs i ≡ false
  closes_not h = both_left _ _ (ne_eqb f.tree.level 3 h)

  pub closes_not' : (f'.tree.level ≡ 2 → ⊥) → closes bs i ≡ false
  closes_not' h = both_right (eqb f.tree.level 3) _ (ne_eqb f'.tree.level 2 h)

  pub opens_now : f.tree.level ≡ 2 → f'.tree.level ≡ 3 → opens bs i ≡ true
  opens_now e g = both_is _ _ (eq-eqb f.tree.level 2 e) (eq-eqb f'.tree.level 3 g)

  pub closes_now : f.tree.level ≡ 3 → f'.tree.level ≡ 2 → closes bs i ≡ true
  closes_now e g = both_is _ _ (eq-eqb f.tree.level 3 e) (eq-eqb f'.tree.level 2 g)

  other : (x y : Action) → does a x ≡ true → (x ≡ y → ⊥) → does a y ≡ false
  other x y e h = does_false a y (λ g. h (sym (does_true a x e) ∙ g))

  -- a contour opens
  pub opened : does a Opens ≡ true → on_path f.tree word ≡ true → f.tree.level ≡ 2 → f'.sum ≡ begun f.sum
  unfolding pick
  opened e o l =
      sum_is
      ∙ summed_by f.sum f.tree a word (text_after f b).point
      (contour_on f.tree a word (tag_on a e) l o)
      (point_off f.tree a word (λ g. omega arith))
      (left_open f.tree a word (other Opens Closes e (λ g. cc)) (other Opens Empty e (λ g. cc)))

  -- a contour closes
  pub closed_sum : does a Closes ≡ true → f.tree.level ≡ 3 → f.tree.depth ≡ 3 → f'.sum ≡ ended f.sum
  unfolding pick
  closed_sum e l d =
      let none = met_none f.tree a word (tags_none f.tree a word (other Closes Opens e (λ g. cc)) (other Closes Empty e (λ g. cc))) in
      sum_is ∙ summed_by f.sum f.tree a word (text_after f b).point none.0 none.1 (left_closed f.tree a word e l d)

  byte_greater : does a Opens ≡ true → is_name b ≡ false
  byte_greater e = greater b (facts_are.opens_gt e)

  good_more : does a Opens ≡ true → Good bs (t.ps ++ own t.from (more i) ∷ contour t.k ∷ [])
  good_more e =
      let one : more i ≡ suc i = plain_more i (omega arith) in
      let same : more i - 1 ≡ i = omega arith in
      good_append t.good (good_own (omega (arith, t.in_from)) (omega arith) (subst (λ (v : ℕ). is_name (get_or bs v 0) ≡ false) (sym same) (byte_greater e)) (good_contour good_nil))

  pub tracked_next : Tracked bs (suc i)
  tracked_next = by way_is
    where
      by : Way f.tree f'.tree a (on_path f.tree word) → Tracked bs (suc i)
      by (opening e o l d l' d') =
          let one : more t.k ≡ suc t.k = plain_more t.k (omega (arith, t.low)) in
          let count : f'.sum.contours ≡ f.sum.contours = ap (λ (v : Sum). v.contours) (opened e o l) ∙ begun_count f.sum in
          record {
            from = t.from;
            tag = tag';
            k = more t.k;
            ps = t.ps ++ own t.from (more i) ∷ contour t.k ∷ [];
            is = goes (opens_now l l') (closes_not (λ g. omega arith)) ∙ unfold pick in refl;
            fits = omega arith;
            shallow = shallow_next;
            met = met_next;
            rooted = λ h. root_opens e;
            in_from = omega (arith, t.in_from);
            in_tag = tag_in;
            good = good_more e;
            outside = λ h. absurd (omega arith);
            inside = λ h. ap suc (count ∙ t.outside (omega arith)) ∙ sym one;
            low = omega (arith, t.low);
            front = λ h. absurd (omega arith);
            begins = λ h. front_opens (more i) (contour t.k ∷ []) (t.front (omega arith));
          }
      by (closing e l d l' d') =
          let before : suc f.sum.contours ≡ t.k = t.inside (omega arith) in
          let count : f'.sum.contours ≡ suc f.sum.contours = ap (λ (v : Sum). v.contours) (closed_sum e l d) ∙ ended_count f.sum ∙ plain_more f.sum.contours (omega (arith, t.low)) in
          record {
            from = tag';
            tag = tag';
            k = t.k;
            ps = t.ps;
            is = goes (opens_not (λ g. omega arith)) (closes_now l l') ∙ unfold pick in refl;
            fits = omega arith;
            shallow = shallow_next;
            met = met_next;
            rooted = λ h. absurd (omega arith);
            in_from = tag_in;
            in_tag = tag_in;
            good = t.good;
            outside = λ h. count ∙ before;
            inside = λ h. absurd (omega arith);
            low = omega (arith, t.low);
            front = λ h. front_some (t.begins (omega arith));
            begins = λ h. absurd (omega arith);
          }
      by (outer l l' fits w) =
          let same : f'.sum ≡ f.sum = sum_is ∙ quiet_sum (quiet_is l l') f.sum (text_after f b).point in
          record {
            from = t.from;
            tag = tag';
            k = t.k;
            ps = t.ps;
            is = goes (opens_not' (λ g. omega arith)) (closes_not (λ g. omega arith)) ∙ unfold pick in refl;
            fits = fits;
            shallow = shallow_next;
            met = met_next;
            rooted = λ h. absurd (omega arith);
            in_from = omega (arith, t.in_from);
            in_tag = tag_in;
            good = t.good;
            outside = λ h. ap (λ (v : Sum). v.contours) same ∙ t.outside l;
            inside = λ h. absurd (omega arith);
            low = omega (arith, t.low);
            front = λ h. t.front l;
            begins = λ h. absurd (omega arith);
          }
      by (inner l l' fits w) =
          let points : Points f.tree a word = inner_points f.tree f'.tree a word l l' went_is in
          let count : f'.sum.contours ≡ f.sum.contours = ap (λ (v : Sum). v.contours) sum_is ∙ points_count points f.sum (text_after f b).point in
          record {
            from = t.from;
            tag = tag';
            k = t.k;
            ps = t.ps;
            is = goes (opens_not (λ g. omega arith)) (closes_not' (λ g. omega arith)) ∙ unfold pick in refl;
            fits = fits;
            shallow = shallow_next;
            met = met_next;
            rooted = λ h. root_next (t.rooted l);
            in_from = omega (arith, t.in_from);
            in_tag = tag_in;
            good = t.good;
            outside = λ h. absurd (omega arith);
            inside = λ h. ap suc count ∙ t.inside l;
            low = omega (arith, t.low);
            front = λ h. absurd (omega arith);
            begins = λ h. t.begins l;
          }
