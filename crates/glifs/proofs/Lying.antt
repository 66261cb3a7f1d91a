-- What a file lays into the scratch row: contours one after the other. Assumes nothing.
use Prim.Native.Nat.{ℕ, zero, suc, ◌+◌, ◌-◌, ◌≤◌, ◌<◌}
use native.Mathlib.Omega.{arith}
use mathlib.Core.Bool.{Bool, true, false, not, false≢true}
use mathlib.Core.List.{List}
use mathlib.Core.Path.{◌≡◌, refl, sym, ap, subst, ◌∙◌}
use borrow.Author.Tests.{ne_eqb, ltb-false, eqb-true, eqb-false, not-false}
use lib.Dec.{eqb, ltb}
use lib.ListN.{length, get_or, length-set, replicate}
use lib.Seq.{get_or-set_same, get_or-set_other}
use Rattle.gliftext.specs.Pick.{pick, both, either, more}
use Rattle.gliftext.specs.Text.{is_kind}
use Rattle.gliftext.specs.declared.text.Kind.TheVariants.{Offcurve}
use Rattle.gliftext.specs.declared.text.Point.{Point}
use Rattle.glif.specs.Tree.{on_path, treed}
use Rattle.glif.specs.Outline.{begun, ended, with_point, point_met, contour_met, contour_left, summed, kept_point, nowhere, full_end}
use Rattle.glif.specs.Scan.{Pass, pass, turned, scanned}
use Rattle.glif.specs.declared.tree.Tree.{Tree}
use Rattle.glif.specs.declared.outline.Sum.{Sum}
use Rattle.glifread.specs.Enter.{no_place, is_off, is_first}
use Rattle.glifwrite.specs.Writes.{scan_in}
use Rattle.gliftext.proofs.Picks.{plain_more, or-false}
use Rattle.glif.proofs.Stems.{place_of}
use Rattle.glif.proofs.Ways.{Went, went, Way, opening, closing, outer, inner, way_of, Quiet, quiet_sum, outer_quiet, inner_points, summed_by, contour_on}
use Rattle.glif.proofs.Ways.{point_off, left_open, left_closed, tags_none, met_none}
use Rattle.glif.proofs.Like.{depth_opens, depth_less, opens_shallow}
use Rattle.glifs.proofs.Track.{tag_on}
use Rattle.glifs.proofs.Flags.{tree_was, sum_was}
use Rattle.glifs.proofs.Entered.{mark_off, mark_first}
use Rattle.glifs.proofs.Laid.{off_at, first_at, before, one, pairs, size_of, Laid, laid_none, laid_more, laid_least, last_before}
use Rattle.gliftext.specs.Actions.{does}
use Rattle.gliftext.proofs.Doing.{does_true, does_false}
use Rattle.gliftext.specs.declared.action.Action.{Action}
use Rattle.gliftext.specs.declared.action.Action.TheVariants.{Opens, Empty, Closes}

-- ---- one byte, of which only this is looked at

abbrev pub row_in : Pass → List (List ℕ)
row_in (pass s names points) = points

pub record Step (p p' : Pass) : Type 0 where
  pub a : Action
  pub word : ℕ
  pub w : Bool
  pub point : Point
  pub tree : (scan_in p').tree ≡ treed (scan_in p).tree a word w
  pub sum : (scan_in p').sum ≡ summed (scan_in p).sum (scan_in p).tree a word point
  pub row : row_in p' ≡ kept_point (row_in p) (point_met (scan_in p).tree a word) (scan_in p).sum point

step_of : (bs : List ℕ) (i : ℕ) (p : Pass) → Step p (turned bs i p)
unfolding turned
step_of bs i (pass s names points) = record { a = _; word = _; w = _; point = _; tree = refl; sum = refl; row = refl }

-- ---- what grows

more_least : (a : ℕ) → a ≤ more a
unfolding more pick
more_least a = by (ltb a 18446744073709551615)
  where
    by : (t : Bool) → a ≤ pick t (a + 1) a
    by true = omega arith
    by false = omega arith

-- below 65,537 nothing is cut off
more_small : (a : ℕ) → more a ≤ 65536 → more a ≡ suc a
unfolding more pick
more_small a = by (ltb a 18446744073709551615) refl
  where
    by : (t : Bool) → ltb a 18446744073709551615 ≡ t → pick t (a + 1) a ≤ 65536 → pick t (a + 1) a ≡ suc a
    by true e h = omega arith
    by false e h = absurd (omega (arith, ltb-false a 18446744073709551615 e))

pub record Grows (s s' : Sum) : Type 0 where
  pub points : s.points ≤ s'.points
  pub full : s.full ≤ s'.full

grows_self : (s : Sum) → Grows s s
grows_self s = record { points = omega arith; full = omega arith }

grows_then : {s t u : Sum} → Grows s t → Grows t u → Grows s u
grows_then g h = record { points = omega (arith, g.points, h.points); full = omega (arith, g.full, h.full) }

pick_grows : (t : Bool) (s a b : Sum) → Grows s a → Grows s b → Grows s (pick t a b)
unfolding pick
pick_grows true s a b g h = g
pick_grows false s a b g h = h

begun_grows : (s : Sum) → Grows s (begun s)
unfolding begun
begun_grows s = record { points = omega arith; full = omega arith }

point_grows : (s : Sum) (p : Point) → Grows s (with_point s p)
unfolding with_point pick
point_grows s p = record {
  points = more_least s.points;
  full = by (both (is_kind p.kind Offcurve) s.off);
}
  where
    by : (t : Bool) → s.full ≤ pick t (more (more s.full)) (more s.full)
    by true = omega (arith, more_least s.full, more_least (more s.full))
    by false = more_least s.full

ended_grows : (s : Sum) → Grows s (ended s)
unfolding ended pick
ended_grows s = record { points = omega arith; full = by (both s.lead s.off) }
  where
    by : (t : Bool) → s.full ≤ pick t (more s.full) s.full
    by true = more_least s.full
    by false = omega arith

sum_grows : (s : Sum) (t : Tree) (a : Action) (word : ℕ) (p : Point) → Grows s (summed s t a word p)
unfolding summed
sum_grows s t a word p =
    let b = pick_grows (contour_met t a word) s (begun s) s (begun_grows s) (grows_self s) in
    let m = pick_grows (point_met t a word) s _ _ (grows_then b (point_grows _ p)) b in
    pick_grows (contour_left t a word) s _ _ (grows_then m (ended_grows _)) m

far_was : (s : Sum) (t : Tree) (a : Action) (word : ℕ) (p : Point) → (summed s t a word p).far ≡ false → s.far ≡ false
unfolding summed begun ended with_point pick
far_was s t a word p e = by (contour_met t a word) (point_met t a word) (contour_left t a word) e
  where
    by : (c m l : Bool) → (pick l (ended (pick m (with_point (pick c (begun s) s) p) (pick c (begun s) s))) (pick m (with_point (pick c (begun s) s) p) (pick c (begun s) s))).far ≡ false → s.far ≡ false
    by true true true h = (or-false s.far _ (or-false _ _ h).0).0
    by true true false h = (or-false s.far _ h).0
    by true false true h = (or-false s.far _ h).0
    by true false false h = h
    by false true true h = (or-false s.far _ (or-false _ _ h).0).0
    by false true false h = (or-false s.far _ h).0
    by false false true h = (or-false s.far _ h).0
    by false false false h = h

-- ---- a file

module _ (bs : List ℕ) (row₀ : List (List ℕ)) where
  abbrev pub pass_at : ℕ → Pass
  pass_at i = scanned bs i (replicate 256 0) row₀

  abbrev pub tree_at : ℕ → Tree
  tree_at i = (scan_in (pass_at i)).tree

  abbrev pub sum_at : ℕ → Sum
  sum_at i = (scan_in (pass_at i)).sum

  step_at_lem : (i : ℕ) → Step (pass_at i) (pass_at (suc i))
  unfolding scanned
  step_at_lem i = step_of bs i (pass_at i)

  -- nothing is refused so far
  pub record Unrefused (i : ℕ) : Type 0 where
    pub tree : (tree_at i).wrong ≡ false
    pub bare : (sum_at i).bare ≡ false
    pub far : (sum_at i).far ≡ false

  unrefused_was : (i : ℕ) → Unrefused (suc i) → Unrefused i
  unrefused_was i u =
      let s = step_at_lem i in
      record {
        tree = tree_was (tree_at i) s.a s.word s.w (sym (ap (λ (v : Tree). v.wrong) s.tree) ∙ u.tree);
        bare = sum_was (sum_at i) (tree_at i) s.a s.word s.point (sym (ap (λ (v : Sum). v.bare) s.sum) ∙ u.bare);
        far = far_was (sum_at i) (tree_at i) s.a s.word s.point (sym (ap (λ (v : Sum). v.far) s.sum) ∙ u.far);
      }

  unrefused_back : (d i : ℕ) → Unrefused (i + d) → Unrefused i
  unrefused_back zero i u = let same : i + 0 ≡ i = omega arith in subst Unrefused same u
  unrefused_back (suc d) i u = let same : i + suc d ≡ suc i + d = omega arith in unrefused_was i (unrefused_back d (suc i) (subst Unrefused same u))

  grows_at : (d i : ℕ) → Grows (sum_at i) (sum_at (i + d))
  grows_at zero i = let same : i + 0 ≡ i = omega arith in subst (λ (v : ℕ). Grows (sum_at i) (sum_at v)) (sym same) (grows_self (sum_at i))
  grows_at (suc d) i =
      let same : i + suc d ≡ suc (i + d) = omega arith in
      let s = step_at_lem (i + d) in
      let last : Grows (sum_at (i + d)) (sum_at (suc (i + d))) = subst (Grows (sum_at (i + d))) (sym s.sum) (sum_grows (sum_at (i + d)) (tree_at (i + d)) s.a s.word s.point) in
      subst (λ (v : ℕ). Grows (sum_at i) (sum_at v)) (sym same) (grows_then (grows_at d i) last)

  -- ---- the open elements, and the places so far outside of contours

  pub record Ground (i : ℕ) : Type 0 where
    pub fits : (tree_at i).level ≤ (tree_at i).depth
    pub shallow : (tree_at i).depth ≤ 256
    pub few : (tree_at i).level ≤ 2 → (sum_at i).full ≤ 65536

  module _ (i : ℕ) (g : Ground i) (u : Unrefused (suc i)) where
    abbrev st : Step (pass_at i) (pass_at (suc i))
    st = step_at_lem i

    abbrev a : Action
    a = st.a

    abbrev word : ℕ
    word = st.word

    fine : (treed (tree_at i) a word st.w).wrong ≡ false
    fine = sym (ap (λ (v : Tree). v.wrong) st.tree) ∙ u.tree

    went_is : Went (tree_at i) (tree_at (suc i)) a (on_path (tree_at i) word)
    went_is = subst (λ (v : Tree). Went (tree_at i) v a (on_path (tree_at i) word)) (sym st.tree) (went (tree_at i) a word st.w g.fits g.shallow fine)

    way_is : Way (tree_at i) (tree_at (suc i)) a (on_path (tree_at i) word)
    way_is = way_of g.fits went_is

    still_shallow : (tree_at (suc i)).depth ≤ 256
    still_shallow = subst (λ (v : Tree). v.depth ≤ 256) (sym st.tree) (by (does a Opens) refl)
      where
        by : (x : Bool) → does a Opens ≡ x → (treed (tree_at i) a word st.w).depth ≤ 256
        by true e = omega (arith, depth_opens (tree_at i) word st.w a e g.shallow, opens_shallow (tree_at i) word st.w a e fine)
        by false e = omega (arith, depth_less (tree_at i) word st.w a e g.shallow, g.shallow)

    quiet : (tree_at i).level ≤ 2 → (tree_at (suc i)).level ≤ 2 → Quiet (tree_at i) a word
    quiet l l' = outer_quiet (tree_at i) (tree_at (suc i)) a word (sum_at i) st.point l l' went_is (sym (ap (λ (v : Sum). v.bare) st.sum) ∙ u.bare)

    outer_sum : (tree_at i).level ≤ 2 → (tree_at (suc i)).level ≤ 2 → sum_at (suc i) ≡ sum_at i
    outer_sum l l' = st.sum ∙ quiet_sum (quiet l l') (sum_at i) st.point

    not_a : (x y : Action) → does a x ≡ true → (x ≡ y → ⊥) → does a y ≡ false
    not_a x y e h = does_false a y (λ k. h (sym (does_true a x e) ∙ k))

    opens_sum : does a Opens ≡ true → on_path (tree_at i) word ≡ true → (tree_at i).level ≡ 2 → sum_at (suc i) ≡ begun (sum_at i)
    unfolding pick
    opens_sum e o l =
        st.sum
        ∙ summed_by (sum_at i) (tree_at i) a word st.point (contour_on (tree_at i) a word (tag_on a e) l o) (point_off (tree_at i) a word (λ k. omega arith))
        (left_open (tree_at i) a word (not_a Opens Closes e (λ k. cc)) (not_a Opens Empty e (λ k. cc)))

    closes_sum : does a Closes ≡ true → (tree_at i).level ≡ 3 → (tree_at i).depth ≡ 3 → sum_at (suc i) ≡ ended (sum_at i)
    unfolding pick
    closes_sum e l d =
        let none = met_none (tree_at i) a word (tags_none (tree_at i) a word (not_a Closes Opens e (λ k. cc)) (not_a Closes Empty e (λ k. cc))) in
        st.sum ∙ summed_by (sum_at i) (tree_at i) a word st.point none.0 none.1 (left_closed (tree_at i) a word e l d)

    inner_sum : 2 < (tree_at i).level → 2 < (tree_at (suc i)).level → sum_at (suc i) ≡ pick (point_met (tree_at i) a word) (with_point (sum_at i) st.point) (sum_at i)
    unfolding pick
    inner_sum l l' =
        let q = inner_points (tree_at i) (tree_at (suc i)) a word l l' went_is in
        st.sum ∙ summed_by (sum_at i) (tree_at i) a word st.point q.no_contour refl q.no_end

    far_ended : (s : Sum) → (ended s).far ≡ false → (ended s).full ≤ 65536
    unfolding ended
    far_ended s e = ltb-false 65536 (full_end s) (or-false _ _ e).1

    ground_next : Ground (suc i)
    ground_next = by way_is
      where
        by : Way (tree_at i) (tree_at (suc i)) a (on_path (tree_at i) word) → Ground (suc i)
        by (opening e o l d l' d') = record { fits = omega arith; shallow = still_shallow; few = λ h. absurd (omega arith) }
        by (closing e l d l' d') =
            let is = closes_sum e l d in
            record {
              fits = omega arith;
              shallow = still_shallow;
              few = λ h. subst (λ (v : Sum). v.full ≤ 65536) (sym is) (far_ended (sum_at i) (sym (ap (λ (v : Sum). v.far) is) ∙ u.far));
            }
        by (outer l l' fits w) =
            record { fits = fits; shallow = still_shallow; few = λ h. subst (λ (v : Sum). v.full ≤ 65536) (sym (outer_sum l l')) (g.few l) }
        by (inner l l' fits w) = record { fits = fits; shallow = still_shallow; few = λ h. absurd (omega arith) }

-- ---- a contour that is open, in a row that will hold all of it

pub record OnAt (ps : List (List ℕ)) (from end : ℕ) : Type 0 where
  pub at : ℕ
  pub low : from ≤ at
  pub high : at < end
  pub is_on_lem : off_at ps at ≡ false

pub record Open (ps : List (List ℕ)) (s : Sum) : Type 0 where
  pub from : ℕ
  pub f : ℕ
  pub laid : Laid ps s.contours from f
  pub points : s.points ≡ from + s.here
  pub full : s.full ≡ f + s.here + pairs ps false from s.here
  pub off : s.off ≡ before ps false from s.here
  pub lead : 0 < s.here → s.lead ≡ off_at ps from
  pub on : s.on ≡ true → OnAt ps from (from + s.here)
  pub first : 0 < s.here → first_at ps from ≡ true
  pub others : (j : ℕ) → from < j → j < from + s.here → first_at ps j ≡ false

begun_open : (ps : List (List ℕ)) (s : Sum) → Laid ps s.contours s.points s.full → Open ps (begun s)
unfolding begun pairs before
begun_open ps s l = record {
  from = s.points;
  f = s.full;
  laid = l;
  points = omega arith;
  full = omega arith;
  off = refl;
  lead = λ h. absurd (omega arith);
  on = λ e. absurd (false≢true e);
  first = λ h. absurd (omega arith);
  others = λ j h k. absurd (omega arith);
}

one_swap : (ps : List (List ℕ)) (x y : Bool) → one ps (both x y) ≡ one ps (both y x)
unfolding pick
one_swap ps true true = refl
one_swap ps true false = refl
one_swap ps false true = refl
one_swap ps false false = refl

place_more : (ps : List (List ℕ)) (t : Bool) (x : ℕ) → pick t (more (more x)) (more x) ≤ 65536 → pick t (more (more x)) (more x) ≡ x + 1 + one ps t
unfolding pick
place_more ps true x h =
    let two = more_small (more x) h in
    two ∙ ap suc (more_small x (omega arith)) ∙ omega arith
place_more ps false x h = more_small x h ∙ omega arith

end_more : (ps : List (List ℕ)) (t : Bool) (x : ℕ) → pick t (more x) x ≤ 65536 → pick t (more x) x ≡ x + one ps t
unfolding pick
end_more ps true x h = more_small x h ∙ omega arith
end_more ps false x h = omega arith

module _ (ps : List (List ℕ)) (s : Sum) (p : Point) (o : Open ps s) (small : (with_point s p).full ≤ 65536) where
  abbrev off' : Bool
  off' = is_kind p.kind Offcurve

  full_is : (with_point s p).full ≡ s.full + 1 + one ps (both s.off off')
  unfolding with_point
  full_is = place_more ps (both off' s.off) s.full small ∙ ap (λ (v : ℕ). s.full + 1 + v) (one_swap ps off' s.off)

  least : (s.contours ≤ o.from) × (o.from ≤ o.f)
  least = laid_least ps o.laid

  full_low : s.full ≤ 65535
  full_low = omega (arith, full_is)

  here_low : s.here ≤ 65535
  here_low = omega (arith, full_low, o.full)

  pub points_low : s.points ≤ 65535
  points_low = omega (arith, full_low, o.full, o.points, least.1)

  here_next : (with_point s p).here ≡ suc s.here
  unfolding with_point
  here_next = plain_more s.here (omega (arith, here_low))

  pub points_next : (with_point s p).points ≡ suc s.points
  unfolding with_point
  points_next = plain_more s.points (omega (arith, points_low))

  module _ (held : get_or ps s.points no_place ≡ place_of s p) where
    off_held : off_at ps s.points ≡ off'
    off_held = ap (λ (v : List ℕ). is_off (get_or v 2 0)) held ∙ mark_off (eqb s.here 0) off'

    first_held : first_at ps s.points ≡ eqb s.here 0
    first_held = ap (λ (v : List ℕ). is_first (get_or v 2 0)) held ∙ mark_first (eqb s.here 0) off'

    abbrev next : ℕ
    next = o.from + s.here

    at_next : s.points ≡ next
    at_next = o.points

    off_next : off_at ps next ≡ off'
    off_next = subst (λ (v : ℕ). off_at ps v ≡ off') at_next off_held

    first_next : first_at ps next ≡ eqb s.here 0
    first_next = subst (λ (v : ℕ). first_at ps v ≡ eqb s.here 0) at_next first_held

    lead_next : (with_point s p).lead ≡ off_at ps o.from
    unfolding with_point pick
    lead_next = by (eqb s.here 0) refl
      where
        by : (t : Bool) → eqb s.here 0 ≡ t → pick t off' s.lead ≡ off_at ps o.from
        by true e = let same : next ≡ o.from = omega (arith, eqb-true s.here 0 e) in subst (λ (v : ℕ). off' ≡ off_at ps v) same (sym off_next)
        by false e = let other = eqb-false s.here 0 e in o.lead (omega arith)

    on_next : (with_point s p).on ≡ true → OnAt ps o.from (suc next)
    unfolding with_point pick
    on_next = by s.on off' refl off_next
      where
        by : (x y : Bool) → s.on ≡ x → off_at ps next ≡ y → either x (not y) ≡ true → OnAt ps o.from (suc next)
        by true y e g h = let old = o.on e in record { at = old.at; low = old.low; high = omega (arith, old.high); is_on_lem = old.is_on_lem }
        by false true e g h = absurd (false≢true h)
        by false false e g h = record { at = next; low = omega arith; high = omega arith; is_on_lem = g }

    first_kept : first_at ps o.from ≡ true
    first_kept = by (eqb s.here 0) refl
      where
        by : (t : Bool) → eqb s.here 0 ≡ t → first_at ps o.from ≡ true
        by true e = let same : next ≡ o.from = omega (arith, eqb-true s.here 0 e) in subst (λ (v : ℕ). first_at ps v ≡ true) same (first_next ∙ e)
        by false e = let other = eqb-false s.here 0 e in o.first (omega arith)

    others_next : (j : ℕ) → o.from < j → j < suc next → first_at ps j ≡ false
    others_next j h k = by (eqb j next) refl
      where
        by : (t : Bool) → eqb j next ≡ t → first_at ps j ≡ false
        by true e =
            let is : j ≡ next = eqb-true j next e in
            subst (λ (v : ℕ). first_at ps v ≡ false) (sym is) (first_next ∙ ne_eqb s.here 0 (λ z. omega arith))
        by false e = let other = eqb-false j next e in o.others j h (omega arith)

    contours_kept : (with_point s p).contours ≡ s.contours
    unfolding with_point
    contours_kept = refl

    off_kept : (with_point s p).off ≡ off'
    unfolding with_point
    off_kept = refl

    pairs_next : pairs ps false o.from (suc s.here) ≡ pairs ps false o.from s.here + one ps (both s.off off')
    unfolding pairs
    pairs_next = λ i. pairs ps false o.from s.here + one ps (both (sym o.off i) (off_next i))

    before_next : before ps false o.from (suc s.here) ≡ off'
    unfolding before
    before_next = off_next

    pub point_open : Open ps (with_point s p)
    point_open =
        let h : suc s.here ≡ (with_point s p).here = sym here_next in
        let long : suc next ≡ o.from + (with_point s p).here = omega arith in
        record {
          from = o.from;
          f = o.f;
          laid = subst (λ (c : ℕ). Laid ps c o.from o.f) (sym contours_kept) o.laid;
          points = points_next ∙ omega (arith, at_next);
          full = full_is ∙ omega (arith, o.full, pairs_next) ∙ ap (λ (v : ℕ). o.f + v + pairs ps false o.from v) h;
          off = off_kept ∙ sym before_next ∙ ap (before ps false o.from) h;
          lead = λ g. lead_next;
          on = λ g. subst (OnAt ps o.from) long (on_next g);
          first = λ g. first_kept;
          others = λ j g k. others_next j g (omega arith);
        }

-- ---- a contour that ends

module _ (ps : List (List ℕ)) (s : Sum) (o : Open ps s) (bare : (ended s).bare ≡ false) (few : (ended s).full ≤ 65536) where
  is_on_lem : s.on ≡ true
  unfolding ended
  is_on_lem = not-false s.on (or-false _ _ bare).1

  abbrev on : OnAt ps o.from (o.from + s.here)
  on = o.on is_on_lem

  some : 0 < s.here
  some = omega (arith, on.low, on.high)

  abbrev end : ℕ
  end = o.from + s.here

  last_off : s.off ≡ off_at ps (end - 1)
  last_off = o.off ∙ last_before ps o.from s.here some end refl

  full_ended : (ended s).full ≡ s.full + one ps (both s.lead s.off)
  unfolding ended
  full_ended = end_more ps (both s.lead s.off) s.full few

  low : s.contours ≤ 65536
  low = omega (arith, (laid_least ps o.laid).0, (laid_least ps o.laid).1, o.full, full_ended)

  count_ended : (ended s).contours ≡ suc s.contours
  unfolding ended
  count_ended = plain_more s.contours (omega (arith, low))

  points_ended : (ended s).points ≡ end
  unfolding ended
  points_ended = o.points

  size_is : (ended s).full ≡ o.f + size_of ps o.from end
  size_is =
      let here : end - o.from ≡ s.here = omega arith in
      let pairs_are : pairs ps false o.from (end - o.from) ≡ pairs ps false o.from s.here = ap (pairs ps false o.from) here in
      let ones : one ps (both s.lead s.off) ≡ one ps (both (off_at ps o.from) (off_at ps (end - 1))) = λ i. one ps (both (o.lead some i) (last_off i)) in
      omega (arith, full_ended, o.full, pairs_are, ones)

  pub ended_laid : Laid ps (ended s).contours (ended s).points (ended s).full
  ended_laid =
      let base = laid_more o.laid on.at end on.low on.high on.is_on_lem (o.first some) o.others (omega (arith, size_is)) in
      subst (λ (v : ℕ). Laid ps v (ended s).points (ended s).full) (sym count_ended)
      (subst (λ (v : ℕ). Laid ps (suc s.contours) v (ended s).full) (sym points_ended)
      (subst (λ (v : ℕ). Laid ps (suc s.contours) end v) (sym size_is) base))

-- ---- what is kept of a point

kept_long : (row : List (List ℕ)) (met : Bool) (s : Sum) (p : Point) → length (kept_point row met s p) ≡ length row
unfolding kept_point
kept_long row met s p = length-set row _ _

kept_other : (row : List (List ℕ)) (met : Bool) (s : Sum) (p : Point) (j : ℕ) → j < s.points → j < nowhere → get_or (kept_point row met s p) j no_place ≡ get_or row j no_place
unfolding kept_point pick
kept_other row true s p j h l = get_or-set_other row s.points j _ no_place (λ e. omega arith)
kept_other row false s p j h l = get_or-set_other row nowhere j _ no_place (λ e. omega arith)

kept_here : (row : List (List ℕ)) {met : Bool} (s : Sum) (p : Point) → met ≡ true → s.points < length row → get_or (kept_point row met s p) s.points no_place ≡ place_of s p
unfolding kept_point pick
kept_here row s p e h = rw e (get_or-set_same row s.points (place_of s p) no_place h)

row_first : (bs : List ℕ) (row₀ : List (List ℕ)) → length (row_in (scanned bs 0 (replicate 256 0) row₀)) ≡ length row₀
unfolding scanned
row_first bs row₀ = refl

-- ---- the whole file

module _ (bs : List ℕ) (row₀ : List (List ℕ)) (n : ℕ) (u : Unrefused bs row₀ n) where
  unrefused_at : (i : ℕ) → i ≤ n → Unrefused bs row₀ i
  unrefused_at i h = let same : i + (n - i) ≡ n = omega arith in unrefused_back bs row₀ (n - i) i (subst (Unrefused bs row₀) (sym same) u)

  pub ground_at : (i : ℕ) → i ≤ n → Ground bs row₀ i
  unfolding scanned
  ground_at zero h = record { fits = omega arith; shallow = omega arith; few = λ l. omega arith }
  ground_at (suc i) h = ground_next bs row₀ i (ground_at i (omega arith)) (unrefused_at (suc i) h)

  module _ (outside : (tree_at bs row₀ n).level ≤ 2) (room : (sum_at bs row₀ n).points ≤ length row₀) where
    few : (sum_at bs row₀ n).full ≤ 65536
    few = (ground_at n (omega arith)).few outside

    full_at : (i : ℕ) → i ≤ n → (sum_at bs row₀ i).full ≤ 65536
    full_at i h =
        let same : i + (n - i) ≡ n = omega arith in
        omega (arith, (subst (λ (v : ℕ). Grows (sum_at bs row₀ i) (sum_at bs row₀ v)) same (grows_at bs row₀ (n - i) i)).full, few)

    points_at_lem : (i : ℕ) → i ≤ n → (sum_at bs row₀ i).points ≤ (sum_at bs row₀ n).points
    points_at_lem i h =
        let same : i + (n - i) ≡ n = omega arith in
        (subst (λ (v : ℕ). Grows (sum_at bs row₀ i) (sum_at bs row₀ v)) same (grows_at bs row₀ (n - i) i)).points

    abbrev last : List (List ℕ)
    last = row_in (pass_at bs row₀ n)

    row_long : (i : ℕ) → length (row_in (pass_at bs row₀ i)) ≡ length row₀
    row_long zero = row_first bs row₀
    row_long (suc i) =
        let st = step_at_lem bs row₀ i in
        ap length st.row ∙ kept_long (row_in (pass_at bs row₀ i)) (point_met (tree_at bs row₀ i) st.a st.word) (sum_at bs row₀ i) st.point ∙ row_long i

    -- a place that was filled is not touched again
    row_kept : (d i j : ℕ) → j < (sum_at bs row₀ i).points → j < nowhere → get_or (row_in (pass_at bs row₀ (i + d))) j no_place ≡ get_or (row_in (pass_at bs row₀ i)) j no_place
    row_kept zero i j h l = let same : i + 0 ≡ i = omega arith in ap (λ (v : ℕ). get_or (row_in (pass_at bs row₀ v)) j no_place) same
    row_kept (suc d) i j h l =
        let same : i + suc d ≡ suc (i + d) = omega arith in
        let st = step_at_lem bs row₀ (i + d) in
        let high = (grows_at bs row₀ d i).points in
        ap (λ (v : ℕ). get_or (row_in (pass_at bs row₀ v)) j no_place) same
        ∙ ap (λ (v : List (List ℕ)). get_or v j no_place) st.row
        ∙ kept_other (row_in (pass_at bs row₀ (i + d))) (point_met (tree_at bs row₀ (i + d)) st.a st.word) (sum_at bs row₀ (i + d)) st.point j (omega arith) l
        ∙ row_kept d i j h l

    -- what is kept of a point stands in the last row
    row_holds : (i : ℕ) → suc i ≤ n → (st : Step (pass_at bs row₀ i) (pass_at bs row₀ (suc i))) → point_met (tree_at bs row₀ i) st.a st.word ≡ true →
        (sum_at bs row₀ (suc i)).points ≡ suc (sum_at bs row₀ i).points → (sum_at bs row₀ i).points < nowhere → get_or last (sum_at bs row₀ i).points no_place ≡ place_of (sum_at bs row₀ i) st.point
    row_holds i h st met more low =
        let same : suc i + (n - suc i) ≡ n = omega arith in
        let place = (sum_at bs row₀ i).points in
        let later = points_at_lem (suc i) h in
        ap (λ (v : ℕ). get_or (row_in (pass_at bs row₀ v)) place no_place) (sym same)
        ∙ row_kept (n - suc i) (suc i) place (omega arith) low
        ∙ ap (λ (v : List (List ℕ)). get_or v place no_place) st.row
        ∙ kept_here (row_in (pass_at bs row₀ i)) (sum_at bs row₀ i) st.point met (omega (arith, row_long i))

    -- ---- what lies there after i bytes

    pub record Lying (i : ℕ) : Type 0 where
      pub closed : (tree_at bs row₀ i).level ≤ 2 → Laid last (sum_at bs row₀ i).contours (sum_at bs row₀ i).points (sum_at bs row₀ i).full
      pub open_here : 2 < (tree_at bs row₀ i).level → Open last (sum_at bs row₀ i)

    module _ (i : ℕ) (h : suc i ≤ n) (now : Lying i) where
      abbrev g : Ground bs row₀ i
      g = ground_at i (omega arith)

      abbrev v : Unrefused bs row₀ (suc i)
      v = unrefused_at (suc i) h

      abbrev turn_here : Step (pass_at bs row₀ i) (pass_at bs row₀ (suc i))
      turn_here = step_at_lem bs row₀ i

      abbrev s : Sum
      s = sum_at bs row₀ i

      abbrev s' : Sum
      s' = sum_at bs row₀ (suc i)

      point_lies : Open last s → s' ≡ pick (point_met (tree_at bs row₀ i) turn_here.a turn_here.word) (with_point s turn_here.point) s → Open last s'
      unfolding pick
      point_lies o is = by (point_met (tree_at bs row₀ i) turn_here.a turn_here.word) refl
        where
          by : (m : Bool) → point_met (tree_at bs row₀ i) turn_here.a turn_here.word ≡ m → Open last s'
          by true e =
              let is' : s' ≡ with_point s turn_here.point = is ∙ rw e in
              let small : (with_point s turn_here.point).full ≤ 65536 = subst (λ (x : Sum). x.full ≤ 65536) is' (full_at (suc i) h) in
              let low = points_low last s turn_here.point o small in
              let held = row_holds i h turn_here e (ap (λ (x : Sum). x.points) is' ∙ points_next last s turn_here.point o small) (omega (arith, low)) in
              subst (Open last) (sym is') (point_open last s turn_here.point o small held)
          by false e = let is' : s' ≡ s = is ∙ rw e in subst (Open last) (sym is') o

      lying_next : Lying (suc i)
      lying_next = by (way_is bs row₀ i g v)
        where
          by : Way (tree_at bs row₀ i) (tree_at bs row₀ (suc i)) turn_here.a (on_path (tree_at bs row₀ i) turn_here.word) → Lying (suc i)
          by (opening e o l d l' d') = record {
            closed = λ k. absurd (omega arith);
            open_here = λ k. subst (Open last) (sym (opens_sum bs row₀ i g v e o l)) (begun_open last s (now.closed (omega arith)));
          }
          by (closing e l d l' d') =
              let is = closes_sum bs row₀ i g v e l d in
              record {
                closed = λ k. subst (λ (x : Sum). Laid last x.contours x.points x.full) (sym is)
                    (ended_laid last s (now.open_here (omega arith)) (sym (ap (λ (x : Sum). x.bare) is) ∙ v.bare) (subst (λ (x : Sum). x.full ≤ 65536) is (full_at (suc i) h)));
                open_here = λ k. absurd (omega arith);
              }
          by (outer l l' fits w) = record {
            closed = λ k. subst (λ (x : Sum). Laid last x.contours x.points x.full) (sym (outer_sum bs row₀ i g v l l')) (now.closed l);
            open_here = λ k. absurd (omega arith);
          }
          by (inner l l' fits w) = record {
            closed = λ k. absurd (omega arith);
            open_here = λ k. point_lies (now.open_here l) (inner_sum bs row₀ i g v l l');
          }

    lying_start : Lying 0
    unfolding scanned
    lying_start = record { closed = λ h. laid_none; open_here = λ h. absurd (omega arith) }

    lying_at : (i : ℕ) → i ≤ n → Lying i
    lying_at zero h = lying_start
    lying_at (suc i) h = lying_next i h (lying_at i (omega arith))

    pub all_lies : Laid last (sum_at bs row₀ n).contours (sum_at bs row₀ n).points (sum_at bs row₀ n).full
    all_lies = (lying_at n (omega arith)).closed outside
