-- The file that is written is let through, with the points of the rows. Assumes nothing.
use Prim.Native.Nat.{ℕ, zero, suc, ◌-◌, ◌≤◌, ◌<◌}
use native.Mathlib.Omega.{arith}
use mathlib.Core.Bool.{Bool, true, false, true≢false}
use mathlib.Core.List.{List, [], ◌∷◌, ◌++◌, append_assoc, append-nil}
use mathlib.Core.Path.{◌≡◌, refl, sym, ap, subst, ◌∙◌}
use borrow.Author.Tests.{eqb-true, not-false}
use lib.IntN.{ℤ}
use lib.ListN.{length, take, drop, length-drop, replicate, length-map}
use lib.Seq.{take_all}
use Rattle.std.specs.Prelude.{Option, Some, None}
use Rattle.std.specs.Option.{option_or}
use Rattle.refusals.specs.declared.refusal.Refusal.{Refusal}
use Rattle.refusals.specs.declared.refusal.Refusal.TheVariants.{TooLarge, Malformed, CubicOrOpen, NoOnCurve}
use Rattle.gliftext.specs.Pick.{pick, most}
use Rattle.gliftext.specs.Utf8.{rune_at, is_utf8}
use Rattle.glif.specs.Outline.{nowhere}
use Rattle.glif.specs.Scan.{Pass, pass, scanned, refusal_of, totals_of, Judged, judged, judged_of}
use Rattle.glif.specs.declared.scan.Scan.{Scan}
use Rattle.glif.specs.declared.scan.Totals.{Totals}
use Rattle.glif.specs.declared.tree.Tree.{Tree}
use Rattle.glif.specs.declared.outline.Sum.{Sum}
use Rattle.glifwrite.specs.Contours.{end_at, start_of}
use Rattle.glifwrite.specs.Writes.{GivenRows, given, no_points, read_to, scan_in, totals_in, file_in}
use Rattle.glifwrite.specs.Outside.{Part, own, put_part, put_parts, track_to, closed, parts_of}
use Rattle.glifwrite.specs.Puts.{Putting}
use Rattle.gliftext.proofs.Picks.{both_true, or-false}
use Rattle.glifwrite.specs.Texts.{put_text, Small, piece_text, pieces_text, written}
use Rattle.glifwrite.proofs.Texts.{text_append, range_text}
use Rattle.glif.proofs.Stems.{stem, stem_cut, Abs, Fed, fed_of, fed_length, fed_drop, steps, steps_append, abs_of, flat, name_at, points_in, abs_scanned}
use Rattle.glif.proofs.Stems as Fold
use Rattle.gliftext.proofs.Live.{live_tag, live_name, live_value, live_refer}
use Rattle.glif.proofs.Like.{Like, live_names}
use Rattle.glifs.proofs.Contour.{Sound}
use Rattle.glifs.proofs.Track.{at, Good, good_own, Begun, begun_by, Front, front_none, front_some, Tracked}
use Rattle.glifs.proofs.Flags.{Flags}
use Rattle.glifs.proofs.Whole.{pieces_fed, good_fed, good_put, row_to, start_first, start_next, full_at, too_far, Counted, run_of, part, Outer, outer_at, Stage, count_in}
use Rattle.glifs.proofs.Whole.{tracked_at, stage_at}

-- ---- what is let through

pub record Accepted (far : Bool) (s : Scan) (u : Bool) : Type 0 where
  pub text : s.text.wrong ≡ false
  pub tree : s.tree.wrong ≡ false
  pub sum : s.sum.wrong ≡ false
  pub state : s.text.state ≡ 12
  pub depth : s.tree.depth ≡ 0
  pub root : s.tree.root ≡ true
  pub utf8 : u ≡ true
  pub cubic : s.sum.cubic ≡ false
  pub late : s.sum.far ≡ far
  pub bare : s.sum.bare ≡ false

-- where nothing is refused, a test that refuses does not hold
pub passed : (k : Refusal) (t : Bool) (x : Option Refusal) → pick t (Some k) x ≡ None → (t ≡ false) × (x ≡ None)
unfolding pick
passed k true x e = absurd (let z : ◌≡◌ {A = ℕ} 0 1 = cc in omega arith)
passed k false x e = (refl, e)

pub first_none : (o x : Option Refusal) → option_or o x ≡ None → (o ≡ None) × (x ≡ None)
first_none (Some k) x e = absurd (let z : ◌≡◌ {A = ℕ} 0 1 = cc in omega arith)
first_none None x e = (refl, e)

pub accepted : (s : Scan) (u : Bool) → refusal_of s u ≡ None → Accepted false s u
unfolding refusal_of
accepted s u e =
    let a = passed Malformed _ _ e in
    let b = passed CubicOrOpen _ _ a.1 in
    let c = passed TooLarge _ _ b.1 in
    let d = passed NoOnCurve _ _ c.1 in
    let p = or-false _ _ a.0 in
    let q = or-false _ _ p.0 in
    let r = or-false _ _ q.1 in
    let v = or-false _ _ p.1 in
    let w = both_true _ _ (not-false _ v.0) in
    let x = both_true _ _ w.1 in
    record {
      text = q.0;
      tree = r.0;
      sum = r.1;
      state = eqb-true s.text.state 12 w.0;
      depth = eqb-true s.tree.depth 0 x.0;
      root = x.1;
      utf8 = not-false u v.1;
      cubic = b.0;
      late = c.0;
      bare = d.0;
    }

pub refusal_late : (far : Bool) (s : Scan) (u : Bool) → Accepted far s u → refusal_of s u ≡ pick far (Some TooLarge) None
unfolding refusal_of pick
refusal_late far s u a = rw (a.text, a.tree, a.sum, a.state, a.depth, a.root, a.utf8, a.cubic, a.late, a.bare)

-- ---- the reader's answer, from what is remembered

module _ (bs : List ℕ) where
  pub judged_by_lem : (ps₀ : List (List ℕ)) (p : Pass) → scanned bs (length bs) (replicate 256 0) ps₀ ≡ p → judged_of bs ps₀ ≡ judged (totals_of (scan_in p) (is_utf8 bs)) (points_in bs p)
  unfolding judged_of
  judged_by_lem ps₀ (pass s names points) e = rw e

  -- the same parts, with and without places
  pub record Shown (a : Abs) (p : Pass) : Type 0 where
    pub wrong : a.text.wrong ≡ (scan_in p).text.wrong
    pub state : a.text.state ≡ (scan_in p).text.state
    pub tree : a.tree ≡ (scan_in p).tree
    pub sum : a.sum ≡ (scan_in p).sum
    pub points : a.points ≡ points_in bs p

  pub shown : (r : ℕ) (p : Pass) → Shown (abs_of bs r p) p
  unfolding abs_of flat
  shown r (pass s names points) = record { wrong = refl; state = refl; tree = refl; sum = refl; points = refl }

  shown_at : (i : ℕ) → Shown (at bs i) (read_to bs i)
  unfolding at
  shown_at i = shown (rune_at bs i) (read_to bs i)

  rune_of : (r : ℕ) (p : Pass) → (abs_of bs r p).rune ≡ r
  unfolding abs_of
  rune_of r (pass s names points) = refl

  rune_at_lem : (i : ℕ) → (at bs i).rune ≡ rune_at bs i
  unfolding at
  rune_at_lem i = rune_of (rune_at bs i) (read_to bs i)

utf8_rune : (bs : List ℕ) → is_utf8 bs ≡ true → rune_at bs (length bs) ≡ 0
unfolding is_utf8
utf8_rune bs e = eqb-true (rune_at bs (length bs)) 0 e

rune_utf8 : (bs : List ℕ) → rune_at bs (length bs) ≡ 0 → is_utf8 bs ≡ true
unfolding is_utf8
rune_utf8 bs e = rw e

pub found_refusal : (s : Scan) (u : Bool) → (totals_of s u).refusal ≡ refusal_of s u
unfolding totals_of
found_refusal s u = refl

found_contours : (s : Scan) (u : Bool) → (totals_of s u).contours ≡ s.sum.contours
unfolding totals_of
found_contours s u = refl

-- ---- the beginning

at_start : (live_tag 0 ≡ false) × (live_name 0 ≡ false) × (live_value 0 ≡ false) × (live_refer 0 ≡ false)
unfolding pick
at_start = (refl, refl, refl, refl)

never : {A : Type 0} {t : Bool} → t ≡ false → t ≡ true → A
never e h = absurd (true≢false (sym h ∙ e))

no_names : (bs : List ℕ) → live_names (at bs 0) ≡ 0
unfolding at scanned abs_of flat pick
no_names bs = refl

start_like : (bs ws : List ℕ) (row : List (List ℕ)) → Like (name_at bs 0) (at bs 0) (Fold.start_of ws (replicate 256 0) row)
unfolding at scanned rune_at abs_of flat
start_like bs ws row = record {
  state = refl;
  said = refl;
  wrong = refl;
  tree = refl;
  rune = refl;
  long = length-map (replicate 256 0) (name_at bs) ∙ sym (length-map (replicate 256 0) (name_at ws));
  tagged = never at_start.0;
  name = never at_start.1;
  stem = never at_start.1;
  value = never at_start.2;
  refer = never at_start.3;
  shallow = omega arith;
  names = λ j h. absurd (omega (arith, no_names bs));
}

start_counted : (ends fs ws : List ℕ) (row : List (List ℕ)) → Counted ends fs 0 (Fold.start_of ws (replicate 256 0) row).sum
unfolding abs_of full_at
start_counted ends fs ws row = record {
  contours = refl;
  points = sym (start_first ends);
  full = refl;
  wrong = refl;
  cubic = refl;
  far = refl;
  bare = refl;
}

start_points : (ws : List ℕ) (row : List (List ℕ)) → (Fold.start_of ws (replicate 256 0) row).points ≡ row
unfolding abs_of
start_points ws row = refl

start_level : (bs : List ℕ) → (at bs 0).tree.level ≡ 0
unfolding at scanned abs_of
start_level bs = refl

start_stage : (bs ends : List ℕ) (xs ys : List ℤ) (fs ws : List ℕ) (row : List (List ℕ)) → Stage bs ends xs ys fs (Fold.start_of ws (replicate 256 0) row) 0
unfolding track_to pieces_fed steps row_to
start_stage bs ends xs ys fs ws row = record {
  outside = λ h. record { like = start_like bs ws row; counted = start_counted ends fs ws row; row = refl };
  inside = λ h. absurd (omega (arith, start_level bs));
}

-- ---- the text that is written

text_pieces_append : (bs : List ℕ) (g : GivenRows) (ps qs : List Part) → pieces_text bs g (ps ++ qs) ≡ pieces_text bs g ps ++ pieces_text bs g qs
unfolding pieces_text
text_pieces_append bs g [] qs = refl
text_pieces_append bs g (p ∷ ps) qs =
    ap (λ (l : List ℕ). piece_text bs g p ++ l) (text_pieces_append bs g ps qs) ∙ sym (append_assoc (piece_text bs g p) (pieces_text bs g ps) (pieces_text bs g qs))

module _ (bs : List ℕ) (g : GivenRows) (t : Tracked bs (length bs)) where
  rest_all : take (length bs - t.from) (drop t.from bs) ≡ drop t.from bs
  rest_all = take_all (length bs - t.from) (drop t.from bs) (omega (arith, length-drop t.from bs))

  pub pieces_are : parts_of bs (length bs) ≡ t.ps ++ own t.from (length bs) ∷ []
  pieces_are = ap (closed (length bs)) t.is

  pub written_is : written bs g ≡ pieces_text bs g t.ps ++ drop t.from bs
  unfolding written pieces_text
  written_is =
      ap (pieces_text bs g) pieces_are
      ∙ text_pieces_append bs g t.ps (own t.from (length bs) ∷ [])
      ∙ ap (λ (l : List ℕ). pieces_text bs g t.ps ++ l) (append-nil (take (length bs - t.from) (drop t.from bs)) ∙ rest_all)

  fed_rest : fed_of (drop t.from bs) ≡ part bs t.from (length bs)
  fed_rest =
      sym (fed_drop bs t.from)
      ∙ sym (take_all (length bs - t.from) (drop t.from (fed_of bs)) (omega (arith, length-drop t.from (fed_of bs), fed_length bs)))

begun_stem : (bs : List ℕ) (g : GivenRows) {ps : List Part} → Good bs ps → Begun ps → (v : List ℕ) → stem (pieces_text bs g ps ++ v) ≡ stem bs
unfolding pieces_text
begun_stem bs g (good_own {from} {end} {ps} a b c more) begun_by v =
    let many : end - 0 ≡ suc (end - 1) = omega arith in
    ap stem (append_assoc (take (end - 0) bs) (pieces_text bs g ps) v)
    ∙ ap (λ (k : ℕ). stem (take k bs ++ (pieces_text bs g ps ++ v))) many
    ∙ stem_cut bs (end - 1) (pieces_text bs g ps ++ v) (omega arith) c
begun_stem bs g Rattle.glifs.proofs.Track.good_nil x3 v = elim x3 [ ]
begun_stem bs g (Rattle.glifs.proofs.Track.good_contour {k = k} {ps = ps} _) x6 v = elim x6 [ ]

front_stem : (bs : List ℕ) (g : GivenRows) {from : ℕ} {ps : List Part} → Good bs ps → Front from ps → stem (pieces_text bs g ps ++ drop from bs) ≡ stem bs
unfolding pieces_text
front_stem bs g good front_none = refl
front_stem bs g {from} good (front_some b) = begun_stem bs g good b (drop from bs)

put_append : (bs : List ℕ) (g : GivenRows) (ps rs : List Part) (q : Putting) → put_parts bs g (ps ++ rs) q ≡ put_parts bs g rs (put_parts bs g ps q)
unfolding put_parts
put_append bs g [] rs q = refl
put_append bs g (p ∷ ps) rs q = put_append bs g ps rs (put_part bs g p q)

-- ---- what is put

module _ (bs : List ℕ) (few : length bs ≤ most) (passes : (file_in bs).refusal ≡ None) where
  abbrev n : ℕ
  n = length bs

  abbrev z : List ℕ
  z = name_at bs 0

  file_is : judged_of bs no_points ≡ judged (totals_of (scan_in (read_to bs n)) (is_utf8 bs)) (points_in bs (read_to bs n))
  file_is = judged_by_lem bs no_points (read_to bs n) refl

  file_accepted : Accepted false (scan_in (read_to bs n)) (is_utf8 bs)
  file_accepted = accepted (scan_in (read_to bs n)) (is_utf8 bs) (sym (found_refusal (scan_in (read_to bs n)) (is_utf8 bs)) ∙ sym (ap (λ (j : Judged). (totals_in j).refusal) file_is) ∙ passes)

  abbrev seen : Shown bs (at bs n) (read_to bs n)
  seen = shown_at bs n

  rune_last : (at bs n).rune ≡ 0
  rune_last = rune_at_lem bs n ∙ utf8_rune bs file_accepted.utf8

  flags : Flags (at bs n)
  flags = record {
    text = seen.wrong ∙ file_accepted.text;
    tree = ap (λ (v : Tree). v.wrong) seen.tree ∙ file_accepted.tree;
    bare = ap (λ (v : Sum). v.bare) seen.sum ∙ file_accepted.bare;
    rune = rw rune_last refl;
  }

  t : Tracked bs n
  t = tracked_at bs few flags n (omega arith)

  -- rows of 16 bits, whatever contours they hold
  module _ (ends : List ℕ) (xs ys : List ℤ) (fs : List ℕ) (sx : Small xs) (sy : Small ys) (short : (k : ℕ) → end_at ends k ≤ 65536) where
    abbrev g : GivenRows
    g = given ends xs ys fs

    abbrev ws : List ℕ
    ws = written bs g

    start_short : (k : ℕ) → start_of ends k ≤ 65536
    start_short zero = omega (arith, start_first ends)
    start_short (suc k) = omega (arith, start_next ends k, short k)

    pub puts_written : (q : Putting) → put_parts bs g (parts_of bs n) q ≡ put_text ws q
    unfolding put_parts
    puts_written q =
        ap (λ (l : List Part). put_parts bs g l q) (pieces_are bs g t)
        ∙ put_append bs g t.ps (own t.from n ∷ []) q
        ∙ range_text bs t.from (n - t.from) (put_parts bs g t.ps q) (omega (arith, t.in_from)) (omega (arith, t.in_from))
        ∙ ap (put_text (take (n - t.from) (drop t.from bs))) (good_put bs ends xs ys fs t.good few sx sy short start_short q)
        ∙ sym (text_append (pieces_text bs g t.ps) (take (n - t.from) (drop t.from bs)) q)
        ∙ ap (λ (l : List ℕ). put_text (pieces_text bs g t.ps ++ l) q) (rest_all bs g t)
        ∙ ap (λ (l : List ℕ). put_text l q) (sym (written_is bs g t))

    -- ---- what is read of it, where each contour has an on-curve point

    module _ (many : (file_in bs).contours ≡ length ends) (sound : (k : ℕ) → k < length ends → Sound fs (start_of ends k) (end_at ends k))
        (row : List (List ℕ)) (row_few : length row ≤ nowhere) where
      file_contours : (scan_in (read_to bs n)).sum.contours ≡ length ends
      file_contours = sym (found_contours (scan_in (read_to bs n)) (is_utf8 bs)) ∙ sym (ap (λ (j : Judged). (totals_in j).contours) file_is) ∙ many

      abbrev w₀ : Abs
      w₀ = Fold.start_of ws (replicate 256 0) row

      depth_none : (at bs n).tree.depth ≡ 0
      depth_none = ap (λ (v : Tree). v.depth) seen.tree ∙ file_accepted.depth

      outside : (at bs n).tree.level ≤ 2
      outside = omega (arith, t.fits, depth_none)

      count : t.k ≡ length ends
      count = sym (t.outside outside) ∙ ap (λ (v : Sum). v.contours) seen.sum ∙ file_contours

      last_stage : Outer bs ends xs ys fs w₀ n t.from t.k t.ps
      last_stage =
          subst (outer_at bs ends xs ys fs w₀ n) t.is
          ((stage_at bs ends xs ys fs few w₀ flags sx sy sound short (ap count_in t.is ∙ count) (start_stage bs ends xs ys fs ws row) n (omega arith)).outside outside)

      abbrev last : Abs
      last = steps z (part bs t.from n) (run_of bs g w₀ t.ps)

      same_stem : name_at ws 0 ≡ z
      same_stem = ap stem (written_is bs g t) ∙ front_stem bs g t.good (t.front outside)

      fed_is : fed_of ws ≡ pieces_fed bs g t.ps ++ part bs t.from n
      fed_is =
          ap fed_of (written_is bs g t) ∙ good_fed bs ends xs ys fs t.good (drop t.from bs)
          ∙ ap (λ (l : List Fed). pieces_fed bs g t.ps ++ l) (fed_rest bs g t)

      abbrev final : Pass
      final = scanned ws (length ws) (replicate 256 0) row

      scan_is : abs_of ws (rune_at ws (length ws)) final ≡ last
      scan_is =
          abs_scanned ws (replicate 256 0) row (omega arith) row_few (length ws) (omega arith)
          ∙ ap (λ (l : List Fed). steps (name_at ws 0) l w₀) (take_all (length ws) (fed_of ws) (omega (arith, fed_length ws)))
          ∙ (λ j. steps (same_stem j) (fed_is j) w₀)
          ∙ steps_append z (pieces_fed bs g t.ps) (part bs t.from n) w₀

      abbrev like : Like z (at bs n) last
      like = last_stage.like

      seen_last : Shown ws last final
      seen_last = subst (λ (v : Abs). Shown ws v final) scan_is (shown ws (rune_at ws (length ws)) final)

      abbrev s : Scan
      s = scan_in final

      utf8_written : is_utf8 ws ≡ true
      utf8_written = rune_utf8 ws (sym (rune_of ws (rune_at ws (length ws)) final) ∙ ap (λ (v : Abs). v.rune) scan_is ∙ sym like.rune ∙ rune_last)

      abbrev counted : Counted ends fs t.k last.sum
      counted = last_stage.counted

      sum_last : s.sum ≡ last.sum
      sum_last = sym seen_last.sum

      tree_last : s.tree ≡ (at bs n).tree
      tree_last = sym seen_last.tree ∙ sym like.tree

      abbrev late : Bool
      late = too_far ends fs (length ends)

      written_accepted : Accepted late s (is_utf8 ws)
      written_accepted = record {
        text = sym seen_last.wrong ∙ sym like.wrong ∙ flags.text;
        tree = ap (λ (v : Tree). v.wrong) tree_last ∙ flags.tree;
        sum = ap (λ (v : Sum). v.wrong) sum_last ∙ counted.wrong;
        state = sym seen_last.state ∙ sym like.state ∙ seen.state ∙ file_accepted.state;
        depth = ap (λ (v : Tree). v.depth) tree_last ∙ depth_none;
        root = ap (λ (v : Tree). v.root) tree_last ∙ ap (λ (v : Tree). v.root) seen.tree ∙ file_accepted.root;
        utf8 = utf8_written;
        cubic = ap (λ (v : Sum). v.cubic) sum_last ∙ counted.cubic;
        late = ap (λ (v : Sum). v.far) sum_last ∙ counted.far ∙ ap (too_far ends fs) count;
        bare = ap (λ (v : Sum). v.bare) sum_last ∙ counted.bare;
      }

      abbrev found : Totals
      found = record { refusal = pick late (Some TooLarge) None; contours = length ends; points = start_of ends (length ends); full = full_at ends fs (length ends) }

      found_is : totals_of s (is_utf8 ws) ≡ found
      unfolding totals_of
      found_is =
          λ j. record {
            refusal = refusal_late late s (is_utf8 ws) written_accepted j;
            contours = (ap (λ (v : Sum). v.contours) sum_last ∙ counted.contours ∙ count) j;
            points = (ap (λ (v : Sum). v.points) sum_last ∙ counted.points ∙ ap (start_of ends) count) j;
            full = (ap (λ (v : Sum). v.full) sum_last ∙ counted.full ∙ ap (full_at ends fs) count) j;
          }

      -- let through, with the points of the rows in the scratch row
      pub reads_written : judged_of ws row ≡ judged found (row_to bs ends xs ys fs row (length ends))
      reads_written =
          judged_by_lem ws row final refl
          ∙ (λ j. judged (found_is j) ((sym seen_last.points ∙ last_stage.row ∙ (λ k. row_to bs ends xs ys fs (start_points ws row k) (count k))) j))
