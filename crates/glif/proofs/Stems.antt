-- A file read byte by byte without places: a name is what stands at its place, as far as it is a name. Assumes nothing.
use Prim.Native.Nat.{ℕ, zero, suc, ◌-◌, ◌/◌, ◌%◌, ◌≤◌, ◌<◌}
use native.Mathlib.Omega.{arith}
use mathlib.Core.Bool.{Bool, true, false, not, false≢true}
use mathlib.Core.List.{List, [], ◌∷◌, ◌++◌, map}
use mathlib.Core.Path.{◌≡◌, refl, sym, ap, ◌∙◌}
use borrow.Author.Tests.{ne_eqb, eqb-true}
use lib.Dec.{eqb, leb}
use lib.ListN.{length, take, drop, get_or, set, length-set, get_or-map, length-map}
use lib.Seq.{set_out, take-suc}
use Rattle.gliftext.specs.Pick.{pick, both, either, sum}
use Rattle.gliftext.specs.Table.{classes, class_of, is_name, move_of}
use Rattle.gliftext.specs.Text.{is_kind, named, texted}
use Rattle.gliftext.specs.Utf8.{rune_class, rune_on, rune_at}
use Rattle.gliftext.specs.declared.text.Text.{Text}
use Rattle.gliftext.specs.declared.text.Kind.TheVariants.{Offcurve}
use Rattle.glif.specs.Names.{alike, same_name, seen_to, repeated, unclosed, wrong_names, kept_names}
use Rattle.glif.specs.Tree.{treed}
use Rattle.glif.specs.Outline.{point_met, summed, kept_point, offset_of, mark_of, nowhere}
use Rattle.gliftext.specs.declared.text.Point.{Point}
use Rattle.glif.specs.Scan.{fresh_scan, Pass, pass, acted, turned, scanned}
use Rattle.glif.specs.declared.scan.Scan.{Scan}
use Rattle.glif.specs.declared.tree.Tree.{Tree}
use Rattle.glif.specs.declared.outline.Sum.{Sum}
use Rattle.gliftext.proofs.Picks.{pick_same}
use Rattle.gliftext.specs.Actions.{does}
use Rattle.gliftext.specs.Actions.{action_of}
use Rattle.gliftext.specs.declared.action.Action.{Action}
use Rattle.gliftext.specs.declared.action.Action.TheVariants.{Tag, NameStart, Quote, Opens, Closes}

-- ---- the name at the front of a text: its bytes, and 0 where something stands after it

unfoldable pub stem : List ℕ → List ℕ
stem [] = []
stem (x ∷ xs) = pick (is_name x) (x ∷ stem xs) (0 ∷ [])

no_name : is_name 0 ≡ false
unfolding is_name class_of classes pick
no_name = refl

pub stem_out : (x : ℕ) (xs : List ℕ) → is_name x ≡ false → stem (x ∷ xs) ≡ 0 ∷ []
unfolding stem pick
stem_out x xs e = rw e

alike_by : (x y : ℕ) (xs ys : List ℕ) {a b e : Bool} → is_name x ≡ a → is_name y ≡ b → eqb x y ≡ e →
    alike (x ∷ xs) (y ∷ ys) ≡ pick (both a e) (alike xs ys) (both (not a) (not b))
unfolding alike
alike_by x y xs ys e f g = rw (e, f, g)

alike_nil : (xs : List ℕ) → alike xs [] ≡ false
unfolding alike
alike_nil [] = refl
alike_nil (x ∷ xs) = refl

nought_alike : (xs : List ℕ) → alike [] xs ≡ false
unfolding alike
nought_alike xs = refl

zero_other : (x : ℕ) → is_name x ≡ true → eqb x 0 ≡ false
zero_other x h = ne_eqb x 0 (λ e. false≢true (sym no_name ∙ sym (ap is_name e) ∙ h))

pub alike_stem : (xs ys : List ℕ) → alike xs ys ≡ alike (stem xs) (stem ys)
unfolding stem pick
alike_stem [] ys = nought_alike ys ∙ sym (nought_alike (stem ys))
alike_stem (x ∷ xs) [] = alike_nil (x ∷ xs) ∙ sym (alike_nil (stem (x ∷ xs)))
alike_stem (x ∷ xs) (y ∷ ys) = by (is_name x) (is_name y) (eqb x y) refl refl refl (alike_stem xs ys)
  where
    by : (a b e : Bool) → is_name x ≡ a → is_name y ≡ b → eqb x y ≡ e → alike xs ys ≡ alike (stem xs) (stem ys) →
        alike (x ∷ xs) (y ∷ ys) ≡ alike (pick (is_name x) (x ∷ stem xs) (0 ∷ [])) (pick (is_name y) (y ∷ stem ys) (0 ∷ []))
    by true true e f g h same = rw (f, g) (alike_by x y xs ys f g h ∙ ap (λ (v : Bool). pick e v false) same ∙ sym (alike_by x y (stem xs) (stem ys) f g h))
    by true false true f g h same = absurd (false≢true (sym g ∙ sym (ap is_name (eqb-true x y h)) ∙ f))
    by true false false f g h same = rw (f, g) (alike_by x y xs ys f g h ∙ sym (alike_by x 0 (stem xs) [] f no_name (zero_other x f)))
    by false true e f g h same = rw (f, g) (alike_by x y xs ys f g h ∙ sym (alike_by 0 y [] (stem ys) no_name g refl))
    by false false e f g h same = rw (f, g) (alike_by x y xs ys f g h ∙ sym (alike_by 0 0 [] [] no_name no_name refl))

-- ---- what is remembered, with names instead of their places

pub record Abs : Type 0 where
  pub text : Text
  pub tree : Tree
  pub sum : Sum
  pub tag : List ℕ
  pub name : List ℕ
  pub names : List (List ℕ)
  pub points : List (List ℕ)
  pub rune : ℕ

-- a byte, and the name that begins there
pub data Fed : Type 0 where
  fed : ℕ → List ℕ → Fed

unfoldable pub fed_of : List ℕ → List Fed
fed_of [] = []
fed_of (b ∷ bs) = fed b (stem (b ∷ bs)) ∷ fed_of bs

unfoldable pub seen_in : List ℕ → List (List ℕ) → ℕ → ℕ → List ℕ → Bool
seen_in z names from zero p = false
seen_in z names from (suc k) p = either (seen_in z names from k p) (alike (get_or names (sum from k) z) p)

unfoldable pub wrong_in : List ℕ → List (List ℕ) → Action → ℕ → ℕ → List ℕ → Bool
wrong_in z names action depth n p =
    either (pick (does action Closes) (not (alike (get_or names (depth - 1) z) p)) false)
    (either (both (does action Quote) (leb (length names) (sum depth n))) (seen_in z names depth (pick (does action Quote) n 0) p))

unfoldable pub kept_in : List (List ℕ) → Action → ℕ → ℕ → List ℕ → List ℕ → List (List ℕ)
kept_in names action depth n tag name = pick (does action Opens) (set names depth tag) (pick (does action Quote) (set names (sum depth n) name) names)

-- the place of a point in the scratch row
abbrev pub place_of : Sum → Point → List ℕ
place_of s p = offset_of p.x ∷ offset_of p.y ∷ mark_of (eqb s.here 0) (is_kind p.kind Offcurve) ∷ []

unfoldable pub point_in : List (List ℕ) → Bool → Sum → Point → List (List ℕ)
point_in points met s p = pick met (set points s.points (place_of s p)) points

-- by an action, to a state
abbrev pub acts : List ℕ → Action → ℕ → List ℕ → Text → Abs → Abs
acts z action b st text a =
    record {
      text = text;
      tree = treed a.tree action text.tag.word
          (wrong_in z a.names action a.tree.depth a.text.attributes (pick (does action NameStart) st a.name));
      sum = summed a.sum a.tree action text.tag.word text.point;
      tag = pick (does action Tag) st a.tag;
      name = pick (does action NameStart) st a.name;
      names = kept_in a.names action a.tree.depth a.text.attributes (pick (does action Tag) st a.tag) (pick (does action NameStart) st a.name);
      points = point_in a.points (point_met a.tree action text.tag.word) a.sum text.point;
      rune = rune_on a.rune (rune_class b);
    }

unfoldable pub moved : List ℕ → ℕ → ℕ → List ℕ → Abs → Abs
moved z m b st a = acts z (action_of (m / 64)) b st (texted a.text (m % 64) (action_of (m / 64)) b 0) a

unfoldable pub step : List ℕ → Fed → Abs → Abs
step z (fed b st) a = moved z (move_of a.text.state (class_of b)) b st a

unfoldable pub steps : List ℕ → List Fed → Abs → Abs
steps z [] a = a
steps z (x ∷ xs) a = steps z xs (step z x a)

pub steps_append : (z : List ℕ) (xs ys : List Fed) (a : Abs) → steps z (xs ++ ys) a ≡ steps z ys (steps z xs a)
unfolding steps
steps_append z [] ys a = refl
steps_append z (x ∷ xs) ys a = steps_append z xs ys (step z x a)

-- ---- the reader's own state, without places

unfoldable pub flat : Text → Text
flat t =
    record {
      state = t.state;
      tag = record { at = 0; word = t.tag.word };
      name = record { at = 0; word = t.name.word };
      refer = t.refer;
      value = t.value;
      point = t.point;
      said = t.said;
      attributes = t.attributes;
      wrong = t.wrong;
    }

flat_text : (t : Text) (state : ℕ) (action : Action) (b i : ℕ) → flat (texted t state action b i) ≡ texted (flat t) state action b 0
unfolding flat texted named
flat_text t state action b i = rw (pick_same {A = ℕ} (does action Tag) 0, pick_same {A = ℕ} (does action NameStart) 0)

module _ (bs : List ℕ) where
  abbrev pub name_at : ℕ → List ℕ
  name_at p = stem (drop p bs)

  unfoldable pub abs_of : ℕ → Pass → Abs
  abs_of r (pass s names points) =
      record {
        text = flat s.text;
        tree = s.tree;
        sum = s.sum;
        tag = name_at s.text.tag.at;
        name = name_at s.text.name.at;
        names = map name_at names;
        points = points;
        rune = r;
      }

  same_name_lem : (p q : ℕ) → same_name bs p q ≡ alike (name_at p) (name_at q)
  unfolding same_name
  same_name_lem p q = alike_stem (drop p bs) (drop q bs)

  seen_same : (names : List ℕ) (from k p : ℕ) → seen_to bs names from k p ≡ seen_in (name_at 0) (map name_at names) from k (name_at p)
  unfolding seen_to seen_in
  seen_same names from zero p = refl
  seen_same names from (suc k) p =
      rw (seen_same names from k p, same_name_lem (get_or names (sum from k) 0) p, get_or-map name_at names (sum from k) 0)

  wrong_same : (names : List ℕ) (action : Action) (depth n p : ℕ) → wrong_names bs names action depth n p ≡ wrong_in (name_at 0) (map name_at names) action depth n (name_at p)
  unfolding wrong_names wrong_in unclosed repeated
  wrong_same names action depth n p =
      rw (seen_same names depth (pick (does action Quote) n 0) p, same_name_lem (get_or names (depth - 1) 0) p, get_or-map name_at names (depth - 1) 0, length-map names name_at)

  map_set : (f : ℕ → List ℕ) (l : List ℕ) (i v : ℕ) → map f (set l i v) ≡ set (map f l) i (f v)
  map_set f [] i v = refl
  map_set f (x ∷ l) zero v = refl
  map_set f (x ∷ l) (suc i) v = ap (λ (r : List (List ℕ)). f x ∷ r) (map_set f l i v)

  pick_ap : {A B : Type 0} (f : A → B) (t : Bool) (x y : A) → f (pick t x y) ≡ pick t (f x) (f y)
  unfolding pick
  pick_ap f true x y = refl
  pick_ap f false x y = refl

  kept_same : (names : List ℕ) (action : Action) (depth n tag name : ℕ) →
      length names ≤ nowhere → map name_at (kept_names names action depth n tag name) ≡ kept_in (map name_at names) action depth n (name_at tag) (name_at name)
  unfolding kept_names kept_in pick
  kept_same names action depth n tag name few = by (does action Opens) (does action Quote)
    where
      by : (x y : Bool) → map name_at (set names (pick x depth (pick y (sum depth n) nowhere)) (pick x tag name))
          ≡ pick x (set (map name_at names) depth (name_at tag)) (pick y (set (map name_at names) (sum depth n) (name_at name)) (map name_at names))
      by true y = map_set name_at names depth tag
      by false true = map_set name_at names (sum depth n) name
      by false false = ap (map name_at) (set_out names nowhere name few)

  kept_point_lem : (points : List (List ℕ)) (met : Bool) (s : Sum) (p : Point) → length points ≤ nowhere → kept_point points met s p ≡ point_in points met s p
  unfolding kept_point point_in pick
  kept_point_lem points true s p few = refl
  kept_point_lem points false s p few = set_out points nowhere (place_of s p) few

  texted_tag : (t : Text) (state : ℕ) (action : Action) (b i : ℕ) → (texted t state action b i).tag.at ≡ pick (does action Tag) i t.tag.at
  unfolding texted named
  texted_tag t state action b i = refl

  texted_name : (t : Text) (state : ℕ) (action : Action) (b i : ℕ) → (texted t state action b i).name.at ≡ pick (does action NameStart) i t.name.at
  unfolding texted named
  texted_name t state action b i = refl

  -- the parts that do not hang on places
  flat_word : (t : Text) → (flat t).tag.word ≡ t.tag.word
  unfolding flat
  flat_word t = refl

  flat_point : (t : Text) → (flat t).point ≡ t.point
  unfolding flat
  flat_point t = refl

  abs_moved : (r i m b : ℕ) (s : Scan) (names : List ℕ) (points : List (List ℕ)) → length names ≤ nowhere → length points ≤ nowhere →
      abs_of (rune_on r (rune_class b)) (acted bs (action_of (m / 64)) (texted s.text (m % 64) (action_of (m / 64)) b i) s names points)
      ≡ moved (name_at 0) m b (name_at i) (abs_of r (pass s names points))
  unfolding abs_of moved
  abs_moved r i m b s names points few few' =
      let action : Action = action_of (m / 64) in
      let u : Text = texted s.text (m % 64) action b i in
      let flat-is : texted (flat s.text) (m % 64) action b 0 ≡ flat u = sym (flat_text s.text (m % 64) action b i) in
      let word_is : (flat u).tag.word ≡ u.tag.word = flat_word u in
      let point_is : (flat u).point ≡ u.point = flat_point u in
      let few-is : (flat s.text).attributes ≡ s.text.attributes = unfold flat in refl in
      let tag_is : name_at u.tag.at ≡ pick (does action Tag) (name_at i) (name_at s.text.tag.at) =
      ap name_at (texted_tag s.text (m % 64) action b i) ∙ pick_ap name_at (does action Tag) i s.text.tag.at in
      let name-is : name_at u.name.at ≡ pick (does action NameStart) (name_at i) (name_at s.text.name.at) =
      ap name_at (texted_name s.text (m % 64) action b i) ∙ pick_ap name_at (does action NameStart) i s.text.name.at in
      rw (
        flat-is,
        word_is,
        point_is,
        few-is,
        ← tag_is,
        ← name-is,
        wrong_same names action s.tree.depth s.text.attributes u.name.at,
        kept_same names action s.tree.depth s.text.attributes u.tag.at u.name.at few,
        kept_point_lem points (point_met s.tree action u.tag.word) s.sum u.point few',
      )

  abbrev pub names_in : Pass → List ℕ
  names_in (pass s names points) = names

  abbrev pub points_in : Pass → List (List ℕ)
  points_in (pass s names points) = points

  pub abs_turned : (r i : ℕ) (p : Pass) → length (names_in p) ≤ nowhere → length (points_in p) ≤ nowhere →
      abs_of (rune_on r (rune_class (get_or bs i 0))) (turned bs i p) ≡ step (name_at 0) (fed (get_or bs i 0) (name_at i)) (abs_of r p)
  unfolding turned step abs_of flat
  abs_turned r i (pass s names points) few few' = abs_moved r i (move_of s.text.state (class_of (get_or bs i 0))) (get_or bs i 0) s names points few few'

  names_long : (i : ℕ) (p : Pass) → length (names_in (turned bs i p)) ≡ length (names_in p)
  unfolding turned kept_names
  names_long i (pass s names points) = length-set names _ _

  points_long : (i : ℕ) (p : Pass) → length (points_in (turned bs i p)) ≡ length (points_in p)
  unfolding turned kept_point
  points_long i (pass s names points) = length-set points _ _

pub fed_length : (bs : List ℕ) → length (fed_of bs) ≡ length bs
unfolding fed_of
fed_length [] = refl
fed_length (b ∷ bs) = ap suc (fed_length bs)

pub fed_drop : (bs : List ℕ) (k : ℕ) → drop k (fed_of bs) ≡ fed_of (drop k bs)
unfolding fed_of
fed_drop bs zero = refl
fed_drop [] (suc k) = refl
fed_drop (b ∷ bs) (suc k) = fed_drop bs k

abbrev pub no_fed : Fed
no_fed = fed 0 []

pub fed_at_lem : (bs : List ℕ) (i : ℕ) → i < length bs → get_or (fed_of bs) i no_fed ≡ fed (get_or bs i 0) (stem (drop i bs))
unfolding fed_of
fed_at_lem [] i h = absurd (omega arith)
fed_at_lem (b ∷ bs) zero h = refl
fed_at_lem (b ∷ bs) (suc i) h = fed_at_lem bs i (omega arith)

pub fed_take : (bs : List ℕ) (k : ℕ) → k < length bs → take (suc k) (fed_of bs) ≡ take k (fed_of bs) ++ (fed (get_or bs k 0) (stem (drop k bs)) ∷ [])
fed_take bs k h =
    let room : k < length (fed_of bs) = omega (arith, fed_length bs) in
    take-suc (fed_of bs) k no_fed room ∙ ap (λ (x : Fed). take k (fed_of bs) ++ (x ∷ [])) (fed_at_lem bs k h)

pub one_step : (z : List ℕ) (x : Fed) (a : Abs) → steps z (x ∷ []) a ≡ step z x a
unfolding steps
one_step z x a = refl

module _ (bs : List ℕ) (ns : List ℕ) (ps : List (List ℕ)) where
  abbrev pub start_of : Abs
  start_of = abs_of bs 0 (pass fresh_scan ns ps)

  pub long_names : (k : ℕ) → length (names_in bs (scanned bs k ns ps)) ≡ length ns
  unfolding scanned
  long_names zero = refl
  long_names (suc k) = names_long bs k (scanned bs k ns ps) ∙ long_names k

  pub long_points : (k : ℕ) → length (points_in bs (scanned bs k ns ps)) ≡ length ps
  unfolding scanned
  long_points zero = refl
  long_points (suc k) = points_long bs k (scanned bs k ns ps) ∙ long_points k

  pub abs_scanned : length ns ≤ nowhere → length ps ≤ nowhere → (k : ℕ) → k ≤ length bs → abs_of bs (rune_at bs k) (scanned bs k ns ps) ≡ steps (name_at bs 0) (take k (fed_of bs)) start_of
  unfolding scanned rune_at steps
  abs_scanned few few' zero h = refl
  abs_scanned few few' (suc k) h =
      abs_turned bs (rune_at bs k) k (scanned bs k ns ps) (omega (arith, long_names k)) (omega (arith, long_points k))
      ∙ ap (step (name_at bs 0) (fed (get_or bs k 0) (name_at bs k))) (abs_scanned few few' k (omega arith))
      ∙ sym (one_step (name_at bs 0) (fed (get_or bs k 0) (name_at bs k)) (steps (name_at bs 0) (take k (fed_of bs)) start_of))
      ∙ sym (steps_append (name_at bs 0) (take k (fed_of bs)) (fed (get_or bs k 0) (name_at bs k) ∷ []) start_of)
      ∙ ap (λ (l : List Fed). steps (name_at bs 0) l start_of) (sym (fed_take bs k h))

-- ---- texts that end with a byte that is no name's

pub stem_cut : (l : List ℕ) (m : ℕ) (v : List ℕ) → m < length l → is_name (get_or l m 0) ≡ false → stem (take (suc m) l ++ v) ≡ stem l
unfolding stem
stem_cut [] m v h e = absurd (omega arith)
stem_cut (b ∷ l) zero v h e = stem_out b v e ∙ sym (stem_out b l e)
stem_cut (b ∷ l) (suc m) v h e = ap (λ (r : List ℕ). pick (is_name b) (b ∷ r) (0 ∷ [])) (stem_cut l m v (omega arith) e)

pub fed_cut : (l : List ℕ) (m : ℕ) (v : List ℕ) → m < length l → is_name (get_or l m 0) ≡ false → fed_of (take (suc m) l ++ v) ≡ take (suc m) (fed_of l) ++ fed_of v
unfolding fed_of
fed_cut [] m v h e = absurd (omega arith)
fed_cut (b ∷ l) zero v h e = ap (λ (r : List ℕ). fed b r ∷ fed_of v) (stem_out b v e ∙ sym (stem_out b l e))
fed_cut (b ∷ l) (suc m) v h e =
    ap (λ (r : List ℕ). fed b r ∷ fed_of (take (suc m) l ++ v)) (stem_cut (b ∷ l) (suc m) v h e)
    ∙ ap (λ (r : List Fed). fed b (stem (b ∷ l)) ∷ r) (fed_cut l m v (omega arith) e)

-- a text whose last byte is no name's
pub data Closed : List ℕ → Type 0 where
  last : {c : ℕ} → is_name c ≡ false → Closed (c ∷ [])
  more_of : {b : ℕ} {bs : List ℕ} → Closed bs → Closed (b ∷ bs)

pub closed_append : (u : List ℕ) {v : List ℕ} → Closed v → Closed (u ++ v)
closed_append [] c = c
closed_append (b ∷ u) c = more_of (closed_append u c)

pub closed_stem : {u : List ℕ} → Closed u → (v : List ℕ) → stem (u ++ v) ≡ stem u
unfolding stem
closed_stem (last {c} e) v = stem_out c v e ∙ sym (stem_out c [] e)
closed_stem (more_of {b} c) v = ap (λ (r : List ℕ). pick (is_name b) (b ∷ r) (0 ∷ [])) (closed_stem c v)

pub closed_fed : {u : List ℕ} → Closed u → (v : List ℕ) → fed_of (u ++ v) ≡ fed_of u ++ fed_of v
unfolding fed_of
closed_fed (last {c} e) v = ap (λ (r : List ℕ). fed c r ∷ fed_of v) (stem_out c v e ∙ sym (stem_out c [] e))
closed_fed (more_of {b} {bs} c) v = (λ i. fed b (closed_stem (more_of {b = b} c) v i) ∷ closed_fed c v i)
