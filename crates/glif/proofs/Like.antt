-- Two readers that are alike in all that will be looked at stay alike. Assumes nothing.
use Prim.Native.Nat.{ℕ, zero, suc, ◌+◌, ◌-◌, ◌/◌, ◌%◌, ◌≤◌, ◌<◌}
use native.Mathlib.Omega.{arith}
use native.Mathlib.Nat.{pos_of_ne-zero}
use native.Mathlib.Numerals.{add-one}
use mathlib.Core.Bool.{Bool, true, false, not, true≢false}
use mathlib.Core.List.{List}
use mathlib.Core.Path.{◌≡◌, refl, sym, ap, subst, ◌∙◌}
use borrow.Author.Tests.{lt-ltb, ltb-true, ltb-false, eqb-true, eqb-false}
use lib.Dec.{eqb, ltb, leb}
use lib.ListN.{length, get_or, set, length-set, get_or-eq_default}
use lib.Seq.{get_or-set_same, get_or-set_other}
use Rattle.gliftext.specs.Pick.{pick, both, either, more, sum}
use Rattle.gliftext.specs.Table.{class_of, move_of}
use Rattle.gliftext.specs.Words.{pushed, grown, no_number, fed_number, named_char, is_char, narrowed}
use Rattle.gliftext.specs.Text.{named, referred, character, goes_in, value_begins, valued, pointed, declared, said, wrong_text, attributed, texted}
use Rattle.gliftext.specs.Utf8.{rune_class, rune_on}
use Rattle.gliftext.specs.declared.text.Text.{Text}
use Rattle.gliftext.specs.declared.text.Declaration.{Declaration}
use Rattle.gliftext.specs.declared.text.Declaration.TheVariants.{Wrong}
use Rattle.gliftext.specs.declared.text.Name.{Name}
use Rattle.gliftext.specs.declared.text.Value.{Value}
use Rattle.gliftext.specs.declared.text.Point.{Point}
use Rattle.glif.specs.Names.{alike}
use Rattle.glif.specs.Tree.{on_path, wrong_entry, entered, left, nested, text_fits, treed}
use Rattle.glif.specs.declared.tree.Tree.{Tree}
use Rattle.gliftext.proofs.Doing.{does_true, does_false}
use Rattle.gliftext.proofs.Picks.{plain_sum, pick_by, in_left, in_right, or_right, or-false}
use Rattle.glif.proofs.Stems.{Abs, Fed, fed, seen_in, wrong_in, kept_in, acts, moved, step}
use Rattle.gliftext.proofs.Live.{live_tag, live_name, live_value, live_refer, Facts, facts}
use Rattle.gliftext.specs.Actions.{does}
use Rattle.gliftext.specs.Actions.{action_of}
use Rattle.gliftext.specs.declared.action.Action.{Action}
use Rattle.gliftext.specs.declared.action.Action.TheVariants.{Tag, TagOn, NameStart, NameOn, Quote, Char, Attribute, Opens, Empty, Closes, Content, Section, Reference, TextReference, LetterOf, Decimal, Hexadecimal, Named, Numbered, Said, Declared, Target}

pub record Tagged (s t : Abs) : Type 0 where
  pub tag : s.text.tag ≡ t.text.tag
  pub stem : s.tag ≡ t.tag
  pub attributes : s.text.attributes ≡ t.text.attributes
  pub few : s.text.attributes ≤ 256
  pub point : s.text.point ≡ t.text.point

-- how many names of the row are looked at
abbrev pub live_names : Abs → ℕ
live_names s = s.tree.depth + pick (live_tag s.text.state) s.text.attributes 0

pub record Like (z : List ℕ) (s t : Abs) : Type 0 where
  pub state : s.text.state ≡ t.text.state
  pub said : s.text.said ≡ t.text.said
  pub wrong : s.text.wrong ≡ t.text.wrong
  pub tree : s.tree ≡ t.tree
  pub rune : s.rune ≡ t.rune
  pub long : length s.names ≡ length t.names
  pub tagged : live_tag s.text.state ≡ true → Tagged s t
  pub name : live_name s.text.state ≡ true → s.text.name ≡ t.text.name
  pub stem : live_name s.text.state ≡ true → s.name ≡ t.name
  pub value : live_value s.text.state ≡ true → s.text.value ≡ t.text.value
  pub refer : live_refer s.text.state ≡ true → s.text.refer ≡ t.text.refer
  pub shallow : s.tree.depth ≤ 256
  pub names : (j : ℕ) → j < live_names s → get_or s.names j z ≡ get_or t.names j z

-- ---- by a test

named_same : (x y : Name) (begins goes : Bool) (b : ℕ) → (begins ≡ false → x ≡ y) → named x begins goes b 0 ≡ named y begins goes b 0
unfolding named pick
named_same x y true goes b h = refl
named_same x y false goes b h = rw (h refl)

module _ (a : Action) (b : ℕ) where
  refer_same : (r r' : ℕ) → (either (does a Reference) (does a TextReference) ≡ false → r ≡ r') → referred r a b ≡ referred r' a b
  unfolding referred
  refer_same r r' h = pick_by (either (does a Reference) (does a TextReference)) (λ e. refl) (λ e. ap (λ (v : ℕ). pick (does a LetterOf) (pushed v b) (pick (does a Decimal) (grown 10 v b) (pick (does a Hexadecimal) (grown 16 v b) v))) (h e))

  value_same : (v v' : Value) (r r' : ℕ) → (value_begins a ≡ false → v ≡ v') → (goes_in a ≡ true → character a b r ≡ character a b r') → valued v a b r ≡ valued v' a b r'
  unfolding valued
  value_same v v' r r' h k =
      let n : pick (value_begins a) no_number (pick (goes_in a) (fed_number v.number (character a b r)) v.number)
      ≡ pick (value_begins a) no_number (pick (goes_in a) (fed_number v'.number (character a b r')) v'.number) =
      pick_by (value_begins a) (λ e. refl) (λ e. pick_by (goes_in a) (λ g. rw (h e, k g)) (λ g. rw (h e))) in
      let w : pick (value_begins a) 0 (pick (goes_in a) (pushed v.word (character a b r)) v.word)
      ≡ pick (value_begins a) 0 (pick (goes_in a) (pushed v'.word (character a b r')) v'.word) =
      pick_by (value_begins a) (λ e. refl) (λ e. pick_by (goes_in a) (λ g. rw (h e, k g)) (λ g. rw (h e))) in
      λ i. record { number = n i; word = w i }

  point_same : (p p' : Point) (name name' : ℕ) (v v' : Value) → (does a Tag ≡ false → p ≡ p') → (does a Attribute ≡ true → name ≡ name') → (does a Attribute ≡ true → v ≡ v') →
      pointed p a name v ≡ pointed p' a name' v'
  unfolding pointed pick
  point_same p p' name name' v v' h k l = by (does a Tag) (does a Attribute) refl refl
    where
      by : (x y : Bool) → does a Tag ≡ x → does a Attribute ≡ y → pointed p a name v ≡ pointed p' a name' v'
      by true y e f = rw e
      by false true e f = rw (e, f, h e, k f, l f)
      by false false e f = rw (e, f, h e)

module _ (a : Action) where
  said_same : (d d' : Declaration) (name name' word word' : ℕ) → d ≡ d' → (either (does a Declared) (does a Target) ≡ true → name ≡ name') → (does a Declared ≡ true → word ≡ word') →
      said d a name word ≡ said d' a name' word'
  unfolding said pick
  said_same d d' name name' word word' e h k = by (does a Declared) (does a Target) refl refl
    where
      by : (x y : Bool) → does a Declared ≡ x → does a Target ≡ y → said d a name word ≡ said d' a name' word'
      by true y f g =
          let n : name ≡ name' = h (in_left (does a Declared) (does a Target) f) in
          rw (f, e, n, k f)
      by false true f g =
          let n : name ≡ name' = h (in_right (does a Declared) (does a Target) g) in
          rw (f, g, e, n)
      by false false f g = rw (f, g, e)

  wrong_same : (name name' r r' : ℕ) (d d' : Declaration) → d ≡ d' → (does a Section ≡ true → name ≡ name') → (either (does a Named) (does a Numbered) ≡ true → r ≡ r') →
      wrong_text a name r d ≡ wrong_text a name' r' d'
  unfolding wrong_text
  wrong_same name name' r r' d d' e h k =
      let p : both (does a Named) (eqb (named_char r) 0) ≡ both (does a Named) (eqb (named_char r') 0) = pick_by (does a Named) (λ f. ap (λ (v : ℕ). eqb (named_char v) 0) (k (in_left _ _ f))) (λ f. refl) in
      let q : both (does a Numbered) (not (is_char r)) ≡ both (does a Numbered) (not (is_char r')) = pick_by (does a Numbered) (λ f. ap (λ (v : ℕ). not (is_char v)) (k (in_right _ _ f))) (λ f. refl) in
      let m : both (does a Section) (not (eqb name 288907940929)) ≡ both (does a Section) (not (eqb name' 288907940929)) = pick_by (does a Section) (λ f. ap (λ (v : ℕ). not (eqb v 288907940929)) (h f)) (λ f. refl) in
      λ i. either (p i) (either (q i) (either (m i) (declared (e i) Wrong)))

  attributes_same : (n n' : ℕ) → (does a Tag ≡ false → n ≡ n') → attributed n a ≡ attributed n' a
  unfolding attributed
  attributes_same n n' h = pick_by (does a Tag) (λ e. refl) (λ e. ap (λ (v : ℕ). pick (does a Quote) (pick (ltb v 256) (more v) v) v) (h e))

  attributes_few : (n : ℕ) → (does a Tag ≡ false → n ≤ 256) → attributed n a ≤ 256
  unfolding attributed pick more
  attributes_few n h = by (does a Tag) (does a Quote) (ltb n 256) refl refl
    where
      by : (x y w : Bool) → does a Tag ≡ x → ltb n 256 ≡ w → pick x 0 (pick y (pick w (pick (ltb n 18446744073709551615) (n + 1) n) n) n) ≤ 256
      by true y w e f = omega arith
      by false true true e f = rw (lt-ltb n 18446744073709551615 (omega (arith, ltb-true n 256 f))) (omega (arith, ltb-true n 256 f))
      by false true false e f = h e
      by false false w e f = h e

  nested_same : (t : Tree) (word word' : ℕ) → (either (does a Opens) (does a Empty) ≡ true → word ≡ word') → nested t a word ≡ nested t a word'
  nested_same t word word' h =
      pick_by (does a Opens) (λ f. ap (entered t) (h (in_left (does a Opens) (does a Empty) f)))
      (λ f. pick_by (does a Empty) (λ g. ap (λ (v : ℕ). left (entered t v)) (h (in_right (does a Opens) (does a Empty) g))) (λ g. refl))

  tree_same : (t : Tree) (word word' : ℕ) (w w' : Bool) → (either (does a Opens) (does a Empty) ≡ true → word ≡ word') → w ≡ w' → treed t a word w ≡ treed t a word' w'
  unfolding treed
  tree_same t word word' w w' h e =
      let p = nested_same t word word' h in
      λ i. record {
        depth = (p i).depth;
        level = (p i).level;
        root = (p i).root;
        outline = (p i).outline;
        wrong = either (p i).wrong (either (e i) (both (either (does a Content) (either (does a Section) (does a TextReference))) (not (text_fits t))));
      }

  -- ---- names

  module _ (z : List ℕ) (names names' : List (List ℕ)) (depth : ℕ) (shallow : depth ≤ 256) where
    seen_same : (k : ℕ) (p p' : List ℕ) → p ≡ p' → k ≤ 256 → ((j : ℕ) → j < depth + k → get_or names j z ≡ get_or names' j z) →
        seen_in z names depth k p ≡ seen_in z names' depth k p'
    unfolding seen_in
    seen_same zero p p' e l h = refl
    seen_same (suc k) p p' e l h =
        let is : sum depth k ≡ depth + k = plain_sum depth k (omega arith) in
        let here : get_or names (sum depth k) z ≡ get_or names' (sum depth k) z = rw is (h (depth + k) (omega arith)) in
        let before = seen_same k p p' e (omega arith) (λ j m. h j (omega arith)) in
        λ i. either (before i) (alike (here i) (e i))

    names_wrong : (n n' : ℕ) (p p' : List ℕ) → length names ≡ length names' → (either (does a Quote) (does a Closes) ≡ true → p ≡ p') → (does a Quote ≡ true → n ≡ n') → (does a Quote ≡ true → n ≤ 256) →
        (does a Closes ≡ true → get_or names (depth - 1) z ≡ get_or names' (depth - 1) z) → (does a Quote ≡ true → (j : ℕ) → j < depth + n → get_or names j z ≡ get_or names' j z) →
        wrong_in z names a depth n p ≡ wrong_in z names' a depth n' p'
    unfolding wrong_in pick seen_in
    names_wrong n n' p p' long same count few last those =
        let x : pick (does a Closes) (not (alike (get_or names (depth - 1) z) p)) false ≡ pick (does a Closes) (not (alike (get_or names' (depth - 1) z) p')) false =
        pick_by (does a Closes) (λ e. λ i. not (alike (last e i) (same (in_right (does a Quote) (does a Closes) e) i))) (λ e. refl) in
        let y : both (does a Quote) (leb (length names) (sum depth n)) ≡ both (does a Quote) (leb (length names') (sum depth n')) =
        pick_by (does a Quote) (λ e. λ i. leb (long i) (sum depth (count e i))) (λ e. refl) in
        let w : seen_in z names depth (pick (does a Quote) n 0) p ≡ seen_in z names' depth (pick (does a Quote) n' 0) p' = by (does a Quote) refl in
        λ i. either (x i) (either (y i) (w i))
      where
        by : (t : Bool) → does a Quote ≡ t → seen_in z names depth (pick t n 0) p ≡ seen_in z names' depth (pick t n' 0) p'
        by true e = seen_same n p p' (same (in_left (does a Quote) (does a Closes) e)) (few e) (those e) ∙ ap (λ (v : ℕ). seen_in z names' depth v p') (count e)
        by false e = refl

    set_agree : (m : ℕ) (u v : List ℕ) → length names ≡ length names' → u ≡ v → ((j : ℕ) → j < m → get_or names j z ≡ get_or names' j z) →
        (j : ℕ) → j < suc m → get_or (set names m u) j z ≡ get_or (set names' m v) j z
    set_agree m u v long same h j l = by (eqb j m) refl
      where
        past : (t : Bool) → ltb m (length names) ≡ t → get_or (set names m u) m z ≡ get_or (set names' m v) m z
        past true e =
            let i = ltb-true m (length names) e in
            get_or-set_same names m u z i ∙ same ∙ sym (get_or-set_same names' m v z (omega (arith, long)))
        past false e =
            let i = ltb-false m (length names) e in
            get_or-eq_default (set names m u) z {n = m} (omega (arith, length-set names m u)) ∙ sym (get_or-eq_default (set names' m v) z {n = m} (omega (arith, length-set names' m v)))

        by : (t : Bool) → eqb j m ≡ t → get_or (set names m u) j z ≡ get_or (set names' m v) j z
        by true e = rw (eqb-true j m e) (past (ltb m (length names)) refl)
        by false e =
            let other = eqb-false j m e in
            get_or-set_other names m j u z other ∙ h j (omega arith) ∙ sym (get_or-set_other names' m j v z other)

-- ---- the open elements, by the action

module _ (t : Tree) (word : ℕ) (w : Bool) where
  -- an element that closes was open
  pub closes_deep : (a : Action) → does a Closes ≡ true → (treed t a word w).wrong ≡ false → 0 < t.depth
  unfolding treed left pick
  closes_deep a e h =
      let is = does_true a Closes e in
      let h' = subst (λ (v : Action). (treed t v word w).wrong ≡ false) is h in
      let deep = (or-false t.wrong (eqb t.depth 0) (or-false _ _ h').0).1 in
      pos_of_ne-zero (eqb-false t.depth 0 deep)

  -- one that opens is not too deep
  entry_shallow : (on : Bool) → wrong_entry t on ≡ false → t.depth ≤ 255
  entry_shallow on e = ltb-false 255 t.depth (or-false _ _ (or-false _ _ e).1).1

  pub enter_fine : (entered t word).wrong ≡ false → wrong_entry t (on_path t word) ≡ false
  unfolding entered
  enter_fine e = (or-false _ _ e).1

  pub opened_fine : (a : Action) → does a Opens ≡ true → (treed t a word w).wrong ≡ false → (entered t word).wrong ≡ false
  unfolding treed pick
  opened_fine a e h = (or-false (entered t word).wrong _ (subst (λ (v : Action). (treed t v word w).wrong ≡ false) (does_true a Opens e) h)).0

  pub opens_shallow : (a : Action) → does a Opens ≡ true → (treed t a word w).wrong ≡ false → t.depth ≤ 255
  opens_shallow a e h = entry_shallow (on_path t word) (enter_fine (opened_fine a e h))

  abbrev after : Action → Tree
  after a = treed t a word w

  pub depth_opens : (a : Action) → does a Opens ≡ true → t.depth ≤ 256 → (after a).depth ≡ suc t.depth
  unfolding treed entered more pick
  depth_opens a e h = subst (λ (v : Action). (treed t v word w).depth ≡ suc t.depth) (sym (does_true a Opens e)) (rw (lt-ltb t.depth 18446744073709551615 (omega arith)) (add-one t.depth))

  pub depth_less : (a : Action) → does a Opens ≡ false → t.depth ≤ 256 → (after a).depth ≤ t.depth
  unfolding treed entered left more pick
  depth_less a e h = by (does a Empty) (does a Closes) refl refl
    where
      by : (x y : Bool) → does a Empty ≡ x → does a Closes ≡ y → (after a).depth ≤ t.depth
      by true y f g = rw (e, f, lt-ltb t.depth 18446744073709551615 (omega arith)) (omega arith)
      by false true f g = rw (e, f, g) (omega arith)
      by false false f g = rw (e, f, g) (omega arith)

-- ---- the row of names and the number of attributes, by the action

module _ (names : List (List ℕ)) (a : Action) (depth n : ℕ) (tag name : List ℕ) where
  kept_opens : does a Opens ≡ true → kept_in names a depth n tag name ≡ set names depth tag
  unfolding kept_in pick
  kept_opens e = rw e

  kept_quote : does a Opens ≡ false → does a Quote ≡ true → kept_in names a depth n tag name ≡ set names (sum depth n) name
  unfolding kept_in pick
  kept_quote e g = rw (e, g)

  kept_other : does a Opens ≡ false → does a Quote ≡ false → kept_in names a depth n tag name ≡ names
  unfolding kept_in pick
  kept_other e g = rw (e, g)

  pub kept_long : length (kept_in names a depth n tag name) ≡ length names
  kept_long = by (does a Opens) (does a Quote) refl refl
    where
      by : (x y : Bool) → does a Opens ≡ x → does a Quote ≡ y → length (kept_in names a depth n tag name) ≡ length names
      by true y e g = ap length (kept_opens e) ∙ length-set names depth tag
      by false true e g = ap length (kept_quote e g) ∙ length-set names (sum depth n) name
      by false false e g = ap length (kept_other e g)

attributes_one : (n : ℕ) (a : Action) → does a Tag ≡ true → attributed n a ≡ 0
unfolding attributed pick
attributes_one n a e = rw e

attributes_other : (n : ℕ) (a : Action) → does a Tag ≡ false → does a Quote ≡ false → attributed n a ≡ n
unfolding attributed pick
attributes_other n a e g = rw (e, g)

attributes_more : (n : ℕ) (a : Action) → does a Tag ≡ false → n ≤ 256 → attributed n a ≤ suc n
unfolding attributed pick more
attributes_more n a e h = rw (e, lt-ltb n 18446744073709551615 (omega arith)) (by (does a Quote) (ltb n 256))
  where
    by : (x y : Bool) → pick x (pick y (n + 1) n) n ≤ suc n
    by true true = omega arith
    by true false = omega arith
    by false y = omega arith

pick_most : (t : Bool) (x y : ℕ) → (t ≡ true → x ≤ y) → pick t x 0 ≤ y
unfolding pick
pick_most true x y h = h refl
pick_most false x y h = omega arith

pick_taken : (t : Bool) (x : ℕ) → t ≡ true → pick t x 0 ≡ x
unfolding pick
pick_taken t x e = rw e

not_two : (a x y : Action) → does a x ≡ true → (x ≡ y → ⊥) → does a y ≡ false
not_two a x y e h = does_false a y (λ g. h (sym (does_true a x e) ∙ g))

-- ---- one byte

module _ (z : List ℕ) (b c : ℕ) (a : Action) (n : ℕ) (st : List ℕ) (s t : Abs) (like : Like z s t) (f : Facts s.text.state c a n) where
  abbrev pub text_of : Abs → Text
  text_of x = texted x.text n a b 0

  abbrev pub next : Abs → Abs
  next x = acts z a b st (text_of x) x

  -- names, references and values as they are after the byte
  name_set : either (does a NameStart) (live_name s.text.state) ≡ true → named s.text.name (does a NameStart) (does a NameOn) b 0 ≡ named t.text.name (does a NameStart) (does a NameOn) b 0
  name_set h = named_same s.text.name t.text.name (does a NameStart) (does a NameOn) b (λ e. like.name (or_right _ _ h e))

  stem_set : either (does a NameStart) (live_name s.text.state) ≡ true → pick (does a NameStart) st s.name ≡ pick (does a NameStart) st t.name
  stem_set h = pick_by (does a NameStart) (λ e. refl) (λ e. like.stem (or_right _ _ h e))

  refer_set : either (either (does a Reference) (does a TextReference)) (live_refer s.text.state) ≡ true → referred s.text.refer a b ≡ referred t.text.refer a b
  refer_set h = refer_same a b s.text.refer t.text.refer (λ e. like.refer (or_right _ _ h e))

  abbrev ref_s : ℕ
  ref_s = referred s.text.refer a b

  abbrev ref_t : ℕ
  ref_t = referred t.text.refer a b

  refer_read : either (does a Named) (does a Numbered) ≡ true → ref_s ≡ ref_t
  refer_read h = refer_set (in_right _ _ (f.reads_refer h))

  same_character : goes_in a ≡ true → character a b ref_s ≡ character a b ref_t
  same_character h =
      ap narrowed (pick_by (does a Char) (λ e. refl) (λ e. pick_by (does a Named) (λ g. ap named_char (refer_read (in_left (does a Named) (does a Numbered) g))) (λ g. refer_read (or_right (does a Char) _ h e))))

  value_set : either (either (does a Quote) (does a Said)) (live_value s.text.state) ≡ true → valued s.text.value a b ref_s ≡ valued t.text.value a b ref_t
  value_set h = value_same a b s.text.value t.text.value ref_s ref_t (λ e. like.value (or_right _ _ h e)) same_character

  name_read : either (either (does a Quote) (does a Attribute)) (either (either (does a Closes) (does a Section)) (either (does a Declared) (does a Target))) ≡ true →
      named s.text.name (does a NameStart) (does a NameOn) b 0 ≡ named t.text.name (does a NameStart) (does a NameOn) b 0
  name_read h = name_set (in_right _ _ (f.reads_name h))

  stem_read : either (does a Quote) (does a Closes) ≡ true → pick (does a NameStart) st s.name ≡ pick (does a NameStart) st t.name
  stem_read h = stem_set (in_right _ _ (f.reads_name (by (does a Quote) refl)))
    where
      by : (x : Bool) → does a Quote ≡ x → either (either (does a Quote) (does a Attribute)) (either (either (does a Closes) (does a Section)) (either (does a Declared) (does a Target))) ≡ true
      by true e = in_left _ _ (in_left (does a Quote) (does a Attribute) e)
      by false e = in_right _ _ (in_left _ _ (in_left (does a Closes) (does a Section) (or_right (does a Quote) (does a Closes) h e)))

  value_read : either (does a Attribute) (does a Declared) ≡ true → valued s.text.value a b ref_s ≡ valued t.text.value a b ref_t
  value_read h = value_set (in_right _ _ (f.reads_value h))

  tag_read : either (either (does a Quote) (does a Attribute)) (either (does a Opens) (does a Empty)) ≡ true → Tagged s t
  tag_read h = like.tagged (f.reads_tag h)

  abbrev seven : does a Attribute ≡ true → either (either (does a Quote) (does a Attribute)) (either (does a Opens) (does a Empty)) ≡ true
  seven e = in_left _ _ (in_right (does a Quote) (does a Attribute) e)

  -- ---- the text

  tag_set : live_tag n ≡ true → does a Tag ≡ false → Tagged s t
  tag_set h e = like.tagged (or_right _ _ (f.sets_tag h) e)

  text_tag : live_tag n ≡ true → (text_of s).tag ≡ (text_of t).tag
  unfolding texted
  text_tag h = named_same s.text.tag t.text.tag (does a Tag) (does a TagOn) b (λ e. (tag_set h e).tag)

  pub tag_word : either (does a Opens) (does a Empty) ≡ true → (text_of s).tag.word ≡ (text_of t).tag.word
  unfolding texted
  tag_word h = ap (λ (v : Name). v.word) (named_same s.text.tag t.text.tag (does a Tag) (does a TagOn) b (λ e. (tag_read (in_right (either (does a Quote) (does a Attribute)) _ h)).tag))

  text_name : live_name n ≡ true → (text_of s).name ≡ (text_of t).name
  unfolding texted
  text_name h = name_set (f.sets_name h)

  text_value : live_value n ≡ true → (text_of s).value ≡ (text_of t).value
  unfolding texted
  text_value h = value_set (f.sets_value h)

  text_refer : live_refer n ≡ true → (text_of s).refer ≡ (text_of t).refer
  unfolding texted
  text_refer h = refer_set (f.sets_refer h)

  text_point : live_tag n ≡ true → (text_of s).point ≡ (text_of t).point
  unfolding texted
  text_point h =
      point_same a b s.text.point t.text.point _ _ _ _ (λ e. (tag_set h e).point)
      (λ e. ap (λ (v : Name). v.word) (name_read (in_left _ _ (in_right (does a Quote) (does a Attribute) e)))) (λ e. value_read (in_left (does a Attribute) (does a Declared) e))

  text_attributes : live_tag n ≡ true → (text_of s).attributes ≡ (text_of t).attributes
  unfolding texted
  text_attributes h = attributes_same a s.text.attributes t.text.attributes (λ e. (tag_set h e).attributes)

  text_few : live_tag n ≡ true → (text_of s).attributes ≤ 256
  unfolding texted
  text_few h = attributes_few a s.text.attributes (λ e. (tag_set h e).few)

  text_said : (text_of s).said ≡ (text_of t).said
  unfolding texted
  text_said =
      said_same a s.text.said t.text.said _ _ _ _ like.said
      (λ e. ap (λ (v : Name). v.word) (name_read (in_right (either (does a Quote) (does a Attribute)) _ (in_right (either (does a Closes) (does a Section)) _ e))))
      (λ e. ap (λ (v : Value). v.word) (value_read (in_right (does a Attribute) (does a Declared) e)))

  text_wrong : (text_of s).wrong ≡ (text_of t).wrong
  unfolding texted
  text_wrong =
      λ i. either (like.wrong i) (wrong_same a _ _ ref_s ref_t _ _ text_said
      (λ e. ap (λ (v : Name). v.word) (name_read (in_right (either (does a Quote) (does a Attribute)) _ (in_left _ _ (in_right (does a Closes) (does a Section) e))))) refer_read i)

  -- ---- the open elements

  module _ (h : (next s).tree.wrong ≡ false) where
    last_name : does a Closes ≡ true → get_or s.names (s.tree.depth - 1) z ≡ get_or t.names (s.tree.depth - 1) z
    last_name e =
        let deep = closes_deep s.tree _ _ a e h in
        like.names (s.tree.depth - 1) (omega arith)

    live_when : live_tag s.text.state ≡ true → live_names s ≡ s.tree.depth + s.text.attributes
    unfolding pick
    live_when e = rw e

    five : does a Quote ≡ true → either (either (does a Quote) (does a Attribute)) (either (does a Opens) (does a Empty)) ≡ true
    five e = in_left _ _ (in_left (does a Quote) (does a Attribute) e)

    all_names : does a Quote ≡ true → (j : ℕ) → j < s.tree.depth + s.text.attributes → get_or s.names j z ≡ get_or t.names j z
    all_names e j l = like.names j (omega (arith, live_when (f.reads_tag (five e))))

    abbrev stem_s : List ℕ
    stem_s = pick (does a NameStart) st s.name

    abbrev stem_t : List ℕ
    stem_t = pick (does a NameStart) st t.name

    same_wrong : wrong_in z s.names a s.tree.depth s.text.attributes stem_s ≡ wrong_in z t.names a t.tree.depth t.text.attributes stem_t
    same_wrong =
        names_wrong a z s.names t.names s.tree.depth like.shallow s.text.attributes t.text.attributes stem_s stem_t like.long stem_read
        (λ e. (tag_read (five e)).attributes) (λ e. (tag_read (five e)).few) last_name all_names
        ∙ ap (λ (v : Tree). wrong_in z t.names a v.depth t.text.attributes stem_t) like.tree

    same_tree : (next s).tree ≡ (next t).tree
    same_tree =
        tree_same a s.tree (text_of s).tag.word (text_of t).tag.word _ _ tag_word same_wrong
        ∙ ap (λ (v : Tree). treed v a (text_of t).tag.word (wrong_in z t.names a t.tree.depth t.text.attributes stem_t)) like.tree

    still_shallow : (next s).tree.depth ≤ 256
    still_shallow = by (does a Opens) refl
      where
        by : (x : Bool) → does a Opens ≡ x → (next s).tree.depth ≤ 256
        by true e = omega (arith, depth_opens s.tree (text_of s).tag.word (wrong_in z s.names a s.tree.depth s.text.attributes stem_s) a e like.shallow, opens_shallow s.tree _ _ a e h)
        by false e = omega (arith, depth_less s.tree (text_of s).tag.word (wrong_in z s.names a s.tree.depth s.text.attributes stem_s) a e like.shallow, like.shallow)

    -- ---- names

    abbrev tag_s : List ℕ
    tag_s = pick (does a Tag) st s.tag

    abbrev tag_t : List ℕ
    tag_t = pick (does a Tag) st t.tag

    same_depth : s.tree.depth ≡ t.tree.depth
    same_depth = ap (λ (v : Tree). v.depth) like.tree

    live_after : live_names (next s) ≡ (next s).tree.depth + pick (live_tag n) (attributed s.text.attributes a) 0
    unfolding texted
    live_after = refl

    opens_names : does a Opens ≡ true → (j : ℕ) → j < live_names (next s) → get_or (next s).names j z ≡ get_or (next t).names j z
    opens_names e j l =
        let twelve : n ≡ 12 = eqb-true n 12 (f.tags_end (in_left (does a Opens) _ e)) in
        let dead : live_tag n ≡ false = subst (λ (v : ℕ). live_tag v ≡ false) (sym twelve) (unfold pick in refl) in
        let none : pick (live_tag n) (attributed s.text.attributes a) 0 ≤ 0 = pick_most (live_tag n) _ 0 (λ g. absurd (true≢false (sym g ∙ dead))) in
        let deep = depth_opens s.tree (text_of s).tag.word (wrong_in z s.names a s.tree.depth s.text.attributes stem_s) a e like.shallow in
        let same : tag_s ≡ tag_t = pick_by (does a Tag) (λ g. refl) (λ g. (tag_read (in_right (either (does a Quote) (does a Attribute)) _ (in_left (does a Opens) (does a Empty) e))).stem) in
        rw (kept_opens s.names a s.tree.depth s.text.attributes tag_s stem_s e, kept_opens t.names a t.tree.depth t.text.attributes tag_t stem_t e, ← same_depth)
        (set_agree a z s.names t.names s.tree.depth like.shallow s.tree.depth tag_s tag_t like.long same (λ k m. like.names k (omega arith)) j (omega (arith, live_after)))

    quote_names : does a Opens ≡ false → does a Quote ≡ true → (j : ℕ) → j < live_names (next s) → get_or (next s).names j z ≡ get_or (next t).names j z
    quote_names e g j l =
        let tagged = tag_read (five g) in
        let most : pick (live_tag n) (attributed s.text.attributes a) 0 ≤ suc s.text.attributes =
        pick_most (live_tag n) _ _ (λ d. attributes_more s.text.attributes a (not_two a Quote Tag g (λ x. cc)) tagged.few) in
        let deep = depth_less s.tree (text_of s).tag.word (wrong_in z s.names a s.tree.depth s.text.attributes stem_s) a e like.shallow in
        let at : sum s.tree.depth s.text.attributes ≡ s.tree.depth + s.text.attributes = plain_sum s.tree.depth s.text.attributes (omega (arith, like.shallow, tagged.few)) in
        let at' : sum t.tree.depth t.text.attributes ≡ s.tree.depth + s.text.attributes = (λ i. sum (sym same_depth i) (sym tagged.attributes i)) ∙ at in
        rw (kept_quote s.names a s.tree.depth s.text.attributes tag_s stem_s e g, kept_quote t.names a t.tree.depth t.text.attributes tag_t stem_t e g, at, at')
        (set_agree a z s.names t.names s.tree.depth like.shallow (s.tree.depth + s.text.attributes) stem_s stem_t like.long
        (stem_read (in_left (does a Quote) (does a Closes) g)) (all_names g) j (omega (arith, live_after)))

    other_names : does a Opens ≡ false → does a Quote ≡ false → (j : ℕ) → j < live_names (next s) → get_or (next s).names j z ≡ get_or (next t).names j z
    other_names e g j l =
        let deep = depth_less s.tree (text_of s).tag.word (wrong_in z s.names a s.tree.depth s.text.attributes stem_s) a e like.shallow in
        let most : pick (live_tag n) (attributed s.text.attributes a) 0 ≤ pick (live_tag s.text.state) s.text.attributes 0 =
        pick_most (live_tag n) _ _ (λ d. by d (does a Tag) refl) in
        ap (λ (l : List (List ℕ)). get_or l j z) (kept_other s.names a s.tree.depth s.text.attributes tag_s stem_s e g)
        ∙ like.names j (omega (arith, live_after))
        ∙ sym (ap (λ (l : List (List ℕ)). get_or l j z) (kept_other t.names a t.tree.depth t.text.attributes tag_t stem_t e g))
      where
        by : live_tag n ≡ true → (x : Bool) → does a Tag ≡ x → attributed s.text.attributes a ≤ pick (live_tag s.text.state) s.text.attributes 0
        by d true o = rw (attributes_one s.text.attributes a o) (omega arith)
        by d false o = rw (attributes_other s.text.attributes a o g, pick_taken (live_tag s.text.state) s.text.attributes (or_right _ _ (f.sets_tag d) o)) (omega arith)

    same_names : (j : ℕ) → j < live_names (next s) → get_or (next s).names j z ≡ get_or (next t).names j z
    same_names = by (does a Opens) (does a Quote) refl refl
      where
        by : (x y : Bool) → does a Opens ≡ x → does a Quote ≡ y → (j : ℕ) → j < live_names (next s) → get_or (next s).names j z ≡ get_or (next t).names j z
        by true y e g = opens_names e
        by false true e g = quote_names e g
        by false false e g = other_names e g

    stays_tagged : live_tag n ≡ true → Tagged (next s) (next t)
    stays_tagged d = record {
      tag = text_tag d;
      stem = pick_by (does a Tag) (λ o. refl) (λ o. (tag_set d o).stem);
      attributes = text_attributes d;
      few = text_few d;
      point = text_point d;
    }

    stays_stem : live_name n ≡ true → (next s).name ≡ (next t).name
    stays_stem d = stem_set (f.sets_name d)

    pub stays : Like z (next s) (next t)
    unfolding texted
    stays = record {
      state = refl;
      said = text_said;
      wrong = text_wrong;
      tree = same_tree;
      rune = ap (λ (r : ℕ). rune_on r (rune_class b)) like.rune;
      long = kept_long s.names a s.tree.depth s.text.attributes tag_s stem_s ∙ like.long ∙ sym (kept_long t.names a t.tree.depth t.text.attributes tag_t stem_t);
      tagged = stays_tagged;
      name = text_name;
      stem = stays_stem;
      value = text_value;
      refer = text_refer;
      shallow = still_shallow;
      names = same_names;
    }

-- ---- a byte, and bytes

pub like_step : (z : List ℕ) (x : Fed) (s t : Abs) → Like z s t → (step z x s).tree.wrong ≡ false → Like z (step z x s) (step z x t)
unfolding step moved
like_step z (fed b st) s t like h =
    let m : ℕ = move_of s.text.state (class_of b) in
    subst (λ (k : ℕ). Like z (moved z m b st s) (moved z (move_of k (class_of b)) b st t)) like.state
    (stays z b (class_of b) (action_of (m / 64)) (m % 64) st s t like (facts s.text.state (class_of b)) h)
