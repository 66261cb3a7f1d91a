-- The file that is written, read along with the one that it was written from. Assumes nothing.
use Prim.Native.Nat.{ℕ, zero, suc, ◌+◌, ◌-◌, ◌/◌, ◌%◌, ◌≤◌, ◌<◌}
use native.Mathlib.Omega.{arith}
use mathlib.Core.Bool.{Bool, true, false, not, false≢true, true≢false}
use mathlib.Core.List.{List, [], ◌∷◌, ◌++◌, append_assoc, append-nil}
use mathlib.Core.Path.{◌≡◌, refl, sym, ap, subst, ◌∙◌}
use borrow.Author.Tests.{lt-ltb, ltb-true, le-ltb, le-leb, ne_eqb, eqb-true, not-true}
use lib.Dec.{eqb, ltb, leb}
use lib.IntN.{ℤ}
use lib.ListN.{length, take, drop, get_or, set, length-drop}
use lib.Seq.{get_or-drop, take-suc, get_or-set_other}
use Rattle.gliftext.specs.Pick.{pick, both, either, more, sum, most}
use Rattle.gliftext.specs.Table.{classes, class_of, is_name, move_of}
use Rattle.gliftext.specs.Text.{declared, texted, said}
use Rattle.gliftext.specs.Utf8.{runes, rune_class, rune_table, rune_on}
use Rattle.gliftext.specs.declared.text.Text.{Text}
use Rattle.gliftext.specs.declared.text.Declaration.{Declaration}
use Rattle.gliftext.specs.declared.text.Declaration.TheVariants.{Wrong}
use Rattle.gliftext.specs.declared.text.Point.{Point}
use Rattle.glif.specs.Tree.{on_path}
use Rattle.glif.specs.Outline.{summed, begun, ended, point_met, contour_met}
use Rattle.glif.specs.declared.tree.Tree.{Tree}
use Rattle.glif.specs.declared.outline.Sum.{Sum}
use Rattle.glifwrite.specs.Puts.{Putting}
use Rattle.glifwrite.specs.Contours.{is_on, end_at, start_of}
use Rattle.glifwrite.specs.Writes.{GivenRows, given}
use Rattle.glifwrite.specs.Outside.{Part, own, contour, put_parts, Track, track, track_as, track_on, track_to}
use Rattle.gliftext.proofs.Picks.{plain_more, both_true, in_left, in_right, or_right, or_left, or-false}
use Rattle.glifwrite.specs.Texts.{put_text, contour_text, Small, pieces_text}
use Rattle.glifwrite.proofs.Texts.{text_append, range_text, contour_text_lem}
use Rattle.glif.proofs.Stems.{Abs, Fed, fed, no_fed, fed_of, fed_length, fed_at_lem, fed_drop, fed_cut, kept_in, point_in, moved, step, steps, steps_append}
use Rattle.glif.proofs.Stems.{one_step, name_at}
use Rattle.gliftext.proofs.Live.{declares, live_tag, live_name, live_value, live_refer, in_end, Facts}
use Rattle.glif.proofs.Like.{live_names, Like, like_step, tag_word}
use Rattle.glifs.proofs.Point.{in_contour, Ready, Kept, standing, less_read}
use Rattle.glifs.proofs.Contour.{contour_sealed, placed, full_to, on_to, full_round, Sound, full_few, sum_to, contour_read}
use Rattle.glif.proofs.Ways.{Went, down_on, down, aside, up, still, Way, opening, closing, outer, inner, Quiet, quiet_sum, met_same, summed_by, contour_on}
use Rattle.glif.proofs.Ways.{point_off, left_open, left_closed, tags_none, met_none}
use Rattle.glifs.proofs.Track.{act, to, word_after, state_is, Fine, tag_on, at, fed_at, at_next, names_at, Good, good_nil, good_own, good_contour}
use Rattle.glifs.proofs.Track.{Tracked, next_is, facts_are, went_is, way_is, quiet_is, goes, opens_not, opens_not', closes_not, closes_not'}
use Rattle.glifs.proofs.Track.{opens_now, closes_now, tracked_next, tracked_start}
use Rattle.glifs.proofs.Flags.{Flags, fine_at}
use Rattle.gliftext.specs.Actions.{does, action_of}
use Rattle.gliftext.proofs.Doing.{does_true, does_false}
use Rattle.gliftext.specs.declared.action.Action.{Action}
use Rattle.gliftext.specs.declared.action.Action.TheVariants.{Quote, Opens, Empty, Closes, Said, Declared, Declares, Target}

-- ---- pieces as texts

-- and as they are read
abbrev pub piece_fed : List ℕ → GivenRows → Part → List Fed
piece_fed bs g (own from end) = take (end - from) (drop from (fed_of bs))
piece_fed bs (given ends xs ys fs) (contour k) = fed_of (contour_text xs ys fs (start_of ends k) (end_at ends k) (end_at ends k - start_of ends k))

unfoldable pub pieces_fed : List ℕ → GivenRows → List Part → List Fed
pieces_fed bs g [] = []
pieces_fed bs g (p ∷ ps) = piece_fed bs g p ++ pieces_fed bs g ps

own_fed : (bs : List ℕ) (from end : ℕ) (v : List ℕ) → from < end → end ≤ length bs → is_name (get_or bs (end - 1) 0) ≡ false →
    fed_of (take (end - from) (drop from bs) ++ v) ≡ take (end - from) (drop from (fed_of bs)) ++ fed_of v
own_fed bs from end v h k e =
    let m : ℕ = end - 1 - from in
    let many : end - from ≡ suc (end - 1 - from) = omega arith in
    let last : from + (end - 1 - from) ≡ end - 1 = omega arith in
    let room : end - 1 - from < length (drop from bs) = omega (arith, length-drop from bs) in
    let byte : is_name (get_or (drop from bs) (end - 1 - from) 0) ≡ false = rw (get_or-drop from bs (end - 1 - from) 0, last) e in
    rw (many, fed_drop bs from) (fed_cut (drop from bs) (end - 1 - from) v room byte)

module _ (bs ends : List ℕ) (xs ys : List ℤ) (fs : List ℕ) where
  abbrev g : GivenRows
  g = given ends xs ys fs

  pub good_fed : {ps : List Part} → Good bs ps → (v : List ℕ) → fed_of (pieces_text bs g ps ++ v) ≡ pieces_fed bs g ps ++ fed_of v
  unfolding pieces_text pieces_fed
  good_fed good_nil v = refl
  good_fed (good_own {from} {end} {ps} a b c more) v =
      ap fed_of (append_assoc (take (end - from) (drop from bs)) (pieces_text bs g ps) v)
      ∙ own_fed bs from end (pieces_text bs g ps ++ v) a b c
      ∙ ap (λ (l : List Fed). take (end - from) (drop from (fed_of bs)) ++ l) (good_fed more v)
      ∙ sym (append_assoc (take (end - from) (drop from (fed_of bs))) (pieces_fed bs g ps) (fed_of v))
  good_fed (good_contour {k} {ps} more) v =
      let text = contour_text xs ys fs (start_of ends k) (end_at ends k) (end_at ends k - start_of ends k) in
      ap fed_of (append_assoc text (pieces_text bs g ps) v)
      ∙ (contour_sealed xs ys fs (start_of ends k) (end_at ends k) (end_at ends k - start_of ends k)).before (pieces_text bs g ps ++ v)
      ∙ ap (λ (l : List Fed). fed_of text ++ l) (good_fed more v)
      ∙ sym (append_assoc (fed_of text) (pieces_fed bs g ps) (fed_of v))

  pub good_put : {ps : List Part} → Good bs ps → length bs ≤ most → Small xs → Small ys → ((k : ℕ) → end_at ends k ≤ 65536) → ((k : ℕ) → start_of ends k ≤ 65536) →
      (q : Putting) → put_parts bs g ps q ≡ put_text (pieces_text bs g ps) q
  unfolding pieces_text put_parts put_text
  good_put good_nil few sx sy short short' q = refl
  good_put (good_own {from} {end} {ps} a b c more) few sx sy short short' q =
      ap (put_parts bs g ps) (range_text bs from (end - from) q (omega arith) (omega arith))
      ∙ good_put more few sx sy short short' (put_text (take (end - from) (drop from bs)) q)
      ∙ sym (text_append (take (end - from) (drop from bs)) (pieces_text bs g ps) q)
  good_put (good_contour {k} {ps} more) few sx sy short short' q =
      let text = contour_text xs ys fs (start_of ends k) (end_at ends k) (end_at ends k - start_of ends k) in
      ap (put_parts bs g ps) (contour_text_lem xs ys fs (start_of ends k) (end_at ends k) (end_at ends k - start_of ends k) q sx sy (omega (arith, short k, short' k)))
      ∙ good_put more few sx sy short short' (put_text text q)
      ∙ sym (text_append text (pieces_text bs g ps) q)

  fed_append : (ps qs : List Part) → pieces_fed bs g (ps ++ qs) ≡ pieces_fed bs g ps ++ pieces_fed bs g qs
  unfolding pieces_fed
  fed_append [] qs = refl
  fed_append (p ∷ ps) qs = ap (λ (l : List Fed). piece_fed bs g p ++ l) (fed_append ps qs) ∙ sym (append_assoc (piece_fed bs g p) (pieces_fed bs g ps) (pieces_fed bs g qs))

  -- the scratch row with the points of the first k contours
  unfoldable pub row_to : List (List ℕ) → ℕ → List (List ℕ)
  row_to ps zero = ps
  row_to ps (suc k) = placed xs ys fs (start_of ends k) (end_at ends k - start_of ends k) (row_to ps k)

-- ---- bytes of markup are characters by themselves

unfoldable solo_fine : List ℕ → List ℕ → Bool
solo_fine [] rs = true
solo_fine (c ∷ cs) [] = true
solo_fine (c ∷ cs) (r ∷ rs) = both (pick (either (eqb c 2) (eqb c 3)) (eqb r 0) true) (solo_fine cs rs)

solo_table : solo_fine classes runes ≡ true
unfolding solo_fine classes runes pick
solo_table = refl

solo_at : (cs rs : List ℕ) (b : ℕ) → length cs ≡ length rs → solo_fine cs rs ≡ true → either (eqb (get_or cs b 0) 2) (eqb (get_or cs b 0) 3) ≡ true → eqb (get_or rs b 0) 0 ≡ true
unfolding solo_fine pick
solo_at [] rs b l e h = absurd (false≢true h)
solo_at (c ∷ cs) [] b l e h = absurd (omega arith)
solo_at (c ∷ cs) (r ∷ rs) zero l e h = subst (λ (t : Bool). pick t (eqb r 0) true ≡ true) h (both_true _ (solo_fine cs rs) e).0
solo_at (c ∷ cs) (r ∷ rs) (suc b) l e h = solo_at cs rs b (omega arith) (both_true (pick (either (eqb c 2) (eqb c 3)) (eqb r 0) true) (solo_fine cs rs) e).1 h

same_long : length classes ≡ length runes
unfolding classes runes
same_long = refl

solo : (b : ℕ) → either (eqb (class_of b) 2) (eqb (class_of b) 3) ≡ true → rune_class b ≡ 0
unfolding class_of rune_class
solo b h = eqb-true (get_or runes b 0) 0 (solo_at classes runes b same_long solo_table h)

rune_zero : (r : ℕ) → eqb (rune_on r 0) 10 ≡ false → rune_on r 0 ≡ 0
unfolding rune_on rune_table pick
rune_zero zero h = refl
rune_zero (suc zero) h = absurd (true≢false h)
rune_zero (suc (suc zero)) h = absurd (true≢false h)
rune_zero (suc (suc (suc zero))) h = absurd (true≢false h)
rune_zero (suc (suc (suc (suc zero)))) h = absurd (true≢false h)
rune_zero (suc (suc (suc (suc (suc zero))))) h = absurd (true≢false h)
rune_zero (suc (suc (suc (suc (suc (suc zero)))))) h = absurd (true≢false h)
rune_zero (suc (suc (suc (suc (suc (suc (suc zero))))))) h = absurd (true≢false h)
rune_zero (suc (suc (suc (suc (suc (suc (suc (suc zero)))))))) h = absurd (true≢false h)
rune_zero (suc (suc (suc (suc (suc (suc (suc (suc (suc zero))))))))) h = absurd (true≢false h)
rune_zero (suc (suc (suc (suc (suc (suc (suc (suc (suc (suc zero)))))))))) h = absurd (true≢false h)
rune_zero (suc (suc (suc (suc (suc (suc (suc (suc (suc (suc (suc r))))))))))) h =
    absurd (true≢false (rw (le-ltb (suc (suc (suc (suc (suc (suc (suc (suc (suc (suc (suc r))))))))))) 11 (omega arith)) at h))

-- ---- the file that is written, read as far as the other

-- how many points entered before contour c
unfoldable pub full_at : List ℕ → List ℕ → ℕ → ℕ
full_at ends fs zero = 0
full_at ends fs (suc c) = full_at ends fs c + full_round fs (start_of ends c) (end_at ends c)

-- more than the ends can tell
abbrev pub too_far : List ℕ → List ℕ → ℕ → Bool
too_far ends fs c = ltb 65536 (full_at ends fs c)

-- after c contours, so many of its points
abbrev pub sum_in : List ℕ → List ℕ → ℕ → ℕ → Sum
sum_in ends fs c k = sum_to fs c (full_at ends fs c) (start_of ends c) (end_at ends c) (too_far ends fs c) k

pub record Counted (ends fs : List ℕ) (k : ℕ) (s : Sum) : Type 0 where
  pub contours : s.contours ≡ k
  pub points : s.points ≡ start_of ends k
  pub full : s.full ≡ full_at ends fs k
  pub wrong : s.wrong ≡ false
  pub cubic : s.cubic ≡ false
  pub far : s.far ≡ ltb 65536 (full_at ends fs k)
  pub bare : s.bare ≡ false

abbrev pub run_of : List ℕ → GivenRows → Abs → List Part → Abs
run_of bs g w₀ ps = steps (name_at bs 0) (pieces_fed bs g ps) w₀

-- the bytes from one place to another, as they are read
abbrev pub part : List ℕ → ℕ → ℕ → List Fed
part bs from i = take (i - from) (drop from (fed_of bs))

-- outside of contours
pub record Outer (bs ends : List ℕ) (xs ys : List ℤ) (fs : List ℕ) (w₀ : Abs) (i from k : ℕ) (ps : List Part) : Type 0 where
  pub like : Like (name_at bs 0) (at bs i) (steps (name_at bs 0) (part bs from i) (run_of bs (given ends xs ys fs) w₀ ps))
  pub counted : Counted ends fs k (steps (name_at bs 0) (part bs from i) (run_of bs (given ends xs ys fs) w₀ ps)).sum
  pub row : (steps (name_at bs 0) (part bs from i) (run_of bs (given ends xs ys fs) w₀ ps)).points ≡ row_to bs ends xs ys fs w₀.points k

-- in the end tag of a contour
pub record Ending (bs : List ℕ) (i tag : ℕ) (w : Abs) : Type 0 where
  pub like : Like (name_at bs 0) (at bs i) (steps (name_at bs 0) (part bs tag i) w)
  pub sum : (steps (name_at bs 0) (part bs tag i) w).sum ≡ w.sum
  pub row : (steps (name_at bs 0) (part bs tag i) w).points ≡ w.points

-- inside of a contour, whose points are written
pub record Inner (bs ends : List ℕ) (xs ys : List ℤ) (fs : List ℕ) (i tag k : ℕ) (row₀ : List (List ℕ)) (w : Abs) : Type 0 where
  pub ready : Ready w
  pub said : (at bs i).text.said ≡ w.text.said
  pub long : length (at bs i).names ≡ length w.names
  pub below : (j : ℕ) → j < 3 → get_or (at bs i).names j (name_at bs 0) ≡ get_or w.names j (name_at bs 0)
  pub past : ltb 11 (at bs i).text.state ≡ true
  pub c : ℕ
  pub this : k ≡ suc c
  pub in_ends : c < length ends
  pub sum : w.sum ≡ sum_in ends fs c (end_at ends c - start_of ends c)
  pub row : w.points ≡ row_to bs ends xs ys fs row₀ k
  pub leaves : either (eqb (at bs i).text.state 15) (in_end (at bs i).text.state) ≡ true → (at bs i).tree.depth ≡ 3 → Ending bs i tag w

abbrev pub outer_at : (bs ends : List ℕ) (xs ys : List ℤ) (fs : List ℕ) → Abs → ℕ → Track → Type 0
outer_at bs ends xs ys fs w₀ i (track from tag k ps) = Outer bs ends xs ys fs w₀ i from k ps

abbrev pub inner_at : (bs ends : List ℕ) (xs ys : List ℤ) (fs : List ℕ) → Abs → ℕ → Track → Type 0
inner_at bs ends xs ys fs w₀ i (track from tag k ps) = Inner bs ends xs ys fs i tag k w₀.points (run_of bs (given ends xs ys fs) w₀ ps)

pub record Stage (bs ends : List ℕ) (xs ys : List ℤ) (fs : List ℕ) (w₀ : Abs) (i : ℕ) : Type 0 where
  pub outside : (at bs i).tree.level ≤ 2 → outer_at bs ends xs ys fs w₀ i (track_to bs i)
  pub inside : 2 < (at bs i).tree.level → inner_at bs ends xs ys fs w₀ i (track_to bs i)

abbrev pub count_in : Track → ℕ
count_in (track from tag k ps) = k

-- one byte more of a part
part_next : (bs : List ℕ) (from i : ℕ) → from ≤ i → i < length bs → part bs from (suc i) ≡ part bs from i ++ (fed_at bs i ∷ [])
part_next bs from i h k =
    let one : suc i - from ≡ suc (i - from) = omega arith in
    let place : from + (i - from) ≡ i = omega arith in
    let room : i - from < length (drop from (fed_of bs)) = omega (arith, length-drop from (fed_of bs), fed_length bs) in
    rw one (take-suc (drop from (fed_of bs)) (i - from) no_fed room
    ∙ ap (λ (x : Fed). take (i - from) (drop from (fed_of bs)) ++ (x ∷ [])) (get_or-drop from (fed_of bs) (i - from) no_fed ∙ ap (λ (j : ℕ). get_or (fed_of bs) j no_fed) place ∙ fed_at_lem bs i k))

pub part_run : (z bs : List ℕ) (from i : ℕ) (w : Abs) → from ≤ i → i < length bs → steps z (part bs from (suc i)) w ≡ step z (fed_at bs i) (steps z (part bs from i) w)
part_run z bs from i w h k =
    ap (λ (l : List Fed). steps z l w) (part_next bs from i h k) ∙ steps_append z (part bs from i) (fed_at bs i ∷ []) w ∙ one_step z (fed_at bs i) (steps z (part bs from i) w)

part_none : (bs : List ℕ) (i : ℕ) → part bs i i ≡ []
part_none bs i = let none : i - i ≡ 0 = omega arith in rw none

-- ---- another reader that is alike, at the same byte

module _ (z : List ℕ) (b : ℕ) (st : List ℕ) (f v : Abs) (like : Like z f v) where
  abbrev m : ℕ
  m = move_of f.text.state (class_of b)

  abbrev word_v : ℕ
  word_v = (texted v.text (m % 64) (action_of (m / 64)) b 0).tag.word

  abbrev point_v : Point
  point_v = (texted v.text (m % 64) (action_of (m / 64)) b 0).point

  step_like : step z (fed b st) v ≡ moved z m b st v
  unfolding step
  step_like = ap (λ (k : ℕ). moved z (move_of k (class_of b)) b st v) (sym like.state)

  sum_like : (step z (fed b st) v).sum ≡ summed v.sum f.tree (act f b) word_v point_v
  unfolding moved
  sum_like = ap (λ (x : Abs). x.sum) step_like ∙ ap (λ (x : Tree). summed v.sum x (act f b) word_v point_v) (sym like.tree)

  row_like : (step z (fed b st) v).points ≡ point_in v.points (point_met f.tree (act f b) word_v) v.sum point_v
  unfolding moved
  row_like = ap (λ (x : Abs). x.points) step_like ∙ ap (λ (x : Tree). point_in v.points (point_met x (act f b) word_v) v.sum point_v) (sym like.tree)

  word_like : either (does (act f b) Opens) (does (act f b) Empty) ≡ true → word_after f b ≡ word_v
  word_like = tag_word z b (class_of b) (act f b) (to f b) st f v like (Rattle.gliftext.proofs.Live.facts f.text.state (class_of b))

  row_none : point_met f.tree (act f b) word_v ≡ false → (step z (fed b st) v).points ≡ v.points
  unfolding point_in pick
  row_none e = row_like ∙ rw e

  quiet_like : Quiet f.tree (act f b) (word_after f b) → ((step z (fed b st) v).sum ≡ v.sum) × ((step z (fed b st) v).points ≡ v.points)
  quiet_like q =
      let q' = met_same f.tree (act f b) (word_after f b) word_v word_like q in
      (sum_like ∙ quiet_sum q' v.sum point_v, row_none q'.no_point_lem)

-- what is summed up when a contour has ended
pub start_next : (ends : List ℕ) (c : ℕ) → start_of ends (suc c) ≡ end_at ends c
unfolding start_of pick
start_next ends c =
    let one : suc c - 1 ≡ c = omega arith in
    rw (ne_eqb (suc c) 0 (λ e. omega arith), one)

pub start_first : (ends : List ℕ) → start_of ends 0 ≡ 0
unfolding start_of pick
start_first ends = refl

-- a first point that is a line stands after an on-curve last one
no_line : (first last : Bool) → both (both first last) (not last) ≡ false
unfolding pick
no_line true true = refl
no_line true false = refl
no_line false last = refl

last_enters : (t : Bool) (base n : ℕ) → base + n < most → pick t (more (base + n)) (base + n) ≡ base + pick t (suc n) n
unfolding pick
last_enters true base n h = plain_more (base + n) h ∙ omega arith
last_enters false base n h = refl

far_rises : (a b : ℕ) → either (ltb 65536 a) (ltb 65536 (a + b)) ≡ ltb 65536 (a + b)
unfolding pick
far_rises a b = by (ltb 65536 a) refl
  where
    by : (t : Bool) → ltb 65536 a ≡ t → pick t true (ltb 65536 (a + b)) ≡ ltb 65536 (a + b)
    by true e = sym (lt-ltb 65536 (a + b) (omega (arith, ltb-true 65536 a e)))
    by false e = refl

module _ (ends fs : List ℕ) (c m : ℕ) (many : end_at ends c - start_of ends c ≡ suc m) (last : start_of ends c + m ≡ end_at ends c - 1) where
  abbrev round_off : Bool
  round_off = both (not (is_on fs (start_of ends c))) (not (is_on fs (start_of ends c + m)))

  abbrev full_here : ℕ
  full_here = full_to fs (start_of ends c) (suc m)

  round_end : full_round fs (start_of ends c) (end_at ends c) ≡ pick round_off (suc full_here) full_here
  unfolding full_round
  round_end =
      λ i. pick (both (not (is_on fs (start_of ends c))) (not (is_on fs (sym last i)))) (suc (full_to fs (start_of ends c) (many i))) (full_to fs (start_of ends c) (many i))

  ended_by : full_at ends fs c ≤ 131072 → end_at ends c ≤ 65536 → c < most → on_to fs (start_of ends c) (end_at ends c - start_of ends c) ≡ true →
      Counted ends fs (suc c) (ended (sum_in ends fs c (suc m)))
  unfolding ended sum_to full_at pick
  ended_by few short low on =
      let all : suc (start_of ends c + m) ≡ end_at ends c = omega arith in
      let entered : pick round_off (more (full_at ends fs c + full_here)) (full_at ends fs c + full_here) ≡ full_at ends fs c + full_round fs (start_of ends c) (end_at ends c) =
      last_enters round_off (full_at ends fs c) full_here (omega (arith, full_few fs (start_of ends c) m)) ∙ ap (λ (v : ℕ). full_at ends fs c + v) (sym round_end) in
      record {
        contours = plain_more c low;
        points = all ∙ sym (start_next ends c);
        full = entered;
        wrong = rw last (no_line (is_on fs (start_of ends c)) (is_on fs (end_at ends c - 1)));
        cubic = refl;
        far = ap (λ (v : ℕ). either (too_far ends fs c) (ltb 65536 v)) entered ∙ far_rises (full_at ends fs c) (full_round fs (start_of ends c) (end_at ends c));
        bare = ap not (sym (ap (on_to fs (start_of ends c)) many) ∙ on);
      }

counted_ended : (ends fs : List ℕ) (c : ℕ) → Sound fs (start_of ends c) (end_at ends c) → full_at ends fs c ≤ 131072 → end_at ends c ≤ 65536 → c < most →
    Counted ends fs (suc c) (ended (sum_in ends fs c (end_at ends c - start_of ends c)))
counted_ended ends fs c sound few short low =
    let some = sound.some in
    let many : end_at ends c - start_of ends c ≡ suc (end_at ends c - start_of ends c - 1) = omega arith in
    subst (λ (k : ℕ). Counted ends fs (suc c) (ended (sum_in ends fs c k))) (sym many)
    (ended_by ends fs c (end_at ends c - start_of ends c - 1) many (omega arith) few short low sound.on)

-- never more than two a point
full_at_few : (ends fs : List ℕ) → ((k : ℕ) → k < length ends → Sound fs (start_of ends k) (end_at ends k)) → (c : ℕ) → c ≤ length ends →
    full_at ends fs c ≤ start_of ends c + start_of ends c
unfolding full_at full_round pick
full_at_few ends fs sound zero h = omega arith
full_at_few ends fs sound (suc c) h =
    let some = (sound c h).some in
    let many : end_at ends c - start_of ends c ≡ suc (end_at ends c - start_of ends c - 1) = omega arith in
    let here : full_to fs (start_of ends c) (end_at ends c - start_of ends c) ≤ suc (end_at ends c - start_of ends c - 1 + (end_at ends c - start_of ends c - 1)) =
    subst (λ (k : ℕ). full_to fs (start_of ends c) k ≤ suc (end_at ends c - start_of ends c - 1 + (end_at ends c - start_of ends c - 1))) (sym many)
    (full_few fs (start_of ends c) (end_at ends c - start_of ends c - 1)) in
    by (both (not (is_on fs (start_of ends c))) (not (is_on fs (end_at ends c - 1)))) (full_at_few ends fs sound c (omega arith)) here (start_next ends c) some
  where
    by : (t : Bool) → full_at ends fs c ≤ start_of ends c + start_of ends c →
        full_to fs (start_of ends c) (end_at ends c - start_of ends c) ≤ suc (end_at ends c - start_of ends c - 1 + (end_at ends c - start_of ends c - 1)) →
        start_of ends (suc c) ≡ end_at ends c → start_of ends c < end_at ends c →
        full_at ends fs c + pick t (suc (full_to fs (start_of ends c) (end_at ends c - start_of ends c))) (full_to fs (start_of ends c) (end_at ends c - start_of ends c))
        ≤ start_of ends (suc c) + start_of ends (suc c)
    by true a b e l = omega arith
    by false a b e l = omega arith

-- and when the next has begun
begun_counted : (ends fs : List ℕ) (k : ℕ) (s : Sum) → Counted ends fs k s → begun s ≡ sum_in ends fs k 0
unfolding begun sum_to
begun_counted ends fs k s c =
    λ i. record {
      contours = c.contours i;
      points = c.points i;
      full = c.full i;
      here = 0;
      on = false;
      lead = false;
      straight = false;
      off = false;
      wrong = c.wrong i;
      cubic = c.cubic i;
      far = c.far i;
      bare = c.bare i;
    }

row_more : (bs ends : List ℕ) (xs ys : List ℤ) (fs : List ℕ) (ps : List (List ℕ)) (c : ℕ) {k : ℕ} → k ≡ suc c →
    placed xs ys fs (start_of ends c) (end_at ends c - start_of ends c) (row_to bs ends xs ys fs ps c) ≡ row_to bs ends xs ys fs ps k
unfolding row_to
row_more bs ends xs ys fs ps c e = ap (row_to bs ends xs ys fs ps) (sym e)

-- content is no end tag
no_end_tag : either (eqb 12 15) (in_end 12) ≡ true → ⊥
unfolding pick
no_end_tag h = false≢true h

said_still : (d : Declaration) (a : Action) (name word : ℕ) → declares a ≡ false → said d a name word ≡ d
unfolding said pick
said_still d a name word h =
    let x = or-false (does a Said) (either (does a Declared) (either (does a Declares) (does a Target))) h in
    let y = or-false (does a Declared) (either (does a Declares) (does a Target)) x.1 in
    let w = or-false (does a Declares) (does a Target) y.1 in
    rw (y.0, w.0, w.1)

text_said : (t : Text) (state : ℕ) (action : Action) (b i : ℕ) → declares action ≡ false → (texted t state action b i).said ≡ t.said
unfolding texted
text_said t state action b i h = said_still t.said action _ _ h

-- names that are put lie above
sum_above : (x y : ℕ) → 3 ≤ x → 3 ≤ sum x y
unfolding sum pick
sum_above x y h = by (leb x (18446744073709551615 - y))
  where
    by : (t : Bool) → 3 ≤ pick t (x + y) 18446744073709551615
    by true = omega arith
    by false = omega arith

kept_below : (names : List (List ℕ)) (a : Action) (depth n : ℕ) (tag name z : List ℕ) (j : ℕ) → 3 ≤ depth → j < 3 → get_or (kept_in names a depth n tag name) j z ≡ get_or names j z
unfolding kept_in pick
kept_below names a depth n tag name z j deep h = by (does a Opens) (does a Quote)
  where
    by : (x y : Bool) → get_or (pick x (set names depth tag) (pick y (set names (sum depth n) name) names)) j z ≡ get_or names j z
    by true y = get_or-set_other names depth j tag z (λ e. omega arith)
    by false true = get_or-set_other names (sum depth n) j name z (λ e. omega (arith, sum_above depth n deep))
    by false false = refl

-- at a `<` nothing is remembered that will be looked at
at_less : (live_tag 15 ≡ false) × (live_name 15 ≡ false) × (live_value 15 ≡ false) × (live_refer 15 ≡ false)
unfolding pick
at_less = (refl, refl, refl, refl)

drops : (t : Bool) (x : ℕ) → t ≡ false → pick t x 0 ≡ 0
unfolding pick
drops t x e = rw e

no_steps : (z : List ℕ) (w : Abs) → steps z [] w ≡ w
unfolding steps
no_steps z w = refl

-- ---- one byte, outside of contours

module _ (bs ends : List ℕ) (xs ys : List ℤ) (fs : List ℕ) (few : length bs ≤ most) (w₀ : Abs) (i : ℕ) (room : i < length bs) (t : Tracked bs i) (fine : Fine (at bs (suc i))) where
  abbrev z : List ℕ
  z = name_at bs 0

  abbrev f : Abs
  f = at bs i

  abbrev f' : Abs
  f' = at bs (suc i)

  abbrev b : ℕ
  b = get_or bs i 0

  abbrev a : Action
  a = act f b

  abbrev word : ℕ
  word = word_after f b

  step_fine : (step z (fed_at bs i) f).tree.wrong ≡ false
  step_fine = sym (ap (λ (v : Abs). v.tree.wrong) (at_next bs i)) ∙ fine.tree

  like_next : {v : Abs} → Like z f v → Like z f' (step z (fed_at bs i) v)
  like_next {v} like = subst (λ (u : Abs). Like z u (step z (fed_at bs i) v)) (sym (at_next bs i)) (like_step z (fed_at bs i) f v like step_fine)

  stays_outer : f.tree.level ≤ 2 → f'.tree.level ≤ 2 → Outer bs ends xs ys fs w₀ i t.from t.k t.ps → Outer bs ends xs ys fs w₀ (suc i) t.from t.k t.ps
  stays_outer l l' o =
      let w = run_of bs (given ends xs ys fs) w₀ t.ps in
      let v = steps z (part bs t.from i) w in
      let run : step z (fed_at bs i) v ≡ steps z (part bs t.from (suc i)) w = sym (part_run z bs t.from i w t.in_from room) in
      let quiet = quiet_like z b (name_at bs i) f v o.like (quiet_is bs i room few t fine l l') in
      record {
        like = subst (Like z f') run (like_next o.like);
        counted = subst (Counted ends fs t.k) (sym quiet.0 ∙ ap (λ (u : Abs). u.sum) run) o.counted;
        row = ap (λ (u : Abs). u.points) (sym run) ∙ quiet.1 ∙ o.row;
      }

  -- ---- a contour opens

  state_next : f'.text.state ≡ to f b
  state_next = ap (λ (v : Abs). v.text.state) (at_next bs i) ∙ state_is z b (name_at bs i) f

  facts_here : Facts f.text.state (class_of b) a (to f b)
  facts_here = facts_are bs i room few t fine

  rune_next : either (eqb (class_of b) 2) (eqb (class_of b) 3) ≡ true → f'.rune ≡ 0
  rune_next h =
      let is : f'.rune ≡ rune_on f.rune 0 = ap (λ (v : Abs). v.rune) (next_is bs i room few t fine) ∙ ap (rune_on f.rune) (solo b h) in
      is ∙ rune_zero f.rune (sym (ap (λ (r : ℕ). eqb r 10) is) ∙ fine.rune)

  in_contour_lem : f'.tree.level ≡ 3 → f'.tree.depth ≡ 3 → f'.tree ≡ in_contour
  in_contour_lem l d =
      let t' = tracked_next bs i room few t fine in
      let root = t'.rooted (omega arith) in
      let outline = t'.met (omega arith) in
      λ j. record { depth = d j; level = l j; root = root j; outline = outline j; wrong = fine.tree j }

  module _ (sx : Small xs) (sy : Small ys) (sound : Sound fs (start_of ends t.k) (end_at ends t.k)) (full : full_at ends fs t.k ≤ 131072) (short : end_at ends t.k ≤ 65536) (in_ends : t.k < length ends)
      (e : does a Opens ≡ true) (on : on_path f.tree word ≡ true) (l : f.tree.level ≡ 2) (l' : f'.tree.level ≡ 3) (d' : f'.tree.depth ≡ 3)
      (o : Outer bs ends xs ys fs w₀ i t.from t.k t.ps) where
    abbrev w : Abs
    w = run_of bs (given ends xs ys fs) w₀ t.ps

    abbrev v : Abs
    v = steps z (part bs t.from i) w

    abbrev v' : Abs
    v' = step z (fed_at bs i) v

    like' : Like z f' v'
    like' = like_next o.like

    other : (y : Action) → (Opens ≡ y → ⊥) → does a y ≡ false
    other y h = does_false a y (λ g. h (sym (does_true a Opens e) ∙ g))

    abbrev wv : ℕ
    wv = word_v z b (name_at bs i) f v o.like

    on_v : on_path f.tree wv ≡ true
    on_v = sym (ap (on_path f.tree) (word_like z b (name_at bs i) f v o.like (in_left (does a Opens) (does a Empty) e))) ∙ on

    no_point_lem : point_met f.tree a wv ≡ false
    no_point_lem = point_off f.tree a wv (λ g. omega arith)

    sum_opens : v'.sum ≡ sum_in ends fs t.k 0
    unfolding pick
    sum_opens =
        sum_like z b (name_at bs i) f v o.like
        ∙ summed_by v.sum f.tree a wv (point_v z b (name_at bs i) f v o.like) (contour_on f.tree a wv (tag_on a e) l on_v) no_point_lem
        (left_open f.tree a wv (other Closes (λ g. cc)) (other Empty (λ g. cc)))
        ∙ begun_counted ends fs t.k v.sum o.counted

    row_opens : v'.points ≡ row_to bs ends xs ys fs w₀.points t.k
    row_opens = row_none z b (name_at bs i) f v o.like no_point_lem ∙ o.row

    twelve : f'.text.state ≡ 12
    twelve = state_next ∙ eqb-true (to f b) 12 (facts_here.tags_end (in_left (does a Opens) _ e))

    ready : Ready v'
    ready = record {
      state = sym like'.state ∙ twelve;
      clean = sym like'.wrong ∙ fine.text;
      known = sym (ap (λ (k : Declaration). declared k Wrong) like'.said) ∙ fine.known;
      tree = sym like'.tree ∙ in_contour_lem l' d';
      rune = sym like'.rune ∙ rune_next (in_right (eqb (class_of b) 2) (eqb (class_of b) 3) (facts_here.opens_gt e));
      room = omega (arith, like'.long, names_at bs (suc i));
    }

    abbrev text : List ℕ
    text = contour_text xs ys fs (start_of ends t.k) (end_at ends t.k) (end_at ends t.k - start_of ends t.k)

    kept : Kept z v' (steps z (fed_of text) v') (sum_in ends fs t.k (end_at ends t.k - start_of ends t.k))
        (placed xs ys fs (start_of ends t.k) (end_at ends t.k - start_of ends t.k) v'.points)
    unfolding sum_to
    kept =
        contour_read z xs ys fs sx sy t.k (full_at ends fs t.k) (start_of ends t.k) (end_at ends t.k) (too_far ends fs t.k) full short
        (end_at ends t.k - start_of ends t.k) (omega (arith, sound.some)) v' ready sum_opens

    abbrev ps' : List Part
    ps' = t.ps ++ own t.from (more i) ∷ contour t.k ∷ []

    run_opens : run_of bs (given ends xs ys fs) w₀ ps' ≡ steps z (fed_of text) v'
    unfolding pieces_fed
    run_opens =
        let one : more i ≡ suc i = plain_more i (omega arith) in
        ap (λ (x : List Fed). steps z x w₀) (fed_append bs ends xs ys fs t.ps (own t.from (more i) ∷ contour t.k ∷ []))
        ∙ steps_append z (pieces_fed bs (given ends xs ys fs) t.ps) (part bs t.from (more i) ++ (fed_of text ++ [])) w₀
        ∙ steps_append z (part bs t.from (more i)) (fed_of text ++ []) w
        ∙ (λ j. steps z (append-nil (fed_of text) j) (steps z (part bs t.from (one j)) w))
        ∙ ap (steps z (fed_of text)) (part_run z bs t.from i w t.in_from room)

    opens_inner : (tag' : ℕ) → Inner bs ends xs ys fs (suc i) tag' (more t.k) w₀.points (run_of bs (given ends xs ys fs) w₀ ps')
    opens_inner tag' =
        let one : more t.k ≡ suc t.k = plain_more t.k (omega (arith, t.low)) in
        subst (λ (u : Abs). Inner bs ends xs ys fs (suc i) tag' (more t.k) w₀.points u) (sym run_opens)
        (record {
          ready = kept.ready;
          said = like'.said ∙ sym kept.said;
          long = like'.long ∙ sym kept.long;
          below = λ j h. like'.names j (omega arith) ∙ sym (kept.below j h);
          past = rw twelve refl;
          c = t.k;
          this = one;
          in_ends = in_ends;
          sum = kept.sum;
          row = kept.points ∙ ap (placed xs ys fs (start_of ends t.k) (end_at ends t.k - start_of ends t.k)) row_opens ∙ row_more bs ends xs ys fs w₀.points t.k one;
          leaves = λ g h. absurd (no_end_tag (ap (λ (s : ℕ). either (eqb s 15) (in_end s)) (sym twelve) ∙ g));
        })

  -- ---- a contour closes

  not_a : (x y : Action) → does a x ≡ true → (x ≡ y → ⊥) → does a y ≡ false
  not_a x y e h = does_false a y (λ g. h (sym (does_true a x e) ∙ g))

  tag_kept : {n : ℕ} → f'.text.state ≡ n → eqb n 15 ≡ false → (i' tag : ℕ) → pick (eqb f'.text.state 15) i' tag ≡ tag
  unfolding pick
  tag_kept e g i' tag = rw (e, g)

  module _ (w : Abs) (sound : (k : ℕ) → k < length ends → Sound fs (start_of ends k) (end_at ends k)) (short : (k : ℕ) → end_at ends k ≤ 65536)
      (n : Inner bs ends xs ys fs i t.tag t.k w₀.points w)
      (e : does a Closes ≡ true) (l : f.tree.level ≡ 3) (d : f.tree.depth ≡ 3) where
    ending : Ending bs i t.tag w
    ending = n.leaves (in_right (eqb f.text.state 15) (in_end f.text.state) (facts_here.closes_in e)) d

    abbrev u : Abs
    u = steps z (part bs t.tag i) w

    abbrev wu : ℕ
    wu = word_v z b (name_at bs i) f u ending.like

    none : (contour_met f.tree a wu ≡ false) × (point_met f.tree a wu ≡ false)
    none = met_none f.tree a wu (tags_none f.tree a wu (not_a Closes Opens e (λ g. cc)) (not_a Closes Empty e (λ g. cc)))

    sum_closes : (step z (fed_at bs i) u).sum ≡ ended (sum_in ends fs n.c (end_at ends n.c - start_of ends n.c))
    unfolding pick
    sum_closes =
        sum_like z b (name_at bs i) f u ending.like
        ∙ summed_by u.sum f.tree a wu (point_v z b (name_at bs i) f u ending.like) none.0 none.1 (left_closed f.tree a wu e l d)
        ∙ ap ended (ending.sum ∙ n.sum)

    run_closes : step z (fed_at bs i) u ≡ steps z (part bs t.tag (suc i)) w
    run_closes = sym (part_run z bs t.tag i w t.in_tag room)

    low : n.c < most
    low = omega (arith, t.low, n.this)

    few_here : full_at ends fs n.c ≤ 131072
    few_here = omega (arith, full_at_few ends fs sound n.c (omega (arith, n.in_ends)), (sound n.c n.in_ends).some, short n.c)

    closes_outer : {ps : List Part} → w ≡ run_of bs (given ends xs ys fs) w₀ ps → Outer bs ends xs ys fs w₀ (suc i) t.tag t.k ps
    closes_outer {ps} is =
        let run : step z (fed_at bs i) u ≡ steps z (part bs t.tag (suc i)) (run_of bs (given ends xs ys fs) w₀ ps) = run_closes ∙ ap (steps z (part bs t.tag (suc i))) is in
        record {
          like = subst (Like z f') run (like_next ending.like);
          counted = subst (λ (k : ℕ). Counted ends fs k (steps z (part bs t.tag (suc i)) (run_of bs (given ends xs ys fs) w₀ ps)).sum) (sym n.this)
              (subst (Counted ends fs (suc n.c)) (sym sum_closes ∙ ap (λ (v : Abs). v.sum) run) (counted_ended ends fs n.c (sound n.c n.in_ends) few_here (short n.c) low));
          row = ap (λ (v : Abs). v.points) (sym run) ∙ row_none z b (name_at bs i) f u ending.like none.1 ∙ ending.row ∙ n.row;
        }

  -- ---- inside of a contour

  dead : {A : Type 0} {n : ℕ} (live : ℕ → Bool) → f'.text.state ≡ n → live n ≡ false → live f'.text.state ≡ true → A
  dead live e h lives = absurd (true≢false (sym lives ∙ ap live e ∙ h))

  module _ (w : Abs) (n : Inner bs ends xs ys fs i t.tag t.k w₀.points w) (l : 2 < f.tree.level) (l' : 2 < f'.tree.level) where
    abbrev t' : Tracked bs (suc i)
    t' = tracked_next bs i room few t fine

    not_back : declares a ≡ false
    not_back = by (declares a) refl
      where
        by : (x : Bool) → declares a ≡ x → declares a ≡ false
        by true h = absurd (true≢false (sym n.past ∙ not-true _ (facts_here.no_return (in_left (declares a) _ h))))
        by false h = h

    said_next : f'.text.said ≡ w.text.said
    said_next = ap (λ (v : Abs). v.text.said) (next_is bs i room few t fine) ∙ text_said f.text (to f b) a b 0 not_back ∙ n.said

    deep : 3 ≤ f.tree.depth
    deep = omega (arith, t.fits)

    below_next : (j : ℕ) → j < 3 → get_or f'.names j z ≡ get_or w.names j z
    below_next j h =
        ap (λ (v : Abs). get_or v.names j z) (next_is bs i room few t fine)
        ∙ kept_below f.names a f.tree.depth f.text.attributes _ _ z j deep h
        ∙ n.below j h

    long_next : length f'.names ≡ length w.names
    long_next = names_at bs (suc i) ∙ sym (names_at bs i) ∙ n.long

    past_next : ltb 11 f'.text.state ≡ true
    past_next = by (ltb 11 (to f b)) refl
      where
        by : (x : Bool) → ltb 11 (to f b) ≡ x → ltb 11 f'.text.state ≡ true
        by true h = ap (ltb 11) state_next ∙ h
        by false h = absurd (true≢false (sym n.past ∙ not-true _ (facts_here.no_return (in_right (declares a) _ (ap not h)))))

    -- at the `<` of a tag
    fresh : eqb (to f b) 15 ≡ true → f'.tree.depth ≡ 3 → Ending bs (suc i) i w
    fresh e d' =
        let fifteen : f'.text.state ≡ 15 = state_next ∙ eqb-true (to f b) 15 e in
        let less = both_true _ _ (both_true _ _ (facts_here.less_from e)).1 in
        let class : class_of b ≡ 2 = eqb-true (class_of b) 2 less.0 in
        let solo-here : either (eqb (class_of b) 2) (eqb (class_of b) 3) ≡ true = in_left (eqb (class_of b) 2) (eqb (class_of b) 3) less.0 in
        let none : part bs i i ≡ [] = part_none bs i in
        let run : steps z (part bs i (suc i)) w ≡ standing 15 w =
        part_run z bs i i w (omega arith) room ∙ ap (λ (x : List Fed). step z (fed_at bs i) (steps z x w)) none ∙ ap (step z (fed_at bs i)) (no_steps z w) ∙ less_read z b (name_at bs i) w n.ready class (solo b solo-here) in
        let level : f'.tree.level ≡ 3 = omega (arith, t'.fits) in
        let like : Like z f' (standing 15 w) = record {
          state = fifteen;
          said = said_next;
          wrong = fine.text;
          tree = in_contour_lem level d';
          rune = rune_next solo-here;
          long = long_next;
          tagged = dead live_tag fifteen at_less.0;
          name = dead live_name fifteen at_less.1;
          stem = dead live_name fifteen at_less.1;
          value = dead live_value fifteen at_less.2;
          refer = dead live_refer fifteen at_less.3;
          shallow = omega arith;
          names = λ j h. below_next j (below_all fifteen d' h);
        } in
        record {
          like = subst (Like z f') (sym run) like;
          sum = ap (λ (v : Abs). v.sum) run;
          row = ap (λ (v : Abs). v.points) run;
        }
      where
        below_all : f'.text.state ≡ 15 → f'.tree.depth ≡ 3 → {j : ℕ} → j < live_names f' → j < 3
        below_all e d {j} h = omega (arith, drops (live_tag f'.text.state) f'.text.attributes (ap live_tag e ∙ at_less.0))

    -- further in an end tag
    further : eqb (to f b) 15 ≡ false → in_end (to f b) ≡ true → f'.tree.depth ≡ 3 → Ending bs (suc i) t.tag w
    further e h d' =
        let tags : either (does a Opens) (either (does a Empty) (does a Closes)) ≡ false = by (either (does a Opens) (either (does a Empty) (does a Closes))) refl in
        let not-8 = (or-false _ _ tags).0 in
        let not-9 = (or-false _ _ (or-false _ _ tags).1).0 in
        let not-10 = (or-false _ _ (or-false _ _ tags).1).1 in
        let before : either (eqb f.text.state 15) (in_end f.text.state) ≡ true = was (ltb 11 f.text.state) refl in
        let depth : f.tree.depth ≡ 3 = still_deep not-8 not-9 not-10 (went_is bs i room few t fine) in
        let old = n.leaves before depth in
        let none = met_none f.tree a word (tags_none f.tree a word not-8 not-9) in
        let quiet = quiet_like z b (name_at bs i) f (steps z (part bs t.tag i) w) old.like
        (record { no_contour = none.0; no_point_lem = none.1; no_end = left_open f.tree a word not-10 not-9 }) in
        let run = part_run z bs t.tag i w t.in_tag room in
        record {
          like = subst (Like z f') (sym run) (like_next old.like);
          sum = ap (λ (v : Abs). v.sum) run ∙ quiet.0 ∙ old.sum;
          row = ap (λ (v : Abs). v.points) run ∙ quiet.1 ∙ old.row;
        }
      where
        by : (x : Bool) → either (does a Opens) (either (does a Empty) (does a Closes)) ≡ x → either (does a Opens) (either (does a Empty) (does a Closes)) ≡ false
        by true g = absurd (no_end_tag (in_right (eqb 12 15) (in_end 12) (subst (λ (s : ℕ). in_end s ≡ true) (eqb-true (to f b) 12 (facts_here.tags_end g)) h)))
        by false g = g

        was : (x : Bool) → ltb 11 f.text.state ≡ x → either (eqb f.text.state 15) (in_end f.text.state) ≡ true
        was true g = or_left _ _ (facts_here.end_from_lem h) (ap not g)
        was false g = absurd (true≢false (sym n.past ∙ g))

        still_deep : does a Opens ≡ false → does a Empty ≡ false → does a Closes ≡ false → Went f.tree f'.tree a (on_path f.tree word) → f.tree.depth ≡ 3
        still_deep x y v (down_on p q r s u) = absurd (true≢false (sym p ∙ x))
        still_deep x y v (down p q r s) = absurd (true≢false (sym p ∙ x))
        still_deep x y v (aside p q r) = absurd (true≢false (sym p ∙ y))
        still_deep x y v (up p q r s) = absurd (true≢false (sym p ∙ v))
        still_deep x y v (still p q r s u) = omega arith

    abbrev tag' : ℕ
    tag' = pick (eqb f'.text.state 15) i t.tag

    tag_new : eqb f'.text.state 15 ≡ true → i ≡ tag'
    unfolding pick
    tag_new e = rw e

    tag_old : eqb f'.text.state 15 ≡ false → t.tag ≡ tag'
    unfolding pick
    tag_old e = rw e

    stays_inner : Inner bs ends xs ys fs (suc i) tag' t.k w₀.points w
    stays_inner = record {
      ready = n.ready;
      said = said_next;
      long = long_next;
      below = below_next;
      past = past_next;
      c = n.c;
      this = n.this;
      in_ends = n.in_ends;
      sum = n.sum;
      row = n.row;
      leaves = λ g d. by (eqb (to f b) 15) refl (ap (λ (s : ℕ). either (eqb s 15) (in_end s)) (sym state_next) ∙ g) d;
    }
      where
        by : (x : Bool) → eqb (to f b) 15 ≡ x → either (eqb (to f b) 15) (in_end (to f b)) ≡ true → f'.tree.depth ≡ 3 → Ending bs (suc i) tag' w
        by true e h d = subst (λ (v : ℕ). Ending bs (suc i) v w) (tag_new (ap (λ (s : ℕ). eqb s 15) state_next ∙ e)) (fresh e d)
        by false e h d = subst (λ (v : ℕ). Ending bs (suc i) v w) (tag_old (ap (λ (s : ℕ). eqb s 15) state_next ∙ e)) (further e (or_right (eqb (to f b) 15) (in_end (to f b)) h e) d)

  closed_track : f.tree.level ≡ 3 → f'.tree.level ≡ 2 → pick (eqb f'.text.state 15) i t.tag ≡ t.tag → track_to bs (suc i) ≡ track t.tag t.tag t.k t.ps
  unfolding pick
  closed_track l l' old =
      goes bs i room few t fine (opens_not bs i room few t fine (λ g. omega arith)) (closes_now bs i room few t fine l l') ∙ (λ j. track (old j) (old j) t.k t.ps)

  -- ---- one byte

  module _ (sx : Small xs) (sy : Small ys) (sound : (k : ℕ) → k < length ends → Sound fs (start_of ends k) (end_at ends k)) (short : (k : ℕ) → end_at ends k ≤ 65536)
      (bound : count_in (track_to bs (suc i)) ≤ length ends) (st : Stage bs ends xs ys fs w₀ i) where
    abbrev Out : ℕ → Track → Type 0
    Out = outer_at bs ends xs ys fs w₀

    abbrev In : ℕ → Track → Type 0
    In = inner_at bs ends xs ys fs w₀

    outside_now : f.tree.level ≤ 2 → Outer bs ends xs ys fs w₀ i t.from t.k t.ps
    outside_now l = subst (Out i) t.is (st.outside l)

    full_here_lem : t.k < length ends → full_at ends fs t.k ≤ 131072
    full_here_lem h = omega (arith, full_at_few ends fs sound t.k (omega arith), (sound t.k h).some, short t.k)

    inside_now : 2 < f.tree.level → Inner bs ends xs ys fs i t.tag t.k w₀.points (run_of bs (given ends xs ys fs) w₀ t.ps)
    inside_now l = subst (In i) t.is (st.inside l)

    pub stage_next : Stage bs ends xs ys fs w₀ (suc i)
    stage_next = by (way_is bs i room few t fine)
      where
        by : Way f.tree f'.tree a (on_path f.tree word) → Stage bs ends xs ys fs w₀ (suc i)
        by (opening e on l d l' d') =
            let tag' : ℕ = pick (eqb f'.text.state 15) i t.tag in
            let is : track_to bs (suc i) ≡ track t.from tag' (more t.k) (t.ps ++ own t.from (more i) ∷ contour t.k ∷ []) =
            goes bs i room few t fine (opens_now bs i room few t fine l l') (closes_not bs i room few t fine (λ g. omega arith)) ∙ unfold pick in refl in
            let one : more t.k ≡ suc t.k = plain_more t.k (omega (arith, t.low)) in
            let in_ends : t.k < length ends = omega (arith, ap count_in is) in
            record {
              outside = λ h. absurd (omega arith);
              inside = λ h. subst (In (suc i)) (sym is) (opens_inner sx sy (sound t.k in_ends) (full_here_lem in_ends) (short t.k) in_ends e on l l' d' (outside_now (omega arith)) tag');
            }
        by (closing e l d l' d') =
            let w = run_of bs (given ends xs ys fs) w₀ t.ps in
            let twelve : f'.text.state ≡ 12 = state_next ∙ eqb-true (to f b) 12 (facts_here.tags_end (in_right (does a Opens) _ (in_right (does a Empty) _ e))) in
            let old : pick (eqb f'.text.state 15) i t.tag ≡ t.tag = tag_kept twelve refl i t.tag in
            let is : track_to bs (suc i) ≡ track t.tag t.tag t.k t.ps =
            closed_track l l' old in
            record {
              outside = λ h. subst (Out (suc i)) (sym is) (closes_outer w sound short (inside_now (omega arith)) e l d refl);
              inside = λ h. absurd (omega arith);
            }
        by (outer l l' fits went) =
            let tag' : ℕ = pick (eqb f'.text.state 15) i t.tag in
            let is : track_to bs (suc i) ≡ track t.from tag' t.k t.ps =
            goes bs i room few t fine (opens_not' bs i room few t fine (λ g. omega arith)) (closes_not bs i room few t fine (λ g. omega arith)) ∙ unfold pick in refl in
            record {
              outside = λ h. subst (Out (suc i)) (sym is) (stays_outer l l' (outside_now l));
              inside = λ h. absurd (omega arith);
            }
        by (inner l l' fits went) =
            let w = run_of bs (given ends xs ys fs) w₀ t.ps in
            let tag' : ℕ = pick (eqb f'.text.state 15) i t.tag in
            let is : track_to bs (suc i) ≡ track t.from tag' t.k t.ps =
            goes bs i room few t fine (opens_not bs i room few t fine (λ g. omega arith)) (closes_not' bs i room few t fine (λ g. omega arith)) ∙ unfold pick in refl in
            record {
              outside = λ h. absurd (omega arith);
              inside = λ h. subst (In (suc i)) (sym is) (stays_inner w (inside_now l) l l');
            }

-- ---- the whole file

count_more : (i tag : ℕ) (o c : Bool) (w : Track) → count_in w ≤ count_in (track_as i tag o c w)
unfolding pick more
count_more i tag true c (track from old k ps) = by (ltb k 18446744073709551615)
  where
    by : (t : Bool) → k ≤ pick t (k + 1) k
    by true = omega arith
    by false = omega arith
count_more i tag false c (track from old k ps) = omega arith

count_step : (bs : List ℕ) (i : ℕ) → count_in (track_to bs i) ≤ count_in (track_to bs (suc i))
unfolding track_to track_on
count_step bs i = count_more _ _ _ _ (track_to bs i)

count_later : (bs : List ℕ) (d i : ℕ) → count_in (track_to bs i) ≤ count_in (track_to bs (i + d))
count_later bs zero i = let same : i + 0 ≡ i = omega arith in rw same (omega arith)
count_later bs (suc d) i =
    let same : i + suc d ≡ suc (i + d) = omega arith in
    rw same (omega (arith, count_later bs d i, count_step bs (i + d)))

module _ (bs : List ℕ) (few : length bs ≤ most) (flags : Flags (at bs (length bs))) where
  pub tracked_at : (i : ℕ) → i ≤ length bs → Tracked bs i
  tracked_at zero h = tracked_start bs
  tracked_at (suc i) h = tracked_next bs i h few (tracked_at i (omega arith)) (fine_at bs (suc i) (length bs) h flags)

module _ (bs ends : List ℕ) (xs ys : List ℤ) (fs : List ℕ) (few : length bs ≤ most) (w₀ : Abs) (flags : Flags (at bs (length bs))) (sx : Small xs) (sy : Small ys)
    (sound : (k : ℕ) → k < length ends → Sound fs (start_of ends k) (end_at ends k)) (short : (k : ℕ) → end_at ends k ≤ 65536) where
  module _ (count : count_in (track_to bs (length bs)) ≡ length ends) (start : Stage bs ends xs ys fs w₀ 0) where
    pub stage_at : (i : ℕ) → i ≤ length bs → Stage bs ends xs ys fs w₀ i
    stage_at zero h = start
    stage_at (suc i) h =
        let same : suc i + (length bs - suc i) ≡ length bs = omega arith in
        let later : count_in (track_to bs (suc i)) ≤ count_in (track_to bs (length bs)) =
        subst (λ (v : ℕ). count_in (track_to bs (suc i)) ≤ count_in (track_to bs v)) same (count_later bs (length bs - suc i) (suc i)) in
        stage_next bs ends xs ys fs few w₀ i h (tracked_at bs few flags i (omega arith)) (fine_at bs (suc i) (length bs) h flags) sx sy sound short (omega arith) (stage_at i (omega arith))
