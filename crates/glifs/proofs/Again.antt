-- Rows in which each contour has an on-curve point, written into a file and read, are what was written with its implied points written out. Assumes nothing.
use Prim.Native.Nat.{ℕ, zero, suc, ◌+◌, ◌-◌, ◌%◌, ◌≤◌, ◌<◌}
use native.Mathlib.Omega.{arith}
use native.Mathlib.Numerals.{add-one}
use native.Mathlib.Nat.{mod-eq_of_lt}
use mathlib.Core.Bool.{true}
use mathlib.Core.List.{List, [], ◌∷◌, ◌++◌, append_assoc, append-nil, map}
use mathlib.Core.Path.{◌≡◌, refl, sym, ap, subst, ◌∙◌}
use lib.IntN.{ℤ}
use lib.ListN.{length, get_or, set, drop, length-append, drop_of_length-le}
use lib.Seq.{drop-cons}
use Rattle.rows.specs.Lent.{Inputs, inputs}
use Rattle.contour.specs.Points.{Points}
use Rattle.contour.specs.Output.{front}
use Rattle.explicit.specs.Explicit.{explicit_of}
use Rattle.gliftext.specs.Pick.{more}
use Rattle.gliftext.proofs.Picks.{plain_more}
use Rattle.glif.specs.Outline.{nowhere}
use Rattle.glyphs.specs.Glyphs.{stretch, contours_from, together, ends_from}
use Rattle.glifread.specs.Enter.{end_of, rows, seek_from, walked, enter_contour, entering, enter_next, enter_up_to, filled, enter_all, ending, at_end}
use Rattle.glifwrite.specs.Contours.{end_at, start_of}
use Rattle.glifwrite.specs.Texts.{Small}
use Rattle.glifs.proofs.Contour.{Sound}
use Rattle.glifs.proofs.Whole.{start_next, start_first, full_at, row_to}
use Rattle.glifs.proofs.Entered.{within, at, seeks, end_at_lem}
use Rattle.glifs.proofs.Explicit.{shown, Room, set_front, room_less, explicit_long, enter_contour_lem}

-- ---- lists of contours, one more at the end

together_more : (cs : List Points) (c : Points) → together (cs ++ (c ∷ [])) ≡ together cs ++ c
unfolding together
together_more [] c = append-nil c
together_more (b ∷ cs) c = ap (λ (l : Points). b ++ l) (together_more cs c) ∙ sym (append_assoc b (together cs) c)

ends_more : (from : ℕ) (cs : List Points) (c : Points) → ends_from from (cs ++ (c ∷ [])) ≡ ends_from from cs ++ ((from + length (together cs) + length c - 1) ∷ [])
unfolding ends_from together
ends_more from [] c = let none : from + length c - 1 ≡ from + 0 + length c - 1 = omega arith in ap (λ (n : ℕ). n ∷ []) none
ends_more from (b ∷ cs) c =
    let at : from + length b + length (together cs) + length c - 1 ≡ from + length (b ++ together cs) + length c - 1 = omega (arith, length-append b (together cs)) in
    ap (λ (l : List ℕ). (from + length b - 1) ∷ l) (ends_more (from + length b) cs c ∙ ap (λ (n : ℕ). ends_from (from + length b) cs ++ (n ∷ [])) at)

pub ends_long : (from : ℕ) (cs : List Points) → length (ends_from from cs) ≡ length cs
unfolding ends_from
ends_long from [] = refl
ends_long from (c ∷ cs) = ap suc (ends_long (from + length c) cs)

-- ---- the contours of rows

module _ (ends : List ℕ) (xs ys : List ℤ) (fs : List ℕ) where
  abbrev part_at : ℕ → Inputs
  part_at k = inputs (stretch (start_of ends k) (end_at ends k) xs) (stretch (start_of ends k) (end_at ends k) ys) (stretch (start_of ends k) (end_at ends k) fs)

  -- the first k, with their implied points written out
  unfoldable pub shown_to : ℕ → List Points
  shown_to zero = []
  shown_to (suc k) = shown_to k ++ (explicit_of (part_at k) ∷ [])

  pub shown_long : (k : ℕ) → length (shown_to k) ≡ k
  unfolding shown_to
  shown_long zero = refl
  shown_long (suc k) = length-append (shown_to k) _ ∙ ap (λ (n : ℕ). n + 1) (shown_long k) ∙ add-one k

  -- they are those that the list of contours has
  module _ (wide : (k : ℕ) → get_or ends k 0 < 65536) where
    listed_from : (k : ℕ) → k ≤ length ends →
        shown_to k ++ map explicit_of (contours_from (start_of ends k) (drop k ends) xs ys fs) ≡ map explicit_of (contours_from 0 ends xs ys fs)
    unfolding shown_to contours_from
    listed_from zero h = ap (λ (n : ℕ). map explicit_of (contours_from n ends xs ys fs)) (start_first ends)
    listed_from (suc k) h =
        let end : end_at ends k ≡ get_or ends k 0 + 1 = end_at_lem ends k h (wide k) ∙ sym (add-one (get_or ends k 0)) in
        let next : start_of ends (suc k) ≡ get_or ends k 0 + 1 = start_next ends k ∙ end in
        append_assoc (shown_to k) (explicit_of (part_at k) ∷ []) (map explicit_of (contours_from (start_of ends (suc k)) (drop (suc k) ends) xs ys fs))
        ∙ (λ i. shown_to k ++ (explicit_of (inputs (stretch (start_of ends k) (end i) xs) (stretch (start_of ends k) (end i) ys) (stretch (start_of ends k) (end i) fs))
        ∷ map explicit_of (contours_from (next i) (drop (suc k) ends) xs ys fs)))
        ∙ ap (λ (l : List ℕ). shown_to k ++ map explicit_of (contours_from (start_of ends k) l xs ys fs)) (sym (drop-cons ends k 0 h))
        ∙ listed_from k (omega arith)

    pub listed : shown_to (length ends) ≡ map explicit_of (contours_from 0 ends xs ys fs)
    unfolding contours_from
    listed =
        sym (append-nil (shown_to (length ends)))
        ∙ ap (λ (l : List ℕ). shown_to (length ends) ++ map explicit_of (contours_from (start_of ends (length ends)) l xs ys fs)) (sym (drop_of_length-le ends {i = length ends} (omega arith)))
        ∙ listed_from (length ends) (omega arith)

-- ---- entering all of them

module _ (xs ys : List ℤ) (fs : List ℕ) (sx : Small xs) (sy : Small ys) (X Y : List ℤ) (F : List ℕ) (few_x : length X ≤ nowhere) (few_y : length Y ≤ nowhere) (few-f : length F ≤ nowhere)
    (same_x : length xs ≡ length fs) (same_y : length ys ≡ length fs)
    (bs ends E : List ℕ) (row : List (List ℕ)) (sound : (k : ℕ) → k < length ends → Sound fs (start_of ends k) (end_at ends k))
    (short : (k : ℕ) → end_at ends k ≤ 65536) (all : start_of ends (length ends) ≡ length fs) (room : length fs ≤ length row) (room-e : length ends ≤ length E) where
  some_in : (k : ℕ) → k < length ends → start_of ends k < end_at ends k
  some_in k h = (sound k h).some

  abbrev laid : List (List ℕ)
  laid = row_to bs ends xs ys fs row (length ends)

  inside : (k : ℕ) → k < length ends → end_at ends k ≤ length fs
  inside k h = within bs ends xs ys fs row some_in all room k h

  pub full_is : (k : ℕ) → k ≤ length ends → length (together (shown_to ends xs ys fs k)) ≡ full_at ends fs k
  unfolding shown_to together full_at
  full_is zero h = refl
  full_is (suc k) h =
      ap length (together_more (shown_to ends xs ys fs k) (explicit_of (part_at ends xs ys fs k)))
      ∙ length-append (together (shown_to ends xs ys fs k)) (explicit_of (part_at ends xs ys fs k))
      ∙ (λ i. full_is k (omega arith) i + explicit_long xs ys fs same_x same_y (start_of ends k) (end_at ends k) (sound k h) (inside k h) i)

  full_rises : (k d : ℕ) → full_at ends fs k ≤ full_at ends fs (k + d)
  unfolding full_at
  full_rises k zero = let none : k + 0 ≡ k = omega arith in rw none (omega arith)
  full_rises k (suc d) = let one : k + suc d ≡ suc (k + d) = omega arith in rw one (omega (arith, full_rises k d))

  full_least : (k : ℕ) → k ≤ length ends → full_at ends fs k ≤ full_at ends fs (length ends)
  full_least k h =
      let last : k + (length ends - k) ≡ length ends = omega arith in
      subst (λ (n : ℕ). full_at ends fs k ≤ full_at ends fs n) last (full_rises k (length ends - k))

  module _ (few : full_at ends fs (length ends) ≤ 65536) (places : Room X Y F (full_at ends fs (length ends))) where
    abbrev so : ℕ → List Points
    so k = shown_to ends xs ys fs k

    end_put : (k : ℕ) → k < length ends →
        set (front (ends_from 0 (so k)) E) k (end_of (length (together (so k) ++ explicit_of (part_at ends xs ys fs k)))) ≡ front (ends_from 0 (so (suc k))) E
    unfolding end_of shown_to
    end_put k h =
        let c : Points = explicit_of (part_at ends xs ys fs k) in
        let long : length (ends_from 0 (so k)) ≡ k = ends_long 0 (so k) ∙ shown_long ends xs ys fs k in
        let total : length (together (so k) ++ c) ≡ full_at ends fs (suc k) = ap length (sym (together_more (so k) c)) ∙ full_is (suc k) h in
        let bound : full_at ends fs (suc k) ≤ 65536 = omega (arith, full_least (suc k) h, few) in
        let one : length (together (so k) ++ c) - 1 ≡ 0 + length (together (so k)) + length c - 1 = omega (arith, length-append (together (so k)) c) in
        let value : (length (together (so k) ++ c) - 1) % 65536 ≡ 0 + length (together (so k)) + length c - 1 = mod-eq_of_lt (omega (arith, total, bound)) ∙ one in
        (λ i. set (front (ends_from 0 (so k)) E) (sym long i) (value i))
        ∙ set_front (ends_from 0 (so k)) E 0 (0 + length (together (so k)) + length c - 1) (omega (arith, long))
        ∙ ap (λ (l : List ℕ). front l E) (sym (ends_more 0 (so k) c))

    contours : (k : ℕ) → k ≤ length ends →
        enter_up_to laid (length fs) k (entering (record { from = 0; at = 0 }) E (rows X Y F))
        ≡ entering (record { from = start_of ends k; at = length (together (so k)) }) (front (ends_from 0 (so k)) E) (shown X Y F (together (so k)))
    unfolding enter_up_to enter_next shown_to together ends_from
    contours zero h = λ i. entering (record { from = sym (start_first ends) i; at = 0 }) E (rows X Y F)
    contours (suc k) h =
        let some = some_in k h in
        let last = inside k h in
        let from = start_of ends k in
        let c : Points = explicit_of (part_at ends xs ys fs k) in
        let ps : Points = together (so k) in
        let one : more (start_of ends k) ≡ suc (start_of ends k) = plain_more (start_of ends k) (omega (arith, short k)) in
        let to_is : seek_from true laid (length fs - more (start_of ends k)) (more (start_of ends k)) ≡ end_at ends k =
        subst (λ (v : ℕ). seek_from true laid (length fs - v) v ≡ end_at ends k) (sym one) (seeks bs ends xs ys fs row some_in all room k h) in
        let total : length (ps ++ c) ≡ full_at ends fs (suc k) = ap length (sym (together_more (so k) c)) ∙ full_is (suc k) h in
        let here : Room X Y F (length (ps ++ c)) = room_less X Y F few_x few_y few-f (omega (arith, total, full_least (suc k) h)) places in
        ap (enter_next laid (length fs) k) (contours k (omega arith))
        ∙ (λ i. ending k (to_is i) (front (ends_from 0 (so k)) E) (enter_contour laid (start_of ends k) (to_is i) (walked (length ps) (shown X Y F ps))))
        ∙ ap (ending k (end_at ends k) (front (ends_from 0 (so k)) E))
        (enter_contour_lem xs ys fs same_x same_y (start_of ends k) (end_at ends k) (sound k h) last sx sy X Y F few_x few_y few-f (omega (arith, short k)) laid
        (at bs ends xs ys fs row some_in all room k h) ps here)
        ∙ (λ i. entering (record { from = sym (start_next ends k) i; at = length (sym (together_more (so k) c) i) }) (end_put k h i) (shown X Y F (sym (together_more (so k) c) i)))

    pub enters_explicit : enter_all laid (length fs) (length ends) (filled E (rows X Y F))
        ≡ filled (front (ends_from 0 (so (length ends))) E) (shown X Y F (together (so (length ends))))
    unfolding enter_all
    enters_explicit = ap at_end (contours (length ends) (omega arith))
