-- The stored answers that the links lead through, first to last: what they are one after the other, and what they are of the answer that the rows
-- stand for. Assumes nothing.
use Prim.Native.Nat.{ℕ, zero, suc, ◌+◌, ◌-◌, ◌≤◌, ◌<◌}
use native.Mathlib.Numerals.{add-one}
use native.Mathlib.Omega.{arith}
use mathlib.Core.Bool.{Bool, false}
use mathlib.Core.List.{List, [], ◌∷◌, ◌++◌, map, map-append, append_assoc, append-nil}
use mathlib.Core.Path.{◌≡◌, refl, sym, ap, subst, ◌∙◌}
use borrow.Author.Tests.{le-ltb}
use lib.Dec.{ltb}
use lib.Ieee.{Float}
use lib.ListN.{length, get_or, drop, set, length-set, drop_of_length-le}
use lib.Seq.{drop-cons, get_or-set_same, drop-set-lt}
use Rattle.breaks.specs.Breaks.{Row}
use Rattle.attempt.specs.Answers.{Leg, Statelet, on}
use Rattle.attempt.specs.Answers as A
use Rattle.optimize.specs.Stored.{Anywhere, Slot, Holds, starts, follows, piece_in}
use Rattle.pieces.specs.Pieces.{as_piece, pieces_of}
use Rattle.pieces.specs.Slots.{Falls, first, after, slots_if, slots_of, piece_of, stored_quad, quads_of, Within, Legible, Each, none, one}

-- ---- one after the other

-- the last of them has the one that it is built on before it
one_back : (links : List ℕ) (f k j : ℕ) → get_or links k 0 ≡ j + 2 →
    slots_if (suc f) (ltb (get_or links k 0) 2) links k ≡ slots_if f (ltb (get_or links j 0) 2) links j ++ (k ∷ [])
unfolding slots_if
one_back links f k j e =
    let back : get_or links k 0 - 2 ≡ j = omega arith in
    let more : ltb (get_or links k 0) 2 ≡ false = le-ltb (get_or links k 0) 2 (omega arith) in
    ap (λ (b : Bool). slots_if (suc f) b links k) more ∙ ap (λ (m : ℕ). slots_if f (ltb (get_or links m 0) 2) links m ++ (k ∷ [])) back

abbrev spent : List ℕ → ℕ → ℕ → List ℕ
spent links k f = slots_if f (ltb (get_or links k 0) 2) links k

-- more to spend changes nothing
spare : {links : List ℕ} {k : ℕ} → Falls links k → (f : ℕ) → k < f → spent links k f ≡ slots_of links k
unfolding slots_if slots_of
spare {links} {k} (first inside e) f h =
    let some : f ≡ suc (f - 1) = omega arith in
    rw (some, add-one k, e) refl
spare {links} {k} (after {j = j} inside e down l) f h =
    let some : f ≡ suc (f - 1) = omega arith in
    ap (spent links k) some ∙ one_back links (f - 1) k j e
    ∙ ap (λ (s : List ℕ). s ++ (k ∷ [])) (spare l (f - 1) (omega arith) ∙ sym (spare l k down))
    ∙ sym (one_back links k k j e) ∙ sym (ap (spent links k) (add-one k))

pub slots_first : (links : List ℕ) {k : ℕ} → get_or links k 0 ≡ 1 → slots_of links k ≡ k ∷ []
unfolding slots_if slots_of
slots_first links {k} e = rw (add-one k, e) refl

pub slots_after : {links : List ℕ} {k j : ℕ} → get_or links k 0 ≡ j + 2 → j < k → Falls links j → slots_of links k ≡ slots_of links j ++ (k ∷ [])
unfolding slots_of
slots_after {links} {k} {j} e down l = rw (add-one k) (one_back links k k j e ∙ ap (λ (s : List ℕ). s ++ (k ∷ [])) (spare l k down))

-- ---- of the answer that the rows stand for

each_then : {A : Type 0} {P : A → Type 0} {s t : List A} → Each P s → Each P t → Each P (s ++ t)
each_then none e = e
each_then (one h d) e = one h (each_then d e)

pub each_at : {A : Type 0} {P : A → Type 0} {s : List A} → Each P s → (d : A) (i : ℕ) → i < length s → P (get_or s i d)
each_at none d i h = absurd (omega arith)
each_at (one p e) d zero h = p
each_at (one p e) d (suc i) h = each_at e d i (omega arith)

-- the piece that stored answer k stands for
abbrev piece_there : Row → List (List Float) → List ℕ → ℕ → Leg
piece_there breaks answers links k = piece_in breaks answers k (get_or links k 0)

module _ {breaks : Row} {answers : List (List Float)} {links : List ℕ} where
  pub falls : {k : ℕ} {a : Statelet} → Holds Anywhere breaks answers links k a → Falls links k
  falls (starts s) = first s.in_links s.link
  falls (follows s down h) = after s.in_links s.link down (falls h)

  is_piece : {k l : ℕ} {p : Leg} {s : Float} → Slot Anywhere breaks answers links k l p s → piece_there breaks answers links k ≡ p
  is_piece {k} s = ap (piece_in breaks answers k) s.link ∙ s.piece

  -- what is made of each piece, first to last, by the stored answers and by the answer
  module _ {B : Type 0} (f : ℕ → B) (g : Leg → B) (all : Statelet → List B)
      (of_first : (p : Leg) (s : Float) → all (A.first p s) ≡ g p ∷ []) (of-on : (a : Statelet) (p : Leg) (s : Float) → all (on a p s) ≡ all a ++ (g p ∷ []))
      (same : (k : ℕ) → f k ≡ g (piece_there breaks answers links k)) where
    made : {k : ℕ} {a : Statelet} → Holds Anywhere breaks answers links k a → map f (slots_of links k) ≡ all a
    made (starts {k} {p} {s} slot) = ap (map f) (slots_first links slot.link) ∙ ap (λ (b : B). b ∷ []) (same k ∙ ap g (is_piece slot)) ∙ sym (of_first p s)
    made (follows {k} {j} {a} {p} {s} slot down h) =
        ap (map f) (slots_after slot.link down (falls h)) ∙ map-append f (slots_of links j) (k ∷ [])
        ∙ rw (made h, same k, is_piece slot) (sym (of-on a p s))

  pub pieces_are : {k : ℕ} {a : Statelet} → Holds Anywhere breaks answers links k a → map (piece_of answers links) (slots_of links k) ≡ pieces_of a
  unfolding pieces_of
  pieces_are = made (piece_of answers links) as_piece pieces_of (λ p s. refl) (λ a p s. refl) (λ k. refl)

  pub quads_are : {k : ℕ} {a : Statelet} → Holds Anywhere breaks answers links k a → map (stored_quad breaks answers links) (slots_of links k) ≡ quads_of a
  unfolding quads_of
  quads_are = made (stored_quad breaks answers links) (λ (p : Leg). p.quad) quads_of (λ p s. refl) (λ a p s. refl) (λ k. refl)

  reads : {n k l : ℕ} {p : Leg} {s : Float} → Slot Anywhere breaks answers links k l p s → p.from < n → p.to < n → Legible n answers links k
  reads {n} slot from to = record {
    in_answers = slot.in_answers;
    in_links = slot.in_links;
    from = subst (λ (p : Leg). p.from < n) (sym (is_piece slot)) from;
    to = subst (λ (p : Leg). p.to < n) (sym (is_piece slot)) to;
  }

  pub last_legible : (n : ℕ) {k : ℕ} {a : Statelet} → Holds Anywhere breaks answers links k a → Within n a → Legible n answers links k
  unfolding Within
  last_legible n (starts slot) w = reads slot w.0 w.1
  last_legible n (follows slot down h) w = reads slot w.1.0 w.1.1

  pub all_legible : (n : ℕ) {k : ℕ} {a : Statelet} → Holds Anywhere breaks answers links k a → Within n a → Each (Legible n answers links) (slots_of links k)
  unfolding Within
  all_legible n (starts slot) w = rw (slots_first links slot.link) (one (reads slot w.0 w.1) none)
  all_legible n (follows slot down h) w = rw (slots_after slot.link down (falls h)) (each_then (all_legible n h w.0) (one (reads slot w.1.0 w.1.1) none))

-- ---- while they are written from the end of a row back

pub in_links : {links : List ℕ} {k : ℕ} → Falls links k → k < length links
in_links (first inside e) = inside
in_links (after inside e down l) = inside

pub record Opened (links : List ℕ) (k : ℕ) : Type 0 where
  pub down : get_or links k 0 - 2 < k
  pub falls : Falls links (get_or links k 0 - 2)

pub opens : {links : List ℕ} {k : ℕ} → Falls links k → 2 ≤ get_or links k 0 → Opened links k
opens (first inside e) h = absurd (omega arith)
opens {links} {k} (after {j = j} inside e down l) h =
    let back : get_or links k 0 - 2 ≡ j = omega arith in
    record { down = omega arith; falls = subst (Falls links) (sym back) l }

ends : {links : List ℕ} {k : ℕ} → Falls links k → get_or links k 0 < 2 → get_or links k 0 ≡ 1
ends (first inside e) h = e
ends (after inside e down l) h = absurd (omega arith)

-- those after `at` stand at the end of the row, and `at` at place i
pub record Walking (links : List ℕ) (k : ℕ) (slots₀ slots : List ℕ) (at i : ℕ) : Type 0 where
  pub falls : Falls links at
  pub low : at ≤ k
  pub place : at ≤ i
  pub long : length slots ≡ length slots₀
  pub inside : i < length slots
  pub here : get_or slots i 0 ≡ at
  pub all : slots_of links k ≡ slots_of links at ++ drop (i + 1) slots

pub walk_start : {links : List ℕ} {k : ℕ} (slots : List ℕ) → Falls links k → k < length slots →
    Walking links k (set slots (length slots - 1) k) (set slots (length slots - 1) k) k (length slots - 1)
walk_start {links} {k} slots l h =
    let past : length (set slots (length slots - 1) k) ≤ length slots - 1 + 1 = simp length-set (omega arith) in
    record {
      falls = l;
      low = omega arith;
      place = omega arith;
      long = refl;
      inside = simp length-set (omega arith);
      here = get_or-set_same slots (length slots - 1) k 0 (omega arith);
      all = rw (drop_of_length-le (set slots (length slots - 1) k) past) (sym (append-nil (slots_of links k)));
    }

module _ {links : List ℕ} {k : ℕ} {slots₀ slots : List ℕ} {at i : ℕ} (w : Walking links k slots₀ slots at i) where
  -- the row from place i on
  from_here : drop i slots ≡ at ∷ drop (i + 1) slots
  from_here = rw (add-one i) (drop-cons slots i 0 w.inside ∙ ap (λ (s : ℕ). s ∷ drop (suc i) slots) w.here)

  pub walk_more : 2 ≤ get_or links at 0 → Walking links k slots₀ (set slots (i - 1) (get_or links at 0 - 2)) (get_or links at 0 - 2) (i - 1)
  walk_more h =
      let o = opens w.falls h in
      let j : ℕ = get_or links at 0 - 2 in
      let e : get_or links at 0 ≡ j + 2 = omega arith in
      let next : i - 1 + 1 ≡ i = omega (arith, w.place, o.down) in
      record {
        falls = o.falls;
        low = omega (arith, w.low, o.down);
        place = omega (arith, w.place, o.down);
        long = simp length-set w.long;
        inside = simp length-set (omega (arith, w.inside));
        here = get_or-set_same slots (i - 1) j 0 (omega (arith, w.inside));
        all = rw (next, drop-set-lt i slots (i - 1) j (omega (arith, w.place, o.down)), from_here)
            (w.all ∙ rw (slots_after e o.down o.falls) (append_assoc (slots_of links j) (at ∷ []) (drop (i + 1) slots)));
      }

  pub walked : get_or links at 0 < 2 → drop i slots ≡ slots_of links k
  walked h = from_here ∙ sym (w.all ∙ ap (λ (s : List ℕ). s ++ drop (i + 1) slots) (slots_first links (ends w.falls h)))
