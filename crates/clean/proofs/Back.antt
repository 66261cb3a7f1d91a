-- The list of a cleaning, put back last drop first, gives the upload's points, and so does the entry that puts it back into the rows of what is left:
-- the statement of specs/Statements. Assumes nothing.
use Prim.Native.Nat.{ℕ, zero, suc, ◌+◌, ◌-◌, ◌%◌, ◌<◌}
use mathlib.Core.Bool.{Bool, true, false, not, ◌&&◌}
use mathlib.Core.List.{List, [], ◌∷◌, ◌++◌, map, map-append, append-nil}
use mathlib.Core.Path.{◌≡◌, refl, sym, ap, ◌∙◌}
use native.Mathlib.Nat.{le_refl}
use native.Mathlib.Omega.{arith}
use borrow.Author.Tests.{eqb-true, eqb-false, not-true, ltb-true}
use lib.Dec.{eqb, ltb}
use lib.IntN.{ℤ, pos}
use lib.ListN.{length, get_or, take, length-append, length-map, get_or-map, get_or-eq_default}
use lib.Seq.{append_snoc, take_at, get_or_at}
use Rattle.refusals.specs.Refusals.{is_on}
use Rattle.refusals.specs.Accepted.{Accepted, accepted}
use Rattle.clean.specs.Clean.{on_place, same_place, or_else, next_in, is_before, is_both, Cleaning, cleaned, up_from, clean_of}
use Rattle.clean.specs.Pass.{going, step_of, repeats, passing, close_if, closing}
use Rattle.clean.specs.PutBack.{number_of, why_of, insert_at, put_in, restored, put_back, mark_for, copied_spot, kept_spot, bit_by, spots_of, Point, point, bit_for, copied_for, past_end, point_at}
use Rattle.clean.specs.Entry.{bit_in, spot_x}
use Rattle.clean.specs.Statements.{coordinates_left, flags_left, spot_point, written_back, ListPutBack}
use Rattle.clean.proofs.Shortcut.{both_hold}
use Rattle.clean.proofs.Inserting.{insert_seam}
use Rattle.clean.proofs.Sweeping.{place_is, sweeps}
use Rattle.clean.proofs.Theorems.{up_of, bit_twice, past, number, coordinate_as, flag_as}

-- ---- bit 0

one_bit : (f : ℕ) → is_on f ≡ true → f % 2 ≡ 1
one_bit f h = eqb-true (f % 2) 1 h

small : (n : ℕ) → n < 2 → (n ≡ 1 → ⊥) → n ≡ 0
small zero h g = refl
small (suc zero) h g = absurd (g refl)
small (suc (suc n)) h g = absurd (omega arith)

pub no_bit : (f : ℕ) → is_on f ≡ false → f % 2 ≡ 0
no_bit f h = small (f % 2) (omega arith) (eqb-false (f % 2) 1 h)

module _ (xs ys : List ℤ) (fs : List ℕ) where
  abbrev P : ℕ → Point
  P = point_at xs ys fs

  abbrev on : ℕ → Bool
  on = on_place fs

  abbrev equal : ℕ → ℕ → Bool
  equal = same_place xs ys

  abbrev back : ℕ → List (List ℕ) → List Point → List Point
  back = put_back copied_for past_end

  -- ---- a point that goes is a copy

  as_point : (a p : ℕ) (why : ℕ) → equal p a ≡ true → get_or fs p 0 % 2 ≡ bit_for (eqb why 2) → copied_for why (P a) ≡ P p
  as_point a p why h bit = let e = place_is xs ys p a h in rw (e.0, e.1, bit)

  -- for before or both
  record Copy (last p why : ℕ) : Type 0 where
    pub same : copied_for why (P last) ≡ P p
    pub inner : eqb why 3 ≡ false

  before_copies : (last p : ℕ) → is_before on equal 0 last p ≡ true → Copy last p 1
  before_copies last p h =
      let first = both_hold (on p) (on last && equal p last) h in
      let second = both_hold (on last) (equal p last) first.1 in
      record { same = as_point last p 1 second.1 (one_bit (get_or fs p 0) first.0); inner = refl }

  both_copies : (last p next : ℕ) → is_both on equal 0 last p next ≡ true → Copy last p 2
  both_copies last p next h =
      let first = both_hold (not (on p)) (equal p last && equal p next) h in
      let second = both_hold (equal p last) (equal p next) first.1 in
      record { same = as_point last p 2 second.0 (no_bit (get_or fs p 0) (not-true (on p) first.0)); inner = refl }

  repeat_copies : (last p next w : ℕ) → repeats on equal 0 last p next ≡ suc w → Copy last p (suc w)
  repeat_copies last p next w h = by (is_before on equal 0 last p) (is_both on equal 0 last p next) refl refl h
    where
      by : (a b : Bool) → is_before on equal 0 last p ≡ a → is_both on equal 0 last p next ≡ b → or_else a 1 (or_else b 2 0) ≡ suc w → Copy last p (suc w)
      by true b f g e = rw (← e) (before_copies last p f)
      by false true f g e = rw (← e) (both_copies last p next g)
      by false false f g e = absurd (omega arith)

  -- ---- the pass, backwards

  -- after so many kept and so many drops, what the rest of the pass comes to gives back all that was there
  record Gives (kept rest : List ℕ) (ds : List (List ℕ)) (c : Cleaning) : Type 0 where
    pub later : List ℕ
    pub es : List (List ℕ)
    pub is : c ≡ cleaned later (ds ++ es)
    pub gives : back (length ds) es (map P later) ≡ map P (kept ++ rest)

  no_close : (kept : List ℕ) (ds : List (List ℕ)) → Gives kept [] ds (cleaned kept ds)
  unfolding put_back
  no_close kept ds = record { later = kept; es = []; is = ap (cleaned kept) (sym (append-nil ds)); gives = ap (map P) (sym (append-nil kept)) }

  close_one : (last : ℕ) (pre : List ℕ) (ds : List (List ℕ)) → get_or (pre ++ (last ∷ [])) 0 0 ≡ 0 → 0 < length pre → on last ≡ true → equal last 0 ≡ true →
      Gives (pre ++ (last ∷ [])) [] ds (cleaned (take (length (pre ++ (last ∷ [])) - 1) (pre ++ (last ∷ []))) (ds ++ ((last ∷ 3 ∷ []) ∷ [])))
  unfolding put_back
  close_one last [] ds z some o e = absurd (omega arith)
  close_one last (q ∷ pre) ds z some o e =
      let n : length ((q ∷ pre) ++ (last ∷ [])) - 1 ≡ length (q ∷ pre) = omega (arith, length-append (q ∷ pre) (last ∷ [])) in
      record {
        later = q ∷ pre;
        es = (last ∷ 3 ∷ []) ∷ [];
        is = ap (λ (s : List ℕ). cleaned s (ds ++ ((last ∷ 3 ∷ []) ∷ []))) (rw n (take_at (q ∷ pre) (last ∷ []) (length (q ∷ pre)) refl));
        gives =
            ap (λ (v : Point). map P (q ∷ pre) ++ (v ∷ [])) (ap (λ (k : ℕ). copied_for 3 (P k)) z ∙ as_point 0 last 3 e (one_bit (get_or fs last 0) o))
            ∙ sym (map-append P (q ∷ pre) (last ∷ [])) ∙ ap (map P) (sym (append-nil ((q ∷ pre) ++ (last ∷ []))));
      }

  closed_gives : (last : ℕ) (pre : List ℕ) (ds : List (List ℕ)) → get_or (pre ++ (last ∷ [])) 0 0 ≡ 0 →
      Gives (pre ++ (last ∷ [])) [] ds (closing on equal 0 (going last (pre ++ (last ∷ [])) ds))
  closed_gives last pre ds z = by (ltb 1 (length (pre ++ (last ∷ []))) && (on last && equal last 0)) refl
    where
      by : (b : Bool) → (ltb 1 (length (pre ++ (last ∷ []))) && (on last && equal last 0)) ≡ b →
          Gives (pre ++ (last ∷ [])) [] ds (close_if on equal 0 b (going last (pre ++ (last ∷ [])) ds))
      by true h =
          let first = both_hold (ltb 1 (length (pre ++ (last ∷ [])))) (on last && equal last 0) h in
          let second = both_hold (on last) (equal last 0) first.1 in
          let some : 0 < length pre = omega (arith, ltb-true 1 (length (pre ++ (last ∷ []))) first.0, length-append pre (last ∷ [])) in
          close_one last pre ds z some second.0 second.1
      by false h = no_close (pre ++ (last ∷ [])) ds

  -- a point more that is kept
  keep_one : {kept rest : List ℕ} (p : ℕ) {ds : List (List ℕ)} {c : Cleaning} → Gives (kept ++ (p ∷ [])) rest ds c → Gives kept (p ∷ rest) ds c
  keep_one {kept} {rest} p g = record { later = g.later; es = g.es; is = g.is; gives = g.gives ∙ ap (map P) (append_snoc kept p rest) }

  -- a point more that is dropped, with the number that the points and drops before it make
  drop_one : (last : ℕ) (pre rest : List ℕ) (p w : ℕ) (ds : List (List ℕ)) {c : Cleaning} → p ≡ suc (length pre) + length ds → Copy last p (suc w) →
      Gives (pre ++ (last ∷ [])) rest (ds ++ ((p ∷ suc w ∷ []) ∷ [])) c → Gives (pre ++ (last ∷ [])) (p ∷ rest) ds c
  unfolding put_back
  drop_one last pre rest p w ds number copy g =
      let kept = pre ++ (last ∷ []) in
      let place : p - length ds ≡ suc (length pre) = omega arith in
      let size : length (map P kept) ≡ suc (length pre) = simp length-map (rw length-append (omega arith)) in
      let drops : length (ds ++ ((p ∷ suc w ∷ []) ∷ [])) ≡ length ds + 1 = rw length-append refl in
      let before : suc (length pre) - 1 ≡ length pre = omega arith in
      let row : map P (kept ++ rest) ≡ map P pre ++ P last ∷ map P rest = ap (map P) (append_snoc pre last rest) ∙ map-append P pre (last ∷ rest) in
      let there : get_or (map P (kept ++ rest)) (length pre) past_end ≡ P last = rw row (get_or_at (map P pre) (P last) (map P rest) past_end (length pre) (simp length-map)) in
      record {
        later = g.later;
        es = (p ∷ suc w ∷ []) ∷ g.es;
        is = g.is ∙ ap (cleaned g.later) (append_snoc ds (p ∷ suc w ∷ []) g.es);
        gives =
            rw (← drops, g.gives, copy.inner, place, before, there, copy.same, map-append P kept rest, map-append P kept (p ∷ rest))
            (insert_seam (map P kept) (map P rest) (P p) (suc (length pre)) size);
      }

  starts : (pre : List ℕ) (last p : ℕ) → get_or (pre ++ (last ∷ [])) 0 0 ≡ 0 → get_or ((pre ++ (last ∷ [])) ++ (p ∷ [])) 0 0 ≡ 0
  starts [] last p z = z
  starts (q ∷ pre) last p z = z

  abbrev Backs : ℕ → Type 0
  Backs m = (i : ℕ) (pre : List ℕ) (last : ℕ) (ds : List (List ℕ)) → i ≡ suc (length pre) + length ds → get_or (pre ++ (last ∷ [])) 0 0 ≡ 0 →
      Gives (pre ++ (last ∷ [])) (up_from i m) ds (closing on equal 0 (passing on equal 0 (going last (pre ++ (last ∷ [])) ds) (up_from i m)))

  turn : (m : ℕ) → Backs m → (i : ℕ) (pre : List ℕ) (last : ℕ) (ds : List (List ℕ)) → i ≡ suc (length pre) + length ds → get_or (pre ++ (last ∷ [])) 0 0 ≡ 0 →
      (w : ℕ) → repeats on equal 0 last i (next_in 0 (up_from (i + 1) m)) ≡ w →
      Gives (pre ++ (last ∷ [])) (i ∷ up_from (i + 1) m) ds (closing on equal 0 (passing on equal 0 (step_of w i (going last (pre ++ (last ∷ [])) ds)) (up_from (i + 1) m)))
  turn m then i pre last ds number z zero h = keep_one i (then (i + 1) (pre ++ (last ∷ [])) i ds (rw length-append (omega arith)) (starts pre last i z))
  turn m then i pre last ds number z (suc w) h =
      drop_one last pre (up_from (i + 1) m) i w ds number (repeat_copies last i (next_in 0 (up_from (i + 1) m)) w h)
      (then (i + 1) pre last (ds ++ ((i ∷ suc w ∷ []) ∷ [])) (rw length-append (omega arith)) z)

  backs : (m : ℕ) → Backs m
  unfolding up_from passing
  backs zero i pre last ds number z = closed_gives last pre ds z
  backs (suc m) i pre last ds number z = turn m (backs m) i pre last ds number z (repeats on equal 0 last i (next_in 0 (up_from (i + 1) m))) refl

  -- by the rule
  all_put_back : Accepted xs ys fs → {kept : List ℕ} {drops : List (List ℕ)} → clean_of xs ys fs (length fs - 1) ≡ cleaned kept drops →
      back 0 drops (map P kept) ≡ map P (up_from 0 (length fs))
  unfolding up_from
  all_put_back a {kept} {drops} e =
      let g = backs (length fs - 1) 1 [] 0 [] refl refl in
      let is = sweeps a ∙ e in
      let same_kept : g.later ≡ kept = (let of = g.is in cc) in
      let same-drops : g.es ≡ drops = (let of = g.is in cc) in
      let n : length fs ≡ suc (length fs - 1) = omega (arith, a.some) in
      rw (← same_kept, ← same-drops) (g.gives ∙ ap (λ (m : ℕ). map P (up_from 0 m)) (sym n))

-- ---- the entry: what is written are the points put back

module _ {A B : Type 0} (copied : ℕ → A → A) (past : A) (copied' : ℕ → B → B) (past' : B) (f : A → B)
    (as-copied : (why : ℕ) (a : A) → f (copied why a) ≡ copied' why (f a)) (as-past : f past ≡ past') where
  map_insert : (k : ℕ) (v : A) (row : List A) → map f (insert_at k v row) ≡ insert_at k (f v) (map f row)
  unfolding insert_at
  map_insert zero v row = refl
  map_insert (suc k) v [] = refl
  map_insert (suc k) v (p ∷ row) = ap (◌∷◌ (f p)) (map_insert k v row)

  at_map : (row : List A) (k : ℕ) → f (get_or row k past) ≡ get_or (map f row) k past'
  at_map row k = sym (get_or-map f row k past) ∙ ap (get_or (map f row) k) as-past

  map_in : (b : Bool) (place why : ℕ) (row : List A) → map f (put_in copied past b place why row) ≡ put_in copied' past' b place why (map f row)
  map_in true place why row = map-append f row (copied why (get_or row 0 past) ∷ []) ∙ rw (as-copied why (get_or row 0 past), at_map row 0)
  map_in false place why row = map_insert place (copied why (get_or row (place - 1) past)) row ∙ rw (as-copied why (get_or row (place - 1) past), at_map row (place - 1))

  map_back : (j : ℕ) (list : List (List ℕ)) (row : List A) → map f (put_back copied past j list row) ≡ put_back copied' past' j list (map f row)
  unfolding put_back
  map_back j [] row = refl
  map_back j (d ∷ list) row =
      map_in (eqb (why_of d) 3) (number_of d - j) (why_of d) (put_back copied past (j + 1) list row)
      ∙ ap (restored copied' past' (number_of d - j) (why_of d)) (map_back (j + 1) list row)

module _ (xs ys : List ℤ) (fs : List ℕ) (even-x : length xs ≡ length fs) (even-y : length ys ≡ length fs) where
  by_mark : (b : Bool) (own : ℕ) → bit_by (mark_for b) own ≡ bit_for b
  by_mark true own = refl
  by_mark false own = refl

  past_spot : spot_point xs ys fs (kept_spot (length fs)) ≡ past_end
  past_spot =
      rw (get_or-eq_default xs (pos 0) {n = length fs} (omega arith), get_or-eq_default ys (pos 0) {n = length fs} (omega arith), get_or-eq_default fs 0 {n = length fs} (le_refl (length fs)))

  map_twice : (ks : List ℕ) → map (spot_point xs ys fs) (map kept_spot ks) ≡ map (point_at xs ys fs) ks
  map_twice [] = refl
  map_twice (k ∷ ks) = ap (◌∷◌ (point_at xs ys fs k)) (map_twice ks)

  entry_puts_back : (list : List (List ℕ)) → written_back xs ys fs list ≡ put_back copied_for past_end 0 list (map (point_at xs ys fs) (up_from 0 (length fs)))
  unfolding spots_of
  entry_puts_back list =
      map_back copied_spot (kept_spot (length fs)) copied_for past_end (spot_point xs ys fs)
      (λ why s. ap (point (spot_x xs s) (spot_x ys s)) (by_mark (eqb why 2) (bit_in fs (number_of s)))) past_spot 0 list (map kept_spot (up_from 0 (length fs)))
      ∙ ap (put_back copied_for past_end 0 list) (map_twice (up_from 0 (length fs)))

-- ---- the rows of what is left hold the points kept

pub map_as : {A : Type 0} (f : ℕ → A) (g : ℕ → A) (n : ℕ → ℕ) → ((i : ℕ) → f i ≡ g (n i)) → (l : List ℕ) → map f l ≡ map g (map n l)
map_as f g n h [] = refl
map_as f g n h (i ∷ l) = rw (h i, map_as f g n h l)

module _ (xs ys : List ℤ) (fs kept : List ℕ) where
  abbrev anew : ℕ → Point
  anew = point_at (coordinates_left xs kept) (coordinates_left ys kept) (flags_left fs kept)

  pub as_kept : (i : ℕ) → anew i ≡ point_at xs ys fs (number xs ys fs kept i)
  as_kept i =
      rw (
        coordinate_as xs ys fs kept xs (omega arith) i,
        coordinate_as xs ys fs kept ys (omega arith) i,
        flag_as xs ys fs kept i,
        bit_twice (get_or fs (number xs ys fs kept i) 0),
      )

  points_left : map anew (up_from 0 (length kept)) ≡ map (point_at xs ys fs) kept
  points_left =
      map_as anew (point_at xs ys fs) (number xs ys fs kept) as_kept (up_from 0 (length kept))
      ∙ ap (map (point_at xs ys fs)) (up_of (past xs ys fs kept) 0 [] kept refl)

pub put_back_lem : ListPutBack
put_back_lem xs ys fs kept drops c =
    let by_rule = all_put_back xs ys fs (accepted xs ys fs c.fine) c.is in
    let xs' = coordinates_left xs kept in
    let ys' = coordinates_left ys kept in
    let fs' = flags_left fs kept in
    let n : length fs' ≡ length kept = simp length-map in
    let ex : length xs' ≡ length fs' = simp length-map in
    let ey : length ys' ≡ length fs' = simp length-map in
    record {
      by_rule = by_rule;
      by_entry =
          entry_puts_back xs' ys' fs' ex ey drops
          ∙ ap (put_back copied_for past_end 0 drops) (ap (λ (m : ℕ). map (anew xs ys fs kept) (up_from 0 m)) n ∙ points_left xs ys fs kept)
          ∙ by_rule;
    }
