-- Of every upload that none of 1 to 5 is given for: one pass cleans it; every point not listed is kept in order; what is left is refused by none of
-- 1 to 5; and cleaning it again drops nothing more. The statements are those of specs/Statements. Assumes nothing.
use Rattle.std.specs.Prelude.{Ok}
use Prim.Native.Nat.{ℕ, zero, suc, ◌+◌, ◌-◌, ◌%◌, ◌≤◌}
use mathlib.Core.Bool.{Bool, true, false, not, ◌&&◌}
use mathlib.Core.List.{List, [], ◌∷◌, ◌++◌, map}
use mathlib.Core.Path.{subst, ◌≡◌, refl, sym, ap, ◌∙◌}
use native.Mathlib.Nat.{le_refl}
use native.Mathlib.Omega.{arith}
use lib.IntN.{ℤ, pos}
use lib.ListN.{length, get_or, length-append, length-map, get_or-map, get_or-eq_default}
use lib.Seq.{get_or_at, append_snoc}
use Rattle.refusals.specs.Refusals.{is_on, off_neighbours, judged}
use Rattle.refusals.specs.Accepted.{Accepted, accepted, judged_fine}
use Rattle.clean.specs.Clean.{same_place, on_place, Look, none, gone, behind, at_place, cleaned, reason, lowest, dropping, up_from, clean_of}
use Rattle.clean.specs.Entry.{coordinate_in, bit_in}
use Rattle.clean.specs.Statements.{OnePassCleans, KeptInOrder, TwiceDropsNothing, coordinates_left, flags_left}
use Rattle.clean.proofs.Shortcut.{Apart, on_next}
use Rattle.clean.proofs.Ended.{Rising, no_more, above, Ended, Ends, ends}
use Rattle.clean.specs.Determine.{length_up}
use Rattle.clean.proofs.Sweeping.{all_apart, sweeps}

pub one_pass : OnePassCleans
one_pass xs ys fs h = sweeps (accepted xs ys fs h)

-- ---- every point not listed is kept in order

rising_up : (k n : ℕ) → Rising k (up_from (k + 1) n)
unfolding up_from
rising_up k zero = no_more
rising_up k (suc n) = above {b = k} {p = k + 1} (omega arith) (rising_up (k + 1) n)

module _ {xs ys : List ℤ} {fs : List ℕ} (a : Accepted xs ys fs) where
  abbrev rest : List ℕ
  rest = up_from 1 (length fs - 1)

  -- the points kept after place 0, and the list
  ending : Ends (on_place fs) (same_place xs ys) 0 rest (clean_of xs ys fs (length fs - 1))
  unfolding clean_of
  ending =
      ends (on_place fs) (same_place xs ys) 0 (length fs - 1) rest (rw length_up (le_refl (length fs - 1))) (rising_up 0 (length fs - 1)) (all_apart fs a.apart a.some)

pub kept_in_order : KeptInOrder
kept_in_order xs ys fs kept drops c =
    let a = accepted xs ys fs c.fine in
    let k = ending a in
    let same_kept : kept ≡ 0 ∷ k.kept = cc (k.is, c.is) in
    let same-drops : drops ≡ k.drops = cc (k.is, c.is) in
    rw (same_kept, same-drops)
    (record {
      unlisted_stay = ap (◌∷◌ 0) k.ended.is;
      each = omega (arith, k.ended.shorter, length_up 1 (length fs - 1), a.some);
    })

-- ---- rows of points by number, numbered anew

-- what one look finds does not hang on the numbers
renumbered : (ℕ → ℕ) → Look → Look
renumbered f none = none
renumbered f (gone row k w) = gone (map f row) (f k) w

renumbered_behind : (f : ℕ → ℕ) (p : ℕ) (l : Look) → renumbered f (behind p l) ≡ behind (f p) (renumbered f l)
unfolding renumbered
renumbered_behind f p none = refl
renumbered_behind f p (gone row k w) = refl

none_only : (f : ℕ → ℕ) (l : Look) → renumbered f l ≡ none → l ≡ none
unfolding renumbered
none_only f none e = refl
none_only f (gone row k w) e = let q : ◌≡◌ {A = ℕ} 0 1 = cc in absurd (omega arith)

module _ (on on' : ℕ → Bool) (equal equal' : ℕ → ℕ → Bool) (f : ℕ → ℕ) (as-on : (i : ℕ) → on' i ≡ on (f i)) (as-equal : (i j : ℕ) → equal' i j ≡ equal (f i) (f j)) (z : ℕ) where
  same_reason : (b p : ℕ) (rest : List ℕ) → reason on equal (f z) (f b) (f p) (map f rest) ≡ reason on' equal' z b p rest
  same_reason b p [] = rw (as-on p, as-on b, as-equal p b, as-equal p z)
  same_reason b p (q ∷ rest) = rw (as-on p, as-on b, as-equal p b, as-equal p q)

  same_place_found : (n : ℕ) (p : ℕ) (rest : List ℕ) (l : Look) → renumbered f (at_place n p rest l) ≡ at_place n (f p) (map f rest) (renumbered f l)
  unfolding renumbered
  same_place_found zero p rest l = renumbered_behind f p l
  same_place_found (suc n) p rest l = refl

  same_look : (b : ℕ) (rest : List ℕ) → renumbered f (lowest on' equal' z b rest) ≡ lowest on equal (f z) (f b) (map f rest)
  unfolding lowest renumbered
  same_look b [] = refl
  same_look b (p ∷ rest) =
      same_place_found (reason on' equal' z b p rest) p rest (lowest on' equal' z p rest)
      ∙ rw (same_look p rest, same_reason b p rest)

  quiet_too : (b : ℕ) (rest : List ℕ) → lowest on equal (f z) (f b) (map f rest) ≡ none → lowest on' equal' z b rest ≡ none
  quiet_too b rest h = none_only f (lowest on' equal' z b rest) (same_look b rest ∙ h)

-- the numbers of a row, by their places: past the end, a number past the end of the upload
pub up_of : (past k : ℕ) (pre row : List ℕ) → length pre ≡ k → map (λ (i : ℕ). get_or (pre ++ row) i past) (up_from k (length row)) ≡ row
unfolding up_from
up_of past k pre [] e = refl
up_of past k pre (p ∷ row) e =
    rw (get_or_at pre p row past k e)
    (ap (◌∷◌ p) (subst (λ (xs : List ℕ). map (λ (i : ℕ). get_or xs i past) (up_from (k + 1) (length row)) ≡ row) (append_snoc pre p row)
    (up_of past (k + 1) (pre ++ (p ∷ [])) row (rw length-append (omega arith)))))

-- ---- what is left

pub not_both : (b p : Bool) → (b ≡ false → p ≡ true) → (not b && not p) ≡ false
not_both true p h = refl
not_both false p h = rw (h refl)

pub bit_twice : (f : ℕ) → f % 2 % 2 ≡ f % 2
bit_twice f = omega arith

pub mod_twice : (f : ℕ) → is_on (f % 2) ≡ is_on f
mod_twice f = rw (bit_twice f)

module _ (xs ys : List ℤ) (fs kept : List ℕ) where
  abbrev xs' : List ℤ
  xs' = coordinates_left xs kept

  abbrev ys' : List ℤ
  ys' = coordinates_left ys kept

  abbrev fs' : List ℕ
  fs' = flags_left fs kept

  abbrev pub past : ℕ
  past = length xs + length ys + length fs

  abbrev pub number : ℕ → ℕ
  number i = get_or kept i past

  pub coordinate_as : (row : List ℤ) → length row ≤ past → (i : ℕ) → get_or (map (coordinate_in row) kept) i (pos 0) ≡ get_or row (number i) (pos 0)
  coordinate_as row h i =
      ap (get_or (map (coordinate_in row) kept) i) (sym (get_or-eq_default row (pos 0) h)) ∙ get_or-map (coordinate_in row) kept i past

  pub flag_as : (i : ℕ) → get_or fs' i 0 ≡ bit_in fs (number i)
  flag_as i =
      let none : bit_in fs past ≡ 0 = ap (λ (f : ℕ). f % 2) (get_or-eq_default fs 0 {n = past} (omega arith)) in
      ap (get_or fs' i) (sym none) ∙ get_or-map (bit_in fs) kept i past

  pub on_as : (i : ℕ) → on_place fs' i ≡ on_place fs (number i)
  on_as i = ap is_on (flag_as i) ∙ mod_twice (get_or fs (number i) 0)

  pub equal_as : (i j : ℕ) → same_place xs' ys' i j ≡ same_place xs ys (number i) (number j)
  equal_as i j =
      rw (coordinate_as xs (omega arith) i, coordinate_as xs (omega arith) j, coordinate_as ys (omega arith) i, coordinate_as ys (omega arith) j)

  left_apart : (b : ℕ) (rest : List ℕ) → Apart (on_place fs) b rest → off_neighbours (map (bit_in fs) (b ∷ rest)) ≡ false
  unfolding off_neighbours
  left_apart b [] a = refl
  left_apart b (p ∷ rest) (on_next h a) = rw (mod_twice (get_or fs b 0), mod_twice (get_or fs p 0), not_both (on_place fs b) (on_place fs p) h, left_apart p rest a)

still : (n : ℕ) (on : ℕ → Bool) (equal : ℕ → ℕ → Bool) → lowest on equal 0 0 (up_from 1 n) ≡ none → dropping on equal 0 n (up_from 1 n) ≡ cleaned (0 ∷ up_from 1 n) []
unfolding dropping
still zero on equal h = refl
still (suc n) on equal h = rw h

-- what is left is refused by none of 1 to 5; and cleaned again it drops nothing
module _ {xs ys : List ℤ} {fs : List ℕ} (a : Accepted xs ys fs) {kept : List ℕ} {drops : List (List ℕ)}
    (e : clean_of xs ys fs (length fs - 1) ≡ cleaned kept drops) where
  module _ (later : List ℕ) (is : kept ≡ 0 ∷ later) (found : Ended (on_place fs) (same_place xs ys) 0 (up_from 1 (length fs - 1)) later drops) where
    accepted_left : Accepted (xs' xs ys fs kept) (ys' xs ys fs kept) (fs' xs ys fs kept)
    accepted_left =
        rw is
        (record {
          same_x = simp length-map;
          same_y = simp length-map;
          some = omega arith;
          few = simp length-map (omega (arith, found.shorter, length_up 1 (length fs - 1), a.few, a.some));
          first = mod_twice (get_or fs 0 0) ∙ a.first;
          apart = left_apart xs ys fs kept 0 later found.apart;
        })

    quiet_left : lowest (on_place (fs' xs ys fs kept)) (same_place (xs' xs ys fs kept) (ys' xs ys fs kept)) 0 0 (up_from 1 (length later)) ≡ none
    quiet_left =
        quiet_too (on_place fs) (on_place (fs' xs ys fs kept)) (same_place xs ys) (same_place (xs' xs ys fs kept) (ys' xs ys fs kept)) (number xs ys fs kept)
        (on_as xs ys fs kept) (equal_as xs ys fs kept) 0 0 (up_from 1 (length later))
        (rw is (rw (up_of (past xs ys fs kept) 1 (0 ∷ []) later refl) found.quiet))

    nothing_more : clean_of (xs' xs ys fs kept) (ys' xs ys fs kept) (fs' xs ys fs kept) (length later) ≡ cleaned (0 ∷ up_from 1 (length later)) []
    unfolding clean_of
    nothing_more = still (length later) (on_place (fs' xs ys fs kept)) (same_place (xs' xs ys fs kept) (ys' xs ys fs kept)) quiet_left

  same_kept : kept ≡ 0 ∷ (ending a).kept
  same_kept = let is = (ending a).is in cc

  found_left : Ended (on_place fs) (same_place xs ys) 0 (up_from 1 (length fs - 1)) (ending a).kept drops
  found_left = let same : (ending a).drops ≡ drops = (let is = (ending a).is in cc) in rw same at (ending a).ended

  none_refused : judged (xs' xs ys fs kept) (ys' xs ys fs kept) (fs' xs ys fs kept) ≡ Ok tt
  none_refused = judged_fine (accepted_left (ending a).kept same_kept found_left)

  nothing_twice : clean_of (xs' xs ys fs kept) (ys' xs ys fs kept) (fs' xs ys fs kept) (length kept - 1) ≡ cleaned (up_from 0 (length kept)) []
  unfolding up_from
  nothing_twice =
      let n : length kept ≡ suc (length (ending a).kept) = ap length same_kept in
      let m : length kept - 1 ≡ length (ending a).kept = omega arith in
      rw (m, n) (nothing_more (ending a).kept same_kept found_left)

pub twice : TwiceDropsNothing
twice xs ys fs kept drops c =
    let a = accepted xs ys fs c.fine in
    record { fine = none_refused a c.is; twice = nothing_twice a c.is }
