-- What `crunch_glif` wrote is read again. Assumes nothing.
use Prim.Native.Nat.{ℕ, zero, suc, ◌+◌, ◌-◌, ◌%◌, ◌≤◌, ◌<◌}
use native.Mathlib.Omega.{arith}
use native.Mathlib.Numerals.{add-one}
use mathlib.Core.Bool.{Bool, true, false, false≢true}
use mathlib.Core.List.{List, [], ◌∷◌, ◌++◌, map-append}
use mathlib.Core.Path.{◌≡◌, refl, sym, ap, subst, ◌∙◌}
use borrow.Author.Tests.{le-leb, leb-true, ltb-true, ltb-false}
use lib.Dec.{eqb, ltb}
use Rattle.std.specs.Prelude.{Result, Ok, Err, is_ok}
use Rattle.refusals.specs.declared.refusal.Refusal.{Refusal}
use lib.IntN.{ℤ, pos, negsuc, neg_ℤ}
use lib.Signed.{mag}
use lib.ListN.{length, get_or, set, take, drop, replicate, length-append, length-map, get_or-eq_default}
use lib.Seq.{get_or-append-add}
use Rattle.rows.specs.Lent.{Inputs, inputs}
use Rattle.settings.specs.declared.Settings.{Settings}
use Rattle.edition.specs.Edition as Edition
use Rattle.contour.specs.Points.{Points}
use Rattle.contour.specs.Implied.{number}
use Rattle.contour.specs.Output.{column, flag_of, flags}
use Rattle.contour.specs.Kept.{StartsOn}
use Rattle.crunch.proofs.Written.{comes_back}
use Rattle.glyf.specs.Layout.{done, in16, all16}
use Rattle.glyf.proofs.Codes.{and_left, and_right}
use Rattle.glyf.proofs.Again.{done_is}
use Rattle.glyphs.specs.Glyphs.{contours_from, together, ends_from}
use Rattle.glyphs.specs.Separately.{Each}
use Rattle.glyphs.proofs.Sixteen.{All16, crunched_16, both}
use Rattle.glyphs.proofs.Sixteen as Sixteen
use Rattle.gliftext.specs.Pick.{pick}
use Rattle.glifread.specs.Enter.{signed_of, Rows, rows, put_at, Drawn, drawn, enter_one, enter_to, Walked, walked, pen_up, enter_contour, Entering, entering, enter_next, enter_up_to, Filled, filled, enter_all, ending}
use Rattle.glifread.specs.Reads.{Rooms, rooms, answer_by, enters_by}
use Rattle.glifread.specs.Entry.{judged_in}
use Rattle.glifread.specs.declared.read.Counts.{Counts}
use Rattle.glif.specs.Scan as Scan
use Rattle.glifwrite.specs.Contours.{is_on, end_at, start_of}
use Rattle.glifwrite.specs.Texts.{Small}
use Rattle.glifwrite.specs.Writes.{GivenRows, given, answer_of}
use Rattle.glifs.specs.Glifs.{given_of, first_of, found_by, read_of, zero_in}
use Rattle.glifs.specs.Separately.{contours_of}
use Rattle.glifs.specs.Back.{OnEach, ReadAgain, CrunchedReadAgain}
use Rattle.glifs.proofs.Entered.{end_at_lem}
use Rattle.glifs.proofs.Again.{ends_long}
use Rattle.glifs.proofs.Whole.{start_next, start_first}
use Rattle.glifs.proofs.Separately.{written_by_contours}
use Rattle.glifs.proofs.ReadExplicit.{rows_read_explicit, rows_read_without_fault}

-- ---- what is read has 16 bits

mag_16 : (z : ℤ) → mag z < 32768 → in16 z ≡ true
mag_16 (pos n) h = le-leb n 32767 (omega arith)
mag_16 (negsuc n) h = rw (le-leb n 32767 (omega arith)) refl

small_16 : (z : ℤ) → in16 z ≡ true → mag z < 32768
small_16 (pos n) h = omega (arith, leb-true n 32767 h)
small_16 (negsuc n) h = omega (arith, leb-true n 32767 (and_left _ _ h))

negative_small : (m : ℕ) → m ≤ 32768 → mag (neg_ℤ (pos m)) < 32768
negative_small zero h = omega arith
negative_small (suc n) h = omega arith

signed_16 : (v : ℕ) → in16 (signed_of v) ≡ true
unfolding signed_of pick
signed_16 v = mag_16 (signed_of v) (by (ltb 0 (32768 - v)) (ltb (v - 32768) 32768) refl)
  where
    by : (s t : Bool) → ltb (v - 32768) 32768 ≡ t → mag (pick s (neg_ℤ (pos (32768 - v))) (pick t (pos (v - 32768)) (pos 0))) < 32768
    by true t e = negative_small (32768 - v) (omega arith)
    by false true e = ltb-true (v - 32768) 32768 e
    by false false e = omega arith

set_16 : (xs : List ℤ) (i : ℕ) (v : ℤ) → all16 xs ≡ true → in16 v ≡ true → all16 (set xs i v) ≡ true
unfolding all16
set_16 [] i v h k = refl
set_16 (x ∷ xs) zero v h k = rw k (and_right (in16 x) (all16 xs) h)
set_16 (x ∷ xs) (suc i) v h k = rw (and_left (in16 x) (all16 xs) h) (set_16 xs i v (and_right (in16 x) (all16 xs) h) k)

take_16 : (n : ℕ) (xs : List ℤ) → all16 xs ≡ true → all16 (take n xs) ≡ true
unfolding all16
take_16 zero [] h = refl
take_16 zero (x ∷ xs) h = refl
take_16 (suc n) [] h = refl
take_16 (suc n) (x ∷ xs) h = rw (and_left (in16 x) (all16 xs) h) (take_16 n xs (and_right (in16 x) (all16 xs) h))

drop_16 : (n : ℕ) (xs : List ℤ) → all16 xs ≡ true → all16 (drop n xs) ≡ true
unfolding all16
drop_16 zero [] h = h
drop_16 zero (x ∷ xs) h = h
drop_16 (suc n) [] h = h
drop_16 (suc n) (x ∷ xs) h = drop_16 n xs (and_right (in16 x) (all16 xs) h)

zeros_16 : (n : ℕ) → all16 (replicate n (pos 0)) ≡ true
unfolding all16
zeros_16 zero = refl
zeros_16 (suc n) = zeros_16 n

data Rows16 : Rows → Type 0 where
  are : {xs ys : List ℤ} {fs : List ℕ} → all16 xs ≡ true → all16 ys ≡ true → Rows16 (rows xs ys fs)

put_16 : (i x y : ℕ) (off : Bool) {r : Rows} → Rows16 r → Rows16 (put_at i x y off r)
unfolding put_at
put_16 i x y off (are {xs = xs} {ys = ys} h k) = are (set_16 xs i (signed_of x) h (signed_16 x)) (set_16 ys i (signed_of y) k (signed_16 y))

data Drawn16 : Drawn → Type 0 where
  so : {pen : _} {r : Rows} → Rows16 r → Drawn16 (drawn pen r)

one_16 : (p : List ℕ) {d : Drawn} → Drawn16 d → Drawn16 (enter_one p d)
unfolding enter_one
one_16 p (so h) = so (put_16 _ _ _ _ (put_16 _ _ _ _ h))

to_16 : (ps : List (List ℕ)) (from k : ℕ) {d : Drawn} → Drawn16 d → Drawn16 (enter_to ps from k d)
unfolding enter_to
to_16 ps from zero h = h
to_16 ps from (suc k) h = one_16 _ (to_16 ps from k h)

data Walked16 : Walked → Type 0 where
  so : {at : ℕ} {r : Rows} → Rows16 r → Walked16 (walked at r)

up_16 : {d : Drawn} → Drawn16 d → Walked16 (pen_up d)
up_16 (so h) = so h

contour_16 : (ps : List (List ℕ)) (from to : ℕ) {w : Walked} → Walked16 w → Walked16 (enter_contour ps from to w)
unfolding enter_contour
contour_16 ps from to (so h) = up_16 (to_16 ps from _ (to_16 ps _ _ (so h)))

data Entering16 : Entering → Type 0 where
  so : {w : _} {ends : List ℕ} {r : Rows} → Rows16 r → Entering16 (entering w ends r)

ending_16 : (k to : ℕ) (ends : List ℕ) {w : Walked} → Walked16 w → Entering16 (ending k to ends w)
ending_16 k to ends (so h) = so h

next_16 : (ps : List (List ℕ)) (n k : ℕ) {e : Entering} → Entering16 e → Entering16 (enter_next ps n k e)
unfolding enter_next
next_16 ps n k (so {ends = ends} h) = ending_16 k _ ends (contour_16 ps _ _ (so h))

up_to_16 : (ps : List (List ℕ)) (n k : ℕ) {e : Entering} → Entering16 e → Entering16 (enter_up_to ps n k e)
unfolding enter_up_to
up_to_16 ps n zero h = h
up_to_16 ps n (suc k) h = next_16 ps n k (up_to_16 ps n k h)

data Filled16 : Filled → Type 0 where
  so : {ends : List ℕ} {r : Rows} → Rows16 r → Filled16 (filled ends r)

at_end_16 : {e : Entering} → Entering16 e → Filled16 (Rattle.glifread.specs.Enter.at_end e)
at_end_16 (so h) = so h

all_16 : (ps : List (List ℕ)) (n contours : ℕ) {f : Filled} → Filled16 f → Filled16 (enter_all ps n contours f)
unfolding enter_all
all_16 ps n contours (so h) = at_end_16 (up_to_16 ps n contours (so h))

data Given16 : GivenRows → Type 0 where
  so : {ends : List ℕ} {xs ys : List ℤ} {fs : List ℕ} → all16 xs ≡ true → all16 ys ≡ true → Given16 (given ends xs ys fs)

first_16 : (contours count : ℕ) {f : Filled} → Filled16 f → Given16 (first_of contours count f)
first_16 contours count (so (are {xs = xs} {ys = ys} h k)) = so (take_16 count xs h) (take_16 count ys k)

by_judged : (j : Scan.Judged) (n : Rooms) {f : Filled} → Filled16 f → Filled16 (enters_by j n f)
by_judged (Scan.judged f ps) n h = all_16 ps _ _ h

zero_16 : (n : Rooms) → Filled16 (zero_in n)
zero_16 (rooms e x y f m) = so (are (zeros_16 x) (zeros_16 y))

found_16 : (r : Result Counts Refusal) {f : Filled} {old : GivenRows} → Filled16 f → found_by r f ≡ done old → Given16 old
found_16 (Err k) h e = let z : ◌≡◌ {A = ℕ} 0 1 = cc in absurd (omega arith)
found_16 (Ok c) h e = subst Given16 (done_is e) (first_16 c.contours c.points h)

read_16 : (n : Rooms) (bytes : List ℕ) {old : GivenRows} → read_of n bytes ≡ done old → Given16 old
read_16 n bytes e = found_16 (answer_by (judged_in bytes n) n) (by_judged (judged_in bytes n) n (zero_16 n)) e

-- ---- crunched contours

data AllIn16 : List Inputs → Type 0 where
  none : AllIn16 []
  next : {xs ys : List ℤ} {fs : List ℕ} {rest : List Inputs} → all16 xs ≡ true → all16 ys ≡ true → AllIn16 rest → AllIn16 (inputs xs ys fs ∷ rest)

contours_16 : (from : ℕ) (ends : List ℕ) (xs ys : List ℤ) (fs : List ℕ) → all16 xs ≡ true → all16 ys ≡ true → AllIn16 (contours_from from ends xs ys fs)
unfolding contours_from
contours_16 from [] xs ys fs h k = none
contours_16 from (end ∷ ends) xs ys fs h k =
    next (take_16 (end + 1 - from) (drop from xs) (drop_16 from xs h)) (take_16 (end + 1 - from) (drop from ys) (drop_16 from ys k)) (contours_16 (end + 1) ends xs ys fs h k)

-- each starts on-curve, and has 16 bits
data Good : List Points → Type 0 where
  none : Good []
  next : {ps : Points} {rest : List Points} → StartsOn ps → All16 ps → Good rest → Good (ps ∷ rest)

good : (work : Edition.Rooms) (settings : Settings) {room : ℕ} {olds : List Inputs} {news : List Points} → AllIn16 olds → Each work settings room olds news → Good news
good work settings none Each.none = none
good work settings (next {xs = xs} {ys = ys} {fs = fs} h k rest) (Each.next {room = room} {tally = tally} {ps = ps} e more) =
    next (comes_back work room settings xs ys fs ps tally e).starts (crunched_16 work room settings xs ys fs h k e) (good work settings {room = room - length ps} rest more)

together_16 : {cs : List Points} → Good cs → All16 (together cs)
unfolding together
together_16 none = Sixteen.none
together_16 (next on h rest) = both h (together_16 rest)

column_small : {ps : Points} → All16 ps → Small (column 0 ps) × Small (column 1 ps)
column_small Sixteen.none = (λ i. omega arith, λ i. omega arith)
column_small (Sixteen.one {p = p} {ps = ps} x y h) = (below 0 x (column 0 ps) (column_small h).0, below 1 y (column 1 ps) (column_small h).1)
  where
    below : (k : ℕ) → in16 (number p k) ≡ true → (xs : List ℤ) → Small xs → Small (number p k ∷ xs)
    below k e xs s zero = small_16 (number p k) e
    below k e xs s (suc i) = s i

-- how many points stand before contour k
unfoldable before : List Points → ℕ → ℕ
before cs zero = 0
before [] (suc k) = 0
before (c ∷ cs) (suc k) = length c + before cs k

starting_some : (ps : Points) → StartsOn ps → 0 < length ps
starting_some [] h = absurd (false≢true (sym h))
starting_some (p ∷ ps) h = omega arith

end_before : (from : ℕ) {cs : List Points} → Good cs → (k : ℕ) → k < length cs → get_or (ends_from from cs) k 0 + 1 ≡ from + before cs (suc k)
unfolding ends_from before
end_before from none k h = absurd (omega arith)
end_before from (next {ps = ps} {rest = rest} on x g) zero h = omega (arith, starting_some ps on)
end_before from (next {ps = ps} {rest = rest} on x g) (suc k) h = end_before (from + length ps) g k (omega arith) ∙ omega arith

before_rises : {cs : List Points} → Good cs → (k : ℕ) → k < length cs → before cs k < before cs (suc k)
unfolding before
before_rises none k h = absurd (omega arith)
before_rises (next {ps = ps} on x g) zero h = omega (arith, starting_some ps on)
before_rises (next {ps = ps} on x g) (suc k) h = omega (arith, before_rises g k (omega arith))

before_all_lem : {cs : List Points} → Good cs → (k : ℕ) → before cs k ≤ length (together cs)
unfolding before together
before_all_lem none zero = omega arith
before_all_lem none (suc k) = omega arith
before_all_lem (next on x g) zero = omega arith
before_all_lem (next {ps = ps} {rest = rest} on x g) (suc k) = omega (arith, before_all_lem g k, length-append ps (together rest))

first_flag : (ps qs : Points) → StartsOn ps → is_on (flags (ps ++ qs)) 0 ≡ true
unfolding is_on
first_flag [] qs h = absurd (false≢true (sym h))
first_flag (p ∷ ps) qs h = rw h

on_before_lem : {cs : List Points} → Good cs → (k : ℕ) → k < length cs → is_on (flags (together cs)) (before cs k) ≡ true
unfolding before together is_on
on_before_lem none k h = absurd (omega arith)
on_before_lem (next {ps = ps} {rest = rest} on x g) zero h = unfold is_on in first_flag ps (together rest) on
on_before_lem (next {ps = ps} {rest = rest} on x g) (suc k) h =
    ap (λ (l : List ℕ). eqb (get_or l (length ps + before rest k) 0 % 2) 1) (map-append flag_of ps (together rest))
    ∙ ap (λ (n : ℕ). eqb (get_or (flags ps ++ flags (together rest)) (n + before rest k) 0 % 2) 1) (sym (length-map ps flag_of))
    ∙ ap (λ (v : ℕ). eqb (v % 2) 1) (get_or-append-add (flags ps) (flags (together rest)) (before rest k) 0)
    ∙ on_before_lem g k (omega arith)

module _ (cs : List Points) (g : Good cs) (few : length (together cs) ≤ 65536) where
  ends_many : length (ends_from 0 cs) ≡ length cs
  ends_many = ends_long 0 cs

  wide : (k : ℕ) → get_or (ends_from 0 cs) k 0 < 65536
  wide k = by (ltb k (length cs)) refl
    where
      by : (t : Bool) → ltb k (length cs) ≡ t → get_or (ends_from 0 cs) k 0 < 65536
      by true e = omega (arith, end_before 0 g k (ltb-true k (length cs) e), before_all_lem g (suc k), few)
      by false e = omega (arith, get_or-eq_default (ends_from 0 cs) 0 {n = k} (omega (arith, ends_many, ltb-false k (length cs) e)))

  end_is : (k : ℕ) → k < length cs → end_at (ends_from 0 cs) k ≡ before cs (suc k)
  end_is k h = end_at_lem (ends_from 0 cs) k (omega (arith, ends_many)) (wide k) ∙ sym (add-one (get_or (ends_from 0 cs) k 0)) ∙ end_before 0 g k h ∙ omega arith

  start_is : (k : ℕ) → k ≤ length cs → start_of (ends_from 0 cs) k ≡ before cs k
  unfolding before
  start_is zero h = start_first (ends_from 0 cs)
  start_is (suc k) h = start_next (ends_from 0 cs) k ∙ end_is k h

  on_each : OnEach (ends_from 0 cs) (column 0 (together cs)) (column 1 (together cs)) (flags (together cs))
  on_each = record {
    some = λ k h. let in-cs : k < length cs = omega (arith, ends_many) in record {
      at = before cs k;
      low = omega (arith, start_is k (omega arith));
      high = omega (arith, end_is k in-cs, before_rises g k in-cs);
      on = on_before_lem g k in-cs;
    };
    small_x = (column_small (together_16 g)).0;
    small_y = (column_small (together_16 g)).1;
    wide = wide;
  }

-- ---- what `crunch_glif` wrote

old_16 : {old : GivenRows} → Given16 old → AllIn16 (contours_of old)
old_16 (so {ends = ends} {xs = xs} {ys = ys} {fs = fs} h k) = contours_16 0 ends xs ys fs h k

pub crunched_read_again : CrunchedReadAgain
crunched_read_again r settings bytes g out n few room e answer marks =
    let c = written_by_contours r settings bytes g e in
    let well = good r.work settings (old_16 (read_16 r.read bytes c.read)) c.each in
    let ps : Points = together c.contours in
    let each = on_each c.contours well c.few in
    let again : is_ok (answer_of bytes (given_of c.contours) (length out)) ≡ true = subst (λ (v : GivenRows). is_ok (answer_of bytes v (length out)) ≡ true) c.are answer in
    subst (λ (v : GivenRows). ReadAgain bytes v out n) (sym c.are)
    (record {
      no_fault = rows_read_without_fault bytes (ends_from 0 c.contours) (column 0 ps) (column 1 ps) (flags ps) out n few room again each marks;
      rows = λ told suffices. rows_read_explicit bytes (ends_from 0 c.contours) (column 0 ps) (column 1 ps) (flags ps) out n few room again each told suffices;
    })
