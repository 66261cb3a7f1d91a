-- What was read is written again and says the same; and the box of what is written. Assumes nothing.
use Rattle.std.specs.Prelude.{◌+ℤ◌}
use Rattle.refusals.specs.declared.refusal.Refusal.TheVariants.{EndsNotRising, TooLarge}
use Prim.Native.Nat.{ℕ, zero, suc, ◌+◌, ◌-◌, ◌*◌, ◌%◌, ◌≤◌, ◌<◌}
use mathlib.Core.Bool.{Bool, true, false, not, ◌&&◌}
use mathlib.Core.List.{List, [], ◌∷◌, map}
use mathlib.Core.Path.{◌≡◌, refl, sym, ap, ◌∙◌}
use native.Mathlib.Nat.{div-add-mod'}
use native.Mathlib.Omega.{arith}
use borrow.Author.Tests.{le-ltb, ltb-true, ltb-false, le-leb, eq-eqb}
use lib.Dec.{ltb}
use lib.IntN.{ℤ, pos, neg_ℤ}
use lib.Signed.{le_z}
use lib.ListN.{length, take, length-map}
use lib.Seq.{take_all}
use Rattle.glyf.specs.Layout.{Glyph, glyph, done, refuse, Taken, taken, cut, next, byte, word, several, bit, is_on, flagged, flags_of, difference_by, differences}
use Rattle.glyf.specs.Layout.{signed_if, signed, unsigned, Parts, count_of, parts_of, sums, in16, all16, rising, judged_parts, simple_only, headed, described}
use Rattle.glyf.specs.Layout.{joined, pick, least_from, greatest_from, least, greatest, bytes_of, trimmed, too_large, fitting, written_of}
use Rattle.glyf.specs.Trips.{all_bytes, BoxWritten, ReadWrittenAgain}
use Rattle.glyf.proofs.Codes.{and_left, and_right, sign_back}
use Rattle.glyf.proofs.Back.{Whole, whole_back, whole_of, written, steps_sums}

-- ---- what a parser took

pub record Took {A B : Type 0} (t : Taken A) (k : A → List ℕ → Taken B) (b : B) (end : List ℕ) : Type 0 where
  pub a : A
  pub rest : List ℕ
  pub was : t ≡ taken a rest
  pub then : k a rest ≡ taken b end

pub took : {A B : Type 0} (t : Taken A) (k : A → List ℕ → Taken B) {b : B} {end : List ℕ} → next t k ≡ taken b end → Took t k b end
took (taken a rest) k e = record { a = a; rest = rest; was = refl; then = e }
took cut k e = absurd (let z : ◌≡◌ {A = ℕ} 0 1 = cc in omega arith)

pub taken_is : {A : Type 0} {a b : A} {r s : List ℕ} → taken a r ≡ taken b s → a ≡ b
taken_is e = cc

taken_left : {A : Type 0} {a b : A} {r s : List ℕ} → taken a r ≡ taken b s → r ≡ s
taken_left e = cc

pub done_is : {A : Type 0} {a b : A} → done a ≡ done b → a ≡ b
done_is e = cc

-- ---- bytes are left after bytes, and what is made of them

one_byte : (b : ℕ) (bs : List ℕ) → all_bytes (b ∷ bs) ≡ true → (b < 256) × (all_bytes bs ≡ true)
unfolding all_bytes
one_byte b bs e = (ltb-true b 256 (and_left (ltb b 256) (all_bytes bs) e), and_right (ltb b 256) (all_bytes bs) e)

-- a byte: a byte, and bytes are left
byte_kept : (bs : List ℕ) (a : ℕ) (end : List ℕ) → all_bytes bs ≡ true → byte bs ≡ taken a end → (a < 256) × (all_bytes end ≡ true)
byte_kept [] a end h e = absurd (let z : ◌≡◌ {A = ℕ} 0 1 = cc in omega arith)
byte_kept (b ∷ bs) a end h e =
    let same : b ≡ a = cc in
    let left : bs ≡ end = cc in
    let o = one_byte b bs h in
    (rw (← same) o.0, rw (← left) o.1)

word_kept : (bs : List ℕ) (a : ℕ) (end : List ℕ) → all_bytes bs ≡ true → word bs ≡ taken a end → (a < 65536) × (all_bytes end ≡ true)
word_kept [] a end h e = absurd (let z : ◌≡◌ {A = ℕ} 0 1 = cc in omega arith)
word_kept (b ∷ []) a end h e = absurd (let z : ◌≡◌ {A = ℕ} 0 1 = cc in omega arith)
word_kept (b ∷ c ∷ bs) a end h e =
    let same : b * 256 + c ≡ a = cc in
    let left : bs ≡ end = cc in
    let o = one_byte b (c ∷ bs) h in
    let p = one_byte c bs o.1 in
    let high = o.0 in
    let low = p.0 in
    (omega arith, rw (← left) p.1)

several_kept : {limit : ℕ} (one : List ℕ → Taken ℕ) →
    ((bs : List ℕ) (a : ℕ) (end : List ℕ) → all_bytes bs ≡ true → one bs ≡ taken a end → (a < limit) × (all_bytes end ≡ true)) →
    (n : ℕ) (bs : List ℕ) {got end : List ℕ} → all_bytes bs ≡ true → several one n bs ≡ taken got end → (length got ≡ n) × (all_bytes end ≡ true)
unfolding several
several_kept one kept zero bs {got} {end} h e =
    let none : ◌≡◌ {A = List ℕ} [] got = cc in
    let left : bs ≡ end = cc in
    (rw (← none), rw (← left) h)
several_kept one kept (suc n) bs {got} {end} h e =
    let t = took (one bs) _ e in
    let u = took (several one n t.rest) _ t.then in
    let k = several_kept one kept n t.rest (kept bs t.a t.rest h t.was).1 u.was in
    let is : (t.a ∷ u.a) ≡ got = taken_is u.then in
    let left : u.rest ≡ end = taken_left u.then in
    (rw (← is) (ap suc k.0), rw (← left) k.1)

cons_kept : (f n : ℕ) (t : Taken (List ℕ)) {fs end : List ℕ} → ((gs rest : List ℕ) → t ≡ taken gs rest → (length gs ≡ n) × (all_bytes rest ≡ true)) →
    next t (λ gs rest. taken (f ∷ gs) rest) ≡ taken fs end → (length fs ≡ suc n) × (all_bytes end ≡ true)
cons_kept f n t {fs} {end} kept e =
    let u = took t _ e in
    let k = kept u.a u.rest u.was in
    let is : (f ∷ u.a) ≡ fs = taken_is u.then in
    let left : u.rest ≡ end = taken_left u.then in
    (rw (← is) (ap suc k.0), rw (← left) k.1)

flags_kept : (n due f : ℕ) (bs fs end : List ℕ) → all_bytes bs ≡ true → flags_of n due f bs ≡ taken fs end → (length fs ≡ n) × (all_bytes end ≡ true)
unfolding flags_of
flags_kept zero due f bs fs end h e =
    let none : ◌≡◌ {A = List ℕ} [] fs = cc in
    let left : bs ≡ end = cc in
    (rw (← none), rw (← left) h)
flags_kept (suc n) (suc due) f bs fs end h e = cons_kept f n (flags_of n due f bs) (λ gs rest was. flags_kept n due f bs gs rest h was) e
flags_kept (suc n) zero f [] fs end h e = absurd (let z : ◌≡◌ {A = ℕ} 0 1 = cc in omega arith)
flags_kept (suc n) zero f (b ∷ bs) fs end h e = by (bit 8 b) (λ due rest gs left. flags_kept n due b rest gs left) e
  where
    by : (r : Bool) → ((due : ℕ) (rest gs left : List ℕ) → all_bytes rest ≡ true → flags_of n due b rest ≡ taken gs left → (length gs ≡ n) × (all_bytes left ≡ true)) →
        flagged r b bs (λ due rest. next (flags_of n due b rest) (λ gs left. taken (b ∷ gs) left)) ≡ taken fs end → (length fs ≡ suc n) × (all_bytes end ≡ true)
    by false kept q = cons_kept b n (flags_of n 0 b bs) (λ gs rest was. kept 0 bs gs rest (one_byte b bs h).1 was) q
    by true kept q =
        let t = took (byte bs) _ q in
        let k = byte_kept bs t.a t.rest (one_byte b bs h).1 t.was in
        cons_kept b n (flags_of n t.a b t.rest) (λ gs rest was. kept t.a t.rest gs rest k.1 was) t.then

in16_up : (n : ℕ) → n < 32768 → in16 (pos n) ≡ true
in16_up n h = le-leb n 32767 (omega arith)

in16_down : (n : ℕ) → n ≤ 32768 → in16 (neg_ℤ (pos n)) ≡ true
in16_down zero h = refl
in16_down (suc n) h = rw (le-leb n 32767 (omega arith))

in16_word : (v : ℕ) → v < 65536 → in16 (signed v) ≡ true
in16_word v h = by (ltb v 32768) refl
  where
    by : (t : Bool) → ltb v 32768 ≡ t → in16 (signed_if t v) ≡ true
    by true e = in16_up v (ltb-true v 32768 e)
    by false e = let high = ltb-false v 32768 e in in16_down (65536 - v) (omega arith)

difference_kept : (s m : Bool) (bs : List ℕ) (d : ℤ) (end : List ℕ) → all_bytes bs ≡ true → difference_by s m bs ≡ taken d end → (in16 d ≡ true) × (all_bytes end ≡ true)
difference_kept true true bs d end h e =
    let t = took (byte bs) _ e in
    let k = byte_kept bs t.a t.rest h t.was in
    let few = k.0 in
    let is : pos t.a ≡ d = taken_is t.then in
    let left : t.rest ≡ end = taken_left t.then in
    (rw (← is) (in16_up t.a (omega arith)), rw (← left) k.1)
difference_kept true false bs d end h e =
    let t = took (byte bs) _ e in
    let k = byte_kept bs t.a t.rest h t.was in
    let few = k.0 in
    let is : neg_ℤ (pos t.a) ≡ d = taken_is t.then in
    let left : t.rest ≡ end = taken_left t.then in
    (rw (← is) (in16_down t.a (omega arith)), rw (← left) k.1)
difference_kept false true bs d end h e =
    let is : pos 0 ≡ d = cc in
    let left : bs ≡ end = cc in
    (rw (← is), rw (← left) h)
difference_kept false false bs d end h e =
    let t = took (word bs) _ e in
    let k = word_kept bs t.a t.rest h t.was in
    let is : signed t.a ≡ d = taken_is t.then in
    let left : t.rest ≡ end = taken_left t.then in
    (rw (← is) (in16_word t.a k.0), rw (← left) k.1)

differences_kept : (short same : ℕ) (fs bs : List ℕ) (ds : List ℤ) (end : List ℕ) → all_bytes bs ≡ true → differences short same fs bs ≡ taken ds end →
    (length ds ≡ length fs) × (all16 ds ≡ true) × (all_bytes end ≡ true)
unfolding differences all16
differences_kept short same [] bs ds end h e =
    let none : ◌≡◌ {A = List ℤ} [] ds = cc in
    let left : bs ≡ end = cc in
    (rw (← none), rw (← none), rw (← left) h)
differences_kept short same (f ∷ fs) bs ds end h e =
    let t = took (difference_by (bit short f) (bit same f) bs) _ e in
    let k = difference_kept (bit short f) (bit same f) bs t.a t.rest h t.was in
    let u = took (differences short same fs t.rest) _ t.then in
    let l = differences_kept short same fs t.rest u.a u.rest k.1 u.was in
    let is : (t.a ∷ u.a) ≡ ds = taken_is u.then in
    let left : u.rest ≡ end = taken_left u.then in
    (rw (← is) (ap suc l.0), rw (← is, k.0) l.1, rw (← left) l.2)

-- ---- the parts of a description

record Fits (n : ℕ) (p : Parts) : Type 0 where
  few : length p.ends ≡ n
  short : length p.instructions < 65536
  count : length p.flags ≡ count_of p.ends
  as_x : length p.dxs ≡ length p.flags
  as_y : length p.dys ≡ length p.flags
  near_x : all16 p.dxs ≡ true
  near_y : all16 p.dys ≡ true

parts_fit : (n : ℕ) (bs : List ℕ) (p : Parts) (end : List ℕ) → all_bytes bs ≡ true → parts_of n bs ≡ taken p end → Fits n p
unfolding parts_of
parts_fit n bs p end h e =
    let a = took (several byte 8 bs) _ e in
    let ka = several_kept byte byte_kept 8 bs h a.was in
    let b = took (several word n a.rest) _ a.then in
    let kb = several_kept word word_kept n a.rest ka.1 b.was in
    let c = took (word b.rest) _ b.then in
    let kc = word_kept b.rest c.a c.rest kb.1 c.was in
    let d = took (several byte c.a c.rest) _ c.then in
    let kd = several_kept byte byte_kept c.a c.rest kc.1 d.was in
    let f = took (flags_of (count_of b.a) 0 0 d.rest) _ d.then in
    let kf = flags_kept (count_of b.a) 0 0 d.rest f.a f.rest kd.1 f.was in
    let x = took (differences 2 16 f.a f.rest) _ f.then in
    let kx = differences_kept 2 16 f.a f.rest x.a x.rest kf.1 x.was in
    let y = took (differences 4 32 f.a x.rest) _ x.then in
    let ky = differences_kept 4 32 f.a x.rest y.a y.rest kx.2 y.was in
    let is : ◌≡◌ {A = Parts} (record { ends = b.a; instructions = d.a; flags = f.a; dxs = x.a; dys = y.a }) p = taken_is y.then in
    rw (← is) (record { few = kb.0; short = rw kd.0 kc.0; count = kf.0; as_x = kx.0; as_y = ky.0; near_x = kx.1; near_y = ky.1 })

pub sums_length : (z : ℤ) (ds : List ℤ) → length (sums z ds) ≡ length ds
unfolding sums
sums_length z [] = refl
sums_length z (d ∷ ds) = ap suc (sums_length (z +ℤ d) ds)

-- a glyph that was read: it can be written, its instructions fit their field, and its flags are 1 or 0
record Readable (g : Glyph) : Type 0 where
  whole : Whole g
  short : length g.instructions < 65536
  on : map is_on g.flags ≡ g.flags

once : (fs : List ℕ) → map is_on (map is_on fs) ≡ map is_on fs
once [] = refl
once (f ∷ fs) = let e : f % 2 % 2 ≡ f % 2 = omega arith in λ k. e k ∷ once fs k

abbrev read_glyph : Parts → Glyph
read_glyph p = glyph p.ends (sums (pos 0) p.dxs) (sums (pos 0) p.dys) (map is_on p.flags) p.instructions

readable : (n : ℕ) (p : Parts) → n < 32768 → Fits n p → rising p.ends ≡ true → all16 (sums (pos 0) p.dxs) ≡ true → all16 (sums (pos 0) p.dys) ≡ true →
    Readable (read_glyph p)
readable n p h f rise xs ys =
    let points = length-map p.flags is_on in
    let ends = f.few in
    record {
      whole = record {
        few = omega arith;
        rise = rise;
        count = sym (points ∙ f.count);
        as_xs = sums_length (pos 0) p.dxs ∙ f.as_x ∙ sym points;
        as_ys = sums_length (pos 0) p.dys ∙ f.as_y ∙ sym points;
        near_xs = rw (steps_sums (pos 0) p.dxs) f.near_x;
        near_ys = rw (steps_sums (pos 0) p.dys) f.near_y;
        xs = xs;
        ys = ys;
      };
      short = f.short;
      on = once p.flags;
    }

module _ (g : Glyph) where
  judged_read : (n : ℕ) (t : Taken Parts) → n < 32768 → ((p : Parts) (end : List ℕ) → t ≡ taken p end → Fits n p) → judged_parts t ≡ done g → Readable g
  judged_read n cut h fits e = absurd (let z : ◌≡◌ {A = ℕ} 0 1 = cc in omega arith)
  judged_read n (taken p end) h fits e = by (rising p.ends) refl (all16 (sums (pos 0) p.dxs)) refl (all16 (sums (pos 0) p.dys)) refl e
    where
      by : (a : Bool) → rising p.ends ≡ a → (b : Bool) → all16 (sums (pos 0) p.dxs) ≡ b → (c : Bool) → all16 (sums (pos 0) p.dys) ≡ c →
          refuse EndsNotRising (not a) (refuse TooLarge (not (b && c)) (done (read_glyph p))) ≡ done g → Readable g
      by true q true r true s e =
          let is : read_glyph p ≡ g = done_is e in
          rw (← is) (readable n p h (fits p end refl) q r s)
      by false q b r c s e = absurd (let z : ◌≡◌ {A = ℕ} 0 1 = cc in omega arith)
      by true q false r c s e = absurd (let z : ◌≡◌ {A = ℕ} 0 1 = cc in omega arith)
      by true q true r false s e = absurd (let z : ◌≡◌ {A = ℕ} 0 1 = cc in omega arith)

  headed_read : (t : Taken ℕ) → ((n : ℕ) (bs : List ℕ) → t ≡ taken n bs → all_bytes bs ≡ true) → headed t ≡ done g → Readable g
  headed_read cut kept e = absurd (let z : ◌≡◌ {A = ℕ} 0 1 = cc in omega arith)
  headed_read (taken n bs) kept e = by (ltb n 32768) refl e
    where
      by : (b : Bool) → ltb n 32768 ≡ b → simple_only b n bs ≡ done g → Readable g
      by true q e = judged_read n (parts_of n bs) (ltb-true n 32768 q) (λ p end was. parts_fit n bs p end (kept n bs refl) was) e
      by false q e = absurd (let z : ◌≡◌ {A = ℕ} 0 1 = cc in omega arith)

  read : (bytes : List ℕ) → all_bytes bytes ≡ true → described bytes ≡ done g → Readable g
  unfolding described
  read bytes h e = headed_read (word bytes) (λ n bs was. (word_kept bytes n bs h was).1) e

-- ---- written again

module _ (g : Glyph) (r : Readable g) where
  abbrev w : Whole g
  w = r.whole

  all_taken_lem : trimmed g ≡ g
  all_taken_lem =
      let n = count_of g.ends in
      let fs : take n g.flags ≡ g.flags = take_all n g.flags (omega (arith, w.count)) in
      let xs : take n g.xs ≡ g.xs = take_all n g.xs (omega (arith, w.count, w.as_xs)) in
      let ys : take n g.ys ≡ g.ys = take_all n g.ys (omega (arith, w.count, w.as_ys)) in
      λ k. glyph g.ends (xs k) (ys k) (fs k) g.instructions

  not_large : too_large g ≡ false
  not_large =
      let few : length g.ends < 32768 = w.few in
      let short : length g.instructions < 65536 = r.short in
      rw (le-ltb 32767 (length g.ends) (omega arith), le-ltb 65535 (length g.instructions) (omega arith), w.near_xs, w.near_ys)

  writes : (room : ℕ) → written_of room g ≡ fitting room (bytes_of g)
  unfolding written_of
  writes room =
      rw (
        eq-eqb (length g.xs) (length g.ys) (w.as_xs ∙ sym w.as_ys),
        eq-eqb (length g.xs) (length g.flags) w.as_xs,
        le-ltb (length g.flags) (count_of g.ends) (omega (arith, w.count)),
        w.rise,
      )
      (ap (λ (v : Glyph). refuse TooLarge (too_large v) (fitting room (bytes_of v))) all_taken_lem ∙ ap (λ (t : Bool). refuse TooLarge t (fitting room (bytes_of g))) not_large)

pub read_written_again : ReadWrittenAgain
read_written_again bytes g h e =
    let r = read g bytes h e in
    record { writes = writes g r; says = whole_back g r.whole ∙ ap (λ (fs : List ℕ). done (glyph g.ends g.xs g.ys fs g.instructions)) r.on }

-- ---- the box

picked_16 : (t : Bool) (a b : ℤ) → in16 a ≡ true → in16 b ≡ true → in16 (pick t a b) ≡ true
picked_16 true a b h k = h
picked_16 false a b h k = k

least_16 : (z : ℤ) (xs : List ℤ) → in16 z ≡ true → all16 xs ≡ true → in16 (least_from z xs) ≡ true
unfolding least_from all16
least_16 z [] h k = h
least_16 z (x ∷ xs) h k = least_16 (pick (le_z z x) z x) xs (picked_16 (le_z z x) z x h (and_left (in16 x) (all16 xs) k)) (and_right (in16 x) (all16 xs) k)

greatest_16 : (z : ℤ) (xs : List ℤ) → in16 z ≡ true → all16 xs ≡ true → in16 (greatest_from z xs) ≡ true
unfolding greatest_from all16
greatest_16 z [] h k = h
greatest_16 z (x ∷ xs) h k = greatest_16 (pick (le_z x z) z x) xs (picked_16 (le_z x z) z x h (and_left (in16 x) (all16 xs) k)) (and_right (in16 x) (all16 xs) k)

least_fits : (xs : List ℤ) → all16 xs ≡ true → in16 (least xs) ≡ true
unfolding least all16
least_fits [] h = refl
least_fits (x ∷ xs) h = least_16 x xs (and_left (in16 x) (all16 xs) h) (and_right (in16 x) (all16 xs) h)

greatest_fits : (xs : List ℤ) → all16 xs ≡ true → in16 (greatest xs) ≡ true
unfolding greatest all16
greatest_fits [] h = refl
greatest_fits (x ∷ xs) h = greatest_16 x xs (and_left (in16 x) (all16 xs) h) (and_right (in16 x) (all16 xs) h)

pub box_written : BoxWritten
unfolding bytes_of joined several
box_written room g bytes h e =
    let w = written room g bytes e in
    let v = whole_of h w in
    let a = sign_back (least (trimmed g).xs) (least_fits (trimmed g).xs v.xs) in
    let b = sign_back (least (trimmed g).ys) (least_fits (trimmed g).ys v.ys) in
    let c = sign_back (greatest (trimmed g).xs) (greatest_fits (trimmed g).xs v.xs) in
    let d = sign_back (greatest (trimmed g).ys) (greatest_fits (trimmed g).ys v.ys) in
    rw (
      w.is,
      div-add-mod' (unsigned (least (trimmed g).xs)) 256,
      div-add-mod' (unsigned (least (trimmed g).ys)) 256,
      div-add-mod' (unsigned (greatest (trimmed g).xs)) 256,
      div-add-mod' (unsigned (greatest (trimmed g).ys)) 256,
      a,
      b,
      c,
      d,
    )
