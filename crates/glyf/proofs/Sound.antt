-- What bytes say, whatever numbers they are: the ends rise, and there are as many points as the last of them says. Assumes nothing.
use Prim.Native.Nat.{ℕ, zero, suc}
use mathlib.Core.Bool.{Bool, true, false, not, ◌&&◌}
use mathlib.Core.List.{List, [], ◌∷◌}
use mathlib.Core.Path.{◌≡◌, refl, ap, ◌∙◌}
use native.Mathlib.Omega.{arith}
use lib.Dec.{ltb}
use lib.IntN.{ℤ, pos}
use lib.ListN.{length, length-map}
use Rattle.refusals.specs.declared.refusal.Refusal.TheVariants.{OutputTooShort, EndsNotRising, TooLarge}
use Rattle.glyf.specs.Layout.{Glyph, Outcome, done, refused, refuse, Taken, taken, cut, next, byte, word, several, bit, is_on, flagged, flags_of}
use Rattle.glyf.specs.Layout.{difference_by, differences, Parts, count_of, parts_of, sums, all16, rising, glyph_of, judged_parts, simple_only, headed}
use Rattle.glyf.specs.Layout.{described, Rooms, too_small, roomy, read_of}
use Rattle.glyf.proofs.Again.{took, taken_is, done_is, sums_length}

cons_count : (f n : ℕ) (t : Taken (List ℕ)) {fs end : List ℕ} → ((gs rest : List ℕ) → t ≡ taken gs rest → length gs ≡ n) →
    next t (λ gs rest. taken (f ∷ gs) rest) ≡ taken fs end → length fs ≡ suc n
cons_count f n t {fs} counts e =
    let u = took t _ e in
    let is : (f ∷ u.a) ≡ fs = taken_is u.then in
    rw (← is) (ap suc (counts u.a u.rest u.was))

flags_count : (n due f : ℕ) (bs fs end : List ℕ) → flags_of n due f bs ≡ taken fs end → length fs ≡ n
unfolding flags_of
flags_count zero due f bs fs end e = let none : ◌≡◌ {A = List ℕ} [] fs = cc in rw (← none)
flags_count (suc n) (suc due) f bs fs end e = cons_count f n (flags_of n due f bs) (λ gs rest was. flags_count n due f bs gs rest was) e
flags_count (suc n) zero f [] fs end e = absurd (let z : ◌≡◌ {A = ℕ} 0 1 = cc in omega arith)
flags_count (suc n) zero f (b ∷ bs) fs end e = by (bit 8 b) (λ due rest gs left was. flags_count n due b rest gs left was) e
  where
    by : (r : Bool) → ((due : ℕ) (rest gs left : List ℕ) → flags_of n due b rest ≡ taken gs left → length gs ≡ n) →
        flagged r b bs (λ due rest. next (flags_of n due b rest) (λ gs left. taken (b ∷ gs) left)) ≡ taken fs end → length fs ≡ suc n
    by false counts q = cons_count b n (flags_of n 0 b bs) (λ gs rest was. counts 0 bs gs rest was) q
    by true counts q =
        let t = took (byte bs) _ q in
        cons_count b n (flags_of n t.a b t.rest) (λ gs rest was. counts t.a t.rest gs rest was) t.then

differences_count : (short same : ℕ) (fs bs : List ℕ) (ds : List ℤ) (end : List ℕ) → differences short same fs bs ≡ taken ds end → length ds ≡ length fs
unfolding differences
differences_count short same [] bs ds end e = let none : ◌≡◌ {A = List ℤ} [] ds = cc in rw (← none)
differences_count short same (f ∷ fs) bs ds end e =
    let t = took (difference_by (bit short f) (bit same f) bs) _ e in
    let u = took (differences short same fs t.rest) _ t.then in
    let is : (t.a ∷ u.a) ≡ ds = taken_is u.then in
    rw (← is) (ap suc (differences_count short same fs t.rest u.a u.rest u.was))

record Counted (p : Parts) : Type 0 where
  count : length p.flags ≡ count_of p.ends
  as_x : length p.dxs ≡ length p.flags
  as_y : length p.dys ≡ length p.flags

parts_counted : (n : ℕ) (bs : List ℕ) (p : Parts) (end : List ℕ) → parts_of n bs ≡ taken p end → Counted p
unfolding parts_of
parts_counted n bs p end e =
    let a = took (several byte 8 bs) _ e in
    let b = took (several word n a.rest) _ a.then in
    let c = took (word b.rest) _ b.then in
    let d = took (several byte c.a c.rest) _ c.then in
    let f = took (flags_of (count_of b.a) 0 0 d.rest) _ d.then in
    let x = took (differences 2 16 f.a f.rest) _ f.then in
    let y = took (differences 4 32 f.a x.rest) _ x.then in
    let is : ◌≡◌ {A = Parts} (record { ends = b.a; instructions = d.a; flags = f.a; dxs = x.a; dys = y.a }) p = taken_is y.then in
    rw (← is) (record {
      count = flags_count (count_of b.a) 0 0 d.rest f.a f.rest f.was;
      as_x = differences_count 2 16 f.a f.rest x.a x.rest x.was;
      as_y = differences_count 4 32 f.a x.rest y.a y.rest y.was;
    })

-- a glyph whose contours are stretches of its points
pub record Sound (g : Glyph) : Type 0 where
  pub rise : rising g.ends ≡ true
  pub as_xs : length g.xs ≡ count_of g.ends
  pub as_ys : length g.ys ≡ count_of g.ends
  pub as_flags : length g.flags ≡ count_of g.ends

parts_sound : (p : Parts) → rising p.ends ≡ true → Counted p → Sound (glyph_of p)
parts_sound p rise c = record {
  rise = rise;
  as_xs = sums_length (pos 0) p.dxs ∙ c.as_x ∙ c.count;
  as_ys = sums_length (pos 0) p.dys ∙ c.as_y ∙ c.count;
  as_flags = length-map p.flags is_on ∙ c.count;
}

module _ (g : Glyph) where
  judged_sound : (t : Taken Parts) → ((p : Parts) (end : List ℕ) → t ≡ taken p end → Counted p) → judged_parts t ≡ done g → Sound g
  judged_sound cut counted e = absurd (let z : ◌≡◌ {A = ℕ} 0 1 = cc in omega arith)
  judged_sound (taken p end) counted e = by (rising p.ends) refl (all16 (sums (pos 0) p.dxs) && all16 (sums (pos 0) p.dys)) e
    where
      by : (a : Bool) → rising p.ends ≡ a → (b : Bool) → refuse EndsNotRising (not a) (refuse TooLarge (not b) (done (glyph_of p))) ≡ done g → Sound g
      by true q true e = let is : glyph_of p ≡ g = done_is e in rw (← is) (parts_sound p q (counted p end refl))
      by false q b e = absurd (let z : ◌≡◌ {A = ℕ} 0 1 = cc in omega arith)
      by true q false e = absurd (let z : ◌≡◌ {A = ℕ} 0 1 = cc in omega arith)

  headed_sound : (t : Taken ℕ) → headed t ≡ done g → Sound g
  headed_sound cut e = absurd (let z : ◌≡◌ {A = ℕ} 0 1 = cc in omega arith)
  headed_sound (taken n bs) e = by (ltb n 32768) e
    where
      by : (b : Bool) → simple_only b n bs ≡ done g → Sound g
      by true e = judged_sound (parts_of n bs) (λ p end was. parts_counted n bs p end was) e
      by false e = absurd (let z : ◌≡◌ {A = ℕ} 0 1 = cc in omega arith)

  pub sound : (bytes : List ℕ) → described bytes ≡ done g → Sound g
  unfolding described
  sound bytes e = headed_sound (word bytes) e

  roomy_done : (r : Rooms) (o : Outcome Glyph) → roomy r o ≡ done g → o ≡ done g
  roomy_done r (refused k) e = absurd (let z : ◌≡◌ {A = ℕ} 0 1 = cc in omega arith)
  roomy_done r (done h) e = by (too_small r h) e
    where
      by : (b : Bool) → refuse OutputTooShort b (done h) ≡ done g → done h ≡ done g
      by true e = absurd (let z : ◌≡◌ {A = ℕ} 0 1 = cc in omega arith)
      by false e = e

  -- what is read is what the bytes say
  pub read_says : (r : Rooms) (bytes : List ℕ) → read_of r bytes ≡ done g → described bytes ≡ done g
  unfolding read_of
  read_says r bytes e = roomy_done r (described bytes) e
