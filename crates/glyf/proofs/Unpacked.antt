-- Flags packed into runs and read back: the same but for the repeat bit. Assumes nothing.
use Prim.Native.Nat.{ℕ, zero, suc, ◌+◌, ◌-◌, ◌*◌, ◌/◌, ◌%◌, ◌≤◌}
use mathlib.Core.Bool.{Bool, true, false, ◌&&◌}
use mathlib.Core.List.{List, [], ◌∷◌, ◌++◌, append_assoc}
use mathlib.Core.Path.{◌≡◌, refl, sym, ap, ◌∙◌}
use native.Mathlib.Omega.{arith}
use borrow.Author.Tests.{lt-ltb, eqb-true, eqb-false, eq-eqb}
use lib.Dec.{eqb, ltb}
use lib.ListN.{length, replicate}
use Rattle.glyf.specs.Layout.{Taken, taken, cut, next, bit, flags_of, run_of, packed, packed_if, packed_flags}

-- ---- lists of flags

-- the repeat bit is clear in each, and set where 8 is added
pub data Plain : List ℕ → Type 0 where
  none : Plain []
  one : {c : ℕ} {cs : List ℕ} → bit 8 c ≡ false → Plain cs → Plain (c ∷ cs)

-- the same but for the repeat bit
pub data Alike : List ℕ → List ℕ → Type 0 where
  none : Alike [] []
  one : {f c : ℕ} {fs cs : List ℕ} (r : ℕ) → r ≤ 1 → f ≡ c + 8 * r → Alike fs cs → Alike (f ∷ fs) (c ∷ cs)

plainly : (c : ℕ) {fs cs : List ℕ} → Alike fs cs → Alike (c ∷ fs) (c ∷ cs)
plainly c a = one {f = c} {c = c} 0 (omega arith) (omega arith) a

together : {fs cs gs ds : List ℕ} → Alike fs cs → Alike gs ds → Alike (fs ++ gs) (cs ++ ds)
together none b = b
together (one r h e a) b = one r h e (together a b)

-- a run, with the repeat bit or without
run_alike : (k f r : ℕ) → r ≤ 1 → Alike (replicate k (f + 8 * r)) (replicate k f)
run_alike zero f r h = none
run_alike (suc k) f r h = one r h refl (run_alike k f r h)

-- ---- reading

abbrev in_front : List ℕ → Taken (List ℕ) → Taken (List ℕ)
in_front a (taken fs end) = taken (a ++ fs) end
in_front a cut = cut

front_one : (f : ℕ) (a : List ℕ) (t : Taken (List ℕ)) → next (in_front a t) (λ fs end. taken (f ∷ fs) end) ≡ in_front (f ∷ a) t
front_one f a (taken fs end) = refl
front_one f a cut = refl

front_only : (f : ℕ) (t : Taken (List ℕ)) → next t (λ fs end. taken (f ∷ fs) end) ≡ in_front (f ∷ []) t
front_only f (taken fs end) = refl
front_only f cut = refl

front_none : (t : Taken (List ℕ)) → in_front [] t ≡ t
front_none (taken fs end) = refl
front_none cut = refl

-- the last flag does not count where it is not due
no_due : (n z z' : ℕ) (bs : List ℕ) → flags_of n 0 z bs ≡ flags_of n 0 z' bs
unfolding flags_of
no_due zero z z' bs = refl
no_due (suc n) z z' [] = refl
no_due (suc n) z z' (b ∷ bs) = refl

-- a flag that is due m times
due_run : (m f h : ℕ) (gs more : List ℕ) → flags_of (length (replicate m f ++ gs)) m h more ≡ in_front (replicate m h) (flags_of (length gs) 0 h more)
unfolding flags_of
due_run zero f h gs more = sym (front_none (flags_of (length gs) 0 h more))
due_run (suc m) f h gs more = rw (due_run m f h gs more) (front_one h (replicate m h) (flags_of (length gs) 0 h more))

-- one flag that is plain
plain_one : (f n z : ℕ) (more : List ℕ) → bit 8 f ≡ false → flags_of (suc n) 0 z (f ∷ more) ≡ in_front (f ∷ []) (flags_of n 0 f more)
unfolding flags_of
plain_one f n z more e = rw e (front_only f (flags_of n 0 f more))

-- a run that was packed: its flags, and then what follows
record Run (f k : ℕ) (gs more : List ℕ) (t : Taken (List ℕ)) : Type 0 where
  run : List ℕ
  alike : Alike run (replicate k f)
  is : t ≡ in_front run (flags_of (length gs) 0 0 more)

front_front : (a b : List ℕ) (t : Taken (List ℕ)) → in_front a (in_front b t) ≡ in_front (a ++ b) t
front_front a b (taken fs end) = ap (λ (l : List ℕ). taken l end) (sym (append_assoc a b fs))
front_front a b cut = refl

module _ (f : ℕ) (plain : bit 8 f ≡ false) (repeat : bit 8 (f + 8 * 1) ≡ true) (gs more : List ℕ) (z : ℕ) where
  repeated : (m : ℕ) → flags_of (suc (length (replicate m f ++ gs))) 0 z ((f + 8) ∷ m ∷ more) ≡ in_front (replicate (suc m) (f + 8 * 1)) (flags_of (length gs) 0 0 more)
  unfolding flags_of
  repeated m =
      rw (repeat, due_run m f (f + 8) gs more) (front_one (f + 8) (replicate m (f + 8)) (flags_of (length gs) 0 (f + 8) more)
      ∙ ap (in_front (replicate (suc m) (f + 8))) (no_due (length gs) (f + 8) 0 more))

  run_back : (k : ℕ) → 1 ≤ k → Run f k gs more (flags_of (length (replicate k f ++ gs)) 0 z (run_of f k ++ more))
  run_back zero h = absurd (omega arith)
  run_back (suc zero) h = record {
    run = f ∷ [];
    alike = plainly f none;
    is = plain_one f (length gs) z more plain ∙ ap (in_front (f ∷ [])) (no_due (length gs) f 0 more);
  }
  run_back (suc (suc zero)) h = record {
    run = f ∷ f ∷ [];
    alike = plainly f (plainly f none);
    is =
        plain_one f (suc (length gs)) z (f ∷ more) plain
        ∙ ap (in_front (f ∷ [])) (plain_one f (length gs) f more plain ∙ ap (in_front (f ∷ [])) (no_due (length gs) f 0 more))
        ∙ front_front (f ∷ []) (f ∷ []) (flags_of (length gs) 0 0 more);
  }
  run_back (suc (suc (suc k))) h = record { run = replicate (suc (suc (suc k))) (f + 8 * 1); alike = run_alike (suc (suc (suc k))) f 1 (omega arith); is = long }
    where
      long : flags_of (length (replicate (suc (suc (suc k))) f ++ gs)) 0 z (run_of f (suc (suc (suc k))) ++ more)
          ≡ in_front (replicate (suc (suc (suc k))) (f + 8 * 1)) (flags_of (length gs) 0 0 more)
      long =
          let many : ltb 2 (suc (suc (suc k))) ≡ true = lt-ltb 2 (suc (suc (suc k))) (omega arith) in
          let left : suc (suc (suc k)) - 1 ≡ suc (suc k) = omega arith in
          rw (many, left) (repeated (suc (suc k)))

-- ---- the whole

-- flags that are read, the same but for the repeat bit
pub record Unpacks (t : Taken (List ℕ)) (cs rest : List ℕ) : Type 0 where
  pub fs : List ℕ
  pub alike : Alike fs cs
  pub is : t ≡ taken fs rest

repeated_flag : (f : ℕ) → bit 8 f ≡ false → bit 8 (f + 8 * 1) ≡ true
repeated_flag f e = eq-eqb ((f + 8 * 1) / 8 % 2) 1 (let n = eqb-false (f / 8 % 2) 1 e in odd n)
  where
    odd : (f / 8 % 2 ≡ 1 → ⊥) → (f + 8 * 1) / 8 % 2 ≡ 1
    odd n = omega (arith, n)

longer : (k f : ℕ) (gs : List ℕ) → replicate (k + 1) f ++ gs ≡ replicate k f ++ (f ∷ gs)
longer zero f gs = refl
longer (suc k) f gs =
    let e : suc k + 1 ≡ suc (k + 1) = omega arith in
    rw e (ap (◌∷◌ f) (longer k f gs))

after : {f k : ℕ} {gs more rest : List ℕ} {t : Taken (List ℕ)} → Run f k gs more t → Unpacks (flags_of (length gs) 0 0 more) gs rest →
    Unpacks t (replicate k f ++ gs) rest
after r u = record { fs = r.run ++ u.fs; alike = together r.alike u.alike; is = r.is ∙ ap (in_front r.run) u.is }

nothing_left : (rest : List ℕ) → Unpacks (flags_of 0 0 0 rest) [] rest
unfolding flags_of
nothing_left rest = record { fs = []; alike = none; is = refl }

pack_back : (gs : List ℕ) (f k : ℕ) → bit 8 f ≡ false → Plain gs → 1 ≤ k → (z : ℕ) (rest : List ℕ) →
    Unpacks (flags_of (length (replicate k f ++ gs)) 0 z (packed gs f k ++ rest)) (replicate k f ++ gs) rest
unfolding packed
pack_back [] f k e p h z rest = after (run_back f e (repeated_flag f e) [] rest z k h) (nothing_left rest)
pack_back (g ∷ gs) f k e (one d p) h z rest = by (eqb g f) refl (ltb k 256) (λ z'. pack_back gs f (k + 1) e p (omega arith) z' rest) (λ z'. pack_back gs g 1 d p (omega arith) z' rest)
  where
    turned : Unpacks (flags_of (length (g ∷ gs)) 0 0 (packed gs g 1 ++ rest)) (g ∷ gs) rest →
        Unpacks (flags_of (length (replicate k f ++ (g ∷ gs))) 0 z ((run_of f k ++ packed gs g 1) ++ rest)) (replicate k f ++ (g ∷ gs)) rest
    turned u = rw (append_assoc (run_of f k) (packed gs g 1) rest) (after (run_back f e (repeated_flag f e) (g ∷ gs) (packed gs g 1 ++ rest) z k h) u)

    by : (s : Bool) → eqb g f ≡ s → (t : Bool) →
        ((z : ℕ) → Unpacks (flags_of (length (replicate (k + 1) f ++ gs)) 0 z (packed gs f (k + 1) ++ rest)) (replicate (k + 1) f ++ gs) rest) →
        ((z : ℕ) → Unpacks (flags_of (length (g ∷ gs)) 0 z (packed gs g 1 ++ rest)) (g ∷ gs) rest) →
        Unpacks (flags_of (length (replicate k f ++ (g ∷ gs))) 0 z (packed_if (s && t) f k g (λ h m. packed gs h m) ++ rest)) (replicate k f ++ (g ∷ gs)) rest
    by true q true on off = rw (eqb-true g f q, ← longer k f gs) (on z)
    by true q false on off = turned (off 0)
    by false q t on off = turned (off 0)

pub flags_back : (cs : List ℕ) → Plain cs → (rest : List ℕ) → Unpacks (flags_of (length cs) 0 0 (packed_flags cs ++ rest)) cs rest
unfolding packed_flags
flags_back [] p rest = nothing_left rest
flags_back (c ∷ cs) (one e p) rest = pack_back cs c 1 e p (omega arith) 0 rest
