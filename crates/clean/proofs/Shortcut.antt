-- One pass drops what dropping the lowest place first, from the start each time, drops. A row is held as a stack of points that are passed,
-- the last on top, and the rest. No point of the stack repeats its neighbours (Steady), and a drop ahead of it leaves that so: whatever is
-- dropped there, the point before it is on-curve, and an on-curve point is dropped for the point before it alone. Only the last point of all
-- looks further, at the first: it is looked at when the rest is empty, and after it has gone nothing more goes. Assumes nothing.
use Prim.Native.Nat.{ℕ, zero, suc, ◌-◌, ◌≤◌}
use mathlib.Core.Bool.{Bool, true, false, not, ◌&&◌, true≢false, false≢true}
use mathlib.Core.List.{List, [], ◌∷◌, ◌++◌, append-nil, append_assoc}
use mathlib.Core.Path.{◌≡◌, refl, sym, ap, ◌∙◌}
use native.Mathlib.Omega.{arith}
use borrow.Author.Tests.{lt-ltb}
use lib.Dec.{ltb}
use lib.ListN.{length, take, length-append}
use lib.Seq.{take_at}
use Rattle.clean.specs.Clean.{or_else, next_in, Look, none, gone, behind, at_place, Cleaning, cleaned, listing, is_before, is_both, is_first, lowest, dropping}
use Rattle.clean.specs.Pass.{going, repeats, passing, closing, swept}

-- ---- the three reasons, by tests that hold or not

-- neither before nor both
neither : (a b : Bool) → or_else a 1 (or_else b 2 0) ≡ 0 → (a ≡ false) × (b ≡ false)
neither true b h = absurd (omega arith)
neither false true h = absurd (omega arith)
neither false false h = (refl, refl)

-- then only first is left
only_first : (a b : Bool) (c : ℕ) → or_else a 1 (or_else b 2 0) ≡ 0 → or_else a 1 (or_else b 2 c) ≡ c
only_first true b c h = absurd (omega arith)
only_first false true c h = absurd (omega arith)
only_first false false c h = refl

-- one of them, whatever comes later
one_of : (a b : Bool) (c w : ℕ) → or_else a 1 (or_else b 2 0) ≡ suc w → or_else a 1 (or_else b 2 c) ≡ suc w
one_of true b c w h = h
one_of false true c w h = h
one_of false false c w h = absurd (omega arith)

-- a point that goes has an on-curve point before it: of p, of the point before
pub before_on : (p b e f : Bool) (w : ℕ) → (b ≡ false → p ≡ true) → or_else (p && (b && e)) 1 (or_else (not p && (e && f)) 2 0) ≡ suc w → b ≡ true
before_on p true e f w apart h = refl
before_on true false e f w apart h = absurd (omega arith)
before_on false false e f w apart h = absurd (false≢true (apart refl))

-- an on-curve point does not look at the next
on_still : (p b e f g : Bool) → p ≡ true → or_else (p && (b && e)) 1 (or_else (not p && (e && f)) 2 0) ≡ 0 → or_else (p && (b && e)) 1 (or_else (not p && (e && g)) 2 0) ≡ 0
on_still true b e f g on h = h
on_still false b e f g on h = absurd (false≢true on)

-- the point s before a last point t that has gone for first: b the point before s, z place 0
after_first : (s t b sb sz st ts : Bool) →
    or_else (s && (b && sb)) 1 (or_else (not s && (sb && st)) 2 0) ≡ 0 → (t && (s && ts)) ≡ false → t ≡ true → (sz ≡ true → st ≡ true) → (sz ≡ true → ts ≡ true) →
    or_else (s && (b && sb)) 1 (or_else (not s && (sb && sz)) 2 (or_else (s && sz) 3 0)) ≡ 0
after_first true t b sb true st ts h g on f e = absurd (true≢false (sym (rw (on, e refl)) ∙ g))
after_first true t b sb false st ts h g on f e = h
after_first false t b false sz st ts h g on f e = refl
after_first false t b true true st ts h g on f e = absurd (omega (arith, ap (λ (x : Bool). or_else x 2 0) (sym (f refl)) ∙ h))
after_first false t b true false st ts h g on f e = refl

pub both_hold : (a b : Bool) → (a && b) ≡ true → (a ≡ true) × (b ≡ true)
both_hold true b h = (refl, h)
both_hold false b h = absurd (false≢true h)

-- ---- stacks

in_order : List ℕ → List ℕ → List ℕ
in_order [] rest = rest
in_order (t ∷ stack) rest = in_order stack (t ∷ rest)

in_order_lem : (stack rest : List ℕ) → in_order stack rest ≡ in_order stack [] ++ rest
unfolding in_order
in_order_lem [] rest = refl
in_order_lem (t ∷ stack) rest = in_order_lem stack (t ∷ rest) ∙ sym (rw (in_order_lem stack (t ∷ [])) (append_assoc (in_order stack []) (t ∷ []) rest))

size : (stack rest : List ℕ) (p : ℕ) → length (in_order stack (p ∷ rest)) ≡ suc (length (in_order stack rest))
size stack rest p =
    rw (in_order_lem stack (p ∷ rest), in_order_lem stack rest) (omega (arith, length-append (in_order stack []) (p ∷ rest), length-append (in_order stack []) rest))

behind_all : List ℕ → Look → Look
behind_all [] look = look
behind_all (t ∷ stack) look = behind_all stack (behind t look)

all_none : (stack : List ℕ) → behind_all stack none ≡ none
unfolding behind_all
all_none [] = refl
all_none (t ∷ stack) = all_none stack

all_gone : (stack row : List ℕ) (k w : ℕ) → behind_all stack (gone row k w) ≡ gone (in_order stack row) k w
unfolding behind_all in_order
all_gone [] row k w = refl
all_gone (t ∷ stack) row k w = all_gone stack (t ∷ row) k w

top : ℕ → List ℕ → ℕ
top p0 [] = p0
top p0 (t ∷ stack) = t

-- so many drops before
earlier : List (List ℕ) → Cleaning → Cleaning
earlier ds (cleaned kept drops) = cleaned kept (ds ++ drops)

one_earlier : (ds : List (List ℕ)) (k w : ℕ) (c : Cleaning) → earlier ds (listing k w c) ≡ earlier (ds ++ ((k ∷ w ∷ []) ∷ [])) c
unfolding earlier
one_earlier ds k w (cleaned kept drops) = ap (cleaned kept) (sym (append_assoc ds ((k ∷ w ∷ []) ∷ []) drops))

module _ (on : ℕ → Bool) where
  -- no two neighbours off-curve, from the point before the rest on
  pub data Apart : ℕ → List ℕ → Type 0 where
    end : {b : ℕ} → Apart b []
    on_next : {b p : ℕ} {rest : List ℕ} → (on b ≡ false → on p ≡ true) → Apart p rest → Apart b (p ∷ rest)

  -- an on-curve point may stand before what an apart row leaves
  pub skip_one : {b c p : ℕ} {rest : List ℕ} → on c ≡ true → Apart b (p ∷ rest) → Apart c rest
  skip_one {c = c} is (on_next h end) = end
  skip_one {c = c} is (on_next h (on_next g more)) = on_next (λ off. absurd (true≢false (sym is ∙ off))) more

  pub next_on : {b p : ℕ} {rest : List ℕ} → Apart b (p ∷ rest) → on b ≡ false → on p ≡ true
  next_on (on_next h more) = h

  pub later : {b p : ℕ} {rest : List ℕ} → Apart b (p ∷ rest) → Apart p rest
  later (on_next h more) = more

module _ (on : ℕ → Bool) (equal : ℕ → ℕ → Bool) (p0 : ℕ)
    (back : (a b : ℕ) → equal a b ≡ true → equal b a ≡ true) (through : (a b c : ℕ) → equal a b ≡ true → equal b c ≡ true → equal a c ≡ true) where
  abbrev again : ℕ → ℕ → ℕ → ℕ
  again = repeats on equal p0

  -- no point of a stack repeats its neighbours; the point after it is told
  data Steady : List ℕ → ℕ → Type 0 where
    bottom : {next : ℕ} → Steady [] next
    upon : {t next : ℕ} {stack : List ℕ} → again (top p0 stack) t next ≡ 0 → Steady stack t → Steady (t ∷ stack) next

  -- the look goes past a steady stack
  past : (stack : List ℕ) (p : ℕ) (rest : List ℕ) → Steady stack p →
      lowest on equal p0 p0 (in_order stack (p ∷ rest)) ≡ behind_all stack (lowest on equal p0 (top p0 stack) (p ∷ rest))
  unfolding lowest in_order behind_all top
  past [] p rest s = refl
  past (t ∷ stack) p rest (upon h s) = past stack t (p ∷ rest) s ∙ rw h

  -- a drop ahead of a steady stack leaves it steady
  stays : (stack : List ℕ) (p next w : ℕ) → (on (top p0 stack) ≡ false → on p ≡ true) → again (top p0 stack) p next ≡ suc w → Steady stack p → Steady stack next
  unfolding top
  stays [] p next w apart h s = bottom
  stays (t ∷ stack) p next w apart h (upon g s) =
      let b = top p0 stack in
      upon (on_still (on t) (on b) (equal t b) (equal t p) (equal t next) (before_on (on p) (on t) (equal p t) (equal p next) w apart h) g) s

  -- nothing goes after a last point t that went for first
  nothing : (t : ℕ) (stack : List ℕ) → Steady (t ∷ stack) p0 → (on t && equal t p0) ≡ true → lowest on equal p0 p0 (in_order stack []) ≡ none
  unfolding lowest in_order behind_all top
  nothing t [] s h = refl
  nothing t (u ∷ stack) (upon g (upon f s)) h =
      let is = both_hold (on t) (equal t p0) h in
      let b = top p0 stack in
      let as-t : equal u p0 ≡ true → equal u t ≡ true = λ e. through u p0 t e (back t p0 is.1) in
      let still = after_first (on u) (on t) (on b) (equal u b) (equal u p0) (equal u t) (equal t u)
      f (neither (is_before on equal p0 u t) (is_both on equal p0 u t p0) g).0 is.0 as-t (λ e. back u t (as-t e)) in
      past stack u [] s ∙ rw still (all_none stack)

  quiet : (t : ℕ) (stack : List ℕ) (m : ℕ) → Steady (t ∷ stack) p0 → (on t && equal t p0) ≡ true →
      dropping on equal p0 m (in_order stack []) ≡ cleaned (p0 ∷ in_order stack []) []
  unfolding dropping
  quiet t stack zero s h = refl
  quiet t stack (suc m) s h = rw (nothing t stack s h)

  -- the rest is empty: the last point kept is looked at
  module _ (t : ℕ) (stack : List ℕ) (ds : List (List ℕ)) (n : ℕ) (s : Steady (t ∷ stack) p0) where
    last_look : lowest on equal p0 p0 (in_order stack (t ∷ [])) ≡ behind_all stack (at_place (or_else (on t && equal t p0) 3 0) t [] none)
    unfolding lowest
    last_look = by s
      where
        by : Steady (t ∷ stack) p0 → lowest on equal p0 p0 (in_order stack (t ∷ [])) ≡ behind_all stack (at_place (or_else (on t && equal t p0) 3 0) t [] none)
        by (upon g s) =
            let b = top p0 stack in
            past stack t [] s ∙ rw (only_first (is_before on equal p0 b t) (is_both on equal p0 b t p0) (or_else (on t && equal t p0) 3 0) g)

    some_kept : ltb 1 (length (p0 ∷ in_order stack (t ∷ []))) ≡ true
    some_kept = lt-ltb 1 (length (p0 ∷ in_order stack (t ∷ []))) (omega (arith, size stack [] t))

    without_last : take (length (p0 ∷ in_order stack (t ∷ [])) - 1) (p0 ∷ in_order stack (t ∷ [])) ≡ p0 ∷ in_order stack []
    without_last =
        let e : length (p0 ∷ in_order stack (t ∷ [])) - 1 ≡ length (p0 ∷ in_order stack []) = omega (arith, size stack [] t) in
        rw (e, in_order_lem stack (t ∷ [])) (take_at (p0 ∷ in_order stack []) (t ∷ []) _ refl)

    last_by : (c : Bool) → (on t && equal t p0) ≡ c →
        earlier ds (dropping on equal p0 (suc n) (in_order stack (t ∷ []))) ≡ closing on equal p0 (going t (p0 ∷ in_order stack (t ∷ [])) ds)
    unfolding dropping earlier
    last_by true h = rw (last_look, h, all_gone stack [] t 3, quiet t stack n s h, some_kept, without_last)
    last_by false h = rw (last_look, h, all_none stack, some_kept) (ap (cleaned (p0 ∷ in_order stack (t ∷ []))) (append-nil ds))

  ends : (stack : List ℕ) (ds : List (List ℕ)) (n : ℕ) → length (in_order stack []) ≤ n → Steady stack p0 →
      earlier ds (dropping on equal p0 n (in_order stack [])) ≡ closing on equal p0 (going (top p0 stack) (p0 ∷ in_order stack []) ds)
  unfolding dropping lowest in_order top earlier
  ends [] ds zero few s = ap (cleaned (p0 ∷ [])) (append-nil ds)
  ends [] ds (suc n) few s = ap (cleaned (p0 ∷ [])) (append-nil ds)
  ends (t ∷ stack) ds zero few s = absurd (omega (arith, size stack [] t))
  ends (t ∷ stack) ds (suc n) few s = last_by t stack ds n s _ refl

  -- what the pass makes of a rest, whatever is passed
  abbrev Passes : List ℕ → Type 0
  Passes rest = (stack : List ℕ) (ds : List (List ℕ)) (n : ℕ) → length (in_order stack rest) ≤ n → Steady stack (next_in p0 rest) → Apart on (top p0 stack) rest →
      earlier ds (dropping on equal p0 n (in_order stack rest)) ≡ closing on equal p0 (passing on equal p0 (going (top p0 stack) (p0 ∷ in_order stack []) ds) rest)

  -- one point more: kept, it goes on the stack; dropped, it is what the look finds
  module _ (p : ℕ) (rest stack : List ℕ) (ds : List (List ℕ)) (n : ℕ) (few : length (in_order stack (p ∷ rest)) ≤ suc n) (s : Steady stack p)
      (apart : Apart on (top p0 stack) (p ∷ rest)) (then : Passes rest) where
    found : (w : ℕ) → again (top p0 stack) p (next_in p0 rest) ≡ suc w → lowest on equal p0 p0 (in_order stack (p ∷ rest)) ≡ gone (in_order stack rest) p (suc w)
    unfolding lowest
    found w h =
        let b = top p0 stack in
        past stack p rest s
        ∙ rw (one_of (is_before on equal p0 b p) (is_both on equal p0 b p (next_in p0 rest)) (or_else (is_first on equal p0 p rest) 3 0) w h)
        (all_gone stack rest p (suc w))

    turn : (w : ℕ) → again (top p0 stack) p (next_in p0 rest) ≡ w →
        earlier ds (dropping on equal p0 (suc n) (in_order stack (p ∷ rest)))
        ≡ closing on equal p0 (passing on equal p0 (going (top p0 stack) (p0 ∷ in_order stack []) ds) (p ∷ rest))
    unfolding passing dropping in_order top
    turn zero h = rw (h, ← (in_order_lem stack (p ∷ []))) (then (p ∷ stack) ds (suc n) few (upon h s) (later on apart))
    turn (suc w) h =
        let b = top p0 stack in
        let above = next_on on apart in
        let b-on = before_on (on p) (on b) (equal p b) (equal p (next_in p0 rest)) w above h in
        rw (found w h, h)
        (one_earlier ds p (suc w) (dropping on equal p0 n (in_order stack rest))
        ∙ then stack (ds ++ ((p ∷ suc w ∷ []) ∷ [])) n (omega (arith, size stack rest p)) (stays stack p (next_in p0 rest) w above h s) (skip_one on b-on apart))

  passes : (rest : List ℕ) → Passes rest
  unfolding passing
  passes [] stack ds n few s apart = ends stack ds n few s
  passes (p ∷ rest) stack ds zero few s apart = absurd (omega (arith, size stack rest p))
  passes (p ∷ rest) stack ds (suc n) few s apart = turn p rest stack ds n few s apart (passes rest) _ refl

  -- the shortcut: one pass drops what dropping the lowest place first drops
  none_earlier : (c : Cleaning) → earlier [] c ≡ c
  unfolding earlier
  none_earlier (cleaned kept drops) = refl

  pub shortcut : (rest : List ℕ) (n : ℕ) → length rest ≤ n → Apart on p0 rest → dropping on equal p0 n rest ≡ swept on equal p0 rest
  unfolding in_order top
  shortcut rest n few apart = sym (none_earlier (dropping on equal p0 n rest)) ∙ passes rest [] [] n few bottom apart
