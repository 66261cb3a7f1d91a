-- The loop over the contours: what holds after some of them, after one more, where one is refused, and at the end. Assumes nothing.
use Rattle.std.specs.Prelude.{Result, Ok, Err}
use Rattle.refusals.specs.declared.refusal.Refusal.{Refusal}
use Prim.Native.Nat.{ℕ, suc, ◌+◌, ◌-◌, ◌≤◌, ◌<◌}
use native.Mathlib.Nat.{le_refl}
use native.Mathlib.Numerals.{add-one}
use native.Mathlib.Omega.{arith}
use mathlib.Core.Bool.{true}
use mathlib.Core.List.{List, [], ◌∷◌, ◌++◌, append_assoc, append-nil}
use mathlib.Core.Path.{◌≡◌, refl, sym, ap, subst, ◌∙◌}
use borrow.Author.Tests.{ltb-true}
use lib.Dec.{ltb}
use lib.IntN.{ℤ}
use lib.ListN.{length, get_or, set, take, drop, length-append, length-drop, length-set, drop_of_length-le}
use lib.Seq.{drop-cons, take-add, take_all, take-suc-set, drop-set-lt}
use Rattle.settings.specs.declared.Settings.{Settings}
use Rattle.optimize.specs.declared.Tally.{Tally}
use Rattle.edition.specs.Edition.{Rooms}
use Rattle.contour.specs.Points.{Points}
use Rattle.contour.specs.Writing.{Holds}
use Rattle.contour.specs.Laws.{holds_count}
use Rattle.crunch.specs.Crunch.{crunched, crunch_of}
use Rattle.crunch.specs.Crunch as Crunch
use Rattle.crunch.specs.Stands.{Gives}
use Rattle.crunch.specs.declared.Crunched.{Crunched}
use Rattle.glyf.specs.Layout.{Outcome, done, refused, count_of, rising}
use Rattle.glyf.proofs.Codes.{and_left, and_right}
use Rattle.glyphs.specs.Glyphs.{and_then, stretch, contours_from, with_first, onward, crunch_each, together, ends_from}
use Rattle.glyphs.specs.Stands.{Numbers, Part, Adds, Apart, Gathers}

-- ---- where the contours lie

-- each from the point after the last end to its own, within n points
data Lies (n : ℕ) : ℕ → List ℕ → Type 0 where
  none : {from : ℕ} → Lies n from []
  next : {from end : ℕ} {ends : List ℕ} → from ≤ end + 1 → end + 1 ≤ n → Lies n (end + 1) ends → Lies n from (end ∷ ends)

inside : {n from end : ℕ} {ends : List ℕ} → Lies n from (end ∷ ends) → (from ≤ end + 1) × (end + 1 ≤ n)
inside (next o i l) = (o, i)

later : {n from end : ℕ} {ends : List ℕ} → Lies n from (end ∷ ends) → Lies n (end + 1) ends
later (next o i l) = l

rising_lie : (from end : ℕ) (ends : List ℕ) → from ≤ end + 1 → rising (end ∷ ends) ≡ true → Lies (count_of (end ∷ ends)) from (end ∷ ends)
unfolding rising count_of
rising_lie from end [] o r = next o (le_refl _) none
rising_lie from end (f ∷ ends) o r =
    let above : end < f = ltb-true end f (and_left (ltb end f) (rising (f ∷ ends)) r) in
    let l = rising_lie (end + 1) f ends (omega arith) (and_right (ltb end f) (rising (f ∷ ends)) r) in
    let i = (inside l).1 in
    next o (omega (arith, above, i)) l

apart_lie : (ends : List ℕ) → rising ends ≡ true → Lies (count_of ends) 0 ends
apart_lie [] r = none
apart_lie (end ∷ ends) r = rising_lie 0 end ends (omega arith) r

-- ---- what was crunched so far, before what is to come

abbrev before_all : List Points → Outcome (List Points) → Outcome (List Points)
before_all contours others = and_then others (λ more. done (contours ++ more))

none_before : (o : Outcome (List Points)) → o ≡ before_all [] o
none_before (done more) = refl
none_before (refused k) = refl

one_before : (contours : List Points) (ps : Points) (o : Outcome (List Points)) → before_all contours (with_first ps o) ≡ before_all (contours ++ (ps ∷ [])) o
one_before contours ps (done more) = ap done (sym (append_assoc contours (ps ∷ []) more))
one_before contours ps (refused k) = refl

together_more : (contours : List Points) (ps : Points) → together (contours ++ (ps ∷ [])) ≡ together contours ++ ps
unfolding together
together_more [] ps = append-nil ps
together_more (qs ∷ contours) ps = ap (◌++◌ qs) (together_more contours ps) ∙ sym (append_assoc qs (together contours) ps)

ends_more : (at : ℕ) (contours : List Points) (ps : Points) →
    ends_from at (contours ++ (ps ∷ [])) ≡ ends_from at contours ++ ((at + length (together contours) + length ps - 1) ∷ [])
unfolding together ends_from
ends_more at [] ps = let e : at + length ps - 1 ≡ at + 0 + length ps - 1 = omega arith in ap (λ (k : ℕ). k ∷ []) e
ends_more at (qs ∷ contours) ps =
    let e : at + length qs + length (together contours) + length ps - 1 ≡ at + length (qs ++ together contours) + length ps - 1
    = omega (arith, length-append qs (together contours)) in
    ap (◌∷◌ (at + length qs - 1))
    (ends_more (at + length qs) contours ps ∙ ap (λ (k : ℕ). ends_from (at + length qs) contours ++ (k ∷ [])) e)

-- ---- what a contour gave

record Gave (row : Points) (o : Crunch.Outcome) (n : ℕ) (t : Tally) : Type 0 where
  ps : Points
  is : o ≡ crunched ps t
  held : Holds row n ps

gave : {row : Points} {o : Crunch.Outcome} {r : Result Crunched Refusal} {n : ℕ} {t : Tally} → Gives row o r → r ≡ Ok (record { points = n; tally = t }) → Gave row o n t
gave (Gives.no e) h = absurd (let z : ◌≡◌ {A = ℕ} 0 1 = cc in omega arith)
gave {row} {n = n} {t = t} (Gives.yes {ps = ps} {n = m} {t = u} e h) i =
    let same : ◌≡◌ {A = Crunched} (record { points = m; tally = u }) (record { points = n; tally = t }) = cc in
    let count : m ≡ n = ap (λ (c : Crunched). c.points) same in
    let tally : u ≡ t = ap (λ (c : Crunched). c.tally) same in
    record { ps = ps; is = ap (crunched ps) tally; held = subst (λ (k : ℕ). Holds row k ps) count h }

gave_no : {row : Points} {o : Crunch.Outcome} {r : Result Crunched Refusal} {k : Refusal} → Gives row o r → r ≡ Err k → o ≡ Crunch.refused k
gave_no (Gives.no e) h = cc
gave_no (Gives.yes e h) i = absurd (let z : ◌≡◌ {A = ℕ} 0 1 = cc in omega arith)

-- ---- the loop

module _ (rooms : Rooms) (settings : Settings) (room : ℕ) (ends₀ : List ℕ) (xs ys : List ℤ) (fs : List ℕ) where
  -- what is to come of the contours from a point and an end on, with so many points before them
  abbrev ahead : ℕ → ℕ → List ℕ → Outcome (List Points)
  ahead from at ends = crunch_each rooms settings (room - at) (contours_from from ends xs ys fs)

  abbrev all : Outcome (List Points)
  all = crunch_each rooms settings room (contours_from 0 ends₀ xs ys fs)

  same_ahead : {from from' left left' : ℕ} {ends ends' : List ℕ} → left ≡ left' → from ≡ from' → ends ≡ ends' →
      crunch_each rooms settings left (contours_from from ends xs ys fs) ≡ crunch_each rooms settings left' (contours_from from' ends' xs ys fs)
  same_ahead l f e = λ i. crunch_each rooms settings (l i) (contours_from (f i) (e i) xs ys fs)

  -- k contours are crunched, up to a point, to so many points
  pub record Going (ends : List ℕ) (points : Points) (from at k : ℕ) : Type 0 where
    contours : List Points
    pub long : length points ≡ room
    pub same : length ends ≡ length ends₀
    held : Holds points at (together contours)
    left : drop k ends ≡ drop k ends₀
    renumbered : at ≤ 65536 → take k ends ≡ ends_from 0 contours
    lies : Lies (length xs) from (drop k ends₀)
    whole : all ≡ before_all contours (ahead from at (drop k ends₀))

  pub start : (points : Points) → length points ≡ room → Apart ends₀ (length xs) (length ys) (length fs) → Going ends₀ points 0 0 0
  unfolding together ends_from
  start points long a = record {
    contours = [];
    long = long;
    same = refl;
    held = record { within = omega arith; are = refl };
    left = refl;
    renumbered = λ h. refl;
    lies = rw a.as_xs (apart_lie ends₀ a.rise);
    whole = let none : room ≡ room - 0 = omega arith in none_before all ∙ ap (before_all []) (same_ahead none refl refl);
  }

  module _ {ends : List ℕ} {points : Points} {from at k : ℕ} (g : Going ends points from at k) where
    module _ (more : k < length ends) where
      abbrev end : ℕ
      end = get_or ends₀ k 0

      rest : drop k ends₀ ≡ end ∷ drop (suc k) ends₀
      rest = drop-cons ends₀ k 0 (rw (← g.same) more)

      both : get_or ends k 0 ∷ drop (suc k) ends ≡ end ∷ drop (suc k) ends₀
      both = sym (drop-cons ends k 0 more) ∙ g.left ∙ rest

      same_end : get_or ends k 0 ≡ end
      same_end = let b = both in cc

      same_rest : drop (suc k) ends ≡ drop (suc k) ends₀
      same_rest = let b = both in cc

      here : Lies (length xs) from (end ∷ drop (suc k) ends₀)
      here = subst (Lies (length xs) from) rest g.lies

      pub part : (a : Apart ends₀ (length xs) (length ys) (length fs)) (to : ℕ) → to ≡ get_or ends k 0 + 1 → Part from to (length xs) (length ys) (length fs)
      part a to e =
          let i = inside here in
          let t : to ≡ end + 1 = e ∙ ap (λ (n : ℕ). n + 1) same_end in
          record {
            order = rw t i.0;
            in_xs = rw t i.1;
            in_ys = omega (arith, t, i.1, a.as_xs, a.as_ys);
            in_flags = omega (arith, t, i.1, a.as_xs, a.as_flags);
          }

      pub in_points : at ≤ length points
      in_points = g.held.within

      -- what the next contour gives
      abbrev turn : Crunch.Outcome
      turn = crunch_of rooms (room - at) settings (stretch from (end + 1) xs) (stretch from (end + 1) ys) (stretch from (end + 1) fs)

      abbrev then : Crunch.Outcome → Outcome (List Points)
      then o = onward (room - at) o (λ left. crunch_each rooms settings left (contours_from (end + 1) (drop (suc k) ends₀) xs ys fs))

      ahead_is : ahead from at (drop k ends₀) ≡ then turn
      unfolding crunch_each contours_from
      ahead_is = ap (λ (es : List ℕ). crunch_each rooms settings (room - at) (contours_from from es xs ys fs)) rest

      -- the rows that it is worked in are as long as they were
      module _ {rooms' : Rooms} {points' : Points} {r : Result Crunched Refusal} (still : rooms' ≡ rooms) (to : ℕ) (e : to ≡ get_or ends k 0 + 1)
          (adds : Adds points at points' (crunch_of rooms' (length points - at) settings (stretch from to xs) (stretch from to ys) (stretch from to fs)) r) where
        turned : Gives (drop at points') turn r
        turned =
            let t : to ≡ end + 1 = e ∙ ap (λ (n : ℕ). n + 1) same_end in
            let l = g.long in
            rw (still, t, l) at adds.gives

        pub refuses : {row : Points} {es : List ℕ} {m : Refusal} → r ≡ Err m → Gathers row es all (Err m)
        refuses {row} {es} {m} h =
            let is : all ≡ refused m = g.whole ∙ ap (before_all g.contours) (ahead_is ∙ ap then (gave_no turned h)) in
            subst (λ (o : Outcome (List Points)). Gathers row es o (Err m)) (sym is) (Gathers.no refl)

        module _ {n : ℕ} {t : Tally} (h : r ≡ Ok (record { points = n; tally = t })) where
          gives : Gave (drop at points') turn n t
          gives = gave turned h

          counted : length gives.ps ≡ n
          counted = holds_count gives.held

          ahead_was : ahead from at (drop k ends₀) ≡ with_first gives.ps (ahead to (at + n) (drop (k + 1) ends₀))
          ahead_was =
              let t : to ≡ end + 1 = e ∙ ap (λ (m : ℕ). m + 1) same_end in
              let l : room - at - length gives.ps ≡ room - (at + n) = omega (arith, counted) in
              ahead_is ∙ ap then gives.is ∙ ap (with_first gives.ps) (same_ahead l (sym t) (ap (λ (m : ℕ). drop m ends₀) (sym (add-one k))))

          pub fits_after : length points' ≡ length points → at + n ≤ room
          fits_after long' = omega (arith, long', length-drop at points', gives.held.within, g.held.within, g.long)

          renumbered_more : (v : ℕ) → Numbers (at + n) v → at + n ≤ 65536 → take (k + 1) (set ends k v) ≡ ends_from 0 (g.contours ++ (gives.ps ∷ []))
          renumbered_more v is few =
              let so : at ≤ 65536 = omega (arith, few) in
              let sum : v ≡ 0 + length (together g.contours) + length gives.ps - 1 = omega (arith, is few, holds_count g.held, counted) in
              rw (add-one) (take-suc-set ends k v more ∙ rw (g.renumbered so, ends_more 0 g.contours gives.ps, sum) refl)

          pub again : (v : ℕ) → Numbers (at + n) v → length points' ≡ length points → Going (set ends k v) points' to (at + n) (k + 1)
          again v is long' = record {
            contours = g.contours ++ (gives.ps ∷ []);
            long = long' ∙ g.long;
            same = length-set ends k v ∙ g.same;
            held = record {
              within = rw (long', g.long) (fits_after long');
              are = take-add at n points' ∙ rw (adds.kept, g.held.are, gives.held.are, together_more g.contours gives.ps) refl;
            };
            left = rw (add-one) (drop-set-lt (suc k) ends k v (le_refl _) ∙ same_rest);
            renumbered = renumbered_more v is;
            lies = let t : end + 1 ≡ to = sym (e ∙ ap (λ (m : ℕ). m + 1) same_end) in rw (add-one, ← t) (later here);
            whole = g.whole ∙ ap (before_all g.contours) ahead_was ∙ one_before g.contours gives.ps (ahead to (at + n) (drop (k + 1) ends₀));
          }

    -- all are crunched
    pub ended : length ends ≤ k → Gathers points ends all (Ok at)
    unfolding crunch_each contours_from
    ended past-ends =
        let none : drop k ends₀ ≡ [] = let past : length ends₀ ≤ k = omega (arith, past-ends, g.same) in drop_of_length-le ends₀ past in
        let is : all ≡ done g.contours =
        g.whole ∙ ap (λ (es : List ℕ). before_all g.contours (ahead from at es)) none ∙ ap done (append-nil g.contours) in
        subst (λ (o : Outcome (List Points)). Gathers points ends o (Ok at)) (sym is)
        (Gathers.yes refl g.held (λ few. sym (take_all k ends past-ends) ∙ g.renumbered few))
