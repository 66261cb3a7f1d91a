-- A chain in rows, piece by piece from place i on: its break numbers, its pieces and its sum. Assumes nothing.
use Rattle.std.specs.Prelude.{Option, Some, None}
use Prim.Native.Nat.{ℕ, zero, suc, ◌+◌, ◌*◌, ◌-◌, ◌≤◌, ◌<◌}
use native.Mathlib.Omega.{arith}
use mathlib.Core.Bool.{Bool, true, false, ◌&&◌, false≢true}
use mathlib.Core.List.{List, [], ◌∷◌}
use mathlib.Core.Path.{◌≡◌, refl, sym, ap, ◌∙◌}
use borrow.Author.Tests.{eqb-true, ltb-true, leb-true, eq-eqb, ne_eqb, lt-ltb, le-ltb, le-leb, lt-leb}
use lib.Dec.{eqb, ltb, leb}
use lib.ListN.{length, get_or}
use lib.Ieee.{Float, binary64, add, mul}
use Rattle.geometry.specs.declared.Break.{Break}
use Rattle.geometry.specs.declared.Quad.{Quad}
use Rattle.breaks.specs.Breaks.{Row, break_at}
use Rattle.measure.specs.Measure.{measure_of}
use Rattle.measure.specs.Fallen.{fallen_of}
use Rattle.measure.proofs.Asked.{fallen_most}
use Rattle.measure.specs.declared.Measure.{Measure}
use Rattle.float.specs.Numbers.{nought}
use Rattle.chain.specs.Valid.{valid_piece, leads, stays, joined, piece_quad, valid_from, good_shape, joint_of, sum_from, sum_of, piece_at, pieces_from, chain_in, even_rows}
use Rattle.chain.specs.Fallen.{fallen_of_piece, fallen_along, fallen_of_sum}
use Rattle.chain.specs.declared.Piece.{Piece}
use Rattle.std.specs.Prelude.{Some, None}

both : (a b : Bool) → (a && b) ≡ true → (a ≡ true) × (b ≡ true)
both true b h = (refl, h)
both false b h = absurd (false≢true h)

-- ---- rows of one length
module _ (starts ends : List ℕ) (xs ys : List Float) where
  pub lengths : even_rows starts ends xs ys ≡ true → (length ends ≡ length starts) × (length xs ≡ length starts) × (length ys ≡ length starts)
  lengths h =
      let first = both (eqb (length ends) (length starts)) _ h in
      let second = both (eqb (length xs) (length starts)) _ first.1 in
      (eqb-true _ _ first.0, eqb-true _ _ second.0, eqb-true _ _ second.1)

  pub all_inside : (i : ℕ) → even_rows starts ends xs ys ≡ true → i < length starts → (i < length starts) × (i < length ends) × (i < length xs) × (i < length ys)
  all_inside i h l =
      let even = lengths h in
      (l, omega arith, omega arith, omega arith)

  -- ---- the pieces
  module _ (i : ℕ) where
    pub next : i < length starts →
        pieces_from starts ends xs ys (length starts - i) i ≡ piece_at starts ends xs ys i ∷ pieces_from starts ends xs ys (length starts - (i + 1)) (i + 1)
    unfolding pieces_from
    next h =
        let one_less : length starts - i ≡ suc (length starts - (i + 1)) = omega arith in
        rw one_less

    pub none : length starts ≤ i → pieces_from starts ends xs ys (length starts - i) i ≡ []
    unfolding pieces_from
    none h =
        let all : length starts - i ≡ 0 = omega arith in
        rw all

-- ---- break numbers
module _ (n at : ℕ) (p : Piece) (ps : List Piece) where
  strays : (p.from ≡ at → ⊥) → leads n at (p ∷ ps) ≡ false
  unfolding leads
  strays h = rw (ne_eqb p.from at h)

  module _ (h : p.from ≡ at) where
    falls : p.to ≤ p.from → leads n at (p ∷ ps) ≡ false
    unfolding leads
    falls k = rw (eq-eqb p.from at h, le-ltb p.from p.to k)

    module _ (k : p.from < p.to) where
      passes : n < p.to → leads n at (p ∷ ps) ≡ false
      unfolding leads
      passes l = rw (eq-eqb p.from at h, lt-ltb p.from p.to k, lt-leb p.to n l)

      follows : p.to ≤ n → leads n at (p ∷ ps) ≡ leads n p.to ps
      unfolding leads
      follows l = rw (eq-eqb p.from at h, lt-ltb p.from p.to k, le-leb p.to n l)

-- i pieces lead from break 0 to break `at`
abbrev pub Leading : List ℕ → List ℕ → ℕ → ℕ → ℕ → Type 0
Leading starts ends n at i = (xs ys : List Float) → leads n 0 (chain_in starts ends xs ys) ≡ leads n at (pieces_from starts ends xs ys (length starts - i) i)

pub leading : (starts ends : List ℕ) (n : ℕ) → Leading starts ends n 0 0
leading starts ends n xs ys =
    let all : length starts - 0 ≡ length starts = omega arith in
    rw all

module _ (starts ends : List ℕ) (n at i : ℕ) (s : Leading starts ends n at i) where
  pub arrives : length starts ≤ i → (xs ys : List Float) → eqb at n ≡ leads n 0 (chain_in starts ends xs ys)
  unfolding leads
  arrives h xs ys = sym (s xs ys ∙ rw (none starts ends xs ys i h))

  module _ (more : i < length starts) where
    turn : (xs ys : List Float) → leads n 0 (chain_in starts ends xs ys)
        ≡ leads n at (piece_at starts ends xs ys i ∷ pieces_from starts ends xs ys (length starts - (i + 1)) (i + 1))
    turn xs ys = s xs ys ∙ ap (leads n at) (next starts ends xs ys i more)

    pub strayed : (get_or starts i 0 ≡ at → ⊥) → (xs ys : List Float) → false ≡ leads n 0 (chain_in starts ends xs ys)
    strayed h xs ys = sym (turn xs ys ∙ strays n at _ _ h)

    module _ (h : get_or starts i 0 ≡ at) where
      pub fell : get_or ends i 0 ≤ get_or starts i 0 → (xs ys : List Float) → false ≡ leads n 0 (chain_in starts ends xs ys)
      fell k xs ys = sym (turn xs ys ∙ falls n at _ _ h k)

      module _ (k : get_or starts i 0 < get_or ends i 0) where
        pub passed : n < get_or ends i 0 → (xs ys : List Float) → false ≡ leads n 0 (chain_in starts ends xs ys)
        passed l xs ys = sym (turn xs ys ∙ passes n at _ _ h k l)

        pub leads_on : get_or ends i 0 ≤ n → Leading starts ends n (get_or ends i 0) (i + 1)
        leads_on l xs ys = turn xs ys ∙ follows n at _ _ h k l

module _ (starts ends : List ℕ) (xs ys : List Float) where
  one_alone : (k : ℕ) → stays (pieces_from starts ends xs ys k 0) ≡ ((eqb k 1 && eqb (get_or starts 0 0) 0) && eqb (get_or ends 0 0) 0)
  unfolding pieces_from
  one_alone zero = refl
  one_alone (suc zero) = refl
  one_alone (suc (suc k)) = rw (ne_eqb (suc (suc k)) 1 (λ e. omega (arith, e)))

  pub alone : joined 0 (chain_in starts ends xs ys) ≡ ((eqb (length starts) 1 && eqb (get_or starts 0 0) 0) && eqb (get_or ends 0 0) 0)
  alone = one_alone (length starts)

  -- ---- every break number of a chain that is joined is that of a break
  Within : ℕ → ℕ → Type 0
  Within n j = (get_or starts j 0 ≤ n) × (get_or ends j 0 ≤ n)

  within : (n k i at j : ℕ) → leads n at (pieces_from starts ends xs ys k i) ≡ true → j < k → Within n (i + j)
  unfolding leads pieces_from Within
  within n zero i at j h l = absurd (omega arith)
  within n (suc k) i at j h l =
      let first = both (eqb (get_or starts i 0) at) _ h in
      let second = both (ltb (get_or starts i 0) (get_or ends i 0)) _ first.1 in
      let third = both (leb (get_or ends i 0) n) _ second.1 in
      here j l (ltb-true _ _ second.0) (leb-true _ _ third.0) (λ m q. within n k (i + 1) (get_or ends i 0) m third.1 q)
    where
      here : (j : ℕ) → j < suc k → get_or starts i 0 < get_or ends i 0 → get_or ends i 0 ≤ n → ((m : ℕ) → m < k → Within n (i + 1 + m)) → Within n (i + j)
      here zero l rises low rest =
          let at_i : i + 0 ≡ i = omega arith in
          rw at_i (omega arith, low)
      here (suc j) l rises low rest =
          let later : i + suc j ≡ i + 1 + j = omega arith in
          rw later (rest j (omega arith))

  within_one : (k j : ℕ) → stays (pieces_from starts ends xs ys k 0) ≡ true → j < k → Within 0 j
  unfolding pieces_from Within
  within_one zero j h l = absurd (omega arith)
  within_one (suc zero) j h l =
      let first = both (eqb (get_or starts 0 0) 0) (eqb (get_or ends 0 0) 0) h in
      let from : get_or starts 0 0 ≡ 0 = eqb-true _ _ first.0 in
      let to : get_or ends 0 0 ≡ 0 = eqb-true _ _ first.1 in
      let only : j ≡ 0 = omega arith in
      rw only (omega arith, omega arith)
  within_one (suc (suc k)) j h l = absurd (false≢true h)

  within_joined : (n j : ℕ) → joined n (chain_in starts ends xs ys) ≡ true → j < length starts → Within n j
  within_joined zero j h l = within_one (length starts) j h l
  within_joined (suc n) j h l =
      let same : 0 + j ≡ j = omega arith in
      rw same at (within (suc n) (length starts) 0 0 j h l)

  -- ---- a chain that is joined has no more pieces than the run has breaks
  leads_few : (n k i at : ℕ) → leads n at (pieces_from starts ends xs ys k i) ≡ true → at ≤ n → k + at ≤ n
  unfolding leads pieces_from
  leads_few n zero i at h l = omega (arith, l)
  leads_few n (suc k) i at h l =
      let first = both (eqb (get_or starts i 0) at) _ h in
      let second = both (ltb (get_or starts i 0) (get_or ends i 0)) _ first.1 in
      let third = both (leb (get_or ends i 0) n) _ second.1 in
      let here = leads_few n k (i + 1) (get_or ends i 0) third.1 (leb-true _ _ third.0) in
      let at-it = eqb-true (get_or starts i 0) at first.0 in
      let rises = ltb-true (get_or starts i 0) (get_or ends i 0) second.0 in
      omega arith

  stays_few : (k : ℕ) → stays (pieces_from starts ends xs ys k 0) ≡ true → k ≤ 1
  unfolding pieces_from
  stays_few zero h = omega arith
  stays_few (suc zero) h = omega arith
  stays_few (suc (suc k)) h = absurd (false≢true h)

  pub joined_few : (n : ℕ) → joined n (chain_in starts ends xs ys) ≡ true → length starts ≤ n + 1
  joined_few zero h = stays_few (length starts) h
  joined_few (suc n) h = omega (arith, leads_few (suc n) (length starts) 0 0 h (omega arith))

  pub inside : (count j : ℕ) → 0 < count → joined (count - 1) (chain_in starts ends xs ys) ≡ true → j < length starts → (get_or starts j 0 < count) × (get_or ends j 0 < count)
  unfolding Within
  inside count j some h l =
      let w = within_joined (count - 1) j h l in
      (omega arith, omega arith)

-- ---- the pieces, each after the one before
module _ (breaks : Row) (before : Option Quad) (p : Piece) (ps : List Piece) where
  bad : valid_piece before (break_at breaks p.from) (break_at breaks p.to) p.control ≡ false → valid_from breaks before (p ∷ ps) ≡ false
  unfolding valid_from
  bad h = rw h

  good : valid_piece before (break_at breaks p.from) (break_at breaks p.to) p.control ≡ true →
      valid_from breaks before (p ∷ ps) ≡ valid_from breaks (Some (piece_quad breaks p)) ps
  unfolding valid_from
  good h = rw h

module _ (breaks : Row) (ps : List Piece) where
  pub good_joined : good_shape breaks ps ≡ true → joined (length breaks - 1) ps ≡ true
  unfolding good_shape
  good_joined h = (both (joined (length breaks - 1) ps) (valid_from breaks None ps) h).0

-- i pieces are valid, and `before` is what comes before the next
abbrev pub Passing : Row → List ℕ → List ℕ → List Float → List Float → Option Quad → ℕ → Type 0
Passing breaks starts ends xs ys before i =
    valid_from breaks None (chain_in starts ends xs ys) ≡ valid_from breaks before (pieces_from starts ends xs ys (length starts - i) i)

pub passing : (breaks : Row) (starts ends : List ℕ) (xs ys : List Float) → Passing breaks starts ends xs ys None 0
passing breaks starts ends xs ys =
    let all : length starts - 0 ≡ length starts = omega arith in
    rw all

module _ (breaks : Row) (starts ends : List ℕ) (xs ys : List Float) (before : Option Quad) (i : ℕ) (s : Passing breaks starts ends xs ys before i) where
  pub all_valid : length starts ≤ i → true ≡ valid_from breaks None (chain_in starts ends xs ys)
  unfolding valid_from
  all_valid h = sym (s ∙ rw (none starts ends xs ys i h))

  module _ (more : i < length starts) (p : Piece) (is : p ≡ piece_at starts ends xs ys i) (a b : Break) (from : a ≡ break_at breaks p.from) (to : b ≡ break_at breaks p.to) where
    piece : valid_from breaks None (chain_in starts ends xs ys) ≡ valid_from breaks before (p ∷ pieces_from starts ends xs ys (length starts - (i + 1)) (i + 1))
    piece = s ∙ rw (next starts ends xs ys i more, is)

    pub one_invalid : valid_piece before a b p.control ≡ false → false ≡ valid_from breaks None (chain_in starts ends xs ys)
    one_invalid h = sym (piece ∙ bad breaks before p _ (rw (from, to) at h))

    pub passes_on : (q : Quad) → valid_piece before a b p.control ≡ true → q ≡ piece_quad breaks p → Passing breaks starts ends xs ys (Some q) (i + 1)
    passes_on q h drawn = piece ∙ good breaks before p _ (rw (from, to) at h) ∙ rw drawn

-- ---- the sum
module _ (samples : List (List Float)) (breaks : Row) (penalty : Float) where
  ended : (before : Option Quad) (ps : List Piece) → sum_from samples breaks penalty before None ps ≡ None
  unfolding sum_from
  ended before [] = refl
  ended before (p ∷ ps) = ended (Some (piece_quad breaks p)) ps

  module _ (before : Option Quad) (s : Float) (p : Piece) (ps : List Piece) where
    ends_it : measure_of samples (break_at breaks p.from).s (break_at breaks p.to).s (piece_quad breaks p) ≡ None →
        sum_from samples breaks penalty before (Some s) (p ∷ ps) ≡ None
    unfolding sum_from
    ends_it h = rw h (ended (Some (piece_quad breaks p)) ps)

    adds : (m : Measure) → measure_of samples (break_at breaks p.from).s (break_at breaks p.to).s (piece_quad breaks p) ≡ Some m →
        sum_from samples breaks penalty before (Some s) (p ∷ ps)
        ≡ sum_from samples breaks penalty (Some (piece_quad breaks p)) (Some (add binary64 (add binary64 s (mul binary64 penalty (joint_of before (piece_quad breaks p)))) m.error)) ps
    unfolding sum_from
    adds m h = rw h

-- i pieces are summed to s, and `before` is what comes before the next
abbrev pub Summing : List (List Float) → Row → Float → List ℕ → List ℕ → List Float → List Float → Option Quad → Float → ℕ → Type 0
Summing samples breaks penalty starts ends xs ys before s i =
    sum_of samples breaks penalty (chain_in starts ends xs ys) ≡ sum_from samples breaks penalty before (Some s) (pieces_from starts ends xs ys (length starts - i) i)

module _ (samples : List (List Float)) (breaks : Row) (penalty : Float) (starts ends : List ℕ) (xs ys : List Float) where
  pub summing : Summing samples breaks penalty starts ends xs ys None nought 0
  summing =
      let all : length starts - 0 ≡ length starts = omega arith in
      rw all

  module _ (before : Option Quad) (s : Float) (i : ℕ) (so : Summing samples breaks penalty starts ends xs ys before s i) where
    pub summed : length starts ≤ i → (Some s) ≡ sum_of samples breaks penalty (chain_in starts ends xs ys)
    unfolding sum_from
    summed h = sym (so ∙ rw (none starts ends xs ys i h))

    module _ (more : i < length starts) (p : Piece) (is : p ≡ piece_at starts ends xs ys i) (q : Quad) (drawn : q ≡ piece_quad breaks p)
        (a b : Break) (from : a ≡ break_at breaks p.from) (to : b ≡ break_at breaks p.to) where
      turned : sum_of samples breaks penalty (chain_in starts ends xs ys)
          ≡ sum_from samples breaks penalty before (Some s) (p ∷ pieces_from starts ends xs ys (length starts - (i + 1)) (i + 1))
      turned = so ∙ rw (next starts ends xs ys i more, is)

      pub one_refused : measure_of samples a.s b.s q ≡ None → None ≡ sum_of samples breaks penalty (chain_in starts ends xs ys)
      one_refused h = sym (turned ∙ ends_it samples breaks penalty before s p _ (rw (from, to, drawn) at h))

      pub sums_on : (m : Measure) (j : Float) → measure_of samples a.s b.s q ≡ Some m → j ≡ joint_of before q →
          Summing samples breaks penalty starts ends xs ys (Some q) (add binary64 (add binary64 s (mul binary64 penalty j)) m.error) (i + 1)
      sums_on m j h joint = turned ∙ adds samples breaks penalty before s p _ m (rw (from, to, drawn) at h) ∙ rw (joint, drawn)

-- ---- the lookups that fell: so many in i pieces
pub record Falling (samples : List (List Float)) (breaks : Row) (starts ends : List ℕ) (xs ys : List Float) (n i : ℕ) : Type 0 where
  pub sofar : fallen_along samples breaks (chain_in starts ends xs ys) ≡ n + fallen_along samples breaks (pieces_from starts ends xs ys (length starts - i) i)
  pub few : n ≤ 80 * i

module _ (samples : List (List Float)) (breaks : Row) (starts ends : List ℕ) (xs ys : List Float) where
  pub falling : Falling samples breaks starts ends xs ys 0 0
  falling =
      let all : length starts - 0 ≡ length starts = omega arith in
      record { sofar = rw all (omega arith); few = omega arith }

  pub none_counted : (penalty : Float) → None ≡ sum_of samples breaks penalty (chain_in starts ends xs ys) →
      0 ≡ fallen_of_sum samples breaks penalty (chain_in starts ends xs ys)
  unfolding fallen_of_sum
  none_counted penalty e = rw (← e) refl

  module _ {n i : ℕ} (so : Falling samples breaks starts ends xs ys n i) where
    pub all_counted : length starts ≤ i → (penalty : Float) {s : Float} → (Some s) ≡ sum_of samples breaks penalty (chain_in starts ends xs ys) →
        n ≡ fallen_of_sum samples breaks penalty (chain_in starts ends xs ys)
    unfolding fallen_of_sum fallen_along
    all_counted h penalty e = rw (← e) (sym (so.sofar ∙ rw (none starts ends xs ys i h) (omega arith)))

    module _ (more : i < length starts) (p : Piece) (is : p ≡ piece_at starts ends xs ys i) (q : Quad) (drawn : q ≡ piece_quad breaks p)
        (a b : Break) (from : a ≡ break_at breaks p.from) (to : b ≡ break_at breaks p.to) {k : ℕ} (fell : k ≡ fallen_of samples a.s b.s q) where
      pub counted_few : k ≤ 80
      counted_few = rw fell (fallen_most samples a.s b.s q)

      one_more : fallen_along samples breaks (pieces_from starts ends xs ys (length starts - i) i)
          ≡ k + fallen_along samples breaks (pieces_from starts ends xs ys (length starts - (i + 1)) (i + 1))
      unfolding fallen_along
      one_more =
          let rest = fallen_along samples breaks (pieces_from starts ends xs ys (length starts - (i + 1)) (i + 1)) in
          let here : k ≡ fallen_of_piece samples breaks p = fell ∙ rw (from, to, drawn) refl in
          ap (fallen_along samples breaks) (next starts ends xs ys i more)
          ∙ ap (λ (x : Piece). fallen_of_piece samples breaks x + rest) (sym is)
          ∙ ap (λ (m : ℕ). m + rest) (sym here)

      pub falls_on : Falling samples breaks starts ends xs ys (n + k) (i + 1)
      falls_on = record { sofar = omega (arith, so.sofar, one_more); few = omega (arith, so.few, counted_few) }
