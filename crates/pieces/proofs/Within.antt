-- The pieces of the answer that the optimiser ends with start and end at breaks of the run: the checker says yes to them. Assumes nothing.
use Rattle.std.specs.Prelude.{Some, None}
use Prim.Native.Nat.{ℕ, zero, suc, ◌-◌, ◌≤◌, ◌<◌}
use native.Mathlib.Omega.{arith}
use mathlib.Core.Bool.{Bool, true, false}
use mathlib.Core.List.{List, [], ◌∷◌, ◌++◌}
use mathlib.Core.Path.{◌≡◌}
use lib.Dec.{T, eqb, eqb→eq}
use lib.Ieee.{Float, binary64, fits}
use lib.Ieee.Fits.{and_l, and_r}
use lib.ListN.{length}
use Rattle.breaks.specs.Breaks.{Row, break_at}
use Rattle.chain.specs.declared.Piece as C
use Rattle.chain.specs.Valid.{leads, stays, joined, valid_from, good_shape, verdict, checked_chain}
use Rattle.attempt.specs.Answers.{Statelet, first, on, score_of}
use Rattle.optimize.specs.Optimize.{measure_by, solved, optimize_of}
use Rattle.pieces.specs.Pieces.{as_piece, pieces_of}
use Rattle.pieces.specs.Slots.{Within, Each, none, one}
use Rattle.pieces.proofs.Chained.{led_by}
use Rattle.pieces.proofs.Accepted.{accepted_any}

-- it starts and ends at one of the breaks up to n
abbrev Inner : ℕ → C.Piece → Type 0
Inner n p = (p.from ≤ n) × (p.to ≤ n)

leads_inner : (n at : ℕ) (ps : List C.Piece) → T (leads n at ps) → Each (Inner n) ps
leads_inner n at [] t = none
leads_inner n at (p ∷ ps) t =
    let l = led_by n at p ps t in
    let rising = l.rising in
    let upto = l.upto in
    one {a = p} (omega arith, upto) (leads_inner n p.to ps l.rest)

stays_inner : (ps : List C.Piece) → T (stays ps) → Each (Inner 0) ps
stays_inner [] t = absurd t
stays_inner (p ∷ []) t =
    let from : p.from ≡ 0 = eqb→eq p.from 0 (and_l (eqb p.from 0) (eqb p.to 0) t) in
    let to : p.to ≡ 0 = eqb→eq p.to 0 (and_r (eqb p.from 0) (eqb p.to 0) t) in
    one {a = p} (omega arith, omega arith) none
stays_inner (p ∷ q ∷ ps) t = absurd t

joined_inner : (n : ℕ) (ps : List C.Piece) → T (joined n ps) → Each (Inner n) ps
joined_inner zero ps t = stays_inner ps t
joined_inner (suc n) ps t = leads_inner (suc n) 0 ps t

-- ---- from the pieces back to the answer

each_first : {A : Type 0} {P : A → Type 0} (s t : List A) → Each P (s ++ t) → Each P s
each_first [] t e = none
each_first (a ∷ s) t (one h e) = one h (each_first s t e)

each_last : {A : Type 0} {P : A → Type 0} (s : List A) (a : A) → Each P (s ++ (a ∷ [])) → P a
each_last [] a (one h e) = h
each_last (b ∷ s) a (one h e) = each_last s a e

inner_within : (n m : ℕ) (a : Statelet) → n < m → Each (Inner n) (pieces_of a) → Within m a
unfolding Within pieces_of
inner_within n m (first p s) h e =
    let (from, to) = each_last [] (as_piece p) e in
    (omega arith, omega arith)
inner_within n m (on a p s) h e =
    let (from, to) = each_last (pieces_of a) (as_piece p) e in
    (inner_within n m a h (each_first (pieces_of a) (as_piece p ∷ []) e), (omega arith, omega arith))

module _ (samples : List (List Float)) (breaks : Row) (penalty : Float) where
  -- a chain that the checker says yes to has a good shape
  shape_good : (ps : List C.Piece) (score : Float) → checked_chain samples breaks penalty ps score ≡ Some true → T (good_shape breaks ps)
  unfolding checked_chain
  shape_good ps score e = by (good_shape breaks ps) e
    where
      by : (t : Bool) → verdict samples breaks penalty t ps score ≡ Some true → T t
      by true e = tt
      by false e = absurd cc

  yes_within : 0 < length breaks → (a : Statelet) (score : Float) → checked_chain samples breaks penalty (pieces_of a) score ≡ Some true → Within (length breaks) a
  unfolding good_shape
  yes_within some a score e =
      inner_within (length breaks - 1) (length breaks) a (omega arith)
      (joined_inner (length breaks - 1) (pieces_of a)
      (and_l (joined (length breaks - 1) (pieces_of a)) (valid_from breaks None (pieces_of a)) (shape_good (pieces_of a) score e)))

  pub solved_within : 0 < length breaks → T (fits binary64 (break_at breaks 0).xy.x) → T (fits binary64 (break_at breaks 0).xy.y) → (a : Statelet) (pairs : ℕ) →
      optimize_of (measure_by samples breaks) breaks penalty ≡ solved a pairs → Within (length breaks) a
  solved_within some fits-x fits-y a pairs e = yes_within some a (score_of a) (accepted_any samples breaks penalty some fits-x fits-y a pairs e)
