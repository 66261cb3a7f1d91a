-- An answer whose pieces are a valid chain, with its score as the chain's sum: what is asked of each piece, and what follows for all of them.
-- Assumes nothing.
use Rattle.std.specs.Prelude.{Option, Some, None}
use Prim.Native.Nat.{ℕ, ◌≤◌, ◌<◌}
use native.Mathlib.Omega.{arith}
use mathlib.Core.Bool.{Bool, true, ◌&&◌}
use mathlib.Core.List.{List, [], ◌∷◌, ◌++◌}
use mathlib.Core.Path.{◌≡◌, refl, sym, ap, ◌∙◌}
use lib.Dec.{T, eqb, ltb, leb, eqb→eq, eqb_refl, leb→le, le→leb, ltb→lt, lt→ltb}
use lib.Ieee.{Float}
use lib.Ieee.Fits.{and_i, and_l, and_r, eq→eqb}
use Rattle.float.specs.Numbers.{nought}
use Rattle.geometry.specs.declared.Quad.{Quad}
use Rattle.breaks.specs.Breaks.{Row, break_at}
use Rattle.chain.specs.declared.Piece as C
use Rattle.chain.specs.Valid.{valid_piece, leads, piece_quad, valid_from, added, measure_of_piece, sum_from}
use Rattle.attempt.specs.Answers.{Leg, Statelet, first, on, score_of, leg_of}
use Rattle.pieces.specs.Pieces.{as_piece, pieces_of}

-- ---- one piece more, at the end

-- what a piece adds to where a chain leads
pub record Led (n at : ℕ) (p : C.Piece) (ps : List C.Piece) : Type 0 where
  pub here : p.from ≡ at
  pub rising : p.from < p.to
  pub upto : p.to ≤ n
  pub rest : T (leads n p.to ps)

leads_by : (n at : ℕ) (p : C.Piece) (ps : List C.Piece) → Led n at p ps → T (leads n at (p ∷ ps))
unfolding leads
leads_by n at p ps l =
    and_i (eqb p.from at) _ (eq→eqb l.here) (and_i (ltb p.from p.to) _ (lt→ltb p.from p.to l.rising) (and_i (leb p.to n) _ (le→leb p.to n l.upto) l.rest))

pub led_by : (n at : ℕ) (p : C.Piece) (ps : List C.Piece) → T (leads n at (p ∷ ps)) → Led n at p ps
unfolding leads
led_by n at p ps t =
    let ends : Bool = leb p.to n && leads n p.to ps in
    let later = and_r (eqb p.from at) (ltb p.from p.to && ends) t in
    let last = and_r (ltb p.from p.to) ends later in
    record {
      here = eqb→eq p.from at (and_l (eqb p.from at) (ltb p.from p.to && ends) t);
      rising = ltb→lt p.from p.to (and_l (ltb p.from p.to) ends later);
      upto = leb→le p.to n (and_l (leb p.to n) (leads n p.to ps) last);
      rest = and_r (leb p.to n) (leads n p.to ps) last;
    }

leads_there : (n : ℕ) → T (leads n n [])
unfolding leads
leads_there n = eqb_refl n

led_there : (n at : ℕ) → T (leads n at []) → at ≡ n
unfolding leads
led_there n at t = eqb→eq at n t

-- a chain that leads to break b, and a piece from there
leads_on : (b at : ℕ) (ps : List C.Piece) (p : C.Piece) → p.from ≡ b → p.from < p.to → T (leads b at ps) → T (leads p.to at (ps ++ (p ∷ [])))
leads_on b at [] p from rising t = leads_by p.to at p [] (record { here = from ∙ sym (led_there b at t); rising = rising; upto = omega arith; rest = leads_there p.to })
leads_on b at (q ∷ qs) p from rising t =
    let l = led_by b at q qs t in
    leads_by p.to at q (qs ++ (p ∷ [])) (record { here = l.here; rising = l.rising; upto = omega (arith, l.upto); rest = leads_on b q.to qs p from rising l.rest })

module _ (breaks : Row) where
  -- what comes before a piece that is put at the end
  pub last_of : Option Quad → List C.Piece → Option Quad
  last_of before [] = before
  last_of before (p ∷ ps) = last_of (Some (piece_quad breaks p)) ps

  last_on : (before : Option Quad) (ps : List C.Piece) (p : C.Piece) → last_of before (ps ++ (p ∷ [])) ≡ Some (piece_quad breaks p)
  unfolding last_of
  last_on before [] p = refl
  last_on before (q ∷ qs) p = last_on (Some (piece_quad breaks q)) qs p

  abbrev pub valid_after : Option Quad → C.Piece → Bool
  valid_after before p = valid_piece before (break_at breaks p.from) (break_at breaks p.to) p.control

  valid_on : (before : Option Quad) (ps : List C.Piece) (p : C.Piece) → T (valid_from breaks before ps) → T (valid_after (last_of before ps) p) → T (valid_from breaks before (ps ++ (p ∷ [])))
  unfolding valid_from last_of
  valid_on before [] p t v = and_i (valid_after before p) true v tt
  valid_on before (q ∷ qs) p t v =
      and_i (valid_after before q) _ (and_l (valid_after before q) (valid_from breaks (Some (piece_quad breaks q)) qs) t)
      (valid_on (Some (piece_quad breaks q)) qs p (and_r (valid_after before q) (valid_from breaks (Some (piece_quad breaks q)) qs) t) v)

module _ (samples : List (List Float)) (breaks : Row) (penalty : Float) where
  sum_on : (before : Option Quad) (s : Option Float) (ps : List C.Piece) (p : C.Piece) →
      sum_from samples breaks penalty before s (ps ++ (p ∷ []))
      ≡ added penalty (last_of breaks before ps) (piece_quad breaks p) (sum_from samples breaks penalty before s ps) (measure_of_piece samples breaks penalty p)
  unfolding sum_from last_of
  sum_on before s [] p = refl
  sum_on before s (q ∷ qs) p = sum_on (Some (piece_quad breaks q)) (added penalty before (piece_quad breaks q) s (measure_of_piece samples breaks penalty q)) qs p

  -- ---- what is asked of a piece that comes after `before` where the sum is `past`, and makes it s
  pub record Fine (before : Option Quad) (past : Float) (p : Leg) (s : Float) : Type 0 where
    pub rising : p.from < p.to
    pub between : piece_quad breaks (as_piece p) ≡ p.quad
    pub valid : T (valid_after breaks before (as_piece p))
    pub adds : added penalty before (piece_quad breaks (as_piece p)) (Some past) (measure_of_piece samples breaks penalty (as_piece p)) ≡ Some s

  -- and of all pieces of an answer
  pub data Good : Statelet → Type 0 where
    starts : {p : Leg} {s : Float} → p.from ≡ 0 → Fine None nought p s → Good (first p s)
    goes : {a : Statelet} {p : Leg} {s : Float} → Good a → p.from ≡ (leg_of a).to → Fine (Some (leg_of a).quad) (score_of a) p s → Good (on a p s)

  -- ---- then the pieces are a chain from break 0 to the answer's last, and its score is their sum
  pub record Chained (a : Statelet) (ps : List C.Piece) : Type 0 where
    pub leading : T (leads (leg_of a).to 0 ps)
    pub lasting : last_of breaks None ps ≡ Some (leg_of a).quad
    pub valid : T (valid_from breaks None ps)
    pub summing : sum_from samples breaks penalty None (Some nought) ps ≡ Some (score_of a)

  first_chained : {p : Leg} {s : Float} → p.from ≡ 0 → Fine None nought p s → Chained (first p s) (as_piece p ∷ [])
  unfolding last_of valid_from sum_from
  first_chained {p} at f = record {
    leading = leads_on 0 0 [] (as_piece p) at f.rising (leads_there 0);
    lasting = ap Some f.between;
    valid = valid_on breaks None [] (as_piece p) tt f.valid;
    summing = f.adds;
  }

  next_chained : {a : Statelet} {p : Leg} {s : Float} (ps : List C.Piece) → p.from ≡ (leg_of a).to → Fine (Some (leg_of a).quad) (score_of a) p s → Chained a ps → Chained (on a p s) (ps ++ (as_piece p ∷ []))
  next_chained {a} {p} ps at f c = record {
    leading = leads_on (leg_of a).to 0 ps (as_piece p) at f.rising c.leading;
    lasting = last_on breaks None ps (as_piece p) ∙ ap Some f.between;
    valid = valid_on breaks None ps (as_piece p) c.valid (rw c.lasting f.valid);
    summing = sum_on None (Some nought) ps (as_piece p) ∙ rw (c.lasting, c.summing) f.adds;
  }

  pub chained : {a : Statelet} → Good a → Chained a (pieces_of a)
  unfolding pieces_of
  chained (starts at f) = first_chained at f
  chained (goes {a} g at f) = next_chained (pieces_of a) at f (chained g)
