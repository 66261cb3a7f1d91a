-- Stored answers: what a store keeps, and what it makes. Assumes nothing.
use Prim.Native.Nat.{ℕ, suc, ◌+◌, ◌*◌, ◌/◌, ◌≤◌, ◌<◌}
use native.Mathlib.Omega.{arith}
use mathlib.Core.Bool.{Bool, true, false}
use mathlib.Core.List.{List, []}
use mathlib.Core.Logic.{◌⊎◌, inl, inr, ⊎_elim}
use mathlib.Core.Path.{◌≡◌, refl, sym, ap, subst, ◌∙◌}
use borrow.Author.Tests.{eq-eqb, ne_eqb}
use lib.Dec.{eqb}
use lib.ListN.{length, get_or, set}
use lib.Seq.{lt-length-set, get_or-set_same, get_or-set_other}
use lib.Ieee.{Float}
use Rattle.geometry.specs.declared.Quad.{Quad}
use Rattle.breaks.specs.Breaks.{Row, break_at}
use Rattle.attempt.specs.declared.answer.Answer as A
use Rattle.attempt.specs.Answers.{Leg, Statelet, first, on, score_of, leg_of}
use Rattle.optimize.specs.Stored.{from_break, slot_if, slot_at, score_in, piece_in, loaded, row_of, Slot, Holds, starts, follows}

-- ---- numbers of stored answers

pub from_nothing : from_break 0 ≡ 0
unfolding from_break
from_nothing = refl

pub from_start : from_break 1 ≡ 0
unfolding from_break
from_start = refl

pub from_stored : (k : ℕ) → from_break (k + 2) ≡ k / 2
unfolding from_break
from_stored k =
    let e : k + 2 ≡ suc (suc k) = omega arith in
    rw e

module _ (ls : List ℕ) (b : ℕ) where
  pub slot_early : get_or ls (2 * b + 1) 0 ≡ 0 → slot_at ls b ≡ 2 * b
  unfolding slot_at
  slot_early e = rw (eq-eqb _ _ e)

  pub slot_late : (get_or ls (2 * b + 1) 0 ≡ 0 → ⊥) → slot_at ls b ≡ 2 * b + 1
  unfolding slot_at
  slot_late e = rw (ne_eqb _ _ e)

  either : (t : Bool) → (slot_if t b ≡ 2 * b) ⊎ (slot_if t b ≡ 2 * b + 1)
  either true = inl refl
  either false = inr refl

  slot_is : (slot_at ls b ≡ 2 * b) ⊎ (slot_at ls b ≡ 2 * b + 1)
  unfolding slot_at
  slot_is = either (eqb (get_or ls (2 * b + 1) 0) 0)

  pub slot_most : slot_at ls b ≤ 2 * b + 1
  slot_most = ⊎_elim (λ e. omega arith) (λ e. omega arith) slot_is

  pub slot_break : slot_at ls b / 2 ≡ b
  slot_break = ⊎_elim (λ e. omega arith) (λ e. omega arith) slot_is

-- ---- what is held

module _ {P : ℕ → Type 0} {bs : Row} {rs : List (List Float)} {ls : List ℕ} where
  pub linked : {k : ℕ} {a : Statelet} → Holds P bs rs ls k a → get_or ls k 0 ≡ 0 → ⊥
  linked (starts s) z = omega (arith, s.link)
  linked (follows s low h) z = omega (arith, s.link)

  pub scored : {k : ℕ} {a : Statelet} → Holds P bs rs ls k a → score_in bs rs k ≡ score_of a
  scored (starts s) = s.score
  scored (follows s low h) = s.score

  pub pieced : {k : ℕ} {a : Statelet} → Holds P bs rs ls k a → piece_in bs rs k (get_or ls k 0) ≡ leg_of a
  pieced (starts s) = rw s.link s.piece
  pieced (follows s low h) = rw s.link s.piece

  pub used : {k : ℕ} {a : Statelet} → Holds P bs rs ls k a → P k
  used (starts s) = s.may
  used (follows s low h) = s.may

  -- the breaks that it names are there
  pub names : {k : ℕ} {a : Statelet} → Holds P bs rs ls k a → k / 2 < length bs → from_break (get_or ls k 0) < length bs
  names (starts s) h = rw (s.link, from_start) (omega arith)
  names (follows {k} {j} s low t) h = rw (s.link, from_stored j) (omega arith)

  with_use : {Q : ℕ → Type 0} {k l : ℕ} {p : Leg} {s : Float} → Q k → Slot P bs rs ls k l p s → Slot Q bs rs ls k l p s
  with_use q s = record { may = q; in_answers = s.in_answers; in_links = s.in_links; link = s.link; score = s.score; piece = s.piece }

  -- stored answers that P holds of are ones that Q holds of
  pub wider : {Q : ℕ → Type 0} → ((k : ℕ) → P k → Q k) → {k : ℕ} {a : Statelet} → Holds P bs rs ls k a → Holds Q bs rs ls k a
  wider f (starts {k} s) = starts (with_use (f k s.may) s)
  wider f (follows {k} s low h) = follows (with_use (f k s.may) s) low (wider f h)

  -- links fall
  pub below : (m : ℕ) {k : ℕ} {a : Statelet} → k < m → Holds P bs rs ls k a → Holds (λ i. P i × (i < m)) bs rs ls k a
  below m less (starts s) = starts (with_use (s.may, less) s)
  below m less (follows s low h) = follows (with_use (s.may, less) s) low (below m (omega arith) h)

  -- a store in a place that P does not hold of
  pub kept : (s : ℕ) (v : List Float) (l : ℕ) → (P s → ⊥) → {k : ℕ} {a : Statelet} → Holds P bs rs ls k a → Holds P bs (set rs s v) (set ls s l) k a
  kept s v l free h = go h
    where
      slot : {k m : ℕ} {p : Leg} {x : Float} → Slot P bs rs ls k m p x → Slot P bs (set rs s v) (set ls s l) k m p x
      slot {k} o =
          let other : k ≡ s → ⊥ = λ e. free (subst P e o.may) in
          let row : get_or (set rs s v) k [] ≡ get_or rs k [] = get_or-set_other rs s k v [] other in
          record {
            may = o.may;
            in_answers = lt-length-set rs s v o.in_answers;
            in_links = lt-length-set ls s l o.in_links;
            link = get_or-set_other ls s k l 0 other ∙ o.link;
            score = rw row o.score;
            piece = rw row o.piece;
          }

      go : {k : ℕ} {a : Statelet} → Holds P bs rs ls k a → Holds P bs (set rs s v) (set ls s l) k a
      go (starts o) = starts (slot o)
      go (follows o low t) = follows (slot o) low (go t)

-- a store in a place above it
pub kept_below : {P : ℕ → Type 0} {bs : Row} {rs : List (List Float)} {ls : List ℕ} (s : ℕ) (v : List Float) (l : ℕ) {k : ℕ} {a : Statelet} → k < s →
    Holds P bs rs ls k a → Holds P bs (set rs s v) (set ls s l) k a
kept_below {P} {bs} {rs} {ls} s v l less h =
    wider {P = λ i. P i × (i < s)} (λ i u. u.0) (kept {P = λ i. P i × (i < s)} s v l (λ u. omega (arith, u.1)) (below s less h))

-- ---- what a store makes

module _ (P : ℕ → Type 0) (bs : Row) (rs : List (List Float)) (ls : List ℕ) (k : ℕ) (x : A.Answer) (own : P k) (in_rs : k < length rs) (in_ls : k < length ls) where
  -- the place that is written
  written : (l : ℕ) (p : Leg) → x.link ≡ l → p.from ≡ from_break l → p.to ≡ k / 2 → p.quad.p0 ≡ (break_at bs p.from).xy → p.quad.p2 ≡ (break_at bs p.to).xy →
      p.quad.p1 ≡ x.quad.p1 → Slot P bs (set rs k (row_of x)) (set ls k x.link) k l p x.score
  written l p e from to start end control =
      let row : get_or (set rs k (row_of x)) k [] ≡ row_of x = get_or-set_same rs k (row_of x) [] in_rs in
      let whole : record { from = p.from; to = p.to; quad = record { p0 = p.quad.p0; p1 = p.quad.p1; p2 = p.quad.p2 } } ≡ p = refl in
      record {
        may = own;
        in_answers = lt-length-set rs k (row_of x) in_rs;
        in_links = lt-length-set ls k x.link in_ls;
        link = get_or-set_same ls k x.link 0 in_ls ∙ e;
        score = rw row refl;
        piece = rw (row, ← control, ← from, ← to, ← start, ← end) refl;
      }

  -- the first piece of a run
  pub new_start : (p : Leg) → x.link ≡ 1 → p.from ≡ 0 → p.to ≡ k / 2 → p.quad.p0 ≡ (break_at bs p.from).xy → p.quad.p2 ≡ (break_at bs p.to).xy →
      p.quad ≡ x.quad → Holds P bs (set rs k (row_of x)) (set ls k x.link) k (first p x.score)
  new_start p e from to start end is = starts (written 1 p e (from ∙ sym from_start) to start end (ap (λ (q : Quad). q.p1) is))

  -- a piece built on an answer below it
  pub new_on : {a : Statelet} (j : ℕ) (p : Leg) → x.link ≡ j + 2 → j < k → p.from ≡ j / 2 → p.to ≡ k / 2 → p.quad.p0 ≡ (break_at bs p.from).xy →
      p.quad.p2 ≡ (break_at bs p.to).xy → p.quad ≡ x.quad → Holds P bs rs ls j a → Holds P bs (set rs k (row_of x)) (set ls k x.link) k (on a p x.score)
  new_on j p e low from to start end is h =
      follows (written (j + 2) p e (from ∙ sym (from_stored j)) to start end (ap (λ (q : Quad). q.p1) is)) low (kept_below k (row_of x) x.link low h)

-- an answer copied to a place of the same break, no lower
pub copied : (P : ℕ → Type 0) (bs : Row) (rs : List (List Float)) (ls : List ℕ) (s k : ℕ) {a : Statelet} → P k → k < length rs → k < length ls → s ≤ k → s / 2 ≡ k / 2 →
    Holds P bs rs ls s a → Holds P bs (set rs k (row_of (loaded bs rs ls s))) (set ls k (loaded bs rs ls s).link) k a
copied P bs rs ls s k own in_rs in_ls upto same (starts {p = p} o) =
    rw (← o.score)
    (new_start P bs rs ls k (loaded bs rs ls s) own in_rs in_ls p o.link
    (rw (← o.piece) from_start) (rw (← o.piece) same) (rw (← o.piece) refl) (rw (← o.piece) refl) (rw (← o.piece, o.link) refl))
copied P bs rs ls s k own in_rs in_ls upto same (follows {j = j} {p = p} o low h) =
    rw (← o.score)
    (new_on P bs rs ls k (loaded bs rs ls s) own in_rs in_ls j p o.link (omega arith)
    (rw (← o.piece) (from_stored j)) (rw (← o.piece) same) (rw (← o.piece) refl) (rw (← o.piece) refl) (rw (← o.piece, o.link) refl) h)
