-- Laws for callers: points that are written one list after the other are written as one list; what `over` says at the end; that finishing adds
-- no point; and what stands in the first places of an output row. Assumes nothing.
use Prim.Native.Nat.{ℕ, zero, suc, ◌+◌, ◌-◌, ◌≤◌, ◌<◌}
use Rattle.std.proofs.Math.Nat.{le_refl, le_trans}
use Rattle.std.specs.Prelude.{Bool, List, [], ◌++◌, reverse, ℤ, take, drop}
use Rattle.std.proofs.Math.Bool.{true, false}
use Rattle.std.proofs.Common.{append_assoc, sym, ap, ◌∙◌, arith, length-append, length-take, length-drop, length-take-le, take_at}
use Rattle.std.proofs.Math.Path.{◌≡◌, refl}
use borrow.Author.Tests.{lt-ltb, le-ltb, ltb-true, ltb-false}
use Rattle.std.proofs.Math.Dec.{ltb}
use Rattle.std.proofs.Math.ListN.{length}
use Rattle.std.proofs.lemmas.List.{length-reverse}
use Rattle.contour.specs.Points.{Points}
use Rattle.contour.specs.Implied.{removed, implied_at, look, drop_from, first_place, drop_implied, is_implied, finished}
use Rattle.contour.specs.Output.{front}
use Rattle.contour.specs.declared.Written.{Written}
use Rattle.contour.specs.Writing.{Writing, so, over, unless_over, written, extended, writing_in, Wrote, Holds}

-- nothing is written yet
pub nothing_written : (row : Points) → Wrote row (record { count = 0; over = false }) (written (length row) [])
unfolding written
nothing_written row = record { within = omega arith; is = rw (le-ltb (length row) 0 (omega arith)) refl }

pub extended_written : (room : ℕ) (ps qs : Points) → extended room (written room ps) qs ≡ written room (ps ++ qs)
unfolding written
extended_written room ps qs = by (ltb room (length ps)) refl
  where
    by : (b : Bool) → ltb room (length ps) ≡ b → extended room (unless_over b ps) qs ≡ written room (ps ++ qs)
    by true e =
        let more : room < length (ps ++ qs) = omega (arith, ltb-true room (length ps) e, length-append ps qs) in
        rw (lt-ltb room (length (ps ++ qs)) more)
    by false e = refl

pub extended_more : (room : ℕ) (s : Writing) (ps qs : Points) → extended room (extended room s ps) qs ≡ extended room s (ps ++ qs)
extended_more room (so os) ps qs = extended_written room (os ++ ps) qs ∙ ap (written room) (append_assoc os ps qs)
extended_more room over ps qs = refl

-- a row after one list more, where it held s with ps after it, and where it held just ps
module _ {row₁ row₂ : Points} {w₁ w₂ : Written} (room : ℕ) (ps qs : Points) (same : length row₁ ≡ room)
    (then : Wrote row₂ w₂ (extended (length row₁) (writing_in row₁ w₁) qs)) where
  pub wrote_more : (s : Writing) → Wrote row₁ w₁ (extended room s ps) → Wrote row₂ w₂ (extended room s (ps ++ qs))
  wrote_more s first =
      record { within = then.within; is = then.is ∙ rw (same, first.is) (extended_more room s ps qs) }

  pub wrote_after : Wrote row₁ w₁ (written room ps) → Wrote row₂ w₂ (written room (ps ++ qs))
  wrote_after first =
      record { within = then.within; is = then.is ∙ rw (same, first.is) (extended_written room ps qs) }

-- ---- refusal 9: a row that is over was given more points than its room; one that is not holds them all

module _ (room : ℕ) (ps : Points) {row : Points} {w : Written} (wrote : Wrote row w (written room ps)) where
  pub wrote_over : w.over ≡ true → room < length ps
  unfolding written
  wrote_over o = by (ltb room (length ps)) refl (rw o at wrote.is)
    where
      by : (b : Bool) → ltb room (length ps) ≡ b → over ≡ unless_over b ps → room < length ps
      by true e q = ltb-true room (length ps) e
      by false e q = let z : ◌≡◌ {A = ℕ} 0 1 = cc in absurd (omega arith)

  pub wrote_all : w.over ≡ false → Holds row w.count ps × (length ps ≤ room)
  unfolding written
  wrote_all o = by (ltb room (length ps)) refl (rw o at wrote.is)
    where
      by : (b : Bool) → ltb room (length ps) ≡ b → so (take w.count row) ≡ unless_over b ps → Holds row w.count ps × (length ps ≤ room)
      by true e q = let z : ◌≡◌ {A = ℕ} 0 1 = cc in absurd (omega arith)
      by false e q = (record { within = wrote.within; are = cc }, ltb-false room (length ps) e)

pub holds_count : {row : Points} {n : ℕ} {ps : Points} → Holds row n ps → length ps ≡ n
holds_count {row} {n} h = sym (ap length h.are) ∙ length-take-le n row h.within

-- ---- no point is added at the end

removed_shorter : (ps : Points) (i : ℕ) → length (removed ps i) ≤ length ps
removed_shorter ps i = omega (arith, length-append (take i ps) (drop (i + 1) ps), length-take i ps, length-drop (i + 1) ps)

module _ (implied : List ℤ → List ℤ → List ℤ → Bool) where
  look_shorter : (k : ℕ) (b : Bool) (ps : Points) (i : ℕ) → length (look implied k b ps i) ≤ length ps
  unfolding look
  look_shorter zero b ps i = le_refl (length ps)
  look_shorter (suc k) true ps i = le_trans (look_shorter k (implied_at implied (removed ps i) i) (removed ps i) i) (removed_shorter ps i)
  look_shorter (suc k) false ps i = look_shorter k (implied_at implied ps (i + 1)) ps (i + 1)

  from_shorter : (ps : Points) (i : ℕ) → length (drop_from implied ps i) ≤ length ps
  unfolding drop_from
  from_shorter ps i = look_shorter (length ps - i) (implied_at implied ps i) ps i

pub dropped_shorter : (closed : Bool) (ps : Points) → length (drop_implied closed ps) ≤ length ps
dropped_shorter closed ps = from_shorter (is_implied closed) ps (first_place closed)

pub finished_shorter : (closed : Bool) (ps : Points) → length (finished closed ps) ≤ length ps
finished_shorter true ps = dropped_shorter true ps
finished_shorter false ps = rw (length-reverse ps) at (dropped_shorter false (reverse ps))

-- ---- a row with s in its first places

pub front_first : {A : Type 0} (n : ℕ) (s row : List A) → length s ≡ n → take n (front s row) ≡ s
front_first n s row e = take_at s (drop (length s) row) n e
