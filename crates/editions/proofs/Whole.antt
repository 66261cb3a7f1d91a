-- What an edition is promised, of its rows as they are lent and handed back. Assumes nothing.
use Rattle.std.specs.Prelude.{Result}
use Rattle.refusals.specs.declared.refusal.Refusal.{Refusal}
use Prim.Native.Nat.{ℕ, min, ◌≤◌}
use native.Mathlib.Omega.{arith}
use mathlib.Core.List.{List, ◌++◌}
use mathlib.Core.Path.{◌≡◌, refl, sym, ap, ◌∙◌}
use lib.Ieee.{Float}
use lib.IntN.{ℤ}
use lib.ListN.{length, take, drop, replicate}
use lib.Seq.{length-take-le}
use Rattle.rows.specs.Rows.{Work, work, sample_zero, break_zero, answer_zero, link_zero, point_zero}
use Rattle.rows.specs.Lent.{inputs}
use Rattle.settings.specs.declared.Settings.{Settings}
use Rattle.edition.specs.Scratch.{rooms_of, cleared}
use Rattle.contour.specs.Points.{Points}
use Rattle.contour.specs.Output.{outputs}
use Rattle.crunch.specs.Crunch.{crunch_of}
use Rattle.crunch.specs.Entry.{Rows}
use Rattle.crunch.specs.Entry as Crunch
use Rattle.crunch.specs.Stands.{Gives, Fits}
use Rattle.crunch.specs.Steps.{copied}
use Rattle.crunch.specs.declared.Crunched as D
use Rattle.crunch.proofs.End.{gives_fit, gives_answer, gives_outs}
use Rattle.crunch.proofs.Whole.{room_in, room_is, room_few, length_kept, at_room}

-- ---- the row for points is lent up to the shortest row

module _ (ox oy : List ℤ) (of : List ℕ) (points : Points) {room : ℕ} (is : room ≡ min (min (length ox) (length oy)) (min (length of) (length points))) where
  pub within : room ≤ length points
  within = room_in (length ox) (length oy) (length of) points refl refl is

  pub lent_so : room ≡ length (take room points)
  lent_so = sym (length-take-le room points within)

  module _ (w : Work) (settings : Settings) (xs ys : List ℤ) (fs : List ℕ) {sub : Points} {r : Result D.Crunched Refusal}
      (gives : Gives sub (crunch_of (rooms_of w) (length (take room points)) settings xs ys fs) r) (kept : length sub ≡ length (take room points)) where
    pub fits : Fits (sub ++ drop room points) (outputs ox oy of) r
    fits =
        let (x, y, f) = room_few (length ox) (length oy) (length of) points refl refl is in
        gives_fit (drop room points) ox oy of gives (omega (arith, kept, x)) (omega (arith, kept, y)) (omega (arith, kept, f))

    pub promised : (exit : Rows) → exit.outs ≡ copied r (sub ++ drop room points) (outputs ox oy of) → exit.work ≡ cleared w →
        exit.points ≡ replicate (length (sub ++ drop room points)) point_zero →
        Crunch.Promise (inputs xs ys fs) settings (record { entry = record { outs = outputs ox oy of; work = w; points = points }; exit = exit }) r
    promised exit outs work-so points_so =
        let there = at_room (rooms_of w) settings xs ys fs (room_is (length ox) (length oy) (length of) points refl refl is) gives in
        record {
          answer = gives_answer (drop room points) there;
          outs = outs ∙ gives_outs (drop room points) (outputs ox oy of) there;
          work = work-so;
          points = points_so ∙ ap (λ (n : ℕ). replicate n point_zero) (length_kept points sub room kept);
        }

-- ---- the shared rows are handed back with either edition's

abbrev samples_in : Work → List (List Float)
samples_in (work s b a l) = s

abbrev breaks_in : Work → List (List Float)
breaks_in (work s b a l) = b

abbrev answers_in : Work → List (List Float)
answers_in (work s b a l) = a

abbrev links_in : Work → List ℕ
links_in (work s b a l) = l

pub zero_so : {A : Type 0} (z : A) {m n : ℕ} → m ≡ n → replicate m z ≡ replicate n z
zero_so z e = ap (λ (k : ℕ). replicate k z) e

pub by_parts : (s b a : List (List Float)) (l : List ℕ) {shared own : Work} {zs zb zx zr zt za : List (List Float)} {zy zl : List ℕ} → shared ≡ work zs zb zx zy →
    own ≡ work zr zt za zl → zs ≡ replicate (length s) sample_zero → zb ≡ replicate (length b) break_zero → za ≡ replicate (length a) answer_zero →
    zl ≡ replicate (length l) link_zero → work (samples_in shared) (breaks_in shared) (answers_in own) (links_in own) ≡ cleared (work s b a l)
by_parts s b a l shared own es eb ea el = rw (shared, own, es, eb, ea, el) refl
