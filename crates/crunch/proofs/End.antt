-- The end of a contour: what the points in the row become, and what is given out of them. Assumes nothing.
use Rattle.std.specs.Prelude.{Result, Ok, Err}
use Rattle.refusals.specs.declared.refusal.Refusal.TheVariants.{OutputTooShort}
use Rattle.refusals.specs.declared.refusal.Refusal.{Refusal}
use Prim.Native.Nat.{ℕ, ◌≤◌}
use native.Mathlib.Nat.{le_trans}
use native.Mathlib.Omega.{arith}
use mathlib.Core.Bool.{Bool, true, false}
use mathlib.Core.List.{List, ◌++◌}
use mathlib.Core.Path.{◌≡◌, refl, sym, ap, subst, ◌∙◌}
use lib.Dec.{ltb}
use lib.IntN.{ℤ}
use lib.ListN.{length, take, length-append}
use lib.Seq.{take-append-le}
use Rattle.contour.specs.Points.{Points}
use Rattle.contour.specs.Writing.{Writing, so, over, unless_over, written, Wrote, Holds}
use Rattle.contour.specs.Implied.{finished}
use Rattle.contour.specs.Laws.{holds_count}
use Rattle.contour.specs.Output.{Outputs, outputs, with_points}
use Rattle.optimize.specs.declared.Tally.{Tally}
use Rattle.assembly.specs.Assembly.{State}
use Rattle.assembly.specs.Stands.{Stands, stops, ends, goes}
use Rattle.assembly.specs.declared.Crunching as C
use Rattle.assembly.specs.declared.Progress.{Progress}
use Rattle.crunch.specs.Crunch.{Outcome, refused, crunched, over_if, outcome_of}
use Rattle.crunch.specs.Crunch as S
use Rattle.crunch.specs.Entry.{answer_of, outputs_of}
use Rattle.crunch.specs.Stands.{Gives, no, yes, outcome_by, outcome_in, Counted, Fits}
use Rattle.crunch.specs.Steps.{copied}
use Rattle.crunch.specs.declared.Crunched as D

-- ---- `finish_points`

pub over_gives : (closed : Bool) (row : Points) {row' : Points} (p : Progress) → p.w.over ≡ true → Gives row' (outcome_by closed row p) (Err OutputTooShort)
over_gives closed row p h = rw h (no refl)

pub all_gives : (closed : Bool) (row : Points) (p : Progress) → p.w.over ≡ false → {row' : Points} {n : ℕ} → Holds row' n (finished closed (take p.w.count row)) →
    Gives row' (outcome_by closed row p) (Ok (record { points = n; tally = p.tally }))
all_gives closed row p h held = rw h (yes refl held)

-- ---- `finish`, whose answer is one of three

pub gives_by : (closed : Bool) (row : Points) {row' : Points} {c d : Result C.Crunching Refusal} {r : Result D.Crunched Refusal} → c ≡ d → Gives row' (outcome_in closed row d) r → Gives row' (outcome_in closed row c) r
gives_by closed row {row'} {r = r} e g = subst (λ (x : Result C.Crunching Refusal). Gives row' (outcome_in closed row x) r) (sym e) g

pub counted_by : (row : Points) {c d : Result C.Crunching Refusal} → c ≡ d → Counted row c → Counted row d
counted_by row e h = subst (Counted row) e h

-- ---- the outcome, of the state that the row stands for

pub counted : {room : ℕ} {row : Points} {s : State} {c : Result C.Crunching Refusal} → Stands room row s c → Counted row c
counted {row = row} (stops e) = subst (Counted row) (sym e) tt
counted {row = row} (ends e wrote tally) = subst (Counted row) (sym e) wrote.within
counted {row = row} (goes e wrote tally) = subst (Counted row) (sym e) wrote.within

module _ (closed : Bool) where
  abbrev by_writing : Tally → Writing → Outcome
  by_writing tally (so ps) = crunched (finished closed ps) tally
  by_writing tally over = refused OutputTooShort

  by_writing_lem : (b : Bool) (ps : Points) (tally : Tally) → over_if closed b ps tally ≡ by_writing tally (unless_over b ps)
  by_writing_lem true ps tally = refl
  by_writing_lem false ps tally = refl

  written_is : (room : ℕ) {row : Points} {p : Progress} (ps : Points) (t : Tally) → Wrote row p.w (written room ps) → p.tally ≡ t →
      outcome_by closed row p ≡ S.points_out closed room ps t
  unfolding written
  written_is room {row} {p} ps t wrote tally =
      by_writing_lem p.w.over (take p.w.count row) p.tally
      ∙ ap (by_writing p.tally) wrote.is
      ∙ sym (by_writing_lem (ltb room (length ps)) ps p.tally)
      ∙ ap (over_if closed (ltb room (length ps)) ps) tally

  outcome_is : {room : ℕ} {row : Points} {s : State} {c : Result C.Crunching Refusal} → Stands room row s c → outcome_in closed row c ≡ outcome_of closed room s
  outcome_is {row = row} (stops e) = ap (outcome_in closed row) e
  outcome_is {room} {row} (ends {ps = ps} {t = t} e wrote tally) = ap (outcome_in closed row) e ∙ written_is room ps t wrote tally
  outcome_is {room} {row} (goes {ps = ps} {t = t} e wrote tally) = ap (outcome_in closed row) e ∙ written_is room ps t wrote tally

  pub gives_outcome : {room : ℕ} {row row' : Points} {s : State} {c : Result C.Crunching Refusal} {r : Result D.Crunched Refusal} → Stands room row s c →
      Gives row' (outcome_in closed row c) r → Gives row' (outcome_of closed room s) r
  gives_outcome {row' = row'} {r = r} stands g = subst (λ (x : Outcome). Gives row' x r) (outcome_is stands) g

-- ---- `put_out`

pub refused_out : (row : Points) (o : Outputs) {c : Result D.Crunched Refusal} {k : Refusal} → c ≡ Err k → o ≡ copied c row o
refused_out row o e = rw e refl

pub points_out_lem : (row : Points) (o : Outputs) {o' : Outputs} {c : Result D.Crunched Refusal} {n : ℕ} {t : Tally} → c ≡ Ok (record { points = n; tally = t }) → o' ≡ with_points (take n row) o → o' ≡ copied c row o
points_out_lem row o e h = rw e h

pub fits_out : (row : Points) (ox oy : List ℤ) (of : List ℕ) {c : Result D.Crunched Refusal} {n : ℕ} {t : Tally} → c ≡ Ok (record { points = n; tally = t }) → Fits row (outputs ox oy of) c →
    (n ≤ length row) × (n ≤ length ox) × (n ≤ length oy) × (n ≤ length of)
fits_out row ox oy of e h = subst (Fits row (outputs ox oy of)) e h

-- ---- the row is lent up to its room: what stands in its first places stands in the row

module _ {sub : Points} (rest : Points) where
  held_in : {n : ℕ} {ps : Points} → Holds sub n ps → Holds (sub ++ rest) n ps
  held_in {n} h = record { within = omega (arith, h.within, length-append sub rest); are = take-append-le n sub rest h.within ∙ h.are }

  pub gives_fit : (ox oy : List ℤ) (of : List ℕ) {x : Outcome} {r : Result D.Crunched Refusal} → Gives sub x r → length sub ≤ length ox → length sub ≤ length oy → length sub ≤ length of →
      Fits (sub ++ rest) (outputs ox oy of) r
  gives_fit ox oy of (no e) x y f = subst (Fits (sub ++ rest) (outputs ox oy of)) (sym e) tt
  gives_fit ox oy of (yes e h) x y f =
      subst (Fits (sub ++ rest) (outputs ox oy of)) (sym e) ((held_in h).within, le_trans h.within x, le_trans h.within y, le_trans h.within f)

  pub gives_answer : {x : Outcome} {r : Result D.Crunched Refusal} → Gives sub x r → r ≡ answer_of x
  gives_answer (no e) = e
  gives_answer (yes {n = n} {t = t} e h) = e ∙ ap (λ (k : ℕ). (Ok (record { points = k; tally = t }))) (sym (holds_count h))

  pub gives_outs : {x : Outcome} {r : Result D.Crunched Refusal} (o : Outputs) → Gives sub x r → copied r (sub ++ rest) o ≡ outputs_of x o
  gives_outs o (no e) = rw e refl
  gives_outs o (yes e h) = rw (e, (held_in h).are) refl
