-- `assembly::after_survey` meets its contract. Assumes nothing.
use Prim.Native.Nat.{◌+◌}
use native.Mathlib.Omega.{arith}
use mathlib.Core.Path.{refl, sym, subst}
use lib.Seq.{length-take-le}
use Rattle.refusals.proofs.Passing.{handed_up}
use Rattle.survey.specs.Survey.{samples_used, breaks_used}
use Rattle.edition.specs.Laws.{in_row}
use Rattle.assembly.specs.Stands.{stops, ends, FoundIn}
use Rattle.optimize.specs.Fallen.{nothing_upto, upto_more, plus_untried}
use Rattle.assembly.proofs.Run.{surveyed_so}
use Rattle.assembly.proofs.after_survey.Goals as goal

pub slice_bounds-step-end : goal.slice_bounds-step-end
slice_bounds-step-end c = sym (length-take-le _ _ (in_row samples_used (rw c.in-Some.is at c.in_ok-s.was) c.requires.0.samples_in_lem refl))

pub slice_bounds-step-end-in-Some : goal.slice_bounds-step-end-in-Some
slice_bounds-step-end-in-Some c = sym (length-take-le _ _ (in_row breaks_used (rw c.in-Some.is at c.in_ok-s.was) c.requires.0.breaks_in_lem refl))

pub step-requires : goal.step-requires
step-requires c = (subst (FoundIn c.args.breaks.now) (rw c.in-Some.is at c.in_ok-s.was) c.requires.0.found, c.requires.1)

pub returns-in_err-s : goal.returns-in_err-s
returns-in_err-s c =
    rw (handed_up c.from_residual.result _ c.from_residual.ensures.1)
    (record { stands = λ ps wrote. surveyed_so _ _ _ _ c.args.samples.now c.args.breaks.now c.in_err-s.was ps _ (stops refl); few = λ runs h. nothing_upto (runs + 1) })

pub returns-in-None : goal.returns-in-None
returns-in-None c =
    record {
      stands = λ ps wrote. surveyed_so _ _ _ _ c.args.samples.now c.args.breaks.now (rw c.in-None.is at c.in_ok-s.was) ps _ (ends refl c.unchanged_in-w.ensures (plus_untried _));
      few = λ runs h. upto_more (omega arith) h;
    }

pub returns-in-Some : goal.returns-in-Some
returns-in-Some c =
    record {
      stands = λ ps wrote. surveyed_so _ _ _ _ c.args.samples.now c.args.breaks.now (rw c.in-Some.is at c.in_ok-s.was) ps _ (c.step.ensures.stands ps wrote);
      few = c.step.ensures.few;
    }
