-- `quicksamples::ten_steps` meets its contract: where no sample is due only the last step counts. Assumes nothing.
use mathlib.Core.Path.{refl, ◌∙◌}
use Rattle.quicksamples.proofs.Turns.{idle}
use Rattle.quicksamples.proofs.ten_steps.Goals as goal

pub returns : goal.returns
returns c =
    record {
      row = idle _ _ _ _ _ _ _ (c.is_due.ensures c.if-is_due.false) ∙ rw (c.step_at-last.ensures, c.later.ensures);
      places = c.requires.1;
      len = refl;
    }
