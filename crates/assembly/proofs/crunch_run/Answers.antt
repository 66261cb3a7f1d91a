-- `assembly::crunch_run` meets its contract. Assumes nothing.
use native.Mathlib.Omega.{arith}
use Rattle.optimize.specs.Fallen.{upto_more}
use Rattle.assembly.proofs.Run.{copied_stands, worked_stands}
use Rattle.assembly.proofs.crunch_run.Goals as goal

pub start_of-a-requires : goal.start_of-a-requires
start_of-a-requires c = tt

pub is_copied_from-requires : goal.is_copied_from-requires
is_copied_from-requires c = tt

pub read_from-requires : goal.read_from-requires
read_from-requires c = tt

pub push_seg-w-requires : goal.push_seg-w-requires
push_seg-w-requires c = tt

pub shape_of-points-then-is_copied_from : goal.shape_of-points-then-is_copied_from
shape_of-points-then-is_copied_from c = c.push_seg-w.auto.points

pub returns-then-is_copied_from : goal.returns-then-is_copied_from
returns-then-is_copied_from c =
    record {
      stands = λ ps wrote.
          copied_stands _ _ _ _ _ _ c.start_of-a.ensures c.is_copied_from.ensures c.if-is_copied_from.true c.read_from.ensures ps _ c.push_seg-w.ensures wrote;
      few = λ runs h. upto_more (omega arith) h;
    }

pub work_run-requires : goal.work_run-requires
work_run-requires c = c.requires

pub shape_of-samples : goal.shape_of-samples
shape_of-samples c = c.work_run.auto.samples

pub shape_of-breaks : goal.shape_of-breaks
shape_of-breaks c = c.work_run.auto.breaks

pub shape_of-answers : goal.shape_of-answers
shape_of-answers c = c.work_run.auto.answers

pub shape_of-links : goal.shape_of-links
shape_of-links c = c.work_run.auto.links

pub shape_of-points : goal.shape_of-points
shape_of-points c = c.work_run.auto.points

pub returns : goal.returns
returns c =
    record {
      stands = λ ps wrote. worked_stands _ _ _ _ _ _ c.start_of-a.ensures c.is_copied_from.ensures c.if-is_copied_from.false ps _ (c.work_run.ensures.stands ps wrote);
      few = c.work_run.ensures.few;
    }
