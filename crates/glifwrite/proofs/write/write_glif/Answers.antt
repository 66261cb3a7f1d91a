-- `glifwrite::write::write_glif` meets its contract. Assumes nothing.
use Rattle.glifwrite.proofs.Copying.{few, write_answer, write_left}
use Rattle.glifwrite.proofs.write.write_glif.Goals as goal

pub write_all-size-requires : goal.write_all-size-requires
write_all-size-requires c = few _ c.pick-n.ensures

pub write_all-requires : goal.write_all-requires
write_all-requires c = few _ c.pick-m.ensures

pub shape_of-out : goal.shape_of-out
shape_of-out c = c.write_all.auto.out

pub returns : goal.returns
returns c =
    let n_is = rw c.is_some.ensures at c.pick-n.ensures in
    let m_is = rw c.is_some-2.ensures at c.pick-m.ensures in
    record {
      answer = write_answer c.args.bytes.now c.args.ends.now c.args.xs.now c.args.ys.now c.args.flags.now c.args.out.now c.judge-f.ensures c.refuse-k.ensures n_is c.write_all-size.ensures
          c.pick-short.ensures c.or-refusal.ensures
          m_is c.write_all.ensures c.answer_as.ensures;
      left = write_left c.args.bytes.now c.args.ends.now c.args.xs.now c.args.ys.now c.args.flags.now c.args.out.now c.judge-f.ensures c.refuse-k.ensures n_is c.write_all-size.ensures c.pick-short.ensures c.or-refusal.ensures m_is c.write_all.ensures c.answer_as.ensures;
    }
