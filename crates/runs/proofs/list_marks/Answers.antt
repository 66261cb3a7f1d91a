use Rattle.runs.proofs.Listing.{listing_start, listing_mark, listing_pass, listed, listed_few}
use Rattle.runs.proofs.list_marks.Goals as goal
use Rattle.runs.proofs.list_marks.Goals.{then-marked, else-marked}

pub loop-i-init : goal.loop-i-init
loop-i-init c = listing_start _ _

pub loop-i-preserved : goal.loop-i-preserved
loop-i-preserved c =
    elim c.if-marked.branch [
      | then-marked w ↦ rw (w.list-is, w.n-is) (listing_mark _ c.loop-i.invariant c.loop-i-test.true c.requires w.if-marked.true)
      | else-marked w ↦ rw (w.list-is, w.n-is) (listing_pass _ c.loop-i.invariant c.loop-i-test.true w.if-marked.false)
    ]

pub returns : goal.returns
returns c =
    record { listed = listed _ c.loop-i.invariant c.loop-i-test.false c.requires; few = listed_few _ c.loop-i.invariant c.requires }
