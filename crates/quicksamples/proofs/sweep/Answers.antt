use mathlib.Core.Bool.{true, true≢false}
use mathlib.Core.Path.{◌≡◌, refl, sym, ◌∙◌}
use native.Mathlib.Omega.{arith}
use lib.ListN.{length}
use Rattle.arclen.specs.Arclen.{hundredth}
use Rattle.quickarclen.specs.Stages.{time_from, Ready}
use Rattle.quicksamples.proofs.Turns.{straight_speeds, sweeps, sweeps_over, swept_all, length_all_lem}
use Rattle.quicksamples.proofs.sweep.Goals as goal
use Rattle.quicksamples.proofs.sweep.Goals.{Joined-not-straight, then-not-straight, else-not-straight}

-- the speeds of these ten steps are known, and those of a straight quad stay
record Speeds (c : Joined-not-straight) : Type 0 where
  long : length c.if-not-straight.v ≡ 21
  now : Ready c.new-f.result hundredth c.loop.t c.if-not-straight.v 0
  stay : c.is_straight-straight.result ≡ true → c.if-not-straight.v ≡ c.loop.v

speeds : (c : Joined-not-straight) → Speeds c
speeds c =
    elim c.if-not-straight.branch [
      | then-not-straight w ↦ record { long = rw w.v-is w.speeds_on.ensures.0; now = rw w.v-is w.speeds_on.ensures.1; stay = λ e. absurd (true≢false (sym e ∙ w.if-not-straight.true)) }
      | else-not-straight w ↦ record { long = rw w.v-is c.loop.invariant.known; now = rw w.v-is (straight_speeds c.loop.invariant c.loop-test.true w.if-not-straight.false); stay = λ e. w.v-is }
    ]

pub loop-init : goal.loop-init
unfolding time_from
loop-init c =
    record {
      functor = c.new-f.ensures;
      known = c.same_speeds-v.ensures.long;
      speed = c.same_speeds-v.ensures.is 20 (omega arith);
      even = λ e. (c.is_straight-straight.ensures e, c.same_speeds-v.ensures);
      time = refl;
      long = refl;
      inside = c.requires;
      rows = refl;
      len = refl;
    }

pub returns-in_err-w : goal.returns-in_err-w
returns-in_err-w c =
    rw c.from_residual.ensures record {
      row = sweeps_over c.loop.invariant c.loop-test.true (speeds (goal.at.returns-in_err-w c).Joined-not-straight).now c.lengths-starts.ensures
          (c.ten_steps.ensures.row ∙ rw c.in_err-w.was refl);
      places = omega arith;
      length = refl;
    }

pub loop-preserved : goal.loop-preserved
loop-preserved c =
    let known = speeds (goal.at.loop-preserved c).Joined-not-straight in
    sweeps c.loop.invariant c.loop-test.true known.now c.lengths-starts.ensures known.long known.stay c.later-t.ensures
    (c.ten_steps.ensures.row ∙ rw c.in_ok-w.was refl)
    (rw c.in_ok-w.was at c.ten_steps.ensures.len)
    c.ten_steps.auto.row
    (rw c.in_ok-w.was at c.ten_steps.ensures.places)

pub returns : goal.returns
returns c =
    record { row = swept_all c.loop.invariant c.loop-test.false; places = c.loop.invariant.inside; length = length_all_lem c.loop.invariant c.loop-test.false }
