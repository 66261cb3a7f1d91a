-- What the promises of specs/Calls say of two calls, of a report, and of a check. Assumes nothing.
use Rattle.std.specs.Prelude.{◌↔◌, Result, Ok, Err, true, false, Bool}
use Rattle.refusals.specs.declared.refusal.Refusal.{Refusal}
use Rattle.refusals.specs.declared.refusal.Refusal.TheVariants.{UnevenRows, NoPoint, TooManyPoints, StartsOffCurve, OffCurveNeighbours, TooManySamples, TooManyBreaks, PastLastSample, OutputTooShort, NoSuchRun, NoSuchSegment, CutShort, EndsNotRising, TooLarge, Composite, NoSuchPenalty, Outside16Bits, ListTooShort, Malformed, CubicOrOpen, NoOnCurve}
use Rattle.refusals.specs.Number.{number_of}
use Prim.Native.Nat.{ℕ, ◌<◌}
use native.Mathlib.Omega.{arith}
use mathlib.Core.Path.{◌≡◌, refl, sym, ap, subst, ◌∙◌}
use lib.Dec.{lit≤}
use Rattle.rows.specs.Rows.{Work, work}
use Rattle.contour.specs.Output.{Outputs, outputs}
use Rattle.contour.specs.Points.{Points}
use Rattle.pieces.specs.Slots.{chain}
use Rattle.edition.specs.Scratch.{rooms_of}
use Rattle.crunch.specs.Crunch as Crunched
use Rattle.crunch.specs.Entry as Crunch
use Rattle.chains.specs.Chains as Chained
use Rattle.chains.specs.Entry as Chains
use Rattle.checks.proofs.Exactly.{accepts_exactly, no_exactly, eight_exactly, refused_exactly, number_above}
use Rattle.checks.specs.Exactly.{RefusedBy}
use Rattle.fontcrunch.specs.Exports.{crunch_report, chain_report, check_report}
use Rattle.fontcrunch.specs.Determine as Once
use Rattle.fontcrunch.specs.Handed as Handing
use Rattle.fontcrunch.specs.Calls.{CrunchGiven, CrunchLeft, CrunchIs, CrunchShows, CrunchAlike, crunch_defined, crunch_after}
use Rattle.fontcrunch.specs.Calls.{ChainGiven, ChainLeft, ChainIs, ChainShows, ChainAlike, chain_defined, chain_after, chain_worked}
use Rattle.fontcrunch.specs.Calls.{CheckGiven, CheckLeft, CheckIs, CheckShows, CheckAlike, check_defined, check_work, check_worked, check_settings, check_chain}
use Rattle.fontcrunch.specs.Calls.{CheckAccepts, CheckDenies, CheckRefuses, CheckEight, ByNumber, Handed}
use Rattle.fontcrunch.specs.declared.CrunchReport.{CrunchReport}
use Rattle.fontcrunch.specs.declared.ChainReport.{ChainReport}
use Rattle.fontcrunch.specs.declared.CheckReport.{CheckReport}
use Rattle.fontcrunch.proofs.Reports.{nought_bits}

-- ---- crunch

pub crunch_shows : {g : CrunchGiven} {l : CrunchLeft} → CrunchIs g l → CrunchShows (crunch_defined g) l.report
crunch_shows {g} {l} p = rw (p.shown.is, p.shown.promise.answer) (by (crunch_defined g))
  where
    by : (o : Crunched.Outcome) → CrunchShows o (crunch_report (Crunch.answer_of o))
    by (Crunched.refused k) = (refl, refl, refl, refl)
    by (Crunched.crunched ps t) = (refl, refl, refl, refl)

crunch_left_by : CrunchReport → Outputs → Work → Points → CrunchLeft
crunch_left_by r (outputs ox oy of) (work s b a l) p =
    record { report = r; ox = ox; oy = oy; of = of; samples = s; breaks = b; answers = a; links = l; points = p }

pub crunch_left_lem : {g g' : CrunchGiven} {l l' : CrunchLeft} → CrunchIs g l → CrunchIs g' l' → g ≡ g' → l ≡ l'
unfolding crunch_left_by
crunch_left_lem {g} {g'} {l} {l'} p q e =
    let same = Once.crunch_determined refl p.shown (subst (λ (h : CrunchGiven). CrunchIs h l') (sym e) q).shown in
    λ i. crunch_left_by (same.report i) (same.outs i) (same.work i) (same.points i)

pub crunch_equal : {g g' : CrunchGiven} {l l' : CrunchLeft} → CrunchIs g l → CrunchIs g' l' → CrunchAlike g g' →
    Once.CrunchEqual l.report l'.report (crunch_after l) (crunch_after l')
crunch_equal p q a = Once.crunch_equal_orders a.rows p.shown (rw (← a.contour, ← a.settings) at q.shown)

-- ---- chain

pub chain_shows : {g : ChainGiven} {l : ChainLeft} → ChainIs g l → ChainShows (chain_defined g) l.report
chain_shows {g} {l} p = rw (p.shown.shown.is, p.shown.shown.promise.answer) (by (chain_defined g))
  where
    by : (o : Chained.Outcome) → ChainShows o (chain_report (Chains.answer_of o))
    by (Chained.refused k) = (refl, refl, refl, nought_bits, refl)
    by (Chained.unchanged t) = (refl, refl, refl, nought_bits, refl)
    by (Chained.chained ps s t) = (refl, refl, refl, refl, refl)

chain_left_by : ChainReport → Chains.Rows → Work → ChainLeft
chain_left_by r (Chains.rows (chain st en cx cy) sp) (work s b a l) =
    record { report = r; starts = st; ends = en; cxs = cx; cys = cy; spans = sp; samples = s; breaks = b; answers = a; links = l }

pub chain_left_lem : {g g' : ChainGiven} {l l' : ChainLeft} → ChainIs g l → ChainIs g' l' → g ≡ g' → l ≡ l'
unfolding chain_left_by
chain_left_lem {g} {g'} {l} {l'} p q e =
    let same = Once.chain_determined refl refl p.shown (subst (λ (h : ChainGiven). ChainIs h l') (sym e) q).shown in
    λ i. chain_left_by (same.report i) (same.rows i) (same.work i)

pub chain_equal : {g g' : ChainGiven} {l l' : ChainLeft} → ChainIs g l → ChainIs g' l' → ChainAlike g g' →
    Once.ChainEqual l.report l'.report (chain_after l) (chain_after l') (chain_worked l) (chain_worked l')
chain_equal p q a = Once.chain_equal_orders a.room a.rooms p.shown (rw (← a.contour, ← a.settings, ← a.run) at q.shown)

-- ---- check

check_left_by : CheckReport → Work → CheckLeft
check_left_by r (work s b a l) = record { report = r; samples = s; breaks = b; answers = a; links = l }

pub check_left_lem : {g g' : CheckGiven} {l l' : CheckLeft} → CheckIs g l → CheckIs g' l' → g ≡ g' → l ≡ l'
unfolding check_left_by
check_left_lem {g} {g'} {l} {l'} p q e =
    let same = Once.check_determined refl p.shown (subst (λ (h : CheckGiven). CheckIs h l') (sym e) q).shown in
    λ i. check_left_by (same.report i) (same.work i)

pub check_equal : {g g' : CheckGiven} {l l' : CheckLeft} → CheckIs g l → CheckIs g' l' → CheckAlike g g' →
    Once.CheckSame l.report l'.report (check_worked l) (check_worked l')
check_equal p q a = Once.check_equal_orders a.rooms p.shown (rw (← a.contour, ← a.settings, ← a.run, ← a.chain) at q.shown)

-- a report tells a yes, a no, since no number of a refusal is 0, and a refusal by its number
yes_of : (v : Result Bool Refusal) (n : ℕ) (r : CheckReport) → CheckShows v n r → r.accepted ≡ 1 → v ≡ Ok true
yes_of (Err k) n r s e = absurd (omega (arith, s.1))
yes_of (Ok true) n r s e = refl
yes_of (Ok false) n r s e = absurd (omega (arith, s.1))

no_of : (v : Result Bool Refusal) (n : ℕ) (r : CheckReport) → CheckShows v n r → r.number ≡ 0 → r.accepted ≡ 0 → v ≡ Ok false
no_of (Err k) n r s e f = absurd (omega (arith, s.0, e, number_above k))
no_of (Ok true) n r s e f = absurd (omega (arith, s.1))
no_of (Ok false) n r s e f = refl

-- a reason, whose number the report shows
record Shown (v : Result Bool Refusal) (k : ℕ) : Type 0 where
  reason : Refusal
  number : number_of reason ≡ k
  is : v ≡ Err reason

refused_of : (v : Result Bool Refusal) (n : ℕ) (r : CheckReport) (k : ℕ) → CheckShows v n r → 0 < k → r.number ≡ k → Shown v k
refused_of (Err j) n r k s h e = record { reason = j; number = sym s.0 ∙ e; is = refl }
refused_of (Ok true) n r k s h e = absurd (omega (arith, s.0))
refused_of (Ok false) n r k s h e = absurd (omega (arith, s.0))

-- 8 is the number of one reason
eight_is : (k : Refusal) → number_of k ≡ 8 → k ≡ PastLastSample
eight_is UnevenRows e = absurd (omega (arith, e))
eight_is NoPoint e = absurd (omega (arith, e))
eight_is TooManyPoints e = absurd (omega (arith, e))
eight_is StartsOffCurve e = absurd (omega (arith, e))
eight_is OffCurveNeighbours e = absurd (omega (arith, e))
eight_is TooManySamples e = absurd (omega (arith, e))
eight_is TooManyBreaks e = absurd (omega (arith, e))
eight_is PastLastSample e = refl
eight_is OutputTooShort e = absurd (omega (arith, e))
eight_is NoSuchRun e = absurd (omega (arith, e))
eight_is NoSuchSegment e = absurd (omega (arith, e))
eight_is CutShort e = absurd (omega (arith, e))
eight_is EndsNotRising e = absurd (omega (arith, e))
eight_is TooLarge e = absurd (omega (arith, e))
eight_is Composite e = absurd (omega (arith, e))
eight_is NoSuchPenalty e = absurd (omega (arith, e))
eight_is Outside16Bits e = absurd (omega (arith, e))
eight_is ListTooShort e = absurd (omega (arith, e))
eight_is Malformed e = absurd (omega (arith, e))
eight_is CubicOrOpen e = absurd (omega (arith, e))
eight_is NoOnCurve e = absurd (omega (arith, e))

pub check_shows : {g : CheckGiven} {l : CheckLeft} → CheckIs g l → CheckShows (check_defined g).verdict (check_defined g).fallen l.report
check_shows {g} {l} p = rw (p.shown.is, p.shown.promise.ruling) (by (check_defined g).verdict (check_defined g).fallen)
  where
    by : (v : Result Bool Refusal) (n : ℕ) → CheckShows v n (check_report (record { verdict = v; fallen = n }))
    by (Err k) n = (refl, refl, refl)
    by (Ok true) n = (refl, refl, refl)
    by (Ok false) n = (refl, refl, refl)

module _ {g : CheckGiven} {l : CheckLeft} (p : CheckIs g l) where
  abbrev verdict : Result Bool Refusal
  verdict = (check_defined g).verdict

  abbrev fallen : ℕ
  fallen = (check_defined g).fallen

  shows : CheckShows verdict fallen l.report
  shows = check_shows p

  -- of a verdict that is known
  shows_so : {v : Result Bool Refusal} → verdict ≡ v → CheckShows v fallen l.report
  shows_so e = subst (λ (v : Result Bool Refusal). CheckShows v fallen l.report) e shows

  pub check_accepts : CheckAccepts g l
  check_accepts =
      let exactly = accepts_exactly g.xs g.ys g.flags (check_settings g) g.k (check_chain g) (check_work g) in
      (λ e. exactly.0 (yes_of verdict fallen l.report shows e), λ a. (shows_so (exactly.1 a)).1)

  pub check_refuses : CheckRefuses g l
  check_refuses n h = (λ e. by (refused_of verdict fallen l.report n shows h e), λ b. (shows_so ((exactly b.reason).1 b.refused)).0 ∙ b.number)
    where
      exactly : (k : Refusal) → (verdict ≡ Err k) ↔ RefusedBy (rooms_of (check_work g)) (check_settings g) g.xs g.ys g.flags g.k (check_chain g) k
      exactly k = refused_exactly g.xs g.ys g.flags (check_settings g) g.k (check_chain g) (check_work g) k

      by : Shown verdict n → ByNumber g n
      by s = record { reason = s.reason; number = s.number; refused = (exactly s.reason).0 s.is }

  pub check_denies : CheckDenies g l
  check_denies =
      let exactly = no_exactly g.xs g.ys g.flags (check_settings g) g.k (check_chain g) (check_work g) in (
        λ e. exactly.0 (no_of verdict fallen l.report shows e.0 e.1),
        λ d. ((shows_so (exactly.1 d)).0, (shows_so (exactly.1 d)).1),
      )

  pub check_eight : CheckEight g l
  check_eight sx sy =
      let exactly = eight_exactly g.xs g.ys g.flags (check_settings g) g.k (check_chain g) (check_work g) sx sy in (
        λ e.
            let s = refused_of verdict fallen l.report 8 shows (lit≤ tt) e in
            exactly.0 (s.is ∙ ap Err (eight_is s.reason s.number)),
        λ u. (shows_so (exactly.1 u)).0,
      )

-- ---- chain and check

pub handed_yes : {g : ChainGiven} {l : ChainLeft} {h : CheckGiven} {v : CheckLeft} → ChainIs g l → 0 < l.report.pieces → CheckIs h v → Handed g l h →
    Handing.Yes v.report
handed_yes p some q e =
    Handing.handed_back p.shown some e.rooms
    (rw (e.contour, e.settings, e.run, e.starts, e.ends, e.cxs, e.cys, e.score) at q.shown)
