-- The promises of the exported entries determine the report and every lent row; and the report and what is written are those of the inputs and
-- of the lengths of the rows alone, whatever the rows held. Assumes nothing.
use Rattle.std.specs.Prelude.{ℕ, ◌≡◌}
use Rattle.std.proofs.Common.{sym, ap, ◌∙◌}
use Rattle.rows.specs.Rows.{Work}
use Rattle.rows.specs.Lent.{Inputs, Shown}
use Rattle.settings.specs.declared.Settings.{Settings}
use Rattle.edition.specs.Scratch.{Scratch, rooms_of}
use Rattle.crunch.specs.Entry as Crunch
use Rattle.crunch.specs.Determine as CrunchOnce
use Rattle.chains.specs.Entry as Chains
use Rattle.chains.specs.Determine as ChainsOnce
use Rattle.checks.specs.Checks.{GivenChain}
use Rattle.checks.specs.Entry as Checks
use Rattle.checks.specs.Determine as ChecksOnce
use Rattle.fontcrunch.specs.Exports.{crunch_report, ChainShown, check_report}
use Rattle.fontcrunch.specs.declared.CrunchReport.{CrunchReport}
use Rattle.fontcrunch.specs.declared.ChainReport.{ChainReport}
use Rattle.fontcrunch.specs.declared.CheckReport.{CheckReport}

-- two answers that are one are shown alike
shown_same : {A R : Type 0} {show : A → R} {P Q : A → Type 0} {r r' : R} (p : Shown show P r) (q : Shown show Q r') → p.answer ≡ q.answer → r ≡ r'
shown_same {show = show} p q e = p.is ∙ ap show e ∙ sym q.is

-- ---- the crunch entry

pub record CrunchSame (r r' : CrunchReport) (t t' : Crunch.Rows) : Type 0 where
  pub report : r ≡ r'
  pub outs : t.outs ≡ t'.outs
  pub work : t.work ≡ t'.work
  pub points : t.points ≡ t'.points

pub crunch_determined : {i : Inputs} {settings : Settings} {t t' : Crunch.LentRows} {r r' : CrunchReport} → t.entry ≡ t'.entry →
    Shown crunch_report (Crunch.Promise i settings t) r → Shown crunch_report (Crunch.Promise i settings t') r' → CrunchSame r r' t.exit t'.exit
crunch_determined e p q =
    let same = CrunchOnce.determined e p.promise q.promise in
    record { report = shown_same p q same.answer; outs = same.outs; work = same.work; points = same.points }

pub record CrunchEqual (r r' : CrunchReport) (t t' : Crunch.Rows) : Type 0 where
  pub report : r ≡ r'
  -- the points written
  pub written : CrunchOnce.first_of r.points t.outs ≡ CrunchOnce.first_of r'.points t'.outs
  pub work : t.work ≡ t'.work
  pub points : t.points ≡ t'.points

pub crunch_equal_orders : {i : Inputs} {settings : Settings} {t t' : Crunch.LentRows} {r r' : CrunchReport} → CrunchOnce.Alike t.entry t'.entry →
    Shown crunch_report (Crunch.Promise i settings t) r → Shown crunch_report (Crunch.Promise i settings t') r' → CrunchEqual r r' t.exit t'.exit
crunch_equal_orders a p q =
    let same = CrunchOnce.equal_orders a p.promise q.promise in
    record { report = shown_same p q same.answer; written = rw (p.is, q.is) same.written; work = same.work; points = same.points }

-- ---- the chain entry

pub record ChainSame (r r' : ChainReport) (c c' : Chains.Rows) (w w' : Work) : Type 0 where
  pub report : r ≡ r'
  pub rows : c ≡ c'
  pub work : w ≡ w'

pub chain_determined : {i : Inputs} {settings : Settings} {k : ℕ} {c c' : Chains.LentChain} {w w' : Scratch} {r r' : ChainReport} →
    c.entry ≡ c'.entry → w.entry ≡ w'.entry → ChainShown (Chains.Promise i settings k c w) r →
    ChainShown (Chains.Promise i settings k c' w') r' →
    ChainSame r r' c.exit c'.exit w.exit w'.exit
chain_determined e f p q =
    let same = ChainsOnce.determined e f p.shown.promise q.shown.promise in
    record { report = shown_same p.shown q.shown same.answer; rows = same.rows; work = same.work }

pub record ChainEqual (r r' : ChainReport) (c c' : Chains.Rows) (w w' : Work) : Type 0 where
  pub report : r ≡ r'
  -- the places written
  pub written : ChainsOnce.places_of r.pieces c ≡ ChainsOnce.places_of r.pieces c'
  pub work : w ≡ w'

pub chain_equal_orders : {i : Inputs} {settings : Settings} {k : ℕ} {c c' : Chains.LentChain} {w w' : Scratch} {r r' : ChainReport} →
    Chains.room_in c.entry ≡ Chains.room_in c'.entry → rooms_of w.entry ≡ rooms_of w'.entry →
    ChainShown (Chains.Promise i settings k c w) r → ChainShown (Chains.Promise i settings k c' w') r' →
    ChainEqual r r' c.exit c'.exit w.exit w'.exit
chain_equal_orders room rooms p q =
    let same = ChainsOnce.equal_orders room rooms p.shown.promise q.shown.promise in
    record { report = shown_same p.shown q.shown same.answer; written = rw p.shown.is same.places; work = same.work }

-- ---- the checker's entry

pub record CheckSame (r r' : CheckReport) (w w' : Work) : Type 0 where
  pub report : r ≡ r'
  pub work : w ≡ w'

pub check_equal_orders : {i : Inputs} {settings : Settings} {k : ℕ} {c : GivenChain} {w w' : Scratch} {r r' : CheckReport} →
    rooms_of w.entry ≡ rooms_of w'.entry →
    Shown check_report (Checks.Promise i settings k c w) r → Shown check_report (Checks.Promise i settings k c w') r' → CheckSame r r' w.exit w'.exit
check_equal_orders rooms p q =
    let same = ChecksOnce.equal_orders rooms p.promise q.promise in
    record { report = shown_same p q same.ruling; work = same.left }

pub check_determined : {i : Inputs} {settings : Settings} {k : ℕ} {c : GivenChain} {w w' : Scratch} {r r' : CheckReport} → w.entry ≡ w'.entry →
    Shown check_report (Checks.Promise i settings k c w) r → Shown check_report (Checks.Promise i settings k c w') r' → CheckSame r r' w.exit w'.exit
check_determined e p q = check_equal_orders (ap rooms_of e) p q
