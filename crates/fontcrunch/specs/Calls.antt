-- A call of each of the three exports, with every row and number under its name in include/fontcrunch.h and in its order: what the caller gives (XGiven), and
-- what is left when the call is over (XLeft). What each export promises of them: that it is its entry's promise (XIs); what its report shows of what the
-- definition gives, field by field (XShows); and when two calls are of one order (XAlike). Definitions and statements; the theorems, of the contracts as the
-- check reads them, stand in proofs/Stated.
use Rattle.std.specs.Prelude.{ℕ, ◌<◌, List, ◌↔◌, ◌≡◌, Float, ℤ, length, take, Result, Ok, Err, true, false, Bool}
use Rattle.std.specs.Float.{binary64}
use Rattle.std.specs.Float.Ieee.{of_bits, to_bits}
use Rattle.refusals.specs.declared.refusal.Refusal.{Refusal}
use Rattle.refusals.specs.Number.{number_of}
use Rattle.rows.specs.Rows.{Work, work}
use Rattle.rows.specs.Lent.{Inputs, inputs, Shown}
use Rattle.settings.specs.Settings.{settings_of}
use Rattle.settings.specs.declared.Settings.{Settings}
use Rattle.survey.specs.Never.{Sixteen}
use Rattle.contour.specs.Output.{outputs}
use Rattle.pieces.specs.Slots.{chain}
use Rattle.edition.specs.Scratch.{rooms_of}
use Rattle.crunch.specs.Crunch as Crunched
use Rattle.crunch.specs.Entry as Crunch
use Rattle.crunch.specs.Determine as CrunchOnce
use Rattle.chains.specs.Chains as Chained
use Rattle.chains.specs.Entry as Chains
use Rattle.checks.specs.Entry as Checks
use Rattle.checks.specs.Checks.{GivenChain}
use Rattle.checks.specs.Exactly.{Accepted, Denied, Unsettled, RefusedBy}
use Rattle.checks.specs.declared.Ruling.{Ruling}
use Rattle.fontcrunch.specs.Exports.{crunch_report, check_report, ChainShown}
use Rattle.fontcrunch.specs.declared.CrunchReport.{CrunchReport}
use Rattle.fontcrunch.specs.declared.ChainReport.{ChainReport}
use Rattle.fontcrunch.specs.declared.CheckReport.{CheckReport}

-- ---- fontcrunch_crunch

pub record CrunchGiven : Type 0 where
  pub xs : List ℤ
  pub ys : List ℤ
  pub flags : List ℕ
  pub penalty : ℕ
  pub whole_units : ℕ
  pub closed : ℕ
  pub ox : List ℤ
  pub oy : List ℤ
  pub of : List ℕ
  pub samples : List (List Float)
  pub breaks : List (List Float)
  pub answers : List (List Float)
  pub links : List ℕ
  pub points : List (List ℤ)

pub record CrunchLeft : Type 0 where
  pub report : CrunchReport
  pub ox : List ℤ
  pub oy : List ℤ
  pub of : List ℕ
  pub samples : List (List Float)
  pub breaks : List (List Float)
  pub answers : List (List Float)
  pub links : List ℕ
  pub points : List (List ℤ)

abbrev pub crunch_contour : CrunchGiven → Inputs
crunch_contour g = inputs g.xs g.ys g.flags

abbrev pub crunch_settings : CrunchGiven → Settings
crunch_settings g = settings_of g.penalty g.whole_units g.closed

abbrev pub crunch_before : CrunchGiven → Crunch.Rows
crunch_before g =
    record { outs = outputs g.ox g.oy g.of; work = work g.samples g.breaks g.answers g.links; points = g.points }

abbrev pub crunch_after : CrunchLeft → Crunch.Rows
crunch_after l =
    record { outs = outputs l.ox l.oy l.of; work = work l.samples l.breaks l.answers l.links; points = l.points }

-- the crunch entry's promise, for what the caller gave
pub record CrunchIs (g : CrunchGiven) (l : CrunchLeft) : Type 0 where
  pub shown : Shown crunch_report (Crunch.Promise (crunch_contour g) (crunch_settings g) (record { entry = crunch_before g; exit = crunch_after l })) l.report

-- what the crunch entry's definition gives, for what the caller gave
abbrev pub crunch_defined : CrunchGiven → Crunched.Outcome
crunch_defined g = Crunch.whole_of (crunch_contour g) (crunch_settings g) (crunch_before g)

-- the report of a refusal shows its number and nothing else; of points that come out, how many they are, the pairs tried and the lookups that fell
abbrev pub CrunchShows : Crunched.Outcome → CrunchReport → Type 0
CrunchShows (Crunched.refused k) r = (r.number ≡ number_of k) × (r.points ≡ 0) × (r.pairs ≡ 0) × (r.fallen ≡ 0)
CrunchShows (Crunched.crunched ps t) r = (r.number ≡ 0) × (r.points ≡ length ps) × (r.pairs ≡ t.pairs) × (r.fallen ≡ t.fallen)

-- one order, in rows of equal lengths
pub record CrunchAlike (g g' : CrunchGiven) : Type 0 where
  pub contour : crunch_contour g ≡ crunch_contour g'
  pub settings : crunch_settings g ≡ crunch_settings g'
  pub rows : CrunchOnce.Alike (crunch_before g) (crunch_before g')

-- ---- fontcrunch_chain

pub record ChainGiven : Type 0 where
  pub xs : List ℤ
  pub ys : List ℤ
  pub flags : List ℕ
  pub k : ℕ
  pub penalty : ℕ
  pub whole_units : ℕ
  pub closed : ℕ
  pub starts : List ℕ
  pub ends : List ℕ
  pub cxs : List Float
  pub cys : List Float
  pub spans : List (List ℕ)
  pub samples : List (List Float)
  pub breaks : List (List Float)
  pub answers : List (List Float)
  pub links : List ℕ

pub record ChainLeft : Type 0 where
  pub report : ChainReport
  pub starts : List ℕ
  pub ends : List ℕ
  pub cxs : List Float
  pub cys : List Float
  pub spans : List (List ℕ)
  pub samples : List (List Float)
  pub breaks : List (List Float)
  pub answers : List (List Float)
  pub links : List ℕ

abbrev pub chain_contour : ChainGiven → Inputs
chain_contour g = inputs g.xs g.ys g.flags

abbrev pub chain_settings : ChainGiven → Settings
chain_settings g = settings_of g.penalty g.whole_units g.closed

abbrev pub chain_before : ChainGiven → Chains.Rows
chain_before g = Chains.rows (chain g.starts g.ends g.cxs g.cys) g.spans

abbrev pub chain_after : ChainLeft → Chains.Rows
chain_after l = Chains.rows (chain l.starts l.ends l.cxs l.cys) l.spans

abbrev pub chain_work : ChainGiven → Work
chain_work g = work g.samples g.breaks g.answers g.links

abbrev pub chain_worked : ChainLeft → Work
chain_worked l = work l.samples l.breaks l.answers l.links

-- the chain entry's promise, for what the caller gave
pub record ChainIs (g : ChainGiven) (l : ChainLeft) : Type 0 where
  pub shown : ChainShown
      (Chains.Promise (chain_contour g) (chain_settings g) g.k (record { entry = chain_before g; exit = chain_after l })
      (record { entry = chain_work g; exit = chain_worked l })) l.report

-- what the chain entry's definition gives, for what the caller gave
abbrev pub chain_defined : ChainGiven → Chained.Outcome
chain_defined g = Chains.whole_of (chain_contour g) (chain_settings g) g.k (chain_before g) (chain_work g)

-- the report of a refusal shows its number and nothing else; of a run that leaves its contour unchanged the pairs tried and the lookups that fell; of a chain
-- also its pieces and the bits of its score. The bits of 0.0 are 0
abbrev pub ChainShows : Chained.Outcome → ChainReport → Type 0
ChainShows (Chained.refused k) r = (r.number ≡ number_of k) × (r.pieces ≡ 0) × (r.pairs ≡ 0) × (r.score_bits ≡ 0) × (r.fallen ≡ 0)
ChainShows (Chained.unchanged t) r = (r.number ≡ 0) × (r.pieces ≡ 0) × (r.pairs ≡ t.pairs) × (r.score_bits ≡ 0) × (r.fallen ≡ t.fallen)
ChainShows (Chained.chained ps s t) r =
    (r.number ≡ 0) × (r.pieces ≡ length ps) × (r.pairs ≡ t.pairs) × (r.score_bits ≡ to_bits binary64 s) × (r.fallen ≡ t.fallen)

pub record ChainAlike (g g' : ChainGiven) : Type 0 where
  pub contour : chain_contour g ≡ chain_contour g'
  pub settings : chain_settings g ≡ chain_settings g'
  pub run : g.k ≡ g'.k
  pub room : Chains.room_in (chain_before g) ≡ Chains.room_in (chain_before g')
  pub rooms : rooms_of (chain_work g) ≡ rooms_of (chain_work g')

-- ---- fontcrunch_check

pub record CheckGiven : Type 0 where
  pub xs : List ℤ
  pub ys : List ℤ
  pub flags : List ℕ
  pub k : ℕ
  pub penalty : ℕ
  pub whole_units : ℕ
  pub closed : ℕ
  pub starts : List ℕ
  pub ends : List ℕ
  pub cxs : List Float
  pub cys : List Float
  pub score : Float
  pub samples : List (List Float)
  pub breaks : List (List Float)
  pub answers : List (List Float)
  pub links : List ℕ

pub record CheckLeft : Type 0 where
  pub report : CheckReport
  pub samples : List (List Float)
  pub breaks : List (List Float)
  pub answers : List (List Float)
  pub links : List ℕ

abbrev pub check_contour : CheckGiven → Inputs
check_contour g = inputs g.xs g.ys g.flags

abbrev pub check_settings : CheckGiven → Settings
check_settings g = settings_of g.penalty g.whole_units g.closed

abbrev pub check_chain : CheckGiven → GivenChain
check_chain g = record { starts = g.starts; ends = g.ends; xs = g.cxs; ys = g.cys; score = g.score }

abbrev pub check_work : CheckGiven → Work
check_work g = work g.samples g.breaks g.answers g.links

abbrev pub check_worked : CheckLeft → Work
check_worked l = work l.samples l.breaks l.answers l.links

-- the checker's entry's promise, for what the caller gave
pub record CheckIs (g : CheckGiven) (l : CheckLeft) : Type 0 where
  pub shown : Shown check_report
      (Checks.Promise (check_contour g) (check_settings g) g.k (check_chain g) (record { entry = check_work g; exit = check_worked l })) l.report

-- what the checker's definition gives, for what the caller gave
abbrev pub check_defined : CheckGiven → Ruling
check_defined g = Checks.whole_of (check_contour g) (check_settings g) g.k (check_chain g) (check_work g)

-- the report of a refusal shows its number and nothing else; of a verdict whether it is a yes, and the lookups that fell
abbrev pub CheckShows : Result Bool Refusal → ℕ → CheckReport → Type 0
CheckShows (Err k) fallen r = (r.number ≡ number_of k) × (r.accepted ≡ 0) × (r.fallen ≡ 0)
CheckShows (Ok true) fallen r = (r.number ≡ 0) × (r.accepted ≡ 1) × (r.fallen ≡ fallen)
CheckShows (Ok false) fallen r = (r.number ≡ 0) × (r.accepted ≡ 0) × (r.fallen ≡ fallen)

pub record CheckAlike (g g' : CheckGiven) : Type 0 where
  pub contour : check_contour g ≡ check_contour g'
  pub settings : check_settings g ≡ check_settings g'
  pub run : g.k ≡ g'.k
  pub chain : check_chain g ≡ check_chain g'
  pub rooms : rooms_of (check_work g) ≡ rooms_of (check_work g')

-- Of the chain, run, settings and rooms that the caller gave (checks/specs/Exactly):

-- accepted exactly when nothing is refused and the chain obeys the user's rule
abbrev pub CheckAccepts : CheckGiven → CheckLeft → Type 0
CheckAccepts g l =
    (l.report.accepted ≡ 1) ↔ Accepted (rooms_of (check_work g)) (check_settings g) g.xs g.ys g.flags g.k (check_chain g)

-- neither refused nor accepted exactly when nothing is refused, each measure is there and the chain does not obey it
abbrev pub CheckDenies : CheckGiven → CheckLeft → Type 0
CheckDenies g l =
    ((l.report.number ≡ 0) × (l.report.accepted ≡ 0))
    ↔ Denied (rooms_of (check_work g)) (check_settings g) g.xs g.ys g.flags g.k (check_chain g)

-- refused, for the reason with this number
pub record ByNumber (g : CheckGiven) (n : ℕ) : Type 0 where
  pub reason : Refusal
  pub number : number_of reason ≡ n
  pub refused : RefusedBy (rooms_of (check_work g)) (check_settings g) g.xs g.ys g.flags g.k (check_chain g) reason

-- refused by each number exactly when document 01 says so
abbrev pub CheckRefuses : CheckGiven → CheckLeft → Type 0
CheckRefuses g l = (n : ℕ) → 0 < n → (l.report.number ≡ n) ↔ ByNumber g n

-- of rows of 16 bits, as C's are, by 8 exactly when a measure of a chain of good shape is refused
abbrev pub CheckEight : CheckGiven → CheckLeft → Type 0
CheckEight g l =
    Sixteen g.xs → Sixteen g.ys →
    (l.report.number ≡ 8) ↔ Unsettled (rooms_of (check_work g)) (check_settings g) g.xs g.ys g.flags g.k (check_chain g)

-- ---- what the chain export left, handed to the check export: of the same contour, run and settings, the first `pieces` places, the score by its bits,
-- scratch rows of the same lengths

pub record Handed (g : ChainGiven) (l : ChainLeft) (h : CheckGiven) : Type 0 where
  pub contour : check_contour h ≡ chain_contour g
  pub settings : check_settings h ≡ chain_settings g
  pub run : h.k ≡ g.k
  pub starts : h.starts ≡ take l.report.pieces l.starts
  pub ends : h.ends ≡ take l.report.pieces l.ends
  pub cxs : h.cxs ≡ take l.report.pieces l.cxs
  pub cys : h.cys ≡ take l.report.pieces l.cys
  pub score : h.score ≡ of_bits binary64 l.report.score_bits
  pub rooms : rooms_of (chain_work g) ≡ rooms_of (check_work h)
