-- The contracts of the exports, as the check reads them off src/lib.rt, of any call (proofs/Calls), its rows and numbers by name (specs/Calls):
--     X-asks-nothing   nothing is asked of a caller
--     X-is             each contract IS its entry's promise for what the caller gave
--     X-shows          the report shows, field by field, what the entry's definition gives
--     X-leaves         what is given fixes the report and every lent row
--     X-says           of the rows that are written their lengths alone fix the report and what is written
-- and a check says yes, no and each refusal exactly when the user's rule and document 01 do. Assumes nothing.
use Prim.Native.Nat.{◌<◌}
use native.Mathlib.Omega.{arith}
use mathlib.Core.Path.{◌≡◌}
use Rattle.fontcrunch.specs.Determine.{CrunchEqual, ChainEqual, CheckSame}
use Rattle.fontcrunch.specs.Handed.{Yes}
use Rattle.fontcrunch.specs.Calls.{CrunchIs, CrunchShows, CrunchAlike, crunch_defined, crunch_after}
use Rattle.fontcrunch.specs.Calls.{ChainIs, ChainShows, ChainAlike, chain_defined, chain_after, chain_worked}
use Rattle.fontcrunch.specs.Calls.{CheckIs, CheckShows, CheckAlike, check_defined, check_worked, CheckAccepts, CheckDenies, CheckRefuses, CheckEight, Handed}
use Rattle.fontcrunch.specs.Solved.{Asked, Reported}
use Rattle.fontcrunch.proofs.Calls.{CrunchCall, crunch_given, crunch_left, ChainCall, chain_given, chain_left, CheckCall, check_given, check_left}
use Rattle.fontcrunch.proofs.Laws as Laws
use Rattle.fontcrunch.proofs.Solved as Solved
use Rattle.fontcrunch.proofs.fontcrunch_crunch.Reads as crunch
use Rattle.fontcrunch.proofs.fontcrunch_chain.Reads as chains
use Rattle.fontcrunch.proofs.fontcrunch_check.Reads as check

-- ---- the crunch entry

pub crunch_asks_nothing : (κs : _) (a : _) → crunch.Pre κs a
crunch_asks_nothing κs a = tt

pub crunch_is : (c : CrunchCall) → CrunchIs (crunch_given c) (crunch_left c)
crunch_is c = record { shown = c.said }

pub crunch_shows : (c : CrunchCall) → CrunchShows (crunch_defined (crunch_given c)) c.r
crunch_shows c = Laws.crunch_shows (crunch_is c)

pub crunch_leaves : (c c' : CrunchCall) → crunch_given c ≡ crunch_given c' → crunch_left c ≡ crunch_left c'
crunch_leaves c c' e = Laws.crunch_left_lem (crunch_is c) (crunch_is c') e

pub crunch_says : (c c' : CrunchCall) → CrunchAlike (crunch_given c) (crunch_given c') →
    CrunchEqual c.r c'.r (crunch_after (crunch_left c)) (crunch_after (crunch_left c'))
crunch_says c c' e = Laws.crunch_equal (crunch_is c) (crunch_is c') e

-- ---- the chain entry

pub chain_asks_nothing : (κs : _) (a : _) → chains.Pre κs a
chain_asks_nothing κs a = tt

pub chain_is : (c : ChainCall) → ChainIs (chain_given c) (chain_left c)
chain_is c = record { shown = c.said }

pub chain_shows : (c : ChainCall) → ChainShows (chain_defined (chain_given c)) c.r
chain_shows c = Laws.chain_shows (chain_is c)

pub chain_leaves : (c c' : ChainCall) → chain_given c ≡ chain_given c' → chain_left c ≡ chain_left c'
chain_leaves c c' e = Laws.chain_left_lem (chain_is c) (chain_is c') e

pub chain_says : (c c' : ChainCall) → ChainAlike (chain_given c) (chain_given c') →
    ChainEqual c.r c'.r (chain_after (chain_left c)) (chain_after (chain_left c')) (chain_worked (chain_left c)) (chain_worked (chain_left c'))
chain_says c c' e = Laws.chain_equal (chain_is c) (chain_is c') e

-- ---- the checker's entry

pub check_asks_nothing : (κs : _) (a : _) → check.Pre κs a
check_asks_nothing κs a = tt

pub check_is : (c : CheckCall) → CheckIs (check_given c) (check_left c)
check_is c = record { shown = c.said }

pub check_shows : (c : CheckCall) → CheckShows (check_defined (check_given c)).verdict (check_defined (check_given c)).fallen c.r
check_shows c = Laws.check_shows (check_is c)

pub check_leaves : (c c' : CheckCall) → check_given c ≡ check_given c' → check_left c ≡ check_left c'
check_leaves c c' e = Laws.check_left_lem (check_is c) (check_is c') e

pub check_says : (c c' : CheckCall) → CheckAlike (check_given c) (check_given c') →
    CheckSame c.r c'.r (check_worked (check_left c)) (check_worked (check_left c'))
check_says c c' e = Laws.check_equal (check_is c) (check_is c') e

-- accepted is 1 exactly when nothing is refused and the chain given obeys the user's rule
pub check_accepts : (c : CheckCall) → CheckAccepts (check_given c) (check_left c)
check_accepts c = Laws.check_accepts (check_is c)

-- number and accepted are 0 exactly when nothing is refused and it does not
pub check_denies : (c : CheckCall) → CheckDenies (check_given c) (check_left c)
check_denies c = Laws.check_denies (check_is c)

-- each number is given exactly when document 01 says so
pub check_refuses : (c : CheckCall) → CheckRefuses (check_given c) (check_left c)
check_refuses c = Laws.check_refuses (check_is c)

-- the number is 8 exactly when a measure of the chain given is refused
pub check_eight : (c : CheckCall) → CheckEight (check_given c) (check_left c)
check_eight c = Laws.check_eight (check_is c)

-- what the chain export leaves, if it is a chain, handed to the check export, is accepted
pub chain_accepted : (c : ChainCall) (h : CheckCall) → 0 < c.r.pieces → Handed (chain_given c) (chain_left c) (check_given h) → Yes h.r
chain_accepted c h some e = Laws.handed_yes (chain_is c) some (check_is h) e

-- and of one run it is a chain, so that this one is accepted without a condition
pub solved_reported : (c : ChainCall) → Asked (chain_given c) → Reported c.r
solved_reported c a = Solved.reported (chain_is c) a

pub solved_accepted : (c : ChainCall) (h : CheckCall) → Asked (chain_given c) → Handed (chain_given c) (chain_left c) (check_given h) → Yes h.r
solved_accepted c h a e = let r = solved_reported c a in chain_accepted c h (omega (arith, r.1)) e
