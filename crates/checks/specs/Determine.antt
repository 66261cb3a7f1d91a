-- The statement of `check_chain` determines the ruling and every lent row, of the lengths of the scratch rows alone. Assumes nothing.
use Rattle.std.specs.Prelude.{ℕ, ◌≡◌}
use Rattle.std.proofs.Common.{sym, ap, ◌∙◌}
use Rattle.settings.specs.declared.Settings.{Settings}
use Rattle.rows.specs.Rows.{Work}
use Rattle.rows.specs.Lent.{Inputs, inputs}
use Rattle.rows.specs.Scratch.{Rooms, Scratch, rooms_of, same_cleared}
use Rattle.checks.specs.Checks.{GivenChain, check_of}
use Rattle.checks.specs.Entry.{whole_of, Promise}
use Rattle.checks.specs.declared.Ruling.{Ruling}

-- ---- equal orders

-- of the scratch rows only their lengths count
pub same_whole : (i : Inputs) (settings : Settings) (k : ℕ) (c : GivenChain) (w w' : Work) → rooms_of w ≡ rooms_of w' →
    whole_of i settings k c w ≡ whole_of i settings k c w'
same_whole (inputs xs ys fs) settings k c w w' e = ap (λ (rooms : Rooms). check_of rooms settings xs ys fs c k) e

-- all that is handed back and left is equal
pub record Same (r r' : Ruling) (w w' : Work) : Type 0 where
  pub ruling : r ≡ r'
  pub left : w ≡ w'

-- two orders of one contour, run, chain and score, in scratch rows of equal lengths
pub equal_orders : {i : Inputs} {settings : Settings} {k : ℕ} {c : GivenChain} {w w' : Scratch} {r r' : Ruling} → rooms_of w.entry ≡ rooms_of w'.entry →
    Promise i settings k c w r → Promise i settings k c w' r' → Same r r' w.exit w'.exit
equal_orders {i} {settings} {k} {c} {w} {w'} rooms p p' =
    record {
      ruling = p.ruling ∙ same_whole i settings k c w.entry w'.entry rooms ∙ sym p'.ruling;
      left = p.left ∙ same_cleared w.entry w'.entry rooms ∙ sym p'.left;
    }

-- two outcomes of one order are one
pub determined : {i : Inputs} {settings : Settings} {k : ℕ} {c : GivenChain} {w w' : Scratch} {r r' : Ruling} → w.entry ≡ w'.entry →
    Promise i settings k c w r → Promise i settings k c w' r' → Same r r' w.exit w'.exit
determined same = equal_orders (ap rooms_of same)
