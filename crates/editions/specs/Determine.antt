-- The promise of two editions determines both answers and every lent row; both answers and the points written are those of the contour, of the order
-- and of the lengths of the rows alone; and a refused edition writes no point. Each is the crunch entry's own theorem, for each edition. Assumes nothing.
use Rattle.std.specs.Prelude.{ℕ, ◌≡◌, refl, Result, Err}
use Rattle.std.proofs.Common.{arith, sym, ap, ◌∙◌}
use Rattle.refusals.specs.declared.refusal.Refusal.{Refusal}
use Rattle.rows.specs.Lent.{Inputs}
use Rattle.contour.specs.Output.{Outputs}
use Rattle.settings.specs.declared.Settings.{Settings}
use Rattle.crunch.specs.Crunch.{Outcome}
use Rattle.crunch.specs.Entry.{answer_of, outputs_of, whole_of}
use Rattle.crunch.specs.Entry as Crunch
use Rattle.crunch.specs.Determine.{Same, Alike, Equal}
use Rattle.crunch.specs.Determine as Alone
use Rattle.crunch.specs.declared.Crunched.{Crunched}
use Rattle.editions.specs.Entry.{Rows, LentRows, rows_a, rows_b, Promise}
use Rattle.editions.specs.declared.entry.Editions.{Editions}
use Rattle.editions.specs.declared.work.Order.{Order}

-- ---- two outcomes of one order are one

pub record SameBoth (r r' : Editions) (t t' : Rows) : Type 0 where
  pub of_a_lem : Same r.a r'.a (rows_a t) (rows_a t')
  pub of_b_lem : Same r.b r'.b (rows_b t) (rows_b t')

pub determined : {i : Inputs} {o : Order} {t t' : LentRows} {r r' : Editions} → t.entry ≡ t'.entry →
    Promise i o t r → Promise i o t' r' → SameBoth r r' t.exit t'.exit
determined e p p' = record { of_a_lem = Alone.determined (ap rows_a e) p.to_a p'.to_a; of_b_lem = Alone.determined (ap rows_b e) p.to_b p'.to_b }

-- ---- of the lent rows only their lengths count

pub record AlikeBoth (t t' : Rows) : Type 0 where
  pub of_a_lem : Alike (rows_a t) (rows_a t')
  pub of_b_lem : Alike (rows_b t) (rows_b t')

pub record EqualBoth (r r' : Editions) (t t' : Rows) : Type 0 where
  pub of_a_lem : Equal r.a r'.a (rows_a t) (rows_a t')
  pub of_b_lem : Equal r.b r'.b (rows_b t) (rows_b t')

pub equal_orders : {i : Inputs} {o : Order} {t t' : LentRows} {r r' : Editions} → AlikeBoth t.entry t'.entry →
    Promise i o t r → Promise i o t' r' → EqualBoth r r' t.exit t'.exit
equal_orders l p p' = record { of_a_lem = Alone.equal_orders l.of_a_lem p.to_a p'.to_a; of_b_lem = Alone.equal_orders l.of_b_lem p.to_b p'.to_b }

-- ---- a refused edition writes no point, whatever becomes of the other

unless_crunched : (x : Outcome) (o : Outputs) (k : Refusal) → (Err k) ≡ answer_of x → outputs_of x o ≡ o
unless_crunched (Outcome.refused j) o k e = refl
unless_crunched (Outcome.crunched ps tally) o k e = absurd cc

left_so : {i : Inputs} {settings : Settings} {t : Crunch.LentRows} {r : Result Crunched Refusal} {k : Refusal} → Crunch.Promise i settings t r → r ≡ Err k →
    t.exit.outs ≡ t.entry.outs
left_so {i} {settings} {t} {k = k} p e = p.outs ∙ unless_crunched (whole_of i settings t.entry) t.entry.outs k (sym e ∙ p.answer)

pub record Left (t : LentRows) (r : Editions) : Type 0 where
  pub of_a_lem : {k : Refusal} → r.a ≡ Err k → t.exit.own_a.outs ≡ t.entry.own_a.outs
  pub of_b_lem : {k : Refusal} → r.b ≡ Err k → t.exit.own_b.outs ≡ t.entry.own_b.outs

pub refused_leaves : {i : Inputs} {o : Order} {t : LentRows} {r : Editions} → Promise i o t r → Left t r
refused_leaves p = record { of_a_lem = λ e. left_so p.to_a e; of_b_lem = λ e. left_so p.to_b e }
