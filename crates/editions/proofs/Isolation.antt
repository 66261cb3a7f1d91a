-- Isolation: the theorems of specs/Isolation.antt, by the crunch entry's own `determined`. Assumes nothing.
use mathlib.Core.Path.{ap, subst}
use Rattle.settings.specs.declared.Settings.{Settings}
use Rattle.rows.specs.Lent.{Inputs}
use Rattle.crunch.specs.Entry as Crunch
use Rattle.crunch.specs.Determine.{determined}
use Rattle.editions.specs.Entry.{LentRows, rows_a, rows_b, lent_by}
use Rattle.editions.specs.Isolation.{AAlone, BAlone, WhateverB, WhateverA, WhicheverFirst}
use Rattle.editions.specs.declared.entry.Editions.{Editions}
use Rattle.editions.specs.declared.work.Order.{Order}

module _ (i : Inputs) (o : Order) (t : LentRows) (r : Editions) where
  pub a_alone : AAlone i o t r
  a_alone p u alone q e = determined e p.to_a q

  pub b_alone : BAlone i o t r
  b_alone p u alone q e = determined e p.to_b q

  pub whatever_b : (o' : Order) (t' : LentRows) (r' : Editions) → WhateverB i o t r o' t' r'
  whatever_b o' t' r' p q settings e =
      determined e (subst (λ (s : Settings). Crunch.Promise i s (lent_by rows_a t) r.a) settings p.to_a) q.to_a

  pub whatever_a : (o' : Order) (t' : LentRows) (r' : Editions) → WhateverA i o t r o' t' r'
  whatever_a o' t' r' p q settings e =
      determined e (subst (λ (s : Settings). Crunch.Promise i s (lent_by rows_b t) r.b) settings p.to_b) q.to_b

  pub whichever_first : WhicheverFirst i o t r
  whichever_first p t' r' q e = record { of_a_lem = determined (ap rows_b e) p.to_a q.to_b; of_b_lem = determined (ap rows_a e) p.to_b q.to_a }
