-- Isolation, in the words of document 02: an edition's points, scores and counts are those it gets when built alone, whichever goes first and also if
-- the other is refused or unchanged. The theorems stand in proofs/Isolation.antt. Definitions only.
use Rattle.std.specs.Prelude.{◌≡◌, Result}
use Rattle.refusals.specs.declared.refusal.Refusal.{Refusal}
use Rattle.rows.specs.Lent.{Inputs}
use Rattle.crunch.specs.Entry as Crunch
use Rattle.crunch.specs.Determine.{Same}
use Rattle.crunch.specs.declared.Crunched.{Crunched}
use Rattle.editions.specs.Editions.{settings_a, settings_b}
use Rattle.editions.specs.Entry.{Rows, LentRows, rows_a, rows_b, Promise}
use Rattle.editions.specs.declared.entry.Editions.{Editions}
use Rattle.editions.specs.declared.work.Order.{Order}

-- the same order with the editions in the other places
abbrev pub swapped : Order → Order
swapped o = record { penalty_a = o.penalty_b; penalty_b = o.penalty_a; whole_units = o.whole_units; closed = o.closed }

abbrev pub swapped_rows : Rows → Rows
swapped_rows t = record { samples = t.samples; breaks = t.breaks; own_a = t.own_b; own_b = t.own_a }

pub record Swapped (r r' : Editions) (t t' : Rows) : Type 0 where
  pub of_a_lem : Same r.a r'.b (rows_a t) (rows_b t')
  pub of_b_lem : Same r.b r'.a (rows_b t) (rows_a t')

module _ (i : Inputs) (o : Order) (t : LentRows) (r : Editions) where
  -- built alone: by the crunch entry, of the same contour, with the same shared rows and the edition's own
  abbrev pub AAlone : Type 0
  AAlone =
      Promise i o t r → (u : Crunch.LentRows) (alone : Result Crunched Refusal) → Crunch.Promise i (settings_a o) u alone → rows_a t.entry ≡ u.entry →
      Same r.a alone (rows_a t.exit) u.exit

  abbrev pub BAlone : Type 0
  BAlone =
      Promise i o t r → (u : Crunch.LentRows) (alone : Result Crunched Refusal) → Crunch.Promise i (settings_b o) u alone → rows_b t.entry ≡ u.entry →
      Same r.b alone (rows_b t.exit) u.exit

  module _ (o' : Order) (t' : LentRows) (r' : Editions) where
    -- whatever the other's penalty and rows are, and whatever becomes of it: refused, unchanged or crunched
    abbrev pub WhateverB : Type 0
    WhateverB =
        Promise i o t r → Promise i o' t' r' → settings_a o ≡ settings_a o' → rows_a t.entry ≡ rows_a t'.entry →
        Same r.a r'.a (rows_a t.exit) (rows_a t'.exit)

    abbrev pub WhateverA : Type 0
    WhateverA =
        Promise i o t r → Promise i o' t' r' → settings_b o ≡ settings_b o' → rows_b t.entry ≡ rows_b t'.entry →
        Same r.b r'.b (rows_b t.exit) (rows_b t'.exit)

  -- swapping the editions swaps what they get
  abbrev pub WhicheverFirst : Type 0
  WhicheverFirst =
      Promise i o t r → (t' : LentRows) (r' : Editions) → Promise i (swapped o) t' r' → swapped_rows t.entry ≡ t'.entry → Swapped r r' t.exit t'.exit
