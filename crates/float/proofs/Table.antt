-- A table whose rows are proved by one computed equation. Assumes nothing.
use Rattle.std.proofs.Common.{◌≡◌, List, ◌∷◌, map, sym, ap, ◌∙◌}
use mathlib.Core.List.{Memᴰ}

-- where f and g make the same list of a table, they agree at each of its rows
pub each : {A B : Type 0} (f g : A → B) (rows : List A) → map f rows ≡ map g rows → (r : A) → Memᴰ r rows → f r ≡ g r
each f g (a ∷ rows) e r (Memᴰ.head p) = let first : f a ≡ g a = cc in ap f p ∙ first ∙ sym (ap g p)
each f g (a ∷ rows) e r (Memᴰ.tail m) = each f g rows (cc) r m
each {A = A} {B = B} f g mathlib.Core.List.[] e r x'' = elim x'' [ ]
