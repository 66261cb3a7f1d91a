-- The statements of the two entries determine the answer and every lent row; and the answer and what is written are those of the points, of the
-- list and of the lengths of the rows alone, whatever the rows held: the laws of `clean`. Assumes nothing.
use Rattle.std.specs.Prelude.{◌+◌, List, ◌≡◌, ℕ, length, Result}
use Rattle.std.proofs.Common.{◌∙◌}
use Rattle.std.proofs.lemmas.List.{length-map}
use Rattle.refusals.specs.declared.refusal.Refusal.{Refusal}
use denote.Triple.Both.{Both}
use Rattle.contour.specs.Output.{Outputs}
use Rattle.rows.specs.Lent.{Inputs, inputs}
use Rattle.clean.specs.Clean.{up_from}
use Rattle.clean.specs.Entry.{Rows}
use Rattle.clean.specs.Determine.{Same, places_of, first_of, point_places, first_points, length_up, Counted}
use Rattle.clean.specs.Determine as Clean
use Rattle.clean.specs.declared.Cleaned.{Cleaned}
use Rattle.idle.specs.PutBack.{spot_of}
use Rattle.idle.specs.Entry.{Promise, spots_for, PutPromise}

-- ---- dropping

pub determined : {i : Inputs} {w w' : Both Rows Rows} {r r' : Result Cleaned Refusal} → w.entry ≡ w'.entry →
    Promise i w r → Promise i w' r' → Same r r' w.exit w'.exit
determined e p p' = Clean.determined e p p'

-- two orders of one contour, in rows of equal lengths: the answer and what is written are equal
pub equal_orders : {i : Inputs} {w w' : Both Rows Rows} {r r' : Result Cleaned Refusal} → places_of w.entry ≡ places_of w'.entry →
    Promise i w r → Promise i w' r' → Same r r' (first_of r w.exit) (first_of r' w'.exit)
equal_orders e p p' = Clean.equal_orders e p p'

-- ---- putting back

pub put_determined : {i : Inputs} (list : List (List ℕ)) {w w' : Both Outputs Outputs} {r r' : Result ℕ Refusal} → w.entry ≡ w'.entry →
    PutPromise i list w r → PutPromise i list w' r' → Same r r' w.exit w'.exit
put_determined list e p p' = Clean.put_determined e p p'

-- as many places as points are kept and listed
pub counted : (i : Inputs) (list : List (List ℕ)) → Counted i (length list) (spots_for i list)
counted (inputs xs ys fs) list =
    let m = length fs + length list in
    length-map (up_from 0 m) (spot_of (length fs) list) ∙ length_up 0 m

-- two orders of the same points and list, in rows of equal lengths
pub put_equal_orders : {i : Inputs} (list : List (List ℕ)) {w w' : Both Outputs Outputs} {r r' : Result ℕ Refusal} →
    point_places w.entry ≡ point_places w'.entry →
    PutPromise i list w r → PutPromise i list w' r' → Same r r' (first_points r w.exit) (first_points r' w'.exit)
put_equal_orders {i} list e p p' = Clean.put_equal_orders (counted i list) e p p'
