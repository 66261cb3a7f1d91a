-- Idle controls put back among the points kept, place by place. A drop of a list is its place in the upload and the neighbour that it equals.
-- Definitions only.
use Rattle.std.specs.Prelude.{ℕ, zero, suc, ◌+◌, ◌-◌, Bool, true, false, ◌&&◌, ◌||◌, List, [], ◌∷◌, map, eqb, ltb, leb, length, get_or}
use Rattle.clean.specs.Clean.{up_from}
use Rattle.clean.specs.Pass.{pick_number}
use Rattle.clean.specs.PutBack.{number_of, why_of, kept_spot}
use Rattle.idle.specs.Idle.{on_before}

-- the kept point, of n, that a drop with k kept ones before it copies: the last of these, or the one after, going round
abbrev pub beside_kept : ℕ → ℕ → ℕ → ℕ
beside_kept which n k = pick_number (eqb which on_before) (k - 1) (pick_number (ltb k n) k 0)

-- a copy is off-curve: `spots_into` of crate clean writes so what is marked 2, and what is marked 0 as it stands
abbrev pub idle_spot : ℕ → List ℕ
idle_spot k = k ∷ 2 ∷ []

abbrev pub spot_if : Bool → List ℕ → List ℕ → List ℕ
spot_if true a b = a
spot_if false a b = b

module _ (n : ℕ) (list : List (List ℕ)) where
  abbrev pub drop_at : ℕ → List ℕ
  drop_at j = get_or list j []

  -- place p is that of drop j: the list names it, or no kept point is left
  abbrev pub is_back : ℕ → ℕ → Bool
  is_back p j = ltb j (length list) && (eqb (number_of (drop_at j)) p || leb n (p - j))

  -- place p, with j drops before it
  abbrev pub spot_at : ℕ → ℕ → List ℕ
  spot_at p j = spot_if (is_back p j) (idle_spot (beside_kept (why_of (drop_at j)) n (p - j))) (kept_spot (p - j))

  abbrev pub passed_as : ℕ → ℕ → ℕ
  passed_as p j = pick_number (is_back p j) (j + 1) j

  -- the drops before place p
  unfoldable pub passed_to : ℕ → ℕ
  passed_to zero = 0
  passed_to (suc p) = passed_as p (passed_to p)

  abbrev pub spot_of : ℕ → List ℕ
  spot_of p = spot_at p (passed_to p)

  -- the first m places
  abbrev pub spots_of : ℕ → List (List ℕ)
  spots_of m = map spot_of (up_from 0 m)
