-- Names by their places in the file: the open elements' in the front of a row, and those of a tag's attributes after them. Definitions only.
use Rattle.std.specs.Prelude.{ℕ, zero, suc, ◌-◌, Bool, false, not, List, [], ◌∷◌, eqb, leb, length, get_or, set, drop}
use Rattle.gliftext.specs.Pick.{pick, both, either, sum}
use Rattle.gliftext.specs.Table.{is_name}
use Rattle.gliftext.specs.Actions.{does}
use Rattle.gliftext.specs.declared.action.Action.{Action}
use Rattle.gliftext.specs.declared.action.Action.TheVariants.{Quote, Opens, Closes}

-- whether two texts begin with one name, with something after it
unfoldable pub alike : List ℕ → List ℕ → Bool
alike [] ys = false
alike (x ∷ xs) [] = false
alike (x ∷ xs) (y ∷ ys) = pick (both (is_name x) (eqb x y)) (alike xs ys) (both (not (is_name x)) (not (is_name y)))

unfoldable pub same_name : List ℕ → ℕ → ℕ → Bool
same_name bytes p q = alike (drop p bytes) (drop q bytes)

-- whether the name at p is one of n names of the row
unfoldable pub seen_to : List ℕ → List ℕ → ℕ → ℕ → ℕ → Bool
seen_to bytes names from zero p = false
seen_to bytes names from (suc k) p = either (seen_to bytes names from k p) (same_name bytes (get_or names (sum from k) 0) p)

-- an attribute's value begins: its name is unlike those before it, and the row has room
unfoldable pub repeated : List ℕ → List ℕ → Action → ℕ → ℕ → ℕ → Bool
repeated bytes names action depth n p =
    either (both (does action Quote) (leb (length names) (sum depth n))) (seen_to bytes names depth (pick (does action Quote) n 0) p)

-- an element closes: its name is that of the last one open
unfoldable pub unclosed : List ℕ → List ℕ → Action → ℕ → ℕ → Bool
unclosed bytes names action depth p = pick (does action Closes) (not (same_name bytes (get_or names (depth - 1) 0) p)) false

unfoldable pub wrong_names : List ℕ → List ℕ → Action → ℕ → ℕ → ℕ → Bool
wrong_names bytes names action depth n p = either (unclosed bytes names action depth p) (repeated bytes names action depth n p)

-- the row with the name of an element that opens, or of an attribute
unfoldable pub kept_names : List ℕ → Action → ℕ → ℕ → ℕ → ℕ → List ℕ
kept_names names action depth n tag name =
    set names (pick (does action Opens) depth (pick (does action Quote) (sum depth n) 18446744073709551615)) (pick (does action Opens) tag name)
