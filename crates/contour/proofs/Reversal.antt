-- The first places of a row whose first n are reversed, at any type of element. Assumes nothing.
use Rattle.std.proofs.Common.{◌≡◌, ◌∙◌, List, ◌++◌, reverse, length, take, drop, ℕ, ◌≤◌, take_at, length-take-le}
use lib.ListN.{length-reverse}

-- the part that was reversed
pub front : {A : Type 0} (l : List A) (n : ℕ) → n ≤ length l → take n (reverse (take n l) ++ drop n l) ≡ reverse (take n l)
front l n h = take_at (reverse (take n l)) (drop n l) n (length-reverse (take n l) ∙ length-take-le n l h)
