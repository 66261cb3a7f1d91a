-- The line that answers a contour, without its end: `ok PAIRS x y f ...`, `refused K` or `malformed`. Definitions only.
use Rattle.std.specs.Prelude.{ℕ, zero, suc, ◌+◌, List, [], ◌∷◌, ◌++◌, ℤ, pos, get_or}
use Rattle.lines.specs.Text.{decimal_of, signed_of}

-- `ok `
abbrev pub ok_word : List ℕ
ok_word = 111 ∷ 107 ∷ 32 ∷ []

-- `refused `
abbrev pub refused_word : List ℕ
refused_word = 114 ∷ 101 ∷ 102 ∷ 117 ∷ 115 ∷ 101 ∷ 100 ∷ 32 ∷ []

-- ` x y f`
abbrev pub point_text : ℤ → ℤ → ℕ → List ℕ
point_text x y f = (32 ∷ []) ++ (signed_of x ++ ((32 ∷ []) ++ (signed_of y ++ ((32 ∷ []) ++ decimal_of f))))

module _ (xs ys : List ℤ) (fs : List ℕ) where
  -- k points from place i on
  unfoldable pub points_text : ℕ → ℕ → List ℕ
  points_text zero i = []
  points_text (suc k) i = point_text (get_or xs i (pos 0)) (get_or ys i (pos 0)) (get_or fs i 0) ++ points_text k (i + 1)

  -- the first n points
  abbrev pub ok_text : ℕ → ℕ → List ℕ
  ok_text pairs n = ok_word ++ (decimal_of pairs ++ points_text n 0)

abbrev pub refused_text : ℕ → List ℕ
refused_text k = refused_word ++ decimal_of k
