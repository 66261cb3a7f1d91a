-- Worked values of the definitions, by computation. Assumes nothing.
use Rattle.std.specs.Prelude.{Some, None}
use mathlib.Core.Path.{◌≡◌, refl}
use mathlib.Core.List.{[], ◌∷◌, map}
use mathlib.Core.Bool.{true, false}
use Rattle.outline.specs.Segments.{end_of, place_after, seg_from}
use Rattle.runs.specs.Runs.{marks_from, between, run_at, is_copied}

-- corners 0, 2 and 3: run 0 has two segments, run 1 one, and there is no run 2
runs : map (run_at (between (marks_from (true ∷ false ∷ true ∷ true ∷ []) 0))) (0 ∷ 1 ∷ 2 ∷ []) ≡ (Some (record { first = 0; count = 2 })) ∷ (Some (record { first = 2; count = 1 })) ∷ None ∷ []
unfolding run_at between marks_from
runs = refl

copied : map (is_copied [] [] (1 ∷ 1 ∷ 1 ∷ 0 ∷ [])) ((Some (record { first = 0; count = 2 })) ∷ (Some (record { first = 1; count = 1 })) ∷ (Some (record { first = 2; count = 1 })) ∷ None ∷ []) ≡ false ∷ true ∷ false ∷ false ∷ []
unfolding seg_from place_after end_of
copied = refl
