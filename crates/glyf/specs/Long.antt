-- How many bytes always suffice for a description, as the header has it. The statement; its proof is in proofs/Long.
use Rattle.std.specs.Prelude.{ℕ, ◌+◌, ◌*◌, ◌≤◌, length}
use Rattle.glyf.specs.Layout.{Glyph, count_of, trimmed, bytes_of}

-- 12, two an end, one an instruction byte and five a point
abbrev pub enough : Glyph → ℕ
enough g = 12 + 2 * length g.ends + length g.instructions + 5 * count_of g.ends

abbrev pub AlwaysSuffices : Type 0
AlwaysSuffices = (g : Glyph) → length (bytes_of (trimmed g)) ≤ enough g
