-- Bytes after the last coordinate are not looked at, so that a description is read from the front of any row. The statements; proofs are in proofs/After.
use Rattle.std.specs.Prelude.{ℕ, List, ◌++◌, ◌≡◌}
use Rattle.refusals.specs.declared.refusal.Refusal.TheVariants.{CutShort}
use Rattle.glyf.specs.Layout.{Glyph, done, refused, laid, trimmed, described, written_of}
use Rattle.glyf.specs.Trips.{Held, as_read}

-- of bytes that are not cut short, what follows them changes nothing
abbrev pub AfterIsNotLookedAt : Type 0
AfterIsNotLookedAt = (bytes more : List ℕ) → (described bytes ≡ refused CutShort → ⊥) → described (bytes ++ more) ≡ described bytes

-- the row that a glyph was written into, whatever lies after it, says the glyph
abbrev pub FilledRowSays : Type 0
FilledRowSays = (room : ℕ) (g : Glyph) (bytes row : List ℕ) → Held g → written_of room g ≡ done bytes → described (laid bytes row) ≡ done (as_read (trimmed g))
