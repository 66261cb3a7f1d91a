-- What a written file is made of: its own bytes outside the insides of its contours, and between them the points of the rows. Definitions and a statement.
use Rattle.std.specs.Prelude.{ℕ, zero, suc, ◌-◌, Bool, List, [], ◌∷◌, ◌++◌, ◌≡◌, eqb}
use Rattle.gliftext.specs.Pick.{pick, both, more}
use Rattle.glif.specs.declared.scan.Scan.{Scan}
use Rattle.glifwrite.specs.Puts.{Putting, put, put_range}
use Rattle.glifwrite.specs.Contours.{end_at, start_of, put_to}
use Rattle.glifwrite.specs.Writes.{GivenRows, given, read_to, scan_in, write_all}

-- the file's bytes from one place to another; the points of contour k
pub data Part : Type 0 where
  own : ℕ → ℕ → Part
  contour : ℕ → Part

abbrev pub put_part : List ℕ → GivenRows → Part → Putting → Putting
put_part bytes g (own from to) q = put_range bytes from (to - from) q
put_part bytes (given ends xs ys flags) (contour k) q = put_to xs ys flags (start_of ends k) (end_at ends k) (end_at ends k - start_of ends k) q

unfoldable pub put_parts : List ℕ → GivenRows → List Part → Putting → Putting
put_parts bytes g [] q = q
put_parts bytes g (p ∷ ps) q = put_parts bytes g ps (put_part bytes g p q)

-- from where the file is still to be copied, where the last `<` stands, how many contours were met, and the pieces so far: of the file alone
pub data Track : Type 0 where
  track : ℕ → ℕ → ℕ → List Part → Track

abbrev pub track_as : ℕ → ℕ → Bool → Bool → Track → Track
track_as i tag opens closes (track from old k ps) =
    track (pick closes tag from) tag (pick opens (more k) k) (pick opens (ps ++ own from (more i) ∷ contour k ∷ []) ps)

abbrev pub last_tag : Track → ℕ
last_tag (track from tag k ps) = tag

unfoldable pub track_on : ℕ → Scan → Scan → Track → Track
track_on i s t w =
    track_as i (pick (eqb t.text.state 15) i (last_tag w)) (both (eqb s.tree.level 2) (eqb t.tree.level 3))
    (both (eqb s.tree.level 3) (eqb t.tree.level 2)) w

unfoldable pub track_to : List ℕ → ℕ → Track
track_to bytes zero = track 0 0 0 []
track_to bytes (suc k) = track_on k (scan_in (read_to bytes k)) (scan_in (read_to bytes (suc k))) (track_to bytes k)

abbrev pub closed : ℕ → Track → List Part
closed n (track from tag k ps) = ps ++ own from n ∷ []

-- the pieces of a file of n bytes: own 0 a, contour 0, own b c, contour 1, .., own z n
abbrev pub parts_of : List ℕ → ℕ → List Part
parts_of bytes n = closed n (track_to bytes n)

-- whatever the rows are, what is written is those pieces: outside the insides of contours the same bytes
abbrev pub OutsideIsKept : Type 0
OutsideIsKept = (bytes : List ℕ) (g : GivenRows) (n : ℕ) (out : List ℕ) → write_all bytes g n out ≡ put_parts bytes g (parts_of bytes n) (put 0 out)
