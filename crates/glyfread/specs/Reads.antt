-- What the places found say of a description, and what reading leaves in the rows. Definitions only.
use Rattle.std.specs.Prelude.{ℕ, ◌+◌, ◌*◌, ◌≤◌, ◌<◌, Bool, true, false, not, ◌&&◌, ◌||◌, List, map, ◌≡◌, ltb, length, take, drop, Result, Ok, Err}
use Rattle.refusals.specs.declared.refusal.Refusal.TheVariants.{CutShort, EndsNotRising, TooLarge}
use Rattle.refusals.specs.declared.refusal.Refusal.{Refusal}
use Rattle.glyf.specs.Layout.{Glyph, Outcome, done, refused, refuse, Taken, taken, cut, all16, rising, is_on, described}
use Rattle.glyfread.specs.Steps.{word_at, words_at}
use Rattle.glyfread.specs.Walks.{Coords, coords, start_at, ahead, fits, xs_in, ys_in, on_in}
use Rattle.glyfread.specs.declared.read.Places.{Places}
use Rattle.glyfread.specs.declared.read.Counts.{Counts}

-- the parts before the flags stand there: so many contours, and so many instruction bytes from `code` on
pub record Headed (bs : List ℕ) (contours code size : ℕ) : Type 0 where
  pub first : contours ≡ word_at bs 0
  pub simple : contours < 32768
  pub after_ends : code ≡ 12 + 2 * contours
  pub sized : size ≡ word_at bs (10 + 2 * contours)
  pub small : size < 65536
  pub inside : code + size ≤ length bs

-- 13 and 14 of what stands there
abbrev pub judged_as : List ℕ → List ℕ → Taken Coords → Outcome Glyph
judged_as es is cut = refused CutShort
judged_as es is (taken (coords fs xs ys) end) =
    refuse EndsNotRising (not (rising es))
    (refuse TooLarge (not (all16 xs && all16 ys))
    (done (record { ends = es; instructions = is; xs = xs; ys = ys; flags = map is_on fs })))

abbrev pub standing : Taken Coords → Bool
standing (taken c end) = true
standing cut = false

-- the points of a description, by the places of its parts
abbrev pub points_at : List ℕ → Places → Taken Coords
points_at bs p = ahead p.points bs (start_at p.flags p.xs p.ys)

-- every part stands there
pub record Stands (bs : List ℕ) (p : Places) : Type 0 where
  pub ends_inside : 10 + 2 * p.contours ≤ length bs
  pub code_inside : p.code + p.size ≤ length bs
  pub points_stand : standing (points_at bs p) ≡ true
  pub says : described bs ≡ judged_as (words_at bs 10 p.contours) (take p.size (drop p.code bs)) (points_at bs p)

abbrev pub Finds : List ℕ → Result Places Refusal → Type 0
Finds bs (Ok p) = Stands bs p
Finds bs (Err k) = described bs ≡ refused k

abbrev pub glyph_at : List ℕ → Places → Glyph
glyph_at bs p =
    record {
      ends = words_at bs 10 p.contours;
      instructions = take p.size (drop p.code bs);
      xs = xs_in (points_at bs p);
      ys = ys_in (points_at bs p);
      flags = on_in (points_at bs p);
    }

-- and nothing is refused but for room
pub record Judged (bs : List ℕ) (p : Places) : Type 0 where
  pub ends_inside : 10 + 2 * p.contours ≤ length bs
  pub code_inside : p.code + p.size ≤ length bs
  pub fine : fits (points_at bs p) ≡ true
  pub says : described bs ≡ done (glyph_at bs p)

abbrev pub Judges : List ℕ → Result Places Refusal → Type 0
Judges bs (Ok p) = Judged bs p
Judges bs (Err k) = described bs ≡ refused k

-- whether a row of these lengths is too short
abbrev pub lacking : Places → ℕ → ℕ → ℕ → ℕ → ℕ → Bool
lacking p es is xs ys fs = ltb es p.contours || (ltb is p.size || (ltb xs p.points || (ltb ys p.points || ltb fs p.points)))

abbrev pub answer_of : Outcome Glyph → Result Counts Refusal
answer_of (done g) = Ok (record { contours = length g.ends; points = length g.flags; instructions = length g.instructions })
answer_of (refused k) = Err k
