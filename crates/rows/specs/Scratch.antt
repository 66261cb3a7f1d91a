-- The rows that an entry is lent to work runs in: how many places they have, and how they are left; with two laws for callers. Assumes nothing.
use Rattle.std.specs.Prelude.{ℕ, min, ◌/◌, List, ◌≡◌, refl, Float, length}
use Rattle.std.proofs.Common.{ap}
use denote.Triple.Both.{Both}
use Rattle.rows.specs.Rows.{Work, work, zero_work}
use Rattle.rows.specs.Lent.{Lent, before, after, room}

-- how many places the scratch rows have
pub record Rooms : Type 0 where
  pub samples : ℕ
  pub breaks : ℕ
  pub answers : ℕ
  pub links : ℕ

-- half the shortest answer row: answers and links
abbrev pub answer_room : ℕ → ℕ → ℕ
answer_room answers links = min answers links / 2

abbrev pub rooms_of : Work → Rooms
rooms_of (work s b a l) = record { samples = length s; breaks = length b; answers = length a; links = length l }

-- ---- lent and handed back

abbrev pub rooms_in : Lent (List Float) → Lent (List Float) → Lent (List Float) → Lent ℕ → Rooms
rooms_in s b a l = record { samples = room s; breaks = room b; answers = room a; links = room l }

abbrev pub Scratch : Type 0
Scratch = Both Work Work

abbrev pub scratch : Lent (List Float) → Lent (List Float) → Lent (List Float) → Lent ℕ → Scratch
scratch s b a l = record { entry = work (before s) (before b) (before a) (before l); exit = work (after s) (after b) (after a) (after l) }

-- document 01's full rooms
abbrev pub full_rooms : Rooms
full_rooms = record { samples = 16384; breaks = 2048; answers = 4096; links = 4096 }

-- zero throughout, whatever they held
abbrev pub cleared : Work → Work
cleared (work s b a l) = zero_work (length s) (length b) (length a) (length l)

-- ---- rows of equal lengths are cleared to the same

pub same_cleared : (w w' : Work) → rooms_of w ≡ rooms_of w' → cleared w ≡ cleared w'
same_cleared (work s b a l) (work s' b' a' l') e = ap (λ (k : Rooms). zero_work k.samples k.breaks k.answers k.links) e

-- cleared at the lengths that they were lent with
pub cleared_work : (s b a : List (List Float)) (l : List ℕ) {w : Work} {ks kb ka kl : ℕ} → w ≡ zero_work ks kb ka kl →
    ks ≡ length s → kb ≡ length b → ka ≡ length a → kl ≡ length l → w ≡ cleared (work s b a l)
cleared_work s b a l e samples breaks answers links = rw (e, samples, breaks, answers, links) refl
