-- The runs in order, of one edition: what the loop keeps, one turn of it, and its ends. The other edition's is the same law. Assumes nothing.
use Rattle.std.specs.Prelude.{Option, Some, None, Result}
use Rattle.refusals.specs.declared.refusal.Refusal.{Refusal}
use Prim.Native.Nat.{ℕ, ◌+◌, ◌≤◌, ◌<◌}
use native.Mathlib.Numerals.{add-one}
use native.Mathlib.Omega.{arith}
use mathlib.Core.List.{List, [], ◌∷◌}
use mathlib.Core.Path.{◌≡◌, refl, sym, subst, ◌∙◌}
use lib.Ieee.{Float}
use lib.IntN.{ℤ}
use lib.ListN.{length, drop}
use Rattle.runs.specs.Runs.{between, run_at}
use Rattle.runs.specs.Laws.{run_here, run_none, runs_end}
use Rattle.runs.specs.declared.Run.{Run}
use Rattle.rows.specs.Rows.{work}
use Rattle.settings.specs.declared.Settings.{Settings}
use Rattle.optimize.specs.Fallen.{Upto, nothing_upto, upto_more}
use Rattle.optimize.specs.Tally.{untried}
use Rattle.edition.specs.Edition.{Rooms}
use Rattle.edition.specs.Scratch.{rooms_of}
use Rattle.contour.specs.Points.{Points}
use Rattle.assembly.specs.Assembly.{State, onward, crunch_all}
use Rattle.assembly.specs.Stands.{Stands, tally_in}
use Rattle.assembly.specs.declared.Crunching as C
use Rattle.editions.specs.Stands.{Carries, Moves}

-- from the rows' contents at its start to those of now
module _ (xs ys : List ℤ) (fs corners : List ℕ) (settings : Settings) (s₀ b₀ a₀ : List (List Float)) (l₀ : List ℕ) (points₀ : Points) (c₀ : Result C.Crunching Refusal) where
  abbrev rooms : Rooms
  rooms = rooms_of (work s₀ b₀ a₀ l₀)

  abbrev along : List Run → State → State
  along rs x = crunch_all rooms settings xs ys fs rs x

  none_left : {rs : List Run} (x : State) → rs ≡ [] → along rs x ≡ x
  unfolding crunch_all
  none_left x e = rw e refl

  one_more : {rs rest : List Run} (r : Run) (x : State) → rs ≡ r ∷ rest → along rs x ≡ along rest (onward rooms settings xs ys fs r x)
  unfolding crunch_all
  one_more r x e = rw e refl

  -- all that there is to do
  abbrev Whole : Points → Result C.Crunching Refusal → Type 0
  Whole points c = Carries (along (between corners)) points₀ points c₀ c

  -- what is left from run k on
  pub record Reached (points : Points) (c : Result C.Crunching Refusal) (k : ℕ) (end : State) : Type 0 where
    pub sofar : State
    pub stands : Stands (length points₀) points sofar c
    pub left : end ≡ along (drop k (between corners)) sofar

  pub record Running (s b a : List (List Float)) (l : List ℕ) (points : Points) (c : Result C.Crunching Refusal) (k : ℕ) : Type 0 where
    pub samples : length s ≡ length s₀
    pub breaks : length b ≡ length b₀
    pub answers : length a ≡ length a₀
    pub links : length l ≡ length l₀
    pub long : length points ≡ length points₀
    pub upto : k ≤ length corners
    pub few : Upto k (tally_in c)
    pub reach : (x : State) → Stands (length points₀) points₀ x c₀ → Reached points c k (along (between corners) x)

  pub running_start : tally_in c₀ ≡ untried → Running s₀ b₀ a₀ l₀ points₀ c₀ 0
  running_start none =
      record {
        samples = refl;
        breaks = refl;
        answers = refl;
        links = refl;
        long = refl;
        upto = omega arith;
        few = rw none (nothing_upto 0);
        reach = λ x stands. record { sofar = x; stands = stands; left = refl };
      }

  module _ {s b a : List (List Float)} {l : List ℕ} {points : Points} {c : Result C.Crunching Refusal} {k : ℕ} (now : Running s b a l points c k) where
    -- no sum is too large
    pub running_few : k < length corners → length corners ≤ 1025 → Upto 1024 (tally_in c)
    running_few h few = upto_more (omega arith) now.few

    finished : drop k (between corners) ≡ [] → Whole points c
    finished e x stands =
        let there = now.reach x stands in
        rw (there.left, none_left there.sofar e) there.stands

    pub no_more : {r : Option Run} → r ≡ run_at (between corners) k → r ≡ None → Whole points c
    no_more is e = finished (run_none (between corners) k (sym is ∙ e))

    pub all_seen : length corners ≤ k → Whole points c
    all_seen h = finished (runs_end corners k h)

    -- one run more
    module _ {r : Option Run} (at : r ≡ run_at (between corners) k) {first count : ℕ} (is : r ≡ Some (record { first = first; count = count })) {points' : Points} {c' : Result C.Crunching Refusal}
        (then : Moves (onward (rooms_of (work s b a l)) settings xs ys fs (record { first = first; count = count })) points points' c c') where
      abbrev run : Run
      run = record { first = first; count = count }

      rooms_same : rooms_of (work s b a l) ≡ rooms
      rooms_same = rw (now.samples, now.breaks, now.answers, now.links) refl

      turn : (x : State) → Stands (length points₀) points x c → Stands (length points₀) points' (onward rooms settings xs ys fs run x) c'
      turn x stands =
          subst (λ (n : ℕ). Stands n points' (onward rooms settings xs ys fs run x) c') now.long
          (subst (λ (z : Rooms). Stands (length points) points' (onward z settings xs ys fs run x) c') rooms_same
          (then.stands x (subst (λ (n : ℕ). Stands n points x c) (sym now.long) stands)))

      next : {end : State} → Reached points c k end → Reached points' c' (k + 1) end
      next there =
          record {
            sofar = onward rooms settings xs ys fs run there.sofar;
            stands = turn there.sofar there.stands;
            left = rw add-one (there.left ∙ one_more run there.sofar (run_here (between corners) k (sym at ∙ is)));
          }

      pub run_on : {s' b' a' : List (List Float)} {l' : List ℕ} → k < length corners →
          length s' ≡ length s → length b' ≡ length b → length a' ≡ length a → length l' ≡ length l → length points' ≡ length points → Running s' b' a' l' points' c' (k + 1)
      run_on more ks kb ka kl kp =
          record {
            samples = ks ∙ now.samples;
            breaks = kb ∙ now.breaks;
            answers = ka ∙ now.answers;
            links = kl ∙ now.links;
            long = kp ∙ now.long;
            upto = omega arith;
            few = then.few k now.few;
            reach = λ x stands. next (now.reach x stands);
          }
