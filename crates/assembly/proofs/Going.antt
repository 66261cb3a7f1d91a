-- The runs in order: what the loop keeps, one turn of it, and its ends. Assumes nothing.
use Rattle.std.specs.Prelude.{Option, Some, None, Result, Ok, Err}
use Rattle.refusals.specs.declared.refusal.Refusal.{Refusal}
use Prim.Native.Nat.{ℕ, suc, ◌+◌, ◌≤◌, ◌<◌}
use native.Mathlib.Numerals.{add-one}
use native.Mathlib.Omega.{arith}
use mathlib.Core.Bool.{Bool, true, false}
use mathlib.Core.List.{List, [], ◌∷◌}
use mathlib.Core.Path.{◌≡◌, refl, sym, ap, subst, ◌∙◌}
use lib.Ieee.{Float}
use lib.IntN.{ℤ}
use lib.ListN.{length, take, drop, get_or}
use lib.Seq.{length-take-le}
use Rattle.outline.specs.Segments.{start_of}
use Rattle.runs.specs.Runs.{stops_of, between, run_at, Listed}
use Rattle.runs.specs.Laws.{run_here, run_none, runs_end}
use Rattle.runs.specs.declared.Run.{Run}
use Rattle.rows.specs.Rows.{work}
use Rattle.settings.specs.declared.Settings.{Settings}
use Rattle.optimize.specs.Fallen.{Upto, nothing_upto, upto_more}
use Rattle.optimize.specs.Tally.{untried}
use Rattle.optimize.specs.declared.Tally.{Tally}
use Rattle.edition.specs.Edition.{Rooms}
use Rattle.edition.specs.Scratch.{rooms_of}
use Rattle.contour.specs.Points.{Points, point_as, start_point, unchanged_in}
use Rattle.contour.specs.Writing.{Wrote, Closed, written}
use Rattle.contour.specs.Laws.{nothing_written}
use Rattle.contour.specs.declared.Written.{Written}
use Rattle.assembly.specs.Assembly.{State, refused, ended, going, closed_up, after_run, crunch_all, crunch_between, crunch_round, crunch_in, crunch_runs}
use Rattle.assembly.specs.Laws.{stays_refused, stays_ended}
use Rattle.assembly.specs.Stands.{Stands, stops, ends, goes, tally_in, ClosesUp}
use Rattle.assembly.specs.declared.Crunching as C
use Rattle.assembly.specs.declared.Crunching.TheVariants as Crunching
use Rattle.assembly.specs.declared.Progress.{Progress}

-- ---- what an answer says of the state that it stands for

pub refused_for : {room : ℕ} {row : Points} {s : State} {r : Result C.Crunching Refusal} {n : Refusal} → Stands room row s r → r ≡ Err n → s ≡ refused n
refused_for (stops e) h = cc
refused_for (ends e wrote counted) h = absurd cc
refused_for (goes e wrote counted) h = absurd cc

-- the points written, where the work goes on or has ended
pub record Standing (room : ℕ) (row : Points) (s : State) (state : Points → Tally → State) (p : Progress) : Type 0 where
  pub points : Points
  pub is : s ≡ state points p.tally
  pub wrote : Wrote row p.w (written room points)

standing : {room : ℕ} {row : Points} {p q : Progress} {t : Tally} (state : Points → Tally → State) (ps : Points) → Wrote row q.w (written room ps) → q.tally ≡ t → q ≡ p →
    Standing room row (state ps t) state p
standing {room} {row} state ps wrote counted same =
    record {
      points = ps;
      is = ap (state ps) (sym counted ∙ ap (λ (x : Progress). x.tally) same);
      wrote = subst (λ (x : Progress). Wrote row x.w (written room ps)) same wrote;
    }

pub ended_for : {room : ℕ} {row : Points} {s : State} {r : Result C.Crunching Refusal} {p : Progress} → Stands room row s r → r ≡ Ok (Crunching.Ended p) → Standing room row s ended p
ended_for (stops e) h = absurd cc
ended_for (ends {ps = ps} e wrote counted) h = standing ended ps wrote counted cc
ended_for (goes e wrote counted) h = absurd cc

pub going_for : {room : ℕ} {row : Points} {s : State} {r : Result C.Crunching Refusal} {p : Progress} → Stands room row s r → r ≡ Ok (Crunching.Going p) → Standing room row s going p
going_for (stops e) h = absurd cc
going_for (ends e wrote counted) h = absurd cc
going_for (goes {ps = ps} e wrote counted) h = standing going ps wrote counted cc

-- ---- the loop, from the rows' contents at its start to those of now

module _ (xs ys : List ℤ) (fs corners : List ℕ) (settings : Settings) (s₀ b₀ a₀ : List (List Float)) (l₀ : List ℕ) (points₀ : Points) (p₀ : Progress) where
  abbrev rooms : Rooms
  rooms = rooms_of (work s₀ b₀ a₀ l₀)

  abbrev along : List Run → State → State
  along rs s = crunch_all rooms settings xs ys fs rs s

  none_left : {rs : List Run} (s : State) → rs ≡ [] → along rs s ≡ s
  unfolding crunch_all
  none_left s e = rw e refl

  one_more : {rs rest : List Run} (r : Run) (ps : Points) (t : Tally) → rs ≡ r ∷ rest → along rs (going ps t) ≡ along rest (after_run rooms settings xs ys fs r ps t)
  unfolding crunch_all
  one_more r ps t e = rw e refl

  -- all that there is to do, after the points ps
  abbrev whole : Points → State
  whole ps = along (between corners) (going ps p₀.tally)

  abbrev Whole : Points → Result C.Crunching Refusal → Type 0
  Whole points c = (ps : Points) → Wrote points₀ p₀.w (written (length points₀) ps) → Stands (length points₀) points (whole ps) c

  -- what is left from run k on
  pub record Reached (points : Points) (p : Progress) (k : ℕ) (end : State) : Type 0 where
    pub sofar : Points
    pub wrote : Wrote points p.w (written (length points₀) sofar)
    pub left : end ≡ along (drop k (between corners)) (going sofar p.tally)

  pub record Running (s b a : List (List Float)) (l : List ℕ) (points : Points) (p : Progress) (k : ℕ) : Type 0 where
    pub samples : length s ≡ length s₀
    pub breaks : length b ≡ length b₀
    pub answers : length a ≡ length a₀
    pub links : length l ≡ length l₀
    pub long : length points ≡ length points₀
    pub upto : k ≤ length corners
    pub few : Upto k p.tally
    pub reach : (ps : Points) → Wrote points₀ p₀.w (written (length points₀) ps) → Reached points p k (whole ps)

  pub running_start : p₀.tally ≡ untried → Running s₀ b₀ a₀ l₀ points₀ p₀ 0
  running_start none =
      record {
        samples = refl;
        breaks = refl;
        answers = refl;
        links = refl;
        long = refl;
        upto = omega arith;
        few = rw none (nothing_upto 0);
        reach = λ ps wrote. record { sofar = ps; wrote = wrote; left = refl };
      }

  module _ {s b a : List (List Float)} {l : List ℕ} {points : Points} {p : Progress} {k : ℕ} (now : Running s b a l points p k) where
    -- no sum is too large
    pub running_few : k < length corners → length corners ≤ 1025 → Upto 1024 p.tally
    running_few h few = upto_more (omega arith) now.few

    finished : drop k (between corners) ≡ [] → Whole points (Ok (Crunching.Going p))
    finished e ps wrote =
        let there = now.reach ps wrote in
        rw (there.left, none_left (going there.sofar p.tally) e) (goes refl there.wrote refl)

    pub no_more : {r : Option Run} → r ≡ run_at (between corners) k → r ≡ None → Whole points (Ok (Crunching.Going p))
    no_more is e = finished (run_none (between corners) k (sym is ∙ e))

    pub all_seen : length corners ≤ k → Whole points (Ok (Crunching.Going p))
    all_seen h = finished (runs_end corners k h)

    -- one run: what it leaves in the rows
    module _ {r : Option Run} (at : r ≡ run_at (between corners) k) {first count : ℕ} (is : r ≡ Some (record { first = first; count = count })) {points' : Points} {c : Result C.Crunching Refusal}
        (then : (ps : Points) → Wrote points p.w (written (length points) ps) →
        Stands (length points) points' (after_run (rooms_of (work s b a l)) settings xs ys fs (record { first = first; count = count }) ps p.tally) c) where
      abbrev run : Run
      run = record { first = first; count = count }

      rooms_same : rooms_of (work s b a l) ≡ rooms
      rooms_same = rw (now.samples, now.breaks, now.answers, now.links) refl

      module _ (ps : Points) (wrote : Wrote points₀ p₀.w (written (length points₀) ps)) where
        there : Reached points p k (whole ps)
        there = now.reach ps wrote

        abbrev after : State
        after = after_run rooms settings xs ys fs run there.sofar p.tally

        after_left : whole ps ≡ along (drop (suc k) (between corners)) after
        after_left = there.left ∙ one_more run there.sofar p.tally (run_here (between corners) k (sym at ∙ is))

        after_stands : Stands (length points₀) points' after c
        after_stands =
            subst (λ (n : ℕ). Stands n points' after c) now.long
            (subst (λ (x : Rooms). Stands (length points) points' (after_run x settings xs ys fs run there.sofar p.tally) c) rooms_same
            (then there.sofar (subst (λ (n : ℕ). Wrote points p.w (written n there.sofar)) (sym now.long) there.wrote)))

      pub run_refused : {n : Refusal} → c ≡ Err n → Whole points' (Err n)
      run_refused {n} h ps wrote =
          let so : after ps wrote ≡ refused n = refused_for (after_stands ps wrote) h in
          rw (after_left ps wrote, so, stays_refused rooms settings xs ys fs (drop (suc k) (between corners)) n) (stops refl)

      pub run_ended : {q : Progress} → c ≡ Ok (Crunching.Ended q) → Whole points' (Ok (Crunching.Ended q))
      run_ended {q} h ps wrote =
          let so = ended_for (after_stands ps wrote) h in
          rw (after_left ps wrote, so.is, stays_ended rooms settings xs ys fs (drop (suc k) (between corners)) so.points q.tally) (ends refl so.wrote refl)

      pub run_on : {s' b' a' : List (List Float)} {l' : List ℕ} {q : Progress} → c ≡ Ok (Crunching.Going q) → ((runs : ℕ) → Upto runs p.tally → Upto (runs + 1) (tally_in c)) → k < length corners →
          length s' ≡ length s → length b' ≡ length b → length a' ≡ length a → length l' ≡ length l → length points' ≡ length points → Running s' b' a' l' points' q (k + 1)
      run_on {q = q} h few more ks kb ka kl kp =
          record {
            samples = ks ∙ now.samples;
            breaks = kb ∙ now.breaks;
            answers = ka ∙ now.answers;
            links = kl ∙ now.links;
            long = kp ∙ now.long;
            upto = omega arith;
            few = subst (λ (x : Result C.Crunching Refusal). Upto (k + 1) (tally_in x)) h (few k now.few);
            reach = λ ps wrote.
                let so = going_for (after_stands ps wrote) h in
                record { sofar = so.points; wrote = so.wrote; left = rw add-one (after_left ps wrote ∙ ap (along (drop (suc k) (between corners))) so.is) };
          }

-- ---- `close_up`

pub refused_closes : (s : List ℤ) {row : Points} {c : Result C.Crunching Refusal} {n : Refusal} → c ≡ Err n → ClosesUp row row c s (Err n)
refused_closes s h x stands = rw (refused_for stands h) (stops refl)

pub ended_closes : (s : List ℤ) {row : Points} {c : Result C.Crunching Refusal} {p : Progress} → c ≡ Ok (Crunching.Ended p) → ClosesUp row row c s (Ok (Crunching.Ended p))
ended_closes s h x stands = let so = ended_for stands h in rw so.is (ends refl so.wrote refl)

pub going_closes : (s : List ℤ) {old new : Points} {c : Result C.Crunching Refusal} {p : Progress} {w : Written} → c ≡ Ok (Crunching.Going p) → Closed old p.w new w s →
    ClosesUp old new c s (Ok (Crunching.Going (record { w = w; tally = p.tally })))
going_closes s h closed x stands = let so = going_for stands h in rw so.is (goes refl (closed so.points so.wrote) refl)

module _ (rooms : Rooms) (settings : Settings) (xs ys : List ℤ) (fs : List ℕ) where
  -- ---- `crunch_round`

  pub no_stops : (list : List ℕ) → length list ≡ 0 → {row : Points} {room : ℕ} {w : Written} → Wrote row w (written room (unchanged_in xs ys fs settings.closed)) →
      Stands room row (crunch_round rooms settings xs ys fs list) (Ok (Crunching.Ended (record { w = w; tally = untried })))
  no_stops [] e wrote = ends refl wrote refl
  no_stops (a ∷ list) e wrote = absurd (omega (arith, e))

  pub round_stands : (list : List ℕ) → (length list ≡ 0 → ⊥) → {a : ℕ} {s : List ℤ} → a ≡ start_of fs (get_or list 0 0) → s ≡ point_as true xs ys a →
      {row row' row'' : Points} {w : Written} {c r : Result C.Crunching Refusal} → w ≡ record { count = 0; over = false } →
      ((ps : Points) → Wrote row w (written (length row) ps) → Stands (length row) row' (crunch_all rooms settings xs ys fs (between list) (going ps untried)) c) →
      length row' ≡ length row → ClosesUp row' row'' c s r → Stands (length row) row'' (crunch_round rooms settings xs ys fs list) r
  round_stands [] some place start none then same closes = absurd (some refl)
  round_stands (b ∷ list) some {a} {s} place start {row} {row'} {row''} {w} {c} {r} none then same closes =
      let begun : Wrote row w (written (length row) []) = rw none (nothing_written row) in
      let worked = subst (λ (n : ℕ). Stands n row' (crunch_all rooms settings xs ys fs (between (b ∷ list)) (going [] untried)) c) (sym same) (then [] begun) in
      let round = subst (λ (n : ℕ). Stands n row'' (closed_up s (crunch_all rooms settings xs ys fs (between (b ∷ list)) (going [] untried))) r) same (closes _ worked) in
      subst (λ (q : List ℤ). Stands (length row) row'' (closed_up q (crunch_all rooms settings xs ys fs (between (b ∷ list)) (going [] untried))) r)
      (start ∙ ap (point_as true xs ys) place) round

  -- ---- `crunch_points`, by the mode

  module _ {list : List ℕ} (listed : list ≡ stops_of settings.closed xs ys fs) {row' : Points} {room : ℕ} {c : Result C.Crunching Refusal} where
    pub closed_stand : settings.closed ≡ true → Stands room row' (crunch_round rooms settings xs ys fs list) c → Stands room row' (crunch_runs rooms settings xs ys fs) c
    unfolding crunch_runs
    closed_stand mode there =
        subst (λ (b : Bool). Stands room row' (crunch_in rooms settings xs ys fs b (stops_of settings.closed xs ys fs)) c) (sym mode)
        (subst (λ (l : List ℕ). Stands room row' (crunch_round rooms settings xs ys fs l) c) listed there)

    -- the crate's: the runs between the corners, after the start point
    pub points_stand : settings.closed ≡ false → {row : Points} {w : Written} → length row ≡ room → Wrote row w (written room (start_point xs ys ∷ [])) →
        ((ps : Points) → Wrote row w (written (length row) ps) → Stands (length row) row' (crunch_all rooms settings xs ys fs (between list) (going ps untried)) c) →
        Stands room row' (crunch_runs rooms settings xs ys fs) c
    unfolding crunch_runs
    points_stand mode {row} {w} long wrote then =
        let start = start_point xs ys ∷ [] in
        let there = then start (subst (λ (n : ℕ). Wrote row w (written n start)) (sym long) wrote) in
        let all = subst (λ (l : List ℕ). Stands (length row) row' (crunch_between rooms settings xs ys fs l) c) listed there in
        subst (λ (b : Bool). Stands room row' (crunch_in rooms settings xs ys fs b (stops_of settings.closed xs ys fs)) c) (sym mode)
        (subst (λ (n : ℕ). Stands n row' (crunch_between rooms settings xs ys fs (stops_of settings.closed xs ys fs)) c) long all)

pub listed_few : {row list : List ℕ} {n : ℕ} → Listed row n list → length row ≤ 1025 → length (take n row) ≤ 1025
listed_few {row} {n = n} listed few = omega (arith, length-take-le n row listed.within, listed.within)
