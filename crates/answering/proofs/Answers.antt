-- What the crunch entry left, as the answer to a contour. Assumes nothing.
use Rattle.std.specs.Prelude.{Result}
use Rattle.std.proofs.Common.{ℕ, zero, suc, ◌+◌, ◌≤◌, min, Bool, false, List, ◌++◌, ◌≡◌, refl, sym, ap, subst, ◌∙◌, arith, ℤ, pos, length, get_or, drop}
use Rattle.std.proofs.Math.ListN.{length-map, get_or-append}
use Rattle.refusals.specs.declared.refusal.Refusal.{Refusal}
use Rattle.words.specs.declared.Order.{Order}
use Rattle.rows.specs.Rows.{Work}
use Rattle.contour.specs.Implied.{number}
use Rattle.contour.specs.Points.{Points}
use Rattle.contour.specs.Output.{Outputs, outputs, column, flag_of, flags}
use Rattle.edition.specs.Laws.{Within}
use Rattle.rows.specs.Lent.{inputs}
use Rattle.edition.specs.Scratch.{rooms_of, full_rooms}
use Rattle.crunch.specs.Crunch.{Outcome, refused, crunched, crunch_of}
use Rattle.crunch.specs.Entry.{report, answer_of, outputs_of, Rows, point_room, whole_of}
use Rattle.crunch.specs.Laws.{points_within, short, more_room}
use Rattle.crunch.specs.declared.Crunched as C
use Rattle.lines.specs.Text.{Put, decimal_of}
use Rattle.lines.specs.Answer.{ok_word, point_text, points_text}
use Rattle.answering.specs.Answer.{fallen_text, outcome_text, entry_text, answer_text, short_in}

-- ---- the text

-- points in the first places of the rows
front_points : (s a t b : List ℤ) (u c : List ℕ) (k i : ℕ) → i + k ≤ length s → i + k ≤ length t → i + k ≤ length u →
    points_text (s ++ a) (t ++ b) (u ++ c) k i ≡ points_text s t u k i
unfolding points_text
front_points s a t b u c zero i hs ht hu = refl
front_points s a t b u c (suc k) i hs ht hu =
    rw (get_or-append s a (pos 0) i (omega arith), get_or-append t b (pos 0) i (omega arith), get_or-append u c 0 i (omega arith))
    (ap (λ (text : List ℕ). point_text (get_or s i (pos 0)) (get_or t i (pos 0)) (get_or u i 0) ++ text) (front_points s a t b u c k (i + 1) (omega arith) (omega arith) (omega arith)))

-- what the entry hands back and leaves, as the text of the outcome
same_text : (told : Bool) (x : Outcome) (o : Outputs) → entry_text told (answer_of x) (outputs_of x o) ≡ outcome_text told x
same_text told (refused k) o = refl
same_text told (crunched ps t) (outputs ox oy of) =
    let lx : length (column 0 ps) ≡ length ps = length-map ps (λ (q : List ℤ). number q 0) in
    let ly : length (column 1 ps) ≡ length ps = length-map ps (λ (q : List ℤ). number q 1) in
    let lf : length (flags ps) ≡ length ps = length-map ps flag_of in
    ap (λ (text : List ℕ). (ok_word ++ (decimal_of t.pairs ++ text)) ++ fallen_text told t.fallen)
    (front_points (column 0 ps) (drop (length (column 0 ps)) ox) (column 1 ps) (drop (length (column 1 ps)) oy) (flags ps) (drop (length (flags ps)) of) (length ps) 0 (omega arith) (omega arith) (omega arith))

short_both : (x : Outcome) → short x ≡ short_in (answer_of x)
short_both (refused k) = refl
short_both (crunched ps t) = refl

-- ---- what the entry left in rows that were lent

module _ (ox oy : List ℤ) (of : List ℕ) (w : Work) (points : Points) (order : Order) (xs ys : List ℤ) (fs : List ℕ) where
  abbrev lent : Rows
  lent = record { outs = outputs ox oy of; work = w; points = points }

  abbrev whole : Outcome
  whole = whole_of (inputs xs ys fs) order.settings lent

  module _ {r : Result C.Crunched Refusal} (e : r ≡ answer_of whole) where
    -- the points that the entry says it wrote lie in the rows
    pub fits : {x y f : ℕ} → x ≡ length ox → y ≡ length oy → f ≡ length of → ((report r).points ≤ x) × ((report r).points ≤ y) × ((report r).points ≤ f)
    fits lx ly lf =
        let few : (report r).points ≤ point_room lent = rw e (points_within (inputs xs ys fs) order.settings lent) in
        (omega arith, omega arith, omega arith)

    -- what it says is the answer, where the full rooms' outcome is the same
    pub says : {o : Outputs} {out out' : List ℕ} {at q : ℕ} → crunch_of full_rooms 16384 order.settings xs ys fs ≡ whole →
        o ≡ outputs_of whole (outputs ox oy of) → Put out at (entry_text order.told r o) out' q → Put out at (answer_text order xs ys fs) out' q
    unfolding answer_text
    says {out = out} {out' = out'} {at = at} {q = q} same rows p =
        subst (λ (text : List ℕ). Put out at text out' q)
        ((λ i. entry_text order.told (e i) (rows i)) ∙ same_text order.told whole (outputs ox oy of) ∙ ap (outcome_text order.told) (sym same)) p

    -- in rows that are no longer than the full rooms: what is not refused for want of room is the full rooms' outcome
    pub short_same : {t : Bool} → Within (rooms_of w) full_rooms → length points ≤ 16384 → t ≡ short_in r → t ≡ false → crunch_of full_rooms 16384 order.settings xs ys fs ≡ whole
    short_same within few is fine =
        more_room (rooms_of w) full_rooms (point_room lent) 16384 order.settings xs ys fs within (omega arith)
        (short_both whole ∙ ap short_in (sym e) ∙ sym is ∙ fine)

-- the place after an answer is no further than the end of the text
pub no_further : {out out' text : List ℕ} {at end r : ℕ} → Put out at text out' end → length out' ≡ length out → r ≡ min end (length out') → Put out at text out' r
no_further put same is = record { held = put.held; next = omega (arith, put.next) }
