-- What `reasons` and `why` tell, put together from what they call. Assumes nothing.
use Rattle.std.specs.Prelude.{Result, Ok, Err}
use Prim.Native.Nat.{ℕ, ◌≤◌, ◌<◌}
use mathlib.Core.Bool.{Bool, true, false}
use mathlib.Core.List.{List}
use mathlib.Core.Path.{◌≡◌, refl, ap, ◌∙◌}
use borrow.Author.Tests.{lt-ltb, le-ltb}
use lib.Dec.{ltb}
use lib.IntN.{ℤ}
use Rattle.geometry.specs.declared.Point.{Point}
use Rattle.refusals.specs.Refusals.{judged}
use Rattle.refusals.specs.declared.refusal.Refusal.TheVariants.{NoSuchSegment}
use Rattle.refusals.specs.declared.refusal.Refusal.{Refusal}
use Rattle.rows.specs.Lent.{Inputs, inputs}
use Rattle.outline.specs.declared.Seg.{Seg}
use Rattle.outline.specs.Segments.{count_of, start_of, seg_from, seg_at, chord_of, leaving_of, arriving_of, origin, previous}
use Rattle.corners.specs.Corners.{turns_x, turns_y, zero_tangent, angle_corner, state_at}
use Rattle.why.specs.Tests.{either, reasons_of}
use Rattle.why.specs.Entry.{Report, report, refusing, telling, said_below, said_after, unless_below, after_judging, why_of, values_of, Promise}
use Rattle.why.specs.declared.Marks.{Marks}

pub reasons_are : (xs ys : List ℤ) (fs : List ℕ) (m k : ℕ) {p a : ℕ} {first ended second c d0 d1 : Point} {here : Seg} {x1 x2 x y1 y2 y before after angle : Bool} →
    first ≡ state_at xs ys fs origin k → ended ≡ state_at xs ys fs origin m → second ≡ state_at xs ys fs ended k →
    a ≡ start_of fs k → here ≡ seg_from xs ys fs a → c ≡ chord_of here →
    p ≡ previous m k → d0 ≡ arriving_of (seg_at xs ys fs p) → d1 ≡ leaving_of here →
    x1 ≡ turns_x first c → x2 ≡ turns_x second c → x ≡ either x1 x2 →
    y1 ≡ turns_y first c → y2 ≡ turns_y second c → y ≡ either y1 y2 →
    before ≡ zero_tangent d0 → after ≡ zero_tangent d1 → angle ≡ angle_corner d0 d1 →
    record { x = x; y = y; before = before; after = after; angle = angle } ≡ reasons_of xs ys fs m k
reasons_are xs ys fs m k ef en es ea eh ec ep e0 e1 x1 x2 ex y1 y2 ey eb et eg =
    rw (ex, x1, x2, ey, y1, y2, eb, et, eg, e0, e1, ep, ec, eh, ea, es, ef, en)

report_after : (j : Result Unit Refusal) (a : Result Marks Refusal) (v : Report) → report a ≡ v → report (after_judging j a) ≡ said_after refusing telling j v
report_after (Err n) a v e = refl
report_after (Ok tt) a v e = e

report_below : (b : Bool) (m : Marks) → report (unless_below b (Ok m)) ≡ said_below refusing telling b (telling m)
report_below true m = refl
report_below false m = refl

report_whole : (i : Inputs) (k : ℕ) → report (why_of i k) ≡ values_of i k
report_whole (inputs xs ys fs) k =
    let m = count_of fs in
    let r = reasons_of xs ys fs m k in
    report_after (judged xs ys fs) (unless_below (ltb k m) (Ok r)) (said_below refusing telling (ltb k m) (telling r)) (report_below (ltb k m) r)

-- the documents' values are those of the answer
promised : {i : Inputs} {k : ℕ} {r : Result Marks Refusal} → r ≡ why_of i k → Promise i k r
promised {i} {k} e = record { answer = e; values = ap report e ∙ report_whole i k }

module _ {xs ys : List ℤ} {fs : List ℕ} {k : ℕ} {j : Result Unit Refusal} (judging : j ≡ judged xs ys fs) where
  pub refused_first : {n : Refusal} → j ≡ Err n → Promise (inputs xs ys fs) k (Err n)
  refused_first e = promised (rw (← judging, e))

  pub not_below : {m : ℕ} → j ≡ Ok tt → m ≡ count_of fs → m ≤ k → Promise (inputs xs ys fs) k (Err NoSuchSegment)
  not_below {m} e em h = promised (rw (← judging, e, ← em, le-ltb k m h))

  pub told : {m : ℕ} {r : Marks} → j ≡ Ok tt → m ≡ count_of fs → k < m → r ≡ reasons_of xs ys fs m k → Promise (inputs xs ys fs) k (Ok r)
  told {m} e em h er = promised (rw (← judging, e, ← em, lt-ltb k m h, er))
