use Prim.Native.Nat.{ℕ, ◌+◌, ◌-◌, ◌≤◌}
use mathlib.Core.Bool.{Bool, true, false}
use mathlib.Core.Path.{◌≡◌, refl, sym, ◌∙◌}
use native.Mathlib.Omega.{arith}
use borrow.Author.Tests.{leb-true, leb-false, le-leb, lt-leb}
use lib.Dec.{leb}
use Rattle.fontcrunch_cli.proofs.out.has_room.Goals as goal

-- the test without a sum, which could overflow
same_test : (n at : ℕ) → 300000 ≤ n → leb at (n - 300000) ≡ leb (at + 300000) n
same_test n at enough = by (leb at (n - 300000)) refl
  where
    by : (t : Bool) → leb at (n - 300000) ≡ t → leb at (n - 300000) ≡ leb (at + 300000) n
    by true e = let inside = leb-true at (n - 300000) e in e ∙ sym (le-leb (at + 300000) n (omega arith))
    by false e = let past = leb-false at (n - 300000) e in e ∙ sym (lt-leb (at + 300000) n (omega arith))

pub returns-then-n-lt300000 : goal.returns-then-n-lt300000
returns-then-n-lt300000 c = sym (lt-leb (c.args.at + 300000) c.args.n (omega arith))

pub returns : goal.returns
returns c = same_test _ _ c.if-n-lt300000.false
