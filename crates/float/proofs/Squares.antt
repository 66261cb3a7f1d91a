-- The square root of a whole number: what `root_down` gives, that nothing else is it, and the turns of `by_digits`, each of which takes in two digits. Assumes nothing.
use Rattle.std.proofs.Common.{◌≡◌, ℕ, zero, suc, ◌+◌, ◌-◌, ◌*◌, ◌/◌, ◌%◌, ◌^◌, ◌<◌, ◌≤◌, Bool, true, false, cond, ltb, leb, sym, refl, ap, ◌∙◌, subst, le_trans, lt_of_lt_of_le, le_of_suc-le-suc, lt_irrefl, mul_assoc, add-mul, mul-le-mul, le_antisymm, pow-suc, lt_of_not-le, mul-add, add-one, arith, pow_mono, shl_lt, le-ltb, lt-ltb, leb-false, leb-true}
use lib.Arith.{digits_div}
use Rattle.float.specs.Float.{with_bit, root_down, nearest_to, root_near}
use Rattle.float.specs.Steps.{Rooted, Turned, up_if_more}
use Rattle.float.specs.declared.Underway.{Underway}

-- ---- squares
pub sq_next : (q : ℕ) → (q + 1) * (q + 1) ≡ q * q + 2 * q + 1
sq_next q = add-mul q 1 (q + 1) ∙ ap (λ (a : ℕ). a + 1 * (q + 1)) (mul-add q q 1) ∙ omega arith

pub sq_twice : (q : ℕ) → q * 2 * (q * 2) ≡ q * q * 4
sq_twice q = mul_assoc q 2 (q * 2) ∙ ap (λ (a : ℕ). q * a) (four q) ∙ sym (mul_assoc q q 4)
  where
    four : (q : ℕ) → 2 * (q * 2) ≡ q * 4
    four q = omega arith

-- q is the root of n, rounded down
abbrev pub Root : ℕ → ℕ → Type 0
Root n q = (q * q ≤ n) × (n < (q + 1) * (q + 1))

root_le : (n q r : ℕ) → Root n q → Root n r → q ≤ r
root_le n q r a b = le_of_suc-le-suc (lt_of_not-le (λ (h : suc r ≤ q). lt_irrefl n (lt_of_lt_of_le b.1 (le_trans (mul-le-mul (over h) (over h)) a.0))))
  where
    over : suc r ≤ q → r + 1 ≤ q
    over h = omega arith

pub root_unique : (n q r : ℕ) → Root n q → Root n r → q ≡ r
root_unique n q r a b = le_antisymm (root_le n q r a b) (root_le n r q b a)

-- one digit more
with_bit_lem : (n q : ℕ) → q * q ≤ n → n < (q + 1 + 1) * (q + 1 + 1) → Root n (with_bit n q)
with_bit_lem n q lo hi = go (leb ((q + 1) * (q + 1)) n) (leb-true ((q + 1) * (q + 1)) n) (leb-false ((q + 1) * (q + 1)) n)
  where
    go : (b : Bool) → (b ≡ true → (q + 1) * (q + 1) ≤ n) → (b ≡ false → n < (q + 1) * (q + 1)) → Root n (cond b (q + 1) q)
    go true f g = (f refl, hi)
    go false f g = (lo, g refl)

pub root_down_lem : (k n : ℕ) → n < 4 ^ k → Root n (root_down k n)
unfolding root_down
root_down_lem zero n h = (omega arith, omega arith)
root_down_lem (suc k) n h =
    let q = root_down k (n / 4) in
    let ih : Root (n / 4) q = root_down_lem k (n / 4) (omega (arith, pow-suc 4 k)) in
    let sq : 2 * q * (2 * q) ≡ q * q * 4 = ap (λ (a : ℕ). a * a) (twice q) ∙ sq_twice q in
    with_bit_lem n (2 * q) (omega (arith, sq, ih.0)) (omega (arith, sq, ih.1, sq_next q, sq_next (2 * q), sq_next (2 * q + 1)))
  where
    twice : (q : ℕ) → 2 * q ≡ q * 2
    twice q = omega arith

-- ---- the nearest whole number, from any q and rest that the code has found
near_is : (k n q rest : ℕ) → n < 4 ^ k → Rooted n q rest → root_near k n ≡ up_if_more q rest
unfolding root_near
near_is k n q rest h r =
    let root : Root n q = (omega (arith, r.sum), omega (arith, r.sum, r.within, sq_next q)) in
    let same : root_down k n ≡ q = root_unique n (root_down k n) q (root_down_lem k n h) root in
    let left : n - q * q ≡ rest = omega (arith, r.sum) in
    ap (nearest_to n) same ∙ ap (λ (a : ℕ). cond (ltb q a) (q + 1) q) left

pub near_up : (k : ℕ) {n q rest : ℕ} → n < 4 ^ k → Rooted n q rest → q < rest → q + 1 ≡ root_near k n
near_up k {n} {q} {rest} h r l = sym (near_is k n q rest h r ∙ ap (λ (b : Bool). cond b (q + 1) q) (lt-ltb q rest l))

pub near_down : (k : ℕ) {n q rest : ℕ} → n < 4 ^ k → Rooted n q rest → rest ≤ q → q ≡ root_near k n
near_down k {n} {q} {rest} h r l = sym (near_is k n q rest h r ∙ ap (λ (b : Bool). cond b (q + 1) q) (le-ltb q rest l))

-- after 53 turns over a word
pub near_word : (w q rest : ℕ) → w < 2 ^ 64 → Rooted (w * 4 ^ 53 / 2 ^ 64) q rest → up_if_more q rest ≡ root_near 53 (w * 2 ^ 42)
near_word w q rest h r =
    let all : w * 4 ^ 53 / 2 ^ 64 ≡ w * 2 ^ 42 = omega arith in
    sym (near_is 53 (w * 2 ^ 42) q rest (shl_lt 64 42 h) (subst (λ (n : ℕ). Rooted n q rest) all r))

-- ---- one turn, where r is in hand and t is the trial
module _ (s : Underway) (r t : ℕ) (word : s.left < 2 ^ 64) (least : s.rest ≤ 2 * s.root) (hand : r ≡ s.rest * 4 + s.left / 2 ^ 62) (trial : t ≡ s.root * 4 + 1) where
  pub turn_one : t ≤ r → Turned s (record { root = s.root * 2 + 1; rest = r - t; left = s.left * 4 % 2 ^ 64 })
  turn_one h = record {
    sum = omega (arith, sq_next (s.root * 2), sq_twice s.root);
    within = omega arith;
    digit = omega arith;
    left = refl;
  }

  pub turn_none : r < t → Turned s (record { root = s.root * 2; rest = r; left = s.left * 4 % 2 ^ 64 })
  turn_none h = record {
    sum = omega (arith, sq_twice s.root);
    within = omega arith;
    digit = omega arith;
    left = refl;
  }

-- ---- the turns: after i of n
pub record Taken (w n : ℕ) (s : Underway) (i : ℕ) : Type 0 where
  pub most : n ≤ 53
  pub turns : i ≤ n
  pub few : s.root < 2 ^ i
  pub within : s.rest ≤ 2 * s.root
  pub word : s.left < 2 ^ 64
  pub sum : (s.root * s.root + s.rest) * 2 ^ 64 + s.left ≡ w * 4 ^ i

pub start : (w n : ℕ) → w < 2 ^ 64 → n ≤ 53 → Taken w n (record { root = 0; rest = 0; left = w }) 0
start w n h l = record { most = l; turns = omega arith; few = omega arith; within = omega arith; word = h; sum = omega arith }

module _ {w n i : ℕ} {s : Underway} (t : Taken w n s i) where
  pub root_lt : s.root < 2 ^ 53
  root_lt = lt_of_lt_of_le t.few (pow_mono (le_trans t.turns t.most))

  pow_next : w * 4 ^ (i + 1) ≡ w * 4 ^ i * 4
  pow_next = ap (λ (k : ℕ). w * 4 ^ k) (add-one i) ∙ ap (λ (a : ℕ). w * a) (pow-suc 4 i) ∙ sym (mul_assoc w (4 ^ i) 4)

  few_next : (q : ℕ) → q / 2 ≡ s.root → q < 2 ^ (i + 1)
  few_next q h = subst (λ (k : ℕ). q < 2 ^ k) (sym (add-one i)) (omega (arith, pow-suc 2 i, t.few))

  pub more : {r : Underway} → i < n → Turned s r → Taken w n r (i + 1)
  more {r} h u = record {
    most = t.most;
    turns = omega arith;
    few = few_next r.root u.digit;
    within = u.within;
    word = subst (λ (a : ℕ). a < 2 ^ 64) (sym u.left) (omega arith);
    sum = ap (λ (a : ℕ). a * 2 ^ 64 + r.left) u.sum ∙ four (s.root * s.root + s.rest) s.left r.left t.word u.left t.sum ∙ sym pow_next;
  }
    where
      four : (a left now : ℕ) → left < 2 ^ 64 → now ≡ left * 4 % 2 ^ 64 → a * 2 ^ 64 + left ≡ w * 4 ^ i → (4 * a + left / 2 ^ 62) * 2 ^ 64 + now ≡ w * 4 ^ i * 4
      four a left now h e k = omega arith

  -- after the last turn
  pub ended : n ≤ i → Rooted (w * 4 ^ n / 2 ^ 64) s.root s.rest
  ended h =
      let last : i ≡ n = omega (arith, t.turns) in
      record {
        sum = sym (digits_div (s.root * s.root + s.rest) t.word) ∙ ap (λ (a : ℕ). a / 2 ^ 64) (t.sum ∙ ap (λ (k : ℕ). w * 4 ^ k) last);
        within = t.within;
      }
