-- The bend test by squares, of whole numbers of smallest f64s, u of which are one. Where the square of the bend b is more than a 2048th of the product of
-- the two squared lengths, b is at least 21 / 1024 of the product of their roots; where it is less than a 4096th, at most a 50th. Assumes nothing.
use Prim.Native.Nat.{ℕ, ◌+◌, ◌*◌, ◌≤◌, ◌<◌}
use mathlib.Core.Path.{◌≡◌}
use native.Mathlib.Nat.{add-mul, mul_assoc, mul_right_comm, mul-mul-mul_comm, mul-le-mul, mul-le-mul_right, le_of_mul-le-mul_right}
use native.Mathlib.Omega.{arith}
use lib.Ieee.Positive.{first_pos}
use Rattle.float.proofs.Nearly.{Near}
use Rattle.float.proofs.Roots.{root_le, squared}

-- N is the product of two squared lengths, and s that, rounded: it is above a half and below 1e20. x is the product of their roots, and p that, rounded
pub record TwoLengths (N s x p u : ℕ) : Type 0 where
  pub some : 100000000000000 ≤ u
  pub low : u < s * 2
  pub high : s < 100000000000000000000 * u
  pub near : Near N u s
  pub most : x * x * 10000 ≤ 10001 * (N * (u * u))
  pub least : N * (u * u) * 10000 ≤ 10001 * (x * x)
  pub product : Near x u p

-- two numbers that are nearly two others, multiplied
pub multiplied : (a b c d : ℕ) → a * 100000 ≤ 100001 * c → b * 100000 ≤ 100001 * d → a * b * 10000 ≤ 10001 * (c * d)
multiplied a b c d h k =
    let both : a * 100000 * (b * 100000) ≤ 100001 * c * (100001 * d) = mul-le-mul h k in
    let l : a * 100000 * (b * 100000) ≡ a * b * 10000000000 = mul-mul-mul_comm a 100000 b 100000 in
    let r : 100001 * c * (100001 * d) ≡ 10000200001 * (c * d) = mul-mul-mul_comm 100001 c 100001 d in
    omega arith

-- what the tests say of exact numbers: S stands for s * u below, Q for q * u, and B for b * b
square_over : (N S Q B U : ℕ) → N * 4095 ≤ S * 4096 + U * 4096 → S * 4095 ≤ Q * 8388608 → Q * 4096 ≤ B * 4097 + U * 4096 → 10000000 * U ≤ S → N ≤ 2060 * B
square_over N S Q B U near share square little = omega arith

square_under : (N S Q B U : ℕ) → S * 4096 ≤ N * 4097 + U * 4096 → Q * 16777216 ≤ S * 4097 → B * 4095 ≤ Q * 4096 + U * 4096 → 10000000 * U ≤ S → 4000 * B ≤ N
square_under N S Q B U near share square little = omega arith

-- P stands for p * u
product_short : (P x U u : ℕ) → P * 4096 ≤ x * 4097 + u * 4096 → x ≤ 20000000000 * U → u ≤ U → P ≤ 30000000000 * U
product_short P x U u near roots one = omega arith

module _ (N s x p u : ℕ) (l : TwoLengths N s x p u) where
  -- the grain is little
  little : 10000000 * u ≤ s * u
  little = mul-le-mul_right u (omega (arith, l.some, l.low))

  many : 5 ≤ N
  many = omega (arith, l.some, l.near.most, little)

  over : 2 * u ≤ x
  over =
      let more : 5 * (u * u) ≤ N * (u * u) = mul-le-mul_right (u * u) many in
      root_le (2 * u) x (omega (arith, squared 2 u, l.least))

  pub product_pos : 0 < p
  product_pos = first_pos p u (omega (arith, l.some, l.product.least, over))

  -- the product of the roots is far from past all f64s
  roots_under : x ≤ 20000000000 * (u * u)
  roots_under =
      let small : s * u ≤ 100000000000000000000 * u * u = mul-le-mul_right u (omega (arith, l.high)) in
      let a : 100000000000000000000 * u * u ≡ 100000000000000000000 * (u * u) = mul_assoc 100000000000000000000 u u in
      let few : N ≤ 200000000000000000000 * (u * u) = omega (arith, l.near.least, little) in
      let scaled : N * (u * u) ≤ 200000000000000000000 * (u * u) * (u * u) = mul-le-mul_right (u * u) few in
      let b : 200000000000000000000 * (u * u) * (u * u) ≡ 200000000000000000000 * (u * u * (u * u)) = mul_assoc 200000000000000000000 (u * u) (u * u) in
      root_le x (20000000000 * (u * u)) (omega (arith, squared 20000000000 (u * u), l.most))

  pub product_under : (t : ℕ) → 18446744073709551616 * u ≤ t → p < t
  product_under t under =
      let one : 1 * u ≤ u * u = mul-le-mul_right u (omega (arith, l.some)) in
      let short : p * u ≤ 30000000000 * (u * u) = product_short (p * u) x (u * u) u l.product.most roots_under (omega arith) in
      let few : p ≤ 30000000000 * u = le_of_mul-le-mul_right {k = u} (rw (mul_assoc 30000000000 u u) short) (omega (arith, l.some)) in
      omega (arith, l.some)

  -- b is the bend, q its square, rounded, and c the share of s that it is compared with
  module _ (b q c : ℕ) (square : Near (b * b) u q) where
    together : b * u * (b * u) ≡ b * b * (u * u)
    together = mul-mul-mul_comm b u b u

    pub wide : Near (1 * s) 2048 c → c < q → p * 21 ≤ b * 1024
    wide share less =
        let scaled : s * 4095 * u ≤ q * 8388608 * u = mul-le-mul_right u (omega (arith, share.least)) in
        let part : s * u * 4095 ≤ q * u * 8388608 = rw (mul_right_comm s u 4095, mul_right_comm q u 8388608) scaled in
        let short : N ≤ 2060 * (b * b) = square_over N (s * u) (q * u) (b * b) u l.near.least part square.most little in
        let all : N * (u * u) ≤ 2060 * (b * b) * (u * u) = mul-le-mul_right (u * u) short in
        let f : 2060 * (b * b) * (u * u) ≡ 2060 * (b * b * (u * u)) = mul_assoc 2060 (b * b) (u * u) in
        let root : x ≤ 46 * (b * u) = root_le x (46 * (b * u)) (omega (arith, squared 46 (b * u), together, l.most)) in
        let some : 1 ≤ b = first_pos b b (omega (arith, many)) in
        let one : 1 * u ≤ b * u = mul-le-mul_right u some in
        let g : p * 21 * u ≡ p * u * 21 = mul_right_comm p 21 u in
        let h : b * 1024 * u ≡ b * u * 1024 = mul_right_comm b 1024 u in
        le_of_mul-le-mul_right {k = u} (rw (g, h) (omega (arith, l.product.most))) (omega (arith, l.some))

    pub narrow : Near (1 * s) 4096 c → q < c → b * 50 ≤ p
    narrow share less =
        let scaled : q * 16777216 * u ≤ s * 4097 * u = mul-le-mul_right u (omega (arith, share.most)) in
        let part : q * u * 16777216 ≤ s * u * 4097 = rw (mul_right_comm q u 16777216, mul_right_comm s u 4097) scaled in
        let long : 4000 * (b * b) ≤ N = square_under N (s * u) (q * u) (b * b) u l.near.most part square.least little in
        let all : 4000 * (b * b) * (u * u) ≤ N * (u * u) = mul-le-mul_right (u * u) long in
        let f : 4000 * (b * b) * (u * u) ≡ 4000 * (b * b * (u * u)) = mul_assoc 4000 (b * b) (u * u) in
        let root : 63 * (b * u) ≤ x = root_le (63 * (b * u)) x (omega (arith, squared 63 (b * u), together, l.least)) in
        let g : b * 257985 * u ≡ b * u * 257985 = mul_right_comm b 257985 u in
        let h : (p * 4096 + 4096) * u ≡ p * 4096 * u + 4096 * u = add-mul (p * 4096) 4096 u in
        let i : p * 4096 * u ≡ p * u * 4096 = mul_right_comm p 4096 u in
        let over : b * 257985 ≤ p * 4096 + 4096 = le_of_mul-le-mul_right {k = u} (rw (g, h, i) (omega (arith, l.product.least))) (omega (arith, l.some)) in
        omega arith
