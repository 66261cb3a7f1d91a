-- Points one after the other: the words of each, and the rows that hold them. Assumes nothing.
use Rattle.std.proofs.Common.{ℕ, suc, ◌+◌, ◌-◌, ◌≤◌, ◌<◌, List, [], ◌∷◌, Option, Some, None, ◌≡◌, refl, ap, ◌∙◌, arith, add-one, le-leb, ℤ, length, take, drop, set, length-set}
use borrow.Author.Tests.{lt-leb}
use Rattle.lines.specs.Line.{coordinate_of, flag_of, Point, point, in_front, points_of, parsed_of, laid, Leaves}
use Rattle.lines.specs.Steps.{words_from, onward, Inside}
use Rattle.lines.proofs.Words.{end_from, word, no_word}

-- ---- the words of a point

module _ (line : List ℕ) (at a : ℕ) (inside : at ≤ length line) (ends : a ≡ end_from 32 line at) where
  pub one_word : a ≡ length line → points_of (words_from line at) ≡ onward line None
  unfolding points_of onward
  one_word e = rw (word line at a inside ends, no_word line (a + 1) (omega arith))

  module _ (b : ℕ) (inside₂ : a + 1 ≤ length line) (ends₂ : b ≡ end_from 32 line (a + 1)) where
    pub two_words : b ≡ length line → points_of (words_from line at) ≡ onward line None
    unfolding points_of onward
    two_words e = rw (word line at a inside ends, word line (a + 1) b inside₂ ends₂, no_word line (b + 1) (omega arith))

    module _ (c : ℕ) (inside₃ : b + 1 ≤ length line) (ends₃ : c ≡ end_from 32 line (b + 1)) where
      -- the point that the three words say
      abbrev pub said : Option Point
      said = point (coordinate_of (take (a - at) (drop at line))) (coordinate_of (take (b - (a + 1)) (drop (a + 1) line))) (flag_of (take (c - (b + 1)) (drop (b + 1) line)))

      three_words : points_of (words_from line at) ≡ in_front said (points_of (words_from line (c + 1)))
      unfolding points_of
      three_words = rw (word line at a inside ends, word line (a + 1) b inside₂ ends₂, word line (b + 1) c inside₃ ends₃) refl

      pub no_point : said ≡ None → points_of (words_from line at) ≡ onward line None
      unfolding onward
      no_point e = three_words ∙ ap (λ (o : Option Point). in_front o (points_of (words_from line (c + 1)))) e

      pub a_point : (p : Point) → said ≡ Some p → points_of (words_from line at) ≡ onward line (Some (p, c + 1))
      unfolding onward
      a_point p e = three_words ∙ ap (λ (o : Option Point). in_front o (points_of (words_from line (c + 1)))) e

-- ---- the rows

laid_more : (p : Point) (o : Option (List Point)) (n : ℕ) (xs ys : List ℤ) (fs : List ℕ) →
    laid (in_front (Some p) o) n xs ys fs ≡ laid o (n + 1) (set xs n p.x) (set ys n p.y) (set fs n p.flag)
unfolding laid
laid_more p None n xs ys fs = refl
laid_more p (Some ps) n xs ys fs =
    let k : n + suc (length ps) ≡ suc n + length ps = omega arith in
    rw (add-one, k) refl

-- n points of a line are in the rows, and those from place `at` on are left
pub record Reached (line : List ℕ) (xs₀ ys₀ : List ℤ) (fs₀ : List ℕ) (xs ys : List ℤ) (fs : List ℕ) (n at : ℕ) : Type 0 where
  pub few : n ≤ at
  pub inside : at ≤ length line + 1
  pub short : length line ≤ 65536
  pub same_xs : length xs ≡ length xs₀
  pub same_ys : length ys ≡ length ys₀
  pub same_fs : length fs ≡ length fs₀
  pub left : laid (parsed_of line) 0 xs₀ ys₀ fs₀ ≡ laid (points_of (words_from line at)) n xs ys fs

pub begin : (line : List ℕ) (xs ys : List ℤ) (fs : List ℕ) → (length line ≡ 0 → ⊥) → length line ≤ 65536 → Reached line xs ys fs xs ys fs 0 0
unfolding parsed_of words_from
begin [] xs ys fs h s = absurd (h refl)
begin (b ∷ bs) xs ys fs h s = record {
  few = omega arith;
  inside = omega arith;
  short = s;
  same_xs = refl;
  same_ys = refl;
  same_fs = refl;
  left = rw (le-leb (length (b ∷ bs)) 65536 s, le-leb 0 (length (b ∷ bs)) (omega arith)) refl;
}

pub too_long : (line : List ℕ) (xs ys : List ℤ) (fs : List ℕ) → 65536 < length line → laid (parsed_of line) 0 xs ys fs ≡ laid None 0 xs ys fs
unfolding parsed_of
too_long line xs ys fs h = rw (lt-leb _ _ h)

pub no_points_lem : (line : List ℕ) (xs ys : List ℤ) (fs : List ℕ) → length line ≡ 0 → Leaves (laid (parsed_of line) 0 xs ys fs) (Some 0) xs ys fs
unfolding parsed_of laid
no_points_lem [] xs ys fs h = (refl, refl, refl, refl)
no_points_lem (b ∷ bs) xs ys fs h = absurd (omega arith)

module _ {line : List ℕ} {xs₀ ys₀ : List ℤ} {fs₀ : List ℕ} {xs ys : List ℤ} {fs : List ℕ} {n at : ℕ} (g : Reached line xs₀ ys₀ fs₀ xs ys fs n at) where
  -- x and y are stored as they are read back from their bits
  pub more : (p : Point) {x₁ y₁ : ℤ} {next : ℕ} {xs' ys' : List ℤ} {fs' : List ℕ} →
      Inside at (length line + 1) (Some (p, next)) → points_of (words_from line at) ≡ onward line (Some (p, next)) → x₁ ≡ p.x → y₁ ≡ p.y →
      xs' ≡ set xs n x₁ → ys' ≡ set ys n y₁ → fs' ≡ set fs n p.flag → Reached line xs₀ ys₀ fs₀ xs' ys' fs' (n + 1) next
  unfolding onward
  more p {x₁} {y₁} {next} {xs'} {ys'} {fs'} lies_in told bx by sx sy ef =
      let ex : xs' ≡ set xs n p.x = sx ∙ ap (set xs n) bx in
      let ey : ys' ≡ set ys n p.y = sy ∙ ap (set ys n) by in
      let few = g.few in
      record {
        few = omega arith;
        inside = lies_in.1;
        short = g.short;
        same_xs = ap length ex ∙ length-set xs n p.x ∙ g.same_xs;
        same_ys = ap length ey ∙ length-set ys n p.y ∙ g.same_ys;
        same_fs = ap length ef ∙ length-set fs n p.flag ∙ g.same_fs;
        left =
            g.left
            ∙ ap (λ (o : Option (List Point)). laid o n xs ys fs) told
            ∙ laid_more p (points_of (words_from line next)) n xs ys fs
            ∙ rw (ex, ey, ef) refl;
      }

  pub ended : length line < at → Leaves (laid (parsed_of line) 0 xs₀ ys₀ fs₀) (Some n) xs ys fs
  unfolding laid points_of
  ended h =
      let k : n ≡ n + 0 = omega arith in
      rw (g.left, no_word line at h) (ap (λ (m : ℕ). Some m) k, refl, refl, refl)

  pub spoils : points_of (words_from line at) ≡ onward line None → Leaves (laid (parsed_of line) 0 xs₀ ys₀ fs₀) None xs ys fs
  unfolding laid onward
  spoils told = rw (g.left, told) refl
