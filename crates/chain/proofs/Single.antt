-- One piece: the definitions, by what the code's tests have found. Assumes nothing.
use Rattle.std.specs.Prelude.{Option}
use mathlib.Core.Bool.{true, false, not, ◌&&◌, ◌||◌, and-true, not-not}
use mathlib.Core.Path.{◌≡◌, ap, ◌∙◌}
use Rattle.std.proofs.Math.Bool.{and_comm}
use lib.Ieee.{Float, ne, is_nan}
use Rattle.geometry.specs.Geometry.{is_line, is_whole}
use Rattle.geometry.specs.declared.Break.{Break}
use Rattle.geometry.specs.declared.Point.{Point}
use Rattle.geometry.specs.declared.Quad.{Quad}
use Rattle.chain.specs.Laws.{eq_self}
use Rattle.chain.specs.Valid.{drawn, straight, bent, follows_curve, valid_piece}

-- ---- equality
pub ne_self : (x : Float) → ne x x ≡ is_nan x
unfolding ne
ne_self x = ap not (eq_self x) ∙ not-not (is_nan x)

-- ---- a piece from break a to break b with the control c
module _ (before : Option Quad) (a b : Break) (c : Point) where
  pub from_whole : is_whole a.xy ≡ true → valid_piece before a b c ≡ (straight a b c || bent a b c)
  unfolding valid_piece
  from_whole w = rw w (and-true (straight a b c || bent a b c))

  pub from_half : is_whole a.xy ≡ false →
      valid_piece before a b c ≡ ((not (is_line (drawn a b c)) && follows_curve before (drawn a b c)) && bent a b c)
  unfolding valid_piece
  from_half w = rw w (and_comm (bent a b c) _)
