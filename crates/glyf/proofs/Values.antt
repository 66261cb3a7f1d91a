-- Descriptions as fontTools 4.38 writes them, read by the layout: worked values, by computation. A layout with other bits reads them otherwise. Assumes nothing.
use mathlib.Core.List.{[], ◌∷◌}
use mathlib.Core.Path.{◌≡◌, refl}
use lib.IntN.{pos, negsuc}
use Rattle.glyf.specs.Layout.{glyph, done, several, flags_of, differences, count_of, parts_of, sums, all16, rising, described}

-- two contours and two instruction bytes. The flags: 0x31, the same x and y; 0x3b with a repeat of 2, a short x upward and the same y; 0x11, the same x and a word for
-- y; 0x04, a word for x and a short y downward; 0x15, the same x and a short y downward
two_contours : described (
    0 ∷ 2 ∷ 254 ∷ 212 ∷ 0 ∷ 0 ∷ 0 ∷ 30 ∷ 2 ∷ 188 ∷ 0 ∷ 3 ∷ 0 ∷ 6 ∷ 0 ∷ 2 ∷ 176 ∷ 7 ∷
    0x31 ∷ 0x3b ∷ 2 ∷ 0x11 ∷ 0x04 ∷ 0x15 ∷ 10 ∷ 10 ∷ 10 ∷ 254 ∷ 182 ∷ 2 ∷ 188 ∷ 5 ∷ 95 ∷ []) ≡
    done (glyph (3 ∷ 6 ∷ []) (pos 0 ∷ pos 10 ∷ pos 20 ∷ pos 30 ∷ pos 30 ∷ negsuc 299 ∷ negsuc 299 ∷ []) (pos 0 ∷ pos 0 ∷ pos 0 ∷ pos 0 ∷ pos 700 ∷ pos 695 ∷ pos 600 ∷ [])
    (1 ∷ 1 ∷ 1 ∷ 1 ∷ 1 ∷ 0 ∷ 1 ∷ []) (176 ∷ 7 ∷ []))
unfolding described parts_of several flags_of differences count_of sums all16 rising
two_contours = refl

-- one contour, and no instruction: short x and y upward, and downward
short_both_ways : described (0 ∷ 1 ∷ 0 ∷ 5 ∷ 0 ∷ 5 ∷ 0 ∷ 105 ∷ 0 ∷ 205 ∷ 0 ∷ 2 ∷ 0 ∷ 0 ∷ 0x37 ∷ 0x36 ∷ 0x07 ∷ 5 ∷ 100 ∷ 100 ∷ 5 ∷ 200 ∷ 200 ∷ []) ≡
    done (glyph (2 ∷ []) (pos 5 ∷ pos 105 ∷ pos 5 ∷ []) (pos 5 ∷ pos 205 ∷ pos 5 ∷ []) (1 ∷ 0 ∷ 1 ∷ []) [])
unfolding described parts_of several flags_of differences count_of sums all16 rising
short_both_ways = refl
