-- The open elements: how many, and how far they are glyph, outline, contour, point. Definitions only.
use Rattle.std.specs.Prelude.{ℕ, ◌-◌, Bool, true, false, not, eqb, ltb}
use Rattle.gliftext.specs.Pick.{pick, both, either, more}
use Rattle.glif.specs.declared.tree.Tree.{Tree}
use Rattle.gliftext.specs.Actions.{does}
use Rattle.gliftext.specs.declared.action.Action.{Action}
use Rattle.gliftext.specs.declared.action.Action.TheVariants.{Opens, Empty, Closes, Content, Section, TextReference}

abbrev pub no_tree : Tree
no_tree = record { depth = 0; level = 0; root = false; outline = false; wrong = false }

-- glyph, outline, contour, point
unfoldable pub path_word : ℕ → ℕ
path_word level =
    pick (eqb level 0) 444201529448
    (pick (eqb level 1) 31372865310387813
    (pick (eqb level 2) 27988542884902258 (pick (eqb level 3) 482905517684 0)))

-- whether an element of that name is the next on the path
unfoldable pub on_path : Tree → ℕ → Bool
on_path t word = both (eqb t.level t.depth) (eqb word (path_word t.level))

-- the root is one glyph; in a contour there are points alone, and in a point no element; there is one outline; at most 256 elements are open
abbrev pub wrong_entry : Tree → Bool → Bool
wrong_entry t on =
    either
    (either (both (eqb t.depth 0) (either t.root (not on))) (both (both (eqb t.level t.depth) (ltb 2 t.depth)) (not on)))
    (either (both (both on (eqb t.depth 1)) t.outline) (ltb 255 t.depth))

unfoldable pub entered : Tree → ℕ → Tree
entered t word =
    record {
      depth = more t.depth;
      level = pick (on_path t word) (more t.level) t.level;
      root = true;
      outline = either t.outline (both (on_path t word) (eqb t.depth 1));
      wrong = either t.wrong (wrong_entry t (on_path t word));
    }

unfoldable pub left : Tree → Tree
left t =
    record {
      depth = t.depth - 1;
      level = pick (ltb t.level (t.depth - 1)) t.level (t.depth - 1);
      root = t.root;
      outline = t.outline;
      wrong = either t.wrong (eqb t.depth 0);
    }

-- text that is not blank, references and sections: in the root, and in no contour and no point
unfoldable pub text_fits : Tree → Bool
text_fits t = both (ltb 0 t.depth) (not (both (eqb t.level t.depth) (ltb 2 t.depth)))

-- a tag opens an element, or is one
unfoldable pub opens_tag : Action → Bool
opens_tag action = either (does action Opens) (does action Empty)

-- an element opens, is empty, or closes
abbrev pub nested : Tree → Action → ℕ → Tree
nested t action word =
    pick (does action Opens) (entered t word)
    (pick (does action Empty) (left (entered t word)) (pick (does action Closes) (left t) t))

-- text stands there; `wrong` is what the names showed
unfoldable pub treed : Tree → Action → ℕ → Bool → Tree
treed t action word wrong =
    record {
      depth = (nested t action word).depth;
      level = (nested t action word).level;
      root = (nested t action word).root;
      outline = (nested t action word).outline;
      wrong =
          either (nested t action word).wrong
          (either wrong (both (either (does action Content) (either (does action Section) (does action TextReference))) (not (text_fits t))));
    }
