-- The output while the input comes in chunks: a line that ends, a chunk that ends within a line, the last line. Assumes nothing.
use Rattle.std.proofs.Common.{ℕ, suc, ◌+◌, ◌≤◌, ◌<◌, min, Bool, true, false, List, [], ◌∷◌, ◌++◌, append_assoc, append-nil, ◌≡◌, refl, sym, ap, subst, ◌∙◌, arith, leb-true, leb-false, ltb-true, ltb-false, leb, ltb, length, take, drop, length-drop, length-append, drop_of_length-le, drop-drop, take_all, length-take-le}
use Rattle.std.proofs.Math.Seq.{drop-length, take-append-le, length-sets}
use Rattle.words.specs.declared.Order.{Order}
use Rattle.lines.specs.Line.{up_to}
use Rattle.lines.specs.Text.{Put}
use Rattle.lines.specs.Stream.{lines_of, fed_if, Feeds}
use Rattle.lines.specs.declared.stream.Fed.TheVariants.{Line, Part}
use Rattle.lines.proofs.Parts.{next_part, no_part, none_in, none_in_front, under_way, whole_part, keeps}
use Rattle.lines.proofs.Texts.{nothing, joined}
use Rattle.lines.proofs.Theorems.{cut}
use Rattle.answering.specs.Answer.{parsed_text, line_text}
use Rattle.fontcrunch_cli.specs.Output.{answers_to, output_of}
use Rattle.fontcrunch_cli.specs.Stream.{Owes, Keeps, Reaches}

-- ---- what is owed

pub owes_same : (s : Order) (bytes : List ℕ) → Owes s bytes [] bytes
owes_same s bytes = record { owes = λ rest. refl }

pub owes_then : {s : Order} {a done b done' c : List ℕ} → Owes s a done b → Owes s b done' c → Owes s a (done ++ done') c
owes_then {s} {done = done} {done' = done'} {c = c} p q = record {
  owes = λ rest. p.owes rest ∙ ap (λ (l : List ℕ). done ++ l) (q.owes rest) ∙ sym (append_assoc done done' (output_of s (c ++ rest)));
}

-- ---- a line cut where the buffer ended

pub cut_text : (s : Order) (line : List ℕ) → line_text s (take 65537 line) ≡ line_text s line
unfolding line_text
cut_text s line = ap (parsed_text s) (cut line)

-- the same first bytes, as many as the buffer has
same_front : (s : Order) (k l : List ℕ) → take 65537 k ≡ take 65537 l → line_text s k ≡ line_text s l
same_front s k l e = sym (cut_text s k) ∙ ap (line_text s) e ∙ cut_text s l

module _ (s : Order) (k : List ℕ) (clean : up_to 10 k ≡ k) where
  cut_owed : (rest : List ℕ) → output_of s (k ++ rest) ≡ output_of s (take 65537 k ++ rest)
  unfolding output_of answers_to
  cut_owed rest = by (leb (length k) 65537) refl
    where
      by : (t : Bool) → leb (length k) 65537 ≡ t → output_of s (k ++ rest) ≡ output_of s (take 65537 k ++ rest)
      by true e = ap (λ (l : List ℕ). output_of s (l ++ rest)) (sym (take_all 65537 k (leb-true (length k) 65537 e)))
      by false e =
          let long : 65537 < length k = leb-false (length k) 65537 e in
          let held : length (take 65537 k) ≡ 65537 = length-take-le 65537 k (omega arith) in
          let some : 0 < length (k ++ rest) = simp length-append (omega arith) in
          let some' : 0 < length (take 65537 k ++ rest) = simp length-append (omega arith) in
          let u : List ℕ = up_to 10 rest in
          let front : take 65537 (k ++ u) ≡ take 65537 (take 65537 k ++ u) =
          take-append-le 65537 k u (omega arith) ∙ sym (take_all 65537 (take 65537 k) (omega arith))
          ∙ sym (take-append-le 65537 (take 65537 k) u (omega arith)) in
          ap (answers_to s) (under_way 10 k clean rest some)
          ∙ ap (λ (text : List ℕ). (text ++ (10 ∷ [])) ++ answers_to s (lines_of (drop (suc (length u)) rest))) (same_front s (k ++ u) (take 65537 k ++ u) front)
          ∙ sym (ap (answers_to s) (under_way 10 (take 65537 k) (none_in_front 10 65537 k clean) rest some'))

-- ---- what was fed

module _ {line line' : List ℕ} {used kept : ℕ} (x : List ℕ) (k : Keeps line used) (p : Put line used x line' kept) where
  fed_long : length line' ≡ 65537
  fed_long = ap length p.held ∙ length-sets line used x ∙ k.long

  fed_inside : kept ≤ length line'
  fed_inside = omega (arith, p.next, fed_long, k.long)

  -- the first bytes of the buffer are those of the line so far, as many as there is room for
  fed_front : take kept line' ≡ take 65537 (take used line ++ x)
  fed_front =
      ap (λ (n : ℕ). take n line') p.next ∙ ap (take (min (used + length x) (length line))) p.held
      ∙ keeps line x used k.inside ∙ ap (λ (n : ℕ). take n (take used line ++ x)) k.long

-- ---- a turn

-- before anything is taken
pub begin : (s : Order) (text : List ℕ) {line : List ℕ} {used : ℕ} (chunk : List ℕ) {first : ℕ} → Keeps line used → first ≤ length chunk →
    Reaches s text line used chunk first text line used 0 first
begin s text {line} {used} chunk {first} k inside = record {
  done = [];
  puts = nothing text 0 (omega arith);
  keeps = k;
  inside = inside;
  owes = owes_same s (take used line ++ drop first chunk);
}

-- what goes on with the line under way
abbrev coming : List ℕ → ℕ → List ℕ
coming chunk i = up_to 10 (drop i chunk)

empty_front : (line : List ℕ) → up_to 10 (take 0 line) ≡ take 0 line
unfolding up_to
empty_front line = refl

-- no line under way yet
pub fresh : (line : List ℕ) → length line ≡ 65537 → Keeps line 0
fresh line long = record { long = long; inside = omega arith; under_way = empty_front line }

module _ (s : Order) (chunk : List ℕ) {line : List ℕ} {used : ℕ} (i : ℕ) (k : Keeps line used) where
  -- the chunk has a line end
  whole_owes : i + length (coming chunk i) < length chunk →
      Owes s (take used line ++ drop i chunk) (line_text s (take used line ++ coming chunk i) ++ (10 ∷ [])) (drop (i + length (coming chunk i) + 1) chunk)
  unfolding output_of answers_to
  whole_owes h =
      let m : ℕ = length (coming chunk i) in
      let more : m < length (drop i chunk) = simp length-drop (omega arith) in
      let n : i + suc m ≡ i + m + 1 = omega arith in
      let left : drop (suc m) (drop i chunk) ≡ drop (i + m + 1) chunk = drop-drop (suc m) i chunk ∙ ap (λ (j : ℕ). drop j chunk) n in
      record {
        owes = λ rest.
            ap (answers_to s) (whole_part 10 (take used line) k.under_way (drop i chunk) rest more)
            ∙ ap (λ (l : List ℕ). (line_text s (take used line ++ coming chunk i) ++ (10 ∷ [])) ++ answers_to s (lines_of (l ++ rest))) left;
      }

  -- it has none
  module _ (none : length chunk ≤ i + length (coming chunk i)) where
    no_end : up_to 10 (take used line ++ drop i chunk) ≡ take used line ++ drop i chunk
    no_end = none_in 10 (take used line) (drop i chunk) k.under_way (simp length-drop (omega arith))

    all_comes : coming chunk i ≡ drop i chunk
    all_comes = none_in 10 [] (drop i chunk) (empty_front []) (simp length-drop (omega arith))

    part_owes : Owes s (take used line ++ drop i chunk) [] (take 65537 (take used line ++ coming chunk i))
    part_owes = record {
      owes = λ rest.
          cut_owed s (take used line ++ drop i chunk) no_end rest
          ∙ ap (λ (l : List ℕ). output_of s (take 65537 (take used line ++ l) ++ rest)) (sym all_comes);
    }

    part_clean : up_to 10 (take 65537 (take used line ++ coming chunk i)) ≡ take 65537 (take used line ++ coming chunk i)
    part_clean =
        subst (λ (l : List ℕ). up_to 10 (take 65537 (take used line ++ l)) ≡ take 65537 (take used line ++ l)) (sym all_comes)
        (none_in_front 10 65537 (take used line ++ drop i chunk) no_end)

module _ {s : Order} {text₀ line₀ : List ℕ} {used₀ : ℕ} (chunk : List ℕ) {first : ℕ} {text line line' : List ℕ} {used at i : ℕ}
    (g : Reaches s text₀ line₀ used₀ chunk first text line used at i) where
  -- a line that ended, with its answer
  pub line_ended : {n next : ℕ} → Feeds line used chunk i line' (Line n next) → {text' : List ℕ} {at' : ℕ} →
      Put text at (line_text s (take n line') ++ (10 ∷ [])) text' at' → Reaches s text₀ line₀ used₀ chunk first text' line' 0 at' next
  line_ended {n} {next} f {text'} {at'} p = by (ltb (i + length (coming chunk i)) (length chunk)) refl f.tells
    where
      by : (t : Bool) → ltb (i + length (coming chunk i)) (length chunk) ≡ t → Line n next ≡ fed_if t f.kept (i + length (coming chunk i)) →
          Reaches s text₀ line₀ used₀ chunk first text' line' 0 at' next
      by false e told = let z : ◌≡◌ {A = ℕ} 0 1 = cc in absurd (omega arith)
      by true e told =
          let h = ltb-true (i + length (coming chunk i)) (length chunk) e in
          let same : n ≡ f.kept = cc in
          let after : next ≡ i + length (coming chunk i) + 1 = cc in
          let said : line_text s (take n line') ≡ line_text s (take used line ++ coming chunk i) =
          ap (λ (m : ℕ). line_text s (take m line')) same ∙ ap (line_text s) (fed_front (coming chunk i) g.keeps f.puts)
          ∙ cut_text s (take used line ++ coming chunk i) in
          let long : length line' ≡ 65537 = fed_long (coming chunk i) g.keeps f.puts in
          let owed : Owes s (take used line ++ drop i chunk) (line_text s (take n line') ++ (10 ∷ [])) (drop next chunk) =
          rw (said, after) (whole_owes s chunk i g.keeps h) in
          record {
            done = g.done ++ (line_text s (take n line') ++ (10 ∷ []));
            puts = joined g.puts p;
            keeps = record { long = long; inside = omega arith; under_way = empty_front line' };
            inside = omega arith;
            owes = owes_then g.owes owed;
          }

  -- the chunk ended within a line
  pub part_kept : {n : ℕ} → Feeds line used chunk i line' (Part n) → Reaches s text₀ line₀ used₀ chunk first text line' n at (length chunk)
  part_kept {n} f = by (ltb (i + length (coming chunk i)) (length chunk)) refl f.tells
    where
      by : (t : Bool) → ltb (i + length (coming chunk i)) (length chunk) ≡ t → Part n ≡ fed_if t f.kept (i + length (coming chunk i)) →
          Reaches s text₀ line₀ used₀ chunk first text line' n at (length chunk)
      by true e told = let z : ◌≡◌ {A = ℕ} 0 1 = cc in absurd (omega arith)
      by false e told =
          let none = ltb-false (i + length (coming chunk i)) (length chunk) e in
          let same : n ≡ f.kept = cc in
          let front : take n line' ≡ take 65537 (take used line ++ coming chunk i) =
          ap (λ (m : ℕ). take m line') same ∙ fed_front (coming chunk i) g.keeps f.puts in
          let long : length line' ≡ 65537 = fed_long (coming chunk i) g.keeps f.puts in
          let inside : f.kept ≤ length line' = fed_inside (coming chunk i) g.keeps f.puts in
          let left : take n line' ++ drop (length chunk) chunk ≡ take 65537 (take used line ++ coming chunk i) =
          ap (λ (l : List ℕ). take n line' ++ l) (drop-length chunk) ∙ append-nil (take n line') ∙ front in
          let owed : Owes s (take used line ++ drop i chunk) [] (take n line' ++ drop (length chunk) chunk) = rw left (part_owes s chunk i g.keeps none) in
          record {
            done = g.done;
            puts = g.puts;
            keeps = record { long = long; inside = omega arith; under_way = rw front (part_clean s chunk i g.keeps none) };
            inside = omega arith;
            owes = subst (λ (d : List ℕ). Owes s (take used₀ line₀ ++ drop first chunk) d (take n line' ++ drop (length chunk) chunk))
                (append-nil g.done) (owes_then g.owes owed);
          }

-- ---- a chunk

-- so far of a chunk: some output is that for the lines that ended
pub record Gone (s : Order) (line₀ : List ℕ) (used₀ : ℕ) (chunk line : List ℕ) (used i : ℕ) : Type 0 where
  pub done : List ℕ
  pub keeps : Keeps line used
  pub inside : i ≤ length chunk
  pub owes : Owes s (take used₀ line₀ ++ chunk) done (take used line ++ drop i chunk)

pub gone_none : (s : Order) {line : List ℕ} {used : ℕ} (chunk : List ℕ) → Keeps line used → Gone s line used chunk line used 0
gone_none s {line} {used} chunk k = record { done = []; keeps = k; inside = omega arith; owes = owes_same s (take used line ++ chunk) }

module _ {s : Order} {line₀ : List ℕ} {used₀ : ℕ} (chunk : List ℕ) {line : List ℕ} {used i : ℕ} (g : Gone s line₀ used₀ chunk line used i) where
  pub gone_more : {text text' line' : List ℕ} {used' at i' : ℕ} →
      Reaches s text line used chunk i text' line' used' at i' → Gone s line₀ used₀ chunk line' used' i'
  gone_more r = record { done = g.done ++ r.done; keeps = r.keeps; inside = r.inside; owes = owes_then g.owes r.owes }

  pub gone_all : length chunk ≤ i → Owes s (take used₀ line₀ ++ chunk) g.done (take used line)
  gone_all past =
      let left : take used line ++ drop i chunk ≡ take used line =
      ap (λ (l : List ℕ). take used line ++ l) (drop_of_length-le chunk past) ∙ append-nil (take used line) in
      subst (Owes s (take used₀ line₀ ++ chunk) g.done) left g.owes

-- ---- the last line

no_output : (s : Order) → output_of s [] ≡ []
unfolding output_of answers_to
no_output s = ap (answers_to s) (no_part 10)

pub none_last : (s : Order) (text line : List ℕ) {used : ℕ} → used ≡ 0 → Put text 0 (output_of s (take used line)) text 0
none_last s text line {used} e =
    subst (λ (done : List ℕ). Put text 0 done text 0) (sym (ap (λ (n : ℕ). output_of s (take n line)) e ∙ no_output s)) (nothing text 0 (omega arith))

-- a line under way that is not empty
last_output : (s : Order) (k : List ℕ) → 0 < length k → up_to 10 k ≡ k → output_of s k ≡ line_text s k ++ (10 ∷ [])
unfolding output_of answers_to
last_output s k some clean =
    let past : length k ≤ suc (length k) = omega arith in
    ap (answers_to s)
    (next_part 10 k some ∙ ap (λ (l : List ℕ). l ∷ lines_of (drop (suc (length l)) k)) clean
    ∙ ap (λ (l : List ℕ). k ∷ lines_of l) (drop_of_length-le k past) ∙ ap (λ (l : List (List ℕ)). k ∷ l) (no_part 10))
    ∙ append-nil (line_text s k ++ (10 ∷ []))

pub one_last : (s : Order) {text line text' : List ℕ} {used r : ℕ} → (used ≡ 0 → ⊥) → Keeps line used →
    Put text 0 (line_text s (take used line) ++ (10 ∷ [])) text' r →
    Put text 0 (output_of s (take used line)) text' r
one_last s {text} {line} {text'} {used} {r} some k p =
    let size : length (take used line) ≡ used = length-take-le used line k.inside in
    let more : 0 < length (take used line) = omega (arith, some) in
    subst (λ (done : List ℕ). Put text 0 done text' r) (sym (last_output s (take used line) more k.under_way)) p
