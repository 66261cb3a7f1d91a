-- What was read of a line, as the answer to it. The rows hold all its points or 1,025, and so many are refused as more would be. Assumes nothing.
use Rattle.std.proofs.Common.{ℕ, ◌+◌, ◌≤◌, ◌<◌, min, Bool, true, false, List, ◌++◌, map, Option, Some, None, ◌≡◌, refl, sym, ap, subst, ◌∙◌, arith, zero-add, ltb-true, ltb-false, ltb, ℤ, length, take, drop, take_at, length-take-le}
use Rattle.std.proofs.Math.ListN.{length-map}
use Rattle.std.proofs.Math.Seq.{sets, sets-eq}
use Rattle.words.specs.declared.Order.{Order}
use Rattle.crunch.specs.Laws.{many_refused}
use Rattle.lines.specs.Text.{Put}
use Rattle.lines.specs.Line.{parsed_of, laid, Leaves}
use Rattle.lines.specs.declared.line.Point.{Point}
use Rattle.lines.specs.Answer.{refused_text}
use Rattle.edition.specs.Scratch.{full_rooms}
use Rattle.answering.specs.Answer.{fallen_text, outcome_text, answer_text, malformed_word, parsed_text, line_text, places_for}
use Rattle.answering.proofs.Bytes.{many, line_bytes}

many_text : (s : Order) (xs ys : List ℤ) (fs : List ℕ) {n : ℕ} → length xs ≡ n → length ys ≡ n → length fs ≡ n → 1024 < n →
    answer_text s xs ys fs ≡ refused_text 3 ++ fallen_text s.told 0
unfolding answer_text
many_text s xs ys fs lx ly lf many = ap (outcome_text s.told) (many_refused xs ys fs lx ly lf many full_rooms 16384 s.settings)

-- the points that were stored, where they are no more than the places
read_back : {A : Type 0} (vs row : List A) {m : ℕ} → length vs ≡ m → m ≤ length row → take m (sets row 0 vs) ≡ vs
read_back vs row {m} e h =
    ap (take m) (sets-eq vs row 0 (omega arith)) ∙ take_at vs (drop (0 + length vs) row) m e

abbrev xs_of : List Point → List ℤ
xs_of ps = map (λ (p : Point). p.x) ps

abbrev ys_of : List Point → List ℤ
ys_of ps = map (λ (p : Point). p.y) ps

abbrev flags_of : List Point → List ℕ
flags_of ps = map (λ (p : Point). p.flag) ps

-- rows that are lent to be read into, and what stands in them after
module _ (rx ry : List ℤ) (rf : List ℕ) (xs ys : List ℤ) (fs : List ℕ) where
  stored_text : (s : Order) (ps : List Point) {m : ℕ} → m ≡ min (length ps) 1025 → m ≤ length rx → m ≤ length ry → m ≤ length rf → m ≤ length xs → m ≤ length ys → m ≤ length fs →
      xs ≡ sets rx 0 (xs_of ps) → ys ≡ sets ry 0 (ys_of ps) → fs ≡ sets rf 0 (flags_of ps) →
      answer_text s (take m xs) (take m ys) (take m fs) ≡ answer_text s (xs_of ps) (ys_of ps) (flags_of ps)
  stored_text s ps {m} least hx hy hf lx ly lf ex ey ef = by (ltb 1025 (length ps)) refl
    where
      by : (b : Bool) → ltb 1025 (length ps) ≡ b → answer_text s (take m xs) (take m ys) (take m fs) ≡ answer_text s (xs_of ps) (ys_of ps) (flags_of ps)
      by true t =
          let more : 1025 < length ps = ltb-true 1025 (length ps) t in
          many_text s (take m xs) (take m ys) (take m fs) (length-take-le m xs lx) (length-take-le m ys ly) (length-take-le m fs lf) (omega arith)
          ∙ sym (many_text s (xs_of ps) (ys_of ps) (flags_of ps) (length-map ps (λ (p : Point). p.x)) (length-map ps (λ (p : Point). p.y)) (length-map ps (λ (p : Point). p.flag)) (omega arith))
      by false t =
          let few : length ps ≤ 1025 = ltb-false 1025 (length ps) t in
          let all : length ps ≡ m = omega arith in
          ap (λ (l : List ℤ). answer_text s l (take m ys) (take m fs)) (ap (take m) ex ∙ read_back (xs_of ps) rx (length-map ps (λ (p : Point). p.x) ∙ all) hx)
          ∙ ap (λ (l : List ℤ). answer_text s (xs_of ps) l (take m fs)) (ap (take m) ey ∙ read_back (ys_of ps) ry (length-map ps (λ (p : Point). p.y) ∙ all) hy)
          ∙ ap (λ (l : List ℕ). answer_text s (xs_of ps) (ys_of ps) l) (ap (take m) ef ∙ read_back (flags_of ps) rf (length-map ps (λ (p : Point). p.flag) ∙ all) hf)

  module _ {r : Option ℕ} where
    counted : (o : Option (List Point)) {n : ℕ} → Leaves (laid o 0 rx ry rf) r xs ys fs → r ≡ Some n → n ≡ many o
    unfolding laid
    counted (Some ps) {n} (count-told, ex, ey, ef) e =
        let count : n ≡ 0 + length ps = cc in
        count ∙ zero-add (length ps)
    counted None none_told e = let z : ◌≡◌ {A = ℕ} 0 1 = cc in absurd (omega arith)

    -- so many places are looked at
    pub in_places : (line : List ℕ) (n : ℕ) {m : ℕ} → Leaves (laid (parsed_of line) 0 rx ry rf) r xs ys fs → r ≡ Some n → m ≡ min n 1025 → m ≤ places_for line
    in_places line n leaves e least = omega (arith, counted (parsed_of line) leaves e, line_bytes line)

    module _ (s : Order) where
      points_text_lem : (o : Option (List Point)) (n : ℕ) {m : ℕ} → Leaves (laid o 0 rx ry rf) r xs ys fs → r ≡ Some n → m ≡ min n 1025 →
          m ≤ length rx → m ≤ length ry → m ≤ length rf → m ≤ length xs → m ≤ length ys → m ≤ length fs →
          answer_text s (take m xs) (take m ys) (take m fs) ≡ parsed_text s o
      unfolding laid
      points_text_lem (Some ps) n (count-told, ex, ey, ef) e least hx hy hf lx ly lf =
          stored_text s ps (least ∙ ap (λ (k : ℕ). min k 1025) (counted (Some ps) (count-told, ex, ey, ef) e)) hx hy hf lx ly lf ex ey ef
      points_text_lem None n none_told e least hx hy hf lx ly lf = let z : ◌≡◌ {A = ℕ} 0 1 = cc in absurd (omega arith)

      malformed_text : (o : Option (List Point)) → Leaves (laid o 0 rx ry rf) r xs ys fs → r ≡ None → malformed_word ≡ parsed_text s o
      unfolding laid
      malformed_text (Some ps) (count-told, ex, ey, ef) e = let z : ◌≡◌ {A = ℕ} 0 1 = cc in absurd (omega arith)
      malformed_text None none_told e = refl

      module _ (line : List ℕ) (leaves : Leaves (laid (parsed_of line) 0 rx ry rf) r xs ys fs) {out out' : List ℕ} {at q : ℕ} where
        pub says_malformed : r ≡ None → Put out at malformed_word out' q → Put out at (line_text s line) out' q
        unfolding line_text
        says_malformed e p = subst (λ (text : List ℕ). Put out at text out' q) (malformed_text (parsed_of line) leaves e) p

        pub says_points : (n : ℕ) {m : ℕ} → (places_for line ≤ length rx) × (places_for line ≤ length ry) × (places_for line ≤ length rf) →
            length xs ≡ length rx → length ys ≡ length ry → length fs ≡ length rf → r ≡ Some n → m ≡ min n 1025 →
            Put out at (answer_text s (take m xs) (take m ys) (take m fs)) out' q → Put out at (line_text s line) out' q
        unfolding line_text
        says_points n {m} enough lx ly lf e least p =
            let few : m ≤ places_for line = in_places line n leaves e least in
            subst (λ (text : List ℕ). Put out at text out' q)
            (points_text_lem (parsed_of line) n leaves e least (omega arith) (omega arith) (omega arith) (omega arith) (omega arith) (omega arith)) p
