-- What follows the last coordinate is not looked at: each part is read of the same bytes, with more after them. Assumes nothing.
use Prim.Native.Nat.{ℕ, zero, suc}
use native.Mathlib.Omega.{arith}
use mathlib.Core.Bool.{Bool, true, false, false≢true}
use mathlib.Core.List.{List, [], ◌∷◌, ◌++◌}
use mathlib.Core.Path.{◌≡◌, refl, ap, ◌∙◌}
use lib.Dec.{ltb}
use lib.IntN.{pos, neg_ℤ}
use lib.ListN.{length, drop}
use Rattle.refusals.specs.declared.refusal.Refusal.TheVariants.{CutShort}
use Rattle.glyf.specs.Layout.{Glyph, Outcome, done, refused, Taken, taken, cut, next, byte, word, several, signed, bit, flagged, flags_of, difference_by, differences, Parts, count_of, parts_of, judged_parts, simple_only, headed, described}
use Rattle.glyf.specs.After.{AfterIsNotLookedAt, FilledRowSays}
use Rattle.glyf.proofs.Back.{written_read_back}

-- with more bytes left
abbrev more_after : {A : Type 0} → List ℕ → Taken A → Taken A
more_after more (taken a rest) = taken a (rest ++ more)
more_after more cut = cut

abbrev stands : {A : Type 0} → Taken A → Bool
stands (taken a rest) = true
stands cut = false

module _ (more : List ℕ) where
  -- a reader that gives the same of the bytes with more after them, and leaves more
  abbrev Same : {A : Type 0} → Taken A → Taken A → Type 0
  Same t t' = stands t ≡ true → t' ≡ more_after more t

  next_same : {A B : Type 0} (t t' : Taken A) (f : A → List ℕ → Taken B) → Same t t' → ((a : A) (rest : List ℕ) → Same (f a rest) (f a (rest ++ more))) → Same (next t f) (next t' f)
  next_same cut t' f e g h = absurd (false≢true h)
  next_same (taken a rest) t' f e g h = ap (λ (x : Taken _). next x f) (e refl) ∙ g a rest h

  byte_same : (bs : List ℕ) → Same (byte bs) (byte (bs ++ more))
  byte_same [] h = absurd (false≢true h)
  byte_same (b ∷ bs) h = refl

  word_same : (bs : List ℕ) → Same (word bs) (word (bs ++ more))
  word_same [] h = absurd (false≢true h)
  word_same (a ∷ []) h = absurd (false≢true h)
  word_same (a ∷ b ∷ bs) h = refl

  several_same : {A : Type 0} (one : List ℕ → Taken A) → ((bs : List ℕ) → Same (one bs) (one (bs ++ more))) → (n : ℕ) (bs : List ℕ) → Same (several one n bs) (several one n (bs ++ more))
  unfolding several
  several_same one e zero bs h = refl
  several_same one e (suc n) bs h =
      next_same (one bs) (one (bs ++ more)) (λ a rest. next (several one n rest) (λ values end. taken (a ∷ values) end)) (e bs)
      (λ a rest. next_same (several one n rest) (several one n (rest ++ more)) (λ values end. taken (a ∷ values) end) (several_same one e n rest) (λ values end g. refl)) h

  flagged_same : {A : Type 0} (t : Bool) (f : ℕ) (bs : List ℕ) (go : ℕ → List ℕ → Taken A) → ((due : ℕ) (rest : List ℕ) → Same (go due rest) (go due (rest ++ more))) →
      Same (flagged t f bs go) (flagged t f (bs ++ more) go)
  flagged_same false f bs go e = e 0 bs
  flagged_same true f bs go e = next_same (byte bs) (byte (bs ++ more)) go (byte_same bs) e

  flags_same : (n due f : ℕ) (bs : List ℕ) → Same (flags_of n due f bs) (flags_of n due f (bs ++ more))
  unfolding flags_of
  flags_same zero due f bs h = refl
  flags_same (suc n) (suc due) f bs h =
      next_same (flags_of n due f bs) (flags_of n due f (bs ++ more)) (λ fs end. taken (f ∷ fs) end) (flags_same n due f bs) (λ fs end g. refl) h
  flags_same (suc n) zero f [] h = absurd (false≢true h)
  flags_same (suc n) zero f (b ∷ bs) h =
      flagged_same (bit 8 b) b bs (λ due rest. next (flags_of n due b rest) (λ fs end. taken (b ∷ fs) end))
      (λ due rest. next_same (flags_of n due b rest) (flags_of n due b (rest ++ more)) (λ fs end. taken (b ∷ fs) end) (flags_same n due b rest) (λ fs end g. refl)) h

  difference_same : (short same : Bool) (bs : List ℕ) → Same (difference_by short same bs) (difference_by short same (bs ++ more))
  difference_same true true bs = next_same (byte bs) (byte (bs ++ more)) (λ b rest. taken (pos b) rest) (byte_same bs) (λ b rest g. refl)
  difference_same true false bs = next_same (byte bs) (byte (bs ++ more)) (λ b rest. taken (neg_ℤ (pos b)) rest) (byte_same bs) (λ b rest g. refl)
  difference_same false true bs = λ h. refl
  difference_same false false bs = next_same (word bs) (word (bs ++ more)) (λ v rest. taken (signed v) rest) (word_same bs) (λ v rest g. refl)

  differences_same : (short same : ℕ) (fs bs : List ℕ) → Same (differences short same fs bs) (differences short same fs (bs ++ more))
  unfolding differences
  differences_same short same [] bs h = refl
  differences_same short same (f ∷ fs) bs h =
      next_same (difference_by (bit short f) (bit same f) bs) (difference_by (bit short f) (bit same f) (bs ++ more))
      (λ d rest. next (differences short same fs rest) (λ ds end. taken (d ∷ ds) end)) (difference_same (bit short f) (bit same f) bs)
      (λ d rest. next_same (differences short same fs rest) (differences short same fs (rest ++ more)) (λ ds end. taken (d ∷ ds) end) (differences_same short same fs rest) (λ ds end g. refl)) h

  parts_same : (n : ℕ) (bs : List ℕ) → Same (parts_of n bs) (parts_of n (bs ++ more))
  unfolding parts_of
  parts_same n bs =
      next_same (several byte 8 bs) _ _ (several_same byte byte_same 8 bs) (λ box b₁.
      next_same (several word n b₁) _ _ (several_same word word_same n b₁) (λ es b₂.
      next_same (word b₂) _ _ (word_same b₂) (λ size b₃.
      next_same (several byte size b₃) _ _ (several_same byte byte_same size b₃) (λ is b₄.
      next_same (flags_of (count_of es) 0 0 b₄) _ _ (flags_same (count_of es) 0 0 b₄) (λ fs b₅.
      next_same (differences 2 16 fs b₅) _ _ (differences_same 2 16 fs b₅) (λ dxs b₆.
      next_same (differences 4 32 fs b₆) _ _ (differences_same 4 32 fs b₆) (λ dys b₇ g. refl)))))))

  judged_same : (t t' : Taken Parts) → Same t t' → (judged_parts t ≡ refused CutShort → ⊥) → judged_parts t' ≡ judged_parts t
  judged_same cut t' e n = absurd (n refl)
  judged_same (taken p rest) t' e n = ap judged_parts (e refl)

  simple_same : (b : Bool) (n : ℕ) (bs : List ℕ) → (simple_only b n bs ≡ refused CutShort → ⊥) → simple_only b n (bs ++ more) ≡ simple_only b n bs
  simple_same true n bs h = judged_same (parts_of n bs) (parts_of n (bs ++ more)) (parts_same n bs) h
  simple_same false n bs h = refl

  headed_same : (t t' : Taken ℕ) → Same t t' → (headed t ≡ refused CutShort → ⊥) → headed t' ≡ headed t
  headed_same cut t' e h = absurd (h refl)
  headed_same (taken n bs) t' e h = ap headed (e refl) ∙ simple_same (ltb n 32768) n bs h

pub after_is_not_looked_at : AfterIsNotLookedAt
unfolding described
after_is_not_looked_at bytes more h = headed_same more (word bytes) (word (bytes ++ more)) (word_same more bytes) h

-- ---- the row that a glyph was written into

done_not : {o : Outcome Glyph} {g : Glyph} → o ≡ done g → o ≡ refused CutShort → ⊥
done_not e h = let z : ◌≡◌ {A = ℕ} 0 1 = cc in omega arith

pub filled_row_says : FilledRowSays
filled_row_says room g bytes row held e =
    let says = written_read_back room g bytes held e in
    after_is_not_looked_at bytes (drop (length bytes) row) (done_not says) ∙ says
