-- A line is cut at its line feed. Assumes nothing.
use Rattle.std.proofs.Common.{◌≡◌, ℕ, List, [], ◌∷◌, ◌++◌, sym, refl, ◌∙◌, subst, inl, inr}
use Rattle.input.specs.Lines.{NoLine, FirstLine, LastLine}

-- where no line ends, there is no first line
cut_none : (w rest : List ℕ) → NoLine (w ++ (0x0a ∷ rest)) → ⊥
cut_none [] rest n = n.0 refl
cut_none (c ∷ w) rest n = cut_none w rest n.1

pub no_first_line : (bytes w rest : List ℕ) → NoLine bytes → FirstLine bytes w rest → ⊥
no_first_line bytes w rest none f = cut_none w rest (subst NoLine f.whole none)

-- there is one first line
cut_once : (w w' rest rest' : List ℕ) → NoLine w → NoLine w' → w ++ (0x0a ∷ rest) ≡ w' ++ (0x0a ∷ rest') → (w ≡ w') × (rest ≡ rest')
cut_once [] [] rest rest' n n' e = (refl, cc)
cut_once [] (c ∷ w') rest rest' n n' e = let same : 0x0a ≡ c = cc in absurd (n'.0 (sym same))
cut_once (c ∷ w) [] rest rest' n n' e = let same : c ≡ 0x0a = cc in absurd (n.0 same)
cut_once (c ∷ w) (d ∷ w') rest rest' n n' e =
    let head : c ≡ d = cc in
    let tail : w ++ (0x0a ∷ rest) ≡ w' ++ (0x0a ∷ rest') = cc in
    let both = cut_once w w' rest rest' n.1 n'.1 tail in
    let first = both.0 in
    (cc, both.1)

pub first_line_once : (bytes w w' rest rest' : List ℕ) → FirstLine bytes w rest → FirstLine bytes w' rest' → (w ≡ w') × (rest ≡ rest')
first_line_once bytes w w' rest rest' f f' = cut_once w w' rest rest' f.unbroken f'.unbroken (sym f.whole ∙ f'.whole)

-- a last line with its line feed is a first line with nothing after it
ended : (bytes w : List ℕ) → bytes ≡ w ++ (0x0a ∷ []) → NoLine w → FirstLine bytes w []
ended bytes w e n = record { whole = e; unbroken = n }

pub last_line_once : (bytes w w' : List ℕ) → LastLine bytes w → LastLine bytes w' → w ≡ w'
last_line_once bytes w w' l l' =
    elim l.alone [
      | inl e ↦
          elim l'.alone [
            | inl e' ↦ sym e ∙ e'
            | inr e' ↦ absurd (no_first_line bytes w' [] (subst NoLine (sym e) l.unbroken) (ended bytes w' e' l'.unbroken))
          ]
      | inr e ↦
          elim l'.alone [
            | inl e' ↦ absurd (no_first_line bytes w [] (subst NoLine (sym e') l'.unbroken) (ended bytes w e l.unbroken))
            | inr e' ↦ (first_line_once bytes w w' [] [] (ended bytes w e l.unbroken) (ended bytes w' e' l'.unbroken)).0
          ]
    ]

-- more after the first line is no last line
pub no_last_line : (bytes w line rest : List ℕ) → FirstLine bytes line rest → (rest ≡ [] → ⊥) → LastLine bytes w → ⊥
no_last_line bytes w line rest f more l =
    elim l.alone [
      | inl e ↦ no_first_line bytes line rest (subst NoLine (sym e) l.unbroken) f
      | inr e ↦ more (first_line_once bytes line w rest [] f (ended bytes w e l.unbroken)).1
    ]
