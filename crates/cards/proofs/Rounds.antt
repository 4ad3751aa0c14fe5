-- The lines of a card, round after round. Assumes nothing.
--     entry r x       the line of round r with its three bytes x
--     entries r xs    the lines of the rounds from r on, with their bytes xs
use Rattle.std.proofs.Common.{◌≡◌, ℕ, suc, zero, ◌+◌, ◌*◌, ◌<◌, ◌≤◌, List, [], ◌∷◌, ◌++◌, length, get_or, take, sym, refl, ap, ◌∙◌, arith}
use Rattle.std.specs.Simd.{first_chunks}
use Rattle.std.proofs.lemmas.List.{append_assoc, append-nil, length-take, take_more}
use Rattle.cards.specs.Texts.{round_line, rounds}

abbrev pub entry : ℕ → List ℕ → List ℕ
entry r x = round_line r (get_or x 0 0) (get_or x 1 0) (get_or x 2 0)

abbrev pub entries : ℕ → List (List ℕ) → List ℕ
entries r [] = []
entries r (x ∷ xs) = entry r x ++ entries (r + 1) xs

entries_push : (r : ℕ) (xs : List (List ℕ)) (x : List ℕ) → entries r (xs ++ (x ∷ [])) ≡ entries r xs ++ entry (r + length xs) x
entries_push r [] x = append-nil (entry r x) ∙ ap (λ (k : ℕ). entry k x) (omega arith)
entries_push r (y ∷ xs) x =
    ap (λ (text : List ℕ). entry r y ++ text)
    (entries_push (r + 1) xs x ∙ ap (λ (k : ℕ). entries (r + 1) xs ++ entry k x) (omega arith))
    ∙ sym (append_assoc (entry r y) (entries (r + 1) xs) (entry (r + length (y ∷ xs)) x))

pub entries_more : (xs : List (List ℕ)) (i : ℕ) → i < length xs → entries 0 (take i xs) ++ entry i (get_or xs i []) ≡ entries 0 (take (i + 1) xs)
entries_more xs i h =
    let size : i ≡ 0 + length (take i xs) = omega (arith, length-take i xs) in
    ap (λ (k : ℕ). entries 0 (take i xs) ++ entry k (get_or xs i [])) size
    ∙ sym (entries_push 0 (take i xs) (get_or xs i []))
    ∙ ap (entries 0) (sym (take_more xs i [] h))

-- fewer than three bytes are no round
pub entries_all : (k r : ℕ) (bs : List ℕ) → 3 * k ≤ length bs → length bs < 3 * k + 3 → entries r (first_chunks 3 k bs) ≡ rounds r bs
entries_all zero r [] low high = refl
entries_all zero r (a ∷ []) low high = refl
entries_all zero r (a ∷ (v ∷ [])) low high = refl
entries_all zero r (a ∷ (v ∷ (o ∷ bs))) low high = absurd (omega arith)
entries_all (suc k) r [] low high = absurd (omega arith)
entries_all (suc k) r (a ∷ []) low high = absurd (omega arith)
entries_all (suc k) r (a ∷ (v ∷ [])) low high = absurd (omega arith)
entries_all (suc k) r (a ∷ (v ∷ (o ∷ bs))) low high =
    ap (λ (text : List ℕ). round_line r a v o ++ text) (entries_all k (r + 1) bs (omega arith) (omega arith))
