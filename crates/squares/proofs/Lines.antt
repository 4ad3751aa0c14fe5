-- A card, line after line, in the caller's place. Assumes nothing.
use Rattle.std.proofs.Common.{◌≡◌, ℕ, zero, suc, ◌+◌, ◌-◌, ◌*◌, ◌<◌, ◌≤◌, List, ◌∷◌, ◌++◌, length, get_or, drop, sym, refl, ap, ◌∙◌, add-zero, zero-add, arith}
use Rattle.std.proofs.lemmas.List.{append_assoc, drop-drop, take_at, drop_at, get_or-append_right}
use borrow.Rule.Slice.PartMut.{put_mid}
use Rattle.groups.specs.Tables.{Table, Laws}
use Rattle.starters.specs.Starters.{Strong}
use Rattle.starters.specs.declared.pair.Pair.{Pair}
use Rattle.squares.specs.Cards.{line, lines, card, Line}
use Rattle.squares.proofs.Rounds.{line_is, line_as}
use Rattle.squares.proofs.RoomSquares.{line_of}

module _ (g : Table) (ps : List Pair) (u : ℕ) where
  pub length-lines : (r k : ℕ) → length (lines g ps u r k) ≡ 3 * k
  length-lines r zero = refl
  length-lines r (suc k) = omega (arith, length-lines (r + 1) k)

  -- the lines of j rounds, and then those of k rounds
  lines_split : (r j k : ℕ) → lines g ps u r (j + k) ≡ lines g ps u r j ++ lines g ps u (r + j) k
  lines_split r zero k = simp (zero-add, add-zero)
  lines_split r (suc j) k =
      let more : suc j + k ≡ suc (j + k) = omega arith in
      let from : r + 1 + j ≡ r + suc j = omega arith in
      rw (more, lines_split (r + 1) j k, from) (sym (append_assoc (line g ps u r) (lines g ps u (r + 1) j) (lines g ps u (r + suc j) k)))

  -- what the place holds once the rounds below r are written: their lines, and then what it held before
  abbrev pub written : List ℕ → ℕ → List ℕ
  written before r = lines g ps u 0 r ++ drop (3 * r) before

  -- the bytes of one round more
  pub one_round_more : (before : List ℕ) (r k : ℕ) (now bytes : List ℕ) → k ≡ 3 → now ≡ written before r → bytes ≡ line g ps u r
      → put_mid (3 * r) k now bytes ≡ written before (r + 1)
  one_round_more before r k now bytes size so_far is =
      let front = length-lines 0 r in
      let more : lines g ps u 0 (r + 1) ≡ lines g ps u 0 r ++ line g ps u r = lines_split 0 r 1 ∙ simp zero-add in
      let rest : drop 3 (drop (3 * r) before) ≡ drop (3 * (r + 1)) before = drop-drop 3 (3 * r) before ∙ ap (λ (i : ℕ). drop i before) (omega arith) in
      rw (size, so_far, is, take_at (lines g ps u 0 r) (drop (3 * r) before) (3 * r) front, drop_at (lines g ps u 0 r) (drop (3 * r) before) (3 * r) front, rest, more)
      (sym (append_assoc (lines g ps u 0 r) (line g ps u r) (drop (3 * (r + 1)) before)))

  -- the three bytes of a round on the card say its line
  pub lined : (l : Laws g) (s : Strong g ps) (rest : List ℕ) (r : ℕ) → r < g.order → u ≤ g.order
      → let xs : List ℕ = card g ps u ++ rest in Line g ps u r (get_or xs (3 * r) 0) (get_or xs (3 * r + 1) 0) (get_or xs (3 * r + 2) 0)
  lined l s rest r hr hu =
      let (a, (v, (o, m))) = line_of g l ps s r u hr hu in
      let k : ℕ = g.order - (r + 1) in
      let front : List ℕ = lines g ps u 0 r in
      let long = length-lines 0 r in
      let here : List ℕ = a ∷ (v ∷ (o ∷ (lines g ps u (r + 1) k ++ rest))) in
      let split : card g ps u ++ rest ≡ front ++ here =
      ap (λ (n : ℕ). lines g ps u 0 n ++ rest) (omega arith)
      ∙ ap (λ (xs : List ℕ). xs ++ rest) (lines_split 0 r (suc k) ∙ ap (λ (q : ℕ). front ++ lines g ps u q (suc k)) (zero-add r))
      ∙ ap (λ (xs : List ℕ). (front ++ (xs ++ lines g ps u (r + 1) k)) ++ rest) (line_is g l ps s r hr u a v o m)
      ∙ append_assoc front (a ∷ (v ∷ (o ∷ lines g ps u (r + 1) k))) rest in
      let byte : (i j : ℕ) → j ≡ 3 * r + i → get_or (card g ps u ++ rest) j 0 ≡ get_or here i 0 = λ i j e.
      ap (λ (xs : List ℕ). get_or xs j 0) split ∙ get_or-append_right front here (3 * r) j 0 long (omega arith)
      ∙ ap (λ (n : ℕ). get_or here n 0) (omega arith) in
      line_as g l ps s r hr u a v o _ _ _ (byte 0 (3 * r) (omega arith)) (byte 1 (3 * r + 1) refl) (byte 2 (3 * r + 2) refl) m
