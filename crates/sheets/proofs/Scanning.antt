-- One round of a sheet, read back. Assumes nothing.
--     row w k          the bytes of the cells of round r at the k venues from w on
--     Scan rest        the rest begins with the cells of round r from some venue on, and the venue sought is not before it
use Rattle.std.proofs.Common.{◌≡◌, ℕ, zero, suc, ◌+◌, ◌-◌, ◌*◌, ◌<◌, ◌≤◌, false, cond, ◌&&◌, ltb, List, [], ◌++◌, length, take, drop, Ok, sym, refl, ap, ◌∙◌, subst, inl, inr, arith}
use Rattle.std.proofs.lemmas.List.{append_assoc, length-append, drop_at, take_rest}
use Rattle.std.proofs.lemmas.Grind.{not_there}
use Rattle.std.proofs.lemmas.Bool.{cases_lt, cases_eq, and_from, and_left, and_right, cond-true, cond-false, lt-ltb, le-ltb, false≢true}
use Rattle.squares.specs.Cells.{Cell, Cells, empty, meet}
use Rattle.sheets.specs.Commands.{written, first, is_meet}
use Rattle.sheets.specs.Readings.{RoomSheet}
use Rattle.sheets.specs.Sheets.{each, cell_bytes, round_bytes, meetings_in}
use Rattle.sheets.specs.declared.command.Command.TheVariants.{Side, Round, Meet, Close, End}
use Rattle.sheets.proofs.Checking.{front_size}
use Rattle.sheets.proofs.Each.{each_split}
use Rattle.sheets.proofs.Written.{command_in, rest_in}

module _ (cells : Cells) (r : ℕ) where
  abbrev pub row : ℕ → ℕ → List ℕ
  row w k = each (λ v. cell_bytes v (cells r v)) w k

  -- the first MEET of the row, and what stands behind it
  pub record Found (w k : ℕ) (more : List ℕ) (v a b : ℕ) (tail : List ℕ) : Type 0 where
    pub left : ℕ
    pub ends : v + 1 + left ≡ w + k
    pub from : w ≤ v
    pub cell : cells r v ≡ meet a b
    pub behind : tail ≡ row (v + 1) left ++ (written Close ++ more)
    pub empty_before : (i : ℕ) → w ≤ i → i < v → cells r i ≡ empty

  found_later : (w k : ℕ) (more : List ℕ) (v a b : ℕ) (tail : List ℕ) → cells r w ≡ empty → Found (w + 1) k more v a b tail
      → Found w (suc k) more v a b tail
  found_later w k more v a b tail e f =
      record {
        left = f.left;
        ends = omega (arith, f.ends);
        from = omega (arith, f.from);
        cell = f.cell;
        behind = f.behind;
        empty_before = λ i l h.
            elim (cases_eq i w) [
              | inl same ↦ subst (λ (x : ℕ). cells r x ≡ empty) (sym same) e
              | inr other ↦ f.empty_before i (omega arith) h
            ];
      }

  -- the cell w has its MEET in front, or none
  found_in : (k w : ℕ) (more : List ℕ) (v a b : ℕ) (tail : List ℕ)
      → (first (row (w + 1) k ++ (written Close ++ more)) ≡ Ok (Meet v a b, tail) → Found (w + 1) k more v a b tail)
      → (c : Cell) → cells r w ≡ c → first ((cell_bytes w c ++ row (w + 1) k) ++ (written Close ++ more)) ≡ Ok (Meet v a b, tail)
      → Found w (suc k) more v a b tail
  found_in k w more v a b tail again empty e f = found_later w k more v a b tail e (again f)
  found_in k w more v a b tail again (meet x y) e f =
      let behind : List ℕ = row (w + 1) k ++ (written Close ++ more) in
      let same : Meet w x y ≡ Meet v a b = ap (command_in Close) f in
      let here : w ≡ v = cc in
      let one : x ≡ a = cc in
      let two : y ≡ b = cc in
      let rest : behind ≡ tail = ap (rest_in []) f in
      record {
        left = k;
        ends = omega arith;
        from = omega arith;
        cell = subst (λ (i : ℕ). cells r i ≡ meet a b) here (e ∙ ap (λ (i : ℕ). meet i y) one ∙ ap (meet a) two);
        behind = sym rest ∙ ap (λ (i : ℕ). row (i + 1) k ++ (written Close ++ more)) here;
        empty_before = λ i l h. absurd (omega arith);
      }

  pub found : (k w : ℕ) (more : List ℕ) (v a b : ℕ) (tail : List ℕ) → first (row w k ++ (written Close ++ more)) ≡ Ok (Meet v a b, tail)
      → Found w k more v a b tail
  found zero w more v a b tail e = absurd (false≢true (ap is_meet e))
  found (suc k) w more v a b tail e = found_in k w more v a b tail (found k (w + 1) more v a b tail) (cells r w) refl e

  -- where no MEET stands in front, all cells of the row are empty
  abbrev Stopped : List ℕ → Type 0
  Stopped rest = (v a b : ℕ) (tail : List ℕ) → first rest ≡ Ok (Meet v a b, tail) → ⊥

  stopped_in : (k w : ℕ) (more : List ℕ)
      → (Stopped (row (w + 1) k ++ (written Close ++ more)) → (i : ℕ) → w + 1 ≤ i → i < w + 1 + k → cells r i ≡ empty)
      → (c : Cell) → cells r w ≡ c → Stopped ((cell_bytes w c ++ row (w + 1) k) ++ (written Close ++ more))
      → (i : ℕ) → w ≤ i → i < w + suc k → cells r i ≡ empty
  stopped_in k w more again empty e never i l h =
      elim (cases_eq i w) [
        | inl same ↦ subst (λ (x : ℕ). cells r x ≡ empty) (sym same) e
        | inr other ↦ again never i (omega arith) (omega arith)
      ]
  stopped_in k w more again (meet x y) e never i l h = absurd (never w x y (row (w + 1) k ++ (written Close ++ more)) refl)

  pub stopped : (k w : ℕ) (more : List ℕ) → Stopped (row w k ++ (written Close ++ more)) → (i : ℕ) → w ≤ i → i < w + k → cells r i ≡ empty
  stopped zero w more never i l h = absurd (omega arith)
  stopped (suc k) w more never i l h = stopped_in k w more (stopped k (w + 1) more) (cells r w) refl never i l h

-- The scan of round r for a venue.
module _ (n : ℕ) (cells : Cells) (r venue : ℕ) where
  pub record Scan (rest : List ℕ) : Type 0 where
    pub from : ℕ
    pub left : ℕ
    pub ends : from + left ≡ n
    pub more : List ℕ
    pub rest_is : rest ≡ row cells r from left ++ (written Close ++ more)
    pub empty_before : venue < from → cells r venue ≡ empty

  abbrev answer : Cell
  answer = cond (ltb r n && ltb venue n) (cells r venue) empty

  inside : (c : Cell) → r < n → venue < n → cells r venue ≡ c → c ≡ answer
  inside c hr hv e = sym e ∙ sym (cond-true _ _ _ (and_from (ltb r n) (ltb venue n) (lt-ltb r n hr) (lt-ltb venue n hv)))

  pub no_round : n ≤ r → empty ≡ answer
  no_round h = sym (cond-false _ _ _ (and_left (ltb r n) (ltb venue n) (le-ltb r n h)))

  -- the first MEET of the rest
  at_first : (rest : List ℕ) (v a b : ℕ) (tail : List ℕ) (s : Scan rest) → first rest ≡ Ok (Meet v a b, tail)
      → Found cells r s.from s.left s.more v a b tail
  at_first rest v a b tail s e =
      found cells r s.left s.from s.more v a b tail (ap first (sym s.rest_is) ∙ e)

  pub scan_found : (rest : List ℕ) (v a b : ℕ) (tail : List ℕ) → Scan rest → first rest ≡ Ok (Meet v a b, tail) → r < n → v ≡ venue
      → meet a b ≡ answer
  scan_found rest v a b tail s e hr same =
      let f = at_first rest v a b tail s e in
      inside (meet a b) hr (omega (arith, f.ends, s.ends)) (subst (λ (x : ℕ). cells r x ≡ meet a b) same f.cell)

  pub scan_on : (rest : List ℕ) (v a b : ℕ) (tail : List ℕ) → Scan rest → first rest ≡ Ok (Meet v a b, tail) → (v ≡ venue → ⊥) → Scan tail
  scan_on rest v a b tail s e other =
      let f = at_first rest v a b tail s e in
      record {
        from = v + 1;
        left = f.left;
        ends = omega (arith, f.ends, s.ends);
        more = s.more;
        rest_is = f.behind;
        empty_before = λ h.
            elim (cases_lt venue s.from) [
              | inl earlier ↦ s.empty_before earlier
              | inr later ↦
                  elim (cases_eq v venue) [
                    | inl same ↦ absurd (other same)
                    | inr apart ↦ f.empty_before venue later (omega arith)
                  ]
            ];
      }

  pub scan_ends : (rest : List ℕ) → Scan rest → is_meet (first rest) ≡ false → empty ≡ answer
  scan_ends rest s no-meet =
      let never : Stopped cells r (row cells r s.from s.left ++ (written Close ++ s.more)) =
      λ v a b tail e. false≢true (sym no-meet ∙ ap is_meet (ap first s.rest_is ∙ e)) in
      let none = stopped cells r s.left s.from s.more never in
      elim (cases_lt r n) [
        | inl hr ↦
            elim (cases_lt venue n) [
              | inl hv ↦
                  elim (cases_lt venue s.from) [
                    | inl earlier ↦ inside empty hr hv (s.empty_before earlier)
                    | inr later ↦ inside empty hr hv (none venue later (omega (arith, s.ends)))
                  ]
              | inr out ↦ sym (cond-false _ _ _ (and_right (ltb r n) (ltb venue n) (le-ltb venue n out)))
            ]
        | inr out ↦ no_round out
      ]

-- Where the cells of a round stand.
module _ (bytes : List ℕ) (s : RoomSheet bytes) (r side : ℕ) (same : side ≡ s.side) (hr : r < side) where
  abbrev start : ℕ
  start = 2 + r * (2 * side + 5) + 2

  record RoundAt : Type 0 where
    front : List ℕ
    more : List ℕ
    whole : bytes ≡ front ++ (row s.square r 0 s.side ++ (written Close ++ more))
    size : length front ≡ start

  round_at : RoundAt
  round_at =
      let n : ℕ = s.side in
      let rounds : ℕ → List ℕ = round_bytes n s.square in
      let before : List ℕ = written (Side n) ++ each rounds 0 r in
      let later : List ℕ = each rounds (r + 1) (n - suc r) in
      let end : List ℕ = written (End (meetings_in n)) in
      let inner : List ℕ = row s.square r 0 n in
      let below : r < n = omega arith in
      let parts : n ≡ r + suc (n - suc r) = omega arith in
      let zero_plus : 0 + r ≡ r = omega arith in
      let split : each rounds 0 n ≡ each rounds 0 r ++ (rounds r ++ later) =
      ap (each rounds 0) parts ∙ each_split rounds 0 r (suc (n - suc r))
      ∙ ap (λ (x : ℕ). each rounds 0 r ++ each rounds x (suc (n - suc r))) zero_plus in
      let size : length before ≡ 2 + r * (2 * n + 5) = front_size n s.square s.odd_side s.fair r (omega arith) in
      let l = length-append before (written (Round r)) in
      record {
        front = before ++ written (Round r);
        more = later ++ end;
        whole = s.same ∙ ap (λ xs. written (Side n) ++ (xs ++ end)) split ∙ simp append_assoc;
        size = l ∙ ap (λ (x : ℕ). x + 2) size ∙ ap (λ (x : ℕ). 2 + r * (2 * x + 5) + 2) (sym same);
      }

  pub not_short : start ≤ length bytes
  not_short =
      let a = round_at in
      let l = ap length a.whole ∙ length-append a.front (row s.square r 0 s.side ++ (written Close ++ a.more)) in
      omega (arith, a.size)

  pub scan_begins : (venue : ℕ) → Scan s.side s.square r venue (take (length bytes - start) (drop start bytes))
  scan_begins venue =
      let a = round_at in
      let rest : List ℕ = row s.square r 0 s.side ++ (written Close ++ a.more) in
      record {
        from = 0;
        left = s.side;
        ends = omega arith;
        more = a.more;
        rest_is = take_rest bytes start ∙ ap (drop start) a.whole ∙ drop_at a.front rest start a.size;
        empty_before = λ h. absurd (omega arith);
      }

-- the bytes of a sheet go as far as each of its rounds
pub round_there : (bytes : List ℕ) → ∥ RoomSheet bytes ∥₁ → (r side : ℕ) → ((s : RoomSheet bytes) → side ≡ s.side) → r < side
    → 2 + r * (2 * side + 5) + 2 ≤ length bytes
round_there bytes real r side same h =
    elim (cases_lt (length bytes) (2 + r * (2 * side + 5) + 2)) [
      | inl short ↦ absurd (not_there real (λ s. let long = not_short bytes s r side (same s) h in omega (arith, long)))
      | inr fits ↦ fits
    ]
