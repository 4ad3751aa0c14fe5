-- Commands that passed are those of a sheet: their bytes are the beginning of the sheet of the square that they tell of. Assumes
-- nothing.
--     so_far n cells k      the sheet's bytes up to the CLOSE of the k-th round
--     Covers ..             the cells of the first k rounds, and of round k up to venue w, are those of the meetings told
use Rattle.std.proofs.Common.{◌≡◌, ℕ, suc, ◌+◌, ◌<◌, ◌≤◌, true, List, [], ◌∷◌, ◌++◌, sym, refl, ap, ◌∙◌, subst, inl, inr, arith}
use Rattle.std.proofs.lemmas.List.{append_assoc, append-nil}
use Rattle.std.proofs.lemmas.Bool.{lt-ltb, ltb-true}
use Rattle.squares.specs.Cells.{Cell, Cells, empty, meet}
use Rattle.sheets.specs.Commands.{written}
use Rattle.sheets.specs.Judgements.{rises}
use Rattle.sheets.specs.Meetings.{Meeting, Among, told, last_round, meetings}
use Rattle.sheets.specs.Sheets.{each, cell_bytes, round_bytes}
use Rattle.sheets.specs.Stages.{stage, after, side_of, rounds_of, begun_of, is_open}
use Rattle.sheets.specs.declared.command.Command.{Command}
use Rattle.sheets.specs.declared.command.Command.TheVariants.{Side, Round, Meet, Close, End}
use Rattle.sheets.specs.declared.stage.Stage.{Stage}
use Rattle.sheets.specs.declared.stage.Stage.TheVariants.{Start, Between, Open, Done}
use Rattle.sheets.proofs.Each.{each_next, each_quiet}
use Rattle.sheets.proofs.Fair.{Kept, Fits, kept}
use Rattle.sheets.proofs.Noting.{open_round}
use Rattle.sheets.proofs.Passing.{Passed}
use Rattle.sheets.proofs.Yes.{side_yes, round_yes, meet_yes, close_yes}

-- the latest MEET of an open round is below the side
rises_at_end : (past : List Command) (n r : ℕ) → Passed past → stage past ≡ Open n r → rises n past ≡ true
rises_at_end [] n r p e = refl
rises_at_end (Side m ∷ past) n r p e = refl
rises_at_end (Round q ∷ past) n r p e = refl
rises_at_end (Meet v a b ∷ past) n r p e =
    let y = meet_yes past v a b p.0 in
    let s : y.side ≡ n = ap side_of (sym y.open_round ∙ e) in
    lt-ltb v n (omega (arith, y.venue_below))
rises_at_end (Close ∷ past) n r p e = refl
rises_at_end (End m ∷ past) n r p e = refl

module _ (n : ℕ) (cells : Cells) where
  abbrev pub cells_in : ℕ → ℕ → List ℕ
  cells_in r v = cell_bytes v (cells r v)

  abbrev pub so_far : ℕ → List ℕ
  so_far k = written (Side n) ++ each (round_bytes n cells) 0 k

  pub record Covers (past : List Command) (k w : ℕ) : Type 0 where
    pub rounds_told : (r v a b : ℕ) → r < k → v < n → cells r v ≡ meet a b
        → Among (meetings past) (record { round = r; venue = v; lower = a; higher = b })
    pub cells_told : (v a b : ℕ) → v < w → cells k v ≡ meet a b
        → Among (meetings past) (record { round = k; venue = v; lower = a; higher = b })
    pub told_cells : (m : Meeting) → Among (meetings past) m → cells m.round m.venue ≡ meet m.lower m.higher

  -- a cell of which nothing is told is empty
  no_bytes : (r v : ℕ) (c : Cell) → cells r v ≡ c → ((a b : ℕ) → cells r v ≡ meet a b → ⊥) → cells_in r v ≡ []
  no_bytes r v empty e none = ap (cell_bytes v) e
  no_bytes r v (meet a b) e none = absurd (none a b e)

  abbrev pub Shaped : Stage → List Command → Type 0
  Shaped Start past = told past ≡ []
  Shaped (Between m k) past = Covers past k 0 → told past ≡ so_far k
  Shaped (Open m r) past = (w : ℕ) → Covers past r w → rises w past ≡ true
      → told past ≡ so_far r ++ (written (Round r) ++ each (cells_in r) 0 w)
  Shaped Done past = Unit {0}

  -- the cells of the open round from the next free venue on are empty
  quiet_from : (past : List Command) (r j w : ℕ) → Kept n past → stage past ≡ Open n r → Covers past r w → rises j past ≡ true → j ≤ w
      → each (cells_in r) 0 w ≡ each (cells_in r) 0 j
  quiet_from past r j w k e c t h =
      each_quiet (cells_in r) j w h
      (λ i l below. no_bytes r i (cells r i) refl
      (λ a b met.
      let m : Meeting = record { round = r; venue = i; lower = a; higher = b } in
      let less : i < j = k.rising (ap is_open e) m j (c.cells_told i a b below met) (sym (ap rounds_of e)) t in
      omega arith))

  -- one venue more that a MEET tells of
  up_to_meet : (past : List Command) (r v a b w : ℕ) → last_round past ≡ r → Covers (Meet v a b ∷ past) r w → v < w → Covers past r v
  up_to_meet past r v a b w last c h =
      record {
        rounds_told = λ q u x y l below e. elim (c.rounds_told q u x y l below e) [
          | inl same ↦ absurd (omega (arith, ap (λ (m : Meeting). m.round) same))
          | inr before ↦ before
        ];
        cells_told = λ u x y l e. elim (c.cells_told u x y (omega arith) e) [
          | inl same ↦ absurd (omega (arith, ap (λ (m : Meeting). m.venue) same))
          | inr before ↦ before
        ];
        told_cells = λ m before. c.told_cells m (inr before);
      }

  round_shape : (past : List Command) (r : ℕ) → Kept n (Round r ∷ past) → stage (Round r ∷ past) ≡ Open n r
      → (Covers past r 0 → told past ≡ so_far r) → Shaped (Open n r) (Round r ∷ past)
  round_shape past r k e before w c t =
      let cover : Covers past r 0 = record {
        rounds_told = c.rounds_told;
        cells_told = λ v a b h. absurd (omega arith);
        told_cells = c.told_cells;
      } in
      let quiet : each (cells_in r) 0 w ≡ [] = quiet_from (Round r ∷ past) r 0 w k e c refl (omega arith) in
      ap (λ xs. xs ++ written (Round r)) (before cover)
      ∙ ap (λ xs. so_far r ++ xs) (sym (append-nil (written (Round r))) ∙ ap (λ xs. written (Round r) ++ xs) (sym quiet))

  meet_shape : (past : List Command) (r v a b : ℕ) → last_round past ≡ r → Kept n (Meet v a b ∷ past) → stage past ≡ Open n r
      → rises v past ≡ true → Shaped (Open n r) past → Shaped (Open n r) (Meet v a b ∷ past)
  meet_shape past r v a b last k e t before w c rise =
      let above : v < w = ltb-true v w rise in
      let new : Meeting = record { round = last_round past; venue = v; lower = a; higher = b } in
      let cell : cells r v ≡ meet a b = subst (λ (q : ℕ). cells q v ≡ meet a b) last (c.told_cells new (inl refl)) in
      let row : each (cells_in r) 0 w ≡ each (cells_in r) 0 v ++ written (Meet v a b) =
      quiet_from (Meet v a b ∷ past) r (suc v) w k e c (lt-ltb v (suc v) (omega arith)) (omega arith)
      ∙ each_next (cells_in r) v ∙ ap (λ (x : Cell). each (cells_in r) 0 v ++ cell_bytes v x) cell in
      let front : List ℕ = each (cells_in r) 0 v in
      ap (λ xs. xs ++ written (Meet v a b)) (before v (up_to_meet past r v a b w last c above) t)
      ∙ append_assoc (so_far r) (written (Round r) ++ front) (written (Meet v a b))
      ∙ ap (λ xs. so_far r ++ xs) (append_assoc (written (Round r)) front (written (Meet v a b)) ∙ ap (λ xs. written (Round r) ++ xs) (sym row))

  close_shape : (past : List Command) (r : ℕ) → r < n → rises n past ≡ true → Shaped (Open n r) past → Covers past (r + 1) 0
      → told past ++ written Close ≡ so_far (r + 1)
  close_shape past r below t before c =
      let cover : Covers past r n = record {
        rounds_told = λ q v a b h. c.rounds_told q v a b (omega arith);
        cells_told = λ v a b h. c.rounds_told r v a b (omega arith) h;
        told_cells = c.told_cells;
      } in
      let row : List ℕ = each (cells_in r) 0 n in
      let next : each (round_bytes n cells) 0 (suc r) ≡ each (round_bytes n cells) 0 r ++ round_bytes n cells r = each_next (round_bytes n cells) r in
      let more : r + 1 ≡ suc r = omega arith in
      ap (λ xs. xs ++ written Close) (before n cover t)
      ∙ append_assoc (so_far r) (written (Round r) ++ row) (written Close)
      ∙ ap (λ xs. so_far r ++ xs) (append_assoc (written (Round r)) row (written Close))
      ∙ append_assoc (written (Side n)) (each (round_bytes n cells) 0 r) (round_bytes n cells r)
      ∙ ap (λ xs. written (Side n) ++ xs) (sym next) ∙ ap so_far (sym more)

  pub shape : (past : List Command) → Passed past → Fits n (stage past) → Shaped (stage past) past
  shape [] p f = refl
  shape (Side m ∷ past) p f =
      let y = side_yes past m p.0 in
      let none : told past ≡ [] = subst (λ (s : Stage). Shaped s past) y.first_of_all (shape past p.1 (subst (Fits n) (sym y.first_of_all) tt)) in
      λ c. ap (λ xs. xs ++ written (Side m)) none ∙ ap (λ (x : ℕ). written (Side x)) f
  shape (Round r ∷ past) p f =
      let y = round_yes past r p.0 in
      let s : side_of (stage past) ≡ y.side = ap side_of y.between in
      let before = subst (λ (t : Stage). Shaped t past) y.between (shape past p.1 (subst (Fits n) (sym y.between) (sym s ∙ f))) in
      round_shape past r (kept n (Round r ∷ past) p f) (ap (λ (x : ℕ). Open x r) f) before
  shape (Meet v a b ∷ past) p f =
      let y = meet_yes past v a b p.0 in
      let side : y.side ≡ n = subst (Fits n) y.open_round f in
      let e : stage past ≡ Open n y.round = y.open_round ∙ ap (λ (x : ℕ). Open x y.round) side in
      let before = subst (λ (t : Stage). Shaped t past) e (shape past p.1 f) in
      let last = open_round past n y.round e in
      subst (λ (t : Stage). Shaped t (Meet v a b ∷ past)) (sym e)
      (meet_shape past y.round v a b last (kept n (Meet v a b ∷ past) p f) e y.rising before)
  shape (Close ∷ past) p f =
      let y = close_yes past p.0 in
      let side : y.side ≡ n = sym (ap side_of y.open_round) ∙ f in
      let e : stage past ≡ Open n y.round = y.open_round ∙ ap (λ (x : ℕ). Open x y.round) side in
      let open_fits = subst (Fits n) (sym e) refl in
      let before = subst (λ (t : Stage). Shaped t past) e (shape past p.1 open_fits) in
      let below : y.round < n = omega (arith, (kept n past p.1 open_fits).in_side, ap begun_of e) in
      subst (λ (t : Stage). Shaped t (Close ∷ past)) (sym (ap (λ (t : Stage). after t Close) e))
      (λ c. close_shape past y.round below (rises_at_end past n y.round p.1 e) before
      (record { rounds_told = c.rounds_told; cells_told = c.cells_told; told_cells = c.told_cells }))
  shape (End m ∷ past) p f = tt
