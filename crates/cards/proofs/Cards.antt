-- The cards of all teams, one after the other. Assumes nothing.
use Rattle.std.proofs.Common.{◌≡◌, ℕ, suc, ◌+◌, ◌-◌, ◌*◌, ◌≤◌, List, [], ◌++◌, length, take, drop, None, Ok, Err, MatchResult, Result, sym, ap, ◌∙◌, subst, arith}
use Rattle.std.proofs.lemmas.List.{append_assoc, append-nil, take_at}
use Rattle.groups.specs.Tables.{Table, Laws, cyclic, product}
use Rattle.groups.specs.declared.refusal.Refusal.{Refusal}
use Rattle.groups.specs.declared.refusal.Refusal.TheVariants.{Order}
use Rattle.starters.specs.Claims.{WrittenList}
use Rattle.starters.specs.declared.fault.Fault.{Fault}
use Rattle.starters.specs.declared.pair.Pair.{Pair}
use Rattle.starters.proofs.Claiming.{refused_weak}
use Rattle.squares.specs.Cards.{card, CardWritten, CardRefused}
use Rattle.squares.specs.Cards.CardRefused.{by_claim, by_team, by_place}
use Rattle.squares.proofs.Lines.{length-lines}
use Rattle.input.specs.Groups.{Made, table_of, letter_of}
use Rattle.input.specs.declared.orders.Orders.{Orders}
use Rattle.cards.specs.Answers.{ByGroup, ByOrders}
use Rattle.cards.specs.Answers.ByGroup.{carded}
use Rattle.cards.specs.Answers.ByOrders.{made_group, not_made}
use Rattle.cards.specs.Texts.{card_text, cards_text, refused_line, summary_line}

-- The cards of the teams below u stand in the text, and with those to come it is the text of all cards after its start.
pub record CardsSoFar (g : Table) (bs start : List ℕ) (u : ℕ) (text : List ℕ) : Type 0 where
  pub starter : List Pair
  pub listed : WrittenList g bs starter
  pub whole : text ++ cards_text g starter u (g.order + 1 - u) ≡ start ++ cards_text g starter 0 (g.order + 1)

module _ (g : Table) (bs start : List ℕ) where
  pub no_card : (ps : List Pair) → WrittenList g bs ps → CardsSoFar g bs start 0 start
  no_card ps w = record { starter = ps; listed = w; whole = ap (λ (k : ℕ). start ++ cards_text g ps 0 k) (omega arith) }

  -- the bytes of a card that is written
  pub card_bytes : (u long : ℕ) (before after : List ℕ) (ps : List Pair) → WrittenList g bs ps → CardWritten g bs u before after long
      → take long after ≡ card g ps u
  card_bytes u long before after ps w c =
      let same : c.starter ≡ ps = w.only c.starter c.listed.written c.listed.same in
      let size : length (card g c.starter u) ≡ long = omega (arith, length-lines g c.starter u 0 g.order, c.size) in
      ap (take long) c.bytes ∙ take_at (card g c.starter u) (drop long before) long size ∙ ap (λ (qs : List Pair). card g qs u) same

  pub one_card_more : (u : ℕ) (text longer : List ℕ) → u ≤ g.order → (so : CardsSoFar g bs start u text)
      → longer ≡ text ++ card_text u (card g so.starter u) → CardsSoFar g bs start (u + 1) longer
  one_card_more u text longer h so e =
      let ps : List Pair = so.starter in
      let k : ℕ = g.order + 1 - (u + 1) in
      let left : g.order + 1 - u ≡ suc k = omega arith in
      record {
        starter = ps;
        listed = so.listed;
        whole =
            ap (λ (xs : List ℕ). xs ++ cards_text g ps (u + 1) k) e
            ∙ append_assoc text (card_text u (card g ps u)) (cards_text g ps (u + 1) k)
            ∙ ap (λ (xs : List ℕ). text ++ xs) (sym (ap (cards_text g ps u) left))
            ∙ so.whole;
      }

  -- the card of a team of a strong starter is not refused where the place is long enough
  pub not_refused : (l : Laws g) (u : ℕ) (before : List ℕ) (f : Fault) (ps : List Pair) → u ≤ g.order → 3 * g.order ≤ length before
      → WrittenList g bs ps → CardRefused g bs u before f → ⊥
  not_refused l u before f ps h room w (by_claim r) = refused_weak g l bs f r (w.size, w.listed_strong)
  not_refused l u before f ps h room w (by_team e size strong more) = omega arith
  not_refused l u before f ps h room w (by_place e size strong team short) = omega arith

  pub all_written : (letter : ℕ) (text longer : List ℕ) → CardsSoFar g bs start (g.order + 1) text → longer ≡ text ++ summary_line g.order letter
      → ByGroup g letter bs start longer
  all_written letter text longer so e =
      let ps : List Pair = so.starter in
      let left : g.order + 1 - (g.order + 1) ≡ 0 = omega arith in
      let none : cards_text g ps (g.order + 1) (g.order + 1 - (g.order + 1)) ≡ [] = ap (cards_text g ps (g.order + 1)) left in
      let done : text ≡ start ++ cards_text g ps 0 (g.order + 1) =
      sym (append-nil text) ∙ ap (λ (xs : List ℕ). text ++ xs) (sym none) ∙ so.whole in
      carded ps so.listed
      (e ∙ ap (λ (xs : List ℕ). xs ++ summary_line g.order letter) done
      ∙ append_assoc start (cards_text g ps 0 (g.order + 1)) (summary_line g.order letter))

pub two_tables : (a b a' b' : ℕ) → a ≡ a' → b ≡ b' → product (cyclic a) (cyclic b) ≡ product (cyclic a') (cyclic b')
two_tables a b a' b' e f =
    ap (λ (n : ℕ). product (cyclic n) (cyclic b)) e ∙ ap (λ (n : ℕ). product (cyclic a') (cyclic n)) f

pub three_tables : (a b c a' b' c' : ℕ) → a ≡ a' → b ≡ b' → c ≡ c'
    → product (product (cyclic a) (cyclic b)) (cyclic c) ≡ product (product (cyclic a') (cyclic b')) (cyclic c')
three_tables a b c a' b' c' e f h =
    ap (λ (t : Table). product t (cyclic c)) (two_tables a b a' b' e f)
    ∙ ap (λ (n : ℕ). product (product (cyclic a') (cyclic b')) (cyclic n)) h

-- the answer for the group that is made of the orders, or for none: its table goes by another name
pub by_result : {G : Type 0} (made : Result G Refusal) (table : G → Table) (o o' : Orders) (bs bs' before after : List ℕ)
    → o ≡ o' → bs' ≡ bs
    → MatchResult made (λ g. (table g ≡ table_of o') × Made o') (λ q. (q ≡ Order) × (Made o' → ⊥))
    → MatchResult made (λ g. ByGroup (table g) (letter_of o') bs' before after) (λ q. after ≡ before ++ refused_line q None)
    → ByOrders o bs before after
by_result (Ok g) table o o' bs bs' before after e same m b =
    subst (λ (x : Orders). ByOrders x bs before after) (sym e)
    (made_group m.1
    (subst (λ (h : Table). ByGroup h (letter_of o') bs before after) m.0
    (subst (λ (xs : List ℕ). ByGroup (table g) (letter_of o') xs before after) same b)))
by_result (Err q) table o o' bs bs' before after e same m b =
    subst (λ (x : Orders). ByOrders x bs before after) (sym e)
    (not_made m.1 (b ∙ ap (λ (r : Refusal). before ++ refused_line r None) m.0))
