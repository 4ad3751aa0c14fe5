-- The lines of the answer, as bytes. Each ends with a line feed. Assumes nothing.
--     ended xs                     the line xs with its line feed
--     team_line u                  the head of a team's card
--     round_line r a v o           round r of a card: table a, venue v, opponent o
--     rounds from bs               the lines of a card's bytes, three to a round, the first one round from
--     card_text u bs               the head and the rounds of the card bs of team u
--     cards_text g ps u k          the cards of the k teams from u on in the square of ps
--     summary_line n letter        the last line: the cards, the side, the kind's letter as text, and the meetings
--     all_cards g letter ps        the cards of all teams, and the last line
--     refused_line f               a refusal, with the pair that it names
--     usage_line                   what is expected of the input
use Rattle.std.specs.Prelude.{ℕ, zero, suc, ◌+◌, ◌*◌, ◌/◌, List, [], ◌∷◌, ◌++◌, Some, None, codes, decimal, Option}
use Rattle.std.proofs.Math.Utf8.{encode}
use Rattle.groups.specs.Refusals.{number_of}
use Rattle.groups.specs.Tables.{Table}
use Rattle.groups.specs.declared.refusal.Refusal.{Refusal}
use Rattle.squares.specs.Cards.{card}
use Rattle.starters.specs.declared.pair.Pair.{Pair}

abbrev pub ended : List ℕ → List ℕ
ended xs = xs ++ (0x0a ∷ [])

abbrev pub team_line : ℕ → List ℕ
team_line u = codes "TEAM " ++ ended (decimal u)

abbrev pub round_line : ℕ → ℕ → ℕ → ℕ → List ℕ
round_line r a v o =
    codes "ROUND " ++ (decimal r ++ (codes " TABLE " ++ (decimal a ++ (codes " VENUE " ++ (decimal v ++ (codes " OPPONENT " ++ ended (decimal o)))))))

abbrev pub rounds : ℕ → List ℕ → List ℕ
rounds r [] = []
rounds r (a ∷ []) = []
rounds r (a ∷ (v ∷ [])) = []
rounds r (a ∷ (v ∷ (o ∷ bs))) = round_line r a v o ++ rounds (r + 1) bs

abbrev pub card_text : ℕ → List ℕ → List ℕ
card_text u bs = team_line u ++ rounds 0 bs

abbrev pub cards_text : Table → List Pair → ℕ → ℕ → List ℕ
cards_text g ps u zero = []
cards_text g ps u (suc k) = card_text u (card g ps u) ++ cards_text g ps (u + 1) k

abbrev pub summary_line : ℕ → ℕ → List ℕ
summary_line n letter =
    codes "CARDS " ++ (decimal (n + 1) ++ (codes " SIDE " ++ (decimal n ++ (codes " KIND " ++ (encode letter ++ (codes " MEETINGS " ++ ended (decimal (n * (n + 1) / 2))))))))

abbrev pub all_cards : Table → ℕ → List Pair → List ℕ
all_cards g letter ps = cards_text g ps 0 (g.order + 1) ++ summary_line g.order letter

abbrev pub refused_line : Refusal → Option ℕ → List ℕ
refused_line q None = codes "REFUSED " ++ ended (decimal (number_of q))
refused_line q (Some k) = codes "REFUSED " ++ (decimal (number_of q) ++ (codes " PAIR " ++ ended (decimal k)))

abbrev pub usage_line : List ℕ
usage_line =
    ended (codes "EXPECTED orders joined by x, then the starter's numbers separated by blanks, as 7 and 1 3 2 6 4 5 on two lines")
