-- What the program answers. Assumes nothing.
--     Typed input o bs                    the input is of the form: a line with the orders o, a line with the numbers bs, and no more
--     ByGroup g letter bs before after    what is written after the text before it for the list bs over the group g: its
--                                         refusal, or the cards in the square of its written list
--     ByOrders o bs before after          the same for the group of the orders o, or that it is not made
--     Answer input text                   the text that is printed for the input
use Rattle.std.specs.Prelude.{◌≡◌, ℕ, ◌≤◌, List, [], ◌++◌, length, Some, None}
use Rattle.groups.specs.Tables.{Table}
use Rattle.groups.specs.declared.refusal.Refusal.TheVariants.{Order}
use Rattle.input.specs.Groups.{Made, table_of, letter_of}
use Rattle.input.specs.Lines.{FirstLine, LastLine}
use Rattle.input.specs.Read.{orders_of, numbers_of}
use Rattle.input.specs.declared.orders.Orders.{Orders}
use Rattle.starters.specs.Claims.{Refused, WrittenList}
use Rattle.starters.specs.declared.fault.Fault.{Fault}
use Rattle.starters.specs.declared.pair.Pair.{Pair}
use Rattle.cards.specs.Texts.{all_cards, refused_line, usage_line}

pub record Typed (input : List ℕ) (o : Orders) (bs : List ℕ) : Type 0 where
  pub short : length input ≤ 4096
  pub first : List ℕ
  pub rest : List ℕ
  pub second : List ℕ
  pub first_line : FirstLine input first rest
  pub last_line : LastLine rest second
  pub orders : orders_of first ≡ Some o
  pub numbers : numbers_of second ≡ Some bs

pub data ByGroup (g : Table) (letter : ℕ) (bs before after : List ℕ) : Type 0 where
  not_claimed : (f : Fault) → Refused g bs f → after ≡ before ++ refused_line f.refusal f.pair → ByGroup g letter bs before after
  carded : (ps : List Pair) → WrittenList g bs ps → after ≡ before ++ all_cards g letter ps → ByGroup g letter bs before after

pub data ByOrders (o : Orders) (bs before after : List ℕ) : Type 0 where
  not_made : (Made o → ⊥) → after ≡ before ++ refused_line Order None → ByOrders o bs before after
  made_group : Made o → ByGroup (table_of o) (letter_of o) bs before after → ByOrders o bs before after

pub data Answer (input text : List ℕ) : Type 0 where
  not_typed : ((o : Orders) (bs : List ℕ) → Typed input o bs → ⊥) → text ≡ usage_line → Answer input text
  typed : (o : Orders) (bs : List ℕ) → Typed input o bs → ByOrders o bs [] text → Answer input text
