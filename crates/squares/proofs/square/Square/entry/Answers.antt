use Rattle.std.proofs.Common.{◌≡◌, ℕ, ◌+◌, ◌<◌, sym, refl, ap, ◌∙◌, subst, arith}
use Rattle.groups.specs.Tables.{Table, counted, difference}
use Rattle.groups.specs.Algebra.{counted_is, difference_below, sum_of_elements}
use Rattle.starters.specs.Pairs.{at, pairs_of, Alike, Holds}
use Rattle.squares.proofs.Rounds.{other_below, line_by_pair, line_by_none, line_as}
use Rattle.squares.proofs.square.Square.entry.Goals as goal

-- a team's difference from the round, as the code has it
moved_is : (t : Table) (u r m : ℕ) → u < t.order → r < t.order → m ≡ difference t (counted t u) (counted t r) → difference t u r ≡ m
moved_is t u r m hu hr e = sym (e ∙ ap (λ (x : ℕ). difference t x (counted t r)) (counted_is t u hu) ∙ ap (difference t u) (counted_is t r hr))

pub returns-in_default : goal.returns-in_default
returns-in_default g c =
    let t = g.G.Group.table c.args.self.now.group.now in
    let l = g.met.G.Group.laws c.args.self.now.group.now in
    let ps = pairs_of c.args.self.now.starter in
    let u = c.args.team in
    let r = c.args.round in
    let hr = c.requires.round in
    let hu : u < t.order = omega arith in
    let made = c.with_guest-in_default.ensures in
    line_as t l ps c.args.self.now.strong r hr u 0 r t.order _ _ _ (ap (λ e. e.table) made) (ap (λ e. e.venue) made) (ap (λ e. e.opponent) made ∙ c.order-n.ensures)
    (line_by_none t l ps c.args.self.now.strong r hr u hu
    (λ k h holds. c.in_default.ensures k h (subst (λ (x : ℕ). Holds x (at ps k)) (moved_is t u r _ hu hr c.minus-moved.ensures) holds)))

pub returns : goal.returns
returns g c =
    let t = g.G.Group.table c.args.self.now.group.now in
    let l = g.met.G.Group.laws c.args.self.now.group.now in
    let strong = c.args.self.now.strong in
    let ps = pairs_of c.args.self.now.starter in
    let u = c.args.team in
    let r = c.args.round in
    let k = c.in-Some.k in
    let o = c.in-Some.other in
    let hr = c.requires.round in
    let hu : u < t.order = omega arith in
    let d : ℕ = difference t u r in
    let hd : d < t.order = difference_below t l u r hu hr in
    let is : d ≡ c.minus-moved.result = moved_is t u r _ hu hr c.minus-moved.ensures in
    let found = c.in-Some.ensures in
    let alike = subst (λ (x : ℕ). Alike (at ps k) (record { first = x; second = o })) (sym is) found.1 in
    let ho = other_below t l ps strong r hr k found.0 d o alike in
    let sum : c.sum.result ≡ t.add d o = sum_of_elements t d o c.sum.result hd ho (subst (λ (x : ℕ). c.sum.result ≡ t.add (counted t x) (counted t o)) (sym is) c.sum.ensures) in
    let hs : c.sum.result < t.order = subst (λ (x : ℕ). x < t.order) (sym sum) (l.closed d o hd ho) in
    line_as t l ps strong r hr u (k + 1) (t.add r (t.add d o)) (t.add o r) _ _ _ refl
    (sum_of_elements t r c.sum.result c.sum-2.result hr hs c.sum-2.ensures ∙ ap (t.add r) sum)
    (sum_of_elements t o r c.sum-3.result ho hr c.sum-3.ensures)
    (line_by_pair t l ps strong r hr k found.0 u o hu alike)
