-- A set of pairs has one written list. Assumes nothing.
use Rattle.std.proofs.Common.{◌≡◌, ℕ, zero, suc, ◌<◌, ◌≤◌, List, length, sym, ap, ◌∙◌, inl, inr, arith}
use Rattle.std.proofs.lemmas.List.{ext_get_or}
use Rattle.std.proofs.lemmas.Bool.{cases_eq, cases_lt}
use Rattle.starters.specs.Pairs.{nobody, at, Alike, Listed, SamePairs}
use Rattle.starters.specs.Starters.{Written}
use Rattle.starters.specs.declared.pair.Pair.{Pair}
use Rattle.starters.proofs.Likeness.{alike_trans, no_longer, no_twins_from_written}

-- pairs that have their smaller numbers first are the same where they are alike
oriented : (p q : Pair) → p.first < p.second → q.first < q.second → Alike p q → p ≡ q
oriented p q x y (inl e) = e
oriented p q x y (inr e) =
    let a : p.first ≡ q.second = ap (λ (r : Pair). r.first) e in
    let b : p.second ≡ q.first = ap (λ (r : Pair). r.second) e in
    absurd (omega arith)

listed_trans : (ps qs : List Pair) → ((k : ℕ) → k < length ps → Listed qs (at ps k)) → (p : Pair) → Listed ps p → Listed qs p
listed_trans ps qs all p l =
    let m = all l.0 l.1 in
    (m.0, m.1, alike_trans (at qs m.0) (at ps l.0) p m.2 l.2)

module _ (ps qs : List Pair) (wp : Written ps) (wq : Written qs) (listed : (k : ℕ) → k < length ps → Listed qs (at ps k)) where
  -- a pair of ps stands in qs as it is
  there : (k : ℕ) → k < length ps → (j : ℕ) × (j < length qs) × (at qs j ≡ at ps k)
  there k h =
      let l = listed k h in
      (l.0, l.1, oriented (at qs l.0) (at ps k) (wq.smaller_first l.0 l.1) (wp.smaller_first k h) l.2)

  -- and no earlier
  no_earlier : (k : ℕ) → k < length ps → (j : ℕ) → j < length qs → at qs j ≡ at ps k → k ≤ j
  no_earlier zero h j x e = omega arith
  no_earlier (suc k) h j x e =
      let t = there k (omega arith) in
      let before = no_earlier k (omega arith) t.0 t.1 t.2 in
      let rise = wp.rising k (suc k) (omega arith) h in
      let a : (at qs t.0).first ≡ (at ps k).first = ap (λ (p : Pair). p.first) t.2 in
      let b : (at qs j).first ≡ (at ps (suc k)).first = ap (λ (p : Pair). p.first) e in
      elim (cases_lt t.0 j) [
        | inl less ↦ omega arith
        | inr more ↦
            elim (cases_eq j t.0) [
              | inl same ↦ absurd (omega (arith, ap (λ (i : ℕ). (at qs i).first) same))
              | inr other ↦ absurd (omega (arith, wq.rising j t.0 (omega arith) t.1))
            ]
      ]

pub written_once : (ps qs : List Pair) → Written ps → Written qs → SamePairs ps qs → ps ≡ qs
written_once ps qs wp wq same =
    let up = no_longer ps qs (no_twins_from_written ps wp) same.0 in
    let down = no_longer qs ps (no_twins_from_written qs wq) same.1 in
    ext_get_or nobody ps qs (omega arith)
    (λ k h.
    let t = there ps qs wp wq same.0 k h in
    let low = no_earlier ps qs wp wq same.0 k h t.0 t.1 t.2 in
    let high = no_earlier qs ps wq wp same.1 t.0 t.1 k h (sym t.2) in
    let e : t.0 ≡ k = omega arith in
    sym (ap (at qs) (sym e) ∙ t.2))

-- two written lists of the pairs of rs are one
pub written_only : (rs ps qs : List Pair) → Written ps → Written qs → SamePairs rs ps → SamePairs rs qs → ps ≡ qs
written_only rs ps qs wp wq sp sq =
    written_once ps qs wp wq
    ((λ k h. listed_trans rs qs sq.0 (at ps k) (sp.1 k h)), (λ k h. listed_trans rs ps sp.0 (at qs k) (sq.1 k h)))
