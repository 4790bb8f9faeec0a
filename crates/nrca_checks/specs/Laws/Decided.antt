-- A comparison that the spans of its sides decide has that truth value.
use Rattle.std.proofs.Common.{◌≡◌, ℕ, ◌<◌, Bool, true, false, nat_lt, List, [], ◌∷◌, Option, Some, None, refl, sym, ap, ◌∙◌, arith, if◌then◌else◌, ◌⊎◌, inl, inr}
use Rattle.std.proofs.lemmas.Bool.{ltb-true, lt-ltb}
use Rattle.std.specs.declared.cmp.Ordering.TheVariants.{Less, Greater}
use Rattle.std.specs.Cmp.{nat_cmp_is}
use Rattle.std.proofs.lemmas.Option.{same_Some}
use Rattle.aql_value.specs.declared.ops.CompareOp.{CompareOp}
use Rattle.aql_value.specs.Datum.{Datum, natural, truth}
use Rattle.aql_value.specs.Order.{datum_cmp}
use Rattle.aql_value.specs.Ops.{compare_by}
use Rattle.aql_value.specs.Partial.{◌>>=◌}
use Rattle.aql_value.specs.Laws.Partial.{then-is}
use Rattle.aql_value.specs.Strict.{Strict, strict_value}
use Rattle.nrca_term.specs.Term.{Term}
use Rattle.nrca_term.specs.Nodes.{compare_term}
use Rattle.nrca_term.specs.Meaning.{Outcomes, cden}
use Rattle.nrca_term.specs.Facts.{Context, FactsHold}
use Rattle.nrca_term.specs.Firm.{span}
use Rattle.nrca_term.specs.Laws.Variants.{cden-strict}
use Rattle.nrca_rule_laws.specs.Spans.{IsInSpan}
use Rattle.nrca_rule_laws.specs.Laws.Spans.{span-sound}
use Rattle.nrca_checks.specs.Deciding.{decided_by, decided_of, DecidesTruth, DecidesApart}

-- the value of a comparison of two values
compared : (V : Outcomes) (vals : List Datum) (op : CompareOp) (a b : Term) (x y : Datum) → cden V vals a ≡ Some x → cden V vals b ≡ Some y →
    cden V vals (compare_term op a b) ≡ Some (truth (compare_by op (datum_cmp x y)))
compared V vals op a b x y e f =
    cden-strict V vals (Strict.compare op) (a ∷ b ∷ [])
    ∙ ap (λ o. (o >>= λ v. (cden V vals b >>= λ w. Some (w ∷ [])) >>= λ ws. Some (v ∷ ws)) >>= strict_value (Strict.compare op)) e
    ∙ ap (λ o. ((o >>= λ w. Some (w ∷ [])) >>= λ ws. Some (x ∷ ws)) >>= strict_value (Strict.compare op)) f

-- numbers within intervals that decide
numbers-decided : (op : CompareOp) (x y : ℕ × ℕ) (v w : Datum) (t : Bool) → IsInSpan x v → IsInSpan y w → decided_by op x y ≡ Some t → compare_by op (datum_cmp v w) ≡ t
numbers-decided op x y v w t g h e = at (nat_lt x.1 y.0) (nat_lt y.1 x.0) refl refl e
  where
    order : (datum_cmp v w) ≡ (datum_cmp (natural g.0) (natural h.0))
    order = ap (λ z. datum_cmp z w) g.1 ∙ ap (datum_cmp (natural g.0)) h.1

    at : (p q : Bool) → nat_lt x.1 y.0 ≡ p → nat_lt y.1 x.0 ≡ q → (if p then Some (compare_by op Less) else (if q then Some (compare_by op Greater) else None)) ≡ Some t →
        compare_by op (datum_cmp v w) ≡ t
    at true q k l z =
        ap (compare_by op) (order ∙ sym (nat_cmp_is g.0 h.0 Less (omega (arith, ltb-true x.1 y.0 k, g.3, h.2)))) ∙ same_Some (compare_by op Less) t z
    at false true k l z =
        ap (compare_by op) (order ∙ sym (nat_cmp_is g.0 h.0 Greater (omega (arith, ltb-true y.1 x.0 l, g.2, h.3)))) ∙ same_Some (compare_by op Greater) t z
    at false false k l z = cc

-- so the comparison has the truth value, wherever the facts hold and both sides have values
pub decided-sound : (V : Outcomes) (vals : List Datum) (c : Context) → FactsHold V c vals → (op : CompareOp) (a b : Term) (v w : Datum) (t : Bool) →
    decided_of c (compare_term op a b) ≡ Some t → cden V vals a ≡ Some v → cden V vals b ≡ Some w → cden V vals (compare_term op a b) ≡ Some (truth t)
decided-sound V vals c h op a b v w t e f g =
    let p = then-is (span c a) (λ x. span c b >>= decided_by op x) t e in
    let q = then-is (span c b) (decided_by op p.0) t p.2 in
    compared V vals op a b v w f g
    ∙ ap (λ z. Some (truth z)) (numbers-decided op p.0 q.0 v w t (span-sound V vals c h a p.0 v p.1 f) (span-sound V vals c h b q.0 w q.1 g) q.2)

-- intervals of which one lies wholly below the other decide
intervals-apart : (op : CompareOp) (x y : ℕ × ℕ) → (x.1 < y.0) ⊎ (y.1 < x.0) → (k : Bool) × (decided_by op x y ≡ Some k)
intervals-apart op x y (inl l) = (compare_by op Less, rw (lt-ltb x.1 y.0 l) refl)
intervals-apart op x y (inr l) = at (nat_lt x.1 y.0)
  where
    at : (p : Bool) → (k : Bool) × ((if p then Some (compare_by op Less) else (if nat_lt y.1 x.0 then Some (compare_by op Greater) else None)) ≡ Some k)
    at true = (compare_by op Less, refl)
    at false = (compare_by op Greater, rw (lt-ltb y.1 x.0 l) refl)

-- the clauses of `decided`, from its answer
pub decides : (c : Context) (t : Term) (o : Option Bool) → o ≡ decided_of c t → DecidesTruth c t o
decides c t o e V vals h op a b v w k s f g i =
    ap (cden V vals) s ∙ decided-sound V vals c h op a b v w k (sym (ap (decided_of c) s) ∙ sym e ∙ f) g i

pub decides-apart : (c : Context) (t : Term) (o : Option Bool) → o ≡ decided_of c t → DecidesApart c t o
decides-apart c t o e op a b x y s f g h =
    let d = intervals-apart op x y h in
    (d.0, e ∙ ap (decided_of c) s ∙ ap (λ p. p >>= λ z. span c b >>= decided_by op z) f ∙ ap (λ p. p >>= decided_by op x) g ∙ d.1)
