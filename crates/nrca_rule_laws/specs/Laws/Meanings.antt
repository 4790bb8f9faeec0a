-- The rules B1, I1, I2, L1 to L3, P2, S1, S4, S9, A7, N1, N2, C1 to C3 and K1 on numbers: both sides have one value.
use Rattle.std.proofs.Common.{◌≡◌, ℕ, zero, suc, Bool, true, false, ◌⊎◌, nat_eq, List, [], ◌∷◌, ◌++◌, length, map, Option, Some, None, refl, sym, ap, ◌∙◌, arith, if◌then◌else◌, inl, inr}
use Rattle.std.proofs.lemmas.Option.{same_Some}
use Rattle.aql_value.specs.Datum as datum
use Rattle.aql_value.specs.Datum.{Datum, natural, truth, data_of}
use Rattle.aql_value.specs.Laws.Lists.{Every-all}
use Rattle.aql_value.specs.Operations.{as_truth, as_set, union_all, sum_of}
use Rattle.aql_value.specs.Partial.{◌>>=◌, each, or_else}
use Rattle.aql_value.specs.Laws.Partial.{then-assoc, then-ext, each-ext, each-map}
use Rattle.aql_value.specs.Strict.{Strict, strict_value}
use Rattle.nrca_term.specs.Term.{Term, Parts, node, none, part, Form, form_of, parts_of, child_of}
use Rattle.nrca_term.specs.Nodes.{number, truth_term, bottom_term, let_term, if_term, default_term, loop_term, empty_term, sub_term, text_term, arith_term, compare_term}
use Rattle.nrca_term.specs.Meaning.{Outcomes, worth, at_length, cden, part_values}
use Rattle.nrca_term.specs.Subst.{shift_term, subst_term, is_strict, strict_uses}
use Rattle.nrca_term.specs.Laws.Shifting.{cden-shift_term, cden-shifted}
use Rattle.nrca_term.specs.Laws.Substituting.{cden-subst_term}
use Rattle.nrca_term.specs.Laws.Undefined.{Worthless, form_value-worthless, cden-subst_term-undefined}
use Rattle.nrca_term.specs.Laws.Entering.{child-counted, length-part_values}
use Rattle.nrca_term.specs.Laws.Variants.{cden-strict}
use Rattle.nrca_term.specs.Facts.{Context, FactsHold, domain, test, denied, LiterallyKnown}
use Rattle.nrca_term.specs.Laws.Contexts.{literally-true, known-literally}
use Rattle.nrca_term.specs.Rules.{LoopOf, IsDefined, number_or_bottom}
use Rattle.aql_value.specs.declared.ops.ArithOp.{ArithOp}
use Rattle.aql_value.specs.declared.ops.CompareOp.{CompareOp}
use Rattle.aql_value.specs.Ops.{arith_by, compare_by}
use Rattle.aql_value.specs.Order.{datum_cmp}

-- an operation on one part
pub cden-unary : (V : Outcomes) (vals : List Datum) (s : Strict) (a : Term) → cden V vals (node (Form.strict s) (part 0 a none)) ≡ (cden V vals a >>= λ v. strict_value s (v ∷ []))
cden-unary V vals s a = cden-strict V vals s (a ∷ []) ∙ by (cden V vals a)
  where
    by : (o : Option Datum) → ((o >>= λ y. Some (y ∷ [])) >>= strict_value s) ≡ (o >>= λ v. strict_value s (v ∷ []))
    by None = refl
    by (Some v) = refl

-- a part that is bottom has no value
worth-bottom : (V : Outcomes) (vals : List Datum) (ps : Parts) (i : ℕ) → child_of ps i ≡ Some bottom_term → Worthless (worth (part_values V vals ps) i)
worth-bottom V vals none i e new = cc
worth-bottom V vals (part k t ps) zero e new = let z : t ≡ bottom_term = same_Some t bottom_term e in ap (λ u. at_length k (λ new. cden V (new ++ vals) u) new) z ∙ nothing (nat_eq (length new) k)
  where
    nothing : (b : Bool) → ◌≡◌ {A = Option Datum} (if b then None else None) None
    nothing true = refl
    nothing false = refl
worth-bottom V vals (part k t ps) (suc i) e new = worth-bottom V vals ps i e new

-- a strict part that is bottom makes the node undefined
pub keeps-b1 : (V : Outcomes) (vals : List Datum) (l : Term) (i : ℕ) → is_strict (form_of l) i ≡ true → child_of (parts_of l) i ≡ Some bottom_term → cden V vals l ≡ cden V vals bottom_term
keeps-b1 V vals (node f ps) i s e = form_value-worthless V vals f (part_values V vals ps) i s (omega (arith, child-counted ps i bottom_term e, length-part_values V vals ps)) (worth-bottom V vals ps i e)

-- an if whose test is a constant
pub keeps-i1 : (V : Outcomes) (vals : List Datum) (c : Bool) (a b : Term) → cden V vals (if_term (truth_term c) a b) ≡ cden V vals (if c then a else b)
keeps-i1 V vals true a b = refl
keeps-i1 V vals false a b = refl

-- a loop over an if is an if of loops
pub keeps-i2 : (V : Outcomes) (vals : List Datum) (f : Form) (z c e b : Term) → LoopOf f z → cden V vals (loop_term f (if_term c e empty_term) b) ≡ cden V vals (if_term c (loop_term f e b) z)
keeps-i2 V vals Form.big_union z c e b h = by (cden V vals c >>= as_truth)
  where
    by : (o : Option Bool) → ((((o >>= λ t. if t then cden V vals e else Some (datum.set (data_of []))) >>= as_set) >>= each (λ m. cden V (m ∷ vals) b)) >>= union_all)
        ≡ (o >>= λ t. if t then (((cden V vals e >>= as_set) >>= each (λ m. cden V (m ∷ vals) b)) >>= union_all) else cden V vals z)
    by None = refl
    by (Some true) = refl
    by (Some false) = sym (ap (cden V vals) h)
keeps-i2 V vals Form.sum z c e b h = by (cden V vals c >>= as_truth)
  where
    by : (o : Option Bool) → ((((o >>= λ t. if t then cden V vals e else Some (datum.set (data_of []))) >>= as_set) >>= each (λ m. cden V (m ∷ vals) b)) >>= sum_of)
        ≡ (o >>= λ t. if t then (((cden V vals e >>= as_set) >>= each (λ m. cden V (m ∷ vals) b)) >>= sum_of) else cden V vals z)
    by None = refl
    by (Some true) = refl
    by (Some false) = sym (ap (cden V vals) h)
keeps-i2 V vals _ z c e b h = absurd h

-- a let whose bound term has a value
pub keeps-let_some : (V : Outcomes) (vals : List Datum) (e b : Term) (v : Datum) → cden V vals e ≡ Some v → cden V vals (let_term e b) ≡ cden V vals (subst_term 0 e b)
keeps-let_some V vals e b v h = ap (λ o. o >>= λ x. cden V (x ∷ vals) b) h ∙ sym (cden-subst_term V [] vals v e h b)

-- a let whose variable is used strictly
pub keeps-l2 : (V : Outcomes) (vals : List Datum) (e b : Term) → strict_uses 0 b ≡ 1 → cden V vals (let_term e b) ≡ cden V vals (subst_term 0 e b)
keeps-l2 V vals e b u = by (cden V vals e) refl
  where
    by : (o : Option Datum) → cden V vals e ≡ o → cden V vals (let_term e b) ≡ cden V vals (subst_term 0 e b)
    by None h = ap (λ o. o >>= λ x. cden V (x ∷ vals) b) h ∙ sym (cden-subst_term-undefined V [] vals e h b (omega (arith, u)))
    by (Some v) h = keeps-let_some V vals e b v h

-- a let whose variable is not used
pub keeps-l3 : (V : Outcomes) (vals : List Datum) (e r : Term) → IsDefined V vals e → cden V vals (let_term e (shift_term 0 1 r)) ≡ cden V vals r
keeps-l3 V vals e r d = ap (λ o. o >>= λ x. cden V (x ∷ vals) (shift_term 0 1 r)) d.1 ∙ cden-shifted V (d.0 ∷ []) vals r

-- a loop over a let
over-let : (V : Outcomes) (vals : List Datum) (e m b : Term) (g : List Datum → Option Datum) → ((((cden V vals e >>= λ v. cden V (v ∷ vals) m) >>= as_set) >>= each (λ x. cden V (x ∷ vals) b)) >>= g)
    ≡ (cden V vals e >>= λ v. (((cden V (v ∷ vals) m >>= as_set) >>= each (λ x. cden V (x ∷ (v ∷ vals)) (shift_term 1 1 b))) >>= g))
over-let V vals e m b g = by (cden V vals e)
  where
    bodies : (v : Datum) (o : Option (List Datum)) → (o >>= each (λ x. cden V (x ∷ vals) b)) ≡ (o >>= each (λ x. cden V (x ∷ (v ∷ vals)) (shift_term 1 1 b)))
    bodies v None = refl
    bodies v (Some xs) = each-ext (λ x. cden V (x ∷ vals) b) (λ x. cden V (x ∷ (v ∷ vals)) (shift_term 1 1 b)) xs (Every-all _ (λ x. sym (cden-shift_term V (x ∷ []) (v ∷ []) vals b)) xs)

    by : (o : Option Datum) → ((((o >>= λ v. cden V (v ∷ vals) m) >>= as_set) >>= each (λ x. cden V (x ∷ vals) b)) >>= g)
        ≡ (o >>= λ v. (((cden V (v ∷ vals) m >>= as_set) >>= each (λ x. cden V (x ∷ (v ∷ vals)) (shift_term 1 1 b))) >>= g))
    by None = refl
    by (Some v) = ap (λ o. o >>= g) (bodies v (cden V (v ∷ vals) m >>= as_set))

-- a loop over a let is a let of a loop
pub keeps-s9 : (V : Outcomes) (vals : List Datum) (f : Form) (z e m b : Term) → LoopOf f z → cden V vals (loop_term f (let_term e m) b) ≡ cden V vals (let_term e (loop_term f m (shift_term 1 1 b)))
keeps-s9 V vals Form.big_union z e m b h = over-let V vals e m b union_all
keeps-s9 V vals Form.sum z e m b h = over-let V vals e m b sum_of
keeps-s9 V vals _ z e m b h = absurd h

-- an operation on a let is a let of the operation
pub keeps-out_of_let : (V : Outcomes) (vals : List Datum) (s : Strict) (e b : Term) → cden V vals (node (Form.strict s) (part 0 (let_term e b) none)) ≡ cden V vals (let_term e (node (Form.strict s) (part 0 b none)))
keeps-out_of_let V vals s e b =
    cden-unary V vals s (let_term e b) ∙ then-assoc (cden V vals e) (λ v. cden V (v ∷ vals) b) (λ v. strict_value s (v ∷ []))
    ∙ then-ext (cden V vals e) (λ v. cden V (v ∷ vals) b >>= λ w. strict_value s (w ∷ [])) (λ v. cden V (v ∷ vals) (node (Form.strict s) (part 0 b none))) (λ v h. sym (cden-unary V (v ∷ vals) s b))

-- a subscript of a let is a let of a subscript
pub keeps-a7_sub : (V : Outcomes) (vals : List Datum) (e b : Term) (is : List Term) → cden V vals (sub_term (let_term e b) is) ≡ cden V vals (let_term e (sub_term b (map (shift_term 0 1) is)))
keeps-a7_sub V vals e b is = cden-strict V vals Strict.sub (let_term e b ∷ is) ∙ by (cden V vals e) ∙ then-ext (cden V vals e) _ _ (λ v h. sym (cden-strict V (v ∷ vals) Strict.sub (b ∷ map (shift_term 0 1) is)))
  where
    indices : (v : Datum) → each (cden V (v ∷ vals)) (map (shift_term 0 1) is) ≡ each (cden V vals) is
    indices v = each-map (cden V (v ∷ vals)) (shift_term 0 1) is ∙ each-ext (λ i. cden V (v ∷ vals) (shift_term 0 1 i)) (cden V vals) is (Every-all _ (λ i. cden-shifted V (v ∷ []) vals i) is)

    by : (o : Option Datum) → (((o >>= λ v. cden V (v ∷ vals) b) >>= λ y. each (cden V vals) is >>= λ ys. Some (y ∷ ys)) >>= strict_value Strict.sub)
        ≡ (o >>= λ v. ((cden V (v ∷ vals) b >>= λ y. each (cden V (v ∷ vals)) (map (shift_term 0 1) is) >>= λ ys. Some (y ∷ ys)) >>= strict_value Strict.sub))
    by None = refl
    by (Some v) = ap (λ q. (cden V (v ∷ vals) b >>= λ y. q >>= λ ys. Some (y ∷ ys)) >>= strict_value Strict.sub) (sym (indices v))

-- a default whose first part is bottom
pub keeps-n1 : (V : Outcomes) (vals : List Datum) (r : Term) → cden V vals (default_term bottom_term r) ≡ cden V vals r
keeps-n1 V vals r = refl

-- a default whose first part has a value
pub keeps-n2 : (V : Outcomes) (vals : List Datum) (r b : Term) → IsDefined V vals r → cden V vals (default_term r b) ≡ cden V vals r
keeps-n2 V vals r b d = ap (λ o. or_else o (cden V vals b)) d.1 ∙ sym d.1

-- a comparison that the facts tell of
pub keeps-known : (V : Outcomes) (c : Context) (vals : List Datum) (l : Term) → FactsHold V c vals → (b : Bool) → ((LiterallyKnown domain c l ⊎ LiterallyKnown test c l) × (b ≡ true)) ⊎ (LiterallyKnown denied c l × (b ≡ false)) →
    cden V vals l ≡ cden V vals (truth_term b)
keeps-known V c vals l h b (inl (inl k, e)) = literally-true V c vals true l h (known-literally domain c l k) ∙ ap (λ t. Some (truth t)) (sym e)
keeps-known V c vals l h b (inl (inr k, e)) = literally-true V c vals true l h (known-literally test c l k) ∙ ap (λ t. Some (truth t)) (sym e)
keeps-known V c vals l h b (inr (k, e)) = literally-true V c vals false l h (known-literally denied c l k) ∙ ap (λ t. Some (truth t)) (sym e)

-- arithmetic on numbers
pub keeps-arithmetic : (V : Outcomes) (vals : List Datum) (op : ArithOp) (m n : ℕ) → cden V vals (arith_term op (number m) (number n)) ≡ cden V vals (number_or_bottom (arith_by op m n))
keeps-arithmetic V vals op m n = by (arith_by op m n)
  where
    by : (o : Option ℕ) → (o >>= λ k. Some (natural k)) ≡ cden V vals (number_or_bottom o)
    by None = refl
    by (Some k) = refl

-- comparisons of constants
pub keeps-compared : (V : Outcomes) (vals : List Datum) (op : CompareOp) → ((m n : ℕ) → cden V vals (compare_term op (number m) (number n)) ≡ cden V vals (truth_term (compare_by op (datum_cmp (natural m) (natural n)))))
    × ((a b : Bool) → cden V vals (compare_term op (truth_term a) (truth_term b)) ≡ cden V vals (truth_term (compare_by op (datum_cmp (truth a) (truth b)))))
    × ((s t : List ℕ) → cden V vals (compare_term op (text_term s) (text_term t)) ≡ cden V vals (truth_term (compare_by op (datum_cmp (datum.text s) (datum.text t)))))
keeps-compared V vals op = ((λ m n. refl), (λ a b. refl), (λ s t. refl))
