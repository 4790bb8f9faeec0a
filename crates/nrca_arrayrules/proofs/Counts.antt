-- Where A6 fits, by the number of cells that dimensions say.
use Rattle.std.proofs.Common.{◌≡◌, ℕ, ◌+◌, ◌<◌, ◌^◌, Bool, true, false, List, length, map, Some, refl, sym, ap, ◌∙◌, arith}
use Rattle.std.proofs.lemmas.List.{length-map}
use Rattle.aql_value.specs.Indices.{product}
use Rattle.aql_value.specs.Lists.{below}
use Rattle.nrca_term.specs.declared.trace.Rule.TheVariants.{A6}
use Rattle.nrca_term.specs.Term.{Term}
use Rattle.nrca_term.specs.Nodes.{number, dim_term, literal_term}
use Rattle.nrca_term.specs.Rules.{in_first, sizes_term, constant_literal}
use Rattle.nrca_rule_laws.specs.Fitting.{RuleFits, IsRight}
use Rattle.nrca_rule_laws.specs.Laws.Fitting.{right-side}
use Rattle.nrca_term.specs.Cells.{CountsCells}
use Rattle.nrca_term.specs.Laws.Lists.{literal-parts, numbers-same}
use Rattle.nrca_arrayrules.specs.Constants.{IsConstantArray}

-- equal ranks and counts make a constant array
pub constant-yes : (k c p : ℕ) (ds cs : List Term) → c ≡ length ds → length cs < 2 ^ 64 → CountsCells ds (Some p) → (k ≡ c) × (p ≡ length cs) → IsConstantArray k ds cs
constant-yes k c p ds cs e l t h = (t.0, t.1, h.0 ∙ e ∙ ap length t.1 ∙ length-map t.0 number, omega (arith, t.2, h.1, l))

-- a constant array has equal ranks and counts
pub constant-back : (k c p : ℕ) (ds cs : List Term) → c ≡ length ds → length cs < 2 ^ 64 → CountsCells ds (Some p) → IsConstantArray k ds cs → (k ≡ c) × (p ≡ length cs)
constant-back k c p ds cs e l t h =
    let z = numbers-same t.0 h.0 (sym t.1 ∙ h.1) in
    (h.2 ∙ sym (length-map h.0 number) ∙ ap length (sym h.1) ∙ sym e, omega (arith, t.2, ap product z, h.3, l))

-- equal dimensions of literals have equal ranks, dimensions and cells
literal-same : (k m : ℕ) (ds es cs xs : List Term) → dim_term k (literal_term ds cs) ≡ dim_term m (literal_term es xs) → (k ≡ m) × (ds ≡ es) × (cs ≡ xs)
literal-same k m ds es cs xs e =
    let h : literal_term ds cs ≡ literal_term es xs = cc in
    let r = literal-parts ds es cs xs h in
    (cc, r.0, r.1)

-- A6 fits exactly the dimensions of a constant array
pub a6_tells : (b : Bool) (k : ℕ) (t o : Term) (ds cs : List Term) → t ≡ dim_term k o → o ≡ literal_term ds cs → (b ≡ true → IsConstantArray k ds cs) → (IsConstantArray k ds cs → b ≡ true) → RuleFits A6 b t
a6_tells true k t o ds cs h e f g =
    let w = f refl in
    (sizes_term (map number w.0), in_first (map (λ i. length w.0 + i) (below (length cs))), (w.0, cs, h ∙ ap (dim_term k) (e ∙ ap (λ xs. literal_term xs cs) w.1) ∙ ap (λ n. dim_term n (constant_literal w.0 cs)) w.2, w.3, refl, refl))
a6_tells false k t o ds cs h e f g = λ r ws y.
    let z = literal-same k (length y.0) ds (map number y.0) cs y.1 (ap (dim_term k) (sym e) ∙ sym h ∙ y.2) in
    let q : false ≡ true = g (y.0, z.1, z.0, y.3 ∙ ap length (sym z.2)) in cc

-- the dimensions are the right side of A6
pub a6_right : (k : ℕ) (t o r : Term) (ds cs : List Term) → t ≡ dim_term k o → o ≡ literal_term ds cs → RuleFits A6 true t → r ≡ sizes_term ds → IsRight A6 t r
a6_right k t o r ds cs h e f p =
    let z = literal-same k (length f.2.0) ds (map number f.2.0) cs f.2.1 (ap (dim_term k) (sym e) ∙ sym h ∙ f.2.2) in
    right-side A6 t r f.1 (f.2.0, f.2.1, f.2.2, f.2.3, p ∙ ap sizes_term z.1, f.2.5)
