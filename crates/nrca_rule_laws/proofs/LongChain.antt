-- A chain of five steps over a tabulation too long to be evaluated: that its cells are defined follows from the law on firm terms.
use Rattle.std.specs.Prelude.{◌≡◌, ℕ, zero, suc, true, [], ◌∷◌, List, Some, refl}
use Rattle.std.proofs.Common.{subst, arith, ap, ◌∙◌}
use Rattle.std.proofs.lemmas.Option.{same_Some}
use Rattle.aql_value.specs.declared.ops.CompareOp.TheVariants as compare_op
use Rattle.aql_value.specs.Datum.{natural, truth}
use Rattle.aql_value.specs.Lists.{Every}
use Rattle.aql_value.specs.Laws.Lists.{Every-impl}
use Rattle.aql_value.specs.Strict.{Strict}
use Rattle.aql_ty.specs.Types as types
use Rattle.nrca_term.specs.declared.trace.Rule.TheVariants.{I1, L1, A1, C4}
use Rattle.nrca_term.specs.declared.trace.Step as code
use Rattle.nrca_term.specs.Term.{Term, none, part}
use Rattle.nrca_term.specs.Nodes.{variable, number, truth_term, bottom_term, let_term, if_term, less_term, sum_term, gen_term, tab_term, sub_term}
use Rattle.nrca_term.specs.Typing.{arg, instances, ctyped, OutcomesHave}
use Rattle.nrca_term.specs.Meaning.{Outcomes, cden}
use Rattle.nrca_term.specs.Places.{reach}
use Rattle.nrca_term.specs.Facts.{enter_facts, context_at, facts_at}
use Rattle.nrca_term.specs.Firm.{firm, is_defined}
use Rattle.nrca_term.specs.Rules.{Side, IsDefined, DefinedAt, Step, Replay}
use Rattle.nrca_term.specs.Normal.{FirmAt}
use Rattle.nrca_rule_laws.specs.Laws.Typed.{typed-head, typed-strict, typed-sum}
use Rattle.nrca_rule_laws.specs.Laws.Ways.{firm-side}

-- `summap(fn \x => [[j | \j<1000000000000]][x])!(gen!3)`, where x has a name of its own at first
abbrev bound : ℕ
bound = 1000000000000

abbrev cell : Term
cell = sub_term (tab_term (number bound ∷ []) (variable 0)) (variable 0 ∷ [])

abbrev over_three : Term → Term
over_three body = sum_term (gen_term (number 3)) body

abbrev named : Term
named = over_three (let_term (variable 0) cell)

abbrev guarded_cell : Term
guarded_cell = if_term (less_term (variable 0) (number bound)) (variable 0) bottom_term

-- x is put in
name_put_in : (V : Outcomes) → Step V L1 (1 ∷ []) named (over_three cell)
name_put_in V = record {
  from = let_term (variable 0) cell;
  to = cell;
  ways = [];
  found = refl;
  put = refl;
  redex = (variable 0, cell, (refl, refl), refl, refl);
  side = ((tt, tt), ((tt, tt), ((tt, tt), tt)));
  known = tt;
}

-- no position has a type
no_positions : (V : Outcomes) → OutcomesHave (instances []) V
no_positions V zero T v h e = let q = h.2 in cc
no_positions V (suc n) T v h e = let q = h.2 in cc

-- the sum has a type
number_typed : (env : List types.Ty) (n : ℕ) → ctyped (instances []) env (number n) types.natural
number_typed env n = typed-strict (instances []) env (Strict.nat n) [] [] types.natural tt (refl, refl) tt

sum_typed : ctyped (instances []) [] (over_three cell) types.natural
sum_typed =
    typed-sum (instances []) [] (gen_term (number 3)) cell types.natural
    (typed-strict (instances []) [] Strict.gen (number 3 ∷ []) (types.natural ∷ []) (types.set_of types.natural) tt (refl, refl) (number_typed [] 3, tt))
    (typed-strict (instances []) (types.natural ∷ []) Strict.sub (tab_term (number bound ∷ []) (variable 0) ∷ variable 0 ∷ []) (types.array_of 1 types.natural ∷ types.natural ∷ []) types.natural tt (1, (omega arith, omega arith), refl) (tab, (var (types.natural ∷ []), tt)))
  where
    var : (env : List types.Ty) → ctyped (instances []) (types.natural ∷ env) (variable 0) types.natural
    var env = (tt, [], (refl, refl), refl)

    tab : ctyped (instances []) (types.natural ∷ []) (tab_term (number bound ∷ []) (variable 0)) (types.array_of 1 types.natural)
    tab = (
      ((omega arith, omega arith), tt),
      arg [] types.natural ∷ arg (types.natural ∷ []) types.natural ∷ [],
      (types.natural, (omega arith, omega arith), refl, refl),
      typed-head (instances []) (types.natural ∷ []) (number bound) (part 1 (variable 0) none) (arg [] types.natural) (arg (types.natural ∷ []) types.natural ∷ []) (number_typed (types.natural ∷ []) bound)
          (typed-head (instances []) (types.natural ∷ []) (variable 0) none (arg (types.natural ∷ []) types.natural) [] (var (types.natural ∷ [])) refl),
    )

-- the body of the tabulation is defined at each of its indices, since a variable is firm
bodies_defined : (V : Outcomes) → Every (λ vals. Every (DefinedAt V vals cell) ((0 ∷ 1 ∷ []) ∷ [])) (reach V [] (over_three cell) (1 ∷ []))
bodies_defined V = firm-side (instances []) V (no_positions V) (over_three cell) types.natural sum_typed (1 ∷ []) cell refl ((0 ∷ 1 ∷ []) ∷ []) (body_firm, tt)
  where
    body_firm : FirmAt (is_defined V) (facts_at (over_three cell) (1 ∷ [])) cell (0 ∷ 1 ∷ [])
    body_firm s e = subst (λ t. firm (is_defined V) (context_at enter_facts (facts_at (over_three cell) (1 ∷ [])) cell (0 ∷ 1 ∷ [])) t ≡ true) (same_Some (variable 0) s e) refl

subscript_put_in : (V : Outcomes) → Step V A1 (1 ∷ []) (over_three cell) (over_three (let_term (variable 0) guarded_cell))
subscript_put_in V = record {
  from = cell;
  to = let_term (variable 0) guarded_cell;
  ways = (0 ∷ 1 ∷ []) ∷ [];
  found = refl;
  put = refl;
  redex = (number bound ∷ [], variable 0, variable 0 ∷ [], refl, refl, refl, refl);
  side = Every-impl (λ vals. Every (DefinedAt V vals cell) ((0 ∷ 1 ∷ []) ∷ [])) (λ vals. Side V A1 vals cell (let_term (variable 0) guarded_cell) ((0 ∷ 1 ∷ []) ∷ [])) (λ vals d. (d, tt)) (reach V [] (over_three cell) (1 ∷ [])) (bodies_defined V);
  known = tt;
}

-- the index is put in
index_put_in : (V : Outcomes) → Step V L1 (1 ∷ []) (over_three (let_term (variable 0) guarded_cell)) (over_three guarded_cell)
index_put_in V = record {
  from = let_term (variable 0) guarded_cell;
  to = guarded_cell;
  ways = [];
  found = refl;
  put = refl;
  redex = (variable 0, guarded_cell, (refl, refl), refl, refl);
  side = ((tt, tt), ((tt, tt), ((tt, tt), tt)));
  known = tt;
}

abbrev decided_cell : Term
decided_cell = if_term (truth_term true) (variable 0) bottom_term

-- a comparison of a member with the bound that is true may be put to true
below_bound : (V : Outcomes) (n : ℕ) → cden V (natural n ∷ []) (less_term (variable 0) (number bound)) ≡ Some (truth true) →
    Side V C4 (natural n ∷ []) (less_term (variable 0) (number bound)) (truth_term true) ((0 ∷ []) ∷ (1 ∷ []) ∷ [])
below_bound V n e = (
  (
    (λ s q. subst (λ t. IsDefined V (natural n ∷ []) t × Unit {0}) (same_Some (variable 0) s q) ((_, refl), tt)),
    ((λ s q. subst (λ t. IsDefined V (natural n ∷ []) t × Unit {0}) (same_Some (number bound) s q) ((_, refl), tt)), tt),
  ),
  (λ b q. let z : true ≡ b = cc in e ∙ ap (λ c. Some (truth c)) z),
)

-- each member below 3 is below the bound
comparison_decided : (V : Outcomes) → Step V C4 (1 ∷ 0 ∷ []) (over_three guarded_cell) (over_three decided_cell)
comparison_decided V = record {
  from = less_term (variable 0) (number bound);
  to = truth_term true;
  ways = (0 ∷ []) ∷ (1 ∷ []) ∷ [];
  found = refl;
  put = refl;
  redex = ((compare_op.Less, variable 0, number bound, refl), (true, refl), refl);
  side = (below_bound V 0 refl, (below_bound V 1 refl, (below_bound V 2 refl, tt)));
  known = tt;
}

branch_taken : (V : Outcomes) → Step V I1 (1 ∷ []) (over_three decided_cell) (over_three (variable 0))
branch_taken V = record {
  from = decided_cell;
  to = variable 0;
  ways = [];
  found = refl;
  put = refl;
  redex = (true, variable 0, bottom_term, refl, refl, refl);
  side = ((tt, tt), ((tt, tt), ((tt, tt), tt)));
  known = tt;
}

abbrev trace : List code.Step
trace = record { rule = L1; path = 1 ∷ [] } ∷ record { rule = A1; path = 1 ∷ [] } ∷ record { rule = L1; path = 1 ∷ [] } ∷ record { rule = C4; path = 1 ∷ 0 ∷ [] } ∷ record { rule = I1; path = 1 ∷ [] } ∷ []

-- the chain `L1 A1 L1 C4 I1`
replayed : (V : Outcomes) → Replay V trace named (over_three (variable 0))
replayed V = (
  over_three cell,
  name_put_in V,
  (over_three (let_term (variable 0) guarded_cell), subscript_put_in V, (over_three guarded_cell, index_put_in V, (over_three decided_cell, comparison_decided V, (over_three (variable 0), branch_taken V, refl)))),
)
