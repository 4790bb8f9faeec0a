-- What the translation of a query says of its start term.
use Rattle.std.proofs.Common.{◌≡◌, ℕ, ◌-◌, List, map, take, Option, Some, refl, sym, ap, ◌∙◌, subst, arith}
use Rattle.std.specs.Prelude.{slice_get, IsSome}
use Rattle.std.proofs.lemmas.List.{take-map, take-take}
use Rattle.aql_ty.specs.Types.{Sort}
use Rattle.aql_syntax.specs.Size.{before}
use Rattle.aql_syntax.specs.Tree.{Name, Tree, Declaration, declared_name}
use Rattle.nrca_term.specs.Term.{Term}
use Rattle.aql_desugar_spec.specs.Start.{query}
use Rattle.aql_desugar.specs.Named.{NameThoseBefore}
use Rattle.aql_desugar.specs.Translation.{query_at, query_of, IsTranslated}
use Rattle.aql_session.specs.Executions.{IsQuery}
use Rattle.aql_session.specs.Step.{start_term}

found-is : (x : Option Declaration) (q : IsQuery x) → query_at x ≡ Some q.1
found-is x q = ap query_at q.2 ∙ q.3

some-is : (x : Option Tree) (e : Tree) → x ≡ Some e → IsSome x
some-is x e h = subst IsSome (sym h) refl

-- a declaration that is no macro has an expression
pub some-query : (ds : List Declaration) (n : ℕ) (x : Option Declaration) → IsQuery (slice_get ds (n - 1)) → IsSome (query_of ds n)
some-query ds n x q = some-is (query_of ds n) q.1 (found-is (slice_get ds (n - 1)) q)

-- the term that is answered is the start term
pub start-is : (ds : List Declaration) (sorts : List Sort) (n : ℕ) (d : Declaration) (t : Term) → slice_get ds (n - 1) ≡ Some d → IsQuery (slice_get ds (n - 1)) →
    ((e : Tree) → query_of ds n ≡ Some e → IsTranslated ds sorts n e t) → t ≡ start_term (query d) (before ds n)
start-is ds sorts n d t e q h =
    let x = found-is (slice_get ds (n - 1)) q in
    let y : query d ≡ Some q.1 = sym (ap query_at e) ∙ x in
    (h q.1 x).exact ∙ ap (λ z. start_term z (before ds n)) (sym y)

-- the names of all positions before one begin with themselves
pub names-before : (ds : List Declaration) (n : ℕ) (ns : List Name) → ns ≡ map declared_name (take (n - 1) ds) → NameThoseBefore ds n ns
names-before ds n ns e = ap (take (n - 1)) e ∙ take-map declared_name (n - 1) (take (n - 1) ds) ∙ ap (map declared_name) (take-take (n - 1) (n - 1) ds (omega arith))
