-- The expressions of the code's declarations.
use Rattle.std.proofs.Common.{◌≡◌, ◌<◌, ℕ, zero, suc, ◌-◌, List, [], ◌∷◌, length, get_or, Some, refl, sym, ap, ◌∙◌, arith}
use Rattle.std.specs.List.{slice_get}
use Rattle.aql_syntax.specs.View.{decl_of, decls_of}
use Rattle.aql_syntax.specs.declared.ast.Decl.{Decl}
use Rattle.aql_desugar_spec.specs.Start.{query}
use Rattle.aql_desugar.specs.Translation.{query_at, query_of}

decls_get : (ds : List Decl) (i : ℕ) (d : Decl) → i < length ds → slice_get (decls_of ds) i ≡ Some (decl_of (get_or ds i d))
decls_get [] i d h = absurd (omega (arith, h))
decls_get (x ∷ ds) zero d h = refl
decls_get (x ∷ ds) (suc i) d h = decls_get ds i d (omega (arith, h))

-- the expression of a declaration
pub query_here : (ds : List Decl) (n i : ℕ) (d : Decl) → i ≡ n - 1 → i < length ds → d ≡ get_or ds i d → query_of (decls_of ds) n ≡ query (decl_of d)
query_here ds n i d e h is =
    ap query_at (ap (slice_get (decls_of ds)) (sym e) ∙ decls_get ds i d h) ∙ ap (λ x. query (decl_of x)) (sym is)
