-- The term of a bare expression is typed.
use Rattle.std.proofs.Common.{◌≡◌, ℕ, ◌-◌, List, [], ◌++◌, Some, ap}
use Rattle.std.specs.Prelude.{slice_get}
use Rattle.aql_ty.specs.Types as types
use Rattle.aql_ty.specs.Types.{Ty, Sort, IsType}
use Rattle.aql_syntax.specs.Size.{before}
use Rattle.aql_syntax.specs.Tree.{Tree, Declaration, bare}
use Rattle.aql_syntax.specs.Typing.{Environment, Has, DeclHas, environment_of}
use Rattle.aql_infer_steps.specs.Laws.Principal.{sort-at}
use Rattle.aql_infer_steps.specs.Typed.{ArePrincipal}
use Rattle.nrca_term.specs.Term.{Term}
use Rattle.nrca_term.specs.Typing.{IsTyped}
use Rattle.aql_desugar.specs.Translation.{IsTranslated, types_before, query_of, query_at}

-- a bare expression has a type of the language
bare-has : (e : Tree) (g : Environment) (s : Sort) → DeclHas (bare e) g s → (T : Ty) × IsType T × Has e g [] T
bare-has e g (types.value t) h = (t, h.0.2, h.1)
bare-has e g (types.macro s t) h = absurd h

-- the term of a bare expression is typed
pub bare-typed : (ds : List Declaration) (sorts : List Sort) (n : ℕ) (t : Term) (e : Tree) → ArePrincipal [] ds sorts → slice_get ds (n - 1) ≡ Some (bare e) →
    ((x : Tree) → query_of ds n ≡ Some x → IsTranslated ds sorts n x t) → IsTyped t
bare-typed ds sorts n t e h q x =
    let s = sort-at ds sorts n (bare e) h q in
    let y = bare-has e (environment_of (before ds n)) s.0 s.2.principal.has in
    (types_before sorts n ++ [], y.0, (x e (ap query_at q)).types h [] y.0 y.1 y.2)
