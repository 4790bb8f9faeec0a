-- What is claimed of the start term of a query.
pub mod Arrays
pub mod ClosedLaws
pub mod Matching
pub mod Meaning
pub mod Nodes
pub mod Positions
pub mod Scopes
pub mod Tabulations
pub mod Turns
pub mod TypedNodes
pub mod TypedPositions
pub mod Types
pub mod Unions
pub mod Weight
pub mod WellFormedLaws
use Rattle.std.specs.Prelude.{◌≡◌, ◌≤◌, ◌*◌, List, [], ◌∷◌, ◌++◌}
use Rattle.aql_syntax.specs.Tree.{Tree, Declaration}
use Rattle.aql_syntax.specs.Written.{IsWritten, DeclWritten}
use Rattle.aql_syntax.specs.Denotation.{den}
use Rattle.aql_syntax.specs.Work.{work}
use Rattle.aql_syntax.specs.Script.{Earlier, globals_of}
use Rattle.aql_syntax.specs.Sound.{declarations_of}
use Rattle.aql_ty.specs.Types.{Ty, Sort, IsType}
use Rattle.aql_syntax.specs.Size.{size, extents_of}
use Rattle.aql_syntax.specs.Typing.{Has, DeclHas, IsPrincipal, environment_of}
use Rattle.nrca_term.specs.Term.{Closed, WellFormed, weight_of}
use Rattle.nrca_term.specs.Meaning.{Outcomes, cden}
use Rattle.nrca_term.specs.Turns.{settle}
use Rattle.nrca_term.specs.Typing.{instances, ctyped}
use Rattle.aql_desugar_spec.specs.Positions.{outcomes_of, value_type}
use Rattle.aql_desugar_spec.specs.Start.{start, knowns_of}

-- the start term is worth what the query denotes and undefined where that is, whatever outcomes later positions have
abbrev pub StartMeans : Type 0
StartMeans = (earlier : Earlier) (later : Outcomes) (e : Tree) →
    cden (outcomes_of earlier ++ later) [] (start e (knowns_of (declarations_of earlier)) []) ≡ den e (globals_of earlier) []

-- it takes the turns of the query as written
abbrev pub StartTurns : Type 0
StartTurns = (earlier : Earlier) (later : Outcomes) (e : Tree) →
    settle (outcomes_of earlier ++ later) [] (start e (knowns_of (declarations_of earlier)) []) ≡ work e (globals_of earlier) []

-- it has no free variable
abbrev pub StartCloses : Type 0
StartCloses = (earlier : List Declaration) (e : Tree) → Closed 0 (start e (knowns_of earlier) [])

-- each part of its nodes has the variables that the node's form binds there
abbrev pub StartIsWellFormed : Type 0
StartIsWellFormed = (earlier : List Declaration) (e : Tree) → WellFormed (start e (knowns_of earlier) [])

-- each declaration has some sort over those before it, the latest first
abbrev pub EachHas : List Declaration → Type 0
EachHas [] = Unit {0}
EachHas (d ∷ earlier) = ((s : Sort) × DeclHas d (environment_of earlier) s) × EachHas earlier

-- it weighs at most 64 times the expanded size, where the query has a type and the declarations before it have sorts
abbrev pub StartWeighs : Type 0
StartWeighs = (earlier : List Declaration) (e : Tree) (T : Ty) → EachHas earlier → Has e (environment_of earlier) [] T →
    weight_of (start e (knowns_of earlier) []) ≤ 64 * size e (extents_of earlier)

-- each declaration is written in the surface language and has its principal sort over those before it, the latest first
abbrev pub EachPrincipal : List Declaration → List Sort → Type 0
EachPrincipal [] sorts = sorts ≡ []
EachPrincipal (d ∷ earlier) sorts =
    (s : Sort) × (rest : List Sort) × (sorts ≡ s ∷ rest) × DeclWritten d × IsPrincipal d (environment_of earlier) s × EachPrincipal earlier rest

-- the types of positions of which the latest is first, in order
abbrev pub sort_types : List Sort → List Ty
sort_types [] = []
sort_types (s ∷ earlier) = sort_types earlier ++ value_type s ∷ []

-- each type of the query that is one of the language is a type of its start term, over the principal types of the positions
abbrev pub StartTyped : Type 0
StartTyped = (earlier : List Declaration) (sorts : List Sort) (later : List Ty) (e : Tree) (T : Ty) → EachPrincipal earlier sorts → IsWritten e → IsType T →
    Has e (environment_of earlier) [] T → ctyped (instances (sort_types sorts ++ later)) [] (start e (knowns_of earlier) []) T
