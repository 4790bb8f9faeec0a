-- What `check` answers.
use Rattle.std.specs.Prelude.{ℕ, zero, suc, List, [], ◌∷◌, Result, Ok, Err}
use Rattle.aql_ty.specs.Types.{Sort}
use Rattle.aql_ty.specs.View.{sort_of}
use Rattle.aql_syntax.specs.Tree.{Declaration}
use Rattle.aql_syntax.specs.Typing.{DeclHas, environment_of}
use Rattle.aql_infer_steps.specs.Typed.{sorts_of, ArePrincipal}
use Rattle.aql_infer_steps.specs.declared.positions.Position.{Position}
use Rattle.aql_infer_steps.specs.declared.typed.Typed.{Typed}
use Rattle.aql_infer.specs.declared.fault.TypeFault.{TypeFault}
use Rattle.aql_infer.specs.declared.fault.TypeFault.TheVariants as faults

-- no sort
abbrev pub HasNoSort : Declaration → List Declaration → Type 0
HasNoSort d earlier = (s : Sort) → DeclHas d (environment_of earlier) s → ⊥

-- declaration n, counted from 1, has no typing, and each before it has one
abbrev pub IsFirstUntyped : List Declaration → List Declaration → ℕ → Type 0
IsFirstUntyped earlier [] n = ⊥
IsFirstUntyped earlier (d ∷ ds) zero = ⊥
IsFirstUntyped earlier (d ∷ ds) (suc zero) = HasNoSort d earlier
IsFirstUntyped earlier (d ∷ ds) (suc (suc k)) = ((s : Sort) × DeclHas d (environment_of earlier) s) × IsFirstUntyped (d ∷ earlier) ds (suc k)

-- a principal scheme a position, or the first position that has no typing
abbrev pub IsChecked : Result Typed TypeFault → List Declaration → Type 0
IsChecked (Ok typed) ds = ArePrincipal [] ds (sorts_of typed.items.items)
IsChecked (Err (faults.NoType n)) ds = IsFirstUntyped [] ds n
IsChecked (Err faults.Memory) ds = Unit {0}

-- the sorts of positions
abbrev pub found_sorts : List Position → List Sort
found_sorts [] = []
found_sorts (p ∷ ps) = sort_of p.scheme ∷ found_sorts ps

-- the same of positions
abbrev pub AllFound : Result (List Position) TypeFault → List Declaration → Type 0
AllFound (Ok found) ds = ArePrincipal [] ds (found_sorts found)
AllFound (Err (faults.NoType n)) ds = IsFirstUntyped [] ds n
AllFound (Err faults.Memory) ds = Unit {0}
