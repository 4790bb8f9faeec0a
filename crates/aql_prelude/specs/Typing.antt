-- The types of the prelude's declarations, each a derivation over those before it.
use Rattle.std.specs.Prelude.{List, [], ◌∷◌}
use Rattle.aql_ty.specs.Types.{Sort}
use Rattle.aql_syntax.specs.Tree.{Declaration}
use Rattle.aql_syntax.specs.Typing.{DeclHas, environment_of}
use Rattle.aql_prelude.specs.Prelude.{prelude_decls}

-- each declaration has some sort over those before it, the latest first
abbrev pub HaveSorts : List Declaration → List Declaration → Type 0
HaveSorts earlier [] = Unit {0}
HaveSorts earlier (d ∷ ds) = ((s : Sort) × DeclHas d (environment_of earlier) s) × HaveSorts (d ∷ earlier) ds

-- the prelude has a typing
abbrev pub PreludeIsTyped : Type 0
PreludeIsTyped = HaveSorts [] prelude_decls
