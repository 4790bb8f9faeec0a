-- The principal sorts of a script's declarations.
use Rattle.std.specs.Prelude.{List, [], ◌∷◌}
use Rattle.aql_ty.specs.Types.{Sort}
use Rattle.aql_ty.specs.View.{sort_of}
use Rattle.aql_ty.specs.declared.ty.Scheme as code_scheme
use Rattle.aql_syntax.specs.Tree.{Declaration}
use Rattle.aql_syntax.specs.Typing.{environment_of, IsPrincipal}
use Rattle.aql_infer_steps.specs.Numbering.{IsNumbered}

-- the sorts that the schemes of a list are
abbrev pub sorts_of : List code_scheme.Scheme → List Sort
sorts_of [] = []
sorts_of (s ∷ ss) = sort_of s ∷ sorts_of ss

-- principal over the positions before it, the latest first, with its variables numbered by first appearance
pub record IsPrincipalScheme (d : Declaration) (earlier : List Declaration) (s : Sort) : Type 0 where
  pub principal : IsPrincipal d (environment_of earlier) s
  pub numbered : IsNumbered s

-- as many sorts as declarations, each principal for its own over the positions before it
abbrev pub ArePrincipal : List Declaration → List Declaration → List Sort → Type 0
ArePrincipal earlier [] [] = Unit {0}
ArePrincipal earlier [] (s ∷ ss) = ⊥
ArePrincipal earlier (d ∷ ds) [] = ⊥
ArePrincipal earlier (d ∷ ds) (s ∷ ss) = IsPrincipalScheme d earlier s × ArePrincipal (d ∷ earlier) ds ss
