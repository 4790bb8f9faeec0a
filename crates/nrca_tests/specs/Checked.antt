-- Prepared scripts whose terms are typed.
use Rattle.std.specs.Prelude.{◌≡◌, ℕ, ◌-◌, [], Some}
use Rattle.std.specs.List.{slice_get}
use Rattle.aql_syntax.specs.Tree.{Tree, bare}
use Rattle.aql_syntax.specs.View.{decls_of}
use Rattle.aql_infer_steps.specs.Typed.{ArePrincipal, sorts_of}
use Rattle.aql_script.specs.declared.preparing.Prepared.{Prepared}

-- the positions have these principal types
abbrev pub IsChecked : Prepared → Type 0
IsChecked p = ArePrincipal [] (decls_of p.decls.items.items) (sorts_of p.typed.items.items)

-- declaration n, counted from 1, is a bare expression
abbrev pub IsBareAt : Prepared → ℕ → Type 0
IsBareAt p n = (e : Tree) × (slice_get (decls_of p.decls.items.items) (n - 1) ≡ Some (bare e))
