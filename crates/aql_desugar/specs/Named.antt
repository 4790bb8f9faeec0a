-- The names of declarations.
use Rattle.std.specs.Prelude.{◌≡◌, ℕ, ◌-◌, List, length, map, take}
use Rattle.aql_syntax.specs.Tree.{Name, Declaration, declared_name}
use Rattle.aql_syntax.specs.Measured.{names_of}
use Rattle.aql_syntax.specs.declared.ast.Decl.{Decl}

-- the names begin with those of the code's declarations
abbrev pub BeginWith : List Decl → List Name → Type 0
BeginWith ds names = take (length ds) names ≡ names_of ds

-- the names begin with those of the declarations before declaration n, counted from 1
abbrev pub NameThoseBefore : List Declaration → (n : ℕ) → List Name → Type 0
NameThoseBefore ds n names = take (n - 1) names ≡ map declared_name (take (n - 1) ds)
