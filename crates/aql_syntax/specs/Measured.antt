-- The declarations of the code as sizes and names take them.
use Rattle.std.specs.Prelude.{ℕ, ◌+◌, List, [], ◌∷◌, map}
use Rattle.aql_syntax.specs.Tree.{Name, Declaration, Tree, declared_name}
use Rattle.aql_syntax.specs.View.{decl_of, tree_of, pat_of}
use Rattle.aql_syntax.specs.Size.{pat_nodes}
use Rattle.aql_syntax.specs.declared.ast.Qual as code_qual
use Rattle.aql_syntax.specs.declared.ast.Decl.{Decl}

-- declarations put before others one after another
abbrev pub onto : List Decl → List Declaration → List Declaration
onto [] ds = ds
onto (d ∷ rest) ds = onto rest (decl_of d ∷ ds)

-- the declarations of a list, the latest first
abbrev pub latest : List Decl → List Declaration
latest ds = onto ds []

-- the names that declarations bind, in order
abbrev pub names_of : List Decl → List Name
names_of ds = map (λ d. declared_name (decl_of d)) ds

-- the expression of a qualifier
abbrev pub qual_part : code_qual.Qual → Tree
qual_part (code_qual.From p e) = tree_of e
qual_part (code_qual.Cells p q e) = tree_of e
qual_part (code_qual.Match p e) = tree_of e
qual_part (code_qual.Test e) = tree_of e

-- the nodes of a qualifier's patterns
abbrev pub qual_pattern : code_qual.Qual → ℕ
qual_pattern (code_qual.From p e) = pat_nodes (pat_of p)
qual_pattern (code_qual.Cells p q e) = pat_nodes (pat_of p) + pat_nodes (pat_of q)
qual_pattern (code_qual.Match p e) = pat_nodes (pat_of p)
qual_pattern (code_qual.Test e) = 0
