-- Kinds of fields, a part at a time.
use Rattle.std.specs.Prelude.{List, ◌++◌, Option, Some}
use Rattle.aql_syntax.specs.declared.ast.Kind.{Kind}
use Rattle.aql_value.specs.Partial.{◌>>=◌}

-- kinds behind those that came before them
abbrev pub with_kinds : List Kind → Option (List Kind) → Option (List Kind)
with_kinds front o = o >>= λ ks. Some (front ++ ks)
