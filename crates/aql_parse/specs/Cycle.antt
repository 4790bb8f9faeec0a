-- Parts of readings, as the code takes them: each is a part of a function on lists of lexemes, or that function by the
-- sign that stands first.
use Rattle.std.specs.Prelude.{List, Option, Some, None}
use Rattle.aql_syntax.specs.declared.sign.Sign.TheVariants as signs
use Rattle.aql_syntax.specs.Lexis.{Lexeme}
use Rattle.aql_syntax.specs.Tree.{Name, Pat, Tree, negation, default, Trees, no_tree, tree, Axes, no_axis, axis, Quals, no_qual, Defs, no_def, def, append, append_axes, append_quals, append_defs}
use Rattle.aql_value.specs.Partial.{◌>>=◌}
use Rattle.aql_parse_spec.specs.Parsing.{Out, Parser, Parsers, after, Joiner, Front, joined_by, add_qualifier}

-- one thing behind the sign that was looked for, another without it
abbrev pub when : {B : Type 0} → Option (List Lexeme) → (List Lexeme → B) → B → B
when None f b = b
when (Some r) f b = f r

-- behind the first part of an expression
unfoldable pub default_at : Parsers → Tree → Parser
default_at p a s = when (after signs.Default s) (λ r. p 8 r >>= λ x. Some (default a x.0, x.1)) (Some (a, s))

-- a negation, or else what is tighter
unfoldable pub not_at : Parsers → Parser → Parser
not_at p q s = when (after signs.Not s) (λ r. p 5 r >>= λ x. Some (negation x.0, x.1)) (q s)

-- an operator's second part, joined to its first
unfoldable pub joined_at : Parser → Joiner → Tree → Parser
joined_at q j a s = q s >>= λ x. Some (joined_by j a x.0, x.1)

-- behind one of a list: a comma and more, or nothing
unfoldable pub more_trees : (List Lexeme → Out Trees) → Tree → List Lexeme → Out Trees
more_trees more e s = when (after signs.Comma s) (λ r. more r >>= λ x. Some (tree e x.0, x.1)) (Some (tree e no_tree, s))

-- what follows the first index of a tabulation, by its sign
unfoldable pub more_axes : (List Lexeme → Out Axes) → Name → Tree → List Lexeme → Out Axes
more_axes more x e s = when (after signs.Comma s) (λ r. more r >>= λ y. Some (axis x e y.0, y.1)) (Some (axis x e no_axis, s))

-- what follows the first qualifier, by its sign
unfoldable pub more_quals : (List Lexeme → Out Quals) → Front → Tree → List Lexeme → Out Quals
more_quals more f e s = when (after signs.Comma s) (λ r. more r >>= λ y. Some (add_qualifier f e y.0, y.1)) (Some (add_qualifier f e no_qual, s))

-- behind one binding of a let: `val` and more, or nothing
unfoldable pub more_defs : (List Lexeme → Out Defs) → Pat → Tree → List Lexeme → Out Defs
more_defs more p e s = when (after signs.Val s) (λ r. more s >>= λ y. Some (def p e y.0, y.1)) (Some (def p e no_def, s))

-- lists behind those that came before them
abbrev pub with_trees : Trees → Out Trees → Out Trees
with_trees front o = o >>= λ x. Some (append front x.0, x.1)

-- indices that were read before those that follow
abbrev pub with_axes : Axes → Out Axes → Out Axes
with_axes front o = o >>= λ x. Some (append_axes front x.0, x.1)

-- qualifiers that were read before those that follow
abbrev pub with_quals : Quals → Out Quals → Out Quals
with_quals front o = o >>= λ x. Some (append_quals front x.0, x.1)

-- bindings that were read before those that follow
abbrev pub with_defs : Defs → Out Defs → Out Defs
with_defs front o = o >>= λ x. Some (append_defs front x.0, x.1)
