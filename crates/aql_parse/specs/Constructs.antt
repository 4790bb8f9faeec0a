-- Constructs of which a part is read: what each of them is by its next expression and what follows that.
-- p gives the parsers with one less depth; k is a number of turns that suffices.
use Rattle.std.proofs.Common.{Bor}
use Rattle.std.specs.Prelude.{ℕ, ◌≡◌, List, Option, Some, None, Result, Ok, Err}
use Rattle.aql_value.specs.Strict.{Strict}
use Rattle.aql_value.specs.Partial.{◌>>=◌}
use Rattle.aql_syntax.specs.declared.sign.Sign.TheVariants as signs
use Rattle.aql_syntax.specs.Lexis.{Lexeme}
use Rattle.aql_syntax.specs.Nodes.{operation_form, functional_of}
use Rattle.aql_syntax.specs.Tree.{Name, Pat, Tree, op, members, comp, tab, bindings, choice, negation, default, apply, Trees, no_tree, tree, Axes, no_axis, Quals, no_qual, Defs, count_axes}
use Rattle.aql_syntax.specs.View.{pat_of, tree_of, trees_of, axes_in, quals_of, defs_in, of_one}
use Rattle.aql_parse_spec.specs.Parsing.{Out, Parser, Parsers, after, Front, short, list_at, binder_at, axes_at, quals_at, defs_at, grouping, literal_of, closed_twice, sub_rest}
use Rattle.aql_parse.specs.declared.words.Word.{Word}
use Rattle.aql_parse.specs.declared.refusal.Refusal.{Refusal}
use Rattle.aql_parse.specs.declared.constructs.Enclosure.{Enclosure}
use Rattle.aql_parse.specs.declared.constructs.Enclosure.TheVariants as enclosures
use Rattle.aql_parse.specs.declared.constructs.Elements.{Elements}
use Rattle.aql_parse.specs.declared.constructs.Indices.{Indices}
use Rattle.aql_parse.specs.declared.constructs.Qualifiers.{Qualifiers}
use Rattle.aql_parse.specs.declared.constructs.Definitions.{Definitions}
use Rattle.aql_parse.specs.declared.constructs.Construct.{Construct}
use Rattle.aql_parse.specs.declared.constructs.Construct.TheVariants as constructs
use Rattle.aql_parse.specs.declared.constructs.Progress.{Progress}
use Rattle.aql_parse.specs.declared.constructs.Progress.TheVariants as progresses
use Rattle.aql_parse.specs.Words.{lexemes, RefusesReading}
use Rattle.aql_parse.specs.Forms.{front_seen}
use Rattle.aql_parse.specs.Parts.{few_of, one_of}
use Rattle.aql_parse.specs.Cycle.{when, more_trees, more_axes, more_quals, more_defs, with_trees, with_axes, with_quals, with_defs}

-- behind the first branch of a choice: `else` and the second
unfoldable pub else_at : Parsers → Tree → Tree → Parser
else_at p c a s = after signs.Else s >>= λ r. p 8 r >>= λ b. Some (choice c a b.0, b.1)

-- behind the test of a choice: `then`, the first branch and what follows it
unfoldable pub then_at : Parsers → Tree → Parser
then_at p c s = after signs.Then s >>= λ r. p 8 r >>= λ a. else_at p c a.0 a.1

-- behind the body of a function: `)`, `!` and what it is applied to
unfoldable pub argument_from : Parsers → (Pat → Tree → Tree → Tree) → Pat → Tree → Parser
argument_from p f x e s = after signs.Close s >>= λ r. after signs.Bang r >>= λ r'. p 0 r' >>= λ a. Some (f x e a.0, a.1)

-- expressions behind those that came before them, n more at most, and what closes them
unfoldable pub members_at : Parsers → (Trees → Parser) → Trees → ℕ → Parser
members_at p closed front n s = with_trees front (list_at p n s) >>= λ x. closed x.0 x.1

-- the same behind one of them
unfoldable pub member_at : Parsers → (Trees → Parser) → Trees → ℕ → Tree → Parser
member_at p closed front n e s = with_trees front (more_trees (list_at p n) e s) >>= λ x. closed x.0 x.1

-- indices behind those that came before them, n more at most, and what closes them
unfoldable pub indices_at : Parsers → (Axes → Parser) → Axes → ℕ → Parser
indices_at p closed front n s = with_axes front (axes_at p n s) >>= λ x. closed x.0 x.1

-- the same behind the bound of one
unfoldable pub index_at : Parsers → (Axes → Parser) → Axes → ℕ → Name → Tree → Parser
index_at p closed front n x e s = with_axes front (more_axes (axes_at p n) x e s) >>= λ y. closed y.0 y.1

-- qualifiers behind those that came before them, n more at most, and what closes them
unfoldable pub qualifiers_at : Parsers → ℕ → (Quals → Parser) → Quals → ℕ → Parser
qualifiers_at p k closed front n s = with_quals front (quals_at p k n s) >>= λ x. closed x.0 x.1

-- the same behind the expression of one
unfoldable pub qualifier_at : Parsers → ℕ → (Quals → Parser) → Quals → ℕ → Front → Tree → Parser
qualifier_at p k closed front n f e s = with_quals front (more_quals (quals_at p k n) f e s) >>= λ x. closed x.0 x.1

-- bindings behind those that came before them, n more at most, and what closes them
unfoldable pub definitions_at : Parsers → ℕ → (Defs → Parser) → Defs → ℕ → Parser
definitions_at p k closed front n s = with_defs front (defs_at p k n s) >>= λ x. closed x.0 x.1

-- the same behind the expression of one
unfoldable pub definition_at : Parsers → ℕ → (Defs → Parser) → Defs → ℕ → Pat → Tree → Parser
definition_at p k closed front n x e s = with_defs front (more_defs (defs_at p k n) x e s) >>= λ y. closed y.0 y.1

-- behind the expressions in parentheses
unfoldable pub paren_closed : Parsers → ℕ → Trees → Parser
paren_closed p k es s = after signs.Close s >>= λ r. sub_rest p k k (grouping es) r

-- behind the subscripts of an expression, where n more lists of them may follow
unfoldable pub subs_closed : Parsers → ℕ → Tree → ℕ → Trees → Parser
subs_closed p k a n es s = few_of es >>= λ xs. after signs.CloseBracket s >>= λ r. sub_rest p k n (op Strict.sub (tree a xs)) r

-- behind the cells of a literal of these dimensions
unfoldable pub cells_closed : Parsers → ℕ → Trees → Trees → Parser
cells_closed p k ds cs s = closed_twice s >>= λ r. sub_rest p k k (literal_of ds cs) r

-- behind the indices of a tabulation
unfoldable pub table_closed : Parsers → ℕ → Tree → Axes → Parser
table_closed p k e xs s = short (count_axes xs) xs >>= λ ys. closed_twice s >>= λ r. sub_rest p k k (tab ys e) r

-- behind the qualifiers of a comprehension
unfoldable pub comp_closed : Parsers → ℕ → Tree → Quals → Parser
comp_closed p k e qs s = after signs.CloseBrace s >>= λ r. sub_rest p k k (comp e qs) r

-- behind the first expressions in braces
unfoldable pub brace_closed : Parsers → ℕ → Trees → Parser
brace_closed p k es s =
    when (after signs.CloseBrace s) (sub_rest p k k (members es))
    (after signs.Bar s >>= λ r. one_of es >>= λ e. qualifiers_at p k (comp_closed p k e) no_qual k r)

-- behind an opening brace
unfoldable pub braces_from : Parsers → ℕ → Parser
braces_from p k s = when (after signs.CloseBrace s) (sub_rest p k k (op Strict.empty no_tree)) (members_at p (brace_closed p k) no_tree k s)

-- behind the dimensions of a literal and their semicolon
unfoldable pub cells_from : Parsers → ℕ → Trees → Parser
cells_from p k ds s = when (after signs.CloseBracket s) (λ r. cells_closed p k ds no_tree s) (members_at p (cells_closed p k ds) no_tree k s)

-- behind the first expressions in double brackets
unfoldable pub bracket_closed : Parsers → ℕ → Trees → Parser
bracket_closed p k es s =
    when (after signs.Semicolon s) (λ r. few_of es >>= λ ds. cells_from p k ds r)
    (after signs.Bar s >>= λ r. one_of es >>= λ e. indices_at p (table_closed p k e) no_axis k r)

-- behind the body of a let
unfoldable pub body_closed : Parsers → ℕ → Defs → Tree → Parser
body_closed p k ds e s = after signs.End s >>= λ r. sub_rest p k k (bindings ds e) r

-- behind the bindings of a let
unfoldable pub let_closed : Parsers → ℕ → Defs → Parser
let_closed p k ds s = after signs.In s >>= λ r. p 8 r >>= λ e. body_closed p k ds e.0 e.1

-- behind the expressions of a list, by where it stands
abbrev pub enclosed_at : Parsers → ℕ → Enclosure → Trees → Parser
enclosed_at p k enclosures.Parentheses = paren_closed p k
enclosed_at p k enclosures.Braces = brace_closed p k
enclosed_at p k enclosures.Brackets = bracket_closed p k
enclosed_at p k (enclosures.Cells ds) = cells_closed p k (trees_of ds.items)
enclosed_at p k (enclosures.Subscripts a n) = subs_closed p k (tree_of a.value) n

-- the expressions of a list before the next of them
abbrev pub before_element : Parsers → ℕ → Elements → Parser
before_element p k m = members_at p (enclosed_at p k m.enclosure) (trees_of m.items.items) m.turns

-- the same behind the next of them
abbrev pub behind_element : Parsers → ℕ → Elements → Tree → Parser
behind_element p k m = member_at p (enclosed_at p k m.enclosure) (trees_of m.items.items) m.turns

-- the indices of a tabulation before the next of them
abbrev pub before_index : Parsers → ℕ → Indices → Parser
before_index p k m = indices_at p (table_closed p k (tree_of m.body.value)) (axes_in m.items.items) m.turns

-- the same behind the bound of the next of them
abbrev pub behind_bound : Parsers → ℕ → Indices → Name → Tree → Parser
behind_bound p k m = index_at p (table_closed p k (tree_of m.body.value)) (axes_in m.items.items) m.turns

-- the qualifiers of a comprehension before the next of them
abbrev pub before_qualifier : Parsers → ℕ → Qualifiers → Parser
before_qualifier p k m = qualifiers_at p k (comp_closed p k (tree_of m.head.value)) (quals_of m.items.items) m.turns

-- the same behind the expression of the next of them
abbrev pub behind_qualifier : Parsers → ℕ → Qualifiers → Front → Tree → Parser
behind_qualifier p k m = qualifier_at p k (comp_closed p k (tree_of m.head.value)) (quals_of m.items.items) m.turns

-- the bindings of a let before the next of them
abbrev pub before_definition : Parsers → ℕ → Definitions → Parser
before_definition p k m = definitions_at p k (let_closed p k) (defs_in m.items.items) m.turns

-- the same behind the expression of the next of them
abbrev pub behind_definition : Parsers → ℕ → Definitions → Pat → Tree → Parser
behind_definition p k m = definition_at p k (let_closed p k) (defs_in m.items.items) m.turns

-- the level of a construct's next expression
abbrev pub level_of : Construct → ℕ
level_of constructs.Not = 5
level_of (constructs.Macro f) = 0
level_of (constructs.Operation o) = 0
level_of (constructs.Argument f x e) = 0
level_of _ = 8

-- a construct behind its next expression
abbrev pub behind_part : Parsers → ℕ → Construct → Tree → Parser
behind_part p k constructs.Test c s = then_at p c s
behind_part p k (constructs.First c) a s = else_at p (tree_of c.value) a s
behind_part p k (constructs.Second c a) b s = Some (choice (tree_of c.value) (tree_of a.value) b, s)
behind_part p k (constructs.Default a) b s = Some (default (tree_of a.value) b, s)
behind_part p k constructs.Not a s = Some (negation a, s)
behind_part p k (constructs.Macro f) a s = Some (apply f a, s)
behind_part p k (constructs.Operation o) a s = Some (of_one (operation_form o) a, s)
behind_part p k (constructs.Function f x) e s = argument_from p (functional_of f) (pat_of x) e s
behind_part p k (constructs.Argument f x e) a s = Some (functional_of f (pat_of x) (tree_of e.value) a, s)
behind_part p k (constructs.Element m) e s = behind_element p k m e s
behind_part p k (constructs.Bound m x) e s = behind_bound p k m x e s
behind_part p k (constructs.Qualifier m f) e s = behind_qualifier p k m (front_seen f) e s
behind_part p k (constructs.Definition m x) e s = behind_definition p k m (pat_of x) e s
behind_part p k (constructs.Body ds) e s = body_closed p k (defs_in ds.items) e s

-- a construct before its next expression
unfoldable pub construct_at : Parsers → ℕ → Construct → Parser
construct_at p k c s = p (level_of c) s >>= λ x. behind_part p k c x.0 x.1

-- what has been read and what is left of it
abbrev pub progress_at : Parsers → ℕ → Progress → Parser
progress_at p k (progresses.Done e) s = Some (tree_of e, s)
progress_at p k (progresses.More c) s = construct_at p k c s

-- what was answered, and the words behind it, go on as the parser does at the front of the words
abbrev pub Continues : Parsers → ℕ → List ℕ → List Word → Result (Progress × Bor (List Word)) Refusal → Parser → Type 0
Continues p k source ws (Ok x) parser = parser (lexemes source ws) ≡ progress_at p k x.0 (lexemes source x.1.now)
Continues p k source ws (Err e) parser = RefusesReading e (parser (lexemes source ws))
