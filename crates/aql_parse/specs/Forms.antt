-- What the code's operators, heads and qualifiers stand for.
use Rattle.std.specs.Prelude.{ℕ, List}
use Rattle.aql_value.specs.Strict.{Strict}
use Rattle.aql_syntax.specs.Lexis.{Lexeme}
use Rattle.aql_syntax.specs.Nodes.{operation_form}
use Rattle.aql_syntax.specs.View.{pat_of}
use Rattle.aql_syntax.specs.Grammar.{both, either}
use Rattle.aql_lex.specs.Texts.{text_of}
use Rattle.aql_parse_spec.specs.Parsing.{Joiner, builds, joins, Opening, applies, operates, functions, summaps, Front, from_set, from_cells, matches, tests}
use Rattle.aql_syntax.specs.declared.nodes.Operator.{Operator}
use Rattle.aql_syntax.specs.declared.nodes.Operator.TheVariants as operators
use Rattle.aql_parse.specs.declared.forms.Head.{Head}
use Rattle.aql_parse.specs.declared.forms.Head.TheVariants as heads
use Rattle.aql_syntax.specs.declared.nodes.Functional.TheVariants as functionals
use Rattle.aql_parse.specs.declared.forms.Front as code_front
use Rattle.aql_parse.specs.declared.forms.Front.TheVariants as fronts

-- an operator, as the grammar has it
abbrev pub joiner_of : Operator → Joiner
joiner_of (operators.Arith o) = builds (Strict.arith o)
joiner_of operators.Union = builds Strict.union
joiner_of (operators.Compare o) = builds (Strict.compare o)
joiner_of operators.And = joins both
joiner_of operators.Or = joins either

-- a head, before what follows it
abbrev pub opening_of : List ℕ → Head → List Lexeme → Opening
opening_of source (heads.Macro t) r = applies (text_of source t) r
opening_of source (heads.Operation o) r = operates (operation_form o) r
opening_of source (heads.Function functionals.Plain) r = functions r
opening_of source (heads.Function functionals.Sum) r = summaps r

-- what a qualifier is before its expression
abbrev pub front_seen : code_front.Front → Front
front_seen (fronts.Set p) = from_set (pat_of p)
front_seen (fronts.Cells p q) = from_cells (pat_of p) (pat_of q)
front_seen (fronts.Match p) = matches (pat_of p)
front_seen fronts.Test = tests
