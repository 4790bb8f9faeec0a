-- What the code's operators and operations, and its functions written in place, stand for.
use Rattle.aql_value.specs.Strict.{Strict}
use Rattle.aql_syntax.specs.Tree.{Pat, Tree, conjunction, disjunction, function, summap}
use Rattle.aql_syntax.specs.View.{of_two}
use Rattle.aql_syntax.specs.declared.nodes.Operator.{Operator}
use Rattle.aql_syntax.specs.declared.nodes.Operator.TheVariants as operators
use Rattle.aql_syntax.specs.declared.nodes.Operation.{Operation}
use Rattle.aql_syntax.specs.declared.nodes.Operation.TheVariants as operations
use Rattle.aql_syntax.specs.declared.nodes.Functional.{Functional}
use Rattle.aql_syntax.specs.declared.nodes.Functional.TheVariants as functionals

-- an operation on one part
abbrev pub operation_form : Operation → Strict
operation_form operations.Gen = Strict.gen
operation_form operations.Get = Strict.get
operation_form (operations.Dim k) = Strict.dim k
operation_form (operations.Index k) = Strict.index k

-- an operator between two parts
abbrev pub joined_of : Operator → Tree → Tree → Tree
joined_of operators.And a b = conjunction a b
joined_of operators.Or a b = disjunction a b
joined_of (operators.Compare o) a b = of_two (Strict.compare o) a b
joined_of (operators.Arith o) a b = of_two (Strict.arith o) a b
joined_of operators.Union a b = of_two Strict.union a b

-- a function applied, or summed over a set
abbrev pub functional_of : Functional → Pat → Tree → Tree → Tree
functional_of functionals.Plain p body a = function p body a
functional_of functionals.Sum p body a = summap p body a
