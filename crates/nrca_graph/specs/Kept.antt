-- What the array-free form keeps, as said of a term and of another one.
use Rattle.std.specs.Prelude.{◌≡◌, ◌+◌, ◌≤◌, List, map}
use Rattle.aql_value.specs.Datum.{Datum}
use Rattle.aql_ty.specs.Types.{Ty}
use Rattle.aql_ty.specs.ValueTypes.{HaveTypes}
use Rattle.nrca_term.specs.Term.{Term}
use Rattle.nrca_term.specs.Meaning.{Outcomes, cden}
use Rattle.nrca_term.specs.Typing.{ctyped, instances, OutcomesHave}
use Rattle.nrca_graph.specs.Encoding.{encoding, encode_outcome, encoding_type}
use Rattle.nrca_term.specs.Turns.{settle}
use Rattle.nrca_graph.specs.GraphTurns.{graph_turns}
use Rattle.nrca_graph.specs.Counts.{sums_of, big_unions_of, ranks_of}

-- where the first term is typed, the other means its encoded value over encoded outcomes and variables, and is undefined exactly where it is
abbrev pub MeansEncoded : Term → Term → Type 0
MeansEncoded t g = (given : List Ty) (V : Outcomes) → OutcomesHave (instances given) V → (env : List Ty) (vals : List Datum) (T : Ty) → HaveTypes env vals →
    ctyped (instances given) env t T → cden (map encode_outcome V) (map encoding vals) g ≡ encode_outcome (cden V vals t)

-- each type of the first term, encoded, is a type of the other, over encoded types of positions and variables
abbrev pub HasEncodedTypes : Term → Term → Type 0
HasEncodedTypes t g = (given env : List Ty) (T : Ty) → ctyped (instances given) env t T → ctyped (instances (map encoding_type given)) (map encoding_type env) g (encoding_type T)

-- where the first term is typed, the other has as many sums
abbrev pub KeepsSums : Term → Term → Type 0
KeepsSums t g = (given env : List Ty) (T : Ty) → ctyped (instances given) env t T → sums_of g ≡ sums_of t

-- where it is typed, the other has at least its big unions and one for each rank of its tabulations
abbrev pub HasLoops : Term → Term → Type 0
HasLoops t g = (given env : List Ty) (T : Ty) → ctyped (instances given) env t T → big_unions_of t + ranks_of t ≤ big_unions_of g

-- where it is typed, the other takes at most the turns of the bound, over encoded outcomes and variables
abbrev pub TurnsWithin : Term → Term → Type 0
TurnsWithin t g = (given : List Ty) (V : Outcomes) → OutcomesHave (instances given) V → (env : List Ty) (vals : List Datum) (T : Ty) → HaveTypes env vals →
    ctyped (instances given) env t T → settle (map encode_outcome V) (map encoding vals) g ≤ graph_turns V vals t
