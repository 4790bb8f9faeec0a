-- The right side of each rule is worth what its left side is, wherever the rule's condition holds (`rule-keeps`).
use Rattle.std.proofs.Common.{ℕ, List}
use Rattle.aql_value.specs.Datum.{Datum}
use Rattle.aql_value.specs.Lists.{Every}
use Rattle.aql_value.specs.Valid.{IsValue}
use Rattle.aql_ty.specs.Types.{Ty}
use Rattle.aql_ty.specs.ValueTypes.{HaveTypes}
use Rattle.nrca_term.specs.Term.{Term}
use Rattle.nrca_term.specs.Meaning.{Outcomes}
use Rattle.nrca_term.specs.Typing.{ctyped, OutcomesHave}
use Rattle.nrca_term.specs.Facts.{Context, FactsHold}
use Rattle.nrca_term.specs.Valid.{HasConstants, AreValidOutcomes}

-- What is supposed: outcomes of their types that are values of the language, values of the variables likewise, facts of the place
-- that hold, a term of a type with valid constants.
pub record Given (G : ℕ → Ty → Type 0) (V : Outcomes) (c : Context) (env : List Ty) (vals : List Datum) (l : Term) (T : Ty) : Type 0 where
  pub outcomes : OutcomesHave G V
  pub are : AreValidOutcomes V
  pub have : HaveTypes env vals
  pub values : Every IsValue vals
  pub facts : FactsHold V c vals
  pub typed : ctyped G env l T
  pub constants : HasConstants l
