-- What a core term is given of the positions before it: their outcomes, and their types.
use Rattle.std.specs.Prelude.{[], ◌∷◌, ◌++◌}
use Rattle.aql_syntax.specs.Script.{Earlier}
use Rattle.aql_ty.specs.Types.{Ty, natural, Sort, value, macro}
use Rattle.nrca_term.specs.Meaning.{Outcomes}

-- the outcomes of declarations of which the latest is first, in order
abbrev pub outcomes_of : Earlier → Outcomes
outcomes_of [] = []
outcomes_of ((d, o) ∷ earlier) = outcomes_of earlier ++ o ∷ []

-- the type of a value; a macro has none, and stands for a number
abbrev pub value_type : Sort → Ty
value_type (value t) = t
value_type (macro s t) = natural
