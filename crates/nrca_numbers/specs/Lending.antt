-- What a term is worth that a value is lent for.
use Rattle.std.specs.Prelude.{◌≡◌, Some}
use Rattle.aql_value.specs.Datum.{Datum}
use Rattle.aql_value.specs.Meaning.{datum}
use Rattle.nrca_array.specs.Held.{held_datum}
use Rattle.nrca_term.specs.declared.term.Core.{Core}
use Rattle.nrca_term.specs.Meaning.{Outcomes, cden}
use Rattle.nrca_term.specs.View.{term_of}
use Rattle.nrca_loops.specs.declared.env.Env.{Env}
use Rattle.nrca_loops.specs.Values.{values}
use Rattle.nrca_numbers.specs.declared.lending.Lent.{Lent}
use Rattle.nrca_numbers.specs.declared.lending.Lent.TheVariants as lent

-- the term is worth the value
abbrev pub IsDatum : Outcomes → Env → Core → Datum → Type 0
IsDatum V env t v = cden V (values env) (term_of t) ≡ Some v

-- the value that is lent
abbrev pub lent_datum : Lent → Datum
lent_datum (lent.Kept held) = held_datum held.now
lent_datum (lent.Part value) = datum value.now
