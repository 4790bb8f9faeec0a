-- The set of at most one number or pair of numbers as a value.
use Rattle.std.specs.Prelude.{◌≡◌, Some}
use Rattle.std.proofs.Common.{ap, sym}
use Rattle.aql_value.specs.Laws.Datum.{list_of-data_of}
use Rattle.nrca_loops.specs.Values.{set_in}
use Rattle.nrca_numbers.specs.Few.{few_members, few_set}
use Rattle.nrca_numbers.specs.declared.sets.AtMostOne.{AtMostOne}

-- its members
pub few_in : (f : AtMostOne) → Some (few_members f) ≡ set_in (Some (few_set f))
few_in f = ap Some (sym (list_of-data_of (few_members f)))
