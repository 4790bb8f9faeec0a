use Rattle.aql_desugar_spec.specs.Laws.WellFormedLaws.{start-formed}
use Rattle.aql_desugar_spec.proofs.laws.well_formedness.Goals as goal

pub returns : goal.returns
returns c = start-formed
