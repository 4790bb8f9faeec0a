use Rattle.nrca_term.specs.Firm.{is_defined}
use Rattle.nrca_term.specs.Normal.{IsNormalAt}
use Rattle.nrca_rule_laws.specs.Laws.{SearchKeeps}
use Rattle.nrca_rule_laws.specs.Laws.Search.{before-kept}
use Rattle.nrca_rule_laws.proofs.laws.search.Goals as goal

search-keeps : SearchKeeps
search-keeps V = before-kept (IsNormalAt (is_defined V))

pub returns : goal.returns
returns c = search-keeps
