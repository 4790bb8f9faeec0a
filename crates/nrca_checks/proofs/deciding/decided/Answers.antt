use Rattle.nrca_term.specs.View.{term_of}
use Rattle.nrca_ranges.specs.Context.{context_of}
use Rattle.nrca_checks.specs.Laws.Decided.{decides, decides-apart}
use Rattle.nrca_checks.proofs.deciding.decided.Goals as goal

pub returns-clause-value : goal.returns-clause-value
returns-clause-value c = decides (context_of c.args.ctx.now) (term_of c.args.term.now) c.by_spans.result c.by_spans.ensures

pub returns-clause-apart : goal.returns-clause-apart
returns-clause-apart c = decides-apart (context_of c.args.ctx.now) (term_of c.args.term.now) c.by_spans.result c.by_spans.ensures
