use Rattle.std.proofs.Common.{ap, ◌∙◌}
use Rattle.nrca_term.specs.Laws.Equations.{term_of-Var}
use Rattle.nrca_term.specs.Nodes.{if_term, compare_term}
use Rattle.nrca_term.specs.View.{term_of}
use Rattle.nrca_term.specs.declared.term.Core as core
use Rattle.aql_value.specs.declared.ops.CompareOp.TheVariants as compares
use Rattle.aql_desugar_spec.specs.Start.{equal_term}
use Rattle.aql_desugar.specs.Laws.Parts.{one_made}
use Rattle.aql_desugar.proofs.matches.test.Goals as goal

pub returns : goal.returns
returns c =
    one_made c.choose.result c.compare-equal.result (λ t. if_term t (term_of c.args.inside) (term_of c.fallback_term.result)) (compare_term compares.Equal (term_of (core.Var c.args.at)) (term_of c.args.c)) _ c.choose.ensures c.compare-equal.ensures
    (ap (λ v. if_term (compare_term compares.Equal v (term_of c.args.c)) (term_of c.args.inside) (term_of c.fallback_term.result)) (term_of-Var c.args.at) ∙ ap (if_term (equal_term c.args.at (term_of c.args.c)) (term_of c.args.inside)) c.fallback_term.ensures)
