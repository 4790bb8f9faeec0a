use Rattle.std.proofs.Common.{length, ap}
use Rattle.aql_syntax.specs.Measured.{latest}
use Rattle.nrca_term.specs.View.{term_of}
use Rattle.nrca_term.specs.Nodes.{empty_term}
use Rattle.aql_desugar_spec.specs.Start.{knowns_of}
use Rattle.aql_desugar.proofs.Looping.{walk_made}
use Rattle.aql_desugar.proofs.Making.{part_of}
use Rattle.aql_desugar.proofs.arrays.walk.Goals as goal

pub returns-clause-made : goal.returns-clause-made
returns-clause-made c =
    walk_made (λ x. x.now) c.args.ps.now (knowns_of (latest c.args.earlier.now)) c.args.names.now.items c.truncate.new.self.items c.args.low (length c.args.ps.now) c.args.added (term_of c.args.body) (term_of c.in_ok-found.body)
    (term_of c.in_ok-found.found) (term_of c.in_ok-bound.bound) (term_of c.in_ok-axes.axes) (term_of c.in_ok-walked.walked) empty_term c.truncate.ensures.items (ap term_of c.in_ok-found.ensures.1)
    (part_of _ _ _ _ c.in_ok-found.ensures.0 c.cell.ensures) c.in_ok-bound.ensures c.in_ok-axes.ensures.made c.in_ok-walked.ensures
