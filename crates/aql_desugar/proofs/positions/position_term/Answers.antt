use Rattle.std.proofs.Common.{sym, ◌∙◌}
use Rattle.aql_syntax.specs.Measured.{latest}
use Rattle.nrca_term.specs.Laws.Equations.{term_of-Bottom}
use Rattle.nrca_term.specs.View.{term_of}
use Rattle.aql_desugar.proofs.Finding.{position_none, position_some}
use Rattle.aql_desugar.proofs.positions.position_term.Goals as goal

pub returns-in-None : goal.returns-in-None
returns-in-None c = term_of-Bottom ∙ sym (position_none c.args.name.now (latest c.args.earlier.now) c.in-None.ensures.found)

pub returns-in-Some : goal.returns-in-Some
returns-in-Some c =
    position_some c.args.name.now c.args.earlier.now c.in-Some.d.now c.in-Some.before c.next.result (term_of c.value_term.result) c.next.ensures c.in-Some.ensures.found
    c.value_term.ensures
