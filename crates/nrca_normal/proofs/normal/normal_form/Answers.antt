use Rattle.nrca_term.specs.View.{term_of}
use Rattle.nrca_ranges.specs.Shapes.{shapes_in}
use Rattle.nrca_normal.specs.Laws.Descent.{root-planned}
use Rattle.nrca_normal.proofs.normal.normal_form.Goals as goal

pub returns-in-Ok-clause-plan : goal.returns-in-Ok-clause-plan
returns-in-Ok-clause-plan c =
    root-planned (shapes_in c.args.globals) c.begin-run.result c.settle-done.new.run (term_of c.args.term) (record { term = c.settle-done.new.term; trace = c.end-trace.result.0 }) c.in-Ok.field-0
    c.requires.typed c.begin-run.ensures c.in-Ok.ensures.settled c.end-trace.ensures.trace
