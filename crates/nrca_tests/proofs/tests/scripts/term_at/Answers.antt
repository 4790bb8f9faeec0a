use Rattle.aql_syntax.specs.View.{decls_of}
use Rattle.aql_infer_steps.specs.Typed.{sorts_of}
use Rattle.nrca_term.specs.View.{term_of}
use Rattle.nrca_tests.proofs.Typing.{bare-typed}
use Rattle.nrca_tests.proofs.tests.scripts.term_at.Goals as goal

pub returns-in-Ok : goal.returns-in-Ok
returns-in-Ok c =
    bare-typed (decls_of c.args.prepared.now.decls.items.items) (sorts_of c.args.prepared.now.typed.items.items) c.args.n (term_of c.in-Ok.term) c.requires.bare.0
    c.requires.checked c.requires.bare.1 c.in-Ok.ensures.translated
