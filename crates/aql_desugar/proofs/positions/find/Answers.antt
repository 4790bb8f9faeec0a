use Rattle.std.proofs.Common.{Some, ap, ◌∙◌}
use Rattle.aql_syntax.specs.Measured.{latest}
use Rattle.aql_syntax.specs.View.{decl_of}
use Rattle.aql_desugar.specs.Names.{declaration_of}
use Rattle.aql_desugar.proofs.Finding.{index_some, index_none, index_shorter}
use Rattle.aql_desugar.proofs.positions.find.Goals as goal

pub returns-in-None-clause-found : goal.returns-in-None-clause-found
returns-in-None-clause-found c =
    index_none c.args.name.now c.earlier.inside.decls.now c.in-None.ensures.last ∙ ap (λ ds. declaration_of c.args.name.now (latest ds)) c.earlier.view_is

pub returns-in-Some-clause-found : goal.returns-in-Some-clause-found
returns-in-Some-clause-found c =
    ap (λ ds. Some (decl_of c.index-decls-i.result, latest ds)) c.front.ensures
    ∙ index_some c.args.name.now c.earlier.inside.decls.now c.in-Some.i c.index-decls-i.result c.in-Some.ensures.last c.index-decls-i.is
    ∙ ap (λ ds. declaration_of c.args.name.now (latest ds)) c.earlier.view_is

pub returns-in-Some-clause-shorter : goal.returns-in-Some-clause-shorter
returns-in-Some-clause-shorter c =
    rw c.front.ensures (index_shorter c.earlier.inside.decls.now c.args.earlier.now c.in-Some.i c.in-Some.ensures.inside c.earlier.view_is)
