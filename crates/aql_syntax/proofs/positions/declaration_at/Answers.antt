use Rattle.std.proofs.Common.{◌<◌, ◌∙◌, Some, length, ap, sym, arith}
use Rattle.std.specs.Prelude.{◌-◌}
use Rattle.aql_syntax.specs.View.{decl_of}
use Rattle.aql_syntax.specs.Laws.Measuring.{decl-at}
use Rattle.aql_syntax.proofs.positions.declaration_at.Goals as goal

pub returns : goal.returns
returns c =
    let l : c.args.n - 1 < length c.args.decls.now = omega arith in
    decl-at c.args.decls.now (c.args.n - 1) c.index-decls-n.result l ∙ ap (λ x. Some (decl_of x)) (sym c.index-decls-n.is)
