use Rattle.std.proofs.Common.{rules}
use Rattle.nrca_term.specs.View.{term_of, terms_of}
use Rattle.nrca_term.specs.Laws.AsVariant.{as-Sub, as-Literal}
use Rattle.nrca_arrayrules.proofs.SubscriptSides.{a5_parts, a5_right}
use Rattle.nrca_arrayrules.proofs.subscripts.a5.Goals as goal

pub cell_at-cell-requires : goal.cell_at-cell-requires
cell_at-cell-requires c = a5_parts (term_of c.args.term) (term_of c.in-Sub.array.value) (terms_of c.in-Literal.dims) (terms_of c.in-Literal.cells) (terms_of c.in-Sub.at) (as-Sub c.args.term c.in-Sub.array c.in-Sub.at c.in-Sub.is) (as-Literal c.in-Sub.array.value c.in-Literal.dims c.in-Literal.cells (search rules)) c.requires

pub returns : goal.returns
returns c = a5_right (term_of c.args.term) (term_of c.in-Sub.array.value) _ (terms_of c.in-Literal.dims) (terms_of c.in-Literal.cells) (terms_of c.in-Sub.at) (as-Sub c.args.term c.in-Sub.array c.in-Sub.at c.in-Sub.is) (as-Literal c.in-Sub.array.value c.in-Literal.dims c.in-Literal.cells (search rules)) c.requires c.cell_at-cell.ensures
