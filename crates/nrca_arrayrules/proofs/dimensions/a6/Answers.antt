use Rattle.std.proofs.Common.{rules}
use Rattle.nrca_term.specs.View.{term_of, terms_of}
use Rattle.nrca_term.specs.Laws.AsVariant.{as-Dim, as-Literal}
use Rattle.nrca_arrayrules.proofs.Counts.{a6_right}
use Rattle.nrca_arrayrules.proofs.dimensions.a6.Goals as goal

pub returns : goal.returns
returns c = a6_right c.in-Dim.rank (term_of c.args.term) (term_of c.in-Dim.array.value) _ (terms_of c.in-Literal.dims) (terms_of c.in-Literal.cells) (as-Dim c.args.term c.in-Dim.rank c.in-Dim.array c.in-Dim.is) (as-Literal c.in-Dim.array.value c.in-Literal.dims c.in-Literal.cells (search rules)) c.requires c.sizes-all.ensures
