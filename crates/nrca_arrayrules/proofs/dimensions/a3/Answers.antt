use Rattle.std.proofs.Common.{rules}
use Rattle.nrca_term.specs.View.{term_of, terms_of}
use Rattle.nrca_term.specs.Laws.AsVariant.{as-Dim, as-Tab}
use Rattle.nrca_arrayrules.proofs.Sides.{a3_right}
use Rattle.nrca_arrayrules.proofs.dimensions.a3.Goals as goal

pub returns : goal.returns
returns c = a3_right c.in-Dim.rank (term_of c.args.term) (term_of c.in-Dim.array.value) (term_of c.in-Tab.body.value) _ (terms_of c.in-Tab.bounds) (as-Dim c.args.term c.in-Dim.rank c.in-Dim.array c.in-Dim.is) (as-Tab c.in-Dim.array.value c.in-Tab.bounds c.in-Tab.body (search rules)) c.requires c.sizes-all.ensures
