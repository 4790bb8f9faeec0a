use Rattle.std.proofs.Common.{rules}
use Rattle.nrca_term.specs.View.{term_of, terms_of}
use Rattle.nrca_term.specs.Laws.AsVariant.{as-Dim, as-Literal}
use Rattle.nrca_arrayrules.proofs.Counts.{a6_tells}
use Rattle.nrca_arrayrules.proofs.dimensions.fits_a6.Goals as goal

pub returns-in-Literal : goal.returns-in-Literal
returns-in-Literal c = a6_tells c.is_constant-constant.result c.in-Dim.rank (term_of c.args.term.now) (term_of c.in-Dim.array.value) (terms_of c.in-Literal.dims) (terms_of c.in-Literal.cells) (as-Dim c.args.term.now c.in-Dim.rank c.in-Dim.array c.in-Dim.is) (as-Literal c.in-Dim.array.value c.in-Literal.dims c.in-Literal.cells (search rules)) c.is_constant-constant.ensures.0 c.is_constant-constant.ensures.1
