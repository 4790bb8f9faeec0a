use Rattle.std.proofs.Common.{rules}
use Rattle.nrca_term.specs.View.{term_of, terms_of}
use Rattle.nrca_term.specs.Laws.AsVariant.{as-Sub, as-Literal}
use Rattle.nrca_arrayrules.proofs.SubscriptSides.{a5_tells}
use Rattle.nrca_arrayrules.proofs.subscripts.fits_a5.Goals as goal

pub returns-in-Literal : goal.returns-in-Literal
returns-in-Literal c = a5_tells c.is_constant_subscript-constant.result (term_of c.args.term.now) (term_of c.in-Sub.array.value) (terms_of c.in-Literal.dims) (terms_of c.in-Literal.cells) (terms_of c.in-Sub.at) (as-Sub c.args.term.now c.in-Sub.array c.in-Sub.at c.in-Sub.is) (as-Literal c.in-Sub.array.value c.in-Literal.dims c.in-Literal.cells (search rules)) c.is_constant_subscript-constant.ensures.0 c.is_constant_subscript-constant.ensures.1
