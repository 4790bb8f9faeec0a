use Rattle.std.proofs.Common.{rules}
use Rattle.nrca_term.specs.View.{term_of, terms_of}
use Rattle.nrca_term.specs.Laws.AsVariant.{as-Dim, as-Let, as-Sub}
use Rattle.nrca_arrayrules.proofs.Sides.{a7_fits_dim, a7_fits_sub}
use Rattle.nrca_arrayrules.proofs.lets.fits_a7.Goals as goal

pub returns-in-Let : goal.returns-in-Let
returns-in-Let c = a7_fits_sub (term_of c.args.term.now) (term_of c.in-Sub.array.value) (term_of c.in-Let.field-0.value) (term_of c.in-Let.field-1.value) (terms_of c.in-Sub.at) (as-Sub c.args.term.now c.in-Sub.array c.in-Sub.at c.in-Sub.is) (as-Let c.in-Sub.array.value c.in-Let.field-0 c.in-Let.field-1 (search rules))

pub returns-in-Let-deref : goal.returns-in-Let-deref
returns-in-Let-deref c = a7_fits_dim c.in-Dim.rank (term_of c.args.term.now) (term_of c.in-Dim.array.value) (term_of c.in-Let-deref.field-0.value) (term_of c.in-Let-deref.field-1.value) (as-Dim c.args.term.now c.in-Dim.rank c.in-Dim.array c.in-Dim.is) (as-Let c.in-Dim.array.value c.in-Let-deref.field-0 c.in-Let-deref.field-1 (search rules))
