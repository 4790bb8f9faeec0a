use Rattle.std.proofs.Common.{rules, subst}
use Rattle.nrca_term.specs.View.{term_of, terms_of}
use Rattle.nrca_term.specs.declared.term.Core.TheVariants as core
use Rattle.nrca_term.specs.Term.{WellFormed}
use Rattle.nrca_term.specs.Laws.WellFormed.{well_formed-Core}
use Rattle.nrca_term.specs.Laws.Equations.{term_of-Tuple, term_of-Let}
use Rattle.nrca_term.specs.Laws.AsVariant.{as-Dim, as-Let, as-Sub}
use Rattle.nrca_arrayrules.proofs.Sides.{a7_dim, a7_sub, indices_room}
use Rattle.nrca_arrayrules.proofs.lets.a7.Goals as goal

pub shift_all-deeper-requires : goal.shift_all-deeper-requires
shift_all-deeper-requires c = indices_room (term_of c.args.term) (term_of c.in-Sub.array.value) (terms_of c.in-Sub.at) (as-Sub c.args.term c.in-Sub.array c.in-Sub.at c.in-Sub.is) (subst WellFormed (term_of-Tuple c.in-Sub.at) (well_formed-Core (core.Tuple c.in-Sub.at))) c.requires.inside

pub returns-in-Let : goal.returns-in-Let
returns-in-Let c = a7_sub (term_of c.args.term) (term_of c.in-Sub.array.value) (term_of c.in-Let.bound.value) (term_of c.in-Let.body.value) _ (term_of c.put-each.result.value) (terms_of c.in-Sub.at) (terms_of c.shift_all-deeper.result) (as-Sub c.args.term c.in-Sub.array c.in-Sub.at c.in-Sub.is) (as-Let c.in-Sub.array.value c.in-Let.bound c.in-Let.body (search rules)) (term_of-Let c.in-Let.bound c.put-each.result) (as-Sub c.put-each.result.value c.in-Let.body c.shift_all-deeper.result c.put-each.ensures) c.shift_all-deeper.ensures

pub returns-in-Let-inner : goal.returns-in-Let-inner
returns-in-Let-inner c = a7_dim c.in-Dim.rank (term_of c.args.term) (term_of c.in-Dim.array.value) (term_of c.in-Let-inner.bound.value) (term_of c.in-Let-inner.body.value) _ (term_of c.put-each-in-Let-inner.result.value) (as-Dim c.args.term c.in-Dim.rank c.in-Dim.array c.in-Dim.is) (as-Let c.in-Dim.array.value c.in-Let-inner.bound c.in-Let-inner.body (search rules)) (term_of-Let c.in-Let-inner.bound c.put-each-in-Let-inner.result) (as-Dim c.put-each-in-Let-inner.result.value c.in-Dim.rank c.in-Let-inner.body c.put-each-in-Let-inner.ensures)
