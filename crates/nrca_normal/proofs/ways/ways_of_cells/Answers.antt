use Rattle.std.proofs.Common.{rules, length, sym, subst, ◌∙◌}
use Rattle.nrca_term.specs.View.{term_of, terms_of}
use Rattle.nrca_term.specs.Laws.AsVariant.{as-Dim, as-Literal}
use Rattle.nrca_term.specs.Laws.Equations.{length-terms_of}
use Rattle.nrca_term.specs.declared.trace.Rule.TheVariants.{A6}
use Rattle.nrca_normal.specs.Ways.{AreWays}
use Rattle.nrca_normal.specs.declared.ways.Ways.TheVariants.{Others}
use Rattle.nrca_normal.specs.Laws.Ways.{a6-ways}
use Rattle.nrca_normal.proofs.ways.ways_of_cells.Goals as goal

pub returns-clause-ways : goal.returns-clause-ways
returns-clause-ways c =
    subst (λ m. AreWays A6 (term_of c.args.term.now) (Others m c.len-count.result c.len-count.result)) (length-terms_of c.in-Literal.dims ∙ sym c.len.ensures)
    (subst (λ n. AreWays A6 (term_of c.args.term.now) (Others (length (terms_of c.in-Literal.dims)) n n)) (length-terms_of c.in-Literal.cells ∙ sym c.len-count.ensures)
    (a6-ways (term_of c.args.term.now) (term_of c.in-Dim.array.value) c.in-Dim.rank (terms_of c.in-Literal.dims) (terms_of c.in-Literal.cells) (as-Dim c.args.term.now c.in-Dim.rank c.in-Dim.array c.in-Dim.is) (as-Literal c.in-Dim.array.value c.in-Literal.dims c.in-Literal.cells (search rules))))
