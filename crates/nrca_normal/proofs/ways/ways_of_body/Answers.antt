use Rattle.std.proofs.Common.{rules, sym, subst, ◌∙◌}
use Rattle.nrca_term.specs.View.{term_of, terms_of}
use Rattle.nrca_term.specs.Laws.AsVariant.{as-Sub, as-Tab}
use Rattle.nrca_term.specs.Laws.Equations.{length-terms_of}
use Rattle.nrca_term.specs.declared.trace.Rule.TheVariants.{A1}
use Rattle.nrca_normal.specs.Ways.{AreWays}
use Rattle.nrca_normal.specs.declared.ways.Ways.TheVariants.{Inner}
use Rattle.nrca_normal.specs.Laws.Ways.{a1-ways}
use Rattle.nrca_normal.proofs.ways.ways_of_body.Goals as goal

pub returns-clause-ways : goal.returns-clause-ways
returns-clause-ways c =
    subst (λ n. AreWays A1 (term_of c.args.term.now) (Inner n)) (length-terms_of c.in-Tab.bounds ∙ sym c.len-rank.ensures)
    (a1-ways (term_of c.args.term.now) (term_of c.in-Sub.array.value) (term_of c.in-Tab.body.value) (terms_of c.in-Tab.bounds) (terms_of c.in-Sub.at) (as-Sub c.args.term.now c.in-Sub.array c.in-Sub.at c.in-Sub.is) (as-Tab c.in-Sub.array.value c.in-Tab.bounds c.in-Tab.body (search rules)))
