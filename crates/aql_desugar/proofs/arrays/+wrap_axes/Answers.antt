use Rattle.std.proofs.Common.{ap, ◌∙◌}
use Rattle.aql_syntax.specs.Measured.{latest}
use Rattle.nrca_term.specs.View.{term_of}
use Rattle.aql_desugar_spec.specs.Start.{knowns_of}
use Rattle.aql_desugar.specs.Names.{missing_term}
use Rattle.aql_desugar.proofs.Looping.{axes_made}
use Rattle.aql_desugar.proofs.Making.{part_of, holds_of}
use Rattle.aql_desugar.proofs.arrays.+wrap_axes.Goals as goal

pub returns-in_ok-made-in-Some-clause-made : goal.returns-in_ok-made-in-Some-clause-made
returns-in_ok-made-in-Some-clause-made t c =
    let number = c.in_ok-deeper-in-Some.ensures.0 in
    axes_made (λ x. x.now) c.args.ps.now c.in-Some.rest.now c.in-Some.p.now (knowns_of (latest c.args.earlier.now)) c.args.names.now.items c.enter_past.new.names.items c.wrap_axes.new.names.items
    c.truncate.new.self.items c.len-mark.result c.args.added c.in_ok-deeper-in-Some.deeper c.in_ok-at-in-Some.at (term_of c.args.inside) (term_of c.in_ok-deeper-in-Some.inside)
    (term_of c.in_ok-inside-in-Some.inside) (term_of c.in_ok-at-in-Some.inside) (missing_term c.args.other) (term_of c.in_ok-made-in-Some.made) c.in-Some.ensures.cases.0
    (holds_of _ _ _ number c.enter_past.ensures.inside) (holds_of _ _ _ number c.enter_past.ensures.around) (c.len-mark.ensures ∙ c.args.names.now.ok.0) (part_of _ _ _ _ number c.enter_past.ensures.number)
    (ap term_of c.in_ok-deeper-in-Some.ensures.1) c.in_ok-inside-in-Some.ensures.made c.in_ok-inside-in-Some.ensures.kept c.truncate.ensures.items (part_of _ _ _ _ c.in_ok-at-in-Some.ensures.0 c.add_numbers.ensures)
    (ap term_of c.in_ok-at-in-Some.ensures.1) c.in_ok-made-in-Some.ensures.made
