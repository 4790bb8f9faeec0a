use Rattle.std.proofs.Common.{◌-◌, ap, ◌∙◌, take, arith}
use Rattle.std.proofs.lemmas.Result.{IfOk-weaker}
use Rattle.aql_syntax.specs.Measured.{latest}
use Rattle.nrca_term.specs.Laws.Equations.{term_of-Var}
use Rattle.nrca_term.specs.View.{term_of}
use Rattle.aql_desugar_spec.specs.Start.{knowns_of}
use Rattle.aql_desugar.specs.Names.{binders_of, missing_term}
use Rattle.aql_desugar.proofs.Making.{part_of, holds_of, let_made, let_kept}
use Rattle.aql_desugar.proofs.Wrapping.{closed_kept, row_made, rest_smaller, parts_made, parts_kept}
use Rattle.aql_desugar.proofs.matches.+wrap.Goals as goal

pub close-returns-clause-kept : goal.close-returns-clause-kept
close-returns-clause-kept t c =
    closed_kept c.args.names.now.items c.truncate.new.self.items c.hide_one.new.names.items c.wrap.new.names.items c.pop.new.self.items c.args.mark c.truncate.ensures.items
    (holds_of _ _ _ c.in_ok-inside.ensures.0 c.hide_one.ensures) c.in_ok-matched.ensures.kept (c.pop.ensures.rest ∙ ap (λ n. take (n - 1) c.wrap.new.names.items) c.wrap.new.names.ok.0)

pub wrap-returns-in-Row-clause-made : goal.wrap-returns-in-Row-clause-made
wrap-returns-in-Row-clause-made t c =
    IfOk-weaker c.wrap_parts.result _ _
    (λ parts h base. row_made c.args.p.now c.in-Row.ps c.deref-in-Row.result.now c.len-count.result (knowns_of (latest c.args.earlier.now)) (binders_of (λ x. x.now) c.args.names.now.items base) c.args.at
    (term_of c.args.inside) (missing_term c.args.other) (term_of parts) c.in-Row.is c.deref-in-Row.ensures.value (c.len-count.ensures ∙ c.in-Row.ps.items.ok.0) (h base))
    c.wrap_parts.ensures.made

pub wrap-returns-in-Row-clause-kept : goal.wrap-returns-in-Row-clause-kept
wrap-returns-in-Row-clause-kept t c = c.wrap_parts.ensures.kept

pub wrap_parts-wrap_parts-requires : goal.wrap_parts-wrap_parts-requires
wrap_parts-wrap_parts-requires t c = (omega (arith, rest_smaller c.args.ps.now c.in-Some.rest.now c.in-Some.p.now c.in-Some.ensures.cases.0, c.decreases), tt)

pub wrap_parts-returns-in_ok-inside-in-Some-clause-made : goal.wrap_parts-returns-in_ok-inside-in-Some-clause-made
wrap_parts-returns-in_ok-inside-in-Some-clause-made t c =
    let numbers = part_of _ _ _ _ c.in_ok-deeper-in-Some.ensures.0 c.both-numbers.ensures in
    let_made c.let_in.result c.proj.result c.close-matched.result _ _ _ c.let_in.ensures c.proj.ensures c.close-matched.ensures.made
    (λ whole part matched l q m. parts_made (λ x. x.now) c.args.ps.now c.in-Some.rest.now c.in-Some.p.now (knowns_of (latest c.args.earlier.now)) c.args.names.now.items c.open_past.new.names.items c.wrap_parts.new.names.items
    c.len-mark.result c.args.at c.in_ok-deeper-in-Some.deeper c.args.j c.args.n c.in_ok-deeper-in-Some.next (term_of c.args.inside) (term_of c.in_ok-deeper-in-Some.inside) (term_of c.in_ok-inside-in-Some.inside)
    (term_of matched) (term_of part) (missing_term c.args.other) (term_of whole) _
    c.in-Some.ensures.cases.0 (holds_of _ _ _ numbers.0 c.open_past.ensures.inside) (holds_of _ _ _ numbers.0 c.open_past.ensures.around) (c.len-mark.ensures ∙ c.args.names.now.ok.0)
    (part_of _ _ _ _ numbers.0 c.open_past.ensures.number) (part_of _ _ _ _ numbers.1 c.add_numbers.ensures) (ap term_of c.in_ok-deeper-in-Some.ensures.1) c.in_ok-inside-in-Some.ensures.made
    c.in_ok-inside-in-Some.ensures.kept m q (term_of-Var c.args.at) l)

pub wrap_parts-returns-in_ok-inside-in-Some-clause-kept : goal.wrap_parts-returns-in_ok-inside-in-Some-clause-kept
wrap_parts-returns-in_ok-inside-in-Some-clause-kept t c =
    let numbers = part_of _ _ _ _ c.in_ok-deeper-in-Some.ensures.0 c.both-numbers.ensures in
    let_kept c.let_in.result c.proj.result c.close-matched.result _ _ c.let_in.ensures c.close-matched.ensures.kept
    (parts_kept c.args.names.now.items c.open_past.new.names.items c.wrap_parts.new.names.items c.close-matched.new.names.items c.len-mark.result
    (holds_of _ _ _ numbers.0 c.open_past.ensures.around) (c.len-mark.ensures ∙ c.args.names.now.ok.0) c.in_ok-inside-in-Some.ensures.kept)
