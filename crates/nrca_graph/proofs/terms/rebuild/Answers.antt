use Rattle.std.proofs.Common.{◌≡◌, ap, sym, ◌∙◌}
use Rattle.nrca_term.specs.Nodes.{tab_term, sub_term}
use Rattle.nrca_term.specs.Laws.AsVariant.{as-Tab, as-Sub, as-Literal}
use Rattle.nrca_term.specs.View.{term_of, terms_of}
use Rattle.nrca_graph.proofs.Rebuilding.{tab_free, tab_room, sub_free, literal_free, literal_room}
use Rattle.nrca_graph.proofs.terms.rebuild.Goals as goal

pub tabulation-requires-clause-bounds : goal.tabulation-requires-clause-bounds
tabulation-requires-clause-bounds c =
    (tab_room (term_of c.args.term) (term_of c.in-Tab.body.value) (terms_of c.in-Tab.bounds) (as-Tab c.args.term c.in-Tab.bounds c.in-Tab.body c.in-Tab.is) c.requires).0

pub tabulation-requires-clause-body : goal.tabulation-requires-clause-body
tabulation-requires-clause-body c =
    let e : term_of c.args.term ≡ tab_term (terms_of c.in-Tab.bounds) (term_of c.into_inner.result) = as-Tab c.args.term c.in-Tab.bounds c.in-Tab.body c.in-Tab.is ∙ ap (λ x. tab_term (terms_of c.in-Tab.bounds) (term_of x)) (sym c.into_inner.ensures) in
    (tab_room (term_of c.args.term) (term_of c.into_inner.result) (terms_of c.in-Tab.bounds) e c.requires).1

pub literal-requires-clause-dims : goal.literal-requires-clause-dims
literal-requires-clause-dims c =
    (literal_room (term_of c.args.term) (terms_of c.in-Literal.dims) (terms_of c.in-Literal.cells) (as-Literal c.args.term c.in-Literal.dims c.in-Literal.cells c.in-Literal.is) c.requires).0

pub literal-requires-clause-cells : goal.literal-requires-clause-cells
literal-requires-clause-cells c =
    (literal_room (term_of c.args.term) (terms_of c.in-Literal.dims) (terms_of c.in-Literal.cells) (as-Literal c.args.term c.in-Literal.dims c.in-Literal.cells c.in-Literal.is) c.requires).1

pub returns-in-Tab : goal.returns-in-Tab
returns-in-Tab c =
    let e : term_of c.args.term ≡ tab_term (terms_of c.in-Tab.bounds) (term_of c.into_inner.result) = as-Tab c.args.term c.in-Tab.bounds c.in-Tab.body c.in-Tab.is ∙ ap (λ x. tab_term (terms_of c.in-Tab.bounds) (term_of x)) (sym c.into_inner.ensures) in
    tab_free c.tabulation.result (term_of c.args.term) (term_of c.into_inner.result) (terms_of c.in-Tab.bounds) e c.tabulation.ensures

pub returns-in-Sub : goal.returns-in-Sub
returns-in-Sub c =
    let e : term_of c.args.term ≡ sub_term (term_of c.into_inner-in-Sub.result) (terms_of c.in-Sub.at) = as-Sub c.args.term c.in-Sub.array c.in-Sub.at c.in-Sub.is ∙ ap (λ x. sub_term (term_of x) (terms_of c.in-Sub.at)) (sym c.into_inner-in-Sub.ensures) in
    sub_free c.subscript.result (term_of c.args.term) (term_of c.into_inner-in-Sub.result) (terms_of c.in-Sub.at) e c.subscript.ensures

pub returns-in-Literal : goal.returns-in-Literal
returns-in-Literal c =
    literal_free c.literal.result (term_of c.args.term) (terms_of c.in-Literal.dims) (terms_of c.in-Literal.cells) (as-Literal c.args.term c.in-Literal.dims c.in-Literal.cells c.in-Literal.is) c.literal.ensures
