use Rattle.std.proofs.Common.{rules, refl, sym, ap, ◌∙◌}
use Rattle.nrca_term.specs.View.{term_of, terms_of}
use Rattle.nrca_term.specs.Term.{Form}
use Rattle.nrca_term.specs.Nodes.{number, empty_term}
use Rattle.nrca_term.specs.Laws.AsVariant.{as-BigUnion, as-Empty, as-If, as-Let, as-Nat, as-Sum, as-Tab}
use Rattle.nrca_term.specs.Laws.Equations.{length-terms_of}
use Rattle.nrca_motion.specs.Laws.Fitting.{test-form, let-form, tab-form, tab-none}
use Rattle.nrca_motion.proofs.fitting.form_at.Goals as goal

pub returns-in-Empty : goal.returns-in-Empty
returns-in-Empty c =
    test-form Form.big_union empty_term (term_of c.args.term.now) (term_of c.in-BigUnion.over.value) (term_of c.in-BigUnion.body.value) (term_of c.in-If.field-0.value) (term_of c.in-If.field-1.value) (term_of c.in-If.other.value)
    refl (as-BigUnion c.args.term.now c.in-BigUnion.over c.in-BigUnion.body c.in-BigUnion.is) (as-If c.in-BigUnion.body.value c.in-If.field-0 c.in-If.field-1 c.in-If.other (search rules)) (as-Empty c.in-If.other.value (search rules))

pub returns-in-Let : goal.returns-in-Let
returns-in-Let c =
    let-form Form.big_union (term_of c.args.term.now) (term_of c.in-BigUnion.over.value) (term_of c.in-BigUnion.body.value) (term_of c.in-Let.field-0.value) (term_of c.in-Let.field-1.value)
    refl (as-BigUnion c.args.term.now c.in-BigUnion.over c.in-BigUnion.body c.in-BigUnion.is) (as-Let c.in-BigUnion.body.value c.in-Let.field-0 c.in-Let.field-1 (search rules))

pub returns-then-n-eq0 : goal.returns-then-n-eq0
returns-then-n-eq0 c =
    test-form Form.sum (number 0) (term_of c.args.term.now) (term_of c.in-Sum.over.value) (term_of c.in-Sum.body.value) (term_of c.in-If-deref.field-0.value) (term_of c.in-If-deref.field-1.value) (term_of c.in-If-deref.other.value)
    refl (as-Sum c.args.term.now c.in-Sum.over c.in-Sum.body c.in-Sum.is) (as-If c.in-Sum.body.value c.in-If-deref.field-0 c.in-If-deref.field-1 c.in-If-deref.other (search rules))
    (as-Nat c.in-If-deref.other.value c.in-Nat.n (search rules) ∙ ap number c.if-n-eq0.true)

pub returns-in-Let-deref : goal.returns-in-Let-deref
returns-in-Let-deref c =
    let-form Form.sum (term_of c.args.term.now) (term_of c.in-Sum.over.value) (term_of c.in-Sum.body.value) (term_of c.in-Let-deref.field-0.value) (term_of c.in-Let-deref.field-1.value)
    refl (as-Sum c.args.term.now c.in-Sum.over c.in-Sum.body c.in-Sum.is) (as-Let c.in-Sum.body.value c.in-Let-deref.field-0 c.in-Let-deref.field-1 (search rules))

pub returns-then-is_let : goal.returns-then-is_let
returns-then-is_let c =
    tab-form (term_of c.args.term.now) (term_of c.in-Tab.body.value) c.if-is_let.ensures.0 c.if-is_let.ensures.1 (terms_of c.in-Tab.bounds) c.len.result
    (as-Tab c.args.term.now c.in-Tab.bounds c.in-Tab.body c.in-Tab.is) (c.len.ensures ∙ sym (length-terms_of c.in-Tab.bounds))
    (ap term_of (sym c.deref-in-Tab.ensures) ∙ c.if-is_let.ensures.2)

pub returns-else-is_let : goal.returns-else-is_let
returns-else-is_let c =
    tab-none (term_of c.args.term.now) (term_of c.in-Tab.body.value) (terms_of c.in-Tab.bounds) (as-Tab c.args.term.now c.in-Tab.bounds c.in-Tab.body c.in-Tab.is)
    (λ a b e. c.if-is_let.ensures a b (ap term_of c.deref-in-Tab.ensures ∙ e))
