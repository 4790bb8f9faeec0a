use Rattle.std.proofs.Common.{◌≡◌, ◌+◌, ◌*◌, ◌++◌, take, map, codes}
use Rattle.nrca_term.specs.Term.{weight_of, list_weight}
use Rattle.nrca_term.specs.View.{term_of, terms_of}
use Rattle.aql_print.specs.CoreText.{bounds_text, core_text}
use Rattle.aql_print.specs.Joined.{join_texts}
use Rattle.aql_print.proofs.term.+put_term.Given as goal

abbrev pub decreases-put_term : goal.decreases-put_term
decreases-put_term l = 4 * weight_of (term_of l.term.now)

abbrev pub decreases-put_one : goal.decreases-put_one
decreases-put_one l = 4 * weight_of (term_of l.term.now) + 1

abbrev pub decreases-put_two : goal.decreases-put_two
decreases-put_two l = 4 * (weight_of (term_of l.a.now) + weight_of (term_of l.b.now)) + 1

abbrev pub decreases-put_let : goal.decreases-put_let
decreases-put_let l = 4 * (weight_of (term_of l.a.now) + weight_of (term_of l.b.now)) + 1

abbrev pub decreases-put_if : goal.decreases-put_if
decreases-put_if l = 4 * (weight_of (term_of l.c.now) + (weight_of (term_of l.a.now) + weight_of (term_of l.b.now))) + 1

abbrev pub decreases-put_loop : goal.decreases-put_loop
decreases-put_loop l = 4 * (weight_of (term_of l.over.now) + weight_of (term_of l.body.now)) + 1

abbrev pub decreases-put_projection : goal.decreases-put_projection
decreases-put_projection l = 4 * weight_of (term_of l.part.now) + 2

abbrev pub decreases-put_ranked : goal.decreases-put_ranked
decreases-put_ranked l = 4 * weight_of (term_of l.term.now) + 2

abbrev pub decreases-put_tabulation : goal.decreases-put_tabulation
decreases-put_tabulation l = 4 * (list_weight (terms_of l.bounds.now) + weight_of (term_of l.body.now)) + 3

abbrev pub decreases-put_bounds : goal.decreases-put_bounds
decreases-put_bounds l = 4 * list_weight (terms_of l.bounds.now) + 1

abbrev pub decreases-put_subscript : goal.decreases-put_subscript
decreases-put_subscript l = 4 * (weight_of (term_of l.array.now) + list_weight (terms_of l.at.now)) + 3

abbrev pub decreases-put_literal : goal.decreases-put_literal
decreases-put_literal l = 4 * (list_weight (terms_of l.dims.now) + list_weight (terms_of l.cells.now)) + 3

abbrev pub decreases-put_all : goal.decreases-put_all
decreases-put_all l = 4 * list_weight (terms_of l.terms.now) + 2

abbrev pub decreases-put_each : goal.decreases-put_each
decreases-put_each l = 4 * list_weight (terms_of l.terms.now) + 1

-- the bounds so far are written
abbrev pub invariant-put_bounds-loop-i : goal.invariant-put_bounds-loop-i
invariant-put_bounds-loop-i l =
    l.out.items ≡ l.initial.out.items ++ join_texts (codes ", ") (take l.i (bounds_text l.depth (map (core_text l.depth) (terms_of l.bounds))))

-- the terms so far are written
abbrev pub invariant-put_each-loop-i : goal.invariant-put_each-loop-i
invariant-put_each-loop-i l = l.out.items ≡ l.initial.out.items ++ join_texts l.separator (take l.i (map (core_text l.depth) (terms_of l.terms)))
