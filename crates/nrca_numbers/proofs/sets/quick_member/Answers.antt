use Rattle.std.proofs.Common.{ap, ◌∙◌}
use Rattle.nrca_term.specs.Laws.Equations.{term_of-Tuple}
use Rattle.nrca_term.specs.Meaning.{cden}
use Rattle.nrca_term.specs.Turns.{settle}
use Rattle.nrca_term.specs.View.{term_of, terms_of}
use Rattle.nrca_loops.specs.Values.{values}
use Rattle.nrca_numbers.proofs.Pairs.{pair_worth, pair_free}
use Rattle.nrca_numbers.proofs.sets.quick_member.Goals as goal

pub returns-in-Some-clause-value : goal.returns-in-Some-clause-value
returns-in-Some-clause-value c =
    let V = c.args.globals.now in
    let vals = values c.args.env.now in
    let whole = ap term_of c.in-Tuple.is ∙ term_of-Tuple c.in-Tuple.parts in
    ap (cden V vals) whole ∙ pair_worth V vals (terms_of c.in-Tuple.parts) c.in-Some.m c.in-Some.n c.in-Some.ensures.value

pub returns-in-Some-clause-turns : goal.returns-in-Some-clause-turns
returns-in-Some-clause-turns c =
    let V = c.args.globals.now in
    let vals = values c.args.env.now in
    let whole = ap term_of c.in-Tuple.is ∙ term_of-Tuple c.in-Tuple.parts in
    ap (settle V vals) whole ∙ pair_free V vals (terms_of c.in-Tuple.parts) ∙ c.in-Some.ensures.turns
