use Rattle.std.proofs.Common.{rules, ◌≡◌, subst}
use Rattle.nrca_term.specs.View.{term_of}
use Rattle.nrca_normal.specs.Ways.{AreAtomWays}
use Rattle.nrca_term.specs.Laws.AsVariant.{as-Let}
use Rattle.nrca_normal.specs.Laws.Ways.{l1-ways}
use Rattle.nrca_normal.proofs.ways.ways_of_atom.Goals as goal

pub returns-clause-ways : goal.returns-clause-ways
returns-clause-ways c = l1-ways (term_of c.args.term.now) (term_of c.in-Let.bound.value) (term_of c.in-Let.field-1.value) c.atom_ways-ways.result (as-Let c.args.term.now c.in-Let.bound c.in-Let.field-1 c.in-Let.is)
    (let e : c.deref.result.now ≡ c.in-Let.bound.value = search rules in subst (λ x. AreAtomWays (term_of x) c.atom_ways-ways.result) e c.atom_ways-ways.ensures.ways)
