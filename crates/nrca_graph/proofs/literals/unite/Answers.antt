use Rattle.std.proofs.Common.{rules, ◌≡◌, ◌<◌, ◌≤◌, ◌++◌, [], ◌∷◌, length, map, arith, ap, ◌∙◌}
use Rattle.nrca_term.specs.Laws.Equations.{term_of-Empty, length-terms_of}
use Rattle.nrca_term.specs.View.{term_of, terms_of}
use Rattle.nrca_graph.proofs.Cells.{neighbours_fewer, rounds_next, rounds_done, rounds_none}
use Rattle.nrca_graph.proofs.Rebuilding.{one_left}
use Rattle.nrca_graph.proofs.literals.unite.Goals as goal

pub loop-alloc-smaller : goal.loop-alloc-smaller
loop-alloc-smaller c =
    let h : 1 < length (terms_of c.loop-alloc.sets) = omega (arith, c.loop-alloc-test.true, c.len.ensures, length-terms_of c.loop-alloc.sets) in
    omega (
      arith,
      neighbours_fewer (terms_of c.loop-alloc.sets) h,
      ap length c.in_ok-sets.ensures,
      length-terms_of c.loop-alloc.sets,
      length-terms_of c.in_ok-sets.sets,
      c.loop-alloc.sets.0.ok.0,
      c.in_ok-sets.sets.0.ok.0,
    )

pub loop-alloc-preserved : goal.loop-alloc-preserved
loop-alloc-preserved c =
    let h : 1 < length (terms_of c.loop-alloc.sets) = omega (arith, c.loop-alloc-test.true, c.len.ensures, length-terms_of c.loop-alloc.sets) in
    rounds_next (terms_of c.loop-alloc.sets) (terms_of c.in_ok-sets.sets) _ h c.in_ok-sets.ensures c.loop-alloc.invariant

pub returns-in-Some : goal.returns-in-Some
returns-in-Some c =
    let p : c.loop-alloc.sets.0.items ≡ c.pop.new.self.items ++ (c.in-Some.set ∷ []) = search rules in
    let h : length c.loop-alloc.sets.0.items ≤ 1 = omega (arith, c.loop-alloc-test.false, c.len.ensures, c.loop-alloc.sets.0.ok.0) in
    rounds_done (terms_of c.loop-alloc.sets) (term_of c.in-Some.set) _ (one_left c.loop-alloc.sets.0.items c.pop.new.self.items c.in-Some.set p h) c.loop-alloc.invariant

pub returns : goal.returns
returns c =
    let p : c.loop-alloc.sets.0.items ≡ [] = search rules in
    term_of-Empty ∙ rounds_none (terms_of c.loop-alloc.sets) _ (ap (map term_of) p) c.loop-alloc.invariant
