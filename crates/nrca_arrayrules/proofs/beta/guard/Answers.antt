use Rattle.std.proofs.Common.{rules, ◌≡◌, ◌++◌, List, [], ◌∷◌, map, arith, ap, ◌∙◌}
use Rattle.std.proofs.lemmas.List.{map-append}
use Rattle.nrca_term.specs.Term.{Term}
use Rattle.nrca_term.specs.View.{term_of, terms_of}
use Rattle.nrca_term.specs.Laws.Equations.{length-terms_of}
use Rattle.nrca_arrayrules.proofs.BetaSides.{item-room, moved}
use Rattle.nrca_arrayrules.proofs.beta.guard.Goals as goal

pub test-requires : goal.test-requires
test-requires c =
    let p : c.loop-bound.bounds.0.items ≡ c.pop.new.self.items ++ (c.in-Some.bound ∷ []) = search rules in
    let front : List Term = map term_of c.pop.new.self.items in
    let e = moved (terms_of c.loop-bound.bounds) front c.loop-bound.invariant.0 (term_of c.in-Some.bound) (terms_of c.args.bounds) c.loop-bound.invariant.1 (ap (map term_of) p ∙ map-append term_of c.pop.new.self.items (c.in-Some.bound ∷ [])) in
    item-room (terms_of c.args.bounds) front c.loop-bound.invariant.0 (term_of c.in-Some.bound) c.len-rank.result e (omega (arith, length-terms_of c.args.bounds, c.len-rank.ensures)) c.requires
