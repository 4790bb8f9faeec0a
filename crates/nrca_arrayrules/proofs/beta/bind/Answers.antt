use Rattle.std.proofs.Common.{rules, ◌≡◌, ◌≤◌, ◌++◌, List, [], ◌∷◌, length, map, arith, ap, ◌∙◌}
use Rattle.std.proofs.lemmas.List.{map-append, length-append, length-map}
use Rattle.nrca_term.specs.Term.{Term}
use Rattle.nrca_term.specs.View.{term_of, terms_of}
use Rattle.nrca_arrayrules.proofs.BetaSides.{item-room, moved}
use Rattle.nrca_arrayrules.proofs.beta.bind.Goals as goal

pub name-requires : goal.name-requires
name-requires c =
    let p : c.loop-index.at.0.items ≡ c.pop.new.self.items ++ (c.in-Some.index ∷ []) = search rules in
    let front : List Term = map term_of c.pop.new.self.items in
    let e = moved (terms_of c.loop-index.at) front c.loop-index.invariant.0 (term_of c.in-Some.index) (terms_of c.args.at) c.loop-index.invariant.1 (ap (map term_of) p ∙ map-append term_of c.pop.new.self.items (c.in-Some.index ∷ [])) in
    let n : c.len-names.result ≤ length (terms_of c.args.at) = omega (arith, ap length e, length-append front (term_of c.in-Some.index ∷ c.loop-index.invariant.0), length-map c.pop.new.self.items term_of, c.len-names.ensures, c.pop.new.self.ok.0) in
    item-room (terms_of c.args.at) front c.loop-index.invariant.0 (term_of c.in-Some.index) c.len-names.result e n c.requires
