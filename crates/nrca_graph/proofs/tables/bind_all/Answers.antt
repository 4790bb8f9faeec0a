use Rattle.std.proofs.Common.{rules, ◌≡◌, ◌≤◌, ◌+◌, ◌^◌, ◌<◌, ◌++◌, suc, List, [], ◌∷◌, length, map, arith, ap, ◌∙◌, length-append}
use Rattle.std.proofs.lemmas.List.{map-append, length-map}
use Rattle.nrca_term.specs.Laws.Shift.{top_var-shift_le}
use Rattle.nrca_term.specs.Subst.{top_var}
use Rattle.nrca_term.specs.Term.{Term}
use Rattle.nrca_term.specs.View.{term_of, terms_of}
use Rattle.nrca_graph.proofs.Trees.{item_room, moved, lets_next}
use Rattle.nrca_graph.proofs.tables.bind_all.Goals as goal

pub shift-requires : goal.shift-requires
shift-requires c =
    let p : c.loop-term.terms.0.items ≡ c.pop.new.self.items ++ (c.in-Some.term ∷ []) = search rules in
    let front : List Term = map term_of c.pop.new.self.items in
    let e = moved (terms_of c.loop-term.terms) front c.loop-term.invariant.0 (term_of c.in-Some.term) (terms_of c.args.terms) c.loop-term.invariant.1 (ap (map term_of) p ∙ map-append term_of c.pop.new.self.items (c.in-Some.term ∷ [])) in
    let n : c.len-names.result ≤ length (terms_of c.args.terms) = omega (arith, ap length e, length-append front (term_of c.in-Some.term ∷ c.loop-term.invariant.0), length-map c.pop.new.self.items term_of, c.len-names.ensures, c.pop.new.self.ok.0) in
    let r : top_var (term_of c.in-Some.term) + c.len-names.result < 2 ^ 64 = item_room (terms_of c.args.terms) front c.loop-term.invariant.0 (term_of c.in-Some.term) c.len-names.result e n c.requires in
    omega (arith, r, top_var-shift_le 0 c.len-names.result (term_of c.in-Some.term))

pub loop-term-preserved : goal.loop-term-preserved
loop-term-preserved c =
    let p : c.loop-term.terms.0.items ≡ c.pop.new.self.items ++ (c.in-Some.term ∷ []) = search rules in
    let front : List Term = map term_of c.pop.new.self.items in
    let q : terms_of c.loop-term.terms ≡ front ++ (term_of c.in-Some.term ∷ []) = ap (map term_of) p ∙ map-append term_of c.pop.new.self.items (c.in-Some.term ∷ []) in
    let e = moved (terms_of c.loop-term.terms) front c.loop-term.invariant.0 (term_of c.in-Some.term) (terms_of c.args.terms) c.loop-term.invariant.1 q in
    let n : c.len-names.result ≡ length front = omega (arith, length-map c.pop.new.self.items term_of, c.len-names.ensures, c.pop.new.self.ok.0) in
    let m : length (terms_of c.loop-term.terms) ≡ suc (length front) = omega (arith, ap length q, last front (term_of c.in-Some.term)) in (
      term_of c.in-Some.term ∷ c.loop-term.invariant.0,
      e,
      λ x h. lets_next c.bind-inner.result c.len-names.result (length (terms_of c.loop-term.terms)) (length front) (term_of c.in-Some.term) c.loop-term.invariant.0 x n m
          (c.bind-inner.ensures _ _ c.shift.ensures.shifted (c.loop-term.invariant.2 x h)),
    )
  where
    last : (xs : List Term) (x : Term) → length (xs ++ x ∷ []) ≡ suc (length xs)
    last xs x = omega (arith, length-append xs (x ∷ []))
