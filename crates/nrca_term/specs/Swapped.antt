-- One or two boxes of which one has another term in it.
use Rattle.std.proofs.Common.{◌≡◌, ℕ, Option, [], ◌∷◌, Box, Global}
use Rattle.nrca_term.specs.declared.term.Core.{Core}
use Rattle.nrca_term.specs.Term.{Term, none, part, plain, child_of, set_child}
use Rattle.nrca_term.specs.View.{term_of}

-- as the only part of a node, the second box is the first with the term in place i
abbrev pub SwapsOne : Box Core Global → ℕ → Core → Box Core Global → Type 0
SwapsOne a i u r = part 0 (term_of r.value) none ≡ set_child (part 0 (term_of a.value) none) i (term_of u)

-- the same of two parts, however many variables the second has
abbrev pub SwapsTwo : Box Core Global × Box Core Global → ℕ → Core → Box Core Global × Box Core Global → Type 0
SwapsTwo p i u r = (k : ℕ) → part 0 (term_of r.0.value) (part k (term_of r.1.value) none) ≡ set_child (part 0 (term_of p.0.value) (part k (term_of p.1.value) none)) i (term_of u)

-- part i of the two
abbrev pub part_of_two : Box Core Global × Box Core Global → ℕ → Option Term
part_of_two p i = child_of (plain (term_of p.0.value ∷ term_of p.1.value ∷ []) none) i
