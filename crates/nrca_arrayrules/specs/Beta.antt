-- One test and one let of a subscript of a tabulation.
use Rattle.std.specs.Prelude.{◌≡◌, ℕ, ◌+◌, ◌<◌, ◌^◌, List, length}
use Rattle.nrca_term.specs.declared.term.Core.{Core}
use Rattle.nrca_term.specs.declared.term.Terms.{Terms}
use Rattle.nrca_term.specs.Term.{Term}
use Rattle.nrca_term.specs.Nodes.{if_term, less_term, let_term, tuple_term, variable, bottom_term}
use Rattle.nrca_term.specs.Rules.{guard}
use Rattle.nrca_term.specs.Subst.{shift_term, top_var}
use Rattle.nrca_term.specs.View.{term_of, terms_of}

-- the term is the inner one where the variable is below the bound, else Bottom
abbrev pub IsTest : Core → ℕ → ℕ → Core → Core → Type 0
IsTest bound i rank inner t =
    term_of t ≡ if_term (less_term (variable i) (shift_term 0 rank (term_of bound)))
    (term_of inner) bottom_term

-- the term is the inner one under a let of the index
abbrev pub IsNamed : Core → ℕ → Core → Core → Type 0
IsNamed index names inner t =
    term_of t ≡ let_term (shift_term 0 names (term_of index)) (term_of inner)

-- each of the terms may be shifted by as many variables as there are terms
abbrev pub MayShift : List Term → Type 0
MayShift ts = top_var (tuple_term ts) + length ts < 2 ^ 64

-- the term is the body behind tests that each of the innermost variables is below its bound
abbrev pub IsGuarded : Terms → Core → Core → Type 0
IsGuarded bounds body t =
    term_of t ≡ guard (length (terms_of bounds)) (terms_of bounds) (term_of body)
