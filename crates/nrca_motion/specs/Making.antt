-- What goes out of a node, and what is made of the node.
use Rattle.std.proofs.Common.{◌≡◌, ℕ, Some}
use Rattle.nrca_term.specs.Term.{Term, Form, parts_of, child_of, binders_of, with_part}
use Rattle.nrca_term.specs.Nodes.{let_term, if_term, loop_term}
use Rattle.nrca_term.specs.Subst.{shift_term}
use Rattle.nrca_term.specs.Rules.{LoopOf}
use Rattle.nrca_motion.specs.Moves.{rotate_term, let_out, LetBelow}

-- part i is a let whose bound term uses none of the part's own variables
abbrev pub HasLetBelow : Term → ℕ → Type 0
HasLetBelow t i = (a b : Term) × LetBelow t i a b

-- a loop's test goes out of the loop
abbrev pub IsTestOut : Term → Term → Type 0
IsTestOut t r = (f : Form) × (z e c b : Term) × LoopOf f z × (t ≡ loop_term f e (if_term (shift_term 0 1 c) b z)) × (r ≡ if_term c (loop_term f e b) z)

-- a let goes out of part i, past the part's own variables
abbrev pub IsLetOut : Term → ℕ → Term → Type 0
IsLetOut t i r = (a b : Term) × LetBelow t i a b × (r ≡ let_out a t i (rotate_term (binders_of (parts_of t) i) b))

-- a let goes out of part i, which has no variables of its own
abbrev pub IsStrictOut : Term → ℕ → Term → Type 0
IsStrictOut t i r = (a b : Term) × (child_of (parts_of t) i ≡ Some (let_term a b)) × (r ≡ let_out a t i b)

-- a let of the one term around the node, which has another part i
abbrev pub IsAround : Term → Term → ℕ → Term → Term → Type 0
IsAround a t i u r = r ≡ let_term a (with_part (shift_term 0 1 t) i u)
