-- The moves of tests and lets out of loops: left side, right side and what has to be defined; one move at a place, and chains of moves.
use Rattle.std.specs.Prelude.{◌≡◌, ℕ, suc, Bool, true, List, [], ◌∷◌, Some}
use Rattle.aql_value.specs.Lists.{Every}
use Rattle.nrca_term.specs.Term.{Term, Form, form_of, parts_of, child_of, binders_of, with_part}
use Rattle.nrca_term.specs.Nodes.{variable, let_term, if_term, loop_term}
use Rattle.nrca_term.specs.Meaning.{Outcomes}
use Rattle.nrca_term.specs.Places.{place_of, reach, put_at}
use Rattle.nrca_term.specs.Subst.{shift_term, subst_term, is_strict}
use Rattle.nrca_term.specs.Facts.{Context, context_at, enter_facts, no_facts}
use Rattle.nrca_term.specs.Firm.{firm, is_defined}
use Rattle.nrca_term.specs.Rules.{LoopOf, IsDefined}
use Rattle.nrca_motion.specs.declared.moves.MoveRule.{MoveRule}
use Rattle.nrca_motion.specs.declared.moves.MoveRule.TheVariants.{M1, M2, M3, M4}
use Rattle.nrca_motion.specs.declared.moves.Move as code

-- variable 0 becomes variable k, and variables 1 to k are lowered by one: a let's body whose let goes out past k variables
abbrev pub rotate_term : ℕ → Term → Term
rotate_term k b = subst_term 0 (variable k) (shift_term (suc k) 1 b)

-- a let around a term whose part i is another one
abbrev pub let_out : Term → Term → ℕ → Term → Term
let_out a l i w = let_term a (with_part (shift_term 0 1 l) i w)

-- the body of a loop
abbrev pub LoopBody : Form → ℕ → Type 0
LoopBody Form.big_union i = i ≡ 1
LoopBody Form.sum i = i ≡ 1
LoopBody _ i = ⊥

-- the body of a tabulation
abbrev pub TabBody : Form → ℕ → Type 0
TabBody (Form.tab rank) i = i ≡ rank
TabBody _ i = ⊥

-- part i is a let whose bound term uses none of the part's own variables
abbrev pub LetBelow : Term → ℕ → Term → Term → Type 0
LetBelow l i a b = child_of (parts_of l) i ≡ Some (let_term (shift_term 0 (binders_of (parts_of l) i) a) b)

-- The left side, the right side, and the terms that have to be defined. Each of these stands in the left or the right side at a part without
-- variables and facts of its own, so it is read at the place of the node: outside of the loop or tabulation.
abbrev pub MoveRedex : MoveRule → Term → Term → List Term → Type 0
MoveRedex M1 l r needs =
    (f : Form) × (z e c b : Term) × LoopOf f z × (l ≡ loop_term f e (if_term (shift_term 0 1 c) b z)) × (r ≡ if_term c (loop_term f e b) z)
    × (needs ≡ e ∷ c ∷ [])
MoveRedex M2 l r needs =
    (i : ℕ) × (a b : Term) × LoopBody (form_of l) i × LetBelow l i a b × (r ≡ let_out a l i (rotate_term (binders_of (parts_of l) i) b)) × (needs ≡ a ∷ [])
MoveRedex M3 l r needs =
    (i : ℕ) × (a b : Term) × TabBody (form_of l) i × LetBelow l i a b × (r ≡ let_out a l i (rotate_term (binders_of (parts_of l) i) b)) × (needs ≡ a ∷ [])
MoveRedex M4 l r needs =
    (i : ℕ) × (a b : Term) × (form_of l ≡ Form.bind → ⊥) × (is_strict (form_of l) i ≡ true) × (child_of (parts_of l) i ≡ Some (let_term a b))
    × (r ≡ let_out a l i b) × (needs ≡ [])

-- One move of a closed term: the left side stands at the path, the right side is put there, and the terms have values at each list of
-- values with which an evaluation of the term comes there.
pub record MoveStep (V : Outcomes) (R : MoveRule) (path : List ℕ) (t u : Term) : Type 0 where
  pub from : Term
  pub to : Term
  pub needs : List Term
  pub found : place_of t path ≡ Some from
  pub put : u ≡ put_at t path to
  pub moved : MoveRedex R from to needs
  pub defined : Every (λ vals. Every (IsDefined V vals) needs) (reach V [] t path)

-- a chain of moves, by the rule and the place of each
abbrev pub MoveChain : Outcomes → List code.Move → Term → Term → Type 0
MoveChain V [] t u = t ≡ u
MoveChain V (s ∷ moves) t u = (m : Term) × MoveStep V s.rule s.path t m × MoveChain V moves m u

-- at a place with these facts no move fits whose terms are firm, D telling which positions are defined
abbrev pub IsStillAt : (ℕ → Bool) → Context → Term → Type 0
IsStillAt D c t = (R : MoveRule) (r : Term) (needs : List Term) → MoveRedex R t r needs → Every (λ x. firm D c x ≡ true) needs → ⊥

-- at no place of the term is a move left whose terms are firm, from the facts around it
abbrev pub StillFrom : (ℕ → Bool) → Context → Term → Type 0
StillFrom D c t = (path : List ℕ) (s : Term) → place_of t path ≡ Some s → IsStillAt D (context_at enter_facts c t path) s

-- a closed term in which no move is left whose terms are firm
abbrev pub IsStill : Outcomes → Term → Type 0
IsStill V t = StillFrom (is_defined V) no_facts t
