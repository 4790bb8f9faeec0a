-- What may go out of a node, and what the code tells of it.
use Rattle.std.proofs.Common.{◌≡◌, ℕ, Bool, true, false, List, Option, Some, None}
use Rattle.aql_value.specs.Lists.{Every}
use Rattle.nrca_term.specs.Term.{Term, Form, form_of, parts_of, child_of}
use Rattle.nrca_term.specs.Nodes.{let_term, if_term, loop_term}
use Rattle.nrca_term.specs.Subst.{shift_term, is_strict}
use Rattle.nrca_term.specs.Facts.{Context}
use Rattle.nrca_term.specs.Firm.{firm}
use Rattle.nrca_term.specs.Rules.{LoopOf}
use Rattle.nrca_ranges.specs.declared.context.Ctx.{Ctx}
use Rattle.nrca_ranges.specs.Bounds.{Ranges}
use Rattle.nrca_ranges.specs.Context.{context_of}
use Rattle.nrca_ranges.specs.Entered.{is_shaped}
use Rattle.nrca_ranges.specs.Shapes.{ranges_of}
use Rattle.nrca_defined.specs.Defined.{IsDefinedAt}
use Rattle.nrca_motion.specs.declared.moves.MoveRule.{MoveRule}
use Rattle.nrca_motion.specs.declared.moves.MoveRule.TheVariants.{M1, M2, M3, M4}
use Rattle.nrca_motion.specs.declared.fitting.Fit.{Fit}
use Rattle.nrca_motion.specs.Moves.{LoopBody, TabBody, LetBelow, MoveRedex, IsStillAt}

-- part i is a let
abbrev pub HasLet : Term → ℕ → Type 0
HasLet t i = (a b : Term) × (child_of (parts_of t) i ≡ Some (let_term a b))

-- part i is a let and strict, and the node is no let
abbrev pub IsStrictLet : Term → ℕ → Type 0
IsStrictLet t i = (form_of t ≡ Form.bind → ⊥) × (is_strict (form_of t) i ≡ true) × HasLet t i

-- whether it is so
abbrev pub TellsPart : Term → ℕ → Bool → Type 0
TellsPart t i true = IsStrictLet t i
TellsPart t i false = IsStrictLet t i → ⊥

-- a part of which it is so, if there is one
abbrev pub TellsStrict : Term → Option ℕ → Type 0
TellsStrict t None = (i : ℕ) → IsStrictLet t i → ⊥
TellsStrict t (Some i) = IsStrictLet t i

-- whether the term is a let
abbrev pub TellsLet : Term → Bool → Type 0
TellsLet t true = (a b : Term) × (t ≡ let_term a b)
TellsLet t false = (a b : Term) → t ≡ let_term a b → ⊥

-- A left side of the first three rules, whatever its terms use and whether they are defined. Part i is the body.
abbrev pub HasForm : MoveRule → ℕ → Term → Type 0
HasForm M1 i t = (i ≡ 1) × ((f : Form) × (z e c b : Term) × LoopOf f z × (t ≡ loop_term f e (if_term c b z)))
HasForm M2 i t = LoopBody (form_of t) i × HasLet t i
HasForm M3 i t = TabBody (form_of t) i × HasLet t i
HasForm M4 i t = ⊥

-- which of the three rules has the node as a left side
abbrev pub TellsForm : Term → Option Fit → Type 0
TellsForm t None = (R : MoveRule) (i : ℕ) → HasForm R i t → ⊥
TellsForm t (Some f) = HasForm f.rule f.part t

-- a left side of the rule, whether or not its terms are defined; the let of M2, M3 and M4 is part i
abbrev pub FitsAt : MoveRule → ℕ → Term → Type 0
FitsAt M1 i t = (f : Form) × (z e c b : Term) × LoopOf f z × (t ≡ loop_term f e (if_term (shift_term 0 1 c) b z))
FitsAt M2 i t = LoopBody (form_of t) i × ((a b : Term) × LetBelow t i a b)
FitsAt M3 i t = TabBody (form_of t) i × ((a b : Term) × LetBelow t i a b)
FitsAt M4 i t = IsStrictLet t i

-- A move may be made at a node: it is a left side, and what has to be defined is sure to have a value at the place.
pub record MayMove (gs : Ranges) (c : Context) (t : Term) (f : Fit) : Type 0 where
  pub fits : FitsAt f.rule f.part t
  pub defined : (r : Term) (needs : List Term) → MoveRedex f.rule t r needs → Every (IsDefinedAt gs c) needs

-- The rule does not fit, or one of the terms that have to be defined is not firm.
unfoldable pub IsRefused : Ranges → Context → MoveRule → Term → Type 0
IsRefused gs c R t = (r : Term) (needs : List Term) → MoveRedex R t r needs → Every (λ x. firm (is_shaped gs.positions) c x ≡ true) needs → ⊥

-- Of a term under `count` further variables: it uses none of them, and outside of them it is sure to have a value; or it uses one, or is
-- not firm there.
abbrev pub TellsOutside : Ranges → Context → ℕ → Term → Bool → Type 0
TellsOutside gs c count t true = ((u : Term) × (t ≡ shift_term 0 count u)) × ((u : Term) → t ≡ shift_term 0 count u → IsDefinedAt gs c u)
TellsOutside gs c count t false = (u : Term) → t ≡ shift_term 0 count u → firm (is_shaped gs.positions) c u ≡ true → ⊥

-- the same in a context
abbrev pub TellsOut : Ctx → ℕ → Term → Bool → Type 0
TellsOut c count t b = TellsOutside (ranges_of c) (context_of c) count t b

-- of the operand of a loop, its first part
abbrev pub TellsOperand : Ctx → Term → Bool → Type 0
TellsOperand c t true = (e : Term) → child_of (parts_of t) 0 ≡ Some e → IsDefinedAt (ranges_of c) (context_of c) e
TellsOperand c t false = (e : Term) → child_of (parts_of t) 0 ≡ Some e → firm (is_shaped (ranges_of c).positions) (context_of c) e ≡ true → ⊥

-- whether the move of the rule may be made
abbrev pub TellsMove : Ctx → Term → Fit → Bool → Type 0
TellsMove c t f true = MayMove (ranges_of c) (context_of c) t f
TellsMove c t f false = IsRefused (ranges_of c) (context_of c) f.rule t

-- no move is left at a place, by the positions that have a shape
abbrev pub IsQuietAt : Ranges → Context → Term → Type 0
IsQuietAt gs c t = IsStillAt (is_shaped gs.positions) c t

-- which move may be made at a node
abbrev pub TellsNode : Ctx → Term → Option Fit → Type 0
TellsNode c t (Some f) = MayMove (ranges_of c) (context_of c) t f
TellsNode c t None = IsQuietAt (ranges_of c) (context_of c) t

-- the right side that is made
abbrev pub IsMade : Fit → Term → Term → Type 0
IsMade f t r = (needs : List Term) × MoveRedex f.rule t r needs
