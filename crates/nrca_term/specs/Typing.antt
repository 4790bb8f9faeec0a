-- The types of core terms. Types, the types of the forms that evaluate every part, and which values have a type stand in aql_ty.
use Rattle.std.specs.Prelude.{◌≡◌, ℕ, List, [], ◌∷◌, ◌++◌, length, map, replicate, Some}
use Rattle.std.specs.List.{slice_get}
use Rattle.aql_value.specs.Datum.{Datum}
use Rattle.aql_ty.specs.Types as types
use Rattle.aql_ty.specs.Types.{Ty, natural, truth, Subst, apply, IsRank, IsType}
use Rattle.aql_ty.specs.OperationTypes.{strict_rule}
use Rattle.aql_ty.specs.ValueTypes.{HasType}
use Rattle.nrca_term.specs.Term.{Term, Parts, node, none, part, Form}
use Rattle.nrca_term.specs.Meaning.{Outcomes, at_position, outcome}

-- what a part is to have: the types of its own variables, the innermost first, and its type
pub record Arg : Type 0 where
  pub own : List Ty
  pub has : Ty

-- a part with variables of these types, and a value of that type
abbrev pub arg : List Ty → Ty → Arg
arg own has = record { own = own; has = has }

-- the arguments and the type of a form, under types of positions and of variables
abbrev pub form_rule : (ℕ → Ty → Type 0) → List Ty → Form → List Arg → Ty → Type 0
form_rule G env (Form.var i) args T = (args ≡ []) × (slice_get env i ≡ Some T)
form_rule G env (Form.global n) args T = (args ≡ []) × G n T
form_rule G env Form.bind args T = (A : Ty) × (args ≡ arg [] A ∷ arg (A ∷ []) T ∷ [])
form_rule G env Form.choose args T = args ≡ arg [] truth ∷ arg [] T ∷ arg [] T ∷ []
form_rule G env Form.default args T = args ≡ arg [] T ∷ arg [] T ∷ []
form_rule G env Form.big_union args T = (A B : Ty) × (args ≡ arg [] (types.set_of A) ∷ arg (A ∷ []) (types.set_of B) ∷ []) × (T ≡ types.set_of B)
form_rule G env Form.sum args T = (A : Ty) × (args ≡ arg [] (types.set_of A) ∷ arg (A ∷ []) natural ∷ []) × (T ≡ natural)
form_rule G env (Form.tab rank) args T =
    (A : Ty) × IsRank rank × (args ≡ replicate rank (arg [] natural) ++ arg (replicate rank natural) A ∷ []) × (T ≡ types.array_of rank A)
form_rule G env (Form.strict s) args T = (Ts : List Ty) × (args ≡ map (arg []) Ts) × strict_rule s Ts T

abbrev mutual
  -- the term has the type, under types of positions and of the variables around it, the innermost first
  pub ctyped : (ℕ → Ty → Type 0) → List Ty → Term → Ty → Type 0
  ctyped G env (node f ps) T = IsType T × (args : List Arg) × form_rule G env f args T × parts_typed G env ps args

  -- the parts have these types, each under its own variables
  pub parts_typed : (ℕ → Ty → Type 0) → List Ty → Parts → List Arg → Type 0
  parts_typed G env none args = args ≡ []
  parts_typed G env (part k t ps) args =
      (a : Arg) × (rest : List Arg) × (args ≡ a ∷ rest) × (length a.own ≡ k) × ctyped G (a.own ++ env) t a.has × parts_typed G env ps rest

-- a position has each instance of the type given for it
abbrev pub instances : List Ty → ℕ → Ty → Type 0
instances Ts n T = (S : Ty) × (u : Subst) × (at_position Ts n ≡ Some S) × (T ≡ apply u S)

-- each value among the outcomes has the types of its position
abbrev pub OutcomesHave : (ℕ → Ty → Type 0) → Outcomes → Type 0
OutcomesHave G V = (n : ℕ) (T : Ty) (v : Datum) → G n T → outcome V n ≡ Some v → HasType T v

-- a closed term is typed where it has a type under some list of types of positions
abbrev pub IsTyped : Term → Type 0
IsTyped t = (Ts : List Ty) × (T : Ty) × ctyped (instances Ts) [] t T
