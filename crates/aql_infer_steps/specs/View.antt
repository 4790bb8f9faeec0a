-- What the code keeps is a state of the walk, local names and schemes, and what it answers an answer of the walk.
use Rattle.std.specs.Prelude.{ℕ, zero, suc, ◌≡◌, List, [], ◌∷◌, map, take, length, Option, Some, None, Result, Ok, Err, IfOk}
use Rattle.aql_ty.specs.Types.{Ty, natural, product, set_of, array_of, Tys, no_type, type, apply, Sort, value, macro}
use Rattle.aql_types.specs.Unifiers.{Equations}
use Rattle.aql_ty.specs.View.{type_of, sort_of}
use Rattle.aql_value.specs.Lists.{onto}
use Rattle.aql_names.specs.Named.{Name}
use Rattle.aql_syntax.specs.Typing.{Locals}
use Rattle.aql_infer_steps.specs.Constraints.{State, Made, NumberedScheme, NumberedSchemes, raise_variables}
use Rattle.aql_infer_steps.specs.declared.sketch.Part.TheVariants as part
use Rattle.aql_infer_steps.specs.declared.sketch.Part.{Part}
use Rattle.aql_infer_steps.specs.declared.sketch.Instance.{Instance}
use Rattle.aql_infer_steps.specs.declared.sketch.Sketch as code
use Rattle.aql_infer_steps.specs.declared.sketch.Sketch.{Sketch, Row_of-Sketch, end_of-Sketch, more_of-Sketch}
use Rattle.aql_infer_steps.specs.declared.sketch.Draft.TheVariants as draft
use Rattle.aql_infer_steps.specs.declared.sketch.Draft.{Draft}
use Rattle.aql_infer_steps.specs.declared.store.Sides.{Sides}
use Rattle.aql_infer_steps.specs.declared.store.Store.{Store}
use Rattle.aql_infer_steps.specs.declared.names.Local.{Local}
use Rattle.aql_infer_steps.specs.declared.positions.Position.{Position}
use Rattle.aql_infer_steps.specs.declared.fault.NoTyping.{NoTyping}
use Rattle.aql_infer_steps.specs.declared.fault.NoTyping.TheVariants as faults

-- Types under way, by what the earlier positions have.

-- what the position of that number has, counted from 0; numbers past the last have the type of natural numbers
abbrev pub sort_at : List Position → ℕ → Sort
sort_at [] i = value natural
sort_at (p ∷ ps) zero = sort_of p.scheme
sort_at (p ∷ ps) (suc i) = sort_at ps i

-- the type of a part; the type of natural numbers where there is no such part
abbrev pub part_of : Part → Sort → Ty
part_of part.Value (value t) = t
part_of part.Value (macro a b) = natural
part_of part.Argument (value t) = natural
part_of part.Argument (macro a b) = a
part_of part.Result (value t) = natural
part_of part.Result (macro a b) = b

-- the type of that part of that position, with each variable's number raised
abbrev pub instance_type : List Position → Instance → Ty
instance_type ps i = apply (raise_variables i.first) (part_of i.part (sort_at ps i.position))

abbrev mutual
  -- the type that a sketch is
  pub sketch_type : List Position → Sketch → Ty
  sketch_type ps (code.Plain t) = type_of t
  sketch_type ps (code.Tuple' shape ts) = product (sketch_row ps ts)
  sketch_type ps (code.SetOf' p t) = set_of (sketch_type ps t)
  sketch_type ps (code.ArrayOf' rank p t) = array_of rank (sketch_type ps t)
  sketch_type ps (code.Instance i) = instance_type ps i

  -- the types of the parts inside a tuple
  pub sketch_row : List Position → {n : _} → Row_of-Sketch n → Tys
  sketch_row ps end_of-Sketch = no_type
  sketch_row ps (more_of-Sketch t ts) = type (sketch_type ps t) (sketch_row ps ts)

-- the types of a list
abbrev pub sketch_types : List Position → List Sketch → Tys
sketch_types ps [] = no_type
sketch_types ps (t ∷ ts) = type (sketch_type ps t) (sketch_types ps ts)

-- the type that may be there
abbrev pub sketch_in : List Position → Option Sketch → Option Ty
sketch_in ps None = None
sketch_in ps (Some t) = Some (sketch_type ps t)

-- the sort that a draft is
abbrev pub draft_sort : List Position → Draft → Sort
draft_sort ps (draft.Value t) = value (sketch_type ps t)
draft_sort ps (draft.Macro a b) = macro (sketch_type ps a) (sketch_type ps b)

-- the equations of a list
abbrev pub sides_of : List Position → List Sides → Equations
sides_of ps [] = []
sides_of ps (e ∷ es) = (sketch_type ps e.left, sketch_type ps e.right) ∷ sides_of ps es

-- What the code keeps.

-- what the code has written, as the definitions see it; the last equation comes first
abbrev pub state_of : List Position → Store → State
state_of ps s = record { eqs = onto (sides_of ps s.equations.items) []; uses = sketch_types ps s.uses.items; next = s.next }

-- local names put before others one after another, so that the last comes first
abbrev pub locals_onto : List Position → List Local → Locals → Locals
locals_onto ps [] env = env
locals_onto ps (l ∷ ls) env = locals_onto ps ls ((l.name, sketch_type ps l.ty) ∷ env)

-- the local names of a list, the last the innermost
abbrev pub locals_of : List Position → List Local → Locals
locals_of ps ls = locals_onto ps ls []

-- a list and more behind it
abbrev pub Extends : List Local → List Local → Type 0
Extends old new = take (length old) new ≡ old

-- the scheme of a position
abbrev pub scheme_of : Position → NumberedScheme
scheme_of p = record { sort = sort_of p.scheme; variables = p.variables }

-- the schemes of these positions, put in front of others one after another
abbrev pub schemes_onto : List Position → NumberedSchemes → NumberedSchemes
schemes_onto [] ss = ss
schemes_onto (p ∷ ps) ss = schemes_onto ps ((p.name, scheme_of p) ∷ ss)

-- what the positions of a list have, the latest first
abbrev pub schemes_of : List Position → NumberedSchemes
schemes_of ps = schemes_onto ps []

-- the names of positions, in order
abbrev pub names_of : List Position → List Name
names_of ps = map (λ p. p.name) ps

-- the types of a list, one by one
abbrev pub types_in : List Position → List Sketch → List Ty
types_in ps [] = []
types_in ps (t ∷ ts) = sketch_type ps t ∷ types_in ps ts

-- NoType where the walk has no answer
abbrev pub FailsTyping : {Y : Type 0} → NoTyping → Option Y → Type 0
FailsTyping faults.Memory o = Unit {0}
FailsTyping faults.NoType o = o ≡ None

-- what is answered is what the walk makes
abbrev pub Makes : {X Y : Type 0} → (X → Made Y) → Result X NoTyping → Option (Made Y) → Type 0
Makes view (Ok x) o = o ≡ Some (view x)
Makes view (Err e) o = FailsTyping e o

-- a type and a state
abbrev pub MakesType : List Position → Result (Sketch × Store) NoTyping → Option (Made Ty) → Type 0
MakesType ps answer o = Makes (λ r. record { result = sketch_type ps r.0; state = state_of ps r.1 }) answer o

-- what a declaration has, and a state
abbrev pub MakesSort : List Position → Result (Draft × Store) NoTyping → Option (Made Sort) → Type 0
MakesSort ps answer o = Makes (λ r. record { result = draft_sort ps r.0; state = state_of ps r.1 }) answer o

-- a state alone
abbrev pub MakesState : List Position → Result Store NoTyping → Option (Made (Unit {0})) → Type 0
MakesState ps answer o = Makes (λ s. record { result = tt; state = state_of ps s }) answer o

-- these local names, and a state
abbrev pub MakesLocals : List Position → List Local → Result Store NoTyping → Option (Made Locals) → Type 0
MakesLocals ps env answer o = Makes (λ s. record { result = locals_of ps env; state = state_of ps s }) answer o

-- where there is an answer, it is a type and a state that are made
abbrev pub GivesType : {E : Type 0} → List Position → Result (Sketch × Store) E → Option (Made Ty) → Type 0
GivesType ps answer o = IfOk answer (λ r. o ≡ Some (record { result = sketch_type ps r.0; state = state_of ps r.1 }))

-- where there is an answer, it is a state that is made
abbrev pub GivesState : {E : Type 0} → List Position → Result Store E → Option (Made (Unit {0})) → Type 0
GivesState ps answer o = IfOk answer (λ s. o ≡ Some (record { result = tt; state = state_of ps s }))
