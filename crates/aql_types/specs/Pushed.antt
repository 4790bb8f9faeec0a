-- What a graph has more where the nodes of types were pushed: those of the types and of their parts alone.
use Rattle.std.specs.Prelude.{ℕ, ◌≡◌, ◌+◌, ◌<◌, ◌≤◌, List, ◌++◌, length}
use Rattle.aql_value.specs.Lists.{Every}
use Rattle.aql_ty.specs.Types as types
use Rattle.aql_ty.specs.Types.{Ty, Tys, Subst, apply, IsWithin}
use Rattle.aql_types.specs.Unifiers.{Equations, SidesWithin}
use Rattle.aql_types.specs.Unifiers as unifiers
use Rattle.aql_types.specs.declared.node.Equation.{Equation}
use Rattle.aql_types.specs.declared.graph.Graph.{Graph}
use Rattle.aql_types.specs.Shapes.{types_at}
use Rattle.aql_types.specs.Forms.{Form, at}
use Rattle.aql_types.specs.Forms as form
use Rattle.aql_types.specs.Valuations.{AreIn}
use Rattle.aql_types.specs.Trees.{type_at, equations_of, AllWithin}
use Rattle.aql_types.specs.Graphs.{forms_of}

-- each variable with its number raised
abbrev pub shift : ℕ → Subst
shift n x = types.var (n + x)

-- the first n nodes are the variables, each by its own number
pub record AreNumbered (n : ℕ) (fs : List Form) : Type 0 where
  pub long : n ≤ length fs
  pub stands : (x : ℕ) → x < n → at fs x ≡ form.var x

-- n variables, and nothing else
pub record IsFresh (n : ℕ) (g : Graph) : Type 0 where
  pub variables : g.variables ≡ n
  pub long : length (forms_of g) ≡ n
  pub numbered : AreNumbered n (forms_of g)

-- other nodes stand behind the old ones, none of them a variable
pub record Extends (new old : Graph) : Type 0 where
  pub behind : (gs : List Form) × (forms_of new ≡ forms_of old ++ gs)
  pub variables : new.variables ≡ old.variables

-- a node of that type; where the type's instance is within the limits, so are those of all new nodes
pub record Pushes (i : ℕ) (new old : Graph) (t : Ty) : Type 0 where
  pub extends : Extends new old
  pub below : i < length new.nodes.items
  pub is : type_at (forms_of new) i ≡ t
  pub within : (u : Subst) → AllWithin u (forms_of old) → IsWithin (apply u t) → AllWithin u (forms_of new)

-- nodes of these types, the same of each
pub record PushesAll (ps : List ℕ) (new old : Graph) (ts : Tys) : Type 0 where
  pub extends : Extends new old
  pub below : Every (λ p. p < length new.nodes.items) ps
  pub are : types_at (type_at (forms_of new)) ps ≡ ts
  pub within : (u : Subst) → AllWithin u (forms_of old) → unifiers.AllWithin u ts → AllWithin u (forms_of new)

-- nodes of these types, whatever their numbers
pub record PushesUses (new old : Graph) (us : Tys) : Type 0 where
  pub extends : Extends new old
  pub uses : (u : Subst) → AllWithin u (forms_of new) → unifiers.AllWithin u us
  pub within : (u : Subst) → AllWithin u (forms_of old) → unifiers.AllWithin u us → AllWithin u (forms_of new)

-- equations between nodes of the sides' types, the same of each side
pub record PushesEquations (es : List Equation) (new old : Graph) (w : Equations) : Type 0 where
  pub extends : Extends new old
  pub below : AreIn (length new.nodes.items) es
  pub are : equations_of (forms_of new) es ≡ w
  pub within : (u : Subst) → AllWithin u (forms_of old) → SidesWithin u w → AllWithin u (forms_of new)

-- a graph of variables, of the sides of these equations, and of these types that are used
pub record Makes (es : List Equation) (g : Graph) (w : Equations) (us : Tys) : Type 0 where
  pub numbered : AreNumbered g.variables (forms_of g)
  pub below : AreIn (length g.nodes.items) es
  pub are : equations_of (forms_of g) es ≡ w
  pub uses : (u : Subst) → AllWithin u (forms_of g) → unifiers.AllWithin u us
  pub within : (u : Subst) → ((x : ℕ) → IsWithin (u x)) → SidesWithin u w → unifiers.AllWithin u us → AllWithin u (forms_of g)
