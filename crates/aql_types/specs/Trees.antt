-- The types that the nodes are before their equations are solved, shared parts written out.
use Rattle.std.specs.Prelude.{ℕ, zero, suc, ◌≡◌, ◌<◌, List, [], ◌∷◌, length, slice_index}
use Rattle.aql_value.specs.Lists.{Every}
use Rattle.aql_ty.specs.Types as types
use Rattle.aql_ty.specs.Types.{Ty, Subst, apply, IsWithin}
use Rattle.aql_types.specs.Unifiers.{Equations}
use Rattle.aql_types.specs.declared.node.Equation.{Equation}
use Rattle.aql_types.specs.Shapes.{Valuation, whole, parts}
use Rattle.aql_types.specs.Forms.{Form, at}
use Rattle.aql_types.specs.Forms as form

-- parts stand below the whole, and nothing is a link
abbrev pub Grows : Form → ℕ → Type 0
Grows (form.var x) i = Unit {0}
Grows (form.made s) i = Every (λ p. p < i) (parts s)
Grows (form.link j) i = ⊥

-- each node was made after its parts, and no equation was taken
abbrev pub IsBuilt : List Form → Type 0
IsBuilt fs = (i : ℕ) → Grows (at fs i) i

-- the type of a form, of the types of its parts
abbrev pub form_type : Valuation → Form → Ty
form_type f (form.var x) = types.var x
form_type f (form.made s) = whole f s
form_type f (form.link j) = types.natural

-- the type of a node, down to m levels
unfoldable pub tree : ℕ → List Form → ℕ → Ty
tree zero fs i = types.natural
tree (suc m) fs i = form_type (tree m fs) (at fs i)

-- the type that a node is
abbrev pub type_at : List Form → ℕ → Ty
type_at fs i = tree (suc i) fs i

-- the equations between the types that the nodes are
abbrev pub equations_of : List Form → List Equation → Equations
equations_of fs [] = []
equations_of fs (e ∷ w) = (type_at fs e.left, type_at fs e.right) ∷ equations_of fs w

-- the nodes of the variables: each variable has one
pub record AreHomes (homes : List ℕ) (fs : List Form) : Type 0 where
  pub below : (x : ℕ) → x < length homes → slice_index homes x < length fs
  pub stands : (x : ℕ) → x < length homes → at fs (slice_index homes x) ≡ form.var x
  pub inside : (i x : ℕ) → i < length fs → at fs i ≡ form.var x → x < length homes
  pub only : (i x : ℕ) → i < length fs → at fs i ≡ form.var x → slice_index homes x ≡ i

-- the instance of each node's type is within the limits
abbrev pub AllWithin : Subst → List Form → Type 0
AllWithin u fs = (i : ℕ) → i < length fs → IsWithin (apply u (type_at fs i))
