-- The types that the nodes of a solved graph stand for, down to a number of levels, and how large they are.
use Rattle.std.specs.Prelude.{ℕ, zero, suc, ◌≡◌, ◌<◌, ◌+◌, max, Option, Some, None, List, [], ◌∷◌, length, slice_index_or, nat_le, if◌then◌else◌, Bool, true, false, IsSome}
use Rattle.aql_ty.specs.Types as types
use Rattle.aql_ty.specs.Types.{Ty}
use Rattle.aql_types.specs.declared.extent.Extent.{Extent}
use Rattle.aql_types.specs.Shapes.{parts, is_formed}
use Rattle.aql_types.specs.Forms.{Form, at}
use Rattle.aql_types.specs.Forms as form
use Rattle.aql_types.specs.Trees.{form_type}

-- where a link leads, else the node itself
abbrev pub link_target : Form → ℕ → ℕ
link_target (form.var z) i = i
link_target (form.made s) i = i
link_target (form.link j) i = j

-- the node that stands for it, where links lead to roots
abbrev pub end : List Form → ℕ → ℕ
end fs i = link_target (at fs i) i

-- the type that the node stands for, down to m levels
unfoldable pub read : ℕ → List Form → ℕ → Ty
read zero fs i = types.natural
read (suc m) fs i = form_type (read m fs) (at fs (end fs i))

-- the extent of no types
abbrev pub nothing : Extent
nothing = record { levels = 0; nodes = 0 }

-- the extent of types beside others: the levels of the deepest, the nodes of all, of which there are at most so many
abbrev pub beside : ℕ → Option Extent → Option Extent → Option Extent
beside most None b = None
beside most (Some a) None = None
beside most (Some a) (Some b) =
    if nat_le (a.nodes + b.nodes) most then Some (record { levels = max a.levels b.levels; nodes = a.nodes + b.nodes }) else None

-- the extent of a type with parts of that extent
abbrev pub above : ℕ → Option Extent → Option Extent
above most None = None
above most (Some a) = if nat_le (a.nodes + 1) most then Some (record { levels = a.levels + 1; nodes = a.nodes + 1 }) else None

-- the extent of all parts
abbrev pub together : ℕ → (ℕ → Option Extent) → List ℕ → Option Extent
together most f [] = Some nothing
together most f (p ∷ ps) = beside most (f p) (together most f ps)

-- the extent of a type, of the extents of its parts
abbrev pub over : ℕ → (ℕ → Option Extent) → Form → Option Extent
over most f (form.var z) = above most (Some nothing)
over most f (form.made s) = if is_formed s then above most (together most f (parts s)) else None
over most f (form.link j) = above most (Some nothing)

-- how many levels and nodes the type has that the node stands for: none where there are more than m levels or more than so
-- many nodes, or where it is no type of the language
unfoldable pub extent : ℕ → ℕ → List Form → ℕ → Option Extent
extent most zero fs i = None
extent most (suc m) fs i = over most (extent most m fs) (at fs (end fs i))

-- the extent that was kept for a node
abbrev pub kept_extent : List Extent → ℕ → Extent
kept_extent es k = slice_index_or es k nothing

-- each extent that was kept, those without levels apart, is that of its node
abbrev pub IsMemo : ℕ → List Extent → List Form → Type 0
IsMemo most es fs = (k : ℕ) → 0 < (kept_extent es k).levels → extent most (kept_extent es k).levels fs k ≡ Some (kept_extent es k)

-- whether all nodes stand for types within these limits
abbrev pub Measured : Bool → ℕ → ℕ → List Form → Type 0
Measured true limit most fs = (i : ℕ) → i < length fs → IsSome (extent most limit fs i)
Measured false limit most fs = (i : ℕ) × (i < length fs) × (extent most limit fs i ≡ None)
