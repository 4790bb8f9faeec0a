-- What is kept of declarations for the sizes of those after them: the extents of the definition, with numbers of 64 bits.
use Rattle.std.specs.Prelude.{◌-◌, ◌^◌, min, List, [], ◌∷◌, Some}
use Rattle.aql_syntax.specs.Tree.{Declaration, declared_name}
use Rattle.aql_syntax.specs.View.{decl_of}
use Rattle.aql_syntax.specs.Measured.{latest}
use Rattle.aql_syntax.specs.Size.{Extent, Extents, extent, extent_of}
use Rattle.aql_syntax.specs.declared.ast.Decl.{Decl}
use Rattle.aql_syntax.specs.declared.walk.Added.{Added}
use Rattle.aql_syntax.specs.declared.sizes.Chain.{Chain, Start, Then'}

-- the extent that three numbers of the code are
abbrev pub extent_in : Added → Extent
extent_in k = record { pattern = k.pattern; size = k.size; levels = k.levels }

-- an extent whose numbers are the greatest of 64 bits where they pass it
abbrev pub saturate_extent : Extent → Extent
saturate_extent x = record { pattern = min x.pattern (2 ^ 64 - 1); size = min x.size (2 ^ 64 - 1); levels = min x.levels (2 ^ 64 - 1) }

-- what is kept after one declaration more: its extent as those after it take it, three zeros where it is no macro
abbrev pub keep : Declaration → Extents → Extents
keep d earlier = (declared_name d, Some (saturate_extent (extent_of (Some (extent d earlier))))) ∷ earlier

-- what is kept of declarations, the latest first
abbrev pub kept_of : List Declaration → Extents
kept_of [] = []
kept_of (d ∷ earlier) = keep d (kept_of earlier)

-- what is kept of declarations in order
abbrev pub extents_after : List Decl → Extents
extents_after ds = kept_of (latest ds)

-- what is kept of declarations in order, put before what was kept
abbrev pub kept_onto : List Decl → Extents → Extents
kept_onto [] kept = kept
kept_onto (d ∷ ds) kept = kept_onto ds (keep (decl_of d) kept)

-- what a chain keeps
abbrev pub chain_extents : Chain → Extents
chain_extents Start = []
chain_extents (Then' d k p before) = (declared_name (decl_of d.now), Some (extent_in k)) ∷ chain_extents before
