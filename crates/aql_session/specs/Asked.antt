-- What the argument of a reader asks for.
use Rattle.std.specs.Prelude.{ℕ, Bool, true, false, List, [], ◌∷◌, replicate, Option, Some, None, option_map}
use Rattle.aql_value.specs.Datum.{Datum}
use Rattle.aql_value.specs.Indices.{product}
use Rattle.aql_value.specs.Operations.{as_text, as_tuple, index_numbers}
use Rattle.aql_value.specs.Partial.{◌>>=◌}
use Rattle.aql_syntax.specs.Tree as tree
use Rattle.aql_syntax.specs.Tree.{Reader}
use Rattle.aql_syntax.specs.declared.ast.Kind.{Kind}

-- the file, the variable, where to start, how many cells in each dimension and how far apart, and whether numbers keep their sign
pub record Hyperslab : Type 0 where
  pub file : List ℕ
  pub variable : List ℕ
  pub start : List ℕ
  pub count : List ℕ
  pub stride : List ℕ
  pub signed : Bool

-- a hyperslab of a netCDF file, or the table of all records of a file, of which the first may name the fields, by the kinds of their fields
pub data Asked : Type 0 where
  hyperslab : Hyperslab → Asked
  table : (file : List ℕ) → (header : Bool) → (kinds : List Kind) → Asked

-- of two strings and two indices, and of the strides where they are indices
abbrev pub hyperslab_from : (rank : ℕ) → (signed : Bool) → (f x s c : Datum) → (stride : Option (List ℕ)) → Option Hyperslab
hyperslab_from rank signed f x s c stride =
    as_text f >>= λ file. as_text x >>= λ variable. index_numbers rank s >>= λ start. index_numbers rank c >>= λ count. stride >>= λ apart.
    Some (record { file = file; variable = variable; start = start; count = count; stride = apart; signed = signed })

-- of a tuple of file, variable, start and count; without strides each is 1
abbrev pub without_strides : (rank : ℕ) → (signed : Bool) → List Datum → Option Hyperslab
without_strides rank signed (f ∷ x ∷ s ∷ c ∷ []) = hyperslab_from rank signed f x s c (Some (replicate rank 1))
without_strides rank signed vs = None

-- of a tuple of file, variable, start, count and stride
abbrev pub with_strides : (rank : ℕ) → List Datum → Option Hyperslab
with_strides rank (f ∷ x ∷ s ∷ c ∷ t ∷ []) = hyperslab_from rank false f x s c (index_numbers rank t)
with_strides rank vs = None

-- the hyperslab that a value asks for, where it is such a tuple
abbrev pub unstrided_of : (rank : ℕ) → (signed : Bool) → Datum → Option Hyperslab
unstrided_of rank signed v = as_tuple v >>= without_strides rank signed

-- the same with strides
abbrev pub strided_of : (rank : ℕ) → Datum → Option Hyperslab
strided_of rank v = as_tuple v >>= with_strides rank

-- what a reader's argument asks for: of a reader of netCDF files such a tuple, of a reader of records the file's name; nothing where it is
-- no such value
abbrev pub asked_of : Reader → Datum → Option Asked
asked_of (tree.plain k) v = option_map hyperslab (unstrided_of k false v)
asked_of (tree.signed k) v = option_map hyperslab (unstrided_of k true v)
asked_of (tree.strided k) v = option_map hyperslab (strided_of k v)
asked_of (tree.records header ks) v = option_map (λ file. table file header ks) (as_text v)

-- the name of the file
abbrev pub file_of : Asked → List ℕ
file_of (hyperslab h) = h.file
file_of (table file header ks) = file

-- the number of cells of a hyperslab
abbrev pub cells : Hyperslab → ℕ
cells h = product h.count
