-- What a list of qualifiers yields, and the order and the turns of the loops over an array.
use Rattle.std.specs.Prelude.{◌≡◌, ℕ, ◌+◌, ◌*◌, List, Option, Some}
use Rattle.aql_value.specs.Indices.{indices, prefix_products}
use Rattle.aql_value.specs.Partial.{◌>>=◌, each, concat, total}
use Rattle.aql_syntax.specs.Tree.{Quals, append_quals}
use Rattle.aql_syntax.specs.Matching.{Env, Globals}
use Rattle.aql_syntax.specs.Denotation.{over_indices, rows}
use Rattle.aql_syntax.specs.Work.{turns_over}

-- the rows of qualifiers followed by others: those of the others at each row, one after another
abbrev pub OthersAtEachRow : Type 0
OthersAtEachRow = (qs rest : Quals) (globals : Globals) (env : Env) →
    rows (append_quals qs rest) globals env ≡ (rows qs globals env >>= each (rows rest globals) >>= λ found. Some (concat found))

-- the loops over an array go over its indices in row-major order
abbrev pub LoopsAreRowMajor : Type 0
LoopsAreRowMajor = (ds : List ℕ) (f : List ℕ → Option (List Env)) → over_indices ds f ≡ (each f (indices ds) >>= λ found. Some (concat found))

-- the turns of the loops are twice the sum of the prefix products of the dimensions, and those at each index
abbrev pub LoopsTakeTurns : Type 0
LoopsTakeTurns = (ds : List ℕ) (f : List ℕ → ℕ) → turns_over ds f ≡ 2 * prefix_products ds + total f (indices ds)
