-- The positions of a script: how many there are, and where its own declarations stand.
use Rattle.std.proofs.Common.{◌≡◌, ◌+◌, List, ◌++◌, refl, length, drop, length-append}
use Rattle.aql_syntax.specs.Tree.{Declaration}
use Rattle.aql_prelude.specs.Prelude.{prelude_decls, prelude_count}
use Rattle.aql_script.specs.Script.{positions}

pub positions_are : (ds : List Declaration) → positions ds ≡ prelude_decls ++ ds
unfolding positions
positions_are ds = refl

pub length_positions : (ds : List Declaration) → length (positions ds) ≡ prelude_count + length ds
unfolding positions
length_positions ds = length-append prelude_decls ds

-- the declarations behind the prelude are the script's
pub drop_prelude : (ds : List Declaration) → drop prelude_count (positions ds) ≡ ds
unfolding positions
drop_prelude ds = refl
