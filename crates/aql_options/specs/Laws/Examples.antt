-- A command line with a reading, computed.
use Rattle.std.specs.Prelude.{[], ◌∷◌, codes, refl}
use Rattle.clap.proofs.OnLiterals.{clap_on_literals}
use Rattle.aql_options.specs.Words.{HasReading}

-- the program's name alone
pub name_read : HasReading (codes "aql" ∷ [])
unfolding clap_on_literals
name_read = refl
