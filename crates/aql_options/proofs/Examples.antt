-- Command lines, computed: the options of those with a reading, and why the others have none.
use Rattle.std.specs.Prelude.{◌≡◌, ℕ, Bool, true, false, List, [], ◌∷◌, Option, Some, None, codes, refl}
use Rattle.clap.specs.Words.{Kinds, Text, fault_of}
use Rattle.clap.specs.declared.error.kind.ErrorKind.TheVariants as kinds
use Rattle.clap.proofs.OnLiterals.{clap_on_literals}
use Rattle.aql_options.specs.declared.words.Options.{Options}
use Rattle.aql_options.specs.Words.{HasReading, aql, options_of}

-- the program's name and two words
abbrev line : Text → Text → List Text
line first second = codes "aql" ∷ first ∷ second ∷ []

abbrev options : ℕ → ℕ → Bool → Option ℕ → Bool → Bool → Options
options workers budget plan sample motion graph = record {
  workers = workers;
  budget = budget;
  plan = plan;
  sample = sample;
  motion = motion;
  graph = graph;
}

abbrev fault : List Text → Kinds
fault words = fault_of aql words

none_read : HasReading (codes "aql" ∷ [])
unfolding clap_on_literals
none_read = refl

none : options_of (codes "aql" ∷ []) ≡ options 1 10000000 false None false false
unfolding clap_on_literals
none = refl

workers_read : HasReading (line (codes "--workers") (codes "64"))
unfolding clap_on_literals
workers_read = refl

workers : options_of (line (codes "--workers") (codes "64")) ≡ options 64 10000000 false None false false
unfolding clap_on_literals
workers = refl

joined_read : HasReading (line (codes "--plan") (codes "--sample=12"))
unfolding clap_on_literals
joined_read = refl

joined : options_of (line (codes "--plan") (codes "--sample=12")) ≡ options 1 10000000 true (Some 12) false false
unfolding clap_on_literals
joined = refl

motion_read : HasReading (line (codes "--motion") (codes "--plan"))
unfolding clap_on_literals
motion_read = refl

motion : options_of (line (codes "--motion") (codes "--plan")) ≡ options 1 10000000 true None true false
unfolding clap_on_literals
motion = refl

too_many : fault (line (codes "--workers") (codes "65")) ≡ kinds.ValueValidation ∷ []
unfolding clap_on_literals
too_many = refl

too_few : fault (line (codes "--budget") (codes "0")) ≡ kinds.ValueValidation ∷ []
unfolding clap_on_literals
too_few = refl

twice : fault (line (codes "--plan") (codes "--plan")) ≡ kinds.ArgumentConflict ∷ []
unfolding clap_on_literals
twice = refl

motion_twice : fault (line (codes "--motion") (codes "--motion")) ≡ kinds.ArgumentConflict ∷ []
unfolding clap_on_literals
motion_twice = refl

graph_read : HasReading (line (codes "--graph") (codes "--plan"))
unfolding clap_on_literals
graph_read = refl

graph : options_of (line (codes "--graph") (codes "--plan")) ≡ options 1 10000000 true None false true
unfolding clap_on_literals
graph = refl

graph_twice : fault (line (codes "--graph") (codes "--graph")) ≡ kinds.ArgumentConflict ∷ []
unfolding clap_on_literals
graph_twice = refl

help : fault (codes "aql" ∷ codes "--help" ∷ []) ≡ kinds.DisplayHelp ∷ []
unfolding clap_on_literals
help = refl

version : fault (codes "aql" ∷ codes "--version" ∷ []) ≡ kinds.UnknownArgument ∷ []
unfolding clap_on_literals
version = refl

word : fault (codes "aql" ∷ codes "more" ∷ []) ≡ kinds.UnknownArgument ∷ []
unfolding clap_on_literals
word = refl
