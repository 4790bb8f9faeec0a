-- What a fault of a script says of the run: its status and its output.
use Rattle.std.specs.Prelude.{◌≡◌, ℕ, List, Option, Some, None, codes}
use Rattle.aql_script.specs.Causes.{Found, Sound, Text, Deep, Syntax, Type', Large}
use Rattle.aql_run.specs.Lines.{at_byte, in_declaration}
use Rattle.aql_run.specs.Sample.{sample_text}
use Rattle.aql_run.specs.declared.status.Status.{Status}
use Rattle.aql_run.specs.declared.status.Status.TheVariants as status

-- the script of a run: the bytes that were taken, or where a sample is asked for its text
abbrev pub script_of : (sample : Option ℕ) → (taken : List ℕ) → List ℕ
script_of None taken = taken
script_of (Some n) taken = sample_text n

-- the status is that of a script's own fault
abbrev pub IsRefusal : Status → Type 0
IsRefusal status.Text = Unit {0}
IsRefusal status.Deep = Unit {0}
IsRefusal status.Syntax = Unit {0}
IsRefusal status.Type = Unit {0}
IsRefusal status.Large = Unit {0}
IsRefusal other = ⊥

-- what is found of a script fixes the status and the whole output where it is a fault, and else the status is that of no such fault
abbrev pub Says : Found → Status → (written : List ℕ) → Type 0
Says Sound s written = IsRefusal s → ⊥
Says (Text k) s written = (s ≡ status.Text) × (written ≡ at_byte (codes "text") k)
Says (Deep k) s written = (s ≡ status.Deep) × (written ≡ at_byte (codes "deep") k)
Says (Syntax n) s written = (s ≡ status.Syntax) × (written ≡ in_declaration (codes "syntax") n)
Says (Type' n) s written = (s ≡ status.Type) × (written ≡ in_declaration (codes "type") n)
Says (Large n) s written = (s ≡ status.Large) × (written ≡ in_declaration (codes "large") n)
