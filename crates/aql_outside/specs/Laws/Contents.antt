-- Laws on what is answered where the files tell their bytes.
use Rattle.std.proofs.Common.{subst}
use Rattle.std.proofs.lemmas.Option.{none-some}
use Rattle.std.specs.Prelude.{◌≡◌, ℕ, Option, Some, None, option_map, Ok, List, length}
use Rattle.aql_outside.specs.Contents.{Content, bytes_in, TellsSize}

-- what a size is where the bytes of the file are told
pub size-from_told : (E : Type 0) (holds : Option Content) (name bytes : List ℕ) (size : Option ℕ) → bytes_in holds name ≡ Some bytes
    → TellsSize {E = E} holds name (Ok size) → size ≡ Some (length bytes)
size-from_told E None name bytes size there told = absurd (none-some _ there)
size-from_told E (Some files) name bytes size there told = subst (λ (file : Option (List ℕ)). size ≡ option_map length file) there told
