-- Declarations and whole scripts: what is read is in the grammar and all that is in it, there is one reading at most, and one fault at most.
use Rattle.std.specs.Prelude.{ℕ, ◌≡◌, List, Some}
use Rattle.aql_syntax.specs.Lexis.{Lexeme}
use Rattle.aql_syntax.specs.Tree.{Declaration, bare}
use Rattle.aql_syntax.specs.Grammar.{ReadsScript, SyntaxFaultAt}
use Rattle.aql_value.specs.Partial.{◌>>=◌}
use Rattle.aql_parse_spec.specs.Parsing.{Out, ended_at}

-- an expression alone
abbrev pub bare_at : ℕ → List Lexeme → Out Declaration
bare_at n s = ended_at n s >>= λ e. Some (bare e.0, e.1)

-- a script has one reading at most
abbrev pub OneReading : Type 0
OneReading = (a b : List Declaration) (s : List Lexeme) → ReadsScript a s → ReadsScript b s → a ≡ b

-- and one first fault at most
abbrev pub OneFault : Type 0
OneFault = (m n : ℕ) (s : List Lexeme) → SyntaxFaultAt m s → SyntaxFaultAt n s → m ≡ n

-- and not both
abbrev pub ReadsOrFaults : Type 0
ReadsOrFaults = (a : List Declaration) (n : ℕ) (s : List Lexeme) → ReadsScript a s → SyntaxFaultAt n s → ⊥
