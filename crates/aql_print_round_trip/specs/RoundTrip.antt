-- The text of a value, as a script.
use Rattle.std.specs.Prelude.{◌≡◌, ℕ, List, [], ◌∷◌, ◌++◌, Some, codes}
use Rattle.aql_value.specs.Datum.{Datum}
use Rattle.aql_value.specs.Valid.{IsValue}
use Rattle.aql_syntax.specs.declared.token.Token.{Token}
use Rattle.aql_syntax.specs.Lexis.{Lexeme, AreTokens}
use Rattle.aql_syntax.specs.Grammar.{ReadsScript}
use Rattle.aql_syntax.specs.Tree.{Tree, Declaration, bare}
use Rattle.aql_syntax.specs.Matching.{Env, Globals}
use Rattle.aql_syntax.specs.Denotation.{den}
use Rattle.aql_print.specs.ValueText.{text}

-- the bytes have tokens, and these are the declarations
abbrev pub ReadsAs : List ℕ → List Declaration → Type 0
ReadsAs bytes ds = (ts : List Token) × ((ls : List Lexeme) × (AreTokens bytes ts ls × ReadsScript ds ls))

-- a value's text with a semicolon is a bare expression, has no other reading, and the expression denotes the value, whatever names there are
pub record ReadsBack (v : Datum) : Type 0 where
  pub expression : Tree
  pub reads : ReadsAs (text v ++ codes ";") (bare expression ∷ [])
  pub only : (ds : List Declaration) → ReadsAs (text v ++ codes ";") ds → ds ≡ bare expression ∷ []
  pub denotes : (globals : Globals) (env : Env) → den expression globals env ≡ Some v

-- so does each value's
abbrev pub TextsReadBack : Type 0
TextsReadBack = (v : Datum) → IsValue v → ReadsBack v
