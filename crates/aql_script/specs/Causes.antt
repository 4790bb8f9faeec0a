-- What the bytes of a script are found to be: sound, or with a first fault at a place; and that they are one of these at most.
use Rattle.std.specs.Prelude.{◌≡◌, ◌≤◌, ◌+◌, ℕ, List, [], length}
use Rattle.aql_ty.specs.Types.{Sort}
use Rattle.aql_syntax.specs.Lexis.{Lexeme, TextFaultAt}
use Rattle.aql_syntax.specs.Grammar.{SyntaxFaultAt}
use Rattle.aql_syntax.specs.Size.{AreWithinLimits}
use Rattle.aql_syntax.specs.Tree.{Declaration}
use Rattle.aql_lex.specs.Lexed.{IsDeepAt}
use Rattle.aql_infer.specs.Checked.{IsFirstUntyped}
use Rattle.aql_prelude.specs.Prelude.{prelude_count}
use Rattle.aql_script.specs.Script.{IsTokenisedAs, ReadsAlone, AreTyped, positions, IsFirstLarge}

-- the first fault of a script, at a byte or in a declaration counted from 1, or that it has none
pub data Found : Type 0 where
  Sound : Found
  Text : ℕ → Found
  Deep : ℕ → Found
  Syntax : ℕ → Found
  Type' : ℕ → Found
  Large : ℕ → Found

-- What stands for each: the declarations are read, typed and within the limits; or neither a blank nor a token begins at the byte; or the
-- scan first passes its limit there; or the declaration has no reading; or no typing; or it is the first that passes a limit.
abbrev pub IsFound : List ℕ → Found → Type 0
IsFound bytes Sound =
    (ds : List Declaration) × ReadsAlone bytes ds × ((sorts : List Sort) × AreTyped ds sorts) × AreWithinLimits (positions ds) (prelude_count + length ds)
IsFound bytes (Text at) = TextFaultAt at bytes
IsFound bytes (Deep at) = IsDeepAt at bytes
IsFound bytes (Syntax n) = (ls : List Lexeme) × IsTokenisedAs bytes ls × SyntaxFaultAt n ls
IsFound bytes (Type' n) = (ds : List Declaration) × ReadsAlone bytes ds × (1 ≤ n) × IsFirstUntyped [] (positions ds) (prelude_count + n)
IsFound bytes (Large n) = (ds : List Declaration) × ReadsAlone bytes ds × ((sorts : List Sort) × AreTyped ds sorts) × IsFirstLarge ds n

-- one at most
abbrev pub OneCause : Type 0
OneCause = (bytes : List ℕ) (f g : Found) → IsFound bytes f → IsFound bytes g → f ≡ g
