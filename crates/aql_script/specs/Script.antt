-- What the bytes of a script are, and what is answered for them.
use Rattle.std.specs.Prelude.{ℕ, ◌≡◌, ◌≤◌, ◌+◌, ◌-◌, List, [], ◌++◌, length, Option, Some, None, Result, Ok, Err}
use Rattle.aql_ty.specs.Types.{Sort}
use Rattle.aql_syntax.specs.declared.ast.Decls.{Decls}
use Rattle.aql_syntax.specs.declared.token.Token.{Token}
use Rattle.aql_syntax.specs.Lexis.{Lexeme, AreTokens, TextFaultAt}
use Rattle.aql_syntax.specs.Scan.{first_deep, no_counters}
use Rattle.aql_syntax.specs.Grammar.{ReadsScript, SyntaxFaultAt}
use Rattle.aql_syntax.specs.Tree.{Declaration}
use Rattle.aql_syntax.specs.Size.{AreWithinLimits, IsLarge}
use Rattle.aql_syntax.specs.View.{decls_of}
use Rattle.aql_lex.specs.Lexed.{IsDeepAt}
use Rattle.aql_infer_steps.specs.Typed.{ArePrincipal, sorts_of}
use Rattle.aql_infer.specs.Checked.{IsFirstUntyped}
use Rattle.aql_infer_steps.specs.declared.typed.Typed.{Typed}
use Rattle.aql_prelude.specs.Prelude.{prelude_decls, prelude_count}
use Rattle.aql_script.specs.declared.fault.ScriptFault.{ScriptFault}
use Rattle.aql_script.specs.declared.fault.ScriptFault.TheVariants as faults
use Rattle.aql_script.specs.declared.preparing.Prepared.{Prepared}

-- the bytes are these tokens, whose scan stays at most 400
abbrev pub IsTokenisedAs : List ℕ → List Lexeme → Type 0
IsTokenisedAs bytes ls = (ts : List Token) × AreTokens bytes ts ls × (first_deep no_counters ls ≡ None)

-- the bytes are these declarations, by the lexis and the grammar
abbrev pub IsParsedAs : List ℕ → List Declaration → Type 0
IsParsedAs bytes ds = (ls : List Lexeme) × IsTokenisedAs bytes ls × ReadsScript ds ls

-- and no others
abbrev pub ReadsAlone : List ℕ → List Declaration → Type 0
ReadsAlone bytes ds = IsParsedAs bytes ds × ((others : List Declaration) → IsParsedAs bytes others → others ≡ ds)

-- the declarations of the prelude and behind them those of a script: declaration n of the script is position
-- prelude_count + n
unfoldable pub positions : List Declaration → List Declaration
positions ds = prelude_decls ++ ds

-- the principal sort of each position
abbrev pub AreTyped : List Declaration → List Sort → Type 0
AreTyped ds sorts = ArePrincipal [] (positions ds) sorts

-- declaration n, counted from 1, is the first that passes a limit
pub record IsFirstLarge (ds : List Declaration) (n : ℕ) : Type 0 where
  pub first : 1 ≤ n
  pub last : n ≤ length ds
  pub before : AreWithinLimits (positions ds) (prelude_count + n - 1)
  pub large : IsLarge (positions ds) (prelude_count + n)

-- What is answered for the bytes of a script, in the order of the causes: its positions with their principal sorts, all
-- within the limits; or the first fault.
abbrev pub Prepares : List ℕ → Result Prepared ScriptFault → Type 0
Prepares bytes (Ok p) =
    (ds : List Declaration) × ReadsAlone bytes ds × (decls_of p.decls.items.items ≡ positions ds) × AreTyped ds (sorts_of p.typed.items.items)
    × AreWithinLimits (positions ds) (prelude_count + length ds)
Prepares bytes (Err (faults.Text at)) = TextFaultAt at bytes
Prepares bytes (Err (faults.Deep at)) = IsDeepAt at bytes
Prepares bytes (Err (faults.Syntax n)) = (ls : List Lexeme) × IsTokenisedAs bytes ls × SyntaxFaultAt n ls
Prepares bytes (Err (faults.Type n)) = (ds : List Declaration) × ReadsAlone bytes ds × (1 ≤ n) × IsFirstUntyped [] (positions ds) (prelude_count + n)
Prepares bytes (Err (faults.Large n)) = (ds : List Declaration) × ReadsAlone bytes ds × ((sorts : List Sort) × AreTyped ds sorts) × IsFirstLarge ds n
Prepares bytes (Err faults.Memory) = Unit {0}

-- what the bytes of a script declare, or why they declare nothing
abbrev pub Declares : List ℕ → Result Decls ScriptFault → Type 0
Declares bytes (Ok found) = ReadsAlone bytes (decls_of found.items.items)
Declares bytes (Err (faults.Text at)) = TextFaultAt at bytes
Declares bytes (Err (faults.Deep at)) = IsDeepAt at bytes
Declares bytes (Err (faults.Syntax n)) = (ls : List Lexeme) × IsTokenisedAs bytes ls × SyntaxFaultAt n ls
Declares bytes (Err (faults.Type n)) = ⊥
Declares bytes (Err (faults.Large n)) = ⊥
Declares bytes (Err faults.Memory) = Unit {0}

-- the principal sorts of the positions, or the first declaration without a typing
abbrev pub Types : List Declaration → Result Typed ScriptFault → Type 0
Types ds (Ok typed) = AreTyped ds (sorts_of typed.items.items)
Types ds (Err (faults.Text at)) = ⊥
Types ds (Err (faults.Deep at)) = ⊥
Types ds (Err (faults.Syntax n)) = ⊥
Types ds (Err (faults.Type n)) = (1 ≤ n) × IsFirstUntyped [] (positions ds) (prelude_count + n)
Types ds (Err (faults.Large n)) = ⊥
Types ds (Err faults.Memory) = Unit {0}

-- no position passes a limit, or this declaration is the first that does
abbrev pub IsFirstPast : List Declaration → Option ℕ → Type 0
IsFirstPast ds None = AreWithinLimits (positions ds) (prelude_count + length ds)
IsFirstPast ds (Some n) = IsFirstLarge ds n

-- the positions of a script with these declarations, or the first fault of their types and sizes
abbrev pub IsPreparedAs : List Declaration → Result Prepared ScriptFault → Type 0
IsPreparedAs ds (Ok p) =
    (decls_of p.decls.items.items ≡ positions ds) × AreTyped ds (sorts_of p.typed.items.items) × AreWithinLimits (positions ds) (prelude_count + length ds)
IsPreparedAs ds (Err (faults.Text at)) = ⊥
IsPreparedAs ds (Err (faults.Deep at)) = ⊥
IsPreparedAs ds (Err (faults.Syntax n)) = ⊥
IsPreparedAs ds (Err (faults.Type n)) = (1 ≤ n) × IsFirstUntyped [] (positions ds) (prelude_count + n)
IsPreparedAs ds (Err (faults.Large n)) = ((sorts : List Sort) × AreTyped ds sorts) × IsFirstLarge ds n
IsPreparedAs ds (Err faults.Memory) = Unit {0}
