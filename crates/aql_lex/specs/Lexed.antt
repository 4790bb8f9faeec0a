-- What the lexer answers, and that it is the only answer.
use Rattle.std.specs.Prelude.{ℕ, ◌≡◌, List, None, Result, Ok, Err, Vec, length}
use Rattle.std.specs.Global.{Global}
use Rattle.aql_syntax.specs.declared.token.Token.{Token}
use Rattle.aql_syntax.specs.Lexis.{Lexeme, AreTokens, TextFaultAt}
use Rattle.aql_syntax.specs.Scan.{first_deep, no_counters, DeepFaultAt}
use Rattle.aql_lex.specs.declared.fault.LexFault.{LexFault}
use Rattle.aql_lex.specs.declared.fault.LexFault.TheVariants as faults
use Rattle.aql_lex.specs.Texts.{SpansAscend, EachSays}

-- these are the tokens, and the scan of them stays at most 400
abbrev pub IsShallow : List ℕ → List Token → Type 0
IsShallow script ts = (ls : List Lexeme) × (AreTokens script ts ls × (first_deep no_counters ls ≡ None))

-- the script has tokens, and their scan passes 400 at the one that begins at byte `at`
abbrev pub IsDeepAt : ℕ → List ℕ → Type 0
IsDeepAt at script = (ts : List Token) × ((ls : List Lexeme) × (AreTokens script ts ls × DeepFaultAt at ts ls))

-- the same without the scan
abbrev pub Covered : Result (Vec Token Global) LexFault → List ℕ → Type 0
Covered (Ok tokens) script = (ls : List Lexeme) × AreTokens script tokens.items ls
Covered (Err (faults.Text at)) script = TextFaultAt at script
Covered (Err (faults.Deep at)) script = ⊥
Covered (Err faults.Memory) script = Unit {0}

-- what is answered for a script
abbrev pub Lexed : Result (Vec Token Global) LexFault → List ℕ → Type 0
Lexed (Ok tokens) script = IsShallow script tokens.items
Lexed (Err (faults.Text at)) script = TextFaultAt at script
Lexed (Err (faults.Deep at)) script = IsDeepAt at script
Lexed (Err faults.Memory) script = Unit {0}

-- a script has one list of tokens at most, which say one list of lexemes
pub record IsOneList (ts us : List Token) (ls ms : List Lexeme) : Type 0 where
  pub tokens : ts ≡ us
  pub lexemes : ls ≡ ms

-- a script has at most one list of tokens
abbrev pub OneList : Type 0
OneList = (script : List ℕ) (ts us : List Token) (ls ms : List Lexeme) → AreTokens script ts ls → AreTokens script us ms → IsOneList ts us ls ms

-- one text fault at most, and none where the script has tokens
abbrev pub OneTextFault : Type 0
OneTextFault = (m n : ℕ) (script : List ℕ) → TextFaultAt m script → TextFaultAt n script → m ≡ n

-- a script with tokens has no byte at which none begins
abbrev pub TokensOrTextFault : Type 0
TokensOrTextFault = (n : ℕ) (script : List ℕ) (ts : List Token) (ls : List Lexeme) → AreTokens script ts ls → TextFaultAt n script → ⊥

-- one place at most where the scan passes 400, and none where it never does
abbrev pub OneDeepFault : Type 0
OneDeepFault = (m n : ℕ) (script : List ℕ) → IsDeepAt m script → IsDeepAt n script → m ≡ n

-- a script is not shallow and deep at once
abbrev pub ShallowOrDeep : Type 0
ShallowOrDeep = (n : ℕ) (script : List ℕ) (ts : List Token) → IsShallow script ts → IsDeepAt n script → ⊥

-- the spans of the tokens ascend within the script, and the bytes of each say its lexeme
abbrev pub SpansAndTexts : Type 0
SpansAndTexts = (script : List ℕ) (ts : List Token) (ls : List Lexeme) → AreTokens script ts ls →
    SpansAscend 0 ts (length script) × EachSays script ts ls
