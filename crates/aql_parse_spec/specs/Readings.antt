-- The functions on lists of lexemes read what the grammar reads. The loosest level of an expression is 8, that of `default`.
use Rattle.std.specs.Prelude.{ℕ, ◌≡◌, ◌<◌, ◌≤◌, List, Some, length}
use Rattle.aql_syntax.specs.Lexis.{Lexeme}
use Rattle.aql_syntax.specs.Tree.{Pat, Tree, Declaration}
use Rattle.aql_syntax.specs.Grammar.{ReadsPat, whole, Reads, ReadsDecl}
use Rattle.aql_parse_spec.specs.Parsing.{pat_at, parse_at, decl_at}
use Rattle.aql_parse_spec.specs.Stops.{Stops}

-- what the function reads as a pattern, the grammar reads as that pattern
abbrev pub PatternsSound : Type 0
PatternsSound = (n : ℕ) (s r : List Lexeme) (p : Pat) → pat_at n s ≡ Some (p, r) → ReadsPat p s r

-- what the grammar reads as a pattern, the function reads as it, at a depth of as many lexemes or more
abbrev pub PatternsComplete : Type 0
PatternsComplete = (n : ℕ) (s r : List Lexeme) (p : Pat) → ReadsPat p s r → length s ≤ n → pat_at n s ≡ Some (p, r)

-- what the function reads as an expression, the grammar reads as that expression
abbrev pub ExpressionsSound : Type 0
ExpressionsSound = (n : ℕ) (s r : List Lexeme) (e : Tree) → parse_at n 8 s ≡ Some (e, r) → Reads whole e s r

-- what the grammar reads as an expression, the function reads as it, at a depth past the number of lexemes, where no expression goes on
abbrev pub ExpressionsComplete : Type 0
ExpressionsComplete = (n : ℕ) (s r : List Lexeme) (e : Tree) → Reads whole e s r → length s < n → Stops 8 r → parse_at n 8 s ≡ Some (e, r)

-- what the function reads as a declaration, the grammar reads as that declaration
abbrev pub DeclarationsSound : Type 0
DeclarationsSound = (n : ℕ) (s r : List Lexeme) (d : Declaration) → decl_at n s ≡ Some (d, r) → ReadsDecl d s r

-- what the grammar reads as a declaration, the function reads as it, at a depth past the number of lexemes
abbrev pub DeclarationsComplete : Type 0
DeclarationsComplete = (n : ℕ) (s r : List Lexeme) (d : Declaration) → ReadsDecl d s r → length s < n → decl_at n s ≡ Some (d, r)
