-- What the parser answers.
use Rattle.std.specs.Prelude.{ℕ, List, ◌++◌, ◌≡◌, Result, Ok, Err}
use Rattle.aql_syntax.specs.Lexis.{Lexeme, named, numeral, quoted, mark}
use Rattle.aql_syntax.specs.declared.ast.Decls.{Decls}
use Rattle.aql_syntax.specs.declared.token.Token.{Token}
use Rattle.aql_syntax.specs.View.{decls_of}
use Rattle.aql_syntax.specs.Grammar.{ReadsScript, SyntaxFaultAt}
use Rattle.aql_lex.specs.Texts.{EachSays}
use Rattle.aql_parse.specs.declared.fault.ParseFault.{ParseFault}
use Rattle.aql_parse.specs.declared.fault.ParseFault.TheVariants as faults
use Rattle.aql_parse.specs.declared.words.Word.{Word}
use Rattle.aql_parse.specs.Words.{lexemes}

-- what is answered for these lexemes: the declarations that they are, or the first declaration where there is none
abbrev pub Parsed : Result Decls ParseFault → List Lexeme → Type 0
Parsed (Ok found) ls = ReadsScript (decls_of found.items.items) ls
Parsed (Err faults.Memory) ls = Unit {0}
Parsed (Err (faults.Syntax n)) ls = SyntaxFaultAt n ls

-- a reserved word or sign
abbrev pub IsMark : Lexeme → Type 0
IsMark (named x) = ⊥
IsMark (numeral n) = ⊥
IsMark (quoted t) = ⊥
IsMark (mark g) = Unit {0}

-- the words so far are lexemes, and the tokens that are left say the others
pub record Rest (source : List ℕ) (left : List Token) (words : List Word) (ls : List Lexeme) : Type 0 where
  pub later : List Lexeme
  pub says : EachSays source left later
  pub whole : lexemes source words ++ later ≡ ls
