-- The lexemes that the code's words stand for.
use Rattle.std.proofs.Common.{Bor}
use Rattle.std.specs.Prelude.{ℕ, ◌≡◌, List, [], ◌∷◌, Option, Some, None, Result, Ok, Err}
use Rattle.aql_syntax.specs.Lexis.{Lexeme, named, numeral, quoted, mark}
use Rattle.aql_syntax.specs.Tree.{Pats, append_pats}
use Rattle.aql_value.specs.Partial.{◌>>=◌}
use Rattle.aql_parse_spec.specs.Parsing.{Out}
use Rattle.aql_lex.specs.Texts.{text_of, string_bytes, within, Spot, escape, high, low}
use Rattle.aql_parse.specs.declared.words.Word.{Word}
use Rattle.aql_parse.specs.declared.words.Word.TheVariants as words
use Rattle.aql_parse.specs.declared.words.Spot as code_spot
use Rattle.aql_parse.specs.declared.words.Spot.TheVariants as spots
use Rattle.aql_parse.specs.declared.refusal.Refusal.{Refusal}
use Rattle.aql_parse.specs.declared.refusal.Refusal.TheVariants as refusals

-- what a string's text, from quote to quote, stands for
abbrev pub string_of : List ℕ → List ℕ
string_of [] = []
string_of (b ∷ t) = string_bytes within t

-- what a word says
abbrev pub lexeme_of : List ℕ → Word → Lexeme
lexeme_of source (words.Name t) = named (text_of source t)
lexeme_of source (words.Text t) = quoted (string_of (text_of source t))
lexeme_of source (words.Number n) = numeral n
lexeme_of source (words.Mark g) = mark g

-- what the words say
abbrev pub lexemes : List ℕ → List Word → List Lexeme
lexemes source [] = []
lexemes source (w ∷ ws) = lexeme_of source w ∷ lexemes source ws

-- Syntax is refused where nothing is read
abbrev pub RefusesReading : {Y : Type 0} → Refusal → Option Y → Type 0
RefusesReading refusals.Memory read = Unit {0}
RefusesReading refusals.Syntax read = read ≡ None

-- what was answered, seen by `view`, is what is read, unless memory ran out
abbrev pub GivesReading : {X Y : Type 0} → (X → Y) → Result X Refusal → Option Y → Type 0
GivesReading view (Ok x) read = read ≡ Some (view x)
GivesReading view (Err e) read = RefusesReading e read

-- what was answered, seen by `view`, and the words behind it are what the parser reads at the front of the words
abbrev pub Parses : {X Y : Type 0} → (X → Y) → List ℕ → List Word → Result (X × Bor (List Word)) Refusal → (List Lexeme → Out Y) → Type 0
Parses view source ws answer parser = GivesReading (λ x. (view x.0, lexemes source x.1.now)) answer (parser (lexemes source ws))

-- what follows that which was read, where something was
abbrev pub behind_of : {A : Type 0} → Out A → Option (List Lexeme)
behind_of o = o >>= λ x. Some x.1

-- the words that were answered are those behind what the parser reads at the front of the words; none where it reads nothing
abbrev pub Passes : {A : Type 0} → List ℕ → List Word → Option (Bor (List Word)) → (List Lexeme → Out A) → Type 0
Passes source ws None parser = behind_of (parser (lexemes source ws)) ≡ None
Passes source ws (Some r) parser = behind_of (parser (lexemes source ws)) ≡ Some (lexemes source r.now)

-- where in a string the code is
abbrev pub spot_of : code_spot.Spot → Spot
spot_of spots.Within = within
spot_of spots.Escape = escape
spot_of spots.High = high
spot_of (spots.Low h) = low h

-- a list behind those that came before it
abbrev pub with_pats : Pats → Out Pats → Out Pats
with_pats front o = o >>= λ x. Some (append_pats front x.0, x.1)
