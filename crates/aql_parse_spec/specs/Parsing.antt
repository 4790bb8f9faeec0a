-- What the parser does, as functions on lists of lexemes: what is read at the front, and what follows it.
-- No public clause of the parser cites them; the laws of this crate say that they are the grammar.
use Rattle.std.specs.Prelude.{ℕ, zero, suc, ◌==◌, ◌-◌, List, [], ◌∷◌, Bool, true, false, Option, Some, None, nat_lt, length, if◌then◌else◌}
use Rattle.aql_value.specs.Partial.{◌>>=◌, or_else}
use Rattle.aql_value.specs.Strict.{Strict}
use Rattle.aql_value.specs.declared.ops.ArithOp.TheVariants as ariths
use Rattle.aql_value.specs.declared.ops.CompareOp.TheVariants as compares
use Rattle.aql_syntax.specs.declared.sign.Sign.{Sign}
use Rattle.aql_syntax.specs.declared.sign.Sign.TheVariants as signs
use Rattle.aql_syntax.specs.declared.ast.Kind.{Kind}
use Rattle.aql_syntax.specs.declared.ast.Kind.TheVariants as field_kinds
use Rattle.aql_syntax.specs.Lexis.{behind, Lexeme, named, numeral, quoted, mark}
use Rattle.aql_syntax.specs.Tree.{Name, Pat, bind, any, equals, refers, tuple, Pats, no_pat, pat, number, truth, bytes, Tree, name, op, members, comp, tab, bindings, choice, negation, default, apply, function, summap, Trees, no_tree, tree, Axes, no_axis, axis, Quals, no_qual, from, cells, same, test, Defs, no_def, def, Reader, plain, signed, strided, records, Declaration, val, mac, read, bare, count_trees, count_axes, append}
use Rattle.aql_syntax.specs.View.{of_one, of_two}
use Rattle.aql_syntax.specs.Grammar.{Junction, both, either, junction, head_operator, netcdf, csv}
use Rattle.aql_parse_spec.specs.SignNumbers.{same_sign}

-- what was read, and what follows it
abbrev pub Out : Type 0 → Type 0
Out A = Option (A × List Lexeme)

-- what reads a tree at the front of lexemes
abbrev pub Parser : Type 0
Parser = List Lexeme → Out Tree

-- a parser of each level: 0 an application, 1 to 3 products, sums and unions, 4 a comparison, 5 a negation,
-- 6 and 7 `and` and `or`, 8 an expression
abbrev pub Parsers : Type 0
Parsers = ℕ → Parser

-- the rest after that sign
unfoldable pub after : Sign → List Lexeme → Option (List Lexeme)
after x (mark y ∷ s) = if same_sign y x then Some s else None
after x _ = None

-- a name
unfoldable pub name_at : List Lexeme → Out Name
name_at (named x ∷ s) = Some (x, s)
name_at _ = None

-- Patterns.

-- one pattern in parentheses is that pattern
abbrev pub enclosed_pats : Pats → Pat
enclosed_pats no_pat = tuple no_pat
enclosed_pats (pat p no_pat) = p
enclosed_pats (pat p (pat q ps)) = tuple (pat p (pat q ps))

-- what follows the first of several patterns: a comma and more, or nothing
abbrev pub pats_rest : (List Lexeme → Out Pats) → Pat → List Lexeme → Out Pats
pats_rest more p (mark signs.Comma ∷ s) = more s >>= λ x. Some (pat p x.0, x.1)
pats_rest more p s = Some (pat p no_pat, s)

-- one pattern or more, with commas between them
unfoldable pub pats_at : (List Lexeme → Out Pat) → ℕ → List Lexeme → Out Pats
pats_at q zero s = None
pats_at q (suc k) s = q s >>= λ x. pats_rest (pats_at q k) x.0 x.1

-- one pattern: a name, a constant, a wildcard, or patterns in parentheses
abbrev pub pat_in : (List Lexeme → Out Pat) → ℕ → List Lexeme → Out Pat
pat_in q k [] = None
pat_in q k (named x ∷ s) = Some (refers x, s)
pat_in q k (numeral n ∷ s) = Some (equals (number n), s)
pat_in q k (quoted t ∷ s) = Some (equals (bytes t), s)
pat_in q k (mark signs.True ∷ s) = Some (equals (truth true), s)
pat_in q k (mark signs.False ∷ s) = Some (equals (truth false), s)
pat_in q k (mark signs.Underscore ∷ s) = Some (any, s)
pat_in q k (mark signs.Backslash ∷ s) = name_at s >>= λ x. Some (bind x.0, x.1)
pat_in q k (mark signs.Open ∷ s) = pats_at q k s >>= λ x. after signs.Close x.1 >>= λ r. Some (enclosed_pats x.0, r)
pat_in q k (mark _ ∷ s) = None

-- a pattern, of at most that depth
unfoldable pub pat_at : ℕ → List Lexeme → Out Pat
pat_at zero s = None
pat_at (suc n) s = pat_in (pat_at n) n s

-- Operators between two expressions.

-- what an operator makes of two expressions
pub data Joiner : Type 0 where
  builds : Strict → Joiner
  joins : Junction → Joiner

-- two operands under an operator
abbrev pub joined_by : Joiner → Tree → Tree → Tree
joined_by (builds o) a b = of_two o a b
joined_by (joins j) a b = junction j a b

-- an operator's level, and what it makes
abbrev pub operator_of : Lexeme → Option (ℕ × Joiner)
operator_of (mark signs.Star) = Some (1, builds (Strict.arith ariths.Mul))
operator_of (mark signs.Slash) = Some (1, builds (Strict.arith ariths.Quotient))
operator_of (mark signs.Percent) = Some (1, builds (Strict.arith ariths.Remainder))
operator_of (mark signs.Plus) = Some (2, builds (Strict.arith ariths.Add))
operator_of (mark signs.Minus) = Some (2, builds (Strict.arith ariths.Monus))
operator_of (mark signs.Union) = Some (3, builds Strict.union)
operator_of (mark signs.Equal) = Some (4, builds (Strict.compare compares.Equal))
operator_of (mark signs.Unequal) = Some (4, builds (Strict.compare compares.Unequal))
operator_of (mark signs.Less) = Some (4, builds (Strict.compare compares.Less))
operator_of (mark signs.LessEqual) = Some (4, builds (Strict.compare compares.LessEqual))
operator_of (mark signs.Greater) = Some (4, builds (Strict.compare compares.Greater))
operator_of (mark signs.GreaterEqual) = Some (4, builds (Strict.compare compares.GreaterEqual))
operator_of (mark signs.And) = Some (6, joins both)
operator_of (mark signs.Or) = Some (7, joins either)
operator_of _ = None

-- the operator, where it is one of that level
abbrev pub at_level : ℕ → List Lexeme → Option (ℕ × Joiner) → Option (Joiner × List Lexeme)
at_level h s None = None
at_level h s (Some o) = if o.0 == h then Some (o.1, s) else None

-- an operator of that level, and what follows it
unfoldable pub operator_at : ℕ → List Lexeme → Option (Joiner × List Lexeme)
operator_at h [] = None
operator_at h (l ∷ s) = at_level h s (operator_of l)

-- a comparison takes one operator, any other level as many as there are
abbrev pub turns : ℕ → ℕ → ℕ
turns h k = if h == 4 then 1 else k

-- Heads of applications.

-- what an expression begins with: `f !`, an operation and `!`, `( fn`, `summap ( fn`, or something else
pub data Opening : Type 0 where
  applies : Name → List Lexeme → Opening
  operates : Strict → List Lexeme → Opening
  functions : List Lexeme → Opening
  summaps : List Lexeme → Opening
  operand : Opening

-- what stands behind a sign that is there, and else an operand
abbrev pub opens : (List Lexeme → Opening) → Option (List Lexeme) → Opening
opens f None = operand
opens f (Some s) = f s

-- an operation with `!` behind it
abbrev pub operates_at : Option Strict → List Lexeme → Opening
operates_at None s = operand
operates_at (Some o) s = opens (operates o) (after signs.Bang s)

-- what an application begins with: a name, an operation or a function in front of `!`, or an operand
abbrev pub opening_in : List Lexeme → Opening
opening_in [] = operand
opening_in (named f ∷ s) = opens (applies f) (after signs.Bang s)
opening_in (mark signs.Open ∷ s) = opens functions (after signs.Fn s)
opening_in (mark signs.Summap ∷ s) = opens summaps (after signs.Open s >>= λ r. after signs.Fn r)
opening_in (l ∷ s) = operates_at (head_operator l) s

-- the same
unfoldable pub opening : List Lexeme → Opening
opening s = opening_in s

-- Expressions. p gives the parsers with one less depth; k is a number of turns that suffices.

-- what follows the first of several expressions: a comma and more, or nothing
abbrev pub list_rest : (List Lexeme → Out Trees) → Tree → List Lexeme → Out Trees
list_rest more e (mark signs.Comma ∷ s) = more s >>= λ x. Some (tree e x.0, x.1)
list_rest more e s = Some (tree e no_tree, s)

-- one expression or more, with commas between them
unfoldable pub list_at : Parsers → ℕ → List Lexeme → Out Trees
list_at p zero s = None
list_at p (suc k) s = p 8 s >>= λ x. list_rest (list_at p k) x.0 x.1

-- such a list up to a bracket, or nothing
abbrev pub maybe_at : Parsers → ℕ → List Lexeme → Out Trees
maybe_at p k (mark signs.CloseBracket ∷ s) = Some (no_tree, mark signs.CloseBracket ∷ s)
maybe_at p k s = list_at p k s

-- no longer than 8
abbrev pub short : {A : Type 0} → ℕ → A → Option A
short n x = if nat_lt 8 n then None else Some x

-- the one expression of a list
abbrev pub only : Trees → Option Tree
only (tree e no_tree) = Some e
only _ = None

-- one expression in parentheses is that expression
abbrev pub grouping : Trees → Tree
grouping no_tree = op Strict.tuple no_tree
grouping (tree e no_tree) = e
grouping (tree e (tree d es)) = op Strict.tuple (tree e (tree d es))

-- `\`, a name and a sign
unfoldable pub binder_at : Sign → List Lexeme → Out Name
binder_at g s = after signs.Backslash s >>= λ r. name_at r >>= λ x. after g x.1 >>= λ r'. Some (x.0, r')

-- what follows the first index of a tabulation: a comma and more, or nothing
abbrev pub axes_rest : (List Lexeme → Out Axes) → Name → Tree → List Lexeme → Out Axes
axes_rest more x e (mark signs.Comma ∷ s) = more s >>= λ y. Some (axis x e y.0, y.1)
axes_rest more x e s = Some (axis x e no_axis, s)

-- the indices of a tabulation, one or more
unfoldable pub axes_at : Parsers → ℕ → List Lexeme → Out Axes
axes_at p zero s = None
axes_at p (suc k) s = binder_at signs.Less s >>= λ x. p 8 x.1 >>= λ e. axes_rest (axes_at p k) x.0 e.0 e.1

-- what a qualifier is before its expression
pub data Front : Type 0 where
  from_set : Pat → Front
  from_cells : Pat → Pat → Front
  matches : Pat → Front
  tests : Front

-- a qualifier of that front, before others
abbrev pub add_qualifier : Front → Tree → Quals → Quals
add_qualifier (from_set p) e qs = from p e qs
add_qualifier (from_cells p q) e qs = cells p q e qs
add_qualifier (matches p) e qs = same p e qs
add_qualifier tests e qs = test e qs

-- a pattern and `<-` or `==`
abbrev pub front_of : Out Pat → Out Front
front_of (Some (p, mark signs.Arrow ∷ r)) = Some (from_set p, r)
front_of (Some (p, mark signs.DoubleEqual ∷ r)) = Some (matches p, r)
front_of _ = None

-- `[`, a pattern, `:`, a pattern, `]`, `<-`
abbrev pub cells_front : ℕ → List Lexeme → Out Front
cells_front n s =
    after signs.OpenBracket s >>= λ r. pat_at n r >>= λ x. after signs.Colon x.1 >>= λ r'. pat_at n r' >>= λ y.
    after signs.CloseBracket y.1 >>= λ r''. after signs.Arrow r'' >>= λ r'''. Some (from_cells x.0 y.0, r''')

-- the front that was read, and else that of a test
abbrev pub or_tests : List Lexeme → Out Front → Front × List Lexeme
or_tests s (Some x) = x
or_tests s None = (tests, s)

-- the front of a qualifier: a generator's pattern, an array's two patterns, a match, or a test
unfoldable pub front_at : ℕ → List Lexeme → Front × List Lexeme
front_at n s = or_tests s (or_else (front_of (pat_at n s)) (cells_front n s))

-- what follows the first qualifier: a comma and more, or nothing
abbrev pub quals_rest : (List Lexeme → Out Quals) → Front → Tree → List Lexeme → Out Quals
quals_rest more f e (mark signs.Comma ∷ s) = more s >>= λ y. Some (add_qualifier f e y.0, y.1)
quals_rest more f e s = Some (add_qualifier f e no_qual, s)

-- qualifiers, one or more
unfoldable pub quals_at : Parsers → ℕ → ℕ → List Lexeme → Out Quals
quals_at p n zero s = None
quals_at p n (suc k) s = p 8 (front_at n s).1 >>= λ e. quals_rest (quals_at p n k) (front_at n s).0 e.0 e.1

-- a pattern and then that sign
unfoldable pub pat_then : Sign → ℕ → List Lexeme → Out Pat
pat_then g n s = pat_at n s >>= λ x. after g x.1 >>= λ r. Some (x.0, r)

-- what follows the first binding of a let: another one, or nothing
abbrev pub defs_rest : (List Lexeme → Out Defs) → Pat → Tree → List Lexeme → Out Defs
defs_rest more x e (mark signs.Val ∷ s) = more (mark signs.Val ∷ s) >>= λ y. Some (def x e y.0, y.1)
defs_rest more x e s = Some (def x e no_def, s)

-- `val`, a pattern and `=`
unfoldable pub def_at : ℕ → List Lexeme → Out Pat
def_at n s = after signs.Val s >>= λ r. pat_then signs.Equal n r

-- the bindings of a let, one or more
unfoldable pub defs_at : Parsers → ℕ → ℕ → List Lexeme → Out Defs
defs_at p n zero s = None
defs_at p n (suc k) s = def_at n s >>= λ x. p 8 x.1 >>= λ e. defs_rest (defs_at p n k) x.0 e.0 e.1

-- two closing brackets
unfoldable pub closed_twice : List Lexeme → Option (List Lexeme)
closed_twice s = after signs.CloseBracket s >>= λ r. after signs.CloseBracket r

-- behind the first expressions in braces
unfoldable pub brace_rest : Parsers → ℕ → Trees → Parser
brace_rest p k es (mark signs.CloseBrace ∷ s) = Some (members es, s)
brace_rest p k es (mark signs.Bar ∷ s) =
    only es >>= λ e. quals_at p k k s >>= λ x. after signs.CloseBrace x.1 >>= λ r. Some (comp e x.0, r)
brace_rest p k es _ = None

-- behind an open brace
unfoldable pub braces_at : Parsers → ℕ → Parser
braces_at p k (mark signs.CloseBrace ∷ s) = Some (op Strict.empty no_tree, s)
braces_at p k s = list_at p k s >>= λ x. brace_rest p k x.0 x.1

-- the literal array of these dimensions and cells
abbrev pub literal_of : Trees → Trees → Tree
literal_of ds cs = op (Strict.literal (count_trees ds)) (append ds cs)

-- behind the first expressions in double brackets
unfoldable pub bracket_rest : Parsers → ℕ → Trees → Parser
bracket_rest p k es (mark signs.Semicolon ∷ s) =
    short (count_trees es) es >>= λ ds. maybe_at p k s >>= λ x. closed_twice x.1 >>= λ r. Some (literal_of ds x.0, r)
bracket_rest p k es (mark signs.Bar ∷ s) =
    only es >>= λ e. axes_at p k s >>= λ x. short (count_axes x.0) x.0 >>= λ xs. closed_twice x.1 >>= λ r. Some (tab xs e, r)
bracket_rest p k es _ = None

-- behind two open brackets
unfoldable pub brackets_at : Parsers → ℕ → Parser
brackets_at p k s = list_at p k s >>= λ x. bracket_rest p k x.0 x.1

-- behind the word `let`
unfoldable pub let_at : Parsers → ℕ → Parser
let_at p k s =
    defs_at p k k s >>= λ x. after signs.In x.1 >>= λ r. p 8 r >>= λ e. after signs.End e.1 >>= λ r'. Some (bindings x.0 e.0, r')

-- behind an open parenthesis
unfoldable pub paren_at : Parsers → ℕ → Parser
paren_at p k s = list_at p k s >>= λ x. after signs.Close x.1 >>= λ r. Some (grouping x.0, r)

-- a primary expression: a name, a constant, or what stands in brackets
abbrev pub primary_in : Parsers → ℕ → Parser
primary_in p k [] = None
primary_in p k (named x ∷ s) = Some (name x, s)
primary_in p k (numeral n ∷ s) = Some (op (Strict.nat n) no_tree, s)
primary_in p k (quoted t ∷ s) = Some (op (Strict.text t) no_tree, s)
primary_in p k (mark signs.True ∷ s) = Some (op (Strict.bool true) no_tree, s)
primary_in p k (mark signs.False ∷ s) = Some (op (Strict.bool false) no_tree, s)
primary_in p k (mark signs.Open ∷ s) = paren_at p k s
primary_in p k (mark signs.OpenBrace ∷ s) = braces_at p k s
primary_in p k (mark signs.OpenBracket ∷ s) = after signs.OpenBracket s >>= λ r. brackets_at p k r
primary_in p k (mark signs.Let ∷ s) = let_at p k s
primary_in p k (mark _ ∷ s) = None

-- the same
unfoldable pub primary_at : Parsers → ℕ → Parser
primary_at p k s = primary_in p k s

-- the subscripts of an expression
abbrev pub sub_step : Parsers → ℕ → (Tree → Parser) → Tree → Parser
sub_step p k again a (mark signs.OpenBracket ∷ s) =
    list_at p k s >>= λ x. short (count_trees x.0) x.0 >>= λ es. after signs.CloseBracket x.1 >>= λ r. again (op Strict.sub (tree a es)) r
sub_step p k again a s = Some (a, s)

-- subscripts behind an expression, so many at most
unfoldable pub sub_rest : Parsers → ℕ → ℕ → Tree → Parser
sub_rest p k zero a s = Some (a, s)
sub_rest p k (suc i) a s = sub_step p k (sub_rest p k i) a s

-- a primary expression and its subscripts
unfoldable pub postfix_at : Parsers → ℕ → Parser
postfix_at p k s = primary_at p k s >>= λ x. sub_rest p k k x.0 x.1

-- behind `fn`: a pattern, `=>`, an expression, `)`, `!`, an application
unfoldable pub function_at : (Pat → Tree → Tree → Tree) → Parsers → ℕ → Parser
function_at f p k s =
    pat_then signs.FatArrow k s >>= λ x. p 8 x.1 >>= λ e. after signs.Close e.1 >>= λ r. after signs.Bang r >>= λ r'.
    p 0 r' >>= λ a. Some (f x.0 e.0 a.0, a.1)

-- an application, by what it begins with
abbrev pub application : Parsers → ℕ → List Lexeme → Opening → Out Tree
application p k s (applies f r) = p 0 r >>= λ a. Some (apply f a.0, a.1)
application p k s (operates o r) = p 0 r >>= λ a. Some (of_one o a.0, a.1)
application p k s (functions r) = function_at function p k r
application p k s (summaps r) = function_at summap p k r
application p k s operand = postfix_at p k s

-- an application or an operand
unfoldable pub application_at : Parsers → ℕ → Parser
application_at p k s = application p k s (opening s)

-- goes on after an operator, or ends
abbrev pub chain_step : Parser → (Tree → Parser) → Tree → List Lexeme → Option (Joiner × List Lexeme) → Out Tree
chain_step q again a s None = Some (a, s)
chain_step q again a s (Some o) = q o.1 >>= λ x. again (joined_by o.0 a x.0) x.1

-- the operators of one level behind an expression, to the left
unfoldable pub chain_rest : Parser → ℕ → ℕ → Tree → Parser
chain_rest q h zero a s = Some (a, s)
chain_rest q h (suc k) a s = chain_step q (chain_rest q h k) a s (operator_at h s)

-- a negation, or else what is tighter
abbrev pub negation_at : Parsers → Parser → Parser
negation_at p q (mark signs.Not ∷ s) = p 5 s >>= λ x. Some (negation x.0, x.1)
negation_at p q s = q s

-- an expression of a level, by that of the level below
abbrev pub level_step : Parsers → ℕ → Parser → ℕ → Parser
level_step p k q h s = if h == 5 then negation_at p q s else (q s >>= λ x. chain_rest q h (turns h k) x.0 x.1)

-- levels 0 to 7
unfoldable pub level_at : Parsers → ℕ → ℕ → Parser
level_at p k zero s = application_at p k s
level_at p k (suc h) s = level_step p k (level_at p k h) (suc h) s

-- behind the word `if`
unfoldable pub choice_at : Parsers → Parser
choice_at p s =
    p 8 s >>= λ c. after signs.Then c.1 >>= λ r. p 8 r >>= λ a. after signs.Else a.1 >>= λ r'. p 8 r' >>= λ b.
    Some (choice c.0 a.0 b.0, b.1)

-- what follows an expression: `default` and another, or nothing
abbrev pub default_rest : Parsers → Tree → Parser
default_rest p a (mark signs.Default ∷ s) = p 8 s >>= λ x. Some (default a x.0, x.1)
default_rest p a s = Some (a, s)

-- a whole expression: a choice, or one of the highest level with what follows it
abbrev pub whole_in : Parsers → ℕ → Parser
whole_in p k (mark signs.If ∷ s) = choice_at p s
whole_in p k s = level_at p k 7 s >>= λ x. default_rest p x.0 x.1

-- the same
unfoldable pub whole_at : Parsers → ℕ → Parser
whole_at p k s = whole_in p k s

-- an expression of that level, of at most that depth
unfoldable pub parse_at : ℕ → Parsers
parse_at zero h s = None
parse_at (suc n) h s = if h == 8 then whole_at (parse_at n) n s else level_at (parse_at n) n h s

-- Declarations.

-- the rank that these bytes are, one digit from 1 to 8
abbrev pub rank_of : List ℕ → Option ℕ
rank_of [] = None
rank_of (d ∷ []) = if nat_lt 48 d then (if nat_lt d 57 then Some (d - 48) else None) else None
rank_of (d ∷ e ∷ s) = None

-- the kind of a field that the letter of a reader's name stands for
abbrev pub kind_of_letter : ℕ → Option Kind
kind_of_letter b = if b == 78 then Some field_kinds.Number else if b == 83 then Some field_kinds.Bytes else None

-- the kinds of fields that the letters stand for, none where one stands for none
abbrev pub kinds_of : List ℕ → Option (List Kind)
kinds_of [] = Some []
kinds_of (b ∷ s) = kind_of_letter b >>= λ k. kinds_of s >>= λ ks. Some (k ∷ ks)

-- 1 to 8 fields
abbrev pub records_of : Bool → List ℕ → Option Reader
records_of header s = kinds_of s >>= λ ks. if nat_lt 0 (length ks) then (short (length ks) ks >>= λ ks'. Some (records header ks')) else None

-- behind NETCDF
abbrev pub netcdf_reader : List ℕ → Option Reader
netcdf_reader [] = None
netcdf_reader (b ∷ s) =
    if b == 90 then (rank_of s >>= λ k. Some (signed k))
    else if b == 83 then (rank_of s >>= λ k. Some (strided k))
    else (rank_of (b ∷ s) >>= λ k. Some (plain k))

-- behind CSV
abbrev pub csv_reader : List ℕ → Option Reader
csv_reader [] = None
csv_reader (b ∷ s) = if b == 72 then records_of true s else records_of false (b ∷ s)

-- the reader of a name: one of netCDF by what follows its word, or one of records
abbrev pub reader_from : Name → Option (List ℕ) → Option Reader
reader_from x (Some s) = netcdf_reader s
reader_from x None = behind csv x >>= λ s. csv_reader s

-- the reader that has that name
unfoldable pub reader_named : Name → Option Reader
reader_named x = reader_from x (behind netcdf x)

-- an expression and a semicolon
unfoldable pub ended_at : ℕ → Parser
ended_at n s = parse_at n 8 s >>= λ x. after signs.Semicolon x.1 >>= λ r. Some (x.0, r)

-- the name of a reader
unfoldable pub reader_at : List Lexeme → Out Reader
reader_at s = name_at s >>= λ x. reader_named x.0 >>= λ reader. Some (reader, x.1)

-- behind `val`, `macro` and `readval`
unfoldable pub val_at : ℕ → List Lexeme → Out Declaration
val_at n s = binder_at signs.Equal s >>= λ x. ended_at n x.1 >>= λ e. Some (val x.0 e.0, e.1)

-- a macro, behind its word
unfoldable pub macro_at : ℕ → List Lexeme → Out Declaration
macro_at n s =
    binder_at signs.Equal s >>= λ f. after signs.Fn f.1 >>= λ r. pat_then signs.FatArrow n r >>= λ p. ended_at n p.1 >>= λ e.
    Some (mac f.0 p.0 e.0, e.1)

-- a readval, behind its word
unfoldable pub readval_at : ℕ → List Lexeme → Out Declaration
readval_at n s =
    binder_at signs.Using s >>= λ x. reader_at x.1 >>= λ y. after signs.At y.1 >>= λ r. ended_at n r >>= λ e. Some (read x.0 y.0 e.0, e.1)

-- a declaration, by its first lexeme
abbrev pub decl_in : ℕ → List Lexeme → Out Declaration
decl_in n (mark signs.Val ∷ s) = val_at n s
decl_in n (mark signs.Macro ∷ s) = macro_at n s
decl_in n (mark signs.Readval ∷ s) = readval_at n s
decl_in n s = ended_at n s >>= λ e. Some (bare e.0, e.1)

-- a declaration and its semicolon
unfoldable pub decl_at : ℕ → List Lexeme → Out Declaration
decl_at n s = decl_in n s
