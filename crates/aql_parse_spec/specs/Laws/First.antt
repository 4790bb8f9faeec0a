-- How readings begin, and that each takes a lexeme.
use Rattle.std.specs.Prelude.{ℕ, ◌≡◌, ◌<◌, ◌≤◌, List, [], ◌∷◌, Some, length}
use Rattle.std.proofs.Common.{arith, lit≤}
use Rattle.aql_value.specs.Strict.{Strict}
use Rattle.aql_syntax.specs.declared.sign.Sign.TheVariants as signs
use Rattle.aql_syntax.specs.Lexis.{Lexeme, mark}
use Rattle.aql_syntax.specs.Tree.{Pat, Pats, Tree, Trees, Axes, Quals, Defs}
use Rattle.aql_syntax.specs.Grammar.{ReadsPat, pat_bind, pat_any, pat_number, pat_text, pat_true, pat_false, pat_name, pat_paren, pat_tuple, ReadsPats, pats_last, pats_more, Level, primary, postfix, tight, comparison, loose, whole, head_operator, Reads, reads_number, reads_text, reads_true, reads_false, reads_name, reads_paren, reads_tuple, reads_empty, reads_members, reads_comp, reads_tab, reads_literal, reads_let, reads_primary, reads_sub, reads_postfix, reads_apply, reads_operation, reads_function, reads_summap, reads_tighter, reads_binary, reads_union, reads_compare, reads_comparison, reads_not, reads_looser, reads_junction, reads_or, reads_default, reads_if, ReadsList, list_last, list_more, ReadsMaybe, maybe_none, maybe_list, ReadsAxes, axes_last, axes_more, ReadsDefs, defs_last, defs_more, ReadsQuals, quals_from, quals_cells, quals_same, quals_test, ReadsMoreQuals, more_none, more_quals}

mutual
  pub pat_shrinks : {p : Pat} {s r : List Lexeme} → ReadsPat p s r → length r < length s
  pat_shrinks pat_bind = omega arith
  pat_shrinks pat_any = omega arith
  pat_shrinks pat_number = omega arith
  pat_shrinks pat_text = omega arith
  pat_shrinks pat_true = omega arith
  pat_shrinks pat_false = omega arith
  pat_shrinks pat_name = omega arith
  pat_shrinks (pat_paren d) = omega (arith, pat_shrinks d)
  pat_shrinks (pat_tuple d ds) = omega (arith, pat_shrinks d, pats_shrink ds)

  pub pats_shrink : {ps : Pats} {s r : List Lexeme} → ReadsPats ps s r → length r < length s
  pats_shrink (pats_last d) = pat_shrinks d
  pats_shrink (pats_more d ds) = omega (arith, pat_shrinks d, pats_shrink ds)

mutual
  pub shrinks : {l : Level} {e : Tree} {s r : List Lexeme} → Reads l e s r → length r < length s
  shrinks reads_number = omega arith
  shrinks reads_text = omega arith
  shrinks reads_true = omega arith
  shrinks reads_false = omega arith
  shrinks reads_name = omega arith
  shrinks (reads_paren d) = omega (arith, shrinks d)
  shrinks (reads_tuple d ds) = omega (arith, shrinks d, list_shrinks ds)
  shrinks reads_empty = omega arith
  shrinks (reads_members ds) = omega (arith, list_shrinks ds)
  shrinks (reads_comp d qs) = omega (arith, shrinks d, quals_shrink qs)
  shrinks (reads_tab d xs le) = omega (arith, shrinks d, axes_shrink xs)
  shrinks (reads_literal ds le cs) = omega (arith, list_shrinks ds, maybe_shrinks cs)
  shrinks (reads_let ds d) = omega (arith, defs_shrink ds, shrinks d)
  shrinks (reads_primary d) = shrinks d
  shrinks (reads_sub d ds le) = omega (arith, shrinks d, list_shrinks ds)
  shrinks (reads_postfix d) = shrinks d
  shrinks (reads_apply d) = omega (arith, shrinks d)
  shrinks (reads_operation is d) = omega (arith, shrinks d)
  shrinks (reads_function p d c) = omega (arith, pat_shrinks p, shrinks d, shrinks c)
  shrinks (reads_summap p d c) = omega (arith, pat_shrinks p, shrinks d, shrinks c)
  shrinks (reads_tighter d) = shrinks d
  shrinks (reads_binary d is c) = omega (arith, shrinks d, shrinks c)
  shrinks (reads_union d) = shrinks d
  shrinks (reads_compare d is c) = omega (arith, shrinks d, shrinks c)
  shrinks (reads_comparison d) = shrinks d
  shrinks (reads_not d) = omega (arith, shrinks d)
  shrinks (reads_looser d) = shrinks d
  shrinks (reads_junction d is c) = omega (arith, shrinks d, shrinks c)
  shrinks (reads_or d) = shrinks d
  shrinks (reads_default d c) = omega (arith, shrinks d, shrinks c)
  shrinks (reads_if a b c) = omega (arith, shrinks a, shrinks b, shrinks c)

  pub list_shrinks : {es : Trees} {s r : List Lexeme} → ReadsList es s r → length r < length s
  list_shrinks (list_last d) = shrinks d
  list_shrinks (list_more d ds) = omega (arith, shrinks d, list_shrinks ds)

  pub maybe_shrinks : {es : Trees} {s r : List Lexeme} → ReadsMaybe es s r → length r ≤ length s
  maybe_shrinks maybe_none = omega arith
  maybe_shrinks (maybe_list ds) = omega (arith, list_shrinks ds)

  pub axes_shrink : {xs : Axes} {s r : List Lexeme} → ReadsAxes xs s r → length r < length s
  axes_shrink (axes_last d) = omega (arith, shrinks d)
  axes_shrink (axes_more d xs) = omega (arith, shrinks d, axes_shrink xs)

  pub defs_shrink : {ds : Defs} {s r : List Lexeme} → ReadsDefs ds s r → length r < length s
  defs_shrink (defs_last p d) = omega (arith, pat_shrinks p, shrinks d)
  defs_shrink (defs_more p d ds) = omega (arith, pat_shrinks p, shrinks d, defs_shrink ds)

  pub quals_shrink : {qs : Quals} {s r : List Lexeme} → ReadsQuals qs s r → length r < length s
  quals_shrink (quals_from p d qs) = omega (arith, pat_shrinks p, shrinks d, more_shrink qs)
  quals_shrink (quals_cells p q d qs) = omega (arith, pat_shrinks p, pat_shrinks q, shrinks d, more_shrink qs)
  quals_shrink (quals_same p d qs) = omega (arith, pat_shrinks p, shrinks d, more_shrink qs)
  quals_shrink (quals_test d qs) = omega (arith, shrinks d, more_shrink qs)

  pub more_shrink : {qs : Quals} {s r : List Lexeme} → ReadsMoreQuals qs s r → length r ≤ length s
  more_shrink more_none = omega arith
  more_shrink (more_quals qs) = omega (arith, quals_shrink qs)

-- which readings a lexeme can begin: 0 an application or what is tighter, 1 a negation, 2 an expression, 3 none
abbrev pub starts : Lexeme → ℕ
starts (mark signs.True) = 0
starts (mark signs.False) = 0
starts (mark signs.Open) = 0
starts (mark signs.OpenBrace) = 0
starts (mark signs.OpenBracket) = 0
starts (mark signs.Let) = 0
starts (mark signs.Summap) = 0
starts (mark signs.Gen) = 0
starts (mark signs.Get) = 0
starts (mark signs.Len) = 0
starts (mark signs.Dim1) = 0
starts (mark signs.Dim2) = 0
starts (mark signs.Dim3) = 0
starts (mark signs.Dim4) = 0
starts (mark signs.Dim5) = 0
starts (mark signs.Dim6) = 0
starts (mark signs.Dim7) = 0
starts (mark signs.Dim8) = 0
starts (mark signs.Index1) = 0
starts (mark signs.Index2) = 0
starts (mark signs.Index3) = 0
starts (mark signs.Index4) = 0
starts (mark signs.Index5) = 0
starts (mark signs.Index6) = 0
starts (mark signs.Index7) = 0
starts (mark signs.Index8) = 0
starts (mark signs.Not) = 1
starts (mark signs.If) = 2
starts (mark _) = 3
starts _ = 0

abbrev pub StartsAt : ℕ → List Lexeme → Type 0
StartsAt h [] = ⊥
StartsAt h (l ∷ s) = starts l ≤ h

abbrev pub start_of : Level → ℕ
start_of primary = 0
start_of postfix = 0
start_of (tight h) = 0
start_of comparison = 0
start_of (loose h) = 1
start_of whole = 2

head_starts : (l : Lexeme) (o : Strict) → head_operator l ≡ Some o → starts l ≤ 0
head_starts (mark signs.Gen) o e = lit≤ tt
head_starts (mark signs.Get) o e = lit≤ tt
head_starts (mark signs.Len) o e = lit≤ tt
head_starts (mark signs.Dim1) o e = lit≤ tt
head_starts (mark signs.Dim2) o e = lit≤ tt
head_starts (mark signs.Dim3) o e = lit≤ tt
head_starts (mark signs.Dim4) o e = lit≤ tt
head_starts (mark signs.Dim5) o e = lit≤ tt
head_starts (mark signs.Dim6) o e = lit≤ tt
head_starts (mark signs.Dim7) o e = lit≤ tt
head_starts (mark signs.Dim8) o e = lit≤ tt
head_starts (mark signs.Index1) o e = lit≤ tt
head_starts (mark signs.Index2) o e = lit≤ tt
head_starts (mark signs.Index3) o e = lit≤ tt
head_starts (mark signs.Index4) o e = lit≤ tt
head_starts (mark signs.Index5) o e = lit≤ tt
head_starts (mark signs.Index6) o e = lit≤ tt
head_starts (mark signs.Index7) o e = lit≤ tt
head_starts (mark signs.Index8) o e = lit≤ tt
head_starts _ o e = cc

wider : (h k : ℕ) (s : List Lexeme) → h ≤ k → StartsAt h s → StartsAt k s
wider h k [] le b = b
wider h k (l ∷ s) le b = omega (arith, b)

pub starts_at : {l : Level} {e : Tree} {s r : List Lexeme} → Reads l e s r → StartsAt (start_of l) s
starts_at reads_number = lit≤ tt
starts_at reads_text = lit≤ tt
starts_at reads_true = lit≤ tt
starts_at reads_false = lit≤ tt
starts_at reads_name = lit≤ tt
starts_at (reads_paren d) = lit≤ tt
starts_at (reads_tuple d ds) = lit≤ tt
starts_at reads_empty = lit≤ tt
starts_at (reads_members ds) = lit≤ tt
starts_at (reads_comp d qs) = lit≤ tt
starts_at (reads_tab d xs le) = lit≤ tt
starts_at (reads_literal ds le cs) = lit≤ tt
starts_at (reads_let ds d) = lit≤ tt
starts_at (reads_primary d) = starts_at d
starts_at (reads_sub d ds le) = starts_at d
starts_at (reads_postfix d) = starts_at d
starts_at (reads_apply d) = lit≤ tt
starts_at (reads_operation {l} {o} is d) = head_starts l o is
starts_at (reads_function p d c) = lit≤ tt
starts_at (reads_summap p d c) = lit≤ tt
starts_at (reads_tighter d) = starts_at d
starts_at (reads_binary d is c) = starts_at d
starts_at (reads_union d) = starts_at d
starts_at (reads_compare d is c) = starts_at d
starts_at (reads_comparison {s = s} d) = wider 0 1 s (lit≤ tt) (starts_at d)
starts_at (reads_not d) = lit≤ tt
starts_at (reads_looser d) = starts_at d
starts_at (reads_junction d is c) = starts_at d
starts_at (reads_or {s = s} d) = wider 1 2 s (lit≤ tt) (starts_at d)
starts_at (reads_default {s = s} d c) = wider 1 2 s (lit≤ tt) (starts_at d)
starts_at (reads_if a b c) = lit≤ tt

pub list_starts : {es : Trees} {s r : List Lexeme} → ReadsList es s r → StartsAt 2 s
list_starts (list_last d) = starts_at d
list_starts (list_more d ds) = starts_at d

-- a bracket that begins an expression is followed by another
abbrev pub StartsBracket : List Lexeme → Type 0
StartsBracket (mark signs.OpenBracket ∷ s) = Unit {0}
StartsBracket _ = ⊥

abbrev pub BracketsTwice : List Lexeme → Type 0
BracketsTwice (mark signs.OpenBracket ∷ s) = StartsBracket s
BracketsTwice _ = Unit {0}

head_no_bracket : (l : Lexeme) (o : Strict) (s : List Lexeme) → head_operator l ≡ Some o → BracketsTwice (l ∷ s)
head_no_bracket (mark signs.OpenBracket) o s e = cc
head_no_bracket _ o s e = tt

pub brackets_twice : {l : Level} {e : Tree} {s r : List Lexeme} → Reads l e s r → BracketsTwice s
brackets_twice reads_number = tt
brackets_twice reads_text = tt
brackets_twice reads_true = tt
brackets_twice reads_false = tt
brackets_twice reads_name = tt
brackets_twice (reads_paren d) = tt
brackets_twice (reads_tuple d ds) = tt
brackets_twice reads_empty = tt
brackets_twice (reads_members ds) = tt
brackets_twice (reads_comp d qs) = tt
brackets_twice (reads_tab d xs le) = tt
brackets_twice (reads_literal ds le cs) = tt
brackets_twice (reads_let ds d) = tt
brackets_twice (reads_primary d) = brackets_twice d
brackets_twice (reads_sub d ds le) = brackets_twice d
brackets_twice (reads_postfix d) = brackets_twice d
brackets_twice (reads_apply d) = tt
brackets_twice (reads_operation {l} {o} is d) = head_no_bracket l o _ is
brackets_twice (reads_function p d c) = tt
brackets_twice (reads_summap p d c) = tt
brackets_twice (reads_tighter d) = brackets_twice d
brackets_twice (reads_binary d is c) = brackets_twice d
brackets_twice (reads_union d) = brackets_twice d
brackets_twice (reads_compare d is c) = brackets_twice d
brackets_twice (reads_comparison d) = brackets_twice d
brackets_twice (reads_not d) = tt
brackets_twice (reads_looser d) = brackets_twice d
brackets_twice (reads_junction d is c) = brackets_twice d
brackets_twice (reads_or d) = brackets_twice d
brackets_twice (reads_default d c) = brackets_twice d
brackets_twice (reads_if a b c) = tt
