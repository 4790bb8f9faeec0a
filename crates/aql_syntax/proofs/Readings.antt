-- Worked readings: tokens, depth and grammar.
use Rattle.std.specs.Prelude.{◌≡◌, ℕ, List, [], ◌∷◌, ◌++◌, Some, None, refl, replicate}
use Rattle.std.proofs.Common.{lit<, lit≤}
use Rattle.aql_value.specs.Strict.{Strict}
use Rattle.aql_value.specs.declared.ops.ArithOp.TheVariants as ariths
use Rattle.aql_syntax.specs.declared.sign.Sign.TheVariants as signs
use Rattle.aql_syntax.specs.Tree as tree
use Rattle.aql_syntax.specs.Tree.{Name, Tree, Trees, no_tree}
use Rattle.aql_syntax.specs.View.{of_two}
use Rattle.aql_syntax.specs.Lexis.{Lexeme, named, numeral, quoted, mark, Begins, begins_sign, begins_number, begins_text, digits_end, digits_more, string_end, string_plain, string_escape, string_hex, Blank, blank_comment, comment_end}
use Rattle.aql_syntax.specs.Scan.{no_counters, first_deep}
use Rattle.aql_syntax.specs.Grammar.{primary, tight, loose, whole, Reads, reads_number, reads_literal, reads_comp, reads_primary, reads_postfix, reads_tighter, reads_binary, reads_union, reads_comparison, reads_looser, reads_or, reads_default, list_last, maybe_none, quals_from, quals_same, more_none, more_quals, pat_bind, pat_name, ReadsScript, decls_none, decls_more, decl_bare}

-- 401 parentheses pass the depth at the last of them, 400 don't
deep_parentheses : first_deep no_counters (replicate 401 (mark signs.Open) ++ (numeral 1 ∷ replicate 401 (mark signs.Close) ++ (mark signs.Semicolon ∷ []))) ≡ Some 400
deep_parentheses = refl

shallow_parentheses : first_deep no_counters (replicate 400 (mark signs.Open) ++ (numeral 1 ∷ replicate 400 (mark signs.Close) ++ (mark signs.Semicolon ∷ []))) ≡ None
shallow_parentheses = refl

-- a comma begins anew: a list of 401 negations with commas between them isn't deep
commas : ℕ → List Lexeme
commas n = replicate n (mark signs.Not) ++ (mark signs.Comma ∷ replicate n (mark signs.Not))

level_lists : first_deep no_counters (mark signs.OpenBrace ∷ commas 399) ≡ None
unfolding commas
level_lists = refl

-- `<=` is one token, and `=` before a number one by itself
less_equal : Begins (mark signs.LessEqual) (60 ∷ 61 ∷ 49 ∷ []) (49 ∷ [])
less_equal = begins_sign refl refl refl

equal_alone : Begins (mark signs.Equal) (61 ∷ 49 ∷ []) (49 ∷ [])
equal_alone = begins_sign refl refl refl

-- 007 is the number 7
leading_zeros : Begins (numeral 7) (48 ∷ 48 ∷ 55 ∷ 59 ∷ []) (59 ∷ [])
leading_zeros = begins_number refl (digits_more refl (digits_more refl (digits_end refl))) (lit< tt)

-- "a\x0A\"" is the three bytes a, line feed, quote
escapes : Begins (quoted (97 ∷ 10 ∷ 34 ∷ [])) (34 ∷ 97 ∷ 92 ∷ 120 ∷ 48 ∷ 65 ∷ 92 ∷ 34 ∷ 34 ∷ []) []
escapes = begins_text (string_plain refl (string_hex refl refl (string_escape refl string_end)))

-- (**) is a comment
empty_comment : Blank (40 ∷ 42 ∷ 42 ∷ 41 ∷ []) []
empty_comment = blank_comment comment_end

abbrev n : ℕ → Tree
n k = tree.op (Strict.nat k) no_tree

number_level : (k : ℕ) (r : List Lexeme) → Reads (tight 0) (n k) (numeral k ∷ r) r
number_level k r = reads_postfix (reads_primary reads_number)

from_sum : {e : Tree} {s r : List Lexeme} → Reads (tight 2) e s r → Reads whole e s r
from_sum h = reads_or (reads_looser (reads_looser (reads_comparison (reads_union (reads_tighter h)))))

-- 1+2*3;
products_first : ReadsScript (tree.bare (of_two (Strict.arith ariths.Add) (n 1) (of_two (Strict.arith ariths.Mul) (n 2) (n 3))) ∷ [])
    (numeral 1 ∷ mark signs.Plus ∷ numeral 2 ∷ mark signs.Star ∷ numeral 3 ∷ mark signs.Semicolon ∷ [])
products_first =
    decls_more
    (decl_bare (from_sum (reads_binary (reads_tighter (reads_tighter (number_level 1 _))) refl (reads_binary (reads_tighter (number_level 2 _)) refl (number_level 3 _)))))
    decls_none

-- 5-2-1; is (5-2)-1
to_the_left : Reads (tight 2) (of_two (Strict.arith ariths.Monus) (of_two (Strict.arith ariths.Monus) (n 5) (n 2)) (n 1))
    (numeral 5 ∷ mark signs.Minus ∷ numeral 2 ∷ mark signs.Minus ∷ numeral 1 ∷ []) []
to_the_left =
    reads_binary (reads_binary (reads_tighter (reads_tighter (number_level 5 _))) refl (reads_tighter (number_level 2 _))) refl (reads_tighter (number_level 1 _))

whole_number : (k : ℕ) (r : List Lexeme) → Reads whole (n k) (numeral k ∷ r) r
whole_number k r = from_sum (reads_tighter (reads_tighter (number_level k r)))

-- [[0; ]]
no_cells : Reads primary (tree.op (Strict.literal 1) (tree.tree (n 0) no_tree))
    (mark signs.OpenBracket ∷ mark signs.OpenBracket ∷ numeral 0 ∷ mark signs.Semicolon ∷ mark signs.CloseBracket ∷ mark signs.CloseBracket ∷ []) []
no_cells = reads_literal (list_last (whole_number 0 _)) (lit≤ tt) maybe_none

abbrev x : Name
x = 120 ∷ []

-- {1 | \x <- 2, x == 3}
qualifiers : Reads primary (tree.comp (n 1) (tree.from (tree.bind x) (n 2) (tree.same (tree.refers x) (n 3) tree.no_qual)))
    (mark signs.OpenBrace ∷ numeral 1 ∷ mark signs.Bar ∷ mark signs.Backslash ∷ named x ∷ mark signs.Arrow ∷ numeral 2 ∷ mark signs.Comma ∷ named x
    ∷ mark signs.DoubleEqual ∷ numeral 3 ∷ mark signs.CloseBrace ∷ []) []
qualifiers =
    reads_comp (whole_number 1 _)
    (quals_from pat_bind (whole_number 2 _) (more_quals (quals_same pat_name (whole_number 3 _) more_none)))

-- 1 default 2 default 3 is 1 default (2 default 3)
to_the_right : Reads whole (tree.default (n 1) (tree.default (n 2) (n 3)))
    (numeral 1 ∷ mark signs.Default ∷ numeral 2 ∷ mark signs.Default ∷ numeral 3 ∷ []) []
to_the_right = reads_default (loosest 1 _) (reads_default (loosest 2 _) (whole_number 3 _))
  where
    loosest : (k : ℕ) (r : List Lexeme) → Reads (loose 2) (n k) (numeral k ∷ r) r
    loosest k r = reads_looser (reads_looser (reads_comparison (reads_union (reads_tighter (reads_tighter (reads_tighter (number_level k r)))))))
