-- The script `1+2*3;`: what its bytes declare, and that the positions are within the limits.
use Rattle.std.specs.Prelude.{ℕ, ◌+◌, List, [], ◌∷◌, codes, refl}
use Rattle.std.proofs.Common.{lit<, lit≤}
use Rattle.aql_value.specs.Strict.{Strict}
use Rattle.aql_value.specs.declared.ops.ArithOp.TheVariants as ariths
use Rattle.aql_syntax.specs.declared.sign.Sign.TheVariants as signs
use Rattle.aql_syntax.specs.declared.token.Token.{Token}
use Rattle.aql_syntax.specs.Grammar as grammar
use Rattle.aql_syntax.specs.Grammar.{tight, whole, reads_number, reads_primary, reads_postfix, reads_tighter, reads_binary, reads_union, reads_comparison, reads_looser, reads_or, ReadsScript, decls_none, decls_more, decl_bare}
use Rattle.aql_syntax.specs.Lexis.{Lexeme, numeral, mark, AreTokens, begins_number, begins_sign, digits_end, covers_none, covers_token}
use Rattle.aql_syntax.specs.Tree.{Tree, op, no_tree, Declaration, bare}
use Rattle.aql_syntax.specs.View.{of_two}
use Rattle.aql_script.specs.Script.{IsParsedAs, positions}
use Rattle.aql_syntax.specs.Size.{AreWithinLimits}
use Rattle.aql_prelude.specs.Prelude.{prelude_count}
use Rattle.aql_script.proofs.Positions.{prelude_within, within_more}

abbrev pub number : ℕ → Tree
number n = op (Strict.nat n) no_tree

-- 2*3
abbrev pub product : Tree
product = of_two (Strict.arith ariths.Mul) (number 2) (number 3)

-- 1+2*3
abbrev pub sum : Tree
sum = of_two (Strict.arith ariths.Add) (number 1) product

-- what the script declares
abbrev pub one_sum : List Declaration
one_sum = bare sum ∷ []

abbrev lexemes : List Lexeme
lexemes = numeral 1 ∷ mark signs.Plus ∷ numeral 2 ∷ mark signs.Star ∷ numeral 3 ∷ mark signs.Semicolon ∷ []

covered : (ts : List Token) × AreTokens (codes "1+2*3;") ts lexemes
covered = (
  _,
  covers_token
      (covers_token
      (covers_token
      (covers_token
      (covers_token
      (covers_token covers_none (begins_number refl (digits_end refl) (lit< tt)))
      (begins_sign refl refl refl))
      (begins_number refl (digits_end refl) (lit< tt)))
      (begins_sign refl refl refl))
      (begins_number refl (digits_end refl) (lit< tt)))
      (begins_sign refl refl tt),
)

number_read : (n : ℕ) (r : List Lexeme) → grammar.Reads (tight 0) (number n) (numeral n ∷ r) r
number_read n r = reads_postfix (reads_primary reads_number)

from_sum : {e : Tree} {s r : List Lexeme} → grammar.Reads (tight 2) e s r → grammar.Reads whole e s r
from_sum h = reads_or (reads_looser (reads_looser (reads_comparison (reads_union (reads_tighter h)))))

-- the product binds tighter
parsed : ReadsScript one_sum lexemes
parsed =
    decls_more
    (decl_bare (from_sum (reads_binary (reads_tighter (reads_tighter (number_read 1 _))) refl (reads_binary (reads_tighter (number_read 2 _)) refl (number_read 3 _)))))
    decls_none

pub sum_read : IsParsedAs (codes "1+2*3;") one_sum
sum_read = (lexemes, (covered.0, covered.1, refl), parsed)

pub sum_limits : AreWithinLimits (positions one_sum) (prelude_count + 1)
unfolding positions
sum_limits = within_more (positions one_sum) prelude_count (lit≤ tt, lit≤ tt) (prelude_within one_sum)
