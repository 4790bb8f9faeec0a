-- The functions on lists, a turn at a time, and how many stand in a list.
use Rattle.std.proofs.Common.{ℕ, zero, suc, ◌≡◌, ◌≢◌, length, ◌<◌, ◌≤◌, ◌+◌, ◌-◌, Bool, true, false, List, [], ◌∷◌, Option, Some, None, refl, ap, ◌∙◌, arith, sub-one}
use Rattle.std.specs.Prelude.{is_some}
use Rattle.aql_syntax.specs.declared.sign.Sign.TheVariants as signs
use Rattle.aql_value.specs.Strict.{Strict}
use Rattle.aql_syntax.specs.Lexis.{Lexeme, mark}
use Rattle.aql_syntax.specs.declared.ast.Expr.{Expr}
use Rattle.aql_syntax.specs.declared.ast.Pattern.{Pattern}
use Rattle.aql_syntax.specs.Tree.{Name, Tree, Pat, bind, Pats, no_pat, pat, tuple, op, count_trees}
use Rattle.aql_syntax.specs.Nodes.{joined_of}
use Rattle.aql_syntax.specs.declared.nodes.Operator.{Operator}
use Rattle.aql_syntax.specs.declared.nodes.Operator.TheVariants as operators
use Rattle.aql_syntax.specs.View.{pats_of, tree_of, trees_of}
use Rattle.aql_syntax.specs.Laws.View.{count_trees-list}
use Rattle.aql_value.specs.Partial.{◌>>=◌}
use Rattle.aql_parse_spec.specs.Parsing.{Out, after, pat_at, pat_in, pats_at, pats_rest, enclosed_pats, grouping, front_of, joined_by}
use Rattle.aql_parse.specs.Forms.{joiner_of}
use Rattle.aql_parse.specs.Parts.{few_of, one_of}
use Rattle.aql_parse.specs.Laws.Short.{short_ok, short_long}
use Rattle.aql_parse.specs.Words.{behind_of, with_pats}

-- an operator makes what the grammar has it make
pub joined_is : (o : Operator) (a b : Tree) → joined_of o a b ≡ joined_by (joiner_of o) a b
joined_is (operators.Arith o) a b = refl
joined_is operators.Union a b = refl
joined_is (operators.Compare o) a b = refl
joined_is operators.And a b = refl
joined_is operators.Or a b = refl

pub pat_at_above : (n : ℕ) (s : List Lexeme) → 0 < n → pat_at n s ≡ pat_in (pat_at (n - 1)) (n - 1) s
unfolding pat_at
pat_at_above zero s l = absurd (omega arith)
pat_at_above (suc n) s l = rw sub-one refl

pub pat_at_none : (n : ℕ) (s : List Lexeme) → n ≡ 0 → pat_at n s ≡ None
unfolding pat_at
pat_at_none zero s e = refl
pat_at_none (suc n) s e = cc

pub pats_at_turn : (q : List Lexeme → Out Pat) (d i : ℕ) (s : List Lexeme) → i < d →
    pats_at q (d - i) s ≡ (q s >>= λ x. pats_rest (pats_at q (d - (i + 1))) x.0 x.1)
unfolding pats_at
pats_at_turn q d i s l = let e : d - i ≡ suc (d - (i + 1)) = omega arith in rw e refl

pub pats_at_end : (q : List Lexeme → Out Pat) (d i : ℕ) (s : List Lexeme) → d ≤ i → pats_at q (d - i) s ≡ None
unfolding pats_at
pats_at_end q d i s l = let e : d - i ≡ zero = omega arith in rw e refl

pub with_no_pats : (o : Out Pats) → with_pats no_pat o ≡ o
with_no_pats None = refl
with_no_pats (Some x) = refl

-- other than one in parentheses make a tuple
pub enclosed_pats_many : (xs : List Pattern) → length xs ≢ 1 → enclosed_pats (pats_of xs) ≡ tuple (pats_of xs)
enclosed_pats_many [] h = refl
enclosed_pats_many (x ∷ []) h = absurd (h refl)
enclosed_pats_many (x ∷ y ∷ xs) h = refl

pub enclosed_many : (xs : List Expr) → length xs ≢ 1 → grouping (trees_of xs) ≡ op Strict.tuple (trees_of xs)
enclosed_many [] h = refl
enclosed_many (x ∷ []) h = absurd (h refl)
enclosed_many (x ∷ y ∷ xs) h = refl

pub few_ok : (xs : List Expr) → length xs ≤ 8 → few_of (trees_of xs) ≡ Some (trees_of xs)
unfolding few_of
few_ok xs l = short_ok (count_trees (trees_of xs)) (trees_of xs) (rw (count_trees-list xs) l)

pub few_long : (xs : List Expr) → 8 < length xs → few_of (trees_of xs) ≡ None
unfolding few_of
few_long xs l = short_long (count_trees (trees_of xs)) (trees_of xs) (rw (count_trees-list xs) l)

pub not_one : (xs : List Expr) → length xs ≢ 1 → one_of (trees_of xs) ≡ None
unfolding one_of
not_one [] h = refl
not_one (x ∷ []) h = absurd (h refl)
not_one (x ∷ y ∷ xs) h = refl

pub the_one : (x : Expr) → one_of (trees_of (x ∷ [])) ≡ Some (tree_of x)
unfolding one_of
the_one x = refl

-- Patterns of which no tree is made.

pub behind_open : (o : Out Pats) →
    behind_of (o >>= λ x. after signs.Close x.1 >>= λ r. Some (enclosed_pats x.0, r)) ≡ (behind_of o >>= after signs.Close)
behind_open None = refl
behind_open (Some x) = go (after signs.Close x.1)
  where
    go : (o : Option (List Lexeme)) → behind_of (o >>= λ r. Some (enclosed_pats x.0, r)) ≡ o
    go None = refl
    go (Some r) = refl

pub behind_bind : (o : Out Name) → behind_of (o >>= λ x. Some (bind x.0, x.1)) ≡ behind_of o
behind_bind None = refl
behind_bind (Some x) = refl

-- what follows the patterns, from what follows the first of them
abbrev pub behind_rest : (List Lexeme → Option (List Lexeme)) → List Lexeme → Option (List Lexeme)
behind_rest more (mark signs.Comma ∷ s) = more s
behind_rest more s = Some s

behind_more : (p : Pat) (o : Out Pats) → behind_of (o >>= λ x. Some (pat p x.0, x.1)) ≡ behind_of o
behind_more p None = refl
behind_more p (Some x) = refl

behind_list : (more : List Lexeme → Out Pats) (p : Pat) (s : List Lexeme) → behind_of (pats_rest more p s) ≡ behind_rest (λ t. behind_of (more t)) s
behind_list more p (mark signs.Comma ∷ s) = behind_more p (more s)
behind_list more p s = refl

behind_first : (more : List Lexeme → Out Pats) (o : Out Pat) →
    behind_of (o >>= λ x. pats_rest more x.0 x.1) ≡ (behind_of o >>= behind_rest (λ t. behind_of (more t)))
behind_first more None = refl
behind_first more (Some x) = behind_list more x.0 x.1

pub behind_turn : (q : List Lexeme → Out Pat) (d i : ℕ) (s : List Lexeme) → i < d →
    behind_of (pats_at q (d - i) s) ≡ (behind_of (q s) >>= behind_rest (λ t. behind_of (pats_at q (d - (i + 1)) t)))
behind_turn q d i s l = ap behind_of (pats_at_turn q d i s l) ∙ behind_first (pats_at q (d - (i + 1))) (q s)

-- whether `<-` or `==` stands first
abbrev pub has_front : Option (List Lexeme) → Bool
has_front (Some (mark signs.Arrow ∷ r)) = true
has_front (Some (mark signs.DoubleEqual ∷ r)) = true
has_front _ = false

pub front_behind : (o : Out Pat) → is_some (front_of o) ≡ has_front (behind_of o)
front_behind None = refl
front_behind (Some (p, mark signs.Arrow ∷ r)) = refl
front_behind (Some (p, mark signs.DoubleEqual ∷ r)) = refl
front_behind (Some (p, r)) = refl

pub none_there : {A : Type 0} (o : Option A) → is_some o ≡ false → o ≡ None
none_there None e = refl
none_there (Some x) e = cc
