-- Functions on lists of lexemes by the sign that stands first, as the code looks at it.
use Rattle.std.proofs.Common.{ℕ, ◌≡◌, List, [], ◌∷◌, Option, Some, None, refl, ap, ◌∙◌}
use Rattle.aql_value.specs.Strict.{Strict}
use Rattle.aql_value.specs.Partial.{◌>>=◌}
use Rattle.aql_value.specs.Laws.Partial.{then-ext}
use Rattle.aql_syntax.specs.declared.sign.Sign.TheVariants as signs
use Rattle.aql_syntax.specs.Lexis.{Lexeme, named, numeral, quoted, mark}
use Rattle.aql_syntax.specs.Tree.{Name, Pat, Tree, op, Trees, no_tree, Axes, Quals, Defs}
use Rattle.aql_parse_spec.specs.Parsing.{Out, Parser, Parsers, after, Joiner, joined_by, Front, list_at, list_rest, axes_rest, quals_rest, defs_rest, whole_at, choice_at, default_rest, level_at, negation_at, chain_step, primary_at, paren_at, let_at, braces_at, brace_rest, brackets_at}
use Rattle.aql_parse.specs.Parts.{leaf_at}
use Rattle.aql_parse.specs.Cycle.{when, default_at, not_at, joined_at, more_trees, more_axes, more_quals, more_defs}

-- a whole expression: a choice, or a chain and perhaps a default
default_same : (p : Parsers) (a : Tree) (s : List Lexeme) → default_rest p a s ≡ default_at p a s
unfolding default_at after
default_same p a [] = refl
default_same p a (named n ∷ s) = refl
default_same p a (numeral n ∷ s) = refl
default_same p a (quoted n ∷ s) = refl
default_same p a (mark signs.Default ∷ s) = refl
default_same p a (mark _ ∷ s) = refl

whole_first : (p : Parsers) (k : ℕ) (s : List Lexeme) → whole_at p k s ≡ when (after signs.If s) (choice_at p) (level_at p k 7 s >>= λ x. default_rest p x.0 x.1)
unfolding whole_at after
whole_first p k [] = refl
whole_first p k (named n ∷ s) = refl
whole_first p k (numeral n ∷ s) = refl
whole_first p k (quoted n ∷ s) = refl
whole_first p k (mark signs.If ∷ s) = refl
whole_first p k (mark _ ∷ s) = refl

pub whole_by_sign : (p : Parsers) (k : ℕ) (s : List Lexeme) → whole_at p k s ≡ when (after signs.If s) (choice_at p) (level_at p k 7 s >>= λ x. default_at p x.0 x.1)
whole_by_sign p k s = whole_first p k s ∙ ap (when (after signs.If s) (choice_at p)) (then-ext (level_at p k 7 s) _ _ (λ x _. default_same p x.0 x.1))

-- levels
not_same : (p : Parsers) (q : Parser) (s : List Lexeme) → negation_at p q s ≡ not_at p q s
unfolding not_at after
not_same p q [] = refl
not_same p q (named n ∷ s) = refl
not_same p q (numeral n ∷ s) = refl
not_same p q (quoted n ∷ s) = refl
not_same p q (mark signs.Not ∷ s) = refl
not_same p q (mark _ ∷ s) = refl

pub level_at_five : (p : Parsers) (k h : ℕ) (s : List Lexeme) → h ≡ 5 → level_at p k h s ≡ not_at p (level_at p k 4) s
unfolding level_at
level_at_five p k h s e = rw e (not_same p (level_at p k 4) s)

abbrev joined_to : Joiner → Tree → Tree × List Lexeme → Out Tree
joined_to j a x = Some (joined_by j a x.0, x.1)

pub chain_joined : (q : Parser) (again : Tree → Parser) (a : Tree) (s r : List Lexeme) (j : Joiner) →
    chain_step q again a s (Some (j, r)) ≡ (joined_at q j a r >>= λ y. again y.0 y.1)
unfolding joined_at
chain_joined q again a s r j = made (q r)
  where
    made : (o : Out Tree) → (o >>= λ x. again (joined_by j a x.0) x.1) ≡ ((o >>= joined_to j a) >>= λ y. again y.0 y.1)
    made None = refl
    made (Some x) = refl

-- what stands before subscripts
pub primary_by_sign : (p : Parsers) (k : ℕ) (s : List Lexeme) →
    primary_at p k s ≡ when (after signs.Open s) (paren_at p k)
    (when (after signs.OpenBrace s) (braces_at p k) (when (after signs.OpenBracket s) (λ r. after signs.OpenBracket r >>= λ t. brackets_at p k t) (when (after signs.Let s) (let_at p k) (leaf_at s))))
unfolding primary_at leaf_at after
primary_by_sign p k [] = refl
primary_by_sign p k (named n ∷ s) = refl
primary_by_sign p k (numeral n ∷ s) = refl
primary_by_sign p k (quoted n ∷ s) = refl
primary_by_sign p k (mark signs.Open ∷ s) = refl
primary_by_sign p k (mark signs.OpenBrace ∷ s) = refl
primary_by_sign p k (mark signs.OpenBracket ∷ s) = refl
primary_by_sign p k (mark signs.Let ∷ s) = refl
primary_by_sign p k (mark _ ∷ s) = refl

-- braces
pub braces_by_sign : (p : Parsers) (k : ℕ) (s : List Lexeme) →
    braces_at p k s ≡ when (after signs.CloseBrace s) (λ r. Some (op Strict.empty no_tree, r)) (list_at p k s >>= λ x. brace_rest p k x.0 x.1)
unfolding braces_at after
braces_by_sign p k [] = refl
braces_by_sign p k (named n ∷ s) = refl
braces_by_sign p k (numeral n ∷ s) = refl
braces_by_sign p k (quoted n ∷ s) = refl
braces_by_sign p k (mark signs.CloseBrace ∷ s) = refl
braces_by_sign p k (mark _ ∷ s) = refl

-- lists
pub trees_same : (more : List Lexeme → Out Trees) (e : Tree) (s : List Lexeme) → list_rest more e s ≡ more_trees more e s
unfolding more_trees after
trees_same more e [] = refl
trees_same more e (named n ∷ s) = refl
trees_same more e (numeral n ∷ s) = refl
trees_same more e (quoted n ∷ s) = refl
trees_same more e (mark signs.Comma ∷ s) = refl
trees_same more e (mark _ ∷ s) = refl

pub axes_same : (more : List Lexeme → Out Axes) (x : Name) (e : Tree) (s : List Lexeme) → axes_rest more x e s ≡ more_axes more x e s
unfolding more_axes after
axes_same more x e [] = refl
axes_same more x e (named n ∷ s) = refl
axes_same more x e (numeral n ∷ s) = refl
axes_same more x e (quoted n ∷ s) = refl
axes_same more x e (mark signs.Comma ∷ s) = refl
axes_same more x e (mark _ ∷ s) = refl

pub quals_same : (more : List Lexeme → Out Quals) (f : Front) (e : Tree) (s : List Lexeme) → quals_rest more f e s ≡ more_quals more f e s
unfolding more_quals after
quals_same more f e [] = refl
quals_same more f e (named n ∷ s) = refl
quals_same more f e (numeral n ∷ s) = refl
quals_same more f e (quoted n ∷ s) = refl
quals_same more f e (mark signs.Comma ∷ s) = refl
quals_same more f e (mark _ ∷ s) = refl

pub defs_same : (more : List Lexeme → Out Defs) (x : Pat) (e : Tree) (s : List Lexeme) → defs_rest more x e s ≡ more_defs more x e s
unfolding more_defs after
defs_same more x e [] = refl
defs_same more x e (named n ∷ s) = refl
defs_same more x e (numeral n ∷ s) = refl
defs_same more x e (quoted n ∷ s) = refl
defs_same more x e (mark signs.Val ∷ s) = refl
defs_same more x e (mark _ ∷ s) = refl
