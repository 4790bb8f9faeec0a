-- Primary expressions with their subscripts, and whole expressions, by the constructs that the code makes of them.
use Rattle.std.proofs.Common.{ℕ, zero, suc, ◌≡◌, ◌<◌, ◌-◌, List, [], ◌∷◌, Option, Some, None, refl, ap, ◌∙◌, arith, sub-one}
use Rattle.aql_value.specs.Strict.{Strict}
use Rattle.aql_value.specs.Partial.{◌>>=◌}
use Rattle.aql_syntax.specs.declared.sign.Sign.TheVariants as signs
use Rattle.aql_syntax.specs.Lexis.{Lexeme, named, numeral, quoted, mark}
use Rattle.aql_syntax.specs.Tree.{Tree, op, members, comp, tab, bindings, Trees, no_tree, tree, Axes, no_axis, Quals, no_qual, Defs, no_def, count_trees, count_axes}
use Rattle.aql_syntax.specs.Laws.View.{count_axes-list}
use Rattle.aql_parse_spec.specs.Parsing.{Out, Parser, Parsers, after, short, only, grouping, literal_of, closed_twice, list_at, maybe_at, axes_at, quals_at, defs_at, paren_at, let_at, braces_at, brace_rest, brackets_at, bracket_rest, primary_at, sub_rest, sub_step, postfix_at, whole_at, choice_at, level_at}
use Rattle.aql_parse.specs.declared.constructs.Construct.TheVariants as constructs
use Rattle.aql_parse.specs.Laws.Short.{short_ok, short_long}
use Rattle.aql_parse.specs.Parts.{few_of, one_of, leaf_at}
use Rattle.aql_parse.specs.Cycle.{when, default_at, with_trees, with_axes, with_quals, with_defs}
use Rattle.aql_parse.specs.Constructs.{then_at, else_at, construct_at, members_at, indices_at, qualifiers_at, definitions_at, paren_closed, subs_closed, cells_closed, table_closed, comp_closed, brace_closed, braces_from, cells_from, bracket_closed, body_closed, let_closed}
use Rattle.aql_parse.proofs.Branches.{whole_by_sign, primary_by_sign, braces_by_sign}

-- a choice is a construct before its test
choice_is : (p : Parsers) (k : ℕ) (s : List Lexeme) → choice_at p s ≡ construct_at p k constructs.Test s
unfolding choice_at then_at else_at construct_at
choice_is p k s = refl

pub whole_parts : (p : Parsers) (k : ℕ) (s : List Lexeme) →
    whole_at p k s ≡ when (after signs.If s) (construct_at p k constructs.Test) (level_at p k 7 s >>= λ x. default_at p x.0 x.1)
whole_parts p k s = whole_by_sign p k s ∙ go (after signs.If s)
  where
    go : (o : Option (List Lexeme)) →
        when o (choice_at p) (level_at p k 7 s >>= λ x. default_at p x.0 x.1) ≡ when o (construct_at p k constructs.Test) (level_at p k 7 s >>= λ x. default_at p x.0 x.1)
    go None = refl
    go (Some r) = choice_is p k r

pub sub_rest_none : (p : Parsers) (k n : ℕ) (a : Tree) (s : List Lexeme) → n ≡ 0 → sub_rest p k n a s ≡ Some (a, s)
unfolding sub_rest
sub_rest_none p k zero a s e = refl
sub_rest_none p k (suc n) a s e = cc

sub_step_is : (p : Parsers) (k n : ℕ) (a : Tree) (s : List Lexeme) →
    sub_step p k (sub_rest p k n) a s ≡ when (after signs.OpenBracket s) (members_at p (subs_closed p k a n) no_tree k) (Some (a, s))
unfolding members_at subs_closed few_of after
sub_step_is p k n a [] = refl
sub_step_is p k n a (named x ∷ s) = refl
sub_step_is p k n a (numeral x ∷ s) = refl
sub_step_is p k n a (quoted x ∷ s) = refl
sub_step_is p k n a (mark signs.OpenBracket ∷ s) = go (list_at p k s)
  where
    go : (o : Out Trees) →
        (o >>= λ x. short (count_trees x.0) x.0 >>= λ es. after signs.CloseBracket x.1 >>= λ r. sub_rest p k n (op Strict.sub (tree a es)) r)
        ≡ (with_trees no_tree o >>= λ x. short (count_trees x.0) x.0 >>= λ es. after signs.CloseBracket x.1 >>= λ r. sub_rest p k n (op Strict.sub (tree a es)) r)
    go None = refl
    go (Some x) = refl
sub_step_is p k n a (mark _ ∷ s) = refl

pub sub_rest_more : (p : Parsers) (k n : ℕ) (a : Tree) (s : List Lexeme) → 0 < n →
    sub_rest p k n a s ≡ when (after signs.OpenBracket s) (members_at p (subs_closed p k a (n - 1)) no_tree k) (Some (a, s))
unfolding sub_rest
sub_rest_more p k zero a s l = absurd (omega arith)
sub_rest_more p k (suc n) a s l = rw sub-one (sub_step_is p k n a s)

module _ (p : Parsers) (k : ℕ) where
  -- what was read, and its subscripts
  abbrev with_subs : Out Tree → Out Tree
  with_subs o = o >>= λ x. sub_rest p k k x.0 x.1

  closing : (o : Option (List Lexeme)) (t : Tree) → with_subs (o >>= λ r. Some (t, r)) ≡ (o >>= λ r. sub_rest p k k t r)
  closing None t = refl
  closing (Some r) t = refl

  paren_same : (s : List Lexeme) → with_subs (paren_at p k s) ≡ members_at p (paren_closed p k) no_tree k s
  unfolding paren_at members_at paren_closed
  paren_same s = go (list_at p k s)
    where
      go : (o : Out Trees) →
          with_subs (o >>= λ x. after signs.Close x.1 >>= λ r. Some (grouping x.0, r))
          ≡ (with_trees no_tree o >>= λ x. after signs.Close x.1 >>= λ r. sub_rest p k k (grouping x.0) r)
      go None = refl
      go (Some x) = closing (after signs.Close x.1) (grouping x.0)

  comp_same : (e : Tree) (s : List Lexeme) →
      with_subs (quals_at p k k s >>= λ x. after signs.CloseBrace x.1 >>= λ r. Some (comp e x.0, r)) ≡ qualifiers_at p k (comp_closed p k e) no_qual k s
  unfolding qualifiers_at comp_closed
  comp_same e s = go (quals_at p k k s)
    where
      go : (o : Out Quals) →
          with_subs (o >>= λ x. after signs.CloseBrace x.1 >>= λ r. Some (comp e x.0, r))
          ≡ (with_quals no_qual o >>= λ x. after signs.CloseBrace x.1 >>= λ r. sub_rest p k k (comp e x.0) r)
      go None = refl
      go (Some x) = closing (after signs.CloseBrace x.1) (comp e x.0)

  comp_of : (es : Trees) (s : List Lexeme) →
      with_subs (only es >>= λ e. quals_at p k k s >>= λ x. after signs.CloseBrace x.1 >>= λ r. Some (comp e x.0, r))
      ≡ (one_of es >>= λ e. qualifiers_at p k (comp_closed p k e) no_qual k s)
  unfolding one_of
  comp_of es s = go (only es)
    where
      go : (o : Option Tree) →
          with_subs (o >>= λ e. quals_at p k k s >>= λ x. after signs.CloseBrace x.1 >>= λ r. Some (comp e x.0, r))
          ≡ (o >>= λ e. qualifiers_at p k (comp_closed p k e) no_qual k s)
      go None = refl
      go (Some e) = comp_same e s

  brace_same : (es : Trees) (s : List Lexeme) → with_subs (brace_rest p k es s) ≡ brace_closed p k es s
  unfolding brace_rest brace_closed after
  brace_same es [] = refl
  brace_same es (named n ∷ s) = refl
  brace_same es (numeral n ∷ s) = refl
  brace_same es (quoted n ∷ s) = refl
  brace_same es (mark signs.CloseBrace ∷ s) = refl
  brace_same es (mark signs.Bar ∷ s) = comp_of es s
  brace_same es (mark _ ∷ s) = refl

  braces_same : (s : List Lexeme) → with_subs (braces_at p k s) ≡ braces_from p k s
  unfolding braces_from members_at
  braces_same s = ap with_subs (braces_by_sign p k s) ∙ go (after signs.CloseBrace s) (list_at p k s)
    where
      go : (o : Option (List Lexeme)) (l : Out Trees) →
          with_subs (when o (λ r. Some (op Strict.empty no_tree, r)) (l >>= λ x. brace_rest p k x.0 x.1))
          ≡ when o (sub_rest p k k (op Strict.empty no_tree)) (with_trees no_tree l >>= λ x. brace_closed p k x.0 x.1)
      go (Some r) l = refl
      go None None = refl
      go None (Some x) = brace_same x.0 x.1

  cells_listed : (ds : Trees) (o : Out Trees) →
      with_subs (o >>= λ x. closed_twice x.1 >>= λ r. Some (literal_of ds x.0, r)) ≡ (with_trees no_tree o >>= λ x. cells_closed p k ds x.0 x.1)
  unfolding cells_closed
  cells_listed ds None = refl
  cells_listed ds (Some x) = closing (closed_twice x.1) (literal_of ds x.0)

  cells_same : (ds : Trees) (s : List Lexeme) →
      with_subs (maybe_at p k s >>= λ x. closed_twice x.1 >>= λ r. Some (literal_of ds x.0, r)) ≡ cells_from p k ds s
  unfolding cells_from members_at cells_closed after
  cells_same ds [] = cells_listed ds (list_at p k [])
  cells_same ds (named n ∷ s) = cells_listed ds (list_at p k (named n ∷ s))
  cells_same ds (numeral n ∷ s) = cells_listed ds (list_at p k (numeral n ∷ s))
  cells_same ds (quoted n ∷ s) = cells_listed ds (list_at p k (quoted n ∷ s))
  cells_same ds (mark signs.CloseBracket ∷ s) = closing (closed_twice (mark signs.CloseBracket ∷ s)) (literal_of ds no_tree)
  cells_same ds (mark g ∷ s) = cells_listed ds (list_at p k (mark g ∷ s))

  cells_of : (es : Trees) (s : List Lexeme) →
      with_subs (short (count_trees es) es >>= λ ds. maybe_at p k s >>= λ x. closed_twice x.1 >>= λ r. Some (literal_of ds x.0, r))
      ≡ (few_of es >>= λ ds. cells_from p k ds s)
  unfolding few_of
  cells_of es s = go (short (count_trees es) es)
    where
      go : (o : Option Trees) →
          with_subs (o >>= λ ds. maybe_at p k s >>= λ x. closed_twice x.1 >>= λ r. Some (literal_of ds x.0, r)) ≡ (o >>= λ ds. cells_from p k ds s)
      go None = refl
      go (Some ds) = cells_same ds s

  table_same : (e : Tree) (s : List Lexeme) →
      with_subs (axes_at p k s >>= λ x. short (count_axes x.0) x.0 >>= λ xs. closed_twice x.1 >>= λ r. Some (tab xs e, r))
      ≡ indices_at p (table_closed p k e) no_axis k s
  unfolding indices_at table_closed
  table_same e s = go (axes_at p k s)
    where
      few : (o : Option Axes) (t : List Lexeme) →
          with_subs (o >>= λ xs. closed_twice t >>= λ r. Some (tab xs e, r)) ≡ (o >>= λ xs. closed_twice t >>= λ r. sub_rest p k k (tab xs e) r)
      few None t = refl
      few (Some xs) t = closing (closed_twice t) (tab xs e)

      go : (o : Out Axes) →
          with_subs (o >>= λ x. short (count_axes x.0) x.0 >>= λ xs. closed_twice x.1 >>= λ r. Some (tab xs e, r))
          ≡ (with_axes no_axis o >>= λ x. short (count_axes x.0) x.0 >>= λ xs. closed_twice x.1 >>= λ r. sub_rest p k k (tab xs e) r)
      go None = refl
      go (Some x) = few (short (count_axes x.0) x.0) x.1

  table_of : (es : Trees) (s : List Lexeme) →
      with_subs (only es >>= λ e. axes_at p k s >>= λ x. short (count_axes x.0) x.0 >>= λ xs. closed_twice x.1 >>= λ r. Some (tab xs e, r))
      ≡ (one_of es >>= λ e. indices_at p (table_closed p k e) no_axis k s)
  unfolding one_of
  table_of es s = go (only es)
    where
      go : (o : Option Tree) →
          with_subs (o >>= λ e. axes_at p k s >>= λ x. short (count_axes x.0) x.0 >>= λ xs. closed_twice x.1 >>= λ r. Some (tab xs e, r))
          ≡ (o >>= λ e. indices_at p (table_closed p k e) no_axis k s)
      go None = refl
      go (Some e) = table_same e s

  bracket_same : (es : Trees) (s : List Lexeme) → with_subs (bracket_rest p k es s) ≡ bracket_closed p k es s
  unfolding bracket_rest bracket_closed after
  bracket_same es [] = refl
  bracket_same es (named n ∷ s) = refl
  bracket_same es (numeral n ∷ s) = refl
  bracket_same es (quoted n ∷ s) = refl
  bracket_same es (mark signs.Semicolon ∷ s) = cells_of es s
  bracket_same es (mark signs.Bar ∷ s) = table_of es s
  bracket_same es (mark _ ∷ s) = refl

  brackets_same : (s : List Lexeme) → with_subs (brackets_at p k s) ≡ members_at p (bracket_closed p k) no_tree k s
  unfolding brackets_at members_at
  brackets_same s = go (list_at p k s)
    where
      go : (o : Out Trees) → with_subs (o >>= λ x. bracket_rest p k x.0 x.1) ≡ (with_trees no_tree o >>= λ x. bracket_closed p k x.0 x.1)
      go None = refl
      go (Some x) = bracket_same x.0 x.1

  double_same : (s : List Lexeme) →
      with_subs (after signs.OpenBracket s >>= λ r. brackets_at p k r) ≡ (after signs.OpenBracket s >>= λ r. members_at p (bracket_closed p k) no_tree k r)
  double_same s = go (after signs.OpenBracket s)
    where
      go : (o : Option (List Lexeme)) → with_subs (o >>= λ r. brackets_at p k r) ≡ (o >>= λ r. members_at p (bracket_closed p k) no_tree k r)
      go None = refl
      go (Some r) = brackets_same r

  let_same : (s : List Lexeme) → with_subs (let_at p k s) ≡ definitions_at p k (let_closed p k) no_def k s
  unfolding let_at definitions_at let_closed body_closed
  let_same s = go (defs_at p k k s)
    where
      body : (ds : Defs) (o : Out Tree) →
          with_subs (o >>= λ e. after signs.End e.1 >>= λ r'. Some (bindings ds e.0, r')) ≡ (o >>= λ e. after signs.End e.1 >>= λ r. sub_rest p k k (bindings ds e.0) r)
      body ds None = refl
      body ds (Some e) = closing (after signs.End e.1) (bindings ds e.0)

      behind : (ds : Defs) (o : Option (List Lexeme)) →
          with_subs (o >>= λ r. p 8 r >>= λ e. after signs.End e.1 >>= λ r'. Some (bindings ds e.0, r'))
          ≡ (o >>= λ r. p 8 r >>= λ e. after signs.End e.1 >>= λ r. sub_rest p k k (bindings ds e.0) r)
      behind ds None = refl
      behind ds (Some r) = body ds (p 8 r)

      go : (o : Out Defs) →
          with_subs (o >>= λ x. after signs.In x.1 >>= λ r. p 8 r >>= λ e. after signs.End e.1 >>= λ r'. Some (bindings x.0 e.0, r'))
          ≡ (with_defs no_def o >>= λ x. after signs.In x.1 >>= λ r. p 8 r >>= λ e. after signs.End e.1 >>= λ r. sub_rest p k k (bindings x.0 e.0) r)
      go None = refl
      go (Some x) = behind x.0 (after signs.In x.1)

  pub postfix_parts : (s : List Lexeme) →
      postfix_at p k s ≡ when (after signs.Open s) (members_at p (paren_closed p k) no_tree k)
      (when (after signs.OpenBrace s) (braces_from p k)
      (when (after signs.OpenBracket s) (λ r. after signs.OpenBracket r >>= λ t. members_at p (bracket_closed p k) no_tree k t)
      (when (after signs.Let s) (definitions_at p k (let_closed p k) no_def k) (leaf_at s >>= λ x. sub_rest p k k x.0 x.1))))
  unfolding postfix_at
  postfix_parts s = ap with_subs (primary_by_sign p k s) ∙ go (after signs.Open s) (after signs.OpenBrace s) (after signs.OpenBracket s) (after signs.Let s)
    where
      go : (a b c d : Option (List Lexeme)) →
          with_subs (when a (paren_at p k) (when b (braces_at p k) (when c (λ r. after signs.OpenBracket r >>= λ t. brackets_at p k t) (when d (let_at p k) (leaf_at s)))))
          ≡ when a (members_at p (paren_closed p k) no_tree k)
          (when b (braces_from p k)
          (when c (λ r. after signs.OpenBracket r >>= λ t. members_at p (bracket_closed p k) no_tree k t)
          (when d (definitions_at p k (let_closed p k) no_def k) (leaf_at s >>= λ x. sub_rest p k k x.0 x.1))))
      go (Some r) b c d = paren_same r
      go None (Some r) c d = braces_same r
      go None None (Some r) d = double_same r
      go None None None (Some r) = let_same r
      go None None None None = refl

pub ruleset sub_steps = (sub_rest_none, sub_rest_more)

pub ruleset table_steps = (count_axes-list, short_ok, short_long)
