-- Expressions that are read are in the grammar.
use Rattle.std.specs.Prelude.{ℕ, zero, suc, ◌≡◌, ◌<◌, List, [], ◌∷◌, Option, Some, None}
use Rattle.std.proofs.Common.{refl, subst, sym, ap, ◌∙◌, arith}
use Rattle.aql_value.specs.Strict.{Strict}
use Rattle.aql_syntax.specs.declared.sign.Sign.{Sign}
use Rattle.aql_syntax.specs.declared.sign.Sign.TheVariants as signs
use Rattle.aql_syntax.specs.Lexis.{Lexeme, named, numeral, quoted, mark}
use Rattle.aql_syntax.specs.Tree.{Name, Pat, Tree, op, tab, function, summap, Trees, tree, Axes, axis, Quals, no_qual, Defs, def, count_trees, count_axes}
use Rattle.aql_syntax.specs.Grammar.{ReadsPat, Level, primary, postfix, tight, comparison, loose, whole, head_operator, Reads, reads_number, reads_text, reads_true, reads_false, reads_name, reads_paren, reads_tuple, reads_empty, reads_members, reads_comp, reads_tab, reads_literal, reads_let, reads_primary, reads_sub, reads_postfix, reads_apply, reads_operation, reads_function, reads_summap, reads_tighter, reads_union, reads_comparison, reads_not, reads_looser, reads_or, reads_default, reads_if, ReadsList, list_last, list_more, ReadsMaybe, maybe_none, maybe_list, ReadsAxes, axes_last, axes_more, ReadsDefs, defs_last, defs_more, ReadsQuals, quals_from, quals_cells, quals_same, quals_test, ReadsMoreQuals, more_none, more_quals}
use Rattle.aql_value.specs.Partial.{◌>>=◌, or_else}
use Rattle.aql_parse_spec.specs.Parsing.{Out, Parser, Parsers, after, binder_at, pat_at, pat_then, Joiner, joined_by, operator_at, Opening, applies, operates, functions, summaps, operand, opens, operates_at, opening_in, opening, list_at, list_rest, maybe_at, short, only, grouping, axes_at, axes_rest, Front, from_set, from_cells, matches, add_qualifier, front_of, cells_front, or_tests, front_at, quals_at, quals_rest, def_at, defs_at, defs_rest, closed_twice, brace_rest, braces_at, literal_of, bracket_rest, brackets_at, let_at, paren_at, primary_in, primary_at, sub_rest, postfix_at, function_at, application, application_at, chain_rest, negation_at, level_at, choice_at, default_rest, whole_in, whole_at, parse_at}
use Rattle.aql_parse_spec.specs.Laws.Steps.{went, moved, after_is, at_sign, from_sign, binder_is, short_is}
use Rattle.aql_parse_spec.specs.Laws.PatternSound.{pat_at_sound, pat_then_sound}
use Rattle.aql_parse_spec.specs.Laws.Operators.{operator_is, reads_tight, reads_comparing, reads_loose}

-- a parser that reads what is of that level
abbrev pub Finds : Parser → Level → Type 0
Finds q l = (s r : List Lexeme) (e : Tree) → q s ≡ Some (e, r) → Reads l e s r

pub record AreSound (p : Parsers) : Type 0 where
  pub wholes : Finds (p 8) whole
  pub negations : Finds (p 5) (loose 0)
  pub applications : Finds (p 0) (tight 0)

enclosed_reads : {es : Trees} {s r : List Lexeme} → ReadsList es s (mark signs.Close ∷ r) → Reads primary (grouping es) (mark signs.Open ∷ s) r
enclosed_reads (list_last d) = reads_paren d
enclosed_reads (list_more d (list_last c)) = reads_tuple d (list_last c)
enclosed_reads (list_more d (list_more c cs)) = reads_tuple d (list_more c cs)

only_reads : {es : Trees} {s r : List Lexeme} → ReadsList es s r → (e : Tree) → only es ≡ Some e → Reads whole e s r
only_reads {s = s} {r} (list_last d) e is = subst (λ z. Reads whole z s r) (cc) d
only_reads (list_more d (list_last c)) e is = cc
only_reads (list_more d (list_more c cs)) e is = cc

twice_is : (s r : List Lexeme) → closed_twice s ≡ Some r → s ≡ mark signs.CloseBracket ∷ mark signs.CloseBracket ∷ r
unfolding closed_twice
twice_is s r e =
    let a = went (after signs.CloseBracket s) _ r e in
    let p = after_is signs.CloseBracket s a.value a.first in
    let q = after_is signs.CloseBracket a.value r a.second in cc

module _ (p : Parsers) (sound : AreSound p) where
  -- a whole expression and a sign after it
  whole_then : (x : Sign) (s s' r : List Lexeme) (e : Tree) → p 8 s ≡ Some (e, s') → after x s' ≡ Some r → Reads whole e s (mark x ∷ r)
  whole_then x s s' r e reads sign = at_sign (Reads whole e s) x s' r sign (sound.wholes s s' e reads)

  list_sound : (k : ℕ) (s r : List Lexeme) (es : Trees) → list_at p k s ≡ Some (es, r) → ReadsList es s r
  unfolding list_at
  list_sound zero s r es e = cc
  list_sound (suc k) s r es e =
      let w = went (p 8 s) (λ x. list_rest (list_at p k) x.0 x.1) (es, r) e in
      rest w.value.0 w.value.1 (sound.wholes s w.value.1 w.value.0 w.first) w.second (list_sound k)
    where
      rest : (a : Tree) (s' : List Lexeme) → Reads whole a s s' → list_rest (list_at p k) a s' ≡ Some (es, r) →
          ((s r : List Lexeme) (es : Trees) → list_at p k s ≡ Some (es, r) → ReadsList es s r) → ReadsList es s r
      rest a (mark signs.Comma ∷ s') d e again =
          let w = went (list_at p k s') (λ x. Some (tree a x.0, x.1)) (es, r) e in
          moved (λ z r. ReadsList z s r) _ es _ r w.second (list_more d (again s' w.value.1 w.value.0 w.first))
      rest a s' d e again = moved (λ z r. ReadsList z s r) _ es s' r e (list_last d)

  maybe_sound : (k : ℕ) (s r : List Lexeme) (es : Trees) → maybe_at p k s ≡ Some (es, r) → ReadsMaybe es s r
  maybe_sound k (mark signs.CloseBracket ∷ s) r es e = moved (λ z t. ReadsMaybe z (mark signs.CloseBracket ∷ s) t) _ es _ r e maybe_none
  maybe_sound k s r es e = maybe_list (list_sound k s r es e)

  axes_sound : (k : ℕ) (s r : List Lexeme) (xs : Axes) → axes_at p k s ≡ Some (xs, r) → ReadsAxes xs s r
  unfolding axes_at
  axes_sound zero s r xs e = cc
  axes_sound (suc k) s r xs e =
      let b = went (binder_at signs.Less s) _ (xs, r) e in
      let w = went (p 8 b.value.1) _ (xs, r) b.second in
      subst (λ z. ReadsAxes xs z r) (sym (binder_is signs.Less s b.value.1 b.value.0 b.first))
      (rest b.value.0 b.value.1 w.value.0 w.value.1 (sound.wholes b.value.1 w.value.1 w.value.0 w.first) w.second (axes_sound k))
    where
      rest : (x : Name) (s0 : List Lexeme) (a : Tree) (s' : List Lexeme) → Reads whole a s0 s' → axes_rest (axes_at p k) x a s' ≡ Some (xs, r) →
          ((s r : List Lexeme) (xs : Axes) → axes_at p k s ≡ Some (xs, r) → ReadsAxes xs s r) →
          ReadsAxes xs (mark signs.Backslash ∷ named x ∷ mark signs.Less ∷ s0) r
      rest x s0 a (mark signs.Comma ∷ s') d e again =
          let w = went (axes_at p k s') (λ y. Some (axis x a y.0, y.1)) (xs, r) e in
          moved (λ z r. ReadsAxes z (mark signs.Backslash ∷ named x ∷ mark signs.Less ∷ s0) r) _ xs _ r w.second (axes_more d (again s' w.value.1 w.value.0 w.first))
      rest x s0 a s' d e again = moved (λ z r. ReadsAxes z (mark signs.Backslash ∷ named x ∷ mark signs.Less ∷ s0) r) _ xs s' r e (axes_last d)

  defs_sound : (n k : ℕ) (s r : List Lexeme) (ds : Defs) → defs_at p n k s ≡ Some (ds, r) → ReadsDefs ds s r
  unfolding defs_at def_at
  defs_sound n zero s r ds e = cc
  defs_sound n (suc k) s r ds e =
      let b = went (def_at n s) _ (ds, r) e in
      let v = went (after signs.Val s) (λ t. pat_then signs.Equal n t) b.value b.first in
      let w = went (p 8 b.value.1) _ (ds, r) b.second in
      from_sign (λ z. ReadsDefs ds z r) signs.Val s v.value v.first
      (rest b.value.0 v.value b.value.1 w.value.0 w.value.1 (pat_then_sound signs.Equal n v.value b.value.1 b.value.0 v.second)
      (sound.wholes b.value.1 w.value.1 w.value.0 w.first) w.second (defs_sound n k))
    where
      rest : (x : Pat) (s0 s1 : List Lexeme) (a : Tree) (s' : List Lexeme) → ReadsPat x s0 (mark signs.Equal ∷ s1) → Reads whole a s1 s' →
          defs_rest (defs_at p n k) x a s' ≡ Some (ds, r) →
          ((s r : List Lexeme) (ds : Defs) → defs_at p n k s ≡ Some (ds, r) → ReadsDefs ds s r) →
          ReadsDefs ds (mark signs.Val ∷ s0) r
      rest x s0 s1 a (mark signs.Val ∷ s') c d e again =
          let w = went (defs_at p n k (mark signs.Val ∷ s')) (λ y. Some (def x a y.0, y.1)) (ds, r) e in
          moved (λ z r. ReadsDefs z (mark signs.Val ∷ s0) r) _ ds _ r w.second (defs_more c d (again (mark signs.Val ∷ s') w.value.1 w.value.0 w.first))
      rest x s0 s1 a s' c d e again = moved (λ z r. ReadsDefs z (mark signs.Val ∷ s0) r) _ ds s' r e (defs_last c d)

  -- what is before a qualifier's expression
  abbrev Fronts : Front → List Lexeme → List Lexeme → Type 0
  Fronts f s s' = (e : Tree) (qs : Quals) (s'' r : List Lexeme) → Reads whole e s' s'' → ReadsMoreQuals qs s'' r → ReadsQuals (add_qualifier f e qs) s r

  front_of_sound : (n : ℕ) (s s' : List Lexeme) (f : Front) → front_of (pat_at n s) ≡ Some (f, s') → Fronts f s s'
  front_of_sound n s s' f e = go (pat_at n s) refl
    where
      go : (o : Out Pat) → pat_at n s ≡ o → Fronts f s s'
      go None is = let e' = rw is at e in cc
      go (Some (x, t)) is = at x t (pat_at_sound n s t x is) (rw is at e)
        where
          at : (x : Pat) (t : List Lexeme) → ReadsPat x s t → front_of (Some (x, t)) ≡ Some (f, s') → Fronts f s s'
          at x (mark signs.Arrow ∷ t) d e = moved (λ z u. Fronts z s u) (from_set x) f t s' e (λ a qs s'' r h more. quals_from d h more)
          at x (mark signs.DoubleEqual ∷ t) d e = moved (λ z u. Fronts z s u) (matches x) f t s' e (λ a qs s'' r h more. quals_same d h more)
          at x _ d e = cc

  cells_front_sound : (n : ℕ) (s s' : List Lexeme) (f : Front) → cells_front n s ≡ Some (f, s') → Fronts f s s'
  cells_front_sound n s s' f e =
      let a = went (after signs.OpenBracket s) _ (f, s') e in
      let b = went (pat_at n a.value) _ (f, s') a.second in
      let c = went (after signs.Colon b.value.1) _ (f, s') b.second in
      let d = went (pat_at n c.value) _ (f, s') c.second in
      let g = went (after signs.CloseBracket d.value.1) _ (f, s') d.second in
      let h = went (after signs.Arrow g.value) _ (f, s') g.second in
      let x = at_sign (ReadsPat b.value.0 a.value) signs.Colon b.value.1 c.value c.first (pat_at_sound n a.value b.value.1 b.value.0 b.first) in
      let closed : d.value.1 ≡ mark signs.CloseBracket ∷ mark signs.Arrow ∷ h.value =
      after_is signs.CloseBracket d.value.1 g.value g.first ∙ ap (λ z. mark signs.CloseBracket ∷ z) (after_is signs.Arrow g.value h.value h.first) in
      let y = subst (ReadsPat d.value.0 c.value) closed (pat_at_sound n c.value d.value.1 d.value.0 d.first) in
      from_sign (λ z. Fronts f z s') signs.OpenBracket s a.value a.first
      (moved (λ z u. Fronts z (mark signs.OpenBracket ∷ a.value) u) (from_cells b.value.0 d.value.0) f h.value s' h.second
      (λ t qs s'' r i more. quals_cells x y i more))

  front_sound : (n : ℕ) (s : List Lexeme) → Fronts (front_at n s).0 s (front_at n s).1
  unfolding front_at
  front_sound n s = go (front_of (pat_at n s)) (cells_front n s) refl refl
    where
      go : (o c : Out Front) → front_of (pat_at n s) ≡ o → cells_front n s ≡ c →
          Fronts (or_tests s (or_else o c)).0 s (or_tests s (or_else o c)).1
      go (Some (f, t)) c is none = front_of_sound n s t f is
      go None (Some (f, t)) is found = cells_front_sound n s t f found
      go None None is none = λ e qs s'' r h more. quals_test h more

  quals_sound : (n k : ℕ) (s r : List Lexeme) (qs : Quals) → quals_at p n k s ≡ Some (qs, r) → ReadsQuals qs s r
  unfolding quals_at
  quals_sound n zero s r qs e = cc
  quals_sound n (suc k) s r qs e =
      let w = went (p 8 (front_at n s).1) _ (qs, r) e in
      rest (front_at n s).0 (front_at n s).1 w.value.0 w.value.1 (front_sound n s)
      (sound.wholes (front_at n s).1 w.value.1 w.value.0 w.first) w.second (quals_sound n k)
    where
      rest : (f : Front) (s0 : List Lexeme) (a : Tree) (s' : List Lexeme) → Fronts f s s0 → Reads whole a s0 s' →
          quals_rest (quals_at p n k) f a s' ≡ Some (qs, r) →
          ((s r : List Lexeme) (qs : Quals) → quals_at p n k s ≡ Some (qs, r) → ReadsQuals qs s r) →
          ReadsQuals qs s r
      rest f s0 a (mark signs.Comma ∷ s') c d e again =
          let w = went (quals_at p n k s') (λ y. Some (add_qualifier f a y.0, y.1)) (qs, r) e in
          moved (λ z r. ReadsQuals z s r) _ qs _ r w.second (c a w.value.0 _ _ d (more_quals (again s' w.value.1 w.value.0 w.first)))
      rest f s0 a s' c d e again = moved (λ z r. ReadsQuals z s r) _ qs s' r e (c a no_qual _ _ d more_none)

  brace_sound : (k : ℕ) (es : Trees) (s0 s r : List Lexeme) (e : Tree) → ReadsList es s0 s → brace_rest p k es s ≡ Some (e, r) →
      Reads primary e (mark signs.OpenBrace ∷ s0) r
  unfolding brace_rest
  brace_sound k es s0 [] r e d h = cc
  brace_sound k es s0 (mark signs.CloseBrace ∷ s) r e d h = moved (λ z t. Reads primary z (mark signs.OpenBrace ∷ s0) t) _ e s r h (reads_members d)
  brace_sound k es s0 (mark signs.Bar ∷ s) r e d h =
      let a = went (only es) _ (e, r) h in
      let b = went (quals_at p k k s) _ (e, r) a.second in
      let c = went (after signs.CloseBrace b.value.1) _ (e, r) b.second in
      moved (λ z t. Reads primary z (mark signs.OpenBrace ∷ s0) t) _ e c.value r c.second
      (reads_comp (only_reads d a.value a.first)
      (at_sign (ReadsQuals b.value.0 s) signs.CloseBrace b.value.1 c.value c.first (quals_sound k k s b.value.1 b.value.0 b.first)))
  brace_sound k es s0 (l ∷ s) r e d h = cc

  braces_sound : (k : ℕ) (s r : List Lexeme) (e : Tree) → braces_at p k s ≡ Some (e, r) → Reads primary e (mark signs.OpenBrace ∷ s) r
  unfolding braces_at
  braces_sound k (mark signs.CloseBrace ∷ s) r e h = moved (λ z t. Reads primary z (mark signs.OpenBrace ∷ mark signs.CloseBrace ∷ s) t) _ e s r h reads_empty
  braces_sound k s r e h =
      let w = went (list_at p k s) (λ x. brace_rest p k x.0 x.1) (e, r) h in
      brace_sound k w.value.0 s w.value.1 r e (list_sound k s w.value.1 w.value.0 w.first) w.second

  bracket_sound : (k : ℕ) (es : Trees) (s0 s r : List Lexeme) (e : Tree) → ReadsList es s0 s → bracket_rest p k es s ≡ Some (e, r) →
      Reads primary e (mark signs.OpenBracket ∷ mark signs.OpenBracket ∷ s0) r
  unfolding bracket_rest
  bracket_sound k es s0 [] r e d h = cc
  bracket_sound k es s0 (mark signs.Semicolon ∷ s) r e d h =
      let a = went (short (count_trees es) es) _ (e, r) h in
      let few = short_is (count_trees es) es a.value a.first in
      let b = went (maybe_at p k s) _ (e, r) a.second in
      let c = went (closed_twice b.value.1) _ (e, r) b.second in
      moved (λ z t. Reads primary z (mark signs.OpenBracket ∷ mark signs.OpenBracket ∷ s0) t) _ e c.value r c.second
      (subst (λ ds. Reads primary (literal_of ds b.value.0) (mark signs.OpenBracket ∷ mark signs.OpenBracket ∷ s0) c.value) few.same
      (reads_literal d few.least
      (subst (ReadsMaybe b.value.0 s) (twice_is b.value.1 c.value c.first) (maybe_sound k s b.value.1 b.value.0 b.first))))
  bracket_sound k es s0 (mark signs.Bar ∷ s) r e d h =
      let a = went (only es) _ (e, r) h in
      let b = went (axes_at p k s) _ (e, r) a.second in
      let l = went (short (count_axes b.value.0) b.value.0) _ (e, r) b.second in
      let few = short_is (count_axes b.value.0) b.value.0 l.value l.first in
      let c = went (closed_twice b.value.1) _ (e, r) l.second in
      moved (λ z t. Reads primary z (mark signs.OpenBracket ∷ mark signs.OpenBracket ∷ s0) t) _ e c.value r c.second
      (subst (λ xs. Reads primary (tab xs a.value) (mark signs.OpenBracket ∷ mark signs.OpenBracket ∷ s0) c.value) few.same
      (reads_tab (only_reads d a.value a.first)
      (subst (ReadsAxes b.value.0 s) (twice_is b.value.1 c.value c.first) (axes_sound k s b.value.1 b.value.0 b.first)) few.least))
  bracket_sound k es s0 (l ∷ s) r e d h = cc

  brackets_sound : (k : ℕ) (s r : List Lexeme) (e : Tree) → brackets_at p k s ≡ Some (e, r) →
      Reads primary e (mark signs.OpenBracket ∷ mark signs.OpenBracket ∷ s) r
  unfolding brackets_at
  brackets_sound k s r e h =
      let w = went (list_at p k s) (λ x. bracket_rest p k x.0 x.1) (e, r) h in
      bracket_sound k w.value.0 s w.value.1 r e (list_sound k s w.value.1 w.value.0 w.first) w.second

  let_sound : (k : ℕ) (s r : List Lexeme) (e : Tree) → let_at p k s ≡ Some (e, r) → Reads primary e (mark signs.Let ∷ s) r
  unfolding let_at
  let_sound k s r e h =
      let a = went (defs_at p k k s) _ (e, r) h in
      let b = went (after signs.In a.value.1) _ (e, r) a.second in
      let c = went (p 8 b.value) _ (e, r) b.second in
      let d = went (after signs.End c.value.1) _ (e, r) c.second in
      moved (λ z t. Reads primary z (mark signs.Let ∷ s) t) _ e d.value r d.second
      (reads_let (at_sign (ReadsDefs a.value.0 s) signs.In a.value.1 b.value b.first (defs_sound k k s a.value.1 a.value.0 a.first))
      (whole_then signs.End b.value c.value.1 d.value c.value.0 c.first d.first))

  paren_sound : (k : ℕ) (s r : List Lexeme) (e : Tree) → paren_at p k s ≡ Some (e, r) → Reads primary e (mark signs.Open ∷ s) r
  unfolding paren_at
  paren_sound k s r e h =
      let a = went (list_at p k s) _ (e, r) h in
      let b = went (after signs.Close a.value.1) _ (e, r) a.second in
      moved (λ z t. Reads primary z (mark signs.Open ∷ s) t) _ e b.value r b.second
      (enclosed_reads (at_sign (ReadsList a.value.0 s) signs.Close a.value.1 b.value b.first (list_sound k s a.value.1 a.value.0 a.first)))

  primary_in_sound : (k : ℕ) → Finds (primary_in p k) primary
  primary_in_sound k [] r e h = cc
  primary_in_sound k (named x ∷ s) r e h = moved (λ z t. Reads primary z (named x ∷ s) t) _ e s r h reads_name
  primary_in_sound k (numeral n ∷ s) r e h = moved (λ z t. Reads primary z (numeral n ∷ s) t) _ e s r h reads_number
  primary_in_sound k (quoted x ∷ s) r e h = moved (λ z t. Reads primary z (quoted x ∷ s) t) _ e s r h reads_text
  primary_in_sound k (mark signs.True ∷ s) r e h = moved (λ z t. Reads primary z (mark signs.True ∷ s) t) _ e s r h reads_true
  primary_in_sound k (mark signs.False ∷ s) r e h = moved (λ z t. Reads primary z (mark signs.False ∷ s) t) _ e s r h reads_false
  primary_in_sound k (mark signs.Open ∷ s) r e h = paren_sound k s r e h
  primary_in_sound k (mark signs.OpenBrace ∷ s) r e h = braces_sound k s r e h
  primary_in_sound k (mark signs.OpenBracket ∷ s) r e h =
      let a = went (after signs.OpenBracket s) (λ t. brackets_at p k t) (e, r) h in
      from_sign (λ z. Reads primary e (mark signs.OpenBracket ∷ z) r) signs.OpenBracket s a.value a.first (brackets_sound k a.value r e a.second)
  primary_in_sound k (mark signs.Let ∷ s) r e h = let_sound k s r e h
  primary_in_sound k (mark _ ∷ s) r e h = cc

  primary_sound : (k : ℕ) → Finds (primary_at p k) primary
  unfolding primary_at
  primary_sound k s r e h = primary_in_sound k s r e h

  sub_sound : (k i : ℕ) (a : Tree) (s0 s r : List Lexeme) (e : Tree) → Reads postfix a s0 s → sub_rest p k i a s ≡ Some (e, r) → Reads postfix e s0 r
  unfolding sub_rest
  sub_sound k zero a s0 s r e d h = moved (λ z t. Reads postfix z s0 t) a e s r h d
  sub_sound k (suc i) a s0 (mark signs.OpenBracket ∷ s) r e d h =
      let w = went (list_at p k s) _ (e, r) h in
      let l = went (short (count_trees w.value.0) w.value.0) _ (e, r) w.second in
      let few = short_is (count_trees w.value.0) w.value.0 l.value l.first in
      let v = went (after signs.CloseBracket w.value.1) _ (e, r) l.second in
      let inner = at_sign (ReadsList w.value.0 s) signs.CloseBracket w.value.1 v.value v.first (list_sound k s w.value.1 w.value.0 w.first) in
      sub_sound k i (op Strict.sub (tree a l.value)) s0 v.value r e
      (subst (λ es. Reads postfix (op Strict.sub (tree a es)) s0 v.value) few.same (reads_sub d inner few.least)) v.second
  sub_sound k (suc i) a s0 s r e d h = moved (λ z t. Reads postfix z s0 t) a e s r h d

  postfix_sound : (k : ℕ) → Finds (postfix_at p k) postfix
  unfolding postfix_at
  postfix_sound k s r e h =
      let w = went (primary_at p k s) (λ x. sub_rest p k k x.0 x.1) (e, r) h in
      sub_sound k k w.value.0 s w.value.1 r e (reads_primary (primary_sound k s w.value.1 w.value.0 w.first)) w.second

  -- behind `fn`
  pub record IsFunction (f : Pat → Tree → Tree → Tree) (e : Tree) (s r : List Lexeme) : Type 0 where
    pub pattern : Pat
    pub body : Tree
    pub argument : Tree
    pub inner : List Lexeme
    pub outer : List Lexeme
    pub is : e ≡ f pattern body argument
    pub reads_pattern : ReadsPat pattern s (mark signs.FatArrow ∷ inner)
    pub reads_body : Reads whole body inner (mark signs.Close ∷ mark signs.Bang ∷ outer)
    pub reads_argument : Reads (tight 0) argument outer r

  function_sound : (f : Pat → Tree → Tree → Tree) (k : ℕ) (s r : List Lexeme) (e : Tree) → function_at f p k s ≡ Some (e, r) → IsFunction f e s r
  unfolding function_at
  function_sound f k s r e h =
      let a = went (pat_then signs.FatArrow k s) _ (e, r) h in
      let b = went (p 8 a.value.1) _ (e, r) a.second in
      let c = went (after signs.Close b.value.1) _ (e, r) b.second in
      let d = went (after signs.Bang c.value) _ (e, r) c.second in
      let g = went (p 0 d.value) _ (e, r) d.second in
      let closed : b.value.1 ≡ mark signs.Close ∷ mark signs.Bang ∷ d.value =
      after_is signs.Close b.value.1 c.value c.first ∙ ap (λ z. mark signs.Close ∷ z) (after_is signs.Bang c.value d.value d.first) in
      moved (λ z t. IsFunction f z s t) _ e g.value.1 r g.second
      (record {
        pattern = a.value.0;
        body = b.value.0;
        argument = g.value.0;
        inner = a.value.1;
        outer = d.value;
        is = refl;
        reads_pattern = pat_then_sound signs.FatArrow k s a.value.1 a.value.0 a.first;
        reads_body = subst (Reads whole b.value.0 a.value.1) closed (sound.wholes a.value.1 b.value.1 b.value.0 b.first);
        reads_argument = sound.applications d.value g.value.1 g.value.0 g.first;
      })

  -- what an opening says of the lexemes
  abbrev Opens : List Lexeme → Opening → Type 0
  Opens s (applies f r) = s ≡ named f ∷ mark signs.Bang ∷ r
  Opens s (operates o r) = (l : Lexeme) × ((head_operator l ≡ Some o) × (s ≡ l ∷ mark signs.Bang ∷ r))
  Opens s (functions r) = s ≡ mark signs.Open ∷ mark signs.Fn ∷ r
  Opens s (summaps r) = s ≡ mark signs.Summap ∷ mark signs.Open ∷ mark signs.Fn ∷ r
  Opens s operand = Unit {0}

  opens_is : (s : List Lexeme) (f : List Lexeme → Opening) (o : Option (List Lexeme)) → ((r : List Lexeme) → o ≡ Some r → Opens s (f r)) → Opens s (opens f o)
  opens_is s f None h = tt
  opens_is s f (Some r) h = h r refl

  operates_is : (l : Lexeme) (s : List Lexeme) (o : Option Strict) → head_operator l ≡ o → Opens (l ∷ s) (operates_at o s)
  operates_is l s None is = tt
  operates_is l s (Some o) is =
      opens_is (l ∷ s) (operates o) (after signs.Bang s) (λ r e. (l, (is, ap (λ z. l ∷ z) (after_is signs.Bang s r e))))

  opening_is : (s : List Lexeme) → Opens s (opening_in s)
  opening_is [] = tt
  opening_is (named f ∷ s) = opens_is (named f ∷ s) (applies f) (after signs.Bang s) (λ r e. ap (λ z. named f ∷ z) (after_is signs.Bang s r e))
  opening_is (mark signs.Open ∷ s) =
      opens_is (mark signs.Open ∷ s) functions (after signs.Fn s) (λ r e. ap (λ z. mark signs.Open ∷ z) (after_is signs.Fn s r e))
  opening_is (mark signs.Summap ∷ s) =
      opens_is (mark signs.Summap ∷ s) summaps (after signs.Open s >>= λ r. after signs.Fn r) (λ r e.
      let w = went (after signs.Open s) (λ t. after signs.Fn t) r e in
      ap (λ z. mark signs.Summap ∷ z) (after_is signs.Open s w.value w.first ∙ ap (λ z. mark signs.Open ∷ z) (after_is signs.Fn w.value r w.second)))
  opening_is (l ∷ s) = operates_is l s (head_operator l) refl

  applied_sound : (k : ℕ) (s r : List Lexeme) (e : Tree) (o : Opening) → Opens s o → application p k s o ≡ Some (e, r) → Reads (tight 0) e s r
  applied_sound k s r e (applies f t) is h =
      let w = went (p 0 t) _ (e, r) h in
      subst (λ z. Reads (tight 0) e z r) (sym is)
      (moved (λ z u. Reads (tight 0) z (named f ∷ mark signs.Bang ∷ t) u) _ e w.value.1 r w.second (reads_apply (sound.applications t w.value.1 w.value.0 w.first)))
  applied_sound k s r e (operates o t) is h =
      let w = went (p 0 t) _ (e, r) h in
      subst (λ z. Reads (tight 0) e z r) (sym is.1.1)
      (moved (λ z u. Reads (tight 0) z (is.0 ∷ mark signs.Bang ∷ t) u) _ e w.value.1 r w.second
      (reads_operation is.1.0 (sound.applications t w.value.1 w.value.0 w.first)))
  applied_sound k s r e (functions t) is h =
      let f = function_sound function k t r e h in
      subst (λ z. Reads (tight 0) e z r) (sym is)
      (subst (λ z. Reads (tight 0) z (mark signs.Open ∷ mark signs.Fn ∷ t) r) (sym f.is) (reads_function f.reads_pattern f.reads_body f.reads_argument))
  applied_sound k s r e (summaps t) is h =
      let f = function_sound summap k t r e h in
      subst (λ z. Reads (tight 0) e z r) (sym is)
      (subst (λ z. Reads (tight 0) z (mark signs.Summap ∷ mark signs.Open ∷ mark signs.Fn ∷ t) r) (sym f.is) (reads_summap f.reads_pattern f.reads_body f.reads_argument))
  applied_sound k s r e operand is h = reads_postfix (postfix_sound k s r e h)

  application_sound : (k : ℕ) → Finds (application_at p k) (tight 0)
  unfolding application_at opening
  application_sound k s r e h = applied_sound k s r e (opening_in s) (opening_is s) h

-- the operators of one level, over a parser of operands
chain_sound : (q : Parser) (h : ℕ) (l m : Level) → Finds q m →
    ((a b : Tree) (s0 s s' r : List Lexeme) (j : Joiner) → Reads l a s0 s → operator_at h s ≡ Some (j, s') → Reads m b s' r →
    Reads l (joined_by j a b) s0 r) →
    (k : ℕ) (a : Tree) (s0 s r : List Lexeme) (e : Tree) → Reads l a s0 s → chain_rest q h k a s ≡ Some (e, r) → Reads l e s0 r
unfolding chain_rest
chain_sound q h l m operands join zero a s0 s r e d eq = moved (λ z t. Reads l z s0 t) a e s r eq d
chain_sound q h l m operands join (suc k) a s0 s r e d eq = go (operator_at h s) refl (chain_sound q h l m operands join k)
  where
    go : (o : Option (Joiner × List Lexeme)) → operator_at h s ≡ o →
        ((a : Tree) (s0 s r : List Lexeme) (e : Tree) → Reads l a s0 s → chain_rest q h k a s ≡ Some (e, r) → Reads l e s0 r) →
        Reads l e s0 r
    go None is again = let eq' = rw is at eq in moved (λ z t. Reads l z s0 t) a e s r eq' d
    go (Some (j, s')) is again =
        let eq' = rw is at eq in
        let w = went (q s') (λ x. chain_rest q h k (joined_by j a x.0) x.1) (e, r) eq' in
        again (joined_by j a w.value.0) s0 w.value.1 r e
        (join a w.value.0 s0 s s' w.value.1 j d is (operands s' w.value.1 w.value.0 w.first)) w.second

join_tight : (h : ℕ) → h < 3 → (a b : Tree) (s0 s s' r : List Lexeme) (j : Joiner) → Reads (tight (suc h)) a s0 s →
    operator_at (suc h) s ≡ Some (j, s') → Reads (tight h) b s' r → Reads (tight (suc h)) (joined_by j a b) s0 r
join_tight h lt a b s0 s s' r j d is c =
    let o = operator_is (suc h) s s' j is in
    reads_tight o.joined h lt refl (subst (Reads (tight (suc h)) a s0) o.front d) c

join_loose : (h : ℕ) (a b : Tree) (s0 s s' r : List Lexeme) (j : Joiner) → Reads (loose (suc h)) a s0 s →
    operator_at (suc (suc (suc (suc (suc (suc h)))))) s ≡ Some (j, s') → Reads (loose h) b s' r → Reads (loose (suc h)) (joined_by j a b) s0 r
join_loose h a b s0 s s' r j d is c =
    let o = operator_is (suc (suc (suc (suc (suc (suc h)))))) s s' j is in
    reads_loose o.joined h refl (subst (Reads (loose (suc h)) a s0) o.front d) c

-- one operator at most
compare_sound : (q : Parser) → Finds q (tight 3) → (a : Tree) (s0 s r : List Lexeme) (e : Tree) → Reads (tight 3) a s0 s →
    chain_rest q 4 1 a s ≡ Some (e, r) → Reads comparison e s0 r
unfolding chain_rest
compare_sound q operands a s0 s r e d eq = go (operator_at 4 s) refl
  where
    go : (o : Option (Joiner × List Lexeme)) → operator_at 4 s ≡ o → Reads comparison e s0 r
    go None is = let eq' = rw is at eq in moved (λ z t. Reads comparison z s0 t) a e s r eq' (reads_union d)
    go (Some (j, s')) is =
        let eq' = rw is at eq in
        let w = went (q s') (λ x. Some (joined_by j a x.0, x.1)) (e, r) eq' in
        let o = operator_is 4 s s' j is in
        moved (λ z t. Reads comparison z s0 t) _ e w.value.1 r w.second
        (reads_comparing o.joined refl (subst (Reads (tight 3) a s0) o.front d) (operands s' w.value.1 w.value.0 w.first))

module _ (p : Parsers) (sound : AreSound p) (k : ℕ) where
  level_0 : Finds (level_at p k 0) (tight 0)
  unfolding level_at
  level_0 s r e h = application_sound p sound k s r e h

  level_1 : Finds (level_at p k 1) (tight 1)
  unfolding level_at
  level_1 s r e h =
      let w = went (level_at p k 0 s) (λ x. chain_rest (level_at p k 0) 1 k x.0 x.1) (e, r) h in
      chain_sound (level_at p k 0) 1 (tight 1) (tight 0) level_0 (join_tight 0 (grind arith)) k w.value.0 s w.value.1 r e
      (reads_tighter (level_0 s w.value.1 w.value.0 w.first)) w.second

  level_2 : Finds (level_at p k 2) (tight 2)
  unfolding level_at
  level_2 s r e h =
      let w = went (level_at p k 1 s) (λ x. chain_rest (level_at p k 1) 2 k x.0 x.1) (e, r) h in
      chain_sound (level_at p k 1) 2 (tight 2) (tight 1) level_1 (join_tight 1 (grind arith)) k w.value.0 s w.value.1 r e
      (reads_tighter (level_1 s w.value.1 w.value.0 w.first)) w.second

  level_3 : Finds (level_at p k 3) (tight 3)
  unfolding level_at
  level_3 s r e h =
      let w = went (level_at p k 2 s) (λ x. chain_rest (level_at p k 2) 3 k x.0 x.1) (e, r) h in
      chain_sound (level_at p k 2) 3 (tight 3) (tight 2) level_2 (join_tight 2 (grind arith)) k w.value.0 s w.value.1 r e
      (reads_tighter (level_2 s w.value.1 w.value.0 w.first)) w.second

  level_4 : Finds (level_at p k 4) comparison
  unfolding level_at
  level_4 s r e h =
      let w = went (level_at p k 3 s) (λ x. chain_rest (level_at p k 3) 4 1 x.0 x.1) (e, r) h in
      compare_sound (level_at p k 3) level_3 w.value.0 s w.value.1 r e (level_3 s w.value.1 w.value.0 w.first) w.second

  level_5 : Finds (level_at p k 5) (loose 0)
  unfolding level_at
  level_5 s r e h = go s h
    where
      go : (s : List Lexeme) → negation_at p (level_at p k 4) s ≡ Some (e, r) → Reads (loose 0) e s r
      go (mark signs.Not ∷ s) h =
          let w = went (p 5 s) _ (e, r) h in
          moved (λ z t. Reads (loose 0) z (mark signs.Not ∷ s) t) _ e w.value.1 r w.second (reads_not (sound.negations s w.value.1 w.value.0 w.first))
      go s h = reads_comparison (level_4 s r e h)

  level_6 : Finds (level_at p k 6) (loose 1)
  unfolding level_at
  level_6 s r e h =
      let w = went (level_at p k 5 s) (λ x. chain_rest (level_at p k 5) 6 k x.0 x.1) (e, r) h in
      chain_sound (level_at p k 5) 6 (loose 1) (loose 0) level_5 (join_loose 0) k w.value.0 s w.value.1 r e
      (reads_looser (level_5 s w.value.1 w.value.0 w.first)) w.second

  level_7 : Finds (level_at p k 7) (loose 2)
  unfolding level_at
  level_7 s r e h =
      let w = went (level_at p k 6 s) (λ x. chain_rest (level_at p k 6) 7 k x.0 x.1) (e, r) h in
      chain_sound (level_at p k 6) 7 (loose 2) (loose 1) level_6 (join_loose 1) k w.value.0 s w.value.1 r e
      (reads_looser (level_6 s w.value.1 w.value.0 w.first)) w.second

  choice_sound : (s r : List Lexeme) (e : Tree) → choice_at p s ≡ Some (e, r) → Reads whole e (mark signs.If ∷ s) r
  unfolding choice_at
  choice_sound s r e h =
      let c = went (p 8 s) _ (e, r) h in
      let c' = went (after signs.Then c.value.1) _ (e, r) c.second in
      let a = went (p 8 c'.value) _ (e, r) c'.second in
      let a' = went (after signs.Else a.value.1) _ (e, r) a.second in
      let b = went (p 8 a'.value) _ (e, r) a'.second in
      moved (λ z t. Reads whole z (mark signs.If ∷ s) t) _ e b.value.1 r b.second
      (reads_if
      (whole_then p sound signs.Then s c.value.1 c'.value c.value.0 c.first c'.first)
      (whole_then p sound signs.Else c'.value a.value.1 a'.value a.value.0 a.first a'.first)
      (sound.wholes a'.value b.value.1 b.value.0 b.first))

  default_sound : (a : Tree) (s0 s r : List Lexeme) (e : Tree) → Reads (loose 2) a s0 s → default_rest p a s ≡ Some (e, r) → Reads whole e s0 r
  default_sound a s0 (mark signs.Default ∷ s) r e d h =
      let w = went (p 8 s) _ (e, r) h in
      moved (λ z t. Reads whole z s0 t) _ e w.value.1 r w.second (reads_default d (sound.wholes s w.value.1 w.value.0 w.first))
  default_sound a s0 s r e d h = moved (λ z t. Reads whole z s0 t) a e s r h (reads_or d)

  whole_in_sound : Finds (whole_in p k) whole
  whole_in_sound (mark signs.If ∷ s) r e h = choice_sound s r e h
  whole_in_sound s r e h =
      let w = went (level_at p k 7 s) (λ x. default_rest p x.0 x.1) (e, r) h in
      default_sound w.value.0 s w.value.1 r e (level_7 s w.value.1 w.value.0 w.first) w.second

  whole_sound : Finds (whole_at p k) whole
  unfolding whole_at
  whole_sound s r e h = whole_in_sound s r e h

-- every depth reads what is in the grammar
pub parse_at_sound : (n : ℕ) → AreSound (parse_at n)
unfolding parse_at
parse_at_sound zero = record {
  wholes = λ s r e h. cc;
  negations = λ s r e h. cc;
  applications = λ s r e h. cc;
}
parse_at_sound (suc n) = record {
  wholes = λ s r e h. whole_sound (parse_at n) (parse_at_sound n) n s r e h;
  negations = λ s r e h. level_5 (parse_at n) (parse_at_sound n) n s r e h;
  applications = λ s r e h. level_0 (parse_at n) (parse_at_sound n) n s r e h;
}
