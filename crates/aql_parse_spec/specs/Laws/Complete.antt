-- Expressions of the grammar are read.
use Rattle.std.specs.Prelude.{ℕ, zero, suc, ◌≡◌, ◌<◌, ◌≤◌, List, [], ◌∷◌, Some, None, length}
use Rattle.std.proofs.Common.{refl, sym, ap, ◌∙◌, arith, lit<, lit≤, inl, inr}
use Rattle.aql_value.specs.Strict.{Strict}
use Rattle.aql_syntax.specs.declared.sign.Sign.TheVariants as signs
use Rattle.aql_syntax.specs.Lexis.{Lexeme, named, mark}
use Rattle.aql_syntax.specs.Tree.{Pat, Tree, op, function, summap, Trees, no_tree, tree, Axes, Quals, Defs, count_trees}
use Rattle.aql_syntax.specs.View.{of_two}
use Rattle.aql_syntax.specs.Grammar.{ReadsPat, Level, primary, postfix, tight, comparison, loose, whole, Reads, reads_number, reads_text, reads_true, reads_false, reads_name, reads_paren, reads_tuple, reads_empty, reads_members, reads_comp, reads_tab, reads_literal, reads_let, reads_primary, reads_sub, reads_postfix, reads_apply, reads_operation, reads_function, reads_summap, reads_tighter, reads_binary, reads_union, reads_compare, reads_comparison, reads_not, reads_looser, reads_junction, reads_or, reads_default, reads_if, ReadsList, list_last, list_more, ReadsMaybe, maybe_none, maybe_list, ReadsAxes, axes_last, axes_more, ReadsDefs, defs_last, defs_more, ReadsQuals, quals_from, quals_cells, quals_same, quals_test, ReadsMoreQuals, more_none, more_quals}
use Rattle.aql_parse_spec.specs.Parsing.{Out, Parser, Parsers, after, pat_at, Joiner, builds, joins, joined_by, operator_of, list_at, maybe_at, axes_at, Front, from_set, from_cells, matches, tests, add_qualifier, front_of, cells_front, front_at, quals_at, quals_rest, defs_at, braces_at, primary_at, sub_rest, postfix_at, chain_rest, level_at, choice_at, parse_at}
use Rattle.aql_parse_spec.specs.Laws.First.{shrinks, list_shrinks, defs_shrink, pat_shrinks, starts_at, list_starts, StartsBracket, BracketsTwice, brackets_twice}
use Rattle.aql_parse_spec.specs.Laws.PatternComplete.{pat_complete, pat_then_complete}
use Rattle.aql_parse_spec.specs.Stops.{Stops, NoVal}
use Rattle.aql_parse_spec.specs.Laws.StopsLaws.{stops_below, level_goes_on, tight_table, compare_table, loose_table, chain_rest_stops, chain_more, sub_rest_stops, default_rest_stops, quals_rest_stops, no_bang, no_if, no_not, choice_skipped, negation_skipped, maybe_skipped, postfix_operand, list_one, list_cons, axes_one, axes_cons, def_complete, defs_one, defs_start, val_stops, defs_cons, quals_step, paren_primary, members_primary, comp_primary, tab_primary, literal_primary, let_primary, enclosed_list, sub_more, application_postfix, application_apply, application_operation, function_complete, application_function, application_summap, level_0, level_tight, level_4, level_5, level_loose, parse_8, parse_5, parse_0}
use Rattle.aql_parse_spec.specs.Laws.AsExpression.{EndsAt, pattern_begins, whole_as, primary_as}
use Rattle.aql_parse_spec.specs.Laws.Steps.{moved}
use Rattle.aql_parse_spec.specs.Laws.PatternSound.{pat_at_sound}

-- What a reading says of the functions, with n as the depth.
abbrev pub Complete : ℕ → Level → Tree → List Lexeme → List Lexeme → Type 0
Complete n primary e s r = length s ≤ n → primary_at (parse_at n) n s ≡ Some (e, r)
Complete n postfix e s r = length s ≤ n → (k : ℕ) × ((length r ≤ k) × (postfix_at (parse_at n) n s ≡ sub_rest (parse_at n) n k e r))
Complete n (tight zero) e s r = length s ≤ n → Stops 0 r → level_at (parse_at n) n 0 s ≡ Some (e, r)
Complete n (tight (suc h)) e s r =
    h < 3 → length s ≤ n → Stops h r →
    (k : ℕ) × ((length r ≤ k) × (level_at (parse_at n) n (suc h) s ≡ chain_rest (level_at (parse_at n) n h) (suc h) k e r))
Complete n comparison e s r = length s ≤ n → Stops 4 r → level_at (parse_at n) n 4 s ≡ Some (e, r)
Complete n (loose zero) e s r = length s ≤ n → Stops 5 r → level_at (parse_at n) n 5 s ≡ Some (e, r)
Complete n (loose (suc h)) e s r =
    h < 2 → length s ≤ n → Stops (suc (suc (suc (suc (suc h))))) r →
    (k : ℕ) × ((length r ≤ k)
    × (level_at (parse_at n) n (suc (suc (suc (suc (suc (suc h)))))) s
    ≡ chain_rest (level_at (parse_at n) n (suc (suc (suc (suc (suc h)))))) (suc (suc (suc (suc (suc (suc h)))))) k e r))
Complete n whole e s r = length s < n → Stops 8 r → parse_at n 8 s ≡ Some (e, r)

tight_done : (n h : ℕ) (e : Tree) (s r : List Lexeme) → Complete n (tight h) e s r → h ≤ 3 → length s ≤ n → Stops h r → level_at (parse_at n) n h s ≡ Some (e, r)
tight_done n zero e s r c le len st = c len st
tight_done n (suc h) e s r c le len st =
    let found = c (omega arith) len (stops_below h (suc h) r (omega arith) st) in
    found.1.1 ∙ chain_rest_stops (level_at (parse_at n) n h) (suc h) found.0 e r st

loose_done : (n h : ℕ) (e : Tree) (s r : List Lexeme) → Complete n (loose h) e s r → h ≤ 2 → length s ≤ n → Stops (suc (suc (suc (suc (suc h))))) r →
    level_at (parse_at n) n (suc (suc (suc (suc (suc h))))) s ≡ Some (e, r)
loose_done n zero e s r c le len st = c len st
loose_done n (suc h) e s r c le len st =
    let found = c (omega arith) len (stops_below (suc (suc (suc (suc (suc h))))) (suc (suc (suc (suc (suc (suc h)))))) r (omega arith) st) in
    found.1.1 ∙ chain_rest_stops (level_at (parse_at n) n (suc (suc (suc (suc (suc h)))))) (suc (suc (suc (suc (suc (suc h)))))) found.0 e r st

-- one more subscript
sub_found : (p : Parsers) (n : ℕ) (o : Out Tree) (a : Tree) (es : Trees) (s r : List Lexeme) →
    list_at p n s ≡ Some (es, mark signs.CloseBracket ∷ r) → count_trees es ≤ 8 → length r < length s →
    (k : ℕ) → length (mark signs.OpenBracket ∷ s) ≤ k → o ≡ sub_rest p n k a (mark signs.OpenBracket ∷ s) →
    (k : ℕ) × ((length r ≤ k) × (o ≡ sub_rest p n k (op Strict.sub (tree a es)) r))
sub_found p n o a es s r is le less zero len eq = absurd (omega arith)
sub_found p n o a es s r is le less (suc k) len eq = (k, (omega arith, eq ∙ sub_more p n k a es s r is le))

-- one more operator
chain_found : (q : Parser) (h : ℕ) (o : Out Tree) (a b : Tree) (l : Lexeme) (j : Joiner) (s r : List Lexeme) →
    operator_of l ≡ Some (h, j) → q s ≡ Some (b, r) → length r < length s →
    (k : ℕ) → length (l ∷ s) ≤ k → o ≡ chain_rest q h k a (l ∷ s) →
    (k : ℕ) × ((length r ≤ k) × (o ≡ chain_rest q h k (joined_by j a b) r))
chain_found q h o a b l j s r is inner less zero len eq = absurd (omega arith)
chain_found q h o a b l j s r is inner less (suc k) len eq = (k, (omega arith, eq ∙ chain_more q h k a b l j s r is inner))

-- a bracket follows
abbrev pub StartsClose : List Lexeme → Type 0
StartsClose (mark signs.CloseBracket ∷ s) = Unit {0}
StartsClose _ = ⊥

maybe_ends : (p : Parsers) (k : ℕ) (s : List Lexeme) → StartsClose s → maybe_at p k s ≡ Some (no_tree, s)
maybe_ends p k [] c = absurd c
maybe_ends p k (mark signs.CloseBracket ∷ s) c = refl
maybe_ends p k (l ∷ s) c = absurd c

-- a brace follows, or a comma
abbrev pub StartsBrace : List Lexeme → Type 0
StartsBrace (mark signs.CloseBrace ∷ s) = Unit {0}
StartsBrace _ = ⊥

abbrev pub EndsQualifier : List Lexeme → Type 0
EndsQualifier (mark signs.CloseBrace ∷ s) = Unit {0}
EndsQualifier (mark signs.Comma ∷ s) = Unit {0}
EndsQualifier _ = ⊥

brace_stops : (s : List Lexeme) → StartsBrace s → Stops 9 s
brace_stops [] c = absurd c
brace_stops (mark signs.CloseBrace ∷ s) c = lit< tt
brace_stops (l ∷ s) c = absurd c

qualifier_stops : (s : List Lexeme) → EndsQualifier s → Stops 8 s
qualifier_stops [] c = absurd c
qualifier_stops (mark signs.CloseBrace ∷ s) c = lit< tt
qualifier_stops (mark signs.Comma ∷ s) c = lit< tt
qualifier_stops (l ∷ s) c = absurd c

brace_ends : (s : List Lexeme) → StartsBrace s → EndsQualifier s
brace_ends [] c = absurd c
brace_ends (mark signs.CloseBrace ∷ s) c = tt
brace_ends (l ∷ s) c = absurd c

more_ends : {qs : Quals} {s r : List Lexeme} → ReadsMoreQuals qs s r → StartsBrace r → EndsQualifier s
more_ends (more_none {r}) c = brace_ends r c
more_ends (more_quals d) c = tt

-- fronts of qualifiers

no_pattern : (n : ℕ) (s : List Lexeme) → StartsBracket s → pat_at n s ≡ None
unfolding pat_at
no_pattern zero s b = refl
no_pattern (suc n) [] b = absurd b
no_pattern (suc n) (mark signs.OpenBracket ∷ s) b = refl
no_pattern (suc n) (l ∷ s) b = absurd b

no_cells : (n : ℕ) (s : List Lexeme) → BracketsTwice s → cells_front n s ≡ None
unfolding after
no_cells n [] b = refl
no_cells n (mark signs.OpenBracket ∷ s) b = rw (no_pattern n s b) refl
no_cells n (l ∷ s) b = refl

front_from : (n : ℕ) (x : Pat) (s s' : List Lexeme) → pat_at n s ≡ Some (x, mark signs.Arrow ∷ s') → ◌≡◌ {A = Front × List Lexeme} (front_at n s) (from_set x, s')
unfolding front_at
front_from n x s s' is = rw is refl

front_same : (n : ℕ) (x : Pat) (s s' : List Lexeme) → pat_at n s ≡ Some (x, mark signs.DoubleEqual ∷ s') → ◌≡◌ {A = Front × List Lexeme} (front_at n s) (matches x, s')
unfolding front_at
front_same n x s s' is = rw is refl

front_cells : (n : ℕ) (x y : Pat) (s s' s'' : List Lexeme) → pat_at n s ≡ Some (x, mark signs.Colon ∷ s') →
    pat_at n s' ≡ Some (y, mark signs.CloseBracket ∷ mark signs.Arrow ∷ s'') →
    ◌≡◌ {A = Front × List Lexeme} (front_at n (mark signs.OpenBracket ∷ s)) (from_cells x y, s'')
unfolding front_at after
front_cells n x y s s' s'' is rest = rw (no_pattern n (mark signs.OpenBracket ∷ s) tt, is, rest) refl

-- a pattern before a lexeme that ends it, where an expression ends
clash : (e : Tree) (x : Pat) (s t u : List Lexeme) → ReadsPat x s u → Stops 8 u → (n : ℕ) → length s < n → parse_at n 8 s ≡ Some (e, t) → EndsQualifier t → EndsQualifier u
clash e x s t u d st zero lt eq ends = absurd (omega arith)
clash e x s t u d st (suc m) lt eq ends = at (whole_as m s u (pattern_begins d) st (primary_as d m (omega arith)))
  where
    at : EndsAt (parse_at (suc m) 8 s) u → EndsQualifier u
    at (inl none) = let bad : ◌≡◌ {A = Out Tree} None (Some (e, t)) = sym none ∙ eq in cc
    at (inr (e', some)) =
        let both_are : ◌≡◌ {A = Out Tree} (Some (e, t)) (Some (e', u)) = sym eq ∙ some in moved (λ (z : Tree) w. EndsQualifier w) e e' t u both_are ends

no_front : (n : ℕ) (s t : List Lexeme) (e : Tree) → parse_at n 8 s ≡ Some (e, t) → EndsQualifier t → length s < n → front_of (pat_at n s) ≡ None
no_front n s t e is ends len = go (pat_at n s) refl
  where
    behind : (x : Pat) (u : List Lexeme) → ReadsPat x s u → front_of (Some (x, u)) ≡ None
    behind x (mark signs.Arrow ∷ u) d = absurd (clash e x s t (mark signs.Arrow ∷ u) d (lit< tt) n len is ends)
    behind x (mark signs.DoubleEqual ∷ u) d = absurd (clash e x s t (mark signs.DoubleEqual ∷ u) d (lit< tt) n len is ends)
    behind x u d = refl

    go : (o : Out Pat) → pat_at n s ≡ o → front_of o ≡ None
    go None none = refl
    go (Some (x, u)) some = behind x u (pat_at_sound n s u x some)

front_tests : (n : ℕ) (s t : List Lexeme) (e : Tree) → parse_at n 8 s ≡ Some (e, t) → EndsQualifier t → length s < n → BracketsTwice s →
    ◌≡◌ {A = Front × List Lexeme} (front_at n s) (tests, s)
unfolding front_at
front_tests n s t e is ends len b = rw (no_front n s t e is ends len, no_cells n s b) refl

mutual
  unfolding primary_at braces_at postfix_at choice_at after

  pub complete : {l : Level} {e : Tree} {s r : List Lexeme} → Reads l e s r → (n : ℕ) → Complete n l e s r
  complete reads_number n = λ len. refl
  complete reads_text n = λ len. refl
  complete reads_true n = λ len. refl
  complete reads_false n = λ len. refl
  complete reads_name n = λ len. refl
  complete (reads_paren {e} {s} {r} d) n = λ len.
      paren_primary (parse_at n) n (tree e no_tree) s r
      (list_one (parse_at n) n e s (mark signs.Close ∷ r) (complete d n (omega arith) (lit< tt)) (lit< tt) (omega arith))
  complete (reads_tuple d ds) zero = λ len. absurd (omega arith)
  complete (reads_tuple {e} {es} {s} {s'} {r} d ds) (suc n) = λ len.
      paren_primary (parse_at (suc n)) (suc n) (tree e es) s r
      (list_cons (parse_at (suc n)) n e es s s' (mark signs.Close ∷ r) (complete d (suc n) (omega arith) (lit< tt))
      (list_complete ds (suc n) n (omega (arith, shrinks d)) (omega (arith, shrinks d)) (lit< tt)))
      ∙ ap (λ z. Some (z, r)) (enclosed_list e ds)
  complete reads_empty n = λ len. refl
  complete (reads_members {es} {s} {r} ds) n = λ len.
      members_primary (parse_at n) n es s r (list_starts ds) (list_complete ds n n (omega arith) (omega arith) (lit< tt))
  complete (reads_comp {e} {qs} {s} {s'} {r} d q) n = λ len.
      comp_primary (parse_at n) n e qs s s' r (starts_at d)
      (list_one (parse_at n) n e s (mark signs.Bar ∷ s') (complete d n (omega arith) (lit< tt)) (lit< tt) (omega arith))
      (quals_complete q n n (omega (arith, shrinks d)) (omega (arith, shrinks d)) tt)
  complete (reads_tab {e} {xs} {s} {s'} {r} d x le) n = λ len.
      tab_primary (parse_at n) n e xs s s' r
      (list_one (parse_at n) n e s (mark signs.Bar ∷ s') (complete d n (omega arith) (lit< tt)) (lit< tt) (omega arith))
      (axes_complete x n n (omega (arith, shrinks d)) (omega (arith, shrinks d)) (lit< tt)) le
  complete (reads_literal {ds} {cs} {s} {s'} {r} d le c) n = λ len.
      literal_primary (parse_at n) n ds cs s s' r (list_complete d n n (omega arith) (omega arith) (lit< tt)) le
      (maybe_complete c n n (omega (arith, list_shrinks d)) (omega (arith, list_shrinks d)) tt (lit< tt))
  complete (reads_let {ds} {e} {s} {s'} {r} d c) n = λ len.
      let_primary (parse_at n) n ds e s s' r (defs_complete d n n (omega arith) (omega arith) tt (lit< tt))
      (complete c n (omega (arith, defs_shrink d)) (lit< tt))
  complete (reads_primary {e} {s} {r} d) n = λ len. (n, (omega (arith, shrinks d), rw (complete d n len) refl))
  complete (reads_sub {a} {es} {s} {s'} {r} d ds le) n = λ len.
      let found = complete d n len in
      sub_found (parse_at n) n (postfix_at (parse_at n) n s) a es s' r
      (list_complete ds n n (omega (arith, shrinks d)) (omega (arith, shrinks d)) (lit< tt)) le (omega (arith, list_shrinks ds))
      found.0 found.1.0 found.1.1
  complete (reads_postfix {e} {s} {r} d) n = λ len st.
      let found = complete d n len in
      level_0 (parse_at n) n s ∙ application_postfix (parse_at n) n s (postfix_operand d (no_bang r st)) ∙ found.1.1 ∙ sub_rest_stops (parse_at n) n found.0 e r st
  complete (reads_apply d) zero = λ len st. absurd (omega arith)
  complete (reads_apply {f} {a} {s} {r} d) (suc n) = λ len st.
      level_0 (parse_at (suc n)) (suc n) (named f ∷ mark signs.Bang ∷ s)
      ∙ application_apply (parse_at (suc n)) (suc n) f a s r (parse_0 n s ∙ complete d n (omega arith) st)
  complete (reads_operation is d) zero = λ len st. absurd (omega arith)
  complete (reads_operation {l} {o} {a} {s} {r} is d) (suc n) = λ len st.
      level_0 (parse_at (suc n)) (suc n) (l ∷ mark signs.Bang ∷ s)
      ∙ application_operation (parse_at (suc n)) (suc n) l o a s r is (parse_0 n s ∙ complete d n (omega arith) st)
  complete (reads_function p d c) zero = λ len st. absurd (omega arith)
  complete (reads_function {p} {e} {a} {s} {s'} {s''} {r} x d c) (suc n) = λ len st.
      level_0 (parse_at (suc n)) (suc n) (mark signs.Open ∷ mark signs.Fn ∷ s)
      ∙ application_function (parse_at (suc n)) (suc n) s
      ∙ function_complete function (parse_at (suc n)) (suc n) p e a s s' s'' r (pat_then_complete signs.FatArrow x (suc n) (omega arith))
      (complete d (suc n) (omega (arith, pat_shrinks x)) (lit< tt))
      (parse_0 n s'' ∙ complete c n (omega (arith, pat_shrinks x, shrinks d)) st)
  complete (reads_summap p d c) zero = λ len st. absurd (omega arith)
  complete (reads_summap {p} {e} {a} {s} {s'} {s''} {r} x d c) (suc n) = λ len st.
      level_0 (parse_at (suc n)) (suc n) (mark signs.Summap ∷ mark signs.Open ∷ mark signs.Fn ∷ s)
      ∙ application_summap (parse_at (suc n)) (suc n) s
      ∙ function_complete summap (parse_at (suc n)) (suc n) p e a s s' s'' r (pat_then_complete signs.FatArrow x (suc n) (omega arith))
      (complete d (suc n) (omega (arith, pat_shrinks x)) (lit< tt))
      (parse_0 n s'' ∙ complete c n (omega (arith, pat_shrinks x, shrinks d)) st)
  complete (reads_tighter {h} {e} {s} {r} d) n = λ lt len st.
      (n, (omega (arith, shrinks d), level_tight (parse_at n) n h s lt ∙ rw (tight_done n h e s r (complete d n) (omega arith) len st) refl))
  complete (reads_binary {h} {a} {b} {l} {o} {s} {s'} {r} d is c) n = λ lt len st.
      let e = tight_table h l o is in
      let found = complete d n lt len (omega (arith, level_goes_on l (suc h) (builds o) e)) in
      chain_found (level_at (parse_at n) n h) (suc h) (level_at (parse_at n) n (suc h) s) a b l (builds o) s' r e
      (tight_done n h b s' r (complete c n) (omega arith) (omega (arith, shrinks d)) st) (shrinks c) found.0 found.1.0 found.1.1
  complete (reads_union {e} {s} {r} d) n = λ len st.
      level_4 (parse_at n) n s
      ∙ rw (tight_done n 3 e s r (complete d n) (lit≤ tt) len (stops_below 3 4 r (lit≤ tt) st)) (chain_rest_stops (level_at (parse_at n) n 3) 4 1 e r st)
  complete (reads_compare {a} {b} {l} {o} {s} {s'} {r} d is c) n = λ len st.
      let e = compare_table l o is in
      level_4 (parse_at n) n s
      ∙ rw (tight_done n 3 a s (l ∷ s') (complete d n) (lit≤ tt) len (omega (arith, level_goes_on l 4 (builds (Strict.compare o)) e)))
      (chain_more (level_at (parse_at n) n 3) 4 0 a b l (builds (Strict.compare o)) s' r e
      (tight_done n 3 b s' r (complete c n) (lit≤ tt) (omega (arith, shrinks d)) (stops_below 3 4 r (lit≤ tt) st))
      ∙ chain_rest_stops (level_at (parse_at n) n 3) 4 0 (of_two (Strict.compare o) a b) r st)
  complete (reads_comparison {e} {s} {r} d) n = λ len st.
      level_5 (parse_at n) n s ∙ negation_skipped (parse_at n) (level_at (parse_at n) n 4) s (no_not s (starts_at d))
      ∙ complete d n len (stops_below 4 5 r (lit≤ tt) st)
  complete (reads_not d) zero = λ len st. absurd (omega arith)
  complete (reads_not {e} {s} {r} d) (suc n) = λ len st.
      level_5 (parse_at (suc n)) (suc n) (mark signs.Not ∷ s) ∙ rw (parse_5 n s ∙ complete d n (omega arith) st) refl
  complete (reads_looser {h} {e} {s} {r} d) n = λ lt len st.
      (n, (omega (arith, shrinks d), level_loose (parse_at n) n h s lt ∙ rw (loose_done n h e s r (complete d n) (omega arith) len st) refl))
  complete (reads_junction {h} {a} {b} {l} {j} {s} {s'} {r} d is c) n = λ lt len st.
      let e = loose_table h l j is in
      let found = complete d n lt len (omega (arith, level_goes_on l (suc (suc (suc (suc (suc (suc h)))))) (joins j) e)) in
      chain_found (level_at (parse_at n) n (suc (suc (suc (suc (suc h)))))) (suc (suc (suc (suc (suc (suc h))))))
      (level_at (parse_at n) n (suc (suc (suc (suc (suc (suc h)))))) s) a b l (joins j) s' r e
      (loose_done n h b s' r (complete c n) (omega arith) (omega (arith, shrinks d)) st) (shrinks c) found.0 found.1.0 found.1.1
  complete (reads_or d) zero = λ len st. absurd (omega arith)
  complete (reads_or {e} {s} {r} d) (suc n) = λ len st.
      parse_8 n s ∙ choice_skipped (parse_at n) n s (no_if s (starts_at d))
      ∙ rw (loose_done n 2 e s r (complete d n) (lit≤ tt) (omega arith) (stops_below 7 8 r (lit≤ tt) st)) (default_rest_stops (parse_at n) e r st)
  complete (reads_default d c) zero = λ len st. absurd (omega arith)
  complete (reads_default {a} {b} {s} {s'} {r} d c) (suc n) = λ len st.
      parse_8 n s ∙ choice_skipped (parse_at n) n s (no_if s (starts_at d))
      ∙ rw (loose_done n 2 a s (mark signs.Default ∷ s') (complete d n) (lit≤ tt) (omega arith) (lit< tt))
      (rw (complete c n (omega (arith, shrinks d)) st) refl)
  complete (reads_if c a b) zero = λ len st. absurd (omega arith)
  complete (reads_if {s = s} c a b) (suc n) = λ len st.
      parse_8 n (mark signs.If ∷ s)
      ∙ rw (complete c n (omega arith) (lit< tt))
      (rw (complete a n (omega (arith, shrinks c)) (lit< tt))
      (rw (complete b n (omega (arith, shrinks c, shrinks a)) st) refl))

  pub list_complete : {es : Trees} {s r : List Lexeme} → ReadsList es s r → (n k : ℕ) → length s ≤ k → length s < n → Stops 9 r →
      list_at (parse_at n) k s ≡ Some (es, r)
  list_complete (list_last {e} {s} {r} d) n k le lt st =
      list_one (parse_at n) k e s r (complete d n lt (stops_below 8 9 r (lit≤ tt) st)) st (omega (arith, shrinks d))
  list_complete (list_more d ds) n zero le lt st = absurd (omega (arith, shrinks d))
  list_complete (list_more {e} {es} {s} {s'} {r} d ds) n (suc k) le lt st =
      list_cons (parse_at n) k e es s s' r (complete d n lt (lit< tt))
      (list_complete ds n k (omega (arith, shrinks d)) (omega (arith, shrinks d)) st)

  maybe_complete : {es : Trees} {s r : List Lexeme} → ReadsMaybe es s r → (n k : ℕ) → length s ≤ k → length s < n → StartsClose r → Stops 9 r →
      maybe_at (parse_at n) k s ≡ Some (es, r)
  maybe_complete (maybe_none {r}) n k le lt c st = maybe_ends (parse_at n) k r c
  maybe_complete (maybe_list {es} {s} {r} ds) n k le lt c st = maybe_skipped (parse_at n) k s (list_starts ds) ∙ list_complete ds n k le lt st

  axes_complete : {xs : Axes} {s r : List Lexeme} → ReadsAxes xs s r → (n k : ℕ) → length s ≤ k → length s < n → Stops 9 r →
      axes_at (parse_at n) k s ≡ Some (xs, r)
  axes_complete (axes_last {x} {e} {s} {r} d) n k le lt st =
      axes_one (parse_at n) k x e s r (complete d n (omega arith) (stops_below 8 9 r (lit≤ tt) st)) st (omega (arith, shrinks d))
  axes_complete (axes_more d xs) n zero le lt st = absurd (omega (arith, shrinks d))
  axes_complete (axes_more {x} {e} {xs} {s} {s'} {r} d y) n (suc k) le lt st =
      axes_cons (parse_at n) k x e xs s s' r (complete d n (omega arith) (lit< tt))
      (axes_complete y n k (omega (arith, shrinks d)) (omega (arith, shrinks d)) st)

  defs_complete : {ds : Defs} {s r : List Lexeme} → ReadsDefs ds s r → (n k : ℕ) → length s ≤ k → length s ≤ n → NoVal r → Stops 8 r →
      defs_at (parse_at n) n k s ≡ Some (ds, r)
  defs_complete (defs_last {p} {e} {s} {s'} {r} x d) n k le lt nv st =
      defs_one (parse_at n) n k p e (mark signs.Val ∷ s) s' r (def_complete n x (omega arith)) (complete d n (omega (arith, pat_shrinks x)) st) nv (omega arith)
  defs_complete (defs_more x d ds) n zero le lt nv st = absurd (omega arith)
  defs_complete (defs_more {p} {e} {ds} {s} {s'} {s''} {r} x d y) n (suc k) le lt nv st =
      defs_cons (parse_at n) n k p e ds (mark signs.Val ∷ s) s' s'' r (def_complete n x (omega arith))
      (complete d n (omega (arith, pat_shrinks x)) (val_stops s'' (defs_start y))) (defs_start y)
      (defs_complete y n k (omega (arith, pat_shrinks x, shrinks d)) (omega (arith, pat_shrinks x, shrinks d)) nv st)

  quals_complete : {qs : Quals} {s r : List Lexeme} → ReadsQuals qs s r → (n k : ℕ) → length s ≤ k → length s < n → StartsBrace r →
      quals_at (parse_at n) n k s ≡ Some (qs, r)
  quals_complete (quals_from x d m) n zero le lt c = absurd (omega (arith, pat_shrinks x))
  quals_complete (quals_from {p} {e} {qs} {s} {s'} {s''} {r} x d m) n (suc k) le lt c =
      quals_step (parse_at n) n k (from_set p) e s s' s'' (front_from n p s s' (pat_complete x n (omega arith)))
      (complete d n (omega (arith, pat_shrinks x)) (qualifier_stops s'' (more_ends m c)))
      ∙ more_complete m n k (omega (arith, pat_shrinks x, shrinks d)) (omega (arith, pat_shrinks x, shrinks d)) c (from_set p) e
  quals_complete (quals_cells x y d m) n zero le lt c = absurd (omega arith)
  quals_complete (quals_cells {p} {q} {e} {qs} {s} {s'} {s''} {s'''} {r} x y d m) n (suc k) le lt c =
      quals_step (parse_at n) n k (from_cells p q) e (mark signs.OpenBracket ∷ s) s'' s'''
      (front_cells n p q s s' s'' (pat_complete x n (omega arith)) (pat_complete y n (omega (arith, pat_shrinks x))))
      (complete d n (omega (arith, pat_shrinks x, pat_shrinks y)) (qualifier_stops s''' (more_ends m c)))
      ∙ more_complete m n k (omega (arith, pat_shrinks x, pat_shrinks y, shrinks d)) (omega (arith, pat_shrinks x, pat_shrinks y, shrinks d)) c (from_cells p q) e
  quals_complete (quals_same x d m) n zero le lt c = absurd (omega (arith, pat_shrinks x))
  quals_complete (quals_same {p} {e} {qs} {s} {s'} {s''} {r} x d m) n (suc k) le lt c =
      quals_step (parse_at n) n k (matches p) e s s' s'' (front_same n p s s' (pat_complete x n (omega arith)))
      (complete d n (omega (arith, pat_shrinks x)) (qualifier_stops s'' (more_ends m c)))
      ∙ more_complete m n k (omega (arith, pat_shrinks x, shrinks d)) (omega (arith, pat_shrinks x, shrinks d)) c (matches p) e
  quals_complete (quals_test d m) n zero le lt c = absurd (omega (arith, shrinks d))
  quals_complete (quals_test {e} {qs} {s} {s'} {r} d m) n (suc k) le lt c =
      let is : parse_at n 8 s ≡ Some (e, s') = complete d n lt (qualifier_stops s' (more_ends m c)) in
      quals_step (parse_at n) n k tests e s s s' (front_tests n s s' e is (more_ends m c) lt (brackets_twice d)) is
      ∙ more_complete m n k (omega (arith, shrinks d)) (omega (arith, shrinks d)) c tests e

  more_complete : {qs : Quals} {s r : List Lexeme} → ReadsMoreQuals qs s r → (n k : ℕ) → length s ≤ k → length s < n → StartsBrace r →
      (f : Front) (e : Tree) → quals_rest (quals_at (parse_at n) n k) f e s ≡ Some (add_qualifier f e qs, r)
  more_complete (more_none {r}) n k le lt c f e = quals_rest_stops (quals_at (parse_at n) n k) f e r (brace_stops r c)
  more_complete (more_quals d) n k le lt c f e = rw (quals_complete d n k (omega arith) (omega arith) c) refl
