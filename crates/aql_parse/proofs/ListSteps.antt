-- The lists of a reading, an element at a time.
use Rattle.std.proofs.Common.{ℕ, zero, suc, ◌≡◌, ◌<◌, ◌-◌, List, Option, Some, None, refl, ap, sym, ◌∙◌, arith, sub-one}
use Rattle.aql_syntax.specs.declared.sign.Sign.TheVariants as signs
use Rattle.aql_syntax.specs.Lexis.{Lexeme}
use Rattle.aql_syntax.specs.Tree.{Name, Pat, Tree, Trees, no_tree, tree, Axes, no_axis, axis, Quals, no_qual, Defs, no_def, def, append, append_axes, append_quals, append_defs}
use Rattle.aql_syntax.specs.Laws.View.{trees_last, axes_last, quals_last, defs_last, append-assoc, append_axes-assoc, append_quals-assoc, append_defs-assoc}
use Rattle.aql_value.specs.Partial.{◌>>=◌}
use Rattle.aql_parse_spec.specs.Parsing.{Out, Parser, Parsers, after, Front, from_set, from_cells, matches, tests, add_qualifier, list_at, list_rest, binder_at, axes_at, axes_rest, front_at, quals_at, quals_rest, def_at, defs_at, defs_rest}
use Rattle.aql_parse.specs.Cycle.{when, more_trees, more_axes, more_quals, more_defs, with_trees, with_axes, with_quals, with_defs}
use Rattle.aql_parse.specs.Constructs.{members_at, member_at, indices_at, index_at, qualifiers_at, qualifier_at, definitions_at, definition_at}
use Rattle.aql_parse.proofs.Branches.{trees_same, axes_same, quals_same, defs_same}

pub members_none : (p : Parsers) (closed : Trees → Parser) (front : Trees) (n : ℕ) (s : List Lexeme) → n ≡ 0 → members_at p closed front n s ≡ None
unfolding members_at list_at
members_none p closed front zero s e = refl
members_none p closed front (suc n) s e = cc

pub members_more : (p : Parsers) (closed : Trees → Parser) (front : Trees) (n : ℕ) (s : List Lexeme) → 0 < n →
    members_at p closed front n s ≡ (p 8 s >>= λ x. member_at p closed front (n - 1) x.0 x.1)
unfolding members_at member_at list_at
members_more p closed front zero s l = absurd (omega arith)
members_more p closed front (suc n) s l =
    rw sub-one (go (p 8 s))
  where
    go : (o : Out Tree) →
        (with_trees front (o >>= λ x. list_rest (list_at p n) x.0 x.1) >>= λ y. closed y.0 y.1)
        ≡ (o >>= λ x. with_trees front (more_trees (list_at p n) x.0 x.1) >>= λ y. closed y.0 y.1)
    go None = refl
    go (Some x) = ap (λ (o : Out Trees). with_trees front o >>= λ y. closed y.0 y.1) (trees_same (list_at p n) x.0 x.1)

pub member_next : (p : Parsers) (closed : Trees → Parser) (front : Trees) (n : ℕ) (e : Tree) (s : List Lexeme) →
    member_at p closed front n e s ≡ when (after signs.Comma s) (members_at p closed (append front (tree e no_tree)) n) (closed (append front (tree e no_tree)) s)
unfolding members_at member_at more_trees
member_next p closed front n e s = go (after signs.Comma s)
  where
    more : (o : Out Trees) →
        (with_trees front (o >>= λ x. Some (tree e x.0, x.1)) >>= λ y. closed y.0 y.1) ≡ (with_trees (append front (tree e no_tree)) o >>= λ y. closed y.0 y.1)
    more None = refl
    more (Some x) = ap (λ (t : Trees). closed t x.1) (sym (append-assoc front (tree e no_tree) x.0))

    go : (o : Option (List Lexeme)) →
        (with_trees front (when o (λ r. list_at p n r >>= λ x. Some (tree e x.0, x.1)) (Some (tree e no_tree, s))) >>= λ y. closed y.0 y.1)
        ≡ when o (λ r. with_trees (append front (tree e no_tree)) (list_at p n r) >>= λ y. closed y.0 y.1) (closed (append front (tree e no_tree)) s)
    go None = refl
    go (Some r) = more (list_at p n r)

pub indices_none : (p : Parsers) (closed : Axes → Parser) (front : Axes) (n : ℕ) (s : List Lexeme) → n ≡ 0 → indices_at p closed front n s ≡ None
unfolding indices_at axes_at
indices_none p closed front zero s e = refl
indices_none p closed front (suc n) s e = cc

pub indices_more : (p : Parsers) (closed : Axes → Parser) (front : Axes) (n : ℕ) (s : List Lexeme) → 0 < n →
    indices_at p closed front n s ≡ (binder_at signs.Less s >>= λ x. p 8 x.1 >>= λ e. index_at p closed front (n - 1) x.0 e.0 e.1)
unfolding indices_at index_at axes_at
indices_more p closed front zero s l = absurd (omega arith)
indices_more p closed front (suc n) s l = rw sub-one (go (binder_at signs.Less s))
  where
    bound : (x : Name) (o : Out Tree) →
        (with_axes front (o >>= λ e. axes_rest (axes_at p n) x e.0 e.1) >>= λ y. closed y.0 y.1)
        ≡ (o >>= λ e. with_axes front (more_axes (axes_at p n) x e.0 e.1) >>= λ y. closed y.0 y.1)
    bound x None = refl
    bound x (Some e) = ap (λ (o : Out Axes). with_axes front o >>= λ y. closed y.0 y.1) (axes_same (axes_at p n) x e.0 e.1)

    go : (o : Out Name) →
        (with_axes front (o >>= λ x. p 8 x.1 >>= λ e. axes_rest (axes_at p n) x.0 e.0 e.1) >>= λ y. closed y.0 y.1)
        ≡ (o >>= λ x. p 8 x.1 >>= λ e. with_axes front (more_axes (axes_at p n) x.0 e.0 e.1) >>= λ y. closed y.0 y.1)
    go None = refl
    go (Some x) = bound x.0 (p 8 x.1)

pub index_next : (p : Parsers) (closed : Axes → Parser) (front : Axes) (n : ℕ) (x : Name) (e : Tree) (s : List Lexeme) →
    index_at p closed front n x e s
    ≡ when (after signs.Comma s) (indices_at p closed (append_axes front (axis x e no_axis)) n) (closed (append_axes front (axis x e no_axis)) s)
unfolding indices_at index_at more_axes
index_next p closed front n x e s = go (after signs.Comma s)
  where
    more : (o : Out Axes) →
        (with_axes front (o >>= λ y. Some (axis x e y.0, y.1)) >>= λ y. closed y.0 y.1)
        ≡ (with_axes (append_axes front (axis x e no_axis)) o >>= λ y. closed y.0 y.1)
    more None = refl
    more (Some y) = ap (λ (t : Axes). closed t y.1) (sym (append_axes-assoc front (axis x e no_axis) y.0))

    go : (o : Option (List Lexeme)) →
        (with_axes front (when o (λ r. axes_at p n r >>= λ y. Some (axis x e y.0, y.1)) (Some (axis x e no_axis, s))) >>= λ y. closed y.0 y.1)
        ≡ when o (λ r. with_axes (append_axes front (axis x e no_axis)) (axes_at p n r) >>= λ y. closed y.0 y.1) (closed (append_axes front (axis x e no_axis)) s)
    go None = refl
    go (Some r) = more (axes_at p n r)

pub qualifiers_none : (p : Parsers) (k : ℕ) (closed : Quals → Parser) (front : Quals) (n : ℕ) (s : List Lexeme) → n ≡ 0 → qualifiers_at p k closed front n s ≡ None
unfolding qualifiers_at quals_at
qualifiers_none p k closed front zero s e = refl
qualifiers_none p k closed front (suc n) s e = cc

pub qualifiers_more : (p : Parsers) (k : ℕ) (closed : Quals → Parser) (front : Quals) (n : ℕ) (s : List Lexeme) → 0 < n →
    qualifiers_at p k closed front n s ≡ (p 8 (front_at k s).1 >>= λ e. qualifier_at p k closed front (n - 1) (front_at k s).0 e.0 e.1)
unfolding qualifiers_at qualifier_at quals_at
qualifiers_more p k closed front zero s l = absurd (omega arith)
qualifiers_more p k closed front (suc n) s l = rw sub-one (go (front_at k s).0 (p 8 (front_at k s).1))
  where
    go : (f : Front) (o : Out Tree) →
        (with_quals front (o >>= λ e. quals_rest (quals_at p k n) f e.0 e.1) >>= λ y. closed y.0 y.1)
        ≡ (o >>= λ e. with_quals front (more_quals (quals_at p k n) f e.0 e.1) >>= λ y. closed y.0 y.1)
    go f None = refl
    go f (Some e) = ap (λ (o : Out Quals). with_quals front o >>= λ y. closed y.0 y.1) (quals_same (quals_at p k n) f e.0 e.1)

one_before : (f : Front) (e : Tree) (qs : Quals) → append_quals (add_qualifier f e no_qual) qs ≡ add_qualifier f e qs
one_before (from_set p) e qs = refl
one_before (from_cells p q) e qs = refl
one_before (matches p) e qs = refl
one_before tests e qs = refl

pub qualifier_next : (p : Parsers) (k : ℕ) (closed : Quals → Parser) (front : Quals) (n : ℕ) (f : Front) (e : Tree) (s : List Lexeme) →
    qualifier_at p k closed front n f e s
    ≡ when (after signs.Comma s) (qualifiers_at p k closed (append_quals front (add_qualifier f e no_qual)) n) (closed (append_quals front (add_qualifier f e no_qual)) s)
unfolding qualifiers_at qualifier_at more_quals
qualifier_next p k closed front n f e s = go (after signs.Comma s)
  where
    more : (o : Out Quals) →
        (with_quals front (o >>= λ y. Some (add_qualifier f e y.0, y.1)) >>= λ y. closed y.0 y.1)
        ≡ (with_quals (append_quals front (add_qualifier f e no_qual)) o >>= λ y. closed y.0 y.1)
    more None = refl
    more (Some y) = ap (λ (t : Quals). closed t y.1) (ap (append_quals front) (sym (one_before f e y.0)) ∙ sym (append_quals-assoc front (add_qualifier f e no_qual) y.0))

    go : (o : Option (List Lexeme)) →
        (with_quals front (when o (λ r. quals_at p k n r >>= λ y. Some (add_qualifier f e y.0, y.1)) (Some (add_qualifier f e no_qual, s))) >>= λ y. closed y.0 y.1)
        ≡ when o (λ r. with_quals (append_quals front (add_qualifier f e no_qual)) (quals_at p k n r) >>= λ y. closed y.0 y.1)
        (closed (append_quals front (add_qualifier f e no_qual)) s)
    go None = refl
    go (Some r) = more (quals_at p k n r)

pub definitions_none : (p : Parsers) (k : ℕ) (closed : Defs → Parser) (front : Defs) (n : ℕ) (s : List Lexeme) → n ≡ 0 → definitions_at p k closed front n s ≡ None
unfolding definitions_at defs_at
definitions_none p k closed front zero s e = refl
definitions_none p k closed front (suc n) s e = cc

pub definitions_more : (p : Parsers) (k : ℕ) (closed : Defs → Parser) (front : Defs) (n : ℕ) (s : List Lexeme) → 0 < n →
    definitions_at p k closed front n s ≡ (def_at k s >>= λ x. p 8 x.1 >>= λ e. definition_at p k closed front (n - 1) x.0 e.0 e.1)
unfolding definitions_at definition_at defs_at
definitions_more p k closed front zero s l = absurd (omega arith)
definitions_more p k closed front (suc n) s l = rw sub-one (go (def_at k s))
  where
    bound : (x : Pat) (o : Out Tree) →
        (with_defs front (o >>= λ e. defs_rest (defs_at p k n) x e.0 e.1) >>= λ y. closed y.0 y.1)
        ≡ (o >>= λ e. with_defs front (more_defs (defs_at p k n) x e.0 e.1) >>= λ y. closed y.0 y.1)
    bound x None = refl
    bound x (Some e) = ap (λ (o : Out Defs). with_defs front o >>= λ y. closed y.0 y.1) (defs_same (defs_at p k n) x e.0 e.1)

    go : (o : Out Pat) →
        (with_defs front (o >>= λ x. p 8 x.1 >>= λ e. defs_rest (defs_at p k n) x.0 e.0 e.1) >>= λ y. closed y.0 y.1)
        ≡ (o >>= λ x. p 8 x.1 >>= λ e. with_defs front (more_defs (defs_at p k n) x.0 e.0 e.1) >>= λ y. closed y.0 y.1)
    go None = refl
    go (Some x) = bound x.0 (p 8 x.1)

pub definition_next : (p : Parsers) (k : ℕ) (closed : Defs → Parser) (front : Defs) (n : ℕ) (x : Pat) (e : Tree) (s : List Lexeme) →
    definition_at p k closed front n x e s
    ≡ when (after signs.Val s) (λ r. definitions_at p k closed (append_defs front (def x e no_def)) n s) (closed (append_defs front (def x e no_def)) s)
unfolding definitions_at definition_at more_defs
definition_next p k closed front n x e s = go (after signs.Val s)
  where
    more : (o : Out Defs) →
        (with_defs front (o >>= λ y. Some (def x e y.0, y.1)) >>= λ y. closed y.0 y.1)
        ≡ (with_defs (append_defs front (def x e no_def)) o >>= λ y. closed y.0 y.1)
    more None = refl
    more (Some y) = ap (λ (t : Defs). closed t y.1) (sym (append_defs-assoc front (def x e no_def) y.0))

    go : (o : Option (List Lexeme)) →
        (with_defs front (when o (λ r. defs_at p k n s >>= λ y. Some (def x e y.0, y.1)) (Some (def x e no_def, s))) >>= λ y. closed y.0 y.1)
        ≡ when o (λ r. with_defs (append_defs front (def x e no_def)) (defs_at p k n s) >>= λ y. closed y.0 y.1) (closed (append_defs front (def x e no_def)) s)
    go None = refl
    go (Some r) = more (defs_at p k n s)

pub ruleset members_steps = (members_none, members_more)

pub ruleset member_steps = (member_next, trees_last)

pub ruleset indices_steps = (indices_none, indices_more)

pub ruleset index_steps = (index_next, axes_last)

pub ruleset qualifiers_steps = (qualifiers_none, qualifiers_more)

pub ruleset qualifier_steps = (qualifier_next, quals_last)

pub ruleset definitions_steps = (definitions_none, definitions_more)

pub ruleset definition_steps = (definition_next, defs_last)
