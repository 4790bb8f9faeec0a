-- The start term of a typed query weighs at most 64 times the expanded size.
use Rattle.std.proofs.Common.{◌≡◌, ◌≤◌, ℕ, zero, suc, ◌+◌, ◌*◌, true, false, List, [], ◌∷◌, length, Option, Some, None, if◌then◌else◌, refl, arith}
use Rattle.aql_value.specs.Partial.{total}
use Rattle.aql_value.specs.Strict.{Strict}
use Rattle.aql_ty.specs.Types.{Ty, Sort, value, macro}
use Rattle.aql_ty.specs.OperationTypes.{strict_rule}
use Rattle.aql_syntax.specs.Tree as tree
use Rattle.aql_syntax.specs.Tree.{Name, Constant, Pat, bind, any, equals, refers, tuple, Pats, no_pat, pat, Tree, name, op, members, comp, tab, bindings, choice, conjunction, disjunction, negation, default, apply, function, summap, Trees, no_tree, Axes, no_axis, axis, Quals, no_qual, from, cells, same, test, Defs, no_def, def, Declaration, val, mac, read, bare, it, declared_name, count_pats, count_axes, axes}
use Rattle.aql_syntax.specs.Names.{names_equal, find}
use Rattle.aql_syntax.specs.Size.{Extents, Extent, extent_of, pat_nodes, pats_nodes, count_quals, count_defs, quals_patterns, defs_patterns, size, sizes, axes_sizes, quals_sizes, defs_sizes, extent, extents_of}
use Rattle.aql_syntax.specs.Typing.{Environment, Locals, Has, HasAll, HasEach, BoundsHave, Rows, Binds, DeclHas, environment_of}
use Rattle.aql_syntax.specs.Laws.Sound.{generator-rank}
use Rattle.nrca_term.specs.Term.{Term, Parts, none, part, plain, Form, form_weight, weight_of, parts_weight}
use Rattle.nrca_term.specs.Nodes.{bottom_term, empty_term, let_term, tab_term}
use Rattle.aql_desugar_spec.specs.Start as start_term
use Rattle.aql_desugar_spec.specs.Start.{Resolved, numbered, inlined, Resolutions, index_of, name_term, position_term, macro_term, call_term, constant_term, bind_pattern, count_binders, match_term, parts_term, matching, balanced_union, dimension, loops_term, under, bound_axes, grown_axes, axes_term, index_terms, cell_term, cell_binders, under_axes, start, starts, bound_terms, quals_term, defs_term, unnamed_binders, inline, knowns_of}
use Rattle.aql_desugar_spec.specs.Laws.Meaning.{length-bound_terms}
use Rattle.aql_desugar_spec.specs.Laws.Unions.{weight-united}
use Rattle.aql_desugar_spec.specs.Laws.{EachHas, StartWeighs}

weight-position : (k : Option Resolved) → weight_of (position_term k) ≡ 1
weight-position None = refl
weight-position (Some (numbered n)) = refl
weight-position (Some (inlined t)) = refl

weight-name_term : (i : Option ℕ) (k : Option Resolved) → weight_of (name_term i k) ≡ 1
weight-name_term (Some i) k = refl
weight-name_term None k = weight-position k

weight-constant : (c : Constant) → weight_of (constant_term c) ≡ 1
weight-constant (tree.number n) = refl
weight-constant (tree.truth b) = refl
weight-constant (tree.bytes s) = refl

weight-plain : (ts : List Term) → parts_weight (plain ts none) ≡ total weight_of ts
weight-plain [] = refl
weight-plain (t ∷ ts) = omega (arith, weight-plain ts)

-- the terms of the macros weigh as their sizes allow
abbrev pub Weigh : Resolutions → Extents → Type 0
Weigh known ms = (f : Name) (n : ℕ) → weight_of (macro_term (find f known) n) ≤ 64 * ((extent_of (find f ms)).pattern + (extent_of (find f ms)).size) + 1

weight-call : (i : Option ℕ) (k : Option Resolved) (n m : ℕ) → weight_of (macro_term k n) ≤ 64 * m + 1 → weight_of (call_term i k n) ≤ 64 * m + 1
weight-call (Some i) k n m h = omega arith
weight-call None k n m h = h

mutual
  pub weight-match_term : (p : Pat) (known : Resolutions) (s : start_term.Binders) (at : ℕ) (inside other : Term) → weight_of other ≡ 1 →
      weight_of (match_term p known s at inside other) + 3 ≤ 8 * pat_nodes p + weight_of inside
  weight-match_term (bind x) known s at inside other h = omega arith
  weight-match_term any known s at inside other h = omega arith
  weight-match_term (equals c) known s at inside other h = omega (arith, weight-constant c)
  weight-match_term (refers x) known s at inside other h = omega (arith, weight-name_term (index_of x s) (find x known))
  weight-match_term (tuple ps) known s at inside other h = omega (arith, weight-parts_term ps known s at 1 (count_pats ps) inside other h)

  pub weight-parts_term : (ps : Pats) (known : Resolutions) (s : start_term.Binders) (at j c : ℕ) (inside other : Term) → weight_of other ≡ 1 →
      weight_of (parts_term ps known s at j c inside other) ≤ 8 * pats_nodes ps + weight_of inside
  weight-parts_term no_pat known s at j c inside other h = omega arith
  weight-parts_term (pat p ps) known s at j c inside other h =
      let a = weight-match_term p known (None ∷ s) 0 (parts_term ps known (bind_pattern p (None ∷ s)) (at + (count_binders p + 1)) (suc j) c inside other) other h in
      let b = weight-parts_term ps known (bind_pattern p (None ∷ s)) (at + (count_binders p + 1)) (suc j) c inside other h in
      omega arith

weight-dimension : (rank j at : ℕ) → rank ≤ 8 → weight_of (dimension rank j at) ≤ 20
weight-dimension zero j at h = omega arith
weight-dimension (suc zero) j at h = omega arith
weight-dimension (suc (suc r)) j at h = omega arith

weight-loops_term : (m j rank : ℕ) (inside : Term) → rank ≤ 8 → weight_of (loops_term m j rank inside) ≤ 22 * m + weight_of inside
weight-loops_term zero j rank inside h = omega arith
weight-loops_term (suc m) j rank inside h = omega (arith, weight-dimension rank (suc j) j h, weight-loops_term m (suc j) rank inside h)

weight-axes_term : (ps : Pats) (known : Resolutions) (s : start_term.Binders) (added : ℕ) (inside other : Term) → weight_of other ≡ 1 →
    weight_of (axes_term ps known s added inside other) ≤ 8 * pats_nodes ps + weight_of inside
weight-axes_term no_pat known s added inside other h = omega arith
weight-axes_term (pat p ps) known s added inside other h =
    omega (arith, weight-match_term p known s (added + count_pats ps) (axes_term ps known (bind_pattern p s) (added + count_binders p) inside other) other h, weight-axes_term ps known (bind_pattern p s) (added + count_binders p) inside other h)

weight-index_terms : (m added : ℕ) → parts_weight (plain (index_terms m added) none) ≡ m
weight-index_terms zero added = refl
weight-index_terms (suc m) added = omega (arith, weight-index_terms m added)

weight-tab_parts : (ts : List Term) (ps : Parts) → parts_weight (plain ts ps) ≡ total weight_of ts + parts_weight ps
weight-tab_parts [] ps = omega arith
weight-tab_parts (t ∷ ts) ps = omega (arith, weight-tab_parts ts ps)

weight-tab : (ts : List Term) (b : Term) → weight_of (tab_term ts b) ≡ 6 * length ts + 6 + total weight_of ts + weight_of b
weight-tab ts b = omega (arith, weight-tab_parts ts (part (length ts) b none))

-- a pattern has a node
pub some-nodes : (p : Pat) → 1 ≤ pat_nodes p
some-nodes (bind x) = omega arith
some-nodes any = omega arith
some-nodes (equals c) = omega arith
some-nodes (refers x) = omega arith
some-nodes (tuple ps) = omega arith

count-nodes : (ps : Pats) → count_pats ps ≤ pats_nodes ps
count-nodes no_pat = omega arith
count-nodes (pat p ps) = omega (arith, some-nodes p, count-nodes ps)

nodes-axes : (p : Pat) → pats_nodes (axes p) ≤ pat_nodes p
nodes-axes (bind x) = omega arith
nodes-axes any = omega arith
nodes-axes (equals c) = omega arith
nodes-axes (refers x) = omega arith
nodes-axes (tuple ps) = omega arith

some-united : (ts : List Term) → weight_of (balanced_union (length ts) ts) ≤ total weight_of ts + 2 * length ts + 1
some-united [] = omega arith
some-united (t ∷ ts) = omega (arith, weight-united (suc (length ts)) (t ∷ ts) (omega arith) (omega arith))

-- The ranks of generators, dimensions and tabulations are at most 8, as each typing asks.
abbrev mutual
  pub Ranked : Tree → Type 0
  Ranked (name x) = Unit {0}
  Ranked (op o es) = (form_weight (Form.strict o) ≤ 18) × AllRanked es
  Ranked (members es) = AllRanked es
  Ranked (comp head quals) = Ranked head × QualsRanked quals
  Ranked (tab xs body) = AxesRanked xs × Ranked body
  Ranked (bindings ds body) = DefsRanked ds × Ranked body
  Ranked (choice c a b) = Ranked c × Ranked a × Ranked b
  Ranked (conjunction a b) = Ranked a × Ranked b
  Ranked (disjunction a b) = Ranked a × Ranked b
  Ranked (negation a) = Ranked a
  Ranked (default a b) = Ranked a × Ranked b
  Ranked (apply f a) = Ranked a
  Ranked (function p body a) = Ranked body × Ranked a
  Ranked (summap p body e) = Ranked body × Ranked e

  pub AllRanked : Trees → Type 0
  AllRanked no_tree = Unit {0}
  AllRanked (tree.tree e es) = Ranked e × AllRanked es

  pub AxesRanked : Axes → Type 0
  AxesRanked no_axis = Unit {0}
  AxesRanked (axis x e rest) = Ranked e × AxesRanked rest

  pub QualsRanked : Quals → Type 0
  QualsRanked no_qual = Unit {0}
  QualsRanked (from p e rest) = Ranked e × QualsRanked rest
  QualsRanked (cells p q e rest) = (count_pats (axes p) ≤ 8) × Ranked e × QualsRanked rest
  QualsRanked (same p e rest) = Ranked e × QualsRanked rest
  QualsRanked (test e rest) = Ranked e × QualsRanked rest

  pub DefsRanked : Defs → Type 0
  DefsRanked no_def = Unit {0}
  DefsRanked (def p e rest) = Ranked e × DefsRanked rest

strict-light : (o : Strict) (Ts : List Ty) (T : Ty) → strict_rule o Ts T → form_weight (Form.strict o) ≤ 18
strict-light (Strict.nat n) Ts T h = omega arith
strict-light (Strict.bool b) Ts T h = omega arith
strict-light (Strict.text s) Ts T h = omega arith
strict-light Strict.bottom Ts T h = omega arith
strict-light Strict.tuple Ts T h = omega arith
strict-light (Strict.proj at of) Ts T h = omega arith
strict-light (Strict.arith o) Ts T h = omega arith
strict-light (Strict.compare o) Ts T h = omega arith
strict-light Strict.empty Ts T h = omega arith
strict-light Strict.single Ts T h = omega arith
strict-light Strict.union Ts T h = omega arith
strict-light Strict.gen Ts T h = omega arith
strict-light Strict.get Ts T h = omega arith
strict-light Strict.sub Ts T h = omega arith
strict-light (Strict.dim rank) Ts T h = omega (arith, h.1.1)
strict-light (Strict.index rank) Ts T h = omega arith
strict-light (Strict.literal rank) Ts T h = omega arith

mutual
  pub has-ranked : (e : Tree) (g : Environment) (env : Locals) (t : Ty) → Has e g env t → Ranked e
  has-ranked (name x) g env t h = tt
  has-ranked (op o es) g env t h = (strict-light o h.0 t h.1, all-ranked es g env h.0 h.3)
  has-ranked (members es) g env t h = each-ranked es g env h.0 h.2
  has-ranked (comp head quals) g env t h = (has-ranked head g h.1 h.0 h.4, rows-ranked quals g env h.1 h.3)
  has-ranked (tab xs body) g env t h = (bounds-ranked xs g env h.3, has-ranked body g _ h.0 h.4)
  has-ranked (bindings ds body) g env t h = (binds-ranked ds g env h.0 h.1, has-ranked body g h.0 t h.2)
  has-ranked (choice c a b) g env t h = (has-ranked c g env _ h.0, has-ranked a g env t h.1, has-ranked b g env t h.2)
  has-ranked (conjunction a b) g env t h = (has-ranked a g env _ h.1, has-ranked b g env _ h.2)
  has-ranked (disjunction a b) g env t h = (has-ranked a g env _ h.1, has-ranked b g env _ h.2)
  has-ranked (negation a) g env t h = has-ranked a g env _ h.1
  has-ranked (default a b) g env t h = (has-ranked a g env t h.0, has-ranked b g env t h.1)
  has-ranked (apply f a) g env t h = has-ranked a g env h.0 h.2
  has-ranked (function p body a) g env t h = (has-ranked body g h.1 t h.5, has-ranked a g env h.0 h.3)
  has-ranked (summap p body e) g env t h = (has-ranked body g h.1 _ h.6, has-ranked e g env _ h.4)

  all-ranked : (es : Trees) (g : Environment) (env : Locals) (ts : List Ty) → HasAll es g env ts → AllRanked es
  all-ranked no_tree g env ts h = tt
  all-ranked (tree.tree e es) g env ts h = (has-ranked e g env h.0 h.3, all-ranked es g env h.1 h.4)

  each-ranked : (es : Trees) (g : Environment) (env : Locals) (t : Ty) → HasEach es g env t → AllRanked es
  each-ranked no_tree g env t h = tt
  each-ranked (tree.tree e es) g env t h = (has-ranked e g env t h.0, each-ranked es g env t h.1)

  bounds-ranked : (xs : Axes) (g : Environment) (env : Locals) → BoundsHave xs g env → AxesRanked xs
  bounds-ranked no_axis g env h = tt
  bounds-ranked (axis x e rest) g env h = (has-ranked e g env _ h.0, bounds-ranked rest g env h.1)

  rows-ranked : (qs : Quals) (g : Environment) (env inner : Locals) → Rows qs g env inner → QualsRanked qs
  rows-ranked no_qual g env inner h = tt
  rows-ranked (from p e rest) g env inner h = (has-ranked e g env _ h.3, rows-ranked rest g h.1 inner h.5)
  rows-ranked (cells p q e rest) g env inner h = ((generator-rank p q e rest g env inner h).1, has-ranked e g env _ h.4, rows-ranked rest g h.2 inner h.7)
  rows-ranked (same p e rest) g env inner h = (has-ranked e g env _ h.3, rows-ranked rest g h.1 inner h.5)
  rows-ranked (test e rest) g env inner h = (has-ranked e g env _ h.0, rows-ranked rest g env inner h.1)

  binds-ranked : (ds : Defs) (g : Environment) (env inner : Locals) → Binds ds g env inner → DefsRanked ds
  binds-ranked no_def g env inner h = tt
  binds-ranked (def p e rest) g env inner h = (has-ranked e g env _ h.3, binds-ranked rest g h.1 inner h.5)

mutual
  pub weight-start : (known : Resolutions) (ms : Extents) → Weigh known ms → (e : Tree) → Ranked e → (s : start_term.Binders) → weight_of (start e known s) + 2 ≤ 64 * size e ms
  weight-start known ms all (name x) r s = omega (arith, weight-name_term (index_of x s) (find x known))
  weight-start known ms all (op o es) r s = omega (arith, r.0, weight-plain (starts es known s), weight-starts known ms all es r.1 s)
  weight-start known ms all (members es) r s = omega (arith, some-united (starts es known s), weight-starts known ms all es r s)
  weight-start known ms all (comp head quals) r s =
      omega (arith, weight-quals_term known ms all quals r.1 (start head known) (64 * size head ms) (weight-start known ms all head r.0) s)
  weight-start known ms all (tab xs body) r s =
      omega (
        arith,
        weight-tab (bound_terms xs known s) (start body known (under_axes xs s)),
        length-bound_terms xs known s,
        weight-bound_terms known ms all xs r.0 s,
        weight-start known ms all body r.1 (under_axes xs s),
      )
  weight-start known ms all (bindings ds body) r s =
      omega (arith, weight-defs_term known ms all ds r.0 (start body known) (64 * size body ms) (weight-start known ms all body r.1) s)
  weight-start known ms all (choice c a b) r s =
      omega (arith, weight-start known ms all c r.0 s, weight-start known ms all a r.1 s, weight-start known ms all b r.2 s)
  weight-start known ms all (conjunction a b) r s = omega (arith, weight-start known ms all a r.0 s, weight-start known ms all b r.1 s)
  weight-start known ms all (disjunction a b) r s = omega (arith, weight-start known ms all a r.0 s, weight-start known ms all b r.1 s)
  weight-start known ms all (negation a) r s = omega (arith, weight-start known ms all a r s)
  weight-start known ms all (default a b) r s = omega (arith, weight-start known ms all a r.0 s, weight-start known ms all b r.1 s)
  weight-start known ms all (apply f a) r s =
      omega (
        arith,
        weight-start known ms all a r s,
        weight-call (index_of f s) (find f known) (length s) ((extent_of (find f ms)).pattern + (extent_of (find f ms)).size) (all f (length s)),
      )
  weight-start known ms all (function p body a) r s =
      omega (
        arith,
        weight-start known ms all a r.1 s,
        weight-match_term p known (None ∷ s) 0 (start body known (bind_pattern p (None ∷ s))) bottom_term refl,
        weight-start known ms all body r.0 (bind_pattern p (None ∷ s)),
      )
  weight-start known ms all (summap p body e) r s =
      omega (
        arith,
        weight-start known ms all e r.1 s,
        weight-match_term p known (None ∷ s) 0 (start body known (bind_pattern p (None ∷ s))) bottom_term refl,
        weight-start known ms all body r.0 (bind_pattern p (None ∷ s)),
      )

  weight-starts : (known : Resolutions) (ms : Extents) → Weigh known ms → (es : Trees) → AllRanked es → (s : start_term.Binders) →
      total weight_of (starts es known s) + 2 * length (starts es known s) ≤ 64 * sizes es ms
  weight-starts known ms all no_tree r s = omega arith
  weight-starts known ms all (tree.tree e es) r s = omega (arith, weight-start known ms all e r.0 s, weight-starts known ms all es r.1 s)

  weight-bound_terms : (known : Resolutions) (ms : Extents) → Weigh known ms → (xs : Axes) → AxesRanked xs → (s : start_term.Binders) →
      total weight_of (bound_terms xs known s) ≤ 64 * axes_sizes xs ms
  weight-bound_terms known ms all no_axis r s = omega arith
  weight-bound_terms known ms all (axis x e rest) r s = omega (arith, weight-start known ms all e r.0 s, weight-bound_terms known ms all rest r.1 s)

  weight-quals_term : (known : Resolutions) (ms : Extents) → Weigh known ms → (quals : Quals) → QualsRanked quals →
      (t : start_term.Binders → Term) (m : ℕ) → ((s : start_term.Binders) → weight_of (t s) + 2 ≤ m) → (s : start_term.Binders) →
      weight_of (quals_term quals t known s) + 1 ≤ 64 * (count_quals quals + quals_patterns quals + quals_sizes quals ms) + m
  weight-quals_term known ms all no_qual r t m h s = omega (arith, h s)
  weight-quals_term known ms all (from p e rest) r t m h s =
      omega (
        arith,
        weight-start known ms all e r.0 s,
        weight-match_term p known (None ∷ s) 0 (quals_term rest t known (bind_pattern p (None ∷ s))) empty_term refl,
        weight-quals_term known ms all rest r.1 t m h (bind_pattern p (None ∷ s)),
      )
  weight-quals_term known ms all (cells p q e rest) r t m h s =
      let k = count_pats (axes p) in
      let inner = cell_binders (axes p) s in
      let found = let_term (cell_term k (grown_axes (axes p))) (matching q known inner (quals_term rest t known) empty_term) in
      omega (
        arith,
        weight-start known ms all e r.1 s,
        weight-loops_term k 0 k (axes_term (axes p) known (under k (None ∷ s)) 0 found empty_term) r.0,
        weight-axes_term (axes p) known (under k (None ∷ s)) 0 found empty_term refl,
        weight-index_terms k (grown_axes (axes p)),
        weight-match_term q known (None ∷ inner) 0 (quals_term rest t known (bind_pattern q (None ∷ inner))) empty_term refl,
        weight-quals_term known ms all rest r.2 t m h (bind_pattern q (None ∷ inner)),
        nodes-axes p,
        count-nodes (axes p),
      )
  weight-quals_term known ms all (same p e rest) r t m h s =
      omega (
        arith,
        weight-start known ms all e r.0 s,
        weight-match_term p known (None ∷ s) 0 (quals_term rest t known (bind_pattern p (None ∷ s))) empty_term refl,
        weight-quals_term known ms all rest r.1 t m h (bind_pattern p (None ∷ s)),
      )
  weight-quals_term known ms all (test e rest) r t m h s = omega (arith, weight-start known ms all e r.0 s, weight-quals_term known ms all rest r.1 t m h s)

  weight-defs_term : (known : Resolutions) (ms : Extents) → Weigh known ms → (ds : Defs) → DefsRanked ds →
      (t : start_term.Binders → Term) (m : ℕ) → ((s : start_term.Binders) → weight_of (t s) + 2 ≤ m) → (s : start_term.Binders) →
      weight_of (defs_term ds t known s) + 2 ≤ 64 * (count_defs ds + defs_patterns ds + defs_sizes ds ms) + m
  weight-defs_term known ms all no_def r t m h s = omega (arith, h s)
  weight-defs_term known ms all (def p e rest) r t m h s =
      omega (
        arith,
        weight-start known ms all e r.0 s,
        weight-match_term p known (None ∷ s) 0 (defs_term rest t known (bind_pattern p (None ∷ s))) bottom_term refl,
        weight-defs_term known ms all rest r.1 t m h (bind_pattern p (None ∷ s)),
      )

one_more : (x : Name) (k : Resolved) (known : Resolutions) (o : Option Extent) (ms : Extents) →
    ((n : ℕ) → weight_of (macro_term (Some k) n) ≤ 64 * ((extent_of (Some o)).pattern + (extent_of (Some o)).size) + 1) → Weigh known ms → Weigh ((x, k) ∷ known) ((x, o) ∷ ms)
one_more x k known o ms h all f n =
    elim (names_equal f x) as (λ t. weight_of (macro_term (if t then Some k else find f known) n) ≤ 64 * ((extent_of (if t then Some o else find f ms)).pattern + (extent_of (if t then Some o else find f ms)).size) + 1) [
      | true ↦ h n
      | false ↦ all f n
    ]

macro-ranked : (f : Name) (p : Pat) (body : Tree) (g : Environment) (s : Sort) → DeclHas (mac f p body) g s → Ranked body
macro-ranked f p body g (value t) h = absurd h
macro-ranked f p body g (macro s t) h = has-ranked body g h.0 t h.4

pub weigh : (ds : List Declaration) → EachHas ds → Weigh (knowns_of ds) (extents_of ds)
weigh [] h f n = omega arith
weigh (val x e ∷ ds) h f n = one_more x (numbered (suc (length ds))) (knowns_of ds) None (extents_of ds) (λ m. omega arith) (weigh ds h.1) f n
weigh (mac x p body ∷ ds) h f n =
    one_more x (inlined (inline p body (knowns_of ds))) (knowns_of ds) (extent (mac x p body) (extents_of ds)) (extents_of ds)
    (λ m.
    omega (
      arith,
      weight-match_term p (knowns_of ds) (None ∷ unnamed_binders m) 0 (start body (knowns_of ds) (bind_pattern p (None ∷ unnamed_binders m))) bottom_term refl,
      weight-start (knowns_of ds) (extents_of ds) (weigh ds h.1) body (macro-ranked x p body (environment_of ds) h.0.0 h.0.1) (bind_pattern p (None ∷ unnamed_binders m)),
    ))
    (weigh ds h.1) f n
weigh (read x r e ∷ ds) h f n = one_more x (numbered (suc (length ds))) (knowns_of ds) None (extents_of ds) (λ m. omega arith) (weigh ds h.1) f n
weigh (bare e ∷ ds) h f n = one_more it (numbered (suc (length ds))) (knowns_of ds) None (extents_of ds) (λ m. omega arith) (weigh ds h.1) f n

pub start-weighs : StartWeighs
start-weighs ds e T h k = omega (arith, weight-start (knowns_of ds) (extents_of ds) (weigh ds h) e (has-ranked e (environment_of ds) [] T k) [])
