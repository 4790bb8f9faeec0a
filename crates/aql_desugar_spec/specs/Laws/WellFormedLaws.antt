-- The start term is well formed: each part of a node has the variables that the node's form binds there.
use Rattle.std.proofs.Common.{◌≡◌, ℕ, zero, suc, ◌+◌, ◌/◌, true, false, List, [], ◌∷◌, length, take, drop, Option, Some, None, if◌then◌else◌, refl, arith}
use Rattle.std.proofs.lemmas.Bool.{lt-ltb, le-ltb}
use Rattle.aql_value.specs.Lists.{Every}
use Rattle.aql_value.specs.Laws.Lists.{Every-take, Every-drop}
use Rattle.aql_value.specs.Strict.{Strict}
use Rattle.aql_syntax.specs.Tree as tree
use Rattle.aql_syntax.specs.Tree.{Name, Constant, Pat, bind, any, equals, refers, tuple, Pats, no_pat, pat, Tree, name, op, members, comp, tab, bindings, choice, conjunction, disjunction, negation, default, apply, function, summap, Trees, no_tree, Axes, no_axis, axis, Quals, no_qual, from, cells, same, test, Defs, no_def, def, Declaration, val, mac, read, bare, it, count_pats, axes}
use Rattle.aql_syntax.specs.Names.{names_equal, find}
use Rattle.nrca_term.specs.Term.{Term, none, part, plain, Form, WellFormed, PartsWellFormed}
use Rattle.nrca_term.specs.Nodes.{variable, bottom_term, empty_term, let_term, if_term, proj_term, tab_term}
use Rattle.aql_desugar_spec.specs.Start.{Binders, Resolved, numbered, inlined, Resolutions, index_of, name_term, position_term, macro_term, call_term, constant_term, bind_pattern, count_binders, equal_term, match_term, parts_term, matching, balanced_union, dimension, loops_term, under, grown_axes, axes_term, index_terms, cell_term, cell_binders, array_term, under_axes, start, starts, bound_terms, quals_term, defs_term, unnamed_binders, inline, knowns_of}
use Rattle.aql_desugar_spec.specs.Laws.{StartIsWellFormed}

-- the macros' terms are well formed
abbrev pub CallsWellFormed : Resolutions → Type 0
CallsWellFormed known = (f : Name) (n : ℕ) → WellFormed (macro_term (find f known) n)

formed-position : (k : Option Resolved) → WellFormed (position_term k)
formed-position None = (tt, tt)
formed-position (Some (numbered m)) = (refl, tt)
formed-position (Some (inlined t)) = (tt, tt)

formed-name : (i : Option ℕ) (k : Option Resolved) → WellFormed (name_term i k)
formed-name (Some i) k = (refl, tt)
formed-name None k = formed-position k

formed-call : (i : Option ℕ) (k : Option Resolved) (n : ℕ) → WellFormed (macro_term k n) → WellFormed (call_term i k n)
formed-call (Some i) k n h = (tt, tt)
formed-call None k n h = h

formed-constant : (c : Constant) → WellFormed (constant_term c)
formed-constant (tree.number m) = (tt, tt)
formed-constant (tree.truth b) = (tt, tt)
formed-constant (tree.bytes s) = (tt, tt)

formed-let : (a b : Term) → WellFormed a → WellFormed b → WellFormed (let_term a b)
formed-let a b h i = (tt, (refl, h, (refl, i, tt)))

formed-choose : (c a b : Term) → WellFormed c → WellFormed a → WellFormed b → WellFormed (if_term c a b)
formed-choose c a b h i j = (tt, (refl, h, (refl, i, (refl, j, tt))))

formed-equal : (at : ℕ) (c : Term) → WellFormed c → WellFormed (equal_term at c)
formed-equal at c h = (tt, (refl, (refl, tt), (refl, h, tt)))

formed-plain : (s : Strict) (i : ℕ) (ts : List Term) → Every WellFormed ts → PartsWellFormed (Form.strict s) i (plain ts none)
formed-plain s i [] h = tt
formed-plain s i (t ∷ ts) h = (refl, h.0, formed-plain s (suc i) ts h.1)

formed-bounds : (rank i : ℕ) (ts : List Term) (b : Term) → i + length ts ≡ rank → Every WellFormed ts → WellFormed b → PartsWellFormed (Form.tab rank) i (plain ts (part rank b none))
formed-bounds rank i [] b e h k = (rw (le-ltb i rank (omega arith)) refl, k, tt)
formed-bounds rank i (t ∷ ts) b e h k = (rw (lt-ltb i rank (omega arith)) refl, h.0, formed-bounds rank (suc i) ts b (omega arith) h.1 k)

formed-tab : (ts : List Term) (b : Term) → Every WellFormed ts → WellFormed b → WellFormed (tab_term ts b)
formed-tab ts b h k = (tt, formed-bounds (length ts) 0 ts b (omega arith) h k)

formed-united : (n : ℕ) (ts : List Term) → Every WellFormed ts → WellFormed (balanced_union n ts)
formed-united zero ts h = (tt, tt)
formed-united (suc n) [] h = (tt, tt)
formed-united (suc n) (t ∷ []) h = (tt, (refl, h.0, tt))
formed-united (suc n) (t ∷ u ∷ ts) h =
    let m = length (t ∷ u ∷ ts) / 2 in
    (tt, (refl, formed-united n (take m (t ∷ u ∷ ts)) (Every-take WellFormed m (t ∷ u ∷ ts) h), (refl, formed-united n (drop m (t ∷ u ∷ ts)) (Every-drop WellFormed m (t ∷ u ∷ ts) h), tt)))

mutual
  formed-match_term : (p : Pat) (known : Resolutions) (s : Binders) (at : ℕ) (inside other : Term) → WellFormed inside → WellFormed other → WellFormed (match_term p known s at inside other)
  formed-match_term (bind x) known s at inside other h o = formed-let (variable at) inside (refl, tt) h
  formed-match_term any known s at inside other h o = h
  formed-match_term (equals c) known s at inside other h o =
      formed-choose (equal_term at (constant_term c)) inside other (formed-equal at (constant_term c) (formed-constant c)) h o
  formed-match_term (refers x) known s at inside other h o =
      formed-choose (equal_term at (name_term (index_of x s) (find x known))) inside other
      (formed-equal at (name_term (index_of x s) (find x known)) (formed-name (index_of x s) (find x known))) h o
  formed-match_term (tuple ps) known s at inside other h o = formed-parts_term ps known s at 1 (count_pats ps) inside other h o

  formed-parts_term : (ps : Pats) (known : Resolutions) (s : Binders) (at j n : ℕ) (inside other : Term) → WellFormed inside → WellFormed other → WellFormed (parts_term ps known s at j n inside other)
  formed-parts_term no_pat known s at j n inside other h o = h
  formed-parts_term (pat p ps) known s at j n inside other h o =
      formed-let (proj_term j n (variable at))
      (match_term p known (None ∷ s) 0 (parts_term ps known (bind_pattern p (None ∷ s)) (at + (count_binders p + 1)) (suc j) n inside other) other)
      (tt, (refl, (refl, tt), tt))
      (formed-match_term p known (None ∷ s) 0 (parts_term ps known (bind_pattern p (None ∷ s)) (at + (count_binders p + 1)) (suc j) n inside other) other
      (formed-parts_term ps known (bind_pattern p (None ∷ s)) (at + (count_binders p + 1)) (suc j) n inside other h o) o)

-- a term in a scope is well formed
abbrev pub IsFormed : (Binders → Term) → Type 0
IsFormed t = (s : Binders) → WellFormed (t s)

formed-matching : (p : Pat) (known : Resolutions) (s : Binders) (t : Binders → Term) (other : Term) → WellFormed other → IsFormed t → WellFormed (matching p known s t other)
formed-matching p known s t other o h = formed-match_term p known (None ∷ s) 0 (t (bind_pattern p (None ∷ s))) other (h (bind_pattern p (None ∷ s))) o

formed-dimension : (rank j at : ℕ) → WellFormed (dimension rank j at)
formed-dimension zero j at = (tt, (refl, (tt, (refl, (refl, tt), tt)), tt))
formed-dimension (suc zero) j at = (tt, (refl, (refl, tt), tt))
formed-dimension (suc (suc r)) j at = (tt, (refl, (tt, (refl, (refl, tt), tt)), tt))

formed-loops_term : (m j rank : ℕ) (inside : Term) → WellFormed inside → WellFormed (loops_term m j rank inside)
formed-loops_term zero j rank inside h = h
formed-loops_term (suc m) j rank inside h =
    (tt, (refl, (tt, (refl, formed-dimension rank (suc j) j, tt)), (refl, formed-loops_term m (suc j) rank inside h, tt)))

formed-axes_term : (ps : Pats) (known : Resolutions) (s : Binders) (added : ℕ) (inside other : Term) → WellFormed inside → WellFormed other → WellFormed (axes_term ps known s added inside other)
formed-axes_term no_pat known s added inside other h o = h
formed-axes_term (pat p ps) known s added inside other h o =
    formed-match_term p known s (added + count_pats ps) (axes_term ps known (bind_pattern p s) (added + count_binders p) inside other) other
    (formed-axes_term ps known (bind_pattern p s) (added + count_binders p) inside other h o) o

formed-index_terms : (m added : ℕ) → Every WellFormed (index_terms m added)
formed-index_terms zero added = tt
formed-index_terms (suc m) added = ((refl, tt), formed-index_terms m added)

formed-array : (known : Resolutions) (ps : Pats) (s : Binders) (array : Term) (t : Binders → Term) → WellFormed array → IsFormed t → WellFormed (array_term ps known s array t empty_term)
formed-array known ps s array t a h =
    let k = count_pats ps in
    let found = let_term (cell_term k (grown_axes ps)) (t (cell_binders ps s)) in
    formed-let array (loops_term k 0 k (axes_term ps known (under k (None ∷ s)) 0 found empty_term)) a
    (formed-loops_term k 0 k (axes_term ps known (under k (None ∷ s)) 0 found empty_term)
    (formed-axes_term ps known (under k (None ∷ s)) 0 found empty_term
    (formed-let (cell_term k (grown_axes ps)) (t (cell_binders ps s)) (tt, (refl, (refl, tt), formed-plain Strict.sub 1 (index_terms k (grown_axes ps)) (formed-index_terms k (grown_axes ps)))) (h (cell_binders ps s)))
    (tt, tt)))

mutual
  pub formed-start : (known : Resolutions) → CallsWellFormed known → (e : Tree) → IsFormed (start e known)
  formed-start known all (name x) s = formed-name (index_of x s) (find x known)
  formed-start known all (op o es) s = (tt, formed-plain o 0 (starts es known s) (formed-starts known all es s))
  formed-start known all (members es) s = formed-united (length (starts es known s)) (starts es known s) (formed-starts known all es s)
  formed-start known all (comp head quals) s = formed-quals_term known all quals (start head known) (formed-start known all head) s
  formed-start known all (tab xs body) s =
      formed-tab (bound_terms xs known s) (start body known (under_axes xs s)) (formed-bound_terms known all xs s) (formed-start known all body (under_axes xs s))
  formed-start known all (bindings ds body) s = formed-defs_term known all ds (start body known) (formed-start known all body) s
  formed-start known all (choice c a b) s =
      formed-choose (start c known s) (start a known s) (start b known s) (formed-start known all c s) (formed-start known all a s) (formed-start known all b s)
  formed-start known all (conjunction a b) s = (tt, (refl, formed-start known all a s, (refl, formed-start known all b s, (refl, (tt, tt), tt))))
  formed-start known all (disjunction a b) s = (tt, (refl, formed-start known all a s, (refl, (tt, tt), (refl, formed-start known all b s, tt))))
  formed-start known all (negation a) s = (tt, (refl, formed-start known all a s, (refl, (tt, tt), (refl, (tt, tt), tt))))
  formed-start known all (default a b) s = (tt, (refl, formed-start known all a s, (refl, formed-start known all b s, tt)))
  formed-start known all (apply f a) s =
      formed-let (start a known s) (call_term (index_of f s) (find f known) (length s)) (formed-start known all a s) (formed-call (index_of f s) (find f known) (length s) (all f (length s)))
  formed-start known all (function p body a) s =
      formed-let (start a known s) (matching p known s (start body known) bottom_term) (formed-start known all a s)
      (formed-matching p known s (start body known) bottom_term (tt, tt) (formed-start known all body))
  formed-start known all (summap p body e) s =
      (tt, (refl, formed-start known all e s, (refl, formed-matching p known s (start body known) bottom_term (tt, tt) (formed-start known all body), tt)))

  formed-starts : (known : Resolutions) → CallsWellFormed known → (es : Trees) (s : Binders) → Every WellFormed (starts es known s)
  formed-starts known all no_tree s = tt
  formed-starts known all (tree.tree e es) s = (formed-start known all e s, formed-starts known all es s)

  formed-bound_terms : (known : Resolutions) → CallsWellFormed known → (xs : Axes) (s : Binders) → Every WellFormed (bound_terms xs known s)
  formed-bound_terms known all no_axis s = tt
  formed-bound_terms known all (axis x e rest) s = (formed-start known all e s, formed-bound_terms known all rest s)

  formed-quals_term : (known : Resolutions) → CallsWellFormed known → (quals : Quals) (t : Binders → Term) → IsFormed t → IsFormed (quals_term quals t known)
  formed-quals_term known all no_qual t h s = (tt, (refl, h s, tt))
  formed-quals_term known all (from p e rest) t h s =
      (tt, (refl, formed-start known all e s, (refl, formed-matching p known s (quals_term rest t known) empty_term (tt, tt) (formed-quals_term known all rest t h), tt)))
  formed-quals_term known all (cells p q e rest) t h s =
      formed-array known (axes p) s (start e known s) (λ inner. matching q known inner (quals_term rest t known) empty_term) (formed-start known all e s)
      (λ inner. formed-matching q known inner (quals_term rest t known) empty_term (tt, tt) (formed-quals_term known all rest t h))
  formed-quals_term known all (same p e rest) t h s =
      formed-let (start e known s) (matching p known s (quals_term rest t known) empty_term) (formed-start known all e s)
      (formed-matching p known s (quals_term rest t known) empty_term (tt, tt) (formed-quals_term known all rest t h))
  formed-quals_term known all (test e rest) t h s =
      formed-choose (start e known s) (quals_term rest t known s) empty_term (formed-start known all e s) (formed-quals_term known all rest t h s) (tt, tt)

  formed-defs_term : (known : Resolutions) → CallsWellFormed known → (ds : Defs) (t : Binders → Term) → IsFormed t → IsFormed (defs_term ds t known)
  formed-defs_term known all no_def t h s = h s
  formed-defs_term known all (def p e rest) t h s =
      formed-let (start e known s) (matching p known s (defs_term rest t known) bottom_term) (formed-start known all e s)
      (formed-matching p known s (defs_term rest t known) bottom_term (tt, tt) (formed-defs_term known all rest t h))

one_more : (x : Name) (k : Resolved) (known : Resolutions) → ((n : ℕ) → WellFormed (macro_term (Some k) n)) → CallsWellFormed known → CallsWellFormed ((x, k) ∷ known)
one_more x k known h all f n =
    elim (names_equal f x) as (λ t. WellFormed (macro_term (if t then Some k else find f known) n)) [
      | true ↦ h n
      | false ↦ all f n
    ]

pub calls-formed : (ds : List Declaration) → CallsWellFormed (knowns_of ds)
calls-formed [] f n = (tt, tt)
calls-formed (val x e ∷ ds) f n = one_more x (numbered (suc (length ds))) (knowns_of ds) (λ m. (tt, tt)) (calls-formed ds) f n
calls-formed (mac x p body ∷ ds) f n =
    one_more x (inlined (inline p body (knowns_of ds))) (knowns_of ds)
    (λ k. formed-matching p (knowns_of ds) (unnamed_binders k) (start body (knowns_of ds)) bottom_term (tt, tt) (formed-start (knowns_of ds) (calls-formed ds) body)) (calls-formed ds) f n
calls-formed (read x r e ∷ ds) f n = one_more x (numbered (suc (length ds))) (knowns_of ds) (λ m. (tt, tt)) (calls-formed ds) f n
calls-formed (bare e ∷ ds) f n = one_more it (numbered (suc (length ds))) (knowns_of ds) (λ m. (tt, tt)) (calls-formed ds) f n

-- a query's start term is well formed
pub start-formed : StartIsWellFormed
start-formed ds e = formed-start (knowns_of ds) (calls-formed ds) e []
