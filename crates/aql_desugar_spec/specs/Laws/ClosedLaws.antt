-- The start term has no variable but those of its scope.
use Rattle.std.proofs.Common.{◌≡◌, ◌<◌, ℕ, zero, suc, ◌+◌, ◌/◌, true, false, List, [], ◌∷◌, length, take, drop, Option, Some, None, if◌then◌else◌, refl, ap, subst, arith}
use Rattle.aql_value.specs.Lists.{Every}
use Rattle.aql_value.specs.Laws.Lists.{Every-take, Every-drop}
use Rattle.aql_value.specs.Strict.{Strict}
use Rattle.aql_syntax.specs.Tree as tree
use Rattle.aql_syntax.specs.Tree.{Name, Constant, Pat, bind, any, equals, refers, tuple, Pats, no_pat, pat, Tree, name, op, members, comp, tab, bindings, choice, conjunction, disjunction, negation, default, apply, function, summap, Trees, no_tree, Axes, no_axis, axis, Quals, no_qual, from, cells, same, test, Defs, no_def, def, Declaration, val, mac, read, bare, it, count_pats, count_axes, axes}
use Rattle.aql_syntax.specs.Names.{names_equal, find}
use Rattle.nrca_term.specs.Term.{Term, Parts, node, none, part, plain, Form, FormClosed, Closed, PartsClosed}
use Rattle.nrca_term.specs.Nodes.{variable, truth_term, bottom_term, let_term, if_term, proj_term, gen_term, dim_term, empty_term, loop_term}
use Rattle.aql_desugar_spec.specs.Start.{Binders, Resolved, numbered, inlined, Resolutions, index_under, index_of, name_term, position_term, macro_term, call_term, constant_term, bind_pattern, count_binders, count_all_binders, equal_term, match_term, parts_term, matching, balanced_union, dimension, loops_term, under, grown_axes, axes_term, index_terms, cell_term, cell_binders, array_term, under_axes, start, starts, bound_terms, quals_term, defs_term, unnamed_binders, inline, knowns_of}
use Rattle.aql_desugar_spec.specs.Laws.Scopes.{length-bound, length-bound_axes, length-under, length-under_axes}
use Rattle.aql_desugar_spec.specs.Laws.Meaning.{length-bound_terms}
use Rattle.aql_desugar_spec.specs.Laws.Positions.{length-unnamed_binders}
use Rattle.aql_desugar_spec.specs.Laws.{StartCloses}

-- the macros' terms have no variables but those around the application and the argument's
abbrev pub CallsClosed : Resolutions → Type 0
CallsClosed known = (f : Name) (n : ℕ) → Closed (suc n) (macro_term (find f known) n)

-- a number, where there is one, is below n
abbrev Below : ℕ → Option ℕ → Type 0
Below n None = Unit {0}
Below n (Some i) = i < n

below-raised : (n : ℕ) (i : Option ℕ) → Below n i → Below (suc n) (index_under i)
below-raised n None h = tt
below-raised n (Some i) h = omega arith

below-index_of : (x : Name) (s : Binders) → Below (length s) (index_of x s)
below-index_of x [] = tt
below-index_of x (None ∷ s) = below-raised (length s) (index_of x s) (below-index_of x s)
below-index_of x (Some y ∷ s) =
    elim (names_equal x y) as (λ b. Below (suc (length s)) (if b then Some 0 else index_under (index_of x s))) [
      | true ↦ omega arith
      | false ↦ below-raised (length s) (index_of x s) (below-index_of x s)
    ]

closed-position : (n : ℕ) (k : Option Resolved) → Closed n (position_term k)
closed-position n None = (tt, tt)
closed-position n (Some (numbered m)) = (tt, tt)
closed-position n (Some (inlined t)) = (tt, tt)

named : (n : ℕ) (i : Option ℕ) (k : Option Resolved) → Below n i → Closed n (name_term i k)
named n (Some i) k h = (h, tt)
named n None k h = closed-position n k

called : (n : ℕ) (i : Option ℕ) (k : Option Resolved) → Closed (suc n) (macro_term k n) → Closed (suc n) (call_term i k n)
called n (Some i) k h = (tt, tt)
called n None k h = h

closed-constant : (n : ℕ) (c : Constant) → Closed n (constant_term c)
closed-constant n (tree.number m) = (tt, tt)
closed-constant n (tree.truth b) = (tt, tt)
closed-constant n (tree.bytes s) = (tt, tt)

closed-name : (x : Name) (s : Binders) (known : Resolutions) (n : ℕ) → length s ≡ n → Closed n (name_term (index_of x s) (find x known))
closed-name x s known n e = subst (λ m. Closed m (name_term (index_of x s) (find x known))) e (named (length s) (index_of x s) (find x known) (below-index_of x s))

-- a part that binds nothing, or one variable
at0 : (n : ℕ) (t : Term) → Closed n t → Closed (n + 0) t
at0 n t h = let z : n ≡ n + 0 = omega arith in subst (λ m. Closed m t) z h

at1 : (n : ℕ) (t : Term) → Closed (suc n) t → Closed (n + 1) t
at1 n t h = let z : suc n ≡ n + 1 = omega arith in subst (λ m. Closed m t) z h

closed-binding : (f : Form) (n : ℕ) (a b : Term) → ((m : ℕ) → FormClosed m f) → Closed n a → Closed (suc n) b → Closed n (loop_term f a b)
closed-binding f n a b u h i = (u n, (at0 n a h, (at1 n b i, tt)))

closed-let : (n : ℕ) (a b : Term) → Closed n a → Closed (suc n) b → Closed n (let_term a b)
closed-let n a b h i = closed-binding Form.bind n a b (λ m. tt) h i

closed-choose : (n : ℕ) (a b c : Term) → Closed n a → Closed n b → Closed n c → Closed n (if_term a b c)
closed-choose n a b c h i j = (tt, (at0 n a h, (at0 n b i, (at0 n c j, tt))))

closed-one : (s : Strict) (n : ℕ) (a : Term) → Closed n a → Closed n (node (Form.strict s) (plain (a ∷ []) none))
closed-one s n a h = (tt, (at0 n a h, tt))

closed-equal : (at n : ℕ) (c : Term) → at < n → Closed n c → Closed n (equal_term at c)
closed-equal at n c h i = (tt, (at0 n (variable at) (h, tt), (at0 n c i, tt)))

closed-plain : (n : ℕ) (ts : List Term) (ps : Parts) → Every (Closed n) ts → PartsClosed n ps → PartsClosed n (plain ts ps)
closed-plain n [] ps h k = k
closed-plain n (t ∷ ts) ps h k = (at0 n t h.0, closed-plain n ts ps h.1 k)

closed-united : (n k : ℕ) (ts : List Term) → Every (Closed n) ts → Closed n (balanced_union k ts)
closed-united n zero ts h = (tt, tt)
closed-united n (suc k) [] h = (tt, tt)
closed-united n (suc k) (t ∷ []) h = (tt, (at0 n t h.0, tt))
closed-united n (suc k) (t ∷ u ∷ ts) h =
    let m = length (t ∷ u ∷ ts) / 2 in (
      tt,
      (
        at0 n (balanced_union k (take m (t ∷ u ∷ ts))) (closed-united n k (take m (t ∷ u ∷ ts)) (Every-take (Closed n) m (t ∷ u ∷ ts) h)),
        (at0 n (balanced_union k (drop m (t ∷ u ∷ ts))) (closed-united n k (drop m (t ∷ u ∷ ts)) (Every-drop (Closed n) m (t ∷ u ∷ ts) h)), tt),
      ),
    )

mutual
  pub closed-match_term : (p : Pat) (known : Resolutions) (s : Binders) (at n : ℕ) (inside other : Term) → length s ≡ n → at < n →
      ((m : ℕ) → Closed m other) → Closed (n + count_binders p) inside → Closed n (match_term p known s at inside other)
  closed-match_term (bind x) known s at n inside other e h o i =
      let z : n + 1 ≡ suc n = omega arith in
      closed-let n (variable at) inside (h, tt) (subst (λ m. Closed m inside) z i)
  closed-match_term any known s at n inside other e h o i = let z : n + 0 ≡ n = omega arith in subst (λ m. Closed m inside) z i
  closed-match_term (equals c) known s at n inside other e h o i =
      let z : n + 0 ≡ n = omega arith in
      closed-choose n (equal_term at (constant_term c)) inside other (closed-equal at n (constant_term c) h (closed-constant n c)) (subst (λ m. Closed m inside) z i) (o n)
  closed-match_term (refers x) known s at n inside other e h o i =
      let z : n + 0 ≡ n = omega arith in
      closed-choose n (equal_term at (name_term (index_of x s) (find x known))) inside other
      (closed-equal at n (name_term (index_of x s) (find x known)) h (closed-name x s known n e)) (subst (λ m. Closed m inside) z i) (o n)
  closed-match_term (tuple ps) known s at n inside other e h o i = closed-parts_term ps known s at 1 (count_pats ps) n inside other e h o i

  pub closed-parts_term : (ps : Pats) (known : Resolutions) (s : Binders) (at j c n : ℕ) (inside other : Term) → length s ≡ n → at < n →
      ((m : ℕ) → Closed m other) → Closed (n + count_all_binders ps) inside → Closed n (parts_term ps known s at j c inside other)
  closed-parts_term no_pat known s at j c n inside other e h o i = let z : n + 0 ≡ n = omega arith in subst (λ m. Closed m inside) z i
  closed-parts_term (pat p ps) known s at j c n inside other e h o i =
      closed-let n (proj_term j c (variable at))
      (match_term p known (None ∷ s) 0 (parts_term ps known (bind_pattern p (None ∷ s)) (at + (count_binders p + 1)) (suc j) c inside other) other)
      (closed-one (Strict.proj j c) n (variable at) (h, tt))
      (closed-match_term p known (None ∷ s) 0 (suc n) (parts_term ps known (bind_pattern p (None ∷ s)) (at + (count_binders p + 1)) (suc j) c inside other) other (ap suc e) (omega arith) o
      (closed-parts_term ps known (bind_pattern p (None ∷ s)) (at + (count_binders p + 1)) (suc j) c (suc n + count_binders p) inside other
      (omega (arith, length-bound p (None ∷ s))) (omega arith) o (subst (λ m. Closed m inside) (deep n (count_binders p) (count_all_binders ps)) i)))
    where
      deep : (n g r : ℕ) → n + (r + (g + 1)) ≡ (suc n + g) + r
      deep n g r = omega arith

-- a term in a scope has no variable but those of the scope
abbrev pub IsClosed : (Binders → Term) → Type 0
IsClosed t = (s : Binders) → Closed (length s) (t s)

closed-matching : (p : Pat) (known : Resolutions) (s : Binders) (t : Binders → Term) (other : Term) → ((m : ℕ) → Closed m other) → IsClosed t →
    Closed (suc (length s)) (matching p known s t other)
closed-matching p known s t other o h =
    closed-match_term p known (None ∷ s) 0 (suc (length s)) (t (bind_pattern p (None ∷ s))) other refl (omega arith) o
    (subst (λ m. Closed m (t (bind_pattern p (None ∷ s)))) (length-bound p (None ∷ s)) (h (bind_pattern p (None ∷ s))))

closed-dimension : (rank j at n : ℕ) → at < n → Closed n (dimension rank j at)
closed-dimension zero j at n h = closed-one (Strict.proj j 0) n (dim_term 0 (variable at)) (closed-one (Strict.dim 0) n (variable at) (h, tt))
closed-dimension (suc zero) j at n h = closed-one (Strict.dim 1) n (variable at) (h, tt)
closed-dimension (suc (suc r)) j at n h =
    closed-one (Strict.proj j (suc (suc r))) n (dim_term (suc (suc r)) (variable at)) (closed-one (Strict.dim (suc (suc r))) n (variable at) (h, tt))

closed-loops_term : (m j rank n : ℕ) (inside : Term) → j < n → Closed (m + n) inside → Closed n (loops_term m j rank inside)
closed-loops_term zero j rank n inside h i = let z : 0 + n ≡ n = omega arith in subst (λ m. Closed m inside) z i
closed-loops_term (suc m) j rank n inside h i =
    let z : suc m + n ≡ m + suc n = omega arith in
    closed-binding Form.big_union n (gen_term (dimension rank (suc j) j)) (loops_term m (suc j) rank inside) (λ m. tt)
    (closed-one Strict.gen n (dimension rank (suc j) j) (closed-dimension rank (suc j) j n h))
    (closed-loops_term m (suc j) rank (suc n) inside (omega arith) (subst (λ k. Closed k inside) z i))

closed-axes_term : (ps : Pats) (known : Resolutions) (s : Binders) (added n : ℕ) (inside other : Term) → length s ≡ n → added + count_pats ps < suc n →
    ((m : ℕ) → Closed m other) → Closed (n + grown_axes ps) inside → Closed n (axes_term ps known s added inside other)
closed-axes_term no_pat known s added n inside other e h o i = let z : n + 0 ≡ n = omega arith in subst (λ m. Closed m inside) z i
closed-axes_term (pat p ps) known s added n inside other e h o i =
    let z : n + (grown_axes ps + count_binders p) ≡ (n + count_binders p) + grown_axes ps = omega arith in
    closed-match_term p known s (added + count_pats ps) n (axes_term ps known (bind_pattern p s) (added + count_binders p) inside other) other e (omega arith) o
    (closed-axes_term ps known (bind_pattern p s) (added + count_binders p) (n + count_binders p) inside other (omega (arith, length-bound p s)) (omega arith) o
    (subst (λ m. Closed m inside) z i))

closed-index_terms : (m added n : ℕ) → added + m < suc n → PartsClosed n (plain (index_terms m added) none)
closed-index_terms zero added n h = tt
closed-index_terms (suc m) added n h = (at0 n (variable (added + m)) (omega arith, tt), closed-index_terms m added n (omega arith))

inside_tab : (known : Resolutions) (xs : Axes) (s : Binders) → length (under_axes xs s) ≡ length s + length (bound_terms xs known s)
inside_tab known xs s = omega (arith, length-under_axes xs s, length-bound_terms xs known s)

closed-array : (known : Resolutions) (ps : Pats) (s : Binders) (array : Term) (t : Binders → Term) → Closed (length s) array → ((inner : Binders) → Closed (suc (length inner)) (t inner)) →
    Closed (length s) (array_term ps known s array t empty_term)
closed-array known ps s array t a h =
    let k = count_pats ps in
    let n = k + suc (length s) in
    let cell = cell_term k (grown_axes ps) in
    let long : length (cell_binders ps s) ≡ n + grown_axes ps = omega (arith, length-bound_axes ps (under k (None ∷ s)), length-under k (None ∷ s)) in
    let found = let_term cell (t (cell_binders ps s)) in
    closed-let (length s) array (loops_term k 0 k (axes_term ps known (under k (None ∷ s)) 0 found empty_term)) a
    (closed-loops_term k 0 k (suc (length s)) (axes_term ps known (under k (None ∷ s)) 0 found empty_term) (omega arith)
    (closed-axes_term ps known (under k (None ∷ s)) 0 n found empty_term (length-under k (None ∷ s)) (omega arith) (λ m. (tt, tt))
    (closed-let (n + grown_axes ps) cell (t (cell_binders ps s))
    (tt, (at0 (n + grown_axes ps) (variable (grown_axes ps + k)) (omega arith, tt), closed-index_terms k (grown_axes ps) (n + grown_axes ps) (omega arith)))
    (subst (λ m. Closed (suc m) (t (cell_binders ps s))) long (h (cell_binders ps s))))))

mutual
  pub closed-start : (known : Resolutions) → CallsClosed known → (e : Tree) → IsClosed (start e known)
  closed-start known all (name x) s = closed-name x s known (length s) refl
  closed-start known all (op o es) s = (tt, closed-plain (length s) (starts es known s) none (closed-starts known all es s) tt)
  closed-start known all (members es) s = closed-united (length s) (length (starts es known s)) (starts es known s) (closed-starts known all es s)
  closed-start known all (comp head quals) s = closed-quals_term known all quals (start head known) (closed-start known all head) s
  closed-start known all (tab xs body) s = (
    tt,
    closed-plain (length s) (bound_terms xs known s) (part (length (bound_terms xs known s)) (start body known (under_axes xs s)) none) (closed-bound_terms known all xs s)
        (subst (λ m. Closed m (start body known (under_axes xs s))) (inside_tab known xs s) (closed-start known all body (under_axes xs s)), tt),
  )
  closed-start known all (bindings ds body) s = closed-defs_term known all ds (start body known) (closed-start known all body) s
  closed-start known all (choice c a b) s =
      closed-choose (length s) (start c known s) (start a known s) (start b known s) (closed-start known all c s) (closed-start known all a s) (closed-start known all b s)
  closed-start known all (conjunction a b) s =
      closed-choose (length s) (start a known s) (start b known s) (truth_term false) (closed-start known all a s) (closed-start known all b s) (tt, tt)
  closed-start known all (disjunction a b) s =
      closed-choose (length s) (start a known s) (truth_term true) (start b known s) (closed-start known all a s) (tt, tt) (closed-start known all b s)
  closed-start known all (negation a) s =
      closed-choose (length s) (start a known s) (truth_term false) (truth_term true) (closed-start known all a s) (tt, tt) (tt, tt)
  closed-start known all (default a b) s =
      (tt, (at0 (length s) (start a known s) (closed-start known all a s), (at0 (length s) (start b known s) (closed-start known all b s), tt)))
  closed-start known all (apply f a) s =
      closed-let (length s) (start a known s) (call_term (index_of f s) (find f known) (length s)) (closed-start known all a s)
      (called (length s) (index_of f s) (find f known) (all f (length s)))
  closed-start known all (function p body a) s =
      closed-let (length s) (start a known s) (matching p known s (start body known) bottom_term) (closed-start known all a s)
      (closed-matching p known s (start body known) bottom_term (λ m. (tt, tt)) (closed-start known all body))
  closed-start known all (summap p body e) s =
      closed-binding Form.sum (length s) (start e known s) (matching p known s (start body known) bottom_term) (λ m. tt) (closed-start known all e s)
      (closed-matching p known s (start body known) bottom_term (λ m. (tt, tt)) (closed-start known all body))

  closed-starts : (known : Resolutions) → CallsClosed known → (es : Trees) (s : Binders) → Every (Closed (length s)) (starts es known s)
  closed-starts known all no_tree s = tt
  closed-starts known all (tree.tree e es) s = (closed-start known all e s, closed-starts known all es s)

  closed-bound_terms : (known : Resolutions) → CallsClosed known → (xs : Axes) (s : Binders) → Every (Closed (length s)) (bound_terms xs known s)
  closed-bound_terms known all no_axis s = tt
  closed-bound_terms known all (axis x e rest) s = (closed-start known all e s, closed-bound_terms known all rest s)

  closed-quals_term : (known : Resolutions) → CallsClosed known → (quals : Quals) (t : Binders → Term) → IsClosed t → IsClosed (quals_term quals t known)
  closed-quals_term known all no_qual t h s = closed-one Strict.single (length s) (t s) (h s)
  closed-quals_term known all (from p e rest) t h s =
      closed-binding Form.big_union (length s) (start e known s) (matching p known s (quals_term rest t known) empty_term) (λ m. tt) (closed-start known all e s)
      (closed-matching p known s (quals_term rest t known) empty_term (λ m. (tt, tt)) (closed-quals_term known all rest t h))
  closed-quals_term known all (cells p q e rest) t h s =
      closed-array known (axes p) s (start e known s) (λ inner. matching q known inner (quals_term rest t known) empty_term) (closed-start known all e s)
      (λ inner. closed-matching q known inner (quals_term rest t known) empty_term (λ m. (tt, tt)) (closed-quals_term known all rest t h))
  closed-quals_term known all (same p e rest) t h s =
      closed-let (length s) (start e known s) (matching p known s (quals_term rest t known) empty_term) (closed-start known all e s)
      (closed-matching p known s (quals_term rest t known) empty_term (λ m. (tt, tt)) (closed-quals_term known all rest t h))
  closed-quals_term known all (test e rest) t h s =
      closed-choose (length s) (start e known s) (quals_term rest t known s) empty_term (closed-start known all e s) (closed-quals_term known all rest t h s) (tt, tt)

  closed-defs_term : (known : Resolutions) → CallsClosed known → (ds : Defs) (t : Binders → Term) → IsClosed t → IsClosed (defs_term ds t known)
  closed-defs_term known all no_def t h s = h s
  closed-defs_term known all (def p e rest) t h s =
      closed-let (length s) (start e known s) (matching p known s (defs_term rest t known) bottom_term) (closed-start known all e s)
      (closed-matching p known s (defs_term rest t known) bottom_term (λ m. (tt, tt)) (closed-defs_term known all rest t h))

one_more : (x : Name) (k : Resolved) (known : Resolutions) → ((n : ℕ) → Closed (suc n) (macro_term (Some k) n)) → CallsClosed known → CallsClosed ((x, k) ∷ known)
one_more x k known h all f n =
    elim (names_equal f x) as (λ t. Closed (suc n) (macro_term (if t then Some k else find f known) n)) [
      | true ↦ h n
      | false ↦ all f n
    ]

pub calls-closed : (ds : List Declaration) → CallsClosed (knowns_of ds)
calls-closed [] f n = (tt, tt)
calls-closed (val x e ∷ ds) f n = one_more x (numbered (suc (length ds))) (knowns_of ds) (λ m. (tt, tt)) (calls-closed ds) f n
calls-closed (mac x p body ∷ ds) f n =
    one_more x (inlined (inline p body (knowns_of ds))) (knowns_of ds)
    (λ k. subst (λ m. Closed (suc m) (inline p body (knowns_of ds) k)) (length-unnamed_binders k)
    (closed-matching p (knowns_of ds) (unnamed_binders k) (start body (knowns_of ds)) bottom_term (λ m. (tt, tt)) (closed-start (knowns_of ds) (calls-closed ds) body)))
    (calls-closed ds) f n
calls-closed (read x r e ∷ ds) f n = one_more x (numbered (suc (length ds))) (knowns_of ds) (λ m. (tt, tt)) (calls-closed ds) f n
calls-closed (bare e ∷ ds) f n = one_more it (numbered (suc (length ds))) (knowns_of ds) (λ m. (tt, tt)) (calls-closed ds) f n

-- a query's start term is closed
pub start-closes : StartCloses
start-closes ds e = closed-start (knowns_of ds) (calls-closed ds) e []
