-- Each type of a query is a type of its start term.
use Rattle.std.proofs.Common.{◌≡◌, ◌<◌, ℕ, zero, suc, ◌+◌, true, false, List, [], ◌∷◌, ◌++◌, length, map, replicate, Some, None, refl, sym, ap, ◌∙◌, subst, arith, length-append, inl, inr}
use Rattle.std.proofs.lemmas.Bool.{cases_lt}
use Rattle.std.proofs.lemmas.List.{length-replicate}
use Rattle.std.specs.List.{slice_get}
use Rattle.aql_value.specs.Lists.{Every}
use Rattle.aql_value.specs.Strict.{Strict}
use Rattle.aql_ty.specs.Types as types
use Rattle.aql_ty.specs.Types.{Ty, natural, truth, Subst, apply, IsType, IsRank, tys_of}
use Rattle.aql_ty.specs.Laws.Types.{natural_types-are}
use Rattle.aql_syntax.specs.Tree as tree
use Rattle.aql_syntax.specs.Tree.{Pats, no_pat, pat, Tree, name, op, members, comp, tab, bindings, choice, conjunction, disjunction, negation, default, function, summap, Trees, no_tree, Axes, no_axis, axis, Quals, no_qual, from, cells, same, test, Defs, no_def, def, count_pats, count_axes, axes}
use Rattle.aql_syntax.specs.Names.{find}
use Rattle.aql_syntax.specs.Typing.{Environment, Locals, FitsAxes, with_indices, Has, HasAll, HasEach, BoundsHave, Rows, Binds, local_instances}
use Rattle.aql_syntax.specs.Laws.Sound.{rule-instance}
use Rattle.nrca_term.specs.Term.{Term, Parts, none, part, plain, Form}
use Rattle.nrca_term.specs.Typing.{Arg, arg, ctyped, parts_typed}
use Rattle.nrca_term.specs.Nodes.{variable, truth_term, bottom_term, empty_term, let_term, gen_term, dim_term, tab_term, default_term}
use Rattle.aql_desugar_spec.specs.Start as start_term
use Rattle.aql_desugar_spec.specs.Start.{Resolutions, index_of, call_term, bind_pattern, count_binders, matching, axes_term, dimension, loops_term, under, bound_axes, grown_axes, index_terms, cell_term, cell_binders, array_term, under_axes, start, starts, bound_terms, quals_term, defs_term}
use Rattle.aql_desugar_spec.specs.Scopes.{env_of}
use Rattle.aql_desugar_spec.specs.Laws.Scopes.{length-bound, length-bound_axes, past}
use Rattle.aql_desugar_spec.specs.Laws.Meaning.{length-bound_terms}
use Rattle.aql_syntax.specs.Written.{IsWritten, AreWritten, AxesWritten, QualsWritten, DefsWritten}
use Rattle.aql_desugar_spec.specs.Laws.TypedNodes.{Given, Typed, apply-type, typed-leaf, typed-one, typed-choose, typed-binding, typed-let, typed-big_union, typed-variable, typed-bottom, typed-empty, TermsTyped, typed-strict, typed-united, typed-name, typed-call, takes-type, Inside, typed-inside_next, typed-match_term, HasIn, typed-matching, part-types}

-- Array generators.

nth-natural : (m j : ℕ) → j < m → slice_get (replicate m natural) j ≡ Some natural
nth-natural zero j h = absurd (omega arith)
nth-natural (suc m) zero h = refl
nth-natural (suc m) (suc j) h = nth-natural m j (omega arith)

typed-dimension : (G : Given) (env : List Ty) (rank j at : ℕ) (A : Ty) → IsRank rank → IsType A → j < rank → slice_get env at ≡ Some (types.array_of rank A) → ctyped G env (dimension rank (suc j) at) natural
typed-dimension G env zero j at A r k l h = absurd (omega arith)
typed-dimension G env (suc zero) j at A r k l h =
    typed-one G env (Strict.dim 1) (variable at) (types.array_of 1 A) natural tt (typed-variable G env at (types.array_of 1 A) (r, k) h) (A, r, refl, refl)
typed-dimension G env (suc (suc n)) j at A r k l h =
    typed-one G env (Strict.proj (suc j) (suc (suc n))) (dim_term (suc (suc n)) (variable at)) (types.product (tys_of (replicate (suc (suc n)) natural))) natural tt
    (typed-one G env (Strict.dim (suc (suc n))) (variable at) (types.array_of (suc (suc n)) A) (types.product (tys_of (replicate (suc (suc n)) natural)))
    (omega arith, natural_types-are (suc (suc n))) (typed-variable G env at (types.array_of (suc (suc n)) A) (r, k) h) (A, r, refl, refl))
    (replicate (suc (suc n)) natural, j, refl, length-replicate (suc (suc n)) natural, refl, nth-natural (suc (suc n)) j l)

-- types of numbers that are put on one by one
abbrev walk : ℕ → List Ty → List Ty
walk zero l = l
walk (suc m) l = walk m (natural ∷ l)

typed-loops : (G : Given) (m j rank : ℕ) (inside : Term) (A B : Ty) (l : List Ty) → IsRank rank → IsType A → IsType B → j + m ≡ rank → slice_get l j ≡ Some (types.array_of rank A) →
    ctyped G (walk m l) inside (types.set_of B) → ctyped G l (loops_term m j rank inside) (types.set_of B)
typed-loops G zero j rank inside A B l r a b e h i = i
typed-loops G (suc m) j rank inside A B l r a b e h i =
    typed-big_union G l (gen_term (dimension rank (suc j) j)) (loops_term m (suc j) rank inside) natural B b
    (typed-one G l Strict.gen (dimension rank (suc j) j) natural (types.set_of natural) tt (typed-dimension G l rank j j A r a (omega arith) h) (refl, refl))
    (typed-loops G m (suc j) rank inside A B (natural ∷ l) r a b (omega arith) h i)

walk-at : (m : ℕ) (l : List Ty) (n : ℕ) → slice_get (walk m l) (n + m) ≡ slice_get l n
walk-at zero l n = let z : n + 0 ≡ n = omega arith in ap (slice_get l) z
walk-at (suc m) l n = let z : n + suc m ≡ suc n + m = omega arith in ap (slice_get (walk m (natural ∷ l))) z ∙ walk-at m (natural ∷ l) (suc n)

walk-below : (m : ℕ) (l : List Ty) (n : ℕ) → n < m → slice_get (walk m l) n ≡ Some natural
walk-below zero l n h = absurd (omega arith)
walk-below (suc m) l n h = elim (cases_lt n m) [
  | inl a ↦ walk-below m (natural ∷ l) n a
  | inr b ↦ (let z : n ≡ 0 + m = omega arith in ap (slice_get (walk m (natural ∷ l))) z ∙ walk-at m (natural ∷ l) 0)
]

typed-axes : (G : Given) (g : Environment) (known : Resolutions) (u : Subst) → Typed G g known u →
    (ps : Pats) (s : start_term.Binders) (l : List Ty) (added : ℕ) (inside other : Term) (B : Ty) (before locals : Locals) → IsType B →
    length s ≡ length l → env_of s l ≡ local_instances u before → ((n : ℕ) → n < count_pats ps → slice_get l (added + n) ≡ Some natural) → FitsAxes ps g before locals → ((l : List Ty) → ctyped G l other B) →
    Inside u (λ l. ctyped G l inside B) (grown_axes ps) (bound_axes ps s) l locals →
    ctyped G l (axes_term ps known s added inside other) B
typed-axes G g known u all no_pat s l added inside other B before locals b e v h f o i = i [] refl (v ∙ ap (local_instances u) (sym f))
typed-axes G g known u all (pat p ps) s l added inside other B before locals b e v h f o i =
    typed-match_term G g known u all p s l (added + count_pats ps) natural B (axes_term ps known (bind_pattern p s) (added + count_binders p) inside other) other before f.0 tt b
    e v (h (count_pats ps) (omega arith)) f.1 o
    (λ new c q.
    typed-axes G g known u all ps (bind_pattern p s) (new ++ l) (added + count_binders p) inside other B f.0 locals b
    (omega (arith, length-bound p s, length-append new l)) q
    (λ n a. let z : (added + count_binders p) + n ≡ (added + n) + count_binders p = omega arith in
    ap (slice_get (new ++ l)) z ∙ past new l (added + n) (count_binders p) c ∙ h n (omega arith))
    f.2 o
    (typed-inside_next u (λ l'. ctyped G l' inside B) (count_binders p) (grown_axes ps) (bound_axes ps (bind_pattern p s)) l locals new c i))

typed-index_terms : (G : Given) (m added : ℕ) (l : List Ty) → ((n : ℕ) → n < m → slice_get l (added + n) ≡ Some natural) → TermsTyped G l (index_terms m added) (replicate m natural)
typed-index_terms G zero added l h = refl
typed-index_terms G (suc m) added l h =
    (natural, replicate m natural, refl, typed-variable G l (added + m) natural tt (h m (omega arith)), typed-index_terms G m added l (λ n a. h n (omega arith)))

fits-walk : (n : ℕ) (s : start_term.Binders) (l : List Ty) → length s ≡ length l → length (under n s) ≡ length (walk n l)
fits-walk zero s l f = f
fits-walk (suc n) s l f = fits-walk n (None ∷ s) (natural ∷ l) (ap suc f)

env_of-walk : (n : ℕ) (s : start_term.Binders) (l : List Ty) → env_of (under n s) (walk n l) ≡ env_of s l
env_of-walk zero s l = refl
env_of-walk (suc n) s l = env_of-walk n (None ∷ s) (natural ∷ l)

typed-array : (G : Given) (g : Environment) (known : Resolutions) (u : Subst) → Typed G g known u → (ps : Pats) (s : start_term.Binders) (env : List Ty) (array : Term) (t : start_term.Binders → Term) (A B : Ty) (before mid : Locals) →
    IsRank (count_pats ps) → IsType A → IsType B →
    length s ≡ length env → env_of s env ≡ local_instances u before → ctyped G env array (types.array_of (count_pats ps) A) → FitsAxes ps g before mid →
    ((inner : start_term.Binders) (within : List Ty) → length inner ≡ length within → env_of inner within ≡ local_instances u mid → ctyped G (A ∷ within) (t inner) (types.set_of B)) →
    ctyped G env (array_term ps known s array t empty_term) (types.set_of B)
typed-array G g known u all ps s env array t A B before mid r p b l v a f h =
    let k = count_pats ps in
    let base = types.array_of k A ∷ env in
    let cell = cell_term k (grown_axes ps) in
    let found = let_term cell (t (cell_binders ps s)) in
    typed-let G env array (loops_term k 0 k (axes_term ps known (under k (None ∷ s)) 0 found empty_term)) (types.array_of k A) (types.set_of B) b a
    (typed-loops G k 0 k (axes_term ps known (under k (None ∷ s)) 0 found empty_term) A B base r p b (omega arith) refl
    (typed-axes G g known u all ps (under k (None ∷ s)) (walk k base) 0 found empty_term (types.set_of B) before mid b
    (fits-walk k (None ∷ s) base (ap suc l)) (env_of-walk k (None ∷ s) base ∙ v)
    (λ n c. let z : 0 + n ≡ n = omega arith in ap (slice_get (walk k base)) z ∙ walk-below k base n c)
    f
    (λ l. typed-empty G l B b)
    (λ new c q.
    typed-let G (new ++ walk k base) cell (t (cell_binders ps s)) A (types.set_of B) b
    (typed-strict G (new ++ walk k base) Strict.sub (variable (grown_axes ps + k) ∷ index_terms k (grown_axes ps)) (types.array_of k A ∷ replicate k natural) A p (
      types.array_of k A,
      replicate k natural,
      refl,
      typed-variable G (new ++ walk k base) (grown_axes ps + k) (types.array_of k A) (r, p)
          (let z : grown_axes ps + k ≡ (0 + k) + grown_axes ps = omega arith in
          ap (slice_get (new ++ walk k base)) z ∙ past new (walk k base) (0 + k) (grown_axes ps) c ∙ walk-at k base 0),
      typed-index_terms G k (grown_axes ps) (new ++ walk k base)
          (λ n d. let z : grown_axes ps + n ≡ n + grown_axes ps = omega arith in
          ap (slice_get (new ++ walk k base)) z ∙ past new (walk k base) n (grown_axes ps) c ∙ walk-below k base n d),
    )
    (k, r, refl))
    (h (cell_binders ps s) (new ++ walk k base)
    (omega (arith, length-bound_axes ps (under k (None ∷ s)), length-append new (walk k base), fits-walk k (None ∷ s) base (ap suc l))) q))))

-- Tabulations.

replicate-last : (m : ℕ) (l : List Ty) → replicate m natural ++ (natural ∷ l) ≡ natural ∷ (replicate m natural ++ l)
replicate-last zero l = refl
replicate-last (suc m) l = ap (λ r. natural ∷ r) (replicate-last m l)

walk-is : (m : ℕ) (l : List Ty) → walk m l ≡ replicate m natural ++ l
walk-is zero l = refl
walk-is (suc m) l = walk-is m (natural ∷ l) ∙ replicate-last m l

typed-bounds : (G : Given) (env : List Ty) (ts : List Term) (ps : Parts) (args : List Arg) → Every (λ t. ctyped G env t natural) ts →
    parts_typed G env ps args → parts_typed G env (plain ts ps) (replicate (length ts) (arg [] natural) ++ args)
typed-bounds G env [] ps args h k = k
typed-bounds G env (t ∷ ts) ps args h k =
    (arg [] natural, replicate (length ts) (arg [] natural) ++ args, refl, refl, h.0, typed-bounds G env ts ps args h.1 k)

typed-tab : (G : Given) (env : List Ty) (ts : List Term) (b : Term) (A : Ty) → IsRank (length ts) → IsType A → Every (λ t. ctyped G env t natural) ts →
    ctyped G (walk (length ts) env) b A → ctyped G env (tab_term ts b) (types.array_of (length ts) A)
typed-tab G env ts b A r p h i =
    let k = length ts in (
      (r, p),
      replicate k (arg [] natural) ++ (arg (replicate k natural) A ∷ []),
      (A, r, refl, refl),
      typed-bounds G env ts (part k b none) (arg (replicate k natural) A ∷ []) h
          (arg (replicate k natural) A, [], refl, length-replicate k natural, subst (λ l. ctyped G l b A) (walk-is k env) i, refl),
    )

fits-axes : (xs : Axes) (s : start_term.Binders) (env : List Ty) → length s ≡ length env → length (under_axes xs s) ≡ length (walk (count_axes xs) env)
fits-axes no_axis s env l = l
fits-axes (axis x e rest) s env l = fits-axes rest (Some x ∷ s) (natural ∷ env) (ap suc l)

env_of-indexed : (u : Subst) (xs : Axes) (s : start_term.Binders) (env : List Ty) (locals : Locals) → env_of s env ≡ local_instances u locals →
    env_of (under_axes xs s) (walk (count_axes xs) env) ≡ local_instances u (with_indices xs locals)
env_of-indexed u no_axis s env locals v = v
env_of-indexed u (axis x e rest) s env locals v =
    env_of-indexed u rest (Some x ∷ s) (natural ∷ env) ((x, natural) ∷ locals) (ap (λ w. (x, natural) ∷ w) v)

typed-default : (G : Given) (env : List Ty) (a b : Term) (T : Ty) → IsType T → ctyped G env a T → ctyped G env b T → ctyped G env (default_term a b) T
typed-default G env a b T k h i =
    (k, arg [] T ∷ arg [] T ∷ [], refl, (arg [] T, arg [] T ∷ [], refl, refl, h, (arg [] T, [], refl, refl, i, refl)))

-- The start term.

mutual
  pub typed-start : (G : Given) (g : Environment) (known : Resolutions) (u : Subst) → Typed G g known u → (e : Tree) → IsWritten e → (locals : Locals) (T : Ty) → IsType T → Has e g locals T →
      HasIn G u (start e known) locals (apply u T)
  typed-start G g known u all (name x) w locals T k h s env l v = typed-name G g known u all x s env locals T k l v h
  typed-start G g known u all (op o es) w locals T k h s env l v =
      typed-strict G env o (starts es known s) (map (apply u) h.0) (apply u T) (apply-type u all.proper T k)
      (typed-starts G g known u all es w.1 locals h.0 (part-types o h.0 T w.0 k h.1 h.2) h.3 s env l v) (rule-instance u o h.0 T h.1)
  typed-start G g known u all (members es) w locals T k h s env l v =
      let p : IsType h.0 = subst IsType h.1 k in
      subst (λ U. ctyped G env (start (members es) known s) (apply u U)) (sym h.1)
      (typed-united G env (apply u h.0) (apply-type u all.proper h.0 p) (length (starts es known s)) (starts es known s) (typed-each G g known u all es w locals h.0 p h.2 s env l v))
  typed-start G g known u all (comp head quals) w locals T k h s env l v =
      let p : IsType h.0 = subst IsType h.2 k in
      subst (λ U. ctyped G env (start (comp head quals) known s) (apply u U)) (sym h.2)
      (typed-quals_term G g known u all quals w.0 locals h.1 h.3 (start head known) (apply u h.0) (apply-type u all.proper h.0 p)
      (typed-start G g known u all head w.1 h.1 h.0 p h.4) s env l v)
  typed-start G g known u all (tab xs body) w locals T k h s env l v =
      let p : IsType (types.array_of (count_axes xs) h.0) = subst IsType h.2 k in
      let e = length-bound_terms xs known s in
      subst (λ U. ctyped G env (start (tab xs body) known s) (apply u U)) (sym h.2)
      (subst (λ n. ctyped G env (start (tab xs body) known s) (types.array_of n (apply u h.0))) e
      (typed-tab G env (bound_terms xs known s) (start body known (under_axes xs s)) (apply u h.0) (subst IsRank (sym e) h.1) (apply-type u all.proper h.0 p.1)
      (typed-bound_terms G g known u all xs w.0 locals h.3 s env l v)
      (subst (λ n. ctyped G (walk n env) (start body known (under_axes xs s)) (apply u h.0)) (sym e)
      (typed-start G g known u all body w.1 (with_indices xs locals) h.0 p.1 h.4 (under_axes xs s) (walk (count_axes xs) env) (fits-axes xs s env l) (env_of-indexed u xs s env locals v)))))
  typed-start G g known u all (bindings ds body) w locals T k h s env l v =
      typed-defs_term G g known u all ds w.0 locals h.0 h.1 (start body known) (apply u T) (apply-type u all.proper T k) (typed-start G g known u all body w.1 h.0 T k h.2) s env l v
  typed-start G g known u all (choice c a b) w locals T k h s env l v =
      typed-choose G env (start c known s) (start a known s) (start b known s) (apply u T) (apply-type u all.proper T k) (typed-start G g known u all c w.0 locals truth tt h.0 s env l v)
      (typed-start G g known u all a w.1 locals T k h.1 s env l v) (typed-start G g known u all b w.2 locals T k h.2 s env l v)
  typed-start G g known u all (conjunction a b) w locals T k h s env l v =
      subst (λ U. ctyped G env (start (conjunction a b) known s) (apply u U)) (sym h.0)
      (typed-choose G env (start a known s) (start b known s) (truth_term false) truth tt (typed-start G g known u all a w.0 locals truth tt h.1 s env l v)
      (typed-start G g known u all b w.1 locals truth tt h.2 s env l v) (typed-leaf G env (Strict.bool false) truth tt (refl, refl)))
  typed-start G g known u all (disjunction a b) w locals T k h s env l v =
      subst (λ U. ctyped G env (start (disjunction a b) known s) (apply u U)) (sym h.0)
      (typed-choose G env (start a known s) (truth_term true) (start b known s) truth tt (typed-start G g known u all a w.0 locals truth tt h.1 s env l v)
      (typed-leaf G env (Strict.bool true) truth tt (refl, refl)) (typed-start G g known u all b w.1 locals truth tt h.2 s env l v))
  typed-start G g known u all (negation a) w locals T k h s env l v =
      subst (λ U. ctyped G env (start (negation a) known s) (apply u U)) (sym h.0)
      (typed-choose G env (start a known s) (truth_term false) (truth_term true) truth tt (typed-start G g known u all a w locals truth tt h.1 s env l v)
      (typed-leaf G env (Strict.bool false) truth tt (refl, refl)) (typed-leaf G env (Strict.bool true) truth tt (refl, refl)))
  typed-start G g known u all (default a b) w locals T k h s env l v =
      typed-default G env (start a known s) (start b known s) (apply u T) (apply-type u all.proper T k)
      (typed-start G g known u all a w.0 locals T k h.0 s env l v) (typed-start G g known u all b w.1 locals T k h.1 s env l v)
  typed-start G g known u all (tree.apply f a) w locals T k h s env l v =
      let p : IsType h.0 = takes-type g (find f locals) f h.0 T (all.arguments f h.0 T) h.1 in
      typed-let G env (start a known s) (call_term (index_of f s) (find f known) (length s)) (apply u h.0) (apply u T) (apply-type u all.proper T k)
      (typed-start G g known u all a w locals h.0 p h.2 s env l v) (typed-call G g known u all f s env locals h.0 T l v h.1)
  typed-start G g known u all (function p body a) w locals T k h s env l v =
      typed-let G env (start a known s) (matching p known s (start body known) bottom_term) (apply u h.0) (apply u T) (apply-type u all.proper T k)
      (typed-start G g known u all a w.1 locals h.0 h.2.2 h.3 s env l v)
      (typed-matching G g known u all p s env (start body known) bottom_term h.0 (apply u T) locals h.1 h.2.2 (apply-type u all.proper T k) l v h.4
      (λ m. typed-bottom G m (apply u T) (apply-type u all.proper T k)) (typed-start G g known u all body w.0 h.1 T k h.5))
  typed-start G g known u all (summap p body e) w locals T k h s env l v =
      subst (λ U. ctyped G env (start (summap p body e) known s) (apply u U)) (sym h.2)
      (typed-binding G env Form.sum (start e known s) (matching p known s (start body known) bottom_term) (types.set_of (apply u h.0)) (apply u h.0) natural natural tt
      (typed-start G g known u all e w.1 locals (types.set_of h.0) h.3.2 h.4 s env l v)
      (typed-matching G g known u all p s env (start body known) bottom_term h.0 natural locals h.1 h.3.2 tt l v h.5
      (λ m. typed-bottom G m natural tt) (typed-start G g known u all body w.0 h.1 natural tt h.6))
      (apply u h.0, refl, refl))

  typed-starts : (G : Given) (g : Environment) (known : Resolutions) (u : Subst) → Typed G g known u → (es : Trees) → AreWritten es → (locals : Locals) (Ts : List Ty) → Every IsType Ts → HasAll es g locals Ts →
      (s : start_term.Binders) (env : List Ty) → length s ≡ length env → env_of s env ≡ local_instances u locals → TermsTyped G env (starts es known s) (map (apply u) Ts)
  typed-starts G g known u all no_tree w locals Ts k h s env l v = ap (map (apply u)) h
  typed-starts G g known u all (tree.tree e es) w locals Ts k h s env l v =
      let p : Every IsType (h.0 ∷ h.1) = subst (Every IsType) h.2 k in (
        apply u h.0,
        map (apply u) h.1,
        ap (map (apply u)) h.2,
        typed-start G g known u all e w.0 locals h.0 p.0 h.3 s env l v,
        typed-starts G g known u all es w.1 locals h.1 p.1 h.4 s env l v,
      )

  typed-each : (G : Given) (g : Environment) (known : Resolutions) (u : Subst) → Typed G g known u → (es : Trees) → AreWritten es → (locals : Locals) (A : Ty) → IsType A → HasEach es g locals A →
      (s : start_term.Binders) (env : List Ty) → length s ≡ length env → env_of s env ≡ local_instances u locals → Every (λ t. ctyped G env t (apply u A)) (starts es known s)
  typed-each G g known u all no_tree w locals A k h s env l v = tt
  typed-each G g known u all (tree.tree e es) w locals A k h s env l v =
      (typed-start G g known u all e w.0 locals A k h.0 s env l v, typed-each G g known u all es w.1 locals A k h.1 s env l v)

  typed-bound_terms : (G : Given) (g : Environment) (known : Resolutions) (u : Subst) → Typed G g known u → (xs : Axes) → AxesWritten xs → (locals : Locals) → BoundsHave xs g locals →
      (s : start_term.Binders) (env : List Ty) → length s ≡ length env → env_of s env ≡ local_instances u locals → Every (λ t. ctyped G env t natural) (bound_terms xs known s)
  typed-bound_terms G g known u all no_axis w locals h s env l v = tt
  typed-bound_terms G g known u all (axis x e rest) w locals h s env l v =
      (typed-start G g known u all e w.0 locals natural tt h.0 s env l v, typed-bound_terms G g known u all rest w.1 locals h.1 s env l v)

  typed-quals_term : (G : Given) (g : Environment) (known : Resolutions) (u : Subst) → Typed G g known u → (quals : Quals) → QualsWritten quals → (locals after : Locals) → Rows quals g locals after →
      (t : start_term.Binders → Term) (C : Ty) → IsType C → HasIn G u t after C → HasIn G u (quals_term quals t known) locals (types.set_of C)
  typed-quals_term G g known u all no_qual w locals after h t C c i s env l v =
      typed-one G env Strict.single (t s) C (types.set_of C) c (i s env l (v ∙ ap (local_instances u) (sym h))) (C, refl, refl)
  typed-quals_term G g known u all (from p e rest) w locals after h t C c i s env l v =
      typed-big_union G env (start e known s) (matching p known s (quals_term rest t known) empty_term) (apply u h.0) C c
      (typed-start G g known u all e w.0 locals (types.set_of h.0) h.2.2 h.3 s env l v)
      (typed-matching G g known u all p s env (quals_term rest t known) empty_term h.0 (types.set_of C) locals h.1 h.2.2 c l v h.4 (λ m. typed-empty G m C c)
      (typed-quals_term G g known u all rest w.1 h.1 after h.5 t C c i))
  typed-quals_term G g known u all (cells p q e rest) w locals after h t C c i s env l v =
      typed-array G g known u all (axes p) s env (start e known s) (λ inner. matching q known inner (quals_term rest t known) empty_term) (apply u h.0) C locals h.1
      h.3.2.0 (apply-type u all.proper h.0 h.3.2.1) c l v (typed-start G g known u all e w.0 locals (types.array_of (count_pats (axes p)) h.0) h.3.2 h.4 s env l v) h.5
      (λ inner within k n.
      typed-matching G g known u all q inner within (quals_term rest t known) empty_term h.0 (types.set_of C) h.1 h.2 h.3.2.1 c k n h.6 (λ m. typed-empty G m C c)
      (typed-quals_term G g known u all rest w.1 h.2 after h.7 t C c i))
  typed-quals_term G g known u all (same p e rest) w locals after h t C c i s env l v =
      typed-let G env (start e known s) (matching p known s (quals_term rest t known) empty_term) (apply u h.0) (types.set_of C) c
      (typed-start G g known u all e w.0 locals h.0 h.2.2 h.3 s env l v)
      (typed-matching G g known u all p s env (quals_term rest t known) empty_term h.0 (types.set_of C) locals h.1 h.2.2 c l v h.4 (λ m. typed-empty G m C c)
      (typed-quals_term G g known u all rest w.1 h.1 after h.5 t C c i))
  typed-quals_term G g known u all (test e rest) w locals after h t C c i s env l v =
      typed-choose G env (start e known s) (quals_term rest t known s) empty_term (types.set_of C) c (typed-start G g known u all e w.0 locals truth tt h.0 s env l v)
      (typed-quals_term G g known u all rest w.1 locals after h.1 t C c i s env l v) (typed-empty G env C c)

  typed-defs_term : (G : Given) (g : Environment) (known : Resolutions) (u : Subst) → Typed G g known u → (ds : Defs) → DefsWritten ds → (locals after : Locals) → Binds ds g locals after →
      (t : start_term.Binders → Term) (C : Ty) → IsType C → HasIn G u t after C → HasIn G u (defs_term ds t known) locals C
  typed-defs_term G g known u all no_def w locals after h t C c i s env l v = i s env l (v ∙ ap (local_instances u) (sym h))
  typed-defs_term G g known u all (def p e rest) w locals after h t C c i s env l v =
      typed-let G env (start e known s) (matching p known s (defs_term rest t known) bottom_term) (apply u h.0) C c
      (typed-start G g known u all e w.0 locals h.0 h.2.2 h.3 s env l v)
      (typed-matching G g known u all p s env (defs_term rest t known) bottom_term h.0 C locals h.1 h.2.2 c l v h.4 (λ m. typed-bottom G m C c)
      (typed-defs_term G g known u all rest w.1 h.1 after h.5 t C c i))
