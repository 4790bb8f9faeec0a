-- A position whose name a query does not use changes nothing of what it denotes and of its turns, wherever it stands among the positions.
use Rattle.std.proofs.Common.{◌≡◌, ℕ, suc, ◌+◌, true, false, List, [], ◌∷◌, ◌++◌, length, Option, Some, None, refl, ap, ◌∙◌, if◌then◌else◌}
use Rattle.std.proofs.Math.Path.{fun_ext}
use Rattle.aql_value.specs.Datum.{Datum, natural, truth}
use Rattle.aql_value.specs.Indices.{indices}
use Rattle.aql_value.specs.Partial.{◌>>=◌, each, concat, total, if_some, or_else}
use Rattle.aql_value.specs.Operations.{as_natural, as_truth, as_set, dims_of, cell_of, set_of, sum_of, array_of, part_of}
use Rattle.aql_value.specs.Strict.{strict_value, strict_turns}
use Rattle.aql_syntax.specs.Tree.{Name, Pat, bind, any, equals, refers, tuple, Pats, no_pat, pat, Tree, name, op, members, comp, tab, bindings, choice, conjunction, disjunction, negation, default, apply, function, summap, Trees, no_tree, tree, Axes, no_axis, axis, Quals, no_qual, from, cells, same, test, Defs, no_def, def, count_pats, axes}
use Rattle.aql_syntax.specs.Names.{names_equal, find}
use Rattle.aql_syntax.specs.Matching.{Env, Global, Globals, innermost, Match, miss, undefined, on_match, with_value, compare_with, match, match_parts, match_axes}
use Rattle.aql_syntax.specs.Denotation.{call, in_head, over_indices, at_index, den, dens, bound_values, rows, defs}
use Rattle.aql_syntax.specs.Work.{turns_of_call, if_none, turns_over, work, works, work_bounds, work_rows, work_defs}
use Rattle.aql_syntax.specs.Scopes.{PatAvoids, PatsAvoid, Avoids, AllAvoid, AxesAvoid, QualsAvoid, DefsAvoid}

-- the positions give the same under every other name
abbrev pub SameBut : Name → Globals → Globals → Type 0
SameBut x g h = (y : Name) → names_equal y x ≡ false → find y g ≡ find y h

same-match : {A : Type 0} (m n : Match) (f k : Env → A) (a b : A) → m ≡ n → ((env : Env) → f env ≡ k env) → on_match m f a b ≡ on_match n k a b
same-match m n f k a b e h = ap (λ i. on_match i f a b) e ∙ ap (λ F. on_match n F a b) (fun_ext h)

same-then : {A B : Type 0} (o p : Option A) (f k : A → Option B) → o ≡ p → ((x : A) → f x ≡ k x) → (o >>= f) ≡ (p >>= k)
same-then o p f k e h = ap (λ i. i >>= f) e ∙ ap (λ F. p >>= F) (fun_ext h)

same-some : {A : Type 0} (o p : Option A) (f k : A → ℕ) → o ≡ p → ((x : A) → f x ≡ k x) → if_some o f ≡ if_some p k
same-some o p f k e h = ap (λ i. if_some i f) e ∙ ap (λ F. if_some p F) (fun_ext h)

sums : {a b c d : ℕ} → a ≡ b → c ≡ d → a + c ≡ b + d
sums e f = cc

mutual
  pub match-avoids : (x : Name) (g h : Globals) → SameBut x g h → (p : Pat) → PatAvoids x p → (w : Datum) (env : Env) → match p g w env ≡ match p h w env
  match-avoids x g h s (bind y) k w env = refl
  match-avoids x g h s any k w env = refl
  match-avoids x g h s (equals c) k w env = refl
  match-avoids x g h s (refers y) k w env = ap (λ o. with_value (innermost (find y env) o) (λ c. compare_with w c env)) (s y k)
  match-avoids x g h s (tuple ps) k w env = parts-avoid x g h s ps k 1 (count_pats ps) w env

  pub parts-avoid : (x : Name) (g h : Globals) → SameBut x g h → (ps : Pats) → PatsAvoid x ps → (j n : ℕ) (w : Datum) (env : Env) → match_parts ps g j n w env ≡ match_parts ps h j n w env
  parts-avoid x g h s no_pat k j n w env = refl
  parts-avoid x g h s (pat p ps) k j n w env =
      ap (with_value (part_of j n w)) (fun_ext (λ u. same-match (match p g u env) (match p h u env) (match_parts ps g (suc j) n w) (match_parts ps h (suc j) n w) miss undefined
      (match-avoids x g h s p k.0 u env) (λ inner. parts-avoid x g h s ps k.1 (suc j) n w inner)))

pub axes-avoid : (x : Name) (g h : Globals) → SameBut x g h → (ps : Pats) → PatsAvoid x ps → (at : List ℕ) (env : Env) → match_axes ps g at env ≡ match_axes ps h at env
axes-avoid x g h s no_pat k at env = refl
axes-avoid x g h s (pat p ps) k [] env = refl
axes-avoid x g h s (pat p ps) k (i ∷ at) env =
    same-match (match p g (natural i) env) (match p h (natural i) env) (match_axes ps g at) (match_axes ps h at) miss undefined
    (match-avoids x g h s p k.0 (natural i) env) (λ inner. axes-avoid x g h s ps k.1 at inner)

tested : {A : Type 0} (o p : Option Datum) (a b c d : Option A) → o ≡ p → a ≡ b → c ≡ d → (o >>= as_truth >>= λ t. if t then a else c) ≡ (p >>= as_truth >>= λ t. if t then b else d)
tested o p a b c d e f k = ap (λ i. i >>= as_truth >>= λ t. if t then a else c) e ∙ ap (λ i. p >>= as_truth >>= λ t. if t then i else c) f ∙ ap (λ i. p >>= as_truth >>= λ t. if t then b else i) k

tested-turns : (o p : Option Datum) (a b c d : ℕ) → o ≡ p → a ≡ b → c ≡ d → if_some (o >>= as_truth) (λ t. if t then a else c) ≡ if_some (p >>= as_truth) (λ t. if t then b else d)
tested-turns o p a b c d e f k =
    ap (λ i. if_some (i >>= as_truth) (λ t. if t then a else c)) e ∙ ap (λ i. if_some (p >>= as_truth) (λ t. if t then i else c)) f ∙ ap (λ i. if_some (p >>= as_truth) (λ t. if t then b else i)) k

mutual
  -- what an expression denotes
  pub den-avoids : (x : Name) (g h : Globals) → SameBut x g h → (e : Tree) → Avoids x e → (env : Env) → den e g env ≡ den e h env
  den-avoids x g h s (name y) k env = ap (innermost (find y env)) (s y k)
  den-avoids x g h s (op o es) k env = ap (λ q. q >>= strict_value o) (dens-avoid x g h s es k env)
  den-avoids x g h s (members es) k env = ap (λ q. q >>= λ ws. Some (set_of ws)) (dens-avoid x g h s es k env)
  den-avoids x g h s (comp head quals) k env =
      ap (λ q. q >>= λ ws. Some (set_of ws))
      (same-then (rows quals g env) (rows quals h env) (each (den head g)) (each (den head h)) (rows-avoid x g h s quals k.0 env)
      (λ l. ap (λ F. each F l) (fun_ext (λ inner. den-avoids x g h s head k.1 inner))))
  den-avoids x g h s (tab xs body) k env =
      same-then (bound_values xs g env >>= each as_natural) (bound_values xs h env >>= each as_natural)
      (λ ds. each (λ at. den body g (at_index xs at env)) (indices ds) >>= array_of ds) (λ ds. each (λ at. den body h (at_index xs at env)) (indices ds) >>= array_of ds)
      (ap (λ q. q >>= each as_natural) (bounds-avoid x g h s xs k.0 env))
      (λ ds. ap (λ (F : List ℕ → Option Datum). each F (indices ds) >>= array_of ds) (fun_ext (λ at. den-avoids x g h s body k.1 (at_index xs at env))))
  den-avoids x g h s (bindings ds body) k env = defs-avoid x g h s ds k.0 (den body g) (den body h) (λ inner. den-avoids x g h s body k.1 inner) env
  den-avoids x g h s (choice c a b) k env =
      tested (den c g env) (den c h env) (den a g env) (den a h env) (den b g env) (den b h env) (den-avoids x g h s c k.0 env) (den-avoids x g h s a k.1 env) (den-avoids x g h s b k.2 env)
  den-avoids x g h s (conjunction a b) k env =
      tested (den a g env) (den a h env) (den b g env) (den b h env) (Some (truth false)) (Some (truth false)) (den-avoids x g h s a k.0 env) (den-avoids x g h s b k.1 env) refl
  den-avoids x g h s (disjunction a b) k env =
      tested (den a g env) (den a h env) (Some (truth true)) (Some (truth true)) (den b g env) (den b h env) (den-avoids x g h s a k.0 env) refl (den-avoids x g h s b k.1 env)
  den-avoids x g h s (negation a) k env = ap (λ o. o >>= as_truth >>= λ t. if t then Some (truth false) else Some (truth true)) (den-avoids x g h s a k env)
  den-avoids x g h s (default a b) k env =
      ap (λ o. or_else o (den b g env)) (den-avoids x g h s a k.0 env) ∙ ap (or_else (den a h env)) (den-avoids x g h s b k.1 env)
  den-avoids x g h s (apply f a) k env =
      ap (λ o. o >>= call (in_head (find f env) (find f g))) (den-avoids x g h s a k.1 env) ∙ ap (λ i. den a h env >>= call (in_head (find f env) i)) (s f k.0)
  den-avoids x g h s (function p body a) k env =
      same-then (den a g env) (den a h env) _ _ (den-avoids x g h s a k.2 env)
      (λ w. same-match (match p g w env) (match p h w env) (den body g) (den body h) None None (match-avoids x g h s p k.0 w env) (λ inner. den-avoids x g h s body k.1 inner))
  den-avoids x g h s (summap p body e) k env =
      ap (λ q. q >>= sum_of)
      (same-then (den e g env >>= as_set) (den e h env >>= as_set) (each (λ w. on_match (match p g w env) (den body g) None None)) (each (λ w. on_match (match p h w env) (den body h) None None))
      (ap (λ o. o >>= as_set) (den-avoids x g h s e k.2 env))
      (λ ws. ap (λ (F : Datum → Option Datum). each F ws)
      (fun_ext (λ w. same-match (match p g w env) (match p h w env) (den body g) (den body h) None None (match-avoids x g h s p k.0 w env) (λ inner. den-avoids x g h s body k.1 inner)))))

  pub dens-avoid : (x : Name) (g h : Globals) → SameBut x g h → (es : Trees) → AllAvoid x es → (env : Env) → dens es g env ≡ dens es h env
  dens-avoid x g h s no_tree k env = refl
  dens-avoid x g h s (tree e es) k env =
      same-then (den e g env) (den e h env) _ _ (den-avoids x g h s e k.0 env) (λ w. ap (λ q. q >>= λ ws. Some (w ∷ ws)) (dens-avoid x g h s es k.1 env))

  pub bounds-avoid : (x : Name) (g h : Globals) → SameBut x g h → (xs : Axes) → AxesAvoid x xs → (env : Env) → bound_values xs g env ≡ bound_values xs h env
  bounds-avoid x g h s no_axis k env = refl
  bounds-avoid x g h s (axis y e rest) k env =
      same-then (den e g env) (den e h env) _ _ (den-avoids x g h s e k.0 env) (λ w. ap (λ q. q >>= λ ws. Some (w ∷ ws)) (bounds-avoid x g h s rest k.1 env))

  pub rows-avoid : (x : Name) (g h : Globals) → SameBut x g h → (qs : Quals) → QualsAvoid x qs → (env : Env) → rows qs g env ≡ rows qs h env
  rows-avoid x g h s no_qual k env = refl
  rows-avoid x g h s (from p e rest) k env =
      ap (λ q. q >>= λ found. Some (concat found))
      (same-then (den e g env >>= as_set) (den e h env >>= as_set) _ _ (ap (λ o. o >>= as_set) (den-avoids x g h s e k.1 env))
      (λ ws. ap (λ (F : Datum → Option (List Env)). each F ws)
      (fun_ext (λ w. same-match (match p g w env) (match p h w env) (rows rest g) (rows rest h) (Some []) None (match-avoids x g h s p k.0 w env) (λ inner. rows-avoid x g h s rest k.2 inner)))))
  rows-avoid x g h s (cells p q e rest) k env =
      same-then (den e g env) (den e h env) _ _ (den-avoids x g h s e k.2 env)
      (λ a. ap (λ (F : List ℕ → Option (List Env)). dims_of (count_pats (axes p)) a >>= λ ds. over_indices ds F)
      (fun_ext (λ at. same-match (match_axes (axes p) g at env) (match_axes (axes p) h at env) _ _ (Some []) None (axes-avoid x g h s (axes p) k.0 at env)
      (λ mid. ap (λ (F : Datum → Option (List Env)). cell_of a at >>= F)
      (fun_ext (λ w. same-match (match q g w mid) (match q h w mid) (rows rest g) (rows rest h) (Some []) None (match-avoids x g h s q k.1 w mid) (λ inner. rows-avoid x g h s rest k.3 inner)))))))
  rows-avoid x g h s (same p e rest) k env =
      same-then (den e g env) (den e h env) _ _ (den-avoids x g h s e k.1 env)
      (λ w. same-match (match p g w env) (match p h w env) (rows rest g) (rows rest h) (Some []) None (match-avoids x g h s p k.0 w env) (λ inner. rows-avoid x g h s rest k.2 inner))
  rows-avoid x g h s (test e rest) k env =
      tested (den e g env) (den e h env) (rows rest g env) (rows rest h env) (Some []) (Some []) (den-avoids x g h s e k.0 env) (rows-avoid x g h s rest k.1 env) refl

  pub defs-avoid : (x : Name) (g h : Globals) → SameBut x g h → (ds : Defs) → DefsAvoid x ds → (f i : Env → Option Datum) → ((env : Env) → f env ≡ i env) → (env : Env) →
      defs ds f g env ≡ defs ds i h env
  defs-avoid x g h s no_def k f i e env = e env
  defs-avoid x g h s (def p a rest) k f i e env =
      same-then (den a g env) (den a h env) _ _ (den-avoids x g h s a k.1 env)
      (λ w. same-match (match p g w env) (match p h w env) (defs rest f g) (defs rest i h) None None (match-avoids x g h s p k.0 w env) (λ inner. defs-avoid x g h s rest k.2 f i e inner))

mutual
  -- its turns
  pub work-avoids : (x : Name) (g h : Globals) → SameBut x g h → (e : Tree) → Avoids x e → (env : Env) → work e g env ≡ work e h env
  work-avoids x g h s (name y) k env = refl
  work-avoids x g h s (op o es) k env = sums (works-avoid x g h s es k env) (ap (strict_turns o) (dens-avoid x g h s es k env))
  work-avoids x g h s (members es) k env = works-avoid x g h s es k env
  work-avoids x g h s (comp head quals) k env = turns-avoid x g h s quals k.0 (work head g) (work head h) (λ inner. work-avoids x g h s head k.1 inner) env
  work-avoids x g h s (tab xs body) k env =
      sums (work_bounds-avoid x g h s xs k.0 env)
      (same-some (bound_values xs g env >>= each as_natural) (bound_values xs h env >>= each as_natural) _ _ (ap (λ q. q >>= each as_natural) (bounds-avoid x g h s xs k.0 env))
      (λ ds. ap (λ (F : List ℕ → ℕ). length (indices ds) + total F (indices ds)) (fun_ext (λ at. work-avoids x g h s body k.1 (at_index xs at env)))))
  work-avoids x g h s (bindings ds body) k env = work_defs-avoid x g h s ds k.0 (work body g) (work body h) (λ inner. work-avoids x g h s body k.1 inner) env
  work-avoids x g h s (choice c a b) k env =
      sums (work-avoids x g h s c k.0 env)
      (tested-turns (den c g env) (den c h env) (work a g env) (work a h env) (work b g env) (work b h env) (den-avoids x g h s c k.0 env) (work-avoids x g h s a k.1 env) (work-avoids x g h s b k.2 env))
  work-avoids x g h s (conjunction a b) k env =
      sums (work-avoids x g h s a k.0 env) (tested-turns (den a g env) (den a h env) (work b g env) (work b h env) 0 0 (den-avoids x g h s a k.0 env) (work-avoids x g h s b k.1 env) refl)
  work-avoids x g h s (disjunction a b) k env =
      sums (work-avoids x g h s a k.0 env) (tested-turns (den a g env) (den a h env) 0 0 (work b g env) (work b h env) (den-avoids x g h s a k.0 env) refl (work-avoids x g h s b k.1 env))
  work-avoids x g h s (negation a) k env = work-avoids x g h s a k env
  work-avoids x g h s (default a b) k env =
      sums (work-avoids x g h s a k.0 env) (ap (λ o. if_none o (work b g env)) (den-avoids x g h s a k.0 env) ∙ ap (if_none (den a h env)) (work-avoids x g h s b k.1 env))
  work-avoids x g h s (apply f a) k env =
      sums (work-avoids x g h s a k.1 env)
      (ap (λ o. if_some o (turns_of_call (in_head (find f env) (find f g)))) (den-avoids x g h s a k.1 env) ∙ ap (λ i. if_some (den a h env) (turns_of_call (in_head (find f env) i))) (s f k.0))
  work-avoids x g h s (function p body a) k env =
      sums (work-avoids x g h s a k.2 env)
      (same-some (den a g env) (den a h env) _ _ (den-avoids x g h s a k.2 env)
      (λ w. same-match (match p g w env) (match p h w env) (work body g) (work body h) 0 0 (match-avoids x g h s p k.0 w env) (λ inner. work-avoids x g h s body k.1 inner)))
  work-avoids x g h s (summap p body e) k env =
      sums (work-avoids x g h s e k.2 env)
      (same-some (den e g env >>= as_set) (den e h env >>= as_set) _ _ (ap (λ o. o >>= as_set) (den-avoids x g h s e k.2 env))
      (λ ws. ap (λ (F : Datum → ℕ). length ws + total F ws)
      (fun_ext (λ w. same-match (match p g w env) (match p h w env) (work body g) (work body h) 0 0 (match-avoids x g h s p k.0 w env) (λ inner. work-avoids x g h s body k.1 inner)))))

  pub works-avoid : (x : Name) (g h : Globals) → SameBut x g h → (es : Trees) → AllAvoid x es → (env : Env) → works es g env ≡ works es h env
  works-avoid x g h s no_tree k env = refl
  works-avoid x g h s (tree e es) k env = sums (work-avoids x g h s e k.0 env) (works-avoid x g h s es k.1 env)

  pub work_bounds-avoid : (x : Name) (g h : Globals) → SameBut x g h → (xs : Axes) → AxesAvoid x xs → (env : Env) → work_bounds xs g env ≡ work_bounds xs h env
  work_bounds-avoid x g h s no_axis k env = refl
  work_bounds-avoid x g h s (axis y e rest) k env = sums (work-avoids x g h s e k.0 env) (work_bounds-avoid x g h s rest k.1 env)

  pub turns-avoid : (x : Name) (g h : Globals) → SameBut x g h → (qs : Quals) → QualsAvoid x qs → (f i : Env → ℕ) → ((env : Env) → f env ≡ i env) → (env : Env) →
      work_rows qs f g env ≡ work_rows qs i h env
  turns-avoid x g h s no_qual k f i e env = e env
  turns-avoid x g h s (from p a rest) k f i e env =
      sums (work-avoids x g h s a k.1 env)
      (same-some (den a g env >>= as_set) (den a h env >>= as_set) _ _ (ap (λ o. o >>= as_set) (den-avoids x g h s a k.1 env))
      (λ ws. ap (λ (F : Datum → ℕ). length ws + total F ws)
      (fun_ext (λ w. same-match (match p g w env) (match p h w env) (work_rows rest f g) (work_rows rest i h) 0 0 (match-avoids x g h s p k.0 w env) (λ inner. turns-avoid x g h s rest k.2 f i e inner)))))
  turns-avoid x g h s (cells p q a rest) k f i e env =
      sums (work-avoids x g h s a k.2 env)
      (same-some (den a g env) (den a h env) _ _ (den-avoids x g h s a k.2 env)
      (λ v. ap (λ (F : List ℕ → ℕ). if_some (dims_of (count_pats (axes p)) v) (λ ds. turns_over ds F))
      (fun_ext (λ at. same-match (match_axes (axes p) g at env) (match_axes (axes p) h at env) _ _ 0 0 (axes-avoid x g h s (axes p) k.0 at env)
      (λ mid. ap (λ (F : Datum → ℕ). if_some (cell_of v at) F)
      (fun_ext (λ w. same-match (match q g w mid) (match q h w mid) (work_rows rest f g) (work_rows rest i h) 0 0 (match-avoids x g h s q k.1 w mid) (λ inner. turns-avoid x g h s rest k.3 f i e inner))))))))
  turns-avoid x g h s (same p a rest) k f i e env =
      sums (work-avoids x g h s a k.1 env)
      (same-some (den a g env) (den a h env) _ _ (den-avoids x g h s a k.1 env)
      (λ w. same-match (match p g w env) (match p h w env) (work_rows rest f g) (work_rows rest i h) 0 0 (match-avoids x g h s p k.0 w env) (λ inner. turns-avoid x g h s rest k.2 f i e inner)))
  turns-avoid x g h s (test a rest) k f i e env =
      sums (work-avoids x g h s a k.0 env)
      (tested-turns (den a g env) (den a h env) (work_rows rest f g env) (work_rows rest i h env) 0 0 (den-avoids x g h s a k.0 env) (turns-avoid x g h s rest k.1 f i e env) refl)

  pub work_defs-avoid : (x : Name) (g h : Globals) → SameBut x g h → (ds : Defs) → DefsAvoid x ds → (f i : Env → ℕ) → ((env : Env) → f env ≡ i env) → (env : Env) →
      work_defs ds f g env ≡ work_defs ds i h env
  work_defs-avoid x g h s no_def k f i e env = e env
  work_defs-avoid x g h s (def p a rest) k f i e env =
      sums (work-avoids x g h s a k.1 env)
      (same-some (den a g env) (den a h env) _ _ (den-avoids x g h s a k.1 env)
      (λ w. same-match (match p g w env) (match p h w env) (work_defs rest f g) (work_defs rest i h) 0 0 (match-avoids x g h s p k.0 w env) (λ inner. work_defs-avoid x g h s rest k.2 f i e inner)))

-- a position put in anywhere gives the same under every other name
pub inserted : (x : Name) (a : Global) (later earlier : Globals) → SameBut x (later ++ (x, a) ∷ earlier) (later ++ earlier)
inserted x a [] earlier y e = rw e refl
inserted x a ((z, b) ∷ later) earlier y e = ap (λ o. if names_equal y z then Some b else o) (inserted x a later earlier y e)

-- a position that the query does not use changes nothing, be it earlier or later than the others
pub den-unused : (x : Name) (a : Global) (later earlier : Globals) (e : Tree) → Avoids x e → (env : Env) → den e (later ++ (x, a) ∷ earlier) env ≡ den e (later ++ earlier) env
den-unused x a later earlier e k env = den-avoids x (later ++ (x, a) ∷ earlier) (later ++ earlier) (inserted x a later earlier) e k env

pub work-unused : (x : Name) (a : Global) (later earlier : Globals) (e : Tree) → Avoids x e → (env : Env) → work e (later ++ (x, a) ∷ earlier) env ≡ work e (later ++ earlier) env
work-unused x a later earlier e k env = work-avoids x (later ++ (x, a) ∷ earlier) (later ++ earlier) (inserted x a later earlier) e k env
