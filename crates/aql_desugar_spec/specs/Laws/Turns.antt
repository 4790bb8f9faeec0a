-- The start term takes the turns of the query as written.
use Rattle.std.proofs.Common.{◌≡◌, ℕ, ◌+◌, true, false, List, length, Option, Some, None, if◌then◌else◌, refl, ap, ◌∙◌, arith}
use Rattle.aql_value.specs.Datum.{Datum}
use Rattle.aql_value.specs.Operations.{as_truth, push_index}
use Rattle.aql_value.specs.Partial.{◌>>=◌, total, if_some}
use Rattle.aql_value.specs.Strict.{strict_turns}
use Rattle.aql_syntax.specs.Tree.{Tree, name, op, members, comp, tab, bindings, choice, conjunction, disjunction, negation, default, apply, function, summap, Trees, no_tree, tree, Axes, no_axis, axis, Quals, no_qual, from, cells, same, test, Defs, no_def, def, axes, count_axes}
use Rattle.aql_syntax.specs.Names.{find}
use Rattle.aql_syntax.specs.Matching.{Env, Globals, on_match, match}
use Rattle.aql_syntax.specs.Denotation.{den, bound_values}
use Rattle.aql_syntax.specs.Work.{if_none, work, works, work_bounds, work_rows, work_defs}
use Rattle.nrca_term.specs.Term.{Term}
use Rattle.nrca_term.specs.Meaning.{Outcomes, cden}
use Rattle.nrca_term.specs.Turns.{settle}
use Rattle.nrca_term.specs.Nodes.{bottom_term, empty_term, truth_term, default_term}
use Rattle.nrca_term.specs.Laws.Variants.{settle-strict, settle-default_none, settle-default_some}
use Rattle.aql_desugar_spec.specs.Start.{Binders, Resolutions, index_of, call_term, matching, under_axes, start, starts, bound_terms, quals_term, defs_term}
use Rattle.aql_desugar_spec.specs.Scopes.{env_of, Stand}
use Rattle.aql_desugar_spec.specs.Laws.Scopes.{settle-name_term, settle-call_term, fits-index, env_of-index}
use Rattle.aql_desugar_spec.specs.Laws.Nodes.{let-turns, big_union-turns, sum-turns, choose-turns}
use Rattle.aql_desugar_spec.specs.Laws.Matching.{TakesTurns, match-turns}
use Rattle.aql_desugar_spec.specs.Laws.Unions.{settle-united}
use Rattle.aql_desugar_spec.specs.Laws.Tabulations.{tab-turns}
use Rattle.aql_desugar_spec.specs.Laws.Arrays.{array-turns}
use Rattle.aql_desugar_spec.specs.Laws.Meaning.{length-bound_terms, cden-start, cden-starts, cden-bound_terms}

default-turns : (V : Outcomes) (vals : List Datum) (a b : Term) (n : ℕ) (o : Option Datum) (m : ℕ) →
    settle V vals a ≡ n → cden V vals a ≡ o → settle V vals b ≡ m → settle V vals (default_term a b) ≡ n + if_none o m
default-turns V vals a b n None m h e i = settle-default_none V vals a b e ∙ rw (h, i) refl
default-turns V vals a b n (Some v) m h e i = settle-default_some V vals a b v e ∙ omega (arith, h)

nothing_more : (n : ℕ) (o : Option Datum) → n + if_some (o >>= as_truth) (λ t. if t then 0 else 0) ≡ n
nothing_more n o = go (o >>= as_truth)
  where
    go : (q : _) → n + if_some q (λ t. if t then 0 else 0) ≡ n
    go None = omega arith
    go (Some true) = omega arith
    go (Some false) = omega arith

mutual
  pub settle-start : (V : Outcomes) (globals : Globals) (known : Resolutions) → Stand V globals known → (e : Tree) → TakesTurns V (start e known) (work e globals)
  settle-start V globals known all (name x) s vals l = settle-name_term V vals (index_of x s) (find x known)
  settle-start V globals known all (op o es) s vals l =
      omega (
        arith,
        settle-strict V vals o (starts es known s),
        ap (strict_turns o) (cden-starts V globals known all es s vals l),
        settle-starts V globals known all es s vals l,
      )
  settle-start V globals known all (members es) s vals l =
      settle-united V vals (length (starts es known s)) (starts es known s) (omega arith) ∙ settle-starts V globals known all es s vals l
  settle-start V globals known all (comp head quals) s vals l =
      settle-quals_term V globals known all quals (start head known) (work head globals) (settle-start V globals known all head) s vals l
  settle-start V globals known all (tab xs body) s vals l =
      tab-turns V vals (bound_terms xs known s) (start body known (under_axes xs s)) (work_bounds xs globals (env_of s vals)) (bound_values xs globals (env_of s vals)) _ (count_axes xs)
      (length-bound_terms xs known s) (settle-bound_terms V globals known all xs s vals l) (cden-bound_terms V globals known all xs s vals l)
      (λ at c. settle-start V globals known all body (under_axes xs s) (push_index at vals) (fits-index xs at s vals c l) ∙ ap (work body globals) (env_of-index xs at s vals c))
  settle-start V globals known all (bindings ds body) s vals l =
      settle-defs_term V globals known all ds (start body known) (work body globals) (settle-start V globals known all body) s vals l
  settle-start V globals known all (choice c a b) s vals l =
      choose-turns V vals (start c known s) (start a known s) (start b known s) _ _ _ _
      (settle-start V globals known all c s vals l) (cden-start V globals known all c s vals l)
      (settle-start V globals known all a s vals l) (settle-start V globals known all b s vals l)
  settle-start V globals known all (conjunction a b) s vals l =
      choose-turns V vals (start a known s) (start b known s) (truth_term false) _ _ _ 0
      (settle-start V globals known all a s vals l) (cden-start V globals known all a s vals l) (settle-start V globals known all b s vals l) refl
  settle-start V globals known all (disjunction a b) s vals l =
      choose-turns V vals (start a known s) (truth_term true) (start b known s) _ _ 0 _
      (settle-start V globals known all a s vals l) (cden-start V globals known all a s vals l) refl (settle-start V globals known all b s vals l)
  settle-start V globals known all (negation a) s vals l =
      choose-turns V vals (start a known s) (truth_term false) (truth_term true) _ _ 0 0
      (settle-start V globals known all a s vals l) (cden-start V globals known all a s vals l) refl refl
      ∙ nothing_more (work a globals (env_of s vals)) (den a globals (env_of s vals))
  settle-start V globals known all (default a b) s vals l =
      default-turns V vals (start a known s) (start b known s) _ _ _
      (settle-start V globals known all a s vals l) (cden-start V globals known all a s vals l) (settle-start V globals known all b s vals l)
  settle-start V globals known all (apply f a) s vals l =
      let-turns V vals (start a known s) (call_term (index_of f s) (find f known) (length s)) _ _ _
      (settle-start V globals known all a s vals l) (cden-start V globals known all a s vals l)
      (λ w. settle-call_term V globals known all f s vals w l)
  settle-start V globals known all (function p body a) s vals l =
      let-turns V vals (start a known s) (matching p known s (start body known) bottom_term) _ _ _
      (settle-start V globals known all a s vals l) (cden-start V globals known all a s vals l)
      (match-turns V globals known all p s vals (start body known) bottom_term (work body globals) l (λ m. refl) (settle-start V globals known all body))
  settle-start V globals known all (summap p body e) s vals l =
      sum-turns V vals (start e known s) (matching p known s (start body known) bottom_term) _ _ _
      (settle-start V globals known all e s vals l) (cden-start V globals known all e s vals l)
      (match-turns V globals known all p s vals (start body known) bottom_term (work body globals) l (λ m. refl) (settle-start V globals known all body))

  settle-starts : (V : Outcomes) (globals : Globals) (known : Resolutions) → Stand V globals known → (es : Trees) (s : Binders) (vals : List Datum) → length s ≡ length vals →
      total (settle V vals) (starts es known s) ≡ works es globals (env_of s vals)
  settle-starts V globals known all no_tree s vals l = refl
  settle-starts V globals known all (tree e es) s vals l =
      omega (arith, settle-start V globals known all e s vals l, settle-starts V globals known all es s vals l)

  settle-bound_terms : (V : Outcomes) (globals : Globals) (known : Resolutions) → Stand V globals known → (xs : Axes) (s : Binders) (vals : List Datum) → length s ≡ length vals →
      total (settle V vals) (bound_terms xs known s) ≡ work_bounds xs globals (env_of s vals)
  settle-bound_terms V globals known all no_axis s vals l = refl
  settle-bound_terms V globals known all (axis x e rest) s vals l =
      omega (arith, settle-start V globals known all e s vals l, settle-bound_terms V globals known all rest s vals l)

  settle-quals_term : (V : Outcomes) (globals : Globals) (known : Resolutions) → Stand V globals known →
      (quals : Quals) (t : Binders → Term) (g : Env → ℕ) → TakesTurns V t g → TakesTurns V (quals_term quals t known) (work_rows quals g globals)
  settle-quals_term V globals known all no_qual t g h s vals l = omega (arith, h s vals l)
  settle-quals_term V globals known all (from p e rest) t g h s vals l =
      big_union-turns V vals (start e known s) (matching p known s (quals_term rest t known) empty_term) _ _ _
      (settle-start V globals known all e s vals l) (cden-start V globals known all e s vals l)
      (match-turns V globals known all p s vals (quals_term rest t known) empty_term (work_rows rest g globals) l (λ m. refl)
      (settle-quals_term V globals known all rest t g h))
  settle-quals_term V globals known all (cells p q e rest) t g h s vals l =
      array-turns V globals known all (axes p) s vals (start e known s) (λ inner. matching q known inner (quals_term rest t known) empty_term) (den e globals (env_of s vals)) (work e globals (env_of s vals))
      (λ w env. on_match (match q globals w env) (work_rows rest g globals) 0 0) l (settle-start V globals known all e s vals l) (cden-start V globals known all e s vals l)
      (λ w inner within k. match-turns V globals known all q inner within (quals_term rest t known) empty_term (work_rows rest g globals) k (λ m. refl)
      (settle-quals_term V globals known all rest t g h) w)
  settle-quals_term V globals known all (same p e rest) t g h s vals l =
      let-turns V vals (start e known s) (matching p known s (quals_term rest t known) empty_term) _ _ _
      (settle-start V globals known all e s vals l) (cden-start V globals known all e s vals l)
      (match-turns V globals known all p s vals (quals_term rest t known) empty_term (work_rows rest g globals) l (λ m. refl)
      (settle-quals_term V globals known all rest t g h))
  settle-quals_term V globals known all (test e rest) t g h s vals l =
      choose-turns V vals (start e known s) (quals_term rest t known s) empty_term _ _ _ _
      (settle-start V globals known all e s vals l) (cden-start V globals known all e s vals l)
      (settle-quals_term V globals known all rest t g h s vals l) refl

  settle-defs_term : (V : Outcomes) (globals : Globals) (known : Resolutions) → Stand V globals known →
      (ds : Defs) (t : Binders → Term) (f : Env → ℕ) → TakesTurns V t f → TakesTurns V (defs_term ds t known) (work_defs ds f globals)
  settle-defs_term V globals known all no_def t f h s vals l = h s vals l
  settle-defs_term V globals known all (def p e rest) t f h s vals l =
      let-turns V vals (start e known s) (matching p known s (defs_term rest t known) bottom_term) _ _ _
      (settle-start V globals known all e s vals l) (cden-start V globals known all e s vals l)
      (match-turns V globals known all p s vals (defs_term rest t known) bottom_term (work_defs rest f globals) l (λ m. refl)
      (settle-defs_term V globals known all rest t f h))
