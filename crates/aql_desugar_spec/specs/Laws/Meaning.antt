-- The start term is worth what the query denotes, and undefined where that is.
use Rattle.std.proofs.Common.{◌≡◌, List, [], length, Option, Some, None, refl, ap, ◌∙◌, arith, suc}
use Rattle.aql_value.specs.Datum.{Datum, set, nil}
use Rattle.aql_value.specs.Operations.{as_truth, as_set, set_of, sum_of, union_all, push_index}
use Rattle.aql_value.specs.Partial.{◌>>=◌, or_else, each}
use Rattle.aql_value.specs.Strict.{Strict, strict_value}
use Rattle.aql_syntax.specs.Tree.{Tree, name, op, members, comp, tab, bindings, choice, conjunction, disjunction, negation, default, apply, function, summap, Trees, no_tree, tree, Axes, no_axis, axis, Quals, no_qual, from, cells, same, test, Defs, no_def, def, axes, count_axes}
use Rattle.aql_syntax.specs.Matching.{Env, Globals, on_match, match}
use Rattle.aql_syntax.specs.Denotation.{den, dens, bound_values, rows, defs}
use Rattle.nrca_term.specs.Term.{Term}
use Rattle.nrca_term.specs.Meaning.{Outcomes, cden}
use Rattle.nrca_term.specs.Nodes.{bottom_term, empty_term}
use Rattle.nrca_term.specs.Laws.Variants.{cden-strict}
use Rattle.aql_desugar_spec.specs.Start.{Binders, Resolutions, matching, under_axes, start, starts, bound_terms, quals_term, defs_term}
use Rattle.aql_desugar_spec.specs.Scopes.{env_of, Stand}
use Rattle.aql_desugar_spec.specs.Laws.Scopes.{cden-name_term, cden-call_term, fits-index, env_of-index}
use Rattle.aql_desugar_spec.specs.Laws.Nodes.{one-worth, choose-worth, let-worth, loop-worth, heads, matched_heads, let_heads, test_heads, loop_heads, one_head}
use Rattle.aql_desugar_spec.specs.Laws.Matching.{IsWorth, match-worth}
use Rattle.aql_desugar_spec.specs.Laws.Unions.{cden-united}
use Rattle.aql_desugar_spec.specs.Laws.Tabulations.{tab-worth}
use Rattle.aql_desugar_spec.specs.Laws.Arrays.{array-worth}

pub length-bound_terms : (xs : Axes) (known : Resolutions) (s : Binders) → length (bound_terms xs known s) ≡ count_axes xs
length-bound_terms no_axis known s = refl
length-bound_terms (axis x e rest) known s = ap suc (length-bound_terms rest known s)

-- a first value and else a second
or_else-same : (o p q r : Option Datum) → o ≡ q → p ≡ r → or_else o p ≡ or_else q r
or_else-same o p q r h k = λ i. or_else (h i) (k i)

mutual
  pub cden-start : (V : Outcomes) (globals : Globals) (known : Resolutions) → Stand V globals known → (e : Tree) → IsWorth V (start e known) (den e globals)
  cden-start V globals known all (name x) s vals l = cden-name_term V globals known all x s vals l
  cden-start V globals known all (op o es) s vals l =
      cden-strict V vals o (starts es known s) ∙ ap (λ r. r >>= strict_value o) (cden-starts V globals known all es s vals l)
  cden-start V globals known all (members es) s vals l =
      cden-united V vals (length (starts es known s)) (starts es known s) (omega arith)
      ∙ ap (λ o. o >>= λ ws. Some (set_of ws)) (cden-starts V globals known all es s vals l)
  cden-start V globals known all (comp head quals) s vals l =
      cden-quals_term V globals known all quals (start head known) (den head globals) (cden-start V globals known all head) s vals l
  cden-start V globals known all (tab xs body) s vals l =
      tab-worth V vals (bound_terms xs known s) (start body known (under_axes xs s)) (bound_values xs globals (env_of s vals)) _ (count_axes xs)
      (length-bound_terms xs known s) (cden-bound_terms V globals known all xs s vals l)
      (λ at c. cden-start V globals known all body (under_axes xs s) (push_index at vals) (fits-index xs at s vals c l) ∙ ap (den body globals) (env_of-index xs at s vals c))
  cden-start V globals known all (bindings ds body) s vals l =
      cden-defs_term V globals known all ds (start body known) (den body globals) (cden-start V globals known all body) s vals l
  cden-start V globals known all (choice c a b) s vals l =
      choose-worth (cden-start V globals known all c s vals l) (cden-start V globals known all a s vals l) (cden-start V globals known all b s vals l)
  cden-start V globals known all (conjunction a b) s vals l =
      choose-worth (cden-start V globals known all a s vals l) (cden-start V globals known all b s vals l) refl
  cden-start V globals known all (disjunction a b) s vals l =
      choose-worth (cden-start V globals known all a s vals l) refl (cden-start V globals known all b s vals l)
  cden-start V globals known all (negation a) s vals l = choose-worth (cden-start V globals known all a s vals l) refl refl
  cden-start V globals known all (default a b) s vals l =
      or_else-same (cden V vals (start a known s)) (cden V vals (start b known s)) (den a globals (env_of s vals)) (den b globals (env_of s vals))
      (cden-start V globals known all a s vals l) (cden-start V globals known all b s vals l)
  cden-start V globals known all (apply f a) s vals l =
      let-worth (cden-start V globals known all a s vals l) (λ w. cden-call_term V globals known all f s vals w l)
  cden-start V globals known all (function p body a) s vals l =
      let-worth (cden-start V globals known all a s vals l)
      (match-worth V globals known all p s vals (start body known) bottom_term (den body globals) None l (λ m. refl) (cden-start V globals known all body))
  cden-start V globals known all (summap p body e) s vals l =
      ap (λ o. o >>= sum_of) (loop-worth (cden-start V globals known all e s vals l)
      (match-worth V globals known all p s vals (start body known) bottom_term (den body globals) None l (λ m. refl) (cden-start V globals known all body)))

  pub cden-starts : (V : Outcomes) (globals : Globals) (known : Resolutions) → Stand V globals known → (es : Trees) (s : Binders) (vals : List Datum) → length s ≡ length vals →
      each (cden V vals) (starts es known s) ≡ dens es globals (env_of s vals)
  cden-starts V globals known all no_tree s vals l = refl
  cden-starts V globals known all (tree e es) s vals l =
      rw (cden-start V globals known all e s vals l, cden-starts V globals known all es s vals l) refl

  pub cden-bound_terms : (V : Outcomes) (globals : Globals) (known : Resolutions) → Stand V globals known → (xs : Axes) (s : Binders) (vals : List Datum) → length s ≡ length vals →
      each (cden V vals) (bound_terms xs known s) ≡ bound_values xs globals (env_of s vals)
  cden-bound_terms V globals known all no_axis s vals l = refl
  cden-bound_terms V globals known all (axis x e rest) s vals l =
      rw (cden-start V globals known all e s vals l, cden-bound_terms V globals known all rest s vals l) refl

  cden-quals_term : (V : Outcomes) (globals : Globals) (known : Resolutions) → Stand V globals known →
      (quals : Quals) (t : Binders → Term) (g : Env → Option Datum) → IsWorth V t g → IsWorth V (quals_term quals t known) (λ env. heads g (rows quals globals env))
  cden-quals_term V globals known all no_qual t g h s vals l = one-worth (strict_value Strict.single) (h s vals l) ∙ one_head (g (env_of s vals))
  cden-quals_term V globals known all (from p e rest) t g h s vals l =
      ap (λ o. o >>= union_all) (loop-worth (cden-start V globals known all e s vals l)
      (λ w. match-worth V globals known all p s vals (quals_term rest t known) empty_term (λ env. heads g (rows rest globals env)) (Some (set nil)) l (λ m. refl)
      (cden-quals_term V globals known all rest t g h) w ∙ matched_heads g (match p globals w (env_of s vals)) (rows rest globals)))
      ∙ loop_heads g (den e globals (env_of s vals) >>= as_set) (λ w. on_match (match p globals w (env_of s vals)) (rows rest globals) (Some []) None)
  cden-quals_term V globals known all (cells p q e rest) t g h s vals l =
      array-worth V globals known all (axes p) s vals (start e known s) (λ inner. matching q known inner (quals_term rest t known) empty_term) (den e globals (env_of s vals)) g
      (λ w env. on_match (match q globals w env) (rows rest globals) (Some []) None) l (cden-start V globals known all e s vals l)
      (λ w inner within k. match-worth V globals known all q inner within (quals_term rest t known) empty_term (λ env. heads g (rows rest globals env)) (Some (set nil)) k (λ m. refl)
      (cden-quals_term V globals known all rest t g h) w ∙ matched_heads g (match q globals w (env_of inner within)) (rows rest globals))
  cden-quals_term V globals known all (same p e rest) t g h s vals l =
      let-worth (cden-start V globals known all e s vals l)
      (λ w. match-worth V globals known all p s vals (quals_term rest t known) empty_term (λ env. heads g (rows rest globals env)) (Some (set nil)) l (λ m. refl)
      (cden-quals_term V globals known all rest t g h) w ∙ matched_heads g (match p globals w (env_of s vals)) (rows rest globals))
      ∙ let_heads g (den e globals (env_of s vals)) (λ w. on_match (match p globals w (env_of s vals)) (rows rest globals) (Some []) None)
  cden-quals_term V globals known all (test e rest) t g h s vals l =
      choose-worth (cden-start V globals known all e s vals l) (cden-quals_term V globals known all rest t g h s vals l) refl
      ∙ test_heads g (den e globals (env_of s vals) >>= as_truth) (rows rest globals (env_of s vals))

  cden-defs_term : (V : Outcomes) (globals : Globals) (known : Resolutions) → Stand V globals known →
      (ds : Defs) (t : Binders → Term) (f : Env → Option Datum) → IsWorth V t f → IsWorth V (defs_term ds t known) (defs ds f globals)
  cden-defs_term V globals known all no_def t f h s vals l = h s vals l
  cden-defs_term V globals known all (def p e rest) t f h s vals l =
      let-worth (cden-start V globals known all e s vals l)
      (match-worth V globals known all p s vals (defs_term rest t known) bottom_term (defs rest f globals) None l (λ m. refl)
      (cden-defs_term V globals known all rest t f h))
