-- What a query denotes: a value, or None where it is undefined.
use Rattle.std.specs.Prelude.{ℕ, true, false, List, [], ◌∷◌, Option, Some, None, if◌then◌else◌}
use Rattle.aql_value.specs.Datum.{Datum, natural, truth}
use Rattle.aql_value.specs.Indices.{indices}
use Rattle.aql_value.specs.Lists.{below}
use Rattle.aql_value.specs.Partial.{◌>>=◌, or_else, each, concat}
use Rattle.aql_value.specs.Operations.{as_natural, as_truth, as_set, dims_of, set_of, cell_of, sum_of, array_of}
use Rattle.aql_value.specs.Strict.{strict_value}
use Rattle.aql_syntax.specs.Tree.{Tree, name, op, members, comp, tab, bindings, choice, conjunction, disjunction, negation, default, apply, function, summap, Trees, no_tree, tree, Axes, no_axis, axis, Quals, no_qual, from, cells, same, test, Defs, no_def, def, count_pats, axes}
use Rattle.aql_syntax.specs.Names.{find}
use Rattle.aql_syntax.specs.Matching.{Env, Global, outcome, macro, Globals, lookup, on_match, match, match_axes}

-- a macro's meaning at its argument's value
abbrev pub call : Option Global → Datum → Option Datum
call None w = None
call (Some (outcome o)) w = None
call (Some (macro f turns)) w = f w

-- in head position a name that means a local name is no macro
abbrev pub in_head : Option Datum → Option Global → Option Global
in_head (Some w) g = None
in_head None g = g

-- the lists that f gives at each index below the dimensions, in row-major order, one after another
abbrev pub over_indices : {A : Type 0} → List ℕ → (List ℕ → Option (List A)) → Option (List A)
over_indices [] f = f []
over_indices (d ∷ ds) f = each (λ i. over_indices ds (λ at. f (i ∷ at))) (below d) >>= λ found. Some (concat found)

-- the names of a tabulation's indices with the numbers of an index
abbrev pub at_index : Axes → List ℕ → Env → Env
at_index no_axis at env = env
at_index (axis x e rest) [] env = env
at_index (axis x e rest) (i ∷ at) env = at_index rest at ((x, natural i) ∷ env)

abbrev mutual
  -- the value of an expression, none where it is undefined
  pub den : Tree → Globals → Env → Option Datum
  den (name x) globals env = lookup globals env x
  den (op s es) globals env = dens es globals env >>= strict_value s
  den (members es) globals env = dens es globals env >>= λ ws. Some (set_of ws)
  den (comp head quals) globals env = rows quals globals env >>= each (den head globals) >>= λ ws. Some (set_of ws)
  den (tab xs body) globals env =
      bound_values xs globals env >>= each as_natural >>= λ ds.
      each (λ at. den body globals (at_index xs at env)) (indices ds) >>= array_of ds
  den (bindings ds body) globals env = defs ds (den body globals) globals env
  den (choice c a b) globals env = den c globals env >>= as_truth >>= λ t. if t then den a globals env else den b globals env
  den (conjunction a b) globals env = den a globals env >>= as_truth >>= λ t. if t then den b globals env else Some (truth false)
  den (disjunction a b) globals env = den a globals env >>= as_truth >>= λ t. if t then Some (truth true) else den b globals env
  den (negation a) globals env = den a globals env >>= as_truth >>= λ t. if t then Some (truth false) else Some (truth true)
  den (default a b) globals env = or_else (den a globals env) (den b globals env)
  den (apply f a) globals env = den a globals env >>= call (in_head (find f env) (find f globals))
  den (function p body a) globals env = den a globals env >>= λ w. on_match (match p globals w env) (den body globals) None None
  den (summap p body e) globals env =
      den e globals env >>= as_set >>= each (λ w. on_match (match p globals w env) (den body globals) None None) >>= sum_of

  -- the values of all, from left to right
  pub dens : Trees → Globals → Env → Option (List Datum)
  dens no_tree globals env = Some []
  dens (tree e es) globals env = den e globals env >>= λ w. dens es globals env >>= λ ws. Some (w ∷ ws)

  -- the values of a tabulation's bounds, which see none of its indices
  pub bound_values : Axes → Globals → Env → Option (List Datum)
  bound_values no_axis globals env = Some []
  bound_values (axis x e rest) globals env = den e globals env >>= λ w. bound_values rest globals env >>= λ ws. Some (w ∷ ws)

  -- the rows of names that the qualifiers make, in order
  pub rows : Quals → Globals → Env → Option (List Env)
  rows no_qual globals env = Some (env ∷ [])
  rows (from p e rest) globals env =
      den e globals env >>= as_set >>= each (λ w. on_match (match p globals w env) (rows rest globals) (Some []) None)
      >>= λ found. Some (concat found)
  rows (cells p q e rest) globals env =
      den e globals env >>= λ a. dims_of (count_pats (axes p)) a >>= λ ds.
      over_indices ds (λ at. on_match (match_axes (axes p) globals at env) (λ inner.
      cell_of a at >>= λ w. on_match (match q globals w inner) (rows rest globals) (Some []) None) (Some []) None)
  rows (same p e rest) globals env =
      den e globals env >>= λ w. on_match (match p globals w env) (rows rest globals) (Some []) None
  rows (test e rest) globals env =
      den e globals env >>= as_truth >>= λ t. if t then rows rest globals env else Some []

  -- f under the names that the bindings of a let bind, each seeing those before it
  pub defs : Defs → (Env → Option Datum) → Globals → Env → Option Datum
  defs no_def f globals env = f env
  defs (def p e rest) f globals env = den e globals env >>= λ w. on_match (match p globals w env) (defs rest f globals) None None
