-- How many loop turns a query takes as written. All parts that are evaluated are counted, whatever is undefined beside them.
use Rattle.std.specs.Prelude.{ℕ, ◌+◌, ◌*◌, List, [], ◌∷◌, length, Option, Some, None, if◌then◌else◌}
use Rattle.aql_value.specs.Datum.{Datum}
use Rattle.aql_value.specs.Indices.{indices}
use Rattle.aql_value.specs.Lists.{below}
use Rattle.aql_value.specs.Partial.{◌>>=◌, each, total, if_some}
use Rattle.aql_value.specs.Operations.{as_natural, as_truth, as_set, dims_of, cell_of}
use Rattle.aql_value.specs.Strict.{strict_turns}
use Rattle.aql_syntax.specs.Tree.{Tree, name, op, members, comp, tab, bindings, choice, conjunction, disjunction, negation, default, apply, function, summap, Trees, no_tree, tree, Axes, no_axis, axis, Quals, no_qual, from, cells, same, test, Defs, no_def, def, count_pats, axes}
use Rattle.aql_syntax.specs.Names.{find}
use Rattle.aql_syntax.specs.Matching.{Env, Global, outcome, macro, Globals, on_match, match, match_axes}
use Rattle.aql_syntax.specs.Denotation.{in_head, at_index, den, dens, bound_values}

-- the turns of a macro's body at its argument's value
abbrev pub turns_of_call : Option Global → Datum → ℕ
turns_of_call None w = 0
turns_of_call (Some (outcome o)) w = 0
turns_of_call (Some (macro f turns)) w = turns w

-- n where there is no value
abbrev pub if_none : Option Datum → ℕ → ℕ
if_none None n = n
if_none (Some w) n = 0

-- the turns over the indices below the dimensions, twice the sum of their prefix products, with those of f at each index
abbrev pub turns_over : List ℕ → (List ℕ → ℕ) → ℕ
turns_over [] f = f []
turns_over (d ∷ ds) f = 2 * d + total (λ i. turns_over ds (λ at. f (i ∷ at))) (below d)

abbrev mutual
  -- the turns of an expression, as it is written
  pub work : Tree → Globals → Env → ℕ
  work (name x) globals env = 0
  work (op s es) globals env = works es globals env + strict_turns s (dens es globals env)
  work (members es) globals env = works es globals env
  work (comp head quals) globals env = work_rows quals (work head globals) globals env
  work (tab xs body) globals env =
      work_bounds xs globals env + if_some (bound_values xs globals env >>= each as_natural) (λ ds.
      length (indices ds) + total (λ at. work body globals (at_index xs at env)) (indices ds))
  work (bindings ds body) globals env = work_defs ds (work body globals) globals env
  work (choice c a b) globals env =
      work c globals env + if_some (den c globals env >>= as_truth) (λ t. if t then work a globals env else work b globals env)
  work (conjunction a b) globals env =
      work a globals env + if_some (den a globals env >>= as_truth) (λ t. if t then work b globals env else 0)
  work (disjunction a b) globals env =
      work a globals env + if_some (den a globals env >>= as_truth) (λ t. if t then 0 else work b globals env)
  work (negation a) globals env = work a globals env
  work (default a b) globals env = work a globals env + if_none (den a globals env) (work b globals env)
  work (apply f a) globals env =
      work a globals env + if_some (den a globals env) (turns_of_call (in_head (find f env) (find f globals)))
  work (function p body a) globals env =
      work a globals env + if_some (den a globals env) (λ w. on_match (match p globals w env) (work body globals) 0 0)
  work (summap p body e) globals env =
      work e globals env + if_some (den e globals env >>= as_set) (λ ws.
      length ws + total (λ w. on_match (match p globals w env) (work body globals) 0 0) ws)

  -- the turns of several expressions
  pub works : Trees → Globals → Env → ℕ
  works no_tree globals env = 0
  works (tree e es) globals env = work e globals env + works es globals env

  -- the turns of the bounds of indices
  pub work_bounds : Axes → Globals → Env → ℕ
  work_bounds no_axis globals env = 0
  work_bounds (axis x e rest) globals env = work e globals env + work_bounds rest globals env

  -- the turns of qualifiers, with those of the head at each row
  pub work_rows : Quals → (Env → ℕ) → Globals → Env → ℕ
  work_rows no_qual head globals env = head env
  work_rows (from p e rest) head globals env =
      work e globals env + if_some (den e globals env >>= as_set) (λ ws.
      length ws + total (λ w. on_match (match p globals w env) (work_rows rest head globals) 0 0) ws)
  work_rows (cells p q e rest) head globals env =
      work e globals env + if_some (den e globals env) (λ a. if_some (dims_of (count_pats (axes p)) a) (λ ds.
      turns_over ds (λ at. on_match (match_axes (axes p) globals at env) (λ inner.
      if_some (cell_of a at) (λ w. on_match (match q globals w inner) (work_rows rest head globals) 0 0)) 0 0)))
  work_rows (same p e rest) head globals env =
      work e globals env + if_some (den e globals env) (λ w. on_match (match p globals w env) (work_rows rest head globals) 0 0)
  work_rows (test e rest) head globals env =
      work e globals env + if_some (den e globals env >>= as_truth) (λ t. if t then work_rows rest head globals env else 0)

  -- the turns of a let's bindings, with those of its body
  pub work_defs : Defs → (Env → ℕ) → Globals → Env → ℕ
  work_defs no_def body globals env = body env
  work_defs (def p e rest) body globals env =
      work e globals env + if_some (den e globals env) (λ w. on_match (match p globals w env) (work_defs rest body globals) 0 0)
