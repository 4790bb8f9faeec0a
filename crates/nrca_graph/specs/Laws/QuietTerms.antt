-- Terms that take no turns, whatever the values of their variables.
use Rattle.std.proofs.Common.{◌≡◌, ℕ, zero, suc, Bool, true, false, List, [], ◌∷◌, Option, Some, None, refl, if◌then◌else◌, arith}
use Rattle.aql_value.specs.declared.ops.ArithOp.{ArithOp}
use Rattle.aql_value.specs.declared.ops.ArithOp.TheVariants.{Mul, Quotient, Remainder}
use Rattle.aql_value.specs.declared.ops.CompareOp.{CompareOp}
use Rattle.aql_value.specs.declared.ops.CompareOp.TheVariants as compare_op
use Rattle.aql_value.specs.Datum.{Datum}
use Rattle.aql_value.specs.Lists.{Every}
use Rattle.aql_value.specs.Operations.{as_truth}
use Rattle.aql_value.specs.Partial.{◌>>=◌, total, if_some}
use Rattle.aql_value.specs.Strict.{Strict}
use Rattle.nrca_term.specs.Term.{Term}
use Rattle.nrca_term.specs.Nodes.{variable, number, proj_term, arith_term, compare_term, single_term, if_term}
use Rattle.nrca_term.specs.Meaning.{Outcomes, cden}
use Rattle.nrca_term.specs.Turns.{settle}
use Rattle.nrca_term.specs.Rules.{sizes_term, index_variables}
use Rattle.nrca_term.specs.Laws.Variants.{settle-strict, settle-if}
use Rattle.nrca_graph.specs.ArrayFree.{equal_term, number_at, times, product_term, where_zero, over_rest, further_numbers, index_of_cell}

-- the term takes no turns
abbrev pub Quiet : Outcomes → Term → Type 0
Quiet V t = (env : List Datum) → settle V env t ≡ 0

-- terms that take none take none together
quiet-total : (V : Outcomes) (env : List Datum) (ts : List Term) → Every (Quiet V) ts → total (settle V env) ts ≡ 0
quiet-total V env [] h = refl
quiet-total V env (t ∷ ts) h = omega (arith, h.0 env, quiet-total V env ts h.1)

pub quiet-variable : (V : Outcomes) (i : ℕ) → Quiet V (variable i)
quiet-variable V i env = refl

pub quiet-proj : (V : Outcomes) (at of : ℕ) (t : Term) → Quiet V t → Quiet V (proj_term at of t)
quiet-proj V at of t h env = omega (arith, settle-strict V env (Strict.proj at of) (t ∷ []), h env)

pub quiet-compare : (V : Outcomes) (op : CompareOp) (t u : Term) → Quiet V t → Quiet V u → Quiet V (compare_term op t u)
quiet-compare V op t u h k env = omega (arith, settle-strict V env (Strict.compare op) (t ∷ u ∷ []), h env, k env)

pub quiet-arith : (V : Outcomes) (op : ArithOp) (t u : Term) → Quiet V t → Quiet V u → Quiet V (arith_term op t u)
quiet-arith V op t u h k env = omega (arith, settle-strict V env (Strict.arith op) (t ∷ u ∷ []), h env, k env)

pub quiet-single : (V : Outcomes) (t : Term) → Quiet V t → Quiet V (single_term t)
quiet-single V t h env = omega (arith, settle-strict V env Strict.single (t ∷ []), h env)

pub quiet-if : (V : Outcomes) (c t u : Term) → Quiet V c → Quiet V t → Quiet V u → Quiet V (if_term c t u)
quiet-if V c t u h k l env = omega (arith, settle-if V env c t u, h env, of (cden V env c >>= as_truth))
  where
    of : (o : Option Bool) → if_some o (λ b. if b then settle V env t else settle V env u) ≡ 0
    of None = refl
    of (Some true) = k env
    of (Some false) = l env

-- several terms as one
pub quiet-sizes : (V : Outcomes) (ts : List Term) → Every (Quiet V) ts → Quiet V (sizes_term ts)
quiet-sizes V [] h env = refl
quiet-sizes V (t ∷ []) h env = h.0 env
quiet-sizes V (t ∷ u ∷ ts) h env = omega (arith, settle-strict V env Strict.tuple (t ∷ u ∷ ts), quiet-total V env (t ∷ u ∷ ts) h)

pub quiet-variables : (V : Outcomes) (k : ℕ) → Every (Quiet V) (index_variables k)
quiet-variables V zero = tt
quiet-variables V (suc k) = (quiet-variable V k, quiet-variables V k)

-- a number of an index
pub quiet-number : (V : Outcomes) (rank j i : ℕ) → Quiet V (number_at rank j (variable i))
quiet-number V zero j i = quiet-proj V j zero (proj_term 1 2 (variable i)) (quiet-proj V 1 2 (variable i) (quiet-variable V i))
quiet-number V (suc zero) j i = quiet-proj V 1 2 (variable i) (quiet-variable V i)
quiet-number V (suc (suc rank)) j i = quiet-proj V j (suc (suc rank)) (proj_term 1 2 (variable i)) (quiet-proj V 1 2 (variable i) (quiet-variable V i))

-- products
quiet-times : (V : Outcomes) (p : Term) (ts : List Term) → Quiet V p → Every (Quiet V) ts → Quiet V (times p ts)
quiet-times V p [] h k = h
quiet-times V p (t ∷ ts) h k = quiet-times V (arith_term Mul p t) ts (quiet-arith V Mul p t h k.0) k.1

pub quiet-product : (V : Outcomes) (ts : List Term) → Every (Quiet V) ts → Quiet V (product_term ts)
quiet-product V [] h = λ env. refl
quiet-product V (t ∷ ts) h = quiet-times V t ts h.0 h.1

-- the test of a literal
pub quiet-where_zero : (V : Outcomes) (ts : List Term) (z t : Term) → Every (Quiet V) ts → Quiet V z → Quiet V t → Quiet V (where_zero ts z t)
quiet-where_zero V [] z t h k l = l
quiet-where_zero V (d ∷ ts) z t h k l =
    quiet-if V (equal_term d (number 0)) z (where_zero ts z t) (quiet-compare V compare_op.Equal d (number 0) h.0 (λ env. refl)) k (quiet-where_zero V ts z t h.1 k l)

-- the numbers of a cell's index
quiet-over : (V : Outcomes) (m : ℕ) (ts : List Term) → Every (Quiet V) ts → Quiet V (over_rest m ts)
quiet-over V m [] h = λ env. refl
quiet-over V m (t ∷ ts) h = quiet-arith V Quotient (number m) (product_term (t ∷ ts)) (λ env. refl) (quiet-product V (t ∷ ts) h)

quiet-further : (V : Outcomes) (m : ℕ) (ts : List Term) → Every (Quiet V) ts → Every (Quiet V) (further_numbers m ts)
quiet-further V m [] h = tt
quiet-further V m (t ∷ ts) h = (quiet-arith V Remainder (over_rest m ts) t (quiet-over V m ts h.1) h.0, quiet-further V m ts h.1)

pub quiet-index_of_cell : (V : Outcomes) (m : ℕ) (ts : List Term) → Every (Quiet V) ts → Every (Quiet V) (index_of_cell m ts)
quiet-index_of_cell V m [] h = tt
quiet-index_of_cell V m (t ∷ ts) h = (quiet-over V m ts h.1, quiet-further V m ts h.1)
