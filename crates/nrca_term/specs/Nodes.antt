-- The terms of the variants, by name.
use Rattle.std.specs.Prelude.{ℕ, Bool, List, [], ◌∷◌, length}
use Rattle.aql_value.specs.declared.ops.ArithOp.{ArithOp}
use Rattle.aql_value.specs.declared.ops.CompareOp.{CompareOp}
use Rattle.aql_value.specs.declared.ops.CompareOp.TheVariants as compare_op
use Rattle.aql_value.specs.Strict.{Strict}
use Rattle.nrca_term.specs.Term.{Term, node, none, part, plain, Form}

-- variable i, the innermost being 0
abbrev pub variable : ℕ → Term
variable i = node (Form.var i) none

-- position n, counted from 1
abbrev pub position : ℕ → Term
position n = node (Form.global n) none

-- a number
abbrev pub number : ℕ → Term
number n = node (Form.strict (Strict.nat n)) none

-- a truth value
abbrev pub truth_term : Bool → Term
truth_term b = node (Form.strict (Strict.bool b)) none

-- a string
abbrev pub text_term : List ℕ → Term
text_term s = node (Form.strict (Strict.text s)) none

-- the term that has no value
abbrev pub bottom_term : Term
bottom_term = node (Form.strict Strict.bottom) none

-- a body under one variable, bound to the value of a term
abbrev pub let_term : Term → Term → Term
let_term e b = node Form.bind (part 0 e (part 1 b none))

-- a choice between two terms by a test
abbrev pub if_term : Term → Term → Term → Term
if_term c a b = node Form.choose (plain (c ∷ a ∷ b ∷ []) none)

-- the first term, or the second where the first has no value
abbrev pub default_term : Term → Term → Term
default_term a b = node Form.default (plain (a ∷ b ∷ []) none)

-- a tuple
abbrev pub tuple_term : List Term → Term
tuple_term ts = node (Form.strict Strict.tuple) (plain ts none)

-- a part of a tuple, by its place among so many, counted from 1
abbrev pub proj_term : (at of : ℕ) → Term → Term
proj_term at of a = node (Form.strict (Strict.proj at of)) (plain (a ∷ []) none)

-- an arithmetic operation of two terms
abbrev pub arith_term : ArithOp → Term → Term → Term
arith_term op a b = node (Form.strict (Strict.arith op)) (plain (a ∷ b ∷ []) none)

-- a comparison of two terms
abbrev pub compare_term : CompareOp → Term → Term → Term
compare_term op a b = node (Form.strict (Strict.compare op)) (plain (a ∷ b ∷ []) none)

-- whether the first term is below the second
abbrev pub less_term : Term → Term → Term
less_term a b = compare_term compare_op.Less a b

-- the empty set
abbrev pub empty_term : Term
empty_term = node (Form.strict Strict.empty) none

-- the set of one member
abbrev pub single_term : Term → Term
single_term a = node (Form.strict Strict.single) (plain (a ∷ []) none)

-- the union of two sets
abbrev pub union_term : Term → Term → Term
union_term a b = node (Form.strict Strict.union) (plain (a ∷ b ∷ []) none)

-- a loop of either kind, by its form
abbrev pub loop_term : Form → Term → Term → Term
loop_term f e b = node f (part 0 e (part 1 b none))

-- the union of the body's sets over the members of a set
abbrev pub big_union_term : Term → Term → Term
big_union_term e b = loop_term Form.big_union e b

-- the sum of the body's numbers over the members of a set
abbrev pub sum_term : Term → Term → Term
sum_term e b = loop_term Form.sum e b

-- the set of the numbers below a number
abbrev pub gen_term : Term → Term
gen_term a = node (Form.strict Strict.gen) (plain (a ∷ []) none)

-- the one member of a set
abbrev pub get_term : Term → Term
get_term a = node (Form.strict Strict.get) (plain (a ∷ []) none)

-- the array of these dimensions whose cells are the body's values at the indices
abbrev pub tab_term : List Term → Term → Term
tab_term ds b = node (Form.tab (length ds)) (plain ds (part (length ds) b none))

-- the cell of an array at an index
abbrev pub sub_term : Term → List Term → Term
sub_term a at = node (Form.strict Strict.sub) (plain (a ∷ at) none)

-- the dimensions of an array of rank k
abbrev pub dim_term : ℕ → Term → Term
dim_term k a = node (Form.strict (Strict.dim k)) (plain (a ∷ []) none)

-- the array of rank k whose cells are the sets of what a set of pairs has at each index
abbrev pub index_term : ℕ → Term → Term
index_term k a = node (Form.strict (Strict.index k)) (plain (a ∷ []) none)

-- the array of these dimensions and cells
abbrev pub literal_term : List Term → List Term → Term
literal_term ds cs = node (Form.strict (Strict.literal (length ds))) (plain ds (plain cs none))
