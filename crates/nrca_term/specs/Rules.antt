-- The rules of the rewriting: left side, right side and condition; one step at a place, and chains of steps.
use Rattle.std.specs.Prelude.{◌≡◌, ℕ, zero, suc, ◌+◌, ◌≤◌, Bool, true, false, not, ◌⊎◌, nat_eq, List, [], ◌∷◌, length, map, filter, Option, Some, None, if◌then◌else◌}
use Rattle.std.specs.List.{slice_get}
use Rattle.aql_value.specs.declared.ops.ArithOp.{ArithOp}
use Rattle.aql_value.specs.declared.ops.CompareOp.{CompareOp}
use Rattle.aql_value.specs.Datum as datum
use Rattle.aql_value.specs.Datum.{Datum}
use Rattle.aql_value.specs.Indices.{indices, product}
use Rattle.aql_value.specs.Lists.{Every, below}
use Rattle.aql_value.specs.Ops.{arith_by, compare_by}
use Rattle.aql_value.specs.Order.{datum_cmp}
use Rattle.aql_value.specs.Strict.{Strict}
use Rattle.nrca_term.specs.declared.trace.Rule.{Rule}
use Rattle.nrca_term.specs.declared.trace.Rule.TheVariants.{B1, K1, I1, I2, L1, L2, L3, P1, P2, S1, S2, S3, S4, S5, S6, S7, S8, S9, A1, A2, A3, A4, A5, A6, A7, C1, C2, C3, C4, N1, N2}
use Rattle.nrca_term.specs.declared.trace.Step as code
use Rattle.nrca_term.specs.Term.{Term, Parts, node, none, part, Form, child_of, parts_of, form_of}
use Rattle.nrca_term.specs.Nodes.{variable, number, truth_term, text_term, bottom_term, let_term, if_term, default_term, tuple_term, proj_term, arith_term, compare_term, less_term, empty_term, single_term, union_term, loop_term, big_union_term, sum_term, gen_term, get_term, tab_term, sub_term, dim_term, literal_term}
use Rattle.nrca_term.specs.Meaning.{Outcomes, cden}
use Rattle.nrca_term.specs.Places.{place_of, reach, put_at}
use Rattle.nrca_term.specs.Subst.{shift_term, subst_term, uses_of, is_strict, strict_uses}
use Rattle.nrca_term.specs.Facts.{Context, facts_at, LiterallyKnown, domain, test, denied}

-- a part of a term, by the way down to it
abbrev pub Way : Type 0
Way = List ℕ

-- a loop's form, and what it is over the empty set
abbrev pub LoopOf : Form → Term → Type 0
LoopOf Form.big_union z = z ≡ empty_term
LoopOf Form.sum z = z ≡ number 0
LoopOf _ z = ⊥

-- the sizes of a tabulation with these bounds, as its dimensions are given: one number, or a tuple
abbrev pub sizes_term : List Term → Term
sizes_term [] = tuple_term []
sizes_term (d ∷ []) = d
sizes_term (d ∷ e ∷ ds) = tuple_term (d ∷ e ∷ ds)

-- dimension j of an array of rank k, counted from 1
abbrev pub dimension_term : ℕ → Term → ℕ → Term
dimension_term (suc zero) a j = dim_term 1 a
dimension_term k a j = proj_term j k (dim_term k a)

-- the dimensions of an array of rank k in order
abbrev pub dimension_terms : ℕ → Term → List Term
dimension_terms k a = map (λ j. dimension_term k a (suc j)) (below k)

-- the variables of an index of rank k in order: the last index is variable 0
abbrev pub index_variables : ℕ → List Term
index_variables zero = []
index_variables (suc n) = variable n ∷ index_variables n

-- each of the terms under a name of its own, n names standing around already
abbrev pub lets : ℕ → List Term → Term → Term
lets n [] body = body
lets n (i ∷ is) body = let_term (shift_term 0 n i) (lets (suc n) is body)

-- the body behind tests that each of the k innermost variables is below its bound
abbrev pub guard : ℕ → List Term → Term → Term
guard k [] b = b
guard k (d ∷ ds) b = if_term (less_term (variable (length ds)) (shift_term 0 k d)) (guard k ds b) bottom_term

-- a subscript of a tabulation: the body where the indices are below the bounds
abbrev pub beta : List Term → Term → List Term → Term
beta ds b is = lets 0 is (guard (length ds) ds b)

-- whether a node is `Dim` of variable `at`
abbrev pub is_dim_of : ℕ → Form → Parts → Bool
is_dim_of at (Form.strict (Strict.dim k)) (part zero (node (Form.var i) none) none) = nat_eq i at
is_dim_of at _ _ = false

abbrev mutual
  -- the term with `size` for each `Dim` of variable `at`
  pub replace_dims : ℕ → Term → Term → Term
  replace_dims at size (node f ps) = if is_dim_of at f ps then size else node f (replace_dims_parts at size ps)

  -- the same in each part, under its own variables
  pub replace_dims_parts : ℕ → Term → Parts → Parts
  replace_dims_parts at size none = none
  replace_dims_parts at size (part k t ps) = part k (replace_dims (at + k) (shift_term 0 k size) t) (replace_dims_parts at size ps)

abbrev mutual
  -- how many `Dim` of variable `at` a term has
  pub dims_of_var : ℕ → Term → ℕ
  dims_of_var at (node f ps) = (if is_dim_of at f ps then 1 else 0) + parts_dims_of_var at ps

  -- how often the parts ask for the dimensions of the variable
  pub parts_dims_of_var : ℕ → Parts → ℕ
  parts_dims_of_var at none = 0
  parts_dims_of_var at (part k t ps) = dims_of_var (at + k) t + parts_dims_of_var at ps

-- a variable or a number
abbrev pub IsVariableOrNumber : Term → Type 0
IsVariableOrNumber d = ((i : ℕ) × (d ≡ variable i)) ⊎ ((n : ℕ) × (d ≡ number n))

-- an atom, and what has to be defined for it to be one: a position
abbrev pub Atom : Term → List Way → Type 0
Atom (node (Form.var i) ps) ws = (ps ≡ none) × (ws ≡ [])
Atom (node (Form.global n) ps) ws = (ps ≡ none) × (ws ≡ (0 ∷ []) ∷ [])
Atom (node (Form.strict (Strict.nat n)) ps) ws = (ps ≡ none) × (ws ≡ [])
Atom (node (Form.strict (Strict.bool b)) ps) ws = (ps ≡ none) × (ws ≡ [])
Atom (node (Form.strict (Strict.text s)) ps) ws = (ps ≡ none) × (ws ≡ [])
Atom (node (Form.strict Strict.empty) ps) ws = (ps ≡ none) × (ws ≡ [])
Atom _ ws = ⊥

-- the number, or Bottom where it is undefined
abbrev pub number_or_bottom : Option ℕ → Term
number_or_bottom None = bottom_term
number_or_bottom (Some n) = number n

-- a constant literal array: its dimensions are numbers, as many as its rank
abbrev pub constant_literal : List ℕ → List Term → Term
constant_literal ns cs = literal_term (map number ns) cs

-- an operation on constants and its result
pub data Folds (l r : Term) : Type 0 where
  arithmetic : (op : ArithOp) (m n : ℕ) → l ≡ arith_term op (number m) (number n) → r ≡ number_or_bottom (arith_by op m n) → Folds l r
  numbers : (op : CompareOp) (m n : ℕ) → l ≡ compare_term op (number m) (number n) →
      r ≡ truth_term (compare_by op (datum_cmp (datum.natural m) (datum.natural n))) → Folds l r
  truths : (op : CompareOp) (a b : Bool) → l ≡ compare_term op (truth_term a) (truth_term b) →
      r ≡ truth_term (compare_by op (datum_cmp (datum.truth a) (datum.truth b))) → Folds l r
  texts : (op : CompareOp) (s t : List ℕ) → l ≡ compare_term op (text_term s) (text_term t) →
      r ≡ truth_term (compare_by op (datum_cmp (datum.text s) (datum.text t))) → Folds l r
  generated : l ≡ gen_term (number 0) → r ≡ empty_term → Folds l r
  member : l ≡ get_term empty_term → r ≡ bottom_term → Folds l r
  misshapen : (ns : List ℕ) (cs : List Term) → l ≡ constant_literal ns cs → (product ns ≡ length cs → ⊥) → r ≡ bottom_term → Folds l r

-- the numbers below n but for j
abbrev pub others : ℕ → ℕ → List ℕ
others j n = filter (λ i. not (nat_eq i j)) (below n)

-- the ways to those parts of the first part
abbrev pub in_first : List ℕ → List Way
in_first is = map (λ i. 0 ∷ i ∷ []) is

-- a constant subscript of a constant literal: its cell, the other cells being defined, or Bottom out of range
pub data Subscript (l r : Term) (ws : List Way) : Type 0 where
  inside : (ns : List ℕ) (cs : List Term) (is : List ℕ) (p : ℕ) → l ≡ sub_term (constant_literal ns cs) (map number is) → product ns ≡ length cs →
      slice_get (indices ns) p ≡ Some is → slice_get cs p ≡ Some r → ws ≡ in_first (map (λ i. length ns + i) (others p (length cs))) → Subscript l r ws
  outside : (ns : List ℕ) (cs : List Term) (is : List ℕ) → l ≡ sub_term (constant_literal ns cs) (map number is) → product ns ≡ length cs →
      length ns ≡ length is → ((p : ℕ) → slice_get (indices ns) p ≡ Some is → ⊥) → r ≡ bottom_term → ws ≡ [] → Subscript l r ws

-- the term is a comparison
abbrev pub IsComparison : Term → Type 0
IsComparison l = (op : CompareOp) × (a : Term) × (b : Term) × (l ≡ compare_term op a b)

-- The left side, the right side, and the ways from the left side to the terms that have to be defined.
abbrev pub Redex : Rule → Term → Term → List Way → Type 0
Redex B1 l r ws = (i : ℕ) × (is_strict (form_of l) i ≡ true) × (child_of (parts_of l) i ≡ Some bottom_term) × (r ≡ bottom_term) × (ws ≡ [])
Redex K1 l r ws = Folds l r × (ws ≡ [])
Redex I1 l r ws = (c : Bool) × (a : Term) × (b : Term) × (l ≡ if_term (truth_term c) a b) × (r ≡ (if c then a else b)) × (ws ≡ [])
Redex I2 l r ws =
    (f : Form) × (z : Term) × (c : Term) × (e : Term) × (b : Term) × LoopOf f z
    × (l ≡ loop_term f (if_term c e empty_term) b) × (r ≡ if_term c (loop_term f e b) z) × (ws ≡ [])
Redex L1 l r ws = (a : Term) × (b : Term) × Atom a ws × (l ≡ let_term a b) × (r ≡ subst_term 0 a b)
Redex L2 l r ws =
    (e : Term) × (b : Term) × (uses_of 0 b ≡ 1) × (strict_uses 0 b ≡ 1) × (l ≡ let_term e b) × (r ≡ subst_term 0 e b) × (ws ≡ [])
Redex L3 l r ws = (e : Term) × (l ≡ let_term e (shift_term 0 1 r)) × (ws ≡ (0 ∷ []) ∷ [])
Redex P1 l r ws =
    (j : ℕ) × (ts : List Term) × (l ≡ proj_term (suc j) (length ts) (tuple_term ts)) × (slice_get ts j ≡ Some r) × (ws ≡ in_first (others j (length ts)))
Redex P2 l r ws =
    (j n : ℕ) × (e : Term) × (b : Term) × (l ≡ proj_term j n (let_term e b)) × (r ≡ let_term e (proj_term j n b)) × (ws ≡ [])
Redex S1 l r ws = (b : Term) × (l ≡ big_union_term empty_term b) × (r ≡ empty_term) × (ws ≡ [])
Redex S2 l r ws = (a : Term) × (b : Term) × (l ≡ big_union_term (single_term a) b) × (r ≡ let_term a b) × (ws ≡ [])
Redex S3 l r ws =
    (e : Term) × (m : Term) × (b : Term) × (l ≡ big_union_term (big_union_term e m) b)
    × (r ≡ big_union_term e (big_union_term m (shift_term 1 1 b))) × (ws ≡ [])
Redex S4 l r ws = (b : Term) × (l ≡ sum_term empty_term b) × (r ≡ number 0) × (ws ≡ [])
Redex S5 l r ws = (a : Term) × (b : Term) × (l ≡ sum_term (single_term a) b) × (r ≡ let_term a b) × (ws ≡ [])
Redex S6 l r ws = (l ≡ big_union_term r (single_term (variable 0))) × (ws ≡ [])
Redex S7 l r ws = ((l ≡ union_term r empty_term) ⊎ (l ≡ union_term empty_term r)) × (ws ≡ [])
Redex S8 l r ws = (l ≡ get_term (single_term r)) × (ws ≡ [])
Redex S9 l r ws =
    (f : Form) × (z : Term) × (e : Term) × (m : Term) × (b : Term) × LoopOf f z
    × (l ≡ loop_term f (let_term e m) b) × (r ≡ let_term e (loop_term f m (shift_term 1 1 b))) × (ws ≡ [])
Redex A1 l r ws =
    (ds : List Term) × (b : Term) × (is : List Term) × (length ds ≡ length is) × (l ≡ sub_term (tab_term ds b) is) × (r ≡ beta ds b is)
    × (ws ≡ in_first (length ds ∷ []))
Redex A2 l r ws =
    (k : ℕ) × (1 ≤ k) × (l ≡ tab_term (dimension_terms k r) (sub_term (shift_term 0 k r) (index_variables k))) × (ws ≡ [])
Redex A3 l r ws =
    (ds : List Term) × (b : Term) × (l ≡ dim_term (length ds) (tab_term ds b)) × (r ≡ sizes_term ds) × (ws ≡ in_first (length ds ∷ []))
Redex A4 l r ws =
    (ds : List Term) × (c : Term) × (b : Term) × Every IsVariableOrNumber ds × (1 ≤ dims_of_var 0 b) × (l ≡ let_term (tab_term ds c) b)
    × (r ≡ let_term (tab_term ds c) (replace_dims 0 (shift_term 0 1 (sizes_term ds)) b)) × (ws ≡ [])
Redex A5 l r ws = Subscript l r ws
Redex A6 l r ws =
    (ns : List ℕ) × (cs : List Term) × (l ≡ dim_term (length ns) (constant_literal ns cs)) × (product ns ≡ length cs)
    × (r ≡ sizes_term (map number ns)) × (ws ≡ in_first (map (λ i. length ns + i) (below (length cs))))
Redex A7 l r ws =
    (e : Term) × (b : Term)
    × (((is : List Term) × (l ≡ sub_term (let_term e b) is) × (r ≡ let_term e (sub_term b (map (shift_term 0 1) is))))
    ⊎ ((k : ℕ) × (l ≡ dim_term k (let_term e b)) × (r ≡ let_term e (dim_term k b))))
    × (ws ≡ [])
Redex C1 l r ws = IsComparison l × (r ≡ truth_term true) × (ws ≡ [])
Redex C2 l r ws = IsComparison l × (r ≡ truth_term true) × (ws ≡ [])
Redex C3 l r ws = IsComparison l × (r ≡ truth_term false) × (ws ≡ [])
Redex C4 l r ws = IsComparison l × ((b : Bool) × (r ≡ truth_term b)) × (ws ≡ (0 ∷ []) ∷ (1 ∷ []) ∷ [])
Redex N1 l r ws = (l ≡ default_term bottom_term r) × (ws ≡ [])
Redex N2 l r ws = (b : Term) × (l ≡ default_term r b) × (ws ≡ (0 ∷ []) ∷ [])

-- the term has a value
abbrev pub IsDefined : Outcomes → List Datum → Term → Type 0
IsDefined V vals t = (v : Datum) × (cden V vals t ≡ Some v)

-- the part at the end of the way has a value at each list of values with which an evaluation of the term comes to it
abbrev pub DefinedAt : Outcomes → List Datum → Term → Way → Type 0
DefinedAt V vals t w = (s : Term) → place_of t w ≡ Some s → Every (λ there. IsDefined V there s) (reach V vals t w)

-- what C4 asks beside: the comparison has the written truth value
abbrev pub Decides : Outcomes → Rule → List Datum → Term → Term → Type 0
Decides V C4 vals l r = (b : Bool) → r ≡ truth_term b → cden V vals l ≡ Some (datum.truth b)
Decides V _ vals l r = Unit {0}

-- the condition of a rule at one list of values that comes to the place
abbrev pub Side : Outcomes → Rule → List Datum → Term → Term → List Way → Type 0
Side V R vals l r ws = Every (DefinedAt V vals l) ws × Decides V R vals l r

-- what the checks C1 to C3 ask of the facts of the place
abbrev pub KnownAt : Rule → Context → Term → Type 0
KnownAt C1 c l = LiterallyKnown domain c l
KnownAt C2 c l = LiterallyKnown test c l
KnownAt C3 c l = LiterallyKnown denied c l
KnownAt _ c l = Unit {0}

-- One rewriting of a closed term: the left side stands at the path, the right side is put there, and the condition holds at each
-- list of values with which an evaluation of the term comes there.
pub record Step (V : Outcomes) (R : Rule) (path : List ℕ) (t u : Term) : Type 0 where
  pub from : Term
  pub to : Term
  pub ways : List Way
  pub found : place_of t path ≡ Some from
  pub put : u ≡ put_at t path to
  pub redex : Redex R from to ways
  pub side : Every (λ vals. Side V R vals from to ways) (reach V [] t path)
  pub known : KnownAt R (facts_at t path) from

-- a chain of rewritings, by the rule and the place of each
abbrev pub Replay : Outcomes → List code.Step → Term → Term → Type 0
Replay V [] t u = t ≡ u
Replay V (s ∷ trace) t u = (m : Term) × Step V s.rule s.path t m × Replay V trace m u
