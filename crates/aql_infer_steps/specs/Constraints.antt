-- What a declaration asks of types: a walk over its tree that writes equations and the types that are to be within the limits,
-- with a new variable wherever a type is not known yet. It solves nothing, and has no answer where no typing can exist
-- whatever the types are: for a name that means nothing there, a wrong number of parts, or a rank that is none.
use Rattle.std.specs.Prelude.{ℕ, zero, suc, ◌+◌, ◌&&◌, List, [], ◌∷◌, Bool, true, false, Option, Some, None, length, nat_le}
use Rattle.aql_value.specs.Strict.{Strict}
use Rattle.aql_ty.specs.Types as types
use Rattle.aql_ty.specs.Types.{Ty, natural, var, Tys, no_type, type, Subst, apply, append, tys_of, index_type, Sort, value, macro}
use Rattle.aql_types.specs.Unifiers.{Equations}
use Rattle.aql_syntax.specs.Tree.{Name, Pat, bind, any, equals, refers, tuple, Pats, no_pat, pat, Tree, name, op, members, comp, tab, bindings, choice, conjunction, disjunction, negation, default, function, summap, Trees, no_tree, tree, Axes, no_axis, axis, Quals, no_qual, from, cells, same, test, Defs, no_def, def, Reader, plain, signed, strided, records, Declaration, val, mac, read, bare, count_pats, count_axes, axes}
use Rattle.aql_syntax.specs.Tree as trees
use Rattle.aql_syntax.specs.Names.{find}
use Rattle.aql_syntax.specs.Typing.{Locals, constant_type, with_indices, reader_type, argument_type}

-- a sort whose variables are the numbers below one
pub record NumberedScheme : Type 0 where
  pub sort : Sort
  pub variables : ℕ

-- what the earlier positions have, the latest first
abbrev pub NumberedSchemes : Type 0
NumberedSchemes = List (Name × NumberedScheme)

-- the equations so far, the latest first, the types that are to be within the limits, and the next new variable
pub record State : Type 0 where
  pub eqs : Equations
  pub uses : Tys
  pub next : ℕ

-- an answer, and the state then
pub record Made (A : Type 0) : Type 0 where
  pub result : A
  pub state : State

-- what writes constraints: a state taken to another with an answer, or to no typing
abbrev pub Making : Type 0 → Type 0
Making A = State → Option (Made A)

-- The steps.

-- an answer that writes nothing
abbrev pub pure : {A : Type 0} → A → Making A
pure a s = Some (record { result = a; state = s })

-- one step and then others
unfoldable pub after : {A B : Type 0} → Option (Made A) → (A → Making B) → Option (Made B)
after None f = None
after (Some m) f = f m.result m.state

-- each variable with its number raised
unfoldable pub raise_variables : ℕ → Subst
raise_variables n i = var (n + i)

-- that many new variables
unfoldable pub fresh_variables : ℕ → Making Subst
fresh_variables k s = Some (record { result = raise_variables s.next; state = record { eqs = s.eqs; uses = s.uses; next = s.next + k } })

-- a new type variable
unfoldable pub fresh : Making Ty
fresh s = Some (record { result = var s.next; state = record { eqs = s.eqs; uses = s.uses; next = s.next + 1 } })

-- two types are to become one
unfoldable pub equate : Ty → Ty → Making (Unit {0})
equate a b s = Some (record { result = tt; state = record { eqs = (a, b) ∷ s.eqs; uses = s.uses; next = s.next } })

-- a type is to be within the limits
unfoldable pub within : Ty → Making (Unit {0})
within t s = Some (record { result = tt; state = record { eqs = s.eqs; uses = append s.uses (type t no_type); next = s.next } })

-- the state after both, where the second of the two is within the limits
abbrev pub add_equation : Ty → Ty → State → State
add_equation a b s = record { eqs = (a, b) ∷ s.eqs; uses = append s.uses (type b no_type); next = s.next }

-- no answer where a test fails
unfoldable pub guard : Bool → Making (Unit {0})
guard true s = Some (record { result = tt; state = s })
guard false s = None

-- before the first step
abbrev pub initial : State
initial = record { eqs = []; uses = no_type; next = 0 }

-- a rank from 1 to 8
abbrev pub is_rank : ℕ → Bool
is_rank k = nat_le 1 k && nat_le k 8

-- each of some types is to become that one
abbrev pub equate_each : List Ty → Ty → Making (Unit {0})
equate_each [] s n = pure tt n
equate_each (t ∷ ts) s n = after (equate t s n) (λ _. equate_each ts s)

-- Operations.

-- by the number of parts; no answer at another number
abbrev pub with_none : List Ty → Making Ty → Making Ty
with_none [] f n = f n
with_none (a ∷ ts) f n = None

-- what is made of one type
abbrev pub with_one : List Ty → (Ty → Making Ty) → Making Ty
with_one [] f n = None
with_one (a ∷ []) f n = f a n
with_one (a ∷ b ∷ ts) f n = None

-- what is made of two types
abbrev pub with_two : List Ty → (Ty → Ty → Making Ty) → Making Ty
with_two [] f n = None
with_two (a ∷ []) f n = None
with_two (a ∷ b ∷ []) f n = f a b n
with_two (a ∷ b ∷ c ∷ ts) f n = None

-- what is made of a first type and those behind it
abbrev pub with_first : List Ty → (Ty → List Ty → Making Ty) → Making Ty
with_first [] f n = None
with_first (a ∷ ts) f n = f a ts n

-- the parts of a literal array: that many dimensions, and then cells
abbrev pub literal_parts : ℕ → Ty → List Ty → Making (Unit {0})
literal_parts zero s ts n = equate_each ts s n
literal_parts (suc k) s [] n = None
literal_parts (suc k) s (t ∷ ts) n = after (equate t natural n) (λ _. literal_parts k s ts)

-- the type of the pairs of `index_k`
abbrev pub pair_type : ℕ → Ty → Ty
pair_type k s = types.product (tys_of (index_type k ∷ s ∷ []))

-- Each operation: the type of the whole, with what it asks of the types of its parts.

-- arithmetic: two numbers give a number
abbrev pub made_arith : Ty → Ty → Making Ty
made_arith a b n = after (equate a natural n) (λ _ n. after (equate b natural n) (λ _. pure natural))

-- a comparison: two values of one type give a truth value
abbrev pub made_compare : Ty → Ty → Making Ty
made_compare a b n = after (equate b a n) (λ _ n. after (within a n) (λ _. pure types.truth))

-- the empty set: a set of any type
abbrev pub made_empty : Making Ty
made_empty n = after (fresh n) (λ s. pure (types.set_of s))

-- a set of one member
abbrev pub made_single : Ty → Making Ty
made_single a n = pure (types.set_of a) n

-- a union: two sets of one type
abbrev pub made_union : Ty → Ty → Making Ty
made_union a b n =
    after (fresh n) (λ s n. after (equate a (types.set_of s) n) (λ _ n.
    after (equate b (types.set_of s) n) (λ _. pure (types.set_of s))))

-- the numbers below a number
abbrev pub made_gen : Ty → Making Ty
made_gen a n = after (equate a natural n) (λ _. pure (types.set_of natural))

-- the member of a set
abbrev pub made_get : Ty → Making Ty
made_get a n =
    after (fresh n) (λ s n. after (equate a (types.set_of s) n) (λ _ n. after (within (types.set_of s) n) (λ _. pure s)))

-- an array and the numbers of an index
abbrev pub made_sub : Ty → List Ty → Making Ty
made_sub a at n =
    after (fresh n) (λ s n. after (equate a (types.array_of (length at) s) n) (λ _ n.
    after (within (types.array_of (length at) s) n) (λ _ n. after (equate_each at natural n) (λ _. pure s))))

-- the dimensions of an array of that rank
abbrev pub made_dim : ℕ → Ty → Making Ty
made_dim k a n =
    after (guard (is_rank k) n) (λ _ n. after (fresh n) (λ s n. after (equate a (types.array_of k s) n) (λ _ n.
    after (within (types.array_of k s) n) (λ _. pure (index_type k)))))

-- the array of the sets of a set of pairs
abbrev pub made_index : ℕ → Ty → Making Ty
made_index k a n =
    after (guard (is_rank k) n) (λ _ n. after (fresh n) (λ s n. after (equate a (types.set_of (pair_type k s)) n) (λ _ n.
    after (within (types.set_of (pair_type k s)) n) (λ _. pure (types.array_of k (types.set_of s))))))

-- a literal array: dimensions that are numbers, and cells of one type
abbrev pub made_literal : ℕ → List Ty → Making Ty
made_literal k ts n =
    after (guard (is_rank k) n) (λ _ n. after (fresh n) (λ s n. after (literal_parts k s ts n) (λ _. pure (types.array_of k s))))

-- a tuple of two parts or more
abbrev pub made_tuple : List Ty → Making Ty
made_tuple ts n = after (guard (nat_le 2 (length ts)) n) (λ _. pure (types.product (tys_of ts)))

-- the type of an operation, whose parts have these types
abbrev pub make_op : Strict → List Ty → Making Ty
make_op (Strict.nat k) ts n = with_none ts (pure natural) n
make_op (Strict.bool b) ts n = with_none ts (pure types.truth) n
make_op (Strict.text s) ts n = with_none ts (pure types.text) n
make_op Strict.bottom ts n = with_none ts fresh n
make_op Strict.tuple ts n = made_tuple ts n
make_op (Strict.proj at of) ts n = None
make_op (Strict.arith o) ts n = with_two ts made_arith n
make_op (Strict.compare o) ts n = with_two ts made_compare n
make_op Strict.empty ts n = with_none ts made_empty n
make_op Strict.single ts n = with_one ts made_single n
make_op Strict.union ts n = with_two ts made_union n
make_op Strict.gen ts n = with_one ts made_gen n
make_op Strict.get ts n = with_one ts made_get n
make_op Strict.sub ts n = with_first ts made_sub n
make_op (Strict.dim k) ts n = with_one ts (made_dim k) n
make_op (Strict.index k) ts n = with_one ts (made_index k) n
make_op (Strict.literal k) ts n = made_literal k ts n

-- Names.

-- an instance, with new variables, of what a position has
abbrev pub make_value : Sort → ℕ → Making Ty
make_value (value t) k n = after (fresh_variables k n) (λ w n. after (within (apply w t) n) (λ _. pure (apply w t)))
make_value (macro a b) k n = None

-- the type of a position's name: an instance of its scheme
abbrev pub make_global : Option NumberedScheme → Making Ty
make_global None n = None
make_global (Some s) n = make_value s.sort s.variables n

-- the type of the innermost local name, else an instance of what the latest position of that name has
abbrev pub make_name : NumberedSchemes → Option Ty → Name → Making Ty
make_name ss (Some t) x n = pure t n
make_name ss None x n = make_global (find x ss) n

-- an application of a macro to an argument of that type
abbrev pub make_application : Ty → Ty → Ty → Making Ty
make_application a b t n = after (within a n) (λ _ n. after (within b n) (λ _ n. after (equate t a n) (λ _. pure b)))

-- the type of an application of a macro of this scheme
abbrev pub make_macro : Sort → ℕ → Ty → Making Ty
make_macro (value t) k s n = None
make_macro (macro a b) k s n = after (fresh_variables k n) (λ w. make_application (apply w a) (apply w b) s)

-- a local name in head position has no answer
abbrev pub make_call : Option Ty → Option NumberedScheme → Ty → Making Ty
make_call (Some l) s t n = None
make_call None None t n = None
make_call None (Some s) t n = make_macro s.sort s.variables t n

-- Patterns.

-- the type that a pattern matches, and the local names under it
pub record Matched : Type 0 where
  pub of : Ty
  pub names : Locals

-- the types of the parts of a pattern, and the local names with those that it binds
pub record MatchedAll : Type 0 where
  pub of : Tys
  pub names : Locals

abbrev mutual
  -- the type of a pattern, whose names are added to the local ones
  pub make_pat : Pat → NumberedSchemes → Locals → Making Matched
  make_pat (bind x) ss env n = after (fresh n) (λ t. pure (record { of = t; names = (x, t) ∷ env }))
  make_pat any ss env n = after (fresh n) (λ t. pure (record { of = t; names = env }))
  make_pat (equals c) ss env n = pure (record { of = constant_type c; names = env }) n
  make_pat (refers x) ss env n = after (make_name ss (find x env) x n) (λ t. pure (record { of = t; names = env }))
  make_pat (tuple ps) ss env n = after (make_pats ps ss env n) (λ r. pure (record { of = types.product r.of; names = r.names }))

  -- the same of several patterns, one behind the other
  pub make_pats : Pats → NumberedSchemes → Locals → Making MatchedAll
  make_pats no_pat ss env n = pure (record { of = no_type; names = env }) n
  make_pats (pat p ps) ss env n =
      after (make_pat p ss env n) (λ r n. after (make_pats ps ss r.names n) (λ q.
      pure (record { of = type r.of q.of; names = q.names })))

-- the local names under a pattern that matches a value of that type
abbrev pub make_match : Pat → NumberedSchemes → Locals → Ty → Making Locals
make_match p ss env t n =
    after (make_pat p ss env n) (λ r n. after (equate t r.of n) (λ _ n. after (within r.of n) (λ _. pure r.names)))

-- the local names under a pattern that matches the members of a set of that type
abbrev pub matched_member : Pat → NumberedSchemes → Locals → Ty → Making Locals
matched_member p ss env t n =
    after (make_pat p ss env n) (λ r n. after (equate t (types.set_of r.of) n) (λ _ n.
    after (within (types.set_of r.of) n) (λ _. pure r.names)))

-- the local names under the patterns of an index's parts, which are numbers
abbrev pub matched_index : Pats → NumberedSchemes → Locals → Making Locals
matched_index no_pat ss env n = pure env n
matched_index (pat p ps) ss env n =
    after (make_pat p ss env n) (λ r n. after (equate r.of natural n) (λ _. matched_index ps ss r.names))

-- the local names under a pattern that matches the cells of an array of that rank and type
abbrev pub matched_cell : Pat → ℕ → NumberedSchemes → Locals → Ty → Making Locals
matched_cell q k ss env t n =
    after (make_pat q ss env n) (λ r n. after (equate t (types.array_of k r.of) n) (λ _ n.
    after (within (types.array_of k r.of) n) (λ _. pure r.names)))

-- Expressions.

-- a truth value of a truth value
abbrev pub made_truth : Ty → Making Ty
made_truth a n = after (equate a types.truth n) (λ _. pure types.truth)

-- a truth value of two truth values
abbrev pub made_truths : Ty → Ty → Making Ty
made_truths a b n = after (equate a types.truth n) (λ _ n. after (equate b types.truth n) (λ _. pure types.truth))

-- two of one type
abbrev pub made_either : Ty → Ty → Making Ty
made_either a b n = after (equate b a n) (λ _. pure a)

-- a truth value, and two of one type
abbrev pub made_choice : Ty → Ty → Ty → Making Ty
made_choice c a b n = after (equate c types.truth n) (λ _. made_either a b)

abbrev mutual
  -- the type of an expression under positions and local names
  pub make : Tree → NumberedSchemes → Locals → Making Ty
  make (name x) ss env n = make_name ss (find x env) x n
  make (op o es) ss env n = after (make_all es ss env n) (λ ts. make_op o ts)
  make (members es) ss env n = after (fresh n) (λ t n. after (make_each es ss env t n) (λ _. pure (types.set_of t)))
  make (comp head quals) ss env n =
      after (make_rows quals ss env n) (λ inner n. after (make head ss inner n) (λ t. pure (types.set_of t)))
  make (tab xs body) ss env n =
      after (guard (is_rank (count_axes xs)) n) (λ _ n. after (make_bounds xs ss env n) (λ _ n.
      after (make body ss (with_indices xs env) n) (λ t. pure (types.array_of (count_axes xs) t))))
  make (bindings ds body) ss env n = after (make_binds ds ss env n) (λ inner. make body ss inner)
  make (choice c a b) ss env n =
      after (make c ss env n) (λ t n. after (make a ss env n) (λ s n. after (make b ss env n) (λ r.
      made_choice t s r)))
  make (conjunction a b) ss env n =
      after (make a ss env n) (λ s n. after (make b ss env n) (λ r. made_truths s r))
  make (disjunction a b) ss env n =
      after (make a ss env n) (λ s n. after (make b ss env n) (λ r. made_truths s r))
  make (negation a) ss env n = after (make a ss env n) (λ s. made_truth s)
  make (default a b) ss env n = after (make a ss env n) (λ s n. after (make b ss env n) (λ r. made_either s r))
  make (trees.apply f a) ss env n = after (make a ss env n) (λ t. make_call (find f env) (find f ss) t)
  make (function p body a) ss env n =
      after (make a ss env n) (λ t n. after (make_match p ss env t n) (λ inner. make body ss inner))
  make (summap p body e) ss env n =
      after (make e ss env n) (λ t n. after (matched_member p ss env t n) (λ inner n.
      after (make body ss inner n) (λ s n. after (equate s natural n) (λ _. pure natural))))

  -- the types of some expressions
  pub make_all : Trees → NumberedSchemes → Locals → Making (List Ty)
  make_all no_tree ss env n = pure [] n
  make_all (tree e es) ss env n = after (make e ss env n) (λ t n. after (make_all es ss env n) (λ ts. pure (t ∷ ts)))

  -- all are to have that type
  pub make_each : Trees → NumberedSchemes → Locals → Ty → Making (Unit {0})
  make_each no_tree ss env t n = pure tt n
  make_each (tree e es) ss env t n = after (make e ss env n) (λ s n. after (equate s t n) (λ _. make_each es ss env t))

  -- the bounds of a tabulation are numbers
  pub make_bounds : Axes → NumberedSchemes → Locals → Making (Unit {0})
  make_bounds no_axis ss env n = pure tt n
  make_bounds (axis x e rest) ss env n =
      after (make e ss env n) (λ t n. after (equate t natural n) (λ _. make_bounds rest ss env))

  -- the local names under qualifiers
  pub make_rows : Quals → NumberedSchemes → Locals → Making Locals
  make_rows no_qual ss env n = pure env n
  make_rows (from p e rest) ss env n =
      after (make e ss env n) (λ t n. after (matched_member p ss env t n) (λ inner. make_rows rest ss inner))
  make_rows (cells p q e rest) ss env n =
      after (make e ss env n) (λ t n. after (matched_index (axes p) ss env n) (λ mid n.
      after (matched_cell q (count_pats (axes p)) ss mid t n) (λ inner. make_rows rest ss inner)))
  make_rows (same p e rest) ss env n =
      after (make e ss env n) (λ t n. after (make_match p ss env t n) (λ inner. make_rows rest ss inner))
  make_rows (test e rest) ss env n =
      after (make e ss env n) (λ t n. after (equate t types.truth n) (λ _. make_rows rest ss env))

  -- the local names under the bindings of a let
  pub make_binds : Defs → NumberedSchemes → Locals → Making Locals
  make_binds no_def ss env n = pure env n
  make_binds (def p e rest) ss env n =
      after (make e ss env n) (λ t n. after (make_match p ss env t n) (λ inner. make_binds rest ss inner))

-- Declarations.

-- a reader's rank is one
abbrev pub reader_fits : Reader → Bool
reader_fits (plain k) = is_rank k
reader_fits (signed k) = is_rank k
reader_fits (strided k) = is_rank k
reader_fits (records header ks) = true

-- what a declaration has, over what the earlier positions have
abbrev pub make_decl : Declaration → NumberedSchemes → Making Sort
make_decl (val x e) ss n = after (make e ss [] n) (λ t n. after (within t n) (λ _. pure (value t)))
make_decl (mac f p body) ss n =
    after (make_pat p ss [] n) (λ r n. after (make body ss r.names n) (λ t n.
    after (within r.of n) (λ _ n. after (within t n) (λ _. pure (macro r.of t)))))
make_decl (read x reader e) ss n =
    after (guard (reader_fits reader) n) (λ _ n. after (make e ss [] n) (λ t n.
    after (equate t (argument_type reader) n) (λ _ n. after (within (argument_type reader) n) (λ _ n.
    after (within (reader_type reader) n) (λ _. pure (value (reader_type reader)))))))
make_decl (bare e) ss n = after (make e ss [] n) (λ t n. after (within t n) (λ _. pure (value t)))
