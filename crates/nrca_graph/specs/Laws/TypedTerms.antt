-- The types of the terms that array-free forms are made of.
use Rattle.std.proofs.Common.{◌≡◌, ℕ, zero, suc, ◌+◌, ◌-◌, ◌<◌, ◌≤◌, List, [], ◌∷◌, ◌++◌, length, map, replicate, Some, refl, sym, ap, subst, ◌∙◌, arith}
use Rattle.std.proofs.lemmas.List.{length-replicate}
use Rattle.std.specs.List.{slice_get}
use Rattle.aql_value.specs.declared.ops.ArithOp.{ArithOp}
use Rattle.aql_value.specs.declared.ops.CompareOp.{CompareOp}
use Rattle.aql_value.specs.declared.ops.CompareOp.TheVariants as compare_op
use Rattle.aql_value.specs.Strict.{Strict}
use Rattle.aql_value.specs.Lists.{onto}
use Rattle.aql_ty.specs.Types as types
use Rattle.aql_ty.specs.Types.{Ty, IsType, index_type}
use Rattle.aql_ty.specs.OperationTypes.{strict_rule}
use Rattle.nrca_term.specs.Term.{Term, node, none, plain, Form}
use Rattle.nrca_term.specs.Nodes.{variable, number, bottom_term, let_term, if_term, tuple_term, proj_term, arith_term, compare_term, empty_term, single_term, union_term, big_union_term, gen_term, get_term}
use Rattle.nrca_term.specs.Rules.{lets, sizes_term, index_variables}
use Rattle.nrca_term.specs.Subst.{shift_term}
use Rattle.nrca_term.specs.Typing.{arg, ctyped, parts_typed}
use Rattle.nrca_term.specs.Laws.TypedLists.{TermsTyped}
use Rattle.nrca_term.specs.Laws.TypingShift.{ctyped-shift_term}
use Rattle.nrca_graph.specs.Encoding.{pair_type}
use Rattle.nrca_graph.specs.Tabulation.{nest, table_term}
use Rattle.nrca_graph.specs.ArrayFree.{equal_term, paired_with}
use Rattle.nrca_graph.specs.Laws.EncodedTypes.{index-is}

-- as parts that bind nothing
pub plain-typed : (G : ℕ → Ty → Type 0) (env : List Ty) (ts : List Term) (Ts : List Ty) → TermsTyped G env ts Ts → parts_typed G env (plain ts none) (map (arg []) Ts)
plain-typed G env [] [] h = refl
plain-typed G env [] (T ∷ Ts) h = absurd h
plain-typed G env (t ∷ ts) [] h = absurd h
plain-typed G env (t ∷ ts) (T ∷ Ts) h = (arg [] T, map (arg []) Ts, refl, refl, h.0, plain-typed G env ts Ts h.1)

-- a form that evaluates every part
pub strict-typed : (G : ℕ → Ty → Type 0) (env : List Ty) (s : Strict) (ts : List Term) (Ts : List Ty) (T : Ty) → IsType T → strict_rule s Ts T → TermsTyped G env ts Ts →
    ctyped G env (node (Form.strict s) (plain ts none)) T
strict-typed G env s ts Ts T i r h = (i, map (arg []) Ts, (Ts, refl, r), plain-typed G env ts Ts h)

-- a variable
pub variable-typed : (G : ℕ → Ty → Type 0) (env : List Ty) (i : ℕ) (T : Ty) → IsType T → slice_get env i ≡ Some T → ctyped G env (variable i) T
variable-typed G env i T h e = (h, [], (refl, e), refl)

-- a let
pub let-typed : (G : ℕ → Ty → Type 0) (env : List Ty) (e b : Term) (A T : Ty) → IsType T → ctyped G env e A → ctyped G (A ∷ env) b T → ctyped G env (let_term e b) T
let-typed G env e b A T i h k = (i, arg [] A ∷ arg (A ∷ []) T ∷ [], (A, refl), (arg [] A, arg (A ∷ []) T ∷ [], refl, refl, h, (arg (A ∷ []) T, [], refl, refl, k, refl)))

-- an if
pub if-typed : (G : ℕ → Ty → Type 0) (env : List Ty) (c a b : Term) (T : Ty) → IsType T → ctyped G env c types.truth → ctyped G env a T → ctyped G env b T → ctyped G env (if_term c a b) T
if-typed G env c a b T i h k l = (i, arg [] types.truth ∷ arg [] T ∷ arg [] T ∷ [], refl, plain-typed G env (c ∷ a ∷ b ∷ []) (types.truth ∷ T ∷ T ∷ []) (h, (k, (l, tt))))

-- a big union
pub union-typed : (G : ℕ → Ty → Type 0) (env : List Ty) (e b : Term) (A B : Ty) → IsType B → ctyped G env e (types.set_of A) → ctyped G (A ∷ env) b (types.set_of B) →
    ctyped G env (big_union_term e b) (types.set_of B)
union-typed G env e b A B i h k = (
  i,
  arg [] (types.set_of A) ∷ arg (A ∷ []) (types.set_of B) ∷ [],
  (A, B, refl, refl),
  (arg [] (types.set_of A), arg (A ∷ []) (types.set_of B) ∷ [], refl, refl, h, (arg (A ∷ []) (types.set_of B), [], refl, refl, k, refl)),
)

-- a number
pub number-typed : (G : ℕ → Ty → Type 0) (env : List Ty) (n : ℕ) → ctyped G env (number n) types.natural
number-typed G env n = strict-typed G env (Strict.nat n) [] [] types.natural tt (refl, refl) tt

-- `Bottom` has every type
pub bottom-typed : (G : ℕ → Ty → Type 0) (env : List Ty) (T : Ty) → IsType T → ctyped G env bottom_term T
bottom-typed G env T i = strict-typed G env Strict.bottom [] [] T i refl tt

-- the empty set
pub empty-typed : (G : ℕ → Ty → Type 0) (env : List Ty) (A : Ty) → IsType A → ctyped G env empty_term (types.set_of A)
empty-typed G env A i = strict-typed G env Strict.empty [] [] (types.set_of A) i (A, refl, refl) tt

-- arithmetic
pub arith-typed : (G : ℕ → Ty → Type 0) (env : List Ty) (op : ArithOp) (a b : Term) → ctyped G env a types.natural → ctyped G env b types.natural → ctyped G env (arith_term op a b) types.natural
arith-typed G env op a b h k = strict-typed G env (Strict.arith op) (a ∷ b ∷ []) (types.natural ∷ types.natural ∷ []) types.natural tt (refl, refl) (h, (k, tt))

-- a comparison
pub compare-typed : (G : ℕ → Ty → Type 0) (env : List Ty) (op : CompareOp) (a b : Term) (A : Ty) → ctyped G env a A → ctyped G env b A → ctyped G env (compare_term op a b) types.truth
compare-typed G env op a b A h k = strict-typed G env (Strict.compare op) (a ∷ b ∷ []) (A ∷ A ∷ []) types.truth tt (A, refl, refl) (h, (k, tt))

-- the set of one value
pub single-typed : (G : ℕ → Ty → Type 0) (env : List Ty) (a : Term) (A : Ty) → IsType A → ctyped G env a A → ctyped G env (single_term a) (types.set_of A)
single-typed G env a A i h = strict-typed G env Strict.single (a ∷ []) (A ∷ []) (types.set_of A) i (A, refl, refl) (h, tt)

-- a union
pub both-typed : (G : ℕ → Ty → Type 0) (env : List Ty) (a b : Term) (A : Ty) → IsType A → ctyped G env a (types.set_of A) → ctyped G env b (types.set_of A) → ctyped G env (union_term a b) (types.set_of A)
both-typed G env a b A i h k = strict-typed G env Strict.union (a ∷ b ∷ []) (types.set_of A ∷ types.set_of A ∷ []) (types.set_of A) i (A, refl, refl) (h, (k, tt))

-- the member of a set of one
pub get-typed : (G : ℕ → Ty → Type 0) (env : List Ty) (a : Term) (A : Ty) → IsType A → ctyped G env a (types.set_of A) → ctyped G env (get_term a) A
get-typed G env a A i h = strict-typed G env Strict.get (a ∷ []) (types.set_of A ∷ []) A i refl (h, tt)

-- the numbers below a number
pub gen-typed : (G : ℕ → Ty → Type 0) (env : List Ty) (a : Term) → ctyped G env a types.natural → ctyped G env (gen_term a) (types.set_of types.natural)
gen-typed G env a h = strict-typed G env Strict.gen (a ∷ []) (types.natural ∷ []) (types.set_of types.natural) tt (refl, refl) (h, tt)

-- the type of pairs of types
pub pair-is : (A B : Ty) → IsType A → IsType B → IsType (pair_type A B)
pair-is A B h k = (omega arith, (h, (k, tt)))

-- a pair
pub pair-term-typed : (G : ℕ → Ty → Type 0) (env : List Ty) (a b : Term) (A B : Ty) → IsType A → IsType B → ctyped G env a A → ctyped G env b B → ctyped G env (tuple_term (a ∷ b ∷ [])) (pair_type A B)
pair-term-typed G env a b A B i j h k = strict-typed G env Strict.tuple (a ∷ b ∷ []) (A ∷ B ∷ []) (pair_type A B) (pair-is A B i j) (omega arith, refl) (h, (k, tt))

-- its first part
pub first-typed : (G : ℕ → Ty → Type 0) (env : List Ty) (p : Term) (A B : Ty) → IsType A → ctyped G env p (pair_type A B) → ctyped G env (proj_term 1 2 p) A
first-typed G env p A B i h = strict-typed G env (Strict.proj 1 2) (p ∷ []) (pair_type A B ∷ []) A i (A ∷ B ∷ [], 0, refl, refl, refl, refl) (h, tt)

-- its second part
pub second-typed : (G : ℕ → Ty → Type 0) (env : List Ty) (p : Term) (A B : Ty) → IsType B → ctyped G env p (pair_type A B) → ctyped G env (proj_term 2 2 p) B
second-typed G env p A B i h = strict-typed G env (Strict.proj 2 2) (p ∷ []) (pair_type A B ∷ []) B i (A ∷ B ∷ [], 1, refl, refl, refl, refl) (h, tt)

-- lets put the types of their terms before those around
pub lets-typed : (G : ℕ → Ty → Type 0) (pre env : List Ty) (ts : List Term) (Ts : List Ty) (b : Term) (T : Ty) → IsType T → TermsTyped G env ts Ts → ctyped G (onto Ts pre ++ env) b T →
    ctyped G (pre ++ env) (lets (length pre) ts b) T
lets-typed G pre env [] [] b T i h k = k
lets-typed G pre env [] (A ∷ Ts) b T i h k = absurd h
lets-typed G pre env (t ∷ ts) [] b T i h k = absurd h
lets-typed G pre env (t ∷ ts) (A ∷ Ts) b T i h k =
    let-typed G (pre ++ env) (shift_term 0 (length pre) t) (lets (suc (length pre)) ts b) A T i (ctyped-shift_term G [] pre env t A h.0) (lets-typed G (A ∷ pre) env ts Ts b T i h.1 k)

-- so many numbers
abbrev pub naturals : ℕ → List Ty
naturals n = replicate n types.natural

-- a number before so many, or behind them
numbers-past : (n : ℕ) (l : List Ty) → naturals n ++ (types.natural ∷ l) ≡ naturals (suc n) ++ l
numbers-past zero l = refl
numbers-past (suc n) l = ap (λ x. types.natural ∷ x) (numbers-past n l)

-- numbers put on numbers
pub onto-numbers : (n : ℕ) (l : List Ty) → onto (naturals n) l ≡ naturals n ++ l
onto-numbers zero l = refl
onto-numbers (suc n) l = onto-numbers n (types.natural ∷ l) ∙ numbers-past n l

-- a variable below so many numbers is one
below-numbers : (n i : ℕ) (l : List Ty) → i < n → slice_get (naturals n ++ l) i ≡ Some types.natural
below-numbers zero i l h = absurd (omega (arith, h))
below-numbers (suc n) zero l h = refl
below-numbers (suc n) (suc i) l h = below-numbers n i l (omega (arith, h))

-- the variables of an index are numbers
pub variables-typed : (G : ℕ → Ty → Type 0) (k n : ℕ) (l : List Ty) → n ≤ k → TermsTyped G (naturals k ++ l) (index_variables n) (naturals n)
variables-typed G k zero l h = tt
variables-typed G k (suc n) l h = (variable-typed G (naturals k ++ l) n types.natural tt (below-numbers k n l (omega (arith, h))), variables-typed G k n l (omega (arith, h)))

-- numbers as one index
pub sizes-typed : (G : ℕ → Ty → Type 0) (env : List Ty) (n : ℕ) (ts : List Term) → 1 ≤ n → TermsTyped G env ts (naturals n) → ctyped G env (sizes_term ts) (index_type n)
sizes-typed G env zero ts l h = absurd (omega (arith, l))
sizes-typed G env (suc zero) [] l h = absurd h
sizes-typed G env (suc zero) (t ∷ []) l h = h.0
sizes-typed G env (suc zero) (t ∷ u ∷ ts) l h = absurd h.1
sizes-typed G env (suc (suc n)) [] l h = absurd h
sizes-typed G env (suc (suc n)) (t ∷ []) l h = absurd h.1
sizes-typed G env (suc (suc n)) (t ∷ u ∷ ts) l h =
    strict-typed G env Strict.tuple (t ∷ u ∷ ts) (naturals (suc (suc n))) (index_type (suc (suc n))) (index-is (suc (suc n)) (omega arith))
    ((let z : length (naturals n) ≡ n = length-replicate n types.natural in omega (arith, z)), refl) h

-- nested loops over numbers
pub nest-typed : (G : ℕ → Ty → Type 0) (n : ℕ) (env : List Ty) (g b : Term) (S : Ty) → IsType S → ((j : ℕ) → ctyped G (naturals j ++ env) g (types.set_of types.natural)) → ctyped G (naturals n ++ env) b (types.set_of S) →
    ctyped G env (nest n g b) (types.set_of S)
nest-typed G zero env g b S i h k = k
nest-typed G (suc n) env g b S i h k =
    union-typed G env g (nest n g b) types.natural S i (h 0)
    (nest-typed G n (types.natural ∷ env) g b S i (λ j. subst (λ l. ctyped G l g (types.set_of types.natural)) (sym (numbers-past j env)) (h (suc j)))
    (subst (λ l. ctyped G l b (types.set_of S)) (sym (numbers-past n env)) k))

-- dimensions and pairs
pub table-typed : (G : ℕ → Ty → Type 0) (k : ℕ) (env : List Ty) (b : Term) (S : Ty) → 1 ≤ k → IsType S → ctyped G (naturals k ++ (naturals k ++ env)) b S →
    ctyped G (naturals k ++ env) (table_term k b) (pair_type (index_type k) (types.set_of (pair_type (index_type k) S)))
table-typed G k env b S l i h =
    pair-term-typed G (naturals k ++ env) (sizes_term (index_variables k)) (nest k (gen_term (variable (k - 1))) (single_term (tuple_term (sizes_term (index_variables k) ∷ b ∷ []))))
    (index_type k) (types.set_of (pair_type (index_type k) S)) (index-is k l) (pair-is (index_type k) S (index-is k l) i)
    (sizes-typed G (naturals k ++ env) k (index_variables k) l (variables-typed G k k env (omega arith)))
    (nest-typed G k (naturals k ++ env) (gen_term (variable (k - 1))) (single_term (tuple_term (sizes_term (index_variables k) ∷ b ∷ []))) (pair_type (index_type k) S)
    (pair-is (index_type k) S (index-is k l) i)
    (λ j. gen-typed G (naturals j ++ (naturals k ++ env)) (variable (k - 1)) (variable-typed G (naturals j ++ (naturals k ++ env)) (k - 1) types.natural tt (within j)))
    (single-typed G (naturals k ++ (naturals k ++ env)) (tuple_term (sizes_term (index_variables k) ∷ b ∷ [])) (pair_type (index_type k) S) (pair-is (index_type k) S (index-is k l) i)
    (pair-term-typed G (naturals k ++ (naturals k ++ env)) (sizes_term (index_variables k)) b (index_type k) S (index-is k l) i
    (sizes-typed G (naturals k ++ (naturals k ++ env)) k (index_variables k) l (variables-typed G k k (naturals k ++ env) (omega arith))) h)))
  where
    further : (j i : ℕ) → i < k → slice_get (naturals j ++ (naturals k ++ env)) i ≡ Some types.natural
    further zero i h = below-numbers k i env h
    further (suc j) zero h = refl
    further (suc j) (suc i) h = further j i (omega (arith, h))

    within : (j : ℕ) → slice_get (naturals j ++ (naturals k ++ env)) (k - 1) ≡ Some types.natural
    within j = further j (k - 1) (omega (arith, l))

-- a selection by an index
pub paired-typed : (G : ℕ → Ty → Type 0) (env : List Ty) (s i : Term) (X A : Ty) → IsType X → IsType A → ctyped G env s (types.set_of (pair_type X A)) → ctyped G env i X → ctyped G env (paired_with s i) (types.set_of A)
paired-typed G env s i X A j l h k =
    let E : List Ty = pair_type X A ∷ env in
    let p : ctyped G E (variable 0) (pair_type X A) = variable-typed G E 0 (pair_type X A) (pair-is X A j l) refl in
    let c : Term = equal_term (proj_term 1 2 (variable 0)) (shift_term 0 1 i) in
    union-typed G env s (if_term c (single_term (proj_term 2 2 (variable 0))) empty_term) (pair_type X A) A l h
    (if-typed G E c (single_term (proj_term 2 2 (variable 0))) empty_term (types.set_of A) l
    (compare-typed G E compare_op.Equal (proj_term 1 2 (variable 0)) (shift_term 0 1 i) X (first-typed G E (variable 0) X A j p) (ctyped-shift_term G [] (pair_type X A ∷ []) env i X k))
    (single-typed G E (proj_term 2 2 (variable 0)) A l (second-typed G E (variable 0) X A l p)) (empty-typed G E A l))

-- past so many numbers
pub past-numbers : (n i : ℕ) (l : List Ty) → slice_get (naturals n ++ l) (n + i) ≡ slice_get l i
past-numbers zero i l = let z : 0 + i ≡ i = omega arith in ap (slice_get l) z
past-numbers (suc n) i l = (let z : suc n + i ≡ suc (n + i) = omega arith in ap (slice_get (naturals (suc n) ++ l)) z) ∙ past-numbers n i l
