-- What follows from the definitions of `Operations`.
use Rattle.std.proofs.Common.{◌≡◌, ℕ, zero, suc, ◌≤◌, true, List, [], ◌∷◌, length, Option, Some, refl, sym, ap, subst, ◌∙◌, arith}
use Rattle.std.specs.List.{slice_get}
use Rattle.std.proofs.lemmas.Bool.{eq-eqb}
use Rattle.aql_value.specs.declared.ops.ArithOp.TheVariants.{Add, Monus, Mul, Quotient, Remainder}
use Rattle.aql_value.specs.Datum.{Datum}
use Rattle.aql_value.specs.Laws.Datum.{list_of-data_of}
use Rattle.aql_value.specs.Operations.{as_set, part_of, union_of, gen_of, dim_of, arith_of}
use Rattle.aql_value.specs.Laws.Operations.{part_of-tuple}
use Rattle.aql_value.specs.Strict.{Strict, strict_value, unary, binary}
use Rattle.aql_ty.specs.Types as types
use Rattle.aql_ty.specs.Types.{Ty, natural, tys_of}
use Rattle.aql_ty.specs.ValueTypes.{HasType, HaveTypes}
use Rattle.aql_ty.specs.OperationTypes.{strict_rule}
use Rattle.aql_ty.specs.Laws.Operation.{has-length}
use Rattle.nrca_term.specs.Firm.{strict_sure}
use Rattle.aql_value.specs.Indices.{indices, product}
use Rattle.aql_value.specs.Laws.Indices.{length_indices}
use Rattle.aql_value.specs.Partial.{each}
use Rattle.aql_value.specs.Laws.Partial.{each-length}
use Rattle.nrca_rule_laws.specs.Operations.{Valued}

-- a value of a set type is a set
pub set-is : (A : Ty) (v : Datum) → HasType (types.set_of A) v → (ms : List Datum) × (as_set v ≡ Some ms)
set-is A v h = (h.0, ap as_set h.1 ∙ ap Some (list_of-data_of h.0))

-- a list of values has an element wherever the list of types has
pub element-there : (Ts : List Ty) (vs : List Datum) (i : ℕ) (T : Ty) → HaveTypes Ts vs → slice_get Ts i ≡ Some T → Valued (slice_get vs i)
element-there [] vs i T h e = cc
element-there (A ∷ Ts) [] i T h e = absurd h
element-there (A ∷ Ts) (v ∷ vs) zero T h e = (v, refl)
element-there (A ∷ Ts) (v ∷ vs) (suc i) T h e = element-there Ts vs i T h.1 e

-- values of no, one or two types
no-values : (vs : List Datum) → HaveTypes [] vs → vs ≡ []
no-values [] h = refl
no-values (v ∷ vs) h = absurd h

-- an operation on one part, and on two
one-value : (A : Ty) (vs : List Datum) (f : Datum → Option Datum) → HaveTypes (A ∷ []) vs → ((v : Datum) → HasType A v → Valued (f v)) → Valued (unary f vs)
one-value A [] f h k = absurd h
one-value A (v ∷ []) f h k = k v h.0
one-value A (v ∷ w ∷ vs) f h k = absurd h.1

two-values : (A B : Ty) (vs : List Datum) (f : Datum → Datum → Option Datum) → HaveTypes (A ∷ B ∷ []) vs → ((v w : Datum) → HasType A v → HasType B w → Valued (f v w)) → Valued (binary f vs)
two-values A B [] f h k = absurd h
two-values A B (v ∷ []) f h k = absurd h.1
two-values A B (v ∷ w ∷ []) f h k = k v w h.0 h.1.0
two-values A B (v ∷ w ∷ x ∷ vs) f h k = absurd h.1.1

-- a component of a tuple, a union, dimensions
part-there : (As : List Ty) (j : ℕ) (T : Ty) (of : ℕ) (v : Datum) → HasType (types.product (tys_of As)) v → length As ≡ of → slice_get As j ≡ Some T → Valued (part_of (suc j) of v)
part-there As j T of v h n e =
    subst (λ w. Valued (part_of (suc j) of w)) (sym h.1) (subst Valued (sym (part_of-tuple j of h.0 (has-length As h.0 h.2 ∙ n))) (element-there As h.0 j T h.2 e))

union-there : (A : Ty) (v w : Datum) → HasType (types.set_of A) v → HasType (types.set_of A) w → Valued (union_of v w)
union-there A v w h k = let a = set-is A v h in let b = set-is A w k in rw (a.1, b.1) (_, refl)

dims-there : (rank : ℕ) (A : Ty) (v : Datum) → HasType (types.array_of rank A) v → Valued (dim_of rank v)
dims-there rank A v h = subst (λ w. Valued (dim_of rank w)) (sym h.2) (rw (eq-eqb (length h.0) rank h.3) (_, refl))

-- a sure operation has a value at values of its types
pub strict-defined : (s : Strict) (Ts : List Ty) (T : Ty) (vs : List Datum) → strict_sure s ≡ true → strict_rule s Ts T → HaveTypes Ts vs → Valued (strict_value s vs)
strict-defined (Strict.nat n) Ts T vs f r h = subst (λ l. Valued (strict_value (Strict.nat n) l)) (sym (no-values vs (subst (λ X. HaveTypes X vs) r.0 h))) (_, refl)
strict-defined (Strict.bool b) Ts T vs f r h = subst (λ l. Valued (strict_value (Strict.bool b) l)) (sym (no-values vs (subst (λ X. HaveTypes X vs) r.0 h))) (_, refl)
strict-defined (Strict.text s) Ts T vs f r h = subst (λ l. Valued (strict_value (Strict.text s) l)) (sym (no-values vs (subst (λ X. HaveTypes X vs) r.0 h))) (_, refl)
strict-defined Strict.bottom Ts T vs f r h = cc
strict-defined Strict.tuple Ts T vs f r h = several vs (omega (arith, r.0, has-length Ts vs h))
  where
    several : (vs : List Datum) → 2 ≤ length vs → Valued (strict_value Strict.tuple vs)
    several [] l = absurd (omega (arith, l))
    several (v ∷ []) l = absurd (omega (arith, l))
    several (v ∷ w ∷ vs) l = (_, refl)
strict-defined (Strict.proj at of) Ts T vs f r h =
    one-value (types.product (tys_of r.0)) vs (part_of at of) (subst (λ X. HaveTypes X vs) r.2 h) (λ v k. subst (λ j. Valued (part_of j of v)) (sym r.4) (part-there r.0 r.1 T of v k r.3 r.5))
strict-defined (Strict.arith Add) Ts T vs f r h = cc
strict-defined (Strict.arith Monus) Ts T vs f r h =
    two-values natural natural vs (arith_of Monus) (subst (λ X. HaveTypes X vs) r.0 h) (λ v w k l. rw (k.1, l.1) (_, refl))
strict-defined (Strict.arith Mul) Ts T vs f r h = cc
strict-defined (Strict.arith Quotient) Ts T vs f r h = cc
strict-defined (Strict.arith Remainder) Ts T vs f r h = cc
strict-defined (Strict.compare op) Ts T vs f r h = two-values r.0 r.0 vs _ (subst (λ X. HaveTypes X vs) r.1 h) (λ v w k l. (_, refl))
strict-defined Strict.empty Ts T vs f r h = subst (λ l. Valued (strict_value Strict.empty l)) (sym (no-values vs (subst (λ X. HaveTypes X vs) r.1 h))) (_, refl)
strict-defined Strict.single Ts T vs f r h = one-value r.0 vs _ (subst (λ X. HaveTypes X vs) r.1 h) (λ v k. (_, refl))
strict-defined Strict.union Ts T vs f r h = two-values (types.set_of r.0) (types.set_of r.0) vs union_of (subst (λ X. HaveTypes X vs) r.1 h) (λ v w k l. union-there r.0 v w k l)
strict-defined Strict.gen Ts T vs f r h = one-value natural vs gen_of (subst (λ X. HaveTypes X vs) r.0 h) (λ v k. rw k.1 (_, refl))
strict-defined Strict.get Ts T vs f r h = cc
strict-defined Strict.sub Ts T vs f r h = cc
strict-defined (Strict.dim rank) Ts T vs f r h = one-value (types.array_of rank r.0) vs (dim_of rank) (subst (λ X. HaveTypes X vs) r.2 h) (λ v k. dims-there rank r.0 v k)
strict-defined (Strict.index rank) Ts T vs f r h = cc
strict-defined (Strict.literal rank) Ts T vs f r h = cc

-- what a function gives at each index below dimensions is as many cells as they ask
pub full-cells : (f : List ℕ → Option Datum) (ds : List ℕ) (cells : List Datum) → each f (indices ds) ≡ Some cells → product ds ≡ length cells
full-cells f ds cells e = sym (length_indices ds) ∙ sym (each-length f (indices ds) cells e)
