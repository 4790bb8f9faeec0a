-- An operation has a value where the shapes of its operands tell it (`strict-fits`).
use Rattle.std.proofs.Common.{◌≡◌, ℕ, ◌≤◌, true, List, [], ◌∷◌, length, replicate, refl, sym, subst, ◌∙◌, arith}
use Rattle.std.proofs.lemmas.Bool.{and_parts, eqb-true}
use Rattle.aql_value.specs.declared.ops.ArithOp.{ArithOp}
use Rattle.aql_value.specs.Datum.{Datum}
use Rattle.aql_value.specs.Laws.Set.{length_canon}
use Rattle.aql_value.specs.Operations.{as_natural, only, get_of, arith_of, cell_of}
use Rattle.aql_value.specs.Partial.{◌>>=◌, each}
use Rattle.aql_value.specs.Strict.{Strict, strict_value}
use Rattle.aql_ty.specs.Types as types
use Rattle.aql_ty.specs.Types.{Ty, natural}
use Rattle.aql_ty.specs.ValueTypes.{HasType, HaveTypes}
use Rattle.aql_ty.specs.OperationTypes.{strict_rule}
use Rattle.nrca_term.specs.Firm.{strict_sure}
use Rattle.nrca_rule_laws.specs.Operations.{Valued}
use Rattle.nrca_rule_laws.specs.Laws.Operations.{set-is, strict-defined}
use Rattle.nrca_ranges.specs.declared.interval.Interval.{Interval}
use Rattle.nrca_ranges.specs.Bounds.{Bounds, row_of, HasShape, HaveShapes}
use Rattle.nrca_ranges.specs.Certain.{strict_certain, is_cell}
use Rattle.nrca_ranges.specs.Intervals.{always_fits, is_one}
use Rattle.nrca_ranges.specs.Transfer.{interval_of, count_of, entry_at}
use Rattle.nrca_ranges.specs.Laws.Bounds.{interval-is}
use Rattle.nrca_ranges.specs.Laws.Intervals.{fits-there}
use Rattle.nrca_ranges.specs.Laws.Strict.{set-shaped}
use Rattle.nrca_defined.specs.Laws.Cells.{naturals, cell-there}
use Rattle.nrca_defined.specs.Laws.Literals.{literal-there}

-- one operand, and two
one-operand : (A : Ty) (bs : List Bounds) (vs : List Datum) → HaveTypes (A ∷ []) vs → HaveShapes (row_of bs) vs → (v : Datum) × (vs ≡ v ∷ []) × HasType A v × HasShape (entry_at bs 0) v
one-operand A bs [] h k = absurd h
one-operand A [] (v ∷ []) h k = absurd k
one-operand A (b ∷ bs) (v ∷ []) h k = (v, refl, h.0, k.0)
one-operand A bs (v ∷ w ∷ vs) h k = absurd h.1

two-operands : (A B : Ty) (bs : List Bounds) (vs : List Datum) → HaveTypes (A ∷ B ∷ []) vs → HaveShapes (row_of bs) vs →
    (v : Datum) × (w : Datum) × (vs ≡ v ∷ w ∷ []) × HasType A v × HasType B w × HasShape (entry_at bs 0) v × HasShape (entry_at bs 1) w
two-operands A B bs [] h k = absurd h
two-operands A B bs (v ∷ []) h k = absurd h.1
two-operands A B [] (v ∷ w ∷ []) h k = absurd k
two-operands A B (b ∷ []) (v ∷ w ∷ []) h k = absurd k.1
two-operands A B (b ∷ c ∷ bs) (v ∷ w ∷ []) h k = (v, w, refl, h.0, h.1.0, k.0, k.1.0)
two-operands A B bs (v ∷ w ∷ x ∷ vs) h k = absurd h.1.1

-- arithmetic that always fits
arith-there : (op : ArithOp) (bs : List Bounds) (v w : Datum) → HasType natural v → HasType natural w → HasShape (entry_at bs 0) v → HasShape (entry_at bs 1) w → always_fits op (interval_of (entry_at bs 0)) (interval_of (entry_at bs 1)) ≡ true →
    Valued (arith_of op v w)
arith-there op bs v w h k p q e =
    let m = interval-is (entry_at bs 0) h.0 (subst (HasShape (entry_at bs 0)) h.1 p) in
    let n = interval-is (entry_at bs 1) k.0 (subst (HasShape (entry_at bs 1)) k.1 q) in
    let r = fits-there op (interval_of (entry_at bs 0)) (interval_of (entry_at bs 1)) h.0 k.0 e m n in
    rw (h.1, k.1) (rw r.1 (_, refl))

-- the one member of a set
only-there : (ms : List Datum) → 1 ≤ length ms → length ms ≤ 1 → Valued (only ms)
only-there [] l m = absurd (omega (arith, l))
only-there (v ∷ []) l m = (v, refl)
only-there (v ∷ w ∷ ms) l m = absurd (omega (arith, m))

member-there : (A : Ty) (b : Bounds) (v : Datum) → HasType (types.set_of A) v → HasShape b v → is_one (count_of b) ≡ true → Valued (get_of v)
member-there A b v h k e =
    let m = set-is A v h in
    let c = (set-shaped b v m.0 k m.1).0 in
    let p = one (count_of b) e in
    rw m.1 (only-there m.0 (omega (arith, c.0, p.0, length_canon m.0)) (omega (arith, c.1 (omega (arith, p.1)), p.1)))
  where
    one : (i : Interval) → is_one i ≡ true → (i.low ≡ 1) × (i.high ≡ 1)
    one i e = let p = and_parts _ _ e in (eqb-true i.low 1 p.0, eqb-true i.high 1 p.1)

-- a cell of an array, at numbers that are always an index
cell-valued : (A : Ty) (rank : ℕ) (bs : List Bounds) (v : Datum) (at : List Datum) → HasType (types.array_of rank A) v → HaveTypes (replicate rank natural) at → HaveShapes (row_of bs) (v ∷ at) → is_cell bs ≡ true → Valued (each as_natural at >>= cell_of v)
cell-valued A rank [] v at h k s e = cc
cell-valued A rank (b ∷ bs) v at h k s e =
    let ns = naturals rank at k in
    let y = cell-there b bs h.0 ns.0 h.1 e (subst (HasShape b) h.2 s.0) (subst (HaveShapes (row_of bs)) ns.1 s.1) h.4 in
    rw (ns.2, h.2) y

sub-there : (A : Ty) (rank : ℕ) (bs : List Bounds) (vs : List Datum) → HaveTypes (types.array_of rank A ∷ replicate rank natural) vs → HaveShapes (row_of bs) vs → is_cell bs ≡ true → Valued (strict_value Strict.sub vs)
sub-there A rank bs [] h k e = absurd h
sub-there A rank bs (v ∷ at) h k e = cell-valued A rank bs v at h.0 h.1 k e

-- the operations of which the shapes tell more than the form
cases : (X : Strict → Type 0) → ((op : ArithOp) → X (Strict.arith op)) → X Strict.get → X Strict.sub → ((rank : ℕ) → X (Strict.literal rank)) → ((s : Strict) → ((bs : List Bounds) → strict_certain s bs ≡ strict_sure s) → X s) → (s : Strict) → X s
cases X f g h l k (Strict.arith op) = f op
cases X f g h l k Strict.get = g
cases X f g h l k Strict.sub = h
cases X f g h l k (Strict.literal rank) = l rank
cases X f g h l k s = k s (λ bs. refl)

-- an operation of which the operands' shapes tell that it has a value has one
pub strict-fits : (s : Strict) (Ts : List Ty) (T : Ty) (bs : List Bounds) (vs : List Datum) → strict_certain s bs ≡ true → strict_rule s Ts T → HaveTypes Ts vs → HaveShapes (row_of bs) vs → Valued (strict_value s vs)
strict-fits s Ts T bs vs =
    cases (λ s. strict_certain s bs ≡ true → strict_rule s Ts T → HaveTypes Ts vs → HaveShapes (row_of bs) vs → Valued (strict_value s vs))
    (λ op e r h k.
    let t = two-operands natural natural bs vs (subst (λ X. HaveTypes X vs) r.0 h) k in
    subst (λ l. Valued (strict_value (Strict.arith op) l)) (sym t.2) (arith-there op bs t.0 t.1 t.3 t.4 t.5 t.6 e))
    (λ e r h k.
    let t = one-operand (types.set_of T) bs vs (subst (λ X. HaveTypes X vs) r h) k in
    subst (λ l. Valued (strict_value Strict.get l)) (sym t.1) (member-there T (entry_at bs 0) t.0 t.2 t.3 e))
    (λ e r h k. sub-there T r.0 bs vs (subst (λ X. HaveTypes X vs) r.2 h) k e)
    (λ rank e r h k. literal-there r.0 r.1 rank bs vs r.2 (subst (λ X. HaveTypes X vs) r.3 h) k e)
    (λ s same e r h k. strict-defined s Ts T vs (sym (same bs) ∙ e) r h)
    s
