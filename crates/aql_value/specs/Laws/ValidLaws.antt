-- The operations make values of values: numbers below 2^128, ascending sets, full arrays.
use Rattle.std.specs.Prelude.{◌≡◌, ℕ, zero, suc, ◌+◌, ◌-◌, ◌*◌, ◌/◌, ◌%◌, ◌^◌, ◌<◌, ◌≤◌, Bool, true, false, cond, nat_lt, nat_eq, List, [], ◌∷◌, ◌++◌, length, map, take, drop, Option, Some, None, if◌then◌else◌, sum, refl}
use Rattle.std.proofs.Common.{sym, ◌∙◌, subst, arith}
use Rattle.std.specs.List.{All, slice_get, filter}
use Rattle.std.specs.Cmp.Lexicographic.{pointwise}
use Rattle.std.proofs.lemmas.List.Elements.{All-from_recursion, recursion_from_All}
use Rattle.std.proofs.lemmas.List.{length-map}
use Rattle.std.proofs.lemmas.Bool.{ltb-true, eqb-false, and_parts}
use Rattle.std.proofs.lemmas.Option.{cond_some, same_Some}
use Rattle.aql_value.specs.Datum.{Datum, natural, truth, text, tuple, set, array, Data, nil, cons, Table, data_of, list_of}
use Rattle.aql_value.specs.Laws.Datum.{list_of-data_of}
use Rattle.aql_value.specs.Canon.{IsAscending, canon}
use Rattle.aql_value.specs.Laws.Canon.{ascending_canon}
use Rattle.aql_value.specs.Indices.{IsTable, indices, cell, offset_of}
use Rattle.aql_value.specs.Laws.Indices.{length_indices}
use Rattle.aql_value.specs.Laws.RowMajor.{cell-offset_of}
use Rattle.aql_value.specs.Arith.{if_fits}
use Rattle.aql_value.specs.Ops.{arith_by}
use Rattle.aql_value.specs.Valid.{IsValue, AreValues, HasValidConstant}
use Rattle.aql_value.specs.Lists.{Every, below}
use Rattle.aql_value.specs.Laws.Lists.{Every-all, Every-append, Every-onto, Every-below, Every-get, Every-take, Every-drop, Every-lists}
use Rattle.aql_value.specs.Partial.{◌>>=◌, each, concat}
use Rattle.aql_value.specs.Laws.Partial.{then-is, each-values}
use Rattle.aql_value.specs.Laws.Set.{Every-canon, ascending_below}
use Rattle.aql_value.specs.Operations.{as_natural, as_tuple, as_set, as_array, in_range, tuple_of, nth, part_of, set_of, union_of, union_all, only, get_of, gen_of, arith_of, compare_of, sum_of, array_of, literal_of, index_value, dims_of, dim_of, cell_of, index_numbers, as_indexed, values_at, all_in_range, dims_above, index_array, index_of}
use Rattle.aql_value.specs.Laws.Operations.{array_of-is, indexed-is}
use Rattle.aql_value.specs.Strict.{Strict, nullary, unary, binary, sub_value, strict_value}
use Rattle.aql_value.specs.declared.ops.ArithOp.{ArithOp}
use Rattle.aql_value.specs.declared.ops.ArithOp.TheVariants.{Add, Monus, Mul, Quotient, Remainder}

pub every-AreValues : (vs : Data) → AreValues vs → Every IsValue (list_of vs)
every-AreValues nil h = tt
every-AreValues (cons v vs) h = (h.0, every-AreValues vs h.1)

pub AreValues-every : (vs : List Datum) → Every IsValue vs → AreValues (data_of vs)
AreValues-every [] h = tt
AreValues-every (v ∷ vs) h = (h.0, AreValues-every vs h.1)

pub natural-valid : (v : Datum) (n : ℕ) → IsValue v → as_natural v ≡ Some n → n < 2 ^ 128
natural-valid (natural m) n h e = let z : m ≡ n = cc in omega (arith, h, z)
natural-valid (truth b) n h e = cc
natural-valid (text s) n h e = cc
natural-valid (tuple vs) n h e = cc
natural-valid (set vs) n h e = cc
natural-valid (array ds vs) n h e = cc

pub tuple-valid : (v : Datum) (vs : List Datum) → IsValue v → as_tuple v ≡ Some vs → Every IsValue vs
tuple-valid (natural m) vs h e = cc
tuple-valid (truth b) vs h e = cc
tuple-valid (text s) vs h e = cc
tuple-valid (tuple ws) vs h e = subst (Every IsValue) (same_Some _ _ e) (every-AreValues ws h.1)
tuple-valid (set ws) vs h e = cc
tuple-valid (array ds ws) vs h e = cc

pub set-valid : (v : Datum) (vs : List Datum) → IsValue v → as_set v ≡ Some vs → IsAscending vs × Every IsValue vs
set-valid (natural m) vs h e = cc
set-valid (truth b) vs h e = cc
set-valid (text s) vs h e = cc
set-valid (tuple ws) vs h e = cc
set-valid (set ws) vs h e = (subst IsAscending (same_Some _ _ e) h.0, subst (Every IsValue) (same_Some _ _ e) (every-AreValues ws h.1))
set-valid (array ds ws) vs h e = cc

pub array-valid : (v : Datum) (t : Table) → IsValue v → as_array v ≡ Some t → All (λ d. d < 2 ^ 128) t.dims × IsTable t × Every IsValue t.cells
array-valid (natural m) t h e = cc
array-valid (truth b) t h e = cc
array-valid (text s) t h e = cc
array-valid (tuple ws) t h e = cc
array-valid (set ws) t h e = cc
array-valid (array ds ws) t h e =
    subst (λ (u : Table). All (λ d. d < 2 ^ 128) u.dims × IsTable u × Every IsValue u.cells) (same_Some _ _ e) (h.0, h.1, every-AreValues ws h.2)

pub set_of-valid : (vs : List Datum) → Every IsValue vs → IsValue (set_of vs)
set_of-valid vs h = (subst IsAscending (sym (list_of-data_of (canon vs))) (ascending_canon vs), AreValues-every (canon vs) (Every-canon IsValue vs h))

tuple_of-valid : (vs : List Datum) (v : Datum) → Every IsValue vs → tuple_of vs ≡ Some v → IsValue v
tuple_of-valid [] v h e = cc
tuple_of-valid (u ∷ []) v h e = cc
tuple_of-valid (u ∷ w ∷ vs) v h e =
    subst IsValue (same_Some _ _ e) (subst (λ l. 2 ≤ length l) (sym (list_of-data_of (u ∷ w ∷ vs))) (omega arith), AreValues-every (u ∷ w ∷ vs) h)

nth-valid : (j : ℕ) (vs : List Datum) (v : Datum) → Every IsValue vs → nth j vs ≡ Some v → IsValue v
nth-valid zero vs v h e = cc
nth-valid (suc j) vs v h e = Every-get IsValue vs j v h e

if-is : {A : Type 0} (b : Bool) (o : Option A) (x : A) → (if b then o else None) ≡ Some x → (b ≡ true) × (o ≡ Some x)
if-is true o x e = (refl, e)
if-is false o x e = cc

pub part_of-valid : (j n : ℕ) (v w : Datum) → IsValue v → part_of j n v ≡ Some w → IsValue w
part_of-valid j n v w h e =
    let r = then-is (as_tuple v) (λ vs. if nat_eq (length vs) n then nth j vs else None) w e in
    nth-valid j r.0 w (tuple-valid v r.0 h r.1) (if-is (nat_eq (length r.0) n) (nth j r.0) w r.2).1

pub union_of-valid : (v w u : Datum) → IsValue v → IsValue w → union_of v w ≡ Some u → IsValue u
union_of-valid v w u h k e =
    let r = then-is (as_set v) (λ vs. as_set w >>= λ ws. Some (set_of (vs ++ ws))) u e in
    let s = then-is (as_set w) (λ ws. Some (set_of (r.0 ++ ws))) u r.2 in
    subst IsValue (same_Some _ _ s.2) (set_of-valid (r.0 ++ s.0) (Every-append IsValue r.0 s.0 (set-valid v r.0 h r.1).1 (set-valid w s.0 k s.1).1))

pub union_all-valid : (vs : List Datum) (u : Datum) → Every IsValue vs → union_all vs ≡ Some u → IsValue u
union_all-valid vs u h e =
    let r = then-is (each as_set vs) (λ sets. Some (set_of (concat sets))) u e in
    let all = each-values as_set IsValue (λ ws. Every IsValue ws) (λ v ws k f. (set-valid v ws k f).1) vs r.0 h r.1 in
    subst IsValue (same_Some _ _ r.2) (set_of-valid (concat r.0) (Every-lists IsValue r.0 all))

only-valid : (vs : List Datum) (v : Datum) → Every IsValue vs → only vs ≡ Some v → IsValue v
only-valid [] v h e = cc
only-valid (w ∷ []) v h e = subst IsValue (same_Some _ _ e) h.0
only-valid (u ∷ w ∷ vs) v h e = cc

pub get_of-valid : (v w : Datum) → IsValue v → get_of v ≡ Some w → IsValue w
get_of-valid v w h e = let r = then-is (as_set v) only w e in only-valid r.0 w (set-valid v r.0 h r.1).1 r.2

pub gen_of-valid : (v w : Datum) → IsValue v → gen_of v ≡ Some w → IsValue w
gen_of-valid v w h e =
    let r = then-is (as_natural v) (λ n. Some (set (data_of (map natural (below n))))) w e in
    let small = natural-valid v r.0 h r.1 in
    subst IsValue (same_Some _ _ r.2) (
      subst IsAscending (sym (list_of-data_of (map natural (below r.0)))) (ascending_below r.0),
      AreValues-every (map natural (below r.0)) (Every-onto IsValue natural (below r.0) (Every-below (λ n. n < 2 ^ 128) r.0 (λ j l. omega (arith, l, small)))),
    )

fits-valid : (n k : ℕ) → if_fits n ≡ Some k → k < 2 ^ 128
fits-valid n k e = let r = cond_some (nat_lt n (2 ^ 128)) n k e in omega (arith, ltb-true n (2 ^ 128) r.0, r.1)

not-is : {A : Type 0} (b : Bool) (x y : A) → cond b None (Some x) ≡ Some y → (b ≡ false) × (x ≡ y)
not-is true x y e = cc
not-is false x y e = (refl, same_Some _ _ e)

-- the answer of an operation on numbers below 2^128 is below it
pub arith_by-valid : (op : ArithOp) (m n k : ℕ) → m < 2 ^ 128 → n < 2 ^ 128 → arith_by op m n ≡ Some k → k < 2 ^ 128
arith_by-valid Add m n k h l e = fits-valid (m + n) k e
arith_by-valid Monus m n k h l e = let z : m - n ≡ k = same_Some _ _ e in omega (arith, h, z)
arith_by-valid Mul m n k h l e = fits-valid (m * n) k e
arith_by-valid Quotient m n k h l e = let r = not-is (nat_eq n 0) (m / n) k e in subst (λ j. j < 2 ^ 128) r.1 (quotient_below m n (eqb-false n 0 r.0) h)
  where
    quotient_below : (m n : ℕ) → (n ≡ 0 → ⊥) → m < 2 ^ 128 → m / n < 2 ^ 128
    quotient_below m n p q = grind (arith, p, q)
arith_by-valid Remainder m n k h l e = let r = not-is (nat_eq n 0) (m % n) k e in subst (λ j. j < 2 ^ 128) r.1 (remainder_below m n (eqb-false n 0 r.0) l)
  where
    remainder_below : (m n : ℕ) → (n ≡ 0 → ⊥) → n < 2 ^ 128 → m % n < 2 ^ 128
    remainder_below m n p q = grind (arith, p, q)

pub arith_of-valid : (op : ArithOp) (v w u : Datum) → IsValue v → IsValue w → arith_of op v w ≡ Some u → IsValue u
arith_of-valid op v w u h k e =
    let r = then-is (as_natural v) (λ m. as_natural w >>= λ n. arith_by op m n >>= λ j. Some (natural j)) u e in
    let s = then-is (as_natural w) (λ n. arith_by op r.0 n >>= λ j. Some (natural j)) u r.2 in
    let t = then-is (arith_by op r.0 s.0) (λ j. Some (natural j)) u s.2 in
    subst IsValue (same_Some _ _ t.2) (arith_by-valid op r.0 s.0 t.0 (natural-valid v r.0 h r.1) (natural-valid w s.0 k s.1) t.1)

pub in_range-valid : (n : ℕ) (v : Datum) → in_range n ≡ Some v → IsValue v
in_range-valid n v e = let r = if-is (nat_lt n (2 ^ 128)) (Some (natural n)) v e in subst IsValue (same_Some _ _ r.1) (ltb-true n (2 ^ 128) r.0)

pub sum_of-valid : (vs : List Datum) (v : Datum) → sum_of vs ≡ Some v → IsValue v
sum_of-valid vs v e = let r = then-is (each as_natural vs) (λ ns. in_range (sum ns)) v e in in_range-valid (sum r.0) v r.2

pub array_of-valid : (ds : List ℕ) (vs : List Datum) (v : Datum) → Every (λ d. d < 2 ^ 128) ds → Every IsValue vs → array_of ds vs ≡ Some v → IsValue v
array_of-valid ds vs v h k e =
    let r = array_of-is ds vs v e in
    subst IsValue (sym r.0) (
      All-from_recursion (λ d. d < 2 ^ 128) ds h,
      subst (λ l. IsTable (record { dims = ds; cells = l })) (sym (list_of-data_of vs)) (record { some = r.1; few = r.2; full = r.3 }),
      AreValues-every vs k,
    )

pub literal_of-valid : (rank : ℕ) (vs : List Datum) (v : Datum) → Every IsValue vs → literal_of rank vs ≡ Some v → IsValue v
literal_of-valid rank vs v h e =
    let r = then-is (each as_natural (take rank vs)) (λ ds. if nat_eq (length ds) rank then array_of ds (drop rank vs) else None) v e in
    let dims = each-values as_natural IsValue (λ n. n < 2 ^ 128) (λ w n k f. natural-valid w n k f) (take rank vs) r.0 (Every-take IsValue rank vs h) r.1 in
    array_of-valid r.0 (drop rank vs) v dims (Every-drop IsValue rank vs h) (if-is (nat_eq (length r.0) rank) (array_of r.0 (drop rank vs)) v r.2).1

index_value-valid : (ns : List ℕ) → 1 ≤ length ns → Every (λ n. n < 2 ^ 128) ns → IsValue (index_value ns)
index_value-valid [] l h = absurd (omega (arith, l))
index_value-valid (n ∷ []) l h = h.0
index_value-valid (m ∷ n ∷ ns) l h = (
  subst (λ l. 2 ≤ length l) (sym (list_of-data_of (map natural (m ∷ n ∷ ns)))) (omega arith),
  AreValues-every (map natural (m ∷ n ∷ ns)) (Every-onto IsValue natural (m ∷ n ∷ ns) h),
)

pub dim_of-valid : (rank : ℕ) (v w : Datum) → IsValue v → dim_of rank v ≡ Some w → IsValue w
dim_of-valid rank v w h e =
    let r = then-is (dims_of rank v) (λ ds. Some (index_value ds)) w e in
    let s = then-is (as_array v) (λ t. if nat_eq (length t.dims) rank then Some t.dims else None) r.0 r.1 in
    let a = array-valid v s.0 h s.1 in
    let same : s.0.dims ≡ r.0 = same_Some _ _ (if-is (nat_eq (length s.0.dims) rank) (Some s.0.dims) r.0 s.2).1 in
    subst IsValue (same_Some _ _ r.2) (
    subst (λ ds. IsValue (index_value ds)) same (index_value-valid s.0.dims a.1.some (recursion_from_All (λ d. d < 2 ^ 128) s.0.dims a.0))
    )

pub cell_of-valid : (v : Datum) (at : List ℕ) (w : Datum) → IsValue v → cell_of v at ≡ Some w → IsValue w
cell_of-valid v at w h e =
    let r = then-is (as_array v) (λ t. cell t at) w e in
    let a = array-valid v r.0 h r.1 in
    let s = then-is (offset_of r.0.dims at) (slice_get r.0.cells) w (sym (cell-offset_of r.0 at) ∙ r.2) in
    Every-get IsValue r.0.cells s.0 w a.2 s.2

in_range-every : (ds : List ℕ) → all_in_range ds ≡ true → Every (λ d. d < 2 ^ 128) ds
in_range-every [] e = tt
in_range-every (d ∷ ds) e = let r = and_parts (nat_lt d (2 ^ 128)) (all_in_range ds) e in (ltb-true d (2 ^ 128) r.0, in_range-every ds r.1)

values_at-valid : (at : List ℕ) (ps : List (List ℕ × Datum)) → Every (λ p. IsValue p.1) ps → Every IsValue (values_at at ps)
values_at-valid at [] h = tt
values_at-valid at (p ∷ ps) h = go (pointwise nat_eq at p.0) (values_at-valid at ps h.1)
  where
    go : (b : Bool) → Every IsValue (values_at at ps) → Every IsValue (map (λ q. q.1) (cond b (p ∷ filter (λ q. pointwise nat_eq at q.0) ps) (filter (λ q. pointwise nat_eq at q.0) ps)))
    go true k = (h.0, k)
    go false k = k

as_indexed-valid : (rank : ℕ) (v : Datum) (p : List ℕ × Datum) → IsValue v → as_indexed rank v ≡ Some p → IsValue p.1
as_indexed-valid rank v p h e =
    let r = then-is (part_of 1 2 v >>= index_numbers rank) (λ at. part_of 2 2 v >>= λ w. Some (at, w)) p e in
    let s = then-is (part_of 2 2 v) (λ w. Some (r.0, w)) p r.2 in
    subst (λ (q : List ℕ × Datum). IsValue q.1) (same_Some _ _ s.2) (part_of-valid 2 2 v s.0 h s.1)

pub index_of-valid : (rank : ℕ) (v w : Datum) → IsValue v → index_of rank v ≡ Some w → IsValue w
index_of-valid rank v w h e =
    let r = then-is (as_set v >>= each (as_indexed rank)) (λ ps. index_array (dims_above rank (map (λ p. p.0) ps)) ps) w e in
    let s = then-is (as_set v) (each (as_indexed rank)) r.0 r.1 in
    let pairs = each-values (as_indexed rank) IsValue (λ p. IsValue p.1) (λ u p k f. as_indexed-valid rank u p k f) s.0 r.0 (set-valid v s.0 h s.1).1 s.2 in
    let ds = dims_above rank (map (λ p. p.0) r.0) in
    let i = indexed-is ds r.0 w r.2 in
    let cells = map (λ at. set_of (values_at at r.0)) (indices ds) in
    let all = Every-onto IsValue (λ at. set_of (values_at at r.0)) (indices ds) (Every-all (λ at. IsValue (set_of (values_at at r.0))) (λ at. set_of-valid (values_at at r.0) (values_at-valid at r.0 pairs)) (indices ds)) in
    subst IsValue (sym i.1) (
      All-from_recursion (λ d. d < 2 ^ 128) ds (in_range-every ds i.0),
      subst (λ l. IsTable (record { dims = ds; cells = l })) (sym (list_of-data_of cells)) (record { some = i.2; few = i.3; full = sym (length-map (indices ds) (λ at. set_of (values_at at r.0)) ∙ length_indices ds) }),
      AreValues-every cells all,
    )

nullary-valid : (o : Option Datum) (vs : List Datum) (v : Datum) → ((w : Datum) → o ≡ Some w → IsValue w) → nullary o vs ≡ Some v → IsValue v
nullary-valid o [] v h e = h v e
nullary-valid o (w ∷ vs) v h e = cc

unary-valid : (f : Datum → Option Datum) (vs : List Datum) (v : Datum) → ((u w : Datum) → IsValue u → f u ≡ Some w → IsValue w) → Every IsValue vs → unary f vs ≡ Some v → IsValue v
unary-valid f [] v h k e = cc
unary-valid f (u ∷ []) v h k e = h u v k.0 e
unary-valid f (u ∷ w ∷ vs) v h k e = cc

binary-valid : (f : Datum → Datum → Option Datum) (vs : List Datum) (v : Datum) → ((t u w : Datum) → IsValue t → IsValue u → f t u ≡ Some w → IsValue w) → Every IsValue vs → binary f vs ≡ Some v → IsValue v
binary-valid f [] v h k e = cc
binary-valid f (u ∷ []) v h k e = cc
binary-valid f (u ∷ w ∷ []) v h k e = h u w v k.0 k.1.0 e
binary-valid f (u ∷ w ∷ x ∷ vs) v h k e = cc

sub-valid : (vs : List Datum) (v : Datum) → Every IsValue vs → sub_value vs ≡ Some v → IsValue v
sub-valid [] v h e = cc
sub-valid (a ∷ at) v h e = let r = then-is (each as_natural at) (cell_of a) v e in cell_of-valid a r.0 v h.0 r.2

-- the value of each form is a value of the language
pub strict-valid : (s : Strict) (vs : List Datum) (v : Datum) → HasValidConstant s → Every IsValue vs → strict_value s vs ≡ Some v → IsValue v
strict-valid (Strict.nat n) vs v c h e = nullary-valid (Some (natural n)) vs v (λ w f. subst IsValue (same_Some _ _ f) c) e
strict-valid (Strict.bool b) vs v c h e = nullary-valid (Some (truth b)) vs v (λ w f. subst IsValue (same_Some _ _ f) tt) e
strict-valid (Strict.text s) vs v c h e = nullary-valid (Some (text s)) vs v (λ w f. subst IsValue (same_Some _ _ f) c) e
strict-valid Strict.bottom vs v c h e = cc
strict-valid Strict.tuple vs v c h e = tuple_of-valid vs v h e
strict-valid (Strict.proj at of) vs v c h e = unary-valid (part_of at of) vs v (part_of-valid at of) h e
strict-valid (Strict.arith op) vs v c h e = binary-valid (arith_of op) vs v (arith_of-valid op) h e
strict-valid (Strict.compare op) vs v c h e = binary-valid (compare_of op) vs v (λ t u w k l f. subst IsValue (same_Some _ _ f) tt) h e
strict-valid Strict.empty vs v c h e = nullary-valid (Some (set nil)) vs v (λ w f. subst IsValue (same_Some _ _ f) (set_of-valid [] tt)) e
strict-valid Strict.single vs v c h e = unary-valid (λ u. Some (set_of (u ∷ []))) vs v (λ u w k f. subst IsValue (same_Some _ _ f) (set_of-valid (u ∷ []) (k, tt))) h e
strict-valid Strict.union vs v c h e = binary-valid union_of vs v union_of-valid h e
strict-valid Strict.gen vs v c h e = unary-valid gen_of vs v gen_of-valid h e
strict-valid Strict.get vs v c h e = unary-valid get_of vs v get_of-valid h e
strict-valid Strict.sub vs v c h e = sub-valid vs v h e
strict-valid (Strict.dim rank) vs v c h e = unary-valid (dim_of rank) vs v (dim_of-valid rank) h e
strict-valid (Strict.index rank) vs v c h e = unary-valid (index_of rank) vs v (index_of-valid rank) h e
strict-valid (Strict.literal rank) vs v c h e = literal_of-valid rank vs v h e
