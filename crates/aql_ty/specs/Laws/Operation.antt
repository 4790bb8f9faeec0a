-- The value of an operation has its type, where the parts have theirs; and the parts of values of each kind of type.
use Rattle.std.proofs.Common.{◌≡◌, ℕ, zero, suc, ◌≤◌, Bool, true, false, nat_eq, List, [], ◌∷◌, ◌++◌, length, map, drop, take, replicate, Option, Some, None, refl, sym, ap, subst, ◌∙◌, arith, if◌then◌else◌, cond, zip}
use Rattle.std.specs.List.{slice_get, filter}
use Rattle.std.specs.Cmp.Lexicographic.{pointwise}
use Rattle.std.proofs.lemmas.List.{length-map}
use Rattle.std.proofs.lemmas.Bool.{eqb-true}
use Rattle.std.proofs.lemmas.Option.{same_Some}
use Rattle.aql_value.specs.Datum as datum
use Rattle.aql_value.specs.Datum.{Datum, Table, data_of, list_of}
use Rattle.aql_value.specs.Laws.Datum.{list_of-data_of}
use Rattle.aql_value.specs.Canon.{canon, IsAscending}
use Rattle.aql_value.specs.Laws.Canon.{ascending_canon}
use Rattle.aql_value.specs.Laws.Set.{Every-canon, ascending_below}
use Rattle.aql_value.specs.Indices.{indices, product, cell, paired_value}
use Rattle.aql_value.specs.Laws.Indices.{length_indices}
use Rattle.aql_value.specs.Lists.{Every, below}
use Rattle.aql_value.specs.Laws.Lists.{Every-all, Every-onto, Every-append, length-below}
use Rattle.aql_value.specs.Ops.{arith_by}
use Rattle.aql_value.specs.Operations.{as_natural, as_tuple, as_set, as_array, tuple_of, nth, part_of, set_of, union_of, only, get_of, gen_of, arith_of, compare_of, array_of, index_value, dims_of, dim_of, cell_of, index_numbers, as_indexed, greater_each, dims_above, values_at, index_array, index_of}
use Rattle.aql_value.specs.Laws.Operations.{array_of-is, indexed-is}
use Rattle.aql_value.specs.Partial.{◌>>=◌, each}
use Rattle.aql_value.specs.Laws.Partial.{then-is, each-values}
use Rattle.aql_value.specs.Strict.{Strict, strict_value, nullary, unary, binary, sub_value}
use Rattle.aql_ty.specs.Types as types
use Rattle.aql_ty.specs.Types.{Ty, Tys, no_type, type, natural, truth, text, apply, apply_all, Subst, tys_of, index_type, IsRank}
use Rattle.aql_ty.specs.ValueTypes.{HasType, HaveTypes}
use Rattle.aql_ty.specs.OperationTypes.{strict_rule}

-- lists of values of these types
pub has-get : (Ts : List Ty) (vs : List Datum) (i : ℕ) (T : Ty) (v : Datum) → HaveTypes Ts vs → slice_get Ts i ≡ Some T → slice_get vs i ≡ Some v → HasType T v
has-get [] vs i T v h t e = cc
has-get (A ∷ Ts) [] i T v h t e = absurd h
has-get (A ∷ Ts) (w ∷ vs) zero T v h t e = let a : A ≡ T = cc in let b : w ≡ v = cc in subst (λ X. HasType X v) a (subst (HasType A) b h.0)
has-get (A ∷ Ts) (w ∷ vs) (suc i) T v h t e = has-get Ts vs i T v h.1 t e

pub has-append : (As Bs : List Ty) (vs ws : List Datum) → HaveTypes As vs → HaveTypes Bs ws → HaveTypes (As ++ Bs) (vs ++ ws)
has-append [] Bs [] ws h k = k
has-append [] Bs (v ∷ vs) ws h k = absurd h
has-append (A ∷ As) Bs [] ws h k = absurd h
has-append (A ∷ As) Bs (v ∷ vs) ws h k = (h.0, has-append As Bs vs ws h.1 k)

pub has-length : (Ts : List Ty) (vs : List Datum) → HaveTypes Ts vs → length vs ≡ length Ts
has-length [] [] h = refl
has-length [] (v ∷ vs) h = absurd h
has-length (A ∷ Ts) [] h = absurd h
has-length (A ∷ Ts) (v ∷ vs) h = ap suc (has-length Ts vs h.1)

pub some-has : (T : Ty) (w v : Datum) → Some w ≡ Some v → HasType T w → HasType T v
some-has T w v e h = let z : w ≡ v = cc in subst (HasType T) z h

pub as-type : (A T : Ty) (v : Datum) → T ≡ A → HasType A v → HasType T v
as-type A T v e h = subst (λ X. HasType X v) (sym e) h

-- the parts of values of a kind of type
pub has-set : (T : Ty) (vs : List Datum) → Every (HasType T) vs → HasType (types.set_of T) (set_of vs)
has-set T vs h = (canon vs, refl, ascending_canon vs, Every-canon (HasType T) vs h)

pub set-members : (T : Ty) (v : Datum) (ms : List Datum) → HasType (types.set_of T) v → as_set v ≡ Some ms → IsAscending ms × Every (HasType T) ms
set-members T v ms h e =
    let z : h.0 ≡ ms = same_Some h.0 ms (sym (ap Some (list_of-data_of h.0)) ∙ ap as_set (sym h.1) ∙ e) in
    subst (λ l. IsAscending l × Every (HasType T) l) z (h.2, h.3)

pub tuple-parts : (Ts : List Ty) (v : Datum) (vs : List Datum) → HasType (types.product (tys_of Ts)) v → as_tuple v ≡ Some vs → HaveTypes Ts vs
tuple-parts Ts v vs h e =
    let z : h.0 ≡ vs = same_Some h.0 vs (sym (ap Some (list_of-data_of h.0)) ∙ ap as_tuple (sym h.1) ∙ e) in
    subst (HaveTypes Ts) z h.2

-- an array's table: as many dimensions as the rank, a cell for each index, cells of the type
pub record TableHas (rank : ℕ) (T : Ty) (t : Table) : Type 0 where
  pub rank_is : length t.dims ≡ rank
  pub full : product t.dims ≡ length t.cells
  pub cells_have : Every (HasType T) t.cells

pub array-table : (rank : ℕ) (T : Ty) (v : Datum) (t : Table) → HasType (types.array_of rank T) v → as_array v ≡ Some t → TableHas rank T t
array-table rank T v t h e =
    let made : Table = record { dims = h.0; cells = h.1 } in
    let z : made ≡ t = same_Some made t (ap (λ l. Some (record { dims = h.0; cells = l })) (sym (list_of-data_of h.1)) ∙ ap as_array (sym h.2) ∙ e) in
    subst (TableHas rank T) z (record { rank_is = h.3; full = h.4; cells_have = h.5 })

pub has-array : (T : Ty) (ds : List ℕ) (vs : List Datum) (v : Datum) → array_of ds vs ≡ Some v → Every (HasType T) vs → HasType (types.array_of (length ds) T) v
has-array T ds vs v e h = let r = array_of-is ds vs v e in (ds, vs, r.0, refl, r.3, h)

-- the forms that evaluate every part
abbrev pub StrictSound : Strict → Type 0
StrictSound s = (Ts : List Ty) (T : Ty) (vs : List Datum) (v : Datum) → strict_rule s Ts T → HaveTypes Ts vs → strict_value s vs ≡ Some v → HasType T v

nullary-value : (w : Datum) (vs : List Datum) (v : Datum) → nullary (Some w) vs ≡ Some v → Some w ≡ Some v
nullary-value w [] v e = e
nullary-value w (x ∷ vs) v e = cc

pub unary-value : (f : Datum → Option Datum) (A : Ty) (vs : List Datum) (v : Datum) → HaveTypes (A ∷ []) vs → unary f vs ≡ Some v → (w : Datum) × HasType A w × (f w ≡ Some v)
unary-value f A [] v h e = absurd h
unary-value f A (w ∷ []) v h e = (w, h.0, e)
unary-value f A (w ∷ x ∷ vs) v h e = absurd h.1

pub binary-value : (f : Datum → Datum → Option Datum) (A B : Ty) (vs : List Datum) (v : Datum) → HaveTypes (A ∷ B ∷ []) vs → binary f vs ≡ Some v →
    (w : Datum) × (x : Datum) × HasType A w × HasType B x × (f w x ≡ Some v)
binary-value f A B [] v h e = absurd h
binary-value f A B (w ∷ []) v h e = absurd h.1
binary-value f A B (w ∷ x ∷ []) v h e = (w, x, h.0, h.1.0, e)
binary-value f A B (w ∷ x ∷ y ∷ vs) v h e = absurd h.1.1

pub tuple-sound : (Ts : List Ty) (vs : List Datum) (v : Datum) → HaveTypes Ts vs → tuple_of vs ≡ Some v → HasType (types.product (tys_of Ts)) v
tuple-sound Ts [] v h e = cc
tuple-sound Ts (x ∷ []) v h e = cc
tuple-sound Ts (x ∷ y ∷ vs) v h e = some-has (types.product (tys_of Ts)) _ v e (x ∷ y ∷ vs, refl, h)

pub part-sound : (Ts : List Ty) (of j : ℕ) (T : Ty) (w v : Datum) → HasType (types.product (tys_of Ts)) w → slice_get Ts j ≡ Some T → part_of (suc j) of w ≡ Some v → HasType T v
part-sound Ts of j T w v h t e =
    let a = then-is (as_tuple w) (λ vs. if nat_eq (length vs) of then nth (suc j) vs else None) v e in
    chosen a.0 (tuple-parts Ts w a.0 h a.1) (nat_eq (length a.0) of) a.2
  where
    chosen : (vs : List Datum) → HaveTypes Ts vs → (b : Bool) → (if b then slice_get vs j else None) ≡ Some v → HasType T v
    chosen vs k true m = has-get Ts vs j T v k t m
    chosen vs k false m = cc

naturals-have : (ns : List ℕ) → Every (HasType natural) (map datum.natural ns)
naturals-have [] = tt
naturals-have (n ∷ ns) = ((n, refl), naturals-have ns)

pub index_value-has : (ds : List ℕ) → HasType (index_type (length ds)) (index_value ds)
index_value-has [] = ([], refl, tt)
index_value-has (d ∷ []) = (d, refl)
index_value-has (d ∷ e ∷ ds) = (map datum.natural (d ∷ e ∷ ds), refl, ((d, refl), ((e, refl), all ds)))
  where
    all : (ds : List ℕ) → HaveTypes (replicate (length ds) natural) (map datum.natural ds)
    all [] = tt
    all (d ∷ ds) = ((d, refl), all ds)

literal-lists : (A : Ty) (rank n : ℕ) (vs : List Datum) → HaveTypes (replicate rank natural ++ replicate n A) vs → Every (HasType A) (drop rank vs)
literal-lists A zero zero [] h = tt
literal-lists A zero zero (v ∷ vs) h = absurd h
literal-lists A zero (suc n) [] h = absurd h
literal-lists A zero (suc n) (v ∷ vs) h = (h.0, literal-lists A zero n vs h.1)
literal-lists A (suc rank) n [] h = absurd h
literal-lists A (suc rank) n (v ∷ vs) h = literal-lists A rank n vs h.1

-- the values of the pairs of an index set
as_indexed-sound : (rank : ℕ) (I A : Ty) (w : Datum) (p : List ℕ × Datum) → HasType (types.product (tys_of (I ∷ A ∷ []))) w → as_indexed rank w ≡ Some p → HasType A p.1
as_indexed-sound rank I A w p h e =
    let a = then-is (part_of 1 2 w >>= index_numbers rank) (λ at. part_of 2 2 w >>= λ x. Some (at, x)) p e in
    let b = then-is (part_of 2 2 w) (λ x. Some (a.0, x)) p a.2 in
    let z : (a.0, b.0) ≡ p = same_Some (a.0, b.0) p b.2 in
    subst (λ q. HasType A q.1) z (part-sound (I ∷ A ∷ []) 2 1 A w b.0 h refl b.1)

values_at-have : (A : Ty) (at : List ℕ) (ps : List (List ℕ × Datum)) → Every (λ p. HasType A p.1) ps → Every (HasType A) (values_at at ps)
values_at-have A at [] h = tt
values_at-have A at (p ∷ ps) h = kept (pointwise nat_eq at p.0) (values_at-have A at ps h.1)
  where
    kept : (b : Bool) → Every (HasType A) (values_at at ps) → Every (HasType A) (map (λ p. p.1) (cond b (p ∷ filter (λ q. pointwise nat_eq at q.0) ps) (filter (λ q. pointwise nat_eq at q.0) ps)))
    kept true k = (h.0, k)
    kept false k = k

index_numbers-length : (rank : ℕ) (v : Datum) (at : List ℕ) → 1 ≤ rank → index_numbers rank v ≡ Some at → length at ≡ rank
index_numbers-length zero v at l e = absurd (omega (arith, l))
index_numbers-length (suc zero) v at l e = let a = then-is (as_natural v) (λ n. Some (n ∷ [])) at e in let z : a.0 ∷ [] ≡ at = same_Some _ at a.2 in ap length (sym z)
index_numbers-length (suc (suc rank)) v at l e =
    let a = then-is (as_tuple v >>= each as_natural) (λ at. if nat_eq (length at) (suc (suc rank)) then Some at else None) at e in
    chosen a.0 (nat_eq (length a.0) (suc (suc rank))) refl a.2
  where
    chosen : (ns : List ℕ) (b : Bool) → nat_eq (length ns) (suc (suc rank)) ≡ b → (if b then Some ns else None) ≡ Some at → length at ≡ suc (suc rank)
    chosen ns true q k = let z : ns ≡ at = same_Some ns at k in ap length (sym z) ∙ eqb-true (length ns) (suc (suc rank)) q
    chosen ns false q k = cc

greater_each-length : (ms ns : List ℕ) (k : ℕ) → length ms ≡ k → length ns ≡ k → length (greater_each ms ns) ≡ k
greater_each-length [] ns k e f = e
greater_each-length (m ∷ ms) [] k e f = absurd (omega (arith, e, f))
greater_each-length (m ∷ ms) (n ∷ ns) zero e f = absurd (omega (arith, e))
greater_each-length (m ∷ ms) (n ∷ ns) (suc k) e f = ap suc (greater_each-length ms ns k (omega (arith, e)) (omega (arith, f)))

dims_above-length : (rank : ℕ) (ats : List (List ℕ)) → Every (λ at. length at ≡ rank) ats → length (dims_above rank ats) ≡ rank
dims_above-length rank [] h = length-map (below rank) (λ j. 0) ∙ length-below rank
dims_above-length rank (at ∷ ats) h = greater_each-length (map suc at) (dims_above rank ats) rank (length-map at suc ∙ h.0) (dims_above-length rank ats h.1)

index-sound : (rank : ℕ) (A : Ty) (w v : Datum) → 1 ≤ rank → HasType (types.set_of (types.product (tys_of (index_type rank ∷ A ∷ [])))) w → index_of rank w ≡ Some v → HasType (types.array_of rank (types.set_of A)) v
index-sound rank A w v l h e =
    let a = then-is (as_set w >>= each (as_indexed rank)) (λ ps. index_array (dims_above rank (map (λ p. p.0) ps)) ps) v e in
    let b = then-is (as_set w) (each (as_indexed rank)) a.0 a.1 in
    let members = (set-members (types.product (tys_of (index_type rank ∷ A ∷ []))) w b.0 h b.1).1 in
    let have = each-values (as_indexed rank) (HasType (types.product (tys_of (index_type rank ∷ A ∷ [])))) (λ p. HasType A p.1) (λ x p k m. as_indexed-sound rank (index_type rank) A x p k m) b.0 a.0 members b.2 in
    let sizes = each-values (as_indexed rank) (HasType (types.product (tys_of (index_type rank ∷ A ∷ [])))) (λ p. length p.0 ≡ rank) (λ x p k m. indexed-length x p m) b.0 a.0 members b.2 in
    let ds : List ℕ = dims_above rank (map (λ p. p.0) a.0) in
    let n : length ds ≡ rank = dims_above-length rank (map (λ p. p.0) a.0) (Every-onto (λ at. length at ≡ rank) (λ p. p.0) a.0 sizes) in
    let r = indexed-is ds a.0 v a.2 in (
      ds,
      map (λ at. set_of (values_at at a.0)) (indices ds),
      r.1,
      n,
      sym (length-map (indices ds) (λ at. set_of (values_at at a.0)) ∙ length_indices ds),
      Every-onto (HasType (types.set_of A)) (λ at. set_of (values_at at a.0)) (indices ds) (Every-all _ (λ at. has-set A (values_at at a.0) (values_at-have A at a.0 have)) (indices ds)),
    )
  where
    indexed-length : (x : Datum) (p : List ℕ × Datum) → as_indexed rank x ≡ Some p → length p.0 ≡ rank
    indexed-length x p m =
        let a = then-is (part_of 1 2 x >>= index_numbers rank) (λ at. part_of 2 2 x >>= λ y. Some (at, y)) p m in
        let b = then-is (part_of 2 2 x) (λ y. Some (a.0, y)) p a.2 in
        let c = then-is (part_of 1 2 x) (index_numbers rank) a.0 a.1 in
        let z : (a.0, b.0) ≡ p = same_Some (a.0, b.0) p b.2 in
        ap (λ q. length q.0) (sym z) ∙ index_numbers-length rank c.0 a.0 l c.2

pub cell-found : (T : Ty) (at : List ℕ) (ixs : List (List ℕ)) (cs : List Datum) (v : Datum) → Every (HasType T) cs → paired_value at (zip ixs cs) ≡ Some v → HasType T v
cell-found T at [] cs v h e = cc
cell-found T at (x ∷ ixs) [] v h e = cc
cell-found T at (x ∷ ixs) (c ∷ cs) v h e = chosen (pointwise nat_eq at x) (λ k. cell-found T at ixs cs v h.1 k) e
  where
    chosen : (b : Bool) → (paired_value at (zip ixs cs) ≡ Some v → HasType T v) → cond b (Some c) (paired_value at (zip ixs cs)) ≡ Some v → HasType T v
    chosen true later k = some-has T c v k h.0
    chosen false later k = later k

pub strict-sound : (s : Strict) → StrictSound s
strict-sound (Strict.nat n) Ts T vs v r h e = as-type natural T v r.1 (some-has natural _ v (nullary-value _ vs v e) (n, refl))
strict-sound (Strict.bool b) Ts T vs v r h e = as-type truth T v r.1 (some-has truth _ v (nullary-value _ vs v e) (b, refl))
strict-sound (Strict.text s) Ts T vs v r h e = as-type text T v r.1 (some-has text _ v (nullary-value _ vs v e) (s, refl))
strict-sound Strict.bottom Ts T vs v r h e = cc
strict-sound Strict.tuple Ts T vs v r h e = as-type _ T v r.1 (tuple-sound Ts vs v h e)
strict-sound (Strict.proj at of) Ts T vs v r h e =
    let u = unary-value (part_of at of) (types.product (tys_of r.0)) vs v (subst (λ X. HaveTypes X vs) r.2 h) e in
    part-sound r.0 of r.1 T u.0 v u.1 r.5 (ap (λ n. part_of n of u.0) (sym r.4) ∙ u.2)
strict-sound (Strict.arith op) Ts T vs v r h e =
    let u = binary-value (arith_of op) natural natural vs v (subst (λ X. HaveTypes X vs) r.0 h) e in
    let a = then-is (as_natural u.0) (λ m. as_natural u.1 >>= λ n. arith_by op m n >>= λ k. Some (datum.natural k)) v u.4 in
    let b = then-is (as_natural u.1) (λ n. arith_by op a.0 n >>= λ k. Some (datum.natural k)) v a.2 in
    let c = then-is (arith_by op a.0 b.0) (λ k. Some (datum.natural k)) v b.2 in
    as-type natural T v r.1 (some-has natural _ v c.2 (c.0, refl))
strict-sound (Strict.compare op) Ts T vs v r h e =
    let u = binary-value (compare_of op) r.0 r.0 vs v (subst (λ X. HaveTypes X vs) r.1 h) e in as-type truth T v r.2 (some-has truth _ v u.4 (_, refl))
strict-sound Strict.empty Ts T vs v r h e = as-type _ T v r.2 (some-has (types.set_of r.0) _ v (nullary-value _ vs v e) ([], refl, ascending_canon [], tt))
strict-sound Strict.single Ts T vs v r h e =
    let u = unary-value (λ x. Some (set_of (x ∷ []))) r.0 vs v (subst (λ X. HaveTypes X vs) r.1 h) e in
    as-type _ T v r.2 (some-has (types.set_of r.0) _ v u.2 (has-set r.0 (u.0 ∷ []) (u.1, tt)))
strict-sound Strict.union Ts T vs v r h e =
    let u = binary-value union_of (types.set_of r.0) (types.set_of r.0) vs v (subst (λ X. HaveTypes X vs) r.1 h) e in
    let a = then-is (as_set u.0) (λ xs. as_set u.1 >>= λ ys. Some (set_of (xs ++ ys))) v u.4 in
    let b = then-is (as_set u.1) (λ ys. Some (set_of (a.0 ++ ys))) v a.2 in
    as-type _ T v r.2 (some-has (types.set_of r.0) _ v b.2 (has-set r.0 (a.0 ++ b.0) (Every-append (HasType r.0) a.0 b.0 (set-members r.0 u.0 a.0 u.2 a.1).1 (set-members r.0 u.1 b.0 u.3 b.1).1)))
strict-sound Strict.gen Ts T vs v r h e =
    let u = unary-value gen_of natural vs v (subst (λ X. HaveTypes X vs) r.0 h) e in
    let a = then-is (as_natural u.0) (λ n. Some (datum.set (data_of (map datum.natural (below n))))) v u.2 in
    as-type _ T v r.1 (some-has (types.set_of natural) _ v a.2 (map datum.natural (below a.0), refl, ascending_below a.0, naturals-have (below a.0)))
strict-sound Strict.get Ts T vs v r h e =
    let u = unary-value get_of (types.set_of T) vs v (subst (λ X. HaveTypes X vs) r h) e in
    let a = then-is (as_set u.0) only v u.2 in single a.0 (set-members T u.0 a.0 u.1 a.1).1 a.2
  where
    single : (ms : List Datum) → Every (HasType T) ms → only ms ≡ Some v → HasType T v
    single [] k m = cc
    single (x ∷ []) k m = some-has T x v m k.0
    single (x ∷ y ∷ ms) k m = cc
strict-sound Strict.sub Ts T vs v r h e = found vs (subst (λ X. HaveTypes X vs) r.2 h) e
  where
    found : (ws : List Datum) → HaveTypes (types.array_of r.0 T ∷ replicate r.0 natural) ws → sub_value ws ≡ Some v → HasType T v
    found [] k m = absurd k
    found (a ∷ at) k m =
        let i = then-is (each as_natural at) (cell_of a) v m in
        let t = then-is (as_array a) (λ t. cell t i.0) v i.2 in
        cell-found T i.0 (indices t.0.dims) t.0.cells v (array-table r.0 T a t.0 k.0 t.1).cells_have t.2
strict-sound (Strict.dim rank) Ts T vs v r h e =
    let u = unary-value (dim_of rank) (types.array_of rank r.0) vs v (subst (λ X. HaveTypes X vs) r.2 h) e in
    let a = then-is (dims_of rank u.0) (λ ds. Some (index_value ds)) v u.2 in
    let b = then-is (as_array u.0) (λ t. if nat_eq (length t.dims) rank then Some t.dims else None) a.0 a.1 in
    as-type (index_type rank) T v r.3 (some-has (index_type rank) _ v a.2 (sized b.0.dims (nat_eq (length b.0.dims) rank) refl a.0 b.2))
  where
    sized : (ds : List ℕ) (b : Bool) → nat_eq (length ds) rank ≡ b → (es : List ℕ) → (if b then Some ds else None) ≡ Some es → HasType (index_type rank) (index_value es)
    sized ds true q es k =
        let z : ds ≡ es = same_Some ds es k in
        subst (λ l. HasType (index_type rank) (index_value l)) z (subst (λ n. HasType (index_type n) (index_value ds)) (eqb-true (length ds) rank q) (index_value-has ds))
    sized ds false q es k = cc
strict-sound (Strict.index rank) Ts T vs v r h e =
    let u = unary-value (index_of rank) (types.set_of (types.product (tys_of (index_type rank ∷ r.0 ∷ [])))) vs v (subst (λ X. HaveTypes X vs) r.2 h) e in
    as-type _ T v r.3 (index-sound rank r.0 u.0 v r.1.0 u.1 u.2)
strict-sound (Strict.literal rank) Ts T vs v r h e =
    let g = then-is (each as_natural (take rank vs)) (λ ds. if nat_eq (length ds) rank then array_of ds (drop rank vs) else None) v e in
    as-type (types.array_of rank r.0) T v r.4 (built g.0 (nat_eq (length g.0) rank) refl g.2)
  where
    built : (ds : List ℕ) (b : Bool) → nat_eq (length ds) rank ≡ b → (if b then array_of ds (drop rank vs) else None) ≡ Some v → HasType (types.array_of rank r.0) v
    built ds true q k =
        subst (λ n. HasType (types.array_of n r.0) v) (eqb-true (length ds) rank q)
        (has-array r.0 ds (drop rank vs) v k (literal-lists r.0 rank r.1 vs (subst (λ X. HaveTypes X vs) r.3 h)))
    built ds false q k = cc
