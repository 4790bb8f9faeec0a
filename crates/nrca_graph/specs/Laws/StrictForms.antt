-- What follows from the definitions of `StrictForms`.
use Rattle.std.proofs.Common.{◌≡◌, ℕ, zero, suc, Bool, true, false, nat_eq, List, [], ◌∷◌, ◌++◌, length, map, Option, Some, None, refl, sym, ap, subst, ◌∙◌, if◌then◌else◌}
use Rattle.aql_value.specs.declared.ops.ArithOp.{ArithOp}
use Rattle.aql_value.specs.Datum.{Datum, natural, truth, text, tuple, set, nil, data_of}
use Rattle.aql_value.specs.Laws.Datum.{list_of-data_of}
use Rattle.aql_value.specs.Lists.{below}
use Rattle.aql_value.specs.Laws.Lists.{Every-append, Every-onto, Every-all}
use Rattle.aql_value.specs.Operations.{as_natural, as_set, tuple_of, part_of, nth, set_of, union_of, get_of, only, gen_of, arith_of, compare_of}
use Rattle.aql_value.specs.Ops.{arith_by, compare_by}
use Rattle.aql_value.specs.Partial.{◌>>=◌}
use Rattle.aql_value.specs.Laws.Set.{ascending_below}
use Rattle.aql_value.specs.Strict.{Strict, strict_value, nullary, unary, binary}
use Rattle.std.proofs.lemmas.List.{map-append}
use Rattle.aql_ty.specs.Types as types
use Rattle.aql_ty.specs.Types.{Ty, tys_of}
use Rattle.aql_ty.specs.OperationTypes.{strict_rule}
use Rattle.aql_ty.specs.ValueTypes.{HasType, HaveTypes}
use Rattle.nrca_graph.specs.Encoding.{encoding, encode_outcome}
use Rattle.nrca_graph.specs.Laws.EncodingOrder.{length-encoded, encoding-order, encoding-set, encodings-list}
use Rattle.nrca_graph.specs.Laws.EncodedSets.{set_of-encoded}
use Rattle.nrca_graph.specs.Laws.KeptForms.{natural-encoded, get-encoded}
use Rattle.nrca_graph.specs.StrictForms.{IsPlain}

-- a form without parts
nullary-mirror : (o : Option Datum) (vs : List Datum) → o ≡ encode_outcome o → nullary o (map encoding vs) ≡ encode_outcome (nullary o vs)
nullary-mirror o [] e = e
nullary-mirror o (v ∷ vs) e = refl

-- a form of one part
unary-mirror : (A : Ty) (f : Datum → Option Datum) (vs : List Datum) → HaveTypes (A ∷ []) vs → ((v : Datum) → HasType A v → f (encoding v) ≡ encode_outcome (f v)) → unary f (map encoding vs) ≡ encode_outcome (unary f vs)
unary-mirror A f [] h k = absurd h
unary-mirror A f (v ∷ []) h k = k v h.0
unary-mirror A f (v ∷ w ∷ vs) h k = absurd h.1

-- a form of two parts
binary-mirror : (A B : Ty) (f : Datum → Datum → Option Datum) (vs : List Datum) → HaveTypes (A ∷ B ∷ []) vs → ((v w : Datum) → HasType A v → HasType B w → f (encoding v) (encoding w) ≡ encode_outcome (f v w)) →
    binary f (map encoding vs) ≡ encode_outcome (binary f vs)
binary-mirror A B f [] h k = absurd h
binary-mirror A B f (v ∷ []) h k = absurd h.1
binary-mirror A B f (v ∷ w ∷ []) h k = k v w h.0 h.1.0
binary-mirror A B f (v ∷ w ∷ x ∷ vs) h k = absurd h.1.1

-- a tuple of encoded values
tuple-mirror : (vs : List Datum) → tuple_of (map encoding vs) ≡ encode_outcome (tuple_of vs)
tuple-mirror [] = refl
tuple-mirror (v ∷ []) = refl
tuple-mirror (v ∷ w ∷ vs) = ap (λ xs. Some (tuple (data_of xs))) (sym (encodings-list (v ∷ w ∷ vs)))

-- an element of encoded values
nth-mirror : (j : ℕ) (ws : List Datum) → nth j (map encoding ws) ≡ encode_outcome (nth j ws)
nth-mirror zero ws = refl
nth-mirror (suc j) ws = get-encoded ws j

-- a part of an encoded tuple
part-mirror : (j n : ℕ) (As : List Ty) (v : Datum) → HasType (types.product (tys_of As)) v → part_of j n (encoding v) ≡ encode_outcome (part_of j n v)
part-mirror j n As v h =
    ap (λ x. part_of j n (encoding x)) h.1
    ∙ ap (λ xs. part_of j n (tuple (data_of xs))) (encodings-list h.0)
    ∙ ap (λ xs. if nat_eq (length xs) n then nth j xs else None) (list_of-data_of (map encoding h.0))
    ∙ ap (λ m. if nat_eq m n then nth j (map encoding h.0) else None) (length-encoded h.0)
    ∙ at (nat_eq (length h.0) n)
    ∙ sym (ap (λ x. encode_outcome (part_of j n x)) h.1 ∙ ap (λ xs. encode_outcome (if nat_eq (length xs) n then nth j xs else None)) (list_of-data_of h.0))
  where
    at : (b : Bool) → (if b then nth j (map encoding h.0) else None) ≡ encode_outcome (if b then nth j h.0 else None)
    at true = nth-mirror j h.0
    at false = refl

-- arithmetic on encoded numbers
arith-mirror : (op : ArithOp) (v w : Datum) → arith_of op (encoding v) (encoding w) ≡ encode_outcome (arith_of op v w)
arith-mirror op v w =
    ap (λ o. o >>= λ m. as_natural (encoding w) >>= λ n. arith_by op m n >>= λ k. Some (natural k)) (natural-encoded v)
    ∙ ap (λ o. as_natural v >>= λ m. o >>= λ n. arith_by op m n >>= λ k. Some (natural k)) (natural-encoded w)
    ∙ of (as_natural v) (as_natural w)
  where
    last : (o : Option ℕ) → (o >>= λ k. Some (natural k)) ≡ encode_outcome (o >>= λ k. Some (natural k))
    last None = refl
    last (Some k) = refl

    of : (o p : Option ℕ) → (o >>= λ m. p >>= λ n. arith_by op m n >>= λ k. Some (natural k)) ≡ encode_outcome (o >>= λ m. p >>= λ n. arith_by op m n >>= λ k. Some (natural k))
    of None p = refl
    of (Some m) None = refl
    of (Some m) (Some n) = last (arith_by op m n)

-- the members of a typed set, encoded and not
coded-members : (A : Ty) (v : Datum) (h : HasType (types.set_of A) v) → as_set (encoding v) ≡ Some (map encoding h.0)
coded-members A v h = ap (λ x. as_set (encoding x)) h.1 ∙ ap as_set (encoding-set A (encoding-order A) h.0 h.3 h.2) ∙ ap Some (list_of-data_of (map encoding h.0))

-- the members of a typed set
plain-members : (A : Ty) (v : Datum) (h : HasType (types.set_of A) v) → as_set v ≡ Some h.0
plain-members A v h = ap as_set h.1 ∙ ap Some (list_of-data_of h.0)

-- the union of two encoded sets
union-mirror : (A : Ty) (v w : Datum) → HasType (types.set_of A) v → HasType (types.set_of A) w → union_of (encoding v) (encoding w) ≡ encode_outcome (union_of v w)
union-mirror A v w h k =
    ap (λ o. o >>= λ vs. as_set (encoding w) >>= λ ws. Some (set_of (vs ++ ws))) (coded-members A v h)
    ∙ ap (λ o. o >>= λ ws. Some (set_of (map encoding h.0 ++ ws))) (coded-members A w k)
    ∙ ap (λ xs. Some (set_of xs)) (sym (map-append encoding h.0 k.0))
    ∙ ap Some (set_of-encoded A (h.0 ++ k.0) (Every-append (HasType A) h.0 k.0 h.3 k.3))
    ∙ sym (ap (λ o. encode_outcome (o >>= λ vs. as_set w >>= λ ws. Some (set_of (vs ++ ws)))) (plain-members A v h) ∙ ap (λ o. encode_outcome (o >>= λ ws. Some (set_of (h.0 ++ ws)))) (plain-members A w k))

-- the encoded element of a list of one
only-mirror : (vs : List Datum) → only (map encoding vs) ≡ encode_outcome (only vs)
only-mirror [] = refl
only-mirror (v ∷ []) = refl
only-mirror (v ∷ w ∷ vs) = refl

-- the member of an encoded set of one
get-mirror : (A : Ty) (v : Datum) → HasType (types.set_of A) v → get_of (encoding v) ≡ encode_outcome (get_of v)
get-mirror A v h = ap (λ o. o >>= only) (coded-members A v h) ∙ only-mirror h.0 ∙ sym (ap (λ o. encode_outcome (o >>= only)) (plain-members A v h))

-- numbers are their own encodings
pub numbers-kept : (ns : List ℕ) → map encoding (map natural ns) ≡ map natural ns
numbers-kept [] = refl
numbers-kept (n ∷ ns) = ap (λ l. natural n ∷ l) (numbers-kept ns)

-- the set of the numbers below an encoded one
gen-mirror : (v : Datum) → gen_of (encoding v) ≡ encode_outcome (gen_of v)
gen-mirror v = ap (λ o. o >>= λ n. Some (set (data_of (map natural (below n))))) (natural-encoded v) ∙ of (as_natural v)
  where
    of : (o : Option ℕ) → (o >>= λ n. Some (set (data_of (map natural (below n))))) ≡ encode_outcome (o >>= λ n. Some (set (data_of (map natural (below n)))))
    of None = refl
    of (Some n) = ap Some (sym (encoding-set types.natural (encoding-order types.natural) (map natural (below n)) (Every-onto (HasType types.natural) natural (below n) (Every-all _ (λ k. (k, refl)) (below n))) (ascending_below n)
        ∙ ap (λ xs. set (data_of xs)) (numbers-kept (below n))))

-- a kept form that evaluates every part, at encoded values under its type rule
pub strict-mirror : (s : Strict) (Ts : List Ty) (T : Ty) (vs : List Datum) → IsPlain s → strict_rule s Ts T → HaveTypes Ts vs → strict_value s (map encoding vs) ≡ encode_outcome (strict_value s vs)
strict-mirror (Strict.nat n) Ts T vs p r h = nullary-mirror (Some (natural n)) vs refl
strict-mirror (Strict.bool b) Ts T vs p r h = nullary-mirror (Some (truth b)) vs refl
strict-mirror (Strict.text s) Ts T vs p r h = nullary-mirror (Some (text s)) vs refl
strict-mirror Strict.bottom Ts T vs p r h = refl
strict-mirror Strict.tuple Ts T vs p r h = tuple-mirror vs
strict-mirror (Strict.proj at of) Ts T vs p r h = unary-mirror (types.product (tys_of r.0)) (part_of at of) vs (subst (λ x. HaveTypes x vs) r.2 h) (λ v k. part-mirror at of r.0 v k)
strict-mirror (Strict.arith op) Ts T vs p r h = binary-mirror types.natural types.natural (arith_of op) vs (subst (λ x. HaveTypes x vs) r.0 h) (λ v w k l. arith-mirror op v w)
strict-mirror (Strict.compare op) Ts T vs p r h =
    binary-mirror r.0 r.0 (compare_of op) vs (subst (λ x. HaveTypes x vs) r.1 h) (λ v w k l. ap (λ o. Some (truth (compare_by op o))) (encoding-order r.0 v w k l))
strict-mirror Strict.empty Ts T vs p r h = nullary-mirror (Some (set nil)) vs refl
strict-mirror Strict.single Ts T vs p r h = unary-mirror r.0 (λ v. Some (set_of (v ∷ []))) vs (subst (λ x. HaveTypes x vs) r.1 h) (λ v k. ap Some (set_of-encoded r.0 (v ∷ []) (k, tt)))
strict-mirror Strict.union Ts T vs p r h = binary-mirror (types.set_of r.0) (types.set_of r.0) union_of vs (subst (λ x. HaveTypes x vs) r.1 h) (λ v w k l. union-mirror r.0 v w k l)
strict-mirror Strict.gen Ts T vs p r h = unary-mirror types.natural gen_of vs (subst (λ x. HaveTypes x vs) r.0 h) (λ v k. gen-mirror v)
strict-mirror Strict.get Ts T vs p r h = unary-mirror (types.set_of T) get_of vs (subst (λ x. HaveTypes x vs) r h) (λ v k. get-mirror T v k)
strict-mirror Strict.sub Ts T vs p r h = absurd p
strict-mirror (Strict.dim rank) Ts T vs p r h = absurd p
strict-mirror (Strict.index rank) Ts T vs p r h = absurd p
strict-mirror (Strict.literal rank) Ts T vs p r h = absurd p
