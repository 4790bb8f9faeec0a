-- Sets and loops over encoded members.
use Rattle.std.proofs.Common.{◌≡◌, List, [], ◌∷◌, ◌++◌, map, Option, Some, None, refl, sym, ap, subst, ◌∙◌, inl, inr}
use Rattle.aql_value.specs.Canon.{IsMember, canon}
use Rattle.aql_value.specs.Laws.Canon.{HasMembersOf, canon_is, ascending_canon, member_canon, member_from_canon}
use Rattle.aql_value.specs.Datum.{Datum, set, data_of}
use Rattle.aql_value.specs.Laws.Datum.{list_of-data_of}
use Rattle.aql_value.specs.Lists.{Every}
use Rattle.aql_value.specs.Laws.Lists.{Every-lists}
use Rattle.aql_value.specs.Operations.{as_set, set_of, union_all}
use Rattle.aql_value.specs.Partial.{◌>>=◌, each, concat}
use Rattle.aql_value.specs.Laws.Partial.{each-ext, each-map, each-then, each-values}
use Rattle.aql_value.specs.Laws.Set.{Every-canon}
use Rattle.std.proofs.lemmas.List.{map-append}
use Rattle.aql_ty.specs.Types as types
use Rattle.aql_ty.specs.Types.{Ty}
use Rattle.aql_ty.specs.ValueTypes.{HasType}
use Rattle.nrca_graph.specs.Encoding.{encoding, encode_outcome}
use Rattle.nrca_graph.specs.Laws.EncodingOrder.{encoding-order, encoding-set, encodings-ascend}

-- an encoded member
in-map : (x : Datum) (xs : List Datum) → IsMember x xs → IsMember (encoding x) (map encoding xs)
in-map x [] m = absurd m
in-map x (y ∷ ys) (inl e) = inl (ap encoding e)
in-map x (y ∷ ys) (inr m) = inr (in-map x ys m)

-- what a member of the encoded list is the encoding of
from-map : (z : Datum) (xs : List Datum) → IsMember z (map encoding xs) → (x : Datum) × IsMember x xs × (encoding x ≡ z)
from-map z [] m = absurd m
from-map z (y ∷ ys) (inl e) = (y, inl refl, e)
from-map z (y ∷ ys) (inr m) = let r = from-map z ys m in (r.0, inr r.1, r.2)

-- lists with the same members, both encoded
mapped-members : (xs ys : List Datum) → HasMembersOf xs ys → HasMembersOf (map encoding xs) (map encoding ys)
mapped-members xs ys h z m = let r = from-map z ys m in subst (λ w. IsMember w (map encoding xs)) r.2 (in-map r.0 xs (h r.0 r.1))

-- encoding the members of a set is encoding the set
pub canon-encoded : (T : Ty) (xs : List Datum) → Every (HasType T) xs → canon (map encoding xs) ≡ map encoding (canon xs)
canon-encoded T xs h =
    sym (canon_is (map encoding xs) (map encoding (canon xs)) (encodings-ascend T (encoding-order T) (canon xs) (Every-canon (HasType T) xs h) (ascending_canon xs))
    (mapped-members (canon xs) xs (λ z m. member_canon xs z m)) (mapped-members xs (canon xs) (λ z m. member_from_canon xs z m)))

-- the set of encoded values is the encoded set
pub set_of-encoded : (T : Ty) (xs : List Datum) → Every (HasType T) xs → set_of (map encoding xs) ≡ encoding (set_of xs)
set_of-encoded T xs h = ap (λ ys. set (data_of ys)) (canon-encoded T xs h) ∙ sym (encoding-set T (encoding-order T) (canon xs) (Every-canon (HasType T) xs h) (ascending_canon xs))

-- sets of a type, as their members, encoded and not
members-of : (T : Ty) (rs : List Datum) → Every (HasType (types.set_of T)) rs →
    (mss : List (List Datum)) × (each as_set rs ≡ Some mss) × (each as_set (map encoding rs) ≡ Some (map (map encoding) mss)) × Every (λ ms. Every (HasType T) ms) mss
members-of T [] h = ([], refl, refl, tt)
members-of T (r ∷ rs) h =
    let k = members-of T rs h.1 in
    let plain : as_set r ≡ Some h.0.0 = ap as_set h.0.1 ∙ ap Some (list_of-data_of h.0.0) in
    let coded : as_set (encoding r) ≡ Some (map encoding h.0.0) = ap (λ x. as_set (encoding x)) h.0.1 ∙ ap as_set (encoding-set T (encoding-order T) h.0.0 h.0.3 h.0.2) ∙ ap Some (list_of-data_of (map encoding h.0.0)) in (
      h.0.0 ∷ k.0,
      rw (plain, k.1) refl,
      rw (coded, k.2) refl,
      (h.0.3, k.3),
    )

-- lists one after another, encoded
map-concat : (mss : List (List Datum)) → concat (map (map encoding) mss) ≡ map encoding (concat mss)
map-concat [] = refl
map-concat (ms ∷ mss) = ap (λ l. map encoding ms ++ l) (map-concat mss) ∙ sym (map-append encoding ms (concat mss))

-- the union of encoded sets is the encoded union
pub union_all-encoded : (T : Ty) (rs : List Datum) → Every (HasType (types.set_of T)) rs → union_all (map encoding rs) ≡ encode_outcome (union_all rs)
union_all-encoded T rs h =
    let k = members-of T rs h in
    ap (λ o. o >>= λ sets. Some (set_of (concat sets))) k.2 ∙ ap (λ l. Some (set_of l)) (map-concat k.0) ∙ ap Some (set_of-encoded T (concat k.0) (Every-lists (HasType T) k.0 k.3))
    ∙ sym (ap (λ o. encode_outcome (o >>= λ sets. Some (set_of (concat sets)))) k.1)

-- A big union: over the encoded members, the bodies being encoded.
pub big_union-encoded : (T : Ty) (ms : List Datum) (f g : Datum → Option Datum) → Every (λ m. g (encoding m) ≡ encode_outcome (f m)) ms → Every (λ m. (v : Datum) → f m ≡ Some v → HasType (types.set_of T) v) ms →
    (each g (map encoding ms) >>= union_all) ≡ encode_outcome (each f ms >>= union_all)
big_union-encoded T ms f g h t =
    ap (λ o. o >>= union_all) (each-map g encoding ms ∙ each-ext (λ m. g (encoding m)) (λ m. encode_outcome (f m)) ms h ∙ each-then f encoding ms) ∙ of (each f ms) refl
  where
    of : (o : Option (List Datum)) → each f ms ≡ o → ((o >>= λ rs. Some (map encoding rs)) >>= union_all) ≡ encode_outcome (o >>= union_all)
    of None e = refl
    of (Some rs) e = union_all-encoded T rs (each-values f (λ m. (v : Datum) → f m ≡ Some v → HasType (types.set_of T) v) (HasType (types.set_of T)) (λ m v k q. k v q) ms rs t e)
