-- The forms that are kept: over encoded values and parts that mean encoded values, a node means its encoded value.
use Rattle.std.proofs.Common.{◌≡◌, ℕ, zero, suc, Bool, true, false, nat_lt, List, [], ◌∷◌, map, Option, Some, None, refl, sym, ap, subst, ◌∙◌, if◌then◌else◌, ◌^◌, sum}
use Rattle.std.specs.List.{slice_get}
use Rattle.aql_value.specs.Datum.{Datum, natural, truth, text, tuple, set, array}
use Rattle.aql_value.specs.Laws.Datum.{list_of-data_of}
use Rattle.aql_value.specs.Lists.{Every}
use Rattle.aql_value.specs.Laws.Lists.{Every-impl}
use Rattle.aql_value.specs.Operations.{as_natural, as_truth, as_set, union_all, sum_of, in_range}
use Rattle.aql_value.specs.Partial.{◌>>=◌, each, or_else}
use Rattle.aql_value.specs.Laws.Partial.{each-ext, each-map, each-then}
use Rattle.aql_ty.specs.Types as types
use Rattle.aql_ty.specs.Types.{Ty}
use Rattle.aql_ty.specs.ValueTypes.{HasType, HaveTypes}
use Rattle.nrca_term.specs.Term.{Form}
use Rattle.nrca_term.specs.Typing.{Arg, arg, form_rule}
use Rattle.nrca_term.specs.Meaning.{Outcomes, outcome, Part, worth, form_value}
use Rattle.nrca_term.specs.Laws.Sound.{AllSound, sound-get, sounds}
use Rattle.nrca_graph.specs.Encoding.{encoding, encode_outcome}
use Rattle.nrca_graph.specs.Laws.EncodingOrder.{encoding-order, encoding-set}
use Rattle.nrca_graph.specs.Laws.EncodedSets.{big_union-encoded}

-- the second part means the encoded value of the first, at the encoded values of its variables
abbrev pub Mirrors : Arg → Part → Part → Type 0
Mirrors a p q = (new : List Datum) → HaveTypes a.own new → q (map encoding new) ≡ encode_outcome (p new)

-- as many parts as arguments, in both lists, and each a mirror of the other
abbrev pub AllMirror : List Arg → List Part → List Part → Type 0
AllMirror [] [] [] = Unit {0}
AllMirror [] [] (q ∷ qs) = ⊥
AllMirror [] (p ∷ ps) qs = ⊥
AllMirror (a ∷ args) [] qs = ⊥
AllMirror (a ∷ args) (p ∷ ps) [] = ⊥
AllMirror (a ∷ args) (p ∷ ps) (q ∷ qs) = Mirrors a p q × AllMirror args ps qs

-- the part of an argument is a mirror
pub mirror-get : (args : List Arg) (ps qs : List Part) (i : ℕ) (a : Arg) → AllMirror args ps qs → slice_get args i ≡ Some a → Mirrors a (worth ps i) (worth qs i)
mirror-get [] ps qs i a m e = cc
mirror-get (b ∷ args) [] qs i a m e = absurd m
mirror-get (b ∷ args) (p ∷ ps) [] i a m e = absurd m
mirror-get (b ∷ args) (p ∷ ps) (q ∷ qs) zero a m e = let z : b ≡ a = cc in subst (λ x. Mirrors x p q) z m.0
mirror-get (b ∷ args) (p ∷ ps) (q ∷ qs) (suc i) a m e = mirror-get args ps qs i a m.1 e

-- an encoded value is the same truth value, or none as well
pub truth-encoded : (v : Datum) → as_truth (encoding v) ≡ as_truth v
truth-encoded (natural n) = refl
truth-encoded (truth b) = refl
truth-encoded (text s) = refl
truth-encoded (tuple xs) = refl
truth-encoded (set xs) = refl
truth-encoded (array ds xs) = refl

-- an encoded value is the same number, or none as well
pub natural-encoded : (v : Datum) → as_natural (encoding v) ≡ as_natural v
natural-encoded (natural n) = refl
natural-encoded (truth b) = refl
natural-encoded (text s) = refl
natural-encoded (tuple xs) = refl
natural-encoded (set xs) = refl
natural-encoded (array ds xs) = refl

-- the encoded value at a place
pub get-encoded : (vals : List Datum) (i : ℕ) → slice_get (map encoding vals) i ≡ encode_outcome (slice_get vals i)
get-encoded [] i = refl
get-encoded (v ∷ vals) zero = refl
get-encoded (v ∷ vals) (suc i) = get-encoded vals i

-- the encoded outcome of a position
pub outcome-encoded : (V : Outcomes) (n : ℕ) → outcome (map encode_outcome V) n ≡ encode_outcome (outcome V n)
outcome-encoded V zero = refl
outcome-encoded V (suc n) = at V n
  where
    at : (V : Outcomes) (n : ℕ) → (slice_get (map encode_outcome V) n >>= λ o. o) ≡ encode_outcome (slice_get V n >>= λ o. o)
    at [] n = refl
    at (o ∷ V) zero = refl
    at (o ∷ V) (suc n) = at V n

-- the numbers of encoded values
pub numbers-encoded : (rs : List Datum) → each as_natural (map encoding rs) ≡ each as_natural rs
numbers-encoded [] = refl
numbers-encoded (r ∷ rs) = ap (λ o. o >>= λ y. each as_natural (map encoding rs) >>= λ ys. Some (y ∷ ys)) (natural-encoded r) ∙ ap (λ p. as_natural r >>= λ y. p >>= λ ys. Some (y ∷ ys)) (numbers-encoded rs)

-- a number that is in range
range-encoded : (b : Bool) (n : ℕ) → (if b then Some (natural n) else None) ≡ encode_outcome (if b then Some (natural n) else None)
range-encoded true n = refl
range-encoded false n = refl

-- the sum of encoded numbers
sum-encoded : (rs : List Datum) → sum_of (map encoding rs) ≡ encode_outcome (sum_of rs)
sum-encoded rs = ap (λ o. o >>= λ ns. in_range (sum ns)) (numbers-encoded rs) ∙ of (each as_natural rs)
  where
    of : (o : Option (List ℕ)) → (o >>= λ ns. in_range (sum ns)) ≡ encode_outcome (o >>= λ ns. in_range (sum ns))
    of None = refl
    of (Some ns) = range-encoded (nat_lt (sum ns) (2 ^ 128)) (sum ns)

-- loops: from the operand's value
loop-mirror : (A B : Ty) (ps qs : List Part) (end : List Datum → Option Datum) → AllSound (arg [] (types.set_of A) ∷ arg (A ∷ []) B ∷ []) ps → AllMirror (arg [] (types.set_of A) ∷ arg (A ∷ []) B ∷ []) ps qs →
    ((ms : List Datum) → Every (HasType A) ms → (each (λ m. worth qs 1 (m ∷ [])) (map encoding ms) >>= end) ≡ encode_outcome (each (λ m. worth ps 1 (m ∷ [])) ms >>= end)) →
    (worth qs 0 [] >>= as_set >>= each (λ m. worth qs 1 (m ∷ [])) >>= end) ≡ encode_outcome (worth ps 0 [] >>= as_set >>= each (λ m. worth ps 1 (m ∷ [])) >>= end)
loop-mirror A B ps qs end s m h =
    ap (λ o. o >>= as_set >>= each (λ m. worth qs 1 (m ∷ [])) >>= end) (mirror-get (arg [] (types.set_of A) ∷ arg (A ∷ []) B ∷ []) ps qs 0 (arg [] (types.set_of A)) m refl [] tt)
    ∙ of (worth ps 0 []) (λ v e. sound-get (arg [] (types.set_of A) ∷ arg (A ∷ []) B ∷ []) ps 0 (arg [] (types.set_of A)) s refl [] v tt e)
  where
    of : (o : Option Datum) → ((v : Datum) → o ≡ Some v → HasType (types.set_of A) v) →
        (encode_outcome o >>= as_set >>= each (λ m. worth qs 1 (m ∷ [])) >>= end) ≡ encode_outcome (o >>= as_set >>= each (λ m. worth ps 1 (m ∷ [])) >>= end)
    of None k = refl
    of (Some v) k =
        let t = k v refl in
        ap (λ x. as_set (encoding x) >>= each (λ m. worth qs 1 (m ∷ [])) >>= end) t.1
        ∙ ap (λ x. as_set x >>= each (λ m. worth qs 1 (m ∷ [])) >>= end) (encoding-set A (encoding-order A) t.0 t.3 t.2)
        ∙ ap (λ ms. each (λ m. worth qs 1 (m ∷ [])) ms >>= end) (list_of-data_of (map encoding t.0))
        ∙ h t.0 t.3
        ∙ sym (ap (λ x. encode_outcome (as_set x >>= each (λ m. worth ps 1 (m ∷ [])) >>= end)) t.1 ∙ ap (λ ms. encode_outcome (each (λ m. worth ps 1 (m ∷ [])) ms >>= end)) (list_of-data_of t.0))

-- the forms that are kept, the strict ones aside
abbrev pub IsKept : Form → Type 0
IsKept (Form.tab rank) = ⊥
IsKept (Form.strict s) = ⊥
IsKept _ = Unit {0}

-- a node of a kept form means its encoded value
pub form-mirror : (G : ℕ → Ty → Type 0) (V : Outcomes) (env : List Ty) (vals : List Datum) (f : Form) (args : List Arg) (T : Ty) (ps qs : List Part) → IsKept f → form_rule G env f args T → AllSound args ps → AllMirror args ps qs →
    form_value (map encode_outcome V) (map encoding vals) f qs ≡ encode_outcome (form_value V vals f ps)
form-mirror G V env vals (Form.var i) args T ps qs k r s m = get-encoded vals i
form-mirror G V env vals (Form.global n) args T ps qs k r s m = outcome-encoded V n
form-mirror G V env vals Form.bind args T ps qs k r s m =
    let s = sounds args (arg [] r.0 ∷ arg (r.0 ∷ []) T ∷ []) ps r.1 s in
    let m = subst (λ x. AllMirror x ps qs) r.1 m in
    ap (λ o. o >>= λ v. worth qs 1 (v ∷ [])) (mirror-get (arg [] r.0 ∷ arg (r.0 ∷ []) T ∷ []) ps qs 0 (arg [] r.0) m refl [] tt)
    ∙ of (worth ps 0 []) (λ v e. mirror-get (arg [] r.0 ∷ arg (r.0 ∷ []) T ∷ []) ps qs 1 (arg (r.0 ∷ []) T) m refl (v ∷ []) (sound-get (arg [] r.0 ∷ arg (r.0 ∷ []) T ∷ []) ps 0 (arg [] r.0) s refl [] v tt e, tt))
  where
    of : (o : Option Datum) → ((v : Datum) → o ≡ Some v → worth qs 1 (encoding v ∷ []) ≡ encode_outcome (worth ps 1 (v ∷ []))) → (encode_outcome o >>= λ v. worth qs 1 (v ∷ [])) ≡ encode_outcome (o >>= λ v. worth ps 1 (v ∷ []))
    of None h = refl
    of (Some v) h = h v refl
form-mirror G V env vals Form.choose args T ps qs k r s m =
    let m = subst (λ x. AllMirror x ps qs) r m in
    ap (λ o. o >>= as_truth >>= λ b. if b then worth qs 1 [] else worth qs 2 []) (mirror-get (arg [] types.truth ∷ arg [] T ∷ arg [] T ∷ []) ps qs 0 (arg [] types.truth) m refl [] tt)
    ∙ of (worth ps 0 []) (mirror-get (arg [] types.truth ∷ arg [] T ∷ arg [] T ∷ []) ps qs 1 (arg [] T) m refl [] tt) (mirror-get (arg [] types.truth ∷ arg [] T ∷ arg [] T ∷ []) ps qs 2 (arg [] T) m refl [] tt)
  where
    branches : (o : Option Bool) → worth qs 1 [] ≡ encode_outcome (worth ps 1 []) → worth qs 2 [] ≡ encode_outcome (worth ps 2 []) →
        (o >>= λ b. if b then worth qs 1 [] else worth qs 2 []) ≡ encode_outcome (o >>= λ b. if b then worth ps 1 [] else worth ps 2 [])
    branches None x y = refl
    branches (Some true) x y = x
    branches (Some false) x y = y

    of : (o : Option Datum) → worth qs 1 [] ≡ encode_outcome (worth ps 1 []) → worth qs 2 [] ≡ encode_outcome (worth ps 2 []) →
        (encode_outcome o >>= as_truth >>= λ b. if b then worth qs 1 [] else worth qs 2 []) ≡ encode_outcome (o >>= as_truth >>= λ b. if b then worth ps 1 [] else worth ps 2 [])
    of None x y = refl
    of (Some v) x y = ap (λ t. t >>= λ b. if b then worth qs 1 [] else worth qs 2 []) (truth-encoded v) ∙ branches (as_truth v) x y
form-mirror G V env vals Form.default args T ps qs k r s m =
    let m = subst (λ x. AllMirror x ps qs) r m in
    ap (λ o. or_else o (worth qs 1 [])) (mirror-get (arg [] T ∷ arg [] T ∷ []) ps qs 0 (arg [] T) m refl [] tt)
    ∙ of (worth ps 0 []) (mirror-get (arg [] T ∷ arg [] T ∷ []) ps qs 1 (arg [] T) m refl [] tt)
  where
    of : (o : Option Datum) → worth qs 1 [] ≡ encode_outcome (worth ps 1 []) → or_else (encode_outcome o) (worth qs 1 []) ≡ encode_outcome (or_else o (worth ps 1 []))
    of None x = x
    of (Some v) x = refl
form-mirror G V env vals Form.big_union args T ps qs k r s m =
    let s = sounds args (arg [] (types.set_of r.0) ∷ arg (r.0 ∷ []) (types.set_of r.1) ∷ []) ps r.2 s in
    let m = subst (λ x. AllMirror x ps qs) r.2 m in
    loop-mirror r.0 (types.set_of r.1) ps qs union_all s m
    (λ ms t. big_union-encoded r.1 ms (λ x. worth ps 1 (x ∷ [])) (λ x. worth qs 1 (x ∷ []))
    (Every-impl (HasType r.0) (λ x. worth qs 1 (encoding x ∷ []) ≡ encode_outcome (worth ps 1 (x ∷ []))) (λ x u. mirror-get (arg [] (types.set_of r.0) ∷ arg (r.0 ∷ []) (types.set_of r.1) ∷ []) ps qs 1 (arg (r.0 ∷ []) (types.set_of r.1)) m refl (x ∷ []) (u, tt)) ms t)
    (Every-impl (HasType r.0) (λ x. (v : Datum) → worth ps 1 (x ∷ []) ≡ Some v → HasType (types.set_of r.1) v) (λ x u v e. sound-get (arg [] (types.set_of r.0) ∷ arg (r.0 ∷ []) (types.set_of r.1) ∷ []) ps 1 (arg (r.0 ∷ []) (types.set_of r.1)) s refl (x ∷ []) v (u, tt) e) ms t))
form-mirror G V env vals Form.sum args T ps qs k r s m =
    let s = sounds args (arg [] (types.set_of r.0) ∷ arg (r.0 ∷ []) types.natural ∷ []) ps r.1 s in
    let m = subst (λ x. AllMirror x ps qs) r.1 m in
    loop-mirror r.0 types.natural ps qs sum_of s m
    (λ ms t. ap (λ o. o >>= sum_of) (each-map (λ x. worth qs 1 (x ∷ [])) encoding ms
    ∙ each-ext (λ x. worth qs 1 (encoding x ∷ [])) (λ x. encode_outcome (worth ps 1 (x ∷ []))) ms
    (Every-impl (HasType r.0) (λ x. worth qs 1 (encoding x ∷ []) ≡ encode_outcome (worth ps 1 (x ∷ []))) (λ x u. mirror-get (arg [] (types.set_of r.0) ∷ arg (r.0 ∷ []) types.natural ∷ []) ps qs 1 (arg (r.0 ∷ []) types.natural) m refl (x ∷ []) (u, tt)) ms t)
    ∙ each-then (λ x. worth ps 1 (x ∷ [])) encoding ms) ∙ of (each (λ x. worth ps 1 (x ∷ [])) ms))
  where
    of : (o : Option (List Datum)) → ((o >>= λ rs. Some (map encoding rs)) >>= sum_of) ≡ encode_outcome (o >>= sum_of)
    of None = refl
    of (Some rs) = sum-encoded rs
form-mirror G V env vals (Form.tab rank) args T ps qs k r s m = absurd k
form-mirror G V env vals (Form.strict c) args T ps qs k r s m = absurd k
