-- The rules S2, S3 and S5 to S8 on sets: both sides have one value.
use Rattle.std.proofs.Common.{◌≡◌, ℕ, ◌<◌, ◌^◌, List, [], ◌∷◌, ◌++◌, map, sum, Option, Some, None, refl, sym, ap, subst, ◌∙◌, arith, if◌then◌else◌, inl, inr, append_assoc}
use Rattle.std.proofs.lemmas.Bool.{lt-ltb}
use Rattle.std.proofs.lemmas.List.{append-nil}
use Rattle.std.proofs.lemmas.Option.{same_Some}
use Rattle.aql_value.specs.Datum as datum
use Rattle.aql_value.specs.Datum.{Datum, natural, data_of}
use Rattle.aql_value.specs.Laws.Datum.{list_of-data_of}
use Rattle.aql_value.specs.Canon.{IsAscending, IsMember, canon}
use Rattle.aql_value.specs.Laws.Canon.{canon_ascending, member_canon, member_from_canon}
use Rattle.aql_value.specs.Laws.Set.{Every-canon, Every-from_canon, canon_same, member_left, member_right, member_split}
use Rattle.aql_value.specs.Laws.Lists.{Every-all}
use Rattle.aql_value.specs.Operations.{as_set, union_all, sum_of, union_of, get_of, set_of, in_range}
use Rattle.aql_value.specs.Laws.Operations.{as_set-set_of, union_all-sets}
use Rattle.aql_value.specs.Partial.{◌>>=◌, each, concat}
use Rattle.aql_value.specs.Laws.Partial.{then-assoc, then-ext, each-ext, each-each, each-then, each-concat, each-total, each-is, each-cons_is}
use Rattle.aql_value.specs.Strict.{Strict, strict_value}
use Rattle.nrca_term.specs.Term.{Term}
use Rattle.nrca_term.specs.Nodes.{variable, let_term, big_union_term, sum_term, empty_term, single_term, union_term, get_term}
use Rattle.nrca_term.specs.Meaning.{Outcomes, cden}
use Rattle.nrca_term.specs.Subst.{shift_term}
use Rattle.nrca_term.specs.Laws.Shifting.{cden-shift_term}
use Rattle.nrca_term.specs.Laws.Variants.{cden-strict}
use Rattle.nrca_rule_laws.specs.Laws.Meanings.{cden-unary}
use Rattle.std.proofs.lemmas.Simd.{map-map}

-- a set of the language
abbrev pub IsSet : Datum → Type 0
IsSet v = (ms : List Datum) × (v ≡ datum.set (data_of ms)) × IsAscending ms

-- each value of the term is a set of the language
abbrev pub GivesSets : Outcomes → List Datum → Term → Type 0
GivesSets V vals t = (v : Datum) → cden V vals t ≡ Some v → IsSet v

-- each value of the term is a number below 2^128
abbrev pub GivesNumbers : Outcomes → List Datum → Term → Type 0
GivesNumbers V vals t = (v : Datum) → cden V vals t ≡ Some v → (n : ℕ) × (v ≡ natural n) × (n < 2 ^ 128)

-- a set of the language is made of its members
as-set : (v : Datum) (h : IsSet v) → as_set v ≡ Some h.0
as-set v h = ap as_set h.1 ∙ ap Some (list_of-data_of h.0)

set-same : (v : Datum) (h : IsSet v) → set_of h.0 ≡ v
set-same v h = ap (λ l. datum.set (data_of l)) (canon_ascending h.0 h.2) ∙ sym h.1

-- a big union over one member is a let
pub keeps-s2 : (V : Outcomes) (vals : List Datum) (a b : Term) → ((v : Datum) → cden V vals a ≡ Some v → GivesSets V (v ∷ vals) b) → cden V vals (big_union_term (single_term a) b) ≡ cden V vals (let_term a b)
keeps-s2 V vals a b h = by (cden V vals a) refl
  where
    one : (w : Datum) → IsSet w → union_all (w ∷ []) ≡ Some w
    one w k = ap (λ o. (o >>= λ y. Some (y ∷ [])) >>= λ sets. Some (set_of (concat sets))) (as-set w k) ∙ ap (λ l. Some (set_of l)) (append-nil k.0) ∙ ap Some (set-same w k)

    body : (v : Datum) → GivesSets V (v ∷ vals) b → (o : Option Datum) → cden V (v ∷ vals) b ≡ o → ((o >>= λ y. Some (y ∷ [])) >>= union_all) ≡ o
    body v k None e = refl
    body v k (Some w) e = one w (k w e)

    by : (o : Option Datum) → cden V vals a ≡ o → cden V vals (big_union_term (single_term a) b) ≡ cden V vals (let_term a b)
    by None e = ap (λ o. ((o >>= as_set) >>= each (λ m. cden V (m ∷ vals) b)) >>= union_all) (cden-unary V vals Strict.single a ∙ ap (λ o. o >>= λ v. Some (set_of (v ∷ []))) e) ∙ sym (ap (λ o. o >>= λ v. cden V (v ∷ vals) b) e)
    by (Some v) e =
        ap (λ o. ((o >>= as_set) >>= each (λ m. cden V (m ∷ vals) b)) >>= union_all) (cden-unary V vals Strict.single a ∙ ap (λ o. o >>= λ v. Some (set_of (v ∷ []))) e)
        ∙ body v (h v e) (cden V (v ∷ vals) b) refl ∙ sym (ap (λ o. o >>= λ v. cden V (v ∷ vals) b) e)

-- a sum over one member is a let, if the number is below 2^128: past it the sum is undefined
pub keeps-s5 : (V : Outcomes) (vals : List Datum) (a b : Term) → ((v : Datum) → cden V vals a ≡ Some v → GivesNumbers V (v ∷ vals) b) → cden V vals (sum_term (single_term a) b) ≡ cden V vals (let_term a b)
keeps-s5 V vals a b h = by (cden V vals a) refl
  where
    sum-one : (n : ℕ) → n < 2 ^ 128 → in_range (sum (n ∷ [])) ≡ Some (natural n)
    sum-one n l = let z : sum (n ∷ []) ≡ n = omega arith in ap in_range z ∙ ap (λ b. if b then Some (natural n) else None) (lt-ltb n (2 ^ 128) l)

    one : (w : Datum) → (n : ℕ) × (w ≡ natural n) × (n < 2 ^ 128) → sum_of (w ∷ []) ≡ Some w
    one w k = ap (λ x. sum_of (x ∷ [])) k.1 ∙ sum-one k.0 k.2 ∙ ap Some (sym k.1)

    body : (v : Datum) → GivesNumbers V (v ∷ vals) b → (o : Option Datum) → cden V (v ∷ vals) b ≡ o → ((o >>= λ y. Some (y ∷ [])) >>= sum_of) ≡ o
    body v k None e = refl
    body v k (Some w) e = one w (k w e)

    by : (o : Option Datum) → cden V vals a ≡ o → cden V vals (sum_term (single_term a) b) ≡ cden V vals (let_term a b)
    by None e = ap (λ o. ((o >>= as_set) >>= each (λ m. cden V (m ∷ vals) b)) >>= sum_of) (cden-unary V vals Strict.single a ∙ ap (λ o. o >>= λ v. Some (set_of (v ∷ []))) e) ∙ sym (ap (λ o. o >>= λ v. cden V (v ∷ vals) b) e)
    by (Some v) e =
        ap (λ o. ((o >>= as_set) >>= each (λ m. cden V (m ∷ vals) b)) >>= sum_of) (cden-unary V vals Strict.single a ∙ ap (λ o. o >>= λ v. Some (set_of (v ∷ []))) e)
        ∙ body v (h v e) (cden V (v ∷ vals) b) refl ∙ sym (ap (λ o. o >>= λ v. cden V (v ∷ vals) b) e)

-- the member of a set of one member
pub keeps-s8 : (V : Outcomes) (vals : List Datum) (r : Term) → cden V vals (get_term (single_term r)) ≡ cden V vals r
keeps-s8 V vals r = cden-unary V vals Strict.get (single_term r) ∙ ap (λ o. o >>= λ v. get_of v) (cden-unary V vals Strict.single r) ∙ by (cden V vals r)
  where
    by : (o : Option Datum) → ((o >>= λ v. Some (set_of (v ∷ []))) >>= λ v. get_of v) ≡ o
    by None = refl
    by (Some v) = refl

-- a union by the values of its parts
two-parts : (V : Outcomes) (vals : List Datum) (a b : Term) → cden V vals (union_term a b) ≡ (cden V vals a >>= λ v. cden V vals b >>= λ w. union_of v w)
two-parts V vals a b = cden-strict V vals Strict.union (a ∷ b ∷ []) ∙ by (cden V vals a) (cden V vals b)
  where
    by : (o p : Option Datum) → ((o >>= λ y. (p >>= λ z. Some (z ∷ [])) >>= λ ys. Some (y ∷ ys)) >>= strict_value Strict.union) ≡ (o >>= λ v. p >>= λ w. union_of v w)
    by None p = refl
    by (Some v) None = refl
    by (Some v) (Some w) = refl

-- a union with the empty set
pub keeps-s7 : (V : Outcomes) (vals : List Datum) (r : Term) → GivesSets V vals r → (cden V vals (union_term r empty_term) ≡ cden V vals r) × (cden V vals (union_term empty_term r) ≡ cden V vals r)
keeps-s7 V vals r h = (two-parts V vals r empty_term ∙ right (cden V vals r) refl, two-parts V vals empty_term r ∙ left (cden V vals r) refl)
  where
    right : (o : Option Datum) → cden V vals r ≡ o → (o >>= λ v. union_of v (datum.set (data_of []))) ≡ o
    right None e = refl
    right (Some v) e = let k = h v e in ap (λ o. o >>= λ vs. Some (set_of (vs ++ []))) (as-set v k) ∙ ap (λ l. Some (set_of l)) (append-nil k.0) ∙ ap Some (set-same v k)

    left : (o : Option Datum) → cden V vals r ≡ o → (o >>= λ w. union_of (datum.set (data_of [])) w) ≡ o
    left None e = refl
    left (Some v) e = let k = h v e in ap (λ o. o >>= λ ws. Some (set_of ws)) (as-set v k) ∙ ap Some (set-same v k)

-- a set is the union of the sets of one member each
pub keeps-s6 : (V : Outcomes) (vals : List Datum) (r : Term) → GivesSets V vals r → cden V vals (big_union_term r (single_term (variable 0))) ≡ cden V vals r
keeps-s6 V vals r h = by (cden V vals r) refl
  where
    singles : (ms : List Datum) → each (λ m. cden V (m ∷ vals) (single_term (variable 0))) ms ≡ Some (map set_of (map (λ m. m ∷ []) ms))
    singles [] = refl
    singles (m ∷ ms) = ap (λ q. q >>= λ ys. Some (set_of (m ∷ []) ∷ ys)) (singles ms)

    joined : (ms : List Datum) → concat (map (λ m. m ∷ []) ms) ≡ ms
    joined [] = refl
    joined (m ∷ ms) = ap (λ l. m ∷ l) (joined ms)

    by : (o : Option Datum) → cden V vals r ≡ o → (((o >>= as_set) >>= each (λ m. cden V (m ∷ vals) (single_term (variable 0)))) >>= union_all) ≡ o
    by None e = refl
    by (Some v) e =
        let k = h v e in
        ap (λ o. (o >>= each (λ m. cden V (m ∷ vals) (single_term (variable 0)))) >>= union_all) (as-set v k) ∙ ap (λ o. o >>= union_all) (singles k.0) ∙ union_all-sets (map (λ m. m ∷ []) k.0)
        ∙ ap (λ l. Some (set_of l)) (joined k.0) ∙ ap Some (set-same v k)

-- a member of what a loop gives comes from some member of its set
found-in : (g : Datum → Option (List Datum)) (ys : List Datum) (ss : List (List Datum)) (z : Datum) → each g ys ≡ Some ss → IsMember z (concat ss) → (y : Datum) × (s : List Datum) × IsMember y ys × (g y ≡ Some s) × IsMember z s
found-in g [] ss z e m = let q : [] ≡ ss = same_Some [] ss e in absurd (subst (λ l. IsMember z (concat l)) (sym q) m)
found-in g (y ∷ ys) ss z e m =
    let r = each-cons_is g y ys ss e in
    elim (member_split z r.0 (concat r.1) (subst (λ l. IsMember z (concat l)) r.4 m)) [
      | inl a ↦ (y, r.0, inl refl, r.2, a)
      | inr b ↦ let f = found-in g ys r.1 z r.3 b in (f.0, f.1, inr f.2, f.3, f.4)
    ]

-- and what some member gives is in what the loop gives
found-of : (g : Datum → Option (List Datum)) (ys : List Datum) (ss : List (List Datum)) (y z : Datum) (s : List Datum) → each g ys ≡ Some ss → IsMember y ys → g y ≡ Some s → IsMember z s → IsMember z (concat ss)
found-of g [] ss y z s e m k n = absurd m
found-of g (x ∷ ys) ss y z s e (inl a) k n =
    let r = each-cons_is g x ys ss e in
    let q : r.0 ≡ s = same_Some r.0 s (sym r.2 ∙ ap g a ∙ k) in
    subst (λ l. IsMember z (concat l)) (sym r.4) (member_left z r.0 (concat r.1) (subst (IsMember z) (sym q) n))
found-of g (x ∷ ys) ss y z s e (inr b) k n =
    let r = each-cons_is g x ys ss e in subst (λ l. IsMember z (concat l)) (sym r.4) (member_right z r.0 (concat r.1) (found-of g ys r.1 y z s r.3 b k n))

-- a loop over the members of a set is a loop over any list with these members
pub each-canon : (g : Datum → Option (List Datum)) (ys : List Datum) → (each g (canon ys) >>= λ ss. Some (set_of (concat ss))) ≡ (each g ys >>= λ ss. Some (set_of (concat ss)))
each-canon g ys = by (each g (canon ys)) (each g ys) refl refl
  where
    never : (ss : List (List Datum)) → None ≡ Some ss → ⊥
    never ss r = cc

    by : (p q : Option (List (List Datum))) → each g (canon ys) ≡ p → each g ys ≡ q → (p >>= λ ss. Some (set_of (concat ss))) ≡ (q >>= λ ss. Some (set_of (concat ss)))
    by None None e k = refl
    by None (Some ss) e k = let t = each-total g (canon ys) (Every-canon (λ y. (s : List Datum) × (g y ≡ Some s)) ys (each-is g ys ss k)) in absurd (never t.0 (sym e ∙ t.1))
    by (Some ss) None e k = let t = each-total g ys (Every-from_canon (λ y. (s : List Datum) × (g y ≡ Some s)) ys (each-is g (canon ys) ss e)) in absurd (never t.0 (sym k ∙ t.1))
    by (Some ss) (Some us) e k =
        ap (λ l. Some (datum.set (data_of l)))
        (canon_same (concat ss) (concat us)
        (λ z m. let f = found-in g ys us z k m in found-of g (canon ys) ss f.0 z f.1 e (member_canon ys f.0 f.2) f.3 f.4)
        (λ z m. let f = found-in g (canon ys) ss z e m in found-of g ys us f.0 z f.1 k (member_from_canon ys f.0 f.2) f.3 f.4))

-- lists joined in either order
concat-concat : (xsss : List (List (List Datum))) → concat (map concat xsss) ≡ concat (concat xsss)
concat-concat [] = refl
concat-concat (xss ∷ xsss) = ap (λ l. concat xss ++ l) (concat-concat xsss) ∙ joined xss
  where
    joined : (yss : List (List Datum)) → concat yss ++ concat (concat xsss) ≡ concat (yss ++ concat xsss)
    joined [] = refl
    joined (ys ∷ yss) = append_assoc ys (concat yss) (concat (concat xsss)) ∙ ap (λ l. ys ++ l) (joined yss)

-- what each of some sets' loops gives, and what the loop over their union gives
pub loops-joined : (M g : Datum → Option (List Datum)) (xs : List Datum) →
    (each M xs >>= λ sets. each g (canon (concat sets)) >>= λ ss. Some (set_of (concat ss)))
    ≡ (each (λ x. (M x >>= each g) >>= λ ss. Some (set_of (concat ss))) xs >>= union_all)
loops-joined M g xs =
    then-ext (each M xs) (λ sets. each g (canon (concat sets)) >>= λ ss. Some (set_of (concat ss))) (λ sets. each g (concat sets) >>= λ ss. Some (set_of (concat ss))) (λ sets e. each-canon g (concat sets))
    ∙ sym (then-assoc (each M xs) (λ sets. Some (concat sets)) (λ ys. each g ys >>= λ ss. Some (set_of (concat ss))))
    ∙ sym (then-assoc (each M xs >>= λ sets. Some (concat sets)) (each g) (λ ss. Some (set_of (concat ss))))
    ∙ ap (λ o. o >>= λ ss. Some (set_of (concat ss))) (each-concat M g xs)
    ∙ then-assoc (each (λ x. M x >>= each g) xs) (λ found. Some (concat found)) (λ ss. Some (set_of (concat ss)))
    ∙ then-ext (each (λ x. M x >>= each g) xs) (λ found. Some (set_of (concat (concat found)))) (λ found. union_all (map (λ ss. set_of (concat ss)) found))
    (λ found e. sym (ap union_all (sym (map-map set_of concat found)) ∙ union_all-sets (map concat found) ∙ ap (λ l. Some (set_of l)) (concat-concat found)))
    ∙ sym (then-assoc (each (λ x. M x >>= each g) xs) (λ found. Some (map (λ ss. set_of (concat ss)) found)) union_all)
    ∙ ap (λ o. o >>= union_all) (sym (each-then (λ x. M x >>= each g) (λ ss. set_of (concat ss)) xs))

-- a loop's value by the lists of its bodies
loop-lists : (f : Datum → Option Datum) (ys : List Datum) → (each f ys >>= union_all) ≡ (each (λ y. f y >>= as_set) ys >>= λ ss. Some (set_of (concat ss)))
loop-lists f ys = sym (then-assoc (each f ys) (each as_set) (λ ss. Some (set_of (concat ss)))) ∙ ap (λ o. o >>= λ ss. Some (set_of (concat ss))) (each-each f as_set ys)

-- a big union over a big union
pub keeps-s3 : (V : Outcomes) (vals : List Datum) (e m b : Term) → cden V vals (big_union_term (big_union_term e m) b) ≡ cden V vals (big_union_term e (big_union_term m (shift_term 1 1 b)))
keeps-s3 V vals e m b = by (cden V vals e >>= as_set)
  where
    inner : (x : Datum) → cden V (x ∷ vals) (big_union_term m (shift_term 1 1 b)) ≡ (((cden V (x ∷ vals) m >>= as_set) >>= each (λ y. cden V (y ∷ vals) b >>= as_set)) >>= λ ss. Some (set_of (concat ss)))
    inner x = go (cden V (x ∷ vals) m >>= as_set)
      where
        go : (o : Option (List Datum)) → ((o >>= each (λ y. cden V (y ∷ (x ∷ vals)) (shift_term 1 1 b))) >>= union_all) ≡ ((o >>= each (λ y. cden V (y ∷ vals) b >>= as_set)) >>= λ ss. Some (set_of (concat ss)))
        go None = refl
        go (Some ys) =
            ap (λ o. o >>= union_all) (each-ext (λ y. cden V (y ∷ (x ∷ vals)) (shift_term 1 1 b)) (λ y. cden V (y ∷ vals) b) ys (Every-all _ (λ y. cden-shift_term V (y ∷ []) (x ∷ []) vals b) ys))
            ∙ loop-lists (λ y. cden V (y ∷ vals) b) ys

    outer : (o : Option (List (List Datum))) → ((((o >>= λ sets. Some (set_of (concat sets))) >>= as_set) >>= each (λ y. cden V (y ∷ vals) b)) >>= union_all)
        ≡ (o >>= λ sets. each (λ y. cden V (y ∷ vals) b >>= as_set) (canon (concat sets)) >>= λ ss. Some (set_of (concat ss)))
    outer None = refl
    outer (Some sets) = ap (λ o. (o >>= each (λ y. cden V (y ∷ vals) b)) >>= union_all) (as_set-set_of (concat sets)) ∙ loop-lists (λ y. cden V (y ∷ vals) b) (canon (concat sets))

    by : (o : Option (List Datum)) → (((((o >>= each (λ x. cden V (x ∷ vals) m)) >>= union_all) >>= as_set) >>= each (λ y. cden V (y ∷ vals) b)) >>= union_all)
        ≡ ((o >>= each (λ x. cden V (x ∷ vals) (big_union_term m (shift_term 1 1 b)))) >>= union_all)
    by None = refl
    by (Some xs) =
        ap (λ o. ((o >>= as_set) >>= each (λ y. cden V (y ∷ vals) b)) >>= union_all) (loop-lists (λ x. cden V (x ∷ vals) m) xs)
        ∙ outer (each (λ x. cden V (x ∷ vals) m >>= as_set) xs)
        ∙ loops-joined (λ x. cden V (x ∷ vals) m >>= as_set) (λ y. cden V (y ∷ vals) b >>= as_set) xs
        ∙ ap (λ o. o >>= union_all) (sym (each-ext (λ x. cden V (x ∷ vals) (big_union_term m (shift_term 1 1 b))) _ xs (Every-all _ (λ x. inner x) xs)))
