-- Turns of nodes that are kept, and of the parts of all nodes: encoding keeps with how many values a part is entered.
use Rattle.std.proofs.Common.{◌≡◌, ℕ, zero, suc, ◌≤◌, Bool, true, false, nat_lt, List, [], ◌∷◌, length, map, replicate, take, Option, Some, None, option_to_list, unwrap_or, refl, sym, ap, subst, ◌∙◌, if◌then◌else◌, arith}
use Rattle.std.proofs.lemmas.List.{length-map}
use Rattle.aql_value.specs.Datum.{Datum}
use Rattle.aql_value.specs.Laws.Datum.{list_of-data_of}
use Rattle.aql_value.specs.Lists.{Every}
use Rattle.aql_value.specs.Operations.{as_natural, as_truth, as_set, push_index}
use Rattle.aql_value.specs.Partial.{◌>>=◌, each, total, if_some}
use Rattle.aql_value.specs.Strict.{Strict, gen_turns}
use Rattle.aql_ty.specs.Types as types
use Rattle.aql_ty.specs.Types.{Ty}
use Rattle.aql_ty.specs.ValueTypes.{HasType, HaveTypes}
use Rattle.nrca_term.specs.Term.{Form}
use Rattle.nrca_term.specs.Typing.{Arg, arg, form_rule}
use Rattle.nrca_term.specs.Meaning.{Part, here, worth, members_value, bounds_value}
use Rattle.nrca_term.specs.Places.{entry_values, branch, otherwise, indices_of}
use Rattle.nrca_term.specs.Turns.{own_turns}
use Rattle.nrca_term.specs.Laws.Sound.{AllSound, sound-get, sounds}
use Rattle.nrca_graph.specs.Encoding.{encoding, encode_outcome}
use Rattle.nrca_graph.specs.GraphTurns.{own_graph_turns}
use Rattle.nrca_graph.specs.NoArrays.{IsKeptForm}
use Rattle.nrca_graph.specs.Laws.EncodingOrder.{encoding-order, encoding-set}
use Rattle.nrca_graph.specs.Laws.KeptForms.{AllMirror, mirror-get, truth-encoded, natural-encoded, numbers-encoded}
use Rattle.nrca_graph.specs.Laws.TranslatedParts.{first-mirror, here-mirror, walked-encoded}
use Rattle.nrca_graph.specs.Laws.TabulationNode.{tab_args}

-- the first argument's part
first-mirrors : (a : Arg) (args : List Arg) (ps qs : List Part) → a.own ≡ [] → AllMirror (a ∷ args) ps qs → worth qs 0 [] ≡ encode_outcome (worth ps 0 [])
first-mirrors a args ps qs e m = mirror-get (a ∷ args) ps qs 0 a m refl [] (subst (λ ts. HaveTypes ts []) (sym e) tt)

-- the members of an encoded operand
pub members-encoded : (A : Ty) (args : List Arg) (ps qs : List Part) → AllSound (arg [] (types.set_of A) ∷ args) ps → AllMirror (arg [] (types.set_of A) ∷ args) ps qs →
    members_value qs ≡ (members_value ps >>= λ ms. Some (map encoding ms))
members-encoded A args ps qs s m =
    ap (λ o. o >>= as_set) (first-mirrors (arg [] (types.set_of A)) args ps qs refl m)
    ∙ of (worth ps 0 []) (λ v e. sound-get (arg [] (types.set_of A) ∷ args) ps 0 (arg [] (types.set_of A)) s refl [] v tt e)
  where
    of : (o : Option Datum) → ((v : Datum) → o ≡ Some v → HasType (types.set_of A) v) → (encode_outcome o >>= as_set) ≡ ((o >>= as_set) >>= λ ms. Some (map encoding ms))
    of None k = refl
    of (Some v) k =
        let t = k v refl in
        ap (λ x. as_set (encoding x)) t.1
        ∙ ap as_set (encoding-set A (encoding-order A) t.0 t.3 t.2)
        ∙ ap Some (list_of-data_of (map encoding t.0))
        ∙ sym (ap (λ x. as_set x >>= λ ms. Some (map encoding ms)) t.1 ∙ ap (λ ms. Some (map encoding ms)) (list_of-data_of t.0))

-- the bounds of a tabulation
pub bounds-encoded : (rank : ℕ) (A : Ty) (ps qs : List Part) → AllMirror (tab_args rank A) ps qs → bounds_value rank qs ≡ bounds_value rank ps
bounds-encoded rank A ps qs m =
    ap (λ o. o >>= each as_natural) (first-mirror rank types.natural (arg (replicate rank types.natural) A ∷ []) ps qs m) ∙ of (each here (take rank ps))
  where
    of : (o : Option (List Datum)) → ((o >>= λ vs. Some (map encoding vs)) >>= each as_natural) ≡ (o >>= each as_natural)
    of None = refl
    of (Some vs) = numbers-encoded vs

-- values one by one, encoded
ones-encoded : (ms : List Datum) → map (λ m. m ∷ []) (map encoding ms) ≡ map (map encoding) (map (λ m. m ∷ []) ms)
ones-encoded [] = refl
ones-encoded (m ∷ ms) = ap (λ l. (encoding m ∷ []) ∷ l) (ones-encoded ms)

members-entered : (o : Option (List Datum)) → map (λ m. m ∷ []) (unwrap_or (o >>= λ ms. Some (map encoding ms)) []) ≡ map (map encoding) (map (λ m. m ∷ []) (unwrap_or o []))
members-entered None = refl
members-entered (Some ms) = ones-encoded ms

-- indices are their own encodings
indices-entered : (ats : List (List ℕ)) → map (λ at. push_index at []) ats ≡ map (map encoding) (map (λ at. push_index at []) ats)
indices-entered [] = refl
indices-entered (at ∷ ats) = ap (λ x. x ∷ map (λ b. push_index b []) ats) (sym (walked-encoded at [])) ∙ ap (λ l. map encoding (push_index at []) ∷ l) (indices-entered ats)

branch-entered : (b : Bool) (o : Option Bool) → branch b o ≡ map (map encoding) (branch b o)
branch-entered b None = refl
branch-entered true (Some true) = refl
branch-entered true (Some false) = refl
branch-entered false (Some true) = refl
branch-entered false (Some false) = refl

-- a test of an encoded value
test-encoded : (o : Option Datum) → (encode_outcome o >>= as_truth) ≡ (o >>= as_truth)
test-encoded None = refl
test-encoded (Some v) = truth-encoded v

-- a part is entered with the encoded values of those with which its counterpart is
pub entered-encoded : (G : ℕ → Ty → Type 0) (env : List Ty) (f : Form) (args : List Arg) (T : Ty) (ps qs : List Part) (i : ℕ) → form_rule G env f args T → AllSound args ps → AllMirror args ps qs →
    entry_values f qs i ≡ map (map encoding) (entry_values f ps i)
entered-encoded G env (Form.var n) args T ps qs i r s m = refl
entered-encoded G env (Form.global n) args T ps qs i r s m = refl
entered-encoded G env Form.bind args T ps qs zero r s m = refl
entered-encoded G env Form.bind args T ps qs (suc i) r s m =
    ap (λ o. map (λ v. v ∷ []) (option_to_list o)) (first-mirrors (arg [] r.0) (arg (r.0 ∷ []) T ∷ []) ps qs refl (subst (λ x. AllMirror x ps qs) r.1 m)) ∙ of (worth ps 0 [])
  where
    of : (o : Option Datum) → map (λ v. v ∷ []) (option_to_list (encode_outcome o)) ≡ map (map encoding) (map (λ v. v ∷ []) (option_to_list o))
    of None = refl
    of (Some v) = refl
entered-encoded G env Form.choose args T ps qs zero r s m = refl
entered-encoded G env Form.choose args T ps qs (suc zero) r s m =
    ap (λ o. branch true (o >>= as_truth)) (first-mirrors (arg [] types.truth) (arg [] T ∷ arg [] T ∷ []) ps qs refl (subst (λ x. AllMirror x ps qs) r m))
    ∙ ap (branch true) (test-encoded (worth ps 0 [])) ∙ branch-entered true (worth ps 0 [] >>= as_truth)
entered-encoded G env Form.choose args T ps qs (suc (suc i)) r s m =
    ap (λ o. branch false (o >>= as_truth)) (first-mirrors (arg [] types.truth) (arg [] T ∷ arg [] T ∷ []) ps qs refl (subst (λ x. AllMirror x ps qs) r m))
    ∙ ap (branch false) (test-encoded (worth ps 0 [])) ∙ branch-entered false (worth ps 0 [] >>= as_truth)
entered-encoded G env Form.default args T ps qs zero r s m = refl
entered-encoded G env Form.default args T ps qs (suc i) r s m =
    ap otherwise (first-mirrors (arg [] T) (arg [] T ∷ []) ps qs refl (subst (λ x. AllMirror x ps qs) r m)) ∙ of (worth ps 0 [])
  where
    of : (o : Option Datum) → otherwise (encode_outcome o) ≡ map (map encoding) (otherwise o)
    of None = refl
    of (Some v) = refl
entered-encoded G env Form.big_union args T ps qs zero r s m = refl
entered-encoded G env Form.big_union args T ps qs (suc i) r s m =
    ap (λ o. map (λ v. v ∷ []) (unwrap_or o [])) (members-encoded r.0 (arg (r.0 ∷ []) (types.set_of r.1) ∷ []) ps qs (sounds args _ ps r.2 s) (subst (λ x. AllMirror x ps qs) r.2 m)) ∙ members-entered (members_value ps)
entered-encoded G env Form.sum args T ps qs zero r s m = refl
entered-encoded G env Form.sum args T ps qs (suc i) r s m =
    ap (λ o. map (λ v. v ∷ []) (unwrap_or o [])) (members-encoded r.0 (arg (r.0 ∷ []) types.natural ∷ []) ps qs (sounds args _ ps r.1 s) (subst (λ x. AllMirror x ps qs) r.1 m)) ∙ members-entered (members_value ps)
entered-encoded G env (Form.tab rank) args T ps qs i r s m =
    ap (λ o. if nat_lt i rank then [] ∷ [] else map (λ at. push_index at []) (indices_of o)) (bounds-encoded rank r.0 ps qs (subst (λ x. AllMirror x ps qs) r.2 m))
    ∙ of (nat_lt i rank)
  where
    of : (c : Bool) → (if c then [] ∷ [] else map (λ at. push_index at []) (indices_of (bounds_value rank ps))) ≡ map (map encoding) (if c then [] ∷ [] else map (λ at. push_index at []) (indices_of (bounds_value rank ps)))
    of true = refl
    of false = indices-entered (indices_of (bounds_value rank ps))
entered-encoded G env (Form.strict c) args T ps qs i r s m = refl

-- as many members
members-many : (o : Option (List Datum)) → if_some (o >>= λ ms. Some (map encoding ms)) length ≡ if_some o length
members-many None = refl
members-many (Some ms) = length-map ms encoding

gen-encoded : (vs : List Datum) → gen_turns (map encoding vs) ≡ gen_turns vs
gen-encoded [] = refl
gen-encoded (v ∷ []) = ap (λ o. if_some o (λ n. n)) (natural-encoded v)
gen-encoded (v ∷ w ∷ vs) = refl

-- the turns of a kept form by itself
pub own-encoded : (G : ℕ → Ty → Type 0) (env : List Ty) (f : Form) (args : List Arg) (T : Ty) (ps qs : List Part) → IsKeptForm f → form_rule G env f args T → AllSound args ps → AllMirror args ps qs →
    own_turns f qs ≡ own_graph_turns f ps
own-encoded G env (Form.var n) args T ps qs k r s m = refl
own-encoded G env (Form.global n) args T ps qs k r s m = refl
own-encoded G env Form.bind args T ps qs k r s m = refl
own-encoded G env Form.choose args T ps qs k r s m = refl
own-encoded G env Form.default args T ps qs k r s m = refl
own-encoded G env Form.big_union args T ps qs k r s m =
    ap (λ o. if_some o length) (members-encoded r.0 (arg (r.0 ∷ []) (types.set_of r.1) ∷ []) ps qs (sounds args _ ps r.2 s) (subst (λ x. AllMirror x ps qs) r.2 m)) ∙ members-many (members_value ps)
own-encoded G env Form.sum args T ps qs k r s m =
    ap (λ o. if_some o length) (members-encoded r.0 (arg (r.0 ∷ []) types.natural ∷ []) ps qs (sounds args _ ps r.1 s) (subst (λ x. AllMirror x ps qs) r.1 m)) ∙ members-many (members_value ps)
own-encoded G env (Form.tab rank) args T ps qs k r s m = absurd k
own-encoded G env (Form.strict Strict.gen) args T ps qs k r s m =
    ap (λ o. if_some o gen_turns) (here-mirror r.0 ps qs (subst (λ x. AllMirror x ps qs) r.1 m)) ∙ of (each here ps)
  where
    of : (o : Option (List Datum)) → if_some (o >>= λ vs. Some (map encoding vs)) gen_turns ≡ if_some o gen_turns
    of None = refl
    of (Some vs) = gen-encoded vs
own-encoded G env (Form.strict Strict.sub) args T ps qs k r s m = absurd k
own-encoded G env (Form.strict (Strict.dim rank)) args T ps qs k r s m = absurd k
own-encoded G env (Form.strict (Strict.index rank)) args T ps qs k r s m = absurd k
own-encoded G env (Form.strict (Strict.literal rank)) args T ps qs k r s m = absurd k
own-encoded G env (Form.strict (Strict.nat n)) args T ps qs k r s m = refl
own-encoded G env (Form.strict (Strict.bool b)) args T ps qs k r s m = refl
own-encoded G env (Form.strict (Strict.text t)) args T ps qs k r s m = refl
own-encoded G env (Form.strict Strict.bottom) args T ps qs k r s m = refl
own-encoded G env (Form.strict Strict.tuple) args T ps qs k r s m = refl
own-encoded G env (Form.strict (Strict.proj at of)) args T ps qs k r s m = refl
own-encoded G env (Form.strict (Strict.arith op)) args T ps qs k r s m = refl
own-encoded G env (Form.strict (Strict.compare op)) args T ps qs k r s m = refl
own-encoded G env (Form.strict Strict.empty) args T ps qs k r s m = refl
own-encoded G env (Form.strict Strict.single) args T ps qs k r s m = refl
own-encoded G env (Form.strict Strict.union) args T ps qs k r s m = refl
own-encoded G env (Form.strict Strict.get) args T ps qs k r s m = refl

-- totals of numbers of which each is at most another
pub total-le : {A : Type 0} (f g : A → ℕ) (xs : List A) → Every (λ x. f x ≤ g x) xs → total f xs ≤ total g xs
total-le f g [] h = omega arith
total-le f g (x ∷ xs) h = omega (arith, h.0, total-le f g xs h.1)
