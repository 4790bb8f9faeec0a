-- A firm typed term has a value wherever the facts of its place hold (`firm-defined`).
use Rattle.std.proofs.Common.{◌≡◌, ℕ, zero, suc, ◌+◌, ◌*◌, ◌-◌, ◌<◌, ◌≤◌, ◌/◌, ◌%◌, ◌^◌, Bool, true, false, ◌||◌, nat_lt, nat_eq, is_some, List, [], ◌∷◌, ◌++◌, length, map, replicate, take, Option, Some, None, option_to_list, unwrap_or, refl, sym, ap, subst, ◌∙◌, arith, if◌then◌else◌, inl, inr}
use Rattle.std.specs.List.{slice_get}
use Rattle.std.proofs.lemmas.Bool.{cases_Bool, lt-ltb, le-ltb, ltb-true, eqb-true, eq-eqb, and_parts}
use Rattle.std.proofs.lemmas.Nat.{mul-le}
use Rattle.std.proofs.lemmas.Option.{same_Some}
use Rattle.aql_value.specs.declared.ops.ArithOp.{ArithOp}
use Rattle.aql_value.specs.declared.ops.ArithOp.TheVariants.{Add, Monus, Mul, Quotient, Remainder}
use Rattle.aql_value.specs.Arith.{if_fits}
use Rattle.aql_value.specs.Ops.{arith_by}
use Rattle.aql_value.specs.Datum as datum
use Rattle.aql_value.specs.Datum.{Datum, data_of}
use Rattle.aql_value.specs.Indices.{indices, product}
use Rattle.aql_value.specs.Lists.{Every}
use Rattle.aql_value.specs.Laws.Lists.{Every-impl, Every-join, Every-map}
use Rattle.aql_value.specs.Operations.{as_natural, as_truth, as_set, union_all, array_of, push_index}
use Rattle.aql_value.specs.Laws.Operations.{array_of-made}
use Rattle.aql_value.specs.Partial.{◌>>=◌, each, or_else}
use Rattle.aql_value.specs.Laws.Partial.{then-is, each-total}
use Rattle.aql_value.specs.Strict.{Strict, strict_value}
use Rattle.aql_ty.specs.Types as types
use Rattle.aql_ty.specs.Types.{Ty, natural, truth}
use Rattle.aql_ty.specs.ValueTypes.{HasType, HaveTypes}
use Rattle.aql_ty.specs.Laws.Operation.{has-append, has-length}
use Rattle.nrca_term.specs.Term.{Term, Parts, node, none, part, Form, child_of, count, WellFormed}
use Rattle.nrca_term.specs.Meaning.{Outcomes, outcome, Part, worth, here, form_value, test_value, members_value, loop_values, bounds_value, cden, part_values}
use Rattle.nrca_term.specs.Places.{branch, otherwise, indices_of, entry_values}
use Rattle.nrca_term.specs.Typing.{Arg, arg, form_rule, ctyped, parts_typed, OutcomesHave}
use Rattle.nrca_term.specs.Laws.Entering.{bounds-length, length-part_values}
use Rattle.nrca_term.specs.Laws.Sound.{AllSound, sound-get, sounds, sound-length, length-tab, loop-sound, parts-sound, sound, has-here}
use Rattle.nrca_term.specs.Laws.TypedForm.{well_formed-typed}
use Rattle.nrca_term.specs.Laws.TypedPlaces.{entered-own}
use Rattle.nrca_term.specs.Facts.{Context, enter_facts, FactsHold}
use Rattle.nrca_term.specs.Laws.Contexts.{stands-enter}
use Rattle.nrca_term.specs.Firm.{Span, number_of, arith_span, span, strict_sure, form_sure, wants_all, arith_firm, strict_firm, second_number, firm, all_firm, some_firm}
use Rattle.nrca_rule_laws.specs.Operations.{Valued}
use Rattle.nrca_rule_laws.specs.Laws.Operations.{full-cells, set-is, element-there, strict-defined}
use Rattle.nrca_rule_laws.specs.Spans.{Between}
use Rattle.nrca_rule_laws.specs.Laws.Spans.{span-sound, number-is, numeral-value}
use Rattle.std.proofs.lemmas.List.{length-take-le}

-- each position that D tells of has a value
abbrev pub PositionsAre : (ℕ → Bool) → Outcomes → Type 0
PositionsAre D V = (n : ℕ) → D n ≡ true → Valued (outcome V n)

-- each part has a value at each list of values with which an evaluation of the node comes to it
abbrev pub PartsDefined : Form → List Part → Type 0
PartsDefined f ps = (i : ℕ) → i < length ps → Every (λ new. Valued (worth ps i new)) (entry_values f ps i)

-- a partial function after a value that is there
then-valued : {A : Type 0} (f : A → Option Datum) (o : Option A) (x : A) → o ≡ Some x → Valued (f x) → Valued (o >>= f)
then-valued f o x e h = subst (λ q. Valued (q >>= f)) (sym e) h

-- parts without variables that have values, as a list
pub here-valued : (ps : List Part) → ((i : ℕ) → i < length ps → Valued (worth ps i [])) → (vs : List Datum) × (each here ps ≡ Some vs)
here-valued [] h = ([], refl)
here-valued (p ∷ ps) h =
    let a = h 0 (omega arith) in
    let r = here-valued ps (λ i l. h (suc i) (omega (arith, l))) in
    (a.0 ∷ r.0, rw (a.1, r.1) refl)

worth-take : (n : ℕ) (ps : List Part) (i : ℕ) (new : List Datum) → i < n → worth (take n ps) i new ≡ worth ps i new
worth-take zero ps i new l = absurd (omega (arith, l))
worth-take (suc n) [] i new l = refl
worth-take (suc n) (p ∷ ps) zero new l = refl
worth-take (suc n) (p ∷ ps) (suc i) new l = worth-take n ps i new (omega (arith, l))

-- the type of a bound
bound-arg : (rank i : ℕ) (x y : Arg) → i < rank → slice_get (replicate rank x ++ y ∷ []) i ≡ Some x
bound-arg zero i x y l = absurd (omega (arith, l))
bound-arg (suc rank) zero x y l = refl
bound-arg (suc rank) (suc i) x y l = bound-arg rank i x y (omega (arith, l))

-- a list of numbers grows
each-both : (v : Datum) (n : ℕ) (vs : List Datum) (ns : List ℕ) → as_natural v ≡ Some n → each as_natural vs ≡ Some ns → each as_natural (v ∷ vs) ≡ Some (n ∷ ns)
each-both v n vs ns e k = rw (e, k) refl

-- values that are numbers, as a list of numbers
numbers-total : (ps : List Part) (vs : List Datum) → each here ps ≡ Some vs → ((i : ℕ) (v : Datum) → i < length ps → worth ps i [] ≡ Some v → HasType natural v) → (ns : List ℕ) × (each as_natural vs ≡ Some ns)
numbers-total [] vs e h = let z : [] ≡ vs = cc in ([], ap (each as_natural) (sym z))
numbers-total (p ∷ ps) vs e h =
    let a = then-is (p []) (λ y. each here ps >>= λ ys. Some (y ∷ ys)) vs e in
    let b = then-is (each here ps) (λ ys. Some (a.0 ∷ ys)) vs a.2 in
    let n = h 0 a.0 (omega arith) a.1 in
    let r = numbers-total ps b.0 b.1 (λ i v l k. h (suc i) v (omega (arith, l)) k) in
    let z : vs ≡ a.0 ∷ b.0 = sym (same_Some (a.0 ∷ b.0) vs b.2) in
    (n.0 ∷ r.0, ap (each as_natural) z ∙ each-both a.0 n.0 b.0 r.0 (ap as_natural n.1) r.1)

-- a node that wants all its parts has a value where each part has one wherever it is entered
pub form-defined : (G : ℕ → Ty → Type 0) (V : Outcomes) (D : ℕ → Bool) (env : List Ty) (vals : List Datum) → PositionsAre D V → HaveTypes env vals → (f : Form) (args : List Arg) (T : Ty) (ps : List Part) →
    form_sure D f ≡ true → wants_all f ≡ true → form_rule G env f args T → AllSound args ps → PartsDefined f ps → Valued (form_value V vals f ps)
form-defined G V D env vals d h (Form.var i) args T ps f w r s k = element-there env vals i T h r.1
form-defined G V D env vals d h (Form.global n) args T ps f w r s k = d n f
form-defined G V D env vals d h Form.bind args T ps f w r s k =
    let l : 2 ≡ length ps = sound-length (arg [] r.0 ∷ arg (r.0 ∷ []) T ∷ []) ps (sounds args (arg [] r.0 ∷ arg (r.0 ∷ []) T ∷ []) ps r.1 s) in
    let v = (k 0 (omega (arith, l))).0 in
    let u = (subst (λ o. Every (λ new. Valued (worth ps 1 new)) (map (λ v. v ∷ []) (option_to_list o))) v.1 (k 1 (omega (arith, l)))).0 in
    then-valued (λ x. worth ps 1 (x ∷ [])) (worth ps 0 []) v.0 v.1 u
form-defined G V D env vals d h Form.choose args T ps f w r s k =
    let s = sounds args (arg [] truth ∷ arg [] T ∷ arg [] T ∷ []) ps r s in
    let l : 3 ≡ length ps = sound-length (arg [] truth ∷ arg [] T ∷ arg [] T ∷ []) ps s in
    let v = (k 0 (omega (arith, l))).0 in
    let b = sound-get (arg [] truth ∷ arg [] T ∷ arg [] T ∷ []) ps 0 (arg [] truth) s refl [] v.0 tt v.1 in
    let e : test_value ps ≡ Some b.0 = ap (λ o. o >>= as_truth) v.1 ∙ ap as_truth b.1 in
    then-valued (λ t. if t then worth ps 1 [] else worth ps 2 []) (test_value ps) b.0 e
    (taken b.0 (subst (λ o. Every (λ new. Valued (worth ps 1 new)) (branch true o)) e (k 1 (omega (arith, l)))) (subst (λ o. Every (λ new. Valued (worth ps 2 new)) (branch false o)) e (k 2 (omega (arith, l)))))
  where
    taken : (b : Bool) → Every (λ new. Valued (worth ps 1 new)) (branch true (Some b)) → Every (λ new. Valued (worth ps 2 new)) (branch false (Some b)) → Valued (if b then worth ps 1 [] else worth ps 2 [])
    taken true x y = x.0
    taken false x y = y.0
form-defined G V D env vals d h Form.default args T ps f w r s k = cc
form-defined G V D env vals d h Form.big_union args T ps f w r s k =
    let s = sounds args (arg [] (types.set_of r.0) ∷ arg (r.0 ∷ []) (types.set_of r.1) ∷ []) ps r.2 s in
    let l : 2 ≡ length ps = sound-length (arg [] (types.set_of r.0) ∷ arg (r.0 ∷ []) (types.set_of r.1) ∷ []) ps s in
    let v = (k 0 (omega (arith, l))).0 in
    let m = set-is r.0 v.0 (sound-get (arg [] (types.set_of r.0) ∷ arg (r.0 ∷ []) (types.set_of r.1) ∷ []) ps 0 (arg [] (types.set_of r.0)) s refl [] v.0 tt v.1) in
    let e : members_value ps ≡ Some m.0 = ap (λ o. o >>= as_set) v.1 ∙ m.1 in
    let bodies = subst (λ o. Every (λ new. Valued (worth ps 1 new)) (map (λ x. x ∷ []) (unwrap_or o []))) e (k 1 (omega (arith, l))) in
    let rs = each-total (λ x. worth ps 1 (x ∷ [])) m.0 (Every-map (λ new. Valued (worth ps 1 new)) (λ x. x ∷ []) m.0 bodies) in
    let loop : loop_values ps ≡ Some rs.0 = ap (λ o. o >>= each (λ x. worth ps 1 (x ∷ []))) e ∙ rs.1 in
    let sets = each-total as_set rs.0 (Every-impl (HasType (types.set_of r.1)) (λ w. (ms : List Datum) × (as_set w ≡ Some ms)) (λ w q. set-is r.1 w q) rs.0 (loop-sound r.0 (types.set_of r.1) ps rs.0 s loop)) in
    then-valued union_all (loop_values ps) rs.0 loop (rw sets.1 (_, refl))
form-defined G V D env vals d h Form.sum args T ps f w r s k = cc
form-defined G V D env vals d h (Form.tab rank) args T ps f w r s k =
    let s = sounds args (replicate rank (arg [] natural) ++ arg (replicate rank natural) r.0 ∷ []) ps r.2 s in
    let l : suc rank ≡ length ps = sym (length-tab rank (arg [] natural) (arg (replicate rank natural) r.0)) ∙ sound-length (replicate rank (arg [] natural) ++ arg (replicate rank natural) r.0 ∷ []) ps s in
    let n : length (take rank ps) ≡ rank = length-take-le rank ps (omega (arith, l)) in
    let bs = here-valued (take rank ps) (λ j q. subst Valued (sym (worth-take rank ps j [] (omega (arith, q, n)))) ((rw (lt-ltb j rank (omega (arith, q, n))) at (k j (omega (arith, l, q, n)))).0)) in
    let ns = numbers-total (take rank ps) bs.0 bs.1
    (λ j v q m. sound-get (replicate rank (arg [] natural) ++ arg (replicate rank natural) r.0 ∷ []) ps j (arg [] natural) s (bound-arg rank j (arg [] natural) (arg (replicate rank natural) r.0) (omega (arith, q, n))) [] v tt
    (sym (worth-take rank ps j [] (omega (arith, q, n))) ∙ m)) in
    let e : bounds_value rank ps ≡ Some ns.0 = ap (λ o. o >>= each as_natural) bs.1 ∙ ns.1 in
    let many : length ns.0 ≡ rank = bounds-length rank ps ns.0 (omega (arith, l)) e in
    let body = subst (λ o. Every (λ new. Valued (worth ps rank new)) (map (λ at. push_index at []) (indices_of o))) e (rw (le-ltb rank rank (omega arith)) at (k rank (omega (arith, l)))) in
    let cells = each-total (λ at. worth ps rank (push_index at [])) (indices ns.0) (Every-map (λ new. Valued (worth ps rank new)) (λ at. push_index at []) (indices ns.0) body) in
    let full : product ns.0 ≡ length cells.0 = full-cells (λ at. worth ps rank (push_index at [])) ns.0 cells.0 cells.1 in
    then-valued (λ ds. each (λ at. worth ps rank (push_index at [])) (indices ds) >>= array_of ds) (bounds_value rank ps) ns.0 e
    (then-valued (array_of ns.0) (each (λ at. worth ps rank (push_index at [])) (indices ns.0)) cells.0 cells.1 (datum.array ns.0 (data_of cells.0), array_of-made ns.0 cells.0 (omega (arith, many, r.1.0)) (omega (arith, many, r.1.1)) full))
form-defined G V D env vals d h (Form.strict c) args T ps f w r s k =
    let v = here-valued ps (λ i l. (k i l).0) in
    then-valued (strict_value c) (each here ps) v.0 v.1 (strict-defined c r.0 T v.0 f r.2 (has-here r.0 ps v.0 (sounds args (map (arg []) r.0) ps r.1 s) v.1))

-- a successor is not 0
not-zero : (j : ℕ) → nat_eq (suc j) 0 ≡ false
not-zero j = elim (cases_Bool (nat_eq (suc j) 0)) [ inl e ↦ absurd (omega (arith, eqb-true (suc j) 0 e)) | inr e ↦ e ]

-- arithmetic whose answer is sure to be in range
arith-defined : (op : ArithOp) (a b : Span) (c : Option ℕ) (m n : ℕ) → arith_firm op (arith_span op a b c) c ≡ true → Between m a → Between n b → ((j : ℕ) → c ≡ Some j → j ≡ n) → (k : ℕ) × (arith_by op m n ≡ Some k)
arith-defined Add a b c m n f ha hb hc = spans a b ha hb f
  where
    fits : (x y : ℕ × ℕ) → m ≤ x.1 → n ≤ y.1 → (t : Bool) → nat_lt (x.1 + y.1) (2 ^ 128) ≡ t → is_some {T = ℕ × ℕ} (if t then Some (x.0 + y.0, x.1 + y.1) else None) ≡ true → (k : ℕ) × (if_fits (m + n) ≡ Some k)
    fits x y p q true e h = (m + n, rw (lt-ltb (m + n) (2 ^ 128) (omega (arith, p, q, ltb-true (x.1 + y.1) (2 ^ 128) e))) refl)
    fits x y p q false e h = cc

    spans : (a b : Span) → Between m a → Between n b → is_some (arith_span Add a b c) ≡ true → (k : ℕ) × (if_fits (m + n) ≡ Some k)
    spans None b ha hb h = cc
    spans (Some x) None ha hb h = cc
    spans (Some x) (Some y) ha hb h = fits x y (ha x refl).1 (hb y refl).1 (nat_lt (x.1 + y.1) (2 ^ 128)) refl h
arith-defined Mul a b c m n f ha hb hc = spans a b ha hb f
  where
    fits : (x y : ℕ × ℕ) → m ≤ x.1 → n ≤ y.1 → (t : Bool) → nat_lt (x.1 * y.1) (2 ^ 128) ≡ t → is_some {T = ℕ × ℕ} (if t then Some (x.0 * y.0, x.1 * y.1) else None) ≡ true → (k : ℕ) × (if_fits (m * n) ≡ Some k)
    fits x y p q true e h = (m * n, rw (lt-ltb (m * n) (2 ^ 128) (omega (arith, mul-le m n x.1 y.1 p q, ltb-true (x.1 * y.1) (2 ^ 128) e))) refl)
    fits x y p q false e h = cc

    spans : (a b : Span) → Between m a → Between n b → is_some (arith_span Mul a b c) ≡ true → (k : ℕ) × (if_fits (m * n) ≡ Some k)
    spans None b ha hb h = cc
    spans (Some x) None ha hb h = cc
    spans (Some x) (Some y) ha hb h = fits x y (ha x refl).1 (hb y refl).1 (nat_lt (x.1 * y.1) (2 ^ 128)) refl h
arith-defined Monus a b c m n f ha hb hc = (m - n, refl)
arith-defined Quotient a b None m n f ha hb hc = cc
arith-defined Quotient a b (Some zero) m n f ha hb hc = cc
arith-defined Quotient a b (Some (suc j)) m n f ha hb hc = let z : suc j ≡ n = hc (suc j) refl in subst (λ d. (k : ℕ) × (arith_by Quotient m d ≡ Some k)) z (m / suc j, rw (not-zero j) refl)
arith-defined Remainder a b None m n f ha hb hc = cc
arith-defined Remainder a b (Some zero) m n f ha hb hc = cc
arith-defined Remainder a b (Some (suc j)) m n f ha hb hc = let z : suc j ≡ n = hc (suc j) refl in subst (λ d. (k : ℕ) × (arith_by Remainder m d ≡ Some k)) z (m % suc j, rw (not-zero j) refl)

-- an arithmetic node whose sides are worth numbers
sides-defined : (V : Outcomes) (vals : List Datum) (c : Context) → FactsHold V c vals → (op : ArithOp) (a b : Term) (m n : ℕ) → cden V vals a ≡ Some (datum.natural m) → cden V vals b ≡ Some (datum.natural n) →
    arith_firm op (span c (node (Form.strict (Strict.arith op)) (part 0 a (part 0 b none)))) (number_of b) ≡ true → Valued (cden V vals (node (Form.strict (Strict.arith op)) (part 0 a (part 0 b none))))
sides-defined V vals c h op a b m n x y f =
    let k = arith-defined op (span c a) (span c b) (number_of b) m n f
    (λ s e. number-is m s (span-sound V vals c h a s (datum.natural m) e x)) (λ s e. number-is n s (span-sound V vals c h b s (datum.natural n) e y))
    (λ j e. same_Some j n (ap as_natural' (sym (numeral-value V vals b j (datum.natural n) e y)))) in
    rw (x, y) (rw k.1 (_, refl))
  where
    as_natural' : Datum → Option ℕ
    as_natural' v = as_natural v

-- the two parts of an arithmetic node
two-parts : (G : ℕ → Ty → Type 0) (env : List Ty) (ps : Parts) (args : List Arg) → args ≡ arg [] natural ∷ arg [] natural ∷ [] → parts_typed G env ps args →
    (a : Term) × (b : Term) × (ps ≡ part 0 a (part 0 b none)) × ctyped G env a natural × ctyped G env b natural
two-parts G env ps args e t = first ps (subst (parts_typed G env ps) e t)
  where
    last : (ps : Parts) → parts_typed G env ps [] → ps ≡ none
    last none h = refl
    last (part k u ps) h = cc

    typed-as : (k : ℕ) (u : Term) (x : Arg) → arg [] natural ≡ x → length x.own ≡ k → ctyped G (x.own ++ env) u x.has → (k ≡ 0) × ctyped G env u natural
    typed-as k u x z l h = (sym l ∙ ap (λ y. length y.own) (sym z), subst (λ y. ctyped G (y.own ++ env) u y.has) (sym z) h)

    second : (ps : Parts) → parts_typed G env ps (arg [] natural ∷ []) → (b : Term) × (ps ≡ part 0 b none) × ctyped G env b natural
    second none h = cc
    second (part k u ps) h =
        let y : arg [] natural ≡ h.0 = cc in
        let z : [] ≡ h.1 = cc in
        let r = typed-as k u h.0 y h.3 h.4 in
        (u, ap (λ n. part n u ps) r.0 ∙ ap (part 0 u) (last ps (subst (parts_typed G env ps) (sym z) h.5)), r.1)

    first : (ps : Parts) → parts_typed G env ps (arg [] natural ∷ arg [] natural ∷ []) → (a : Term) × (b : Term) × (ps ≡ part 0 a (part 0 b none)) × ctyped G env a natural × ctyped G env b natural
    first none h = cc
    first (part k u ps) h =
        let y : arg [] natural ≡ h.0 = cc in
        let z : arg [] natural ∷ [] ≡ h.1 = cc in
        let r = typed-as k u h.0 y h.3 h.4 in
        let q = second ps (subst (parts_typed G env ps) (sym z) h.5) in
        (u, q.0, ap (λ n. part n u ps) r.0 ∙ ap (part 0 u) q.1, r.1, q.2)

-- whether part i of those from number j on is firm
abbrev pub firm_part : (ℕ → Bool) → Context → Term → (j : ℕ) → Parts → (i : ℕ) → Bool
firm_part D c t j none i = false
firm_part D c t j (part k u ps) zero = firm D (enter_facts c t j) u
firm_part D c t j (part k u ps) (suc i) = firm_part D c t (suc j) ps i

-- where all parts from j on are firm, each is; where some part is, there is one
each-firm : (D : ℕ → Bool) (c : Context) (t : Term) (j : ℕ) (ps : Parts) (i : ℕ) → all_firm D c t j ps ≡ true → i < count ps → firm_part D c t j ps i ≡ true
each-firm D c t j none i h l = absurd (omega (arith, l))
each-firm D c t j (part k u ps) zero h l = (and_parts (firm D (enter_facts c t j) u) (all_firm D c t (suc j) ps) h).0
each-firm D c t j (part k u ps) (suc i) h l = each-firm D c t (suc j) ps i (and_parts (firm D (enter_facts c t j) u) (all_firm D c t (suc j) ps) h).1 (omega (arith, l))

one-firm : (D : ℕ → Bool) (c : Context) (t : Term) (j : ℕ) (ps : Parts) → some_firm D c t j ps ≡ true → (i : ℕ) × (i < count ps) × (firm_part D c t j ps i ≡ true)
one-firm D c t j none h = cc
one-firm D c t j (part k u ps) h = at (λ q. one-firm D c t (suc j) ps q) (firm D (enter_facts c t j) u) refl h
  where
    at : (some_firm D c t (suc j) ps ≡ true → (i : ℕ) × (i < count ps) × (firm_part D c t (suc j) ps i ≡ true)) → (b : Bool) → firm D (enter_facts c t j) u ≡ b → (b || some_firm D c t (suc j) ps) ≡ true → (i : ℕ) × (i < suc (count ps)) × (firm_part D c t j (part k u ps) i ≡ true)
    at later true e q = (0, omega arith, e)
    at later false e q = let r = later q in (suc r.0, omega (arith, r.1), r.2)

-- each part has an argument
arg-there : (args : List Arg) (ps : List Part) (i : ℕ) → AllSound args ps → i < length ps → (a : Arg) × (slice_get args i ≡ Some a)
arg-there [] [] i h l = absurd (omega (arith, l))
arg-there [] (p ∷ ps) i h l = absurd h
arg-there (a ∷ args) [] i h l = absurd h
arg-there (a ∷ args) (p ∷ ps) zero h l = (a, refl)
arg-there (a ∷ args) (p ∷ ps) (suc i) h l = arg-there args ps i h.1 (omega (arith, l))

-- below the number of parts there is one
pub part-there : (ps : Parts) (i : ℕ) → i < count ps → (u : Term) × (child_of ps i ≡ Some u)
part-there none i l = absurd (omega (arith, l))
part-there (part k u ps) zero l = (u, refl)
part-there (part k u ps) (suc i) l = part-there ps i (omega (arith, l))

-- arithmetic, and the operations that are firm where they are sure
firm-cases : (X : Strict → Type 0) → ((op : ArithOp) → X (Strict.arith op)) → ((s : Strict) → ((o : Span) (ps : Parts) → strict_firm s o ps ≡ strict_sure s) → X s) → (s : Strict) → X s
firm-cases X f g (Strict.arith op) = f op
firm-cases X f g s = g s (λ o ps. refl)

-- a default is worth its first part, and else its second
default-valued : (ps : List Part) (i : ℕ) → i < 2 → Every (λ new. Valued (worth ps i new)) (entry_values Form.default ps i) → Valued (form_value [] [] Form.default ps)
default-valued ps zero l h = let v = h.0 in rw v.1 (_, refl)
default-valued ps (suc zero) l h = at (worth ps 0 []) h
  where
    at : (o : Option Datum) → Every (λ new. Valued (worth ps 1 new)) (otherwise o) → Valued (or_else o (worth ps 1 []))
    at None k = k.0
    at (Some v) k = (v, refl)
default-valued ps (suc (suc i)) l h = absurd (omega (arith, l))

-- the types and the facts with which a part is entered
pub ways-in : (G : ℕ → Ty → Type 0) (V : Outcomes) → OutcomesHave G V → (c : Context) (f : Form) (ps : Parts) (env : List Ty) (vals : List Datum) (T : Ty) (args : List Arg) → HaveTypes env vals → FactsHold V c vals → WellFormed (node f ps) →
    form_rule G env f args T → parts_typed G env ps args → (i : ℕ) → i < count ps → (a : Arg) × (slice_get args i ≡ Some a) × Every (λ new. HaveTypes a.own new × FactsHold V (enter_facts c (node f ps) i) (new ++ vals)) (entry_values f (part_values V vals ps) i)
ways-in G V g c f ps env vals T args h st wf r t i l =
    let s = parts-sound G V g ps env vals args h t in
    let a = arg-there args (part_values V vals ps) i s (omega (arith, l, length-part_values V vals ps)) in
    let u = part-there ps i l in (
      a.0,
      a.1,
      Every-join (HaveTypes a.0.own) (λ new. FactsHold V (enter_facts c (node f ps) i) (new ++ vals)) _ (λ new p q. (p, q)) (entry_values f (part_values V vals ps) i)
          (entered-own G env f args T (part_values V vals ps) i a.0 r s a.1) (stands-enter V c vals (node f ps) i u.0 wf u.1 st),
    )

-- each firm part has a value at each list of values with which an evaluation of the node comes to it
abbrev pub FirmParts : (ℕ → Bool) → Outcomes → Context → List Datum → Form → Parts → Type 0
FirmParts D V c vals f ps = (i : ℕ) → i < count ps → firm_part D c (node f ps) 0 ps i ≡ true → Every (λ new. Valued (worth (part_values V vals ps) i new)) (entry_values f (part_values V vals ps) i)

-- a firm node that wants all its parts
all-defined : (G : ℕ → Ty → Type 0) (V : Outcomes) (D : ℕ → Bool) → OutcomesHave G V → PositionsAre D V → (f : Form) (ps : Parts) (c : Context) (env : List Ty) (vals : List Datum) (T : Ty) (args : List Arg) → HaveTypes env vals →
    form_rule G env f args T → parts_typed G env ps args → FirmParts D V c vals f ps → wants_all f ≡ true → form_sure D f ≡ true → all_firm D c (node f ps) 0 ps ≡ true → Valued (cden V vals (node f ps))
all-defined G V D g d f ps c env vals T args h r t k w e a =
    form-defined G V D env vals d h f args T (part_values V vals ps) e w r (parts-sound G V g ps env vals args h t)
    (λ i l. let m : i < count ps = omega (arith, l, length-part_values V vals ps) in k i m (each-firm D c (node f ps) 0 ps i a m))

-- a firm arithmetic node
arith-node : (G : ℕ → Ty → Type 0) (V : Outcomes) (D : ℕ → Bool) → OutcomesHave G V → (op : ArithOp) (ps : Parts) (c : Context) (env : List Ty) (vals : List Datum) (T : Ty) (args : List Arg) → HaveTypes env vals → FactsHold V c vals →
    form_rule G env (Form.strict (Strict.arith op)) args T → parts_typed G env ps args → FirmParts D V c vals (Form.strict (Strict.arith op)) ps →
    arith_firm op (span c (node (Form.strict (Strict.arith op)) ps)) (second_number ps) ≡ true → all_firm D c (node (Form.strict (Strict.arith op)) ps) 0 ps ≡ true → Valued (cden V vals (node (Form.strict (Strict.arith op)) ps))
arith-node G V D g op ps c env vals T args h st r t k e a =
    let q = two-parts G env ps args (r.1 ∙ ap (map (arg [])) r.2.0) t in
    sides q.0 q.1 ps q.2 q.3 q.4 k e a
  where
    sides : (x y : Term) (ps : Parts) → ps ≡ part 0 x (part 0 y none) → ctyped G env x natural → ctyped G env y natural → FirmParts D V c vals (Form.strict (Strict.arith op)) ps →
        arith_firm op (span c (node (Form.strict (Strict.arith op)) ps)) (second_number ps) ≡ true → all_firm D c (node (Form.strict (Strict.arith op)) ps) 0 ps ≡ true → Valued (cden V vals (node (Form.strict (Strict.arith op)) ps))
    sides x y none z tx ty k e a = cc
    sides x y (part w u none) z tx ty k e a = cc
    sides x y (part w u (part n v (part m q ps))) z tx ty k e a = cc
    sides x y (part w u (part n v none)) z tx ty k e a = go w n z k e a
      where
        go : (w n : ℕ) → part w u (part n v none) ≡ part 0 x (part 0 y none) → FirmParts D V c vals (Form.strict (Strict.arith op)) (part w u (part n v none)) →
            arith_firm op (span c (node (Form.strict (Strict.arith op)) (part w u (part n v none)))) (number_of v) ≡ true →
            all_firm D c (node (Form.strict (Strict.arith op)) (part w u (part n v none))) 0 (part w u (part n v none)) ≡ true → Valued (cden V vals (node (Form.strict (Strict.arith op)) (part w u (part n v none))))
        go (suc w) n z k e a = cc
        go zero (suc n) z k e a = cc
        go zero zero z k e a =
            let i : u ≡ x = cc in let j : v ≡ y = cc in
            let f : (i : ℕ) → i < 2 → firm_part D c (node (Form.strict (Strict.arith op)) (part 0 u (part 0 v none))) 0 (part 0 u (part 0 v none)) i ≡ true =
            λ i l. each-firm D c (node (Form.strict (Strict.arith op)) (part 0 u (part 0 v none))) 0 (part 0 u (part 0 v none)) i a l in
            let p = (k 0 (omega arith) (f 0 (omega arith))).0 in
            let q = (k 1 (omega arith) (f 1 (omega arith))).0 in
            let m = sound G V g u env vals natural p.0 h (subst (λ t. ctyped G env t natural) (sym i) tx) p.1 in
            let l = sound G V g v env vals natural q.0 h (subst (λ t. ctyped G env t natural) (sym j) ty) q.1 in
            sides-defined V vals c st op u v m.0 l.0 (p.1 ∙ ap Some m.1) (q.1 ∙ ap Some l.1) e

-- a firm node whose firm parts have values
node-defined : (G : ℕ → Ty → Type 0) (V : Outcomes) (D : ℕ → Bool) → OutcomesHave G V → PositionsAre D V → (f : Form) (ps : Parts) (c : Context) (env : List Ty) (vals : List Datum) (T : Ty) (args : List Arg) → HaveTypes env vals → FactsHold V c vals →
    form_rule G env f args T → parts_typed G env ps args → FirmParts D V c vals f ps → firm D c (node f ps) ≡ true → Valued (cden V vals (node f ps))
node-defined G V D g d (Form.var i) ps c env vals T args h st r t k e = all-defined G V D g d (Form.var i) ps c env vals T args h r t k refl refl e
node-defined G V D g d (Form.global n) ps c env vals T args h st r t k e =
    let b = and_parts (D n) (all_firm D c (node (Form.global n) ps) 0 ps) e in all-defined G V D g d (Form.global n) ps c env vals T args h r t k refl b.0 b.1
node-defined G V D g d Form.bind ps c env vals T args h st r t k e = all-defined G V D g d Form.bind ps c env vals T args h r t k refl refl e
node-defined G V D g d Form.choose ps c env vals T args h st r t k e = all-defined G V D g d Form.choose ps c env vals T args h r t k refl refl e
node-defined G V D g d Form.default ps c env vals T args h st r t k e =
    let q = one-firm D c (node Form.default ps) 0 ps e in
    let n : 2 ≡ length (part_values V vals ps) = sound-length (arg [] T ∷ arg [] T ∷ []) (part_values V vals ps) (sounds args (arg [] T ∷ arg [] T ∷ []) (part_values V vals ps) r (parts-sound G V g ps env vals args h t)) in
    default-valued (part_values V vals ps) q.0 (omega (arith, q.1, n, length-part_values V vals ps)) (k q.0 q.1 q.2)
node-defined G V D g d Form.big_union ps c env vals T args h st r t k e = all-defined G V D g d Form.big_union ps c env vals T args h r t k refl refl e
node-defined G V D g d Form.sum ps c env vals T args h st r t k e = cc
node-defined G V D g d (Form.tab rank) ps c env vals T args h st r t k e = all-defined G V D g d (Form.tab rank) ps c env vals T args h r t k refl refl e
node-defined G V D g d (Form.strict s) ps c env vals T args h st r t k e =
    firm-cases (λ s. form_rule G env (Form.strict s) args T → FirmParts D V c vals (Form.strict s) ps → firm D c (node (Form.strict s) ps) ≡ true → Valued (cden V vals (node (Form.strict s) ps)))
    (λ op r k e. let b = and_parts (arith_firm op (span c (node (Form.strict (Strict.arith op)) ps)) (second_number ps)) (all_firm D c (node (Form.strict (Strict.arith op)) ps) 0 ps) e in arith-node G V D g op ps c env vals T args h st r t k b.0 b.1)
    (λ s same r k e. let b = and_parts (strict_firm s (span c (node (Form.strict s) ps)) ps) (all_firm D c (node (Form.strict s) ps) 0 ps) e in
    all-defined G V D g d (Form.strict s) ps c env vals T args h r t k refl (sym (same (span c (node (Form.strict s) ps)) ps) ∙ b.0) b.1)
    s r k e

mutual
  -- a firm typed term has a value
  pub firm-defined : (G : ℕ → Ty → Type 0) (V : Outcomes) (D : ℕ → Bool) → OutcomesHave G V → PositionsAre D V → (t : Term) (c : Context) (env : List Ty) (vals : List Datum) (T : Ty) →
      HaveTypes env vals → FactsHold V c vals → ctyped G env t T → firm D c t ≡ true → Valued (cden V vals t)
  firm-defined G V D g d (node f ps) c env vals T h st ty e =
      node-defined G V D g d f ps c env vals T ty.1 h st ty.2 ty.3
      (λ i l p. let w = ways-in G V g c f ps env vals T ty.1 h st (well_formed-typed G env (node f ps) T ty) ty.2 ty.3 i l in
      Every-impl _ _ (λ new q. parts-defined G V D g d (node f ps) c ps 0 env vals ty.1 h ty.3 i i w.0 (omega arith) p w.1 new q.0 q.1) (entry_values f (part_values V vals ps) i) w.2)
      e

  parts-defined : (G : ℕ → Ty → Type 0) (V : Outcomes) (D : ℕ → Bool) → OutcomesHave G V → PositionsAre D V → (t : Term) (c : Context) (ps : Parts) (j : ℕ) (env : List Ty) (vals : List Datum) (args : List Arg) → HaveTypes env vals → parts_typed G env ps args →
      (i n : ℕ) (a : Arg) → n ≡ j + i → firm_part D c t j ps i ≡ true → slice_get args i ≡ Some a → (new : List Datum) → HaveTypes a.own new → FactsHold V (enter_facts c t n) (new ++ vals) → Valued (worth (part_values V vals ps) i new)
  parts-defined G V D g d t c none j env vals args h ty i n a q p e new m k = cc
  parts-defined G V D g d t c (part w u ps) j env vals args h ty zero n a q p e new m k =
      let z : ty.0 ≡ a = same_Some ty.0 a (ap (λ x. slice_get x 0) (sym ty.2) ∙ e) in
      let m' : HaveTypes ty.0.own new = subst (λ x. HaveTypes x.own new) (sym z) m in
      let y : n ≡ j = omega (arith, q) in
      let v = firm-defined G V D g d u (enter_facts c t j) (ty.0.own ++ env) (new ++ vals) ty.0.has (has-append ty.0.own env new vals m' h) (subst (λ x. FactsHold V (enter_facts c t x) (new ++ vals)) y k) ty.4 p in
      subst (λ b. Valued (if b then cden V (new ++ vals) u else None)) (sym (eq-eqb (length new) w (has-length ty.0.own new m' ∙ ty.3))) v
  parts-defined G V D g d t c (part w u ps) j env vals args h ty (suc i) n a q p e new m k =
      parts-defined G V D g d t c ps (suc j) env vals ty.1 h ty.5 i n a (omega (arith, q)) p (ap (λ x. slice_get x (suc i)) (sym ty.2) ∙ e) new m k
