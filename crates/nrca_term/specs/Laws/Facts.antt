-- The facts of a place hold at each list of values that comes there.
use Rattle.std.proofs.Common.{◌≡◌, ℕ, zero, suc, ◌+◌, ◌-◌, ◌<◌, ◌≤◌, Bool, true, false, nat_lt, List, [], ◌∷◌, ◌++◌, length, map, drop, take, Option, Some, None, unwrap_or, refl, sym, ap, subst, ◌∙◌, arith, inl, inr}
use Rattle.std.specs.List.{slice_get}
use Rattle.std.specs.Cmp.Lexicographic.{pointwise}
use Rattle.std.proofs.lemmas.Bool.{cases_Bool, and_parts, lt-ltb, ltb-true, ltb-false}
use Rattle.std.proofs.lemmas.Option.{same_Some}
use Rattle.aql_value.specs.declared.ops.CompareOp.TheVariants.{Less}
use Rattle.aql_value.specs.Datum.{Datum, natural, truth, data_of}
use Rattle.aql_value.specs.Laws.Datum.{list_of-data_of}
use Rattle.aql_value.specs.Datum as datum
use Rattle.aql_value.specs.Indices.{indices}
use Rattle.aql_value.specs.Laws.RowMajor.{indices_lengths, indices_below}
use Rattle.aql_value.specs.Lists.{Every, below}
use Rattle.aql_value.specs.Laws.Lists.{Every-all, Every-join, Every-onto, Every-below, slice_get-append_left}
use Rattle.aql_value.specs.Ops.{compare_by}
use Rattle.aql_value.specs.Operations.{as_natural, as_truth, as_set, push_index, gen_of}
use Rattle.aql_value.specs.Order.{datum_cmp}
use Rattle.aql_value.specs.Partial.{◌>>=◌, each}
use Rattle.aql_value.specs.Laws.Partial.{then-is, each-cons_is}
use Rattle.aql_value.specs.Strict.{Strict, strict_value}
use Rattle.nrca_term.specs.Term.{Term, Parts, node, none, part, Form, form_binders, count}
use Rattle.nrca_term.specs.Nodes.{variable, less_term}
use Rattle.nrca_term.specs.Meaning.{Outcomes, Part, here, test_value, members_value, bounds_value, at_length, cden, part_values}
use Rattle.nrca_term.specs.Places.{branch, indices_of, entry_values}
use Rattle.nrca_term.specs.Subst.{shift_term}
use Rattle.nrca_term.specs.Laws.Shifting.{cden-shifted}
use Rattle.nrca_term.specs.Laws.Entering.{length-walked, length-part_values, bounds-length}
use Rattle.nrca_term.specs.Laws.Sound.{at_length-value}
use Rattle.nrca_term.specs.Facts.{Known, domain, test, denied, truth_of, Fact, fact, comparison_fact, test_fact, member_fact, loop_fact, bound_facts, tab_facts, part_facts, Holds}
use Rattle.nrca_term.specs.Laws.Lets.{walked-past}

-- what the value of an operation's answer says of the value
pub natural-is : (v : Datum) (n : ℕ) → as_natural v ≡ Some n → v ≡ natural n
natural-is (natural m) n e = let z : m ≡ n = cc in ap natural z
natural-is (datum.truth b) n e = cc
natural-is (datum.text s) n e = cc
natural-is (datum.tuple vs) n e = cc
natural-is (datum.set vs) n e = cc
natural-is (datum.array ds vs) n e = cc

pub truth-is : (v : Datum) (b : Bool) → as_truth v ≡ Some b → v ≡ truth b
truth-is (natural m) b e = cc
truth-is (datum.truth c) b e = let z : c ≡ b = cc in ap truth z
truth-is (datum.text s) b e = cc
truth-is (datum.tuple vs) b e = cc
truth-is (datum.set vs) b e = cc
truth-is (datum.array ds vs) b e = cc

trivially : (xs : List (List Datum)) → Every (λ new. Unit {0}) xs
trivially xs = Every-all (λ new. Unit {0}) (λ x. tt) xs

-- a comparison of numbers by <
pub less-naturals : (i m : ℕ) → i < m → compare_by Less (datum_cmp (natural i) (natural m)) ≡ true
less-naturals i m l = rw (lt-ltb i m l) refl

-- the comparison of a variable with a bound that is shifted past the variables put in
below-bound : (V : Outcomes) (new around : List Datum) (left : ℕ) (e : Term) (i m : ℕ) → slice_get (new ++ around) left ≡ Some (natural i) → cden V around e ≡ Some (natural m) → i < m →
    cden V (new ++ around) (less_term (variable left) (shift_term 0 (length new) e)) ≡ Some (truth true)
below-bound V new around left e i m g h l = rw (g, cden-shifted V new around e ∙ h) (ap (λ b. Some (truth b)) (less-naturals i m l))

-- a fact that is made at its own depth
fact-here : (V : Outcomes) (vals : List Datum) (d : ℕ) (t : Term) (k : Known) → cden V vals t ≡ Some (truth (truth_of k)) → Holds V vals d (fact t k d)
fact-here V vals d t k e = let z : d - d ≡ 0 = omega arith in (omega arith, ap (λ n. cden V (drop n vals) t) z ∙ e)

-- the tests of an if
branch-holds : (P : List Datum → Type 0) (b : Bool) (o : Option Bool) → (o ≡ Some b → P []) → Every P (branch b o)
branch-holds P b None h = tt
branch-holds P true (Some true) h = (h refl, tt)
branch-holds P true (Some false) h = tt
branch-holds P false (Some true) h = tt
branch-holds P false (Some false) h = (h refl, tt)

compared-holds : (P : Fact → Type 0) (g : Form) (qs : Parts) (k : Known) (d : ℕ) → P (fact (node g qs) k d) → Every P (comparison_fact g qs k d)
compared-holds P (Form.strict (Strict.compare op)) qs k d h = (h, tt)
compared-holds P _ qs k d h = tt

test-holds : (V : Outcomes) (around : List Datum) (d : ℕ) (ps : Parts) (k : Known) → test_value (part_values V around ps) ≡ Some (truth_of k) → Every (Holds V around (d + 0)) (test_fact ps k d)
test-holds V around d none k e = tt
test-holds V around d (part n (node g qs) ps) k e =
    let a = then-is (at_length n (λ new. cden V (new ++ around) (node g qs)) []) as_truth (truth_of k) e in
    let z : d ≡ d + 0 = omega arith in
    compared-holds (Holds V around (d + 0)) g qs k d
    (subst (λ x. Holds V around x (fact (node g qs) k d)) z
    (fact-here V around d (node g qs) k (at_length-value n (λ new. cden V (new ++ around) (node g qs)) [] a.0 a.1 ∙ ap Some (truth-is a.0 (truth_of k) a.2))))

-- the members of a generated set
generated-holds : (X : Form → Parts → List Fact → Type 0) (d : ℕ) → ((g : Form) (qs : Parts) → X g qs []) →
    ((n : ℕ) (e : Term) → X (Form.strict Strict.gen) (part n e none) (fact (less_term (variable 0) (shift_term 0 1 e)) domain (d + 1) ∷ [])) → (g : Form) (qs : Parts) → X g qs (member_fact g qs d)
generated-holds X d h k (Form.strict Strict.gen) none = h (Form.strict Strict.gen) none
generated-holds X d h k (Form.strict Strict.gen) (part n e none) = k n e
generated-holds X d h k (Form.strict Strict.gen) (part n e (part m u qs)) = h (Form.strict Strict.gen) (part n e (part m u qs))
generated-holds X d h k g qs = h g qs

-- the value of a generated set
gen-value : (V : Outcomes) (around : List Datum) (n : ℕ) (e : Term) (w : Datum) → cden V around (node (Form.strict Strict.gen) (part n e none)) ≡ Some w →
    (k : ℕ) × (cden V around e ≡ Some (natural k)) × (w ≡ datum.set (data_of (map natural (below k))))
gen-value V around n e w q =
    let p : Part = at_length n (λ new. cden V (new ++ around) e) in
    let c = then-is (each here (p ∷ [])) (strict_value Strict.gen) w q in
    let d = each-cons_is here p [] c.0 c.1 in
    let z : d.1 ≡ [] = sym (same_Some _ _ d.3) in
    let y : c.0 ≡ d.0 ∷ [] = d.4 ∙ ap (λ l. d.0 ∷ l) z in
    let g : gen_of d.0 ≡ Some w = ap (strict_value Strict.gen) (sym y) ∙ c.2 in
    let m = then-is (as_natural d.0) (λ k. Some (datum.set (data_of (map natural (below k))))) w g in
    (m.0, at_length-value n (λ new. cden V (new ++ around) e) [] d.0 d.2 ∙ ap Some (natural-is d.0 m.0 m.1), sym (same_Some _ _ m.2))

loop-holds : (V : Outcomes) (around : List Datum) (d : ℕ) (ps : Parts) → Every (λ new. Every (Holds V (new ++ around) (d + 1)) (loop_fact ps d)) (map (λ m. m ∷ []) (unwrap_or (members_value (part_values V around ps)) []))
loop-holds V around d none = tt
loop-holds V around d (part m (node g qs) ps) =
    generated-holds (λ g qs fs. Every (λ new. Every (Holds V (new ++ around) (d + 1)) fs) (map (λ v. v ∷ []) (unwrap_or (at_length m (λ new. cden V (new ++ around) (node g qs)) [] >>= as_set) []))) d
    (λ g qs. trivially (map (λ v. v ∷ []) (unwrap_or (at_length m (λ new. cden V (new ++ around) (node g qs)) [] >>= as_set) [])))
    (λ n e. members n e (at_length m (λ new. cden V (new ++ around) (node (Form.strict Strict.gen) (part n e none))) [] >>= as_set) refl)
    g qs
  where
    members : (n : ℕ) (e : Term) (o : Option (List Datum)) → (at_length m (λ new. cden V (new ++ around) (node (Form.strict Strict.gen) (part n e none))) [] >>= as_set) ≡ o →
        Every (λ new. Every (Holds V (new ++ around) (d + 1)) (fact (less_term (variable 0) (shift_term 0 1 e)) domain (d + 1) ∷ [])) (map (λ v. v ∷ []) (unwrap_or o []))
    members n e None q = tt
    members n e (Some ms) q =
        let a = then-is (at_length m (λ new. cden V (new ++ around) (node (Form.strict Strict.gen) (part n e none))) []) as_set ms q in
        let b = gen-value V around n e a.0 (at_length-value m (λ new. cden V (new ++ around) (node (Form.strict Strict.gen) (part n e none))) [] a.0 a.1) in
        let z : map natural (below b.0) ≡ ms = same_Some _ _ (ap Some (sym (list_of-data_of (map natural (below b.0)))) ∙ ap as_set (sym b.2) ∙ a.2) in
        subst (λ l. Every (λ new. Every (Holds V (new ++ around) (d + 1)) (fact (less_term (variable 0) (shift_term 0 1 e)) domain (d + 1) ∷ [])) (map (λ v. v ∷ []) l)) z
        (Every-onto _ (λ v. v ∷ []) (map natural (below b.0)) (Every-onto _ natural (below b.0) (Every-below _ b.0 (λ j l. (fact-here V (natural j ∷ around) (d + 1) (less_term (variable 0) (shift_term 0 1 e)) domain (below-bound V (natural j ∷ []) around 0 e j b.0 refl b.1 l), tt)))))

-- the indices of a tabulation
pub walked-first : (i : ℕ) (at : List ℕ) (l around : List Datum) → slice_get (push_index (i ∷ at) l ++ around) (length at) ≡ Some (natural i)
walked-first i at l around =
    slice_get-append_left (push_index at (natural i ∷ l)) around (length at) (omega (arith, length-walked at (natural i ∷ l)))
    ∙ (let e : length at ≡ length at + 0 = omega arith in ap (slice_get (push_index at (natural i ∷ l))) e)
    ∙ walked-past at (natural i ∷ l) 0

bounds-hold : (V : Outcomes) (around : List Datum) (d rank : ℕ) (ps : Parts) (at ms : List ℕ) (l : List Datum) → length (push_index at l) ≡ rank →
    (each here (take (length at) (part_values V around ps)) >>= each as_natural) ≡ Some ms → pointwise nat_lt at ms ≡ true →
    Every (Holds V (push_index at l ++ around) (d + rank)) (bound_facts (length at) rank ps d)
bounds-hold V around d rank ps [] ms l n e b = tt
bounds-hold V around d rank none (i ∷ at) ms l n e b = tt
bounds-hold V around d rank (part k t ps) (i ∷ at) [] l n e b = cc
bounds-hold V around d rank (part k t ps) (i ∷ at) (m ∷ ms) l n e b =
    let p : Part = at_length k (λ new. cden V (new ++ around) t) in
    let c = then-is (each here (p ∷ take (length at) (part_values V around ps))) (each as_natural) (m ∷ ms) e in
    let f = each-cons_is here p (take (length at) (part_values V around ps)) c.0 c.1 in
    let g : each as_natural (f.0 ∷ f.1) ≡ Some (m ∷ ms) = ap (each as_natural) (sym f.4) ∙ c.2 in
    let h = each-cons_is as_natural f.0 f.1 (m ∷ ms) g in
    let y : m ≡ h.0 = cc in
    let x : ms ≡ h.1 = cc in
    let r = and_parts (nat_lt i m) (pointwise nat_lt at ms) b in
    let value : cden V around t ≡ Some (natural m) = at_length-value k (λ new. cden V (new ++ around) t) [] f.0 f.2 ∙ ap Some (natural-is f.0 h.0 h.2 ∙ ap natural (sym y)) in (
      subst (λ w. Holds V (push_index at (natural i ∷ l) ++ around) (d + rank) (fact (less_term (variable (length at)) (shift_term 0 w t)) domain (d + rank))) n
          (fact-here V (push_index at (natural i ∷ l) ++ around) (d + rank) (less_term (variable (length at)) (shift_term 0 (length (push_index at (natural i ∷ l))) t)) domain
          (below-bound V (push_index at (natural i ∷ l)) around (length at) t i m (walked-first i at l around) value (ltb-true i m r.0))),
      bounds-hold V around d rank ps at ms (natural i ∷ l) n (ap (λ o. o >>= each as_natural) f.3 ∙ h.3 ∙ ap Some (sym x)) r.1,
    )

tab-holds : (V : Outcomes) (around : List Datum) (d rank : ℕ) (ps : Parts) → rank ≤ length (part_values V around ps) → (o : Option (List ℕ)) → bounds_value rank (part_values V around ps) ≡ o →
    Every (λ new. Every (Holds V (new ++ around) (d + rank)) (bound_facts rank rank ps d)) (map (λ at. push_index at []) (indices_of o))
tab-holds V around d rank ps m None e = tt
tab-holds V around d rank ps m (Some ms) e =
    let n : length ms ≡ rank = bounds-length rank (part_values V around ps) ms m e in
    Every-onto _ (λ at. push_index at []) (indices ms)
    (Every-join (λ at. length at ≡ length ms) (λ at. pointwise nat_lt at ms ≡ true) (λ at. Every (Holds V (push_index at [] ++ around) (d + rank)) (bound_facts rank rank ps d))
    (λ at k b. let q : length at ≡ rank = k ∙ n in
    subst (λ w. Every (Holds V (push_index at [] ++ around) (d + rank)) (bound_facts w rank ps d)) q
    (bounds-hold V around d rank ps at ms [] (omega (arith, length-walked at [], q)) (ap (λ w. each here (take w (part_values V around ps)) >>= each as_natural) q ∙ e) b))
    (indices ms) (indices_lengths ms) (indices_below ms))

-- what a node adds holds in its parts
pub new-holds : (V : Outcomes) (around : List Datum) (d : ℕ) (f : Form) (ps : Parts) (i : ℕ) → i < count ps →
    Every (λ new. Every (Holds V (new ++ around) (d + form_binders f i)) (part_facts d f ps i)) (entry_values f (part_values V around ps) i)
new-holds V around d Form.choose ps zero l = trivially (entry_values Form.choose (part_values V around ps) zero)
new-holds V around d Form.choose ps (suc zero) l = branch-holds (λ new. Every (Holds V (new ++ around) (d + 0)) (test_fact ps test d)) true (test_value (part_values V around ps)) (λ e. test-holds V around d ps test e)
new-holds V around d Form.choose ps (suc (suc zero)) l = branch-holds (λ new. Every (Holds V (new ++ around) (d + 0)) (test_fact ps denied d)) false (test_value (part_values V around ps)) (λ e. test-holds V around d ps denied e)
new-holds V around d Form.choose ps (suc (suc (suc i))) l = trivially (entry_values Form.choose (part_values V around ps) (suc (suc (suc i))))
new-holds V around d Form.big_union ps zero l = trivially (entry_values Form.big_union (part_values V around ps) zero)
new-holds V around d Form.big_union ps (suc zero) l = loop-holds V around d ps
new-holds V around d Form.big_union ps (suc (suc i)) l = trivially (entry_values Form.big_union (part_values V around ps) (suc (suc i)))
new-holds V around d Form.sum ps zero l = trivially (entry_values Form.sum (part_values V around ps) zero)
new-holds V around d Form.sum ps (suc zero) l = loop-holds V around d ps
new-holds V around d Form.sum ps (suc (suc i)) l = trivially (entry_values Form.sum (part_values V around ps) (suc (suc i)))
new-holds V around d (Form.tab rank) ps i l =
    elim (cases_Bool (nat_lt i rank)) [
      | inl h ↦ rw h (inside (rank - i) (let x : 0 < rank - i = omega (arith, ltb-true i rank h) in x))
      | inr h ↦ rw h (let z : rank - i ≡ 0 = omega (arith, ltb-false i rank h) in
          subst (λ n. Every (λ new. Every (Holds V (new ++ around) (d + rank)) (tab_facts n rank ps d)) (map (λ at. push_index at []) (indices_of (bounds_value rank (part_values V around ps))))) (sym z)
          (tab-holds V around d rank ps (omega (arith, ltb-false i rank h, length-part_values V around ps, l)) (bounds_value rank (part_values V around ps)) refl))
    ]
  where
    inside : (n : ℕ) → 0 < n → Every (λ new. Every (Holds V (new ++ around) (d + 0)) (tab_facts n rank ps d)) ([] ∷ [])
    inside zero x = absurd (omega (arith, x))
    inside (suc n) x = (tt, tt)
new-holds V around d (Form.var n) ps i l = trivially (entry_values (Form.var n) (part_values V around ps) i)
new-holds V around d (Form.global n) ps i l = trivially (entry_values (Form.global n) (part_values V around ps) i)
new-holds V around d Form.bind ps i l = trivially (entry_values Form.bind (part_values V around ps) i)
new-holds V around d Form.default ps i l = trivially (entry_values Form.default (part_values V around ps) i)
new-holds V around d (Form.strict s) ps i l = trivially (entry_values (Form.strict s) (part_values V around ps) i)
