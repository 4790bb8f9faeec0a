-- The rule A1, a subscript of a tabulation: both sides have one value (`cden-beta`).
use Rattle.std.proofs.Common.{◌≡◌, ℕ, suc, ◌≤◌, Bool, true, false, ◌&&◌, cond, nat_lt, List, [], ◌∷◌, ◌++◌, length, map, Option, Some, None, refl, sym, ap, subst, ◌∙◌, arith, if◌then◌else◌}
use Rattle.std.specs.List.{slice_get}
use Rattle.std.specs.Cmp.Lexicographic.{pointwise}
use Rattle.aql_value.specs.declared.ops.CompareOp.TheVariants.{Less}
use Rattle.aql_value.specs.Datum as datum
use Rattle.aql_value.specs.Datum.{Datum, natural, truth, data_of, list_of}
use Rattle.aql_value.specs.Laws.Datum.{list_of-data_of}
use Rattle.aql_value.specs.Indices.{indices, product, cell}
use Rattle.aql_value.specs.Lists.{Every}
use Rattle.aql_value.specs.Operations.{as_natural, as_truth, push_index, array_of, cell_of}
use Rattle.aql_value.specs.Laws.Operations as operations
use Rattle.aql_value.specs.Laws.Operations.{array_of-made}
use Rattle.aql_value.specs.Partial.{◌>>=◌, each}
use Rattle.aql_value.specs.Laws.Partial.{then-ext, then-none, each-each, each-length, each-some, each-total}
use Rattle.aql_value.specs.Laws.RowMajor.{cell_made}
use Rattle.aql_value.specs.Strict.{Strict, strict_value, sub_value}
use Rattle.nrca_term.specs.Term.{Term}
use Rattle.nrca_term.specs.Nodes.{variable, tab_term, sub_term}
use Rattle.nrca_term.specs.Meaning.{Outcomes, cden}
use Rattle.nrca_term.specs.Subst.{shift_term}
use Rattle.nrca_term.specs.Laws.Shifting.{cden-shifted}
use Rattle.nrca_term.specs.Laws.Entering.{length-walked}
use Rattle.nrca_term.specs.Laws.Facts.{walked-first}
use Rattle.nrca_term.specs.Laws.Variants.{cden-strict, numbers_of, numbers_of-length, cden-tab}
use Rattle.nrca_term.specs.Rules.{lets, guard, beta, IsDefined}
use Rattle.nrca_rule_laws.specs.Laws.Operations.{full-cells}

-- each value of the term is a number
abbrev pub Numeric : Outcomes → List Datum → Term → Type 0
Numeric V vals t = (v : Datum) → cden V vals t ≡ Some v → (n : ℕ) × (v ≡ natural n)

-- the number that a term is worth
abbrev pub number_at : Outcomes → List Datum → Term → Option ℕ
number_at V vals t = cden V vals t >>= as_natural

-- the numbers of a list of terms, one after another
numbers-each : (V : Outcomes) (vals : List Datum) (ts : List Term) → numbers_of V vals ts ≡ each (number_at V vals) ts
numbers-each V vals ts = each-each (cden V vals) as_natural ts

-- a list of numbers grows
prepended : {B : Type 0} (F : List ℕ → Option B) (n : ℕ) (o : Option (List ℕ)) → ((o >>= λ ns. Some (n ∷ ns)) >>= F) ≡ (o >>= λ ns. F (n ∷ ns))
prepended F n None = refl
prepended F n (Some ns) = refl

-- the lets of terms that are numbers bind these numbers
cden-lets : (V : Outcomes) (vals : List Datum) (is : List Term) → Every (Numeric V vals) is → (new : List Datum) (body : Term) →
    cden V (new ++ vals) (lets (length new) is body) ≡ (each (number_at V vals) is >>= λ ns. cden V (push_index ns new ++ vals) body)
cden-lets V vals [] h new body = refl
cden-lets V vals (i ∷ is) h new body =
    ap (λ o. o >>= λ v. cden V (v ∷ (new ++ vals)) (lets (suc (length new)) is body)) (cden-shifted V new vals i)
    ∙ named (λ n. cden-lets V vals is h.1 (natural n ∷ new) body) (cden V vals i) h.0
  where
    named : ((n : ℕ) → cden V (natural n ∷ (new ++ vals)) (lets (suc (length new)) is body) ≡ (each (number_at V vals) is >>= λ ns. cden V (push_index ns (natural n ∷ new) ++ vals) body)) →
        (o : Option Datum) → ((v : Datum) → o ≡ Some v → (n : ℕ) × (v ≡ natural n)) →
        (o >>= λ v. cden V (v ∷ (new ++ vals)) (lets (suc (length new)) is body)) ≡ (((o >>= as_natural) >>= λ n. each (number_at V vals) is >>= λ ns. Some (n ∷ ns)) >>= λ ns. cden V (push_index ns new ++ vals) body)
    named ih None k = refl
    named ih (Some v) k =
        let m = k v refl in
        subst (λ w. cden V (w ∷ (new ++ vals)) (lets (suc (length new)) is body) ≡ ((as_natural w >>= λ n. each (number_at V vals) is >>= λ ns. Some (n ∷ ns)) >>= λ ns. cden V (push_index ns new ++ vals) body))
        (sym m.1)
        (ih m.0 ∙ sym (prepended (λ ns. cden V (push_index ns new ++ vals) body) m.0 (each (number_at V vals) is)))

-- the value behind tests that each number is below its bound
abbrev pub test_below : List (Option ℕ) → List ℕ → Option Datum → Option Datum
test_below [] ns r = r
test_below (o ∷ os) [] r = None
test_below (o ∷ os) (n ∷ ns) r = o >>= λ d. if nat_lt n d then test_below os ns r else None

-- one test
test-number : (n : ℕ) (o : Option Datum) → ((v : Datum) → o ≡ Some v → (m : ℕ) × (v ≡ natural m)) → (r : Option Datum) →
    ((((Some (natural n) >>= λ y. (o >>= λ z. Some (z ∷ [])) >>= λ ys. Some (y ∷ ys)) >>= strict_value (Strict.compare Less)) >>= as_truth) >>= λ t. if t then r else None)
    ≡ ((o >>= as_natural) >>= λ m. if nat_lt n m then r else None)
test-number n None h r = refl
test-number n (Some v) h r =
    let m = h v refl in
    subst (λ w. (((strict_value (Strict.compare Less) (natural n ∷ w ∷ [])) >>= as_truth) >>= λ t. if t then r else None) ≡ (as_natural w >>= λ m. if nat_lt n m then r else None)) (sym m.1)
    (ap (λ b. if b then r else None) (operations.less-naturals n m.0))

-- a guarded body is its body behind the tests
cden-guarded : (V : Outcomes) (vals : List Datum) (k : ℕ) (b : Term) (ds : List Term) (ns : List ℕ) (front : List Datum) → Every (Numeric V vals) ds → length ds ≡ length ns → length (push_index ns front) ≡ k →
    cden V (push_index ns front ++ vals) (guard k ds b) ≡ test_below (map (number_at V vals) ds) ns (cden V (push_index ns front ++ vals) b)
cden-guarded V vals k b [] ns front h e l = refl
cden-guarded V vals k b (d ∷ ds) [] front h e l = absurd (omega (arith, e))
cden-guarded V vals k b (d ∷ ds) (n ∷ ns) front h e l =
    let around : List Datum = push_index (n ∷ ns) front ++ vals in
    let len : length ds ≡ length ns = omega (arith, e) in
    let here : slice_get around (length ds) ≡ Some (natural n) = ap (slice_get around) len ∙ walked-first n ns front vals in
    let bound : cden V around (shift_term 0 k d) ≡ cden V vals d = ap (λ j. cden V around (shift_term 0 j d)) (sym l) ∙ cden-shifted V (push_index (n ∷ ns) front) vals d in
    ap (λ o. (o >>= as_truth) >>= λ t. if t then cden V around (guard k ds b) else None) (cden-strict V around (Strict.compare Less) (variable (length ds) ∷ shift_term 0 k d ∷ []))
    ∙ ap (λ o. (((o >>= λ y. (cden V around (shift_term 0 k d) >>= λ z. Some (z ∷ [])) >>= λ ys. Some (y ∷ ys)) >>= strict_value (Strict.compare Less)) >>= as_truth) >>= λ t. if t then cden V around (guard k ds b) else None) here
    ∙ ap (λ o. (((Some (natural n) >>= λ y. (o >>= λ z. Some (z ∷ [])) >>= λ ys. Some (y ∷ ys)) >>= strict_value (Strict.compare Less)) >>= as_truth) >>= λ t. if t then cden V around (guard k ds b) else None) bound
    ∙ test-number n (cden V vals d) h.0 (cden V around (guard k ds b))
    ∙ ap (λ r. number_at V vals d >>= λ m. if nat_lt n m then r else None) (cden-guarded V vals k b ds ns (natural n ∷ front) h.1 len l)

-- all tests together, where the bounds are numbers
tested-all : (ms ns : List ℕ) (r : Option Datum) → length ms ≡ length ns → test_below (map Some ms) ns r ≡ cond (pointwise nat_lt ns ms) r None
tested-all [] [] r e = refl
tested-all [] (n ∷ ns) r e = absurd (omega (arith, e))
tested-all (m ∷ ms) [] r e = absurd (omega (arith, e))
tested-all (m ∷ ms) (n ∷ ns) r e = ap (λ x. if nat_lt n m then x else None) (tested-all ms ns r (omega (arith, e))) ∙ inside (nat_lt n m) (pointwise nat_lt ns ms)
  where
    inside : (a b : Bool) → (if a then cond b r None else None) ≡ cond (a && b) r None
    inside true b = refl
    inside false b = refl

-- where a bound has no value
tested-none : {A : Type 0} (f : A → Option ℕ) (ds : List A) (ns : List ℕ) (r : Option Datum) → length ds ≡ length ns → each f ds ≡ None → test_below (map f ds) ns r ≡ None
tested-none f [] ns r e n = cc
tested-none f (d ∷ ds) [] r e n = refl
tested-none f (d ∷ ds) (m ∷ ns) r e n = by (f d) (each f ds) n (λ k. tested-none f ds ns r (omega (arith, e)) k)
  where
    neither : (b : Bool) → ◌≡◌ {A = Option Datum} (if b then None else None) None
    neither true = refl
    neither false = refl

    by : (o : Option ℕ) (q : Option (List ℕ)) → (o >>= λ y. q >>= λ ys. Some (y ∷ ys)) ≡ None → (q ≡ None → test_below (map f ds) ns r ≡ None) → (o >>= λ x. if nat_lt m x then test_below (map f ds) ns r else None) ≡ None
    by None q k h = refl
    by (Some x) None k h = ap (λ y. if nat_lt m x then y else None) (h refl) ∙ neither (nat_lt m x)
    by (Some x) (Some xs) k h = cc

-- the value of a subscript by the numbers of its indices
pub cden-sub : (V : Outcomes) (vals : List Datum) (a : Term) (is : List Term) → cden V vals (sub_term a is) ≡ (cden V vals a >>= λ v. numbers_of V vals is >>= cell_of v)
cden-sub V vals a is = cden-strict V vals Strict.sub (a ∷ is) ∙ by (cden V vals a) (each (cden V vals) is)
  where
    by : (o : Option Datum) (q : Option (List Datum)) → ((o >>= λ y. q >>= λ ys. Some (y ∷ ys)) >>= sub_value) ≡ (o >>= λ v. (q >>= each as_natural) >>= cell_of v)
    by None q = refl
    by (Some v) None = refl
    by (Some v) (Some vs) = refl

-- a subscript of a tabulation whose body is defined at each index below the bounds
pub cden-beta : (V : Outcomes) (vals : List Datum) (ds : List Term) (b : Term) (is : List Term) → length ds ≡ length is → 1 ≤ length ds → length ds ≤ 8 → Every (Numeric V vals) ds → Every (Numeric V vals) is →
    ((ms : List ℕ) → numbers_of V vals ds ≡ Some ms → Every (λ at. IsDefined V (push_index at [] ++ vals) b) (indices ms)) →
    cden V vals (sub_term (tab_term ds b) is) ≡ cden V vals (beta ds b is)
cden-beta V vals ds b is e some few hd hi total =
    cden-sub V vals (tab_term ds b) is
    ∙ ap (λ o. o >>= λ v. numbers_of V vals is >>= cell_of v) (cden-tab V vals ds b)
    ∙ ap (λ q. (numbers_of V vals ds >>= made) >>= λ v. q >>= cell_of v) (numbers-each V vals is)
    ∙ by_bounds (numbers_of V vals ds) refl
    ∙ sym (right (each (number_at V vals) is) refl)
    ∙ sym (cden-lets V vals is hi [] (guard (length ds) ds b))
  where
    body : List ℕ → Option Datum
    body at = cden V (push_index at [] ++ vals) b

    made : List ℕ → Option Datum
    made ms = each (λ at. cden V (push_index at [] ++ vals) b) (indices ms) >>= array_of ms

    right : (o : Option (List ℕ)) → each (number_at V vals) is ≡ o →
        (o >>= λ ns. cden V (push_index ns [] ++ vals) (guard (length ds) ds b)) ≡ (o >>= λ ns. test_below (map (number_at V vals) ds) ns (cden V (push_index ns [] ++ vals) b))
    right None k = refl
    right (Some ns) k = let l = each-length (number_at V vals) is ns k in cden-guarded V vals (length ds) b ds ns [] hd (omega (arith, e, l)) (omega (arith, length-walked ns [], e, l))

    by_bounds : (o : Option (List ℕ)) → numbers_of V vals ds ≡ o →
        ((o >>= λ ms. each (λ at. cden V (push_index at [] ++ vals) b) (indices ms) >>= array_of ms) >>= λ v. each (number_at V vals) is >>= cell_of v)
        ≡ (each (number_at V vals) is >>= λ ns. test_below (map (number_at V vals) ds) ns (cden V (push_index ns [] ++ vals) b))
    by_bounds None k =
        sym (then-none (each (number_at V vals) is) (λ ns. test_below (map (number_at V vals) ds) ns (cden V (push_index ns [] ++ vals) b))
        (λ ns l. tested-none (number_at V vals) ds ns (cden V (push_index ns [] ++ vals) b) (omega (arith, e, each-length (number_at V vals) is ns l)) (sym (numbers-each V vals ds) ∙ k)))
    by_bounds (Some ms) k =
        let cells = each-total (λ at. cden V (push_index at [] ++ vals) b) (indices ms) (total ms k) in
        let many = numbers_of-length V vals ds ms k in
        let full : product ms ≡ length cells.0 = full-cells (λ at. cden V (push_index at [] ++ vals) b) ms cells.0 cells.1 in
        ap (λ o. (o >>= array_of ms) >>= λ v. each (number_at V vals) is >>= cell_of v) cells.1
        ∙ ap (λ o. o >>= λ v. each (number_at V vals) is >>= cell_of v) (array_of-made ms cells.0 (omega (arith, many, some)) (omega (arith, many, few)) full)
        ∙ then-ext (each (number_at V vals) is) (cell_of (datum.array ms (data_of cells.0))) (λ ns. test_below (map (number_at V vals) ds) ns (cden V (push_index ns [] ++ vals) b))
        (λ ns l. ap (λ c. cell (record { dims = ms; cells = c }) ns) (list_of-data_of cells.0) ∙ cell_made (λ at. cden V (push_index at [] ++ vals) b) ms cells.0 ns cells.1
        ∙ sym (ap (λ os. test_below os ns (cden V (push_index ns [] ++ vals) b)) (each-some (number_at V vals) ds ms (sym (numbers-each V vals ds) ∙ k)) ∙ tested-all ms ns (cden V (push_index ns [] ++ vals) b) (omega (arith, many, e, each-length (number_at V vals) is ns l))))
