-- The values with which a part is entered are as many as the variables that its form binds there.
use Rattle.std.proofs.Common.{◌≡◌, ℕ, zero, suc, ◌+◌, ◌<◌, ◌≤◌, Bool, true, false, nat_lt, List, [], ◌∷◌, length, map, take, Option, Some, None, option_to_list, unwrap_or, refl, ap, arith, inl, inr}
use Rattle.std.proofs.lemmas.Bool.{cases_Bool, ltb-false}
use Rattle.std.proofs.lemmas.List.{length-take}
use Rattle.aql_value.specs.Datum.{Datum, natural}
use Rattle.aql_value.specs.Indices.{indices}
use Rattle.aql_value.specs.Lists.{Every}
use Rattle.aql_value.specs.Laws.Lists.{Every-all, Every-impl, Every-onto}
use Rattle.aql_value.specs.Operations.{as_natural, push_index}
use Rattle.aql_value.specs.Partial.{each}
use Rattle.aql_value.specs.Laws.Partial.{each-length, then-is}
use Rattle.aql_value.specs.Laws.RowMajor.{indices_lengths}
use Rattle.nrca_term.specs.Term.{Term, Parts, none, part, Form, child_of, count, form_binders}
use Rattle.nrca_term.specs.Meaning.{Outcomes, Part, worth, here, test_value, members_value, bounds_value, part_values}
use Rattle.nrca_term.specs.Places.{entry_values, branch, otherwise, indices_of}

pub length-walked : (at : List ℕ) (l : List Datum) → length (push_index at l) ≡ length at + length l
length-walked [] l = omega arith
length-walked (i ∷ at) l = omega (arith, length-walked at (natural i ∷ l))

one-each : {A : Type 0} (f : A → List Datum) (xs : List A) → ((x : A) → length (f x) ≡ 1) → Every (λ new. length new ≡ 1) (map f xs)
one-each f xs h = Every-onto (λ new. length new ≡ 1) f xs (Every-all _ h xs)

branch-lengths : (b : Bool) (o : Option Bool) → Every (λ new. length new ≡ 0) (branch b o)
branch-lengths b None = tt
branch-lengths true (Some true) = (refl, tt)
branch-lengths true (Some false) = tt
branch-lengths false (Some true) = tt
branch-lengths false (Some false) = (refl, tt)

otherwise-lengths : (o : Option Datum) → Every (λ new. length new ≡ 0) (otherwise o)
otherwise-lengths None = (refl, tt)
otherwise-lengths (Some v) = tt

-- bounds that have values are as many as the rank
pub bounds-length : (rank : ℕ) (ps : List Part) (ds : List ℕ) → rank ≤ length ps → bounds_value rank ps ≡ Some ds → length ds ≡ rank
bounds-length rank ps ds l e =
    let r = then-is (each here (take rank ps)) (each as_natural) ds e in
    omega (arith, each-length as_natural r.0 ds r.2, each-length here (take rank ps) r.0 r.1, length-take rank ps, l)

index-lengths : (rank : ℕ) (ps : List Part) → rank ≤ length ps → (o : Option (List ℕ)) → bounds_value rank ps ≡ o → Every (λ new. length new ≡ rank) (map (λ at. push_index at []) (indices_of o))
index-lengths rank ps l None e = tt
index-lengths rank ps l (Some ds) e =
    let n = bounds-length rank ps ds l e in
    Every-onto (λ new. length new ≡ rank) (λ at. push_index at []) (indices ds)
    (Every-impl (λ at. length at ≡ length ds) (λ at. length (push_index at []) ≡ rank) (λ at k. omega (arith, length-walked at [], k, n)) (indices ds) (indices_lengths ds))

pub entered-lengths : (f : Form) (ps : List Part) (i : ℕ) → i < length ps → Every (λ new. length new ≡ form_binders f i) (entry_values f ps i)
entered-lengths (Form.var n) ps i l = (refl, tt)
entered-lengths (Form.global n) ps i l = (refl, tt)
entered-lengths Form.bind ps zero l = (refl, tt)
entered-lengths Form.bind ps (suc i) l = one-each (λ v. v ∷ []) (option_to_list (worth ps 0 [])) (λ v. refl)
entered-lengths Form.choose ps zero l = (refl, tt)
entered-lengths Form.choose ps (suc zero) l = branch-lengths true (test_value ps)
entered-lengths Form.choose ps (suc (suc i)) l = branch-lengths false (test_value ps)
entered-lengths Form.default ps zero l = (refl, tt)
entered-lengths Form.default ps (suc i) l = otherwise-lengths (worth ps 0 [])
entered-lengths Form.big_union ps zero l = (refl, tt)
entered-lengths Form.big_union ps (suc i) l = one-each (λ v. v ∷ []) (unwrap_or (members_value ps) []) (λ v. refl)
entered-lengths Form.sum ps zero l = (refl, tt)
entered-lengths Form.sum ps (suc i) l = one-each (λ v. v ∷ []) (unwrap_or (members_value ps) []) (λ v. refl)
entered-lengths (Form.tab rank) ps i l =
    elim (cases_Bool (nat_lt i rank)) [
      | inl e ↦ rw e (refl, tt)
      | inr e ↦ rw e (index-lengths rank ps (omega (arith, l, ltb-false i rank e)) (bounds_value rank ps) refl)
    ]
entered-lengths (Form.strict s) ps i l = (refl, tt)

pub length-part_values : (V : Outcomes) (vals : List Datum) (ps : Parts) → length (part_values V vals ps) ≡ count ps
length-part_values V vals none = refl
length-part_values V vals (part k t ps) = ap suc (length-part_values V vals ps)

pub child-counted : (ps : Parts) (i : ℕ) (u : Term) → child_of ps i ≡ Some u → i < count ps
child-counted none i u e = cc
child-counted (part k t ps) zero u e = omega arith
child-counted (part k t ps) (suc i) u e = omega (arith, child-counted ps i u e)

-- below the number of parts there is a part
pub child-there : (ps : Parts) (i : ℕ) → i < count ps → None ≡ child_of ps i → ⊥
child-there none i l e = omega (arith, l)
child-there (part k t ps) zero l e = cc
child-there (part k t ps) (suc i) l e = child-there ps i (omega (arith, l)) e
