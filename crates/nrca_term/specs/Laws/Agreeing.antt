-- A node has the same value where its parts are worth the same, at the values with which an evaluation comes to them.
use Rattle.std.proofs.Common.{◌≡◌, ℕ, zero, suc, ◌<◌, Bool, true, false, List, [], ◌∷◌, length, map, take, Option, Some, None, option_to_list, unwrap_or, refl, ap, ◌∙◌, arith, if◌then◌else◌}
use Rattle.std.proofs.lemmas.Bool.{lt-ltb, le-ltb}
use Rattle.aql_value.specs.Datum.{Datum}
use Rattle.aql_value.specs.Indices.{indices}
use Rattle.aql_value.specs.Lists.{Every}
use Rattle.aql_value.specs.Laws.Lists.{Every-map}
use Rattle.aql_value.specs.Operations.{as_natural, as_truth, as_set, union_all, sum_of, array_of, push_index}
use Rattle.aql_value.specs.Partial.{◌>>=◌, each, or_else}
use Rattle.aql_value.specs.Laws.Partial.{each-ext}
use Rattle.aql_value.specs.Strict.{strict_value}
use Rattle.nrca_term.specs.Term.{Form}
use Rattle.nrca_term.specs.Meaning.{Outcomes, Part, worth, here, form_value, let_value, if_value, default_value, test_value, members_value, loop_values, tab_value, bounds_value}
use Rattle.nrca_term.specs.Places.{branch, otherwise, indices_of, Agree}

-- what holds of each list in the ways in to a let's body
let-agree : (ps qs : List Part) → Agree Form.bind ps qs → let_value ps ≡ let_value qs
let-agree ps qs h = bound (worth ps 0 []) (h 1) ∙ ap (λ o. o >>= λ v. worth qs 1 (v ∷ [])) (h 0).0
  where
    bound : (o : Option Datum) → Every (λ new. worth ps 1 new ≡ worth qs 1 new) (map (λ v. v ∷ []) (option_to_list o)) →
        (o >>= λ v. worth ps 1 (v ∷ [])) ≡ (o >>= λ v. worth qs 1 (v ∷ []))
    bound None k = refl
    bound (Some v) k = k.0

if-agree : (ps qs : List Part) → Agree Form.choose ps qs → if_value ps ≡ if_value qs
if-agree ps qs h = taken (test_value ps) (h 1) (h 2) ∙ ap (λ o. o >>= as_truth >>= λ b. if b then worth qs 1 [] else worth qs 2 []) (h 0).0
  where
    taken : (o : Option Bool) → Every (λ new. worth ps 1 new ≡ worth qs 1 new) (branch true o) → Every (λ new. worth ps 2 new ≡ worth qs 2 new) (branch false o) →
        (o >>= λ b. if b then worth ps 1 [] else worth ps 2 []) ≡ (o >>= λ b. if b then worth qs 1 [] else worth qs 2 [])
    taken None k l = refl
    taken (Some true) k l = k.0
    taken (Some false) k l = l.0

default-agree : (ps qs : List Part) → Agree Form.default ps qs → default_value ps ≡ default_value qs
default-agree ps qs h = second (worth ps 0 []) (h 1) ∙ ap (λ o. or_else o (worth qs 1 [])) (h 0).0
  where
    second : (o : Option Datum) → Every (λ new. worth ps 1 new ≡ worth qs 1 new) (otherwise o) → or_else o (worth ps 1 []) ≡ or_else o (worth qs 1 [])
    second None k = k.0
    second (Some v) k = refl

-- what the bodies give, for a loop that enters its body at each member
loop-agree : (ps qs : List Part) → worth ps 0 [] ≡ worth qs 0 [] →
    Every (λ new. worth ps 1 new ≡ worth qs 1 new) (map (λ m. m ∷ []) (unwrap_or (members_value ps) [])) → loop_values ps ≡ loop_values qs
loop-agree ps qs e h = bodies (members_value ps) h ∙ ap (λ o. o >>= as_set >>= each (λ m. worth qs 1 (m ∷ []))) e
  where
    bodies : (o : Option (List Datum)) → Every (λ new. worth ps 1 new ≡ worth qs 1 new) (map (λ m. m ∷ []) (unwrap_or o [])) →
        (o >>= each (λ m. worth ps 1 (m ∷ []))) ≡ (o >>= each (λ m. worth qs 1 (m ∷ [])))
    bodies None k = refl
    bodies (Some ms) k = each-ext (λ m. worth ps 1 (m ∷ [])) (λ m. worth qs 1 (m ∷ [])) ms (Every-map (λ new. worth ps 1 new ≡ worth qs 1 new) (λ m. m ∷ []) ms k)

-- parts that bind nothing
pub each-here : (ps qs : List Part) → length ps ≡ length qs → ((i : ℕ) → i < length ps → worth ps i [] ≡ worth qs i []) → each here ps ≡ each here qs
each-here [] [] e h = refl
each-here [] (q ∷ qs) e h = absurd (omega arith)
each-here (p ∷ ps) [] e h = absurd (omega arith)
each-here (p ∷ ps) (q ∷ qs) e h = rw (h 0 (omega arith), each-here ps qs (omega arith) (λ i l. h (suc i) (omega arith))) refl

-- the first of them
pub each-here_take : (n : ℕ) (ps qs : List Part) → length ps ≡ length qs → ((i : ℕ) → i < n → worth ps i [] ≡ worth qs i []) → each here (take n ps) ≡ each here (take n qs)
each-here_take zero ps qs e h = refl
each-here_take (suc n) [] [] e h = refl
each-here_take (suc n) [] (q ∷ qs) e h = absurd (omega arith)
each-here_take (suc n) (p ∷ ps) [] e h = absurd (omega arith)
each-here_take (suc n) (p ∷ ps) (q ∷ qs) e h = rw (h 0 (omega arith), each-here_take n ps qs (omega arith) (λ i l. h (suc i) (omega arith))) refl

tab-agree : (rank : ℕ) (ps qs : List Part) → length ps ≡ length qs → Agree (Form.tab rank) ps qs → tab_value rank ps ≡ tab_value rank qs
tab-agree rank ps qs e h =
    bodies (bounds_value rank ps) (rw (le-ltb rank rank (omega arith)) at (h rank))
    ∙ ap (λ o. o >>= each as_natural >>= λ ds. each (λ at. worth qs rank (push_index at [])) (indices ds) >>= array_of ds) (each-here_take rank ps qs e (λ j l. (rw (lt-ltb j rank l) at (h j)).0))
  where
    bodies : (o : Option (List ℕ)) → Every (λ new. worth ps rank new ≡ worth qs rank new) (map (λ at. push_index at []) (indices_of o)) →
        (o >>= λ ds. each (λ at. worth ps rank (push_index at [])) (indices ds) >>= array_of ds) ≡ (o >>= λ ds. each (λ at. worth qs rank (push_index at [])) (indices ds) >>= array_of ds)
    bodies None k = refl
    bodies (Some ds) k =
        ap (λ o. o >>= array_of ds) (each-ext (λ at. worth ps rank (push_index at [])) (λ at. worth qs rank (push_index at [])) (indices ds) (Every-map (λ new. worth ps rank new ≡ worth qs rank new) (λ at. push_index at []) (indices ds) k))

-- the one lemma with a case for each form
pub form_value-agree : (V : Outcomes) (vals : List Datum) (f : Form) (ps qs : List Part) → length ps ≡ length qs → Agree f ps qs → form_value V vals f ps ≡ form_value V vals f qs
form_value-agree V vals (Form.var i) ps qs e h = refl
form_value-agree V vals (Form.global n) ps qs e h = refl
form_value-agree V vals Form.bind ps qs e h = let-agree ps qs h
form_value-agree V vals Form.choose ps qs e h = if-agree ps qs h
form_value-agree V vals Form.default ps qs e h = default-agree ps qs h
form_value-agree V vals Form.big_union ps qs e h = ap (λ o. o >>= union_all) (loop-agree ps qs (h 0).0 (h 1))
form_value-agree V vals Form.sum ps qs e h = ap (λ o. o >>= sum_of) (loop-agree ps qs (h 0).0 (h 1))
form_value-agree V vals (Form.tab rank) ps qs e h = tab-agree rank ps qs e h
form_value-agree V vals (Form.strict s) ps qs e h = ap (λ o. o >>= strict_value s) (each-here ps qs e (λ i l. (h i).0))
