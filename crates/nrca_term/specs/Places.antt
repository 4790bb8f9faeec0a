-- The places of a term, the values with which an evaluation comes to them, and replacement at a place.
use Rattle.std.specs.Prelude.{◌≡◌, ℕ, zero, suc, Bool, true, false, nat_lt, List, [], ◌∷◌, ◌++◌, map, Option, Some, None, option_to_list, unwrap_or, if◌then◌else◌}
use Rattle.aql_value.specs.Datum.{Datum}
use Rattle.aql_value.specs.Indices.{indices}
use Rattle.aql_value.specs.Lists.{Every}
use Rattle.aql_value.specs.Operations.{push_index}
use Rattle.aql_value.specs.Partial.{◌>>=◌, concat}
use Rattle.nrca_term.specs.Term.{Term, Parts, node, none, part, Form, form_of, parts_of, child_of}
use Rattle.nrca_term.specs.Meaning.{Outcomes, Part, worth, test_value, members_value, bounds_value, part_values}

-- the one way into a branch, where the test has the branch's truth value
abbrev pub branch : Bool → Option Bool → List (List Datum)
branch b None = []
branch true (Some true) = [] ∷ []
branch true (Some false) = []
branch false (Some true) = []
branch false (Some false) = [] ∷ []

-- the one way into the second part of a default, where the first has no value
abbrev pub otherwise : Option Datum → List (List Datum)
otherwise None = [] ∷ []
otherwise (Some v) = []

-- the indices below the bounds, where these have values
abbrev pub indices_of : Option (List ℕ) → List (List ℕ)
indices_of None = []
indices_of (Some ds) = indices ds

-- the values of its own variables with which an evaluation of the node comes to part i
abbrev pub entry_values : Form → List Part → ℕ → List (List Datum)
entry_values (Form.var n) ps i = [] ∷ []
entry_values (Form.global n) ps i = [] ∷ []
entry_values Form.bind ps zero = [] ∷ []
entry_values Form.bind ps (suc i) = map (λ v. v ∷ []) (option_to_list (worth ps 0 []))
entry_values Form.choose ps zero = [] ∷ []
entry_values Form.choose ps (suc zero) = branch true (test_value ps)
entry_values Form.choose ps (suc (suc i)) = branch false (test_value ps)
entry_values Form.default ps zero = [] ∷ []
entry_values Form.default ps (suc i) = otherwise (worth ps 0 [])
entry_values Form.big_union ps zero = [] ∷ []
entry_values Form.big_union ps (suc i) = map (λ m. m ∷ []) (unwrap_or (members_value ps) [])
entry_values Form.sum ps zero = [] ∷ []
entry_values Form.sum ps (suc i) = map (λ m. m ∷ []) (unwrap_or (members_value ps) [])
entry_values (Form.tab rank) ps i = if nat_lt i rank then [] ∷ [] else map (λ at. push_index at []) (indices_of (bounds_value rank ps))
entry_values (Form.strict s) ps i = [] ∷ []

-- the same of a term, at values of the variables around it
abbrev pub entered_in : Outcomes → List Datum → Term → ℕ → List (List Datum)
entered_in V around t i = entry_values (form_of t) (part_values V around (parts_of t)) i

-- the part at a path: at each node the number of a part
abbrev pub place_of : Term → List ℕ → Option Term
place_of t [] = Some t
place_of t (i ∷ path) = child_of (parts_of t) i >>= λ u. place_of u path

-- what comes below a child that is there, and nothing where there is none
abbrev pub reach_each : Option Term → (Term → List (List Datum)) → List (List Datum)
reach_each None f = []
reach_each (Some u) f = f u

-- the lists of values with which an evaluation of the term comes to a place, from the values around the term
abbrev pub reach : Outcomes → List Datum → Term → List ℕ → List (List Datum)
reach V around t [] = around ∷ []
reach V around t (i ∷ path) =
    reach_each (child_of (parts_of t) i) (λ u. concat (map (λ new. reach V (new ++ around) u path) (entered_in V around t i)))

-- the parts with another one in the place of part i
abbrev pub on_child : Parts → ℕ → (Term → Term) → Parts
on_child none i f = none
on_child (part k t ps) zero f = part k (f t) ps
on_child (part k t ps) (suc i) f = part k t (on_child ps i f)

-- the term with another one at a path
abbrev pub put_at : Term → List ℕ → Term → Term
put_at t [] u = u
put_at t (i ∷ path) u = node (form_of t) (on_child (parts_of t) i (λ s. put_at s path u))

-- two lists of parts that agree wherever an evaluation of the node comes to a part
abbrev pub Agree : Form → List Part → List Part → Type 0
Agree f ps qs = (i : ℕ) → Every (λ new. worth ps i new ≡ worth qs i new) (entry_values f ps i)
