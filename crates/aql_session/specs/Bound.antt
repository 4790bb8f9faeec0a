-- What a session keeps: the positions that are bound, and what they are to the declarations after them.
use Rattle.std.specs.Prelude.{◌≡◌, ℕ, ◌+◌, ◌-◌, List, [], ◌∷◌, map, take, Option, option_map}
use Rattle.aql_value.specs.Datum.{Datum}
use Rattle.aql_names.specs.Named.{last_named}
use Rattle.aql_syntax.specs.Script.{Earlier}
use Rattle.aql_syntax.specs.Tree.{Name, Declaration, declared_name}
use Rattle.nrca_term.specs.Meaning.{Outcomes}

-- the positions in the order in which they were bound, each with its name and its outcome; None is no value
abbrev pub Bound : Type 0
Bound = List (Name × Option Datum)

-- the names of the positions
abbrev pub names : Bound → List Name
names bound = map (λ b. b.0) bound

-- the outcomes of the positions
abbrev pub outcomes : Bound → Outcomes
outcomes bound = map (λ b. b.1) bound

-- the last position, counted from 1, that bound the name
abbrev pub latest_of : Bound → Name → Option ℕ
latest_of bound x = option_map (λ i. i + 1) (last_named x (names bound))

-- the positions before position n are bound and no other, each under its declaration's name
abbrev pub AreBound : List Declaration → ℕ → Bound → Type 0
AreBound ds n bound = names bound ≡ map declared_name (take (n - 1) ds)

-- declarations with their outcomes put before others one after another
abbrev pub onto : List Declaration → Outcomes → Earlier → Earlier
onto [] V earlier = earlier
onto (d ∷ ds) [] earlier = earlier
onto (d ∷ ds) (o ∷ V) earlier = onto ds V ((d, o) ∷ earlier)

-- the first declarations with these outcomes, the latest first
abbrev pub earlier_of : List Declaration → Outcomes → Earlier
earlier_of ds V = onto ds V []
