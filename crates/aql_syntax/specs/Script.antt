-- What the declarations of a script give one another, and their outcomes in order.
use Rattle.std.specs.Prelude.{List, [], ◌∷◌, Option, Some, None}
use Rattle.std.specs.Option.{option_map}
use Rattle.aql_value.specs.Datum.{Datum}
use Rattle.aql_syntax.specs.Tree.{Name, Reader, Declaration, val, mac, read, bare, it}
use Rattle.aql_syntax.specs.Matching.{Global, outcome, macro, Globals, on_match, match}
use Rattle.aql_syntax.specs.Denotation.{den}
use Rattle.aql_syntax.specs.Work.{work}

-- What a position gives, by its outcome and the positions before it. A macro's body sees these and its pattern's names alone.
abbrev pub entry : Declaration → Option Datum → Globals → Name × Global
entry (val x e) o earlier = (x, outcome o)
entry (mac f p body) o earlier = (
  f,
  macro
      (λ w. on_match (match p earlier w []) (den body earlier) None None)
      (λ w. on_match (match p earlier w []) (work body earlier) 0 0),
)
entry (read x reader e) o earlier = (x, outcome o)
entry (bare e) o earlier = (it, outcome o)

-- declarations with their outcomes, the latest first
abbrev pub Earlier : Type 0
Earlier = List (Declaration × Option Datum)

-- what they give to the declarations after them
abbrev pub globals_of : Earlier → Globals
globals_of [] = []
globals_of ((d, o) ∷ earlier) = entry d o (globals_of earlier) ∷ globals_of earlier

-- what a reader makes of its argument's value, over the files at hand; None is a fault
abbrev pub ReaderMeaning : Type 0
ReaderMeaning = Reader → Datum → Option Datum

-- a readval is undefined where its argument is
abbrev pub read_outcome : (Datum → Option Datum) → Option Datum → Option (Option Datum)
read_outcome f None = Some None
read_outcome f (Some v) = option_map (λ w. Some w) (f v)

-- the outcome of a declaration after others; None where a readval has a fault. A macro has no value.
abbrev pub outcome_after : ReaderMeaning → Declaration → Globals → Option (Option Datum)
outcome_after reading (val x e) globals = Some (den e globals [])
outcome_after reading (mac f p body) globals = Some None
outcome_after reading (read x reader e) globals = read_outcome (reading reader) (den e globals [])
outcome_after reading (bare e) globals = Some (den e globals [])

-- an outcome before those of the declarations after it; nothing after a fault
abbrev pub then_after : Option (Option Datum) → (Option Datum → List (Option Datum)) → List (Option Datum)
then_after None f = []
then_after (Some o) f = o ∷ f o

-- the outcomes of declarations after others, in order
abbrev pub outcomes_after : ReaderMeaning → Earlier → List Declaration → List (Option Datum)
outcomes_after reading earlier [] = []
outcomes_after reading earlier (d ∷ ds) =
    then_after (outcome_after reading d (globals_of earlier)) (λ o. outcomes_after reading ((d, o) ∷ earlier) ds)

-- the outcomes of a script in order, up to the first readval with a fault
abbrev pub values : ReaderMeaning → List Declaration → List (Option Datum)
values reading ds = outcomes_after reading [] ds
