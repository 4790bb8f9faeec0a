-- The lines that a declaration prints.
use Rattle.std.specs.Prelude.{ℕ, Bool, List, [], ◌∷◌, ◌++◌, Option, Some, None, option_map, codes, decimal, if◌then◌else◌}
use Rattle.std.specs.Borrow.{Bor}
use Rattle.std.specs.Global.{Box}
use Rattle.aql_value.specs.Datum.{Datum}
use Rattle.aql_value.specs.Meaning.{datum}
use Rattle.aql_ty.specs.View.{sort_of}
use Rattle.nrca_array.specs.Held.{held_datum}
use Rattle.nrca_array.specs.declared.held.Held.{Held}
use Rattle.nrca_encoded.specs.declared.ran.Graph.{Graph}
use Rattle.nrca_encoded.specs.declared.ran.GraphRan.{GraphRan}
use Rattle.nrca_encoded.specs.declared.ran.GraphRan.TheVariants as graph_ran
use Rattle.nrca_motion.specs.declared.still.Moved.{Moved}
use Rattle.nrca_term.specs.View.{term_of}
use Rattle.aql_print.specs.CoreText.{core_text}
use Rattle.aql_print.specs.MovesText.{moves_text}
use Rattle.aql_print.specs.TraceText.{trace_text}
use Rattle.aql_print.specs.TypeText.{scheme_text}
use Rattle.aql_print.specs.ValueText.{text}
use Rattle.aql_session.specs.declared.answer.Answer.{Answer}
use Rattle.aql_session.specs.declared.answer.Ran.{Ran}
use Rattle.aql_session.specs.declared.answer.Ran.TheVariants as ran

-- what is said of a name: a word before it, what stands between, and the end of the line
abbrev pub line : (word name between said : List ℕ) → List ℕ
line word name between said = word ++ (name ++ (between ++ (said ++ codes "\n")))

-- the text of an outcome
abbrev pub outcome_text : Option Datum → List ℕ
outcome_text None = codes "undefined"
outcome_text (Some v) = text v

-- the value that is lent, where there is one
abbrev pub lent_value : Option (Bor Held) → Option Datum
lent_value o = option_map (λ h. held_datum h.now) o

-- the type
abbrev pub type_line : Answer → List ℕ
type_line a = line (codes "typ ") a.name (codes " : ") (scheme_text (sort_of a.ty))

-- the value of a query or readval; of a macro its name alone
abbrev pub value_line : Ran → (name : List ℕ) → Option Datum → List ℕ
value_line ran.Declared name o = line (codes "mac ") name [] []
value_line ran.Plan name o = line (codes "val ") name (codes " = ") (outcome_text o)
value_line ran.Start name o = line (codes "val ") name (codes " = ") (outcome_text o)
value_line ran.Moved name o = line (codes "val ") name (codes " = ") (outcome_text o)
value_line ran.Read name o = line (codes "val ") name (codes " = ") (outcome_text o)

-- the plan
abbrev pub plan_line : Answer → List ℕ
plan_line a = line (codes "plan ") a.name (codes " = ") (core_text 0 (term_of a.plan))

-- the rules that made it
abbrev pub rules_line : Answer → List ℕ
rules_line a = line (codes "rules ") a.name (codes " = ") (trace_text a.trace)

-- the turns
abbrev pub turns_line : Answer → List ℕ
turns_line a = line (codes "turns ") a.name (codes " = ") (decimal a.turns)

-- what is moved in the plan, and the moves that lead there from it; without the word `--motion` nothing
abbrev pub moved_lines : (name : List ℕ) → Option (Box Moved) → List ℕ
moved_lines name None = []
moved_lines name (Some m) =
    line (codes "moved ") name (codes " = ") (core_text 0 (term_of m.value.term)) ++ line (codes "moves ") name (codes " = ") (moves_text m.value.moves)

-- all of these; a macro has none
abbrev pub plan_lines : Ran → Answer → List ℕ
plan_lines ran.Declared a = []
plan_lines _ a = plan_line a ++ (rules_line a ++ (turns_line a ++ moved_lines a.name a.moved))

-- what an array-free form came to
abbrev pub graph_text : GraphRan → List ℕ
graph_text graph_ran.Spent = codes "spent"
graph_text graph_ran.Undefined = codes "undefined"
graph_text (graph_ran.Value v) = text (datum v)

-- the line of what the array-free form of a query's plan came to; without the word `--graph`, and of a macro and a readval, nothing
abbrev pub graph_line : (name : List ℕ) → Option (Box Graph) → List ℕ
graph_line name None = []
graph_line name (Some g) = line (codes "graph ") name (codes " = ") (graph_text g.value.ran)

-- the lines of a declaration with its outcome, with the plan and what is moved in it where that is asked for, and at the end what the
-- array-free form of its plan came to, where there is one
abbrev pub entry : (plan : Bool) → Answer → Option Datum → List ℕ
entry plan a o = type_line a ++ (value_line a.by a.name o ++ ((if plan then plan_lines a.by a else []) ++ graph_line a.name a.graph))

-- the lines of several, in order
abbrev pub entries : (plan : Bool) → List Answer → List (Option Datum) → List ℕ
entries plan [] os = []
entries plan (a ∷ answers) [] = []
entries plan (a ∷ answers) (o ∷ os) = entry plan a o ++ entries plan answers os
