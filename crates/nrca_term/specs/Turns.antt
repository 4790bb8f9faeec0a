-- How many turns a term takes.
use Rattle.std.specs.Prelude.{ℕ, suc, ◌+◌, List, ◌++◌, length}
use Rattle.aql_value.specs.Datum.{Datum}
use Rattle.aql_value.specs.Partial.{each, total, if_some}
use Rattle.aql_value.specs.Strict.{strict_turns}
use Rattle.nrca_term.specs.Term.{Term, Parts, node, none, part, Form}
use Rattle.nrca_term.specs.Meaning.{Outcomes, Part, here, members_value, bounds_value, part_values}
use Rattle.nrca_term.specs.Places.{entry_values, indices_of}

-- the turns of a node beside those of its parts: a loop's members, a tabulation's cells, and those of the strict forms
abbrev pub own_turns : Form → List Part → ℕ
own_turns (Form.var i) ps = 0
own_turns (Form.global n) ps = 0
own_turns Form.bind ps = 0
own_turns Form.choose ps = 0
own_turns Form.default ps = 0
own_turns Form.big_union ps = if_some (members_value ps) length
own_turns Form.sum ps = if_some (members_value ps) length
own_turns (Form.tab rank) ps = length (indices_of (bounds_value rank ps))
own_turns (Form.strict s) ps = strict_turns s (each here ps)

abbrev mutual
  -- the turns of a term: its node's own, and those of each part, once for each list of values that comes to the part
  pub settle : Outcomes → List Datum → Term → ℕ
  settle V vals (node f ps) = own_turns f (part_values V vals ps) + parts_settle V vals f (part_values V vals ps) 0 ps

  -- the turns of the parts from number i on: of each, once for each list of values that comes to it
  pub parts_settle : Outcomes → List Datum → Form → List Part → ℕ → Parts → ℕ
  parts_settle V vals f worths i none = 0
  parts_settle V vals f worths i (part k t ps) =
      total (λ new. settle V (new ++ vals) t) (entry_values f worths i) + parts_settle V vals f worths (suc i) ps
