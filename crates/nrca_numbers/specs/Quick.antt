-- What the quick evaluation of a term answers.
use Rattle.std.specs.Prelude.{◌≡◌, ℕ, Bool, List, length, nat_eq, Option, Some, None, if◌then◌else◌}
use Rattle.aql_value.specs.Datum.{Datum, natural, truth}
use Rattle.aql_value.specs.Operations.{nth}
use Rattle.aql_value.specs.declared.ops.CompareOp.{CompareOp}
use Rattle.aql_value.specs.Partial.{each, total}
use Rattle.nrca_term.specs.declared.term.Core.{Core}
use Rattle.nrca_term.specs.declared.term.Terms.{Terms}
use Rattle.nrca_term.specs.Meaning.{Outcomes, cden}
use Rattle.nrca_term.specs.Nodes.{compare_term}
use Rattle.nrca_term.specs.Turns.{settle}
use Rattle.nrca_term.specs.View.{term_of, terms_of}
use Rattle.nrca_loops.specs.declared.env.Env.{Env}
use Rattle.nrca_loops.specs.Parts.{cell_in, numbers_in}
use Rattle.nrca_loops.specs.Values.{values}

-- the term is worth the number
abbrev pub IsNumber : Outcomes → Env → Core → ℕ → Type 0
IsNumber V env t n = cden V (values env) (term_of t) ≡ Some (natural n)

-- the term is worth the truth value
abbrev pub IsTruth : Outcomes → Env → Core → Bool → Type 0
IsTruth V env t b = cden V (values env) (term_of t) ≡ Some (truth b)

-- whether the comparison holds of the terms' values
abbrev pub IsComparison : Outcomes → Env → CompareOp → Core → Core → Bool → Type 0
IsComparison V env op t u b = cden V (values env) (compare_term op (term_of t) (term_of u)) ≡ Some (truth b)

-- the comparison of the terms takes no turns
abbrev pub ComparesFree : Outcomes → Env → CompareOp → Core → Core → Type 0
ComparesFree V env op t u = settle V (values env) (compare_term op (term_of t) (term_of u)) ≡ 0

-- the cell of the array at the index that the terms are worth is the number
abbrev pub IsCell : Outcomes → Env → Datum → Terms → ℕ → Type 0
IsCell V env a at n = cell_in a (numbers_in (each (cden V (values env)) (terms_of at))) ≡ Some (natural n)

-- none of the terms takes turns
abbrev pub TakeNone : Outcomes → Env → Terms → Type 0
TakeNone V env ts = total (settle V (values env)) (terms_of ts) ≡ 0

-- the part of that number, counted from 1, of as many
abbrev pub item_of : (at of : ℕ) → List Datum → Option Datum
item_of at of vs = if nat_eq (length vs) of then nth at vs else None
