-- Two terms that are worth the same.
use Rattle.std.specs.Prelude.{◌≡◌, ◌≤◌}
use Rattle.nrca_term.specs.declared.term.Core.{Core}
use Rattle.nrca_term.specs.Meaning.{Outcomes, cden}
use Rattle.nrca_term.specs.Term.{weight_of}
use Rattle.nrca_term.specs.Turns.{settle}
use Rattle.nrca_term.specs.View.{term_of}
use Rattle.nrca_loops.specs.declared.env.Env.{Env}
use Rattle.nrca_loops.specs.Values.{values}

-- both have the same value, or both are undefined
abbrev pub AreWorthTheSame : Outcomes → Env → Core → Core → Type 0
AreWorthTheSame V env t u = cden V (values env) (term_of t) ≡ cden V (values env) (term_of u)

-- both take as many turns
abbrev pub TakeTheSame : Outcomes → Env → Core → Core → Type 0
TakeTheSame V env t u = settle V (values env) (term_of t) ≡ settle V (values env) (term_of u)

-- the first weighs no more than the second
abbrev pub IsNoHeavier : Core → Core → Type 0
IsNoHeavier t u = weight_of (term_of t) ≤ weight_of (term_of u)
