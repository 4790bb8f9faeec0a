-- When the constants of a term, and the outcomes of the positions, are values of the language.
use Rattle.std.specs.Prelude.{◌≡◌, ℕ, Some}
use Rattle.aql_value.specs.Datum.{Datum}
use Rattle.aql_value.specs.Valid.{IsValue, HasValidConstant}
use Rattle.nrca_term.specs.Term.{Term, Parts, node, none, part, Form}
use Rattle.nrca_term.specs.Meaning.{Outcomes, outcome}

-- the number or the string that the form is, if it is one, is a value
abbrev pub FormConstant : Form → Type 0
FormConstant (Form.strict s) = HasValidConstant s
FormConstant _ = Unit {0}

abbrev mutual
  -- each number in the term is below 2^128, and each string is of bytes
  pub HasConstants : Term → Type 0
  HasConstants (node f ps) = FormConstant f × PartsHaveConstants ps

  -- the constants in the parts are values of the language
  pub PartsHaveConstants : Parts → Type 0
  PartsHaveConstants none = Unit {0}
  PartsHaveConstants (part k t ps) = HasConstants t × PartsHaveConstants ps

-- each outcome that is defined is a value of the language
abbrev pub AreValidOutcomes : Outcomes → Type 0
AreValidOutcomes V = (n : ℕ) (v : Datum) → outcome V n ≡ Some v → IsValue v
