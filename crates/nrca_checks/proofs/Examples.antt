-- Comparisons inside of `[[.. | \i<10]]`, computed.
use Rattle.std.specs.Prelude.{◌≡◌, true, false, [], ◌∷◌, Some, None, refl}
use Rattle.nrca_term.specs.Nodes.{variable, number, less_term}
use Rattle.nrca_term.specs.Facts.{Context, fact, domain}
use Rattle.nrca_checks.specs.Deciding.{decided_of}

-- i is below 10
abbrev below_ten : Context
below_ten = record { facts = fact (less_term (variable 0) (number 10)) domain 1 ∷ []; depth = 1 }

-- `i < 20`
decided_true : decided_of below_ten (less_term (variable 0) (number 20)) ≡ Some true
decided_true = refl

-- `10 < i`
decided_false : decided_of below_ten (less_term (number 10) (variable 0)) ≡ Some false
decided_false = refl

-- `i < 9`: the spans touch
undecided : decided_of below_ten (less_term (variable 0) (number 9)) ≡ None
undecided = refl
