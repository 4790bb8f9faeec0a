-- Past the last fact none is left.
use Rattle.std.proofs.Common.{ℕ, zero, suc, ◌≤◌, List, [], ◌∷◌, length, drop, arith}
use Rattle.nrca_term.specs.Term.{Term}
use Rattle.nrca_term.specs.Facts as facts
use Rattle.nrca_ranges.specs.declared.context.Fact.{Fact}
use Rattle.nrca_ranges.specs.Context.{facts_in}
use Rattle.nrca_checks.specs.Knowing.{IsAmong}

-- no term is among the facts past the last one
pub none-left : (k : facts.Known) (d : ℕ) (t : Term) (fs : List Fact) (i : ℕ) → length fs ≤ i → IsAmong k d t (facts_in (drop i fs)) → ⊥
none-left k d t [] zero l h = h
none-left k d t [] (suc i) l h = h
none-left k d t (f ∷ fs) zero l h = absurd (omega (arith, l))
none-left k d t (f ∷ fs) (suc i) l h = none-left k d t fs i (omega (arith, l)) h
