-- The checks fit exactly the comparisons.
use Rattle.std.proofs.Common.{true, false, Bool, [], refl}
use Rattle.nrca_term.specs.Term.{Term}
use Rattle.nrca_term.specs.Nodes.{truth_term}
use Rattle.nrca_term.specs.declared.trace.Rule.TheVariants.{C1, C2, C3, C4}
use Rattle.nrca_rule_laws.specs.Fitting.{RuleFits}
use Rattle.nrca_checks.specs.Comparing.{Compares, the_sides}

-- a comparison has true as its right side by C1, and no other term has one
pub c1-fits : (b : Bool) (t : Term) → Compares b t → RuleFits C1 b t
c1-fits true t h = (truth_term true, [], (h, refl, refl))
c1-fits false t h = λ r ws x. h x.0

-- the same of C2
pub c2-fits : (b : Bool) (t : Term) → Compares b t → RuleFits C2 b t
c2-fits true t h = (truth_term true, [], (h, refl, refl))
c2-fits false t h = λ r ws x. h x.0

-- a comparison has false as its right side by C3, and no other term has one
pub c3-fits : (b : Bool) (t : Term) → Compares b t → RuleFits C3 b t
c3-fits true t h = (truth_term false, [], (h, refl, refl))
c3-fits false t h = λ r ws x. h x.0

-- a comparison has either truth value as its right side by C4, and no other term has one
pub c4-fits : (b : Bool) (t : Term) → Compares b t → RuleFits C4 b t
c4-fits true t h = (truth_term true, the_sides, (h, (true, refl), refl))
c4-fits false t h = λ r ws x. h x.0
