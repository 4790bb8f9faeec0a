use Rattle.aql_desugar.proofs.unions.+unite_last.Given as goal

abbrev pub decreases-unite_last : goal.decreases-unite_last
decreases-unite_last l = l.count
