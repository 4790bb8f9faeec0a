-- The text of the rewritings that led to a term, in ASCII bytes.
use Rattle.std.specs.Prelude.{ℕ, List, [], ◌∷◌, map, codes}
use Rattle.nrca_term.specs.declared.trace.Rule.{Rule}
use Rattle.nrca_term.specs.declared.trace.Rule.TheVariants as rules
use Rattle.nrca_term.specs.declared.trace.Step.{Step}
use Rattle.aql_print.specs.Joined.{join_texts}

-- the name of a rule
abbrev pub rule_text : Rule → List ℕ
rule_text rules.B1 = codes "B1"
rule_text rules.K1 = codes "K1"
rule_text rules.I1 = codes "I1"
rule_text rules.I2 = codes "I2"
rule_text rules.L1 = codes "L1"
rule_text rules.L2 = codes "L2"
rule_text rules.L3 = codes "L3"
rule_text rules.P1 = codes "P1"
rule_text rules.P2 = codes "P2"
rule_text rules.S1 = codes "S1"
rule_text rules.S2 = codes "S2"
rule_text rules.S3 = codes "S3"
rule_text rules.S4 = codes "S4"
rule_text rules.S5 = codes "S5"
rule_text rules.S6 = codes "S6"
rule_text rules.S7 = codes "S7"
rule_text rules.S8 = codes "S8"
rule_text rules.S9 = codes "S9"
rule_text rules.A1 = codes "A1"
rule_text rules.A2 = codes "A2"
rule_text rules.A3 = codes "A3"
rule_text rules.A4 = codes "A4"
rule_text rules.A5 = codes "A5"
rule_text rules.A6 = codes "A6"
rule_text rules.A7 = codes "A7"
rule_text rules.C1 = codes "C1"
rule_text rules.C2 = codes "C2"
rule_text rules.C3 = codes "C3"
rule_text rules.C4 = codes "C4"
rule_text rules.N1 = codes "N1"
rule_text rules.N2 = codes "N2"

-- the names of the rules, the first one first
abbrev pub rule_texts : List Step → List (List ℕ)
rule_texts steps = map (λ step. rule_text step.rule) steps

-- the names with single spaces, and `none` where there is no rewriting
abbrev pub trace_text : List Step → List ℕ
trace_text [] = codes "none"
trace_text (s ∷ rest) = join_texts (codes " ") (rule_texts (s ∷ rest))
