use Rattle.std.proofs.Common.{◌≡◌, ◌+◌, ◌∷◌, List, ℕ, sum, ap, ◌∙◌, arith}
use Rattle.aql_lex.specs.Scanning.{stack_of}
use Rattle.aql_lex.proofs.Counting.{stack_last, sum_first}
use Rattle.aql_lex.proofs.scan.push.Goals as goal

adds : (top total : ℕ) (below after : List ℕ) → sum (top ∷ below) ≡ total → after ≡ (top + 1) ∷ below → sum (0 ∷ after) ≡ total + 1
adds top total below after h e =
    sum_first 0 after ∙ ap (λ z. 0 + sum z) e ∙ omega (arith, sum_first (top + 1) below, sum_first top below)

pub returns : goal.returns
returns c =
    let e = ap stack_of c.in_ok-push.ensures.items ∙ stack_last c.args.counters.below.items (c.args.counters.top + 1) in
    record { are = ap (λ z. 0 ∷ z) e; adds = adds c.args.counters.top c.args.counters.total (stack_of c.args.counters.below.items) _ c.requires.adds e }
