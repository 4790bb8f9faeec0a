use Rattle.std.proofs.Common.{◌≡◌, ◌-◌, ◌∷◌, List, ℕ, sum, sym, ap, ◌∙◌, arith}
use Rattle.aql_syntax.specs.Scan.{pop_counter}
use Rattle.aql_lex.specs.Scanning.{stack_of}
use Rattle.aql_lex.proofs.Counting.{stack_last, sum_first}
use Rattle.aql_lex.proofs.scan.pop.Goals as goal

adds : (top total next : ℕ) (below after : List ℕ) → sum (top ∷ below) ≡ total → below ≡ next ∷ after → sum (next ∷ after) ≡ total - top
adds top total next below after h e = let x = sum_first top below in let y = ap sum e in omega arith

pub returns-in-Some : goal.returns-in-Some
returns-in-Some c =
    let e = ap stack_of c.in-Some.ensures.items ∙ stack_last c.pop.new.self.items c.in-Some.next in
    record {
      are = sym (ap (λ z. pop_counter (c.args.counters.top ∷ z)) e);
      adds = adds c.args.counters.top c.args.counters.total c.in-Some.next (stack_of c.args.counters.below.items) _ c.requires.adds e;
    }
