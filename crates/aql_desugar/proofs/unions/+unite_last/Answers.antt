use Rattle.std.proofs.Common.{◌-◌, ◌/◌, map, drop, length, refl, arith}
use Rattle.nrca_term.specs.Nodes.{union_term}
use Rattle.nrca_term.specs.View.{term_of}
use Rattle.aql_desugar_spec.specs.Start.{balanced_union}
use Rattle.aql_desugar.specs.Laws.Parts.{both_made}
use Rattle.aql_desugar.proofs.Making.{first_of, second_of}
use Rattle.aql_desugar.proofs.Uniting.{halves_made}
use Rattle.aql_desugar.proofs.unions.+unite_last.Goals as goal

pub returns-clause-made : goal.returns-clause-made
returns-clause-made t c =
    let left = balanced_union (c.args.count / 2) (map term_of (drop (length c.unite_last.new.items.items - c.args.count / 2) c.unite_last.new.items.items)) in
    both_made c.union.result c.both.result union_term left (term_of c.in_ok-right.right) _ c.union.ensures (first_of c.both.result c.unite_last-left.result _ _ _ c.both.ensures c.unite_last-left.ensures.made)
    (second_of c.both.result c.unite_last-left.result c.in_ok-right.right _ c.both.ensures)
    (halves_made c.args.items.now.items c.unite_last.new.items.items c.args.count (c.args.count / 2) left (term_of c.in_ok-right.right) (union_term left (term_of c.in_ok-right.right))
    c.requires (omega arith) refl c.in_ok-right.ensures.made c.in_ok-right.ensures.left refl refl)
