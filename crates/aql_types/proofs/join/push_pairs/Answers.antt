use Rattle.std.proofs.Common.{◌<◌, [], ◌∷◌, ◌++◌, length, take, get_or, append_assoc, sym, ap, ◌∙◌, arith}
use Rattle.aql_types.specs.declared.node.Equation.{Equation}
use Rattle.aql_types.specs.Steps.{pair_parts}
use Rattle.aql_types.proofs.Joining.{paired_next}
use Rattle.aql_types.proofs.join.push_pairs.Goals as goal

pub loop-i-preserved : goal.loop-i-preserved
loop-i-preserved c =
    let ps = c.args.lefts.now in let qs = c.args.rights.now in let i = c.loop-i.i in let w = c.args.work.items in
    let e : Equation = record { left = get_or ps i 0; right = get_or qs i 0 } in
    let lt : i < length ps = omega arith in
    let le : i < length qs = omega arith in
    c.in_ok-push.ensures.items
    ∙ ap (λ x. x ++ e ∷ []) c.loop-i.invariant
    ∙ append_assoc w (pair_parts (take i ps) (take i qs)) (e ∷ [])
    ∙ ap (λ x. w ++ x) (sym (paired_next ps qs i lt le))
