use Rattle.std.proofs.Common.{sym, ◌∙◌, ap, ◌<◌, arith, length, subst, []}
use Rattle.aql_types.specs.Forms.{forms, at}
use Rattle.aql_types.specs.Valuations.{AreIn, IsRoot}
use Rattle.aql_types.proofs.Bare.{same_down, same_root, forms_length}
use Rattle.aql_types.proofs.Keeping.{keeps_both}
use Rattle.aql_types.proofs.Stepping.{sides_all, same_roots, stepped, met_already}
use Rattle.aql_types.proofs.join.step.Goals as goal

pub root-left-requires-clause-down : goal.root-left-requires-clause-down
root-left-requires-clause-down c = same_down c.args.ps.now c.args.ns.now c.requires.ordered

pub join-requires-clause-right : goal.join-requires-clause-right
join-requires-clause-right c =
    (sides_all (λ i. i < length c.root-right.new.ns) c.lower_first.result c.root-left.result c.root-right.result c.lower_first.ensures.sides (omega arith) (omega arith)).1

pub join-requires-clause-left_root : goal.join-requires-clause-left_root
join-requires-clause-left_root c =
    let ps = c.args.ps.now in let fs = forms ps c.root-right.new.ns in
    (sides_all (λ i. IsRoot (at fs i)) c.lower_first.result c.root-left.result c.root-right.result c.lower_first.ensures.sides
    ((c.root-right.ensures.keeps ps).roots c.root-left.result (same_root [] ps c.root-left.new.ns c.root-left.result c.root-left.ensures.root))
    (same_root [] ps c.root-right.new.ns c.root-right.result c.root-right.ensures.root)).0

pub join-requires-clause-right_root : goal.join-requires-clause-right_root
join-requires-clause-right_root c =
    let ps = c.args.ps.now in let fs = forms ps c.root-right.new.ns in
    (sides_all (λ i. IsRoot (at fs i)) c.lower_first.result c.root-left.result c.root-right.result c.lower_first.ensures.sides
    ((c.root-right.ensures.keeps ps).roots c.root-left.result (same_root [] ps c.root-left.new.ns c.root-left.result c.root-left.ensures.root))
    (same_root [] ps c.root-right.new.ns c.root-right.result c.root-right.ensures.root)).1

pub join-requires-clause-ordered : goal.join-requires-clause-ordered
join-requires-clause-ordered c =
    let ps = c.args.ps.now in
    (keeps_both c.args.ns.now c.root-left.new.ns c.root-right.new.ns c.root-left.ensures.keeps c.root-right.ensures.keeps ps).ordered c.requires.ordered

pub returns : goal.returns
returns c =
    let ps = c.args.ps.now in
    let l = c.root-left.ensures in let r = c.root-right.ensures in
    let b = forms ps c.root-right.new.ns in
    stepped c.join.result (forms ps c.args.ns.now) b (forms ps c.join.new.ns) c.args.e c.lower_first.result c.args.work.items
    (keeps_both c.args.ns.now c.root-left.new.ns c.root-right.new.ns l.keeps r.keeps ps)
    (same_roots b c.args.e c.lower_first.result c.root-left.result c.root-right.result (λ v h. (l.same ps v ((r.keeps ps).back v h), r.same ps v h)) c.lower_first.ensures.sides)
    c.join.ensures

pub returns-then-left-right : goal.returns-then-left-right
returns-then-left-right c =
    let ps = c.args.ps.now in
    let l = c.root-left.ensures in let r = c.root-right.ensures in
    met_already (forms ps c.args.ns.now) (forms ps c.root-right.new.ns) c.args.e c.root-left.result c.args.work.items c.requires.ordered
    (keeps_both c.args.ns.now c.root-left.new.ns c.root-right.new.ns l.keeps r.keeps ps)
    (λ v h. (l.same ps v ((r.keeps ps).back v h), r.same ps v h ∙ ap v (sym c.if-left-right.true)))
    (subst (λ n. AreIn n c.args.work.items) (sym (forms_length ps c.args.ns.now)) c.requires.inside)
