use Rattle.std.proofs.Common.{sym, ◌∙◌, subst}
use Rattle.aql_types.specs.Forms.{forms}
use Rattle.aql_types.specs.Steps.{Steps}
use Rattle.aql_types.proofs.Joined.{Joint, linked, joined_high, joined_low, joined_alike, clashes}
use Rattle.aql_types.proofs.join.join.Goals as goal

pub returns-then-is_variable : goal.returns-then-is_variable
returns-then-is_variable c =
    let q = c.requires in
    let ps = c.args.ps.now in let ns = c.args.ns.now in let w = c.args.work.items in
    let j : Joint ps ns c.args.e c.node_at-low.result c.node_at-high.result w =
    record { below = q.below; right = q.right; left_root = q.left_root; right_root = q.right_root; ordered = q.ordered; inside = q.inside; low_is = c.node_at-low.ensures; high_is = c.node_at-high.ensures } in
    subst (λ ms. Steps (forms ps ns) (forms ps ms) c.args.e w w) (sym c.unite.ensures)
    (joined_high ps ns c.args.e c.node_at-low.result c.node_at-high.result w j (sym c.is_variable.ensures ∙ c.if-is_variable.true))

pub returns-then-is_variable-2 : goal.returns-then-is_variable-2
returns-then-is_variable-2 c =
    let q = c.requires in
    let ps = c.args.ps.now in let ns = c.args.ns.now in let w = c.args.work.items in
    let j : Joint ps ns c.args.e c.node_at-low.result c.node_at-high.result w =
    record { below = q.below; right = q.right; left_root = q.left_root; right_root = q.right_root; ordered = q.ordered; inside = q.inside; low_is = c.node_at-low.ensures; high_is = c.node_at-high.ensures } in
    subst (λ ms. Steps (forms ps ns) (forms ps ms) c.args.e w w) (sym c.unite-then-is_variable-2.ensures)
    (joined_low ps ns c.args.e c.node_at-low.result c.node_at-high.result w j (sym c.is_variable-2.ensures ∙ c.if-is_variable-2.true))

pub returns-then-not-are_alike : goal.returns-then-not-are_alike
returns-then-not-are_alike c =
    let q = c.requires in
    let ps = c.args.ps.now in let ns = c.args.ns.now in let w = c.args.work.items in
    let j : Joint ps ns c.args.e c.node_at-low.result c.node_at-high.result w =
    record { below = q.below; right = q.right; left_root = q.left_root; right_root = q.right_root; ordered = q.ordered; inside = q.inside; low_is = c.node_at-low.ensures; high_is = c.node_at-high.ensures } in
    clashes ps ns c.args.e c.node_at-low.result c.node_at-high.result w j (sym c.is_variable.ensures ∙ c.if-is_variable.false) (sym c.is_variable-2.ensures ∙ c.if-is_variable-2.false)
    (sym c.are_alike.ensures ∙ c.if-not-are_alike.true)

pub returns : goal.returns
returns c =
    let q = c.requires in
    let ps = c.args.ps.now in let ns = c.args.ns.now in let w = c.args.work.items in
    let low = c.node_at-low.result in let high = c.node_at-high.result in
    let j : Joint ps ns c.args.e low high w =
    record { below = q.below; right = q.right; left_root = q.left_root; right_root = q.right_root; ordered = q.ordered; inside = q.inside; low_is = c.node_at-low.ensures; high_is = c.node_at-high.ensures } in
    subst (λ ms. Steps (forms ps ns) (forms ps ms) c.args.e w c.in_ok-work.work.items) (sym c.unite-2.ensures)
    (subst (Steps (forms ps ns) (forms ps (linked ns c.args.e low)) c.args.e w) (sym c.in_ok-work.ensures)
    (joined_alike ps ns c.args.e low high w j (sym c.are_alike.ensures ∙ c.if-not-are_alike.false)))
