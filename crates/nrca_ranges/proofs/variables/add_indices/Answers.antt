use Rattle.std.proofs.Common.{◌≡◌, ◌++◌, min, length, subst, arith}
use Rattle.std.specs.Prelude.{OnOk}
use Rattle.nrca_ranges.specs.Shapes.{bounds_each}
use Rattle.nrca_ranges.proofs.Entries.{first-indices}
use Rattle.nrca_ranges.proofs.variables.add_indices.Goals as goal

pub returns : goal.returns
returns c =
    let e : c.min-end.result ≡ min c.args.rank (length c.args.told.now) = omega arith in
    subst (λ l. OnOk c.add_each.result (bounds_each c.add_each.new.shapes.items ≡ bounds_each c.args.shapes.now.items ++ l)) (first-indices c.args.told.now c.args.rank c.min-end.result (omega (arith, e)) (λ k. omega (arith, e, k))) c.add_each.ensures
