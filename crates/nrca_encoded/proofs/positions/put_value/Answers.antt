use Rattle.std.proofs.Common.{refl, Some, arith, slice_set}
use Rattle.std.specs.Prelude.{◌-◌}
use Rattle.nrca_array.specs.declared.held.Held.TheVariants as held
use Rattle.nrca_encoded.proofs.Placing.{put-at}
use Rattle.nrca_encoded.proofs.positions.put_value.Goals as goal

pub returns-clause-put : goal.returns-clause-put
returns-clause-put c =
    put-at c.args.list.now.items (slice_set c.args.list.now.items (c.args.n - 1) (Some (held.Value c.args.value))) c.args.n (held.Value c.args.value) c.requires.first (omega (arith, c.requires.last, c.args.list.now.ok.0)) refl
