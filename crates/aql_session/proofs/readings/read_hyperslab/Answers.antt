use Rattle.std.proofs.Common.{◌≡◌, ◌∙◌, ◌-◌, ◌≤◌, ◌^◌, min, refl, ap, arith}
use Rattle.aql_value.specs.Indices.{product}
use Rattle.aql_session.specs.Asked.{cells}
use Rattle.aql_session.specs.Executions.{slab_asked}
use Rattle.aql_session.proofs.Obtaining.{slab-of}
use Rattle.aql_session.proofs.readings.read_hyperslab.Goals as goal

pub returns-in-Ok-clause-read : goal.returns-in-Ok-clause-read
returns-in-Ok-clause-read g c =
    let a = slab_asked c.args.slab.now in
    let count : c.saturating_product-cells.result ≡ min (cells a) (2 ^ 128 - 1) =
    c.saturating_product-cells.ensures ∙ ap (λ ds. min (product ds) (2 ^ 128 - 1)) c.deref.ensures in
    let within : cells a ≤ c.args.budget = omega (arith, count) in
    slab-of a c.args.budget (g.F.Files.holds c.args.files.now) _ c.in-Ok.flat c.saturating_product-cells.result c.requires.budget within c.in-Ok.ensures.read refl refl count
    c.valid_held.ensures
