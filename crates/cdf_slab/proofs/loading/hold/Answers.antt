use Rattle.std.proofs.lemmas.Result.{err_from_is_err_and}
use Rattle.cdf_slab.proofs.Goings.{outside_piece}
use Rattle.cdf_slab.proofs.loading.hold.Goals as goal

pub returns-in_err-load-clause-late : goal.returns-in_err-load-clause-late
returns-in_err-load-clause-late g c =
    let p = err_from_is_err_and c.from_residual.result c.from_residual.ensures.1 in
    rw (p.1, p.2) (outside_piece c.in_err-load.field-0.0 c.in_err-load.ensures.causes)
