use Rattle.std.proofs.Common.{◌^◌, ◌<◌, sym, subst, ◌∙◌}
use Rattle.std.specs.List.{All}
use Rattle.aql_value.specs.Datum.{data_of}
use Rattle.aql_value.specs.Laws.Datum.{list_of-data_of}
use Rattle.aql_value.specs.Indices.{IsTable}
use Rattle.nrca_array.proofs.validity.valid_flat.Goals as goal

pub returns : goal.returns
returns c = (
  subst (λ ds. All (λ d. d < 2 ^ 128) ds) c.dims.ensures.dims c.dims_fit.ensures,
  subst (λ xs. IsTable (record { dims = c.args.flat.now.dims; cells = xs })) (sym (list_of-data_of c.args.flat.now.cells)) c.valid_cells.ensures.table,
  c.valid_cells.ensures.cells,
)
