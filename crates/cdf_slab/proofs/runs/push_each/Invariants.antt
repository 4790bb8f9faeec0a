use Rattle.std.proofs.Common.{◌≡◌, ◌+◌, length, map, take, Ok}
use Rattle.nrca_array.specs.Runs.{run_numbers}
use Rattle.cdf_slab.specs.Going.{AppendsCells}
use Rattle.cdf_slab.specs.Numbers.{number_of}
use Rattle.cdf_slab.proofs.runs.push_each.Given as goal

abbrev pub invariant-numbers : goal.invariant-numbers
invariant-numbers l = record {
  goes : AppendsCells l.format.signed (map (number_of l.format.kind) (take l.k (run_numbers l.run))) l.fn.cells (Ok l.all);
  many : length l.all ≡ length l.fn.cells + l.k;
}
