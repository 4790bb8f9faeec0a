use Rattle.std.proofs.Common.{◌+◌, false, Err, length, map, length-append, sym, ap, subst, ◌∙◌, arith}
use Rattle.std.proofs.lemmas.List.{length-map}
use Rattle.aql_value.specs.Datum.{natural}
use Rattle.nrca_array.specs.Runs.{run_numbers}
use Rattle.nrca_array.specs.Laws.Runs.{length-run}
use Rattle.cdf_header.specs.declared.fault.CdfFault.TheVariants as faults
use Rattle.cdf_slab.specs.Going.{AppendsCells}
use Rattle.cdf_slab.specs.Numbers.{number_of}
use Rattle.cdf_slab.proofs.Naturals.{run_all, run_reached}
use Rattle.cdf_slab.proofs.runs.push_naturals.Goals as goal

pub returns-in-Ok-clause-goes : goal.returns-in-Ok-clause-goes
returns-in-Ok-clause-goes c = run_all c.args.kind c.lowest_below.result (run_numbers c.args.run) c.args.cells c.in-Ok.all c.lowest_below.ensures c.in-Ok.ensures.0 c.in-Ok.ensures.1

pub returns-in-Ok-clause-many : goal.returns-in-Ok-clause-many
returns-in-Ok-clause-many c =
    let ns = run_numbers c.args.run in
    omega (
      arith,
      ap length c.in-Ok.ensures.1,
      length-append c.args.cells (map natural ns),
      length-map ns natural,
      length-run c.args.run.size c.args.run.step c.args.run.count c.args.run.bytes.now,
    )

pub returns-in-Some-clause-goes : goal.returns-in-Some-clause-goes
returns-in-Some-clause-goes c =
    let first = rw c.in-Err-Reached.field-0-is at c.in-Err-Reached.ensures in
    subst (λ n. AppendsCells false (map (number_of c.args.kind) (run_numbers c.args.run)) c.args.cells (Err (faults.Negative n)))
    (sym (c.in-Some.ensures.1 ∙ ap (λ b. b + c.in-Err-Reached.at) c.len-before.ensures))
    (run_reached c.args.kind c.lowest_below.result (run_numbers c.args.run) c.in-Err-Reached.at c.args.cells c.lowest_below.ensures first)
