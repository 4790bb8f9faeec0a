use Rattle.std.proofs.Common.{◌<◌, length, arith}
use Rattle.nrca_array.specs.Runs.{run_numbers}
use Rattle.nrca_array.specs.Laws.Runs.{length-run}
use Rattle.cdf_slab.proofs.Naturals.{goes_all, goes_push, goes_stop}
use Rattle.cdf_slab.proofs.runs.push_each.Goals as goal

pub returns-in-Err-clause-goes : goal.returns-in-Err-clause-goes
returns-in-Err-clause-goes c =
    let run = c.args.run in
    let within : c.numbers.k < length (run_numbers run) = omega (arith, c.numbers-test.true, length-run run.size run.step run.count run.bytes.now) in
    goes_stop c.args.format.signed c.args.format.kind (run_numbers run) c.numbers.k c.get.result c.args.cells c.numbers.all c.in-Err.fault within c.get.ensures c.numbers.invariant.goes c.in-Err.ensures.goes

pub numbers-preserved : goal.numbers-preserved
numbers-preserved c =
    let run = c.args.run in
    let within : c.numbers.k < length (run_numbers run) = omega (arith, c.numbers-test.true, length-run run.size run.step run.count run.bytes.now) in
    record {
      goes = goes_push c.args.format.signed c.args.format.kind (run_numbers run) c.numbers.k c.get.result c.args.cells c.numbers.all c.in-Ok.more within c.get.ensures c.numbers.invariant.goes c.in-Ok.ensures.goes;
      many = omega (arith, c.in-Ok.ensures.many, c.numbers.invariant.many);
    }

pub returns-clause-goes : goal.returns-clause-goes
returns-clause-goes c =
    let run = c.args.run in
    goes_all c.args.format.signed c.args.format.kind (run_numbers run) c.numbers.k c.args.cells c.numbers.all (omega (arith, c.numbers-test.false, length-run run.size run.step run.count run.bytes.now)) c.numbers.invariant.goes
