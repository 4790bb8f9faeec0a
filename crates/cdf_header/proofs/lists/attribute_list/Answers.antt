use Rattle.std.proofs.lemmas.Result.{err_from_is_err_and}
use Rattle.cdf_header.specs.Format.{times, attribute}
use Rattle.cdf_header.proofs.Loops.{times_goes, times_stops, times_done}
use Rattle.cdf_header.proofs.lists.attribute_list.Goals as goal

pub returns-in_err-after : goal.returns-in_err-after
returns-in_err-after c =
    let p = err_from_is_err_and c.from_residual.result c.from_residual.ensures.1 in
    rw (p.1, p.2) (times_stops (attribute c.args.front.now.version) (times (attribute c.args.front.now.version) c.args.count) c.args.at c.args.count c.items.counter c.args.front.now.bytes.now c.items.place c.in_err-after.field-0.0
    c.items-test.true c.in_err-after.ensures c.items.invariant.so_far)

pub items-preserved : goal.items-preserved
items-preserved c =
    record {
      within = c.in_ok-after.ensures.within;
      so_far = times_goes (attribute c.args.front.now.version) (times (attribute c.args.front.now.version) c.args.count) c.args.at c.args.count c.items.counter c.args.front.now.bytes.now c.items.place c.in_ok-after.after
          c.items-test.true c.in_ok-after.ensures c.items.invariant.so_far;
    }

pub returns : goal.returns
returns c = times_done (attribute c.args.front.now.version) (times (attribute c.args.front.now.version) c.args.count) c.args.at c.args.count c.items.counter c.args.front.now.bytes.now c.items.place c.items-test.false c.items.invariant.within c.items.invariant.so_far
