use Rattle.std.proofs.Common.{ap, map, ◌^◌, ◌-◌, drop}
use Rattle.std.proofs.lemmas.List.{drop_all}
use Rattle.cdf_header.specs.Header.{var}
use Rattle.cdf_header.proofs.Saturate.{one_record, more_records}
use Rattle.cdf_header.proofs.places.record_bytes.Goals as goal

pub returns-then-count-eq1 : goal.returns-then-count-eq1
returns-then-count-eq1 c = one_record c.args.dims.now (map var c.args.vars.now) (map var (drop c.vars.v-index c.args.vars.now)) c.vars.count c.vars.plain (2 ^ 128 - 1)
    (ap (map var) (drop_all c.vars.v-index c.args.vars.now c.vars-test.false)) c.if-count-eq1.true c.vars.invariant.within c.vars.invariant.count c.vars.invariant.plain

pub returns-else-count-eq1 : goal.returns-else-count-eq1
returns-else-count-eq1 c = more_records c.args.dims.now (map var c.args.vars.now) (map var (drop c.vars.v-index c.args.vars.now)) c.vars.count c.vars.all (2 ^ 128 - 1)
    (ap (map var) (drop_all c.vars.v-index c.args.vars.now c.vars-test.false)) c.if-count-eq1.false c.vars.invariant.within_all c.vars.invariant.count c.vars.invariant.all
