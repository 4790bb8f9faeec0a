use Rattle.std.proofs.Common.{arith, ◌∙◌, map, length-append, sym}
use Rattle.std.proofs.lemmas.Result.{err_from_is_err_and}
use Rattle.csv.specs.Records.{fields_of}
use Rattle.aql_value.specs.Meaning.{datum}
use Rattle.aql_csv.proofs.Rowed.{field_there, field_past, field_good, field_wrong, kind_there, stops_as}
use Rattle.aql_csv.proofs.rows.field_values.Goals as goal

pub returns-in_err-value-in-Some-clause-meant : goal.returns-in_err-value-in-Some-clause-meant
returns-in_err-value-in-Some-clause-meant c =
    let p = err_from_is_err_and c.from_residual.result c.from_residual.ensures.1 in
    let kind = kind_there c.args.kinds.now c.loop-i.i _ c.loop-i-test.true in
    let field = field_there (fields_of c.args.entry.now) c.loop-i.i c.in-Some.field.now c.in-Some.ensures.value in
    rw (p.1, p.2) (stops_as _ _ _
    (λ e. c.loop-i.invariant.meant ∙ field_wrong c.args.place c.loop-i.i c.args.kinds.now (fields_of c.args.entry.now) _ c.in-Some.field.now (map datum c.loop-i.values.items) _ kind field e)
    c.in_err-value-in-Some.ensures.meant)

pub unreachable-requires : goal.unreachable-requires
unreachable-requires c =
    let past = field_past (fields_of c.args.entry.now) c.loop-i.i (sym c.in-None.ensures.value) in
    omega (arith, past, c.loop-i-test.true, c.requires.same)

pub loop-i-preserved : goal.loop-i-preserved
loop-i-preserved c =
    let kind = kind_there c.args.kinds.now c.loop-i.i _ c.loop-i-test.true in
    let field = field_there (fields_of c.args.entry.now) c.loop-i.i c.in-Some.field.now c.in-Some.ensures.value in
    let kept = c.in_ok-keep.ensures.kept in
    let good = field_good c.args.place c.loop-i.i c.args.kinds.now (fields_of c.args.entry.now) _ c.in-Some.field.now (map datum c.loop-i.values.items) (datum c.in_ok-value-in-Some.value) kind field c.in_ok-value-in-Some.ensures.meant in
    record {
      meant = c.loop-i.invariant.meant ∙ rw kept good;
      many = rw kept (simp length-append (omega (arith, c.loop-i.invariant.many)));
    }
