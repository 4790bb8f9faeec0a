use Rattle.std.proofs.Common.{arith, ◌≡◌, ◌+◌, ◌∙◌, map, sym, ap, inl, inr, Some}
use Rattle.std.proofs.lemmas.Result.{err_from_is_err_and}
use Rattle.csv.specs.Reading.{source_of, strip_bom}
use Rattle.csv.specs.Records.{fields_of}
use Rattle.aql_value.specs.Canon.{canon}
use Rattle.aql_value.specs.Meaning.{datum}
use Rattle.aql_outside.specs.Contents.{or_none}
use Rattle.aql_csv.specs.Records.{records_of}
use Rattle.aql_csv.specs.Rows.{result_map, rows_behind}
use Rattle.aql_csv.proofs.Behind.{behind}
use Rattle.aql_csv.proofs.OneRead.{explained, found, found_none, rest_of, strip_shortens, unread}
use Rattle.aql_csv.proofs.Rowed.{ended, started, stops_as, swap_front}
use Rattle.aql_csv.proofs.rows.read_members.Goals as goal

pub records-init : goal.records-init
records-init c =
    let made = c.from_reader-reader.ensures in
    let here : source_of rest_of c.from_reader-reader.result ≡ Some (strip_bom c.args.bytes.now) = made.source in
    let same : unread c.from_reader-reader.result ≡ strip_bom c.args.bytes.now = ap or_none here in
    record {
      plain = rw (c.flexible.ensures, c.has_headers.ensures) at made.trim ∙ c.new.ensures.trim;
      any_length = rw c.flexible.ensures at made.flexible;
      ready = inr (inr (rw (c.flexible.ensures, c.has_headers.ensures) at made.has_headers, made.headers));
      config = rw (c.flexible.ensures, c.has_headers.ensures) at made.config ∙ c.new.ensures.config;
      source = rw same here;
      counted = omega arith;
      count = rw (made.state, same) (omega (arith, strip_shortens c.args.bytes.now));
      same_set = rw (made.state, same, c.new-values.ensures.items) (ap (result_map canon) (started c.args.header c.args.kinds.now (records_of c.args.bytes.now)));
    }

pub returns-in-Ok-false-clause-meant : goal.returns-in-Ok-false-clause-meant
returns-in-Ok-false-clause-meant c =
    let inv = c.records.invariant in
    let read = rw c.in-Ok-false.field-0-test at (c.in-Ok-false.ensures.reads inv.plain inv.ready) in
    let none = found_none c.records.reader c.read_byte_record.new.self (fields_of c.read_byte_record.new.row) inv.config inv.source read in
    inv.same_set ∙ rw none (ap (result_map canon) (ended c.args.header c.args.kinds.now c.records.place (map datum c.records.values.items)))

pub returns-in_err-add_row-clause-meant : goal.returns-in_err-add_row-clause-meant
returns-in_err-add_row-clause-meant c =
    let inv = c.records.invariant in
    let read = rw c.in-Ok-true.field-0-test at (c.in-Ok-true.ensures.reads inv.plain inv.ready) in
    let step = found c.records.reader c.read_byte_record.new.self (fields_of c.read_byte_record.new.row) inv.config inv.source read in
    let p = err_from_is_err_and c.from_residual.result c.from_residual.ensures.1 in
    rw (p.1, p.2) (stops_as _ _ _ (λ e. inv.same_set ∙ rw step.one_more (ap (result_map canon) e))
    (c.in_err-add_row.ensures.stopped (behind c.read_byte_record.new.self.state (unread c.read_byte_record.new.self))))

pub records-smaller : goal.records-smaller
records-smaller c =
    let inv = c.records.invariant in
    let read = rw c.in-Ok-true.field-0-test at (c.in-Ok-true.ensures.reads inv.plain inv.ready) in
    (found c.records.reader c.read_byte_record.new.self (fields_of c.read_byte_record.new.row) inv.config inv.source read).falls

pub records-preserved : goal.records-preserved
records-preserved c =
    let inv = c.records.invariant in
    let read = rw c.in-Ok-true.field-0-test at (c.in-Ok-true.ensures.reads inv.plain inv.ready) in
    let step = found c.records.reader c.read_byte_record.new.self (fields_of c.read_byte_record.new.row) inv.config inv.source read in
    record {
      plain = read.3 ∙ inv.plain;
      any_length = c.in-Ok-true.ensures.flexible ∙ inv.any_length;
      ready = inl (c.in-Ok-true.ensures.ready inv.plain);
      config = read.2 ∙ inv.config;
      source = step.source;
      counted = omega (arith, inv.counted);
      count = omega (arith, inv.count, step.falls);
      same_set = inv.same_set ∙ rw step.one_more (ap (result_map canon) (c.in_ok-add_row.ensures.added (behind c.read_byte_record.new.self.state (unread c.read_byte_record.new.self))))
          ∙ swap_front (map datum c.add_row.new.values.items) (map datum c.in_ok-values.values.items) (rows_behind c.args.header c.args.kinds.now (c.records.place + 1) (behind c.read_byte_record.new.self.state (unread c.read_byte_record.new.self))) (sym c.in_ok-values.ensures.same);
    }

pub memory_fault-requires : goal.memory_fault-requires
memory_fault-requires c =
    let inv = c.records.invariant in
    explained c.records.reader c.read_byte_record.new.self _ inv.any_length (c.in-Err.ensures.why inv.ready)
