use Rattle.std.proofs.Common.{◌≡◌, ◌≤◌, ◌+◌, length, map, Some, true}
use Rattle.csv.specs.Reading.{Ready, default_config, source_of}
use Rattle.csv.specs.declared.reader.Trim.TheVariants as trim
use Rattle.aql_value.specs.Canon.{canon}
use Rattle.aql_value.specs.Meaning.{datum}
use Rattle.aql_csv.specs.Rows.{all_in_front, result_map, rows, rows_behind}
use Rattle.aql_csv.proofs.Behind.{behind, left}
use Rattle.aql_csv.proofs.OneRead.{rest_of, unread}
use Rattle.aql_csv.proofs.rows.read_members.Given as goal

abbrev pub invariant-records : goal.invariant-records
invariant-records l = record {
  plain : l.reader.trim ≡ trim.None;
  any_length : l.reader.flexible ≡ true;
  ready : Ready l.reader;
  config : l.reader.config ≡ default_config;
  source : source_of rest_of l.reader ≡ Some (unread l.reader);
  counted : 1 ≤ l.place;
  count : l.place + left l.reader.state (unread l.reader) ≤ length l.bytes + 1;
  same_set : result_map canon (rows l.header l.kinds l.bytes)
      ≡ result_map canon (all_in_front (map datum l.values.items) (rows_behind l.header l.kinds l.place (behind l.reader.state (unread l.reader))));
}

abbrev pub decreases-records : goal.decreases-records
decreases-records l = left l.reader.state (unread l.reader)
