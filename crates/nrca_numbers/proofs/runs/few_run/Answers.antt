use Rattle.std.proofs.Common.{map}
use Rattle.std.specs.List.{slice_range}
use Rattle.aql_value.specs.Datum.{natural}
use Rattle.nrca_numbers.specs.Few.{few_set}
use Rattle.nrca_sets.specs.Pairs.{pair_value}
use Rattle.nrca_loops.specs.Runs.{member_list}
use Rattle.nrca_numbers.proofs.Arms.{found_as}
use Rattle.nrca_numbers.proofs.Over.{over_same, below_column, listed_column}
use Rattle.nrca_numbers.proofs.runs.few_run.Goals as goal

pub returns-in_ok-column-in-Below : goal.returns-in_ok-column-in-Below
returns-in_ok-column-in-Below c =
    let ms = c.args.members.now in
    let same = below_column ms c.in-Below.field-0 c.args.from c.args.to c.as_slice.result.now c.in_ok-column-in-Below.column.items c.in-Below.is c.requires.order c.requires.within c.in_ok-column-in-Below.ensures c.as_slice.ensures.value in
    found_as c.few_over-found.result _ _ c.few_over-found.ensures
    (λ xs k. over_same few_set c.args.globals.now c.args.env.now c.args.body.now (slice_range (member_list ms) c.args.from c.args.to) (map natural c.as_slice.result.now) xs.items same k)

pub returns-in-Some : goal.returns-in-Some
returns-in-Some c =
    let ms = c.args.members.now in
    let col = c.in-Some.column.now in
    found_as c.few_over.result _ _ c.few_over.ensures
    (λ xs k. over_same few_set c.args.globals.now c.args.env.now c.args.body.now (slice_range (member_list ms) c.args.from c.args.to) (map natural (slice_range col c.args.from c.args.to)) xs.items
    (listed_column natural ms c.in-Listed.set c.args.from c.args.to col c.in-Listed.is c.in-Some.ensures.members) k)

pub returns-in-Some-pairs : goal.returns-in-Some-pairs
returns-in-Some-pairs c =
    let ms = c.args.members.now in
    let col = c.in-Some-pairs.column.now in
    found_as c.few_over_pairs.result _ _ c.few_over_pairs.ensures
    (λ xs k. over_same few_set c.args.globals.now c.args.env.now c.args.body.now (slice_range (member_list ms) c.args.from c.args.to) (map pair_value (slice_range col c.args.from c.args.to)) xs.items
    (listed_column pair_value ms c.in-Listed.set c.args.from c.args.to col c.in-Listed.is c.in-Some-pairs.ensures.members) k)
