use Rattle.std.proofs.Common.{◌≡◌, ◌++◌, ◌∷◌, [], map}
use Rattle.std.proofs.lemmas.Result.{err_from_is_err_and}
use Rattle.std.proofs.lemmas.List.{map_push}
use Rattle.cdf_header.specs.Header.{var}
use Rattle.cdf_header.specs.Format.{many, variable}
use Rattle.cdf_header.proofs.Loops.{many_goes, many_stops, many_done}
use Rattle.cdf_header.proofs.lists.variable_list.Goals as goal

pub returns-in_err-item : goal.returns-in_err-item
returns-in_err-item c =
    let p = err_from_is_err_and c.from_residual.result c.from_residual.ensures.1 in
    rw (p.1, p.2) (many_stops (variable c.args.front.now.version c.args.dims.now.lengths.now) (many (variable c.args.front.now.version c.args.dims.now.lengths.now) c.args.count []) c.args.at c.args.count c.items.counter (map var c.items.found.items) c.args.front.now.bytes.now c.items.place c.in_err-item.field-0.0
    c.items-test.true (rw c.deref.ensures.value at c.in_err-item.ensures) c.items.invariant.so_far)

pub items-preserved : goal.items-preserved
items-preserved c =
    let e : map var c.push.new.self.items ≡ map var c.items.found.items ++ var c.in_ok-item.item ∷ [] = rw c.in_ok-push.ensures.items (map_push _ c.items.found.items c.in_ok-item.item) in
    let step = rw c.deref.ensures.value at c.in_ok-item.ensures in
    record {
      within = step.within;
      so_far = rw e (many_goes (variable c.args.front.now.version c.args.dims.now.lengths.now) (many (variable c.args.front.now.version c.args.dims.now.lengths.now) c.args.count []) c.args.at c.args.count c.items.counter (map var c.items.found.items) c.args.front.now.bytes.now c.items.place (var c.in_ok-item.item) c.in_ok-item.after
          c.items-test.true step c.items.invariant.so_far);
    }

pub returns : goal.returns
returns c = many_done (variable c.args.front.now.version c.args.dims.now.lengths.now) (many (variable c.args.front.now.version c.args.dims.now.lengths.now) c.args.count []) c.args.at c.args.count c.items.counter (map var c.items.found.items) c.args.front.now.bytes.now c.items.place c.items-test.false c.items.invariant.within c.items.invariant.so_far
