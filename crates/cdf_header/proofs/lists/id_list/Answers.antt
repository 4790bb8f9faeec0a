use Rattle.std.proofs.Common.{◌≡◌, ◌++◌, ◌∷◌, []}
use Rattle.std.proofs.lemmas.Result.{err_from_is_err_and}
use Rattle.cdf_header.specs.Format.{many, id}
use Rattle.cdf_header.proofs.Loops.{many_goes, many_stops, many_done}
use Rattle.cdf_header.proofs.lists.id_list.Goals as goal

pub returns-in_err-item : goal.returns-in_err-item
returns-in_err-item c =
    let p = err_from_is_err_and c.from_residual.result c.from_residual.ensures.1 in
    rw (p.1, p.2) (many_stops (id c.args.front.now.version c.args.dims.now.lengths.now) (many (id c.args.front.now.version c.args.dims.now.lengths.now) c.args.count []) c.args.at c.args.count c.items.counter (c.items.found.items) c.args.front.now.bytes.now c.items.place c.in_err-item.field-0.0
    c.items-test.true (rw c.deref.ensures.value at c.in_err-item.ensures) c.items.invariant.so_far)

pub items-preserved : goal.items-preserved
items-preserved c =
    let e : c.push.new.self.items ≡ c.items.found.items ++ c.in_ok-item.item ∷ [] = c.in_ok-push.ensures.items in
    let step = rw c.deref.ensures.value at c.in_ok-item.ensures in
    record {
      within = step.within;
      so_far = rw e (many_goes (id c.args.front.now.version c.args.dims.now.lengths.now) (many (id c.args.front.now.version c.args.dims.now.lengths.now) c.args.count []) c.args.at c.args.count c.items.counter (c.items.found.items) c.args.front.now.bytes.now c.items.place (c.in_ok-item.item) c.in_ok-item.after
          c.items-test.true step c.items.invariant.so_far);
    }

pub returns : goal.returns
returns c = many_done (id c.args.front.now.version c.args.dims.now.lengths.now) (many (id c.args.front.now.version c.args.dims.now.lengths.now) c.args.count []) c.args.at c.args.count c.items.counter (c.items.found.items) c.args.front.now.bytes.now c.items.place c.items-test.false c.items.invariant.within c.items.invariant.so_far
