use Rattle.std.proofs.Common.{◌≡◌, ◌++◌, ◌∷◌, [], arith, length-append}
use Rattle.std.proofs.lemmas.Result.{err_from_is_err_and}
use Rattle.cdf_header.specs.Format.{many, dimension}
use Rattle.cdf_header.proofs.Loops.{many_goes, many_stops, many_done}
use Rattle.cdf_header.proofs.lists.dimensions.Goals as goal

pub dimension_of-requires-clause-few : goal.dimension_of-requires-clause-few
dimension_of-requires-clause-few c = rw c.deref.ensures.value (omega (arith, c.requires.few))

pub returns-in_err-item-clause-read : goal.returns-in_err-item-clause-read
returns-in_err-item-clause-read c =
    let p = err_from_is_err_and c.from_residual.result c.from_residual.ensures.1 in
    rw (p.1, p.2) (many_stops (dimension c.args.front.now.version) (many (dimension c.args.front.now.version) c.args.count []) c.args.at c.args.count c.items.counter c.items.found.items c.args.front.now.bytes.now c.items.place c.in_err-item.field-0.0
    c.items-test.true (rw c.deref.ensures.value at c.in_err-item.ensures) c.items.invariant.so_far)

pub items-preserved : goal.items-preserved
items-preserved c =
    let e : c.push.new.self.items ≡ c.items.found.items ++ c.in_ok-item.item ∷ [] = c.in_ok-push.ensures.items in
    let step = rw c.deref.ensures.value at c.in_ok-item.ensures in
    record {
      within = step.within;
      few = rw c.in_ok-push.ensures.items (omega (arith, c.items.invariant.few, length-append c.items.found.items (c.in_ok-item.item ∷ [])));
      so_far = rw e (many_goes (dimension c.args.front.now.version) (many (dimension c.args.front.now.version) c.args.count []) c.args.at c.args.count c.items.counter c.items.found.items c.args.front.now.bytes.now c.items.place c.in_ok-item.item c.in_ok-item.after
          c.items-test.true step c.items.invariant.so_far);
    }

pub returns-clause-read : goal.returns-clause-read
returns-clause-read c = many_done (dimension c.args.front.now.version) (many (dimension c.args.front.now.version) c.args.count []) c.args.at c.args.count c.items.counter c.items.found.items c.args.front.now.bytes.now c.items.place c.items-test.false c.items.invariant.within c.items.invariant.so_far
