use Rattle.std.proofs.Common.{rules, ◌≡◌, ◌+◌, ◌<◌, ◌≤◌, ◌^◌, Some, option_map, Ok, Err, length, sym, ap, subst, ◌∙◌, arith}
use Rattle.std.proofs.lemmas.Option.{none-some}
use Rattle.aql_value.specs.Indices.{product}
use Rattle.cdf_header.specs.declared.fault.CdfFault.TheVariants as faults
use Rattle.cdf_header.specs.Format.{type_size}
use Rattle.cdf_header.specs.Places.{variable_at, pitches}
use Rattle.cdf_slab.specs.Slab.{most_cells, cell_offsets, slab_numbers, slab, first_cut, negative_fault, IsSlabAnswer}
use Rattle.aql_value.specs.Partial.{or_else}
use Rattle.cdf_slab.specs.Walk.{steps_of, walk, HaveRoom, saturate_all}
use Rattle.cdf_slab.proofs.Answering.{leads, cut_found, walk_found, room_found, places_many, cut_early, goes_as, read_all, read_some, early-none, counts_small}
use Rattle.cdf_slab.proofs.Goings.{late_more}
use Rattle.cdf_slab.proofs.Stepping.{some_axes, length-pitches, length-capped}
use Rattle.cdf_slab.proofs.slab.read_some.Goals as goal

pub axes_of-requires-clause-fit : goal.axes_of-requires-clause-fit
axes_of-requires-clause-fit g c = counts_small c.args.asked.now.count.now most_cells c.args.asked.now.cells c.requires.full (omega arith)

pub returns-in-Some-clause-early : goal.returns-in-Some-clause-early
returns-in-Some-clause-early g c =
    let h = c.args.header.now in
    let v = variable_at c.args.header.now c.args.v in
    let small : c.bytes-end.result < 2 ^ 64 = search rules in
    let l = leads h v c.args.asked.now.start.now c.args.asked.now.count.now c.args.asked.now.stride.now c.in_ok-axes.axes.items c.in_ok-axes.ensures c.args.asked.now.counts c.args.asked.now.strides c.requires.rank in
    let cut : c.cut_from.result ≡ first_cut (type_size v.kind) h.bytes (cell_offsets h v c.args.asked.now.start.now c.args.asked.now.count.now c.args.asked.now.stride.now) =
    cut_found h v c.args.asked.now.start.now c.args.asked.now.count.now c.args.asked.now.stride.now c.in_ok-axes.axes.items c.deref.result.now c.width-size.result c.bytes-end.result c.from-base.result c.cut_from.result l
    c.deref.ensures.value c.width-size.ensures.is c.bytes-end.ensures (c.from-base.ensures ∙ c.begin.ensures) small c.cut_from.ensures in
    cut_early _ c.in-Some.at (sym c.in-Some.is ∙ cut)

pub returns-in-Some-clause-told : goal.returns-in-Some-clause-told
returns-in-Some-clause-told g c = λ bytes there is.
    let h = c.args.header.now in
    let v = variable_at c.args.header.now c.args.v in
    let small : c.bytes-end.result < 2 ^ 64 = search rules in
    let l = leads h v c.args.asked.now.start.now c.args.asked.now.count.now c.args.asked.now.stride.now c.in_ok-axes.axes.items c.in_ok-axes.ensures c.args.asked.now.counts c.args.asked.now.strides c.requires.rank in
    let cut : c.cut_from.result ≡ first_cut (type_size v.kind) h.bytes (cell_offsets h v c.args.asked.now.start.now c.args.asked.now.count.now c.args.asked.now.stride.now) =
    cut_found h v c.args.asked.now.start.now c.args.asked.now.count.now c.args.asked.now.stride.now c.in_ok-axes.axes.items c.deref.result.now c.width-size.result c.bytes-end.result c.from-base.result c.cut_from.result l
    c.deref.ensures.value c.width-size.ensures.is c.bytes-end.ensures (c.from-base.ensures ∙ c.begin.ensures) small c.cut_from.ensures in
    ap (λ o. or_else (option_map faults.Cut o) (negative_fault c.args.asked.now.signed (slab_numbers bytes h v c.args.asked.now.start.now c.args.asked.now.count.now c.args.asked.now.stride.now))) (sym cut ∙ c.in-Some.is)

pub last_end-requires : goal.last_end-requires
last_end-requires g c =
    let h = c.args.header.now in
    let v = variable_at c.args.header.now c.args.v in
    let small : c.bytes-end.result < 2 ^ 64 = search rules in
    let l = leads h v c.args.asked.now.start.now c.args.asked.now.count.now c.args.asked.now.stride.now c.in_ok-axes.axes.items c.in_ok-axes.ensures c.args.asked.now.counts c.args.asked.now.strides c.requires.rank in
    let cut : c.cut_from.result ≡ first_cut (type_size v.kind) h.bytes (cell_offsets h v c.args.asked.now.start.now c.args.asked.now.count.now c.args.asked.now.stride.now) =
    cut_found h v c.args.asked.now.start.now c.args.asked.now.count.now c.args.asked.now.stride.now c.in_ok-axes.axes.items c.deref.result.now c.width-size.result c.bytes-end.result c.from-base.result c.cut_from.result l
    c.deref.ensures.value c.width-size.ensures.is c.bytes-end.ensures (c.from-base.ensures ∙ c.begin.ensures) small c.cut_from.ensures in
    let none = sym cut ∙ c.in_default.is in
    room_found h v c.args.asked.now.start.now c.args.asked.now.count.now c.args.asked.now.stride.now c.in_ok-axes.axes.items c.deref-2.result.now c.width-size.result c.bytes-end.result c.from-base.result l
    c.deref-2.ensures.value c.width-size.ensures.is c.bytes-end.ensures (c.from-base.ensures ∙ c.begin.ensures) small none

pub read_cells-requires-clause-some : goal.read_cells-requires-clause-some
read_cells-requires-clause-some g c =
    let h = c.args.header.now in
    let v = variable_at c.args.header.now c.args.v in
    let ws = pitches h.dims h.vars v in
    subst (λ l. 1 ≤ length l) (sym c.deref-3.ensures.value)
    (some_axes c.in_ok-axes.axes.items c.args.asked.now.start.now c.args.asked.now.count.now c.args.asked.now.stride.now (saturate_all ws) c.in_ok-axes.ensures c.args.asked.now.some c.args.asked.now.counts c.args.asked.now.strides
    (length-capped ws ∙ length-pitches h.dims h.vars v ∙ c.requires.rank))

pub read_cells-requires-clause-within : goal.read_cells-requires-clause-within
read_cells-requires-clause-within g c =
    subst (λ l. HaveRoom c.width-size.result c.last_end.result (walk (steps_of l) c.from-base.result)) (c.deref-2.ensures.value ∙ sym c.deref-3.ensures.value) c.last_end.ensures.within

pub array_of-requires-clause-many : goal.array_of-requires-clause-many
array_of-requires-clause-many g c =
    let h = c.args.header.now in
    let v = variable_at c.args.header.now c.args.v in
    let small : c.bytes-end.result < 2 ^ 64 = search rules in
    let l = leads h v c.args.asked.now.start.now c.args.asked.now.count.now c.args.asked.now.stride.now c.in_ok-axes.axes.items c.in_ok-axes.ensures c.args.asked.now.counts c.args.asked.now.strides c.requires.rank in
    let cut : c.cut_from.result ≡ first_cut (type_size v.kind) h.bytes (cell_offsets h v c.args.asked.now.start.now c.args.asked.now.count.now c.args.asked.now.stride.now) =
    cut_found h v c.args.asked.now.start.now c.args.asked.now.count.now c.args.asked.now.stride.now c.in_ok-axes.axes.items c.deref.result.now c.width-size.result c.bytes-end.result c.from-base.result c.cut_from.result l
    c.deref.ensures.value c.width-size.ensures.is c.bytes-end.ensures (c.from-base.ensures ∙ c.begin.ensures) small c.cut_from.ensures in
    let none = sym cut ∙ c.in_default.is in
    let visited = walk_found h v c.args.asked.now.start.now c.args.asked.now.count.now c.args.asked.now.stride.now c.in_ok-axes.axes.items c.deref-3.result.now c.bytes-end.result c.from-base.result l
    c.deref-3.ensures.value c.bytes-end.ensures (c.from-base.ensures ∙ c.begin.ensures) small none in
    omega (arith, c.in-Ok.ensures.many, ap length c.new-none.ensures, ap length visited, places_many h v c.args.asked.now.start.now c.args.asked.now.count.now c.args.asked.now.stride.now)

pub returns-in-Ok-clause-early : goal.returns-in-Ok-clause-early
returns-in-Ok-clause-early g c =
    let h = c.args.header.now in
    let v = variable_at c.args.header.now c.args.v in
    let small : c.bytes-end.result < 2 ^ 64 = search rules in
    let l = leads h v c.args.asked.now.start.now c.args.asked.now.count.now c.args.asked.now.stride.now c.in_ok-axes.axes.items c.in_ok-axes.ensures c.args.asked.now.counts c.args.asked.now.strides c.requires.rank in
    let cut : c.cut_from.result ≡ first_cut (type_size v.kind) h.bytes (cell_offsets h v c.args.asked.now.start.now c.args.asked.now.count.now c.args.asked.now.stride.now) =
    cut_found h v c.args.asked.now.start.now c.args.asked.now.count.now c.args.asked.now.stride.now c.in_ok-axes.axes.items c.deref.result.now c.width-size.result c.bytes-end.result c.from-base.result c.cut_from.result l
    c.deref.ensures.value c.width-size.ensures.is c.bytes-end.ensures (c.from-base.ensures ∙ c.begin.ensures) small c.cut_from.ensures in
    let none = sym cut ∙ c.in_default.is in
    early-none _ _ (ap (option_map faults.Cut) none)

pub returns-in-Ok-clause-told : goal.returns-in-Ok-clause-told
returns-in-Ok-clause-told g c = λ bytes there is.
    let h = c.args.header.now in
    let v = variable_at c.args.header.now c.args.v in
    let small : c.bytes-end.result < 2 ^ 64 = search rules in
    let l = leads h v c.args.asked.now.start.now c.args.asked.now.count.now c.args.asked.now.stride.now c.in_ok-axes.axes.items c.in_ok-axes.ensures c.args.asked.now.counts c.args.asked.now.strides c.requires.rank in
    let cut : c.cut_from.result ≡ first_cut (type_size v.kind) h.bytes (cell_offsets h v c.args.asked.now.start.now c.args.asked.now.count.now c.args.asked.now.stride.now) =
    cut_found h v c.args.asked.now.start.now c.args.asked.now.count.now c.args.asked.now.stride.now c.in_ok-axes.axes.items c.deref.result.now c.width-size.result c.bytes-end.result c.from-base.result c.cut_from.result l
    c.deref.ensures.value c.width-size.ensures.is c.bytes-end.ensures (c.from-base.ensures ∙ c.begin.ensures) small c.cut_from.ensures in
    let none = sym cut ∙ c.in_default.is in
    let visited = walk_found h v c.args.asked.now.start.now c.args.asked.now.count.now c.args.asked.now.stride.now c.in_ok-axes.axes.items c.deref-3.result.now c.bytes-end.result c.from-base.result l
    c.deref-3.ensures.value c.bytes-end.ensures (c.from-base.ensures ∙ c.begin.ensures) small none in
    let r = c.in-Ok.ensures.told bytes there (omega (arith, is, c.bytes-end.ensures, c.last_end.ensures.is)) (c.new-window.ensures bytes) in
    let a = read_all c.args.asked.now.signed (slab_numbers bytes h v c.args.asked.now.start.now c.args.asked.now.count.now c.args.asked.now.stride.now) c.args.asked.now.count.now c.in-Ok.cells (goes_as c.args.asked.now.signed bytes c.kind.result v.kind _ (cell_offsets h v c.args.asked.now.start.now c.args.asked.now.count.now c.args.asked.now.stride.now) c.new-none.result (Ok c.in-Ok.cells) c.kind.ensures visited c.new-none.ensures r.0) in
    (ap (λ o. or_else (option_map faults.Cut o) (negative_fault c.args.asked.now.signed (slab_numbers bytes h v c.args.asked.now.start.now c.args.asked.now.count.now c.args.asked.now.stride.now))) none ∙ a.0, a.1 ∙ ap Some (sym c.in_ok-array_of-in-Ok.ensures.made))

pub returns-clause-early : goal.returns-clause-early
returns-clause-early g c =
    let h = c.args.header.now in
    let v = variable_at c.args.header.now c.args.v in
    let small : c.bytes-end.result < 2 ^ 64 = search rules in
    let l = leads h v c.args.asked.now.start.now c.args.asked.now.count.now c.args.asked.now.stride.now c.in_ok-axes.axes.items c.in_ok-axes.ensures c.args.asked.now.counts c.args.asked.now.strides c.requires.rank in
    let cut : c.cut_from.result ≡ first_cut (type_size v.kind) h.bytes (cell_offsets h v c.args.asked.now.start.now c.args.asked.now.count.now c.args.asked.now.stride.now) =
    cut_found h v c.args.asked.now.start.now c.args.asked.now.count.now c.args.asked.now.stride.now c.in_ok-axes.axes.items c.deref.result.now c.width-size.result c.bytes-end.result c.from-base.result c.cut_from.result l
    c.deref.ensures.value c.width-size.ensures.is c.bytes-end.ensures (c.from-base.ensures ∙ c.begin.ensures) small c.cut_from.ensures in
    let none = sym cut ∙ c.in_default.is in
    early-none _ _ (ap (option_map faults.Cut) none)

pub returns-clause-told : goal.returns-clause-told
returns-clause-told g c = λ bytes there is.
    let h = c.args.header.now in
    let v = variable_at c.args.header.now c.args.v in
    let small : c.bytes-end.result < 2 ^ 64 = search rules in
    let l = leads h v c.args.asked.now.start.now c.args.asked.now.count.now c.args.asked.now.stride.now c.in_ok-axes.axes.items c.in_ok-axes.ensures c.args.asked.now.counts c.args.asked.now.strides c.requires.rank in
    let cut : c.cut_from.result ≡ first_cut (type_size v.kind) h.bytes (cell_offsets h v c.args.asked.now.start.now c.args.asked.now.count.now c.args.asked.now.stride.now) =
    cut_found h v c.args.asked.now.start.now c.args.asked.now.count.now c.args.asked.now.stride.now c.in_ok-axes.axes.items c.deref.result.now c.width-size.result c.bytes-end.result c.from-base.result c.cut_from.result l
    c.deref.ensures.value c.width-size.ensures.is c.bytes-end.ensures (c.from-base.ensures ∙ c.begin.ensures) small c.cut_from.ensures in
    let none = sym cut ∙ c.in_default.is in
    let visited = walk_found h v c.args.asked.now.start.now c.args.asked.now.count.now c.args.asked.now.stride.now c.in_ok-axes.axes.items c.deref-3.result.now c.bytes-end.result c.from-base.result l
    c.deref-3.ensures.value c.bytes-end.ensures (c.from-base.ensures ∙ c.begin.ensures) small none in
    let r = c.in-Err.ensures.told bytes there (omega (arith, is, c.bytes-end.ensures, c.last_end.ensures.is)) (c.new-window.ensures bytes) in
    subst (λ o. IsSlabAnswer (or_else (option_map faults.Cut o) (negative_fault c.args.asked.now.signed (slab_numbers bytes h v c.args.asked.now.start.now c.args.asked.now.count.now c.args.asked.now.stride.now)))
    (slab bytes h v c.args.asked.now.start.now c.args.asked.now.count.now c.args.asked.now.stride.now c.args.asked.now.signed) (Err c.in-Err.fault)) (sym none)
    (read_some c.args.asked.now.signed (slab_numbers bytes h v c.args.asked.now.start.now c.args.asked.now.count.now c.args.asked.now.stride.now) (slab bytes h v c.args.asked.now.start.now c.args.asked.now.count.now c.args.asked.now.stride.now c.args.asked.now.signed) c.in-Err.fault (goes_as c.args.asked.now.signed bytes c.kind.result v.kind _ (cell_offsets h v c.args.asked.now.start.now c.args.asked.now.count.now c.args.asked.now.stride.now) c.new-none.result (Err c.in-Err.fault) c.kind.ensures visited c.new-none.ensures r.0))

pub returns-in_err-array_of-in-Ok-clause-untouched : goal.returns-in_err-array_of-in-Ok-clause-untouched
returns-in_err-array_of-in-Ok-clause-untouched g c = λ f e.
    let h = c.args.header.now in
    let v = variable_at c.args.header.now c.args.v in
    let small : c.bytes-end.result < 2 ^ 64 = search rules in
    let l = leads h v c.args.asked.now.start.now c.args.asked.now.count.now c.args.asked.now.stride.now c.in_ok-axes.axes.items c.in_ok-axes.ensures c.args.asked.now.counts c.args.asked.now.strides c.requires.rank in
    let cut : c.cut_from.result ≡ first_cut (type_size v.kind) h.bytes (cell_offsets h v c.args.asked.now.start.now c.args.asked.now.count.now c.args.asked.now.stride.now) =
    cut_found h v c.args.asked.now.start.now c.args.asked.now.count.now c.args.asked.now.stride.now c.in_ok-axes.axes.items c.deref.result.now c.width-size.result c.bytes-end.result c.from-base.result c.cut_from.result l
    c.deref.ensures.value c.width-size.ensures.is c.bytes-end.ensures (c.from-base.ensures ∙ c.begin.ensures) small c.cut_from.ensures in
    let none = sym cut ∙ c.in_default.is in
    absurd (none-some f (sym (ap (option_map faults.Cut) none) ∙ e))

pub returns-in-Ok-clause-untouched : goal.returns-in-Ok-clause-untouched
returns-in-Ok-clause-untouched g c = λ f e.
    let h = c.args.header.now in
    let v = variable_at c.args.header.now c.args.v in
    let small : c.bytes-end.result < 2 ^ 64 = search rules in
    let l = leads h v c.args.asked.now.start.now c.args.asked.now.count.now c.args.asked.now.stride.now c.in_ok-axes.axes.items c.in_ok-axes.ensures c.args.asked.now.counts c.args.asked.now.strides c.requires.rank in
    let cut : c.cut_from.result ≡ first_cut (type_size v.kind) h.bytes (cell_offsets h v c.args.asked.now.start.now c.args.asked.now.count.now c.args.asked.now.stride.now) =
    cut_found h v c.args.asked.now.start.now c.args.asked.now.count.now c.args.asked.now.stride.now c.in_ok-axes.axes.items c.deref.result.now c.width-size.result c.bytes-end.result c.from-base.result c.cut_from.result l
    c.deref.ensures.value c.width-size.ensures.is c.bytes-end.ensures (c.from-base.ensures ∙ c.begin.ensures) small c.cut_from.ensures in
    let none = sym cut ∙ c.in_default.is in
    absurd (none-some f (sym (ap (option_map faults.Cut) none) ∙ e))

pub returns-clause-untouched : goal.returns-clause-untouched
returns-clause-untouched g c = λ f e.
    let h = c.args.header.now in
    let v = variable_at c.args.header.now c.args.v in
    let small : c.bytes-end.result < 2 ^ 64 = search rules in
    let l = leads h v c.args.asked.now.start.now c.args.asked.now.count.now c.args.asked.now.stride.now c.in_ok-axes.axes.items c.in_ok-axes.ensures c.args.asked.now.counts c.args.asked.now.strides c.requires.rank in
    let cut : c.cut_from.result ≡ first_cut (type_size v.kind) h.bytes (cell_offsets h v c.args.asked.now.start.now c.args.asked.now.count.now c.args.asked.now.stride.now) =
    cut_found h v c.args.asked.now.start.now c.args.asked.now.count.now c.args.asked.now.stride.now c.in_ok-axes.axes.items c.deref.result.now c.width-size.result c.bytes-end.result c.from-base.result c.cut_from.result l
    c.deref.ensures.value c.width-size.ensures.is c.bytes-end.ensures (c.from-base.ensures ∙ c.begin.ensures) small c.cut_from.ensures in
    let none = sym cut ∙ c.in_default.is in
    absurd (none-some f (sym (ap (option_map faults.Cut) none) ∙ e))

pub returns-clause-late : goal.returns-clause-late
returns-clause-late g c =
    let h = c.args.header.now in
    let v = variable_at c.args.header.now c.args.v in
    let small : c.bytes-end.result < 2 ^ 64 = search rules in
    let l = leads h v c.args.asked.now.start.now c.args.asked.now.count.now c.args.asked.now.stride.now c.in_ok-axes.axes.items c.in_ok-axes.ensures c.args.asked.now.counts c.args.asked.now.strides c.requires.rank in
    let cut : c.cut_from.result ≡ first_cut (type_size v.kind) h.bytes (cell_offsets h v c.args.asked.now.start.now c.args.asked.now.count.now c.args.asked.now.stride.now) =
    cut_found h v c.args.asked.now.start.now c.args.asked.now.count.now c.args.asked.now.stride.now c.in_ok-axes.axes.items c.deref.result.now c.width-size.result c.bytes-end.result c.from-base.result c.cut_from.result l
    c.deref.ensures.value c.width-size.ensures.is c.bytes-end.ensures (c.from-base.ensures ∙ c.begin.ensures) small c.cut_from.ensures in
    let none = sym cut ∙ c.in_default.is in
    let visited = walk_found h v c.args.asked.now.start.now c.args.asked.now.count.now c.args.asked.now.stride.now c.in_ok-axes.axes.items c.deref-3.result.now c.bytes-end.result c.from-base.result l
    c.deref-3.ensures.value c.bytes-end.ensures (c.from-base.ensures ∙ c.begin.ensures) small none in
    let many : length c.new-none.result + length (walk (steps_of c.deref-3.result.now) c.from-base.result) ≤ product c.args.asked.now.count.now = omega (arith, ap length c.new-none.ensures, ap length visited, places_many h v c.args.asked.now.start.now c.args.asked.now.count.now c.args.asked.now.stride.now) in
    late_more c.args.asked.now.signed _ (product c.args.asked.now.count.now) c.in-Err.fault many c.in-Err.ensures.late
