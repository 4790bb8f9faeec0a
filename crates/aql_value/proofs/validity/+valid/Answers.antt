use Rattle.std.proofs.Common.{◌^◌, ◌<◌, ◌≤◌, length, map, sym, ap, ◌∙◌, subst, arith}
use Rattle.std.specs.List.{All}
use Rattle.aql_value.specs.Datum.{data_of}
use Rattle.aql_value.specs.Laws.Datum.{list_of-data_of}
use Rattle.aql_value.specs.Meaning.{datum}
use Rattle.aql_value.specs.Canon.{IsAscending}
use Rattle.aql_value.specs.Indices.{IsTable}
use Rattle.aql_value.specs.Valid.{IsValue, AreValues}
use Rattle.aql_value.specs.Laws.Valid.{AreValues-take}
use Rattle.aql_value.specs.Laws.Meaning.{length_meaning, get_or_meaning}
use Rattle.aql_value.proofs.validity.+valid.Goals as goal

pub all_valid-loop-x-preserved : goal.all_valid-loop-x-preserved
all_valid-loop-x-preserved t c =
    let p = ap (map datum) c.deref-x-items.ensures.value ∙ c.items.view_is in
    AreValues-take c.args.items.now c.loop-x.x-index (datum c.x-item.result) (omega (arith, length_meaning _ _ p, c.loop-x-test.true)) (get_or_meaning _ _ _ _ p c.x-item.is) c.loop-x.invariant c.valid.ensures

pub valid-returns-in-Text : goal.valid-returns-in-Text
valid-returns-in-Text t c =
    subst (λ v. IsValue (datum v)) (sym c.in-Text.is)
    (subst (λ bs. All (λ b. b < 256) bs) (c.as_slice.ensures.value ∙ c.s.view_is) c.bytes_fit.ensures)

pub valid-returns-in-Row : goal.valid-returns-in-Row
valid-returns-in-Row t c =
    subst (λ v. IsValue (datum v)) (sym c.in-Row.is) (
      subst (λ xs. 2 ≤ length xs) (sym (list_of-data_of c.in-Row.p)) c.items.ensures.two,
      subst (λ xs. AreValues (data_of xs)) c.items.ensures.items c.all_valid.ensures,
    )

pub valid-returns-in-Members : goal.valid-returns-in-Members
valid-returns-in-Members t c =
    subst (λ v. IsValue (datum v)) (sym c.in-Members.is) (
      subst IsAscending (sym (list_of-data_of c.in-Members.m)) c.items-in-Members.ensures.ascending,
      subst (λ xs. AreValues (data_of xs)) c.items-in-Members.ensures.items c.all_valid-in-Members.ensures,
    )

pub valid-returns-in-Grid : goal.valid-returns-in-Grid
valid-returns-in-Grid t c =
    subst (λ v. IsValue (datum v)) (sym c.in-Grid.is) (
      subst (λ ds. All (λ d. d < 2 ^ 128) ds) (c.as_slice-in-Grid.ensures.value ∙ c.behind-c.view_is ∙ c.dims.ensures) c.numbers_fit.ensures,
      subst (λ xs. IsTable (record { dims = c.in-Grid.c.dims; cells = xs })) (sym (list_of-data_of c.in-Grid.c.cells)) c.items-in-Grid.ensures.table,
      subst (λ xs. AreValues (data_of xs)) c.items-in-Grid.ensures.items c.all_valid-in-Grid.ensures,
    )
