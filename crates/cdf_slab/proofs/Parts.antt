-- What is read before an earlier end is read before the end.
use Rattle.std.proofs.Common.{ℕ, List, map, Result, subst, arith}
use Rattle.aql_value.specs.Datum.{Datum}
use Rattle.cdf_header.specs.declared.fault.CdfFault.{CdfFault}
use Rattle.cdf_slab.specs.declared.format.CellFormat.{CellFormat}
use Rattle.cdf_slab.specs.declared.window.Window.{Window}
use Rattle.cdf_slab.specs.Going.{AppendsCells, IsPartOf, StaysKind, ReadsOffsets}
use Rattle.cdf_slab.specs.Numbers.{number_at}
use Rattle.cdf_slab.specs.Slab.{IsLate}

pub part_reads : (bytes : List ℕ) (whole part : CellFormat) (before now : Window) (places : List ℕ) (cells : List Datum) (r : Result (List Datum) CdfFault) → IsPartOf whole part →
    ReadsOffsets bytes part before now places cells r → ReadsOffsets bytes whole before now places cells r
part_reads bytes whole part before now places cells r p h = λ le is.
    let x = h (omega (arith, p.end, le)) is in (
      subst (λ b. AppendsCells b (map (number_at bytes whole.kind) places) cells r) p.signed
          (subst (λ k. AppendsCells part.signed (map (number_at bytes k) places) cells r) p.kind x.0),
      x.1,
    )

pub part_late : (whole part : CellFormat) (many : ℕ) (e : CdfFault) → IsPartOf whole part → IsLate part.signed many e → IsLate whole.signed many e
part_late whole part many e p late = subst (λ b. IsLate b many e) p.signed late

pub part_kinds : (whole part : CellFormat) (before : List Datum) (r : Result (List Datum) CdfFault) → IsPartOf whole part → StaysKind part.signed before r → StaysKind whole.signed before r
part_kinds whole part before r p k = subst (λ b. StaysKind b before r) p.signed k
