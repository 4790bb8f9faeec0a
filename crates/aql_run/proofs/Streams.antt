-- Reading, piece after piece.
use Rattle.std.proofs.Common.{◌≤◌, ℕ, List, [], ◌++◌, length, arith, length-append}
use Rattle.std.specs.Prelude.{Option}
use Rattle.std.proofs.lemmas.Grind.{common_steps}
use Rattle.std.specs.Io.KnownBytes.{Consumes}
use Rattle.std.proofs.KnownBytes.{Consumes-trans}
use Rattle.aql_run.specs.Reading.{most_bytes, PieceFails, ReadFails}
use Rattle.aql_run.specs.declared.reading.ReadFault.{ReadFault}
use Rattle.aql_run.specs.declared.reading.ReadFault.TheVariants.{Memory, Long, Failed}

-- a fault of a piece is one of the whole
pub fails_after : (a b c : Option (List ℕ)) (bytes : List ℕ) (e : ReadFault) → Consumes a b bytes → length bytes ≤ most_bytes → PieceFails b c bytes e → ReadFails a c e
fails_after a b c bytes Memory h small (piece, p, fits) = (bytes ++ piece, Consumes-trans a b c bytes piece h p, omega (arith, length-append bytes piece, fits))
fails_after a b c bytes Long h small p = absurd p
fails_after a b c bytes Failed h small p =
    let all : Consumes a c (bytes ++ []) = Consumes-trans a b c bytes [] h p in
    (bytes ++ [], all, grind (arith, common_steps, small))
