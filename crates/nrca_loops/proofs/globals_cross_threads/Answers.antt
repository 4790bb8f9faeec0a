-- A value that is held is deep, so that the search is given more steps.
use denote.Param.Send.{IsSync, sendable}
use Rattle.std.proofs.Crossing.{crosses}
use Rattle.nrca_array.specs.contracts.held.Held as Held
use Rattle.nrca_loops.proofs.Crosses.{Held-sync}
use Rattle.nrca_loops.proofs.globals_cross_threads.Goals as goal

pub crosses_threads-requires-sync-T : goal.crosses_threads-requires-sync-T
crosses_threads-requires-sync-T c κs = let h : IsSync (Held.the_field).row = Held-sync in search (sendable, crosses) depth 40
