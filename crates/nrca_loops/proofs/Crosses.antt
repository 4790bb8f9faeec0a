-- What is held may be lent to several threads. Its parts stand apart, since a search that goes down through them runs out of steps.
use denote.Ref.{NamedLft}
use denote.Struct.Field.{shr_ref_field}
use denote.Param.Send.{IsSync, sendable}
use Rattle.std.proofs.Crossing.{crosses}
use Rattle.aql_value.proofs.value.Ascending.TheLaws.TheKnot.{sync-Ascending, sync-Cells, sync-Items, sync-Parts}
use Rattle.aql_value.proofs.value.Dims.TheSendSync.{the_sync as dims-sync}
use Rattle.nrca_array.proofs.numbers.Numbers.TheSendSync.{the_sync as numbers-sync}
use Rattle.nrca_array.proofs.pairs.Pairs.TheSendSync.{the_sync as pairs-sync}
use Rattle.nrca_array.proofs.truths.Truths.TheSendSync.{the_sync as truths-sync}
use Rattle.nrca_array.specs.contracts.flat.Flat as Flat
use Rattle.nrca_array.specs.contracts.held.Held as Held
use Rattle.nrca_loops.specs.contracts.env.Env as Env
use Rattle.nrca_loops.specs.contracts.env.Globals as Globals
use Rattle.nrca_loops.specs.contracts.members.Members as Members
use Rattle.nrca_loops.proofs.env.Env.TheLaws.TheKnot.{sync-Env}
use Rattle.nrca_sets.specs.contracts.set.Set as Set

Set-sync : IsSync (Set.the_field).row
Set-sync = search (sendable, crosses, sync-Items) depth 20

Flat-sync : IsSync (Flat.the_field).row
Flat-sync = search (sendable, crosses, sync-Items, dims-sync, numbers-sync, pairs-sync, truths-sync) depth 20

pub Held-sync : IsSync (Held.the_field).row
Held-sync =
    let a : IsSync (Set.the_field).row = Set-sync in
    let b : IsSync (Flat.the_field).row = Flat-sync in
    search (sendable, crosses, sync-Ascending, sync-Cells, sync-Parts) depth 20 fits 5000

-- the same, as what lends it sees it
pub row-sync : IsSync Held.the_row
row-sync =
    let a : IsSync (Set.the_field).row = Set-sync in
    let b : IsSync (Flat.the_field).row = Flat-sync in
    search (sendable, crosses, sync-Ascending, sync-Cells, sync-Parts) depth 20 fits 5000

held-shared : (a : NamedLft) → IsSync (shr_ref_field a Held.the_row (tt {0})).row
held-shared a = let h : IsSync Held.the_row = row-sync in search sendable depth 20

-- variables may be lent to several threads
pub env-sync : (a : NamedLft) → IsSync (Env.the_field a).row
env-sync a = sync-Env a (held-shared a) (λ h s. search sendable) (search (sendable, crosses))

-- so may the outcomes of positions, and the members of a loop
pub globals-sync : IsSync Globals.the_row
globals-sync = let h : IsSync (Held.the_field).row = Held-sync in search (sendable, crosses) depth 40

pub members-sync : IsSync Members.the_row
members-sync = let h : IsSync (Set.the_field).row = Set-sync in search (sendable, crosses) depth 40
