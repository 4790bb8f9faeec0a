use Rattle.std.proofs.Common.{◌≡◌, true, false, refl, sym, ap, subst}
use Rattle.std.specs.Prelude.{Ok, Err}
use Rattle.aql_session.specs.Reading.{fault_in}
use Rattle.aql_session.specs.Executions.{slab_asked, IsFileCause}
use Rattle.aql_session.proofs.Opening.{says-of, nameless, file-at, failed, handed-cause}
use Rattle.aql_session.proofs.Requests.{header-version, header-request}
use Rattle.aql_session.proofs.readings.open.Goals as goal

pub returns-in-Some-clause-opened : goal.returns-in-Some-clause-opened
returns-in-Some-clause-opened g c =
    let a = slab_asked c.args.slab.now in
    record {
      variable = c.in-Some.ensures.within;
      told = λ files e.
          file-at a files (record { header = c.in-Ok.header; variable = c.in-Some.variable })
          (says-of a (g.F.Files.holds c.args.files.now) files (Ok c.in-Ok.header) e (λ bytes u. c.in-Ok.ensures.told u bytes) (λ q. (let z : false ≡ true = (c.in-Ok.ensures.absent q).1 in cc)) c.in-Ok.ensures.unnamed)
          c.in-Some.ensures.which;
    }

pub returns-in-None-clause-cause : goal.returns-in-None-clause-cause
returns-in-None-clause-cause g c =
    let a = slab_asked c.args.slab.now in (
      record { own = tt; unnamed = λ n. (let z = c.in-Ok.ensures.unnamed n in cc); version = tt; request = tt },
      λ files e.
          nameless a files c.in-Ok.header
          (says-of a (g.F.Files.holds c.args.files.now) files (Ok c.in-Ok.header) e (λ bytes u. c.in-Ok.ensures.told u bytes) (λ q. (let z : false ≡ true = (c.in-Ok.ensures.absent q).1 in cc)) c.in-Ok.ensures.unnamed)
          c.in-None.ensures.which,
    )

pub returns-in-Err-clause-cause : goal.returns-in-Err-clause-cause
returns-in-Err-clause-cause g c =
    let a = slab_asked c.args.slab.now in
    let holds = g.F.Files.holds c.args.files.now in
    let before = g.F.Files.faults c.args.files.now in
    let now = g.F.Files.faults c.read_header.new.files in
    subst (IsFileCause a holds before now) (sym c.hand_on.ensures)
    (handed-cause a holds before now c.in-Err.fault (λ q. c.in-Err.ensures.frame.blames.failed (ap Err q)) (λ n. (let z = c.in-Err.ensures.unnamed n in cc))
    (header-version c.in-Err.fault c.in-Err.ensures.causes) (header-request a.start a.count a.stride a.signed c.in-Err.fault c.in-Err.ensures.causes) (λ u files e.
    ap (fault_in a)
    (failed a files c.in-Err.fault u
    (says-of a holds files (Err c.in-Err.fault) e (λ bytes u. c.in-Err.ensures.told u bytes) (λ q. (c.in-Err.fault, refl, (c.in-Err.ensures.absent q).0)) c.in-Err.ensures.unnamed))))
