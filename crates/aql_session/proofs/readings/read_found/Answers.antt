use Rattle.std.proofs.Common.{sym, ap, subst, ◌∙◌}
use Rattle.std.specs.Prelude.{Err}
use Rattle.aql_outside.specs.Contents.{bytes_in}
use Rattle.cdf_header.specs.Places.{variable_at}
use Rattle.aql_session.specs.Executions.{slab_asked, IsFileCause}
use Rattle.aql_session.proofs.Opening.{slab-read, slab-failed, handed-cause, utf8-is}
use Rattle.aql_session.proofs.Requests.{slab-version}
use Rattle.aql_session.proofs.readings.read_found.Goals as goal

pub returns-in-Ok-clause-read : goal.returns-in-Ok-clause-read
returns-in-Ok-clause-read g c =
    let a = slab_asked c.args.slab.now in
    record {
      shaped = c.in-Ok.ensures.shaped;
      named = utf8-is a.file (λ n. (let z = c.in-Ok.ensures.unnamed n in cc));
      strides = c.in-Ok.ensures.strides;
      told = λ files e.
          let at = c.requires.opened.told files e in
          slab-read a files c.args.found.now at c.in-Ok.flat (c.in-Ok.ensures.told at.utf8 at.bytes (ap (λ o. bytes_in o a.file) e ∙ at.there) at.size);
    }

pub returns-in-Err-clause-cause : goal.returns-in-Err-clause-cause
returns-in-Err-clause-cause g c =
    let a = slab_asked c.args.slab.now in
    let holds = g.F.Files.holds c.args.files.now in
    let before = g.F.Files.faults c.args.files.now in
    let now = g.F.Files.faults c.read_slab.new.files in
    subst (IsFileCause a holds before now) (sym c.hand_on.ensures)
    (handed-cause a holds before now c.in-Err.fault (λ q. c.in-Err.ensures.frame.blames.failed (ap Err q)) (λ n. (let z = c.in-Err.ensures.unnamed n in cc))
    (slab-version a.file c.args.found.now.header (variable_at c.args.found.now.header c.args.found.now.variable) a.start a.count a.stride a.signed _ c.in-Err.fault c.in-Err.ensures.early c.in-Err.ensures.late (λ n. (let z = c.in-Err.ensures.unnamed n in cc))) c.in-Err.ensures.request (λ u files e.
    let at = c.requires.opened.told files e in
    slab-failed a files c.args.found.now at c.in-Err.fault u (c.in-Err.ensures.told at.utf8 at.bytes (ap (λ o. bytes_in o a.file) e ∙ at.there) at.size)))
