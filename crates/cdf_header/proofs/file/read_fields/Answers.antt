use Rattle.std.proofs.Common.{arith, ◌≡◌, Ok, Err, min, length, ap, sym, ◌∙◌, false, true}
use Rattle.std.proofs.lemmas.Result.{err_from_is_err_and}
use Rattle.std.proofs.lemmas.Grind.{common_steps}
use Rattle.cdf_header.specs.declared.fault.FieldFault.TheVariants.{Short, Malformed, TooMany}
use Rattle.cdf_header.specs.Format.{header, done, parse}
use Rattle.cdf_header.specs.File.{fields_answer, fields_of}
use Rattle.cdf_header.specs.Limits.{most_header_bytes}
use Rattle.cdf_header.proofs.Fronts.{final, whole, stopped, outside_answers}
use Rattle.cdf_header.proofs.Readings.{outside_of_header}
use Rattle.cdf_header.proofs.file.read_fields.Goals as goal
use Rattle.cdf_header.specs.declared.fault.ReadError.TheVariants as errors

pub returns-in-Ok-clause-told : goal.returns-in-Ok-clause-told
returns-in-Ok-clause-told g c = λ bytes there size full is.
    let told = c.fronts.invariant.told bytes there size full is in
    let e : parse (header c.args.size c.args.v done) c.fronts.front.items 4 ≡ Ok c.in-Ok.found = rw (← c.deref.ensures.value) (c.in-Ok.ensures.goes done) in
    ap fields_answer (final (header c.args.size c.args.v done) bytes c.fronts.front.items 4 (Ok c.in-Ok.found) told.0 (omega (arith, c.fronts.invariant.within, c.min-most.ensures)) e (λ s. s))

pub returns-in-Err-Fault-Malformed-clause-told : goal.returns-in-Err-Fault-Malformed-clause-told
returns-in-Err-Fault-Malformed-clause-told g c = λ bytes there size full is.
    let told = c.fronts.invariant.told bytes there size full is in
    let which : c.in-Err-Fault-Malformed.field-0 ≡ errors.Fault (Malformed c.in-Err-Fault-Malformed.at) = c.in-Err-Fault-Malformed.field-0-is ∙ ap errors.Fault c.in-Err-Fault-Malformed.field-0-0-is in
    let e : parse (header c.args.size c.args.v done) c.fronts.front.items 4 ≡ Err (Malformed c.in-Err-Fault-Malformed.at) = rw (← c.deref.ensures.value) (stopped (header c.args.size c.args.v) c.deref.result.now 4 c.in-Err-Fault-Malformed.field-0 (Malformed c.in-Err-Fault-Malformed.at) which c.in-Err-Fault-Malformed.ensures done) in
    ap fields_answer (final (header c.args.size c.args.v done) bytes c.fronts.front.items 4 (Err (Malformed c.in-Err-Fault-Malformed.at)) told.0 (omega (arith, c.fronts.invariant.within, c.min-most.ensures)) e (λ s. s))

pub returns-in-Err-Fault-TooMany-clause-told : goal.returns-in-Err-Fault-TooMany-clause-told
returns-in-Err-Fault-TooMany-clause-told g c = λ bytes there size full is.
    let told = c.fronts.invariant.told bytes there size full is in
    let which : c.in-Err-Fault-TooMany.field-0 ≡ errors.Fault (TooMany c.in-Err-Fault-TooMany.list) = c.in-Err-Fault-TooMany.field-0-is ∙ ap errors.Fault c.in-Err-Fault-TooMany.field-0-0-is in
    let e : parse (header c.args.size c.args.v done) c.fronts.front.items 4 ≡ Err (TooMany c.in-Err-Fault-TooMany.list) = rw (← c.deref.ensures.value) (stopped (header c.args.size c.args.v) c.deref.result.now 4 c.in-Err-Fault-TooMany.field-0 (TooMany c.in-Err-Fault-TooMany.list) which c.in-Err-Fault-TooMany.ensures done) in
    ap fields_answer (final (header c.args.size c.args.v done) bytes c.fronts.front.items 4 (Err (TooMany c.in-Err-Fault-TooMany.list)) told.0 (omega (arith, c.fronts.invariant.within, c.min-most.ensures)) e (λ s. s))

pub returns-then-ended-clause-told : goal.returns-then-ended-clause-told
returns-then-ended-clause-told g c = λ bytes there size full is.
    let told = c.fronts.invariant.told bytes there size full is in
    absurd (let no : true ≡ false = sym c.if-ended.true ∙ told.1 in cc)

pub returns-then-len-most-clause-told : goal.returns-then-len-most-clause-told
returns-then-len-most-clause-told g c = λ bytes there size full is.
    let told = c.fronts.invariant.told bytes there size full is in
    let which : c.in-Err-Fault-Short.field-0 ≡ errors.Fault (Short c.in-Err-Fault-Short.at) = c.in-Err-Fault-Short.field-0-is ∙ ap errors.Fault c.in-Err-Fault-Short.field-0-0-is in
    let e : parse (header c.args.size c.args.v done) c.fronts.front.items 4 ≡ Err (Short c.in-Err-Fault-Short.at) = rw (← c.deref.ensures.value) (stopped (header c.args.size c.args.v) c.deref.result.now 4 c.in-Err-Fault-Short.field-0 (Short c.in-Err-Fault-Short.at) which c.in-Err-Fault-Short.ensures done) in
    let all : length c.fronts.front.items ≡ min most_header_bytes (length bytes) = grind (arith, common_steps, size) in
    ap fields_answer (whole (header c.args.size c.args.v done) bytes c.fronts.front.items 4 (Err (Short c.in-Err-Fault-Short.at)) told.0 all e)

pub returns-in_err-ended-clause-told : goal.returns-in_err-ended-clause-told
returns-in_err-ended-clause-told g c = λ bytes there size full is.
    let p = err_from_is_err_and c.from_residual.result c.from_residual.ensures.1 in
    rw (p.1, p.2) (outside_answers (fields_of c.args.size c.args.v bytes) c.in_err-ended.field-0.0 c.in_err-ended.ensures.causes)

pub returns-in_err-ended-clause-causes : goal.returns-in_err-ended-clause-causes
returns-in_err-ended-clause-causes g c =
    let p = err_from_is_err_and c.from_residual.result c.from_residual.ensures.1 in
    rw (p.1, p.2) (outside_of_header c.in_err-ended.field-0.0 c.in_err-ended.ensures.causes)
