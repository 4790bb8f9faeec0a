use Rattle.std.proofs.Common.{◌+◌, ◌<◌, ◌^◌, None, subst, arith}
use Rattle.aql_syntax.specs.Tree.{read}
use Rattle.aql_syntax.specs.View.{reader_of}
use Rattle.nrca_loops.specs.Values.{held_value}
use Rattle.aql_session.specs.Numbered.{so_far}
use Rattle.aql_session.specs.Executions.{IsExecution, budget_of, graphs_of, motion_of, declaration_of, declarations_at, sorts_at}
use Rattle.aql_session.specs.Step.{IsCause, ReadsNoFile}
use Rattle.aql_session.specs.declared.answer.Ran.TheVariants as ran
use Rattle.aql_session.proofs.Running.{same-position, reader-within, argument-typed, readval-run, readval-fits, readval-cause, readval-unread}
use Rattle.aql_session.proofs.executions.run_readval.Goals as goal

pub read_argument-requires-clause-within : goal.read_argument-requires-clause-within
read_argument-requires-clause-within g c =
    let k = c.requires.reads in
    let p = c.args.at.now in
    reader-within (declarations_at p) (sorts_at p) p.n c.args.globals.now c.requires.stands k.0 (reader_of c.args.reader.now) k.1 k.2

pub read_argument-requires-clause-typed : goal.read_argument-requires-clause-typed
read_argument-requires-clause-typed g c =
    let k = c.requires.reads in
    let p = c.args.at.now in
    let h = c.in-Ok.ensures.evaluated (read k.0 (reader_of c.args.reader.now) k.1) k.2 in
    argument-typed (declarations_at p) (sorts_at p) p.n c.args.globals.now c.requires.stands k.0 (reader_of c.args.reader.now) k.1 k.2
    (held_value c.in-Ok.field-0.value) h.value

pub overflow_add-result : goal.overflow_add-result
overflow_add-result g c =
    let k = c.requires.reads in
    let p = c.args.at.now in
    let h = c.in-Ok.ensures.evaluated (read k.0 (reader_of c.args.reader.now) k.1) k.2 in
    let l : c.in-Ok.field-0.turns + c.in-Ok-read_argument.field-0.turns < 2 ^ 128 =
    readval-fits k.0 (reader_of c.args.reader.now) k.1 (so_far p.decls.now c.args.globals.now) (motion_of p) (budget_of p) c.in-Ok.field-0 h
    (g.F.Files.holds c.args.files.now) c.in-Ok-read_argument.field-0 c.requires.budget c.in-Ok-read_argument.ensures.read in
    omega (arith, l)

pub returns-in-Ok-read_argument-clause-ran : goal.returns-in-Ok-read_argument-clause-ran
returns-in-Ok-read_argument-clause-ran g c = λ d e.
    let k = c.requires.reads in
    let p = c.args.at.now in
    let r = reader_of c.args.reader.now in
    let earlier = so_far p.decls.now c.args.globals.now in
    let h = c.in-Ok.ensures.evaluated (read k.0 r k.1) k.2 in
    let z = same-position (declaration_of p) (read k.0 r k.1) d k.2 e in
    let run = readval-run k.0 r k.1 earlier (motion_of p) (budget_of p) c.in-Ok.field-0 h (graphs_of p) (g.F.Files.holds c.args.files.now) c.in-Ok-read_argument.field-0 c.in-Ok-read_argument.ensures.read in
    subst (λ x. IsExecution x earlier (motion_of p) (graphs_of p) (budget_of p) (g.F.Files.holds c.args.files.now)
    (record { start = c.in-Ok.field-0.start; plan = c.in-Ok.field-0.plan; trace = c.in-Ok.field-0.trace; moved = c.in-Ok.field-0.moved; graph = None; by = ran.Read; turns = c.in-Ok.field-0.turns + c.in-Ok-read_argument.field-0.turns; value = c.in-Ok-read_argument.field-0.value })) z run

pub returns-in-Ok-read_argument-clause-untouched : goal.returns-in-Ok-read_argument-clause-untouched
returns-in-Ok-read_argument-clause-untouched g c = λ d e u.
    let k = c.requires.reads in
    let p = c.args.at.now in
    let r = reader_of c.args.reader.now in
    let earlier = so_far p.decls.now c.args.globals.now in
    let h = c.in-Ok.ensures.evaluated (read k.0 r k.1) k.2 in
    let z = same-position (declaration_of p) d (read k.0 r k.1) e k.2 in
    c.in-Ok-read_argument.ensures.untouched
    (readval-unread k.0 r k.1 earlier (motion_of p) (budget_of p) c.in-Ok.field-0 h (subst (λ x. ReadsNoFile x earlier (budget_of p)) z u))

pub returns-in-Err-read_argument-clause-cause : goal.returns-in-Err-read_argument-clause-cause
returns-in-Err-read_argument-clause-cause g c = λ d e.
    let k = c.requires.reads in
    let p = c.args.at.now in
    let r = reader_of c.args.reader.now in
    let earlier = so_far p.decls.now c.args.globals.now in
    let h = c.in-Ok.ensures.evaluated (read k.0 r k.1) k.2 in
    let z = same-position (declaration_of p) (read k.0 r k.1) d k.2 e in
    subst (λ x. IsCause x earlier (motion_of p) (budget_of p) (g.F.Files.holds c.args.files.now) (g.F.Files.faults c.args.files.now) (g.F.Files.faults c.read_argument.new.files) c.in-Err-read_argument.fault) z
    (readval-cause k.0 r k.1 earlier (motion_of p) (budget_of p) c.in-Ok.field-0 h (g.F.Files.holds c.args.files.now) (g.F.Files.faults c.args.files.now) (g.F.Files.faults c.read_argument.new.files)
    c.in-Err-read_argument.fault c.in-Err-read_argument.ensures.cause)

pub returns-in-Err-read_argument-clause-untouched : goal.returns-in-Err-read_argument-clause-untouched
returns-in-Err-read_argument-clause-untouched g c = λ d e u.
    let k = c.requires.reads in
    let p = c.args.at.now in
    let r = reader_of c.args.reader.now in
    let earlier = so_far p.decls.now c.args.globals.now in
    let h = c.in-Ok.ensures.evaluated (read k.0 r k.1) k.2 in
    let z = same-position (declaration_of p) d (read k.0 r k.1) e k.2 in
    c.in-Err-read_argument.ensures.untouched
    (readval-unread k.0 r k.1 earlier (motion_of p) (budget_of p) c.in-Ok.field-0 h (subst (λ x. ReadsNoFile x earlier (budget_of p)) z u))
