use Rattle.std.proofs.Common.{◌-◌, Result, Ok, Err, OnOk}
use Rattle.std.specs.Prelude.{IfOk, IsOk}
use Rattle.aql_session.specs.Bound.{outcomes}
use Rattle.aql_run.proofs.Prelude.{prelude_last, prelude_bound, prelude_types, prelude_unread, next_declared}
use Rattle.aql_run.proofs.steps.declare_next.Goals as goal

pub step-stepped-requires-clause-last : goal.step-stepped-requires-clause-last
step-stepped-requires-clause-last g c κs within = prelude_last c.args.script.now.prepared.now c.args.n c.requires.prepared c.requires.last

pub step-stepped-requires-clause-bound : goal.step-stepped-requires-clause-bound
step-stepped-requires-clause-bound g c κs within = prelude_bound c.args.script.now.prepared.now c.args.n c.args.session.now c.requires.prepared c.requires.first c.requires.so_far

pub step-stepped-requires-clause-types : goal.step-stepped-requires-clause-types
step-stepped-requires-clause-types g c κs within = prelude_types c.args.script.now.prepared.now (c.args.n - 1) c.args.session.now c.requires.prepared c.requires.so_far

on_done : {A B E F : Type 0} (made : Result A E) (told : Result B F) (P : A → Type 0) (Q : Type 0) → OnOk told (IsOk made) → IfOk made P → ((a : A) → P a → Q) → OnOk told Q
on_done (Ok x) (Ok y) P Q h p f = f x p
on_done (Err e) (Ok y) P Q h p f = cc
on_done (Ok x) (Err e) P Q h p f = tt
on_done (Err e) (Err d) P Q h p f = tt

pub returns-clause-made : goal.returns-clause-made
returns-clause-made g c =
    on_done c.step-stepped.result c.discard_made.result _ _ c.discard_made.ensures c.step-stepped.ensures.binds
    (λ a. next_declared c.args.script.now.prepared.now c.args.script.now.options.now.budget (g.F.Files.holds c.args.files.now) c.args.session.now c.step-stepped.new.self a
    c.args.n c.requires.prepared c.requires.first c.requires.last c.requires.so_far)

pub returns-clause-untouched : goal.returns-clause-untouched
returns-clause-untouched g c =
    let (d, there, reads) = prelude_unread c.args.script.now.prepared.now c.args.script.now.options.now.budget (outcomes c.args.session.now) c.args.n c.requires.prepared c.requires.first c.requires.last in
    c.step-stepped.ensures.untouched d there reads
