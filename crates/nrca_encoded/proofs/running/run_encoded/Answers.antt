use Rattle.std.proofs.lemmas.Result.{IfOk-weaker}
use Rattle.nrca_loops.specs.Values.{held_value}
use Rattle.nrca_term.specs.View.{term_of}
use Rattle.nrca_encoded.specs.Graphs.{HasValue, RunsEncoded}
use Rattle.nrca_encoded.proofs.Coming.{spent-is, value-is}
use Rattle.nrca_encoded.proofs.running.run_encoded.Goals as goal

pub returns-in-Ok-clause-ran : goal.returns-in-Ok-clause-ran
returns-in-Ok-clause-ran g c =
    let V = c.args.globals.now in
    let t = term_of c.args.term.now in
    IfOk-weaker c.ran_with.result (HasValue (held_value c.in-Ok.done.value)) (RunsEncoded V c.args.budget t)
    (λ r h. value-is V c.encode_positions.new.encodings t c.in_ok-encode_positions.ensures.used c.args.budget (held_value c.in-Ok.done.value) r c.in-Ok.ensures.0 c.in-Ok.ensures.2 h)
    c.ran_with.ensures

pub returns-in-Err-Spent-clause-ran : goal.returns-in-Err-Spent-clause-ran
returns-in-Err-Spent-clause-ran g c =
    spent-is c.args.globals.now c.encode_positions.new.encodings (term_of c.args.term.now) c.in_ok-encode_positions.ensures.used c.args.budget
    (c.in-Err-Spent.ensures c.in-Err-Spent.field-0-is)
