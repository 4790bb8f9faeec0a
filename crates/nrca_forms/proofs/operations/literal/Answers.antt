use Rattle.std.proofs.Common.{◌≤◌, length, Some, sym, ◌∙◌, ap, arith}
use Rattle.nrca_loops.specs.Parts.{table_in}
use Rattle.nrca_forms.proofs.Strictly.{literal_none, literal_made}
use Rattle.nrca_forms.proofs.operations.literal.Goals as goal

pub returns : goal.returns
returns c =
    let ds = sym c.in_ok-dims.ensures ∙ c.in-Some.is in
    let within : c.args.rank ≤ length c.args.parts.items = omega (arith, c.requires, c.args.parts.ok.0) in
    let whole = literal_made c.args.parts.items c.split_off.new.self.items c.in_ok-back.back.items c.args.rank within c.in_ok-back.ensures.items c.in_ok-back.ensures.tail c.in-Some.dims ds in
    c.in_ok-found.ensures ∙ ap (λ l. table_in c.in-Some.dims (Some l)) c.in_ok-cells.ensures ∙ sym whole

pub returns-in_default : goal.returns-in_default
returns-in_default c =
    let ds = sym c.in_ok-dims.ensures ∙ c.in_default.is in
    let within : c.args.rank ≤ length c.args.parts.items = omega (arith, c.requires, c.args.parts.ok.0) in
    sym (literal_none c.args.parts.items c.split_off.new.self.items c.in_ok-back.back.items c.args.rank within c.in_ok-back.ensures.items c.in_ok-back.ensures.tail ds)
