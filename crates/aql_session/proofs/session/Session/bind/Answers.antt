use Rattle.std.proofs.Common.{◌∙◌, ◌++◌, ◌∷◌, [], ap, subst, sym}
use Rattle.std.specs.Option.{ForSome}
use Rattle.aql_value.specs.Valid.{IsValue}
use Rattle.nrca_loops.specs.Values.{held_value}
use Rattle.nrca_ranges.specs.Shapes.{bounds_there, shapes_in}
use Rattle.nrca_encoded.specs.Encodings.{AreEncodings}
use Rattle.nrca_encoded.specs.Laws.Encodings.{one-more-outcome}
use Rattle.aql_session.specs.Known.{HasShapeThere, kept_of}
use Rattle.aql_session.proofs.Binding.{lengths-push, view-push}
use Rattle.aql_session.proofs.Knowing.{known-push}
use Rattle.aql_session.proofs.session.Session.bind.Goals as goal

pub invariant_of-self-2 : goal.invariant_of-self-2
invariant_of-self-2 c =
    let p = c.in_ok-push_entry.ensures in
    let old = c.self.inside in
    let new = c.push_entry.new in
    let entry = c.in_ok-entry.entry in (
      lengths-push old.names new.names old.globals new.globals c.args.name.now (held_value entry.value) c.self.invariant.0 p.named p.pushed,
      known-push (shapes_in old.shapes) (shapes_in new.shapes) old.globals new.globals (bounds_there entry.shape) (held_value entry.value) c.self.invariant.1 p.shaped p.pushed
          (subst (HasShapeThere (bounds_there entry.shape)) (sym c.in_ok-entry.ensures.value) c.in_ok-entry.ensures.shape)
          (c.in_ok-entry.ensures.exact ∙ ap kept_of (sym c.in_ok-entry.ensures.value))
          (subst (λ o. ForSome o IsValue) (sym c.in_ok-entry.ensures.value) c.requires.valid),
      subst (λ V. AreEncodings V old.encodings) (sym p.pushed) (one-more-outcome old.globals old.encodings (held_value entry.value) c.self.invariant.2),
    )

pub returns-clause-bound : goal.returns-clause-bound
returns-clause-bound c =
    let p = c.in_ok-push_entry.ensures in
    let old = c.self.inside in
    let new = c.push_entry.new in
    let entry = c.in_ok-entry.entry in
    view-push old.names new.names old.globals new.globals c.args.name.now (held_value entry.value) c.self.invariant.0 p.named p.pushed
    ∙ ap (λ b. b ++ (c.args.name.now, held_value entry.value) ∷ []) c.self.view_is
    ∙ ap (λ o. c.args.self.now ++ (c.args.name.now, o) ∷ []) c.in_ok-entry.ensures.value
