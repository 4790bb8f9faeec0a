use Rattle.std.proofs.Common.{◌+◌, ◌∷◌, ◌++◌, sym, ◌∙◌, ap, subst}
use Rattle.std.specs.Prelude.{slice_get}
use Rattle.aql_value.specs.Canon.{canon}
use Rattle.aql_value.specs.Meaning.{datum}
use Rattle.nrca_loops.specs.Runs.{member_list}
use Rattle.nrca_loops.specs.Walks.{both_rest, IsAt}
use Rattle.nrca_loops.proofs.Merged.{drop_is}
use Rattle.nrca_loops.proofs.members.Members.get.Goals as goal

pub returns-in_ok-taken-in-Both : goal.returns-in_ok-taken-in-Both
returns-in_ok-taken-in-Both c =
    let whole = canon (c.in-Both.left ++ c.in-Both.right) in
    let next = c.in_ok-taken-in-Both.taken.sides in
    let member = datum c.in_ok-taken-in-Both.taken.member in
    let place = subst (λ m. IsAt m c.args.at c.args.sides) c.in-Both.is c.requires.place in
    let r = drop_is whole c.args.at member (both_rest c.in-Both.left c.in-Both.right next.left next.right) (sym place ∙ c.in_ok-taken-in-Both.ensures) in
    (ap (λ m. slice_get (member_list m) c.args.at) c.in-Both.is ∙ r.0, subst (λ m. IsAt m (c.args.at + 1) next) (sym c.in-Both.is) (sym r.1))
