use Rattle.std.proofs.Common.{◌++◌, ◌∷◌, [], List, ℕ}
use Rattle.aql_value.specs.Datum.{Datum, data_of}
use Rattle.aql_print.specs.Joined.{join_texts}
use Rattle.aql_print.specs.ValueText.{texts}
use Rattle.aql_print.proofs.Chains.{then}
use Rattle.aql_print.specs.Laws.Prefix.{prefix_first, prefix_second, prefix_whole}
use Rattle.aql_print.proofs.held.put_set.Goals as goal

abbrev members_text : List Datum → List ℕ
members_text ms = join_texts (44 ∷ 32 ∷ []) (texts (data_of ms))

pub returns-in_err-put-clause-prefix : goal.returns-in_err-put-clause-prefix
returns-in_err-put-clause-prefix c = prefix_first _ _ (123 ∷ []) (members_text c.args.s.now ++ 125 ∷ []) c.put.ensures.prefix

pub returns-in_err-put_members-clause-prefix : goal.returns-in_err-put_members-clause-prefix
returns-in_err-put_members-clause-prefix c =
    let ms = members_text c.args.s.now in
    prefix_second _ _ _ (123 ∷ []) (ms ++ 125 ∷ []) c.in_ok-put.ensures.ok (prefix_first _ _ ms (125 ∷ []) c.put_members.ensures.prefix)

pub returns-in_err-put-2-clause-prefix : goal.returns-in_err-put-2-clause-prefix
returns-in_err-put-2-clause-prefix c =
    let ms = members_text c.args.s.now in
    prefix_second _ _ _ (123 ∷ []) (ms ++ 125 ∷ []) c.in_ok-put.ensures.ok (prefix_second _ _ _ ms (125 ∷ []) c.in_ok-put_members.ensures.ok c.put-2.ensures.prefix)

pub returns-clause-ok : goal.returns-clause-ok
returns-clause-ok c =
    let ms = members_text c.args.s.now in
    then _ _ _ (123 ∷ []) (ms ++ 125 ∷ []) c.in_ok-put.ensures.ok (then _ _ _ ms (125 ∷ []) c.in_ok-put_members.ensures.ok c.in_ok-put-2.ensures.ok)

pub returns-clause-prefix : goal.returns-clause-prefix
returns-clause-prefix c = prefix_whole _ _ _ (returns-clause-ok c)
