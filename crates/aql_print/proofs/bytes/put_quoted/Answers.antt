use Rattle.std.proofs.Common.{[], ◌∷◌, ◌++◌}
use Rattle.std.specs.List.{flat_map}
use Rattle.aql_print.specs.ValueText.{byte_text}
use Rattle.aql_print.specs.Laws.Prefix.{prefix_first, prefix_second}
use Rattle.aql_print.proofs.bytes.put_quoted.Goals as goal

pub returns-in_err-put-clause-prefix : goal.returns-in_err-put-clause-prefix
returns-in_err-put-clause-prefix c = prefix_first _ _ (34 ∷ []) (flat_map byte_text c.args.bytes.now ++ 34 ∷ []) c.put.ensures.prefix

pub returns-in_err-put_escaped-clause-prefix : goal.returns-in_err-put_escaped-clause-prefix
returns-in_err-put_escaped-clause-prefix c =
    prefix_second _ _ _ (34 ∷ []) (flat_map byte_text c.args.bytes.now ++ 34 ∷ []) c.in_ok-put.ensures.ok
    (prefix_first _ _ (flat_map byte_text c.args.bytes.now) (34 ∷ []) c.put_escaped.ensures.prefix)

pub returns-clause-prefix : goal.returns-clause-prefix
returns-clause-prefix c =
    prefix_second _ _ _ (34 ∷ []) (flat_map byte_text c.args.bytes.now ++ 34 ∷ []) c.in_ok-put.ensures.ok
    (prefix_second _ _ _ (flat_map byte_text c.args.bytes.now) (34 ∷ []) c.in_ok-put_escaped.ensures.ok c.put-2.ensures.prefix)
