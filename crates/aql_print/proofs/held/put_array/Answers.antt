use Rattle.std.proofs.Common.{◌++◌, ◌∷◌, [], List, ℕ, ap, ◌∙◌, subst}
use Rattle.aql_value.specs.Datum.{data_of, Table}
use Rattle.aql_print.specs.Appends.{AppendsPrefix}
use Rattle.aql_print.specs.Joined.{join_texts}
use Rattle.aql_print.specs.ValueText.{texts, dims_text}
use Rattle.aql_print.proofs.Chains.{then}
use Rattle.aql_print.specs.Laws.Prefix.{prefix_first, prefix_second, prefix_whole}
use Rattle.aql_print.proofs.held.put_array.Goals as goal

-- the cells, and what stands behind them
abbrev cells_text : Table → List ℕ
cells_text a = join_texts (44 ∷ 32 ∷ []) (texts (data_of a.cells))

abbrev rest_text : Table → List ℕ
rest_text a = 59 ∷ 32 ∷ (cells_text a ++ 93 ∷ 93 ∷ [])

pub returns-in_err-put-clause-prefix : goal.returns-in_err-put-clause-prefix
returns-in_err-put-clause-prefix c = prefix_first _ _ (91 ∷ 91 ∷ []) (dims_text c.args.a.now.dims ++ rest_text c.args.a.now) c.put.ensures.prefix

pub returns-in_err-put_dims-clause-prefix : goal.returns-in_err-put_dims-clause-prefix
returns-in_err-put_dims-clause-prefix c =
    let a = c.args.a.now in
    prefix_second _ _ _ (91 ∷ 91 ∷ []) (dims_text a.dims ++ rest_text a) c.in_ok-put.ensures.ok
    (prefix_first _ _ (dims_text a.dims) (rest_text a) (subst (λ ds. AppendsPrefix c.put.new.out.items c.put_dims.new.out.items (dims_text ds)) c.dims.ensures.dims c.put_dims.ensures.prefix))

pub returns-in_err-put-2-clause-prefix : goal.returns-in_err-put-2-clause-prefix
returns-in_err-put-2-clause-prefix c =
    let a = c.args.a.now in
    prefix_second _ _ _ (91 ∷ 91 ∷ []) (dims_text a.dims ++ rest_text a) c.in_ok-put.ensures.ok
    (prefix_second _ _ _ (dims_text a.dims) (rest_text a) (c.in_ok-put_dims.ensures.ok ∙ ap (λ ds. c.put.new.out.items ++ dims_text ds) c.dims.ensures.dims)
    (prefix_first _ _ (59 ∷ 32 ∷ []) (cells_text a ++ 93 ∷ 93 ∷ []) c.put-2.ensures.prefix))

pub returns-in_err-put_cells-clause-prefix : goal.returns-in_err-put_cells-clause-prefix
returns-in_err-put_cells-clause-prefix c =
    let a = c.args.a.now in
    prefix_second _ _ _ (91 ∷ 91 ∷ []) (dims_text a.dims ++ rest_text a) c.in_ok-put.ensures.ok
    (prefix_second _ _ _ (dims_text a.dims) (rest_text a) (c.in_ok-put_dims.ensures.ok ∙ ap (λ ds. c.put.new.out.items ++ dims_text ds) c.dims.ensures.dims)
    (prefix_second _ _ _ (59 ∷ 32 ∷ []) (cells_text a ++ 93 ∷ 93 ∷ []) c.in_ok-put-2.ensures.ok (prefix_first _ _ (cells_text a) (93 ∷ 93 ∷ []) c.put_cells.ensures.prefix)))

pub returns-in_err-put-3-clause-prefix : goal.returns-in_err-put-3-clause-prefix
returns-in_err-put-3-clause-prefix c =
    let a = c.args.a.now in
    prefix_second _ _ _ (91 ∷ 91 ∷ []) (dims_text a.dims ++ rest_text a) c.in_ok-put.ensures.ok
    (prefix_second _ _ _ (dims_text a.dims) (rest_text a) (c.in_ok-put_dims.ensures.ok ∙ ap (λ ds. c.put.new.out.items ++ dims_text ds) c.dims.ensures.dims)
    (prefix_second _ _ _ (59 ∷ 32 ∷ []) (cells_text a ++ 93 ∷ 93 ∷ []) c.in_ok-put-2.ensures.ok (prefix_second _ _ _ (cells_text a) (93 ∷ 93 ∷ []) c.in_ok-put_cells.ensures.ok c.put-3.ensures.prefix)))

pub returns-clause-ok : goal.returns-clause-ok
returns-clause-ok c =
    let a = c.args.a.now in
    then _ _ _ (91 ∷ 91 ∷ []) (dims_text a.dims ++ rest_text a) c.in_ok-put.ensures.ok
    (then _ _ _ (dims_text a.dims) (rest_text a) (c.in_ok-put_dims.ensures.ok ∙ ap (λ ds. c.put.new.out.items ++ dims_text ds) c.dims.ensures.dims)
    (then _ _ _ (59 ∷ 32 ∷ []) (cells_text a ++ 93 ∷ 93 ∷ []) c.in_ok-put-2.ensures.ok (then _ _ _ (cells_text a) (93 ∷ 93 ∷ []) c.in_ok-put_cells.ensures.ok c.in_ok-put-3.ensures.ok)))

pub returns-clause-prefix : goal.returns-clause-prefix
returns-clause-prefix c = prefix_whole _ _ _ (returns-clause-ok c)
