use Rattle.std.proofs.Common.{arith}
use Rattle.aql_syntax.specs.View.{decls_of}
use Rattle.aql_script.specs.Script.{positions}
use Rattle.aql_script.proofs.Positions.{behind_prelude, untyped_own, first_untyped}
use Rattle.aql_script.proofs.preparing.infer_types.Goals as goal

pub overflow_sub-result : goal.overflow_sub-result
overflow_sub-result c =
    let lt = behind_prelude c.requires.0 c.in-Err-NoType.declaration
    (first_untyped (decls_of c.args.decls.now.items.items) (positions c.requires.0) c.in-Err-NoType.field-0 c.in-Err-NoType.declaration
    c.requires.1 c.in-Err-NoType.field-0-is c.in-Err-NoType.ensures) in
    omega (arith, lt)

pub returns-in-Err-NoType : goal.returns-in-Err-NoType
returns-in-Err-NoType c = λ ds e.
    untyped_own ds c.in-Err-NoType.declaration
    (first_untyped (decls_of c.args.decls.now.items.items) (positions ds) c.in-Err-NoType.field-0 c.in-Err-NoType.declaration
    e c.in-Err-NoType.field-0-is c.in-Err-NoType.ensures)
