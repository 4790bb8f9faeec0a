use Rattle.std.proofs.Common.{ℕ, ◌≡◌, ◌-◌, ◌<◌, List, Result, Ok, Err, arith}
use Rattle.std.specs.Prelude.{IfOk}
use Rattle.aql_value.specs.declared.memory.Memory.{Memory}
use Rattle.aql_ty.specs.declared.ty.Ty as code_ty
use Rattle.aql_ty.specs.View.{type_of}
use Rattle.aql_types.specs.Forms.{Form, forms, at}
use Rattle.aql_types.specs.Trees.{form_type}
use Rattle.aql_types.specs.Extents.{end, read}
use Rattle.aql_types.proofs.ReadOut.{read_none, read_here}
use Rattle.aql_types.proofs.read.+read.Goals as goal

pub read-returns-then-left-eq0 : goal.read-returns-then-left-eq0
read-returns-then-left-eq0 t c = read_none (forms c.args.ps.now c.args.ns.now) c.args.i c.args.left c.if-left-eq0.true

-- what is read at the end of a node is read at it
read_ok : (r : Result code_ty.Ty Memory) (fs : List Form) (i left e : ℕ) → 0 < left → e ≡ end fs i → IfOk r (λ t. type_of t ≡ form_type (read (left - 1) fs) (at fs e)) → IfOk r (λ t. type_of t ≡ read left fs i)
read_ok (Ok t) fs i left e lt q h = read_here fs i left e (type_of t) lt q h
read_ok (Err m) fs i left e lt q h = tt

pub read-returns : goal.read-returns
read-returns t c =
    read_ok c.read_node.result (forms c.args.ps.now c.args.ns.now) c.args.i c.args.left c.end_of-e.result (omega (arith, c.if-left-eq0.false)) (c.end_of-e.ensures c.args.ps.now)
    c.read_node.ensures
