use Rattle.std.proofs.Common.{◌≡◌, ◌-◌, length, ap, sym, subst, ◌∙◌, arith}
use Rattle.std.proofs.lemmas.List.{length-map}
use Rattle.std.specs.Prelude.{IfOk}
use Rattle.nrca_ranges.specs.Shapes.{bounds_of, bounds_each}
use Rattle.nrca_ranges.specs.Transfer.{variable_bounds}
use Rattle.nrca_ranges.proofs.Entries.{inner-variable, outer-variable}
use Rattle.nrca_ranges.proofs.variables.variable_shape.Goals as goal

pub returns-then-i-inner : goal.returns-then-i-inner
returns-then-i-inner c =
    subst (λ b. IfOk c.shape_from_end.result (λ s. bounds_of s ≡ b))
    (sym (inner-variable (bounds_each c.args.ctx.now.variables.items) (bounds_each c.args.own.now) c.args.i (omega (arith, length-map c.args.own.now bounds_of, c.if-i-inner.true)))) c.shape_from_end.ensures

pub returns-else-i-inner : goal.returns-else-i-inner
returns-else-i-inner c =
    subst (λ b. IfOk c.shape_from_end-else-i-inner.result (λ s. bounds_of s ≡ b))
    (ap (λ l. variable_bounds (bounds_each l) (c.args.i - length c.args.own.now)) c.as_slice.ensures.value
    ∙ sym (outer-variable (bounds_each c.args.ctx.now.variables.items) (bounds_each c.args.own.now) c.args.i (c.args.i - length c.args.own.now) (omega (arith, length-map c.args.own.now bounds_of, c.if-i-inner.false)))) c.shape_from_end-else-i-inner.ensures
