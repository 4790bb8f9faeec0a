use Rattle.std.proofs.Common.{◌<◌, length, Some, ap, sym, subst, ◌∙◌, arith}
use Rattle.std.specs.Prelude.{slice_get, slice_range}
use Rattle.std.specs.List.Sorted.{IsStrictlySortedBy}
use Rattle.std.specs.Ordering.{nat_cmp}
use Rattle.nrca_array.proofs.GroupsKept.{group_count, group_at, group_ascends, begins, ends}
use Rattle.nrca_array.proofs.groups.Groups.group.Goals as goal

pub index-from-requires : goal.index-from-requires
index-from-requires c =
    let s = c.self.inside in
    omega (arith, c.requires, ap length c.self.view_is, group_count s.count s.starts.items s.members.items, c.self.invariant.many)

pub overflow_add-at : goal.overflow_add-at
overflow_add-at c =
    let s = c.self.inside in
    omega (arith, c.requires, ap length c.self.view_is, group_count s.count s.starts.items s.members.items, c.self.invariant.many)

pub index-to-requires : goal.index-to-requires
index-to-requires c =
    let s = c.self.inside in
    omega (arith, c.requires, ap length c.self.view_is, group_count s.count s.starts.items s.members.items, c.self.invariant.many)

pub part-requires-clause-order : goal.part-requires-clause-order
part-requires-clause-order c =
    let s = c.self.inside in
    let h : c.args.at < s.count = omega (arith, c.requires, ap length c.self.view_is, group_count s.count s.starts.items s.members.items) in
    let a = begins s.starts.items c.args.at c.index-from.result.now (omega (arith, h, c.self.invariant.many)) c.index-from.ensures in
    let b = ends s.starts.items c.args.at c.index-to.result.now (omega (arith, h, c.self.invariant.many)) c.index-to.ensures in
    omega (arith, a, b, c.self.invariant.rise c.args.at h)

pub part-requires-clause-within : goal.part-requires-clause-within
part-requires-clause-within c =
    let s = c.self.inside in
    let h : c.args.at < s.count = omega (arith, c.requires, ap length c.self.view_is, group_count s.count s.starts.items s.members.items) in
    let b = ends s.starts.items c.args.at c.index-to.result.now (omega (arith, h, c.self.invariant.many)) c.index-to.ensures in
    omega (arith, b, c.self.invariant.within c.args.at h, ap length c.deref.ensures.value)

pub returns-clause-members : goal.returns-clause-members
returns-clause-members c =
    let s = c.self.inside in
    let h : c.args.at < s.count = omega (arith, c.requires, ap length c.self.view_is, group_count s.count s.starts.items s.members.items) in
    let a = begins s.starts.items c.args.at c.index-from.result.now (omega (arith, h, c.self.invariant.many)) c.index-from.ensures in
    let b = ends s.starts.items c.args.at c.index-to.result.now (omega (arith, h, c.self.invariant.many)) c.index-to.ensures in
    ap (λ gs. slice_get gs c.args.at) (sym c.self.view_is)
    ∙ group_at s.count s.starts.items s.members.items c.args.at h
    ∙ ap Some ((λ i. slice_range (sym c.deref.ensures.value i) (sym a i) (sym b i)) ∙ sym c.part.ensures)

pub returns-clause-ascending : goal.returns-clause-ascending
returns-clause-ascending c =
    let s = c.self.inside in
    let h : c.args.at < s.count = omega (arith, c.requires, ap length c.self.view_is, group_count s.count s.starts.items s.members.items) in
    let a = begins s.starts.items c.args.at c.index-from.result.now (omega (arith, h, c.self.invariant.many)) c.index-from.ensures in
    let b = ends s.starts.items c.args.at c.index-to.result.now (omega (arith, h, c.self.invariant.many)) c.index-to.ensures in
    subst (IsStrictlySortedBy nat_cmp) ((λ i. slice_range (sym c.deref.ensures.value i) (sym a i) (sym b i)) ∙ sym c.part.ensures)
    (group_ascends s.count s.starts.items s.members.items c.args.at c.self.invariant h)
