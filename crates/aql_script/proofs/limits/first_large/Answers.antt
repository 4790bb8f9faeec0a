use Rattle.std.proofs.Common.{◌+◌, ◌<◌, ap, sym, ◌∙◌, subst, take, length, arith}
use Rattle.aql_syntax.specs.View.{decls_of}
use Rattle.aql_syntax.specs.Size.{IsLarge}
use Rattle.aql_prelude.specs.Prelude.{prelude_count}
use Rattle.aql_syntax.specs.Kept.{extents_after}
use Rattle.aql_script.proofs.Past.{within_there, large_there, between_more, take_more, behind_again}
use Rattle.aql_script.proofs.limits.first_large.Goals as goal

pub returns-then-is_past : goal.returns-then-is_past
returns-then-is_past c =
    let items = c.args.decls.now.items.items in
    let i = c.positions.i in
    let inside : i < length items = omega (arith, c.positions-test.true, c.len-i-end.ensures) in
    let behind = c.is_past.ensures.behind c.if-is_past.true in
    let e = behind_again prelude_count (i + 1) behind in
    let large = large_there items i c.index-d.result.now inside c.index-d.ensures (c.is_past.ensures.large (take i items) c.positions.invariant.kept c.if-is_past.true) in (
      omega (arith, behind),
      omega (arith, e, inside),
      λ k low high. c.positions.invariant.within k low (omega (arith, high, e)),
      subst (IsLarge (decls_of items)) (sym e) large,
    )

pub positions-preserved : goal.positions-preserved
positions-preserved c =
    let items = c.args.decls.now.items.items in
    let i = c.positions.i in
    let inside : i < length items = omega (arith, c.positions-test.true, c.len-i-end.ensures) in record {
      kept = c.in_ok-push.ensures.pushed (take i items) c.positions.invariant.kept
          ∙ ap extents_after (take_more items i c.index-d.result.now inside c.index-d.ensures);
      within = between_more (decls_of items) prelude_count i c.positions.invariant.within
          (λ low. within_there items i c.index-d.result.now inside c.index-d.ensures (c.is_past.ensures.within (take i items) c.positions.invariant.kept c.if-is_past.false low));
    }
