use Rattle.std.proofs.Common.{List, Option, Some, None, ◌≡◌, ◌<◌, ◌+◌, ℕ, length, sym, subst, refl}
use Rattle.aql_types.specs.declared.node.Node.{Node}
use Rattle.aql_types.specs.Forms.{at}
use Rattle.aql_types.specs.Forms as form
use Rattle.aql_types.specs.Steps.{LinksDown, IsFlatBelow, bare, link_in, shorter}
use Rattle.aql_types.proofs.Bare.{link_is, root_is}
use Rattle.aql_types.proofs.Keeping.{flat_next, flat_linked, flat_root, keeps_none}
use Rattle.aql_types.proofs.take.flatten_one.Goals as goal

-- the link at i made shorter, whatever it leads to
flattened : (ns : List Node) (i j : ℕ) (o : Option ℕ) → link_in (at (bare ns) j) ≡ o → i < length ns → LinksDown (bare ns) → at (bare ns) i ≡ form.link j → IsFlatBelow i (bare ns) → IsFlatBelow (i + 1) (bare (shorter ns i o))
flattened ns i j None q lt d e h = flat_linked (bare ns) i j e (root_is (at (bare ns) j) q) h
flattened ns i j (Some k) q lt d e h = flat_next ns i j k lt d e (link_is (at (bare ns) j) k q) h

pub returns-in-Some-clause-flat : goal.returns-in-Some-clause-flat
returns-in-Some-clause-flat c =
    let ns = c.args.ns.now in
    subst (λ ms. IsFlatBelow (c.args.i + 1) (bare ms)) (sym c.shorten.ensures.exact)
    (flattened ns c.args.i c.in-Some.up (link_in (at (bare ns) c.in-Some.up)) refl c.requires.i c.requires.down
    (link_is (at (bare ns) c.args.i) c.in-Some.up (sym c.in-Some.ensures)) c.requires.flat)

pub returns-in-None-clause-keeps : goal.returns-in-None-clause-keeps
returns-in-None-clause-keeps c = keeps_none c.args.ns.now

pub returns-in-None-clause-flat : goal.returns-in-None-clause-flat
returns-in-None-clause-flat c =
    let ns = c.args.ns.now in
    flat_root (bare ns) c.args.i (root_is (at (bare ns) c.args.i) (sym c.in-None.ensures)) c.requires.flat
