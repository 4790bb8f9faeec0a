use Rattle.std.proofs.Common.{◌≡◌, ◌∷◌, rules}
use Rattle.aql_parse.proofs.Said.{rest_next}
use Rattle.aql_parse.proofs.scripts.words_of.Goals as goal

pub loop-token-preserved : goal.loop-token-preserved
loop-token-preserved c = λ ls d.
    let is : c.loop-token.left.now ≡ c.in-Some.token.now ∷ c.in-Some.later.now = search rules in
    rest_next c.args.source.now c.in-Some.token.now c.in-Some.later.now c.loop-token.left.now c.word_of.result c.loop-token.words.items
    c.push.new.self.items ls is c.in_ok-push.ensures.items c.word_of.ensures (c.loop-token.invariant ls d)
