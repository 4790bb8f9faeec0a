use Rattle.std.proofs.Common.{arith}
use Rattle.aql_script.proofs.Positions.{first_past_found, many}
use Rattle.aql_script.proofs.preparing.first_past_limit.Goals as goal

pub first_large-requires : goal.first_large-requires
first_large-requires c = let h = many c.args.decls.now.items.items c.requires.0 c.requires.1 in omega (arith, h)

pub returns : goal.returns
returns c = λ ds e. first_past_found c.args.decls.now.items.items ds c.first_large.result e c.first_large.ensures
