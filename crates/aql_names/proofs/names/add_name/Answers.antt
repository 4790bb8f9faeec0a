use Rattle.std.proofs.Common.{◌≡◌, ◌∙◌, ◌∷◌, [], ℕ, sym, subst}
use Rattle.std.specs.Global.{Vec}
use Rattle.aql_names.specs.Index.{GainsPosition}
use Rattle.aql_names.specs.Named.{Name}
use Rattle.aql_names.proofs.Keys.{gains-new, made}
use Rattle.aql_names.proofs.names.add_name.Goals as goal

pub returns-clause-added : goal.returns-clause-added
returns-clause-added c =
    subst (GainsPosition c.args.positions.now c.insert.new.self c.args.name.now c.args.n) (sym c.len-k.ensures.len)
    (gains-new c.args.positions.now c.insert.new.self c.args.name.now c.key.inside.bytes c.in_ok-key.list c.args.n
    (c.key.view_is ∙ made (λ (k : Name). k ≡ c.args.name.now) c.in_ok-key.key c.copy.result c.copy.ensures c.in_ok-key.ensures.0)
    (made (λ (l : Vec ℕ). l.items ≡ c.args.n ∷ []) c.in_ok-key.list c.make_list.result c.make_list.ensures c.in_ok-key.ensures.1)
    c.requires.new c.in_ok-insert.ensures.entries)
