use Rattle.std.proofs.Common.{◌≡◌, ◌∷◌, ◌++◌, [], map, get_or, sym, ap, ◌∙◌}
use Rattle.aql_value.specs.Meaning.{datum}
use Rattle.nrca_forms.specs.Indexing.{values_of}
use Rattle.std.proofs.Math.ListN.{set}
use Rattle.std.proofs.lemmas.List.{map-set, map-append, get_or-map}
use Rattle.nrca_forms.proofs.index.push_at.Goals as goal

pub returns : goal.returns
returns c =
    let old = c.index_mut.result.now in
    let new : values_of c.push.new.self ≡ get_or (map values_of c.args.groups.items) c.args.number [] ++ datum c.args.value ∷ [] =
    ap (map datum) c.in_ok-push.ensures.items
    ∙ map-append datum old.items (c.args.value ∷ [])
    ∙ ap (λ l. l ++ datum c.args.value ∷ []) (ap values_of c.index_mut.ensures.value ∙ sym (get_or-map values_of c.args.groups.items c.args.number old [] c.requires)) in
    map-set values_of c.args.groups.items c.args.number c.push.new.self ∙ ap (set (map values_of c.args.groups.items) c.args.number) new
