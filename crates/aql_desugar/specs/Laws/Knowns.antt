-- What a name stands for, by the latest declaration of that name.
use Rattle.std.proofs.Common.{◌≡◌, suc, true, false, List, [], ◌∷◌, length, Some, None, option_map, if◌then◌else◌, refl, sym, ap, ◌∙◌}
use Rattle.aql_syntax.specs.Tree.{Name, Declaration, declared_name}
use Rattle.aql_syntax.specs.Names.{names_equal, find}
use Rattle.aql_desugar_spec.specs.Start.{known_of, knowns_of}
use Rattle.aql_desugar.specs.Names.{declaration_of}

-- what a name stands for is what its latest declaration is
pub find-known : (x : Name) (ds : List Declaration) → find x (knowns_of ds) ≡ option_map (λ r. known_of r.0 (knowns_of r.1) (suc (length r.1))) (declaration_of x ds)
find-known x [] = refl
find-known x (d ∷ ds) =
    elim (names_equal x (declared_name d)) as (λ b. (if b then Some (known_of d (knowns_of ds) (suc (length ds))) else find x (knowns_of ds))
    ≡ option_map (λ r. known_of r.0 (knowns_of r.1) (suc (length r.1))) (if b then Some (d, ds) else declaration_of x ds)) [
      | true ↦ refl
      | false ↦ find-known x ds
    ]

pub known_some : (x : Name) (ds : List Declaration) (d : Declaration) (before : List Declaration) → Some (d, before) ≡ declaration_of x ds →
    find x (knowns_of ds) ≡ Some (known_of d (knowns_of before) (suc (length before)))
known_some x ds d before e = find-known x ds ∙ ap (option_map (λ r. known_of r.0 (knowns_of r.1) (suc (length r.1)))) (sym e)

pub known_none : (x : Name) (ds : List Declaration) → None ≡ declaration_of x ds → find x (knowns_of ds) ≡ None
known_none x ds e = find-known x ds ∙ ap (option_map (λ r. known_of r.0 (knowns_of r.1) (suc (length r.1)))) (sym e)
