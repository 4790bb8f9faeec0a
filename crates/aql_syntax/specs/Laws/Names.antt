-- What names and applications of macros mean.
use Rattle.std.proofs.Common.{◌≡◌, true, false, [], ◌∷◌, Option, Some, None, option_map, refl, if◌then◌else◌}
use Rattle.std.proofs.lemmas.Slice.Eq.{bytes_eq-Decides}
use Rattle.aql_value.specs.Datum.{Datum}
use Rattle.aql_value.specs.Partial.{◌>>=◌}
use Rattle.aql_ty.specs.Types as types
use Rattle.aql_ty.specs.Types.{Subst}
use Rattle.aql_syntax.specs.Tree.{Name, Pat, Tree, apply, mac}
use Rattle.aql_syntax.specs.Names.{names_equal, find}
use Rattle.aql_syntax.specs.Matching.{Env, Globals, outcome_of, lookup, on_match, match}
use Rattle.aql_syntax.specs.Denotation.{den}
use Rattle.aql_syntax.specs.Script.{Earlier, globals_of}
use Rattle.aql_syntax.specs.Typing.{Locals, local_instances}

names_equal-self : (x : Name) → names_equal x x ≡ true
names_equal-self x = (bytes_eq-Decides x x).1 refl

-- a name is the innermost local name
pub lookup-local : (globals : Globals) (env : Env) (x : Name) (w : Datum) → find x env ≡ Some w → lookup globals env x ≡ Some w
lookup-local globals env x w e = rw e refl

-- else it is the latest position that declares it
pub lookup-global : (globals : Globals) (env : Env) (x : Name) → find x env ≡ None → lookup globals env x ≡ outcome_of (find x globals)
lookup-global globals env x e = rw e refl

-- the application of the latest macro: its body under the match of its pattern alone, over the positions before it
pub den-latest : (f : Name) (p : Pat) (body a : Tree) (o : Option Datum) (earlier : Earlier) (env : Env) → find f env ≡ None →
    den (apply f a) (globals_of ((mac f p body, o) ∷ earlier)) env
    ≡ (den a (globals_of ((mac f p body, o) ∷ earlier)) env >>= λ w. on_match (match p (globals_of earlier) w []) (den body (globals_of earlier)) None None)
den-latest f p body a o earlier env e = rw (e, names_equal-self f) refl

-- a local name has the instance of its type
pub find-instances : (u : Subst) (x : Name) (env : Locals) → find x (local_instances u env) ≡ option_map (types.apply u) (find x env)
find-instances u x [] = refl
find-instances u x ((y, t) ∷ env) =
    elim (names_equal x y) as (λ b. (if b then Some (types.apply u t) else find x (local_instances u env)) ≡ option_map (types.apply u) (if b then Some t else find x env)) [
      | true ↦ refl
      | false ↦ find-instances u x env
    ]
