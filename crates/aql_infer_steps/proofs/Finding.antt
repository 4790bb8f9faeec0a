-- The last entry of a list of names is the first that is found.
use Rattle.std.proofs.Common.{◌≡◌, ◌<◌, ℕ, suc, Bool, true, false, List, [], ◌∷◌, ◌++◌, Option, Some, None, refl, sym, ap, ◌∙◌, arith, length, get_or, slice_get, if◌then◌else◌}
use Rattle.std.specs.Option.{option_map}
use Rattle.std.proofs.lemmas.List.{length-map}
use Rattle.std.proofs.lemmas.Option.{slice_get-get_or}
use Rattle.aql_value.specs.Partial.{or_else}
use Rattle.aql_names.specs.Named.{last_named}
use Rattle.aql_names.specs.Laws.Named.{last_named_inside}
use Rattle.aql_ty.specs.View.{sort_of}
use Rattle.aql_syntax.specs.Tree.{Name}
use Rattle.aql_syntax.specs.Names.{names_equal, find}
use Rattle.aql_syntax.specs.Typing.{Locals}
use Rattle.aql_infer_steps.specs.Constraints.{NumberedScheme, NumberedSchemes}
use Rattle.aql_infer_steps.specs.View.{sketch_type, locals_onto, locals_of, scheme_of, schemes_onto, schemes_of, names_of}
use Rattle.aql_infer_steps.specs.Ground.{AreOf, IsLatest, ground_of}
use Rattle.aql_infer_steps.proofs.Sketching.{sort_here, ground_here}
use Rattle.aql_infer_steps.specs.declared.positions.Ground.{Ground}
use Rattle.aql_infer_steps.specs.declared.names.Local.{Local}
use Rattle.aql_infer_steps.specs.declared.positions.Position.{Position}

locals_onto_last : (ps : List Position) (ls : List Local) (l : Local) (env : Locals) → locals_onto ps (ls ++ l ∷ []) env ≡ (l.name, sketch_type ps l.ty) ∷ locals_onto ps ls env
locals_onto_last ps [] l env = refl
locals_onto_last ps (k ∷ ls) l env = locals_onto_last ps ls l ((k.name, sketch_type ps k.ty) ∷ env)

-- the last local name is the innermost
pub locals_last : (ps : List Position) (ls : List Local) (l : Local) → locals_of ps (ls ++ l ∷ []) ≡ (l.name, sketch_type ps l.ty) ∷ locals_of ps ls
locals_last ps ls l = locals_onto_last ps ls l []

pub local_here : (ps : List Position) (x : Name) (ls all : List Local) (l : Local) → all ≡ ls ++ l ∷ [] → names_equal x l.name ≡ true →
    find x (locals_of ps all) ≡ Some (sketch_type ps l.ty)
local_here ps x ls all l e h = rw (e, locals_last ps ls l, h) refl

pub local_past : (ps : List Position) (x : Name) (ls all : List Local) (l : Local) → all ≡ ls ++ l ∷ [] → names_equal x l.name ≡ false →
    find x (locals_of ps all) ≡ find x (locals_of ps ls)
local_past ps x ls all l e h = rw (e, locals_last ps ls l, h) refl

pub local_none : (ps : List Position) (x : Name) (all : List Local) → length all ≡ 0 → find x (locals_of ps all) ≡ None
local_none ps x [] e = refl
local_none ps x (l ∷ ls) e = let bad : ⊥ = omega (arith, e) in absurd bad

pub ruleset local_steps = (local_here, local_past, local_none)

-- The latest position of a name, by the place of the last that has it.

-- what the position at a place has, and else what was found before
abbrev found_at : List Position → Option ℕ → Option NumberedScheme → Option NumberedScheme
found_at ps None o = o
found_at ps (Some i) o = option_map scheme_of (slice_get ps i)

find-onto : (x : Name) (ps : List Position) (ss : NumberedSchemes) → find x (schemes_onto ps ss) ≡ found_at ps (last_named x (names_of ps)) (find x ss)
find-onto x [] ss = refl
find-onto x (p ∷ ps) ss = find-onto x ps ((p.name, scheme_of p) ∷ ss) ∙ go (last_named x (names_of ps)) (names_equal x p.name)
  where
    go : (o : Option ℕ) (b : Bool) →
        found_at ps o (if b then Some (scheme_of p) else find x ss) ≡ found_at (p ∷ ps) (or_else (option_map suc o) (if b then Some 0 else None)) (find x ss)
    go None true = refl
    go None false = refl
    go (Some i) b = refl

-- no position has the name
pub latest-none : (x : Name) (ps : List Position) (names : List Name) → None ≡ last_named x names → names ≡ names_of ps → find x (schemes_of ps) ≡ None
latest-none x ps names e n = find-onto x ps [] ∙ ap (λ k. found_at ps k None) (sym (e ∙ ap (last_named x) n))

-- the place is one of the list
pub latest-inside : (x : Name) (ps : List Position) (names : List Name) (i : ℕ) → Some i ≡ last_named x names → names ≡ names_of ps → i < length ps
latest-inside x ps names i e n =
    let within : i < length (names_of ps) = last_named_inside x (names_of ps) i (sym (e ∙ ap (last_named x) n)) in
    omega (arith, within, length-map ps (λ (p : Position). p.name))

-- the position at that place is the latest
pub latest-some : (x : Name) (ps : List Position) (names : List Name) (i : ℕ) (p : Position) → Some i ≡ last_named x names → names ≡ names_of ps →
    p ≡ get_or ps i p → find x (schemes_of ps) ≡ Some (scheme_of p)
latest-some x ps names i p e n is =
    find-onto x ps [] ∙ ap (λ k. found_at ps k None) (sym (e ∙ ap (last_named x) n))
    ∙ ap (option_map scheme_of) (slice_get-get_or ps i p (latest-inside x ps names i e n) ∙ ap Some (sym is))

-- the latest position, with its number and what is known of its types
pub latest-found : (x : Name) (ps : List Position) (names : List Name) (gs : List Ground) (i : ℕ) (p : Position) (g : Ground) → AreOf ps names gs → Some i ≡ last_named x names →
    p ≡ get_or ps i p → g ≡ get_or gs i g → IsLatest x ps i p g
latest-found x ps names gs i p g h e is known =
    let inside = latest-inside x ps names i e h.names in
    record {
      found = latest-some x ps names i p e h.names is;
      here = sort_here ps i p inside ∙ ap (λ (p : Position). sort_of p.scheme) (sym is);
      ground = known ∙ ap (λ l. get_or l i g) h.ground ∙ ground_here ps i g p inside ∙ ap (λ (p : Position). ground_of (sort_of p.scheme)) (sym is);
    }

-- what is known of that position is there
pub latest-known : (x : Name) (ps : List Position) (names : List Name) (gs : List Ground) (i : ℕ) → AreOf ps names gs → Some i ≡ last_named x names → i < length gs
latest-known x ps names gs i h e =
    let inside = latest-inside x ps names i e h.names in
    omega (arith, inside, length-map ps (λ (p : Position). ground_of (sort_of p.scheme)), ap length h.ground)
