-- The positions of a session: names and outcomes side by side, and the last position of each name.
use Rattle.std.proofs.Common.{◌≡◌, ℕ, ◌+◌, List, [], ◌∷◌, ◌++◌, length, Option, option_map, refl, sym, ap, ◌∙◌, arith, length-append}
use Rattle.std.specs.List.{zip}
use Rattle.aql_names.specs.Named.{last_named}
use Rattle.aql_value.specs.Datum.{Datum}
use Rattle.nrca_term.specs.Meaning.{Outcomes}
use Rattle.aql_syntax.specs.Tree.{Name}
use Rattle.aql_session.specs.Bound.{Bound, names, outcomes, latest_of}

pub outcomes-zip : (xs : List Name) (V : Outcomes) → length xs ≡ length V → outcomes (zip xs V) ≡ V
outcomes-zip [] [] e = refl
outcomes-zip [] (o ∷ V) e = cc
outcomes-zip (x ∷ xs) [] e = cc
outcomes-zip (x ∷ xs) (o ∷ V) e = ap (λ l. o ∷ l) (outcomes-zip xs V (omega (arith, e)))

pub names-zip : (xs : List Name) (V : Outcomes) → length xs ≡ length V → names (zip xs V) ≡ xs
names-zip [] [] e = refl
names-zip [] (o ∷ V) e = cc
names-zip (x ∷ xs) [] e = cc
names-zip (x ∷ xs) (o ∷ V) e = ap (λ l. x ∷ l) (names-zip xs V (omega (arith, e)))

pub zip-push : (xs : List Name) (V : Outcomes) (x : Name) (o : Option Datum) → length xs ≡ length V → zip (xs ++ x ∷ []) (V ++ o ∷ []) ≡ zip xs V ++ (x, o) ∷ []
zip-push [] [] x o e = refl
zip-push [] (p ∷ V) x o e = cc
zip-push (y ∷ xs) [] x o e = cc
zip-push (y ∷ xs) (p ∷ V) x o e = ap (λ l. (y, p) ∷ l) (zip-push xs V x o (omega (arith, e)))

module _ (ns : List Name) (V : Outcomes) (many : length ns ≡ length V) (bound : Bound) (is : zip ns V ≡ bound) where
  -- the names of the positions
  pub names-are : names bound ≡ ns
  names-are = sym (ap names is) ∙ names-zip ns V many

  -- the last position of a name, counted from 1
  pub latest-is : (x : Name) (o : Option ℕ) → o ≡ last_named x ns → option_map (λ i. i + 1) o ≡ latest_of bound x
  latest-is x o e = ap (option_map (λ i. i + 1)) (e ∙ ap (last_named x) (sym names-are))

module _ (ns ms : List Name) (V W : Outcomes) (name : Name) (o : Option Datum) where
  pub lengths-push : length ns ≡ length V → ms ≡ ns ++ name ∷ [] → W ≡ V ++ o ∷ [] → length ms ≡ length W
  lengths-push h e f = omega (arith, ap length e, ap length f, length-append ns (name ∷ []), length-append V (o ∷ []))

  pub view-push : length ns ≡ length V → ms ≡ ns ++ name ∷ [] → W ≡ V ++ o ∷ [] → zip ms W ≡ zip ns V ++ (name, o) ∷ []
  view-push h e f = ap (λ l. zip l W) e ∙ ap (zip (ns ++ name ∷ [])) f ∙ zip-push ns V name o h
