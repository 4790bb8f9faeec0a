-- The numbers of an index, one more, and the cell there.
use Rattle.std.proofs.Common.{◌≡◌, ℕ, List, ◌∷◌, ◌++◌, [], map, Option, Some, None, ◌∙◌, sym, ap}
use Rattle.std.specs.Prelude.{IfSome}
use Rattle.std.specs.Option.{option_map}
use Rattle.std.proofs.lemmas.List.{map-append}
use Rattle.aql_value.specs.Datum.{Datum, natural}
use Rattle.aql_value.specs.Laws.Operations.{each-naturals}
use Rattle.aql_value.specs.Operations.{cell_of}
use Rattle.aql_value.specs.Partial.{◌>>=◌}
use Rattle.nrca_loops.specs.Parts.{cell_in, numbers_in}
use Rattle.nrca_loops.specs.Runs.{list_with}

-- the cell at an index of numbers
pub cell_number : (v : Datum) (o : Option (List Datum)) (at : List ℕ) → o ≡ Some (map natural at) → cell_in v (numbers_in o) ≡ cell_of v at
cell_number v o at e = ap (λ p. cell_in v (numbers_in p)) e ∙ ap (cell_in v) (each-naturals at)

-- a fact of the number that was found, where one was
pub number_of : (r : Option ℕ) (o p : Option Datum) → o ≡ p → IfSome r (λ n. p ≡ Some (natural n)) → IfSome r (λ n. o ≡ Some (natural n))
number_of None o p e h = tt
number_of (Some n) o p e h = e ∙ h

pub turns_of : (r : Option ℕ) (m k : ℕ) → m ≡ k → IfSome r (λ n. k ≡ 0) → IfSome r (λ n. m ≡ 0)
turns_of None m k e h = tt
turns_of (Some n) m k e h = e ∙ h

-- one number more of an index
pub index_with : (o : Option (List Datum)) (p : Option Datum) (at more : List ℕ) (n : ℕ) → o ≡ Some (map natural at) → p ≡ Some (natural n) → more ≡ at ++ n ∷ [] →
    list_with o p ≡ Some (map natural more)
index_with o p at more n e f g =
    (λ k. list_with (e k) (f k)) ∙ ap Some (sym (ap (map natural) g ∙ map-append natural at (n ∷ [])))

cell_there : (o : Option (List ℕ)) (p : Option Datum) (v : Datum) → Some v ≡ (o >>= λ ns. p) → p ≡ Some v
cell_there None p v e = cc
cell_there (Some ns) p v e = sym e

-- the number that a cell of an array of naturals is
pub flat_number : (r : Option ℕ) (o : Option (List ℕ)) (p : Option Datum) → option_map natural r ≡ (o >>= λ ns. p) → IfSome r (λ n. p ≡ Some (natural n))
flat_number None o p e = tt
flat_number (Some n) o p e = cell_there o p (natural n) e
