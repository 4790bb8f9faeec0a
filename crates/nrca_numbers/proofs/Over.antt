-- A body over a column of values, and runs of the members of a loop as such columns.
use Rattle.std.proofs.Common.{◌≡◌, ℕ, ◌+◌, ◌-◌, ◌<◌, ◌≤◌, List, [], ◌∷◌, ◌++◌, length, map, take, get_or, Some, refl, sym, ◌∙◌, ap, subst, arith}
use Rattle.std.specs.Prelude.{slice_index_or}
use Rattle.std.specs.List.{slice_get, slice_range, range_with_len}
use Rattle.std.proofs.lemmas.List.{length-map, length-take-le}
use Rattle.aql_value.specs.Datum.{Datum, natural}
use Rattle.aql_value.specs.Indices.{indices}
use Rattle.aql_value.specs.Laws.Lists.{length-below}
use Rattle.aql_value.specs.Laws.Partial.{each-map, total-map}
use Rattle.aql_value.specs.Lists.{below}
use Rattle.aql_value.specs.Operations.{push_index}
use Rattle.aql_value.specs.Partial.{each, total}
use Rattle.nrca_term.specs.Meaning.{Outcomes, cden}
use Rattle.nrca_term.specs.Term.{Term}
use Rattle.nrca_term.specs.Turns.{settle}
use Rattle.nrca_term.specs.View.{term_of}
use Rattle.nrca_term.specs.declared.term.Core.{Core}
use Rattle.nrca_loops.specs.Runs.{member_list}
use Rattle.nrca_loops.specs.Values.{values}
use Rattle.nrca_loops.specs.declared.env.Env.{Env}
use Rattle.nrca_loops.specs.declared.members.Members.{Members}
use Rattle.nrca_loops.specs.declared.members.Members.TheVariants.{Below, Listed}
use Rattle.nrca_numbers.specs.Blocks.{IsFree}
use Rattle.nrca_numbers.specs.Runs.{AreAt, AreOver}
use Rattle.nrca_numbers.proofs.Places.{each_column, total_column, range_of_map, range_of_below}
use Rattle.nrca_numbers.proofs.Rows.{walked_last, ends_in, row_range}

-- the body at each value of a column
pub over_column : {A B : Type 0} (f : A → Datum) (d : A) (h : B → Datum) (e : B) (V : Outcomes) (env : Env) (body : Core) (col : List B) (xs : List A) → length xs ≡ length col →
    ((j : ℕ) → j < length col → IsFree V (h (slice_index_or col j e) ∷ values env) (term_of body) (f (slice_index_or xs j d))) → AreOver f V env body (map h col) xs
over_column f d h e V env body col xs l p = (
  each_column (λ m. cden V (m ∷ values env) (term_of body)) h f e d col xs l (λ j k. (p j k).0),
  total_column (λ m. settle V (m ∷ values env) (term_of body)) h e col (λ j k. (p j k).1),
)

-- the same over an equal list
pub over_same : {A : Type 0} (f : A → Datum) (V : Outcomes) (env : Env) (body : Core) (ms ns : List Datum) (xs : List A) → ms ≡ ns → AreOver f V env body ns xs → AreOver f V env body ms xs
over_same f V env body ms ns xs e h = subst (λ l. AreOver f V env body l xs) (sym e) h

-- a run of the naturals below a number
pub below_column : (members : Members) (n a b : ℕ) (col ns : List ℕ) → members ≡ Below n → a ≤ b → b ≤ length (member_list members) → ns ≡ range_with_len a (b - a) → col ≡ ns → slice_range (member_list members) a b ≡ map natural col
below_column members n a b col ns is low high e s =
    let count : length (member_list members) ≡ n = ap (λ m. length (member_list m)) is ∙ length-map (below n) natural ∙ length-below n in
    ap (λ m. slice_range (member_list m) a b) is
    ∙ range_of_map natural (below n) a b
    ∙ ap (map natural) (range_of_below n a b low (omega (arith, high, count)) ∙ sym e ∙ sym s)

-- a run of the members of a packed set
pub listed_column : {B : Type 0} (h : B → Datum) (members : Members) (set : List Datum) (a b : ℕ) (col : List B) → members ≡ Listed set → set ≡ map h col → slice_range (member_list members) a b ≡ map h (slice_range col a b)
listed_column h members set a b col is e = ap (λ m. slice_range (member_list m) a b) is ∙ ap (λ l. slice_range l a b) e ∙ range_of_map h col a b

-- the body at the indices of a row
pub row_column : (V : Outcomes) (env : Env) (body : Core) (outer col xs : List ℕ) →
    (each (λ m. cden V (m ∷ push_index outer [] ++ values env) (term_of body)) (map natural col) ≡ Some (map natural xs)) → (total (λ m. settle V (m ∷ push_index outer [] ++ values env) (term_of body)) (map natural col) ≡ 0) →
    AreAt V env body (map (λ i. outer ++ i ∷ []) col) xs
row_column V env body outer col xs value turns = (
  each-map (λ at. cden V (push_index at [] ++ values env) (term_of body)) (λ i. outer ++ i ∷ []) col
      ∙ (λ k. each (λ i. cden V (walked_last outer i [] k ++ values env) (term_of body)) col)
      ∙ sym (each-map (λ m. cden V (m ∷ push_index outer [] ++ values env) (term_of body)) natural col)
      ∙ value,
  total-map (λ at. settle V (push_index at [] ++ values env) (term_of body)) (λ i. outer ++ i ∷ []) col
      ∙ (λ k. total (λ i. settle V (walked_last outer i [] k ++ values env) (term_of body)) col)
      ∙ sym (total-map (λ m. settle V (m ∷ push_index outer [] ++ values env) (term_of body)) natural col)
      ∙ turns,
)

-- the indices of a row from one of them on
pub row_at : (V : Outcomes) (env : Env) (body : Core) (ds at outer col ns xs : List ℕ) (n first count p : ℕ) → length at ≡ n + 1 → outer ≡ take n at → first ≡ get_or at n 0 → first + count ≤ get_or ds n 0 →
    ns ≡ range_with_len first count → col ≡ ns → AreAt V env body (map (λ i. outer ++ i ∷ []) col) xs → slice_get (indices ds) p ≡ Some at → AreAt V env body (slice_range (indices ds) p (p + count)) xs
row_at V env body ds at outer col ns xs n first count p l o f h r s found there =
    let whole : at ≡ outer ++ first ∷ [] = ends_in at n l ∙ (λ k. sym o k ++ sym f k ∷ []) in
    let long : length outer ≡ n = ap length o ∙ length-take-le n at (omega (arith, l)) in
    let range = row_range ds outer first count p (there ∙ ap Some whole) (omega (arith, h, ap (λ k. get_or ds k 0) long)) in
    subst (λ ats. AreAt V env body ats xs) (sym (range ∙ ap (map (λ i. outer ++ i ∷ [])) (sym r ∙ sym s))) found
