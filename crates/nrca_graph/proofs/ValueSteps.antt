-- The pairs of indices and cells, as a loop makes them.
use Rattle.std.proofs.Common.{◌≡◌, ℕ, ◌+◌, ◌<◌, take, List, [], ◌∷◌, ◌++◌, length, map, get_or, Bool, true, false, nat_lt, if◌then◌else◌, None, Some, Result, Ok, Err, IfOk, IsOkAnd, refl, ap, sym, ◌∙◌, arith}
use Rattle.std.specs.List.{slice_get}
use Rattle.std.proofs.lemmas.List.{length-map, length-take-le, map-append, take_more}
use Rattle.aql_value.specs.Datum.{Datum, array, data_of}
use Rattle.aql_value.specs.Indices.{indices}
use Rattle.aql_value.specs.Meaning.{datum}
use Rattle.aql_value.specs.declared.memory.Memory.{Memory}
use Rattle.aql_value.specs.declared.value.Value.{Value}
use Rattle.aql_value.specs.Laws.Operations.{index_one, index_more, length_indexed}
use Rattle.aql_value.specs.Operations.{index_value, set_of}
use Rattle.nrca_graph.specs.Encoding.{pair, graph, encoding, IsPairAt}
use Rattle.nrca_graph.specs.EncodingOrder.{IsOrderedAs}
use Rattle.nrca_graph.specs.Laws.EncodingOrder.{encodings-list, encoded-order}

-- no cells
pub graph-empty : (ats : List (List ℕ)) → graph ats [] ≡ []
graph-empty [] = refl
graph-empty (at ∷ ats) = refl

-- one cell more at the end
pub graph-last : (ats : List (List ℕ)) (cs : List Datum) (c : Datum) (at : List ℕ) → slice_get ats (length cs) ≡ Some at →
    graph ats (cs ++ (c ∷ [])) ≡ graph ats cs ++ (pair (index_value at) c ∷ [])
graph-last [] cs c at e = cc
graph-last (b ∷ ats) [] c at e = let z : b ≡ at = cc in ap (λ x. pair (index_value x) c ∷ graph ats []) z ∙ ap (λ l. pair (index_value at) c ∷ l) (graph-empty ats)
graph-last (b ∷ ats) (d ∷ cs) c at e = ap (λ l. pair (index_value b) d ∷ l) (graph-last ats cs c at e)

pub ruleset index_steps = (index_one, index_more, length_indexed)

-- one item more, encoded
pub encoded_next : (xs : List Datum) (i : ℕ) (d : Datum) → i < length xs → map encoding (take i xs) ++ (encoding (get_or xs i d) ∷ []) ≡ map encoding (take (i + 1) xs)
encoded_next xs i d h = sym (ap (map encoding) (take_more xs i d h) ∙ map-append encoding (take i xs) (get_or xs i d ∷ []))

-- the pair of the dimensions and of the graph is the encoded array
pub array_made : (ds es : List ℕ) (cs xs : List Datum) (r i g : Result Value Memory) → es ≡ ds → xs ≡ cs → IfOk i (λ a. datum a ≡ index_value es) →
    IfOk g (λ b. datum b ≡ set_of (graph (indices es) (map encoding xs))) → IfOk r (λ made. IsOkAnd i (λ a. IsOkAnd g (λ b. datum made ≡ pair (datum a) (datum b)))) →
    IfOk r (λ made. datum made ≡ encoding (array ds (data_of cs)))
array_made ds es cs xs (Err e) i g d c h k m = tt
array_made ds es cs xs (Ok v) (Err e) g d c h k m = absurd m
array_made ds es cs xs (Ok v) (Ok a) (Err e) d c h k m = absurd m
array_made ds es cs xs (Ok v) (Ok a) (Ok b) d c h k m =
    m ∙ ap (λ x. pair x (datum b)) h ∙ ap (pair (index_value es)) k ∙ ap (λ fs. pair (index_value fs) (set_of (graph (indices fs) (map encoding xs)))) d
    ∙ ap (λ ys. pair (index_value ds) (set_of (graph (indices ds) (map encoding ys)))) c
    ∙ sym (ap (λ ys. pair (index_value ds) (set_of (graph (indices ds) ys))) (encodings-list cs))

-- an index that stands at a place beside a cell
pub pair_made : (ds at : List ℕ) (place : ℕ) (r i g : Result Value Memory) → slice_get (indices ds) place ≡ Some at → IfOk i (λ a. datum a ≡ index_value at) →
    IfOk r (λ made. IsOkAnd i (λ a. IsOkAnd g (λ b. datum made ≡ pair (datum a) (datum b)))) → IfOk r (λ made. IsOkAnd g (λ c. IsPairAt ds place (datum c) (datum made)))
pair_made ds at place (Err e) i g s h m = tt
pair_made ds at place (Ok v) (Err e) g s h m = absurd m
pair_made ds at place (Ok v) (Ok a) (Err e) s h m = m
pair_made ds at place (Ok v) (Ok a) (Ok b) s h m = (at, s, m ∙ ap (λ x. pair x (datum b)) h)

-- the encoding of an encoded cell, beside its index
pub pair_encoded : (ds : List ℕ) (place : ℕ) (v made : Datum) (g : Result Value Memory) → IfOk g (λ w. datum w ≡ encoding v) → IsOkAnd g (λ c. IsPairAt ds place (datum c) made) → IsPairAt ds place (encoding v) made
pair_encoded ds place v made (Err e) h m = absurd m
pair_encoded ds place v made (Ok c) h m = (m.0, m.1, m.2 ∙ ap (pair (index_value m.0)) h)

-- one pair more
pub pairs_next : (ds : List ℕ) (cs ps : List Datum) (i : ℕ) (d made : Datum) → i < length cs → ps ≡ graph (indices ds) (map encoding (take i cs)) → IsPairAt ds i (encoding (get_or cs i d)) made →
    ps ++ (made ∷ []) ≡ graph (indices ds) (map encoding (take (i + 1) cs))
pairs_next ds cs ps i d made h e p =
    ap (λ l. l ++ (made ∷ [])) e ∙ ap (λ x. graph (indices ds) (map encoding (take i cs)) ++ (x ∷ [])) p.2
    ∙ sym (graph-last (indices ds) (map encoding (take i cs)) (encoding (get_or cs i d)) p.0 (ap (slice_get (indices ds)) at ∙ p.1))
    ∙ ap (graph (indices ds)) (encoded_next cs i d h)
  where
    at : length (map encoding (take i cs)) ≡ i
    at = length-map (take i cs) encoding ∙ length-take-le i cs (omega (arith, h))

-- an encoded value is ordered as the value is
pub ordered_made : (v : Datum) (r : Result Value Memory) → IfOk r (λ w. datum w ≡ encoding v) → IfOk r (λ w. IsOrderedAs v (datum w))
ordered_made v (Err e) h = tt
ordered_made v (Ok w) h = encoded-order v (datum w) h

-- the parts of a tuple that is made of two values or more
pub parts_made : (xs ys : List Datum) → Some ys ≡ (if nat_lt (length xs) 2 then None else Some xs) → ys ≡ xs
parts_made xs ys e = of (nat_lt (length xs) 2) e
  where
    of : (b : Bool) → Some ys ≡ (if b then None else Some xs) → ys ≡ xs
    of true k = cc
    of false k = cc
