-- What lets of several terms and the variables of an index are worth.
use Rattle.std.proofs.Common.{◌≡◌, ℕ, suc, ◌+◌, ◌≤◌, List, [], ◌∷◌, ◌++◌, length, map, Some, refl, sym, ap, ◌∙◌, arith}
use Rattle.std.specs.List.{slice_get}
use Rattle.aql_value.specs.Datum.{Datum, natural}
use Rattle.aql_value.specs.Operations.{tuple_of, index_value, push_index}
use Rattle.aql_value.specs.Partial.{◌>>=◌, each}
use Rattle.aql_value.specs.Laws.Partial.{then-assoc, then-ext}
use Rattle.aql_value.specs.Lists.{onto}
use Rattle.nrca_term.specs.Term.{Term, plain, none}
use Rattle.nrca_term.specs.Meaning.{Outcomes, cden, here, part_values}
use Rattle.nrca_term.specs.Laws.Shifting.{cden-shift_term}
use Rattle.nrca_term.specs.Rules.{lets, sizes_term, index_variables}

-- numbers put on a list are the numbers of an index
pub onto-naturals : (ns : List ℕ) (l : List Datum) → onto (map natural ns) l ≡ push_index ns l
onto-naturals [] l = refl
onto-naturals (n ∷ ns) l = onto-naturals ns (natural n ∷ l)

-- lets put the values of their terms before those around
pub lets-value : (V : Outcomes) (pre vals : List Datum) (is : List Term) (body : Term) →
    cden V (pre ++ vals) (lets (length pre) is body) ≡ (each (cden V vals) is >>= λ ws. cden V (onto ws pre ++ vals) body)
lets-value V pre vals [] body = refl
lets-value V pre vals (i ∷ is) body =
    ap (λ o. o >>= λ w. cden V (w ∷ (pre ++ vals)) (lets (suc (length pre)) is body)) (cden-shift_term V [] pre vals i)
    ∙ then-ext (cden V vals i) _ (λ w. each (cden V vals) is >>= λ ws. Some (w ∷ ws) >>= λ us. cden V (onto us pre ++ vals) body) (λ w e. lets-value V (w ∷ pre) vals is body)
    ∙ then-ext (cden V vals i) _ (λ w. (each (cden V vals) is >>= λ ws. Some (w ∷ ws)) >>= λ us. cden V (onto us pre ++ vals) body)
    (λ w e. sym (then-assoc (each (cden V vals) is) (λ ws. Some (w ∷ ws)) (λ us. cden V (onto us pre ++ vals) body)))
    ∙ sym (then-assoc (cden V vals i) (λ w. each (cden V vals) is >>= λ ws. Some (w ∷ ws)) (λ us. cden V (onto us pre ++ vals) body))

-- an index before two lists
pub walked-append : (at : List ℕ) (k l : List Datum) → push_index at k ++ l ≡ push_index at (k ++ l)
walked-append [] k l = refl
walked-append (i ∷ at) k l = walked-append at (natural i ∷ k) l

-- one number more, behind the index
pub walked-snoc : (at : List ℕ) (i : ℕ) (l : List Datum) → natural i ∷ push_index at l ≡ push_index (at ++ i ∷ []) l
walked-snoc [] i l = refl
walked-snoc (j ∷ at) i l = walked-snoc at i (natural j ∷ l)

-- past an index
pub walked-past : (at : List ℕ) (l : List Datum) (n : ℕ) → slice_get (push_index at l) (length at + n) ≡ slice_get l n
walked-past [] l n = let z : 0 + n ≡ n = omega arith in ap (slice_get l) z
walked-past (i ∷ at) l n =
    (let z : suc (length at) + n ≡ length at + suc n = omega arith in ap (slice_get (push_index at (natural i ∷ l))) z) ∙ walked-past at (natural i ∷ l) (suc n)

-- the variables of an index are its numbers
pub variables-value : (V : Outcomes) (at : List ℕ) (l : List Datum) → each (cden V (push_index at l)) (index_variables (length at)) ≡ Some (map natural at)
variables-value V [] l = refl
variables-value V (i ∷ at) l =
    ap (λ o. o >>= λ y. each (cden V (push_index at (natural i ∷ l))) (index_variables (length at)) >>= λ ys. Some (y ∷ ys))
    ((let z : length at ≡ length at + 0 = omega arith in ap (slice_get (push_index at (natural i ∷ l))) z) ∙ walked-past at (natural i ∷ l) 0)
    ∙ ap (λ o. o >>= λ ys. Some (natural i ∷ ys)) (variables-value V at (natural i ∷ l))

-- a tuple of terms is the tuple of their values
pub plain-each : (V : Outcomes) (vals : List Datum) (ts : List Term) → each here (part_values V vals (plain ts none)) ≡ each (cden V vals) ts
plain-each V vals [] = refl
plain-each V vals (t ∷ ts) = ap (λ o. cden V vals t >>= λ y. o >>= λ ys. Some (y ∷ ys)) (plain-each V vals ts)

-- the variables of an index as one value
pub index-value : (V : Outcomes) (at : List ℕ) (l : List Datum) → 1 ≤ length at → cden V (push_index at l) (sizes_term (index_variables (length at))) ≡ Some (index_value at)
index-value V [] l h = absurd (omega (arith, h))
index-value V (i ∷ []) l h = refl
index-value V (i ∷ j ∷ at) l h =
    ap (λ o. o >>= tuple_of) (plain-each V (push_index (i ∷ j ∷ at) l) (index_variables (length (i ∷ j ∷ at))) ∙ variables-value V (i ∷ j ∷ at) l)
