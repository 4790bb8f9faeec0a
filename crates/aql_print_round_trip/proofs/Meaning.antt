-- The expression of a value denotes it.
use Rattle.std.proofs.Common.{◌≡◌, ℕ, ◌≤◌, List, [], ◌∷◌, ◌++◌, length, map, Some, refl, sym, ap, ◌∙◌, arith, eq-eqb}
use Rattle.std.proofs.Math.Seq.{take-append_seam, drop-append_seam}
use Rattle.std.proofs.lemmas.List.{length-map}
use Rattle.aql_value.specs.Datum as datum
use Rattle.aql_value.specs.Datum.{Datum, natural, truth, tuple, set, array, Data, nil, cons, list_of, data_of}
use Rattle.aql_value.specs.Laws.Datum.{data_of-list_of}
use Rattle.aql_value.specs.Laws.Canon.{canon_ascending}
use Rattle.aql_value.specs.Indices.{product}
use Rattle.aql_value.specs.Operations.{tuple_of, literal_of}
use Rattle.aql_value.specs.Laws.Operations.{array_of-made, each-naturals}
use Rattle.aql_value.specs.Valid.{IsValue, AreValues}
use Rattle.aql_syntax.specs.Tree.{Trees, count_trees, append}
use Rattle.aql_syntax.specs.Matching.{Env, Globals}
use Rattle.aql_syntax.specs.Denotation.{den, dens}
use Rattle.aql_print_round_trip.proofs.Said.{numbers, expression, expressions}
use Rattle.aql_print_round_trip.proofs.Reading.{count-numbers}

tuple_back : (vs : Data) → 2 ≤ length (list_of vs) → tuple_of (list_of vs) ≡ Some (tuple vs)
tuple_back nil h = absurd (omega (arith, h))
tuple_back (cons v nil) h = absurd (omega (arith, h))
tuple_back (cons v (cons w vs)) h = ap (λ d. Some (tuple (cons v (cons w d)))) (data_of-list_of vs)

-- dimensions, and then other trees
dens-numbers : (globals : Globals) (env : Env) (ds : List ℕ) (es : Trees) (ws : List Datum) → dens es globals env ≡ Some ws → dens (append (numbers ds) es) globals env ≡ Some (map natural ds ++ ws)
dens-numbers globals env [] es ws e = e
dens-numbers globals env (d ∷ ds) es ws e = rw (dens-numbers globals env ds es ws e) refl

literal_back : (n : ℕ) (ds : List ℕ) (ws : List Datum) → n ≡ length ds → 1 ≤ length ds → length ds ≤ 8 → product ds ≡ length ws →
    literal_of n (map natural ds ++ ws) ≡ Some (array ds (data_of ws))
literal_back n ds ws e some few full =
    let l : length (map natural ds) ≡ length ds = length-map ds natural in
    ap (λ k. literal_of k (map natural ds ++ ws)) (e ∙ sym l)
    ∙ rw (take-append_seam (map natural ds) ws, drop-append_seam (map natural ds) ws, each-naturals ds, eq-eqb (length ds) (length (map natural ds)) (sym l)) (array_of-made ds ws some few full)

mutual
  pub denotes : (globals : Globals) (env : Env) (v : Datum) → IsValue v → den (expression v) globals env ≡ Some v
  denotes globals env (natural n) h = refl
  denotes globals env (truth b) h = refl
  denotes globals env (datum.text s) h = refl
  denotes globals env (tuple vs) h = rw (denote globals env vs h.1) (tuple_back vs h.0)
  denotes globals env (set nil) h = refl
  denotes globals env (set (cons v vs)) h =
      rw (denotes globals env v h.1.0, denote globals env vs h.1.1) (ap (λ l. Some (set (data_of l))) (canon_ascending (v ∷ list_of vs) h.0) ∙ ap (λ d. Some (set (cons v d))) (data_of-list_of vs))
  denotes globals env (array ds vs) h =
      rw (dens-numbers globals env ds (expressions vs) (list_of vs) (denote globals env vs h.2))
      (literal_back (count_trees (numbers ds)) ds (list_of vs) (count-numbers ds) h.1.some h.1.few h.1.full ∙ ap (λ d. Some (array ds d)) (data_of-list_of vs))

  denote : (globals : Globals) (env : Env) (vs : Data) → AreValues vs → dens (expressions vs) globals env ≡ Some (list_of vs)
  denote globals env nil h = refl
  denote globals env (cons v vs) h = rw (denotes globals env v h.0, denote globals env vs h.1) refl
