-- The array that pairs make.
use Rattle.std.proofs.Common.{◌≡◌, ℕ, ◌<◌, ◌≤◌, Bool, true, false, List, length, map, Some, None, refl, sym, ◌∙◌, ap, arith, ◌⊎◌, inl, inr}
use Rattle.std.specs.Prelude.{nat_lt, nat_eq, ◌&&◌, if◌then◌else◌}
use Rattle.std.proofs.lemmas.List.{length-map}
use Rattle.std.proofs.lemmas.Bool.{le-ltb}
use Rattle.aql_value.specs.Datum.{Datum, array, data_of}
use Rattle.aql_value.specs.Laws.Datum.{list_of-data_of}
use Rattle.aql_value.specs.Indices.{product, indices}
use Rattle.aql_value.specs.Laws.Indices.{length_indices}
use Rattle.aql_value.specs.Laws.Lists.{Every-onto}
use Rattle.aql_value.specs.Operations.{as_array, array_of, is_rank, dims_above, all_in_range, set_of, values_at}
use Rattle.aql_value.specs.Laws.Operations.{array_of-made}
use Rattle.aql_value.specs.Partial.{◌>>=◌, if_some}
use Rattle.nrca_forms.specs.Indexing.{pairs_value, pairs_turns, AreRanked}
use Rattle.nrca_forms.proofs.Extents.{length-dims_above}

abbrev pub dims_of : ℕ → List (List ℕ × Datum) → List ℕ
dims_of rank ps = dims_above rank (map (λ p. p.0) ps)

abbrev pub cells_of : List ℕ → List (List ℕ × Datum) → List Datum
cells_of ds ps = map (λ at. set_of (values_at at ps)) (indices ds)

module _ (rank : ℕ) (ps : List (List ℕ × Datum)) (ranked : AreRanked rank (Some ps)) where
  rank_is : length (dims_of rank ps) ≡ rank
  rank_is = length-dims_above rank (map (λ p. p.0) ps) (Every-onto (λ at. length at ≡ rank) (λ p. p.0) ps ranked)

  no_rank : (n : ℕ) → (n ≡ 0) ⊎ (8 < n) → is_rank n ≡ false
  no_rank n (inl z) = ap is_rank z
  no_rank n (inr h) = go (nat_lt 0 n) (le-ltb n 9 (omega (arith, h)))
    where
      go : (b : Bool) → nat_lt n 9 ≡ false → (b && nat_lt n 9) ≡ false
      go true e = e
      go false e = refl

  -- no array has that rank
  pub rank_none : (rank ≡ 0) ⊎ (8 < rank) → pairs_value rank (Some ps) ≡ None
  rank_none h = go (all_in_range (dims_of rank ps))
    where
      nothing : array_of (dims_of rank ps) (cells_of (dims_of rank ps) ps) ≡ None
      nothing =
          ap (λ b. if b && nat_eq (product (dims_of rank ps)) (length (cells_of (dims_of rank ps) ps)) then Some (array (dims_of rank ps) (data_of (cells_of (dims_of rank ps) ps))) else None)
          (ap is_rank rank_is ∙ no_rank rank h)

      go : (b : Bool) → (if b then array_of (dims_of rank ps) (cells_of (dims_of rank ps) ps) else None) ≡ None
      go true = nothing
      go false = refl

  pub none_turns : pairs_value rank (Some ps) ≡ None → pairs_turns rank (Some ps) ≡ 0
  none_turns h = ap (λ o. if_some (o >>= as_array) (λ t. length t.cells)) h

  module _ (some : 1 ≤ rank) (few : rank ≤ 8) (fits : all_in_range (dims_of rank ps) ≡ true) where
    pub value_made : pairs_value rank (Some ps) ≡ array_of (dims_of rank ps) (cells_of (dims_of rank ps) ps)
    value_made = ap (λ b. if b then array_of (dims_of rank ps) (cells_of (dims_of rank ps) ps) else None) fits

    full : product (dims_of rank ps) ≡ length (cells_of (dims_of rank ps) ps)
    full = sym (length-map (indices (dims_of rank ps)) (λ at. set_of (values_at at ps)) ∙ length_indices (dims_of rank ps))

    pub turns_made : pairs_turns rank (Some ps) ≡ product (dims_of rank ps)
    turns_made =
        ap (λ o. if_some (o >>= as_array) (λ t. length t.cells)) (value_made ∙ array_of-made (dims_of rank ps) (cells_of (dims_of rank ps) ps) (omega (arith, rank_is, some)) (omega (arith, rank_is, few)) full)
        ∙ ap length (list_of-data_of (cells_of (dims_of rank ps) ps))
        ∙ sym full

-- dimensions that are in range
pub checked_range : (ds es : List ℕ) → (if all_in_range ds then Some ds else None) ≡ Some es → (all_in_range ds ≡ true) × (es ≡ ds)
checked_range ds es h = go (all_in_range ds) refl h
  where
    go : (b : Bool) → all_in_range ds ≡ b → (if b then Some ds else None) ≡ Some es → (all_in_range ds ≡ true) × (es ≡ ds)
    go true e k = let z : es ≡ ds = cc in (e, z)
    go false e k = cc
