-- The pitch of a dimension.
use Rattle.std.proofs.Common.{◌≡◌, ℕ, zero, suc, ◌+◌, ◌*◌, ◌<◌, true, false, cond, List, [], ◌∷◌, length, drop, get_or, refl, ap, ◌∙◌, arith}
use Rattle.std.proofs.lemmas.List.{length-map, drop-map}
use Rattle.aql_value.specs.Indices.{product}
use Rattle.cdf_header.specs.Header.{Var}
use Rattle.cdf_header.specs.Format.{type_size}
use Rattle.cdf_header.specs.Places.{len_at, lens, inner, is_record, recsize, pitches_in, pitches}

pitches_in_at : (size : ℕ) (ds : List ℕ) (j : ℕ) → j < length ds → get_or (pitches_in size ds) j 0 ≡ product (drop (j + 1) ds) * size
pitches_in_at size [] j lt = absurd (omega (arith, lt))
pitches_in_at size (d ∷ ds) zero lt = refl
pitches_in_at size (d ∷ ds) (suc j) lt =
    pitches_in_at size ds j (omega (arith, lt)) ∙ ap (λ k. product (drop k (d ∷ ds)) * size) (let e : suc (j + 1) ≡ suc j + 1 = omega arith in e)

fixed_at : (ds : List ℕ) (size : ℕ) (ids : List ℕ) (j : ℕ) → j < length ids → get_or (pitches_in size (lens ds ids)) j 0 ≡ product (lens ds (drop (j + 1) ids)) * size
fixed_at ds size ids j lt =
    pitches_in_at size (lens ds ids) j (omega (arith, lt, length-map ids (len_at ds))) ∙ ap (λ x. product x * size) (drop-map (len_at ds) (j + 1) ids)

inside_at : (ds : List ℕ) (size : ℕ) (ids : List ℕ) (j : ℕ) → suc j < length ids → get_or (pitches_in size (lens ds (inner ids))) j 0 ≡ product (lens ds (drop (suc j + 1) ids)) * size
inside_at ds size [] j lt = absurd (omega (arith, lt))
inside_at ds size (i ∷ ids) j lt =
    fixed_at ds size ids j (omega (arith, lt)) ∙ ap (λ k. product (lens ds (drop k (i ∷ ids))) * size) (let e : suc (j + 1) ≡ suc j + 1 = omega arith in e)

-- behind the first dimension
pub pitches_past : (ds : List ℕ) (vs : List Var) (v : Var) (j : ℕ) → j < length v.ids → 0 < j → get_or (pitches ds vs v) j 0 ≡ product (lens ds (drop (j + 1) v.ids)) * type_size v.kind
pitches_past ds vs v zero lt pos = absurd (omega (arith, pos))
pitches_past ds vs v (suc j) lt pos =
    elim (is_record ds v) as (λ b. get_or (cond b (recsize ds vs ∷ pitches_in (type_size v.kind) (lens ds (inner v.ids))) (pitches_in (type_size v.kind) (lens ds v.ids))) (suc j) 0
    ≡ product (lens ds (drop (suc j + 1) v.ids)) * type_size v.kind) [
      | true ↦ inside_at ds (type_size v.kind) v.ids j lt
      | false ↦ fixed_at ds (type_size v.kind) v.ids (suc j) lt
    ]
