-- What a fault says of what is asked for.
use Rattle.std.proofs.Common.{◌≡◌, ℕ, ◌+◌, ◌<◌, ◌≤◌, ◌⊎◌, inl, inr, Bool, true, false, nat_eq, if◌then◌else◌, List, [], ◌∷◌, length, Option, Some, None, option_map, refl, subst, arith, eq-eqb}
use Rattle.cdf_header.specs.declared.fault.CdfFault.{CdfFault}
use Rattle.cdf_header.specs.declared.fault.CdfFault.TheVariants as faults
use Rattle.cdf_header.specs.Header.{Head, Var}
use Rattle.cdf_header.specs.Places.{shape}
use Rattle.cdf_slab.specs.Slab.{first_zero, first_outside, passes, is_floating, wrong_variable, index_fault, IsOfRequest}
use Rattle.aql_value.specs.Partial.{or_else}

-- the first of two that there is
one_of : (x y : Option CdfFault) (f : CdfFault) → or_else x y ≡ Some f → (x ≡ Some f) ⊎ (y ≡ Some f)
one_of None y f e = inr e
one_of (Some g) y f e = inl e

some_of_map : (g : ℕ → CdfFault) (o : Option ℕ) (f : CdfFault) → option_map g o ≡ Some f → (j : ℕ) × (o ≡ Some j) × (g j ≡ f)
some_of_map g None f e = absurd cc
some_of_map g (Some j) f e = let z : g j ≡ f = cc in (j, refl, z)

-- the first dimension that is passed is one of those asked for
outside_below : (k : ℕ) (ns ss cs ts : List ℕ) (j : ℕ) → first_outside k ns ss cs ts ≡ Some j → (k ≤ j) × (j < k + length ss)
outside_below k [] ss cs ts j e = absurd cc
outside_below k (n ∷ ns) [] cs ts j e = absurd cc
outside_below k (n ∷ ns) (s ∷ ss) [] ts j e = absurd cc
outside_below k (n ∷ ns) (s ∷ ss) (c ∷ cs) [] j e = absurd cc
outside_below k (n ∷ ns) (s ∷ ss) (c ∷ cs) (t ∷ ts) j e = go (passes n s c t) (λ h. outside_below (k + 1) ns ss cs ts j h) e
  where
    go : (b : Bool) → (first_outside (k + 1) ns ss cs ts ≡ Some j → (k + 1 ≤ j) × (j < k + 1 + length ss)) → (if b then Some k else first_outside (k + 1) ns ss cs ts) ≡ Some j → (k ≤ j) × (j < k + length (s ∷ ss))
    go true h e = let z : k ≡ j = cc in (omega (arith, z), omega (arith, z))
    go false h e = let r = h e in (omega (arith, r.0), omega (arith, r.1))

wrong_request : (v : Var) (ss cs ts : List ℕ) (signed : Bool) (f : CdfFault) → wrong_variable v (length ss) ≡ Some f → IsOfRequest ss cs ts signed f
wrong_request v ss cs ts signed f e = go (nat_eq (length v.ids) (length ss)) refl (is_floating v.kind) e
  where
    go : (b : Bool) → nat_eq (length v.ids) (length ss) ≡ b → (floats : Bool) → (if b then (if floats then Some faults.FloatVariable else None) else Some (faults.Rank (length v.ids))) ≡ Some f → IsOfRequest ss cs ts signed f
    go true is true e = let z : faults.FloatVariable ≡ f = cc in subst (IsOfRequest ss cs ts signed) z tt
    go true is false e = absurd cc
    go false is floats e =
        let z : faults.Rank (length v.ids) ≡ f = cc in
        subst (IsOfRequest ss cs ts signed) z (λ same. let t = eq-eqb (length v.ids) (length ss) same in absurd cc)

pub index_request : (h : Head) (v : Var) (ss cs ts : List ℕ) (signed : Bool) (f : CdfFault) → index_fault h v ss cs ts ≡ Some f → IsOfRequest ss cs ts signed f
index_request h v ss cs ts signed f e =
    elim (one_of (wrong_variable v (length ss)) _ f e) [
      | inl w ↦ wrong_request v ss cs ts signed f w
      | inr rest ↦ elim (one_of (option_map faults.Stride (first_zero 1 ts)) _ f rest) [
        | inl s ↦ let r = some_of_map faults.Stride (first_zero 1 ts) f s in subst (IsOfRequest ss cs ts signed) r.2 r.1
        | inr o ↦
            let r = some_of_map faults.Outside (first_outside 1 (shape h v) ss cs ts) f o in
            let b = outside_below 1 (shape h v) ss cs ts r.0 r.1 in
            let le : r.0 ≤ length ss = omega (arith, b.1) in
            subst (IsOfRequest ss cs ts signed) r.2 (b.0, le)
      ]
    ]
