-- Types read out as trees.
use Rattle.std.proofs.Common.{ℕ, zero, suc, ◌≡◌, ◌+◌, ◌-◌, ◌<◌, List, [], ◌∷◌, length, take, get_or, refl, sym, ap, subst, arith, add-one}
use Rattle.aql_ty.specs.Types as types
use Rattle.aql_ty.specs.Types.{Ty, Tys, no_type, type, append}
use Rattle.aql_types.specs.Shapes.{Valuation, types_at}
use Rattle.aql_types.specs.Forms.{Form, at}
use Rattle.aql_types.specs.Trees.{form_type}
use Rattle.aql_types.specs.Extents.{end, read}

pub read_none : (fs : List Form) (i left : ℕ) → left ≡ 0 → types.natural ≡ read left fs i
unfolding read
read_none fs i left e = subst (λ m. types.natural ≡ read m fs i) (sym e) refl

pub read_here : (fs : List Form) (i left e : ℕ) (t : Ty) → 0 < left → e ≡ end fs i → t ≡ form_type (read (left - 1) fs) (at fs e) → t ≡ read left fs i
unfolding read
read_here fs i zero e t lt q h = let bad : ⊥ = omega (arith, lt) in absurd bad
read_here fs i (suc m) e t lt q h =
    let z : suc m - 1 ≡ m = omega arith in
    subst (λ k. t ≡ form_type (read k fs) (at fs (end fs i))) z (subst (λ j. t ≡ form_type (read (suc m - 1) fs) (at fs j)) q h)

-- one part more
pub types_next : (v : Valuation) (ps : List ℕ) (i : ℕ) → i < length ps → types_at v (take (i + 1) ps) ≡ append (types_at v (take i ps)) (type (v (get_or ps i 0)) no_type)
types_next v ps i h = rw add-one (go ps i h)
  where
    go : (ps : List ℕ) (i : ℕ) → i < length ps → types_at v (take (suc i) ps) ≡ append (types_at v (take i ps)) (type (v (get_or ps i 0)) no_type)
    go [] i h = let bad : ⊥ = omega (arith, h) in absurd bad
    go (p ∷ ps) zero h = refl
    go (p ∷ ps) (suc i) h = ap (type (v p)) (go ps i (omega (arith, h)))
