-- The weight of the first parts of a node.
use Rattle.std.proofs.Common.{◌≡◌, ℕ, zero, suc, ◌+◌, ◌≤◌, Some, None, refl, sym, ap, ◌∙◌, arith, add-one}
use Rattle.nrca_term.specs.Term.{Term, Parts, node, none, part, form_of, parts_of, count, child_of, form_weight, weight_of, parts_weight}

abbrev pub first_weight : ℕ → Parts → ℕ
first_weight zero ps = 0
first_weight (suc n) none = 0
first_weight (suc n) (part k t ps) = weight_of t + first_weight n ps

step : (n : ℕ) (ps : Parts) (u : Term) → child_of ps n ≡ Some u → first_weight (suc n) ps ≡ first_weight n ps + weight_of u
step zero none u e = cc
step zero (part k t ps) u e = let same : u ≡ t = cc in omega (arith, ap weight_of same)
step (suc n) none u e = cc
step (suc n) (part k t ps) u e = omega (arith, step n ps u e)

-- one part more
pub first_weight-more : (n : ℕ) (ps : Parts) (u : Term) → child_of ps n ≡ Some u → first_weight (n + 1) ps ≡ first_weight n ps + weight_of u
first_weight-more n ps u e = ap (λ m. first_weight m ps) (add-one n) ∙ step n ps u e

past : (n : ℕ) (ps : Parts) → None ≡ child_of ps n → first_weight (suc n) ps ≡ first_weight n ps
past zero none e = refl
past zero (part k t ps) e = cc
past (suc n) none e = refl
past (suc n) (part k t ps) e = ap (λ m. weight_of t + m) (past n ps e)

pub first_weight-past : (n : ℕ) (ps : Parts) → None ≡ child_of ps n → first_weight (n + 1) ps ≡ first_weight n ps
first_weight-past n ps e = ap (λ m. first_weight m ps) (add-one n) ∙ past n ps e

-- all parts
pub first_weight-all : (n : ℕ) (ps : Parts) → count ps ≤ n → first_weight n ps ≡ parts_weight ps
first_weight-all zero none l = refl
first_weight-all zero (part k t ps) l = absurd (omega (arith, l))
first_weight-all (suc n) none l = refl
first_weight-all (suc n) (part k t ps) l = ap (λ m. weight_of t + m) (first_weight-all n ps (omega (arith, l)))

-- a node weighs what its form and its parts do
pub weight-parts : (t : Term) → weight_of t ≡ form_weight (form_of t) + parts_weight (parts_of t)
weight-parts (node f ps) = refl
