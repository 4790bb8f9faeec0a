-- The constants of a node's parts, one part after another.
use Rattle.std.proofs.Common.{◌≡◌, ℕ, zero, suc, ◌+◌, ◌<◌, ◌≤◌, Some, None, refl, subst, arith, below_more}
use Rattle.nrca_term.specs.Term.{Term, Parts, node, none, part, form_of, parts_of, count, child_of}
use Rattle.nrca_term.specs.Valid.{FormConstant, HasConstants, PartsHaveConstants}

-- the constants of part i, if there is such a part, are values
abbrev pub ChildHasConstants : Parts → ℕ → Type 0
ChildHasConstants ps i = (u : Term) → child_of ps i ≡ Some u → HasConstants u

-- those of the parts below i
abbrev pub BelowHaveConstants : ℕ → Parts → Type 0
BelowHaveConstants i ps = (k : ℕ) → k < i → ChildHasConstants ps k

pub below-part : (ps : Parts) (i : ℕ) (u : Term) → BelowHaveConstants i ps → Some u ≡ child_of ps i → HasConstants u → BelowHaveConstants (i + 1) ps
below-part ps i u h e c = below_more (ChildHasConstants ps) i h (λ v f. let s : u ≡ v = cc in subst HasConstants s c)

pub below-absent : (ps : Parts) (i : ℕ) → BelowHaveConstants i ps → None ≡ child_of ps i → BelowHaveConstants (i + 1) ps
below-absent ps i h e = below_more (ChildHasConstants ps) i h (λ v f. cc)

all-parts : (ps : Parts) (i : ℕ) → count ps ≤ i → BelowHaveConstants i ps → PartsHaveConstants ps
all-parts none i l h = tt
all-parts (part k t ps) zero l h = absurd (omega (arith, l))
all-parts (part k t ps) (suc i) l h = (h 0 (omega arith) t refl, all-parts ps i (omega (arith, l)) (λ j m. h (suc j) (omega (arith, m))))

-- a node whose own constant is a value, and whose parts all have such constants
pub node-constants : (t : Term) (i : ℕ) → FormConstant (form_of t) → count (parts_of t) ≤ i → BelowHaveConstants i (parts_of t) → HasConstants t
node-constants (node f ps) i c l h = (c, all-parts ps i l h)
