-- A node with another term in the place of a part.
use Rattle.std.proofs.Common.{◌≡◌, ℕ, zero, suc, refl, ap}
use Rattle.nrca_term.specs.Term.{Term, Parts, node, none, part, parts_of, count, set_child, with_part}

-- the last of two terms put in the same place stays
pub set_child-again : (ps : Parts) (i : ℕ) (u v : Term) → set_child (set_child ps i u) i v ≡ set_child ps i v
set_child-again none i u v = refl
set_child-again (part k t ps) zero u v = refl
set_child-again (part k t ps) (suc i) u v = ap (part k t) (set_child-again ps i u v)

-- there are as many parts as before
pub count-set_child : (ps : Parts) (i : ℕ) (u : Term) → count (set_child ps i u) ≡ count ps
count-set_child none i u = refl
count-set_child (part k t ps) zero u = refl
count-set_child (part k t ps) (suc i) u = ap suc (count-set_child ps i u)

pub count-with_part : (t : Term) (i : ℕ) (u : Term) → count (parts_of (with_part t i u)) ≡ count (parts_of t)
count-with_part (node f ps) i u = count-set_child ps i u
