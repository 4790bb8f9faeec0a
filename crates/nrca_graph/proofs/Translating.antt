-- The walk over the parts of a node that translates each.
use Rattle.std.proofs.Common.{◌≡◌, ℕ, zero, suc, ◌≤◌, Some, refl, ap, ◌∙◌, arith}
use Rattle.nrca_term.specs.Term.{Term, Parts, node, none, part, form_of, parts_of, count, child_of}
use Rattle.nrca_term.specs.Subst.{top_var, parts_top}
use Rattle.nrca_term.specs.Laws.Measure.{form-positive, weight_of-child}
use Rattle.nrca_subst.specs.Laws.Walking.{first_parts, with_first_parts}
use Rattle.nrca_graph.specs.ArrayFree.{array_free, array_free_parts}
use Rattle.nrca_graph.specs.Laws.Tops.{parts_free-top, parts_free-few}
use Rattle.nrca_graph.specs.Made.{HasRoom, PartsHaveRoom, with_array_free_parts}

-- what the walk makes of a part, whatever its variables
abbrev pub free_part : ℕ → Term → Term
free_part k t = array_free t

all_free : (ps : Parts) → first_parts free_part (count ps) ps ≡ array_free_parts ps
unfolding first_parts
all_free none = refl
all_free (part k t ps) = ap (part k (array_free t)) (all_free ps)

-- all parts are done
pub free-all : (n : ℕ) (t s : Term) → s ≡ with_first_parts free_part n t → n ≡ count (parts_of t) → s ≡ with_array_free_parts t
unfolding with_first_parts
free-all n t s e c = e ∙ ap (λ m. node (form_of t) (first_parts free_part m (parts_of t))) c ∙ ap (node (form_of t)) (all_free (parts_of t))

parts_top-child : (ps : Parts) (i : ℕ) (u : Term) → child_of ps i ≡ Some u → top_var u ≤ parts_top ps
parts_top-child none i u e = cc
parts_top-child (part k t ps) zero u e = let same : u ≡ t = cc in omega (arith, ap top_var same)
parts_top-child (part k t ps) (suc i) u e = omega (arith, parts_top-child ps i u e)

top-child : (t : Term) (i : ℕ) (u : Term) → child_of (parts_of t) i ≡ Some u → top_var u ≤ top_var t
top-child (node f ps) i u e = omega (arith, parts_top-child ps i u e)

-- a part has room where the node has
pub room-child : (t : Term) (i : ℕ) (u : Term) → child_of (parts_of t) i ≡ Some u → HasRoom t → HasRoom u
room-child t i u e h = omega (arith, h, top-child t i u e, weight_of-child t i u e)

-- the node with its parts translated has room for its own translation
pub room-free : (t s : Term) → HasRoom t → s ≡ with_array_free_parts t → PartsHaveRoom s
room-free (node f ps) s h e =
    let a = ap (λ x. parts_top (parts_of x)) e in
    let c = ap (λ x. count (parts_of x)) e in (
      omega (arith, h, form-positive f, a, parts_free-top ps),
      omega (arith, h, form-positive f, c, parts_free-few ps),
    )
