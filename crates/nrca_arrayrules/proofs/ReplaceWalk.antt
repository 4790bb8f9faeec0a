-- What the walk that replaces the dimensions of a variable makes.
use Rattle.std.proofs.Common.{◌≡◌, ℕ, ◌+◌, ◌<◌, ◌≤◌, ◌^◌, if◌then◌else◌, Some, refl, sym, ap, ◌∙◌, arith, eq-eqb}
use Rattle.std.proofs.lemmas.Bool.{ne_eqb}
use Rattle.nrca_term.specs.Term.{Term, Parts, node, none, part, form_of, parts_of, child_of, count, form_weight}
use Rattle.nrca_term.specs.Nodes.{dim_term, variable}
use Rattle.nrca_term.specs.Rules.{replace_dims, replace_dims_parts}
use Rattle.nrca_term.specs.Subst.{shift_term, top_var}
use Rattle.nrca_term.specs.Laws.Measure.{parts_weight-child}
use Rattle.nrca_term.specs.Laws.Shift.{shift_term-twice, top_var-shift_le}
use Rattle.nrca_subst.specs.Laws.Walking.{first_parts, with_first_parts}
use Rattle.nrca_arrayrules.proofs.Asking.{is_dim_of-no}
use Rattle.nrca_arrayrules.specs.Replacing.{IsNoDim, IsDimOfVariable, HasRoom}

-- a part replaced under its own variables
abbrev pub replace_part : ℕ → Term → ℕ → Term → Term
replace_part depth s k t = replace_dims (depth + k) (shift_term 0 (depth + k) s) t

-- all parts replaced
replaced-parts : (depth : ℕ) (s : Term) (ps : Parts) → first_parts (replace_part depth s) (count ps) ps ≡ replace_dims_parts depth (shift_term 0 depth s) ps
unfolding first_parts
replaced-parts depth s none = refl
replaced-parts depth s (part k t ps) =
    ap (λ x. part k (replace_dims (depth + k) x t) (first_parts (replace_part depth s) (count ps) ps)) (sym (shift_term-twice 0 depth k s)) ∙ ap (part k (replace_dims (depth + k) (shift_term 0 k (shift_term 0 depth s)) t)) (replaced-parts depth s ps)

-- after all parts the node is replaced, where it is no dimensions of a variable
pub with_first_parts-replaced : (depth : ℕ) (s : Term) (n : ℕ) (t r : Term) → r ≡ with_first_parts (replace_part depth s) n t → n ≡ count (parts_of t) → IsNoDim t → r ≡ replace_dims depth (shift_term 0 depth s) t
unfolding with_first_parts
with_first_parts-replaced depth s n (node f ps) r e c h =
    e
    ∙ ap (λ m. node f (first_parts (replace_part depth s) m ps)) c
    ∙ ap (node f) (replaced-parts depth s ps)
    ∙ ap (λ b. if b then shift_term 0 depth s else node f (replace_dims_parts depth (shift_term 0 depth s) ps)) (sym (is_dim_of-no depth f ps h))

-- a walk keeps the form
pub form_of-with_first_parts : (g : ℕ → Term → Term) (n : ℕ) (t s : Term) → s ≡ with_first_parts g n t → form_of s ≡ form_of t
unfolding with_first_parts
form_of-with_first_parts g n t s e = ap form_of e

-- there is room in a part
pub room-part : (depth b i : ℕ) (s t u : Term) → child_of (parts_of t) i ≡ Some u → b ≤ form_weight (form_of t) → HasRoom depth s t → HasRoom (depth + b) s u
room-part depth b i s (node f ps) u c l h = omega (arith, h, l, parts_weight-child ps i u c)

-- the dimensions of another variable stay
pub replaced-apart : (depth i : ℕ) (s t : Term) → IsDimOfVariable i t → (i ≡ depth → ⊥) → t ≡ replace_dims depth s t
replaced-apart depth i s t h e = h.1 ∙ ap (λ b. if b then s else dim_term h.0 (variable i)) (sym (ne_eqb i depth e)) ∙ ap (replace_dims depth s) (sym h.1)

-- the dimensions of the variable
pub replaced-here : (depth i : ℕ) (s t r : Term) → IsDimOfVariable i t → i ≡ depth → r ≡ s → r ≡ replace_dims depth s t
replaced-here depth i s t r h e k =
    k ∙ ap (λ b. if b then s else dim_term h.0 (variable i)) (sym (eq-eqb i depth e)) ∙ ap (replace_dims depth s) (sym h.1)

-- there is room for the term under the binders
pub room-here : (depth : ℕ) (s t : Term) → HasRoom depth s t → top_var (shift_term 0 depth s) < 2 ^ 64
room-here depth s t h = omega (arith, h, top_var-shift_le 0 depth s)

-- the number of binders of a part fits
pub room-form : (depth b : ℕ) (s t : Term) → b ≤ form_weight (form_of t) → HasRoom depth s t → depth + b < 2 ^ 64
room-form depth b s (node f ps) l h = omega (arith, l, h)
