-- A node weighs more than its parts, and a list no less than each term of it.
use Rattle.std.proofs.Common.{◌≡◌, ℕ, zero, suc, ◌+◌, ◌<◌, ◌≤◌, List, [], ◌∷◌, length, map, get_or, Box, Global, ap, ◌∙◌, arith, subst}
use Rattle.nrca_term.specs.Term.{part, plain, none, weight_of, list_weight}
use Rattle.nrca_term.specs.Laws.Variants.{parts_weight-plain}
use Rattle.nrca_term.specs.View.{term_of, terms_of}
use Rattle.nrca_term.specs.Laws.Equations.{term_of-Tuple, term_of-Tab, term_of-Sub, term_of-Literal}
use Rattle.nrca_term.specs.declared.term.Core.{Core}
use Rattle.nrca_term.specs.declared.term.Core.TheVariants as core
use Rattle.nrca_term.specs.declared.term.Terms.{Terms}

pub weight_at : (xs : List Core) (ts : Terms) (i : ℕ) (x : Core) → xs ≡ ts.0.items → i < length xs → x ≡ get_or xs i x → weight_of (term_of x) ≤ list_weight (terms_of ts)
weight_at xs ts i x e h k = subst (λ l. weight_of (term_of x) ≤ list_weight (map term_of l)) e (go xs i h k)
  where
    go : (ys : List Core) (j : ℕ) → j < length ys → x ≡ get_or ys j x → weight_of (term_of x) ≤ list_weight (map term_of ys)
    go [] j l p = absurd (omega (arith, l))
    go (y ∷ ys) zero l p = omega (arith, ap (λ z. weight_of (term_of z)) p)
    go (y ∷ ys) (suc j) l p = omega (arith, go ys j (omega (arith, l)) p)

pub weight-tuple : (t : Core) (ts : Terms) → t ≡ core.Tuple ts → list_weight (terms_of ts) < weight_of (term_of t)
weight-tuple t ts e =
    let w = ap (λ u. weight_of (term_of u)) e ∙ ap weight_of (term_of-Tuple ts) in
    omega (arith, w, parts_weight-plain (terms_of ts) none)

pub weight-sub : (t : Core) (a : Box Core Global) (ts : Terms) → t ≡ core.Sub a ts → weight_of (term_of a.value) + list_weight (terms_of ts) < weight_of (term_of t)
weight-sub t a ts e =
    let w = ap (λ u. weight_of (term_of u)) e ∙ ap weight_of (term_of-Sub a ts) in
    omega (arith, w, parts_weight-plain (terms_of ts) none)

pub weight-literal : (t : Core) (ds cs : Terms) → t ≡ core.Literal ds cs → list_weight (terms_of ds) + list_weight (terms_of cs) < weight_of (term_of t)
weight-literal t ds cs e =
    let w = ap (λ u. weight_of (term_of u)) e ∙ ap weight_of (term_of-Literal ds cs) in
    omega (arith, w, parts_weight-plain (terms_of ds) (plain (terms_of cs) none), parts_weight-plain (terms_of cs) none)

pub weight-tab : (t : Core) (ts : Terms) (b : Box Core Global) → t ≡ core.Tab ts b → list_weight (terms_of ts) + weight_of (term_of b.value) < weight_of (term_of t)
weight-tab t ts b e =
    let w = ap (λ u. weight_of (term_of u)) e ∙ ap weight_of (term_of-Tab ts b) in
    omega (arith, w, parts_weight-plain (terms_of ts) (part (length (terms_of ts)) (term_of b.value) none))
