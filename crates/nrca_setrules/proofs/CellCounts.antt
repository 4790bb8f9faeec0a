-- Literals whose cells are not as many as their dimensions say.
use Rattle.std.proofs.Common.{◌≡◌, ℕ, ◌<◌, ◌≤◌, ◌^◌, List, length, Some, sym, ap, ◌∙◌, arith}
use Rattle.aql_value.specs.Indices.{product}
use Rattle.nrca_term.specs.Term.{Term}
use Rattle.nrca_term.specs.Cells.{CountsCells}
use Rattle.nrca_term.specs.Laws.Lists.{numbers-same}
use Rattle.nrca_setrules.specs.Constants.{IsMisshapen}

-- cells that are not as many as the count make the literal misshapen
pub misshapen-yes : (p n : ℕ) (ds cs : List Term) → n ≡ length cs → n < 2 ^ 64 → CountsCells ds (Some p) → (p ≡ n → ⊥) → IsMisshapen ds cs
misshapen-yes p n ds cs e l t h = (t.0, t.1, λ q. h (omega (arith, t.2, q, e, l)))

-- the cells of a misshapen literal are not as many as the count
pub misshapen-back : (p n : ℕ) (ds cs : List Term) → n ≡ length cs → n < 2 ^ 64 → CountsCells ds (Some p) → IsMisshapen ds cs → p ≡ n → ⊥
misshapen-back p n ds cs e l t h q =
    let z = numbers-same t.0 h.0 (sym t.1 ∙ h.1) in
    h.2 (omega (arith, t.2, ap product z, q, e, l))
