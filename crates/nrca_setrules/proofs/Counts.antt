-- Where L2 fits: by the uses of the let's variable and by those under strict parts alone.
use Rattle.std.proofs.Common.{◌≡◌, ℕ, ◌-◌, ◌^◌, min, Bool, true, false, refl, sym, ap, ◌∙◌, arith, []}
use Rattle.nrca_term.specs.declared.trace.Rule.TheVariants.{L2}
use Rattle.nrca_term.specs.Term.{Term}
use Rattle.nrca_term.specs.Nodes.{let_term}
use Rattle.nrca_term.specs.Subst.{strict_uses, uses_of, subst_term}
use Rattle.nrca_rule_laws.specs.Fitting.{RuleFits, IsRight}
use Rattle.nrca_rule_laws.specs.Laws.Fitting.{right-side}

-- equal lets have equal parts
let-same : (e b f c : Term) → let_term e b ≡ let_term f c → (e ≡ f) × (b ≡ c)
let-same e b f c s = (cc, cc)

-- L2 fits where both counts are one
pub l2_fits : (t e b : Term) (m n : ℕ) → t ≡ let_term e b → m ≡ min (uses_of 0 b) (2 ^ 64 - 1) → n ≡ min (strict_uses 0 b) (2 ^ 64 - 1) → m ≡ 1 → n ≡ 1 → RuleFits L2 true t
l2_fits t e b m n h u s p q = (subst_term 0 e b, [], (e, b, omega (arith, u, p), omega (arith, s, q), h, refl, refl))

-- L2 does not fit where they are not
pub l2_unfit : (t e b : Term) (m n : ℕ) → t ≡ let_term e b → m ≡ min (uses_of 0 b) (2 ^ 64 - 1) → n ≡ min (strict_uses 0 b) (2 ^ 64 - 1) → ((m ≡ 1) × (n ≡ 1) → ⊥) → RuleFits L2 false t
l2_unfit t e b m n h u s out = λ r ws x.
    let z = (let-same e b x.0 x.1 (sym h ∙ x.4)).1 in
    out (omega (arith, u, ap (uses_of 0) z, x.2), omega (arith, s, ap (strict_uses 0) z, x.3))

-- L2 fits exactly where both counts are one
pub l2_tells : (a : Bool) (t e b : Term) (m n : ℕ) → t ≡ let_term e b → m ≡ min (uses_of 0 b) (2 ^ 64 - 1) → n ≡ min (strict_uses 0 b) (2 ^ 64 - 1) → (a ≡ true → (m ≡ 1) × (n ≡ 1)) → ((m ≡ 1) × (n ≡ 1) → a ≡ true) → RuleFits L2 a t
l2_tells true t e b m n h u s f g = let k = f refl in l2_fits t e b m n h u s k.0 k.1
l2_tells false t e b m n h u s f g = l2_unfit t e b m n h u s (λ k. let z : false ≡ true = g k in cc)

-- the uses of the variable in another reading of the let
l2-put : (t e b c d : Term) → t ≡ let_term e b → t ≡ let_term c d → (uses_of 0 d ≡ 1) × (strict_uses 0 d ≡ 1) → (uses_of 0 b ≡ 1) × (strict_uses 0 b ≡ 1)
l2-put t e b c d h k p = let z = (let-same e b c d (sym h ∙ k)).1 in (ap (uses_of 0) z ∙ p.0, ap (strict_uses 0) z ∙ p.1)

-- the substituted body is the right side of L2
pub l2_right : (t e b r : Term) → RuleFits L2 true t → t ≡ let_term e b → r ≡ subst_term 0 e b → IsRight L2 t r
l2_right t e b r f h p = let k = l2-put t e b f.2.0 f.2.1 h f.2.4 (f.2.2, f.2.3) in right-side L2 t r [] (e, b, k.0, k.1, h, p, refl)
