-- Where I1, I2, N1 and N2 fit, and their right sides, from one equation a node.
use Rattle.std.proofs.Common.{◌≡◌, Bool, true, [], ◌∷◌, refl, sym, ap, ◌∙◌, if◌then◌else◌}
use Rattle.nrca_term.specs.declared.trace.Rule.TheVariants.{I1, I2, N1, N2}
use Rattle.nrca_term.specs.Term.{Term, Form}
use Rattle.nrca_term.specs.Nodes.{if_term, truth_term, bottom_term, default_term, empty_term, loop_term}
use Rattle.nrca_rule_laws.specs.Fitting.{RuleFits, IsRight}
use Rattle.nrca_rule_laws.specs.Laws.Fitting.{right-side}
use Rattle.nrca_term.specs.Rules.{LoopOf}

-- I1 fits an `if` whose test is a truth value
pub fits_if : (t c x y : Term) (b : Bool) → t ≡ if_term c x y → c ≡ truth_term b → RuleFits I1 true t
fits_if t c x y b e k = ((if b then x else y), [], (b, x, y, e ∙ ap (λ z. if_term z x y) k, refl, refl))

-- I2 fits a loop over an `if` with an empty second branch
pub i2_fits : (f : Form) (z t o c e n b : Term) → LoopOf f z → t ≡ loop_term f o b → o ≡ if_term c e n → n ≡ empty_term → RuleFits I2 true t
i2_fits f z t o c e n b l h k m = (if_term c (loop_term f e b) z, [], (f, z, c, e, b, l, h ∙ ap (λ x. loop_term f x b) (k ∙ ap (if_term c e) m), refl, refl))

-- the second branch of one reading is that of the other
if_other : (f g : Form) (o c e n b d a x : Term) → loop_term f o b ≡ loop_term g (if_term d a empty_term) x → o ≡ if_term c e n → n ≡ empty_term
if_other f g o c e n b d a x h k = cc

-- the `if` around the loop is the right side of I2
pub i2_right : (f : Form) (z t o c e n b r y u : Term) → LoopOf f z → RuleFits I2 true t → t ≡ loop_term f o b → o ≡ if_term c e n → r ≡ if_term c y u → y ≡ loop_term f e b → u ≡ z → IsRight I2 t r
i2_right f z t o c e n b r y u l w h k p q s =
    let m = if_other f w.2.0 o c e n b w.2.2 w.2.3 w.2.4 (sym h ∙ w.2.6) k in
    right-side I2 t r [] (f, z, c, e, b, l, h ∙ ap (λ x. loop_term f x b) (k ∙ ap (if_term c e) m), p ∙ ap (λ x. if_term c x u) q ∙ ap (if_term c (loop_term f e b)) s, refl)

-- N1 fits a default for Bottom
pub n1_fits : (t a b : Term) → t ≡ default_term a b → a ≡ bottom_term → RuleFits N1 true t
n1_fits t a b h k = (b, [], (h ∙ ap (λ z. default_term z b) k, refl))

-- N2 fits a default
pub n2_fits : (t a b : Term) → t ≡ default_term a b → RuleFits N2 true t
n2_fits t a b h = (a, (0 ∷ []) ∷ [], (b, h, refl))

-- the first part is the right side of N2
pub n2_right : (t a b : Term) → t ≡ default_term a b → IsRight N2 t a
n2_right t a b h = right-side N2 t a ((0 ∷ []) ∷ []) (b, h, refl)
