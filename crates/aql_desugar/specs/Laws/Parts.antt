-- What is known of what is made of parts, where memory may have been wanting for one.
use Rattle.std.proofs.Common.{◌≡◌, Result, Ok, Err, IfOk, IsOkAnd, ap, ◌∙◌}
use Rattle.nrca_term.specs.Term.{Term}
use Rattle.nrca_term.specs.View.{term_of}
use Rattle.nrca_term.specs.declared.term.Core.{Core}

-- what is made of one part
pub one_made : {E F : Type 0} (r : Result Core E) (p : Result Core F) (T : Term → Term) (m whole : Term) →
    IfOk r (λ c. IsOkAnd p (λ x. term_of c ≡ T (term_of x))) → IfOk p (λ x. term_of x ≡ m) → T m ≡ whole → IfOk r (λ c. term_of c ≡ whole)
one_made (Ok c) (Ok x) T m whole h k l = h ∙ ap T k ∙ l
one_made (Ok c) (Err e) T m whole h k l = absurd h
one_made (Err e) p T m whole h k l = tt

-- what is made of two parts
pub both_made : {E F : Type 0} (r : Result Core E) (p : Result (Core × Core) F) (T : Term → Term → Term) (m n whole : Term) →
    IfOk r (λ c. IsOkAnd p (λ x. term_of c ≡ T (term_of x.0) (term_of x.1))) → IfOk p (λ x. term_of x.0 ≡ m) → IfOk p (λ x. term_of x.1 ≡ n) → T m n ≡ whole → IfOk r (λ c. term_of c ≡ whole)
both_made (Ok c) (Ok x) T m n whole h k i l = h ∙ ap (λ a. T a (term_of x.1)) k ∙ ap (T m) i ∙ l
both_made (Ok c) (Err e) T m n whole h k i l = absurd h
both_made (Err e) p T m n whole h k i l = tt

-- what follows from two things that are known
pub ok_join : {T E : Type 0} (r : Result T E) (P Q R : T → Type 0) → ((x : T) → P x → Q x → R x) → IfOk r P → IfOk r Q → IfOk r R
ok_join (Ok x) P Q R f h k = f x h k
ok_join (Err e) P Q R f h k = tt
