-- What is known of parts that were made.
use Rattle.std.proofs.Common.{◌≡◌, Result, Ok, Err, MatchResult, IfOk, IsOkAnd, OnOk, subst, sym, ap}
use Rattle.nrca_term.specs.Nodes.{let_term}
use Rattle.nrca_term.specs.View.{term_of}
use Rattle.nrca_term.specs.declared.term.Core.{Core}

-- what holds of a part where one was made
pub part_of : {T E : Type 0} (r : Result T E) (P : T → Type 0) (Q : E → Type 0) (x : T) → IsOkAnd r (λ v. v ≡ x) → MatchResult r P Q → P x
part_of (Ok v) P Q x e h = subst P e h
part_of (Err e) P Q x b h = absurd b

-- what holds where a part was made
pub holds_of : {T E : Type 0} (r : Result T E) (P : Type 0) (x : T) → IsOkAnd r (λ v. v ≡ x) → OnOk r P → P
holds_of (Ok v) P x e h = h
holds_of (Err e) P x b h = absurd b

-- the parts of a pair that is made of them, the second at hand
pub first_of : {E F : Type 0} (q : Result (Core × Core) E) (p : Result Core F) (P : Core → Type 0) (b : Core) (Q : E → Type 0) → MatchResult q (λ x. IsOkAnd p (λ v. v ≡ x.0) × b ≡ x.1) Q → IfOk p P → IfOk q (λ x. P x.0)
first_of (Ok x) (Ok v) P b Q h k = subst P h.0 k
first_of (Ok x) (Err e) P b Q h k = absurd h.0
first_of (Err e) p P b Q h k = tt

pub second_of : {E F : Type 0} (q : Result (Core × Core) E) (p : Result Core F) (b : Core) (Q : E → Type 0) → MatchResult q (λ x. IsOkAnd p (λ v. v ≡ x.0) × b ≡ x.1) Q → IfOk q (λ x. term_of x.1 ≡ term_of b)
second_of (Ok x) p b Q h = sym (ap term_of h.1)
second_of (Err e) p b Q h = tt

-- what is made of two parts that were made one by one
pub let_made : {E F G : Type 0} (r : Result Core E) (p : Result Core F) (q : Result Core G) (P Q R : Core → Type 0) →
    IfOk r (λ c. IsOkAnd p (λ x. IsOkAnd q (λ y. term_of c ≡ let_term (term_of x) (term_of y)))) → IfOk p P → IfOk q Q → ((c x y : Core) → term_of c ≡ let_term (term_of x) (term_of y) → P x → Q y → R c) → IfOk r R
let_made (Ok c) (Ok x) (Ok y) P Q R h k i f = f c x y h k i
let_made (Ok c) (Ok x) (Err e) P Q R h k i f = absurd h
let_made (Ok c) (Err e) q P Q R h k i f = absurd h
let_made (Err e) p q P Q R h k i f = tt

pub let_kept : {E F G : Type 0} (r : Result Core E) (p : Result Core F) (q : Result Core G) (Q R : Type 0) →
    IfOk r (λ c. IsOkAnd p (λ x. IsOkAnd q (λ y. term_of c ≡ let_term (term_of x) (term_of y)))) → OnOk q Q → (Q → R) → OnOk r R
let_kept (Ok c) (Ok x) (Ok y) Q R h k f = f k
let_kept (Ok c) (Ok x) (Err e) Q R h k f = absurd h
let_kept (Ok c) (Err e) q Q R h k f = absurd h
let_kept (Err e) p q Q R h k f = tt
