-- What is known of parts that were made, and of what was kept on the way.
use Rattle.std.proofs.Common.{◌≡◌, List, map, Result, Ok, Err, IfOk, IsOkAnd, OnOk, ap, ◌∙◌}
use Rattle.std.specs.Global.{Vec}
use Rattle.nrca_term.specs.Term.{Term}
use Rattle.nrca_term.specs.View.{term_of}
use Rattle.nrca_term.specs.declared.term.Core.{Core}

-- another name of the term of what is made
pub made_as : {E : Type 0} (r : Result Core E) (t u : Term) → IfOk r (λ c. term_of c ≡ t) → t ≡ u → IfOk r (λ c. term_of c ≡ u)
made_as (Ok c) t u h e = h ∙ e
made_as (Err e) t u h k = h

-- what is made of a list of parts
pub list_made : {E F : Type 0} (r : Result Core E) (p : Result (Vec Core) F) (T : List Term → Term) (ts : List Term) (whole : Term) →
    IfOk r (λ c. IsOkAnd p (λ v. term_of c ≡ T (map term_of v.items))) → IfOk p (λ v. map term_of v.items ≡ ts) → T ts ≡ whole → IfOk r (λ c. term_of c ≡ whole)
list_made (Ok c) (Ok v) T ts whole h k l = h ∙ ap T k ∙ l
list_made (Ok c) (Err e) T ts whole h k l = absurd h
list_made (Err e) p T ts whole h k l = tt

-- what was so before is so where it was kept on the way to each part
pub kept_of : {A B E F : Type 0} (r : Result A E) (p : Result B F) (P : A → B → Type 0) (Q R : Type 0) → IfOk r (λ c. IsOkAnd p (P c)) → OnOk p Q → (Q → R) → OnOk r R
kept_of (Ok c) (Ok x) P Q R h k f = f k
kept_of (Ok c) (Err e) P Q R h k f = absurd h
kept_of (Err e) p P Q R h k f = tt

-- the same for two parts that are made one after the other
pub kept_then : {A B C E F G : Type 0} (r : Result A E) (p : Result B F) (q : Result C G) (P : A → B → C → Type 0) (Q R S : Type 0) →
    IfOk r (λ c. IsOkAnd p (λ x. IsOkAnd q (P c x))) → OnOk p Q → OnOk q R → (Q → R → S) → OnOk r S
kept_then (Ok c) (Ok x) (Ok y) P Q R S h k i f = f k i
kept_then (Ok c) (Ok x) (Err e) P Q R S h k i f = absurd h
kept_then (Ok c) (Err e) q P Q R S h k i f = absurd h
kept_then (Err e) p q P Q R S h k i f = tt

pub kept_map : {T E : Type 0} (r : Result T E) (P Q : Type 0) → (P → Q) → OnOk r P → OnOk r Q
kept_map (Ok x) P Q f h = f h
kept_map (Err e) P Q f h = tt
