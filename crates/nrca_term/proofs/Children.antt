-- Parts by number.
use Rattle.std.proofs.Common.{◌≡◌, ℕ, zero, suc, ◌+◌, ◌-◌, ◌<◌, ◌≤◌, List, [], ◌∷◌, length, map, Some, None, option_map, slice_get, get_or, Box, Global, vec_len, refl, sym, ap, ◌∙◌, arith}
use Rattle.std.proofs.lemmas.Option.{slice_get-get_or, slice_get_past}
use Rattle.nrca_term.specs.declared.term.Core.{Core}
use Rattle.nrca_term.specs.declared.term.Terms.{Terms}
use Rattle.nrca_term.specs.declared.term.Core.TheVariants.{Tab, Literal}
use Rattle.nrca_term.specs.View.{term_of, terms_of}
use Rattle.nrca_term.specs.Laws.Equations.{term_of-Tab, term_of-Literal, length-terms_of}
use Rattle.nrca_term.specs.Term.{parts_of, Term, Parts, none, part, plain, child_of}

pub child_of-plain_below : (ts : List Term) (ps : Parts) (i : ℕ) → i < length ts → child_of (plain ts none) i ≡ child_of (plain ts ps) i
child_of-plain_below [] ps i h = absurd (omega arith)
child_of-plain_below (t ∷ ts) ps zero h = refl
child_of-plain_below (t ∷ ts) ps (suc i) h = child_of-plain_below ts ps i (omega arith)

pub child_of-plain_past : (ts : List Term) (ps : Parts) (i j : ℕ) → length ts + j ≡ i → child_of ps j ≡ child_of (plain ts ps) i
child_of-plain_past [] ps i j e = let same : j ≡ i = omega arith in ap (child_of ps) same
child_of-plain_past (t ∷ ts) ps zero j e = absurd (omega arith)
child_of-plain_past (t ∷ ts) ps (suc i) j e = child_of-plain_past ts ps i j (omega arith)

pub child_of-map : {A : Type 0} (f : A → Term) (xs : List A) (i : ℕ) → option_map f (slice_get xs i) ≡ child_of (plain (map f xs) none) i
child_of-map f [] i = refl
child_of-map f (x ∷ xs) zero = refl
child_of-map f (x ∷ xs) (suc i) = child_of-map f xs i

pub child_of_present : {A : Type 0} (f : A → Term) (xs : List A) (i : ℕ) (d : A) → i < length xs → Some (f (get_or xs i d)) ≡ child_of (plain (map f xs) none) i
child_of_present f xs i d h = ap (option_map f) (sym (slice_get-get_or xs i d h)) ∙ child_of-map f xs i

pub child_of_absent : {A : Type 0} (f : A → Term) (xs : List A) (i : ℕ) → length xs ≤ i → None ≡ child_of (plain (map f xs) none) i
child_of_absent f xs i h = ap (option_map f) (sym (slice_get_past xs i h)) ∙ child_of-map f xs i

pub ruleset listed = (child_of_present, child_of_absent)

pub child_of-Tab_below : (ts : Terms) (b : Box Core Global) (i : ℕ) → i < vec_len ts.0 → child_of (plain (terms_of ts) none) i ≡ child_of (parts_of (term_of (Tab ts b))) i
child_of-Tab_below ts b i h =
    child_of-plain_below (terms_of ts) (part (length (terms_of ts)) (term_of b.value) none) i (omega (arith, length-terms_of ts))
    ∙ ap (λ t. child_of (parts_of t) i) (sym (term_of-Tab ts b))

pub child_of-Tab_past : (ts : Terms) (b : Box Core Global) (i : ℕ) → vec_len ts.0 ≤ i → child_of (plain (term_of b.value ∷ []) none) (i - vec_len ts.0) ≡ child_of (parts_of (term_of (Tab ts b))) i
child_of-Tab_past ts b i h =
    child_of-plain_past (terms_of ts) (part (length (terms_of ts)) (term_of b.value) none) i (i - vec_len ts.0) (omega (arith, length-terms_of ts))
    ∙ ap (λ t. child_of (parts_of t) i) (sym (term_of-Tab ts b))

pub child_of-Literal_below : (ds cs : Terms) (i : ℕ) → i < vec_len ds.0 → child_of (plain (terms_of ds) none) i ≡ child_of (parts_of (term_of (Literal ds cs))) i
child_of-Literal_below ds cs i h =
    child_of-plain_below (terms_of ds) (plain (terms_of cs) none) i (omega (arith, length-terms_of ds))
    ∙ ap (λ t. child_of (parts_of t) i) (sym (term_of-Literal ds cs))

pub child_of-Literal_past : (ds cs : Terms) (i : ℕ) → vec_len ds.0 ≤ i → child_of (plain (terms_of cs) none) (i - vec_len ds.0) ≡ child_of (parts_of (term_of (Literal ds cs))) i
child_of-Literal_past ds cs i h =
    child_of-plain_past (terms_of ds) (plain (terms_of cs) none) i (i - vec_len ds.0) (omega (arith, length-terms_of ds))
    ∙ ap (λ t. child_of (parts_of t) i) (sym (term_of-Literal ds cs))

pub ruleset numbered = (child_of-Tab_below, child_of-Tab_past, child_of-Literal_below, child_of-Literal_past)
