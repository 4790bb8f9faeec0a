-- Texts that are written one after another, and the texts of terms in their places.
use Rattle.std.proofs.Common.{◌≡◌, ℕ, zero, suc, ◌+◌, ◌<◌, List, [], ◌∷◌, ◌++◌, length, map, get_or, refl, sym, ap, ◌∙◌, arith, append_assoc, subst}
use Rattle.std.proofs.Math.ListN.{get_or-map}
use Rattle.std.proofs.lemmas.List.{length-map}
use Rattle.nrca_term.specs.View.{term_of, terms_of}
use Rattle.nrca_term.specs.declared.term.Core.{Core}
use Rattle.nrca_term.specs.declared.term.Terms.{Terms}
use Rattle.aql_print.specs.CoreText.{bounds_text, core_text}
use Rattle.aql_print.specs.Names.{bound_text}

-- one text and then another
pub then : (old mid new a b : List ℕ) → mid ≡ old ++ a → new ≡ mid ++ b → new ≡ old ++ (a ++ b)
then old mid new a b e f = f ∙ ap (λ l. l ++ b) e ∙ append_assoc old a b

-- the text of a term in its place
pub core_at : (d : ℕ) (xs : List Core) (ts : Terms) (i : ℕ) (x : Core) → xs ≡ ts.0.items → x ≡ get_or xs i x →
    core_text d (term_of x) ≡ get_or (map (core_text d) (terms_of ts)) i (core_text d (term_of x))
core_at d xs ts i x e k =
    ap (λ y. core_text d (term_of y)) (k ∙ ap (λ l. get_or l i x) e)
    ∙ ap (core_text d) (sym (get_or-map term_of ts.0.items i x))
    ∙ sym (get_or-map (core_text d) (terms_of ts) i (term_of x))

pub core_count : (d : ℕ) (xs : List Core) (ts : Terms) → xs ≡ ts.0.items → length (map (core_text d) (terms_of ts)) ≡ length xs
core_count d xs ts e = length-map (terms_of ts) (core_text d) ∙ length-map ts.0.items term_of ∙ ap length (sym e)

pub length-bounds_text : (d : ℕ) (bs : List (List ℕ)) → length (bounds_text d bs) ≡ length bs
length-bounds_text d [] = refl
length-bounds_text d (b ∷ bs) = ap suc (length-bounds_text (suc d) bs)

-- a bound behind its index
pub bound_at : (d : ℕ) (bs : List (List ℕ)) (i : ℕ) (b : List ℕ) → i < length bs → b ≡ get_or bs i b →
    bound_text (d + i) ++ (60 ∷ b) ≡ get_or (bounds_text d bs) i (bound_text (d + i) ++ (60 ∷ b))
bound_at d [] i b h k = absurd (omega (arith, h))
bound_at d (c ∷ bs) zero b h k =
    let e : d + 0 ≡ d = omega arith in
    ap (λ n. bound_text n ++ (60 ∷ b)) e ∙ ap (λ l. bound_text d ++ (60 ∷ l)) k
bound_at d (c ∷ bs) (suc i) b h k =
    let e : suc d + i ≡ d + suc i = omega arith in
    subst (λ n. bound_text n ++ (60 ∷ b) ≡ get_or (bounds_text (suc d) bs) i (bound_text n ++ (60 ∷ b))) e (bound_at (suc d) bs i b (omega (arith, h)) k)

-- a separator and a text moved from behind a text into it
pub regroup : (a b s z : List ℕ) → (a ++ b) ++ (s ++ z) ≡ (a ++ (b ++ s)) ++ z
regroup a b s z = sym (append_assoc (a ++ b) s z) ∙ ap (λ l. l ++ z) (append_assoc a b s)
