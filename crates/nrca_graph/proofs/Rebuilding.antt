-- The nodes that are rebuilt, as terms.
use Rattle.std.proofs.Common.{◌≡◌, ◌+◌, ◌<◌, ◌≤◌, ◌^◌, List, [], ◌∷◌, ◌++◌, length, map, take, drop, Result, refl, sym, ap, subst, ◌∙◌, arith, append-nil}
use Rattle.aql_value.specs.declared.memory.Memory.{Memory}
use Rattle.nrca_term.specs.declared.term.Core.{Core}
use Rattle.nrca_term.specs.Term.{Term, Parts, none, part, plain, parts_of, count, terms_in}
use Rattle.nrca_term.specs.Nodes.{tab_term, sub_term, literal_term}
use Rattle.nrca_term.specs.Subst.{top_var, parts_top, list_top}
use Rattle.nrca_term.specs.View.{term_of}
use Rattle.nrca_term.specs.Laws.Shift.{parts_top-plain}
use Rattle.nrca_term.specs.Laws.Variants.{count-plain}
use Rattle.nrca_graph.specs.ArrayFree.{term_at, subscript_graph, literal_graph}
use Rattle.nrca_graph.specs.Tabulation.{tabulation_graph}
use Rattle.nrca_graph.specs.Made.{Makes, MayShift, PartsHaveRoom, array_free_of}

terms_in-plain : (ts : List Term) (ps : Parts) → terms_in (plain ts ps) ≡ ts ++ terms_in ps
terms_in-plain [] ps = refl
terms_in-plain (t ∷ ts) ps = ap (λ us. t ∷ us) (terms_in-plain ts ps)

take-front : (ts us : List Term) → take (length ts) (ts ++ us) ≡ ts
take-front [] us = refl
take-front (t ∷ ts) us = ap (λ l. t ∷ l) (take-front ts us)

drop-front : (ts us : List Term) → drop (length ts) (ts ++ us) ≡ us
drop-front [] us = refl
drop-front (t ∷ ts) us = drop-front ts us

at-front : (ts us : List Term) (u : Term) → term_at (ts ++ u ∷ us) (length ts) ≡ u
at-front [] us u = refl
at-front (t ∷ ts) us u = at-front ts us u

-- a tabulation
tab-terms : (ds : List Term) (b : Term) → terms_in (plain ds (part (length ds) b none)) ≡ ds ++ b ∷ []
tab-terms ds b = terms_in-plain ds (part (length ds) b none)

pub tab_free : (r : Result Core Memory) (t b : Term) (ds : List Term) → t ≡ tab_term ds b → Makes r (tabulation_graph ds b) → Makes r (array_free_of t)
tab_free r t b ds e h =
    subst (Makes r) (sym (ap array_free_of e
    ∙ ap (λ ts. tabulation_graph (take (length ds) ts) (term_at ts (length ds))) (tab-terms ds b)
    ∙ ap (λ ts. tabulation_graph ts (term_at (ds ++ b ∷ []) (length ds))) (take-front ds (b ∷ []))
    ∙ ap (tabulation_graph ds) (at-front ds [] b))) h

pub tab_room : (t b : Term) (ds : List Term) → t ≡ tab_term ds b → PartsHaveRoom t → MayShift ds × (top_var b + length ds < 2 ^ 64)
tab_room t b ds e h =
    let p = ap (λ x. parts_top (parts_of x)) e in
    let c = ap (λ x. count (parts_of x)) e in
    let q = parts_top-plain ds (part (length ds) b none) in
    let d = count-plain ds (part (length ds) b none) in
    (omega (arith, h.0, h.1, p, c, q, d), omega (arith, h.0, h.1, p, c, q, d))

-- a subscript
pub sub_free : (r : Result Core Memory) (t a : Term) (is : List Term) → t ≡ sub_term a is → Makes r (subscript_graph (a ∷ is)) → Makes r (array_free_of t)
sub_free r t a is e h =
    subst (Makes r) (sym (ap array_free_of e ∙ ap subscript_graph (terms_in-plain (a ∷ is) none) ∙ ap (λ ts. subscript_graph (a ∷ ts)) (append-nil is))) h

-- a literal
literal-terms : (ds cs : List Term) → terms_in (plain ds (plain cs none)) ≡ ds ++ cs
literal-terms ds cs = terms_in-plain ds (plain cs none) ∙ ap (λ ts. ds ++ ts) (terms_in-plain cs none ∙ append-nil cs)

pub literal_free : (r : Result Core Memory) (t : Term) (ds cs : List Term) → t ≡ literal_term ds cs → Makes r (literal_graph ds cs) → Makes r (array_free_of t)
literal_free r t ds cs e h =
    subst (Makes r) (sym (ap array_free_of e
    ∙ ap (λ ts. literal_graph (take (length ds) ts) (drop (length ds) ts)) (literal-terms ds cs)
    ∙ ap (λ ts. literal_graph ts (drop (length ds) (ds ++ cs))) (take-front ds cs)
    ∙ ap (literal_graph ds) (drop-front ds cs))) h

pub literal_room : (t : Term) (ds cs : List Term) → t ≡ literal_term ds cs → PartsHaveRoom t → MayShift ds × (list_top cs + length ds < 2 ^ 64)
literal_room t ds cs e h =
    let p = ap (λ x. parts_top (parts_of x)) e in
    let c = ap (λ x. count (parts_of x)) e in
    let q = parts_top-plain ds (plain cs none) in
    let s = parts_top-plain cs none in
    let d = count-plain ds (plain cs none) in
    (omega (arith, h.0, h.1, p, c, q, s, d), omega (arith, h.0, h.1, p, c, q, s, d))

-- the only term of a list
pub one_left : (ls xs : List Core) (x : Core) → ls ≡ xs ++ x ∷ [] → length ls ≤ 1 → map term_of ls ≡ term_of x ∷ []
one_left ls [] x e h = ap (map term_of) e
one_left ls (y ∷ []) x e h = absurd (omega (arith, h, ap length e))
one_left ls (y ∷ z ∷ zs) x e h = absurd (omega (arith, h, ap length e))
