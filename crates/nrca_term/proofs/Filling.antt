-- A hollow node that is filled part by part.
use Rattle.std.proofs.Common.{◌≡◌, ℕ, zero, suc, ◌+◌, List, [], ◌∷◌, length, map, Some, Box, Global, refl, sym, ap, ◌∙◌, add-one}
use Rattle.std.proofs.lemmas.List.{length-map}
use Rattle.nrca_term.specs.declared.term.Core.{Core}
use Rattle.nrca_term.specs.declared.term.Terms.{Terms}
use Rattle.nrca_term.specs.declared.term.Core.TheVariants.{Tuple, Tab, Sub, Literal}
use Rattle.aql_value.specs.Strict.{Strict}
use Rattle.nrca_term.specs.Term.{Term, Parts, Form, node, none, part, plain, form_of, parts_of, count, child_of, set_child, with_part}
use Rattle.nrca_term.specs.Nodes.{bottom_term}
use Rattle.nrca_term.specs.Hollow.{hollow, hollow_parts, bottoms}
use Rattle.nrca_term.specs.View.{term_of, terms_of}
use Rattle.nrca_term.specs.Laws.Equations.{term_of-Tuple, term_of-Tab, term_of-Sub, term_of-Literal}

-- the first n parts as they are, Bottom in the place of the others
unfoldable pub fill : ℕ → Parts → Parts
fill zero ps = hollow_parts ps
fill (suc n) none = none
fill (suc n) (part k t ps) = part k t (fill n ps)

unfoldable pub filled : ℕ → Term → Term
filled n t = node (form_of t) (fill n (parts_of t))

pub filled-start : (t s : Term) → s ≡ hollow t → s ≡ filled 0 t
unfolding fill filled
filled-start (node f ps) s e = e

count-hollow : (ps : Parts) → count (hollow_parts ps) ≡ count ps
count-hollow none = refl
count-hollow (part k t ps) = ap suc (count-hollow ps)

count-fill : (n : ℕ) (ps : Parts) → count (fill n ps) ≡ count ps
unfolding fill
count-fill zero ps = count-hollow ps
count-fill (suc n) none = refl
count-fill (suc n) (part k t ps) = ap suc (count-fill n ps)

pub count-filled : (n : ℕ) (t s : Term) → s ≡ filled n t → count (parts_of s) ≡ count (parts_of t)
unfolding filled
count-filled n t s e = ap (λ x. count (parts_of x)) e ∙ count-fill n (parts_of t)

fill-step : (n : ℕ) (ps : Parts) (u : Term) → child_of ps n ≡ Some u → set_child (fill n ps) n u ≡ fill (suc n) ps
unfolding fill
fill-step zero none u e = refl
fill-step zero (part k t ps) u e = let same : u ≡ t = cc in ap (λ x. part k x (hollow_parts ps)) same
fill-step (suc n) none u e = refl
fill-step (suc n) (part k t ps) u e = ap (part k t) (fill-step n ps u e)

-- one part more
pub filled-step : (n : ℕ) (t s u v : Term) → s ≡ filled n t → child_of (parts_of t) n ≡ Some u → v ≡ u → with_part s n v ≡ filled (n + 1) t
unfolding filled
filled-step n t s u v e c d =
    ap (λ x. with_part x n v) e
    ∙ ap (λ x. node (form_of t) (set_child (fill n (parts_of t)) n x)) d
    ∙ ap (node (form_of t)) (fill-step n (parts_of t) u c)
    ∙ ap (λ m. node (form_of t) (fill m (parts_of t))) (sym (add-one n))

fill-all : (ps : Parts) → fill (count ps) ps ≡ ps
unfolding fill
fill-all none = refl
fill-all (part k t ps) = ap (part k t) (fill-all ps)

pub filled-end : (n : ℕ) (t s : Term) → s ≡ filled n t → n ≡ count (parts_of t) → s ≡ t
unfolding filled
filled-end n (node f ps) s e c = e ∙ ap (λ m. node f (fill m ps)) c ∙ ap (node f) (fill-all ps)

-- the hollow nodes of the variants with a list
hollow-plain : (ts : List Core) (ps : Parts) → plain (map (λ t. bottom_term) ts) (hollow_parts ps) ≡ hollow_parts (plain (map term_of ts) ps)
hollow-plain [] ps = refl
hollow-plain (t ∷ ts) ps = ap (part 0 bottom_term) (hollow-plain ts ps)

length-bottoms : (ts : Terms) → length (bottoms ts) ≡ length (terms_of ts)
length-bottoms ts = length-map ts.0.items (λ t. bottom_term) ∙ sym (length-map ts.0.items term_of)

pub hollow-Tuple : (ts us : Terms) → terms_of us ≡ bottoms ts → term_of (Tuple us) ≡ hollow (term_of (Tuple ts))
hollow-Tuple ts us e =
    term_of-Tuple us
    ∙ ap (λ l. node (Form.strict Strict.tuple) (plain l none)) e
    ∙ ap (node (Form.strict Strict.tuple)) (hollow-plain ts.0.items none)
    ∙ ap hollow (sym (term_of-Tuple ts))

pub hollow-Tab : (ts us : Terms) (b c : Box Core Global) → terms_of us ≡ bottoms ts → term_of c.value ≡ bottom_term → term_of (Tab us c) ≡ hollow (term_of (Tab ts b))
hollow-Tab ts us b c e f =
    term_of-Tab us c
    ∙ ap (λ l. node (Form.tab (length l)) (plain l (part (length l) (term_of c.value) none))) e
    ∙ ap (λ n. node (Form.tab n) (plain (bottoms ts) (part n (term_of c.value) none))) (length-bottoms ts)
    ∙ ap (λ x. node (Form.tab (length (terms_of ts))) (plain (bottoms ts) (part (length (terms_of ts)) x none))) f
    ∙ ap (node (Form.tab (length (terms_of ts)))) (hollow-plain ts.0.items (part (length (terms_of ts)) (term_of b.value) none))
    ∙ ap hollow (sym (term_of-Tab ts b))

pub hollow-Sub : (a b : Box Core Global) (ts us : Terms) → term_of b.value ≡ bottom_term → terms_of us ≡ bottoms ts → term_of (Sub b us) ≡ hollow (term_of (Sub a ts))
hollow-Sub a b ts us f e =
    term_of-Sub b us
    ∙ ap (λ l. node (Form.strict Strict.sub) (part 0 (term_of b.value) (plain l none))) e
    ∙ ap (λ x. node (Form.strict Strict.sub) (part 0 x (plain (bottoms ts) none))) f
    ∙ ap (λ l. node (Form.strict Strict.sub) (part 0 bottom_term l)) (hollow-plain ts.0.items none)
    ∙ ap hollow (sym (term_of-Sub a ts))

pub hollow-Literal : (ds es cs us : Terms) → terms_of es ≡ bottoms ds → terms_of us ≡ bottoms cs → term_of (Literal es us) ≡ hollow (term_of (Literal ds cs))
hollow-Literal ds es cs us e f =
    term_of-Literal es us
    ∙ ap (λ l. node (Form.strict (Strict.literal (length l))) (plain l (plain (terms_of us) none))) e
    ∙ ap (λ n. node (Form.strict (Strict.literal n)) (plain (bottoms ds) (plain (terms_of us) none))) (length-bottoms ds)
    ∙ ap (λ l. node (Form.strict (Strict.literal (length (terms_of ds)))) (plain (bottoms ds) (plain l none))) f
    ∙ ap (λ l. node (Form.strict (Strict.literal (length (terms_of ds)))) (plain (bottoms ds) l)) (hollow-plain cs.0.items none)
    ∙ ap (node (Form.strict (Strict.literal (length (terms_of ds))))) (hollow-plain ds.0.items (plain (terms_of cs) none))
    ∙ ap hollow (sym (term_of-Literal ds cs))

pub ruleset shells = (hollow-Tuple, hollow-Tab, hollow-Sub, hollow-Literal)
