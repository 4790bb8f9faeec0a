-- Another part at a number, for the variants that keep a list.
use Rattle.std.proofs.Common.{◌≡◌, ℕ, zero, suc, ◌+◌, ◌-◌, ◌<◌, ◌≤◌, List, [], ◌∷◌, length, map, Some, slice_set, Box, Global, vec_len, refl, sym, ap, ◌∙◌, arith}
use Rattle.nrca_term.specs.declared.term.Core.{Core}
use Rattle.nrca_term.specs.declared.term.Terms.{Terms}
use Rattle.nrca_term.specs.declared.term.Core.TheVariants.{Tuple, Tab, Sub, Literal}
use Rattle.nrca_term.specs.View.{term_of, terms_of}
use Rattle.nrca_term.specs.Term.{Term, Parts, Form, node, none, part, plain, parts_of, count, child_of, set_child, with_part}
use Rattle.aql_value.specs.Strict.{Strict}
use Rattle.nrca_term.specs.Laws.Equations.{term_of-Tuple, term_of-Tab, term_of-Sub, term_of-Literal, length-terms_of}
use Rattle.nrca_term.proofs.Children.{child_of_present, child_of-plain_past, numbered}
use Rattle.nrca_term.specs.Laws.Variants.{count-plain}

set_child-plain_below : (ts : List Term) (ps : Parts) (i : ℕ) (u : Term) → i < length ts → plain (slice_set ts i u) ps ≡ set_child (plain ts ps) i u
set_child-plain_below [] ps i u h = absurd (omega arith)
set_child-plain_below (t ∷ ts) ps zero u h = refl
set_child-plain_below (t ∷ ts) ps (suc i) u h = ap (part 0 t) (set_child-plain_below ts ps i u (omega arith))

set_child-plain_past : (ts : List Term) (ps : Parts) (i j : ℕ) (u : Term) → length ts + j ≡ i → plain ts (set_child ps j u) ≡ set_child (plain ts ps) i u
set_child-plain_past [] ps i j u e = let same : j ≡ i = omega arith in ap (λ n. set_child ps n u) same
set_child-plain_past (t ∷ ts) ps zero j u e = absurd (omega arith)
set_child-plain_past (t ∷ ts) ps (suc i) j u e = ap (part 0 t) (set_child-plain_past ts ps i j u (omega arith))

length-slice_set : (ts : List Term) (i : ℕ) (u : Term) → length (slice_set ts i u) ≡ length ts
length-slice_set [] i u = refl
length-slice_set (t ∷ ts) zero u = refl
length-slice_set (t ∷ ts) (suc i) u = ap suc (length-slice_set ts i u)

pub map-slice_set : {A : Type 0} (f : A → Term) (xs : List A) (i : ℕ) (x : A) → map f (slice_set xs i x) ≡ slice_set (map f xs) i (f x)
map-slice_set f [] i x = refl
map-slice_set f (y ∷ ys) zero x = refl
map-slice_set f (y ∷ ys) (suc i) x = ap (λ l. f y ∷ l) (map-slice_set f ys i x)

pub ruleset items = (map-slice_set, child_of_present)

pub count-Tuple : (ts : Terms) → count (parts_of (term_of (Tuple ts))) ≡ vec_len ts.0
count-Tuple ts = ap (λ t. count (parts_of t)) (term_of-Tuple ts) ∙ omega (arith, count-plain (terms_of ts) none, length-terms_of ts)

pub count-Tab : (ts : Terms) (b : Box Core Global) → count (parts_of (term_of (Tab ts b))) ≡ vec_len ts.0 + 1
count-Tab ts b = ap (λ t. count (parts_of t)) (term_of-Tab ts b) ∙ omega (arith, count-plain (terms_of ts) (part (length (terms_of ts)) (term_of b.value) none), length-terms_of ts)

pub count-Sub : (a : Box Core Global) (ts : Terms) → count (parts_of (term_of (Sub a ts))) ≡ vec_len ts.0 + 1
count-Sub a ts = ap (λ t. count (parts_of t)) (term_of-Sub a ts) ∙ omega (arith, count-plain (terms_of ts) none, length-terms_of ts)

pub count-Literal : (ds cs : Terms) → count (parts_of (term_of (Literal ds cs))) ≡ vec_len ds.0 + vec_len cs.0
count-Literal ds cs =
    ap (λ t. count (parts_of t)) (term_of-Literal ds cs)
    ∙ omega (arith, count-plain (terms_of ds) (plain (terms_of cs) none), count-plain (terms_of cs) none, length-terms_of ds, length-terms_of cs)

pub ruleset counts = (count-Tuple, count-Tab, count-Sub, count-Literal)

pub with_part-Tuple : (ts us : Terms) (i : ℕ) (u : Term) → i < vec_len ts.0 → terms_of us ≡ slice_set (terms_of ts) i u → term_of (Tuple us) ≡ with_part (term_of (Tuple ts)) i u
with_part-Tuple ts us i u h e =
    term_of-Tuple us
    ∙ ap (λ l. node (Form.strict Strict.tuple) (plain l none)) e
    ∙ ap (node (Form.strict Strict.tuple)) (set_child-plain_below (terms_of ts) none i u (omega (arith, length-terms_of ts)))
    ∙ ap (λ t. with_part t i u) (sym (term_of-Tuple ts))

pub with_part-Tab_below : (ts us : Terms) (b : Box Core Global) (i : ℕ) (u : Term) → i < vec_len ts.0 → terms_of us ≡ slice_set (terms_of ts) i u → term_of (Tab us b) ≡ with_part (term_of (Tab ts b)) i u
with_part-Tab_below ts us b i u h e =
    term_of-Tab us b
    ∙ ap (λ l. node (Form.tab (length l)) (plain l (part (length l) (term_of b.value) none))) e
    ∙ ap (λ n. node (Form.tab n) (plain (slice_set (terms_of ts) i u) (part n (term_of b.value) none))) (length-slice_set (terms_of ts) i u)
    ∙ ap (node (Form.tab (length (terms_of ts)))) (set_child-plain_below (terms_of ts) (part (length (terms_of ts)) (term_of b.value) none) i u (omega (arith, length-terms_of ts)))
    ∙ ap (λ t. with_part t i u) (sym (term_of-Tab ts b))

pub with_part-Tab_past : (ts : Terms) (b c : Box Core Global) (i : ℕ) → vec_len ts.0 ≤ i → i < vec_len ts.0 + 1 → term_of (Tab ts c) ≡ with_part (term_of (Tab ts b)) i (term_of c.value)
with_part-Tab_past ts b c i h k =
    term_of-Tab ts c
    ∙ ap (node (Form.tab (length (terms_of ts)))) (set_child-plain_past (terms_of ts) (part (length (terms_of ts)) (term_of b.value) none) i 0 (term_of c.value) (omega (arith, length-terms_of ts)))
    ∙ ap (λ t. with_part t i (term_of c.value)) (sym (term_of-Tab ts b))

pub with_part-Sub_array : (ts : Terms) (a b : Box Core Global) (i : ℕ) → i < 1 → term_of (Sub b ts) ≡ with_part (term_of (Sub a ts)) i (term_of b.value)
with_part-Sub_array ts a b i h =
    let z : 0 ≡ i = omega arith in
    term_of-Sub b ts ∙ ap (λ t. with_part t 0 (term_of b.value)) (sym (term_of-Sub a ts)) ∙ ap (λ n. with_part (term_of (Sub a ts)) n (term_of b.value)) z

pub with_part-Sub_at : (a : Box Core Global) (ts us : Terms) (i : ℕ) (u : Term) → 1 ≤ i → i < vec_len ts.0 + 1 → terms_of us ≡ slice_set (terms_of ts) (i - 1) u → term_of (Sub a us) ≡ with_part (term_of (Sub a ts)) i u
with_part-Sub_at a ts us i u h k e =
    let s : suc (i - 1) ≡ i = omega arith in
    term_of-Sub a us
    ∙ ap (λ l. node (Form.strict Strict.sub) (part 0 (term_of a.value) (plain l none))) e
    ∙ ap (λ l. node (Form.strict Strict.sub) (part 0 (term_of a.value) l)) (set_child-plain_below (terms_of ts) none (i - 1) u (omega (arith, length-terms_of ts)))
    ∙ ap (λ t. with_part t (suc (i - 1)) u) (sym (term_of-Sub a ts))
    ∙ ap (λ n. with_part (term_of (Sub a ts)) n u) s

pub with_part-Literal_below : (ds es cs : Terms) (i : ℕ) (u : Term) → i < vec_len ds.0 → terms_of es ≡ slice_set (terms_of ds) i u → term_of (Literal es cs) ≡ with_part (term_of (Literal ds cs)) i u
with_part-Literal_below ds es cs i u h e =
    term_of-Literal es cs
    ∙ ap (λ l. node (Form.strict (Strict.literal (length l))) (plain l (plain (terms_of cs) none))) e
    ∙ ap (λ n. node (Form.strict (Strict.literal n)) (plain (slice_set (terms_of ds) i u) (plain (terms_of cs) none))) (length-slice_set (terms_of ds) i u)
    ∙ ap (node (Form.strict (Strict.literal (length (terms_of ds))))) (set_child-plain_below (terms_of ds) (plain (terms_of cs) none) i u (omega (arith, length-terms_of ds)))
    ∙ ap (λ t. with_part t i u) (sym (term_of-Literal ds cs))

pub with_part-Literal_past : (ds cs es : Terms) (i : ℕ) (u : Term) → vec_len ds.0 ≤ i → i < vec_len ds.0 + vec_len cs.0 → terms_of es ≡ slice_set (terms_of cs) (i - vec_len ds.0) u → term_of (Literal ds es) ≡ with_part (term_of (Literal ds cs)) i u
with_part-Literal_past ds cs es i u h k e =
    term_of-Literal ds es
    ∙ ap (λ l. node (Form.strict (Strict.literal (length (terms_of ds)))) (plain (terms_of ds) (plain l none))) e
    ∙ ap (λ l. node (Form.strict (Strict.literal (length (terms_of ds)))) (plain (terms_of ds) l)) (set_child-plain_below (terms_of cs) none (i - vec_len ds.0) u (omega (arith, length-terms_of cs)))
    ∙ ap (node (Form.strict (Strict.literal (length (terms_of ds))))) (set_child-plain_past (terms_of ds) (plain (terms_of cs) none) i (i - vec_len ds.0) u (omega (arith, length-terms_of ds)))
    ∙ ap (λ t. with_part t i u) (sym (term_of-Literal ds cs))

pub child_of-Tab_body : (ts : Terms) (b : Box Core Global) (i : ℕ) → vec_len ts.0 ≤ i → i < vec_len ts.0 + 1 → Some (term_of b.value) ≡ child_of (parts_of (term_of (Tab ts b))) i
child_of-Tab_body ts b i h k =
    child_of-plain_past (terms_of ts) (part (length (terms_of ts)) (term_of b.value) none) i 0 (omega (arith, length-terms_of ts))
    ∙ ap (λ t. child_of (parts_of t) i) (sym (term_of-Tab ts b))

pub ruleset swaps = (child_of-Tab_body, counts, numbered, term_of-Tuple, term_of-Sub, with_part-Tuple, with_part-Tab_below, with_part-Tab_past, with_part-Sub_array, with_part-Sub_at, with_part-Literal_below, with_part-Literal_past)
