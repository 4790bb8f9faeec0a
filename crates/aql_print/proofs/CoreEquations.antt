-- The text of each variant, by the definition of texts.
use Rattle.std.proofs.Common.{◌≡◌, ℕ, ◌+◌, List, [], ◌∷◌, ◌++◌, length, map, take, drop, refl, sym, ap, ◌∙◌, codes, add-zero, append-nil}
use Rattle.std.proofs.Math.Seq.{take-append_seam, drop-append_seam}
use Rattle.std.proofs.lemmas.List.{length-map}
use Rattle.std.specs.Prelude.{decimal}
use Rattle.aql_value.specs.declared.ops.ArithOp.{ArithOp}
use Rattle.aql_value.specs.declared.ops.CompareOp.{CompareOp}
use Rattle.nrca_term.specs.Term.{Term, Parts, none, part, plain}
use Rattle.nrca_term.specs.Nodes.{let_term, if_term, default_term, tuple_term, proj_term, arith_term, compare_term, single_term, union_term, big_union_term, sum_term, gen_term, get_term, tab_term, sub_term, dim_term, index_term, literal_term}
use Rattle.aql_print.specs.Joined.{join_texts}
use Rattle.aql_print.specs.CoreText.{arith_text, compare_text, between, in_parentheses, loop_text, tabulated_text, indexed_text, literal_text, core_text, part_texts, one}
use Rattle.aql_print.specs.Names.{bound_text}

-- the texts of terms
abbrev pub core_texts : ℕ → List Term → List (List ℕ)
core_texts d ts = map (core_text d) ts

pub core_text-none_more : (d : ℕ) (t : Term) → core_text (d + 0) t ≡ core_text d t
core_text-none_more d t = ap (λ n. core_text n t) (add-zero d)

pub part_texts-plain : (d : ℕ) (ts : List Term) (ps : Parts) → part_texts d (plain ts ps) ≡ core_texts d ts ++ part_texts d ps
part_texts-plain d [] ps = refl
part_texts-plain d (t ∷ ts) ps = rw (core_text-none_more d t, part_texts-plain d ts ps) refl

pub text-let : (d : ℕ) (a b : Term) → core_text d (let_term a b) ≡ between (codes "(let ") (bound_text d ++ (codes " = " ++ (core_text d a ++ (codes " in " ++ core_text (d + 1) b)))) (codes ")")
text-let d a b = rw (core_text-none_more d a) refl

pub text-if : (d : ℕ) (c a b : Term) → core_text d (if_term c a b) ≡ between (codes "(if ") (core_text d c ++ (codes " then " ++ (core_text d a ++ (codes " else " ++ core_text d b)))) (codes ")")
text-if d c a b = rw (core_text-none_more d c, core_text-none_more d a, core_text-none_more d b) refl

pub text-default : (d : ℕ) (a b : Term) → core_text d (default_term a b) ≡ in_parentheses (core_text d a) (codes " default ") (core_text d b)
text-default d a b = rw (core_text-none_more d a, core_text-none_more d b) refl

pub text-arith : (d : ℕ) (op : ArithOp) (a b : Term) → core_text d (arith_term op a b) ≡ in_parentheses (core_text d a) (arith_text op) (core_text d b)
text-arith d op a b = rw (core_text-none_more d a, core_text-none_more d b) refl

pub text-compare : (d : ℕ) (op : CompareOp) (a b : Term) → core_text d (compare_term op a b) ≡ in_parentheses (core_text d a) (compare_text op) (core_text d b)
text-compare d op a b = rw (core_text-none_more d a, core_text-none_more d b) refl

pub text-union : (d : ℕ) (a b : Term) → core_text d (union_term a b) ≡ in_parentheses (core_text d a) (codes " union ") (core_text d b)
text-union d a b = rw (core_text-none_more d a, core_text-none_more d b) refl

pub text-proj : (d at of : ℕ) (a : Term) → core_text d (proj_term at of a) ≡ codes "#" ++ (decimal at ++ (codes "/" ++ (decimal of ++ between (codes "(") (core_text d a) (codes ")"))))
text-proj d at of a = rw (core_text-none_more d a) refl

pub text-single : (d : ℕ) (a : Term) → core_text d (single_term a) ≡ between (codes "{") (core_text d a) (codes "}")
text-single d a = rw (core_text-none_more d a) refl

pub text-gen : (d : ℕ) (a : Term) → core_text d (gen_term a) ≡ between (codes "gen(") (core_text d a) (codes ")")
text-gen d a = rw (core_text-none_more d a) refl

pub text-get : (d : ℕ) (a : Term) → core_text d (get_term a) ≡ between (codes "get(") (core_text d a) (codes ")")
text-get d a = rw (core_text-none_more d a) refl

pub text-dim : (d rank : ℕ) (a : Term) → core_text d (dim_term rank a) ≡ codes "dim_" ++ (decimal rank ++ between (codes "(") (core_text d a) (codes ")"))
text-dim d rank a = rw (core_text-none_more d a) refl

pub text-index : (d rank : ℕ) (a : Term) → core_text d (index_term rank a) ≡ codes "index_" ++ (decimal rank ++ between (codes "(") (core_text d a) (codes ")"))
text-index d rank a = rw (core_text-none_more d a) refl

pub text-big_union : (d : ℕ) (e b : Term) → core_text d (big_union_term e b) ≡ loop_text (codes "U{") d (core_text d e) (core_text (d + 1) b)
text-big_union d e b = rw (core_text-none_more d e) refl

pub text-sum : (d : ℕ) (e b : Term) → core_text d (sum_term e b) ≡ loop_text (codes "S{") d (core_text d e) (core_text (d + 1) b)
text-sum d e b = rw (core_text-none_more d e) refl

take-front : (xs ys : List (List ℕ)) (n : ℕ) → n ≡ length xs → take n (xs ++ ys) ≡ xs
take-front xs ys n e = ap (λ k. take k (xs ++ ys)) e ∙ take-append_seam xs ys

drop-front : (xs ys : List (List ℕ)) (n : ℕ) → n ≡ length xs → drop n (xs ++ ys) ≡ ys
drop-front xs ys n e = ap (λ k. drop k (xs ++ ys)) e ∙ drop-append_seam xs ys

length-core_texts : (d : ℕ) (ts : List Term) → length ts ≡ length (core_texts d ts)
length-core_texts d ts = sym (length-map ts (core_text d))

append-none : (d : ℕ) (ts : List Term) → part_texts d (plain ts none) ≡ core_texts d ts
append-none d ts = part_texts-plain d ts none ∙ append-nil (core_texts d ts)

pub text-tuple : (d : ℕ) (ts : List Term) → core_text d (tuple_term ts) ≡ between (codes "(") (join_texts (codes ", ") (core_texts d ts)) (codes ")")
text-tuple d ts = rw (append-none d ts) refl

pub text-sub : (d : ℕ) (a : Term) (ts : List Term) → core_text d (sub_term a ts) ≡ indexed_text (core_text d a) (core_texts d ts)
text-sub d a ts = rw (core_text-none_more d a, append-none d ts) refl

pub text-literal : (d : ℕ) (ds cs : List Term) → core_text d (literal_term ds cs) ≡ literal_text (core_texts d ds) (core_texts d cs)
text-literal d ds cs =
    let e = part_texts-plain d ds (plain cs none) ∙ ap (λ l. core_texts d ds ++ l) (append-none d cs) in
    ap (λ l. literal_text (take (length ds) l) (drop (length ds) l)) e
    ∙ ap (λ l. literal_text l (drop (length ds) (core_texts d ds ++ core_texts d cs))) (take-front (core_texts d ds) (core_texts d cs) (length ds) (length-core_texts d ds))
    ∙ ap (literal_text (core_texts d ds)) (drop-front (core_texts d ds) (core_texts d cs) (length ds) (length-core_texts d ds))

pub text-tab : (d : ℕ) (ds : List Term) (b : Term) → core_text d (tab_term ds b) ≡ tabulated_text d (core_text (d + length ds) b) (core_texts d ds)
text-tab d ds b =
    let body : List (List ℕ) = core_text (d + length ds) b ∷ [] in
    ap (λ l. one (λ s. tabulated_text d s (take (length ds) l)) (drop (length ds) l)) (part_texts-plain d ds (part (length ds) b none))
    ∙ ap (λ l. one (λ s. tabulated_text d s l) (drop (length ds) (core_texts d ds ++ body))) (take-front (core_texts d ds) body (length ds) (length-core_texts d ds))
    ∙ ap (one (λ s. tabulated_text d s (core_texts d ds))) (drop-front (core_texts d ds) body (length ds) (length-core_texts d ds))

pub ruleset variants = (text-let, text-if, text-default, text-arith, text-compare, text-union, text-proj, text-single, text-gen, text-get, text-dim, text-index, text-big_union, text-sum, text-tuple, text-sub, text-literal, text-tab)
