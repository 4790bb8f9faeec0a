-- A left side fixes the ways to the terms that must be defined, whatever the right side (`ways-fixed`).
use Rattle.std.proofs.Common.{◌≡◌, ℕ, ◌+◌, ◌-◌, List, [], ◌∷◌, ◌++◌, length, map, take, Some, refl, sym, ap, subst, ◌∙◌, arith}
use Rattle.std.specs.List.{slice_get}
use Rattle.std.proofs.lemmas.List.{length-map, append-nil}
use Rattle.std.proofs.lemmas.Option.{same_Some}
use Rattle.aql_value.specs.Indices.{indices, offset_of}
use Rattle.aql_value.specs.Laws.RowMajor.{place_of_index}
use Rattle.aql_value.specs.Lists.{below}
use Rattle.aql_value.specs.Strict.{Strict}
use Rattle.nrca_term.specs.declared.trace.Rule.{Rule}
use Rattle.nrca_term.specs.declared.trace.Rule.TheVariants.{B1, K1, I1, I2, L1, L2, L3, P1, P2, S1, S2, S3, S4, S5, S6, S7, S8, S9, A1, A2, A3, A4, A5, A6, A7, C1, C2, C3, C4, N1, N2}
use Rattle.nrca_term.specs.Term.{Term, Parts, node, none, part, plain, Form, parts_of, count}
use Rattle.nrca_term.specs.Nodes.{number, sub_term, let_term}
use Rattle.nrca_term.specs.Laws.Variants.{count-plain}
use Rattle.nrca_term.specs.Rules.{Way, Redex, Atom, Subscript, inside, outside, in_first, others, constant_literal}
use Rattle.std.proofs.Math.Seq.{take-append_seam}

-- what is read from a term: its first part, rank, component, number of parts, number, numbers, parts after the first
first_of : Term → Term
first_of (node f none) = node f none
first_of (node f (part k t ps)) = t

rank_of : Term → ℕ
rank_of (node (Form.tab n) ps) = n
rank_of (node (Form.strict (Strict.literal n)) ps) = n
rank_of _ = 0

proj_at : Term → ℕ
proj_at (node (Form.strict (Strict.proj at of)) ps) = at
proj_at _ = 0

proj_of : Term → ℕ
proj_of (node (Form.strict (Strict.proj at of)) ps) = of
proj_of _ = 0

parts_count : Term → ℕ
parts_count (node f ps) = count ps

number_in : Term → ℕ
number_in (node (Form.strict (Strict.nat n)) ps) = n
number_in _ = 0

numbers_in : Parts → List ℕ
numbers_in none = []
numbers_in (part k t ps) = number_in t ∷ numbers_in ps

rest_of : Term → Parts
rest_of (node f none) = none
rest_of (node f (part k t ps)) = ps

-- numbers as parts are read back
numbers-plain : (ns : List ℕ) (ps : Parts) → numbers_in (plain (map number ns) ps) ≡ ns ++ numbers_in ps
unfolding numbers_in number_in
numbers-plain [] ps = refl
numbers-plain (n ∷ ns) ps = ap (λ l. n ∷ l) (numbers-plain ns ps)

-- the dimensions and the number of cells of a literal, and the indices of a subscript
literal_dims : Term → List ℕ
literal_dims t = take (rank_of t) (numbers_in (parts_of t))

dims-read : (ns : List ℕ) (cs : List Term) → literal_dims (constant_literal ns cs) ≡ ns
unfolding literal_dims rank_of
dims-read ns cs = ap (take (length (map number ns))) (numbers-plain ns (plain cs none)) ∙ ap (λ n. take n (ns ++ numbers_in (plain cs none))) (length-map ns number) ∙ take-append_seam ns (numbers_in (plain cs none))

cells-read : (ns : List ℕ) (cs : List Term) → parts_count (constant_literal ns cs) - length (literal_dims (constant_literal ns cs)) ≡ length cs
unfolding parts_count
cells-read ns cs = omega (arith, ap length (dims-read ns cs), count-plain (map number ns) (plain cs none), count-plain cs none, length-map ns number)

indices-read : (a : Term) (is : List ℕ) → numbers_in (rest_of (sub_term a (map number is))) ≡ is
unfolding rest_of numbers_in
indices-read a is = numbers-plain is none ∙ append-nil is

-- an atom's ways
atom-ways : (a : Term) (ws us : List Way) → Atom a ws → Atom a us → ws ≡ us
atom-ways (node (Form.var i) ps) ws us h k = h.1 ∙ sym k.1
atom-ways (node (Form.global n) ps) ws us h k = h.1 ∙ sym k.1
atom-ways (node (Form.strict (Strict.nat n)) ps) ws us h k = h.1 ∙ sym k.1
atom-ways (node (Form.strict (Strict.bool b)) ps) ws us h k = h.1 ∙ sym k.1
atom-ways (node (Form.strict (Strict.text s)) ps) ws us h k = h.1 ∙ sym k.1
atom-ways (node (Form.strict Strict.empty) ps) ws us h k = h.1 ∙ sym k.1
atom-ways _ ws us h k = absurd h

-- equal lets have equal bound terms
let-first : (a b c d : Term) → let_term a b ≡ let_term c d → a ≡ c
let-first a b c d e = cc

-- what two readings of one subscript of a literal share
record Same (ns ms : List ℕ) (cs ds : List Term) (is js : List ℕ) : Type 0 where
  dims : ns ≡ ms
  cells : length cs ≡ length ds
  at : is ≡ js

same-subscript : (ns ms : List ℕ) (cs ds : List Term) (is js : List ℕ) → sub_term (constant_literal ns cs) (map number is) ≡ sub_term (constant_literal ms ds) (map number js) → Same ns ms cs ds is js
unfolding first_of
same-subscript ns ms cs ds is js e =
    let f : constant_literal ns cs ≡ constant_literal ms ds = ap first_of e in
    let d : ns ≡ ms = sym (dims-read ns cs) ∙ ap literal_dims f ∙ dims-read ms ds in
    record {
      dims = d;
      cells = sym (cells-read ns cs) ∙ ap (λ t. parts_count t - length (literal_dims t)) f ∙ cells-read ms ds;
      at = sym (indices-read (constant_literal ns cs) is) ∙ ap (λ t. numbers_in (rest_of t)) e ∙ indices-read (constant_literal ms ds) js;
    }

-- a constant subscript's ways
subscript-ways : (l r s : Term) (ws us : List Way) → Subscript l r ws → Subscript l s us → ws ≡ us
subscript-ways l r s ws us (inside ns cs is p e a b c d) (inside ms ds js q f h i j k) =
    let z = same-subscript ns ms cs ds is js (sym e ∙ f) in
    let o : offset_of ns is ≡ Some q = ap (λ x. offset_of x is) z.dims ∙ ap (offset_of ms) z.at ∙ place_of_index ms js q i in
    let y : p ≡ q = same_Some p q (sym (place_of_index ns is p b) ∙ o) in
    d ∙ ap (λ x. in_first (map (λ i. length x + i) (others p (length cs)))) z.dims ∙ ap (λ x. in_first (map (λ i. length ms + i) (others x (length cs)))) y ∙ ap (λ x. in_first (map (λ i. length ms + i) (others q x))) z.cells ∙ sym k
subscript-ways l r s ws us (inside ns cs is p e a b c d) (outside ms ds js f h i j k m) =
    let z = same-subscript ns ms cs ds is js (sym e ∙ f) in
    absurd (j p (ap (λ x. slice_get (indices x) p) (sym z.dims) ∙ b ∙ ap Some z.at))
subscript-ways l r s ws us (outside ns cs is e a b c d g) (inside ms ds js q f h i j k) =
    let z = same-subscript ns ms cs ds is js (sym e ∙ f) in
    absurd (c q (ap (λ x. slice_get (indices x) q) z.dims ∙ i ∙ ap Some (sym z.at)))
subscript-ways l r s ws us (outside ns cs is e a b c d g) (outside ms ds js f h i j k m) = g ∙ sym m

-- the ways of a left side
pub ways-fixed : (R : Rule) (l r s : Term) (ws us : List Way) → Redex R l r ws → Redex R l s us → ws ≡ us
unfolding rank_of first_of proj_at proj_of parts_count
ways-fixed B1 l r s ws us x y = x.4 ∙ sym y.4
ways-fixed K1 l r s ws us x y = x.1 ∙ sym y.1
ways-fixed I1 l r s ws us x y = x.5 ∙ sym y.5
ways-fixed I2 l r s ws us x y = x.8 ∙ sym y.8
ways-fixed L1 l r s ws us x y = atom-ways y.0 ws us (subst (λ a. Atom a ws) (let-first x.0 x.1 y.0 y.1 (sym x.3 ∙ y.3)) x.2) y.2
ways-fixed L2 l r s ws us x y = x.6 ∙ sym y.6
ways-fixed L3 l r s ws us x y = x.2 ∙ sym y.2
ways-fixed P1 l r s ws us x y =
    let e = sym x.2 ∙ y.2 in
    let j : x.0 ≡ y.0 = omega (arith, ap proj_at e) in
    x.4 ∙ ap (λ i. in_first (others i (length x.1))) j ∙ ap (λ n. in_first (others y.0 n)) (ap proj_of e) ∙ sym y.4
ways-fixed P2 l r s ws us x y = x.6 ∙ sym y.6
ways-fixed S1 l r s ws us x y = x.3 ∙ sym y.3
ways-fixed S2 l r s ws us x y = x.4 ∙ sym y.4
ways-fixed S3 l r s ws us x y = x.5 ∙ sym y.5
ways-fixed S4 l r s ws us x y = x.3 ∙ sym y.3
ways-fixed S5 l r s ws us x y = x.4 ∙ sym y.4
ways-fixed S6 l r s ws us x y = x.1 ∙ sym y.1
ways-fixed S7 l r s ws us x y = x.1 ∙ sym y.1
ways-fixed S8 l r s ws us x y = x.1 ∙ sym y.1
ways-fixed S9 l r s ws us x y = x.8 ∙ sym y.8
ways-fixed A1 l r s ws us x y = x.6 ∙ ap (λ n. in_first (n ∷ [])) (ap (λ t. rank_of (first_of t)) (sym x.4 ∙ y.4)) ∙ sym y.6
ways-fixed A2 l r s ws us x y = x.3 ∙ sym y.3
ways-fixed A3 l r s ws us x y = x.4 ∙ ap (λ n. in_first (n ∷ [])) (ap (λ t. rank_of (first_of t)) (sym x.2 ∙ y.2)) ∙ sym y.4
ways-fixed A4 l r s ws us x y = x.7 ∙ sym y.7
ways-fixed A5 l r s ws us x y = subscript-ways l r s ws us x y
ways-fixed A6 l r s ws us x y =
    let f : constant_literal x.0 x.1 ≡ constant_literal y.0 y.1 = ap first_of (sym x.2 ∙ y.2) in
    let d : x.0 ≡ y.0 = sym (dims-read x.0 x.1) ∙ ap literal_dims f ∙ dims-read y.0 y.1 in
    let n : length x.1 ≡ length y.1 = sym (cells-read x.0 x.1) ∙ ap (λ t. parts_count t - length (literal_dims t)) f ∙ cells-read y.0 y.1 in
    x.5 ∙ ap (λ z. in_first (map (λ i. length z + i) (below (length x.1)))) d ∙ ap (λ z. in_first (map (λ i. length y.0 + i) (below z))) n ∙ sym y.5
ways-fixed A7 l r s ws us x y = x.3 ∙ sym y.3
ways-fixed C1 l r s ws us x y = x.2 ∙ sym y.2
ways-fixed C2 l r s ws us x y = x.2 ∙ sym y.2
ways-fixed C3 l r s ws us x y = x.2 ∙ sym y.2
ways-fixed C4 l r s ws us x y = x.2 ∙ sym y.2
ways-fixed N1 l r s ws us x y = x.1 ∙ sym y.1
ways-fixed N2 l r s ws us x y = x.2 ∙ sym y.2
