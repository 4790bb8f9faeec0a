-- The code's loops over arrays.
use Rattle.std.proofs.Common.{◌≡◌, ◌<◌, ◌≤◌, ◌≢◌, ℕ, zero, suc, ◌+◌, ◌-◌, List, [], ◌∷◌, ◌++◌, length, map, take, Option, None, refl, sym, ap, ◌∙◌, arith, append_assoc}
use Rattle.aql_syntax.specs.Tree.{Name, Pat, count_pats}
use Rattle.aql_syntax.specs.View.{pat_of, pats_of}
use Rattle.aql_syntax.specs.declared.ast.Pattern.{Pattern}
use Rattle.aql_syntax.specs.Laws.View.{count_pats-list}
use Rattle.nrca_term.specs.Term.{Term}
use Rattle.nrca_term.specs.Nodes.{variable, let_term, proj_term, dim_term, gen_term, big_union_term}
use Rattle.nrca_term.specs.View.{term_of}
use Rattle.nrca_term.specs.declared.term.Core.{Core}
use Rattle.aql_desugar_spec.specs.Start.{Resolutions, bind_pattern, count_binders, under, match_term, axes_term, index_terms, dimension, loops_term, cell_term}
use Rattle.aql_desugar_spec.specs.Laws.Scopes.{length-bound}
use Rattle.aql_desugar.specs.Names.{binders_of}
use Rattle.aql_desugar.specs.Laws.Scopes.{length-binders_of, binders_of-last}

pub dimension_one : (r j at : ℕ) → r ≡ 1 → dim_term r (variable at) ≡ dimension r j at
dimension_one zero j at e = absurd (omega arith)
dimension_one (suc zero) j at e = refl
dimension_one (suc (suc r)) j at e = absurd (omega arith)

pub dimension_other : (r j at : ℕ) → r ≢ 1 → proj_term j r (dim_term r (variable at)) ≡ dimension r j at
dimension_other zero j at e = refl
dimension_other (suc zero) j at e = absurd (e refl)
dimension_other (suc (suc r)) j at e = refl

pub ruleset dimensions = (dimension_one, dimension_other)

pub loops_done : (j rank : ℕ) (inside : Term) → j ≡ rank → inside ≡ loops_term (rank - j) j rank inside
loops_done j rank inside e = let z : rank - j ≡ 0 = omega arith in sym (ap (λ n. loops_term n j rank inside) z)

pub loops_next : (j rank : ℕ) (inside body dim t : Term) → j ≤ rank → j ≢ rank → body ≡ loops_term (rank - (j + 1)) (j + 1) rank inside → dim ≡ dimension rank (j + 1) j → t ≡ big_union_term (gen_term dim) body →
    t ≡ loops_term (rank - j) j rank inside
loops_next j rank inside body dim t l n b d e =
    let z : rank - j ≡ suc (rank - (j + 1)) = omega arith in
    let y : j + 1 ≡ suc j = omega arith in
    e ∙ ap (λ u. big_union_term (gen_term u) body) (d ∙ ap (λ k. dimension rank k j) y) ∙ ap (big_union_term (gen_term (dimension rank (suc j) j))) (b ∙ ap (λ k. loops_term (rank - (j + 1)) k rank inside) y)
    ∙ sym (ap (λ n. loops_term n j rank inside) z)

pub ruleset looping = (loops_done, loops_next)

-- one number more of an index
pub index_next : (xs ys : List Core) (x : Core) (left less added rank : ℕ) → ys ≡ xs ++ x ∷ [] → left ≡ less + 1 → term_of x ≡ variable (added + less) → map term_of xs ++ index_terms left added ≡ index_terms rank added →
    map term_of ys ++ index_terms less added ≡ index_terms rank added
index_next xs ys x left less added rank e l t h =
    ap (λ zs. map term_of zs ++ index_terms less added) e ∙ ap (λ zs. zs ++ index_terms less added) (map-last xs)
    ∙ append_assoc (map term_of xs) (term_of x ∷ []) (index_terms less added) ∙ ap (λ u. map term_of xs ++ (u ∷ index_terms less added)) t
    ∙ (let z : suc less ≡ left = omega arith in ap (λ n. map term_of xs ++ index_terms n added) z) ∙ h
  where
    map-last : (xs : List Core) → map term_of (xs ++ x ∷ []) ≡ map term_of xs ++ term_of x ∷ []
    map-last [] = refl
    map-last (y ∷ xs) = ap (λ zs. term_of y ∷ zs) (map-last xs)

-- one hidden variable more
pub hidden_next : {A : Type 0} (f : A → Name) (n i : ℕ) (start xs ys : List (Option A)) → i < n → ys ≡ xs ++ None ∷ [] →
    ((base : ℕ) → under (n - i) (binders_of f xs base) ≡ under n (binders_of f start base)) → (base : ℕ) → under (n - (i + 1)) (binders_of f ys base) ≡ under n (binders_of f start base)
hidden_next f n i start xs ys l e h base =
    ap (λ zs. under (n - (i + 1)) (binders_of f zs base)) e ∙ ap (under (n - (i + 1))) (binders_of-last f xs None base)
    ∙ (let z : suc (n - (i + 1)) ≡ n - i = omega arith in ap (λ k. under k (binders_of f xs base)) z) ∙ h base

-- inside a match stand as many variables more as it adds
pub grown_inside : {A : Type 0} (f : A → Name) (p : Pat) (xs zs : List (Option A)) → ((base : ℕ) → binders_of f zs base ≡ bind_pattern p (binders_of f xs base)) → length zs ≡ length xs + count_binders p
grown_inside f p xs zs h = omega (arith, length-binders_of f zs 0, length-binders_of f xs 0, ap length (h 0), length-bound p (binders_of f xs 0))

-- the match of one number of an index around those of the others
pub axes_made : {A : Type 0} (f : A → Name) (ps rest : List Pattern) (p : Pattern) (known : Resolutions) (xs zs ws vs : List (Option A)) (mark added deeper at : ℕ) (inside taken inner under other t : Term) →
    ps ≡ p ∷ rest → ((base : ℕ) → binders_of f zs base ≡ bind_pattern (pat_of p) (binders_of f xs base)) → take (length xs) zs ≡ xs → mark ≡ length xs →
    deeper ≡ added + (length zs - length xs) → inside ≡ taken → ((base : ℕ) → inner ≡ axes_term (pats_of rest) known (binders_of f zs base) deeper taken other) → ws ≡ zs → vs ≡ take mark ws → at ≡ added + length rest → inner ≡ under →
    ((base : ℕ) → t ≡ match_term (pat_of p) known (binders_of f vs base) at under other) → (base : ℕ) → t ≡ axes_term (pats_of ps) known (binders_of f xs base) added inside other
axes_made f ps rest p known xs zs ws vs mark added deeper at inside taken inner under other t e k around m d s i w v a u c base =
    let far : deeper ≡ added + count_binders (pat_of p) = omega (arith, d, grown_inside f (pat_of p) xs zs k) in
    let kept : vs ≡ xs = v ∙ ap (λ n. take n ws) m ∙ ap (take (length xs)) w ∙ around in
    let here : at ≡ added + count_pats (pats_of rest) = a ∙ ap (λ n. added + n) (sym (count_pats-list rest)) in
    let below : inner ≡ axes_term (pats_of rest) known (bind_pattern (pat_of p) (binders_of f xs base)) (added + count_binders (pat_of p)) inside other =
    i base ∙ ap (λ s. axes_term (pats_of rest) known s deeper taken other) (k base) ∙ ap (λ n. axes_term (pats_of rest) known (bind_pattern (pat_of p) (binders_of f xs base)) n taken other) far
    ∙ ap (λ v. axes_term (pats_of rest) known (bind_pattern (pat_of p) (binders_of f xs base)) (added + count_binders (pat_of p)) v other) (sym s) in
    c base ∙ ap (λ l. match_term (pat_of p) known (binders_of f l base) at under other) kept ∙ ap (λ n. match_term (pat_of p) known (binders_of f xs base) n under other) here
    ∙ ap (λ v. match_term (pat_of p) known (binders_of f xs base) (added + count_pats (pats_of rest)) v other) (sym u ∙ below)
    ∙ sym (ap (λ l. axes_term (pats_of l) known (binders_of f xs base) added inside other) e)

-- the loops around the matches of an index and the term of a cell
pub walk_made : {A : Type 0} (f : A → Name) (ps : List Pattern) (known : Resolutions) (xs vs : List (Option A)) (low rank added : ℕ) (body taken found bind_pattern ax walked other : Term) →
    vs ≡ take low xs → body ≡ taken → found ≡ cell_term rank added → bind_pattern ≡ let_term found taken → ((b : ℕ) → ax ≡ axes_term (pats_of ps) known (binders_of f vs b) 0 bind_pattern other) →
    walked ≡ loops_term (rank - 0) 0 rank ax → (base : ℕ) → walked ≡ loops_term rank 0 rank (axes_term (pats_of ps) known (binders_of f (take low xs) base) 0 (let_term (cell_term rank added) body) other)
walk_made f ps known xs vs low rank added body taken found bind_pattern ax walked other v s c l a o base =
    let zero : rank - 0 ≡ rank = omega arith in
    o ∙ ap (λ n. loops_term n 0 rank ax) zero
    ∙ ap (loops_term rank 0 rank) (a base ∙ ap (λ us. axes_term (pats_of ps) known (binders_of f us base) 0 bind_pattern other) v
    ∙ ap (λ u. axes_term (pats_of ps) known (binders_of f (take low xs) base) 0 u other) (l ∙ ap (λ u. let_term u taken) c ∙ ap (let_term (cell_term rank added)) (sym s)))
