-- The code's matches around terms.
use Rattle.std.proofs.Common.{◌≡◌, ◌<◌, ℕ, suc, ◌+◌, ◌-◌, ◌*◌, List, [], ◌∷◌, ◌++◌, length, take, Option, None, sym, ap, ◌∙◌, arith}
use Rattle.aql_syntax.specs.Tree.{Name, Pat}
use Rattle.aql_syntax.specs.Size.{pat_nodes, pats_nodes}
use Rattle.aql_syntax.specs.View.{pat_of, pats_of}
use Rattle.aql_syntax.specs.Laws.View.{pat_of_row, count_pats-list}
use Rattle.aql_syntax.specs.declared.ast.Pattern as code_pattern
use Rattle.aql_syntax.specs.declared.ast.Pattern.{Pattern}
use Rattle.aql_syntax.specs.declared.ast.Patterns.{Patterns}
use Rattle.nrca_term.specs.Term.{Term}
use Rattle.nrca_term.specs.Nodes.{variable, let_term, proj_term}
use Rattle.aql_desugar_spec.specs.Start.{Resolutions, bind_pattern, count_binders, match_term, parts_term}
use Rattle.aql_desugar_spec.specs.Laws.Scopes.{length-bound}
use Rattle.aql_desugar_spec.specs.Laws.Weight.{some-nodes}
use Rattle.aql_desugar.specs.Names.{binders_of}
use Rattle.aql_desugar.specs.Laws.Scopes.{length-binders_of}
use Rattle.aql_desugar.proofs.Scoping.{taken_off}

-- the variables of a match are taken off
pub closed_kept : {A : Type 0} (xs ts ys ws zs : List (Option A)) (mark : ℕ) → ts ≡ take mark xs → ys ≡ ts ++ None ∷ [] → ws ≡ ys → zs ≡ take (length ws - 1) ws → zs ≡ take mark xs
closed_kept xs ts ys ws zs mark e h k l = taken_off ts ws zs None (k ∙ h) l ∙ e

-- the match of a tuple is that of its parts
pub row_made : (p : Pattern) (ps : Patterns) (qs : List Pattern) (n : ℕ) (known : Resolutions) (s : List (Option Name)) (at : ℕ) (inside other t : Term) → p ≡ code_pattern.Row ps → qs ≡ ps.items.items → n ≡ length ps.items.items →
    t ≡ parts_term (pats_of qs) known s at 1 n inside other → t ≡ match_term (pat_of p) known s at inside other
row_made p ps qs n known s at inside other t e q l h =
    h ∙ ap (λ l. parts_term (pats_of l) known s at 1 n inside other) q
    ∙ ap (λ m. parts_term (pats_of ps.items.items) known s at 1 m inside other) (l ∙ sym (count_pats-list ps.items.items))
    ∙ sym (ap (λ r. match_term r known s at inside other) (ap pat_of e ∙ pat_of_row ps))

pub rest_smaller : (ps rest : List Pattern) (p : Pattern) → ps ≡ p ∷ rest → 3 * pats_nodes (pats_of rest) + 2 < 3 * pats_nodes (pats_of ps) + 2
rest_smaller ps rest p e =
    let h : pats_nodes (pats_of ps) ≡ pat_nodes (pat_of p) + pats_nodes (pats_of rest) = ap (λ l. pats_nodes (pats_of l)) e in
    omega (arith, some-nodes (pat_of p))

-- inside a match stand as many variables more as it adds
pub grown_by : {A : Type 0} (f : A → Name) (p : Pat) (xs zs : List (Option A)) → ((base : ℕ) → binders_of f zs base ≡ bind_pattern p (None ∷ binders_of f xs base)) → length zs ≡ length xs + (count_binders p + 1)
grown_by f p xs zs h = omega (arith, length-binders_of f zs 0, length-binders_of f xs 0, ap length (h 0), length-bound p (None ∷ binders_of f xs 0))

-- one part of a tuple, around the others
pub parts_made : {A : Type 0} (f : A → Name) (ps rest : List Pattern) (p : Pattern) (known : Resolutions) (xs zs ws : List (Option A)) (mark at deeper j n next : ℕ) (inside taken inner matched part other t v : Term) →
    ps ≡ p ∷ rest → ((base : ℕ) → binders_of f zs base ≡ bind_pattern (pat_of p) (None ∷ binders_of f xs base)) → take (length xs) zs ≡ xs → mark ≡ length xs →
    deeper ≡ at + (length zs - length xs) → next ≡ j + 1 → inside ≡ taken → ((base : ℕ) → inner ≡ parts_term (pats_of rest) known (binders_of f zs base) deeper next n taken other) → ws ≡ zs →
    ((base : ℕ) → matched ≡ match_term (pat_of p) known (None ∷ binders_of f (take mark ws) base) 0 inner other) → part ≡ proj_term j n v → v ≡ variable at → t ≡ let_term part matched →
    (base : ℕ) → t ≡ parts_term (pats_of ps) known (binders_of f xs base) at j n inside other
parts_made f ps rest p known xs zs ws mark at deeper j n next inside taken inner matched part other t v e k around m d x s i w c q r l base =
    let far : deeper ≡ at + (count_binders (pat_of p) + 1) = omega (arith, d, grown_by f (pat_of p) xs zs k) in
    let one : next ≡ suc j = omega (arith, x) in
    let kept : take mark ws ≡ xs = ap (λ n. take n ws) m ∙ ap (take (length xs)) w ∙ around in
    let below : inner ≡ parts_term (pats_of rest) known (bind_pattern (pat_of p) (None ∷ binders_of f xs base)) (at + (count_binders (pat_of p) + 1)) (suc j) n inside other =
    i base ∙ ap (λ s. parts_term (pats_of rest) known s deeper next n taken other) (k base)
    ∙ ap (λ a. parts_term (pats_of rest) known (bind_pattern (pat_of p) (None ∷ binders_of f xs base)) a next n taken other) far
    ∙ ap (λ a. parts_term (pats_of rest) known (bind_pattern (pat_of p) (None ∷ binders_of f xs base)) (at + (count_binders (pat_of p) + 1)) a n taken other) one
    ∙ ap (λ u. parts_term (pats_of rest) known (bind_pattern (pat_of p) (None ∷ binders_of f xs base)) (at + (count_binders (pat_of p) + 1)) (suc j) n u other) (sym s) in
    l ∙ ap (λ u. let_term u matched) (q ∙ ap (proj_term j n) r)
    ∙ ap (let_term (proj_term j n (variable at))) (c base ∙ ap (λ l. match_term (pat_of p) known (None ∷ binders_of f l base) 0 inner other) kept ∙ ap (λ u. match_term (pat_of p) known (None ∷ binders_of f xs base) 0 u other) below)
    ∙ sym (ap (λ l. parts_term (pats_of l) known (binders_of f xs base) at j n inside other) e)

pub parts_kept : {A : Type 0} (xs zs ws vs : List (Option A)) (mark : ℕ) → take (length xs) zs ≡ xs → mark ≡ length xs → ws ≡ zs → vs ≡ take mark ws → vs ≡ xs
parts_kept xs zs ws vs mark around m w c = c ∙ ap (λ n. take n ws) m ∙ ap (take (length xs)) w ∙ around
