-- Patterns as the code has them, and the local names that they bind.
use Rattle.std.proofs.Common.{ℕ, ◌≡◌, ◌+◌, ◌<◌, List, [], ◌∷◌, ◌++◌, Option, Some, None, refl, sym, ap, ◌∙◌, length, drop, get_or}
use Rattle.aql_ty.specs.Types.{Ty, Tys, no_type, type, natural, append}
use Rattle.aql_ty.specs.Laws.View.{append_assoc_types, append_none}
use Rattle.aql_syntax.specs.Tree.{Pats, count_pats, axes}
use Rattle.aql_syntax.specs.Typing.{Locals}
use Rattle.aql_syntax.specs.View.{pat_of, pats_of}
use Rattle.aql_syntax.specs.Laws.View.{pat_of_row, pats_from, pats_past, count_pats-list}
use Rattle.aql_syntax.specs.declared.ast.Pattern as code_pattern
use Rattle.aql_syntax.specs.declared.ast.Pattern.{Pattern}
use Rattle.aql_syntax.specs.declared.ast.Patterns.{Patterns}
use Rattle.aql_infer_steps.specs.Constraints.{State, Made, MatchedAll, NumberedSchemes, after, pure, equate, make_pat, make_pats, matched_index}
use Rattle.aql_infer_steps.specs.View.{sketch_type, sketch_types}
use Rattle.aql_infer_steps.specs.declared.sketch.Sketch.{Sketch}
use Rattle.aql_infer_steps.specs.declared.positions.Position.{Position}
use Rattle.aql_infer_steps.proofs.Sketching.{sketch_row_is, sketches_last}
use Rattle.aql_infer_steps.specs.Laws.Growing.{extends_itself, extends_extends}

pub count_axes-row : (ps : Patterns) → count_pats (axes (pat_of (code_pattern.Row ps))) ≡ length ps.items.items
count_axes-row ps = ap (λ p. count_pats (axes p)) (pat_of_row ps) ∙ count_pats-list ps.items.items

pub ruleset index_rank_steps = (count_axes-row)

pub ruleset pattern_steps = (extends_itself, pat_of_row, sketch_row_is)

pub ruleset patterns_steps = (extends_itself, extends_extends, pats_from, pats_past, sketches_last, append_assoc_types, append_none)

-- the types of patterns behind others
abbrev pub behind : Tys → MatchedAll → State → Option (Made MatchedAll)
behind ts q = pure (record { of = append ts q.of; names = q.names })

-- one pattern more
pub pats_more : (qs : List Position) (ps : List Pattern) (i : ℕ) (p : Pattern) (ss : NumberedSchemes) (env inner : Locals) (n m : State) (parts new : List Sketch) (t : Sketch) (all : Option (Made MatchedAll)) →
    i < length ps → p ≡ get_or ps i p → make_pat (pat_of p) ss env n ≡ Some (record { result = record { of = sketch_type qs t; names = inner }; state = m }) →
    new ≡ parts ++ t ∷ [] → after (make_pats (pats_of (drop i ps)) ss env n) (behind (sketch_types qs parts)) ≡ all →
    after (make_pats (pats_of (drop (i + 1) ps)) ss inner m) (behind (sketch_types qs new)) ≡ all
unfolding after
pats_more qs ps i p ss env inner n m parts new t all h e k g total =
    go (make_pats (pats_of (drop (i + 1) ps)) ss inner m)
    ∙ sym (ap (λ o. after (after o (λ r n. after (make_pats (pats_of (drop (i + 1) ps)) ss r.names n) (λ q. pure (record { of = type r.of q.of; names = q.names })))) (behind (sketch_types qs parts)))
    (ap (λ (p : Pattern). make_pat (pat_of p) ss env n) (sym e) ∙ k))
    ∙ sym (ap (λ (x : Pats). after (make_pats x ss env n) (behind (sketch_types qs parts))) (pats_from ps i p h)) ∙ total
  where
    longer : (ts : Tys) → append (sketch_types qs new) ts ≡ append (sketch_types qs parts) (type (sketch_type qs t) ts)
    longer ts =
        ap (λ (l : List Sketch). append (sketch_types qs l) ts) g ∙ ap (λ (x : Tys). append x ts) (sketches_last qs parts t)
        ∙ append_assoc_types (sketch_types qs parts) (type (sketch_type qs t) no_type) ts

    go : (o : Option (Made MatchedAll)) →
        after o (behind (sketch_types qs new)) ≡ after (after o (λ q. pure (record { of = type (sketch_type qs t) q.of; names = q.names }))) (behind (sketch_types qs parts))
    go None = refl
    go (Some q) = ap (λ (ts : Tys). Some (record { result = record { of = ts; names = q.result.names }; state = q.state })) (longer q.result.of)

-- one part of an index more
pub index_more : (ps : List Pattern) (i : ℕ) (p : Pattern) (ss : NumberedSchemes) (env inner : Locals) (n m last : State) (t : Ty) (all : Option (Made Locals)) →
    i < length ps → p ≡ get_or ps i p → make_pat (pat_of p) ss env n ≡ Some (record { result = record { of = t; names = inner }; state = m }) →
    equate t natural m ≡ Some (record { result = tt; state = last }) → matched_index (pats_of (drop i ps)) ss env n ≡ all →
    matched_index (pats_of (drop (i + 1) ps)) ss inner last ≡ all
unfolding after
index_more ps i p ss env inner n m last t all h e k f total =
    sym (ap (λ (o : Option (Made (Unit {0}))). after o (λ _. matched_index (pats_of (drop (i + 1) ps)) ss inner)) f)
    ∙ sym (ap (λ o. after o (λ r n. after (equate r.of natural n) (λ _. matched_index (pats_of (drop (i + 1) ps)) ss r.names)))
    (ap (λ (p : Pattern). make_pat (pat_of p) ss env n) (sym e) ∙ k))
    ∙ sym (ap (λ (x : Pats). matched_index x ss env n) (pats_from ps i p h)) ∙ total
