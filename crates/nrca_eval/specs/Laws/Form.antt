-- The value and the turns of a node, by what its parts come to.
use Rattle.std.specs.Prelude.{◌≡◌, ℕ, zero, suc, ◌+◌, ◌^◌, Bool, true, false, nat_lt, sum, List, [], ◌∷◌, ◌++◌, length, Option, Some, None, refl, if◌then◌else◌}
use Rattle.std.specs.Option.{option_map}
use Rattle.std.specs.List.{slice_get}
use Rattle.std.proofs.Common.{ap, sym, ◌∙◌, subst, arith}
use Rattle.aql_value.specs.Arith.{if_fits}
use Rattle.aql_value.specs.Canon.{canon}
use Rattle.aql_value.specs.Datum.{Datum, natural, set, data_of}
use Rattle.aql_value.specs.Indices.{product, indices}
use Rattle.aql_value.specs.Laws.Indices.{length_indices}
use Rattle.aql_value.specs.Operations.{as_natural, as_set, in_range, push_index, union_all, sum_of, array_of}
use Rattle.aql_value.specs.Partial.{◌>>=◌, each, concat, total, if_some}
use Rattle.aql_value.specs.Strict.{Strict, strict_value, strict_turns}
use Rattle.nrca_term.specs.Term.{Term, Parts, node, none, part, plain, Form, form_of, parts_of, child_of, count, WellFormed, PartsWellFormed, terms_in}
use Rattle.nrca_term.specs.Nodes.{big_union_term, sum_term, tab_term}
use Rattle.nrca_term.specs.Meaning.{Outcomes, cden}
use Rattle.nrca_term.specs.Places.{indices_of}
use Rattle.nrca_term.specs.Turns.{settle}
use Rattle.nrca_term.specs.Laws.Variants.{cden-strict, cden-tab, settle-strict, settle-big_union, settle-sum, settle-tab}
use Rattle.nrca_loops.specs.Parts.{numbers_in, table_in}
use Rattle.nrca_loops.specs.Runs.{sum_value, union_value}
use Rattle.nrca_loops.specs.Laws.Run.{range_whole}
use Rattle.nrca_eval.specs.Runs.{run_values, run_turns, cell_values, cell_turns}

-- parts by their number
pub count-terms_in : (ps : Parts) → length (terms_in ps) ≡ count ps
count-terms_in none = refl
count-terms_in (part k t ps) = ap suc (count-terms_in ps)

pub child_of-terms_in : (ps : Parts) (i : ℕ) → child_of ps i ≡ slice_get (terms_in ps) i
child_of-terms_in none i = refl
child_of-terms_in (part k t ps) zero = refl
child_of-terms_in (part k t ps) (suc i) = child_of-terms_in ps i

plain-terms_in : (s : Strict) (i : ℕ) (ps : Parts) → PartsWellFormed (Form.strict s) i ps → plain (terms_in ps) none ≡ ps
plain-terms_in s i none h = refl
plain-terms_in s i (part k t ps) h = (λ j. part (sym h.0 j) t (plain-terms_in s (suc i) ps h.2 j))

plain-strict : (t : Term) (s : Strict) → WellFormed t → form_of t ≡ Form.strict s → t ≡ node (Form.strict s) (plain (terms_in (parts_of t)) none)
plain-strict (node f ps) s h e =
    let w : WellFormed (node (Form.strict s) ps) = subst (λ g. WellFormed (node g ps)) e h in
    (λ j. node (e j) (sym (plain-terms_in s 0 ps w.1) j))

module _ (V : Outcomes) (vals : List Datum) where
  -- a form that evaluates all its parts and binds nothing
  pub strict_whole : (t : Term) (s : Strict) → WellFormed t → form_of t ≡ Form.strict s → cden V vals t ≡ (each (cden V vals) (terms_in (parts_of t)) >>= strict_value s)
  strict_whole t s h e = ap (cden V vals) (plain-strict t s h e) ∙ cden-strict V vals s (terms_in (parts_of t))

  pub strict_taken : (t : Term) (s : Strict) → WellFormed t → form_of t ≡ Form.strict s →
      settle V vals t ≡ total (settle V vals) (terms_in (parts_of t)) + strict_turns s (each (cden V vals) (terms_in (parts_of t)))
  strict_taken t s h e = ap (settle V vals) (plain-strict t s h e) ∙ settle-strict V vals s (terms_in (parts_of t)) ∙ omega arith

  -- a sum
  natural_range : (o : Option (List ℕ)) → (o >>= λ ns. in_range (sum ns)) ≡ option_map natural (o >>= λ ns. if_fits (sum ns))
  natural_range None = refl
  natural_range (Some ns) = go (nat_lt (sum ns) (2 ^ 128))
    where
      go : (b : Bool) → (if b then Some (natural (sum ns)) else None) ≡ option_map natural (if b then Some (sum ns) else None)
      go true = refl
      go false = refl

  sum_natural : (o : Option (List Datum)) → (o >>= sum_of) ≡ option_map natural (sum_value o)
  sum_natural None = refl
  sum_natural (Some vs) = natural_range (each as_natural vs)

  pub sum_whole : (e b : Term) (ms : List Datum) → (cden V vals e >>= as_set) ≡ Some ms → cden V vals (sum_term e b) ≡ option_map natural (sum_value (run_values V vals b ms 0 (length ms)))
  sum_whole e b ms h =
      ap (λ o. (o >>= each (λ m. cden V (m ∷ vals) b)) >>= sum_of) h
      ∙ sum_natural (each (λ m. cden V (m ∷ vals) b) ms)
      ∙ ap (λ l. option_map natural (sum_value (each (λ m. cden V (m ∷ vals) b) l))) (sym (range_whole ms (length ms) refl))

  pub sum_taken : (e b : Term) (ms : List Datum) → (cden V vals e >>= as_set) ≡ Some ms → settle V vals (sum_term e b) ≡ settle V vals e + length ms + run_turns V vals b ms 0 (length ms)
  sum_taken e b ms h =
      settle-sum V vals e b
      ∙ ap (λ o. if_some o length + settle V vals e + if_some o (total (λ m. settle V (m ∷ vals) b))) h
      ∙ ap (λ l. length ms + settle V vals e + total (λ m. settle V (m ∷ vals) b) l) (sym (range_whole ms (length ms) refl))
      ∙ omega arith

  -- a big union
  union_sets : (o : Option (List Datum)) → (o >>= union_all) ≡ option_map (λ ms. set (data_of ms)) (union_value o)
  union_sets None = refl
  union_sets (Some vs) = go (each as_set vs)
    where
      go : (o : Option (List (List Datum))) → (o >>= λ sets. Some (set (data_of (canon (concat sets))))) ≡ option_map (λ ms. set (data_of ms)) (option_map canon (o >>= λ sets. Some (concat sets)))
      go None = refl
      go (Some sets) = refl

  pub union_whole : (e b : Term) (ms : List Datum) → (cden V vals e >>= as_set) ≡ Some ms →
      cden V vals (big_union_term e b) ≡ option_map (λ xs. set (data_of xs)) (union_value (run_values V vals b ms 0 (length ms)))
  union_whole e b ms h =
      ap (λ o. (o >>= each (λ m. cden V (m ∷ vals) b)) >>= union_all) h
      ∙ union_sets (each (λ m. cden V (m ∷ vals) b) ms)
      ∙ ap (λ l. option_map (λ xs. set (data_of xs)) (union_value (each (λ m. cden V (m ∷ vals) b) l))) (sym (range_whole ms (length ms) refl))

  pub union_taken : (e b : Term) (ms : List Datum) → (cden V vals e >>= as_set) ≡ Some ms → settle V vals (big_union_term e b) ≡ settle V vals e + length ms + run_turns V vals b ms 0 (length ms)
  union_taken e b ms h =
      settle-big_union V vals e b
      ∙ ap (λ o. if_some o length + settle V vals e + if_some o (total (λ m. settle V (m ∷ vals) b))) h
      ∙ ap (λ l. length ms + settle V vals e + total (λ m. settle V (m ∷ vals) b) l) (sym (range_whole ms (length ms) refl))
      ∙ omega arith

  -- a tabulation
  pub tab_none : (ds : List Term) (b : Term) → numbers_in (each (cden V vals) ds) ≡ None → cden V vals (tab_term ds b) ≡ None
  tab_none ds b h = cden-tab V vals ds b ∙ ap (λ o. o >>= λ ms. each (λ at. cden V (push_index at [] ++ vals) b) (indices ms) >>= array_of ms) h

  pub tab_whole : (ds : List Term) (b : Term) (ms : List ℕ) → numbers_in (each (cden V vals) ds) ≡ Some ms → cden V vals (tab_term ds b) ≡ table_in ms (cell_values V vals b ms 0 (product ms))
  tab_whole ds b ms h =
      cden-tab V vals ds b
      ∙ ap (λ o. o >>= λ ms. each (λ at. cden V (push_index at [] ++ vals) b) (indices ms) >>= array_of ms) h
      ∙ ap (λ l. each (λ at. cden V (push_index at [] ++ vals) b) l >>= array_of ms) (sym (range_whole (indices ms) (product ms) (sym (length_indices ms))))

  pub tab_idle : (ds : List Term) (b : Term) → numbers_in (each (cden V vals) ds) ≡ None → settle V vals (tab_term ds b) ≡ total (settle V vals) ds
  tab_idle ds b h =
      settle-tab V vals ds b
      ∙ ap (λ o. length (indices_of o) + total (settle V vals) ds + total (λ at. settle V (push_index at [] ++ vals) b) (indices_of o)) h
      ∙ omega arith

  pub tab_taken : (ds : List Term) (b : Term) (ms : List ℕ) → numbers_in (each (cden V vals) ds) ≡ Some ms →
      settle V vals (tab_term ds b) ≡ total (settle V vals) ds + product ms + cell_turns V vals b ms 0 (product ms)
  tab_taken ds b ms h =
      settle-tab V vals ds b
      ∙ ap (λ o. length (indices_of o) + total (settle V vals) ds + total (λ at. settle V (push_index at [] ++ vals) b) (indices_of o)) h
      ∙ ap (λ l. length (indices ms) + total (settle V vals) ds + total (λ at. settle V (push_index at [] ++ vals) b) l) (sym (range_whole (indices ms) (product ms) (sym (length_indices ms))))
      ∙ omega (arith, length_indices ms)
