-- The positions before a query are worth to its term what they mean to it.
use Rattle.std.proofs.Common.{◌≡◌, ℕ, zero, suc, true, false, List, [], ◌∷◌, ◌++◌, length, Option, Some, None, if◌then◌else◌, refl, sym, ap, ◌∙◌, subst, arith, append_assoc, length-append}
use Rattle.std.specs.List.{slice_get}
use Rattle.aql_value.specs.Datum.{Datum}
use Rattle.aql_value.specs.Partial.{◌>>=◌}
use Rattle.aql_syntax.specs.Tree.{Name, Pat, Tree, Declaration, val, mac, read, bare, it}
use Rattle.aql_syntax.specs.Names.{names_equal, find}
use Rattle.aql_syntax.specs.Matching.{Global, Globals, outcome_of, on_match, match}
use Rattle.aql_syntax.specs.Matching as matching
use Rattle.aql_syntax.specs.Denotation.{call, den}
use Rattle.aql_syntax.specs.Work.{turns_of_call, work}
use Rattle.aql_syntax.specs.Script.{Earlier, globals_of}
use Rattle.aql_syntax.specs.Sound.{declarations_of}
use Rattle.nrca_term.specs.Meaning.{Outcomes, cden}
use Rattle.nrca_term.specs.Turns.{settle}
use Rattle.nrca_term.specs.Nodes.{bottom_term}
use Rattle.aql_desugar_spec.specs.Start.{Resolved, numbered, Resolutions, position_term, macro_term, unnamed_binders, inline, start, knowns_of}
use Rattle.aql_desugar_spec.specs.Scopes.{env_of, Stand}
use Rattle.aql_desugar_spec.specs.Laws.Matching.{match-worth, match-turns}
use Rattle.aql_desugar_spec.specs.Laws.Meaning.{cden-start}
use Rattle.aql_desugar_spec.specs.Laws.Turns.{settle-start}
use Rattle.aql_desugar_spec.specs.Laws.{StartMeans, StartTurns}
use Rattle.aql_desugar_spec.specs.Positions.{outcomes_of}

pub length-unnamed_binders : (n : ℕ) → length (unnamed_binders n) ≡ n
length-unnamed_binders zero = refl
length-unnamed_binders (suc n) = ap suc (length-unnamed_binders n)

pub env_of-unnamed_binders : {A : Type 0} (vals : List A) → env_of (unnamed_binders (length vals)) vals ≡ []
env_of-unnamed_binders [] = refl
env_of-unnamed_binders (v ∷ vals) = env_of-unnamed_binders vals

last_outcome : (os later : Outcomes) (o : Option Datum) (n : ℕ) → n ≡ length os → (slice_get (os ++ (o ∷ later)) n >>= λ r. r) ≡ o
last_outcome [] later o zero e = refl
last_outcome [] later o (suc n) e = absurd (omega arith)
last_outcome (x ∷ os) later o zero e = absurd (omega arith)
last_outcome (x ∷ os) later o (suc n) e = last_outcome os later o n (omega arith)

length-outcomes : (ds : Earlier) → length (declarations_of ds) ≡ length (outcomes_of ds)
length-outcomes [] = refl
length-outcomes ((d, o) ∷ ds) = omega (arith, length-outcomes ds, length-append (outcomes_of ds) (o ∷ []))

one_more : (V : Outcomes) (globals : Globals) (known : Resolutions) (y : Name) (g : Global) (k : Resolved) → Stand V globals known →
    ((vals : List Datum) → cden V vals (position_term (Some k)) ≡ outcome_of (Some g)) →
    ((w : Datum) (vals : List Datum) → cden V (w ∷ vals) (macro_term (Some k) (length vals)) ≡ call (Some g) w) →
    ((w : Datum) (vals : List Datum) → settle V (w ∷ vals) (macro_term (Some k) (length vals)) ≡ turns_of_call (Some g) w) →
    Stand V ((y, g) ∷ globals) ((y, k) ∷ known)
one_more V globals known y g k st a b c = record {
  names = λ x vals. elim (names_equal x y) as (λ t. cden V vals (position_term (if t then Some k else find x known)) ≡ outcome_of (if t then Some g else find x globals)) [
    | true ↦ a vals
    | false ↦ st.names x vals
  ];
  calls = λ x w vals. elim (names_equal x y) as (λ t. cden V (w ∷ vals) (macro_term (if t then Some k else find x known) (length vals)) ≡ call (if t then Some g else find x globals) w) [
    | true ↦ b w vals
    | false ↦ st.calls x w vals
  ];
  turns = λ x w vals. elim (names_equal x y) as (λ t. settle V (w ∷ vals) (macro_term (if t then Some k else find x known) (length vals)) ≡ turns_of_call (if t then Some g else find x globals) w) [
    | true ↦ c w vals
    | false ↦ st.turns x w vals
  ];
}

inline-worth : (V : Outcomes) (globals : Globals) (known : Resolutions) → Stand V globals known → (p : Pat) (body : Tree) (w : Datum) (vals : List Datum) →
    cden V (w ∷ vals) (inline p body known (length vals)) ≡ on_match (match p globals w []) (den body globals) None None
inline-worth V globals known st p body w vals =
    match-worth V globals known st p (unnamed_binders (length vals)) vals (start body known) bottom_term (den body globals) None
    (length-unnamed_binders (length vals)) (λ l. refl) (cden-start V globals known st body) w
    ∙ ap (λ env. on_match (match p globals w env) (den body globals) None None) (env_of-unnamed_binders vals)

inline-turns : (V : Outcomes) (globals : Globals) (known : Resolutions) → Stand V globals known → (p : Pat) (body : Tree) (w : Datum) (vals : List Datum) →
    settle V (w ∷ vals) (inline p body known (length vals)) ≡ on_match (match p globals w []) (work body globals) 0 0
inline-turns V globals known st p body w vals =
    match-turns V globals known st p (unnamed_binders (length vals)) vals (start body known) bottom_term (work body globals)
    (length-unnamed_binders (length vals)) (λ l. refl) (settle-start V globals known st body) w
    ∙ ap (λ env. on_match (match p globals w env) (work body globals) 0 0) (env_of-unnamed_binders vals)

-- whatever the outcomes of later positions are
pub stand : (ds : Earlier) (later : Outcomes) → Stand (outcomes_of ds ++ later) (globals_of ds) (knowns_of (declarations_of ds))
stand [] later = record { names = λ x vals. refl; calls = λ f w vals. refl; turns = λ f w vals. refl }
stand ((d, o) ∷ ds) later =
    subst (λ V. Stand V (globals_of ((d, o) ∷ ds)) (knowns_of (declarations_of ((d, o) ∷ ds)))) (sym (append_assoc (outcomes_of ds) (o ∷ []) later))
    (one d (stand ds (o ∷ later)))
  where
    value : (x : Name) → Stand (outcomes_of ds ++ (o ∷ later)) (globals_of ds) (knowns_of (declarations_of ds)) →
        Stand (outcomes_of ds ++ (o ∷ later)) ((x, matching.outcome o) ∷ globals_of ds) ((x, numbered (suc (length (declarations_of ds)))) ∷ knowns_of (declarations_of ds))
    value x st =
        one_more _ _ _ x _ _ st (λ vals. last_outcome (outcomes_of ds) later o (length (declarations_of ds)) (length-outcomes ds)) (λ w vals. refl) (λ w vals. refl)

    one : (d : Declaration) → Stand (outcomes_of ds ++ (o ∷ later)) (globals_of ds) (knowns_of (declarations_of ds)) →
        Stand (outcomes_of ds ++ (o ∷ later)) (globals_of ((d, o) ∷ ds)) (knowns_of (declarations_of ((d, o) ∷ ds)))
    one (val x e) st = value x st
    one (mac f p body) st = one_more _ _ _ f _ _ st (λ vals. refl) (inline-worth _ _ _ st p body) (inline-turns _ _ _ st p body)
    one (read x r e) st = value x st
    one (bare e) st = value it st

-- the start term is worth what the query denotes, whatever the later positions are
pub start-means : StartMeans
start-means ds later e = cden-start _ _ _ (stand ds later) e _ _ refl

pub start-turns : StartTurns
start-turns ds later e = settle-start _ _ _ (stand ds later) e _ _ refl
