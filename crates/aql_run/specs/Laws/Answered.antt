-- The outcomes of the declarations that were answered are the values of the script.
use Rattle.std.proofs.Common.{ℕ, zero, suc, ◌≡◌, ◌+◌, ◌-◌, ◌<◌, ◌≤◌, ◌⊎◌, inl, inr, List, [], ◌∷◌, refl, sym, ap, ◌∙◌, subst, length, take, arith, Bool, true, false}
use Rattle.std.proofs.lemmas.Bool.{cases_lt}
use Rattle.std.proofs.lemmas.Option.{slice_get_within}
use Rattle.std.specs.List.{slice_get}
use Rattle.std.specs.Option.{ForSome}
use Rattle.std.specs.Prelude.{Option, Some, None, replicate}
use Rattle.aql_outside.specs.Contents.{Content}
use Rattle.aql_value.specs.Datum.{Datum}
use Rattle.aql_value.specs.Laws.Lists.{slice_get-append_left, entry-there}
use Rattle.aql_ty.specs.Types.{Sort}
use Rattle.aql_syntax.specs.Matching.{Globals}
use Rattle.aql_syntax.specs.Script.{ReaderMeaning, Earlier, globals_of, outcome_after, then_after, outcomes_after, values}
use Rattle.aql_syntax.specs.Tree.{Declaration, val, mac, read, bare}
use Rattle.nrca_term.specs.Meaning.{Outcomes}
use Rattle.aql_prelude.specs.Prelude.{prelude_decls, prelude_count}
use Rattle.aql_script.specs.Laws.Position.{positions_are, length_positions}
use Rattle.aql_script.specs.Script.{positions}
use Rattle.aql_session.specs.Bound.{onto, earlier_of}
use Rattle.aql_session.specs.Reading.{reading}
use Rattle.aql_session.specs.Step.{IsOutcome}
use Rattle.aql_session.specs.declared.answer.Answer.{Answer}
use Rattle.aql_run.specs.Answered.{AreAnswered}
use Rattle.aql_options.specs.Settings.{Settings}

-- ---- lists

-- an outcome among nones is none
none_at : (n : ℕ) (V : Outcomes) (i : ℕ) (o : Option Datum) → take n V ≡ replicate n None → i < n → slice_get V i ≡ Some o → o ≡ None
none_at zero V i o e lt is = absurd (omega (arith, lt))
none_at (suc n) [] i o e lt is = absurd cc
none_at (suc n) (p ∷ V) zero o e lt is = cc
none_at (suc n) (p ∷ V) (suc i) o e lt is = let rest : take n V ≡ replicate n None = cc in none_at n V i o rest (omega (arith, lt)) is

-- ---- the prelude

-- whether a declaration is a macro
abbrev pub is_macro : Declaration → Bool
is_macro (val x e) = false
is_macro (mac f p body) = true
is_macro (read x r e) = false
is_macro (bare e) = false

-- each declaration is a macro
abbrev EachMacro : List Declaration → Type 0
EachMacro [] = Unit {0}
EachMacro (d ∷ ds) = (is_macro d ≡ true) × EachMacro ds

-- so is the one at a place
macro_in : (ds : List Declaration) (k : ℕ) (d : Declaration) → EachMacro ds → slice_get ds k ≡ Some d → is_macro d ≡ true
macro_in [] k d h e = absurd cc
macro_in (x ∷ ds) zero d h e = let same : x ≡ d = cc in subst (λ z. is_macro z ≡ true) same h.0
macro_in (x ∷ ds) (suc k) d h e = macro_in ds k d h.1 e

-- each declaration of the prelude is a macro
each_macro : EachMacro prelude_decls
each_macro = (refl, (refl, (refl, (refl, (refl, (refl, (refl, (refl, (refl, (refl, (refl, (refl, (refl, (refl, (refl, (refl, (refl, (refl, (refl, (refl, (refl, (refl, (refl, (refl, tt))))))))))))))))))))))))

-- each position of the prelude is a macro
pub macro_at : (ds : List Declaration) (k : ℕ) (d : Declaration) → k < prelude_count → slice_get (positions ds) k ≡ Some d → is_macro d ≡ true
macro_at ds k d lt e =
    macro_in prelude_decls k d each_macro
    (sym (slice_get-append_left prelude_decls ds k lt) ∙ (ap (λ (l : List Declaration). slice_get l k) (sym (positions_are ds)) ∙ e))

-- a macro has no value, over any files
macro_outcome : (r : ReaderMeaning) (d : Declaration) (globals : Globals) → is_macro d ≡ true → outcome_after r d globals ≡ Some None
macro_outcome r (val x e) globals m = absurd cc
macro_outcome r (mac f p body) globals m = refl
macro_outcome r (read x reader e) globals m = absurd cc
macro_outcome r (bare e) globals m = absurd cc

-- ---- the answers

-- the outcome of an answered declaration, counted from 0
pub told_at : (ds : List Declaration) (sorts : List Sort) (settings : Settings) (holds : Option Content) (answers : List Answer) (V : Outcomes) (i : ℕ) (d : Declaration) (o : Option Datum) →
    AreAnswered ds sorts settings holds answers V → slice_get (positions ds) (prelude_count + i) ≡ Some d → slice_get V (prelude_count + i) ≡ Some o →
    IsOutcome d (earlier_of (positions ds) (take (prelude_count + i) V)) holds o
    × ForSome holds (λ files. outcome_after (reading files) d (globals_of (earlier_of (positions ds) (take (prelude_count + i) V))) ≡ Some o)
told_at ds sorts settings holds answers V i d o h there is =
    let lt = slice_get_within V (prelude_count + i) o is in
    let many = h.many in
    let (a, e) = entry-there answers i (omega (arith, lt, many)) in
    ((h.each i d a o there e is).outcome, (h.each i d a o there e is).told)

-- outcomes each of which comes after those before it are the first of the list
front_of : (r : ReaderMeaning) (ds : List Declaration) (V : Outcomes) (earlier : Earlier) → length V ≤ length ds →
    ((i : ℕ) (d : Declaration) (o : Option Datum) → slice_get ds i ≡ Some d → slice_get V i ≡ Some o → outcome_after r d (globals_of (onto ds (take i V) earlier)) ≡ Some o) →
    take (length V) (outcomes_after r earlier ds) ≡ V
front_of r ds [] earlier few each = refl
front_of r [] (o ∷ V) earlier few each = absurd (omega (arith, few))
front_of r (d ∷ ds) (o ∷ V) earlier few each =
    ap (λ x. take (suc (length V)) (then_after x (λ p. outcomes_after r ((d, p) ∷ earlier) ds))) (each 0 d o refl refl)
    ∙ ap (λ l. o ∷ l) (front_of r ds V ((d, o) ∷ earlier) (omega (arith, few)) (λ i e p there is. each (suc i) e p there is))

-- the outcomes over files that are told
values_over : (ds : List Declaration) (sorts : List Sort) (settings : Settings) (holds : Option Content) (answers : List Answer) (V : Outcomes) (files : Content) → holds ≡ Some files →
    AreAnswered ds sorts settings holds answers V → take (length V) (values (reading files) (positions ds)) ≡ V
values_over ds sorts settings holds answers V files told h =
    let few = h.few in
    let many = h.many in
    front_of (reading files) (positions ds) V [] (omega (arith, few, many, length_positions ds)) (λ i d o there is. at i d o there is (cases_lt i prelude_count))
  where
    Told : (i : ℕ) (d : Declaration) (o : Option Datum) → Type 0
    Told i d o = outcome_after (reading files) d (globals_of (earlier_of (positions ds) (take i V))) ≡ Some o

    behind : (i : ℕ) (d : Declaration) (o : Option Datum) → slice_get (positions ds) (prelude_count + i) ≡ Some d → slice_get V (prelude_count + i) ≡ Some o → Told (prelude_count + i) d o
    behind i d o there is = (told_at ds sorts settings holds answers V i d o h there is).1 files told

    at : (i : ℕ) (d : Declaration) (o : Option Datum) → slice_get (positions ds) i ≡ Some d → slice_get V i ≡ Some o → (i < prelude_count) ⊎ (prelude_count ≤ i) → Told i d o
    at i d o there is (inl lt) =
        macro_outcome (reading files) d (globals_of (earlier_of (positions ds) (take i V))) (macro_at ds i d lt there)
        ∙ ap (λ (x : Option Datum). Some x) (sym (none_at prelude_count V i o h.prelude lt is))
    at i d o there is (inr le) =
        let same : i ≡ prelude_count + (i - prelude_count) = omega (arith, le) in
        subst (λ k. Told k d o) (sym same) (behind (i - prelude_count) d o (ap (slice_get (positions ds)) (sym same) ∙ there) (ap (slice_get V) (sym same) ∙ is))

-- where the files are told, the outcomes are those of the script over them, as far as the answers go
pub are_values : (ds : List Declaration) (sorts : List Sort) (settings : Settings) (holds : Option Content) (answers : List Answer) (V : Outcomes) →
    AreAnswered ds sorts settings holds answers V → ForSome holds (λ files. take (length V) (values (reading files) (positions ds)) ≡ V)
are_values ds sorts settings holds answers V h = λ files told. values_over ds sorts settings holds answers V files told h
