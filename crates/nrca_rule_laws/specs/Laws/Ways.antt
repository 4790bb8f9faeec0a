-- A rule's condition holds where the terms that must be defined are firm (`firm-side`).
use Rattle.std.proofs.Common.{◌≡◌, ℕ, Bool, true, is_some, List, [], Option, Some, None, refl, ap, subst}
use Rattle.std.proofs.Math.Path.{fun_ext}
use Rattle.aql_value.specs.Datum.{Datum}
use Rattle.aql_value.specs.Lists.{Every}
use Rattle.aql_value.specs.Laws.Lists.{Every-impl, Every-join}
use Rattle.aql_ty.specs.Types.{Ty}
use Rattle.aql_ty.specs.ValueTypes.{HaveTypes}
use Rattle.nrca_term.specs.Term.{Term}
use Rattle.nrca_term.specs.Meaning.{Outcomes, outcome}
use Rattle.nrca_term.specs.Places.{place_of, reach}
use Rattle.nrca_term.specs.Typing.{ctyped, OutcomesHave}
use Rattle.nrca_term.specs.Laws.TypedForm.{well_formed-typed}
use Rattle.nrca_term.specs.Laws.TypedPlaces.{typed-place}
use Rattle.nrca_term.specs.Facts.{Context, no_facts, facts_at, enter_facts, context_at, FactsHold}
use Rattle.nrca_term.specs.Laws.Contexts.{stands-from, stands}
use Rattle.nrca_term.specs.Firm.{firm, is_defined}
use Rattle.nrca_term.specs.Rules.{Way, IsDefined, DefinedAt}
use Rattle.nrca_term.specs.Normal.{FirmAt, NormalFrom, IsNormal}
use Rattle.nrca_rule_laws.specs.Operations.{Valued}
use Rattle.nrca_rule_laws.specs.Laws.Firms.{PositionsAre, firm-defined}

-- a term is firm by each test that answers alike
pub firm-ext : (D E : ℕ → Bool) → ((n : ℕ) → D n ≡ E n) → (c : Context) (t : Term) → firm D c t ≡ firm E c t
firm-ext D E h c t = ap (λ F. firm F c t) (fun_ext h)

-- a normal term is normal by each test that answers alike
pub normal-ext : (D E : ℕ → Bool) → ((n : ℕ) → D n ≡ E n) → (c : Context) (t : Term) → NormalFrom D c t → NormalFrom E c t
normal-ext D E h c t k = subst (λ F. NormalFrom F c t) (fun_ext h) k

-- normal in the outcomes, by a test that tells which of them are values
pub normal-in : (V : Outcomes) (D : ℕ → Bool) → ((n : ℕ) → D n ≡ is_defined V n) → (t : Term) → NormalFrom D no_facts t → IsNormal V t
normal-in V D h t k = normal-ext D (is_defined V) h no_facts t k

-- an outcome that is told to be a value is one
defined-some : (o : Option Datum) → is_some o ≡ true → Valued o
defined-some None e = cc
defined-some (Some v) e = (v, refl)

-- the test of the outcomes tells of values alone
pub outcomes-are : (V : Outcomes) → PositionsAre (is_defined V) V
outcomes-are V n e = defined-some (outcome V n) e

-- A term is defined at the end of a way where it is at each list of values that keeps what the way keeps.
pub kept-way : {C : Type 0} (V : Outcomes) (enter : C → Term → ℕ → C) (I : C → List Datum → Type 0) (c : C) (l : Term) (w : Way) (vals : List Datum) →
    Every (I (context_at enter c l w)) (reach V vals l w) → ((s : Term) → place_of l w ≡ Some s → (there : List Datum) → I (context_at enter c l w) there → IsDefined V there s) → DefinedAt V vals l w
kept-way V enter I c l w vals k h s e = Every-impl (I (context_at enter c l w)) (λ there. IsDefined V there s) (λ there i. h s e there i) (reach V vals l w) k

-- a term that is firm at the end of a way is defined there
pub firm-way : (G : ℕ → Ty → Type 0) (V : Outcomes) (D : ℕ → Bool) → OutcomesHave G V → PositionsAre D V → (c : Context) (l : Term) (env : List Ty) (vals : List Datum) (T : Ty) →
    HaveTypes env vals → FactsHold V c vals → ctyped G env l T → (w : Way) → FirmAt D c l w → DefinedAt V vals l w
firm-way G V D g d c l env vals T h st ty w f s e =
    let p = typed-place G w env l s T ty e in
    Every-join (HaveTypes p.around) (FactsHold V (context_at enter_facts c l w)) (λ there. IsDefined V there s)
    (λ there m k. firm-defined G V D g d s (context_at enter_facts c l w) p.around there p.type m k p.typed (f s e))
    (reach V vals l w) (p.values V vals g h) (stands-from V c vals l (well_formed-typed G env l T ty) st w)

-- the conditions of a rule whose ways lead to firm terms
pub firm-ways : (G : ℕ → Ty → Type 0) (V : Outcomes) (D : ℕ → Bool) → OutcomesHave G V → PositionsAre D V → (c : Context) (l : Term) (env : List Ty) (vals : List Datum) (T : Ty) →
    HaveTypes env vals → FactsHold V c vals → ctyped G env l T → (ws : List Way) → Every (FirmAt D c l) ws → Every (DefinedAt V vals l) ws
firm-ways G V D g d c l env vals T h st ty ws f = Every-impl (FirmAt D c l) (DefinedAt V vals l) (λ w k. firm-way G V D g d c l env vals T h st ty w k) ws f

-- at a place of a closed term, at each list of values with which an evaluation comes there
pub firm-side : (G : ℕ → Ty → Type 0) (V : Outcomes) → OutcomesHave G V → (t : Term) (T : Ty) → ctyped G [] t T → (path : List ℕ) (l : Term) → place_of t path ≡ Some l → (ws : List Way) →
    Every (FirmAt (is_defined V) (facts_at t path) l) ws → Every (λ vals. Every (DefinedAt V vals l) ws) (reach V [] t path)
firm-side G V g t T ty path l e ws f =
    let p = typed-place G path [] t l T ty e in
    Every-join (HaveTypes p.around) (FactsHold V (facts_at t path)) (λ vals. Every (DefinedAt V vals l) ws)
    (λ vals m k. firm-ways G V (is_defined V) g (outcomes-are V) (facts_at t path) l p.around vals p.type m k p.typed ws f)
    (reach V [] t path) (p.values V [] g tt) (stands V t (well_formed-typed G [] t T ty) path)
