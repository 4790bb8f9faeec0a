-- What is kept beside the report of a run.
use Rattle.std.proofs.Common.{◌≡◌, ◌⊎◌, inl, inr, ℕ, List, sym, ap, subst}
use Rattle.std.specs.Prelude.{Option, Some, None, Ok, Err}
use Rattle.aql_options.specs.declared.words.Options.{Options}
use Rattle.aql_script.specs.declared.fault.ScriptFault.{ScriptFault}
use Rattle.aql_session.specs.Device.{Device}
use Rattle.aql_session.specs.declared.answer.StepFault.{StepFault}
use Rattle.aql_session.specs.declared.answer.StepFault.TheVariants as faults
use Rattle.aql_run.specs.Codes.{code_of}
use Rattle.aql_run.specs.Laws.Codes.{status_is}
use Rattle.aql_run.specs.Ending.{Readies, ReadsOptions, Refused, Stopped, stop_status}
use Rattle.aql_run.specs.Keeping.{HasScript, IsOfScript, IsRead, IsRefused, Keeps, ReadsScript}
use Rattle.aql_run.specs.declared.report.End.{End}
use Rattle.aql_run.specs.declared.status.Status.{Status}
use Rattle.aql_run.specs.declared.status.Status.TheVariants as status

-- the fault of a declaration is none of the script
step_later : (f : StepFault) → IsOfScript (stop_status f) → ⊥
step_later (faults.Query start plan trace moved) h = h
step_later (faults.Cells cells) h = h
step_later (faults.File f) h = h
step_later (faults.Csv f) h = h
step_later faults.Device h = h
step_later faults.Memory h = h

pub stopped_later : (n : ℕ) (f : StepFault) (sink : Device (Option (List ℕ))) (e : End) → Stopped n f sink e → IsOfScript e.status → ⊥
unfolding Stopped
stopped_later n f sink e (written, appended, inl (is, _, _)) h = step_later f (subst IsOfScript is h)
stopped_later n f sink e (written, appended, inr (inl (is, _, _))) h = subst IsOfScript is h
stopped_later n f sink e (written, appended, inr (inr (is, _, _))) h = subst IsOfScript is h

-- there is no fault of the script
pub no_refusal : (script : List ℕ) (sink : Device (Option (List ℕ))) (s : Status) (found : Option ScriptFault) → found ≡ None → (IsOfScript s → ⊥) → IsRefused script sink s found
unfolding IsRefused
no_refusal script sink s found none h = subst (IsRefused script sink s) (sym none) h

-- there is one
pub refusal : (script : List ℕ) (sink : Device (Option (List ℕ))) (s : Status) (f : ScriptFault) → Readies script (Err f) → Refused f sink s → IsRefused script sink s (Some f)
unfolding IsRefused
refusal script sink s f first ends = (first, ends)

-- a status that is one of two has no script, and is of none, where these two have and are none
pub neither : (P : Status → Type 0) (s a b : Status) → (P a → ⊥) → (P b → ⊥) → (s ≡ a) ⊎ (s ≡ b) → P s → ⊥
neither P s a b not_a not_b (inl is) h = not_a (subst P is h)
neither P s a b not_a not_b (inr is) h = not_b (subst P is h)

-- the script that the options ask for is the one that the words ask for
pub words_read : (words : List (List ℕ)) (o : Options) (source : Device (Option (List ℕ))) (script : List ℕ) → ReadsOptions words (Ok o) → IsRead o.sample source script → ReadsScript words source script
unfolding ReadsOptions ReadsScript
words_read words o source script ((reads, is), _) h = subst (λ (x : Options). IsRead x.sample source script) is h

-- what is kept beside the status and beside its number
pub keeps : (words : List (List ℕ)) (source sink : Device (Option (List ℕ))) (number : ℕ) (s : Status) (script : List ℕ) (found : Option ScriptFault) → number ≡ code_of s →
    (HasScript s → ReadsScript words source script) → IsRefused script sink s found → Keeps words source sink number script found
keeps words source sink number s script found is reads refused = record {
  script = λ t at h. reads (subst HasScript (status_is t s number at is) h);
  fault = λ t at. subst (λ (x : Status). IsRefused script sink x found) (status_is s t number is at) refused;
}
