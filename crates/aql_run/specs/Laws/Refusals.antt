-- A run that was refused for its script: any other over the same words and bytes ends with the same status and the same output, but for want
-- of memory and failures of devices.
use Rattle.std.proofs.Common.{ℕ, ◌≡◌, ◌≤◌, List, ◌++◌, length, refl, sym, ap, ◌∙◌, subst, arith}
use Rattle.std.specs.Prelude.{Option, Some, None}
use Rattle.aql_outside.specs.Causes.{Rose}
use Rattle.aql_session.specs.declared.answer.Answer.{Answer}
use Rattle.aql_options.specs.Settings.{Settings}
use Rattle.aql_script.specs.Causes.{Found, Sound, Text, Deep, Syntax, Type', Large, IsFound, OneCause}
use Rattle.aql_run.specs.Outcome.{Told, IsScript, HasRun, HasScriptFault, WritesAll}
use Rattle.aql_run.specs.Reading.{most_bytes}
use Rattle.aql_run.specs.Refusals.{script_of, IsRefusal, Says}
use Rattle.aql_run.specs.declared.report.Stop.{Stop}
use Rattle.aql_run.specs.declared.status.Status.{Status}
use Rattle.aql_run.specs.declared.status.Status.TheVariants as status

-- the script is fixed by the bytes taken
script_is : (sample : Option ℕ) (left : Option (List ℕ)) (taken script : List ℕ) → IsScript sample left taken script → script ≡ script_of sample taken
script_is None left taken script h = h.0
script_is (Some n) left taken script h = h.1

-- and these are within the limit
script_within : (sample : Option ℕ) (left : Option (List ℕ)) (taken script : List ℕ) → IsScript sample left taken script → length taken ≤ most_bytes
script_within None left taken script h = h.1.0
script_within (Some n) left taken script h = omega (arith, ap length h.0)

-- what a run that ended with a status and this output found of its script
pub record Finding (settings : Settings) (taken : List ℕ) (s : Status) (written : List ℕ) : Type 0 where
  pub found : Found
  pub is : IsFound (script_of settings.sample taken) found
  pub says : Says found s written

module _ (settings : Settings) (told : Told) (same : Type 0) (taken : List ℕ) (answers : List Answer) (stop : Stop) where
  -- the line is all that was written for a fault of the script
  fault_alone : {lines line fault written : List ℕ} {P : List ℕ → Type 0} → HasScriptFault settings told same taken answers stop lines line fault P →
      written ≡ lines ++ line → written ≡ fault
  fault_alone {line = line} (script, is, p, (none, stopped, before, alone, _)) w = w ∙ ap (λ (l : List ℕ). l ++ line) before ∙ alone

  -- its script
  fault_of : {lines line fault : List ℕ} {P : List ℕ → Type 0} → HasScriptFault settings told same taken answers stop lines line fault P →
      P (script_of settings.sample taken)
  fault_of {P = P} (script, is, p, _) = subst P (script_is settings.sample told.left taken script is) p

  -- a run of declarations has a sound script
  sound_run : {begun : ℕ} {lines : List ℕ} → HasRun settings told same begun taken answers lines → IsFound (script_of settings.sample taken) Sound
  sound_run run =
      subst (λ (script : List ℕ). IsFound script Sound) (script_is settings.sample told.left taken run.script run.is)
      (run.ds, run.reads, (run.sorts, run.typed), run.limits)

  -- what was found by a run that read its script
  pub finding : (s : Status) (written : List ℕ) → length taken ≤ most_bytes → (Rose told.input_before told.input_now → ⊥) →
      WritesAll s settings told same taken answers stop written → Finding settings taken s written
  finding status.Done written few calm (lines, line, (run, _, _, _), _) = record { found = Sound; is = sound_run run; says = λ h. h }
  finding status.Text written few calm (lines, line, (n, h), e) = record { found = Text n; is = fault_of h; says = (refl, fault_alone h e) }
  finding status.Deep written few calm (lines, line, (n, h), e) = record { found = Deep n; is = fault_of h; says = (refl, fault_alone h e) }
  finding status.Syntax written few calm (lines, line, (n, h), e) = record { found = Syntax n; is = fault_of h; says = (refl, fault_alone h e) }
  finding status.Type written few calm (lines, line, (n, h), e) = record { found = Type' n; is = fault_of h; says = (refl, fault_alone h e) }
  finding status.Large written few calm (lines, line, (n, h), e) = record { found = Large n; is = fault_of h; says = (refl, fault_alone h e) }
  finding status.Long written few calm (lines, line, (_, more, _), _) = absurd (omega (arith, few, more))
  finding status.Input written few calm (lines, line, (_, _, rose, _), _) = absurd (calm rose)
  finding status.File written few calm (lines, line, (f, of_file, run, _, _, _), _) = record { found = Sound; is = sound_run run; says = λ h. h }
  finding status.Spent written few calm (lines, line, (f, spent, run, _, _, _), _) = record { found = Sound; is = sound_run run; says = λ h. h }
  finding status.Files written few calm (lines, line, (run, _, _, _), _) = record { found = Sound; is = sound_run run; says = λ h. h }
  finding status.Usage written few calm (lines, line, never, _) = absurd never
  finding status.Memory written few calm (lines, line, never, _) = absurd never
  finding status.Output written few calm (lines, line, never, _) = absurd never

  -- a run that was refused for its script took no more than a script may have
  refused_within : (s : Status) (written : List ℕ) → IsRefusal s → WritesAll s settings told same taken answers stop written → length taken ≤ most_bytes
  refused_within status.Text written r (lines, line, (n, (script, is, _, _)), _) = script_within settings.sample told.left taken script is
  refused_within status.Deep written r (lines, line, (n, (script, is, _, _)), _) = script_within settings.sample told.left taken script is
  refused_within status.Syntax written r (lines, line, (n, (script, is, _, _)), _) = script_within settings.sample told.left taken script is
  refused_within status.Type written r (lines, line, (n, (script, is, _, _)), _) = script_within settings.sample told.left taken script is
  refused_within status.Large written r (lines, line, (n, (script, is, _, _)), _) = script_within settings.sample told.left taken script is
  refused_within status.Done written r w = absurd r
  refused_within status.Long written r w = absurd r
  refused_within status.Input written r w = absurd r
  refused_within status.File written r w = absurd r
  refused_within status.Spent written r w = absurd r
  refused_within status.Files written r w = absurd r
  refused_within status.Usage written r w = absurd r
  refused_within status.Memory written r w = absurd r
  refused_within status.Output written r w = absurd r

-- two runs that found the same say the same, where one was refused
says_alike : (f : Found) (s t : Status) (written other : List ℕ) → IsRefusal s → Says f s written → Says f t other → (s ≡ t) × (written ≡ other)
says_alike Sound s t written other r a b = absurd (a r)
says_alike (Text k) s t written other r a b = (a.0 ∙ sym b.0, a.1 ∙ sym b.1)
says_alike (Deep k) s t written other r a b = (a.0 ∙ sym b.0, a.1 ∙ sym b.1)
says_alike (Syntax n) s t written other r a b = (a.0 ∙ sym b.0, a.1 ∙ sym b.1)
says_alike (Type' n) s t written other r a b = (a.0 ∙ sym b.0, a.1 ∙ sym b.1)
says_alike (Large n) s t written other r a b = (a.0 ∙ sym b.0, a.1 ∙ sym b.1)

-- Of two runs with the same settings that took the same bytes, and in which the source did not fail, the first ended with a status of its
-- script's own fault: so the second, which ended with one that is no want of memory and no failure of the sink, ended with the same status and
-- the same output.
pub refused_alike : OneCause → (settings : Settings) (told told2 : Told) (same same2 : Type 0) (taken : List ℕ) (answers answers2 : List Answer) (stop stop2 : Stop)
    (s t : Status) (written other : List ℕ) → IsRefusal s → (Rose told.input_before told.input_now → ⊥) → (Rose told2.input_before told2.input_now → ⊥) →
    WritesAll s settings told same taken answers stop written → WritesAll t settings told2 same2 taken answers2 stop2 other → (s ≡ t) × (written ≡ other)
refused_alike one settings told told2 same same2 taken answers answers2 stop stop2 s t written other r calm calm2 a b =
    let few : length taken ≤ most_bytes = refused_within settings told same taken answers stop s written r a in
    let f : Finding settings taken s written = finding settings told same taken answers stop s written few calm a in
    let g : Finding settings taken t other = finding settings told2 same2 taken answers2 stop2 t other few calm2 b in
    let alike : g.found ≡ f.found = one (script_of settings.sample taken) g.found f.found g.is f.is in
    says_alike f.found s t written other r f.says (subst (λ (h : Found). Says h t other) alike g.says)
