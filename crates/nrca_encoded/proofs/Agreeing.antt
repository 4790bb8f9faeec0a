-- A term has the same value and the same turns over outcomes that agree at each position that it uses.
use Rattle.std.proofs.Common.{◌≡◌, ℕ, suc, ◌+◌, ◌<◌, List, [], ◌∷◌, ◌++◌, Option, Some, refl, sym, ap, ◌∙◌, arith}
use Rattle.std.proofs.Math.Path.{fun_ext}
use Rattle.aql_value.specs.Datum.{Datum}
use Rattle.aql_value.specs.Partial.{total}
use Rattle.nrca_term.specs.Laws.Shifting.{at_length-ext}
use Rattle.nrca_term.specs.Meaning.{Outcomes, Part, outcome, form_value, at_length, cden, part_values}
use Rattle.nrca_term.specs.Places.{entry_values}
use Rattle.nrca_term.specs.Term.{Term, Parts, node, none, part, Form, child_of}
use Rattle.nrca_term.specs.Turns.{own_turns, settle, parts_settle}
use Rattle.nrca_encoded.specs.Positions.{IfPosition, EachPosition, EachPositionIn}

-- at this position both have the same outcome
abbrev pub Same : (V W : Outcomes) → ℕ → Type 0
Same V W n = outcome V n ≡ outcome W n

form_value-agrees : (V W : Outcomes) (vals : List Datum) (f : Form) (ps : List Part) → IfPosition (Same V W) f → form_value V vals f ps ≡ form_value W vals f ps
form_value-agrees V W vals (Form.var i) ps h = refl
form_value-agrees V W vals (Form.global n) ps h = h
form_value-agrees V W vals Form.bind ps h = refl
form_value-agrees V W vals Form.choose ps h = refl
form_value-agrees V W vals Form.default ps h = refl
form_value-agrees V W vals Form.big_union ps h = refl
form_value-agrees V W vals Form.sum ps h = refl
form_value-agrees V W vals (Form.tab rank) ps h = refl
form_value-agrees V W vals (Form.strict s) ps h = refl

mutual
  pub cden-agrees : (V W : Outcomes) (vals : List Datum) (t : Term) → EachPosition (Same V W) t → cden V vals t ≡ cden W vals t
  cden-agrees V W vals (node f ps) h =
      ap (form_value V vals f) (part_values-agrees V W vals ps h.1) ∙ form_value-agrees V W vals f (part_values W vals ps) h.0

  part_values-agrees : (V W : Outcomes) (vals : List Datum) (ps : Parts) → EachPositionIn (Same V W) ps → part_values V vals ps ≡ part_values W vals ps
  part_values-agrees V W vals none h = refl
  part_values-agrees V W vals (part k t ps) h =
      ap (λ p. p ∷ part_values V vals ps) (at_length-ext k _ _ (λ vs e. cden-agrees V W (vs ++ vals) t h.0))
      ∙ ap (λ l. at_length k (λ new. cden W (new ++ vals) t) ∷ l) (part_values-agrees V W vals ps h.1)

mutual
  pub settle-agrees : (V W : Outcomes) (vals : List Datum) (t : Term) → EachPosition (Same V W) t → settle V vals t ≡ settle W vals t
  settle-agrees V W vals (node f ps) h =
      ap (λ w. own_turns f w + parts_settle V vals f w 0 ps) (part_values-agrees V W vals ps h.1)
      ∙ ap (λ n. own_turns f (part_values W vals ps) + n) (parts_settle-agrees V W vals f (part_values W vals ps) 0 ps h.1)

  parts_settle-agrees : (V W : Outcomes) (vals : List Datum) (f : Form) (worths : List Part) (i : ℕ) (ps : Parts) → EachPositionIn (Same V W) ps →
      parts_settle V vals f worths i ps ≡ parts_settle W vals f worths i ps
  parts_settle-agrees V W vals f worths i none h = refl
  parts_settle-agrees V W vals f worths i (part k t ps) h =
      ap (λ (g : List Datum → ℕ). total g (entry_values f worths i) + parts_settle V vals f worths (suc i) ps) (fun_ext (λ new. settle-agrees V W (new ++ vals) t h.0))
      ∙ ap (λ n. total (λ new. settle W (new ++ vals) t) (entry_values f worths i) + n) (parts_settle-agrees V W vals f worths (suc i) ps h.1)

if-weaker : (P Q : ℕ → Type 0) → ((n : ℕ) → P n → Q n) → (f : Form) → IfPosition P f → IfPosition Q f
if-weaker P Q w (Form.var i) h = tt
if-weaker P Q w (Form.global n) h = w n h
if-weaker P Q w Form.bind h = tt
if-weaker P Q w Form.choose h = tt
if-weaker P Q w Form.default h = tt
if-weaker P Q w Form.big_union h = tt
if-weaker P Q w Form.sum h = tt
if-weaker P Q w (Form.tab rank) h = tt
if-weaker P Q w (Form.strict s) h = tt

mutual
  -- what is weaker holds of each position too
  pub each-weaker : (P Q : ℕ → Type 0) → ((n : ℕ) → P n → Q n) → (t : Term) → EachPosition P t → EachPosition Q t
  each-weaker P Q w (node f ps) h = (if-weaker P Q w f h.0, parts-weaker P Q w ps h.1)

  parts-weaker : (P Q : ℕ → Type 0) → ((n : ℕ) → P n → Q n) → (ps : Parts) → EachPositionIn P ps → EachPositionIn Q ps
  parts-weaker P Q w none h = tt
  parts-weaker P Q w (part k t ps) h = (each-weaker P Q w t h.0, parts-weaker P Q w ps h.1)

-- each part that is there
pub each-part : (P : ℕ → Type 0) (ps : Parts) → ((j : ℕ) (u : Term) → child_of ps j ≡ Some u → EachPosition P u) → EachPositionIn P ps
each-part P none h = tt
each-part P (part k t ps) h = (h 0 t refl, each-part P ps (λ j u e. h (suc j) u e))
