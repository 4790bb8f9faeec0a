-- Shifting keeps the turns when values are put in.
use Rattle.std.proofs.Common.{◌≡◌, ℕ, suc, ◌+◌, ◌≤◌, List, ◌++◌, length, refl, sym, ap, ◌∙◌, arith, append_assoc}
use Rattle.aql_value.specs.Datum.{Datum}
use Rattle.aql_value.specs.Laws.Lists.{Every-impl}
use Rattle.aql_value.specs.Partial.{total}
use Rattle.aql_value.specs.Laws.Partial.{total-ext}
use Rattle.nrca_term.specs.Term.{Term, Parts, node, none, part, Form, count, form_binders, WellFormed, PartsWellFormed}
use Rattle.nrca_term.specs.Meaning.{Outcomes, Part, part_values}
use Rattle.nrca_term.specs.Places.{entry_values}
use Rattle.nrca_term.specs.Turns.{own_turns, settle, parts_settle}
use Rattle.nrca_term.specs.Subst.{shift_form, shift_term, shift_parts}
use Rattle.nrca_term.specs.Laws.Shifting.{part_values-shift_parts, under}
use Rattle.nrca_term.specs.Laws.Entering.{entered-lengths, length-part_values}

own_turns-shift : (from by : ℕ) (f : Form) (ps : List Part) → own_turns (shift_form from by f) ps ≡ own_turns f ps
own_turns-shift from by (Form.var i) ps = refl
own_turns-shift from by (Form.global n) ps = refl
own_turns-shift from by Form.bind ps = refl
own_turns-shift from by Form.choose ps = refl
own_turns-shift from by Form.default ps = refl
own_turns-shift from by Form.big_union ps = refl
own_turns-shift from by Form.sum ps = refl
own_turns-shift from by (Form.tab rank) ps = refl
own_turns-shift from by (Form.strict s) ps = refl

pub entered-shift : (from by : ℕ) (f : Form) (ps : List Part) (i : ℕ) → entry_values (shift_form from by f) ps i ≡ entry_values f ps i
entered-shift from by (Form.var n) ps i = refl
entered-shift from by (Form.global n) ps i = refl
entered-shift from by Form.bind ps i = refl
entered-shift from by Form.choose ps i = refl
entered-shift from by Form.default ps i = refl
entered-shift from by Form.big_union ps i = refl
entered-shift from by Form.sum ps i = refl
entered-shift from by (Form.tab rank) ps i = refl
entered-shift from by (Form.strict s) ps i = refl

mutual
  pub settle-shift_term : (V : Outcomes) (pre new post : List Datum) (t : Term) → WellFormed t →
      settle V (pre ++ (new ++ post)) (shift_term (length pre) (length new) t) ≡ settle V (pre ++ post) t
  settle-shift_term V pre new post (node f ps) h =
      ap (λ w. own_turns (shift_form (length pre) (length new) f) w + parts_settle V (pre ++ (new ++ post)) (shift_form (length pre) (length new) f) w 0 (shift_parts (length pre) (length new) ps))
      (part_values-shift_parts V pre new post ps)
      ∙ ap (λ n. n + parts_settle V (pre ++ (new ++ post)) (shift_form (length pre) (length new) f) (part_values V (pre ++ post) ps) 0 (shift_parts (length pre) (length new) ps))
      (own_turns-shift (length pre) (length new) f (part_values V (pre ++ post) ps))
      ∙ ap (λ n. own_turns f (part_values V (pre ++ post) ps) + n)
      (parts_settle-shift V pre new post f (part_values V (pre ++ post) ps) 0 ps h.1 (omega (arith, length-part_values V (pre ++ post) ps)))

  parts_settle-shift : (V : Outcomes) (pre new post : List Datum) (f : Form) (worths : List Part) (i : ℕ) (ps : Parts) → PartsWellFormed f i ps → i + count ps ≤ length worths →
      parts_settle V (pre ++ (new ++ post)) (shift_form (length pre) (length new) f) worths i (shift_parts (length pre) (length new) ps) ≡ parts_settle V (pre ++ post) f worths i ps
  parts_settle-shift V pre new post f worths i none h l = refl
  parts_settle-shift V pre new post f worths i (part k t ps) h l =
      ap (λ es. total (λ vs. settle V (vs ++ (pre ++ (new ++ post))) (shift_term (length pre + k) (length new) t)) es + parts_settle V (pre ++ (new ++ post)) (shift_form (length pre) (length new) f) worths (suc i) (shift_parts (length pre) (length new) ps))
      (entered-shift (length pre) (length new) f worths i)
      ∙ ap (λ n. n + parts_settle V (pre ++ (new ++ post)) (shift_form (length pre) (length new) f) worths (suc i) (shift_parts (length pre) (length new) ps))
      (total-ext _ _ (entry_values f worths i) (Every-impl (λ vs. length vs ≡ form_binders f i) (λ vs. settle V (vs ++ (pre ++ (new ++ post))) (shift_term (length pre + k) (length new) t) ≡ settle V (vs ++ (pre ++ post)) t) (λ vs e.
      ap (λ n. settle V (vs ++ (pre ++ (new ++ post))) (shift_term n (length new) t)) (under vs pre k (e ∙ sym h.0))
      ∙ ap (λ x. settle V x (shift_term (length (vs ++ pre)) (length new) t)) (sym (append_assoc vs pre (new ++ post)))
      ∙ settle-shift_term V (vs ++ pre) new post t h.1
      ∙ ap (λ x. settle V x t) (append_assoc vs pre post)) (entry_values f worths i) (entered-lengths f worths i (omega (arith, l)))))
      ∙ ap (λ n. total (λ vs. settle V (vs ++ (pre ++ post)) t) (entry_values f worths i) + n) (parts_settle-shift V pre new post f worths (suc i) ps h.2 (omega (arith, l)))
