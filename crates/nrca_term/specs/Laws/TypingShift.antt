-- Shifting keeps every type when types are put in.
use Rattle.std.proofs.Common.{◌≡◌, ℕ, ◌+◌, List, ◌++◌, length, sym, ◌∙◌, subst, append_assoc, arith}
use Rattle.std.proofs.lemmas.List.{length-append}
use Rattle.aql_ty.specs.Types.{Ty}
use Rattle.nrca_term.specs.Term.{Term, Parts, node, none, part, Form}
use Rattle.nrca_term.specs.Typing.{Arg, form_rule, ctyped, parts_typed}
use Rattle.nrca_term.specs.Subst.{shift_form, shift_term, shift_parts}
use Rattle.nrca_term.specs.Laws.Shifting.{slice_get-shift}

form_rule-shift : (G : ℕ → Ty → Type 0) (pre new post : List Ty) (f : Form) (args : List Arg) (T : Ty) →
    form_rule G (pre ++ post) f args T → form_rule G (pre ++ (new ++ post)) (shift_form (length pre) (length new) f) args T
form_rule-shift G pre new post (Form.var i) args T h = (h.0, slice_get-shift pre new post i ∙ h.1)
form_rule-shift G pre new post (Form.global n) args T h = h
form_rule-shift G pre new post Form.bind args T h = h
form_rule-shift G pre new post Form.choose args T h = h
form_rule-shift G pre new post Form.default args T h = h
form_rule-shift G pre new post Form.big_union args T h = h
form_rule-shift G pre new post Form.sum args T h = h
form_rule-shift G pre new post (Form.tab rank) args T h = h
form_rule-shift G pre new post (Form.strict s) args T h = h

-- types behind others, for a part with variables of its own
pub under_types : (own pre : List Ty) (k : ℕ) → length own ≡ k → length (own ++ pre) ≡ length pre + k
under_types own pre k e = omega (arith, length-append own pre)

mutual
  pub ctyped-shift_term : (G : ℕ → Ty → Type 0) (pre new post : List Ty) (t : Term) (T : Ty) →
      ctyped G (pre ++ post) t T → ctyped G (pre ++ (new ++ post)) (shift_term (length pre) (length new) t) T
  ctyped-shift_term G pre new post (node f ps) T h =
      (h.0, h.1, form_rule-shift G pre new post f h.1 T h.2, parts_typed-shift_parts G pre new post ps h.1 h.3)

  parts_typed-shift_parts : (G : ℕ → Ty → Type 0) (pre new post : List Ty) (ps : Parts) (args : List Arg) →
      parts_typed G (pre ++ post) ps args → parts_typed G (pre ++ (new ++ post)) (shift_parts (length pre) (length new) ps) args
  parts_typed-shift_parts G pre new post none args h = h
  parts_typed-shift_parts G pre new post (part k t ps) args h = (
    h.0,
    h.1,
    h.2,
    h.3,
    subst (λ n. ctyped G (h.0.own ++ (pre ++ (new ++ post))) (shift_term n (length new) t) h.0.has) (under_types h.0.own pre k h.3)
        (subst (λ env. ctyped G env (shift_term (length (h.0.own ++ pre)) (length new) t) h.0.has) (append_assoc h.0.own pre (new ++ post))
        (ctyped-shift_term G (h.0.own ++ pre) new post t h.0.has
        (subst (λ env. ctyped G env t h.0.has) (sym (append_assoc h.0.own pre post)) h.4))),
    parts_typed-shift_parts G pre new post ps h.1 h.5,
  )
