-- Every move keeps meaning and types, and so does a chain of moves.
use Rattle.std.proofs.Common.{◌≡◌, ℕ, zero, suc, true, List, [], ◌∷◌, Some, refl, sym, ap, subst, ◌∙◌}
use Rattle.aql_value.specs.Datum.{Datum}
use Rattle.aql_value.specs.Lists.{Every}
use Rattle.aql_value.specs.Laws.Lists.{Every-join}
use Rattle.aql_value.specs.Operations.{as_set, as_truth}
use Rattle.aql_value.specs.Partial.{◌>>=◌}
use Rattle.aql_ty.specs.Types as types
use Rattle.aql_ty.specs.Types.{Ty}
use Rattle.aql_ty.specs.ValueTypes.{HaveTypes}
use Rattle.aql_value.specs.Laws.Datum.{list_of-data_of}
use Rattle.nrca_term.specs.Term.{Term, Form, form_of, parts_of, child_of, binders_of, form_binders}
use Rattle.nrca_term.specs.Nodes.{let_term, loop_term}
use Rattle.nrca_term.specs.Meaning.{Outcomes, cden}
use Rattle.nrca_term.specs.Places.{reach}
use Rattle.nrca_term.specs.Laws.Placing.{cden-put_at}
use Rattle.nrca_term.specs.Rules.{IsDefined, LoopOf}
use Rattle.nrca_term.specs.Laws.Sound.{sound}
use Rattle.nrca_term.specs.Subst.{is_strict}
use Rattle.nrca_term.specs.Laws.TypedForm.{well_formed-typed}
use Rattle.nrca_term.specs.Laws.WellFormed.{binders-well_formed}
use Rattle.nrca_term.specs.Term.{none, part}
use Rattle.nrca_term.specs.Typing.{parts_typed}
use Rattle.nrca_term.specs.Typing.{ctyped, OutcomesHave}
use Rattle.nrca_term.specs.TypedPlaces.{Keeps}
use Rattle.nrca_term.specs.Laws.TypedPlaces.{typed-place, keeps-put_at}
use Rattle.nrca_motion.specs.declared.moves.MoveRule.{MoveRule}
use Rattle.nrca_motion.specs.declared.moves.MoveRule.TheVariants.{M1, M2, M3, M4}
use Rattle.nrca_motion.specs.declared.moves.Move as code
use Rattle.nrca_motion.specs.Moves.{MoveRedex, MoveStep, MoveChain}
use Rattle.nrca_motion.specs.Laws.LetMoves.{let_below-keeps, strict_let-keeps}
use Rattle.nrca_motion.specs.Laws.TestMoves.{test-keeps}
use Rattle.nrca_motion.specs.Laws.LetTypes.{let_below-typed, strict_let-typed}
use Rattle.nrca_motion.specs.Laws.TestTypes.{if-parts, two-parts, test_out-typed}

-- no form but a let binds variables in a strict part
strict-binders : (f : Form) (i : ℕ) → (f ≡ Form.bind → ⊥) → is_strict f i ≡ true → form_binders f i ≡ 0
strict-binders (Form.var n) i b s = refl
strict-binders (Form.global n) i b s = refl
strict-binders Form.bind i b s = absurd (b refl)
strict-binders Form.choose i b s = refl
strict-binders Form.default i b s = refl
strict-binders Form.big_union zero b s = refl
strict-binders Form.big_union (suc i) b s = cc
strict-binders Form.sum zero b s = refl
strict-binders Form.sum (suc i) b s = cc
strict-binders (Form.tab rank) i b s = rw s refl
strict-binders (Form.strict c) i b s = refl

-- a strict part has no variables of its own
strict-bare : (G : ℕ → Ty → Type 0) (env : List Ty) (l : Term) (T : Ty) (i : ℕ) (u : Term) → ctyped G env l T → (form_of l ≡ Form.bind → ⊥) → is_strict (form_of l) i ≡ true → child_of (parts_of l) i ≡ Some u → binders_of (parts_of l) i ≡ 0
strict-bare G env l T i u c b s e = binders-well_formed l i u (well_formed-typed G env l T c) e ∙ strict-binders (form_of l) i b s

-- every move keeps every type, whether its terms are defined or not
pub moved-typed : (G : ℕ → Ty → Type 0) (R : MoveRule) (l r : Term) (needs : List Term) → MoveRedex R l r needs → Keeps G l r
moved-typed G M1 l r needs m env T c = subst (λ x. ctyped G env x T) (sym m.7) (test_out-typed G env m.0 m.2 m.3 m.4 m.1 T m.5 (subst (λ x. ctyped G env x T) m.6 c))
moved-typed G M2 l r needs m env T c = subst (λ x. ctyped G env x T) (sym m.5) (let_below-typed G env l m.0 m.1 m.2 T c m.4)
moved-typed G M3 l r needs m env T c = subst (λ x. ctyped G env x T) (sym m.5) (let_below-typed G env l m.0 m.1 m.2 T c m.4)
moved-typed G M4 l r needs m env T c = subst (λ x. ctyped G env x T) (sym m.6) (strict_let-typed G env l m.0 m.1 m.2 T c m.5 (strict-bare G env l T m.0 (let_term m.1 m.2) c m.3 m.4 m.5))

-- a loop's operand is a set
pub loop-operand : (G : ℕ → Ty → Type 0) (env : List Ty) (f : Form) (z e b : Term) (T : Ty) → LoopOf f z → ctyped G env (loop_term f e b) T → (A : Ty) × ctyped G env e (types.set_of A)
loop-operand G env Form.big_union z e b T l d =
    (d.2.0, (two-parts G env e b (types.set_of d.2.0) d.2.0 (types.set_of d.2.1) (subst (parts_typed G env (part 0 e (part 1 b none))) d.2.2 d.3)).0)
loop-operand G env Form.sum z e b T l d =
    (d.2.0, (two-parts G env e b (types.set_of d.2.0) d.2.0 types.natural (subst (parts_typed G env (part 0 e (part 1 b none))) d.2.1 d.3)).0)
loop-operand G env (Form.var i) z e b T l d = absurd l
loop-operand G env (Form.global n) z e b T l d = absurd l
loop-operand G env Form.bind z e b T l d = absurd l
loop-operand G env Form.choose z e b T l d = absurd l
loop-operand G env Form.default z e b T l d = absurd l
loop-operand G env (Form.tab rank) z e b T l d = absurd l
loop-operand G env (Form.strict s) z e b T l d = absurd l

-- every move keeps the value at values of the types around, where its terms are defined
pub moved-keeps : (G : ℕ → Ty → Type 0) (V : Outcomes) (env : List Ty) (vals : List Datum) → OutcomesHave G V → HaveTypes env vals → (R : MoveRule) (l r : Term) (needs : List Term) (T : Ty) → ctyped G env l T →
    MoveRedex R l r needs → Every (IsDefined V vals) needs → cden V vals l ≡ cden V vals r
moved-keeps G V env vals g h M1 l r needs T c m d =
    let k = subst (Every (IsDefined V vals)) m.8 d in
    let t = subst (λ x. ctyped G env x T) m.7 (moved-typed G M1 l r needs m env T c) in
    let i = if-parts G env m.3 (loop_term m.0 m.2 m.4) m.1 T t in
    let o = loop-operand G env m.0 m.1 m.2 m.4 T m.5 i.2 in
    let s = sound G V g m.2 env vals (types.set_of o.0) k.0.0 h o.1 k.0.1 in
    let b = sound G V g m.3 env vals types.truth k.1.0.0 h i.1 k.1.0.1 in
    ap (cden V vals) m.6
    ∙ test-keeps V vals m.0 m.2 m.3 m.4 m.1 s.0 b.0 m.5
    (ap (λ x. x >>= as_set) k.0.1 ∙ ap as_set s.1 ∙ ap Some (list_of-data_of s.0))
    (ap (λ x. x >>= as_truth) k.1.0.1 ∙ ap as_truth b.1)
    ∙ sym (ap (cden V vals) m.7)
moved-keeps G V env vals g h M2 l r needs T c m d = let_below-keeps V vals l m.0 m.1 m.2 m.4 (subst (Every (IsDefined V vals)) m.6 d).0 ∙ sym (ap (cden V vals) m.5)
moved-keeps G V env vals g h M3 l r needs T c m d = let_below-keeps V vals l m.0 m.1 m.2 m.4 (subst (Every (IsDefined V vals)) m.6 d).0 ∙ sym (ap (cden V vals) m.5)
moved-keeps G V env vals g h M4 l r needs T c m d =
    strict_let-keeps V vals l m.0 m.1 m.2 m.4 m.5 (strict-bare G env l T m.0 (let_term m.1 m.2) c m.3 m.4 m.5) ∙ sym (ap (cden V vals) m.6)

-- one move of a closed typed term keeps its value
pub step-keeps : (G : ℕ → Ty → Type 0) (V : Outcomes) → OutcomesHave G V → (R : MoveRule) (path : List ℕ) (t u : Term) (T : Ty) → ctyped G [] t T → MoveStep V R path t u → cden V [] t ≡ cden V [] u
step-keeps G V g R path t u T c s =
    let p = typed-place G path [] t s.from T c s.found in
    cden-put_at V path [] t s.from s.to s.found
    (Every-join (HaveTypes p.around) (λ vals. Every (IsDefined V vals) s.needs) (λ vals. cden V vals s.from ≡ cden V vals s.to)
    (λ vals h d. moved-keeps G V p.around vals g h R s.from s.to s.needs p.type p.typed s.moved d) (reach V [] t path) (p.values V [] g tt) s.defined)
    ∙ ap (cden V []) (sym s.put)

-- and its types
pub step-typed : (G : ℕ → Ty → Type 0) (V : Outcomes) (R : MoveRule) (path : List ℕ) (t u : Term) → MoveStep V R path t u → (T : Ty) → ctyped G [] t T → ctyped G [] u T
step-typed G V R path t u s T c = subst (λ x. ctyped G [] x T) (sym s.put) (keeps-put_at G path t s.from s.to s.found (moved-typed G R s.from s.to s.needs s.moved) [] T c)

-- a chain of moves keeps the types
pub chain-typed : (G : ℕ → Ty → Type 0) (V : Outcomes) (moves : List code.Move) (t u : Term) → MoveChain V moves t u → (T : Ty) → ctyped G [] t T → ctyped G [] u T
chain-typed G V [] t u h T c = subst (λ x. ctyped G [] x T) h c
chain-typed G V (s ∷ moves) t u h T c = chain-typed G V moves h.0 u h.2 T (step-typed G V s.rule s.path t h.0 h.1 T c)

-- a chain of moves keeps the value too
pub chain-keeps : (G : ℕ → Ty → Type 0) (V : Outcomes) → OutcomesHave G V → (moves : List code.Move) (t u : Term) (T : Ty) → ctyped G [] t T → MoveChain V moves t u → (cden V [] t ≡ cden V [] u) × ctyped G [] u T
chain-keeps G V g [] t u T c h = (ap (cden V []) h, subst (λ x. ctyped G [] x T) h c)
chain-keeps G V g (s ∷ moves) t u T c h =
    let k = chain-keeps G V g moves h.0 u T (step-typed G V s.rule s.path t h.0 h.1 T c) h.2 in
    (step-keeps G V g s.rule s.path t h.0 T c h.1 ∙ k.0, k.1)
