-- Each typing of a declaration comes from a solution of what it asks.
use Rattle.std.proofs.Common.{ℕ, ◌≡◌, ◌<◌, true, List, [], ◌∷◌, Option, Some, None, refl, sym, ap, ◌∙◌, subst, option_map}
use Rattle.std.proofs.lemmas.Option.{same_Some}
use Rattle.aql_ty.specs.Types as types
use Rattle.aql_ty.specs.Types.{Ty, natural, Tys, type, Subst, apply, apply_all, IsWithin, Sort, value, macro, apply_sort}
use Rattle.aql_ty.specs.Laws.Types.{row_is, apply-apply, natural_within, truth_within, member_within, cell_within}
use Rattle.aql_syntax.specs.Tree.{Name, Pat, bind, any, equals, refers, tuple, Pats, no_pat, pat, Tree, name, op, members, comp, tab, bindings, choice, conjunction, disjunction, negation, default, function, summap, Trees, no_tree, tree, Axes, no_axis, axis, Quals, no_qual, from, cells, same, test, Defs, no_def, def, Reader, plain, signed, strided, records, Declaration, val, mac, read, bare, count_pats, count_axes, axes}
use Rattle.aql_syntax.specs.Tree as trees
use Rattle.aql_syntax.specs.Names.{find}
use Rattle.aql_syntax.specs.Typing.{Environment, Locals, NameHas, MacroTakes, PatternFits, FitsAll, FitsAxes, with_indices, Has, HasAll, HasEach, BoundsHave, Rows, Binds, reader_type, argument_type, DeclHas, local_instances}
use Rattle.aql_infer_steps.specs.Constraints.{NumberedScheme, NumberedSchemes, State, is_rank, make_value, make_global, make_name, make_macro, make_call, Matched, MatchedAll, make_pat, make_pats, make_match, matched_member, matched_index, matched_cell, make, make_all, make_each, make_bounds, make_rows, make_binds, reader_fits, make_decl}
use Rattle.aql_infer_steps.specs.Laws.Steps.{Agrees, later_later, Stays, on, Found, found_after, found_made, found_equate, found_within, found_guard, found_fresh, found_opened}
use Rattle.aql_infer_steps.specs.Describes.{SortHas, SortTakes, SchemeHas, SchemeTakes, IsClosedSort, SchemeClosed, Describes}
use Rattle.aql_syntax.specs.Written.{IsWritten, AreWritten, AxesWritten, QualsWritten, DefsWritten, DeclWritten}
use Rattle.aql_syntax.specs.Laws.Uses.{EachWithin, operands-within}
use Rattle.aql_syntax.specs.Laws.Names.{find-instances}
use Rattle.aql_syntax.specs.Laws.Sound.{value-is, argument-is, result-is}
use Rattle.aql_infer_steps.specs.Laws.Operations.{IsTy, IsEach, op_found, true_rank}
use Rattle.aql_infer_steps.specs.Laws.Sound.{constant_apply, indices_at, reader_apply, argument_apply}

abbrev pub AreLocals : Locals → Subst → Locals → Type 0
AreLocals env v a = local_instances v a ≡ env

abbrev Any : {A : Type 0} → Subst → A → Type 0
Any v a = Unit {0}

itself : (n : State) (u : Subst) → Agrees n u u
itself n u x lt = refl

not_some : {A : Type 0} (a : Ty) → Some a ≡ None → A
not_some a e = cc

conses : {a b : Ty} {p q : List Ty} → a ≡ b → p ≡ q → ◌≡◌ {A = List Ty} (a ∷ p) (b ∷ q)
conses e f = cc

sets : {a b : Ty} → a ≡ b → types.set_of a ≡ types.set_of b
sets e = ap types.set_of e

arrays : (k : ℕ) {a b : Ty} → a ≡ b → types.array_of k a ≡ types.array_of k b
arrays k e = ap (types.array_of k) e

entry : (x : Name) {a b : Ty} {p q : Locals} → a ≡ b → p ≡ q → ◌≡◌ {A = Locals} ((x, a) ∷ p) ((x, b) ∷ q)
entry x {a} {b} {p} {q} e f = ap head e ∙ ap (◌∷◌ (x, b)) f
  where
    head : Ty → Locals
    head z = (x, z) ∷ p

value_found : (s : Sort) (k : ℕ) → IsClosedSort k s → (t : Ty) → SortHas s t → {n : State} {u : Subst} → Found n u (IsTy t) (make_value s k n)
value_found (macro a b) k c t h = absurd h
value_found (value r) k c t h =
    found_after (found_opened h.1.0 k) (λ w n u l st.
    found_after (found_within (apply w r) (λ v g. subst IsWithin (sym (is w v (st.holds v g))) h.0)) (λ _ n u m _.
    found_made (λ v g. is w v ((on m st).holds v g))))
  where
    is : (w v : Subst) → ((i : ℕ) → i < k → apply v (w i) ≡ h.1.0 i) → apply v (apply w r) ≡ t
    is w v e = apply-apply v w r ∙ value-is _ _ (c (λ i. apply v (w i)) h.1.0 e) ∙ sym h.1.1

global_found : (o : Option NumberedScheme) → SchemeClosed o → (t : Ty) → SchemeHas o t → {n : State} {u : Subst} → Found n u (IsTy t) (make_global o n)
global_found None c t h = absurd h
global_found (Some s) c t h = value_found s.sort s.variables c t h

looked_up : (env env0 : Locals) (x : Name) {n : State} {u : Subst} → Stays n u (AreLocals env0) env →
    (v : Subst) → Agrees n u v → option_map (apply v) (find x env) ≡ find x env0
looked_up env env0 x st v g = sym (find-instances v x env) ∙ ap (find x) (st.holds v g)

name_found : (g : Environment) (ss : NumberedSchemes) → Describes g ss → (env env0 : Locals) (x : Name) (t : Ty) {n : State} {u : Subst} →
    Stays n u (AreLocals env0) env → NameHas g (find x env0) x t → Found n u (IsTy t) (make_name ss (find x env) x n)
name_found g ss d env env0 x t {n} {u} st h = go (find x env) (find x env0) (looked_up env env0 x st) h
  where
    go : (o z : Option Ty) → ((v : Subst) → Agrees n u v → option_map (apply v) o ≡ z) → NameHas g z x t → Found n u (IsTy t) (make_name ss o x n)
    go None z e h = global_found (find x ss) (d.closed x) t (d.had x t (subst (λ z. NameHas g z x t) (sym (e u (itself n u))) h))
    go (Some s) None e h = not_some (apply u s) (e u (itself n u))
    go (Some s) (Some r) e h = found_made (λ v a. same_Some _ _ (e v a) ∙ sym h)

macro_found : (r : Sort) (k : ℕ) → IsClosedSort k r → (s t : Ty) → SortTakes r s t → (a : Ty) → {n : State} {u : Subst} → Stays n u (IsTy s) a →
    Found n u (IsTy t) (make_macro r k a n)
macro_found (value r) k c s t h a st = absurd h
macro_found (macro p q) k c s t h a st =
    found_after (found_opened h.2.0 k) (λ w n u l o.
    found_after (found_within (apply w p) (λ v g. subst IsWithin (sym (from_p w v (o.holds v g))) h.0)) (λ _ n u m _.
    found_after (found_within (apply w q) (λ v g. subst IsWithin (sym (to_q w v ((on m o).holds v g))) h.1)) (λ _ n u m' _.
    found_after (found_equate a (apply w p) (λ v g.
    (on (later_later l (later_later m m')) st).holds v g ∙ sym (from_p w v ((on (later_later m m') o).holds v g)))
    (λ v g. subst IsWithin (sym (from_p w v ((on (later_later m m') o).holds v g))) h.0)) (λ _ n u m'' _.
    found_made (λ v g. to_q w v ((on (later_later m (later_later m' m'')) o).holds v g))))))
  where
    from_p : (w v : Subst) → ((i : ℕ) → i < k → apply v (w i) ≡ h.2.0 i) → apply v (apply w p) ≡ s
    from_p w v e = apply-apply v w p ∙ argument-is _ _ _ _ (c (λ i. apply v (w i)) h.2.0 e) ∙ sym h.2.1

    to_q : (w v : Subst) → ((i : ℕ) → i < k → apply v (w i) ≡ h.2.0 i) → apply v (apply w q) ≡ t
    to_q w v e = apply-apply v w q ∙ result-is _ _ _ _ (c (λ i. apply v (w i)) h.2.0 e) ∙ sym h.2.2

call_found : (g : Environment) (ss : NumberedSchemes) → Describes g ss → (env env0 : Locals) (f : Name) (s t : Ty) (a : Ty) {n : State} {u : Subst} →
    Stays n u (AreLocals env0) env → Stays n u (IsTy s) a → MacroTakes g (find f env0) f s t →
    Found n u (IsTy t) (make_call (find f env) (find f ss) a n)
call_found g ss d env env0 f s t a {n} {u} keeps st h = go (find f env) (find f env0) (looked_up env env0 f keeps) h
  where
    none : (r : Option NumberedScheme) → SchemeClosed r → SchemeTakes r s t → Found n u (IsTy t) (make_call None r a n)
    none None c h = absurd h
    none (Some r) c h = macro_found r.sort r.variables c s t h a st

    go : (o z : Option Ty) → ((v : Subst) → Agrees n u v → option_map (apply v) o ≡ z) → MacroTakes g z f s t →
        Found n u (IsTy t) (make_call o (find f ss) a n)
    go None z e h = none (find f ss) (d.closed f) (d.taken f s t (subst (λ z. MacroTakes g z f s t) (sym (e u (itself n u))) h))
    go (Some l) None e h = not_some (apply u l) (e u (itself n u))
    go (Some l) (Some r) e h = absurd h

-- Patterns.

abbrev pub IsMatched : Ty → Locals → Subst → Matched → Type 0
IsMatched t env v r = (apply v r.of ≡ t) × (local_instances v r.names ≡ env)

abbrev pub AreMatched : Tys → Locals → Subst → MatchedAll → Type 0
AreMatched ts env v r = (apply_all v r.of ≡ ts) × (local_instances v r.names ≡ env)

names_stay : {t : Ty} {env : Locals} {n : State} {u : Subst} {r : Matched} → Stays n u (IsMatched t env) r → Stays n u (AreLocals env) r.names
names_stay st = record { holds = λ v g. (st.holds v g).1 }

mutual
  pub pat_found : (p : Pat) (g : Environment) (ss : NumberedSchemes) → Describes g ss → (env env0 : Locals) (t : Ty) (inner : Locals) → {n : State} {u : Subst} →
      Stays n u (AreLocals env0) env → PatternFits p g env0 t inner → Found n u (IsMatched t inner) (make_pat p ss env n)
  pat_found (bind x) g ss d env env0 t inner keeps h =
      found_after (found_fresh t) (λ a n u l st. found_made (λ v g. (st.holds v g, entry x (st.holds v g) ((on l keeps).holds v g) ∙ sym h)))
  pat_found any g ss d env env0 t inner keeps h =
      found_after (found_fresh t) (λ a n u l st. found_made (λ v g. (st.holds v g, (on l keeps).holds v g ∙ sym h)))
  pat_found (equals c) g ss d env env0 t inner keeps h = found_made (λ v g. (constant_apply v c ∙ sym h.0, keeps.holds v g ∙ sym h.1))
  pat_found (refers x) g ss d env env0 t inner keeps h =
      found_after (name_found g ss d env env0 x t keeps h.0) (λ a n u l st.
      found_made (λ v g. (st.holds v g, (on l keeps).holds v g ∙ sym h.1)))
  pat_found (tuple ps) g ss d env env0 t inner keeps h =
      found_after (pats_found ps g ss d env env0 h.0 inner keeps h.2) (λ a n u l st.
      found_made (λ v g. (ap types.product (st.holds v g).0 ∙ sym h.1, (st.holds v g).1)))

  pub pats_found : (ps : Pats) (g : Environment) (ss : NumberedSchemes) → Describes g ss → (env env0 : Locals) (ts : Tys) (inner : Locals) → {n : State} {u : Subst} →
      Stays n u (AreLocals env0) env → FitsAll ps g env0 ts inner → Found n u (AreMatched ts inner) (make_pats ps ss env n)
  pats_found no_pat g ss d env env0 ts inner keeps h = found_made (λ v g. (sym h.0, keeps.holds v g ∙ sym h.1))
  pats_found (pat p ps) g ss d env env0 ts inner keeps h =
      found_after (pat_found p g ss d env env0 h.0 h.2 keeps h.4) (λ r n u l st.
      found_after (pats_found ps g ss d r.names h.2 h.1 inner (names_stay st) h.5) (λ q n u m su.
      found_made (λ v g. (row_is ((on m st).holds v g).0 (su.holds v g).0 ∙ sym h.3, (su.holds v g).1))))

matched_found : (p : Pat) (g : Environment) (ss : NumberedSchemes) → Describes g ss → (env env0 : Locals) (s : Ty) (inner : Locals) (t : Ty) → {n : State} {u : Subst} →
    Stays n u (AreLocals env0) env → Stays n u (IsTy s) t → IsWithin s → PatternFits p g env0 s inner → Found n u (AreLocals inner) (make_match p ss env t n)
matched_found p g ss d env env0 s inner t keeps st w h =
    found_after (pat_found p g ss d env env0 s inner keeps h) (λ r n u l sr.
    found_after (found_equate t r.of (λ v g. (on l st).holds v g ∙ sym ((sr.holds v g).0)) (λ v g. subst IsWithin (sym ((sr.holds v g).0)) w)) (λ _ n u m _.
    let sr' = on m sr in
    found_after (found_within r.of (λ v g. subst IsWithin (sym ((sr'.holds v g).0)) w)) (λ _ n u m' _.
    found_made (λ v g. ((on m' sr').holds v g).1))))

member_found : (p : Pat) (g : Environment) (ss : NumberedSchemes) → Describes g ss → (env env0 : Locals) (s : Ty) (inner : Locals) (t : Ty) → {n : State} {u : Subst} →
    Stays n u (AreLocals env0) env → Stays n u (IsTy (types.set_of s)) t → IsWithin (types.set_of s) → PatternFits p g env0 s inner →
    Found n u (AreLocals inner) (matched_member p ss env t n)
member_found p g ss d env env0 s inner t keeps st w h =
    found_after (pat_found p g ss d env env0 s inner keeps h) (λ r n u l sr.
    found_after (found_equate t (types.set_of r.of) (λ v g. (on l st).holds v g ∙ sym (sets (sr.holds v g).0))
    (λ v g. subst IsWithin (sym (sets (sr.holds v g).0)) w)) (λ _ n u m _.
    let sr' = on m sr in
    found_after (found_within (types.set_of r.of) (λ v g. subst IsWithin (sym (sets (sr'.holds v g).0)) w)) (λ _ n u m' _.
    found_made (λ v g. ((on m' sr').holds v g).1))))

cell_found : (q : Pat) (k : ℕ) (g : Environment) (ss : NumberedSchemes) → Describes g ss → (env env0 : Locals) (s : Ty) (inner : Locals) (t : Ty) → {n : State} {u : Subst} →
    Stays n u (AreLocals env0) env → Stays n u (IsTy (types.array_of k s)) t → IsWithin (types.array_of k s) → PatternFits q g env0 s inner →
    Found n u (AreLocals inner) (matched_cell q k ss env t n)
cell_found q k g ss d env env0 s inner t keeps st w h =
    found_after (pat_found q g ss d env env0 s inner keeps h) (λ r n u l sr.
    found_after (found_equate t (types.array_of k r.of) (λ v g. (on l st).holds v g ∙ sym (arrays k (sr.holds v g).0))
    (λ v g. subst IsWithin (sym (arrays k (sr.holds v g).0)) w)) (λ _ n u m _.
    let sr' = on m sr in
    found_after (found_within (types.array_of k r.of) (λ v g. subst IsWithin (sym (arrays k (sr'.holds v g).0)) w)) (λ _ n u m' _.
    found_made (λ v g. ((on m' sr').holds v g).1))))

axes_found : (ps : Pats) (g : Environment) (ss : NumberedSchemes) → Describes g ss → (env env0 inner : Locals) → {n : State} {u : Subst} →
    Stays n u (AreLocals env0) env → FitsAxes ps g env0 inner → Found n u (AreLocals inner) (matched_index ps ss env n)
axes_found no_pat g ss d env env0 inner keeps h = found_made (λ v a. keeps.holds v a ∙ sym h)
axes_found (pat p ps) g ss d env env0 inner keeps h =
    found_after (pat_found p g ss d env env0 natural h.0 keeps h.1) (λ r n u l sr.
    found_after (found_equate r.of natural (λ v g. (sr.holds v g).0) (λ v g. natural_within)) (λ _ n u m _.
    axes_found ps g ss d r.names h.0 inner (on m (names_stay sr)) h.2))

-- the argument's type is within the limits
takes_within : (r : Option NumberedScheme) (s t : Ty) → SchemeTakes r s t → IsWithin s
takes_within None s t h = absurd h
takes_within (Some r) s t h = go r.sort h
  where
    go : (r : Sort) → SortTakes r s t → IsWithin s
    go (value r) h = absurd h
    go (macro p q) h = h.0

argument_within : (g : Environment) (ss : NumberedSchemes) → Describes g ss → (o : Option Ty) (f : Name) (s t : Ty) → MacroTakes g o f s t → IsWithin s
argument_within g ss d None f s t h = takes_within (find f ss) s t (d.taken f s t h)
argument_within g ss d (Some r) f s t h = absurd h

indices_stay : {n : State} {u : Subst} (xs : Axes) (env env0 : Locals) → Stays n u (AreLocals env0) env → Stays n u (AreLocals (with_indices xs env0)) (with_indices xs env)
indices_stay xs env env0 st = record { holds = λ v g. indices_at v xs env ∙ ap (with_indices xs) (st.holds v g) }

-- Expressions.

mutual
  pub complete : (e : Tree) → IsWritten e → (g : Environment) (ss : NumberedSchemes) → Describes g ss → (env env0 : Locals) (t : Ty) → {n : State} {u : Subst} →
      Stays n u (AreLocals env0) env → IsWithin t → Has e g env0 t → Found n u (IsTy t) (make e ss env n)
  complete (name x) z g ss d env env0 t keeps w h = name_found g ss d env env0 x t keeps h
  complete (op o es) z g ss d env env0 t keeps w h =
      found_after (all_complete es z.1 g ss d env env0 h.0 keeps (operands-within o h.0 t w h.1 h.2) h.3) (λ ts n u l st.
      op_found o z.0 h.0 t w h.1 h.2 ts st)
  complete (members es) z g ss d env env0 t keeps w h =
      found_after (found_fresh h.0) (λ s n u l st.
      found_after (each_complete es z g ss d env env0 s h.0 (on l keeps) st (member_within h.0 (subst IsWithin h.1 w)) h.2) (λ _ n u m _.
      found_made (λ v a. ap types.set_of ((on m st).holds v a) ∙ sym h.1)))
  complete (comp head quals) z g ss d env env0 t keeps w h =
      found_after (rows_complete quals z.0 g ss d env env0 h.1 keeps h.3) (λ inner n u l st.
      found_after (complete head z.1 g ss d inner h.1 h.0 st (member_within h.0 (subst IsWithin h.2 w)) h.4) (λ s n u m su.
      found_made (λ v a. ap types.set_of (su.holds v a) ∙ sym h.2)))
  complete (tab xs body) z g ss d env env0 t keeps w h =
      found_after (found_guard (is_rank (count_axes xs)) (true_rank (count_axes xs) h.1)) (λ _ n u l _.
      found_after (bounds_complete xs z.0 g ss d env env0 (on l keeps) h.3) (λ _ n u m _.
      found_after (complete body z.1 g ss d (with_indices xs env) (with_indices xs env0) h.0 (indices_stay xs env env0 (on (later_later l m) keeps))
      (cell_within (count_axes xs) h.0 (subst IsWithin h.2 w)) h.4) (λ s n u m' su.
      found_made (λ v a. arrays (count_axes xs) (su.holds v a) ∙ sym h.2))))
  complete (bindings ds body) z g ss d env env0 t keeps w h =
      found_after (binds_complete ds z.0 g ss d env env0 h.0 keeps h.1) (λ inner n u l st. complete body z.1 g ss d inner h.0 t st w h.2)
  complete (choice c a b) z g ss d env env0 t keeps w h =
      found_after (complete c z.0 g ss d env env0 types.truth keeps truth_within h.0) (λ x n u l sx.
      let k1 = on l keeps in
      found_after (complete a z.1 g ss d env env0 t k1 w h.1) (λ y n u m sy.
      found_after (complete b z.2 g ss d env env0 t (on m k1) w h.2) (λ r n u m' sr.
      found_after (found_equate x types.truth (on (later_later m m') sx).holds (λ v a. truth_within)) (λ _ n u l' _.
      let sy' = on (later_later m' l') sy in
      found_after (found_equate r y (λ v a. (on l' sr).holds v a ∙ sym (sy'.holds v a))
      (λ v a. subst IsWithin (sym (sy'.holds v a)) w)) (λ _ n u m'' _.
      found_made (λ v a. (on m'' sy').holds v a))))))
  complete (conjunction a b) z g ss d env env0 t keeps w h =
      found_after (complete a z.0 g ss d env env0 types.truth keeps truth_within h.1) (λ x n u l sx.
      found_after (complete b z.1 g ss d env env0 types.truth (on l keeps) truth_within h.2) (λ y n u m sy.
      found_after (found_equate x types.truth (on m sx).holds (λ v a. truth_within)) (λ _ n u l' _.
      found_after (found_equate y types.truth (on l' sy).holds (λ v a. truth_within)) (λ _ n u m' _.
      found_made (λ v a. sym h.0)))))
  complete (disjunction a b) z g ss d env env0 t keeps w h =
      found_after (complete a z.0 g ss d env env0 types.truth keeps truth_within h.1) (λ x n u l sx.
      found_after (complete b z.1 g ss d env env0 types.truth (on l keeps) truth_within h.2) (λ y n u m sy.
      found_after (found_equate x types.truth (on m sx).holds (λ v a. truth_within)) (λ _ n u l' _.
      found_after (found_equate y types.truth (on l' sy).holds (λ v a. truth_within)) (λ _ n u m' _.
      found_made (λ v a. sym h.0)))))
  complete (negation a) z g ss d env env0 t keeps w h =
      found_after (complete a z g ss d env env0 types.truth keeps truth_within h.1) (λ x n u l sx.
      found_after (found_equate x types.truth sx.holds (λ v a. truth_within)) (λ _ n u l' _.
      found_made (λ v a. sym h.0)))
  complete (default a b) z g ss d env env0 t keeps w h =
      found_after (complete a z.0 g ss d env env0 t keeps w h.0) (λ y n u m sy.
      found_after (complete b z.1 g ss d env env0 t (on m keeps) w h.1) (λ r n u m' sr.
      found_after (found_equate r y (λ v a. sr.holds v a ∙ sym ((on m' sy).holds v a))
      (λ v a. subst IsWithin (sym ((on m' sy).holds v a)) w)) (λ _ n u m'' _.
      found_made (λ v a. (on (later_later m' m'') sy).holds v a))))
  complete (trees.apply f a) z g ss d env env0 t keeps w h =
      found_after (complete a z g ss d env env0 h.0 keeps (argument_within g ss d (find f env0) f h.0 t h.1) h.2) (λ s n u l st.
      call_found g ss d env env0 f h.0 t s (on l keeps) st h.1)
  complete (function p body a) z g ss d env env0 t keeps w h =
      found_after (complete a z.1 g ss d env env0 h.0 keeps h.2 h.3) (λ s n u l st.
      found_after (matched_found p g ss d env env0 h.0 h.1 s (on l keeps) st h.2 h.4) (λ inner n u m si.
      complete body z.0 g ss d inner h.1 t si w h.5))
  complete (summap p body e) z g ss d env env0 t keeps w h =
      found_after (complete e z.1 g ss d env env0 (types.set_of h.0) keeps h.3 h.4) (λ s n u l st.
      found_after (member_found p g ss d env env0 h.0 h.1 s (on l keeps) st h.3 h.5) (λ inner n u m si.
      found_after (complete body z.0 g ss d inner h.1 natural si natural_within h.6) (λ b n u m' sb.
      found_after (found_equate b natural sb.holds (λ v a. natural_within)) (λ _ n u m'' _.
      found_made (λ v a. sym h.2)))))

  pub all_complete : (es : Trees) → AreWritten es → (g : Environment) (ss : NumberedSchemes) → Describes g ss → (env env0 : Locals) (ts : List Ty) → {n : State} {u : Subst} →
      Stays n u (AreLocals env0) env → EachWithin ts → HasAll es g env0 ts → Found n u (IsEach ts) (make_all es ss env n)
  all_complete no_tree z g ss d env env0 ts keeps w h = found_made (λ v a. sym h)
  all_complete (tree e es) z g ss d env env0 ts keeps w h =
      let ws = subst EachWithin h.2 w in
      found_after (complete e z.0 g ss d env env0 h.0 keeps ws.0 h.3) (λ t n u l st.
      found_after (all_complete es z.1 g ss d env env0 h.1 (on l keeps) ws.1 h.4) (λ r n u m su.
      found_made (λ v a. conses ((on m st).holds v a) (su.holds v a) ∙ sym h.2)))

  pub each_complete : (es : Trees) → AreWritten es → (g : Environment) (ss : NumberedSchemes) → Describes g ss → (env env0 : Locals) (s t : Ty) → {n : State} {u : Subst} →
      Stays n u (AreLocals env0) env → Stays n u (IsTy t) s → IsWithin t → HasEach es g env0 t → Found n u (Any {A = Unit {0}}) (make_each es ss env s n)
  each_complete no_tree z g ss d env env0 s t keeps st w h = found_made (λ v a. tt)
  each_complete (tree e es) z g ss d env env0 s t keeps st w h =
      found_after (complete e z.0 g ss d env env0 t keeps w h.0) (λ y n u m sy.
      found_after (found_equate y s (λ v a. sy.holds v a ∙ sym ((on m st).holds v a)) (λ v a. subst IsWithin (sym ((on m st).holds v a)) w)) (λ _ n u m' _.
      let l = later_later m m' in
      each_complete es z.1 g ss d env env0 s t (on l keeps) (on l st) w h.1))

  pub bounds_complete : (xs : Axes) → AxesWritten xs → (g : Environment) (ss : NumberedSchemes) → Describes g ss → (env env0 : Locals) → {n : State} {u : Subst} →
      Stays n u (AreLocals env0) env → BoundsHave xs g env0 → Found n u (Any {A = Unit {0}}) (make_bounds xs ss env n)
  bounds_complete no_axis z g ss d env env0 keeps h = found_made (λ v a. tt)
  bounds_complete (axis x e rest) z g ss d env env0 keeps h =
      found_after (complete e z.0 g ss d env env0 natural keeps natural_within h.0) (λ y n u m sy.
      found_after (found_equate y natural sy.holds (λ v a. natural_within)) (λ _ n u m' _.
      bounds_complete rest z.1 g ss d env env0 (on (later_later m m') keeps) h.1))

  pub rows_complete : (qs : Quals) → QualsWritten qs → (g : Environment) (ss : NumberedSchemes) → Describes g ss → (env env0 inner : Locals) → {n : State} {u : Subst} →
      Stays n u (AreLocals env0) env → Rows qs g env0 inner → Found n u (AreLocals inner) (make_rows qs ss env n)
  rows_complete no_qual z g ss d env env0 inner keeps h = found_made (λ v a. keeps.holds v a ∙ sym h)
  rows_complete (from p e rest) z g ss d env env0 inner keeps h =
      found_after (complete e z.0 g ss d env env0 (types.set_of h.0) keeps h.2 h.3) (λ t n u l st.
      found_after (member_found p g ss d env env0 h.0 h.1 t (on l keeps) st h.2 h.4) (λ mid n u m sm.
      rows_complete rest z.1 g ss d mid h.1 inner sm h.5))
  rows_complete (cells p q e rest) z g ss d env env0 inner keeps h =
      found_after (complete e z.0 g ss d env env0 (types.array_of (count_pats (axes p)) h.0) keeps h.3 h.4) (λ t n u l st.
      found_after (axes_found (axes p) g ss d env env0 h.1 (on l keeps) h.5) (λ mid n u m sm.
      found_after (cell_found q (count_pats (axes p)) g ss d mid h.1 h.0 h.2 t sm (on m st) h.3 h.6) (λ own n u m' so.
      rows_complete rest z.1 g ss d own h.2 inner so h.7)))
  rows_complete (same p e rest) z g ss d env env0 inner keeps h =
      found_after (complete e z.0 g ss d env env0 h.0 keeps h.2 h.3) (λ t n u l st.
      found_after (matched_found p g ss d env env0 h.0 h.1 t (on l keeps) st h.2 h.4) (λ mid n u m sm.
      rows_complete rest z.1 g ss d mid h.1 inner sm h.5))
  rows_complete (test e rest) z g ss d env env0 inner keeps h =
      found_after (complete e z.0 g ss d env env0 types.truth keeps truth_within h.0) (λ x n u l st.
      found_after (found_equate x types.truth st.holds (λ v a. truth_within)) (λ _ n u l' _.
      rows_complete rest z.1 g ss d env env0 inner (on (later_later l l') keeps) h.1))

  pub binds_complete : (ds : Defs) → DefsWritten ds → (g : Environment) (ss : NumberedSchemes) → Describes g ss → (env env0 inner : Locals) → {n : State} {u : Subst} →
      Stays n u (AreLocals env0) env → Binds ds g env0 inner → Found n u (AreLocals inner) (make_binds ds ss env n)
  binds_complete no_def z g ss d env env0 inner keeps h = found_made (λ v a. keeps.holds v a ∙ sym h)
  binds_complete (def p e rest) z g ss d env env0 inner keeps h =
      found_after (complete e z.0 g ss d env env0 h.0 keeps h.2 h.3) (λ t n u l st.
      found_after (matched_found p g ss d env env0 h.0 h.1 t (on l keeps) st h.2 h.4) (λ mid n u m sm.
      binds_complete rest z.1 g ss d mid h.1 inner sm h.5))

-- Declarations.

abbrev pub IsSort : Sort → Subst → Sort → Type 0
IsSort s v a = apply_sort v a ≡ s

pub macros : {a b c d : Ty} → a ≡ b → c ≡ d → macro a c ≡ macro b d
macros e f = cc

reader_ranked : (r : Reader) → IsWithin (reader_type r) → reader_fits r ≡ true
reader_ranked (plain k) w = true_rank k w.2.0
reader_ranked (signed k) w = true_rank k w.2.0
reader_ranked (strided k) w = true_rank k w.2.0
reader_ranked (records header ks) w = refl

pub decl_found : (dec : Declaration) → DeclWritten dec → (g : Environment) (ss : NumberedSchemes) → Describes g ss → (s : Sort) → {n : State} {u : Subst} →
    DeclHas dec g s → Found n u (IsSort s) (make_decl dec ss n)
decl_found (val x e) z g ss d (macro a b) h = absurd h
decl_found (val x e) z g ss d (value t) h =
    found_after (complete e z g ss d [] [] t (record { holds = λ v g. refl }) h.0 h.1) (λ r n u l st.
    found_after (found_within r (λ v g. subst IsWithin (sym (st.holds v g)) h.0)) (λ _ n u m _.
    found_made (λ v g. ap value ((on m st).holds v g))))
decl_found (mac f p body) z g ss d (value t) h = absurd h
decl_found (mac f p body) z g ss d (macro s t) h =
    found_after (pat_found p g ss d [] [] s h.0 (record { holds = λ v g. refl }) h.3) (λ r n u l sr.
    found_after (complete body z g ss d r.names h.0 t (names_stay sr) h.2 h.4) (λ b n u m sb.
    let sr' = on m sr in
    found_after (found_within r.of (λ v g. subst IsWithin (sym ((sr'.holds v g).0)) h.1)) (λ _ n u m' _.
    let sb' = on m' sb in
    let sr'' = on m' sr' in
    found_after (found_within b (λ v g. subst IsWithin (sym (sb'.holds v g)) h.2)) (λ _ n u m'' _.
    found_made (λ v g. macros ((on m'' sr'').holds v g).0 ((on m'' sb').holds v g))))))
decl_found (read x reader e) z g ss d (macro a b) h = absurd h
decl_found (read x reader e) z g ss d (value t) h =
    found_after (found_guard (reader_fits reader) (reader_ranked reader (subst IsWithin h.0 h.1))) (λ _ n u l _.
    found_after (complete e z g ss d [] [] (argument_type reader) (record { holds = λ v g. refl }) h.2 h.3) (λ r n u l st.
    found_after (found_equate r (argument_type reader) (λ v g. st.holds v g ∙ sym (argument_apply v reader)) (λ v g. subst IsWithin (sym (argument_apply v reader)) h.2)) (λ _ n u m _.
    found_after (found_within (argument_type reader) (λ v g. subst IsWithin (sym (argument_apply v reader)) h.2)) (λ _ n u m' _.
    found_after (found_within (reader_type reader) (λ v g. subst IsWithin (h.0 ∙ sym (reader_apply v reader)) h.1)) (λ _ n u m'' _.
    found_made (λ v g. ap value (reader_apply v reader ∙ sym h.0)))))))
decl_found (bare e) z g ss d (macro a b) h = absurd h
decl_found (bare e) z g ss d (value t) h =
    found_after (complete e z g ss d [] [] t (record { holds = λ v g. refl }) h.0 h.1) (λ r n u l st.
    found_after (found_within r (λ v g. subst IsWithin (sym (st.holds v g)) h.0)) (λ _ n u m _.
    found_made (λ v g. ap value ((on m st).holds v g))))
