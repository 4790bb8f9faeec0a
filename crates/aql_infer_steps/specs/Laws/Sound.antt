-- Whatever solves what a declaration asks gives it a typing.
use Rattle.std.proofs.Common.{ℕ, ◌≡◌, List, [], ◌∷◌, Option, Some, None, refl, sym, ap, ◌∙◌, subst, option_map}
use Rattle.aql_ty.specs.Types as types
use Rattle.aql_ty.specs.Types.{Ty, natural, no_type, type, Subst, apply, apply_all, index_type, IsWithin, Sort, value, macro, apply_sort}
use Rattle.aql_ty.specs.Laws.Types.{row_is, apply-apply, index_type-apply}
use Rattle.aql_syntax.specs.Tree.{Name, Constant, number, bytes, Pat, bind, any, equals, refers, tuple, Pats, no_pat, pat, Tree, name, op, members, comp, tab, bindings, choice, conjunction, disjunction, negation, default, function, summap, Trees, no_tree, tree, Axes, no_axis, axis, Quals, no_qual, from, cells, same, test, Defs, no_def, def, Reader, plain, signed, strided, records, Declaration, val, mac, read, bare, count_pats, count_axes, axes}
use Rattle.aql_syntax.specs.Tree as trees
use Rattle.aql_syntax.specs.Names.{find}
use Rattle.aql_syntax.specs.Typing.{Environment, Locals, NameHas, MacroTakes, constant_type, PatternFits, FitsAll, FitsAxes, with_indices, Has, HasAll, HasEach, BoundsHave, Rows, Binds, field_type, field_types, record_type, reader_type, argument_type, DeclHas, local_instances}
use Rattle.aql_syntax.specs.declared.ast.Kind.{Kind}
use Rattle.aql_syntax.specs.declared.ast.Kind.TheVariants as kinds
use Rattle.aql_syntax.specs.Laws.Names.{find-instances}
use Rattle.aql_infer_steps.specs.Constraints.{NumberedScheme, NumberedSchemes, State, is_rank, make_value, make_global, make_name, make_macro, make_call, make_pat, make_pats, make_match, matched_member, matched_index, matched_cell, make, make_all, make_each, make_bounds, make_rows, make_binds, reader_fits, make_decl}
use Rattle.aql_infer_steps.specs.Laws.Steps.{Sound, sound_after, sound_made, sound_none, weaker, sound_fresh, sound_opened, sound_equate, sound_within, sound_guard}
use Rattle.aql_infer_steps.specs.Describes.{apply_each, SortHas, SortTakes, SchemeHas, SchemeTakes, Describes}
use Rattle.aql_infer_steps.specs.Laws.Operations.{op_sound, rank_true}

value_sound : (u : Subst) (s : Sort) (k : ℕ) (n : State) → Sound n u (λ t. SortHas s (apply u t)) (make_value s k n)
value_sound u (value r) k n =
    sound_after (sound_opened u k n) (λ w n. sound_after (sound_within u (apply w r) n) (λ _ n.
    sound_made (λ h _. (h, ((λ x. apply u (w x)), apply-apply u w r)))))
value_sound u (macro a b) k n = sound_none

global_sound : (u : Subst) (o : Option NumberedScheme) (n : State) → Sound n u (λ t. SchemeHas o (apply u t)) (make_global o n)
global_sound u None n = sound_none
global_sound u (Some s) n = value_sound u s.sort s.variables n

name_sound : (u : Subst) (g : Environment) (ss : NumberedSchemes) → Describes g ss → (env : Locals) (x : Name) (n : State) →
    Sound n u (λ t. NameHas g (find x (local_instances u env)) x (apply u t)) (make_name ss (find x env) x n)
name_sound u g ss d env x n = rw (find-instances u x env) (go (find x env))
  where
    go : (o : Option Ty) → Sound n u (λ t. NameHas g (option_map (apply u) o) x (apply u t)) (make_name ss o x n)
    go None = weaker (global_sound u (find x ss) n) (λ t h. d.has x (apply u t) h)
    go (Some t) = sound_made refl

macro_sound : (u : Subst) (s : Sort) (k : ℕ) (a : Ty) (n : State) → Sound n u (λ t. SortTakes s (apply u a) (apply u t)) (make_macro s k a n)
macro_sound u (value r) k a n = sound_none
macro_sound u (macro p q) k a n =
    sound_after (sound_opened u k n) (λ w n.
    sound_after (sound_within u (apply w p) n) (λ _ n.
    sound_after (sound_within u (apply w q) n) (λ _ n.
    sound_after (sound_equate u a (apply w p) n) (λ _ n.
    sound_made (λ e hq hp _. (
      subst IsWithin (sym e) hp,
      hq,
      ((λ x. apply u (w x)), e ∙ apply-apply u w p, apply-apply u w q),
    ))))))

call_sound : (u : Subst) (g : Environment) (ss : NumberedSchemes) → Describes g ss → (env : Locals) (f : Name) (a : Ty) (n : State) →
    Sound n u (λ t. MacroTakes g (find f (local_instances u env)) f (apply u a) (apply u t)) (make_call (find f env) (find f ss) a n)
call_sound u g ss d env f a n = rw (find-instances u f env) (go (find f env) (find f ss) (λ t. d.takes f (apply u a) t))
  where
    go : (o : Option Ty) (r : Option NumberedScheme) → ((t : Ty) → SchemeTakes r (apply u a) t → g.takes f (apply u a) t) →
        Sound n u (λ t. MacroTakes g (option_map (apply u) o) f (apply u a) (apply u t)) (make_call o r a n)
    go (Some t) r h = sound_none
    go None None h = sound_none
    go None (Some s) h = weaker (macro_sound u s.sort s.variables a n) (λ t k. h (apply u t) k)

pub constant_apply : (u : Subst) (c : Constant) → apply u (constant_type c) ≡ constant_type c
constant_apply u (number n) = refl
constant_apply u (trees.truth b) = refl
constant_apply u (bytes s) = refl

mutual
  pub pat_sound : (p : Pat) (u : Subst) (g : Environment) (ss : NumberedSchemes) → Describes g ss → (env : Locals) (n : State) →
      Sound n u (λ r. PatternFits p g (local_instances u env) (apply u r.of) (local_instances u r.names)) (make_pat p ss env n)
  pat_sound (bind x) u g ss d env n = sound_after (sound_fresh u n) (λ t n. sound_made (λ _. refl))
  pat_sound any u g ss d env n = sound_after (sound_fresh u n) (λ t n. sound_made (λ _. refl))
  pat_sound (equals c) u g ss d env n = sound_made (constant_apply u c, refl)
  pat_sound (refers x) u g ss d env n = sound_after (name_sound u g ss d env x n) (λ t n. sound_made (λ h. (h, refl)))
  pat_sound (tuple ps) u g ss d env n = sound_after (pats_sound ps u g ss d env n) (λ r n. sound_made (λ h. (apply_all u r.of, refl, h)))

  pub pats_sound : (ps : Pats) (u : Subst) (g : Environment) (ss : NumberedSchemes) → Describes g ss → (env : Locals) (n : State) →
      Sound n u (λ r. FitsAll ps g (local_instances u env) (apply_all u r.of) (local_instances u r.names)) (make_pats ps ss env n)
  pats_sound no_pat u g ss d env n = sound_made (refl, refl)
  pats_sound (pat p ps) u g ss d env n =
      sound_after (pat_sound p u g ss d env n) (λ r n.
      sound_after (pats_sound ps u g ss d r.names n) (λ q n.
      sound_made (λ k h. (apply u r.of, apply_all u q.of, local_instances u r.names, refl, h, k))))

-- what `make_match` gives: the value's type is within the limits, and the pattern fits it
matched_sound : (p : Pat) (u : Subst) (g : Environment) (ss : NumberedSchemes) → Describes g ss → (env : Locals) (t : Ty) (n : State) →
    Sound n u (λ inner. IsWithin (apply u t) × PatternFits p g (local_instances u env) (apply u t) (local_instances u inner)) (make_match p ss env t n)
matched_sound p u g ss d env t n =
    sound_after (pat_sound p u g ss d env n) (λ r n. sound_after (sound_equate u t r.of n) (λ _ n.
    sound_after (sound_within u r.of n) (λ _ n.
    sound_made (λ w e f. (subst IsWithin (sym e) w, subst (λ (t : Ty). PatternFits p g (local_instances u env) t (local_instances u r.names)) (sym e) f)))))

-- the type of a set within the limits, whose members the pattern fits
abbrev MemberFits : Pat → Environment → Locals → Ty → Locals → Type 0
MemberFits p g env t inner = (s : Ty) × (t ≡ types.set_of s) × IsWithin (types.set_of s) × PatternFits p g env s inner

member_sound : (p : Pat) (u : Subst) (g : Environment) (ss : NumberedSchemes) → Describes g ss → (env : Locals) (t : Ty) (n : State) →
    Sound n u (λ inner. MemberFits p g (local_instances u env) (apply u t) (local_instances u inner)) (matched_member p ss env t n)
member_sound p u g ss d env t n =
    sound_after (pat_sound p u g ss d env n) (λ r n. sound_after (sound_equate u t (types.set_of r.of) n) (λ _ n.
    sound_after (sound_within u (types.set_of r.of) n) (λ _ n. sound_made (λ w e f. (apply u r.of, e, w, f)))))

abbrev CellFits : Pat → ℕ → Environment → Locals → Ty → Locals → Type 0
CellFits q k g env t inner = (s : Ty) × (t ≡ types.array_of k s) × IsWithin (types.array_of k s) × PatternFits q g env s inner

cell_sound : (q : Pat) (k : ℕ) (u : Subst) (g : Environment) (ss : NumberedSchemes) → Describes g ss → (env : Locals) (t : Ty) (n : State) →
    Sound n u (λ inner. CellFits q k g (local_instances u env) (apply u t) (local_instances u inner)) (matched_cell q k ss env t n)
cell_sound q k u g ss d env t n =
    sound_after (pat_sound q u g ss d env n) (λ r n. sound_after (sound_equate u t (types.array_of k r.of) n) (λ _ n.
    sound_after (sound_within u (types.array_of k r.of) n) (λ _ n. sound_made (λ w e f. (apply u r.of, e, w, f)))))

axes_sound : (ps : Pats) (u : Subst) (g : Environment) (ss : NumberedSchemes) → Describes g ss → (env : Locals) (n : State) →
    Sound n u (λ inner. FitsAxes ps g (local_instances u env) (local_instances u inner)) (matched_index ps ss env n)
axes_sound no_pat u g ss d env n = sound_made refl
axes_sound (pat p ps) u g ss d env n =
    sound_after (pat_sound p u g ss d env n) (λ r n. sound_after (sound_equate u r.of natural n) (λ _ n.
    weaker (axes_sound ps u g ss d r.names n) (λ inner k e f.
    (local_instances u r.names, subst (λ (t : Ty). PatternFits p g (local_instances u env) t (local_instances u r.names)) e f, k))))

-- a tabulation's indices have no variables
pub indices_at : (u : Subst) (xs : Axes) (env : Locals) → local_instances u (with_indices xs env) ≡ with_indices xs (local_instances u env)
indices_at u no_axis env = refl
indices_at u (axis x e rest) env = indices_at u rest ((x, natural) ∷ env)

mutual
  pub sound : (e : Tree) (u : Subst) (g : Environment) (ss : NumberedSchemes) → Describes g ss → (env : Locals) (n : State) →
      Sound n u (λ t. Has e g (local_instances u env) (apply u t)) (make e ss env n)
  sound (name x) u g ss d env n = name_sound u g ss d env x n
  sound (op o es) u g ss d env n =
      sound_after (all_sound es u g ss d env n) (λ ts n. weaker (op_sound o u ts n) (λ t k h. (apply_each u ts, k.0, k.1, h)))
  sound (members es) u g ss d env n =
      sound_after (sound_fresh u n) (λ t n. sound_after (each_sound es u g ss d env t n) (λ _ n. sound_made (λ h _. (apply u t, refl, h))))
  sound (comp head quals) u g ss d env n =
      sound_after (rows_sound quals u g ss d env n) (λ inner n. sound_after (sound head u g ss d inner n) (λ t n.
      sound_made (λ k h. (apply u t, local_instances u inner, refl, h, k))))
  sound (tab xs body) u g ss d env n =
      sound_after (sound_guard u (is_rank (count_axes xs)) n) (λ _ n. sound_after (bounds_sound xs u g ss d env n) (λ _ n.
      sound_after (sound body u g ss d (with_indices xs env) n) (λ t n.
      sound_made (λ k h r. (apply u t, rank_true (count_axes xs) r, refl, h, subst (λ (l : Locals). Has body g l (apply u t)) (indices_at u xs env) k)))))
  sound (bindings ds body) u g ss d env n =
      sound_after (binds_sound ds u g ss d env n) (λ inner n. weaker (sound body u g ss d inner n) (λ t k h. (local_instances u inner, h, k)))
  sound (choice c a b) u g ss d env n =
      sound_after (sound c u g ss d env n) (λ t n. sound_after (sound a u g ss d env n) (λ s n.
      sound_after (sound b u g ss d env n) (λ r n. sound_after (sound_equate u t types.truth n) (λ _ n.
      sound_after (sound_equate u r s n) (λ _ n.
      sound_made (λ f e l k h. (subst (Has c g (local_instances u env)) e h, k, subst (Has b g (local_instances u env)) f l)))))))
  sound (conjunction a b) u g ss d env n =
      sound_after (sound a u g ss d env n) (λ t n. sound_after (sound b u g ss d env n) (λ r n.
      sound_after (sound_equate u t types.truth n) (λ _ n. sound_after (sound_equate u r types.truth n) (λ _ n.
      sound_made (λ f e l h. (refl, subst (Has a g (local_instances u env)) e h, subst (Has b g (local_instances u env)) f l))))))
  sound (disjunction a b) u g ss d env n =
      sound_after (sound a u g ss d env n) (λ t n. sound_after (sound b u g ss d env n) (λ r n.
      sound_after (sound_equate u t types.truth n) (λ _ n. sound_after (sound_equate u r types.truth n) (λ _ n.
      sound_made (λ f e l h. (refl, subst (Has a g (local_instances u env)) e h, subst (Has b g (local_instances u env)) f l))))))
  sound (negation a) u g ss d env n =
      sound_after (sound a u g ss d env n) (λ t n. sound_after (sound_equate u t types.truth n) (λ _ n.
      sound_made (λ e h. (refl, subst (Has a g (local_instances u env)) e h))))
  sound (default a b) u g ss d env n =
      sound_after (sound a u g ss d env n) (λ s n. sound_after (sound b u g ss d env n) (λ r n.
      sound_after (sound_equate u r s n) (λ _ n. sound_made (λ f l k. (k, subst (Has b g (local_instances u env)) f l)))))
  sound (trees.apply f a) u g ss d env n =
      sound_after (sound a u g ss d env n) (λ s n. weaker (call_sound u g ss d env f s n) (λ t k h. (apply u s, k, h)))
  sound (function p body a) u g ss d env n =
      sound_after (sound a u g ss d env n) (λ s n. sound_after (matched_sound p u g ss d env s n) (λ inner n.
      weaker (sound body u g ss d inner n) (λ t k m h. (apply u s, local_instances u inner, m.0, h, m.1, k))))
  sound (summap p body e) u g ss d env n =
      sound_after (sound e u g ss d env n) (λ s n. sound_after (member_sound p u g ss d env s n) (λ inner n.
      sound_after (sound body u g ss d inner n) (λ t n. sound_after (sound_equate u t natural n) (λ _ n.
      sound_made (λ f k m h. (m.0, local_instances u inner, refl, m.2, subst (Has e g (local_instances u env)) m.1 h, m.3, subst (Has body g (local_instances u inner)) f k))))))

  pub all_sound : (es : Trees) (u : Subst) (g : Environment) (ss : NumberedSchemes) → Describes g ss → (env : Locals) (n : State) →
      Sound n u (λ ts. HasAll es g (local_instances u env) (apply_each u ts)) (make_all es ss env n)
  all_sound no_tree u g ss d env n = sound_made refl
  all_sound (tree e es) u g ss d env n =
      sound_after (sound e u g ss d env n) (λ t n. sound_after (all_sound es u g ss d env n) (λ ts n.
      sound_made (λ k h. (apply u t, apply_each u ts, refl, h, k))))

  pub each_sound : (es : Trees) (u : Subst) (g : Environment) (ss : NumberedSchemes) → Describes g ss → (env : Locals) (t : Ty) (n : State) →
      Sound n u (λ _. HasEach es g (local_instances u env) (apply u t)) (make_each es ss env t n)
  each_sound no_tree u g ss d env t n = sound_made tt
  each_sound (tree e es) u g ss d env t n =
      sound_after (sound e u g ss d env n) (λ s n. sound_after (sound_equate u s t n) (λ _ n.
      weaker (each_sound es u g ss d env t n) (λ _ k f h. (subst (Has e g (local_instances u env)) f h, k))))

  pub bounds_sound : (xs : Axes) (u : Subst) (g : Environment) (ss : NumberedSchemes) → Describes g ss → (env : Locals) (n : State) →
      Sound n u (λ _. BoundsHave xs g (local_instances u env)) (make_bounds xs ss env n)
  bounds_sound no_axis u g ss d env n = sound_made tt
  bounds_sound (axis x e rest) u g ss d env n =
      sound_after (sound e u g ss d env n) (λ t n. sound_after (sound_equate u t natural n) (λ _ n.
      weaker (bounds_sound rest u g ss d env n) (λ _ k f h. (subst (Has e g (local_instances u env)) f h, k))))

  pub rows_sound : (qs : Quals) (u : Subst) (g : Environment) (ss : NumberedSchemes) → Describes g ss → (env : Locals) (n : State) →
      Sound n u (λ inner. Rows qs g (local_instances u env) (local_instances u inner)) (make_rows qs ss env n)
  rows_sound no_qual u g ss d env n = sound_made refl
  rows_sound (from p e rest) u g ss d env n =
      sound_after (sound e u g ss d env n) (λ t n. sound_after (member_sound p u g ss d env t n) (λ mid n.
      weaker (rows_sound rest u g ss d mid n) (λ inner l m h. (m.0, local_instances u mid, m.2, subst (Has e g (local_instances u env)) m.1 h, m.3, l))))
  rows_sound (cells p q e rest) u g ss d env n =
      sound_after (sound e u g ss d env n) (λ t n. sound_after (axes_sound (axes p) u g ss d env n) (λ mid n.
      sound_after (cell_sound q (count_pats (axes p)) u g ss d mid t n) (λ own n.
      weaker (rows_sound rest u g ss d own n) (λ inner l m f h.
      (m.0, local_instances u mid, local_instances u own, m.2, subst (Has e g (local_instances u env)) m.1 h, f, m.3, l)))))
  rows_sound (same p e rest) u g ss d env n =
      sound_after (sound e u g ss d env n) (λ t n. sound_after (matched_sound p u g ss d env t n) (λ mid n.
      weaker (rows_sound rest u g ss d mid n) (λ inner l m h. (apply u t, local_instances u mid, m.0, h, m.1, l))))
  rows_sound (test e rest) u g ss d env n =
      sound_after (sound e u g ss d env n) (λ t n. sound_after (sound_equate u t types.truth n) (λ _ n.
      weaker (rows_sound rest u g ss d env n) (λ inner l f h. (subst (Has e g (local_instances u env)) f h, l))))

  pub binds_sound : (ds : Defs) (u : Subst) (g : Environment) (ss : NumberedSchemes) → Describes g ss → (env : Locals) (n : State) →
      Sound n u (λ inner. Binds ds g (local_instances u env) (local_instances u inner)) (make_binds ds ss env n)
  binds_sound no_def u g ss d env n = sound_made refl
  binds_sound (def p e rest) u g ss d env n =
      sound_after (sound e u g ss d env n) (λ t n. sound_after (matched_sound p u g ss d env t n) (λ mid n.
      weaker (binds_sound rest u g ss d mid n) (λ inner l m h. (apply u t, local_instances u mid, m.0, h, m.1, l))))

-- what a reader gives and takes has no variables

field_apply : (u : Subst) (k : Kind) → apply u (field_type k) ≡ field_type k
field_apply u kinds.Number = refl
field_apply u kinds.Bytes = refl

fields_apply : (u : Subst) (ks : List Kind) → apply_all u (field_types ks) ≡ field_types ks
fields_apply u [] = refl
fields_apply u (k ∷ ks) = row_is (field_apply u k) (fields_apply u ks)

record_apply : (u : Subst) (ks : List Kind) → apply u (record_type ks) ≡ record_type ks
record_apply u [] = refl
record_apply u (k ∷ []) = field_apply u k
record_apply u (k ∷ l ∷ ks) = ap types.product (fields_apply u (k ∷ l ∷ ks))

pub reader_apply : (u : Subst) (r : Reader) → apply u (reader_type r) ≡ reader_type r
reader_apply u (plain k) = refl
reader_apply u (signed k) = refl
reader_apply u (strided k) = refl
reader_apply u (records header ks) = ap types.set_of (record_apply u ks)

slab_apply : (u : Subst) (k : ℕ) (f : Ty → Ty) → ((i : Ty) → apply u (f i) ≡ f (apply u i)) → apply u (f (index_type k)) ≡ f (index_type k)
slab_apply u k f e = e (index_type k) ∙ ap f (index_type-apply u k)

pub argument_apply : (u : Subst) (r : Reader) → apply u (argument_type r) ≡ argument_type r
argument_apply u (plain k) =
    slab_apply u k (λ i. types.product (type types.text (type types.text (type i (type i no_type))))) (λ i. refl)
argument_apply u (signed k) =
    slab_apply u k (λ i. types.product (type types.text (type types.text (type i (type i no_type))))) (λ i. refl)
argument_apply u (strided k) =
    slab_apply u k (λ i. types.product (type types.text (type types.text (type i (type i (type i no_type)))))) (λ i. refl)
argument_apply u (records header ks) = refl

pub decl_sound : (dec : Declaration) (u : Subst) (g : Environment) (ss : NumberedSchemes) → Describes g ss → (n : State) →
    Sound n u (λ s. DeclHas dec g (apply_sort u s)) (make_decl dec ss n)
decl_sound (val x e) u g ss d n =
    sound_after (sound e u g ss d [] n) (λ t n. sound_after (sound_within u t n) (λ _ n. sound_made (λ w h. (w, h))))
decl_sound (mac f p body) u g ss d n =
    sound_after (pat_sound p u g ss d [] n) (λ r n. sound_after (sound body u g ss d r.names n) (λ t n.
    sound_after (sound_within u r.of n) (λ _ n. sound_after (sound_within u t n) (λ _ n.
    sound_made (λ w v k h. (local_instances u r.names, v, w, h, k))))))
decl_sound (read x reader e) u g ss d n =
    sound_after (sound_guard u (reader_fits reader) n) (λ _ n. sound_after (sound e u g ss d [] n) (λ t n.
    sound_after (sound_equate u t (argument_type reader) n) (λ _ n. sound_after (sound_within u (argument_type reader) n) (λ _ n.
    sound_after (sound_within u (reader_type reader) n) (λ _ n.
    sound_made (λ w v f h _. (
      reader_apply u reader,
      w,
      subst IsWithin (argument_apply u reader) v,
      subst (Has e g []) (f ∙ argument_apply u reader) h,
    )))))))
decl_sound (bare e) u g ss d n =
    sound_after (sound e u g ss d [] n) (λ t n. sound_after (sound_within u t n) (λ _ n. sound_made (λ w h. (w, h))))
