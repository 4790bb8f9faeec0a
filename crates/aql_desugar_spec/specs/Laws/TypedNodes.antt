-- The types of the nodes that a translation makes, and of names and matches.
use Rattle.std.proofs.Common.{◌≡◌, ℕ, zero, suc, ◌+◌, ◌/◌, List, [], ◌∷◌, ◌++◌, length, map, replicate, take, drop, Option, Some, None, refl, sym, ap, ◌∙◌, subst, arith, append_assoc, length-append}
use Rattle.std.specs.List.{slice_get}
use Rattle.std.specs.Option.{option_map}
use Rattle.aql_value.specs.Lists.{Every}
use Rattle.aql_value.specs.Laws.Lists.{Every-take, Every-drop}
use Rattle.aql_value.specs.Strict.{Strict}
use Rattle.aql_value.specs.declared.ops.CompareOp.TheVariants as compare_op
use Rattle.aql_ty.specs.Types as types
use Rattle.aql_ty.specs.Types.{Ty, natural, truth, Tys, no_type, type, Subst, IsType, AreTypes, apply, apply_all, tys_of, count}
use Rattle.aql_ty.specs.Laws.Types.{count_apply}
use Rattle.aql_ty.specs.OperationTypes.{strict_rule}
use Rattle.aql_syntax.specs.Tree as tree
use Rattle.aql_syntax.specs.Tree.{Name, Constant, Pat, bind, any, equals, refers, tuple, Pats, no_pat, pat, count_pats}
use Rattle.aql_syntax.specs.Names.{find}
use Rattle.aql_syntax.specs.Typing.{Environment, Locals, NameHas, MacroTakes, constant_type, PatternFits, FitsAll, OperandWithin, FirstWithin, local_instances}
use Rattle.nrca_term.specs.Term.{Term, node, none, plain, Form}
use Rattle.nrca_term.specs.Typing.{arg, form_rule, ctyped, parts_typed}
use Rattle.nrca_term.specs.Nodes.{variable, bottom_term, empty_term, let_term, if_term, proj_term, big_union_term, loop_term}
use Rattle.aql_desugar_spec.specs.Start as start_term
use Rattle.aql_desugar_spec.specs.Start.{Resolved, Resolutions, index_of, position_term, name_term, macro_term, call_term, constant_term, bind_pattern, bind_patterns, count_binders, count_all_binders, equal_term, match_term, parts_term, matching, balanced_union}
use Rattle.aql_desugar_spec.specs.Scopes.{env_of, ResolvesTo}
use Rattle.aql_desugar_spec.specs.Laws.Scopes.{leads, fits, further, rejoined}
use Rattle.aql_syntax.specs.Written.{IsWrittenForm}
use Rattle.aql_syntax.specs.Laws.Sound.{instance_list, tys_of-listed}
use Rattle.aql_syntax.specs.Laws.Names.{find-instances}

-- the types of positions
abbrev pub Given : Type 1
Given = ℕ → Ty → Type 0

-- The positions have, under a substitution of types of the language, the types that names and applications have of them.
pub record Typed (G : Given) (g : Environment) (known : Resolutions) (u : Subst) : Type 0 where
  pub proper : (x : ℕ) → IsType (u x)
  pub names : (x : Name) (T : Ty) → g.has x T → (env : List Ty) → ctyped G env (position_term (find x known)) (apply u T)
  pub arguments : (f : Name) (A B : Ty) → g.takes f A B → IsType A
  pub calls : (f : Name) (A B : Ty) → g.takes f A B → (env : List Ty) → ctyped G (apply u A ∷ env) (macro_term (find f known) (length env)) (apply u B)

mutual
  pub apply-type : (u : Subst) → ((x : ℕ) → IsType (u x)) → (t : Ty) → IsType t → IsType (apply u t)
  apply-type u p natural h = tt
  apply-type u p truth h = tt
  apply-type u p types.text h = tt
  apply-type u p (types.var x) h = p x
  apply-type u p (types.product ts) h = (omega (arith, h.0, count_apply u ts), apply-types u p ts h.1)
  apply-type u p (types.set_of t) h = apply-type u p t h
  apply-type u p (types.array_of k t) h = (h.0, apply-type u p t h.1)

  pub apply-types : (u : Subst) → ((x : ℕ) → IsType (u x)) → (ts : Tys) → AreTypes ts → AreTypes (apply_all u ts)
  apply-types u p no_type h = tt
  apply-types u p (type t ts) h = (apply-type u p t h.0, apply-types u p ts h.1)

-- Nodes.

pub typed-leaf : (G : Given) (env : List Ty) (s : Strict) (T : Ty) → IsType T → strict_rule s [] T → ctyped G env (node (Form.strict s) none) T
typed-leaf G env s T k r = (k, [], ([], refl, r), refl)

pub typed-one : (G : Given) (env : List Ty) (s : Strict) (a : Term) (A T : Ty) → IsType T → ctyped G env a A → strict_rule s (A ∷ []) T →
    ctyped G env (node (Form.strict s) (plain (a ∷ []) none)) T
typed-one G env s a A T k h r = (k, arg [] A ∷ [], (A ∷ [], refl, r), (arg [] A, [], refl, refl, h, refl))

pub typed-two : (G : Given) (env : List Ty) (s : Strict) (a b : Term) (A B T : Ty) → IsType T → ctyped G env a A → ctyped G env b B → strict_rule s (A ∷ B ∷ []) T →
    ctyped G env (node (Form.strict s) (plain (a ∷ b ∷ []) none)) T
typed-two G env s a b A B T k h i r =
    (k, arg [] A ∷ arg [] B ∷ [], (A ∷ B ∷ [], refl, r), (arg [] A, arg [] B ∷ [], refl, refl, h, (arg [] B, [], refl, refl, i, refl)))

pub typed-choose : (G : Given) (env : List Ty) (c a b : Term) (T : Ty) → IsType T → ctyped G env c truth → ctyped G env a T → ctyped G env b T → ctyped G env (if_term c a b) T
typed-choose G env c a b T k h i j = (
  k,
  arg [] truth ∷ arg [] T ∷ arg [] T ∷ [],
  refl,
  (arg [] truth, arg [] T ∷ arg [] T ∷ [], refl, refl, h, (arg [] T, arg [] T ∷ [], refl, refl, i, (arg [] T, [], refl, refl, j, refl))),
)

pub typed-binding : (G : Given) (env : List Ty) (f : Form) (a b : Term) (A C B T : Ty) → IsType T → ctyped G env a A → ctyped G (C ∷ env) b B →
    form_rule G env f (arg [] A ∷ arg (C ∷ []) B ∷ []) T → ctyped G env (loop_term f a b) T
typed-binding G env f a b A C B T k h i r =
    (k, arg [] A ∷ arg (C ∷ []) B ∷ [], r, (arg [] A, arg (C ∷ []) B ∷ [], refl, refl, h, (arg (C ∷ []) B, [], refl, refl, i, refl)))

pub typed-let : (G : Given) (env : List Ty) (a b : Term) (A B : Ty) → IsType B → ctyped G env a A → ctyped G (A ∷ env) b B → ctyped G env (let_term a b) B
typed-let G env a b A B k h i = typed-binding G env Form.bind a b A A B B k h i (A, refl)

pub typed-big_union : (G : Given) (env : List Ty) (a b : Term) (A B : Ty) → IsType B → ctyped G env a (types.set_of A) → ctyped G (A ∷ env) b (types.set_of B) →
    ctyped G env (big_union_term a b) (types.set_of B)
typed-big_union G env a b A B k h i = typed-binding G env Form.big_union a b (types.set_of A) A (types.set_of B) (types.set_of B) k h i (A, B, refl, refl)

pub typed-variable : (G : Given) (env : List Ty) (i : ℕ) (T : Ty) → IsType T → slice_get env i ≡ Some T → ctyped G env (variable i) T
typed-variable G env i T k h = (k, [], (refl, h), refl)

pub typed-bottom : (G : Given) (env : List Ty) (T : Ty) → IsType T → ctyped G env bottom_term T
typed-bottom G env T k = typed-leaf G env Strict.bottom T k refl

pub typed-empty : (G : Given) (env : List Ty) (T : Ty) → IsType T → ctyped G env empty_term (types.set_of T)
typed-empty G env T k = typed-leaf G env Strict.empty (types.set_of T) k (T, refl, refl)

-- terms that have these types, one each
abbrev pub TermsTyped : Given → List Ty → List Term → List Ty → Type 0
TermsTyped G env [] Ts = Ts ≡ []
TermsTyped G env (t ∷ ts) Ts = (A : Ty) × (rest : List Ty) × (Ts ≡ A ∷ rest) × ctyped G env t A × TermsTyped G env ts rest

typed-plain : (G : Given) (env : List Ty) (ts : List Term) (Ts : List Ty) → TermsTyped G env ts Ts → parts_typed G env (plain ts none) (map (arg []) Ts)
typed-plain G env [] Ts h = ap (map (arg [])) h
typed-plain G env (t ∷ ts) Ts h = (arg [] h.0, map (arg []) h.1, ap (map (arg [])) h.2, refl, h.3, typed-plain G env ts h.1 h.4)

pub typed-strict : (G : Given) (env : List Ty) (s : Strict) (ts : List Term) (Ts : List Ty) (T : Ty) → IsType T → TermsTyped G env ts Ts → strict_rule s Ts T →
    ctyped G env (node (Form.strict s) (plain ts none)) T
typed-strict G env s ts Ts T k h r = (k, map (arg []) Ts, (Ts, refl, r), typed-plain G env ts Ts h)

pub typed-united : (G : Given) (env : List Ty) (A : Ty) → IsType A → (n : ℕ) (ts : List Term) → Every (λ t. ctyped G env t A) ts → ctyped G env (balanced_union n ts) (types.set_of A)
typed-united G env A k zero ts h = typed-empty G env A k
typed-united G env A k (suc n) [] h = typed-empty G env A k
typed-united G env A k (suc n) (t ∷ []) h = typed-one G env Strict.single t A (types.set_of A) k h.0 (A, refl, refl)
typed-united G env A k (suc n) (t ∷ u ∷ ts) h =
    let m = length (t ∷ u ∷ ts) / 2 in
    typed-two G env Strict.union (balanced_union n (take m (t ∷ u ∷ ts))) (balanced_union n (drop m (t ∷ u ∷ ts))) (types.set_of A) (types.set_of A) (types.set_of A) k
    (typed-united G env A k n (take m (t ∷ u ∷ ts)) (Every-take (λ t. ctyped G env t A) m (t ∷ u ∷ ts) h))
    (typed-united G env A k n (drop m (t ∷ u ∷ ts)) (Every-drop (λ t. ctyped G env t A) m (t ∷ u ∷ ts) h)) (A, refl, refl)

-- Names.

named : (G : Given) (g : Environment) (u : Subst) (env : List Ty) (x : Name) (i : Option ℕ) (w : Option Ty) (k : Option Resolved) (T : Ty) → IsType (apply u T) →
    ResolvesTo env i (option_map (apply u) w) → ((U : Ty) → g.has x U → ctyped G env (position_term k) (apply u U)) → NameHas g w x T → ctyped G env (name_term i k) (apply u T)
named G g u env x (Some i) (Some w) k T p h n e = typed-variable G env i (apply u T) p (h ∙ ap (λ t. Some (apply u t)) (sym e))
named G g u env x (Some i) None k T p h n e = absurd h
named G g u env x None (Some w) k T p h n e = absurd h
named G g u env x None None k T p h n e = n T e

pub typed-name : (G : Given) (g : Environment) (known : Resolutions) (u : Subst) → Typed G g known u → (x : Name) (s : start_term.Binders) (env : List Ty) (locals : Locals) (T : Ty) → IsType T →
    length s ≡ length env → env_of s env ≡ local_instances u locals →
    NameHas g (find x locals) x T → ctyped G env (name_term (index_of x s) (find x known)) (apply u T)
typed-name G g known u all x s env locals T p l v h =
    named G g u env x (index_of x s) (find x locals) (find x known) T (apply-type u all.proper T p)
    (subst (λ w. ResolvesTo env (index_of x s) w) (ap (find x) v ∙ find-instances u x locals) (leads x s env l)) (λ U k. all.names x U k env) h

called : (G : Given) (g : Environment) (env : List Ty) (f : Name) (i : Option ℕ) (w : Option Ty) (u : Subst) (k : Option Resolved) (A B : Ty) (n : ℕ) → ResolvesTo env i (option_map (apply u) w) →
    (g.takes f A B → ctyped G (apply u A ∷ env) (macro_term k n) (apply u B)) → MacroTakes g w f A B → ctyped G (apply u A ∷ env) (call_term i k n) (apply u B)
called G g env f (Some i) (Some w) u k A B n h c e = absurd e
called G g env f (Some i) None u k A B n h c e = absurd h
called G g env f None (Some w) u k A B n h c e = absurd e
called G g env f None None u k A B n h c e = c e

pub typed-call : (G : Given) (g : Environment) (known : Resolutions) (u : Subst) → Typed G g known u → (f : Name) (s : start_term.Binders) (env : List Ty) (locals : Locals) (A B : Ty) →
    length s ≡ length env → env_of s env ≡ local_instances u locals →
    MacroTakes g (find f locals) f A B → ctyped G (apply u A ∷ env) (call_term (index_of f s) (find f known) (length s)) (apply u B)
typed-call G g known u all f s env locals A B l v h =
    subst (λ n. ctyped G (apply u A ∷ env) (call_term (index_of f s) (find f known) n) (apply u B)) (sym l)
    (called G g env f (index_of f s) (find f locals) u (find f known) A B (length env)
    (subst (λ w. ResolvesTo env (index_of f s) w) (ap (find f) v ∙ find-instances u f locals) (leads f s env l)) (λ k. all.calls f A B k env) h)

pub takes-type : (g : Environment) (w : Option Ty) (f : Name) (A B : Ty) → (g.takes f A B → IsType A) → MacroTakes g w f A B → IsType A
takes-type g None f A B h k = h k
takes-type g (Some w) f A B h k = absurd k

-- Matches.

-- under a match, with types that extend those around it, a term inside has its type
abbrev pub Inside : Subst → (List Ty → Type 0) → ℕ → start_term.Binders → List Ty → Locals → Type 0
Inside u P m s env locals = (new : List Ty) → length new ≡ m → env_of s (new ++ env) ≡ local_instances u locals → P (new ++ env)

typed-inside_part : (u : Subst) (P : List Ty → Type 0) (m n : ℕ) (s : start_term.Binders) (env : List Ty) (locals : Locals) (t : Ty) (new : List Ty) → length new ≡ m →
    Inside u P (n + (m + 1)) s env locals → Inside u P n s (new ++ (t ∷ env)) locals
typed-inside_part u P m n s env locals t new e h after l i =
    let long : length (after ++ (new ++ (t ∷ []))) ≡ n + (m + 1) = omega (arith, length-append after (new ++ (t ∷ [])), length-append new (t ∷ [])) in
    subst P (rejoined after new t env) (h (after ++ (new ++ (t ∷ []))) long (ap (λ l. env_of s l) (rejoined after new t env) ∙ i))

pub typed-inside_next : (u : Subst) (P : List Ty → Type 0) (m n : ℕ) (s : start_term.Binders) (env : List Ty) (locals : Locals) (new : List Ty) → length new ≡ m →
    Inside u P (n + m) s env locals → Inside u P n s (new ++ env) locals
typed-inside_next u P m n s env locals new e h after l i =
    let long : length (after ++ new) ≡ n + m = omega (arith, length-append after new) in
    subst P (append_assoc after new env) (h (after ++ new) long (ap (λ l. env_of s l) (append_assoc after new env) ∙ i))

length-listed : (u : Subst) (ts : Tys) → length (instance_list u ts) ≡ count ts
length-listed u no_type = refl
length-listed u (type t ts) = omega (arith, length-listed u ts)

count_fits : (ps : Pats) (g : Environment) (locals : Locals) (ts : Tys) (after : Locals) → FitsAll ps g locals ts after → count ts ≡ count_pats ps
count_fits no_pat g locals ts after f = ap count f.0
count_fits (pat p ps) g locals ts after f = ap count f.3 ∙ (let h = count_fits ps g f.2 f.1 after f.5 in omega arith)

typed-constant : (G : Given) (env : List Ty) (u : Subst) (c : Constant) (A : Ty) → A ≡ constant_type c → ctyped G env (constant_term c) (apply u A)
typed-constant G env u (tree.number n) A e = subst (λ T. ctyped G env (constant_term (tree.number n)) T) (sym (ap (apply u) e)) (typed-leaf G env (Strict.nat n) natural tt (refl, refl))
typed-constant G env u (tree.truth b) A e = subst (λ T. ctyped G env (constant_term (tree.truth b)) T) (sym (ap (apply u) e)) (typed-leaf G env (Strict.bool b) truth tt (refl, refl))
typed-constant G env u (tree.bytes s) A e = subst (λ T. ctyped G env (constant_term (tree.bytes s)) T) (sym (ap (apply u) e)) (typed-leaf G env (Strict.text s) types.text tt (refl, refl))

typed-equal : (G : Given) (env : List Ty) (at : ℕ) (c : Term) (A : Ty) → IsType A → slice_get env at ≡ Some A → ctyped G env c A → ctyped G env (equal_term at c) truth
typed-equal G env at c A k h i = typed-two G env (Strict.compare compare_op.Equal) (variable at) c A A truth tt (typed-variable G env at A k h) i (A, refl, refl)

mutual
  pub typed-match_term : (G : Given) (g : Environment) (known : Resolutions) (u : Subst) → Typed G g known u →
      (p : Pat) (s : start_term.Binders) (env : List Ty) (at : ℕ) (A B : Ty) (inside other : Term) (before locals : Locals) → IsType A → IsType B →
      length s ≡ length env → env_of s env ≡ local_instances u before → slice_get env at ≡ Some (apply u A) → PatternFits p g before A locals → ((l : List Ty) → ctyped G l other B) →
      Inside u (λ l. ctyped G l inside B) (count_binders p) (bind_pattern p s) env locals →
      ctyped G env (match_term p known s at inside other) B
  typed-match_term G g known u all (bind x) s env at A B inside other before locals a b l v h f o i =
      typed-let G env (variable at) inside (apply u A) B b (typed-variable G env at (apply u A) (apply-type u all.proper A a) h)
      (i (apply u A ∷ []) refl (ap (λ w. (x, apply u A) ∷ w) v ∙ ap (local_instances u) (sym f)))
  typed-match_term G g known u all any s env at A B inside other before locals a b l v h f o i = i [] refl (v ∙ ap (local_instances u) (sym f))
  typed-match_term G g known u all (equals c) s env at A B inside other before locals a b l v h f o i =
      typed-choose G env (equal_term at (constant_term c)) inside other B b
      (typed-equal G env at (constant_term c) (apply u A) (apply-type u all.proper A a) h (typed-constant G env u c A f.0)) (i [] refl (v ∙ ap (local_instances u) (sym f.1))) (o env)
  typed-match_term G g known u all (refers x) s env at A B inside other before locals a b l v h f o i =
      typed-choose G env (equal_term at (name_term (index_of x s) (find x known))) inside other B b
      (typed-equal G env at (name_term (index_of x s) (find x known)) (apply u A) (apply-type u all.proper A a) h (typed-name G g known u all x s env before A a l v f.0))
      (i [] refl (v ∙ ap (local_instances u) (sym f.1))) (o env)
  typed-match_term G g known u all (tuple ps) s env at A B inside other before locals a b l v h f o i =
      let is : types.product (tys_of (instance_list u f.0)) ≡ apply u (types.product f.0) = ap types.product (tys_of-listed u f.0) in
      let k : IsType (types.product f.0) = subst IsType f.1 a in
      typed-parts_term G g known u all ps s env at 0 (count_pats ps) B inside other before locals (instance_list u f.0) f.0
      (subst IsType (sym is) (apply-type u all.proper (types.product f.0) k)) k.1 b l v (h ∙ ap (λ t. Some (apply u t)) f.1 ∙ ap Some (sym is))
      (length-listed u f.0 ∙ count_fits ps g before f.0 locals f.2) (λ m. let z : 0 + m ≡ m = omega arith in ap (slice_get (instance_list u f.0)) z) f.2 o i

  pub typed-parts_term : (G : Given) (g : Environment) (known : Resolutions) (u : Subst) → Typed G g known u →
      (ps : Pats) (s : start_term.Binders) (env : List Ty) (at j c : ℕ) (B : Ty) (inside other : Term) (before locals : Locals) (full : List Ty) (ts : Tys) →
      IsType (types.product (tys_of full)) → AreTypes ts → IsType B →
      length s ≡ length env → env_of s env ≡ local_instances u before → slice_get env at ≡ Some (types.product (tys_of full)) → length full ≡ c →
      ((m : ℕ) → slice_get full (j + m) ≡ slice_get (instance_list u ts) m) →
      FitsAll ps g before ts locals → ((l : List Ty) → ctyped G l other B) →
      Inside u (λ l. ctyped G l inside B) (count_all_binders ps) (bind_patterns ps s) env locals →
      ctyped G env (parts_term ps known s at (suc j) c inside other) B
  typed-parts_term G g known u all no_pat s env at j c B inside other before locals full ts q r b l v h n d f o i = i [] refl (v ∙ ap (local_instances u) (sym f.1))
  typed-parts_term G g known u all (pat p ps) s env at j c B inside other before locals full ts q r b l v h n d f o i =
      let t = f.0 in
      let k : AreTypes (type t f.1) = subst AreTypes f.3 r in
      let z : j ≡ j + 0 = omega arith in
      typed-let G env (proj_term (suc j) c (variable at))
      (match_term p known (None ∷ s) 0 (parts_term ps known (bind_pattern p (None ∷ s)) (at + (count_binders p + 1)) (suc (suc j)) c inside other) other) (apply u t) B b
      (typed-one G env (Strict.proj (suc j) c) (variable at) (types.product (tys_of full)) (apply u t) (apply-type u all.proper t k.0) (typed-variable G env at (types.product (tys_of full)) q h)
      (full, j, refl, n, refl, ap (slice_get full) z ∙ d 0 ∙ ap (λ ts. slice_get (instance_list u ts) 0) f.3))
      (typed-match_term G g known u all p (None ∷ s) (apply u t ∷ env) 0 t B
      (parts_term ps known (bind_pattern p (None ∷ s)) (at + (count_binders p + 1)) (suc (suc j)) c inside other) other before f.2 k.0 b (ap suc l) v refl f.4 o
      (λ new e w.
      typed-parts_term G g known u all ps (bind_pattern p (None ∷ s)) (new ++ (apply u t ∷ env)) (at + (count_binders p + 1)) (suc j) c B inside other f.2 locals full f.1 q k.1 b
      (fits p s env (apply u t) new l e) w (further new env at (count_binders p) (types.product (tys_of full)) (apply u t) e h) n
      (λ m. let y : suc j + m ≡ j + suc m = omega arith in ap (slice_get full) y ∙ d (suc m) ∙ ap (λ ts. slice_get (instance_list u ts) (suc m)) f.3)
      f.5 o
      (typed-inside_part u (λ l'. ctyped G l' inside B) (count_binders p) (count_all_binders ps) (bind_patterns ps (bind_pattern p (None ∷ s))) env locals (apply u t) new e i)))

-- a term in a scope has the type under the instance of the local names
abbrev pub HasIn : Given → Subst → (start_term.Binders → Term) → Locals → Ty → Type 0
HasIn G u t locals T = (s : start_term.Binders) (env : List Ty) → length s ≡ length env → env_of s env ≡ local_instances u locals → ctyped G env (t s) T

pub typed-matching : (G : Given) (g : Environment) (known : Resolutions) (u : Subst) → Typed G g known u →
    (p : Pat) (s : start_term.Binders) (env : List Ty) (t : start_term.Binders → Term) (other : Term) (A B : Ty) (before locals : Locals) → IsType A → IsType B →
    length s ≡ length env → env_of s env ≡ local_instances u before → PatternFits p g before A locals → ((l : List Ty) → ctyped G l other B) → HasIn G u t locals B →
    ctyped G (apply u A ∷ env) (matching p known s t other) B
typed-matching G g known u all p s env t other A B before locals a b l v f o h =
    typed-match_term G g known u all p (None ∷ s) (apply u A ∷ env) 0 A B (t (bind_pattern p (None ∷ s))) other before locals a b (ap suc l) v refl f o
    (λ new e q. h (bind_pattern p (None ∷ s)) (new ++ (apply u A ∷ env)) (fits p s env (apply u A) new l e) q)

-- The types of the parts of an operation are types of the language where that of the whole is, and the operand's where it is not a part of it.

every-type : (Ts : List Ty) → AreTypes (tys_of Ts) → Every IsType Ts
every-type [] h = tt
every-type (T ∷ Ts) h = (h.0, every-type Ts h.1)

every-replicate : (n : ℕ) (T : Ty) → IsType T → Every IsType (replicate n T)
every-replicate zero T h = tt
every-replicate (suc n) T h = (h, every-replicate n T h)

every-append : (Ts Us : List Ty) → Every IsType Ts → Every IsType Us → Every IsType (Ts ++ Us)
every-append [] Us h k = k
every-append (T ∷ Ts) Us h k = (h.0, every-append Ts Us h.1 k)

pub part-types : (s : Strict) (Ts : List Ty) (T : Ty) → IsWrittenForm s → IsType T → strict_rule s Ts T → OperandWithin s Ts → Every IsType Ts
part-types (Strict.nat n) Ts T w h r o = subst (Every IsType) (sym r.0) tt
part-types (Strict.bool b) Ts T w h r o = subst (Every IsType) (sym r.0) tt
part-types (Strict.text s) Ts T w h r o = subst (Every IsType) (sym r.0) tt
part-types Strict.bottom Ts T w h r o = subst (Every IsType) (sym r) tt
part-types Strict.tuple Ts T w h r o = every-type Ts (subst IsType r.1 h).1
part-types (Strict.proj at of) Ts T w h r o = absurd w
part-types (Strict.arith op) Ts T w h r o = subst (Every IsType) (sym r.0) (tt, (tt, tt))
part-types (Strict.compare op) Ts T w h r o = let k = (subst FirstWithin r.1 o).2 in subst (Every IsType) (sym r.1) (k, (k, tt))
part-types Strict.empty Ts T w h r o = subst (Every IsType) (sym r.1) tt
part-types Strict.single Ts T w h r o = let k : IsType r.0 = subst IsType r.2 h in subst (Every IsType) (sym r.1) (k, tt)
part-types Strict.union Ts T w h r o = let k : IsType r.0 = subst IsType r.2 h in subst (Every IsType) (sym r.1) (k, (k, tt))
part-types Strict.gen Ts T w h r o = subst (Every IsType) (sym r.0) (tt, tt)
part-types Strict.get Ts T w h r o = subst (Every IsType) (sym r) (h, tt)
part-types Strict.sub Ts T w h r o = subst (Every IsType) (sym r.2) ((r.1, h), every-replicate r.0 natural tt)
part-types (Strict.dim rank) Ts T w h r o = subst (Every IsType) (sym r.2) ((subst FirstWithin r.2 o).2, tt)
part-types (Strict.index rank) Ts T w h r o = subst (Every IsType) (sym r.2) ((subst FirstWithin r.2 o).2, tt)
part-types (Strict.literal rank) Ts T w h r o =
    let k : IsType (types.array_of rank r.0) = subst IsType r.4 h in
    subst (Every IsType) (sym r.3) (every-append (replicate rank natural) (replicate r.1 r.0) (every-replicate rank natural tt) (every-replicate r.1 r.0 k.1))
