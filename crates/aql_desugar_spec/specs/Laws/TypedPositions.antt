-- The positions before a query have the types that their names and applications have of them.
use Rattle.std.proofs.Common.{◌≡◌, ℕ, zero, suc, true, false, List, [], ◌∷◌, ◌++◌, length, Some, if◌then◌else◌, refl, sym, ap, ◌∙◌, subst, arith, append_assoc, length-append, inl, inr}
use Rattle.std.proofs.lemmas.Bool.{cases_Bool}
use Rattle.std.specs.List.{slice_get}
use Rattle.aql_ty.specs.Types as types
use Rattle.aql_ty.specs.Types.{Ty, natural, Tys, no_type, type, Subst, apply, apply_all, IsType, AreTypes, is_type, IsWithin, Sort, value, macro, apply_sort}
use Rattle.aql_ty.specs.Laws.Types.{apply-apply, apply_var, true_is_type, is_type_true}
use Rattle.aql_syntax.specs.Tree.{Name, Pat, Tree, Declaration, val, mac, read, bare, declared_name}
use Rattle.aql_syntax.specs.Names.{names_equal, find}
use Rattle.aql_syntax.specs.Typing.{Environment, DeclHas, IsInstanceOf, if_name, extend, environment_of, IsPrincipal}
use Rattle.nrca_term.specs.Typing.{instances, ctyped}
use Rattle.nrca_term.specs.Nodes.{bottom_term}
use Rattle.aql_desugar_spec.specs.Start.{Resolved, numbered, inlined, Resolutions, position_term, macro_term, unnamed_binders, inline, start, knowns_of}
use Rattle.aql_desugar_spec.specs.Laws.Positions.{length-unnamed_binders, env_of-unnamed_binders}
use Rattle.aql_syntax.specs.Written.{IsWritten, DeclWritten}
use Rattle.aql_syntax.specs.Laws.Sound.{value-is, argument-is, result-is}
use Rattle.aql_desugar_spec.specs.Laws.{EachPrincipal, sort_types, StartTyped}
use Rattle.aql_desugar_spec.specs.Positions.{value_type}
use Rattle.aql_desugar_spec.specs.Laws.TypedNodes.{Given, Typed, apply-type, typed-bottom, typed-matching}
use Rattle.aql_desugar_spec.specs.Laws.Types.{typed-start}

-- a substitution by types of the language: a number in place of each other type
cured : Ty → Ty
cured t = if is_type t then t else natural

cured-type : (t : Ty) → IsType (cured t)
unfolding cured
cured-type t = elim (cases_Bool (is_type t)) as (λ _. IsType (if is_type t then t else natural)) [
  | inl e ↦ rw e (is_type_true t e)
  | inr e ↦ rw e tt
]

cured-same : (t : Ty) → IsType t → cured t ≡ t
unfolding cured
cured-same t h = rw (true_is_type t h) refl

mutual
  apply-cured : (u : Subst) (t : Ty) → IsType (apply u t) → apply (λ x. cured (u x)) t ≡ apply u t
  apply-cured u natural h = refl
  apply-cured u types.truth h = refl
  apply-cured u types.text h = refl
  apply-cured u (types.var x) h = cured-same (u x) h
  apply-cured u (types.product ts) h = ap types.product (apply_all-cured u ts h.1)
  apply-cured u (types.set_of t) h = ap types.set_of (apply-cured u t h)
  apply-cured u (types.array_of k t) h = ap (types.array_of k) (apply-cured u t h.1)

  apply_all-cured : (u : Subst) (ts : Tys) → AreTypes (apply_all u ts) → apply_all (λ x. cured (u x)) ts ≡ apply_all u ts
  apply_all-cured u no_type h = refl
  apply_all-cured u (type t ts) h = λ n. type (apply-cured u t h.0 n) (apply_all-cured u ts h.1 n)

-- an instance of an instance that is a type of the language is the cured instance
instance-cured : (u v : Subst) (s A : Ty) → IsType (apply u A) → A ≡ apply v s → apply (λ x. cured (apply u (v x))) s ≡ apply u A
instance-cured u v s A h e =
    let is : apply u A ≡ apply (λ x. apply u (v x)) s = ap (apply u) e ∙ apply-apply u v s in
    apply-cured (λ x. apply u (v x)) s (subst IsType is h) ∙ sym is

-- what a macro's body has at an instance of the macro's sort
typed-inline : (G : Given) (ds : List Declaration) → ((w : Subst) → ((x : ℕ) → IsType (w x)) → Typed G (environment_of ds) (knowns_of ds) w) →
    (f : Name) (p : Pat) (body : Tree) → IsWritten body → (u : Subst) → ((x : ℕ) → IsType (u x)) → (A B : Ty) → IsType A → IsType B →
    (v : Subst) (general : Sort) → DeclHas (mac f p body) (environment_of ds) general → macro A B ≡ apply_sort v general →
    (env : List Ty) → ctyped G (apply u A ∷ env) (inline p body (knowns_of ds) (length env)) (apply u B)
typed-inline G ds all f p body w u proper A B a b v (value t) h e env = absurd h
typed-inline G ds all f p body w u proper A B a b v (macro s t) h e env =
    let c : Subst = λ x. cured (apply u (v x)) in
    let here = all c (λ x. cured-type (apply u (v x))) in
    subst (λ T. ctyped G (apply u A ∷ env) (inline p body (knowns_of ds) (length env)) T) (instance-cured u v t B (apply-type u proper B b) (result-is A B (apply v s) (apply v t) e))
    (subst (λ S. ctyped G (S ∷ env) (inline p body (knowns_of ds) (length env)) (apply c t)) (instance-cured u v s A (apply-type u proper A a) (argument-is A B (apply v s) (apply v t) e))
    (typed-matching G (environment_of ds) (knowns_of ds) c here p (unnamed_binders (length env)) env (start body (knowns_of ds)) bottom_term s (apply c t) [] h.0 h.1.2 (apply-type c here.proper t h.2.2)
    (length-unnamed_binders (length env)) (env_of-unnamed_binders env) h.3 (λ m. typed-bottom G m (apply c t) (apply-type c here.proper t h.2.2))
    (typed-start G (environment_of ds) (knowns_of ds) c here body w h.0 t h.2.2 h.4)))

-- each type that a value's position gives is an instance of its principal type
principal-instance : (d : Declaration) (g : Environment) (s : Sort) (u : Subst) (T : Ty) → IsPrincipal d g s → IsInstanceOf d g (value T) → (w : Subst) × (apply u T ≡ apply w (value_type s))
principal-instance d g s u T h k =
    let r = h.general k.1 k.2 in
    go s (k.3 ∙ ap (apply_sort k.0) r.1)
  where
    go : (s : Sort) → value T ≡ apply_sort k.0 (apply_sort (h.general k.1 k.2).0 s) → (w : Subst) × (apply u T ≡ apply w (value_type s))
    go (value S) e =
        let v = (h.general k.1 k.2).0 in (
          λ x. apply u (apply k.0 (v x)),
          ap (apply u) (value-is T (apply k.0 (apply v S)) e ∙ apply-apply k.0 v S) ∙ apply-apply u (λ x. apply k.0 (v x)) S,
        )
    go (macro a b) e = cc

no-macro : (d : Declaration) (g : Environment) → ((s t : Ty) → DeclHas d g (macro s t) → ⊥) → (A B : Ty) → IsInstanceOf d g (macro A B) → ⊥
no-macro d g h A B k = go k.1 k.2 k.3
  where
    go : (general : Sort) → DeclHas d g general → macro A B ≡ apply_sort k.0 general → ⊥
    go (value t) c e = cc
    go (macro s t) c e = h s t c

no-value : (d : Declaration) (g : Environment) → ((t : Ty) → DeclHas d g (value t) → ⊥) → (T : Ty) → IsInstanceOf d g (value T) → ⊥
no-value d g h T k = go k.1 k.2 k.3
  where
    go : (general : Sort) → DeclHas d g general → value T ≡ apply_sort k.0 general → ⊥
    go (value t) c e = h t c
    go (macro s t) c e = cc

one_more : (G : Given) (g : Environment) (known : Resolutions) (u : Subst) (d : Declaration) (k : Resolved) → Typed G g known u →
    ((T : Ty) → IsType T → IsInstanceOf d g (value T) → (env : List Ty) → ctyped G env (position_term (Some k)) (apply u T)) →
    ((A B : Ty) → IsType A → IsType B → IsInstanceOf d g (macro A B) → (env : List Ty) → ctyped G (apply u A ∷ env) (macro_term (Some k) (length env)) (apply u B)) →
    Typed G (extend d g) ((declared_name d, k) ∷ known) u
one_more G g known u d k all a b = record {
  proper = all.proper;
  names = λ x T h env. (elim (names_equal x (declared_name d)) as (λ t. if_name t (IsWithin T × IsInstanceOf d g (value T)) (g.has x T) →
      ctyped G env (position_term (if t then Some k else find x known)) (apply u T)) [
        | true ↦ λ c. a T c.0.2 c.1 env
        | false ↦ λ c. all.names x T c env
      ]) h;
  arguments = λ f A B h. (elim (names_equal f (declared_name d)) as (λ t. if_name t (IsWithin A × IsWithin B × IsInstanceOf d g (macro A B)) (g.takes f A B) → IsType A) [
    | true ↦ λ c. c.0.2
    | false ↦ λ c. all.arguments f A B c
  ]) h;
  calls = λ f A B h env. (elim (names_equal f (declared_name d)) as (λ t. if_name t (IsWithin A × IsWithin B × IsInstanceOf d g (macro A B)) (g.takes f A B) →
      ctyped G (apply u A ∷ env) (macro_term (if t then Some k else find f known) (length env)) (apply u B)) [
        | true ↦ λ c. b A B c.0.2 c.1.2 c.2 env
        | false ↦ λ c. all.calls f A B c env
      ]) h;
}

last_type : (Ts later : List Ty) (T : Ty) (n : ℕ) → n ≡ length Ts → slice_get (Ts ++ (T ∷ later)) n ≡ Some T
last_type [] later T zero e = refl
last_type [] later T (suc n) e = absurd (omega arith)
last_type (S ∷ Ts) later T zero e = absurd (omega arith)
last_type (S ∷ Ts) later T (suc n) e = last_type Ts later T n (omega arith)

length-types : (ds : List Declaration) (sorts : List Sort) → EachPrincipal ds sorts → length ds ≡ length (sort_types sorts)
length-types [] sorts h = ap (λ l. length (sort_types l)) (sym h)
length-types (d ∷ ds) sorts h =
    (let i = length-types ds h.1 h.5 in let j = length-append (sort_types h.1) (value_type h.0 ∷ []) in
    let z : suc (length ds) ≡ length (sort_types (h.0 ∷ h.1)) = omega arith in z) ∙ ap (λ l. length (sort_types l)) (sym h.2)

-- the positions before one of sort s have their types under each substitution
abbrev Before : Sort → List Sort → List Declaration → List Ty → Type 0
Before s sorts ds later = (w : Subst) → ((x : ℕ) → IsType (w x)) → Typed (instances (sort_types sorts ++ (value_type s ∷ later))) (environment_of ds) (knowns_of ds) w

pub typed-positions : (ds : List Declaration) (sorts : List Sort) → EachPrincipal ds sorts → (later : List Ty) (u : Subst) → ((x : ℕ) → IsType (u x)) →
    Typed (instances (sort_types sorts ++ later)) (environment_of ds) (knowns_of ds) u
typed-positions [] sorts h later u proper = record { proper = proper; names = λ x T k env. absurd k; arguments = λ f A B k. absurd k; calls = λ f A B k env. absurd k }
typed-positions (d ∷ ds) sorts h later u proper =
    subst (λ l. Typed (instances (sort_types l ++ later)) (environment_of (d ∷ ds)) (knowns_of (d ∷ ds)) u) (sym h.2)
    (subst (λ l. Typed (instances l) (environment_of (d ∷ ds)) (knowns_of (d ∷ ds)) u) (sym (append_assoc (sort_types h.1) (value_type h.0 ∷ []) later))
    (one d h.3 h.4 (λ w p. typed-positions ds h.1 h.5 (value_type h.0 ∷ later) w p)))
  where
    position : (d : Declaration) → IsPrincipal d (environment_of ds) h.0 → ((s t : Ty) → DeclHas d (environment_of ds) (macro s t) → ⊥) → Before h.0 h.1 ds later →
        Typed (instances (sort_types h.1 ++ (value_type h.0 ∷ later))) (extend d (environment_of ds)) ((declared_name d, numbered (suc (length ds))) ∷ knowns_of ds) u
    position d i n before =
        one_more _ (environment_of ds) (knowns_of ds) u d (numbered (suc (length ds))) (before u proper)
        (λ T t k env.
        let r = principal-instance d (environment_of ds) h.0 u T i k in
        (apply-type u proper T t, [], (refl, (value_type h.0, r.0, last_type (sort_types h.1) later (value_type h.0) (length ds) (length-types ds h.1 h.5), r.1)), refl))
        (λ A B a b k env. absurd (no-macro d (environment_of ds) n A B k))

    one : (d : Declaration) → DeclWritten d → IsPrincipal d (environment_of ds) h.0 → Before h.0 h.1 ds later → Typed (instances (sort_types h.1 ++ (value_type h.0 ∷ later))) (environment_of (d ∷ ds)) (knowns_of (d ∷ ds)) u
    one (val x e) w i before = position (val x e) i (λ s t k. k) before
    one (mac f p body) w i before =
        one_more _ (environment_of ds) (knowns_of ds) u (mac f p body) (inlined (inline p body (knowns_of ds))) (before u proper)
        (λ T t k env. absurd (no-value (mac f p body) (environment_of ds) (λ t k. k) T k))
        (λ A B a b k env. typed-inline _ ds before f p body w u proper A B a b k.0 k.1 k.2 k.3 env)
    one (read x r e) w i before = position (read x r e) i (λ s t k. k) before
    one (bare e) w i before = position (bare e) i (λ s t k. k) before

pub start-typed : StartTyped
start-typed ds sorts later e T h w k i =
    subst (λ U. ctyped (instances (sort_types sorts ++ later)) [] (start e (knowns_of ds) []) U) (apply_var T)
    (typed-start _ (environment_of ds) (knowns_of ds) types.var (typed-positions ds sorts h later types.var (λ x. tt)) e w [] T k i [] [] refl refl)
