-- What the start term of a declaration is, by the laws of start terms and what inference answers.
use Rattle.std.proofs.Common.{◌≡◌, ◌<◌, ◌≤◌, ◌*◌, ℕ, zero, suc, ◌+◌, ◌-◌, List, [], ◌∷◌, ◌++◌, length, map, take, get_or, Option, Some, None, IsSome, Result, Ok, Err, IfErr, refl, sym, ap, ◌∙◌, subst, reverse, arith, append-nil, append_assoc, length-append}
use Rattle.std.proofs.lemmas.Grind.{get_or_at_push}
use Rattle.std.specs.List.{slice_get}
use mathlib.Core.List.{reverse_aux}
use Rattle.aql_ty.specs.Types.{Ty, Sort, value, macro}
use Rattle.aql_syntax.specs.Tree as tree
use Rattle.aql_syntax.specs.Tree.{Tree, Declaration}
use Rattle.aql_syntax.specs.View.{tree_of, decl_of, decls_of}
use Rattle.aql_syntax.specs.Measured.{latest}
use Rattle.aql_syntax.specs.Typing.{Environment, Has, DeclHas, environment_of, argument_type}
use Rattle.aql_syntax.specs.Size as sizes
use Rattle.aql_syntax.specs.Size.{before, expanded_size, expanded_levels, size_at, levels_at, size, levels, extents_of, most_nodes, most_levels, AreWithin, IsWithinLimits}
use Rattle.aql_syntax.specs.declared.ast.Decl.{Decl}
use Rattle.aql_syntax.specs.declared.ast.Decl.TheVariants.{Bare}
use Rattle.aql_syntax.specs.declared.ast.Expr.{Expr}
use Rattle.aql_infer_steps.specs.Typed.{ArePrincipal}
use Rattle.nrca_term.specs.Term.{Term, Closed, WellFormed, weight_of, IsSmall}
use Rattle.nrca_term.specs.Meaning.{cden}
use Rattle.nrca_term.specs.Turns.{settle}
use Rattle.nrca_term.specs.Typing.{instances, ctyped}
use Rattle.aql_desugar_spec.specs.Start.{start, knowns_of, query}
use Rattle.aql_desugar_spec.specs.Laws.{sort_types, EachHas, EachPrincipal}
use Rattle.aql_desugar_spec.specs.Positions.{outcomes_of, value_type}
use Rattle.aql_syntax.specs.Written.{IsWritten}
use Rattle.aql_syntax.specs.Laws.Written.{written, decl_written}
use Rattle.aql_syntax.specs.Laws.Measuring.{latest-take}
use Rattle.aql_desugar_spec.specs.Laws.Positions.{start-means, start-turns}
use Rattle.aql_desugar_spec.specs.Laws.ClosedLaws.{start-closes}
use Rattle.aql_desugar_spec.specs.Laws.WellFormedLaws.{start-formed}
use Rattle.aql_desugar_spec.specs.Laws.Weight.{start-weighs}
use Rattle.aql_desugar_spec.specs.Laws.TypedPositions.{start-typed}
use Rattle.aql_desugar.specs.Laws.Positions.{query_here}
use Rattle.aql_desugar.specs.Translation.{query_at, query_of, types_before, IsTranslated, IsFaultAt, IsTranslationFault}
use Rattle.aql_desugar.specs.declared.fault.Fault.{Fault}

-- Lists of declarations.

-- those before a declaration
pub latest_before : (ds : List Decl) (n i : ℕ) → i ≡ n - 1 → latest (take i ds) ≡ before (decls_of ds) n
latest_before ds n i e = latest-take i ds ∙ ap (λ k. reverse (take k (decls_of ds))) e

-- Sizes.

size_here : (o : Option Declaration) (e : Tree) (earlier : List Declaration) → query_at o ≡ Some e → size_at o (extents_of earlier) ≡ size e (extents_of earlier)
size_here None e earlier q = cc
size_here (Some (tree.val x a)) e earlier q = let k : a ≡ e = cc in ap (λ t. size t (extents_of earlier)) k
size_here (Some (tree.mac f p a)) e earlier q = cc
size_here (Some (tree.read x r a)) e earlier q = let k : a ≡ e = cc in ap (λ t. size t (extents_of earlier)) k
size_here (Some (tree.bare a)) e earlier q = let k : a ≡ e = cc in ap (λ t. size t (extents_of earlier)) k

pub expanded_size-query : (ds : List Declaration) (n : ℕ) (e : Tree) → query_of ds n ≡ Some e → expanded_size ds n ≡ size e (extents_of (before ds n))
expanded_size-query ds n e q = size_here (slice_get ds (n - 1)) e (before ds n) q

levels_here : (o : Option Declaration) (e : Tree) (earlier : List Declaration) → query_at o ≡ Some e → levels_at o (extents_of earlier) ≡ levels e (extents_of earlier)
levels_here None e earlier q = cc
levels_here (Some (tree.val x a)) e earlier q = let k : a ≡ e = cc in ap (λ t. levels t (extents_of earlier)) k
levels_here (Some (tree.mac f p a)) e earlier q = cc
levels_here (Some (tree.read x r a)) e earlier q = let k : a ≡ e = cc in ap (λ t. levels t (extents_of earlier)) k
levels_here (Some (tree.bare a)) e earlier q = let k : a ≡ e = cc in ap (λ t. levels t (extents_of earlier)) k

pub expanded_levels-query : (ds : List Declaration) (n : ℕ) (e : Tree) → query_of ds n ≡ Some e → expanded_levels ds n ≡ levels e (extents_of (before ds n))
expanded_levels-query ds n e q = levels_here (slice_get ds (n - 1)) e (before ds n) q

-- What inference answers.

-- each declaration of a front is written in the surface language, and has its principal sort over those before it
each_principal : (i : ℕ) (ds : List Decl) (ss : List Sort) (earlier : List Declaration) (sorts : List Sort) → ArePrincipal earlier (decls_of ds) ss →
    EachPrincipal earlier sorts → EachPrincipal (reverse_aux (take i (decls_of ds)) earlier) (reverse_aux (take i ss) sorts)
each_principal zero ds ss earlier sorts h k = k
each_principal (suc i) [] [] earlier sorts h k = k
each_principal (suc i) [] (s ∷ ss) earlier sorts h k = absurd h
each_principal (suc i) (d ∷ ds) [] earlier sorts h k = absurd h
each_principal (suc i) (d ∷ ds) (s ∷ ss) earlier sorts h k =
    each_principal i ds ss (decl_of d ∷ earlier) (s ∷ sorts) h.1 (s, sorts, refl, decl_written d, h.0.principal, k)

each_has : (earlier : List Declaration) (sorts : List Sort) → EachPrincipal earlier sorts → EachHas earlier
each_has [] sorts h = tt
each_has (d ∷ earlier) sorts (s, rest, e, w, p, h) = ((s, p.has), each_has earlier rest h)

-- the declaration itself has a sort
has_sort : (i : ℕ) (ds : List Declaration) (ss : List Sort) (earlier : List Declaration) (d : Declaration) → ArePrincipal earlier ds ss →
    slice_get ds i ≡ Some d → (s : Sort) × DeclHas d (environment_of (reverse_aux (take i ds) earlier)) s
has_sort i [] ss earlier d h e = absurd (let bad : ⊥ = cc in bad)
has_sort i (x ∷ ds) [] earlier d h e = absurd h
has_sort zero (x ∷ ds) (s ∷ ss) earlier d h e =
    let k : x ≡ d = cc in (s, subst (λ y. DeclHas y (environment_of earlier) s) k h.0.principal.has)
has_sort (suc i) (x ∷ ds) (s ∷ ss) earlier d h e = has_sort i ds ss (x ∷ earlier) d h.1 e

-- an expression of a declaration that has a sort has a type
has_type : (d : Declaration) (g : Environment) (s : Sort) (e : Tree) → DeclHas d g s → query d ≡ Some e → (T : Ty) × Has e g [] T
has_type (tree.val x a) g (value t) e h q = let k : a ≡ e = cc in (t, subst (λ y. Has y g [] t) k h.1)
has_type (tree.val x a) g (macro s t) e h q = absurd h
has_type (tree.mac f p a) g s e h q = absurd (let bad : ⊥ = cc in bad)
has_type (tree.read x r a) g (value t) e h q = let k : a ≡ e = cc in (argument_type r, subst (λ y. Has y g [] (argument_type r)) k h.3)
has_type (tree.read x r a) g (macro s t) e h q = absurd h
has_type (tree.bare a) g (value t) e h q = let k : a ≡ e = cc in (t, subst (λ y. Has y g [] t) k h.1)
has_type (tree.bare a) g (macro s t) e h q = absurd h

types_onto : (ss sorts : List Sort) → sort_types (reverse_aux ss sorts) ≡ sort_types sorts ++ map value_type ss
types_onto [] sorts = sym (append-nil (sort_types sorts))
types_onto (s ∷ ss) sorts = types_onto ss (s ∷ sorts) ∙ append_assoc (sort_types sorts) (value_type s ∷ []) (map value_type ss)

-- the declaration that has the expression
declaration_at : (o : Option Declaration) (e : Tree) → query_at o ≡ Some e → (d : Declaration) × (o ≡ Some d) × (query d ≡ Some e)
declaration_at None e q = absurd (let bad : ⊥ = cc in bad)
declaration_at (Some d) e q = (d, refl, q)

-- the expression of a declaration of a script that inference answers has a type
query_typed : (ds : List Declaration) (sorts : List Sort) (n : ℕ) (e : Tree) → ArePrincipal [] ds sorts → query_of ds n ≡ Some e →
    (T : Ty) × Has e (environment_of (before ds n)) [] T
query_typed ds sorts n e h q =
    let found = declaration_at (slice_get ds (n - 1)) e q in
    let sort = has_sort (n - 1) ds sorts [] found.0 h found.1 in
    has_type found.0 (environment_of (before ds n)) sort.0 e sort.1 found.2

-- The whole.

pub translated : (ds : List Decl) (sorts : List Sort) (n i : ℕ) (e : Tree) (t : Term) → i ≡ n - 1 → IsWritten e → query_of (decls_of ds) n ≡ Some e →
    t ≡ start e (knowns_of (latest (take i ds))) [] → IsTranslated (decls_of ds) sorts n e t
translated ds sorts n i e t at w q is =
    let earlier : List Declaration = before (decls_of ds) n in
    let made : t ≡ start e (knowns_of earlier) [] = is ∙ ap (λ k. start e (knowns_of k) []) (latest_before ds n i at) in
    record {
      exact = made;
      closed = subst (Closed 0) (sym made) (start-closes earlier e);
      well_formed = subst WellFormed (sym made) (start-formed earlier e);
      meaning = λ outcomes later h. ap (cden (outcomes_of outcomes ++ later) []) (made ∙ ap (λ k. start e (knowns_of k) []) (sym h)) ∙ start-means outcomes later e;
      turns = λ outcomes later h. ap (settle (outcomes_of outcomes ++ later) []) (made ∙ ap (λ k. start e (knowns_of k) []) (sym h)) ∙ start-turns outcomes later e;
      weight = λ h.
          let each = each_principal (n - 1) ds sorts [] [] h refl in
          let typed = query_typed (decls_of ds) sorts n e h q in
          subst (λ x. weight_of x ≤ 64 * expanded_size (decls_of ds) n) (sym made)
          (subst (λ k. weight_of (start e (knowns_of earlier) []) ≤ 64 * k) (sym (expanded_size-query (decls_of ds) n e q))
          (start-weighs earlier e typed.0 (each_has earlier _ each) typed.1));
      types = λ h later T ty has.
          let each = each_principal (n - 1) ds sorts [] [] h refl in
          subst (λ x. ctyped (instances (types_before sorts n ++ later)) [] x T) (sym made)
          (subst (λ ts. ctyped (instances (ts ++ later)) [] (start e (knowns_of earlier) []) T) (types_onto (take (n - 1) sorts) [])
          (start-typed earlier (reverse (take (n - 1) sorts)) later e T each w ty has));
    }

-- The same of the code's expression, which is translated after a list of declarations.

pub chosen : (ds : List Decl) (n i : ℕ) (d : Decl) (x : Expr) → i ≡ n - 1 → i < length ds → d ≡ get_or ds i d → Some (tree_of x) ≡ query (decl_of d) →
    query_of (decls_of ds) n ≡ Some (tree_of x)
chosen ds n i d x at lt is q = query_here ds n i d at lt is ∙ sym q

pub chosen_some : (ds : List Decl) (n i : ℕ) (d : Decl) → i ≡ n - 1 → i < length ds → d ≡ get_or ds i d → None ≡ query (decl_of d) →
    IsSome (query_of (decls_of ds) n) → ⊥
chosen_some ds n i d at lt is q h = let bad : query_of (decls_of ds) n ≡ None = query_here ds n i d at lt is ∙ sym q in let worse = subst IsSome bad h in cc

-- a declaration that is chosen, and those before it
pub record Chosen (ds before : List Decl) (n : ℕ) (x : Expr) : Type 0 where
  pub query : query_of (decls_of ds) n ≡ Some (tree_of x)
  pub front : before ≡ take (n - 1) ds

pub translated_here : (ds before : List Decl) (n : ℕ) (x : Expr) → Chosen ds before n x → (sorts : List Sort) (t : Term) →
    t ≡ start (tree_of x) (knowns_of (latest before)) [] →
    (e : Tree) → query_of (decls_of ds) n ≡ Some e → IsTranslated (decls_of ds) sorts n e t
translated_here ds before n x h sorts t is e q =
    let k : tree_of x ≡ e = cc (h.query, q) in
    subst (λ y. IsTranslated (decls_of ds) sorts n y t) k
    (translated ds sorts n (n - 1) (tree_of x) t refl (written x) h.query (is ∙ ap (λ l. start (tree_of x) (knowns_of (latest l)) []) h.front))

earlier_here : (ds before : List Decl) (n : ℕ) (x : Expr) → Chosen ds before n x → latest before ≡ sizes.before (decls_of ds) n
earlier_here ds before n x h = ap latest h.front ∙ latest_before ds n (n - 1) refl

size_here-code : (ds before : List Decl) (n : ℕ) (x : Expr) → Chosen ds before n x → expanded_size (decls_of ds) n ≡ size (tree_of x) (extents_of (latest before))
size_here-code ds before n x h = expanded_size-query (decls_of ds) n (tree_of x) h.query ∙ ap (λ l. size (tree_of x) (extents_of l)) (sym (earlier_here ds before n x h))

levels_here-code : (ds before : List Decl) (n : ℕ) (x : Expr) → Chosen ds before n x → expanded_levels (decls_of ds) n ≡ levels (tree_of x) (extents_of (latest before))
levels_here-code ds before n x h =
    expanded_levels-query (decls_of ds) n (tree_of x) h.query ∙ ap (λ l. levels (tree_of x) (extents_of l)) (sym (earlier_here ds before n x h))

pub within_here : (ds before : List Decl) (n : ℕ) (x : Expr) → Chosen ds before n x →
    AreWithin (size (tree_of x) (extents_of (latest before))) (levels (tree_of x) (extents_of (latest before))) → IsWithinLimits (decls_of ds) n
within_here ds before n x h w =
    (subst (λ k. k ≤ most_nodes) (sym (size_here-code ds before n x h)) w.0, subst (λ k. k ≤ most_levels) (sym (levels_here-code ds before n x h)) w.1)

pub fault_here : (ds before : List Decl) (n : ℕ) (x : Expr) → Chosen ds before n x → (f : Fault) →
    IsFaultAt (size (tree_of x) (extents_of (latest before))) (levels (tree_of x) (extents_of (latest before))) f → IsTranslationFault (decls_of ds) n f
fault_here ds before n x h f w =
    subst (λ k. IsFaultAt k (expanded_levels (decls_of ds) n) f) (sym (size_here-code ds before n x h))
    (subst (λ k. IsFaultAt (size (tree_of x) (extents_of (latest before))) k f) (sym (levels_here-code ds before n x h)) w)

-- within the limits the weight is at most 64 times 20,000
pub small_within : (ds before : List Decl) (n : ℕ) (x : Expr) → Chosen ds before n x → (sorts : List Sort) (t : Term) →
    t ≡ start (tree_of x) (knowns_of (latest before)) [] → IsWithinLimits (decls_of ds) n → ArePrincipal [] (decls_of ds) sorts → IsSmall 0 t
small_within ds before n x h sorts t is fits p =
    let made = translated_here ds before n x h sorts t is (tree_of x) h.query in
    omega (arith, made.weight p, fits.0)

pub small_here : (ds before : List Decl) (n : ℕ) (x : Expr) → Chosen ds before n x → (sorts : List Sort) (t : Term) →
    t ≡ start (tree_of x) (knowns_of (latest before)) [] →
    AreWithin (size (tree_of x) (extents_of (latest before))) (levels (tree_of x) (extents_of (latest before))) →
    ArePrincipal [] (decls_of ds) sorts → IsSmall 0 t
small_here ds before n x h sorts t is w p = small_within ds before n x h sorts t is (within_here ds before n x h w) p

-- what follows from what is known of a fault
pub err_map : {T E : Type 0} (r : Result T E) (P Q : E → Type 0) → ((x : E) → P x → Q x) → IfErr r P → IfErr r Q
err_map (Ok x) P Q f h = tt
err_map (Err e) P Q f h = f e h

-- a bare expression at the end
pub query_last : (ds all : List Decl) (e : Expr) (n : ℕ) → all ≡ ds ++ Bare e ∷ [] → n ≡ length all → IsSome (query_of (decls_of all) n)
query_last ds all e n h k =
    let count : length all ≡ length ds + 1 = ap length h ∙ length-append ds (Bare e ∷ []) in
    let room : length ds < length (ds ++ Bare e ∷ []) = omega (arith, length-append ds (Bare e ∷ [])) in
    let found : query_of (decls_of (ds ++ Bare e ∷ [])) n ≡ Some (tree_of e) =
    query_here (ds ++ Bare e ∷ []) n (length ds) (Bare e) (omega (arith, count, k)) room (sym (get_or_at_push ds (Bare e)).1) in
    subst IsSome (sym (ap (λ l. query_of (decls_of l) n) h ∙ found)) refl
