-- What follows from the definitions of `Principal`.
use Rattle.std.proofs.Common.{ℕ, zero, suc, ◌-◌, ◌≡◌, ◌<◌, Bool, true, false, List, [], ◌∷◌, ◌++◌, take, reverse, slice_get, append-nil, append_assoc, Option, Some, None, refl, sym, ap, ◌∙◌, subst, if◌then◌else◌}
use mathlib.Core.List.{reverse-cons}
use Rattle.aql_ty.specs.Types.{Ty, var, Tys, no_type, type, Subst, apply, IsWithin, Sort, value, macro, apply_sort}
use Rattle.aql_types.specs.Unifiers.{Equations, AllUnify, AllWithin, IsBest}
use Rattle.aql_ty.specs.Laws.Types.{apply-apply, apply_same, apply_sort-apply}
use Rattle.aql_syntax.specs.Tree.{Name, Declaration, declared_name}
use Rattle.aql_syntax.specs.Names.{names_equal, find}
use Rattle.aql_syntax.specs.Size.{before}
use Rattle.aql_syntax.specs.Typing.{Environment, DeclHas, IsInstanceOf, if_name, extend, environment_of, IsPrincipal}
use Rattle.aql_infer_steps.specs.Constraints.{NumberedScheme, NumberedSchemes, initial, Made, make_decl}
use Rattle.aql_infer_steps.specs.Laws.Steps.{Alive, SoundIn, FoundIn, Extended}
use Rattle.aql_infer_steps.specs.Describes.{SortHas, SortTakes, SchemeHas, SchemeTakes, IsClosedSort, SchemeClosed, Describes}
use Rattle.aql_syntax.specs.Written.{DeclWritten}
use Rattle.aql_syntax.specs.Laws.Sound.{value-is, argument-is, result-is}
use Rattle.aql_infer_steps.specs.Laws.Sound.{decl_sound}
use Rattle.aql_infer_steps.specs.Laws.Complete.{IsSort, decl_found, macros}
use Rattle.aql_ty.specs.Variables.{sort_variables, variable_index}
use Rattle.aql_infer_steps.specs.Numbering.{names_back, IsNumbered}
use Rattle.aql_infer_steps.specs.Laws.Numbering.{number_undone, number_closed, named_within, number_numbered}
use Rattle.aql_infer_steps.specs.Principal.{IsInferred, HasNoSolution, IsNotInferred}
use Rattle.aql_infer_steps.specs.Typed.{ArePrincipal, IsPrincipalScheme}

sort_same : (u v : Subst) → ((x : ℕ) → u x ≡ v x) → (s : Sort) → apply_sort u s ≡ apply_sort v s
sort_same u v h (value t) = ap value (apply_same u v h t)
sort_same u v h (macro a b) = macros (apply_same u v h a) (apply_same u v h b)

begun : {u : Subst} → Alive u initial
begun = record { unify = tt; within = tt; sides = tt }

-- nothing is inferred: no sort
pub untyped : (d : Declaration) → DeclWritten d → (g : Environment) (ss : NumberedSchemes) → Describes g ss → IsNotInferred d ss → (s : Sort) → DeclHas d g s → ⊥
untyped d z g ss k none s h = go (make_decl d ss initial) none (decl_found d z g ss k s {n = initial} {u = var} h).found
  where
    go : (o : Option (Made Sort)) → HasNoSolution o → FoundIn initial var (IsSort s) o → ⊥
    go None none found = found
    go (Some m) none found =
        let holds = found.holds found.grow (λ x lt. refl) in
        let a = holds.0 begun in
        none found.grow (record { unifies = a.unify; sides = a.sides; uses = a.within })

kept : (d : Declaration) → DeclWritten d → (g : Environment) (ss : NumberedSchemes) → Describes g ss → (m : Made Sort) → make_decl d ss initial ≡ Some m →
    (s : Sort) → DeclHas d g s → Extended initial var (IsSort s) m
kept d z g ss k m e s h = subst (FoundIn initial var (IsSort s)) e (decl_found d z g ss k s {n = initial} {u = var} h).found

-- the sort under any solution
typed : (d : Declaration) (g : Environment) (ss : NumberedSchemes) → Describes g ss → (m : Made Sort) → make_decl d ss initial ≡ Some m →
    (u : Subst) → AllUnify u m.state.eqs → AllWithin u m.state.uses → DeclHas d g (apply_sort u m.result)
typed d g ss k m e u h w =
    (subst (SoundIn initial u (λ s. DeclHas d g (apply_sort u s))) e (decl_sound d u g ss k initial).holds (record { unify = h; within = w })).1

principal : (d : Declaration) → DeclWritten d → (g : Environment) (ss : NumberedSchemes) → Describes g ss → (m : Made Sort) → make_decl d ss initial ≡ Some m →
    (s : Subst) → IsBest m.state.eqs m.state.uses s → IsPrincipal d g (apply_sort s m.result)
principal d z g ss k m e s best = record {
  has = typed d g ss k m e s best.unifies best.within;
  general = λ t h.
      let found = kept d z g ss k m e t h in
      let holds = found.holds found.grow (λ x lt. refl) in (
        found.grow,
        sym holds.1
            ∙ sort_same found.grow (λ x. apply found.grow (s x)) (best.general found.grow (holds.0 begun).unify) m.result
            ∙ sym (apply_sort-apply found.grow s m.result),
      );
}

-- Renaming.
renamed_unify : (f : ℕ → ℕ) (s : Subst) (es : Equations) → AllUnify s es → AllUnify (λ x. apply (λ y. var (f y)) (s x)) es
renamed_unify f s [] h = tt
renamed_unify f s ((a, b) ∷ es) h =
    (sym (apply-apply (λ y. var (f y)) s a) ∙ ap (apply (λ y. var (f y))) h.0 ∙ apply-apply (λ y. var (f y)) s b, renamed_unify f s es h.1)

renamed_within : (f : ℕ → ℕ) (s : Subst) (ts : Tys) → AllWithin s ts → AllWithin (λ x. apply (λ y. var (f y)) (s x)) ts
renamed_within f s no_type h = tt
renamed_within f s (type t ts) h = (subst IsWithin (apply-apply (λ y. var (f y)) s t) (named_within f (apply s t) h.0), renamed_within f s ts h.1)

-- any change of the variables' names that can be undone
renamed : (d : Declaration) → DeclWritten d → (g : Environment) (ss : NumberedSchemes) → Describes g ss → (m : Made Sort) → make_decl d ss initial ≡ Some m →
    (s : Subst) → IsBest m.state.eqs m.state.uses s → (f : ℕ → ℕ) (back : Subst) →
    apply_sort back (apply_sort (λ x. var (f x)) (apply_sort s m.result)) ≡ apply_sort s m.result →
    IsPrincipal d g (apply_sort (λ x. var (f x)) (apply_sort s m.result))
renamed d z g ss k m e s best f back same = record {
  has = subst (DeclHas d g) (sym (apply_sort-apply (λ x. var (f x)) s m.result))
      (typed d g ss k m e (λ x. apply (λ y. var (f y)) (s x)) (renamed_unify f s m.state.eqs best.unifies) (renamed_within f s m.state.uses best.within));
  general = λ t h.
      let p = (principal d z g ss k m e s best).general t h in (
        (λ x. apply p.0 (back x)),
        p.1 ∙ ap (apply_sort p.0) (sym same) ∙ apply_sort-apply p.0 back (apply_sort (λ x. var (f x)) (apply_sort s m.result)),
      );
}

-- what is inferred is principal
pub inferred_principal : (d : Declaration) → DeclWritten d → (g : Environment) (ss : NumberedSchemes) → Describes g ss → (s : NumberedScheme) → IsInferred d ss s → IsPrincipal d g s.sort
inferred_principal d z g ss k s i =
    let o = apply_sort i.solution i.made.result in
    subst (IsPrincipal d g) (sym i.sort)
    (renamed d z g ss k i.made i.is i.solution i.best (λ x. variable_index x (sort_variables o)) (names_back o) (number_undone o))

-- its variables are numbered by first appearance
pub inferred_numbered : (d : Declaration) (ss : NumberedSchemes) (s : NumberedScheme) → IsInferred d ss s → IsNumbered s.sort
inferred_numbered d ss s i = subst IsNumbered (sym i.sort) (number_numbered (apply_sort i.solution i.made.result))

inferred_closed : (d : Declaration) (ss : NumberedSchemes) (s : NumberedScheme) → IsInferred d ss s → IsClosedSort s.variables s.sort
inferred_closed d ss s i u v h =
    let o = apply_sort i.solution i.made.result in
    ap (apply_sort u) i.sort ∙ number_closed o u v (λ x lt. h x (subst (λ (k : ℕ). x < k) (sym i.variables) lt)) ∙ sym (ap (apply_sort v) i.sort)

-- The positions, one after another.
new_has : (d : Declaration) (g : Environment) (s : Sort) → IsPrincipal d g s → (t : Ty) → SortHas s t → IsWithin t × IsInstanceOf d g (value t)
new_has d g (macro a b) p t h = absurd h
new_has d g (value r) p t h = (h.0, (h.1.0, value r, p.has, ap value h.1.1))

had_sort : (s : Sort) (w : Subst) (t : Ty) → IsWithin t → value t ≡ apply_sort w s → SortHas s t
had_sort (value r) w t h e = (h, (w, value-is _ _ e))
had_sort (macro a b) w t h e = cc

new_had : (d : Declaration) (g : Environment) (s : Sort) → IsPrincipal d g s → (t : Ty) → IsWithin t × IsInstanceOf d g (value t) → SortHas s t
new_had d g s p t h =
    let q = p.general h.1.1 h.1.2 in
    had_sort s (λ x. apply h.1.0 (q.0 x)) t h.0 (h.1.3 ∙ ap (apply_sort h.1.0) q.1 ∙ apply_sort-apply h.1.0 q.0 s)

new_takes : (d : Declaration) (g : Environment) (s : Sort) → IsPrincipal d g s → (a t : Ty) → SortTakes s a t →
    IsWithin a × IsWithin t × IsInstanceOf d g (macro a t)
new_takes d g (value r) p a t h = absurd h
new_takes d g (macro b c) p a t h = (h.0, h.1, (h.2.0, macro b c, p.has, macros h.2.1 h.2.2))

taken_sort : (s : Sort) (w : Subst) (a t : Ty) → IsWithin a → IsWithin t → macro a t ≡ apply_sort w s → SortTakes s a t
taken_sort (value r) w a t h k e = cc
taken_sort (macro b c) w a t h k e = (h, k, (w, argument-is _ _ _ _ e, result-is _ _ _ _ e))

new_taken : (d : Declaration) (g : Environment) (s : Sort) → IsPrincipal d g s → (a t : Ty) → IsWithin a × IsWithin t × IsInstanceOf d g (macro a t) →
    SortTakes s a t
new_taken d g s p a t h =
    let q = p.general h.2.1 h.2.2 in
    taken_sort s (λ x. apply h.2.0 (q.0 x)) a t h.0 h.1 (h.2.3 ∙ ap (apply_sort h.2.0) q.1 ∙ apply_sort-apply h.2.0 q.0 s)

described : (d : Declaration) (g : Environment) (ss : NumberedSchemes) → Describes g ss → (s : NumberedScheme) → IsPrincipal d g s.sort →
    IsClosedSort s.variables s.sort → Describes (extend d g) ((declared_name d, s) ∷ ss)
described d g ss k s p c = record {
  has = λ x t. has (names_equal x (declared_name d)) x t;
  had = λ x t. had (names_equal x (declared_name d)) x t;
  takes = λ x a t. takes (names_equal x (declared_name d)) x a t;
  taken = λ x a t. taken (names_equal x (declared_name d)) x a t;
  closed = λ x. closed (names_equal x (declared_name d)) x;
}
  where
    has : (b : Bool) (x : Name) (t : Ty) → SchemeHas (if b then Some s else find x ss) t → if_name b (IsWithin t × IsInstanceOf d g (value t)) (g.has x t)
    has true x t h = new_has d g s.sort p t h
    has false x t h = k.has x t h

    had : (b : Bool) (x : Name) (t : Ty) → if_name b (IsWithin t × IsInstanceOf d g (value t)) (g.has x t) → SchemeHas (if b then Some s else find x ss) t
    had true x t h = new_had d g s.sort p t h
    had false x t h = k.had x t h

    takes : (b : Bool) (x : Name) (a t : Ty) → SchemeTakes (if b then Some s else find x ss) a t →
        if_name b (IsWithin a × IsWithin t × IsInstanceOf d g (macro a t)) (g.takes x a t)
    takes true x a t h = new_takes d g s.sort p a t h
    takes false x a t h = k.takes x a t h

    taken : (b : Bool) (x : Name) (a t : Ty) → if_name b (IsWithin a × IsWithin t × IsInstanceOf d g (macro a t)) (g.takes x a t) →
        SchemeTakes (if b then Some s else find x ss) a t
    taken true x a t h = new_taken d g s.sort p a t h
    taken false x a t h = k.taken x a t h

    closed : (b : Bool) (x : Name) → SchemeClosed (if b then Some s else find x ss)
    closed true x = c
    closed false x = k.closed x

-- before the first position
pub none_described : Describes (environment_of []) []
none_described = record {
  has = λ x t h. h;
  had = λ x t h. h;
  takes = λ x s t h. h;
  taken = λ x s t h. h;
  closed = λ x. tt;
}

-- one position more
pub inferred_described : (d : Declaration) → DeclWritten d → (g : Environment) (ss : NumberedSchemes) → Describes g ss → (s : NumberedScheme) → IsInferred d ss s →
    Describes (extend d g) ((declared_name d, s) ∷ ss)
inferred_described d z g ss k s i = described d g ss k s (inferred_principal d z g ss k s i) (inferred_closed d ss s i)

-- the sorts of declarations that were checked are principal, each over those before it
sort-from : (ds earlier : List Declaration) (ss : List Sort) (i : ℕ) (d : Declaration) → ArePrincipal earlier ds ss → slice_get ds i ≡ Some d →
    (s : Sort) × (slice_get ss i ≡ Some s) × IsPrincipalScheme d (reverse (take i ds) ++ earlier) s
sort-from [] earlier ss i d h e = cc
sort-from (a ∷ ds) earlier [] i d h e = absurd h
sort-from (a ∷ ds) earlier (s ∷ ss) zero d h e = let z : a ≡ d = cc in (s, refl, subst (λ x. IsPrincipalScheme x earlier s) z h.0)
sort-from (a ∷ ds) earlier (s ∷ ss) (suc i) d h e =
    let r = sort-from ds (a ∷ earlier) ss i d h.1 e in
    let z : reverse (take i ds) ++ a ∷ earlier ≡ reverse (a ∷ take i ds) ++ earlier =
    sym (append_assoc (reverse (take i ds)) (a ∷ []) earlier) ∙ ap (λ l. l ++ earlier) (sym (reverse-cons a (take i ds))) in
    (r.0, r.1, subst (λ l. IsPrincipalScheme d l r.0) z r.2)

-- a position that was checked has a principal sort over those before it
pub sort-at : (ds : List Declaration) (ss : List Sort) (n : ℕ) (d : Declaration) → ArePrincipal [] ds ss → slice_get ds (n - 1) ≡ Some d →
    (s : Sort) × (slice_get ss (n - 1) ≡ Some s) × IsPrincipalScheme d (before ds n) s
sort-at ds ss n d h e =
    let r = sort-from ds [] ss (n - 1) d h e in
    (r.0, r.1, subst (λ l. IsPrincipalScheme d l r.0) (append-nil (reverse (take (n - 1) ds))) r.2)
