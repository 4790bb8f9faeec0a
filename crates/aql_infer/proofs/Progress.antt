-- What holds of the declarations that have been gone over.
use Rattle.std.proofs.Common.{ℕ, zero, suc, ◌≡◌, ◌+◌, ◌<◌, ◌≤◌, List, [], ◌∷◌, ◌++◌, refl, sym, ap, ◌∙◌, subst, length, take, drop, get_or, arith, add-one, append-nil, append_assoc, length-append}
use Rattle.std.proofs.lemmas.List.{take_all, at_drop_all}
use Rattle.std.proofs.Math.Seq.{drop-cons}
use Rattle.aql_ty.specs.Types.{Sort}
use Rattle.aql_ty.specs.View.{sort_of}
use Rattle.aql_ty.specs.declared.ty.Scheme as code_scheme
use Rattle.aql_value.specs.Lists.{onto}
use Rattle.aql_syntax.specs.Tree.{Declaration, declared_name}
use Rattle.aql_syntax.specs.Typing.{environment_of}
use Rattle.aql_syntax.specs.View.{decl_of, decls_of}
use Rattle.aql_syntax.specs.declared.ast.Decl.{Decl}
use Rattle.aql_infer_steps.specs.Constraints.{NumberedSchemes}
use Rattle.aql_infer_steps.specs.Describes.{Describes}
use Rattle.aql_syntax.specs.Written.{DeclWritten}
use Rattle.aql_infer_steps.specs.Principal.{IsInferred, IsNotInferred}
use Rattle.aql_infer_steps.specs.Laws.Principal.{untyped, inferred_principal, inferred_described, inferred_numbered, none_described}
use Rattle.aql_infer_steps.specs.View.{scheme_of, schemes_onto, schemes_of}
use Rattle.aql_syntax.specs.Laws.Written.{decl_written}
use Rattle.aql_syntax.specs.Laws.View.{decls_of-append}
use Rattle.aql_infer_steps.specs.declared.positions.Position.{Position}
use Rattle.aql_infer_steps.specs.Typed.{IsPrincipalScheme, ArePrincipal, sorts_of}
use Rattle.aql_infer.specs.Checked.{HasNoSort, IsFirstUntyped, found_sorts}

-- each declaration gone over has its sort, and the schemes describe them all
pub record Progress (done : List Declaration) (ps : List Position) : Type 0 where
  pub described : Describes (environment_of (onto done [])) (schemes_of ps)
  pub principal : ArePrincipal [] done (found_sorts ps)

pub progress_none : Progress [] []
progress_none = record { described = none_described; principal = tt }

schemes_onto_last : (ps : List Position) (p : Position) (ss : NumberedSchemes) → schemes_onto (ps ++ p ∷ []) ss ≡ (p.name, scheme_of p) ∷ schemes_onto ps ss
schemes_onto_last [] p ss = refl
schemes_onto_last (k ∷ ps) p ss = schemes_onto_last ps p ((k.name, scheme_of k) ∷ ss)

onto_last : (ds earlier : List Declaration) (d : Declaration) → onto (ds ++ d ∷ []) earlier ≡ d ∷ onto ds earlier
onto_last [] earlier d = refl
onto_last (e ∷ ds) earlier d = onto_last ds (e ∷ earlier) d

sorts_last : (ps : List Position) (p : Position) → found_sorts (ps ++ p ∷ []) ≡ found_sorts ps ++ sort_of p.scheme ∷ []
sorts_last [] p = refl
sorts_last (k ∷ ps) p = ap (λ l. sort_of k.scheme ∷ l) (sorts_last ps p)

length_sorts : (ps : List Position) → length (found_sorts ps) ≡ length ps
length_sorts [] = refl
length_sorts (p ∷ ps) = ap suc (length_sorts ps)

principal_last : (ds earlier : List Declaration) (ss : List Sort) (d : Declaration) (s : Sort) → ArePrincipal earlier ds ss →
    IsPrincipalScheme d (onto ds earlier) s → ArePrincipal earlier (ds ++ d ∷ []) (ss ++ s ∷ [])
principal_last [] earlier [] d s h k = (k, tt)
principal_last [] earlier (r ∷ ss) d s h k = absurd h
principal_last (e ∷ ds) earlier [] d s h k = absurd h
principal_last (e ∷ ds) earlier (r ∷ ss) d s h k = (h.0, principal_last ds (e ∷ earlier) ss d s h.1 k)

untyped_last : (ds earlier : List Declaration) (ss : List Sort) (d : Declaration) (rest : List Declaration) → ArePrincipal earlier ds ss →
    HasNoSort d (onto ds earlier) → IsFirstUntyped earlier (ds ++ d ∷ rest) (suc (length ss))
untyped_last [] earlier [] d rest h k = k
untyped_last [] earlier (r ∷ ss) d rest h k = absurd h
untyped_last (e ∷ ds) earlier [] d rest h k = absurd h
untyped_last (e ∷ ds) earlier (r ∷ ss) d rest h k = ((r, h.0.principal.has), untyped_last ds (e ∷ earlier) ss d rest h.1 k)

-- one declaration more
pub progress_more : (done : List Declaration) (ps : List Position) (d : Declaration) (p : Position) → DeclWritten d → Progress done ps →
    IsInferred d (schemes_of ps) (scheme_of p) → p.name ≡ declared_name d → Progress (done ++ d ∷ []) (ps ++ p ∷ [])
progress_more done ps d p w h i e = record {
  described = subst (λ (ss : NumberedSchemes). Describes (environment_of (onto (done ++ d ∷ []) [])) ss)
      (ap (λ x. (x, scheme_of p) ∷ schemes_of ps) (sym e) ∙ sym (schemes_onto_last ps p []))
      (subst (λ (ds : List Declaration). Describes (environment_of ds) ((declared_name d, scheme_of p) ∷ schemes_of ps)) (sym (onto_last done [] d))
      (inferred_described d w (environment_of (onto done [])) (schemes_of ps) h.described (scheme_of p) i));
  principal = subst (ArePrincipal [] (done ++ d ∷ [])) (sym (sorts_last ps p))
      (principal_last done [] (found_sorts ps) d (sort_of p.scheme) h.principal (record {
        principal = inferred_principal d w (environment_of (onto done [])) (schemes_of ps) h.described (scheme_of p) i;
        numbered = inferred_numbered d (schemes_of ps) (scheme_of p) i;
      }));
}

-- the next has no typing
pub progress_fault : (done : List Declaration) (ps : List Position) (d : Declaration) (rest : List Declaration) → DeclWritten d → Progress done ps →
    IsNotInferred d (schemes_of ps) → IsFirstUntyped [] (done ++ d ∷ rest) (suc (length ps))
progress_fault done ps d rest w h i =
    subst (λ (k : ℕ). IsFirstUntyped [] (done ++ d ∷ rest) (suc k)) (length_sorts ps)
    (untyped_last done [] (found_sorts ps) d rest h.principal (untyped d w (environment_of (onto done [])) (schemes_of ps) h.described i))

-- The code's declarations, as the loop goes over them.

split_at : (ds : List Decl) (i : ℕ) (d : Decl) → i < length ds → take i ds ++ get_or ds i d ∷ drop (i + 1) ds ≡ ds
split_at [] i d h = absurd (omega (arith, h))
split_at (x ∷ ds) zero d h = refl
split_at (x ∷ ds) (suc i) d h =
    (let z : suc i + 1 ≡ suc (i + 1) = omega arith in ap (λ n. x ∷ (take i ds ++ get_or ds i d ∷ drop n (x ∷ ds))) z)
    ∙ ap (λ l. x ∷ l) (split_at ds i d (omega (arith, h)))

take_next : (ds : List Decl) (i : ℕ) (d : Decl) → i < length ds → take (i + 1) ds ≡ take i ds ++ get_or ds i d ∷ []
take_next [] i d h = absurd (omega (arith, h))
take_next (x ∷ ds) zero d h = refl
take_next (x ∷ ds) (suc i) d h =
    (let z : suc i + 1 ≡ suc (i + 1) = omega arith in ap (λ n. take n (x ∷ ds)) z) ∙ ap (λ l. x ∷ l) (take_next ds i d (omega (arith, h)))

-- after one more of the code's
pub checked_more : (ds : List Decl) (i : ℕ) (d : Decl) (ps : List Position) (p : Position) → i < length ds → d ≡ get_or ds i d →
    Progress (decls_of (take i ds)) ps → IsInferred (decl_of d) (schemes_of ps) (scheme_of p) → p.name ≡ declared_name (decl_of d) →
    Progress (decls_of (take (i + 1) ds)) (ps ++ p ∷ [])
checked_more ds i d ps p lt e h k n =
    subst (λ (l : List Declaration). Progress l (ps ++ p ∷ []))
    (sym (ap decls_of (take_next ds i d lt ∙ ap (λ x. take i ds ++ x ∷ []) (sym e)) ∙ decls_of-append (take i ds) (d ∷ [])))
    (progress_more (decls_of (take i ds)) ps (decl_of d) p (decl_written d) h k n)

pub checked_fault : (ds : List Decl) (i : ℕ) (d : Decl) (ps : List Position) → i < length ds → d ≡ get_or ds i d →
    Progress (decls_of (take i ds)) ps → IsNotInferred (decl_of d) (schemes_of ps) → IsFirstUntyped [] (decls_of ds) (length ps + 1)
checked_fault ds i d ps lt e h k =
    let z : suc (length ps) ≡ length ps + 1 = omega arith in
    subst (λ (n : ℕ). IsFirstUntyped [] (decls_of ds) n) z
    (subst (λ (l : List Declaration). IsFirstUntyped [] l (suc (length ps)))
    (sym (decls_of-append (take i ds) (d ∷ drop (i + 1) ds)) ∙ ap decls_of (ap (λ x. take i ds ++ x ∷ drop (i + 1) ds) e ∙ split_at ds i d lt))
    (progress_fault (decls_of (take i ds)) ps (decl_of d) (decls_of (drop (i + 1) ds)) (decl_written d) h k))

pub checked_all : (ds : List Decl) (i : ℕ) (ps : List Position) → length ds ≤ i → Progress (decls_of (take i ds)) ps → ArePrincipal [] (decls_of ds) (found_sorts ps)
checked_all ds i ps le h = subst (λ (l : List Decl). ArePrincipal [] (decls_of l) (found_sorts ps)) (take_all i ds le) h.principal

pub count_more : (ps : List Position) (p : Position) (k : ℕ) → length ps ≡ k → length (ps ++ p ∷ []) ≡ k + 1
count_more ps p k e = omega (arith, length-append ps (p ∷ []), e)

pub ruleset checked_steps = (progress_none, checked_more, checked_fault, checked_all)

-- The schemes of positions, one by one.

pub sorts_append : (a b : List code_scheme.Scheme) → sorts_of (a ++ b) ≡ sorts_of a ++ sorts_of b
sorts_append [] b = refl
sorts_append (s ∷ a) b = ap (λ l. sort_of s ∷ l) (sorts_append a b)

pub found_from : (ps : List Position) (i : ℕ) (d : Position) → i < length ps →
    found_sorts (drop i ps) ≡ sort_of (get_or ps i d).scheme ∷ found_sorts (drop (i + 1) ps)
found_from ps i d h = rw (add-one, drop-cons ps i d h) refl

pub found_past : (ps : List Position) (i : ℕ) → length ps ≤ i → found_sorts (drop i ps) ≡ []
found_past ps i h = at_drop_all found_sorts ps i h

pub ruleset schemes_steps = (sorts_append, append_assoc, append-nil, found_from, found_past)
