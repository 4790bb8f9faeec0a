-- The search: what is known before a place, at a node and in its parts, and where it goes on.
use Rattle.std.proofs.Common.{◌≡◌, ℕ, suc, ◌+◌, ◌≤◌, List, [], ◌∷◌, ◌++◌, length, reverse, drop, get_or, Option, Some, None, refl, sym, ap, subst, ◌∙◌, arith, inl, inr}
use mathlib.Core.List.{reverse_aux}
use Rattle.aql_value.specs.Partial.{◌>>=◌}
use Rattle.nrca_term.specs.Term.{Term, child_of, parts_of, count}
use Rattle.nrca_term.specs.Places.{place_of}
use Rattle.nrca_term.specs.Laws.Entering.{child-counted}
use Rattle.nrca_term.specs.Facts.{Context, enter_facts, context_at, context_below}
use Rattle.nrca_rule_laws.specs.Search.{AllBefore, FirstParts}
use Rattle.nrca_rule_laws.specs.Laws.Search.{all-node, all-more, before-parts, before-child, before-node, before-root, before-kept}
use Rattle.nrca_term.specs.Places.{put_at}
use Rattle.nrca_ranges.specs.Bounds.{Ranges}
use Rattle.nrca_term.specs.declared.term.Core.{Core}
use Rattle.nrca_term.specs.View.{term_of}
use Rattle.nrca_ranges.specs.declared.context.Ctx.{Ctx}
use Rattle.nrca_ranges.specs.Context.{context_of}
use Rattle.nrca_ranges.specs.Shapes.{ranges_of, EntersRanges}
use Rattle.nrca_ranges.specs.Transfer.{enter_ranges, ranges_at}
use Rattle.nrca_motion.specs.declared.fitting.Fit.{Fit}
use Rattle.nrca_motion.specs.declared.search.Site.{Site}
use Rattle.nrca_motion.specs.Fitting.{IsQuietAt, MayMove}
use Rattle.nrca_motion.specs.Laws.Moving.{path-next, path-end}
use Rattle.nrca_motion.specs.Found.{QuietBefore, QuietEverywhere, QuietParts, MovesAt, TellsPlace, GoesOnward, next}

module _ (gs : Ranges) where
  -- nothing comes before the root
  pub behind-root : (c : Context) (t : Term) → QuietBefore gs c t []
  unfolding QuietBefore
  behind-root c t = before-root (IsQuietAt gs) c t

  -- the search of the parts begins with the one that the path leads to
  pub parts-first : (c : Context) (t : Term) (p : List ℕ) → QuietBefore gs c t p → QuietParts gs c t (next p)
  unfolding QuietBefore QuietParts
  parts-first c t [] h = λ i u l e. absurd (omega (arith, l))
  parts-first c t (j ∷ p) h = before-parts (IsQuietAt gs) c t j p h

  -- what is behind the path in the part that it leads to
  behind-child : (c : Context) (t : Term) (j : ℕ) (p : List ℕ) (u : Term) → child_of (parts_of t) j ≡ Some u → QuietBefore gs c t (j ∷ p) → QuietBefore gs (enter_facts c t j) u p
  unfolding QuietBefore
  behind-child c t j p u e h = before-child (IsQuietAt gs) c t j p u e h

  -- one part more in which no move is left
  pub parts-more : (c : Context) (t : Term) (n : ℕ) (u : Term) → QuietParts gs c t n → child_of (parts_of t) n ≡ Some u → QuietEverywhere gs (enter_facts c t n) u → QuietParts gs c t (n + 1)
  unfolding QuietParts QuietEverywhere
  parts-more c t n u h e k = subst (FirstParts (IsQuietAt gs) c t) (let z : suc n ≡ n + 1 = omega arith in z) (all-more (IsQuietAt gs) c t n u h e k)

  -- the node and all its parts
  pub everywhere : (c : Context) (t : Term) (n : ℕ) → IsQuietAt gs c t → QuietParts gs c t n → count (parts_of t) ≤ n → QuietEverywhere gs c t
  unfolding QuietParts QuietEverywhere
  everywhere c t n q h l = all-node (IsQuietAt gs) c t n q h (λ i u e. omega (arith, l, child-counted (parts_of t) i u e))

  -- a move at the node itself
  pub site-here : (c : Context) (t : Term) (s : Site) → s.way.items ≡ [] → MayMove gs c t s.fit → TellsPlace gs c t (Some s)
  unfolding TellsPlace MovesAt QuietBefore
  site-here c t s e f =
      subst (λ w. ((r : Term) × (place_of t (reverse w) ≡ Some r) × MayMove (ranges_at gs c t (reverse w)) (context_at enter_facts c t (reverse w)) r s.fit) × AllBefore (IsQuietAt gs) c t (reverse w)) (sym e)
      ((t, refl, f), before-root (IsQuietAt gs) c t)

  found-below : (c : Context) (t : Term) (n : ℕ) (u : Term) (p : List ℕ) (f : Fit) → QuietParts gs c t n → child_of (parts_of t) n ≡ Some u →
      MovesAt (enter_ranges gs c t n) (enter_facts c t n) u p f × QuietBefore (enter_ranges gs c t n) (enter_facts c t n) u p → MovesAt gs c t (n ∷ p) f × QuietBefore gs c t (n ∷ p)
  unfolding MovesAt QuietBefore QuietParts
  found-below c t n u p f h e k = (
    (k.0.0, ap (λ o. o >>= λ r. place_of r p) e ∙ k.0.1, subst (λ o. MayMove (context_below gs o (λ r. ranges_at (enter_ranges gs c t n) (enter_facts c t n) r p)) (context_below c o (λ r. context_at enter_facts (enter_facts c t n) r p)) k.0.0 f) (sym e) k.0.2),
    before-node (IsQuietAt gs) c t n p u e h k.1,
  )

  -- a site in a part is a site of the node, the part's number put behind its way
  pub site-above : (c : Context) (t : Term) (n : ℕ) (u : Term) (s r : Site) → QuietParts gs c t n → child_of (parts_of t) n ≡ Some u → TellsPlace (enter_ranges gs c t n) (enter_facts c t n) u (Some s) →
      (r.way.items ≡ s.way.items ++ n ∷ []) × (r.fit ≡ s.fit) → TellsPlace gs c t (Some r)
  unfolding TellsPlace
  site-above c t n u s r h e f w =
      let z : reverse r.way.items ≡ n ∷ reverse s.way.items = ap reverse w.0 ∙ reverse-last s.way.items [] n in
      subst (λ g. MovesAt gs c t (reverse r.way.items) g × QuietBefore gs c t (reverse r.way.items)) (sym w.1)
      (subst (λ p. MovesAt gs c t p s.fit × QuietBefore gs c t p) (sym z) (found-below c t n u (reverse s.way.items) s.fit h e f))
    where
      reverse-last : (xs acc : List ℕ) (x : ℕ) → reverse_aux (xs ++ x ∷ []) acc ≡ x ∷ reverse_aux xs acc
      reverse-last [] acc x = refl
      reverse-last (y ∷ xs) acc x = reverse-last xs (y ∷ acc) x

  -- where the search goes on in part i
  pub behind-onward : (c : Context) (t u : Term) (from : List ℕ) (at i first onward : ℕ) → QuietBefore gs c t (drop at from) → first ≡ next (drop at from) → child_of (parts_of t) i ≡ Some u →
      GoesOnward from at i first onward → QuietBefore gs (enter_facts c t i) u (drop onward from)
  behind-onward c t u from at i first onward h f e (inl w) =
      let d = path-next from at w.1 in
      let j : get_or from at 0 ≡ i = sym (w.0 ∙ f ∙ ap next d) in
      subst (λ n. QuietBefore gs (enter_facts c t i) u (drop n from)) (sym w.2)
      (subst (λ n. QuietBefore gs (enter_facts c t n) u (drop (at + 1) from)) j
      (behind-child c t (get_or from at 0) (drop (at + 1) from) u (ap (child_of (parts_of t)) j ∙ e) (subst (QuietBefore gs c t) d h)))
  behind-onward c t u from at i first onward h f e (inr w) =
      subst (QuietBefore gs (enter_facts c t i) u) (sym (ap (λ n. drop n from) w ∙ path-end from (length from) (omega arith) (omega arith))) (behind-root (enter_facts c t i) u)

  -- what is behind a place stays so when a move is made at the place
  pub behind-kept : (c : Context) (t u : Term) (p : List ℕ) → QuietBefore gs c t p → QuietBefore gs c (put_at t p u) p
  unfolding QuietBefore
  behind-kept c t u p h = before-kept (IsQuietAt gs) c t u p h

  -- nothing found
  pub found-none : (c : Context) (t : Term) → QuietEverywhere gs c t → TellsPlace gs c t None
  unfolding TellsPlace
  found-none c t h = h

  pub quiet-none : (c : Context) (t : Term) → TellsPlace gs c t None → QuietEverywhere gs c t
  unfolding TellsPlace
  quiet-none c t h = h

  -- it does not matter what is known of variables
  pub quiet-inside : (c d : Context) (t u : Term) (i : ℕ) → TellsPlace (enter_ranges gs c t i) d u None → QuietEverywhere gs d u
  unfolding TellsPlace QuietEverywhere
  quiet-inside c d t u i h = h

  pub behind-inside : (c d : Context) (t u : Term) (i : ℕ) (p : List ℕ) → QuietBefore gs d u p → QuietBefore (enter_ranges gs c t i) d u p
  unfolding QuietBefore
  behind-inside c d t u i p h = h

-- what is known in a part of a node, where the context is that of the node
pub entered-ranges : (c d r : Ctx) (t : Core) (i : ℕ) → EntersRanges d t i r → ranges_of d ≡ ranges_of c → context_of d ≡ context_of c → ranges_of r ≡ enter_ranges (ranges_of c) (context_of c) (term_of t) i
entered-ranges c d r t i e g f = e ∙ ap (λ x. enter_ranges x (context_of d) (term_of t) i) g ∙ ap (λ x. enter_ranges (ranges_of c) x (term_of t) i) f

-- what is told in an equal context
pub told-as : (gs hs : Ranges) (c d : Context) (t : Term) (o : Option Site) → hs ≡ gs → d ≡ c → TellsPlace hs d t o → TellsPlace gs c t o
told-as gs hs c d t o e f h = subst (λ x. TellsPlace x c t o) e (subst (λ x. TellsPlace hs x t o) f h)

pub behind-as : (gs hs : Ranges) (c d : Context) (t : Term) (p : List ℕ) → hs ≡ gs → d ≡ c → QuietBefore gs c t p → QuietBefore hs d t p
behind-as gs hs c d t p e f h = subst (λ x. QuietBefore x d t p) (sym e) (subst (λ x. QuietBefore gs x t p) (sym f) h)
