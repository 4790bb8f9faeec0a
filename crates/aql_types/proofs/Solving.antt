-- From solutions of the graph to solutions of the types' equations, and back.
use Rattle.std.proofs.Common.{ℕ, ◌≡◌, ◌+◌, ◌<◌, Bool, true, false, nat_lt, List, [], ◌∷◌, length, get_or, refl, sym, ap, ◌∙◌, subst, arith, inl, inr, if◌then◌else◌, Err}
use Rattle.std.proofs.lemmas.Bool.{cases_lt, lt-ltb, le-ltb}
use Rattle.aql_value.specs.Laws.Lists.{length-below}
use Rattle.aql_value.specs.Lists.{onto}
use Rattle.aql_ty.specs.Types as types
use Rattle.aql_ty.specs.Types.{Ty, Tys, no_type, type, natural, Subst, apply, apply_all, IsWithin, fits}
use Rattle.aql_types.specs.Unifiers.{Equations, AllUnify, SidesWithin, IsSolution, IsBest}
use Rattle.aql_types.specs.Unifiers as unifiers
use Rattle.aql_ty.specs.Laws.Types.{PartsWithin, parts_within, first_within, rest_within, member_within, cell_within, row_is, fits_within, within_fits, natural_within}
use Rattle.aql_types.specs.declared.fault.UnifyFault.{UnifyFault}
use Rattle.aql_types.specs.declared.fault.UnifyFault.TheVariants as faults
use Rattle.aql_types.specs.declared.node.Equation.{Equation}
use Rattle.aql_types.specs.declared.graph.Graph.{Graph}
use Rattle.aql_types.specs.Forms.{Form}
use Rattle.aql_types.specs.Forms as form
use Rattle.aql_types.specs.Extents.{read}
use Rattle.aql_types.specs.Ranges.{variables_in, homes_from, homes_of}
use Rattle.aql_types.specs.Trees.{equations_of, AllWithin}
use Rattle.aql_types.specs.Valuations.{AreIn}
use Rattle.aql_types.specs.Solved.{Solves, solution}
use Rattle.aql_types.specs.Solved as graphs
use Rattle.aql_types.specs.Graphs.{forms_of, SolvedBy}
use Rattle.aql_types.specs.Laws.Homes.{are_homes}
use Rattle.aql_types.specs.Pushed.{AreNumbered, Makes}
use Rattle.aql_types.specs.Answers.{IsSolved, SolvedIn}
use Rattle.aql_types.specs.Laws.Pushing.{forms_long}

-- The homes of the variables are their own numbers.

homes_long : (a : ℕ) (fs : List Form) → length (homes_from a fs) ≡ length (variables_in fs)
homes_long a [] = refl
homes_long a (form.var x ∷ fs) = omega (arith, homes_long (a + 1) fs)
homes_long a (form.made s ∷ fs) = homes_long (a + 1) fs
homes_long a (form.link j ∷ fs) = homes_long (a + 1) fs

home_count : (g : Graph) → length (homes_of (forms_of g)) ≡ g.variables
home_count g = homes_long 0 (forms_of g) ∙ ap length g.numbered ∙ length-below g.variables

home_is : (g : Graph) → AreNumbered g.variables (forms_of g) → (x : ℕ) → x < g.variables → get_or (homes_of (forms_of g)) x 0 ≡ x
home_is g h x lt = let l = h.long in (are_homes (forms_of g) g.variables g.numbered).only x x (omega (arith, lt, l)) (h.stands x lt)

-- what the first n nodes stand for
abbrev pub by_number : ℕ → List Form → Subst
by_number n gs x = if nat_lt x n then read 400 gs x else types.var x

number_is : (g : Graph) (gs : List Form) → AreNumbered g.variables (forms_of g) → (x : ℕ) → solution 400 (homes_of (forms_of g)) gs x ≡ by_number g.variables gs x
number_is g gs h x = elim (cases_lt x g.variables) [
  | inl lt ↦
      ap (λ (b : Bool). if b then read 400 gs (get_or hs x 0) else types.var x) (lt-ltb x (length hs) (omega (arith, lt, home_count g)))
      ∙ ap (read 400 gs) (home_is g h x lt)
      ∙ sym (ap (λ (b : Bool). if b then read 400 gs x else types.var x) (lt-ltb x g.variables lt))
  | inr ge ↦
      ap (λ (b : Bool). if b then read 400 gs (get_or hs x 0) else types.var x) (le-ltb x (length hs) (omega (arith, ge, home_count g)))
      ∙ sym (ap (λ (b : Bool). if b then read 400 gs x else types.var x) (le-ltb x g.variables ge))
]
  where
    hs : List ℕ
    hs = homes_of (forms_of g)

numbers_are : (g : Graph) (gs : List Form) → AreNumbered g.variables (forms_of g) → solution 400 (homes_of (forms_of g)) gs ≡ by_number g.variables gs
numbers_are g gs h = λ i x. number_is g gs h x i

-- A most general solution of the graph's equations is one of the types' equations.

best : (es : List Equation) (g : Graph) (w : Equations) (us : Tys) (gs : List Form) → Makes es g w us → Solves 400 (homes_of (forms_of g)) (forms_of g) gs es → IsBest w us (by_number g.variables gs)
best es g w us gs m h =
    let s = solution 400 (homes_of (forms_of g)) gs in
    let b : IsBest w us s = record {
      unifies = subst (AllUnify s) m.are h.best.unifies;
      within = m.uses s h.best.within;
      general = λ u k x. h.best.general u (subst (AllUnify u) (sym m.are) k) x;
    } in
    subst (IsBest w us) (numbers_are g gs m.numbered) b

-- sides that are nodes are within the limits where all nodes are
sides_here : (u : Subst) (fs : List Form) (n : ℕ) (es : List Equation) → n ≡ length fs → AreIn n es → AllWithin u fs → SidesWithin u (equations_of fs es)
sides_here u fs n [] e h k = tt
sides_here u fs n (x ∷ es) e h k =
    (k x.left (omega (arith, h.0, e)), k x.right (omega (arith, h.1, e)), sides_here u fs n es e h.2 k)

sides_made : (es : List Equation) (g : Graph) (w : Equations) (us : Tys) (gs : List Form) → Makes es g w us → Solves 400 (homes_of (forms_of g)) (forms_of g) gs es → SidesWithin (by_number g.variables gs) w
sides_made es g w us gs m h =
    let s = solution 400 (homes_of (forms_of g)) gs in
    subst (λ u. SidesWithin u w) (numbers_are g gs m.numbered)
    (subst (SidesWithin s) m.are (sides_here s (forms_of g) (length g.nodes.items) es (sym (forms_long g)) m.below h.best.within))

-- A solution of the types' equations, and numbers in place of what is not within the limits.

limited : Subst → Subst
limited u x = if fits (u x) then u x else natural

limited_within : (u : Subst) (x : ℕ) → IsWithin (limited u x)
unfolding limited
limited_within u x = go (fits (u x)) refl
  where
    go : (b : Bool) → fits (u x) ≡ b → IsWithin (if b then u x else natural)
    go true e = fits_within (u x) e
    go false e = natural_within

mutual
  unfolding limited

  limited_same : (u : Subst) (t : Ty) → IsWithin (apply u t) → apply (limited u) t ≡ apply u t
  limited_same u types.natural h = refl
  limited_same u types.truth h = refl
  limited_same u types.text h = refl
  limited_same u (types.var x) h = ap (λ (b : Bool). if b then u x else natural) (within_fits (u x) h)
  limited_same u (types.product ts) h = ap types.product (limited_all u ts (parts_within (apply_all u ts) h))
  limited_same u (types.set_of t) h = ap types.set_of (limited_same u t (member_within (apply u t) h))
  limited_same u (types.array_of k t) h = ap (types.array_of k) (limited_same u t (cell_within k (apply u t) h))

  limited_all : (u : Subst) (ts : Tys) → PartsWithin (apply_all u ts) → apply_all (limited u) ts ≡ apply_all u ts
  limited_all u no_type h = refl
  limited_all u (type t ts) h =
      row_is (limited_same u t (first_within (apply u t) (apply_all u ts) h)) (limited_all u ts (rest_within (apply u t) (apply_all u ts) h))

limited_type : (u : Subst) (t : Ty) → IsWithin (apply u t) → IsWithin (apply (limited u) t)
limited_type u t h = subst IsWithin (sym (limited_same u t h)) h

limited_uses : (u : Subst) (us : Tys) → unifiers.AllWithin u us → unifiers.AllWithin (limited u) us
limited_uses u no_type h = tt
limited_uses u (type t us) h = (limited_type u t h.0, limited_uses u us h.1)

limited_sides : (u : Subst) (w : Equations) → SidesWithin u w → SidesWithin (limited u) w
limited_sides u [] h = tt
limited_sides u ((a, b) ∷ w) h = (limited_type u a h.0, limited_type u b h.1, limited_sides u w h.2)

limited_unify : (u : Subst) (w : Equations) → SidesWithin u w → AllUnify u w → AllUnify (limited u) w
limited_unify u [] h k = tt
limited_unify u ((a, b) ∷ w) h k = (limited_same u a h.0 ∙ k.0 ∙ sym (limited_same u b h.1), limited_unify u w h.2 k.1)

clash : (es : List Equation) (g : Graph) (w : Equations) (us : Tys) → Makes es g w us → ((u : Subst) → graphs.IsSolution u (forms_of g) es → ⊥) → (u : Subst) → IsSolution u w us → ⊥
clash es g w us m h u k = h (limited u) (record {
  unifies = subst (AllUnify (limited u)) (sym m.are) (limited_unify u w k.sides k.unifies);
  within = m.within (limited u) (limited_within u) (limited_sides u w k.sides) (limited_uses u us k.uses);
})

-- The order of the equations.

unify_split : (u : Subst) (w v : Equations) → AllUnify u (onto w v) → AllUnify u w × AllUnify u v
unify_split u [] v h = (tt, h)
unify_split u ((a, b) ∷ w) v h = let k = unify_split u w ((a, b) ∷ v) h in ((k.1.0, k.0), k.1.1)

unify_join : (u : Subst) (w v : Equations) → AllUnify u w → AllUnify u v → AllUnify u (onto w v)
unify_join u [] v h k = k
unify_join u ((a, b) ∷ w) v h k = unify_join u w ((a, b) ∷ v) h.1 (h.0, k)

sides_onto : (u : Subst) (w v : Equations) → SidesWithin u (onto w v) → SidesWithin u w × SidesWithin u v
sides_onto u [] v h = (tt, h)
sides_onto u ((a, b) ∷ w) v h = let k = sides_onto u w ((a, b) ∷ v) h in ((k.1.0, k.1.1, k.0), k.1.2)

sides_join : (u : Subst) (w v : Equations) → SidesWithin u w → SidesWithin u v → SidesWithin u (onto w v)
sides_join u [] v h k = k
sides_join u ((a, b) ∷ w) v h k = sides_join u w ((a, b) ∷ v) h.2 (h.0, h.1, k)

pub solved_made : (es : List Equation) (g : Graph) (w : Equations) (us : Tys) (gs : List Form) → Makes es g w us → Solves 400 (homes_of (forms_of g)) (forms_of g) gs es → IsSolved (onto w []) us (by_number g.variables gs)
solved_made es g w us gs m h =
    let b = best es g w us gs m h in
    let s = by_number g.variables gs in
    record {
      best = record {
        unifies = unify_join s w [] b.unifies tt;
        within = b.within;
        general = λ u k x. b.general u (unify_split u w [] k).0 x;
      };
      sides = sides_join s w [] (sides_made es g w us gs m h) tt;
    }

pub clash_made : (es : List Equation) (g : Graph) (w : Equations) (us : Tys) → Makes es g w us → ((u : Subst) → graphs.IsSolution u (forms_of g) es → ⊥) → (u : Subst) → IsSolution u (onto w []) us → ⊥
clash_made es g w us m h u k =
    clash es g w us m h u (record { unifies = (unify_split u w [] k.unifies).0; sides = (sides_onto u w [] k.sides).0; uses = k.uses })

pub failed_made : (f : UnifyFault) (es : List Equation) (g : Graph) (w : Equations) (us : Tys) → Makes es g w us → SolvedBy (Err f) g es → SolvedIn (Err f) (onto w []) us
failed_made faults.Clash es g w us m h = clash_made es g w us m h
failed_made faults.Memory es g w us m h = tt
