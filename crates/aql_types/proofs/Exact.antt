-- What is read of a solved graph is a most general solution.
use Rattle.std.proofs.Common.{ℕ, zero, suc, ◌≡◌, ◌<◌, ◌≤◌, Option, Some, None, List, [], ◌∷◌, length, get_or, if◌then◌else◌, true, false, refl, sym, ap, ◌∙◌, subst, arith, inl, inr}
use Rattle.std.specs.Prelude.{IsSome}
use Rattle.std.proofs.lemmas.Bool.{cases_lt, lt-ltb, le-ltb}
use Rattle.std.proofs.lemmas.List.{get_or_past}
use Rattle.aql_ty.specs.Types as types
use Rattle.aql_ty.specs.Types.{Ty, Subst, levels, nodes, apply, IsType, IsWithin}
use Rattle.aql_types.specs.Unifiers.{AllUnify}
use Rattle.aql_types.specs.declared.extent.Extent.{Extent}
use Rattle.aql_types.specs.declared.node.Equation.{Equation}
use Rattle.aql_types.specs.Shapes.{Valuation, parts}
use Rattle.aql_types.specs.Forms.{Form, at}
use Rattle.aql_types.specs.Forms as form
use Rattle.aql_types.specs.Valuations.{Says, Holds, Equal, AreIn, Names, Named}
use Rattle.aql_types.specs.Steps.{IsFlat, Keeps, Leads}
use Rattle.aql_types.specs.Trees.{IsBuilt, Grows, form_type, tree, type_at, equations_of, AreHomes}
use Rattle.aql_types.specs.Extents.{read, extent, Measured}
use Rattle.aql_types.specs.Solved.{solution, IsSolution, Reads, Solves}
use Rattle.aql_types.specs.Laws.Trees.{type_grown}
use Rattle.aql_types.specs.Laws.Shapes.{each, whole_same, apply_whole}
use Rattle.aql_types.proofs.Extents.{exceeds}
use Rattle.aql_types.proofs.Reading.{known, general, fits}

pub known_some : (o : Option Extent) → IsSome o → (e : Extent) × (o ≡ Some e)
known_some None h = let bad : ⊥ = cc in absurd bad
known_some (Some e) h = (e, refl)

all_fit : (most m : ℕ) (fs : List Form) → IsFlat fs → Measured true m most fs → Holds (read m fs) fs
all_fit most m fs f h i = elim (cases_lt i (length fs)) [
  | inl lt ↦ let k = known_some (extent most m fs i) (h i lt) in fits most m fs i k.0 f k.1 (at fs i) refl
  | inr le ↦ subst (λ x. Says (read m fs) x (read m fs i)) (sym (get_or_past fs i (form.var 0) le)) tt
]

-- The types of all nodes under a substitution.
abbrev under : Subst → List Form → Valuation
under u fs i = apply u (type_at fs i)

under_says : (u : Subst) (fs : List Form) → IsBuilt fs → Holds (under u fs) fs
under_says u fs b i = go (at fs i) (b i) (type_grown fs b i)
  where
    go : (x : Form) → Grows x i → type_at fs i ≡ form_type (type_at fs) x → Says (under u fs) x (under u fs i)
    go (form.var z) h e = tt
    go (form.made s) h e = ap (apply u) e ∙ apply_whole u (type_at fs) s
    go (form.link j) h e = absurd h

under_names : (u : Subst) (fs : List Form) → IsBuilt fs → Named u (under u fs) fs
under_names u fs b i = go (at fs i) (type_grown fs b i)
  where
    go : (x : Form) → type_at fs i ≡ form_type (type_at fs) x → Names u x (under u fs i)
    go (form.var z) e = ap (apply u) e
    go (form.made s) e = tt
    go (form.link j) e = tt

-- Who fits the graph, and gives the variables their nodes' types, has the types written out.
back_tree : (u : Subst) (v : Valuation) (fs : List Form) → IsBuilt fs → Holds v fs → ((i x : ℕ) → i < length fs → at fs i ≡ form.var x → u x ≡ v i) → (m i : ℕ) → i < m → i < length fs → v i ≡ apply u (tree m fs i)
unfolding tree
back_tree u v fs b h n zero i lt inn = let bad : ⊥ = omega (arith, lt) in absurd bad
back_tree u v fs b h n (suc m) i lt inn = go (back_tree u v fs b h n m) (at fs i) refl (b i) (h i)
  where
    go : ((j : ℕ) → j < m → j < length fs → v j ≡ apply u (tree m fs j)) → (x : Form) → at fs i ≡ x → Grows x i → Says v x (v i) → v i ≡ apply u (form_type (tree m fs) x)
    go r (form.var z) e g s = sym (n i z inn e)
    go r (form.made s) e g q =
        q
        ∙ whole_same v (λ p. apply u (tree m fs p)) s
        (each (λ p. p < i) (λ p. v p ≡ apply u (tree m fs p)) (parts s) (λ p w. r p (omega (arith, w, lt)) (omega (arith, w, inn))) g)
        ∙ sym (apply_whole u (tree m fs) s)
    go r (form.link j) e g s = absurd g

equal_under : (u : Subst) (fs : List Form) (w : List Equation) → AllUnify u (equations_of fs w) → Equal (under u fs) w
equal_under u fs [] h = tt
equal_under u fs (e ∷ w) h = (h.0, equal_under u fs w h.1)

under_equal : (u : Subst) (v : Valuation) (fs : List Form) (w : List Equation) → ((i : ℕ) → i < length fs → v i ≡ under u fs i) → AreIn (length fs) w → Equal v w → AllUnify u (equations_of fs w)
under_equal u v fs [] f i h = tt
under_equal u v fs (e ∷ w) f i h = (sym (f e.left i.0) ∙ h.0 ∙ f e.right i.1, under_equal u v fs w f i.2 h.1)

-- The solution at a variable that has a node, and at others.

at_home : (limit : ℕ) (homes : List ℕ) (gs : List Form) (x : ℕ) → x < length homes → solution limit homes gs x ≡ read limit gs (get_or homes x 0)
at_home limit homes gs x lt = ap (λ b. if b then read limit gs (get_or homes x 0) else types.var x) (lt-ltb x (length homes) lt)

away : (limit : ℕ) (homes : List ℕ) (gs : List Form) (x : ℕ) → length homes ≤ x → solution limit homes gs x ≡ types.var x
away limit homes gs x le = ap (λ b. if b then read limit gs (get_or homes x 0) else types.var x) (le-ltb x (length homes) le)

-- within the limits, whatever they are
abbrev Fits : ℕ → ℕ → Ty → Type 0
Fits limit most t = (nodes t ≤ most) × (levels t ≤ limit) × IsType t

-- a solved graph after its links were made short, before the limits are known
pub record Ready (a c : List Form) (w : List Equation) : Type 0 where
  pub built : IsBuilt a
  pub inside : AreIn (length a) w
  pub long : length c ≡ length a
  pub on : (v : Valuation) → Holds v a → Equal v w → Holds v c
  pub back : (v : Valuation) → Holds v c → Holds v a × Equal v w
  pub names : (u : Subst) (v : Valuation) → Holds v a → Equal v w → Named u v a → Named u v c
  pub flat : IsFlat c

pub ready : (a b c : List Form) (w : List Equation) → IsBuilt a → AreIn (length a) w → Leads a b w [] → Keeps b c → IsFlat c → Ready a c w
ready a b c w bt inn l k f = record {
  built = bt;
  inside = inn;
  long = k.long ∙ l.long;
  on = λ v h e. k.on v (l.on v h e).0;
  back = λ v h. l.back v (k.back v h) tt;
  names = λ u v h e n. k.names u v (l.on v h e).0 (l.names u v h e n);
  flat = f;
}

pub best : (limit most : ℕ) (a c : List Form) (w : List Equation) (homes : List ℕ) → Ready a c w → AreHomes homes a → Measured true limit most c →
    AllUnify (solution limit homes c) (equations_of a w) × ((i : ℕ) → i < length a → Fits limit most (apply (solution limit homes c) (type_at a i))) × ((u : Subst) → AllUnify u (equations_of a w) → (x : ℕ) → u x ≡ apply u (solution limit homes c x)) × Reads limit (solution limit homes c) a c
best limit most a c w homes r hm h =
    let v = read limit c in
    let s = solution limit homes c in
    let fit = r.back v (all_fit most limit c r.flat h) in
    let own : (i x : ℕ) → i < length a → at a i ≡ form.var x → s x ≡ v i = λ i x lt e. at_home limit homes c x (hm.inside i x lt e) ∙ ap v (hm.only i x lt e) in
    let same : (i : ℕ) → i < length a → v i ≡ under s a i = λ i lt. back_tree s v a r.built fit.0 own (suc i) i (omega arith) lt in
    let high : (i : ℕ) → i < length a → (q : Extent) × (extent most limit c i ≡ Some q) = λ i lt. known_some (extent most limit c i) (h i (omega (arith, lt, r.long))) in (
      under_equal s v a w same r.inside fit.1,
      (λ i lt.
          let q = high i lt in
          let k = known most limit c i q.0 q.1 in
          subst (Fits limit most) (same i lt) (omega (arith, k.large, k.small), omega (arith, k.high, k.few), k.typed)),
      (λ u p x.
          let y = under u a in
          let hy = under_says u a r.built in let ny = under_names u a r.built in let ey = equal_under u a w p in
          elim (cases_lt x (length homes)) [
            | inl lt ↦
                let i = get_or homes x 0 in
                let e = hm.stands x lt in
                let q = high i (hm.below x lt) in
                let g = general most u y c (r.on y hy ey) (r.names u y hy ey ny) r.flat limit i q.0 q.1 in
                sym (subst (λ n. Names u n (y i)) e (ny i)) ∙ g ∙ ap (apply u) (sym (at_home limit homes c x lt))
            | inr le ↦ ap (apply u) (sym (away limit homes c x le))
          ]),
      same,
    )

-- the same with the language's limits
pub solves : (a c : List Form) (w : List Equation) (homes : List ℕ) → Ready a c w → AreHomes homes a → Measured true 400 10000 c → Solves 400 homes a c w
solves a c w homes r hm h = let b = best 400 10000 a c w homes r hm h in record { best = record { unifies = b.0; within = b.1; general = b.2 }; reads = b.3 }

exceeded : (limit most : ℕ) (a c : List Form) (w : List Equation) → Ready a c w → Measured false limit most c → (u : Subst) → AllUnify u (equations_of a w) → ((i : ℕ) → i < length a → Fits limit most (apply u (type_at a i))) → ⊥
exceeded limit most a c w r h u p q =
    let y = under u a in
    let f = q h.0 (omega (arith, h.1, r.long)) in
    exceeds most y c (r.on y (under_says u a r.built) (equal_under u a w p)) limit h.0 h.2 f.2 f.1 f.0

-- where a type is too large, nothing solves the equations within the limits
pub none : (a c : List Form) (w : List Equation) → Ready a c w → Measured false 400 10000 c → (u : Subst) → IsSolution u a w → ⊥
none a c w r h u s = exceeded 400 10000 a c w r h u s.unifies s.within

pub clash : (a : List Form) (w : List Equation) → IsBuilt a → ((v : Valuation) → Holds v a → Equal v w → ⊥) → (u : Subst) → IsSolution u a w → ⊥
clash a w bt h u s = h (under u a) (under_says u a bt) (equal_under u a w s.unifies)
