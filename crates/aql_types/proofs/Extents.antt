-- Extents: of what they are made, and how they bound the types of each solution.
use Rattle.std.proofs.Common.{ℕ, zero, suc, ◌≡◌, ◌+◌, ◌<◌, ◌≤◌, max, Option, Some, None, List, [], ◌∷◌, Bool, true, false, if◌then◌else◌, refl, sym, ap, ◌∙◌, subst, arith, inl, inr}
use Rattle.std.proofs.Math.Dec.{leb}
use Rattle.std.proofs.lemmas.Bool.{leb-true, le-leb, cases_lt}
use Rattle.std.proofs.lemmas.Option.{same_Some}
use Rattle.aql_value.specs.Lists.{Every}
use Rattle.aql_ty.specs.Types.{Ty, levels, levels_all, nodes, nodes_all, IsType, AreTypes}
use Rattle.aql_ty.specs.Laws.Types.{positive}
use Rattle.aql_types.specs.declared.extent.Extent.{Extent}
use Rattle.aql_types.specs.Shapes.{Shape, Valuation, parts, types_at, is_formed}
use Rattle.aql_types.specs.Forms.{Form, at}
use Rattle.aql_types.specs.Forms as form
use Rattle.aql_types.specs.Valuations.{Says, Holds}
use Rattle.aql_types.specs.Extents.{link_target, end, nothing, beside, above, together, over, extent}
use Rattle.aql_types.specs.Laws.Shapes.{levels_whole, nodes_whole, type_formed}

-- Of what an extent is made.

no_some : {a : Extent} → None ≡ Some a → ⊥
no_some e = cc

some_not : {a : Extent} → Some a ≡ None → ⊥
some_not e = cc

pub record Beside (most : ℕ) (x y : Option Extent) (e : Extent) : Type 0 where
  pub one : Extent
  pub other : Extent
  pub first : x ≡ Some one
  pub second : y ≡ Some other
  pub high : e.levels ≡ max one.levels other.levels
  pub large : e.nodes ≡ one.nodes + other.nodes
  pub few : one.nodes + other.nodes ≤ most

pub beside_some : (most : ℕ) (x y : Option Extent) (e : Extent) → beside most x y ≡ Some e → Beside most x y e
beside_some most None y e h = absurd (no_some h)
beside_some most (Some a) None e h = absurd (no_some h)
beside_some most (Some a) (Some b) e h = split (leb (a.nodes + b.nodes) most) refl h
  where
    split : (q : Bool) → leb (a.nodes + b.nodes) most ≡ q → (if q then Some (record { levels = max a.levels b.levels; nodes = a.nodes + b.nodes }) else None) ≡ Some e → Beside most (Some a) (Some b) e
    split true q k = record {
      one = a;
      other = b;
      first = refl;
      second = refl;
      high = ap (λ (z : Extent). z.levels) (sym (same_Some _ _ k));
      large = ap (λ (z : Extent). z.nodes) (sym (same_Some _ _ k));
      few = leb-true (a.nodes + b.nodes) most q;
    }
    split false q k = absurd (no_some k)

pub record Above (most : ℕ) (x : Option Extent) (e : Extent) : Type 0 where
  pub one : Extent
  pub first : x ≡ Some one
  pub high : e.levels ≡ one.levels + 1
  pub large : e.nodes ≡ one.nodes + 1
  pub few : one.nodes + 1 ≤ most

pub above_some : (most : ℕ) (x : Option Extent) (e : Extent) → above most x ≡ Some e → Above most x e
above_some most None e h = absurd (no_some h)
above_some most (Some a) e h = split (leb (a.nodes + 1) most) refl h
  where
    split : (q : Bool) → leb (a.nodes + 1) most ≡ q → (if q then Some (record { levels = a.levels + 1; nodes = a.nodes + 1 }) else None) ≡ Some e → Above most (Some a) e
    split true q k = record {
      one = a;
      first = refl;
      high = ap (λ (z : Extent). z.levels) (sym (same_Some _ _ k));
      large = ap (λ (z : Extent). z.nodes) (sym (same_Some _ _ k));
      few = leb-true (a.nodes + 1) most q;
    }
    split false q k = absurd (no_some k)

pub same_beside : (most : ℕ) {x y s t : Option Extent} → x ≡ s → y ≡ t → beside most x y ≡ beside most s t
same_beside most e f = cc

pub formed_some : (most : ℕ) (s : Shape) (x : Option Extent) (e : Extent) → (if is_formed s then above most x else None) ≡ Some e → (is_formed s ≡ true) × (above most x ≡ Some e)
formed_some most s x e h = split (is_formed s) refl h
  where
    split : (q : Bool) → is_formed s ≡ q → (if q then above most x else None) ≡ Some e → (is_formed s ≡ true) × (above most x ≡ Some e)
    split true q k = (q, k)
    split false q k = absurd (no_some k)

pub formed_over : (most : ℕ) (s : Shape) (x : Option Extent) → is_formed s ≡ true → (if is_formed s then above most x else None) ≡ above most x
formed_over most s x e = ap (λ b. if b then above most x else None) e

-- Each part of a measured type is measured.
pub parts_some : (most : ℕ) (f : ℕ → Option Extent) (ps : List ℕ) (e : Extent) → together most f ps ≡ Some e → Every (λ p. (a : Extent) × (f p ≡ Some a)) ps
parts_some most f [] e h = tt
parts_some most f (p ∷ ps) e h =
    let b = beside_some most (f p) (together most f ps) e h in
    ((b.one, b.first), parts_some most f ps b.other b.second)

-- A node is as large as the one that stands for it.

placed : (v : Valuation) (f : Form) (i : ℕ) → Says v f (v i) → v i ≡ v (link_target f i)
placed v (form.var z) i h = refl
placed v (form.made s) i h = refl
placed v (form.link j) i h = h

pub at_end : (v : Valuation) (fs : List Form) (i : ℕ) → Holds v fs → v i ≡ v (end fs i)
at_end v fs i h = placed v (at fs i) i (h i)

-- No solution has fewer nodes than were measured.

parts_nodes : (most : ℕ) (v : Valuation) (f : ℕ → Option Extent) → ((p : ℕ) (a : Extent) → f p ≡ Some a → a.nodes ≤ nodes (v p)) → (ps : List ℕ) (e : Extent) → together most f ps ≡ Some e → e.nodes ≤ nodes_all (types_at v ps)
parts_nodes most v f ih [] e h = let z : e.nodes ≡ 0 = ap (λ (z : Extent). z.nodes) (sym (same_Some _ _ h)) in omega (arith, z)
parts_nodes most v f ih (p ∷ ps) e h =
    let b = beside_some most (f p) (together most f ps) e h in
    let x = ih p b.one b.first in let y = parts_nodes most v f ih ps b.other b.second in
    omega (arith, x, y, b.large)

one_node : (most : ℕ) (e : Extent) (t : Ty) → above most (Some nothing) ≡ Some e → e.nodes ≤ nodes t
one_node most e t h =
    let a = above_some most (Some nothing) e h in
    let z : a.one.nodes ≡ 0 = ap (λ (z : Extent). z.nodes) (sym (same_Some _ _ a.first)) in
    let p = positive t in
    omega (arith, a.large, z, p.0)

form_nodes : (most : ℕ) (v : Valuation) (f : ℕ → Option Extent) → ((p : ℕ) (a : Extent) → f p ≡ Some a → a.nodes ≤ nodes (v p)) → (x : Form) (t : Ty) (e : Extent) → Says v x t → over most f x ≡ Some e → e.nodes ≤ nodes t
form_nodes most v f ih (form.var z) t e s h = one_node most e t h
form_nodes most v f ih (form.link j) t e s h = one_node most e t h
form_nodes most v f ih (form.made s) t e q h =
    let k = formed_some most s (together most f (parts s)) e h in
    let a = above_some most (together most f (parts s)) e k.1 in
    let x = parts_nodes most v f ih (parts s) a.one a.first in
    let n : nodes t ≡ nodes_all (types_at v (parts s)) + 1 = ap nodes q ∙ nodes_whole v s in
    omega (arith, x, n, a.large)

pub few_nodes : (most : ℕ) (v : Valuation) (fs : List Form) → Holds v fs → (m i : ℕ) (e : Extent) → extent most m fs i ≡ Some e → e.nodes ≤ nodes (v i)
unfolding extent
few_nodes most v fs h zero i e k = absurd (no_some k)
few_nodes most v fs h (suc m) i e k =
    subst (λ t. e.nodes ≤ nodes t) (sym (at_end v fs i h))
    (form_nodes most v (extent most m fs) (few_nodes most v fs h m) (at fs (end fs i)) (v (end fs i)) e (h (end fs i)) k)

-- What is not measured is too large, or no type of the language, in each solution.

-- not within the limits
abbrev pub Exceeds : ℕ → ℕ → Ty → Type 0
Exceeds most m t = IsType t → levels t ≤ m → nodes t ≤ most → ⊥

sum_large : (most : ℕ) (a b : Extent) → beside most (Some a) (Some b) ≡ None → most < a.nodes + b.nodes
sum_large most a b h = elim (cases_lt most (a.nodes + b.nodes)) [
  | inl lt ↦ lt
  | inr le ↦ absurd (some_not (sym (ap (λ q. if q then Some (record { levels = max a.levels b.levels; nodes = a.nodes + b.nodes }) else None) (le-leb (a.nodes + b.nodes) most le)) ∙ h))
]

one_large : (most : ℕ) (a : Extent) → above most (Some a) ≡ None → most < a.nodes + 1
one_large most a h = elim (cases_lt most (a.nodes + 1)) [
  | inl lt ↦ lt
  | inr le ↦ absurd (some_not (sym (ap (λ q. if q then Some (record { levels = a.levels + 1; nodes = a.nodes + 1 }) else None) (le-leb (a.nodes + 1) most le)) ∙ h))
]

-- some types of a tuple that are not within the limits
abbrev PartsExceed : ℕ → ℕ → Valuation → List ℕ → Type 0
PartsExceed most m v ps = AreTypes (types_at v ps) → levels_all (types_at v ps) ≤ m → nodes_all (types_at v ps) ≤ most → ⊥

parts_exceed : (most m : ℕ) (v : Valuation) (f : ℕ → Option Extent) → ((p : ℕ) (a : Extent) → f p ≡ Some a → a.nodes ≤ nodes (v p)) → ((p : ℕ) → f p ≡ None → Exceeds most m (v p)) →
    (ps : List ℕ) → together most f ps ≡ None → PartsExceed most m v ps
parts_exceed most m v f few ih [] h a l n = some_not h
parts_exceed most m v f few ih (p ∷ ps) h a l n = go (parts_exceed most m v f few ih ps) (f p) (together most f ps) refl refl h
  where
    go : (together most f ps ≡ None → PartsExceed most m v ps) → (x y : Option Extent) → f p ≡ x → together most f ps ≡ y → beside most x y ≡ None → ⊥
    go next None y e g k = ih p e a.0 (omega (arith, l)) (omega (arith, n))
    go next (Some x) None e g k = next g a.1 (omega (arith, l)) (omega (arith, n))
    go next (Some x) (Some y) e g k =
        let s = few p x e in let t = parts_nodes most v f few ps y g in let u = sum_large most x y k in omega (arith, s, t, u, n)

form_exceeds : (most m : ℕ) (v : Valuation) (f : ℕ → Option Extent) → ((p : ℕ) (a : Extent) → f p ≡ Some a → a.nodes ≤ nodes (v p)) → ((p : ℕ) → f p ≡ None → Exceeds most m (v p)) →
    (x : Form) (t : Ty) → Says v x t → over most f x ≡ None → Exceeds most (suc m) t
form_exceeds most m v f few ih (form.var z) t s h a l n = let u = one_large most nothing h in let p = positive t in omega (arith, u, p.0, n)
form_exceeds most m v f few ih (form.link j) t s h a l n = let u = one_large most nothing h in let p = positive t in omega (arith, u, p.0, n)
form_exceeds most m v f few ih (form.made s) t q h a l n =
    let w = type_formed v s (subst IsType q a) in
    let ln : levels t ≡ levels_all (types_at v (parts s)) + 1 = ap levels q ∙ levels_whole v s in
    let nn : nodes t ≡ nodes_all (types_at v (parts s)) + 1 = ap nodes q ∙ nodes_whole v s in
    go w.1 ln nn (together most f (parts s)) refl (sym (formed_over most s (together most f (parts s)) w.0) ∙ h)
  where
    go : AreTypes (types_at v (parts s)) → levels t ≡ levels_all (types_at v (parts s)) + 1 → nodes t ≡ nodes_all (types_at v (parts s)) + 1 → (y : Option Extent) → together most f (parts s) ≡ y → above most y ≡ None → ⊥
    go b ln nn None e k = parts_exceed most m v f few ih (parts s) e b (omega (arith, ln, l)) (omega (arith, nn, n))
    go b ln nn (Some y) e k = let c = parts_nodes most v f few (parts s) y e in let u = one_large most y k in omega (arith, c, u, nn, n)

pub exceeds : (most : ℕ) (v : Valuation) (fs : List Form) → Holds v fs → (m i : ℕ) → extent most m fs i ≡ None → Exceeds most m (v i)
unfolding extent
exceeds most v fs h zero i e = λ a l n. let p = positive (v i) in omega (arith, p.1, l)
exceeds most v fs h (suc m) i e =
    subst (Exceeds most (suc m)) (sym (at_end v fs i h))
    (form_exceeds most m v (extent most m fs) (few_nodes most v fs h m) (exceeds most v fs h m) (at fs (end fs i)) (v (end fs i)) (h (end fs i)) e)
