-- What is read of measured nodes: its extent, and that more room changes nothing.
use Rattle.std.proofs.Common.{ℕ, zero, suc, ◌≡◌, ◌+◌, ◌-◌, ◌<◌, ◌≤◌, Some, List, [], ◌∷◌, refl, sym, ap, ◌∙◌, subst, arith}
use Rattle.std.proofs.lemmas.Option.{same_Some}
use Rattle.aql_value.specs.Lists.{Every}
use Rattle.aql_ty.specs.Types as types
use Rattle.aql_ty.specs.Types.{Ty, Subst, apply, levels, levels_all, nodes, nodes_all, IsType, AreTypes}
use Rattle.aql_types.specs.declared.extent.Extent.{Extent}
use Rattle.aql_types.specs.Shapes.{Valuation, parts, types_at}
use Rattle.aql_types.specs.Forms.{Form, at}
use Rattle.aql_types.specs.Forms as form
use Rattle.aql_types.specs.Valuations.{Says, Holds, Names, Named, IsRoot}
use Rattle.aql_types.specs.Steps.{IsFlat}
use Rattle.aql_types.specs.Trees.{form_type}
use Rattle.aql_types.specs.Extents.{link_target, end, read, nothing, above, together, over, extent}
use Rattle.aql_types.specs.Laws.Shapes.{each, whole_same, apply_whole, levels_whole, nodes_whole, formed_type}
use Rattle.aql_types.proofs.Extents.{beside_some, above_some, same_beside, formed_some, formed_over, parts_some, at_end}

-- What is known of a measured node.
pub record Known (most m : ℕ) (fs : List Form) (i : ℕ) (e : Extent) : Type 0 where
  pub few : e.levels ≤ m
  pub pos : 0 < e.levels
  pub small : e.nodes ≤ most
  pub high : levels (read m fs i) ≡ e.levels
  pub large : nodes (read m fs i) ≡ e.nodes
  pub typed : IsType (read m fs i)
  pub more : read (suc m) fs i ≡ read m fs i
  pub again : extent most (suc m) fs i ≡ Some e

record KnownParts (most m : ℕ) (fs : List Form) (ps : List ℕ) (e : Extent) : Type 0 where
  few : e.levels ≤ m
  high : levels_all (types_at (read m fs) ps) ≡ e.levels
  large : nodes_all (types_at (read m fs) ps) ≡ e.nodes
  typed : AreTypes (types_at (read m fs) ps)
  more : Every (λ p. read (suc m) fs p ≡ read m fs p) ps
  again : together most (extent most (suc m) fs) ps ≡ Some e

record KnownForm (most m : ℕ) (fs : List Form) (f : Form) (e : Extent) : Type 0 where
  few : e.levels ≤ suc m
  pos : 0 < e.levels
  small : e.nodes ≤ most
  high : levels (form_type (read m fs) f) ≡ e.levels
  large : nodes (form_type (read m fs) f) ≡ e.nodes
  typed : IsType (form_type (read m fs) f)
  more : form_type (read (suc m) fs) f ≡ form_type (read m fs) f
  again : over most (extent most (suc m) fs) f ≡ Some e

known_parts : (most m : ℕ) (fs : List Form) → ((p : ℕ) (e : Extent) → extent most m fs p ≡ Some e → Known most m fs p e) → (ps : List ℕ) (e : Extent) → together most (extent most m fs) ps ≡ Some e → KnownParts most m fs ps e
known_parts most m fs ih [] e h =
    let l : 0 ≡ e.levels = ap (λ (z : Extent). z.levels) (same_Some _ _ h) in
    let n : 0 ≡ e.nodes = ap (λ (z : Extent). z.nodes) (same_Some _ _ h) in
    record { few = omega (arith, l); high = l; large = n; typed = tt; more = tt; again = h }
known_parts most m fs ih (p ∷ ps) e h =
    let b = beside_some most (extent most m fs p) (together most (extent most m fs) ps) e h in
    let k = ih p b.one b.first in
    let r = known_parts most m fs ih ps b.other b.second in
    record {
      few = omega (arith, b.high, k.few, r.few);
      high = omega (arith, b.high, k.high, r.high);
      large = omega (arith, b.large, k.large, r.large);
      typed = (k.typed, r.typed);
      more = (k.more, r.more);
      again = same_beside most k.again r.again ∙ sym (same_beside most b.first b.second) ∙ h;
    }

-- a type without parts
known_leaf : (most m : ℕ) (e : Extent) (t : Ty) → levels t ≡ 1 → nodes t ≡ 1 → above most (Some nothing) ≡ Some e → (e.levels ≤ suc m) × (0 < e.levels) × (e.nodes ≤ most) × (levels t ≡ e.levels) × (nodes t ≡ e.nodes)
known_leaf most m e t l n h =
    let a = above_some most (Some nothing) e h in
    let x : 0 ≡ a.one.levels = ap (λ (z : Extent). z.levels) (same_Some _ _ a.first) in
    let y : 0 ≡ a.one.nodes = ap (λ (z : Extent). z.nodes) (same_Some _ _ a.first) in
    let p = a.high in let q = a.large in let r = a.few in
    (omega (arith, x, p), omega (arith, x, p), omega (arith, q, r), omega (arith, l, x, p), omega (arith, n, y, q))

known_form : (most m : ℕ) (fs : List Form) → ((p : ℕ) (e : Extent) → extent most m fs p ≡ Some e → Known most m fs p e) → (f : Form) (e : Extent) → over most (extent most m fs) f ≡ Some e → KnownForm most m fs f e
known_form most m fs ih (form.var z) e h =
    let k = known_leaf most m e (types.var z) refl refl h in
    record { few = k.0; pos = k.1; small = k.2; high = k.3; large = k.4; typed = tt; more = refl; again = h }
known_form most m fs ih (form.link j) e h =
    let k = known_leaf most m e types.natural refl refl h in
    record { few = k.0; pos = k.1; small = k.2; high = k.3; large = k.4; typed = tt; more = refl; again = h }
known_form most m fs ih (form.made s) e h =
    let f = formed_some most s (together most (extent most m fs) (parts s)) e h in
    let a = above_some most (together most (extent most m fs) (parts s)) e f.1 in
    let k = known_parts most m fs ih (parts s) a.one a.first in
    let l = levels_whole (read m fs) s in
    let n = nodes_whole (read m fs) s in
    record {
      few = omega (arith, a.high, k.few);
      pos = omega (arith, a.high);
      small = omega (arith, a.large, a.few);
      high = omega (arith, l, k.high, a.high);
      large = omega (arith, n, k.large, a.large);
      typed = formed_type (read m fs) s f.0 k.typed;
      more = whole_same (read (suc m) fs) (read m fs) s k.more;
      again = formed_over most s (together most (extent most (suc m) fs) (parts s)) f.0 ∙ ap (above most) (k.again ∙ sym a.first) ∙ f.1;
    }

pub known : (most m : ℕ) (fs : List Form) (i : ℕ) (e : Extent) → extent most m fs i ≡ Some e → Known most m fs i e
unfolding read extent
known most zero fs i e h = let bad : ⊥ = cc in absurd bad
known most (suc m) fs i e h =
    let k = known_form most m fs (known most m fs) (at fs (end fs i)) e h in
    record { few = k.few; pos = k.pos; small = k.small; high = k.high; large = k.large; typed = k.typed; more = k.more; again = k.again }

room : (most m d : ℕ) (fs : List Form) (i : ℕ) (e : Extent) → extent most m fs i ≡ Some e → extent most (d + m) fs i ≡ Some e
room most m zero fs i e h = subst (λ x. extent most x fs i ≡ Some e) (let z : m ≡ 0 + m = omega arith in z) h
room most m (suc d) fs i e h = subst (λ x. extent most x fs i ≡ Some e) (let z : suc (d + m) ≡ suc d + m = omega arith in z) (known most (d + m) fs i e (room most m d fs i e h)).again

-- more room changes nothing
pub rooms : (most m n : ℕ) (fs : List Form) (i : ℕ) (e : Extent) → m ≤ n → extent most m fs i ≡ Some e → extent most n fs i ≡ Some e
rooms most m n fs i e le h = subst (λ x. extent most x fs i ≡ Some e) (let z : (n - m) + m ≡ n = omega arith in z) (room most m (n - m) fs i e h)

-- Its own levels are room enough.

exact_parts : (most m j : ℕ) (fs : List Form) → ((p : ℕ) (e : Extent) → extent most m fs p ≡ Some e → extent most e.levels fs p ≡ Some e) → (ps : List ℕ) (e : Extent) → e.levels ≤ j → together most (extent most m fs) ps ≡ Some e → together most (extent most j fs) ps ≡ Some e
exact_parts most m j fs ih [] e le h = h
exact_parts most m j fs ih (p ∷ ps) e le h =
    let b = beside_some most (extent most m fs p) (together most (extent most m fs) ps) e h in
    let x = rooms most b.one.levels j fs p b.one (omega (arith, b.high, le)) (ih p b.one b.first) in
    let y = exact_parts most m j fs ih ps b.other (omega (arith, b.high, le)) b.second in
    same_beside most x y ∙ sym (same_beside most b.first b.second) ∙ h

exact_form : (most m : ℕ) (fs : List Form) → ((p : ℕ) (e : Extent) → extent most m fs p ≡ Some e → extent most e.levels fs p ≡ Some e) → (f : Form) (e : Extent) → over most (extent most m fs) f ≡ Some e → (j : ℕ) × (e.levels ≡ suc j) × (over most (extent most j fs) f ≡ Some e)
exact_form most m fs ih (form.var z) e h = let a = above_some most (Some nothing) e h in (a.one.levels, omega (arith, a.high), h)
exact_form most m fs ih (form.link j) e h = let a = above_some most (Some nothing) e h in (a.one.levels, omega (arith, a.high), h)
exact_form most m fs ih (form.made s) e h =
    let f = formed_some most s (together most (extent most m fs) (parts s)) e h in
    let a = above_some most (together most (extent most m fs) (parts s)) e f.1 in
    let j = a.one.levels in
    let t = exact_parts most m j fs ih (parts s) a.one (omega arith) a.first in
    (j, omega (arith, a.high), formed_over most s (together most (extent most j fs) (parts s)) f.0 ∙ ap (above most) (t ∙ sym a.first) ∙ f.1)

pub exactly : (most m : ℕ) (fs : List Form) (i : ℕ) (e : Extent) → extent most m fs i ≡ Some e → extent most e.levels fs i ≡ Some e
unfolding extent
exactly most zero fs i e h = let bad : ⊥ = cc in absurd bad
exactly most (suc m) fs i e h =
    let p = exact_form most m fs (exactly most m fs) (at fs (end fs i)) e h in
    subst (λ x. extent most x fs i ≡ Some e) (sym p.1) p.2

-- The end of a node stands for it.

root_target : (f : Form) (i : ℕ) → IsRoot f → link_target f i ≡ i
root_target (form.var z) i r = refl
root_target (form.made s) i r = refl
root_target (form.link j) i r = absurd r

pub end_end : (fs : List Form) → IsFlat fs → (i : ℕ) → end fs (end fs i) ≡ end fs i
end_end fs f i = go (at fs i) refl
  where
    go : (x : Form) → at fs i ≡ x → end fs (link_target x i) ≡ link_target x i
    go (form.var z) e = ap (λ x. link_target x i) e
    go (form.made s) e = ap (λ x. link_target x i) e
    go (form.link j) e = root_target (at fs j) j (f i j e)

pub extent_end : (most m : ℕ) (fs : List Form) (i : ℕ) → IsFlat fs → extent most m fs (end fs i) ≡ extent most m fs i
unfolding extent
extent_end most zero fs i f = refl
extent_end most (suc m) fs i f = ap (λ e. over most (extent most m fs) (at fs e)) (end_end fs f i)

pub read_end : (m : ℕ) (fs : List Form) (i : ℕ) → IsFlat fs → read m fs (end fs i) ≡ read m fs i
unfolding read
read_end zero fs i f = refl
read_end (suc m) fs i f = ap (λ e. form_type (read m fs) (at fs e)) (end_end fs f i)

pub end_root : (fs : List Form) → IsFlat fs → (i : ℕ) → IsRoot (at fs (end fs i))
end_root fs f i = go (at fs i) refl
  where
    go : (x : Form) → at fs i ≡ x → IsRoot (at fs (link_target x i))
    go (form.var z) e = subst IsRoot (sym e) tt
    go (form.made s) e = subst IsRoot (sym e) tt
    go (form.link j) e = f i j e

-- Who fits the graph has an instance of what is read.

general_form : (most : ℕ) (u : Subst) (v : Valuation) (m : ℕ) (fs : List Form) → ((p : ℕ) (e : Extent) → extent most m fs p ≡ Some e → v p ≡ apply u (read m fs p)) → (f : Form) (t : Ty) (e : Extent) → IsRoot f → Says v f t → Names u f t → over most (extent most m fs) f ≡ Some e → t ≡ apply u (form_type (read m fs) f)
general_form most u v m fs ih (form.var z) t e r h n k = n
general_form most u v m fs ih (form.made s) t e r h n k =
    let f = formed_some most s (together most (extent most m fs) (parts s)) e k in
    let a = above_some most (together most (extent most m fs) (parts s)) e f.1 in
    let ps = parts_some most (extent most m fs) (parts s) a.one a.first in
    h
    ∙ whole_same v (λ p. apply u (read m fs p)) s (each (λ p. (b : Extent) × (extent most m fs p ≡ Some b)) (λ p. v p ≡ apply u (read m fs p)) (parts s) (λ p q. ih p q.0 q.1) ps)
    ∙ sym (apply_whole u (read m fs) s)
general_form most u v m fs ih (form.link j) t e r h n k = absurd r

pub general : (most : ℕ) (u : Subst) (v : Valuation) (fs : List Form) → Holds v fs → Named u v fs → IsFlat fs → (m i : ℕ) (e : Extent) → extent most m fs i ≡ Some e → v i ≡ apply u (read m fs i)
unfolding read extent
general most u v fs h n f zero i e k = let bad : ⊥ = cc in absurd bad
general most u v fs h n f (suc m) i e k =
    let j = end fs i in
    at_end v fs i h ∙ general_form most u v m fs (general most u v fs h n f m) (at fs j) (v j) e (end_root fs f i) (h j) (n j) k

-- What is read fits the node that it is read of.

pub fits : (most m : ℕ) (fs : List Form) (i : ℕ) (e : Extent) → IsFlat fs → extent most m fs i ≡ Some e → (x : Form) → at fs i ≡ x → Says (read m fs) x (read m fs i)
unfolding extent read
fits most m fs i e f h (form.var z) q = tt
fits most m fs i e f h (form.link j) q = sym (read_end m fs i f) ∙ ap (read m fs) (ap (λ x. link_target x i) q)
fits most zero fs i e f h (form.made s) q = let bad : ⊥ = cc in absurd bad
fits most (suc m) fs i e f h (form.made s) q =
    let p : end fs i ≡ i = ap (λ x. link_target x i) q in
    let o : over most (extent most m fs) (form.made s) ≡ Some e = ap (over most (extent most m fs)) (sym q ∙ ap (at fs) (sym p)) ∙ h in
    let g = formed_some most s (together most (extent most m fs) (parts s)) e o in
    let a = above_some most (together most (extent most m fs) (parts s)) e g.1 in
    let ps = parts_some most (extent most m fs) (parts s) a.one a.first in
    ap (λ x. form_type (read m fs) (at fs x)) p ∙ ap (form_type (read m fs)) q
    ∙ whole_same (read m fs) (read (suc m) fs) s (each (λ p. (b : Extent) × (extent most m fs p ≡ Some b)) (λ p. read m fs p ≡ read (suc m) fs p) (parts s) (λ p r. sym (known most m fs p r.0 r.1).more) ps)
