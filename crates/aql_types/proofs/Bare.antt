-- Forms of nodes: what does not depend on where the parts of tuples stand.
use Rattle.std.proofs.Common.{ℕ, ◌≡◌, List, [], length, set, get_or, Some, None, refl, sym, ap, ◌∙◌, subst}
use Rattle.std.proofs.lemmas.List.{map-set, length-map}
use Rattle.std.proofs.Math.ListN.{get_or-map}
use Rattle.aql_types.specs.declared.node.Node.{Node}
use Rattle.aql_types.specs.declared.node.Node.TheVariants as node
use Rattle.aql_types.specs.Forms.{Form, form_of, forms, at}
use Rattle.aql_types.specs.Forms as form
use Rattle.aql_types.specs.Valuations.{IsRoot, IsOrdered, Points}
use Rattle.aql_types.specs.Steps.{LinksDown, bare, IsFlat, link_in}
use Rattle.aql_types.specs.Extents.{link_target, end}

pub forms_at : (ps : List ℕ) (ns : List Node) (i : ℕ) → at (forms ps ns) i ≡ form_of ps (get_or ns i (node.Var 0))
forms_at ps ns i = get_or-map (form_of ps) ns i (node.Var 0)

pub forms_set : (ps : List ℕ) (ns : List Node) (i : ℕ) (n : Node) → forms ps (set ns i n) ≡ set (forms ps ns) i (form_of ps n)
forms_set ps ns i n = map-set (form_of ps) ns i n

pub forms_length : (ps : List ℕ) (ns : List Node) → length (forms ps ns) ≡ length ns
forms_length ps ns = length-map ns (form_of ps)

-- Links and roots.

link_node : (ps qs : List ℕ) (n : Node) (j : ℕ) → form_of ps n ≡ form.link j → form_of qs n ≡ form.link j
link_node ps qs (node.Var x) j e = let bad : ⊥ = cc in absurd bad
link_node ps qs node.Nat j e = let bad : ⊥ = cc in absurd bad
link_node ps qs node.Bool j e = let bad : ⊥ = cc in absurd bad
link_node ps qs node.Text j e = let bad : ⊥ = cc in absurd bad
link_node ps qs (node.Tuple first count) j e = let bad : ⊥ = cc in absurd bad
link_node ps qs (node.Set p) j e = let bad : ⊥ = cc in absurd bad
link_node ps qs (node.Array rank p) j e = let bad : ⊥ = cc in absurd bad
link_node ps qs (node.Link k) j e = e

root_node : (ps qs : List ℕ) (n : Node) → IsRoot (form_of ps n) → IsRoot (form_of qs n)
root_node ps qs (node.Var x) h = tt
root_node ps qs node.Nat h = tt
root_node ps qs node.Bool h = tt
root_node ps qs node.Text h = tt
root_node ps qs (node.Tuple first count) h = tt
root_node ps qs (node.Set p) h = tt
root_node ps qs (node.Array rank p) h = tt
root_node ps qs (node.Link k) h = h

target_node : (ps qs : List ℕ) (n : Node) (i : ℕ) → link_target (form_of ps n) i ≡ link_target (form_of qs n) i
target_node ps qs (node.Var x) i = refl
target_node ps qs node.Nat i = refl
target_node ps qs node.Bool i = refl
target_node ps qs node.Text i = refl
target_node ps qs (node.Tuple first count) i = refl
target_node ps qs (node.Set p) i = refl
target_node ps qs (node.Array rank p) i = refl
target_node ps qs (node.Link k) i = refl

pub same_link : (ps qs : List ℕ) (ns : List Node) (i j : ℕ) → at (forms ps ns) i ≡ form.link j → at (forms qs ns) i ≡ form.link j
same_link ps qs ns i j e = forms_at qs ns i ∙ link_node ps qs (get_or ns i (node.Var 0)) j (sym (forms_at ps ns i) ∙ e)

pub same_root : (ps qs : List ℕ) (ns : List Node) (i : ℕ) → IsRoot (at (forms ps ns) i) → IsRoot (at (forms qs ns) i)
same_root ps qs ns i h = subst IsRoot (sym (forms_at qs ns i)) (root_node ps qs (get_or ns i (node.Var 0)) (subst IsRoot (forms_at ps ns i) h))

pub same_end : (ps qs : List ℕ) (ns : List Node) (i : ℕ) → end (forms ps ns) i ≡ end (forms qs ns) i
same_end ps qs ns i =
    ap (λ x. link_target x i) (forms_at ps ns i) ∙ target_node ps qs (get_or ns i (node.Var 0)) i ∙ ap (λ x. link_target x i) (sym (forms_at qs ns i))

pub same_flat : (ps : List ℕ) (ns : List Node) → IsFlat (bare ns) → IsFlat (forms ps ns)
same_flat ps ns h i j e = same_root [] ps ns j (h i j (same_link ps [] ns i j e))

-- links of an ordered graph lead down
pub down_link : (fs : List Form) → IsOrdered fs → LinksDown fs
down_link fs o i j e = subst (λ x. Points x i (length fs)) e (o i)

pub same_down : (ps : List ℕ) (ns : List Node) → IsOrdered (forms ps ns) → LinksDown (bare ns)
same_down ps ns o i j e = down_link (forms ps ns) o i j (same_link [] ps ns i j e)

-- Where links lead.

pub link_is : (f : Form) (j : ℕ) → link_in f ≡ Some j → f ≡ form.link j
link_is (form.var z) j e = let bad : ⊥ = cc in absurd bad
link_is (form.made s) j e = let bad : ⊥ = cc in absurd bad
link_is (form.link k) j e = ap form.link (target e)
  where
    target : {k j : ℕ} → Some k ≡ Some j → k ≡ j
    target e = cc

pub root_is : (f : Form) → link_in f ≡ None → IsRoot f
root_is (form.var z) e = tt
root_is (form.made s) e = tt
root_is (form.link k) e = let bad : ⊥ = cc in absurd bad

pub end_link : (fs : List Form) (i j : ℕ) → link_in (at fs i) ≡ Some j → end fs i ≡ j
end_link fs i j e = ap (λ x. link_target x i) (link_is (at fs i) j e)

pub end_self : (fs : List Form) (i : ℕ) → link_in (at fs i) ≡ None → end fs i ≡ i
end_self fs i e = go (at fs i) (root_is (at fs i) e)
  where
    go : (f : Form) → IsRoot f → link_target f i ≡ i
    go (form.var z) r = refl
    go (form.made s) r = refl
    go (form.link k) r = absurd r
