-- A node written, and what stays.
use Rattle.std.proofs.Common.{ℕ, ◌≡◌, ◌+◌, ◌<◌, ◌≤◌, List, [], length, set, refl, sym, ap, ◌∙◌, subst, arith, inl, inr, get_or-set_same, get_or-set_other, length-set}
use Rattle.std.proofs.lemmas.Bool.{cases_eq, cases_lt}
use Rattle.std.proofs.lemmas.List.{get_or_past}
use Rattle.std.proofs.lemmas.List.Sums.{sum_by-set}
use Rattle.aql_types.specs.declared.node.Node.{Node}
use Rattle.aql_types.specs.declared.node.Node.TheVariants as node
use Rattle.aql_types.specs.Shapes.{Valuation}
use Rattle.aql_types.specs.Forms.{Form, form_of, forms, at}
use Rattle.aql_types.specs.Forms as form
use Rattle.aql_types.specs.Valuations.{Says, Holds, Names, Points, IsOrdered, IsRoot}
use Rattle.aql_types.specs.Steps.{potential, potential_of, Keeps, KeepsNodes, LinksDown, bare, IsFlat, IsFlatBelow}
use Rattle.aql_types.proofs.Bare.{forms_set, forms_length, same_link}

-- What holds of each node stays so where the new one has it.
pub held : (P : ℕ → Form → Type 0) (fs : List Form) (i : ℕ) (f : Form) → i < length fs → P i f → ((k : ℕ) → P k (at fs k)) → (k : ℕ) → P k (at (set fs i f) k)
held P fs i f lt p h k = elim (cases_eq k i) [
  | inl e ↦ subst (λ x. P x (at (set fs i f) x)) (sym e) (subst (P i) (sym (get_or-set_same fs i f (form.var 0) lt)) p)
  | inr ne ↦ subst (P k) (sym (get_or-set_other fs i k f (form.var 0) ne)) (h k)
]

-- And the other way round.
pub unheld : (P : ℕ → Form → Type 0) (fs : List Form) (i : ℕ) (f : Form) → P i (at fs i) → ((k : ℕ) → P k (at (set fs i f) k)) → (k : ℕ) → P k (at fs k)
unheld P fs i f p h k = elim (cases_eq k i) [
  | inl e ↦ subst (λ x. P x (at fs x)) (sym e) p
  | inr ne ↦ subst (P k) (get_or-set_other fs i k f (form.var 0) ne) (h k)
]

pub ordered_put : (fs : List Form) (i : ℕ) (f : Form) → i < length fs → Points f i (length fs) → IsOrdered fs → IsOrdered (set fs i f)
ordered_put fs i f lt p h = subst (λ m. (k : ℕ) → Points (at (set fs i f) k) k m) (sym (length-set fs i f)) (held (λ k x. Points x k (length fs)) fs i f lt p h)

pub holds_put : (v : Valuation) (fs : List Form) (i : ℕ) (f : Form) → i < length fs → Says v f (v i) → Holds v fs → Holds v (set fs i f)
holds_put v fs i f lt p h = held (λ k x. Says v x (v k)) fs i f lt p h

pub holds_before : (v : Valuation) (fs : List Form) (i : ℕ) (f : Form) → Says v (at fs i) (v i) → Holds v (set fs i f) → Holds v fs
holds_before v fs i f p h = unheld (λ k x. Says v x (v k)) fs i f p h

pub potential_put : (fs : List Form) (i : ℕ) (f : Form) → i < length fs → potential (set fs i f) + potential_of (at fs i) ≡ potential fs + potential_of f
potential_put fs i f lt = sum_by-set potential_of fs i f (form.var 0) lt

pub keeps_all : (fs : List Form) → Keeps fs fs
keeps_all fs = record { long = refl; ordered = λ o. o; on = λ v k. k; back = λ v k. k; potential_kept = refl; names = λ u v h n. n; roots = λ i r. r }

pub keeps_keeps : {a b c : List Form} → Keeps a b → Keeps b c → Keeps a c
keeps_keeps h k = record {
  long = k.long ∙ h.long;
  ordered = λ o. k.ordered (h.ordered o);
  on = λ v x. k.on v (h.on v x);
  back = λ v x. h.back v (k.back v x);
  potential_kept = k.potential_kept ∙ h.potential_kept;
  names = λ u v x n. k.names u v (h.on v x) (h.names u v x n);
  roots = λ i r. k.roots i (h.roots i r);
}

-- a link to a link is made to lead on
keeps_shorter : (fs : List Form) (i j k : ℕ) → i < length fs → j < i → k < j → at fs i ≡ form.link j → at fs j ≡ form.link k → Keeps fs (set fs i (form.link k))
keeps_shorter fs i j k lt up further e f = record {
  long = length-set fs i (form.link k);
  ordered = λ o. ordered_put fs i (form.link k) lt (omega arith) o;
  on = λ v h. holds_put v fs i (form.link k) lt (subst (λ x. Says v x (v i)) e (h i) ∙ subst (λ x. Says v x (v j)) f (h j)) h;
  back = λ v h.
      let ne : j ≡ i → ⊥ = λ q. omega arith in
      let there : v j ≡ v k = subst (λ x. Says v x (v j)) (get_or-set_other fs i j (form.link k) (form.var 0) ne ∙ f) (h j) in
      let here : v i ≡ v k = subst (λ x. Says v x (v i)) (get_or-set_same fs i (form.link k) (form.var 0) lt) (h i) in
      holds_before v fs i (form.link k) (subst (λ x. Says v x (v i)) (sym e) (here ∙ sym there)) h;
  potential_kept = let w = potential_put fs i (form.link k) lt in let z : potential_of (at fs i) ≡ 0 = ap potential_of e in omega (arith, w, z);
  names = λ u v h n. held (λ m x. Names u x (v m)) fs i (form.link k) lt tt n;
  roots = λ x r. elim (cases_eq x i) [
    | inl q ↦ absurd (subst IsRoot e (subst (λ y. IsRoot (at fs y)) q r))
    | inr ne ↦ subst IsRoot (sym (get_or-set_other fs i x (form.link k) (form.var 0) ne)) r
  ];
}

-- and of the code's nodes
pub keeps_link : (ns : List Node) (i j k : ℕ) → i < length ns → LinksDown (bare ns) → at (bare ns) i ≡ form.link j → at (bare ns) j ≡ form.link k → KeepsNodes ns (set ns i (node.Link k))
keeps_link ns i j k lt d e f ps =
    subst (Keeps (forms ps ns)) (sym (forms_set ps ns i (node.Link k)))
    (keeps_shorter (forms ps ns) i j k (omega (arith, lt, forms_length ps ns)) (d i j e) (d j k f) (same_link [] ps ns i j e) (same_link [] ps ns j k f))

pub keeps_none : (ns : List Node) → KeepsNodes ns ns
keeps_none ns ps = keeps_all (forms ps ns)

pub keeps_both : (a b c : List Node) → KeepsNodes a b → KeepsNodes b c → KeepsNodes a c
keeps_both a b c h k ps = keeps_keeps (h ps) (k ps)

-- Links still lead down.
target : Form → ℕ
target (form.var z) = 0
target (form.made s) = 0
target (form.link j) = j

pub one_target : (j k : ℕ) → form.link j ≡ form.link k → j ≡ k
unfolding target
one_target j k e = ap target e

down_shorter : (fs : List Form) (i k : ℕ) → i < length fs → k < i → LinksDown fs → LinksDown (set fs i (form.link k))
down_shorter fs i k lt le d x y e = elim (cases_eq x i) [
  | inl q ↦ let t : k ≡ y = one_target k y (sym (get_or-set_same fs i (form.link k) (form.var 0) lt) ∙ ap (at (set fs i (form.link k))) (sym q) ∙ e) in omega (arith, t, q, le)
  | inr ne ↦ d x y (sym (get_or-set_other fs i x (form.link k) (form.var 0) ne) ∙ e)
]

pub down_link_put : (ns : List Node) (i j k : ℕ) → i < length ns → LinksDown (bare ns) → at (bare ns) i ≡ form.link j → at (bare ns) j ≡ form.link k → LinksDown (bare (set ns i (node.Link k)))
down_link_put ns i j k lt d e f =
    let up = d i j e in let further = d j k f in
    subst LinksDown (sym (forms_set [] ns i (node.Link k)))
    (down_shorter (bare ns) i k (omega (arith, lt, forms_length [] ns)) (omega (arith, up, further)) d)

-- Links up to i are flat when that at i is made shorter.
pub flat_next : (ns : List Node) (i j k : ℕ) → i < length ns → LinksDown (bare ns) → at (bare ns) i ≡ form.link j → at (bare ns) j ≡ form.link k → IsFlatBelow i (bare ns) → IsFlatBelow (i + 1) (bare (set ns i (node.Link k)))
flat_next ns i j k lt d e f h =
    let fs = bare ns in
    let up = d i j e in
    let r = h j k up f in
    let ks = keeps_shorter fs i j k (omega (arith, lt, forms_length [] ns)) up (d j k f) e f in
    subst (IsFlatBelow (i + 1)) (sym (forms_set [] ns i (node.Link k)))
    (λ x y xl q. elim (cases_eq x i) [
      | inl p ↦
          let t : y ≡ k = one_target y k (sym q ∙ ap (at (set fs i (form.link k))) p ∙ get_or-set_same fs i (form.link k) (form.var 0) (omega (arith, lt, forms_length [] ns))) in
          subst (λ z. IsRoot (at (set fs i (form.link k)) z)) (sym t) (ks.roots k r)
      | inr ne ↦ ks.roots y (h x y (omega arith) (sym (get_or-set_other fs i x (form.link k) (form.var 0) ne) ∙ q))
    ])

-- or leads to a root
pub flat_linked : (fs : List Form) (i j : ℕ) → at fs i ≡ form.link j → IsRoot (at fs j) → IsFlatBelow i fs → IsFlatBelow (i + 1) fs
flat_linked fs i j e r h x y xl q = elim (cases_eq x i) [
  | inl d ↦ let t : y ≡ j = one_target y j (sym q ∙ ap (at fs) d ∙ e) in subst (λ z. IsRoot (at fs z)) (sym t) r
  | inr ne ↦ h x y (omega arith) q
]

-- or is no link
pub flat_root : (fs : List Form) (i : ℕ) → IsRoot (at fs i) → IsFlatBelow i fs → IsFlatBelow (i + 1) fs
flat_root fs i r h x y xl q = elim (cases_eq x i) [
  | inl d ↦ absurd (subst IsRoot (ap (at fs) (sym d) ∙ q) r)
  | inr ne ↦ h x y (omega arith) q
]

-- nothing past the end is a link
pub flat_all : (ns : List Node) (n : ℕ) → length ns ≤ n → IsFlatBelow n (bare ns) → IsFlat (bare ns)
flat_all ns n le h i j e = elim (cases_lt i n) [
  | inl lt ↦ h i j lt e
  | inr past ↦
      let z : form.var 0 ≡ form.link j = sym (get_or_past (bare ns) i (form.var 0) (omega (arith, le, past, forms_length [] ns))) ∙ e in
      let bad : ⊥ = cc in
      absurd bad
]
