-- Nodes pushed behind others.
use Rattle.std.proofs.Common.{ℕ, ◌≡◌, ◌+◌, ◌<◌, ◌≤◌, List, [], ◌∷◌, ◌++◌, length, refl, sym, ap, ◌∙◌, subst, arith, inl, inr, length-append, append_assoc, Result, Ok, Err, Vec, Global, take, get_or}
use Rattle.std.specs.Prelude.{IfOk}
use Rattle.aql_value.specs.declared.memory.Memory.{Memory}
use Rattle.std.proofs.lemmas.Bool.{cases_lt}
use Rattle.std.proofs.lemmas.List.{append-nil, length-map, take_more}
use Rattle.aql_value.specs.Lists.{Every}
use Rattle.aql_value.specs.Laws.Lists.{Every-impl, Every-append}
use Rattle.aql_ty.specs.Types as types
use Rattle.aql_ty.specs.Types.{Ty, Tys, no_type, type, Subst, apply, apply_all, IsWithin, append}
use Rattle.aql_types.specs.Unifiers.{Equations, SidesWithin}
use Rattle.aql_types.specs.Unifiers as unifiers
use Rattle.aql_ty.specs.Laws.Types.{PartsWithin, parts_within, first_within, rest_within, member_within, cell_within, row_is, apply_same, apply_all_same, apply_var, apply_all_var, apply_all-append}
use Rattle.aql_ty.specs.declared.ty.Ty as code
use Rattle.aql_types.specs.declared.equation.Equation as code_equation
use Rattle.aql_ty.specs.View.{type_of, types_of}
use Rattle.aql_types.specs.EquationView.{equation_list}
use Rattle.aql_ty.specs.Laws.View.{types_last}
use Rattle.aql_types.specs.declared.node.Equation.{Equation}
use Rattle.aql_types.specs.declared.graph.Graph.{Graph}
use Rattle.aql_types.specs.Shapes as shape
use Rattle.aql_types.specs.Shapes.{Shape, Valuation, parts, types_at, whole}
use Rattle.aql_types.specs.Forms.{Form, form_of, at}
use Rattle.aql_types.specs.Forms as form
use Rattle.aql_types.specs.Valuations.{AreIn}
use Rattle.aql_types.specs.Trees.{form_type, type_at, equations_of, AllWithin}
use Rattle.aql_types.specs.Graphs.{forms_of, Adds}
use Rattle.aql_types.specs.Laws.Shapes.{types_same, whole_same}
use Rattle.aql_types.specs.Laws.Trees.{type_grown, at_first, at_last, kept_type}
use Rattle.aql_types.specs.Pushed.{shift, AreNumbered, IsFresh, Extends, Pushes, PushesAll, PushesUses, PushesEquations, Makes}

-- a type with no number raised
pub shift_none : (t : Ty) → apply (shift 0) t ≡ t
shift_none t = apply_same (shift 0) types.var (λ x. let e : 0 + x ≡ x = omega arith in ap types.var e) t ∙ apply_var t

pub shift_none_all : (ts : Tys) → apply_all (shift 0) ts ≡ ts
shift_none_all ts = apply_all_same (shift 0) types.var (λ x. let e : 0 + x ≡ x = omega arith in ap types.var e) ts ∙ apply_all_var ts

pub forms_long : (g : Graph) → length (forms_of g) ≡ length g.nodes.items
forms_long g = length-map g.nodes.items (form_of g.parts.items)

-- More nodes.

pub itself : (g : Graph) → Extends g g
itself g = record { behind = ([], sym (append-nil (forms_of g))); variables = refl }

pub further : (new mid old : Graph) → Extends new mid → Extends mid old → Extends new old
further new mid old e d = record {
  behind = (d.behind.0 ++ e.behind.0, e.behind.1 ∙ ap (λ fs. fs ++ e.behind.0) d.behind.1 ∙ append_assoc (forms_of old) d.behind.0 e.behind.0);
  variables = e.variables ∙ d.variables;
}

pub longer : (new old : Graph) → Extends new old → length old.nodes.items ≤ length new.nodes.items
longer new old e = omega (arith, forms_long new, forms_long old, ap length e.behind.1, length-append (forms_of old) e.behind.0)

kept_at : (new old : Graph) → Extends new old → (i : ℕ) → i < length (forms_of old) → at (forms_of new) i ≡ at (forms_of old) i
kept_at new old e i lt = ap (λ fs. at fs i) e.behind.1 ∙ at_first (forms_of old) e.behind.0 i lt

pub kept : (new old : Graph) → Extends new old → (i : ℕ) → i < length old.nodes.items → type_at (forms_of new) i ≡ type_at (forms_of old) i
kept new old e i lt = ap (λ fs. type_at fs i) e.behind.1 ∙ kept_type (forms_of old) e.behind.0 old.built i (omega (arith, lt, forms_long old))

pub kept_numbered : (new old : Graph) → Extends new old → AreNumbered old.variables (forms_of old) → AreNumbered new.variables (forms_of new)
kept_numbered new old e h =
    let le = longer new old e in let a = forms_long new in let b = forms_long old in let q = e.variables in let l = h.long in
    record {
      long = omega (arith, le, a, b, q, l);
      stands = λ x lt. kept_at new old e x (omega (arith, lt, q, l)) ∙ h.stands x (omega (arith, lt, q));
    }

-- One node more.

pub added : (i : ℕ) (new old : Graph) (s : Shape) → Adds i new old (form.made s) → Extends new old
added i new old s a = record { behind = (form.made s ∷ [], a.forms); variables = a.variables ∙ (let z : old.variables + 0 ≡ old.variables = omega arith in z) }

added_at : (i : ℕ) (new old : Graph) (s : Shape) → Adds i new old (form.made s) → at (forms_of new) i ≡ form.made s
added_at i new old s a =
    ap (at (forms_of new)) (a.number ∙ sym (forms_long old)) ∙ ap (λ fs. at fs (length (forms_of old))) a.forms ∙ at_last (forms_of old) (form.made s)

added_type : (i : ℕ) (new old : Graph) (s : Shape) → Adds i new old (form.made s) → Every (λ p. p < length old.nodes.items) (parts s) → type_at (forms_of new) i ≡ whole (type_at (forms_of old)) s
added_type i new old s a h =
    type_grown (forms_of new) new.built i
    ∙ ap (form_type (type_at (forms_of new))) (added_at i new old s a)
    ∙ whole_same (type_at (forms_of new)) (type_at (forms_of old)) s
    (Every-impl (λ p. p < length old.nodes.items) (λ p. type_at (forms_of new) p ≡ type_at (forms_of old) p) (λ p lt. kept new old (added i new old s a) p lt) (parts s) h)

added_within : (i : ℕ) (new old : Graph) (s : Shape) → Adds i new old (form.made s) → (u : Subst) → AllWithin u (forms_of old) → IsWithin (apply u (type_at (forms_of new) i)) → AllWithin u (forms_of new)
added_within i new old s a u h k j lt = elim (cases_lt j (length old.nodes.items)) [
  | inl less ↦ subst (λ t. IsWithin (apply u t)) (sym (kept new old (added i new old s a) j less)) (h j (omega (arith, less, forms_long old)))
  | inr more ↦
      let m = forms_long new in let q = a.long in let p = a.number in
      let e : i ≡ j = omega (arith, more, lt, m, q, p) in
      subst (λ n. IsWithin (apply u (type_at (forms_of new) n))) e k
]

-- a node for a type, behind those of its parts
pub pushed : (i : ℕ) (new mid old : Graph) (s : Shape) (t : Ty) → Adds i new mid (form.made s) → Extends mid old → Every (λ p. p < length mid.nodes.items) (parts s) → whole (type_at (forms_of mid)) s ≡ t →
    ((u : Subst) → AllWithin u (forms_of old) → IsWithin (apply u t) → AllWithin u (forms_of mid)) → Pushes i new old t
pushed i new mid old s t a e h q w =
    let is : type_at (forms_of new) i ≡ t = added_type i new mid s a h ∙ q in
    let l = a.long in
    record {
      extends = further new mid old (added i new mid s a) e;
      below = omega (arith, l);
      is = is;
      within = λ u x y. added_within i new mid s a u (w u x y) (subst (λ z. IsWithin (apply u z)) (sym is) y);
    }

pub pushed_leaf : (i : ℕ) (new old : Graph) (s : Shape) (t : Ty) → Adds i new old (form.made s) → Every (λ p. p < length old.nodes.items) (parts s) → whole (type_at (forms_of old)) s ≡ t → Pushes i new old t
pushed_leaf i new old s t a h q = pushed i new old old s t a (itself old) h q (λ u x y. x)

pub pushed_set : (i p : ℕ) (new mid old : Graph) (t : Ty) → Adds i new mid (form.made (shape.set_of p)) → Pushes p mid old t → Pushes i new old (types.set_of t)
pushed_set i p new mid old t a h =
    pushed i new mid old (shape.set_of p) (types.set_of t) a h.extends (h.below, tt) (ap types.set_of h.is) (λ u x y. h.within u x (member_within (apply u t) y))

pub pushed_array : (i k p : ℕ) (new mid old : Graph) (t : Ty) → Adds i new mid (form.made (shape.array_of k p)) → Pushes p mid old t → Pushes i new old (types.array_of k t)
pushed_array i k p new mid old t a h =
    pushed i new mid old (shape.array_of k p) (types.array_of k t) a h.extends (h.below, tt) (ap (types.array_of k) h.is) (λ u x y. h.within u x (cell_within k (apply u t) y))

parts_all : (u : Subst) (ts : Tys) → PartsWithin (apply_all u ts) → unifiers.AllWithin u ts
parts_all u no_type h = tt
parts_all u (type t ts) h = (first_within (apply u t) (apply_all u ts) h, parts_all u ts (rest_within (apply u t) (apply_all u ts) h))

pub pushed_tuple : (i : ℕ) (ps : List ℕ) (new mid old : Graph) (ts : Tys) → Adds i new mid (form.made (shape.product ps)) → PushesAll ps mid old ts → Pushes i new old (types.product ts)
pushed_tuple i ps new mid old ts a h =
    pushed i new mid old (shape.product ps) (types.product ts) a h.extends h.below (ap types.product h.are) (λ u x y. h.within u x (parts_all u ts (parts_within (apply_all u ts) y)))

pub found : (x : ℕ) (g : Graph) → AreNumbered g.variables (forms_of g) → x < g.variables → Pushes x g g (types.var x)
found x g h lt =
    let l = h.long in
    record {
      extends = itself g;
      below = omega (arith, lt, l, forms_long g);
      is = type_grown (forms_of g) g.built x ∙ ap (form_type (type_at (forms_of g))) (h.stands x lt);
      within = λ u a b. a;
    }

-- The answers of the code.

pub leaf_ok : (r : Result (ℕ × Graph) Memory) (g : Graph) (s : Shape) (t : Ty) → Every (λ p. p < length g.nodes.items) (parts s) → t ≡ whole (type_at (forms_of g)) s → IfOk r (λ r. Adds r.0 r.1 g (form.made s)) → IfOk r (λ r. Pushes r.0 r.1 g t)
leaf_ok (Ok r) g s t h e a = pushed_leaf r.0 r.1 g s t a h (sym e)
leaf_ok (Err m) g s t h e a = tt

pub set_ok : (r : Result (ℕ × Graph) Memory) (p : ℕ) (mid old : Graph) (m t : Ty) → t ≡ types.set_of m → Pushes p mid old m → IfOk r (λ r. Adds r.0 r.1 mid (form.made (shape.set_of p))) → IfOk r (λ r. Pushes r.0 r.1 old t)
set_ok (Ok r) p mid old m t e h a = subst (Pushes r.0 r.1 old) (sym e) (pushed_set r.0 p r.1 mid old m a h)
set_ok (Err w) p mid old m t e h a = tt

pub array_ok : (r : Result (ℕ × Graph) Memory) (k l p : ℕ) (mid old : Graph) (m t : Ty) → t ≡ types.array_of l m → k ≡ l → Pushes p mid old m → IfOk r (λ r. Adds r.0 r.1 mid (form.made (shape.array_of k p))) → IfOk r (λ r. Pushes r.0 r.1 old t)
array_ok (Ok r) k l p mid old m t e q h a = subst (Pushes r.0 r.1 old) (ap (λ n. types.array_of n m) q ∙ sym e) (pushed_array r.0 k p r.1 mid old m a h)
array_ok (Err w) k l p mid old m t e q h a = tt

pub tuple_ok : (r : Result (ℕ × Graph) Memory) (qs ps : List ℕ) (mid old : Graph) (ts : Tys) (t : Ty) → t ≡ types.product ts → qs ≡ ps → PushesAll ps mid old ts → IfOk r (λ r. Adds r.0 r.1 mid (form.made (shape.product qs))) → IfOk r (λ r. Pushes r.0 r.1 old t)
tuple_ok (Ok r) qs ps mid old ts t e q h a =
    subst (Pushes r.0 r.1 old) (sym e) (pushed_tuple r.0 ps r.1 mid old ts (subst (λ is. Adds r.0 r.1 mid (form.made (shape.product is))) q a) h)
tuple_ok (Err w) qs ps mid old ts t e q h a = tt

-- Several types.

types_at-append : (v : Valuation) (ps qs : List ℕ) → types_at v (ps ++ qs) ≡ append (types_at v ps) (types_at v qs)
types_at-append v [] qs = refl
types_at-append v (p ∷ ps) qs = ap (type (v p)) (types_at-append v ps qs)

within_split : (u : Subst) (a b : Tys) → unifiers.AllWithin u (append a b) → unifiers.AllWithin u a × unifiers.AllWithin u b
within_split u no_type b h = (tt, h)
within_split u (type t a) b h = let k = within_split u a b h.1 in ((h.0, k.0), k.1)

tail_is : {a b c d : Tys} → a ≡ b → c ≡ d → append a c ≡ append b d
tail_is e f = cc

pub one_more : (ps : List ℕ) (i : ℕ) (new mid old : Graph) (ts : Tys) (t : Ty) → PushesAll ps mid old ts → Pushes i new mid t → PushesAll (ps ++ i ∷ []) new old (append ts (type t no_type))
one_more ps i new mid old ts t h k =
    let v = type_at (forms_of new) in
    let le = longer new mid k.extends in
    record {
      extends = further new mid old k.extends h.extends;
      below = Every-append (λ p. p < length new.nodes.items) ps (i ∷ []) (Every-impl (λ p. p < length mid.nodes.items) (λ p. p < length new.nodes.items) (λ p lt. omega (arith, lt, le)) ps h.below) (k.below, tt);
      are = types_at-append v ps (i ∷ []) ∙ tail_is (types_same v (type_at (forms_of mid)) ps
          (Every-impl (λ p. p < length mid.nodes.items) (λ p. v p ≡ type_at (forms_of mid) p) (λ p lt. kept new mid k.extends p lt) ps h.below) ∙ h.are) (row_is k.is refl);
      within = λ u x y. let z = within_split u ts (type t no_type) y in k.within u (h.within u x z.0) z.1.0;
    }

-- the next type of a list
pub next_type : (u : Subst) (ps qs : List ℕ) (i n : ℕ) (new mid old : Graph) (ts : List code.Ty) (x d : code.Ty) → qs ≡ ps ++ i ∷ [] → n < length ts → x ≡ get_or ts n d →
    PushesAll ps mid old (apply_all u (types_of (take n ts))) → Pushes i new mid (apply u (type_of x)) → PushesAll qs new old (apply_all u (types_of (take (n + 1) ts)))
next_type u ps qs i n new mid old ts x d e lt q h k =
    let y = get_or ts n d in
    let more = one_more ps i new mid old (apply_all u (types_of (take n ts))) (apply u (type_of y)) h (subst (λ z. Pushes i new mid (apply u (type_of z))) q k) in
    let last : apply_all u (types_of (take (n + 1) ts)) ≡ append (apply_all u (types_of (take n ts))) (type (apply u (type_of y)) no_type) =
    ap (apply_all u) (ap types_of (take_more ts n d lt) ∙ types_last (take n ts) y) ∙ apply_all-append u (types_of (take n ts)) (type (type_of y) no_type)
    in
    subst (PushesAll qs new old) (sym last) (subst (λ is. PushesAll is new old (append (apply_all u (types_of (take n ts))) (type (apply u (type_of y)) no_type))) (sym e) more)

uses_of : (u : Subst) (fs : List Form) (n : ℕ) (ps : List ℕ) → n ≡ length fs → Every (λ p. p < n) ps → AllWithin u fs → unifiers.AllWithin u (types_at (type_at fs) ps)
uses_of u fs n [] e h k = tt
uses_of u fs n (p ∷ ps) e h k = (k p (omega (arith, e, h.0)), uses_of u fs n ps e h.1 k)

pub pushed_uses : (ps : List ℕ) (new old : Graph) (ts : Tys) → PushesAll ps new old ts → PushesUses new old ts
pushed_uses ps new old ts h = record {
  extends = h.extends;
  uses = λ u k. subst (unifiers.AllWithin u) h.are (uses_of u (forms_of new) (length new.nodes.items) ps (sym (forms_long new)) h.below k);
  within = h.within;
}

-- Equations.

front : {x y p q : Ty} {w v : Equations} → x ≡ p → y ≡ q → w ≡ v → ◌≡◌ {A = Equations} ((x, y) ∷ w) ((p, q) ∷ v)
front e f g = cc

pub sides_pushed : (i j : ℕ) (new mid old : Graph) (a b : Ty) → Pushes i mid old a → Pushes j new mid b → PushesEquations (record { left = i; right = j } ∷ []) new old ((a, b) ∷ [])
sides_pushed i j new mid old a b h k =
    let le = longer new mid k.extends in let lt = h.below in
    record {
      extends = further new mid old k.extends h.extends;
      below = (omega (arith, le, lt), k.below, tt);
      are = front (kept new mid k.extends i h.below ∙ h.is) k.is refl;
      within = λ u x y. k.within u (h.within u x y.0) y.1;
    }

equations_kept : (new mid : Graph) (es : List Equation) → Extends new mid → AreIn (length mid.nodes.items) es → equations_of (forms_of new) es ≡ equations_of (forms_of mid) es
equations_kept new mid [] e h = refl
equations_kept new mid (p ∷ es) e h = front (kept new mid e p.left h.0) (kept new mid e p.right h.1) (equations_kept new mid es e h.2)

equations-append : (fs : List Form) (es ds : List Equation) → equations_of fs (es ++ ds) ≡ equations_of fs es ++ equations_of fs ds
equations-append fs [] ds = refl
equations-append fs (e ∷ es) ds = ap (λ w. (type_at fs e.left, type_at fs e.right) ∷ w) (equations-append fs es ds)

in_more : (m n : ℕ) (es ds : List Equation) → m ≤ n → AreIn m es → AreIn n ds → AreIn n (es ++ ds)
in_more m n [] ds le h k = k
in_more m n (e ∷ es) ds le h k = (omega (arith, le, h.0), omega (arith, le, h.1), in_more m n es ds le h.2 k)

sides_split : (u : Subst) (w v : Equations) → SidesWithin u (w ++ v) → SidesWithin u w × SidesWithin u v
sides_split u [] v h = (tt, h)
sides_split u ((a, b) ∷ w) v h = let k = sides_split u w v h.2 in ((h.0, h.1, k.0), k.1)

pub equations_more : (es ds : List Equation) (new mid old : Graph) (w v : Equations) → PushesEquations es mid old w → PushesEquations ds new mid v → PushesEquations (es ++ ds) new old (w ++ v)
equations_more es ds new mid old w v h k = record {
  extends = further new mid old k.extends h.extends;
  below = in_more (length mid.nodes.items) (length new.nodes.items) es ds (longer new mid k.extends) h.below k.below;
  are = equations-append (forms_of new) es ds ∙ both (equations_kept new mid es k.extends h.below ∙ h.are) k.are;
  within = λ u x y. let z = sides_split u w v y in k.within u (h.within u x z.0) z.1;
}
  where
    both : {a b c d : Equations} → a ≡ b → c ≡ d → a ++ c ≡ b ++ d
    both e f = cc

listed-append : (xs ys : List code_equation.Equation) → equation_list (xs ++ ys) ≡ equation_list xs ++ equation_list ys
listed-append [] ys = refl
listed-append (x ∷ xs) ys = ap (λ w. (type_of x.left, type_of x.right) ∷ w) (listed-append xs ys)

-- the next equation of a list
pub next_equation : (es ds : List Equation) (d : Equation) (new mid old : Graph) (xs : List code_equation.Equation) (x : code_equation.Equation) → ds ≡ es ++ d ∷ [] → PushesEquations es mid old (equation_list xs) → PushesEquations (d ∷ []) new mid (equation_list (x ∷ [])) → PushesEquations ds new old (equation_list (xs ++ x ∷ []))
next_equation es ds d new mid old xs x e h k =
    subst (PushesEquations ds new old) (sym (listed-append xs (x ∷ [])))
    (subst (λ is. PushesEquations is new old (equation_list xs ++ equation_list (x ∷ []))) (sym e) (equations_more es (d ∷ []) new mid old (equation_list xs) (equation_list (x ∷ [])) h k))

-- A whole graph.

fresh_within : (n : ℕ) (g : Graph) → IsFresh n g → (u : Subst) → ((x : ℕ) → IsWithin (u x)) → AllWithin u (forms_of g)
fresh_within n g h u k i lt =
    let l = h.long in let b = h.numbered.stands in
    let e : type_at (forms_of g) i ≡ types.var i = type_grown (forms_of g) g.built i ∙ ap (form_type (type_at (forms_of g))) (b i (omega (arith, lt, l))) in
    subst (λ t. IsWithin (apply u t)) (sym e) (k i)

-- a graph extended has fewer nodes before
before : (u : Subst) (new old : Graph) → Extends new old → AllWithin u (forms_of new) → AllWithin u (forms_of old)
before u new old e h i lt =
    let le = longer new old e in let a = forms_long new in let b = forms_long old in
    subst (λ t. IsWithin (apply u t)) (kept new old e i (omega (arith, lt, b))) (h i (omega (arith, lt, le, a, b)))

pub all_made : (n : ℕ) (es : List Equation) (new mid old : Graph) (w : Equations) (us : Tys) → IsFresh n old → PushesUses mid old us → PushesEquations es new mid w → Makes es new w us
all_made n es new mid old w us f h k =
    let numbered = subst (λ m. AreNumbered m (forms_of old)) (sym f.variables) f.numbered in
    record {
      numbered = kept_numbered new old (further new mid old k.extends h.extends) numbered;
      below = k.below;
      are = k.are;
      uses = λ u x. h.uses u (before u new mid k.extends x);
      within = λ u x y z. k.within u (h.within u (fresh_within n old f u x) z) y;
    }

pub made_ok : (r : Result (Vec Equation Global × Graph) Memory) (n : ℕ) (mid old : Graph) (w : Equations) (us : Tys) → IsFresh n old → PushesUses mid old us → IfOk r (λ r. PushesEquations r.0.items r.1 mid w) → IfOk r (λ r. Makes r.0.items r.1 w us)
made_ok (Ok r) n mid old w us f h k = all_made n r.0.items r.1 mid old w us f h k
made_ok (Err m) n mid old w us f h k = tt
