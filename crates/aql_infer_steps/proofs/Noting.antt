-- Types under way pushed in a graph, with the nodes of the instances that are known.
use Rattle.std.proofs.Common.{ℕ, ◌≡◌, ◌+◌, ◌<◌, Bool, true, false, cond, List, [], ◌∷◌, ◌++◌, length, refl, sym, ap, ◌∙◌, subst, arith, Option, Some, None, IfSome, Result, Ok, Err, IfOk, IsOkAnd, take, get_or, if◌then◌else◌}
use Rattle.std.proofs.lemmas.List.{take_more}
use Rattle.std.specs.Map.{lookup}
use Rattle.indexmap.specs.IndexMap.{insert_entry}
use Rattle.aql_value.specs.declared.memory.Memory.{Memory}
use Rattle.aql_value.specs.Lists.{Every}
use Rattle.aql_value.specs.Laws.Lists.{Every-impl}
use Rattle.aql_ty.specs.Types.{Ty, no_type, type, append, natural, apply}
use Rattle.aql_types.specs.declared.node.Equation as node
use Rattle.aql_types.specs.declared.graph.Graph.{Graph}
use Rattle.aql_types.specs.Shapes as shape
use Rattle.aql_types.specs.Shapes.{Shape}
use Rattle.aql_types.specs.Forms as form
use Rattle.aql_types.specs.Graphs.{Adds}
use Rattle.aql_types.specs.Pushed.{shift, Extends, Pushes, PushesAll, PushesEquations}
use Rattle.aql_types.specs.Laws.Pushing.{longer, kept, kept_numbered, itself, added, leaf_ok, shift_none, one_more, equations_more}
use Rattle.aql_infer_steps.specs.Constraints.{raise_variables}
use Rattle.aql_infer_steps.specs.View.{sketch_type, sketch_types, sides_of, instance_type, part_of, sort_at}
use Rattle.aql_infer_steps.specs.Nodes.{IsNode, AreNodes, IsUnderWay, IsKnown, IsNoted}
use Rattle.aql_infer_steps.specs.declared.positions.Position.{Position}
use Rattle.aql_infer_steps.specs.declared.sketch.Instance.{Instance}
use Rattle.aql_infer_steps.specs.declared.sketch.Sketch.{Sketch}
use Rattle.aql_infer_steps.specs.declared.store.Sides.{Sides}
use Rattle.aql_infer_steps.specs.declared.nodes.Working.{Working}
use Rattle.aql_infer_steps.proofs.Sketching.{sketches_last, shift_raised}

-- A map's entries.

module _ {K V : Type 0} (eq : K → K → Bool) (law : (a b : K) → eq a b ≡ true → a ≡ b) (P : K → V → Type 0) where
  -- what is found at a key has what each entry has
  pub lookup_every : (es : List (K × V)) (k : K) (v : V) → lookup (eq k) es ≡ Some v → Every (λ e. P e.0 e.1) es → P k v
  lookup_every [] k v h all = cc
  lookup_every (e ∷ es) k v h all = go (eq k e.0) refl h (λ r. lookup_every es k v r all.1)
    where
      go : (b : Bool) → eq k e.0 ≡ b → cond b (Some e.1) (lookup (eq k) es) ≡ Some v → (lookup (eq k) es ≡ Some v → P k v) → P k v
      go true q r rest = let same : e.1 ≡ v = cc in subst (λ k. P k v) (sym (law k e.0 q)) (subst (P e.0) same all.0)
      go false q r rest = rest r

  -- an entry more
  pub insert_every : (es : List (K × V)) (k : K) (v : V) → Every (λ e. P e.0 e.1) es → P k v → Every (λ e. P e.0 e.1) (insert_entry eq es k v)
  insert_every [] k v all h = (h, tt)
  insert_every (e ∷ es) k v all h = go (eq k e.0) refl (insert_every es k v all.1 h)
    where
      go : (b : Bool) → eq k e.0 ≡ b → Every (λ e. P e.0 e.1) (insert_entry eq es k v) → Every (λ e. P e.0 e.1) (if b then (e.0, v) ∷ es else e ∷ insert_entry eq es k v)
      go true q rest = (subst (λ k. P k v) (law k e.0 q) h, all.1)
      go false q rest = (all.0, rest)

-- what is found at an instance is its node
pub found_known : (eq : Instance → Instance → Bool) (es : List (Instance × ℕ)) (i : Instance) (o m : Option ℕ) → ((a b : Instance) → eq a b ≡ true → a ≡ b) →
    m ≡ lookup (eq i) es → o ≡ m → IfSome o (λ n. IsKnown es i n)
found_known eq es i None m law e f = tt
found_known eq es i (Some n) m law e f = λ ps g h. lookup_every eq law (IsNode ps g) es i n (sym (f ∙ e)) h

-- a node that is put at its instance
pub learned : (eq : Instance → Instance → Bool) (old new : List (Instance × ℕ)) (i : Instance) (n : ℕ) → ((a b : Instance) → eq a b ≡ true → a ≡ b) →
    new ≡ insert_entry eq old i n → IsNoted old new i n
learned eq old new i n law e = λ ps g h k. subst (AreNodes ps g) (sym e) (insert_every eq law (IsNode ps g) old i n h k)

-- Known nodes stay known.

pub nodes_kept : (ps : List Position) (new old : Graph) (es : List (Instance × ℕ)) → Extends new old → AreNodes ps old es → AreNodes ps new es
nodes_kept ps new old es x h =
    Every-impl (λ e. IsNode ps old e.0 e.1) (λ e. IsNode ps new e.0 e.1)
    (λ e n.
    let le = longer new old x in let lt = n.below in
    record { below = omega (arith, le, lt); is = kept new old x e.1 n.below ∙ n.is }) es h

pub under_way : (ps : List Position) (new old : Working) → Extends new.graph old.graph → new.known ≡ old.known → IsUnderWay ps old → IsUnderWay ps new
under_way ps new old x e h = record {
  numbered = kept_numbered new.graph old.graph x h.numbered;
  known = subst (AreNodes ps new.graph) (sym (ap (λ m. m.entries) e)) (nodes_kept ps new.graph old.graph old.known.entries x h.known);
}

-- The answers of the code.

-- what is made beside the known nodes of a graph
abbrev pub Joins : Result (ℕ × Graph) Memory → Working → Result (ℕ × Working) Memory → Type 0
Joins made w r = IfOk r (λ r. IsOkAnd made (λ m. (m.0 ≡ r.0) × (m.1 ≡ r.1.graph)) × (r.1.known ≡ w.known))

-- a node of the type, and a graph under way
abbrev pub Reaches : List Position → Result (ℕ × Working) Memory → Working → Ty → Type 0
Reaches ps r old t = IfOk r (λ r. Pushes r.0 r.1.graph old.graph t × IsUnderWay ps r.1)

same_pushes : (i j : ℕ) (g h old : Graph) (t : Ty) → i ≡ j → g ≡ h → Pushes i g old t → Pushes j h old t
same_pushes i j g h old t e f p = subst (λ n. Pushes n h old t) e (subst (λ g. Pushes i g old t) f p)

-- a type without instances
pub joined : (ps : List Position) (made : Result (ℕ × Graph) Memory) (r : Result (ℕ × Working) Memory) (w : Working) (t : Ty) → IsUnderWay ps w →
    IfOk made (λ m. Pushes m.0 m.1 w.graph t) → Joins made w r → Reaches ps r w t
joined ps (Ok m) (Ok r) w t h p j =
    let q = same_pushes m.0 r.0 m.1 r.1.graph w.graph t j.0.0 j.0.1 p in
    (q, under_way ps r.1 w q.extends j.1 h)
joined ps (Err e) (Ok r) w t h p j = absurd j.0
joined ps made (Err e) w t h p j = tt

pub plain_ok : (ps : List Position) (made : Result (ℕ × Graph) Memory) (r : Result (ℕ × Working) Memory) (w : Working) (s t : Ty) → t ≡ s → IsUnderWay ps w →
    IfOk made (λ m. Pushes m.0 m.1 w.graph (apply (shift 0) s)) → Joins made w r → Reaches ps r w t
plain_ok ps made r w s t e h p j = joined ps made r w t h (subst (λ t. IfOk made (λ m. Pushes m.0 m.1 w.graph t)) (shift_none s ∙ sym e) p) j

-- a type whose parts were pushed before
pub joined_made : (ps : List Position) (made : Result (ℕ × Graph) Memory) (r : Result (ℕ × Working) Memory) (mid old : Working) (s : Shape) (t : Ty) → IsUnderWay ps mid →
    IfOk made (λ m. Adds m.0 m.1 mid.graph (form.made s)) → IfOk made (λ m. Pushes m.0 m.1 old.graph t) → Joins made mid r → Reaches ps r old t
joined_made ps (Ok m) (Ok r) mid old s t h a p j = (
  same_pushes m.0 r.0 m.1 r.1.graph old.graph t j.0.0 j.0.1 p,
  under_way ps r.1 mid (subst (λ g. Extends g mid.graph) j.0.1 (added m.0 m.1 mid.graph s a)) j.1 h,
)
joined_made ps (Err e) (Ok r) mid old s t h a p j = absurd j.0
joined_made ps made (Err e) mid old s t h a p j = tt

-- a new node that is noted
pub noted : (ps : List Position) (made : Result (ℕ × Graph) Memory) (r : Result (ℕ × Working) Memory) (w : Working) (i : Instance) → IsUnderWay ps w →
    IfOk made (λ m. Pushes m.0 m.1 w.graph (instance_type ps i)) →
    IfOk r (λ r. IsOkAnd made (λ m. (m.0 ≡ r.0) × (m.1 ≡ r.1.graph)) × IsNoted w.known.entries r.1.known.entries i r.0) → Reaches ps r w (instance_type ps i)
noted ps (Ok m) (Ok r) w i h p j =
    let q = same_pushes m.0 r.0 m.1 r.1.graph w.graph (instance_type ps i) j.0.0 j.0.1 p in (
      q,
      record {
        numbered = kept_numbered r.1.graph w.graph q.extends h.numbered;
        known = j.1 ps r.1.graph (nodes_kept ps r.1.graph w.graph w.known.entries q.extends h.known) (record { below = q.below; is = q.is });
      },
    )
noted ps (Err e) (Ok r) w i h p j = absurd j.0
noted ps made (Err e) w i h p j = tt

-- a node that is known
pub known_node : (ps : List Position) (w : Working) (i : Instance) (n : ℕ) → IsUnderWay ps w → IsKnown w.known.entries i n → Pushes n w.graph w.graph (instance_type ps i)
known_node ps w i n h k =
    let here = k ps w.graph h.known in
    record { extends = itself w.graph; below = here.below; is = here.is; within = λ u a b. a }

-- a part of what a position has
pub part_ok : (ps : List Position) (r : Result (ℕ × Graph) Memory) (g : Graph) (i : Instance) (t : Ty) → part_of i.part (sort_at ps i.position) ≡ t →
    IfOk r (λ r. Pushes r.0 r.1 g (apply (shift i.first) t)) → IfOk r (λ r. Pushes r.0 r.1 g (instance_type ps i))
part_ok ps r g i t e p =
    subst (λ x. IfOk r (λ r. Pushes r.0 r.1 g x)) (shift_raised i.first t ∙ ap (apply (raise_variables i.first)) (sym e)) p

pub no_part : (ps : List Position) (r : Result (ℕ × Graph) Memory) (g : Graph) (i : Instance) → part_of i.part (sort_at ps i.position) ≡ natural →
    IfOk r (λ r. Adds r.0 r.1 g (form.made shape.natural)) → IfOk r (λ r. Pushes r.0 r.1 g (instance_type ps i))
no_part ps r g i e a = leaf_ok r g shape.natural (instance_type ps i) tt (ap (apply (raise_variables i.first)) e) a

-- Several.

-- the next type of a list
pub next_sketch : (qs : List Position) (ps is : List ℕ) (i n : ℕ) (new mid old : Graph) (ts : List Sketch) (x d : Sketch) → is ≡ ps ++ i ∷ [] → n < length ts → x ≡ get_or ts n d →
    PushesAll ps mid old (sketch_types qs (take n ts)) → Pushes i new mid (sketch_type qs x) → PushesAll is new old (sketch_types qs (take (n + 1) ts))
next_sketch qs ps is i n new mid old ts x d e lt q h k =
    let y = get_or ts n d in
    let more = one_more ps i new mid old (sketch_types qs (take n ts)) (sketch_type qs y) h (subst (λ z. Pushes i new mid (sketch_type qs z)) q k) in
    let last : sketch_types qs (take (n + 1) ts) ≡ append (sketch_types qs (take n ts)) (type (sketch_type qs y) no_type) = ap (sketch_types qs) (take_more ts n d lt) ∙ sketches_last qs (take n ts) y in
    subst (PushesAll is new old) (sym last) (subst (λ ns. PushesAll ns new old (append (sketch_types qs (take n ts)) (type (sketch_type qs y) no_type))) (sym e) more)

sides-append : (ps : List Position) (xs ys : List Sides) → sides_of ps (xs ++ ys) ≡ sides_of ps xs ++ sides_of ps ys
sides-append ps [] ys = refl
sides-append ps (x ∷ xs) ys = ap (λ w. (sketch_type ps x.left, sketch_type ps x.right) ∷ w) (sides-append ps xs ys)

-- the next equation of a list
pub next_sides : (ps : List Position) (es ds : List node.Equation) (d : node.Equation) (new mid old : Graph) (xs : List Sides) (x : Sides) → ds ≡ es ++ d ∷ [] →
    PushesEquations es mid old (sides_of ps xs) → PushesEquations (d ∷ []) new mid (sides_of ps (x ∷ [])) → PushesEquations ds new old (sides_of ps (xs ++ x ∷ []))
next_sides ps es ds d new mid old xs x e h k =
    subst (PushesEquations ds new old) (sym (sides-append ps xs (x ∷ [])))
    (subst (λ is. PushesEquations is new old (sides_of ps xs ++ sides_of ps (x ∷ []))) (sym e) (equations_more es (d ∷ []) new mid old (sides_of ps xs) (sides_of ps (x ∷ [])) h k))
