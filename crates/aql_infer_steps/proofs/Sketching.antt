-- Lists of types under way as the code has them, types without variables, and positions by their numbers.
use Rattle.std.specs.Prelude.{Vec}
use Rattle.std.specs.Global.{Global}
use Rattle.std.proofs.Common.{ℕ, zero, suc, ◌≡◌, ◌+◌, ◌<◌, ◌≤◌, ◌&&◌, Bool, true, false, List, [], ◌∷◌, ◌++◌, refl, sym, ap, ◌∙◌, drop, get_or, length, add-one, arith}
use Rattle.std.proofs.lemmas.List.{at_drop_all}
use Rattle.std.proofs.Math.Seq.{drop-cons}
use Rattle.aql_ty.specs.Types as types
use Rattle.aql_ty.specs.Types.{Ty, Tys, no_type, type, product, append, Subst, apply, apply_all}
use Rattle.aql_types.specs.Unifiers.{Equations}
use Rattle.aql_ty.specs.View.{sort_of}
use Rattle.aql_ty.specs.Laws.Types.{row_is}
use Rattle.aql_ty.specs.Laws.View.{append_assoc_types, append_none}
use Rattle.aql_value.specs.Lists.{onto}
use Rattle.aql_types.specs.Pushed.{shift}
use Rattle.aql_infer_steps.specs.Constraints.{raise_variables}
use Rattle.aql_infer_steps.specs.View.{sketch_type, sketch_row, sketch_types, sides_of, sort_at, part_of}
use Rattle.aql_infer_steps.specs.declared.sketch.Instance.{Instance}
use Rattle.aql_infer_steps.specs.declared.sketch.Part.TheVariants as part
use Rattle.aql_infer_steps.specs.declared.sketch.Part.{Part}
use Rattle.aql_infer_steps.specs.Ground.{is_ground, are_ground, ground_of, grounds_of}
use Rattle.aql_infer_steps.specs.declared.sketch.Sketch.{Sketch, Row_of-Sketch, end_of-Sketch, more_of-Sketch, items-the_row-Sketch, items_hidden-the_row-Sketch-0}
use Rattle.aql_infer_steps.specs.declared.sketch.Sketch.TheBlock.{hidden-the_row-Sketch-0}
use Rattle.aql_infer_steps.specs.declared.sketch.Sketch as code
use Rattle.aql_infer_steps.specs.declared.sketch.Sketches as code_sketches
use Rattle.aql_infer_steps.specs.declared.store.Sides.{Sides}
use Rattle.aql_infer_steps.specs.declared.positions.Position.{Position}
use Rattle.aql_infer_steps.specs.declared.positions.Ground.{Ground}

row-items : (ps : List Position) {n : _} (k : Row_of-Sketch n) → sketch_row ps k ≡ sketch_types ps (items-the_row-Sketch n k)
row-items ps end_of-Sketch = refl
row-items ps (more_of-Sketch e es) = ap (type (sketch_type ps e)) (row-items ps es)

pub row-vec : (ps : List Position) (v : Vec Sketch Global) → sketch_row ps (hidden-the_row-Sketch-0 v) ≡ sketch_types ps v.items
row-vec ps v = row-items ps (hidden-the_row-Sketch-0 v) ∙ ap (sketch_types ps) (items_hidden-the_row-Sketch-0 v)

-- a tuple's parts are those of its list
pub sketch_row_is : (ps : List Position) (ts : code_sketches.Sketches) → sketch_type ps (code.Tuple ts) ≡ product (sketch_types ps ts.items.items)
sketch_row_is ps ts = ap product (row-vec ps ts.items)

pub sketches_append : (ps : List Position) (xs ys : List Sketch) → sketch_types ps (xs ++ ys) ≡ append (sketch_types ps xs) (sketch_types ps ys)
sketches_append ps [] ys = refl
sketches_append ps (x ∷ xs) ys = ap (type (sketch_type ps x)) (sketches_append ps xs ys)

-- one type more at the end
pub sketches_last : (ps : List Position) (xs : List Sketch) (x : Sketch) → sketch_types ps (xs ++ (x ∷ [])) ≡ append (sketch_types ps xs) (type (sketch_type ps x) no_type)
sketches_last ps xs x = sketches_append ps xs (x ∷ [])

-- the types from place i on, the first by itself
pub sketches_from : (ps : List Position) (ts : List Sketch) (i : ℕ) (d : Sketch) → i < length ts →
    sketch_types ps (drop i ts) ≡ type (sketch_type ps (get_or ts i d)) (sketch_types ps (drop (i + 1) ts))
sketches_from ps ts i d h = rw (add-one, drop-cons ts i d h) refl

pub sketches_past : (ps : List Position) (ts : List Sketch) (i : ℕ) → length ts ≤ i → sketch_types ps (drop i ts) ≡ no_type
sketches_past ps ts i h = at_drop_all (sketch_types ps) ts i h

-- for a loop over a list of types under way
pub ruleset sketch_steps = (sketches_append, append_assoc_types, append_none, sketches_from, sketches_past)

-- Equations, of which the last comes first.

onto_last : (ps : List Position) (es : List Sides) (e : Sides) (acc : Equations) →
    onto (sides_of ps (es ++ (e ∷ []))) acc ≡ (sketch_type ps e.left, sketch_type ps e.right) ∷ onto (sides_of ps es) acc
onto_last ps [] e acc = refl
onto_last ps (q ∷ es) e acc = onto_last ps es e ((sketch_type ps q.left, sketch_type ps q.right) ∷ acc)

pub sides_last : (ps : List Position) (es : List Sides) (e : Sides) →
    onto (sides_of ps (es ++ (e ∷ []))) [] ≡ (sketch_type ps e.left, sketch_type ps e.right) ∷ onto (sides_of ps es) []
sides_last ps es e = onto_last ps es e []

-- Types without variables.

both_so : (a b : Bool) → (a && b) ≡ true → (a ≡ true) × (b ≡ true)
both_so true true e = (refl, refl)
both_so true false e = cc
both_so false b e = cc

mutual
  -- every instance of a type without variables is the same
  pub ground_same : (u v : Subst) (t : Ty) → is_ground t ≡ true → apply u t ≡ apply v t
  ground_same u v types.natural h = refl
  ground_same u v types.truth h = refl
  ground_same u v types.text h = refl
  ground_same u v (types.var x) h = cc
  ground_same u v (types.product ts) h = ap product (grounds_same u v ts h)
  ground_same u v (types.set_of t) h = ap types.set_of (ground_same u v t h)
  ground_same u v (types.array_of k t) h = ap (types.array_of k) (ground_same u v t h)

  pub grounds_same : (u v : Subst) (ts : Tys) → are_ground ts ≡ true → apply_all u ts ≡ apply_all v ts
  grounds_same u v no_type h = refl
  grounds_same u v (type t ts) h =
      let k = both_so (is_ground t) (are_ground ts) h in row_is (ground_same u v t k.0) (grounds_same u v ts k.1)

-- Positions by their numbers.

pub sort_here : (ps : List Position) (i : ℕ) (d : Position) → i < length ps → sort_at ps i ≡ sort_of (get_or ps i d).scheme
sort_here [] i d h = absurd (omega (arith, h))
sort_here (p ∷ ps) zero d h = refl
sort_here (p ∷ ps) (suc i) d h = sort_here ps i d (omega (arith, h))

pub sort_past : (ps : List Position) (i : ℕ) → length ps ≤ i → sort_at ps i ≡ types.value types.natural
sort_past [] i h = refl
sort_past (p ∷ ps) zero h = absurd (omega (arith, h))
sort_past (p ∷ ps) (suc i) h = sort_past ps i (omega (arith, h))

-- no part is found where there is no position
pub part_none : (ps : List Position) (i : Instance) → length ps ≤ i.position → part_of i.part (sort_at ps i.position) ≡ types.natural
part_none ps i h = ap (part_of i.part) (sort_past ps i.position h) ∙ go i.part
  where
    go : (k : Part) → part_of k (types.value types.natural) ≡ types.natural
    go part.Value = refl
    go part.Argument = refl
    go part.Result = refl

pub ground_here : (ps : List Position) (i : ℕ) (g : Ground) (d : Position) → i < length ps → get_or (grounds_of ps) i g ≡ ground_of (sort_of (get_or ps i d).scheme)
ground_here [] i g d h = absurd (omega (arith, h))
ground_here (p ∷ ps) zero g d h = refl
ground_here (p ∷ ps) (suc i) g d h = ground_here ps i g d (omega (arith, h))

-- the numbers raised, as the graph has it
pub shift_raised : (n : ℕ) (t : Ty) → apply (shift n) t ≡ apply (raise_variables n) t
unfolding raise_variables
shift_raised n t = refl

-- a reference to a part without variables, and to another
pub refer_ground : (n m : ℕ) (s t : Ty) (b : Bool) → s ≡ t → b ≡ is_ground t → b ≡ true → apply (raise_variables n) s ≡ apply (raise_variables m) t
refer_ground n m s t b e f g = ap (apply (raise_variables n)) e ∙ ground_same (raise_variables n) (raise_variables m) t (sym f ∙ g)

pub refer_open : (n m : ℕ) (s t : Ty) → s ≡ t → n ≡ m → apply (raise_variables n) s ≡ apply (raise_variables m) t
refer_open n m s t e f = cc

pub ruleset refer_steps = (refer_ground, refer_open)
