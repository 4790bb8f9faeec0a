-- The code's lists of types, one by one.
use Rattle.std.proofs.Common.{ℕ, suc, ◌≡◌, ◌+◌, ◌<◌, ◌≤◌, List, [], ◌∷◌, ◌++◌, Option, Some, None, refl, sym, ap, ◌∙◌, arith, length, drop, get_or, add-one}
use Rattle.std.proofs.lemmas.List.{at_drop_all}
use Rattle.std.proofs.Math.Seq.{drop-cons}
use Rattle.aql_ty.specs.Types as types
use Rattle.aql_ty.specs.Types.{Ty, Tys, Subst, no_type, type, natural, append, apply, apply_all, tys_of}
use Rattle.aql_ty.specs.View.{type_of, types_of}
use Rattle.aql_ty.specs.Laws.View.{types_last, types_from, append_assoc_types, append_none}
use Rattle.aql_ty.specs.declared.ty.Ty as code
use Rattle.aql_syntax.specs.Typing.{field_type, field_types, record_type}
use Rattle.aql_syntax.specs.declared.ast.Kind.{Kind}
use Rattle.aql_infer_steps.specs.Constraints.{State, Made, after, equate, equate_each, literal_parts}
use Rattle.aql_infer_steps.specs.View.{sketch_type, sketch_types, types_in}
use Rattle.aql_infer_steps.proofs.Sketching.{sketches_from}
use Rattle.aql_infer_steps.specs.declared.sketch.Sketch.{Sketch}
use Rattle.aql_infer_steps.specs.declared.positions.Position.{Position}

pub length_types_in : (ps : List Position) (ts : List Sketch) → length (types_in ps ts) ≡ length ts
length_types_in ps [] = refl
length_types_in ps (t ∷ ts) = ap suc (length_types_in ps ts)

pub tys_of_types_in : (ps : List Position) (ts : List Sketch) → tys_of (types_in ps ts) ≡ sketch_types ps ts
tys_of_types_in ps [] = refl
tys_of_types_in ps (t ∷ ts) = ap (type (sketch_type ps t)) (tys_of_types_in ps ts)

pub types_in_from : (ps : List Position) (ts : List Sketch) (i : ℕ) (d : Sketch) → i < length ts →
    types_in ps (drop i ts) ≡ sketch_type ps (get_or ts i d) ∷ types_in ps (drop (i + 1) ts)
types_in_from ps ts i d h = rw (add-one, drop-cons ts i d h) refl

pub types_in_past : (ps : List Position) (ts : List Sketch) (i : ℕ) → length ts ≤ i → types_in ps (drop i ts) ≡ []
types_in_past ps ts i h = at_drop_all (types_in ps) ts i h

pub ruleset types_in_steps = (types_in_from, types_in_past)

pub ruleset tuple_steps = (length_types_in, tys_of_types_in)

-- the dimensions of a literal array and then its cells
pub literal_parts-append : (ps : List Position) (ds : List Sketch) (cs : List Ty) (s : Ty) (n : State) →
    literal_parts (length ds) s (types_in ps ds ++ cs) n ≡ after (equate_each (types_in ps ds) natural n) (λ _. equate_each cs s)
unfolding after
literal_parts-append ps [] cs s n = refl
literal_parts-append ps (d ∷ ds) cs s n = go (equate (sketch_type ps d) natural n) (λ n. literal_parts-append ps ds cs s n)
  where
    go : (o : Option (Made (Unit {0}))) →
        ((n : State) → literal_parts (length ds) s (types_in ps ds ++ cs) n ≡ after (equate_each (types_in ps ds) natural n) (λ _. equate_each cs s)) →
        after o (λ _. literal_parts (length ds) s (types_in ps ds ++ cs)) ≡ after (after o (λ _. equate_each (types_in ps ds) natural)) (λ _. equate_each cs s)
    go None h = refl
    go (Some m) h = h m.state

pub ruleset literal_parts_steps = (literal_parts-append)

-- The fields of a record.

pub fields_from : (ks : List Kind) (i : ℕ) (d : Kind) → i < length ks →
    field_types (drop i ks) ≡ type (field_type (get_or ks i d)) (field_types (drop (i + 1) ks))
fields_from ks i d h = rw (add-one, drop-cons ks i d h) refl

pub fields_past : (ks : List Kind) (i : ℕ) → length ks ≤ i → field_types (drop i ks) ≡ no_type
fields_past ks i h = at_drop_all field_types ks i h

pub ruleset fields_steps = (fields_from, fields_past, types_last, append_assoc_types, append_none)

-- a record of another number of fields than one is a tuple
pub record_row : (ks : List Kind) → (length ks ≡ 1 → ⊥) → record_type ks ≡ types.product (field_types ks)
record_row [] h = refl
record_row (k ∷ []) h = absurd (h refl)
record_row (k ∷ l ∷ ks) h = refl

pub record_one : (ks : List Kind) (d : Kind) → length ks ≡ 1 → record_type ks ≡ field_type (get_or ks 0 d)
record_one [] d e = let bad : ⊥ = omega (arith, e) in absurd bad
record_one (k ∷ []) d e = refl
record_one (k ∷ l ∷ ks) d e = let bad : ⊥ = omega (arith, e) in absurd bad

pub ruleset record_steps = (record_row, record_one)

-- one type more under a substitution
pub apply_more : (w : Subst) (made new : List code.Ty) (one d : code.Ty) (ts : List code.Ty) (i : ℕ) (all : Tys) → i < length ts → d ≡ get_or ts i d →
    type_of one ≡ apply w (type_of d) → new ≡ made ++ one ∷ [] → append (types_of made) (apply_all w (types_of (drop i ts))) ≡ all →
    append (types_of new) (apply_all w (types_of (drop (i + 1) ts))) ≡ all
apply_more w made new one d ts i all h e f g total =
    let rest : Tys = apply_all w (types_of (drop (i + 1) ts)) in
    ap (λ (l : List code.Ty). append (types_of l) rest) g ∙ ap (λ (x : Tys). append x rest) (types_last made one)
    ∙ append_assoc_types (types_of made) (type (type_of one) no_type) rest
    ∙ ap (λ (y : Ty). append (types_of made) (type y rest)) (f ∙ ap (λ (d : code.Ty). apply w (type_of d)) e)
    ∙ sym (ap (λ (l : Tys). append (types_of made) (apply_all w l)) (types_from ts i d h)) ∙ total

-- one type under way more under a substitution
pub written_more : (w : Subst) (ps : List Position) (made new : List code.Ty) (one : code.Ty) (d : Sketch) (ts : List Sketch) (i : ℕ) (all : Tys) → i < length ts → d ≡ get_or ts i d →
    type_of one ≡ apply w (sketch_type ps d) → new ≡ made ++ one ∷ [] → append (types_of made) (apply_all w (sketch_types ps (drop i ts))) ≡ all →
    append (types_of new) (apply_all w (sketch_types ps (drop (i + 1) ts))) ≡ all
written_more w ps made new one d ts i all h e f g total =
    let rest : Tys = apply_all w (sketch_types ps (drop (i + 1) ts)) in
    ap (λ (l : List code.Ty). append (types_of l) rest) g ∙ ap (λ (x : Tys). append x rest) (types_last made one)
    ∙ append_assoc_types (types_of made) (type (type_of one) no_type) rest
    ∙ ap (λ (y : Ty). append (types_of made) (type y rest)) (f ∙ ap (λ (d : Sketch). apply w (sketch_type ps d)) e)
    ∙ sym (ap (λ (l : Tys). append (types_of made) (apply_all w l)) (sketches_from ps ts i d h)) ∙ total

-- one of some types more that is to become that one
pub equate_more : (ps : List Position) (ts : List Sketch) (i : ℕ) (d : Sketch) (t : Ty) (n m : State) (all : Option (Made (Unit {0}))) → i < length ts → d ≡ get_or ts i d →
    equate (sketch_type ps d) t n ≡ Some (record { result = tt; state = m }) → equate_each (types_in ps (drop i ts)) t n ≡ all →
    equate_each (types_in ps (drop (i + 1) ts)) t m ≡ all
unfolding after
equate_more ps ts i d t n m all h e k total =
    let rest : List Ty = types_in ps (drop (i + 1) ts) in
    sym (ap (λ (o : Option (Made (Unit {0}))). after o (λ _. equate_each rest t)) k)
    ∙ sym (ap (λ (l : List Ty). equate_each l t n) (types_in_from ps ts i d h ∙ ap (λ (d : Sketch). sketch_type ps d ∷ rest) (sym e))) ∙ total

-- one field more
pub fields_more : (made new : List code.Ty) (one : code.Ty) (ks : List Kind) (i : ℕ) (d : Kind) (all : Tys) → i < length ks →
    type_of one ≡ field_type (get_or ks i d) → new ≡ made ++ one ∷ [] → append (types_of made) (field_types (drop i ks)) ≡ all →
    append (types_of new) (field_types (drop (i + 1) ks)) ≡ all
fields_more made new one ks i d all h e f total =
    let rest : Tys = field_types (drop (i + 1) ks) in
    ap (λ (l : List code.Ty). append (types_of l) rest) f ∙ ap (λ (x : Tys). append x rest) (types_last made one)
    ∙ append_assoc_types (types_of made) (type (type_of one) no_type) rest ∙ ap (λ (y : Ty). append (types_of made) (type y rest)) e
    ∙ sym (ap (λ (l : Tys). append (types_of made) l) (fields_from ks i d h)) ∙ total
