-- Lists of types as the code has them: inside a tuple, and while a loop goes over one.
use Rattle.std.specs.Prelude.{Vec}
use Rattle.std.specs.Global.{Global}
use Rattle.std.proofs.Common.{ℕ, ◌≡◌, ◌+◌, ◌<◌, ◌≤◌, List, [], ◌∷◌, ◌++◌, refl, ap, ◌∙◌, drop, get_or, length, add-one, arith}
use Rattle.std.proofs.lemmas.List.{at_drop_all}
use Rattle.std.proofs.Math.Seq.{drop-cons}
use Rattle.aql_ty.specs.declared.ty.Ty.{Ty, Row_of-Ty, end_of-Ty, more_of-Ty, items-the_row-Ty, items_hidden-the_row-Ty-0}
use Rattle.aql_ty.specs.declared.ty.Ty.TheBlock.{hidden-the_row-Ty-0}
use Rattle.aql_ty.specs.declared.ty.Ty as code
use Rattle.aql_ty.specs.declared.ty.Tys as code_tys
use Rattle.aql_ty.specs.Types.{Tys, no_type, type, product, append, count}
use Rattle.aql_ty.specs.View.{type_of, types_of, row_of}

pub row_of-items : {n : _} (k : Row_of-Ty n) → row_of k ≡ types_of (items-the_row-Ty n k)
row_of-items end_of-Ty = refl
row_of-items (more_of-Ty e es) = ap (type (type_of e)) (row_of-items es)

pub row_of-vec : (v : Vec Ty Global) → row_of (hidden-the_row-Ty-0 v) ≡ types_of v.items
row_of-vec v = row_of-items (hidden-the_row-Ty-0 v) ∙ ap types_of (items_hidden-the_row-Ty-0 v)

-- a tuple's parts are those of its list
pub type_of_row : (ts : code_tys.Tys) → type_of (code.Tuple ts) ≡ product (types_of ts.items.items)
type_of_row ts = ap product (row_of-vec ts.items)

pub types_of_append : (xs ys : List Ty) → types_of (xs ++ ys) ≡ append (types_of xs) (types_of ys)
types_of_append [] ys = refl
types_of_append (x ∷ xs) ys = ap (type (type_of x)) (types_of_append xs ys)

-- one type more at the end
pub types_last : (xs : List Ty) (x : Ty) → types_of (xs ++ (x ∷ [])) ≡ append (types_of xs) (type (type_of x) no_type)
types_last xs x = types_of_append xs (x ∷ [])

pub append_assoc_types : (a b c : Tys) → append (append a b) c ≡ append a (append b c)
append_assoc_types no_type b c = refl
append_assoc_types (type e a) b c = ap (type e) (append_assoc_types a b c)

pub append_none : (a : Tys) → append a no_type ≡ a
append_none no_type = refl
append_none (type e a) = ap (type e) (append_none a)

-- the types from place i on, the first by itself
pub types_from : (ts : List Ty) (i : ℕ) (d : Ty) → i < length ts →
    types_of (drop i ts) ≡ type (type_of (get_or ts i d)) (types_of (drop (i + 1) ts))
types_from ts i d h = rw (add-one, drop-cons ts i d h) refl

pub types_past : (ts : List Ty) (i : ℕ) → length ts ≤ i → types_of (drop i ts) ≡ no_type
types_past ts i h = at_drop_all types_of ts i h

pub count_types : (ts : List Ty) → count (types_of ts) ≡ length ts
count_types [] = refl
count_types (t ∷ ts) = omega (arith, count_types ts)

-- for a loop over a list of types
pub ruleset list_steps = (types_of_append, append_assoc_types, append_none, types_from, types_past)
