-- The parts of a tuple type one after another.
use Rattle.std.proofs.Common.{ℕ, suc, zero, ◌≡◌, List, [], ◌∷◌, length, get_or, refl, ap}
use Rattle.aql_ty.specs.View.{type_of, types_of}
use Rattle.aql_ty.specs.declared.ty.Ty.{Ty}
use Rattle.aql_print.specs.TypeText.{part_text, part_texts, type_text}

pub length-parts : (ts : List Ty) (vs : List ℕ) → length (part_texts (types_of ts) vs) ≡ length ts
length-parts [] vs = refl
length-parts (t ∷ ts) vs = ap suc (length-parts ts vs)

-- the text of a part in its place
pub part_at : (ts : List Ty) (vs : List ℕ) (i : ℕ) (d : Ty) →
    get_or (part_texts (types_of ts) vs) i (part_text (type_of d) (type_text (type_of d) vs))
    ≡ part_text (type_of (get_or ts i d)) (type_text (type_of (get_or ts i d)) vs)
part_at [] vs i d = refl
part_at (t ∷ ts) vs zero d = refl
part_at (t ∷ ts) vs (suc i) d = part_at ts vs i d
