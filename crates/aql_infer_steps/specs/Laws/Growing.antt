-- Lists that grow: of local names, and of types under way.
use Rattle.std.proofs.Common.{◌≡◌, List, [], ◌∷◌, ◌++◌, length, take, refl, ap}
use Rattle.aql_infer_steps.specs.View.{sketch_type, types_in, Extends}
use Rattle.aql_infer_steps.specs.declared.sketch.Sketch.{Sketch}
use Rattle.aql_infer_steps.specs.declared.positions.Position.{Position}
use Rattle.aql_infer_steps.specs.declared.names.Local.{Local}

pub extends_itself : (a : List Local) → Extends a a
extends_itself [] = refl
extends_itself (x ∷ a) = ap (λ l. x ∷ l) (extends_itself a)

pub extends_extends : (a b c : List Local) → Extends a b → Extends b c → Extends a c
extends_extends [] b c h k = refl
extends_extends (x ∷ a) [] c h k = cc
extends_extends (x ∷ a) (y ∷ b) [] h k = cc
extends_extends (x ∷ a) (y ∷ b) (z ∷ c) h k =
    let first : take (length a) b ≡ a = cc in
    let second : take (length b) c ≡ b = cc in
    let rest = extends_extends a b c first second in cc

pub types_in_append : (ps : List Position) (a b : List Sketch) → types_in ps (a ++ b) ≡ types_in ps a ++ types_in ps b
types_in_append ps [] b = refl
types_in_append ps (t ∷ a) b = ap (λ l. sketch_type ps t ∷ l) (types_in_append ps a b)
