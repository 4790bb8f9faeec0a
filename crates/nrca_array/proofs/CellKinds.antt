-- Which lists of cells are packed, and what one cell more makes of it.
use Rattle.std.proofs.Common.{◌≡◌, ℕ, ◌*◌, ◌<◌, ◌≤◌, Bool, List, [], ◌∷◌, ◌++◌, length, map, get_or, Option, Some, None, refl, sym, ◌∙◌, ap, arith}
use Rattle.std.specs.Prelude.{slice_get}
use Rattle.std.specs.Option.{option_map}
use Rattle.std.proofs.lemmas.List.{length-map}
use Rattle.std.proofs.lemmas.Option.{slice_get-get_or, slice_get-map}
use Rattle.aql_value.specs.Datum.{Datum, natural, truth, text, tuple, set, array, data_of, list_of}
use Rattle.aql_value.specs.Laws.Datum.{data_of-list_of}
use Rattle.aql_value.specs.Operations.{as_natural, as_truth}
use Rattle.aql_value.specs.Laws.Operations.{each-naturals}
use Rattle.aql_value.specs.Partial.{◌>>=◌, each, or_else}
use Rattle.aql_value.specs.Laws.Partial.{then-none, each-append_none}
use Rattle.nrca_array.specs.Groups.{numbers_set}
use Rattle.nrca_array.specs.CellNumbers.{natural_of}
use Rattle.nrca_array.specs.Packing.{width_for, spell_numbers, truth_byte, naturals_packing, truths_packing, pairs_packing, packing, as_pair, parts_pair, pair_datum}

each-truths : (bs : List Bool) → each as_truth (map truth bs) ≡ Some bs
each-truths [] = refl
each-truths (b ∷ bs) = ap (λ o. o >>= λ l. Some (b ∷ l)) (each-truths bs)

each-pairs : (ps : List (Bool × ℕ)) → each as_pair (map pair_datum ps) ≡ Some ps
each-pairs [] = refl
each-pairs (p ∷ ps) = ap (λ o. o >>= λ l. Some (p ∷ l)) (each-pairs ps)

-- naturals are packed
pub naturals-pack : (ns : List ℕ) → 1 ≤ length ns → packing (map natural ns) ≡ Some (naturals_packing ns)
unfolding packing
naturals-pack [] h = absurd (omega (arith, h))
naturals-pack (n ∷ ns) h = ap (λ o. or_else (option_map naturals_packing o) (or_else (option_map truths_packing (each as_truth (map natural (n ∷ ns)))) (option_map pairs_packing (each as_pair (map natural (n ∷ ns)))))) (each-naturals (n ∷ ns))

-- truth values are packed
pub truths-pack : (bs : List Bool) → 1 ≤ length bs → packing (map truth bs) ≡ Some (truths_packing bs)
unfolding packing
truths-pack [] h = absurd (omega (arith, h))
truths-pack (b ∷ bs) h = ap (λ o. or_else (option_map truths_packing o) (option_map pairs_packing (each as_pair (map truth (b ∷ bs))))) (each-truths (b ∷ bs))

-- pairs are packed
pub pairs-pack : (ps : List (Bool × ℕ)) → 1 ≤ length ps → packing (map pair_datum ps) ≡ Some (pairs_packing ps)
unfolding packing
pairs-pack [] h = absurd (omega (arith, h))
pairs-pack (p ∷ ps) h = ap (λ o. option_map pairs_packing o) (each-pairs (p ∷ ps))

-- cells of no one kind are not packed
pub none-packs : (cs : List Datum) → each as_natural cs ≡ None → each as_truth cs ≡ None → each as_pair cs ≡ None → packing cs ≡ None
unfolding packing
none-packs [] a b c = refl
none-packs (x ∷ xs) a b c = λ i. or_else (option_map naturals_packing (a i)) (or_else (option_map truths_packing (b i)) (option_map pairs_packing (c i)))

pub no_cells : (cs : List Datum) → cs ≡ [] → packing cs ≡ None
unfolding packing
no_cells cs e = ap packing e

parts-none : {A B C D : Type 0} (f : A → D) (g : B → D) (h : C → D) (a : Option A) (b : Option B) (c : Option C) → or_else (option_map f a) (or_else (option_map g b) (option_map h c)) ≡ None → (a ≡ None) × (b ≡ None) × (c ≡ None)
parts-none f g h None None None e = (refl, refl, refl)
parts-none f g h None None (Some z) e = cc
parts-none f g h None (Some y) c e = cc
parts-none f g h (Some x) b c e = cc

none-kinds : (x : Datum) (xs : List Datum) → packing (x ∷ xs) ≡ None → (each as_natural (x ∷ xs) ≡ None) × (each as_truth (x ∷ xs) ≡ None) × (each as_pair (x ∷ xs) ≡ None)
unfolding packing
none-kinds x xs e = parts-none naturals_packing truths_packing pairs_packing (each as_natural (x ∷ xs)) (each as_truth (x ∷ xs)) (each as_pair (x ∷ xs)) e

each-last_none : {B : Type 0} (f : Datum → Option B) (xs : List Datum) (x : Datum) → f x ≡ None → each f (xs ++ x ∷ []) ≡ None
each-last_none f [] x e = ap (λ o. o >>= λ y. Some (y ∷ [])) e
each-last_none f (y ∷ ys) x e = then-none (f y) (λ b. each f (ys ++ x ∷ []) >>= λ bs. Some (b ∷ bs)) (λ b _. ap (λ o. o >>= λ bs. Some (b ∷ bs)) (each-last_none f ys x e))

-- one cell of another kind
pub other-last : (xs : List Datum) (x : Datum) → as_natural x ≡ None → as_truth x ≡ None → as_pair x ≡ None → packing (xs ++ x ∷ []) ≡ None
other-last xs x a b c = none-packs (xs ++ x ∷ []) (each-last_none as_natural xs x a) (each-last_none as_truth xs x b) (each-last_none as_pair xs x c)

-- cells that are not packed, and one more
pub plain-last : (xs : List Datum) (x : Datum) → 1 ≤ length xs → packing xs ≡ None → packing (xs ++ x ∷ []) ≡ None
plain-last [] x h e = absurd (omega (arith, h))
plain-last (y ∷ ys) x h e =
    let k = none-kinds y ys e in
    none-packs ((y ∷ ys) ++ x ∷ []) (each-append_none as_natural (y ∷ ys) (x ∷ []) k.0) (each-append_none as_truth (y ∷ ys) (x ∷ []) k.1) (each-append_none as_pair (y ∷ ys) (x ∷ []) k.2)

-- naturals, and a cell that is none
pub naturals-last : (ns : List ℕ) (x : Datum) → 1 ≤ length ns → as_natural x ≡ None → packing (map natural ns ++ x ∷ []) ≡ None
naturals-last [] x h e = absurd (omega (arith, h))
naturals-last (n ∷ ns) x h e =
    let cs = map natural (n ∷ ns) in
    none-packs (cs ++ x ∷ []) (each-last_none as_natural cs x e) (each-append_none as_truth cs (x ∷ []) refl) (each-append_none as_pair cs (x ∷ []) refl)

-- truth values, and a cell that is none
pub truths-last : (bs : List Bool) (x : Datum) → 1 ≤ length bs → as_truth x ≡ None → packing (map truth bs ++ x ∷ []) ≡ None
truths-last [] x h e = absurd (omega (arith, h))
truths-last (b ∷ bs) x h e =
    let cs = map truth (b ∷ bs) in
    none-packs (cs ++ x ∷ []) (each-append_none as_natural cs (x ∷ []) refl) (each-last_none as_truth cs x e) (each-append_none as_pair cs (x ∷ []) refl)

-- pairs, and a cell that is none
pub pairs-last : (ps : List (Bool × ℕ)) (x : Datum) → 1 ≤ length ps → as_pair x ≡ None → packing (map pair_datum ps ++ x ∷ []) ≡ None
pairs-last [] x h e = absurd (omega (arith, h))
pairs-last (p ∷ ps) x h e =
    let cs = map pair_datum (p ∷ ps) in
    none-packs (cs ++ x ∷ []) (each-append_none as_natural cs (x ∷ []) refl) (each-append_none as_truth cs (x ∷ []) refl) (each-last_none as_pair cs x e)

pub ruleset lasts = (other-last, plain-last, naturals-last, truths-last, pairs-last)

parts-pair : (vs : List Datum) (p : Bool × ℕ) → parts_pair vs ≡ Some p → vs ≡ truth p.0 ∷ natural p.1 ∷ []
parts-pair [] p e = cc
parts-pair (a ∷ []) p e = cc
parts-pair (a ∷ b ∷ c ∷ vs) p e = cc
parts-pair (truth t ∷ natural n ∷ []) p e = let f : (t, n) ≡ p = cc in λ i. truth ((f i).0) ∷ natural ((f i).1) ∷ []
parts-pair (truth t ∷ truth n ∷ []) p e = cc
parts-pair (truth t ∷ text n ∷ []) p e = cc
parts-pair (truth t ∷ tuple n ∷ []) p e = cc
parts-pair (truth t ∷ set n ∷ []) p e = cc
parts-pair (truth t ∷ array ds n ∷ []) p e = cc
parts-pair (natural t ∷ b ∷ []) p e = cc
parts-pair (text t ∷ b ∷ []) p e = cc
parts-pair (tuple t ∷ b ∷ []) p e = cc
parts-pair (set t ∷ b ∷ []) p e = cc
parts-pair (array ds t ∷ b ∷ []) p e = cc

-- a value that is a pair is the pair of its parts
pub pair_is : (v : Datum) (p : Bool × ℕ) → as_pair v ≡ Some p → v ≡ pair_datum p
pair_is (natural n) p e = cc
pair_is (truth n) p e = cc
pair_is (text n) p e = cc
pair_is (set n) p e = cc
pair_is (array ds n) p e = cc
pair_is (tuple vs) p e = ap tuple (sym (data_of-list_of vs) ∙ ap data_of (parts-pair (list_of vs) p e))

-- what is lent of packed cells
pub naturals-lent : (ns bytes : List ℕ) (w : ℕ) → 1 ≤ length ns → w ≡ 8 * width_for ns → bytes ≡ spell_numbers (width_for ns) ns → Some (w, bytes) ≡ packing (map natural ns)
naturals-lent ns bytes w h e f = (λ i. Some (e i, f i)) ∙ sym (naturals-pack ns h)

pub truths-lent : (bs : List Bool) (bytes : List ℕ) → 1 ≤ length bs → bytes ≡ map truth_byte bs → Some (8, bytes) ≡ packing (map truth bs)
truths-lent bs bytes h f = (λ i. Some (8, f i)) ∙ sym (truths-pack bs h)

pub pairs-lent : (ps : List (Bool × ℕ)) (bytes : List ℕ) (w : ℕ) → 1 ≤ length ps → w ≡ (pairs_packing ps).0 → bytes ≡ (pairs_packing ps).1 → Some (w, bytes) ≡ packing (map pair_datum ps)
pairs-lent ps bytes w h e f = (λ i. Some (e i, f i)) ∙ sym (pairs-pack ps h)

-- sets are not packed
pub sets-pack : (gs : List (List ℕ)) → None ≡ packing (map numbers_set gs)
unfolding packing
sets-pack [] = refl
sets-pack (g ∷ gs) = refl

pub ruleset lent = (naturals-lent, truths-lent, pairs-lent, sets-pack)

-- of cells that are not all naturals no cell is a natural among naturals
pub plain-others : (cs : List Datum) (i : ℕ) → i < length cs → packing cs ≡ None → None ≡ natural_of cs i
plain-others [] i h e = absurd (omega (arith, h))
plain-others (x ∷ xs) i h e = ap (λ o. o >>= λ ns. slice_get (x ∷ xs) i) (sym ((none-kinds x xs e).0))

pub truths-others : (bs : List Bool) (i : ℕ) → i < length (map truth bs) → None ≡ natural_of (map truth bs) i
truths-others [] i h = absurd (omega (arith, h))
truths-others (b ∷ bs) i h = refl

pub pairs-others : (ps : List (Bool × ℕ)) (i : ℕ) → i < length (map pair_datum ps) → None ≡ natural_of (map pair_datum ps) i
pairs-others [] i h = absurd (omega (arith, h))
pairs-others (p ∷ ps) i h = refl

pub naturals-at : (ns : List ℕ) (i n : ℕ) → i < length (map natural ns) → n ≡ get_or ns i 0 → Some (natural n) ≡ natural_of (map natural ns) i
naturals-at ns i n h e =
    ap (λ m. Some (natural m)) e
    ∙ ap (option_map natural) (sym (slice_get-get_or ns i 0 (omega (arith, h, length-map ns natural))))
    ∙ sym (slice_get-map natural ns i)
    ∙ ap (λ o. o >>= λ ms. slice_get (map natural ns) i) (sym (each-naturals ns))

pub sets-others : (gs : List (List ℕ)) (i : ℕ) → i < length (map numbers_set gs) → None ≡ natural_of (map numbers_set gs) i
sets-others [] i h = absurd (omega (arith, h))
sets-others (g ∷ gs) i h = refl

pub ruleset others = (plain-others, truths-others, pairs-others, sets-others, naturals-at)
