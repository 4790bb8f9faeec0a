-- Reading some numbers and then others.
use Rattle.std.proofs.Common.{◌≡◌, ℕ, ◌+◌, ◌<◌, ◌≤◌, Bool, true, false, if◌then◌else◌, List, [], ◌∷◌, ◌++◌, length, Option, Some, None, Result, Ok, Err, refl, sym, ap, subst, ◌∙◌, arith, append_assoc, length-append}
use Rattle.std.proofs.lemmas.List.{append-nil}
use Rattle.aql_value.specs.Datum.{Datum, natural}
use Rattle.aql_value.specs.Partial.{◌>>=◌, each}
use Rattle.aql_value.specs.Laws.Partial.{then-is, each-length}
use Rattle.cdf_header.specs.declared.fault.CdfFault.{CdfFault}
use Rattle.cdf_header.specs.declared.fault.CdfFault.TheVariants as faults
use Rattle.std.specs.Prelude.{IfOk, IfErr}
use Rattle.aql_value.specs.Lists.{Every}
use Rattle.aql_value.specs.Laws.Lists.{Every-append}
use Rattle.cdf_slab.specs.Numbers.{Number, IsCell, cell_of}
use Rattle.cdf_slab.specs.Slab.{first_negative, IsLate}
use Rattle.cdf_header.specs.File.{IsOutside}
use Rattle.cdf_slab.specs.Window.{IsOfPiece}
use Rattle.cdf_slab.specs.Going.{AppendsCells}

pub goes-none : (signed : Bool) (before : List Datum) → AppendsCells signed [] before (Ok before)
goes-none signed before = ([], refl, sym (append-nil before))

each-append : (signed : Bool) (ns ms : List Number) (xs ys : List Datum) → each (cell_of signed) ns ≡ Some xs → each (cell_of signed) ms ≡ Some ys → each (cell_of signed) (ns ++ ms) ≡ Some (xs ++ ys)
each-append signed [] ms xs ys e f = let z : [] ≡ xs = cc in ap {B = Option (List Datum)} (λ o. o) f ∙ ap (λ l. Some (l ++ ys)) z
each-append signed (n ∷ ns) ms xs ys e f =
    let a = then-is (cell_of signed n) (λ y. each (cell_of signed) ns >>= λ l. Some (y ∷ l)) xs e in
    let b = then-is (each (cell_of signed) ns) (λ l. Some (a.0 ∷ l)) xs a.2 in
    let z : a.0 ∷ b.0 ≡ xs = cc in
    ap (λ o. o >>= λ y. each (cell_of signed) (ns ++ ms) >>= λ l. Some (y ∷ l)) a.1
    ∙ ap (λ o. o >>= λ l. Some (a.0 ∷ l)) (each-append signed ns ms b.0 ys b.1 f)
    ∙ ap (λ l. Some (l ++ ys)) z

cell-natural : (n : Number) (x : Datum) → cell_of false n ≡ Some x → n.0 ≡ false
cell-natural n x e = go n.0 refl
  where
    go : (b : Bool) → n.0 ≡ b → n.0 ≡ false
    go false q = q
    go true q = absurd (let z : (if true then None else Some (natural n.1)) ≡ Some x = sym (ap (λ b. if b then None else Some (natural n.1)) q) ∙ e in cc)

-- numbers of which none is below 0
first_negative-past : (k : ℕ) (ns ms : List Number) (xs : List Datum) → each (cell_of false) ns ≡ Some xs → first_negative k (ns ++ ms) ≡ first_negative (k + length ns) ms
first_negative-past k [] ms xs e = let z : k ≡ k + 0 = omega arith in ap (λ i. first_negative i ms) z
first_negative-past k (n ∷ ns) ms xs e =
    let a = then-is (cell_of false n) (λ y. each (cell_of false) ns >>= λ l. Some (y ∷ l)) xs e in
    let b = then-is (each (cell_of false) ns) (λ l. Some (a.0 ∷ l)) xs a.2 in
    let z : k + 1 + length ns ≡ k + length (n ∷ ns) = omega arith in
    ap (λ b. if b then Some k else first_negative (k + 1) (ns ++ ms)) (cell-natural n a.0 a.1)
    ∙ first_negative-past (k + 1) ns ms b.0 b.1
    ∙ ap (λ i. first_negative i ms) z

pub none_negative : (k : ℕ) (ns : List Number) (xs : List Datum) → each (cell_of false) ns ≡ Some xs → first_negative k ns ≡ None
none_negative k ns xs e = ap (first_negative k) (sym (append-nil ns)) ∙ first_negative-past k ns [] xs e

-- the first negative number of some is that of these and others
first_negative-stays : (k : ℕ) (ns ms : List Number) (c : ℕ) → first_negative k ns ≡ Some c → first_negative k (ns ++ ms) ≡ Some c
first_negative-stays k [] ms c e = absurd cc
first_negative-stays k (n ∷ ns) ms c e = go n.0 (λ h. first_negative-stays (k + 1) ns ms c h) e
  where
    go : (b : Bool) → (first_negative (k + 1) ns ≡ Some c → first_negative (k + 1) (ns ++ ms) ≡ Some c) → (if b then Some k else first_negative (k + 1) ns) ≡ Some c →
        (if b then Some k else first_negative (k + 1) (ns ++ ms)) ≡ Some c
    go true h e = e
    go false h e = h e

pub goes-then : (signed : Bool) (ns ms : List Number) (before mid : List Datum) (r : Result (List Datum) CdfFault) → AppendsCells signed ns before (Ok mid) → AppendsCells signed ms mid r → AppendsCells signed (ns ++ ms) before r
goes-then signed ns ms before mid (Ok all) h k =
    (h.0 ++ k.0, each-append signed ns ms h.0 k.0 h.1 k.1, k.2 ∙ ap (λ l. l ++ k.0) h.2 ∙ append_assoc before h.0 k.0)
goes-then signed ns ms before mid (Err (faults.Negative c)) h k =
    let e : each (cell_of false) ns ≡ Some h.0 = subst (λ b. each (cell_of b) ns ≡ Some h.0) k.0 h.1 in
    let n : length before + length ns ≡ length mid = omega (arith, ap length h.2, length-append before h.0, each-length (cell_of signed) ns h.0 h.1) in
    (k.0, first_negative-past (length before) ns ms h.0 e ∙ ap (λ i. first_negative i ms) n ∙ k.1)
goes-then signed ns ms before mid (Err faults.Device) h k = tt
goes-then signed ns ms before mid (Err faults.Memory) h k = tt
goes-then signed ns ms before mid (Err faults.Absent) h k = k
goes-then signed ns ms before mid (Err faults.NotClassic) h k = k
goes-then signed ns ms before mid (Err (faults.Version v)) h k = k
goes-then signed ns ms before mid (Err (faults.Malformed a)) h k = k
goes-then signed ns ms before mid (Err (faults.TooMany l)) h k = k
goes-then signed ns ms before mid (Err faults.NoVariable) h k = k
goes-then signed ns ms before mid (Err (faults.Rank f)) h k = k
goes-then signed ns ms before mid (Err faults.FloatVariable) h k = k
goes-then signed ns ms before mid (Err (faults.Stride d)) h k = k
goes-then signed ns ms before mid (Err (faults.Outside d)) h k = k
goes-then signed ns ms before mid (Err (faults.Cut a)) h k = k

pub goes-fails : (signed : Bool) (ns ms : List Number) (before : List Datum) (e : CdfFault) → AppendsCells signed ns before (Err e) → AppendsCells signed (ns ++ ms) before (Err e)
goes-fails signed ns ms before (faults.Negative c) h = (h.0, first_negative-stays (length before) ns ms c h.1)
goes-fails signed ns ms before faults.Device h = tt
goes-fails signed ns ms before faults.Memory h = tt
goes-fails signed ns ms before faults.Absent h = h
goes-fails signed ns ms before faults.NotClassic h = h
goes-fails signed ns ms before (faults.Version v) h = h
goes-fails signed ns ms before (faults.Malformed a) h = h
goes-fails signed ns ms before (faults.TooMany l) h = h
goes-fails signed ns ms before faults.NoVariable h = h
goes-fails signed ns ms before (faults.Rank f) h = h
goes-fails signed ns ms before faults.FloatVariable h = h
goes-fails signed ns ms before (faults.Stride d) h = h
goes-fails signed ns ms before (faults.Outside d) h = h
goes-fails signed ns ms before (faults.Cut a) h = h

-- each cell that is given is one of a number
cells-given : (signed : Bool) (ns : List Number) (xs : List Datum) → each (cell_of signed) ns ≡ Some xs → Every (IsCell signed) xs
cells-given signed [] xs e = let z : [] ≡ xs = cc in subst (Every (IsCell signed)) z tt
cells-given signed (n ∷ ns) xs e =
    let a = then-is (cell_of signed n) (λ y. each (cell_of signed) ns >>= λ l. Some (y ∷ l)) xs e in
    let b = then-is (each (cell_of signed) ns) (λ l. Some (a.0 ∷ l)) xs a.2 in
    let z : a.0 ∷ b.0 ≡ xs = cc in
    subst (Every (IsCell signed)) z ((n, a.1), cells-given signed ns b.0 b.1)

pub goes-kinds : (signed : Bool) (ns : List Number) (before : List Datum) (r : Result (List Datum) CdfFault) → AppendsCells signed ns before r → Every (IsCell signed) before → IfOk r (Every (IsCell signed))
goes-kinds signed ns before (Ok all) h k = subst (Every (IsCell signed)) (sym h.2) (Every-append (IsCell signed) before h.0 k (cells-given signed ns h.0 h.1))
goes-kinds signed ns before (Err e) h k = tt

-- the first number below 0 is one of them
first_negative-below : (k : ℕ) (ns : List Number) (c : ℕ) → first_negative k ns ≡ Some c → c < k + length ns
first_negative-below k [] c e = absurd cc
first_negative-below k (n ∷ ns) c e = go n.0 (λ h. first_negative-below (k + 1) ns c h) e
  where
    go : (b : Bool) → (first_negative (k + 1) ns ≡ Some c → c < k + 1 + length ns) → (if b then Some k else first_negative (k + 1) ns) ≡ Some c → c < k + length (n ∷ ns)
    go true h e = let z : k ≡ c = cc in omega (arith, z)
    go false h e = omega (arith, h e)

-- a fault of format numbers
pub goes_late : (signed : Bool) (ns : List Number) (before : List Datum) (r : Result (List Datum) CdfFault) → AppendsCells signed ns before r → IfErr r (IsLate signed (length before + length ns))
goes_late signed ns before (Ok all) g = tt
goes_late signed ns before (Err (faults.Negative c)) g = (g.0, first_negative-below (length before) ns c g.1)
goes_late signed ns before (Err (faults.Cut at)) g = absurd g
goes_late signed ns before (Err e) g = g

-- the same of more cells
pub late_more : (signed : Bool) (m n : ℕ) (e : CdfFault) → m ≤ n → IsLate signed m e → IsLate signed n e
late_more signed m n (faults.Negative c) le late = (late.0, omega (arith, le, late.1))
late_more signed m n e le late = late

-- a fault of the device is one of format a piece
pub outside_piece : (e : CdfFault) → IsOutside e → IsOfPiece e
outside_piece (faults.Cut at) out = tt
outside_piece e out = out

-- a fault of format a piece, whatever the cells
pub piece_late : (signed : Bool) (many : ℕ) (e : CdfFault) → IsOfPiece e → IsLate signed many e
piece_late signed many (faults.Negative c) piece = absurd piece
piece_late signed many e piece = piece
