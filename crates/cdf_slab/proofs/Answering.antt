-- What is answered, from what was read.
use Rattle.std.proofs.Common.{◌≡◌, ℕ, zero, suc, ◌+◌, ◌*◌, ◌^◌, ◌<◌, ◌≤◌, Bool, true, false, List, [], ◌∷◌, length, map, Option, Some, None, option_map, Result, Ok, Err, refl, sym, ap, subst, ◌∙◌, arith, inl}
use Rattle.std.specs.List.{All}
use Rattle.std.proofs.lemmas.List.Elements.{All-nil, All-cons}
use Rattle.std.proofs.lemmas.List.{length-map}
use Rattle.aql_value.specs.Indices.{indices, product}
use Rattle.aql_value.specs.Laws.Indices.{length_indices}
use Rattle.aql_value.specs.Datum.{Datum, Table}
use Rattle.aql_value.specs.Partial.{◌>>=◌, each, or_else}
use Rattle.cdf_header.specs.declared.fault.CdfFault.{CdfFault}
use Rattle.cdf_header.specs.declared.fault.CdfFault.TheVariants as faults
use Rattle.cdf_header.specs.Format.{type_size}
use Rattle.cdf_header.specs.Header.{Head, Var}
use Rattle.cdf_header.specs.Places.{place, pitches}
use Rattle.cdf_slab.specs.declared.axes.Axis.{Axis}
use Rattle.cdf_slab.specs.Numbers.{Number, number_at, cell_of}
use Rattle.cdf_slab.specs.Slab.{point, cell_offsets, slab_numbers, slab, first_cut, index_fault, cut_fault, early_fault, negative_fault, slab_fault, IsSlabAnswer, AnswersEarly}
use Rattle.cdf_slab.specs.Walk.{steps_of, steps, walk, saturate_all, first_past, HaveRoom}
use Rattle.cdf_slab.specs.Going.{AppendsCells}
use Rattle.cdf_slab.proofs.Walking.{walk_places, capped-pitches}
use Rattle.cdf_slab.proofs.Cuts.{cut_capped, uncut_within, same_within}
use Rattle.cdf_slab.proofs.Stepping.{length-pitches}
use Rattle.cdf_slab.proofs.Goings.{none_negative}

-- the dimensions of a hyperslab of a variable lead to its places, as far as 2^128-1
pub record Leads (h : Head) (v : Var) (ss cs ts : List ℕ) (axes : List Axis) : Type 0 where
  pub same : saturate_all (walk (steps_of axes) v.begin) ≡ saturate_all (cell_offsets h v ss cs ts)

pub leads : (h : Head) (v : Var) (ss cs ts : List ℕ) (axes : List Axis) → steps_of axes ≡ steps ss cs ts (saturate_all (pitches h.dims h.vars v)) →
    length cs ≡ length ss → length ts ≡ length ss → length v.ids ≡ length ss → Leads h v ss cs ts axes
leads h v ss cs ts axes e a b c =
    let ws : List ℕ = pitches h.dims h.vars v in
    record {
      same =
          ap (λ l. saturate_all (walk l v.begin)) e
          ∙ capped-pitches ss cs ts ws v.begin v.begin refl
          ∙ ap saturate_all (walk_places h v ss cs ts a b (length-pitches h.dims h.vars v ∙ c));
    }

pub cut_is : (h : Head) (v : Var) (ss cs ts : List ℕ) (axes : List Axis) (size end : ℕ) → Leads h v ss cs ts axes → end < 2 ^ 64 →
    first_past size end (saturate_all (walk (steps_of axes) v.begin)) ≡ first_cut size end (cell_offsets h v ss cs ts)
cut_is h v ss cs ts axes size end l lt = ap (first_past size end) l.same ∙ sym (cut_capped size end (cell_offsets h v ss cs ts) (omega (arith, lt)))

-- without a cut the walk visits the places themselves, and each has room
pub walk_is_places : (h : Head) (v : Var) (ss cs ts : List ℕ) (axes : List Axis) (size end : ℕ) → Leads h v ss cs ts axes → end < 2 ^ 64 →
    first_cut size end (cell_offsets h v ss cs ts) ≡ None → walk (steps_of axes) v.begin ≡ cell_offsets h v ss cs ts
walk_is_places h v ss cs ts axes size end l lt e =
    same_within size end (walk (steps_of axes) v.begin) (cell_offsets h v ss cs ts) (omega (arith, lt)) l.same (uncut_within size end (cell_offsets h v ss cs ts) e)

abbrev pub tabled : List ℕ → Option (List Datum) → Option Table
tabled cs o = o >>= λ xs. Some (record { dims = cs; cells = xs })

-- all cells were read
pub read_all : (signed : Bool) (ns : List Number) (cs : List ℕ) (cells : List Datum) → AppendsCells signed ns [] (Ok cells) →
    (negative_fault signed ns ≡ None) × (tabled cs (each (cell_of signed) ns) ≡ Some (record { dims = cs; cells = cells }))
read_all signed ns cs cells g = (
  none signed g.1,
  ap (tabled cs) g.1 ∙ ap (λ xs. Some (record { dims = cs; cells = xs })) (sym g.2),
)
  where
    none : (b : Bool) → each (cell_of b) ns ≡ Some g.0 → negative_fault b ns ≡ None
    none true e = refl
    none false e = ap (option_map faults.Negative) (none_negative 0 ns g.0 e)

-- a cell below 0, the device or want of memory ended it
pub read_some : (signed : Bool) (ns : List Number) (array : Option Table) (e : CdfFault) → AppendsCells signed ns [] (Err e) → IsSlabAnswer (negative_fault signed ns) array (Err e)
read_some signed ns array (faults.Negative c) g =
    ap (λ b. negative_fault b ns) g.0 ∙ ap (option_map faults.Negative) g.1
read_some signed ns array faults.Device g = tt
read_some signed ns array faults.Memory g = tt
read_some signed ns array faults.Absent g = absurd g
read_some signed ns array faults.NotClassic g = absurd g
read_some signed ns array (faults.Version v) g = absurd g
read_some signed ns array (faults.Malformed a) g = absurd g
read_some signed ns array (faults.TooMany l) g = absurd g
read_some signed ns array faults.NoVariable g = absurd g
read_some signed ns array (faults.Rank f) g = absurd g
read_some signed ns array faults.FloatVariable g = absurd g
read_some signed ns array (faults.Stride d) g = absurd g
read_some signed ns array (faults.Outside d) g = absurd g
read_some signed ns array (faults.Cut a) g = absurd g

pub early-none : (o : Option CdfFault) (r : Result Table CdfFault) → o ≡ None → AnswersEarly o r
early-none o r e = subst (λ x. AnswersEarly x r) (sym e) tt

-- each count is at most their product, where none is 0
pub counts_small : (cs : List ℕ) (m : ℕ) → product cs ≤ m → (product cs ≡ 0 → ⊥) → m < 2 ^ 64 → All (λ c. c < 2 ^ 64) cs
counts_small [] m le full lt = All-nil (λ c. c < 2 ^ 64)
counts_small (c ∷ cs) m le full lt =
    let r : (c ≡ 0 → ⊥) × (product cs ≡ 0 → ⊥) = factors c (product cs) full in
    All-cons (λ c. c < 2 ^ 64) c cs (omega (arith, le, lt, first c (product cs) r.1)) (counts_small cs m (omega (arith, le, second c (product cs) r.0)) r.1 lt)
  where
    factors : (a b : ℕ) → (a * b ≡ 0 → ⊥) → (a ≡ 0 → ⊥) × (b ≡ 0 → ⊥)
    factors a b h =
        let x : 0 * b ≡ 0 = omega arith in
        let y : a * 0 ≡ 0 = omega arith in ((λ e. h (ap (λ n. n * b) e ∙ x)), (λ e. h (ap (λ n. a * n) e ∙ y)))

    first : (a b : ℕ) → (b ≡ 0 → ⊥) → a ≤ a * b
    first a zero h = absurd (h refl)
    first a (suc b) h = let e : a * suc b ≡ a * b + a = omega arith in omega (arith, e)

    second : (a b : ℕ) → (a ≡ 0 → ⊥) → b ≤ a * b
    second zero b h = absurd (h refl)
    second (suc a) b h = let e : suc a * b ≡ a * b + b = omega arith in omega (arith, e)

-- what `cut_from` finds is the first cut
pub cut_found : (h : Head) (v : Var) (ss cs ts : List ℕ) (items axes : List Axis) (size end base : ℕ) (found : Option ℕ) → Leads h v ss cs ts items →
    axes ≡ items → size ≡ type_size v.kind → end ≡ h.bytes → base ≡ v.begin → end < 2 ^ 64 → found ≡ first_past size end (saturate_all (walk (steps_of axes) base)) →
    found ≡ first_cut (type_size v.kind) h.bytes (cell_offsets h v ss cs ts)
cut_found h v ss cs ts items axes size end base found l a b c d lt e =
    e
    ∙ ap (λ n. first_past n end (saturate_all (walk (steps_of axes) base))) b
    ∙ ap (λ xs. first_past (type_size v.kind) end (saturate_all (walk (steps_of xs) base))) a
    ∙ ap (λ n. first_past (type_size v.kind) end (saturate_all (walk (steps_of items) n))) d
    ∙ cut_is h v ss cs ts items (type_size v.kind) end l lt
    ∙ ap (λ n. first_cut (type_size v.kind) n (cell_offsets h v ss cs ts)) c

pub walk_found : (h : Head) (v : Var) (ss cs ts : List ℕ) (items axes : List Axis) (end base : ℕ) → Leads h v ss cs ts items →
    axes ≡ items → end ≡ h.bytes → base ≡ v.begin → end < 2 ^ 64 → first_cut (type_size v.kind) h.bytes (cell_offsets h v ss cs ts) ≡ None → walk (steps_of axes) base ≡ cell_offsets h v ss cs ts
walk_found h v ss cs ts items axes end base l a c d lt none =
    ap (λ xs. walk (steps_of xs) base) a
    ∙ ap (walk (steps_of items)) d
    ∙ walk_is_places h v ss cs ts items (type_size v.kind) h.bytes l (omega (arith, lt, c)) none

pub room_found : (h : Head) (v : Var) (ss cs ts : List ℕ) (items axes : List Axis) (size end base : ℕ) → Leads h v ss cs ts items →
    axes ≡ items → size ≡ type_size v.kind → end ≡ h.bytes → base ≡ v.begin → end < 2 ^ 64 → first_cut (type_size v.kind) h.bytes (cell_offsets h v ss cs ts) ≡ None → HaveRoom size end (walk (steps_of axes) base)
room_found h v ss cs ts items axes size end base l a b c d lt none =
    subst (HaveRoom size end) (sym (walk_found h v ss cs ts items axes end base l a c d lt none))
    (subst (λ n. HaveRoom n end (cell_offsets h v ss cs ts)) (sym b)
    (subst (λ n. HaveRoom (type_size v.kind) n (cell_offsets h v ss cs ts)) (sym c) (uncut_within (type_size v.kind) h.bytes (cell_offsets h v ss cs ts) none)))

pub places_many : (h : Head) (v : Var) (ss cs ts : List ℕ) → length (cell_offsets h v ss cs ts) ≡ product cs
places_many h v ss cs ts = length-map (indices cs) (λ i. place h v (point ss ts i)) ∙ length_indices cs

pub cut_early : (o : Option ℕ) (at : ℕ) → Some at ≡ o → AnswersEarly (option_map faults.Cut o) (Err (faults.Cut at))
cut_early o at e = subst (λ x. AnswersEarly (option_map faults.Cut x) (Err (faults.Cut at))) e (inl refl)

-- what was read, in the words of the hyperslab
pub goes_as : (signed : Bool) (bytes : List ℕ) (kind kind' : ℕ) (ps qs : List ℕ) (before : List Datum) (r : Result (List Datum) CdfFault) → kind ≡ kind' → ps ≡ qs → before ≡ [] →
    AppendsCells signed (map (number_at bytes kind) ps) before r → AppendsCells signed (map (number_at bytes kind') qs) [] r
goes_as signed bytes kind kind' ps qs before r a b c g =
    subst (λ k. AppendsCells signed (map (number_at bytes k) qs) [] r) a
    (subst (λ l. AppendsCells signed (map (number_at bytes kind) l) [] r) b (subst (λ l. AppendsCells signed (map (number_at bytes kind) ps) l r) c g))

-- without cells
none_empty : {X : Type 0} (xs : List X) → length xs ≡ 0 → xs ≡ []
none_empty [] e = refl
none_empty (x ∷ xs) e = absurd (omega (arith, e))

pub no_places : (h : Head) (v : Var) (ss cs ts : List ℕ) → product cs ≡ 0 → cell_offsets h v ss cs ts ≡ []
no_places h v ss cs ts e = none_empty (cell_offsets h v ss cs ts) (places_many h v ss cs ts ∙ e)

pub empty_early : (h : Head) (v : Var) (ss cs ts : List ℕ) → product cs ≡ 0 → index_fault h v ss cs ts ≡ None → early_fault h v ss cs ts ≡ None
empty_early h v ss cs ts e i =
    ap (λ o. or_else o (cut_fault h v ss cs ts)) i
    ∙ ap (λ ps. option_map faults.Cut (first_cut (type_size v.kind) h.bytes ps)) (no_places h v ss cs ts e)

none_of_none : (signed : Bool) → negative_fault signed [] ≡ None
none_of_none true = refl
none_of_none false = refl

pub empty_told : (bytes : List ℕ) (h : Head) (v : Var) (ss cs ts : List ℕ) (signed : Bool) → product cs ≡ 0 → index_fault h v ss cs ts ≡ None →
    (slab_fault bytes h v ss cs ts signed ≡ None) × (slab bytes h v ss cs ts signed ≡ Some (record { dims = cs; cells = [] }))
empty_told bytes h v ss cs ts signed e i = (
  ap (λ o. or_else o (negative_fault signed (slab_numbers bytes h v ss cs ts))) (empty_early h v ss cs ts e i)
      ∙ ap (λ ps. negative_fault signed (map (number_at bytes v.kind) ps)) (no_places h v ss cs ts e)
      ∙ none_of_none signed,
  ap (λ ps. each (cell_of signed) (map (number_at bytes v.kind) ps) >>= λ cells. Some (record { dims = cs; cells = cells })) (no_places h v ss cs ts e),
)
