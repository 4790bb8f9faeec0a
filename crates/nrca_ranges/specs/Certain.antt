-- Terms that are certain to have a value: the firm ones, and those of which the shapes of the parts tell it.
use Rattle.std.proofs.Common.{ℕ, suc, ◌-◌, Bool, true, false, ◌&&◌, ◌||◌, nat_eq, List, [], ◌∷◌, length, if◌then◌else◌}
use Rattle.aql_value.specs.Indices.{product}
use Rattle.aql_value.specs.Strict.{Strict}
use Rattle.nrca_term.specs.Term.{Term, Parts, node, none, part, Form}
use Rattle.nrca_term.specs.Facts.{Context, enter_facts}
use Rattle.nrca_term.specs.Firm.{wants_all, firm}
use Rattle.nrca_ranges.specs.declared.interval.Interval.{Interval}
use Rattle.nrca_ranges.specs.Bounds.{Bounds, unknown, number, row, members, grid, Ranges}
use Rattle.nrca_ranges.specs.Entered.{is_shaped}
use Rattle.nrca_ranges.specs.Intervals.{is_end, always_fits, is_below, is_one, all_single, lows, loop_sum}
use Rattle.nrca_ranges.specs.Transfer.{interval_of, count_of, entry_at, first_intervals, parts_bounds, enter_ranges}

-- whether there are as many numbers as dimensions, each below its own
abbrev pub all_below : List Interval → List Bounds → Bool
all_below [] [] = true
all_below [] (b ∷ bs) = false
all_below (d ∷ ds) [] = false
all_below (d ∷ ds) (b ∷ bs) = is_below (interval_of b) d && all_below ds bs

-- whether the numbers are an index of each array that has the shape
abbrev pub is_index : Bounds → List Bounds → Bool
is_index (grid is b) bs = all_below is bs
is_index unknown bs = false
is_index (number i) bs = false
is_index (row as') bs = false
is_index (members i b) bs = false

-- an array, and then the numbers of an index
abbrev pub is_cell : List Bounds → Bool
is_cell [] = false
is_cell (b ∷ bs) = is_index b bs

-- whether the first numbers, the dimensions, are each one number alone, and as many cells follow as their product
abbrev pub is_full : ℕ → List Bounds → Bool
is_full rank bs = all_single (first_intervals rank bs) && nat_eq (product (lows (first_intervals rank bs))) (length bs - rank)

-- whether an operation has a value wherever its parts have, by their shapes
abbrev pub strict_certain : Strict → List Bounds → Bool
strict_certain (Strict.nat n) bs = true
strict_certain (Strict.bool b) bs = true
strict_certain (Strict.text s) bs = true
strict_certain Strict.bottom bs = false
strict_certain Strict.tuple bs = true
strict_certain (Strict.proj at of) bs = true
strict_certain (Strict.arith op) bs = always_fits op (interval_of (entry_at bs 0)) (interval_of (entry_at bs 1))
strict_certain (Strict.compare op) bs = true
strict_certain Strict.empty bs = true
strict_certain Strict.single bs = true
strict_certain Strict.union bs = true
strict_certain Strict.gen bs = true
strict_certain Strict.get bs = is_one (count_of (entry_at bs 0))
strict_certain Strict.sub bs = is_cell bs
strict_certain (Strict.dim rank) bs = true
strict_certain (Strict.index rank) bs = false
strict_certain (Strict.literal rank) bs = is_full rank bs

-- whether a node of the form has a value wherever its parts have, D telling which positions are defined; of a default, one part
abbrev pub form_certain : (ℕ → Bool) → Form → List Bounds → Bool
form_certain D (Form.var i) bs = true
form_certain D (Form.global n) bs = D n
form_certain D Form.bind bs = true
form_certain D Form.choose bs = true
form_certain D Form.default bs = true
form_certain D Form.big_union bs = true
form_certain D Form.sum bs = is_end (loop_sum (count_of (entry_at bs 0)) (interval_of (entry_at bs 1))).high
form_certain D (Form.tab rank) bs = true
form_certain D (Form.strict s) bs = strict_certain s bs

abbrev mutual
  -- a term that is certain to have a value at a place with these facts, where so much is known of the values of positions and variables
  pub certain : Ranges → Context → Term → Bool
  certain gs c (node f ps) =
      firm (is_shaped gs.positions) c (node f ps)
      || (form_certain (is_shaped gs.positions) f (parts_bounds gs c (node f ps)) && (if wants_all f then all_certain gs c (node f ps) 0 ps else some_certain gs c (node f ps) 0 ps))

  -- all of the parts from part i of a term on
  pub all_certain : Ranges → Context → Term → ℕ → Parts → Bool
  all_certain gs c t i none = true
  all_certain gs c t i (part k u ps) = certain (enter_ranges gs c t i) (enter_facts c t i) u && all_certain gs c t (suc i) ps

  -- one of the parts from part i of a term on
  pub some_certain : Ranges → Context → Term → ℕ → Parts → Bool
  some_certain gs c t i none = false
  some_certain gs c t i (part k u ps) = certain (enter_ranges gs c t i) (enter_facts c t i) u || some_certain gs c t (suc i) ps
