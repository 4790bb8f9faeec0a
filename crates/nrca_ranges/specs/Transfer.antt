-- What is known of a node's value from what is known of its parts' values, and so of a term's: its transfer function.
use Rattle.std.proofs.Common.{◌≡◌, ℕ, zero, suc, Bool, true, false, nat_eq, nat_lt, List, [], ◌∷◌, ◌++◌, length, map, take, reverse, Some, None, if◌then◌else◌}
use Rattle.aql_value.specs.Strict.{Strict}
use Rattle.nrca_term.specs.Term.{Term, Parts, node, none, part, Form, form_of, parts_of, child_of}
use Rattle.nrca_term.specs.Facts.{Context, enter_facts, context_below}
use Rattle.nrca_term.specs.Firm.{Span, span}
use Rattle.nrca_ranges.specs.declared.interval.Interval.{Interval}
use Rattle.nrca_ranges.specs.Bounds.{Bounds, Row, unknown, number, row, members, grid, end, entry, row_of, Ranges, with_own}
use Rattle.nrca_ranges.specs.Entered.{position_bounds}
use Rattle.nrca_ranges.specs.Intervals.{between, everything, before, hull, hulls, arith_interval, union_count, loop_count, loop_sum}

-- the interval of the numbers that have a shape
abbrev pub interval_of : Bounds → Interval
interval_of (number i) = i
interval_of unknown = everything
interval_of (row bs) = everything
interval_of (members i b) = everything
interval_of (grid is b) = everything

-- the interval of the number of members of the sets that have a shape
abbrev pub count_of : Bounds → Interval
count_of (members i b) = i
count_of unknown = everything
count_of (number i) = everything
count_of (row bs) = everything
count_of (grid is b) = everything

-- what is known of each member of the sets that have a shape
abbrev pub member_of : Bounds → Bounds
member_of (members i b) = b
member_of unknown = unknown
member_of (number i) = unknown
member_of (row bs) = unknown
member_of (grid is b) = unknown

-- what is known of each cell of the arrays that have a shape
abbrev pub cell_of : Bounds → Bounds
cell_of (grid is b) = b
cell_of unknown = unknown
cell_of (number i) = unknown
cell_of (row bs) = unknown
cell_of (members i b) = unknown

-- the shape of an index whose numbers are in the intervals: one number, or a tuple of numbers
abbrev pub index_bounds : List Interval → Bounds
index_bounds [] = row end
index_bounds (i ∷ []) = number i
index_bounds (i ∷ j ∷ is) = row (row_of (map number (i ∷ j ∷ is)))

-- the shape of the dimensions of the arrays that have a shape
abbrev pub dimensions_of : Bounds → Bounds
dimensions_of (grid is b) = index_bounds is
dimensions_of unknown = unknown
dimensions_of (number i) = unknown
dimensions_of (row bs) = unknown
dimensions_of (members i b) = unknown

-- what is known of part i of a tuple, counted from 1
abbrev pub part_at : Row → ℕ → Bounds
part_at bs zero = unknown
part_at end (suc i) = unknown
part_at (entry b bs) (suc zero) = b
part_at (entry b bs) (suc (suc i)) = part_at bs (suc i)

-- what is known of a part, counted from 1, of the tuples that have a shape
abbrev pub part_bounds : Bounds → ℕ → Bounds
part_bounds (row bs) at = part_at bs at
part_bounds unknown at = unknown
part_bounds (number i) at = unknown
part_bounds (members i b) at = unknown
part_bounds (grid is b) at = unknown

-- a number of the interval, or what the other shape says where that is one of a number too
abbrev pub join_number : Interval → Bounds → Bounds
join_number i (number j) = number (hull i j)
join_number i unknown = unknown
join_number i (row bs) = unknown
join_number i (members j b) = unknown
join_number i (grid js b) = unknown

-- arrays of these dimensions and cells, where those of both shapes are equally many
-- and of arrays with these dimensions
abbrev pub join_grids : Bool → List Interval → Bounds → Bounds
join_grids true is b = grid is b
join_grids false is b = unknown

-- a shape of all values that have one of the two: nothing is known where these are of different kinds, or of tuples
abbrev pub join_bounds : Bounds → Bounds → Bounds
join_bounds unknown b = unknown
join_bounds (number i) b = join_number i b
join_bounds (row as') b = unknown
join_bounds (members i a) unknown = unknown
join_bounds (members i a) (number j) = unknown
join_bounds (members i a) (row bs) = unknown
join_bounds (members i a) (members j b) = members (hull i j) (join_bounds a b)
join_bounds (members i a) (grid js b) = unknown
join_bounds (grid is a) unknown = unknown
join_bounds (grid is a) (number j) = unknown
join_bounds (grid is a) (row bs) = unknown
join_bounds (grid is a) (members j b) = unknown
join_bounds (grid is a) (grid js b) = join_grids (nat_eq (length is) (length js)) (hulls is js) (join_bounds a b)

-- the same of sets with so many members
abbrev pub join_members : Interval → Bounds → Bounds → Bounds
join_members i a b = join_bounds (members i a) b

-- and of arrays with these dimensions
abbrev pub join_grid : List Interval → Bounds → Bounds → Bounds
join_grid is a b = join_bounds (grid is a) b

-- entry i of a list, counted from 0
abbrev pub entry_at : List Bounds → ℕ → Bounds
entry_at [] i = unknown
entry_at (b ∷ bs) zero = b
entry_at (b ∷ bs) (suc i) = entry_at bs i

-- what the second list says is what the first says, but for entry i
abbrev pub SameOthers : ℕ → List Bounds → List Bounds → Type 0
SameOthers i xs ys = (j : ℕ) → (j ≡ i → ⊥) → entry_at ys j ≡ entry_at xs j

-- the intervals of the first numbers of a list
abbrev pub first_intervals : ℕ → List Bounds → List Interval
first_intervals n bs = map interval_of (take n bs)

-- the shape of the union of two sets
abbrev pub union_bounds : Bounds → Bounds → Bounds
union_bounds a b = members (union_count (count_of a) (count_of b)) (join_bounds (member_of a) (member_of b))

-- the shape of the union of the sets of a body over the members of a set
abbrev pub loop_bounds : Bounds → Bounds → Bounds
loop_bounds a b = members (loop_count (count_of a) (count_of b)) (member_of b)

-- the shape of a number below one of the interval: 0 up to the greatest but one, and 0 alone below 0
abbrev pub index_below : Interval → Bounds
index_below i = number (between 0 (before i.high))

-- the shape of the set of the numbers below a number
abbrev pub below_bounds : Interval → Bounds
below_bounds i = members i (index_below i)

-- of a number its interval, and else nothing
abbrev pub flat : Bounds → Bounds
flat (number i) = number i
flat unknown = unknown
flat (row bs) = unknown
flat (members i b) = unknown
flat (grid is b) = unknown

-- so of the parts of a tuple
abbrev pub flat_row : Row → Row
flat_row end = end
flat_row (entry b bs) = entry (flat b) (flat_row bs)

-- what is kept of a shape for a variable: the shape, and of its parts, members or cells those that are numbers
abbrev pub kept : Bounds → Bounds
kept unknown = unknown
kept (number i) = number i
kept (row bs) = row (flat_row bs)
kept (members i b) = members i (flat b)
kept (grid is b) = grid is (flat b)

-- what is known of the variables that a node of the form binds in part i, the outermost first, by the shapes of the parts before it
abbrev pub own_bounds : Form → ℕ → List Bounds → List Bounds
own_bounds Form.bind zero bs = []
own_bounds Form.bind (suc i) bs = kept (entry_at bs 0) ∷ []
own_bounds Form.big_union zero bs = []
own_bounds Form.big_union (suc i) bs = kept (member_of (entry_at bs 0)) ∷ []
own_bounds Form.sum zero bs = []
own_bounds Form.sum (suc i) bs = kept (member_of (entry_at bs 0)) ∷ []
own_bounds (Form.tab rank) i bs = if nat_lt i rank then [] else map index_below (first_intervals rank bs)
own_bounds (Form.var n) i bs = []
own_bounds (Form.global n) i bs = []
own_bounds Form.choose i bs = []
own_bounds Form.default i bs = []
own_bounds (Form.strict s) i bs = []

-- what is known inside of part i
abbrev pub inside : Ranges → Form → ℕ → List Bounds → Ranges
inside gs f i bs = with_own gs (own_bounds f i bs)

-- what is known of variable i, the innermost being number 0
abbrev pub variable_bounds : List Bounds → ℕ → Bounds
variable_bounds xs i = entry_at (reverse xs) i

-- by the shapes of the parts, of a form that evaluates all of them and binds nothing
abbrev pub strict_bounds : Strict → List Bounds → Bounds
strict_bounds (Strict.nat n) bs = unknown
strict_bounds (Strict.bool b) bs = unknown
strict_bounds (Strict.text s) bs = unknown
strict_bounds Strict.bottom bs = unknown
strict_bounds Strict.tuple bs = row (row_of bs)
strict_bounds (Strict.proj at of) bs = part_bounds (entry_at bs 0) at
strict_bounds (Strict.arith op) bs = number (arith_interval op (interval_of (entry_at bs 0)) (interval_of (entry_at bs 1)))
strict_bounds (Strict.compare op) bs = unknown
strict_bounds Strict.empty bs = members (between 0 0) unknown
strict_bounds Strict.single bs = members (between 1 1) (entry_at bs 0)
strict_bounds Strict.union bs = union_bounds (entry_at bs 0) (entry_at bs 1)
strict_bounds Strict.gen bs = below_bounds (interval_of (entry_at bs 0))
strict_bounds Strict.get bs = member_of (entry_at bs 0)
strict_bounds Strict.sub bs = cell_of (entry_at bs 0)
strict_bounds (Strict.dim rank) bs = dimensions_of (entry_at bs 0)
strict_bounds (Strict.index rank) bs = unknown
strict_bounds (Strict.literal rank) bs = grid (first_intervals rank bs) unknown

-- the shape of a tabulation of that rank, by those of its bounds and its body
abbrev pub tab_bounds : ℕ → List Bounds → Bounds
tab_bounds rank bs = grid (first_intervals rank bs) (entry_at bs rank)

-- by the shapes of the parts; a number that is written down is told by its span
abbrev pub form_bounds : Ranges → Form → List Bounds → Bounds
form_bounds gs (Form.var i) bs = variable_bounds gs.variables i
form_bounds gs (Form.global n) bs = position_bounds gs.positions n
form_bounds gs Form.bind bs = entry_at bs 1
form_bounds gs Form.choose bs = join_bounds (entry_at bs 1) (entry_at bs 2)
form_bounds gs Form.default bs = join_bounds (entry_at bs 0) (entry_at bs 1)
form_bounds gs Form.big_union bs = loop_bounds (entry_at bs 0) (entry_at bs 1)
form_bounds gs Form.sum bs = number (loop_sum (count_of (entry_at bs 0)) (interval_of (entry_at bs 1)))
form_bounds gs (Form.tab rank) bs = tab_bounds rank bs
form_bounds gs (Form.strict s) bs = strict_bounds s bs

-- the span, where there is one, and else the shape
abbrev pub by_span : Span → Bounds → Bounds
by_span (Some x) b = number (between x.0 x.1)
by_span None b = b

-- a shape, and behind it what follows from it
abbrev pub and_then : Bounds → (Bounds → List Bounds) → List Bounds
and_then b f = b ∷ f b

abbrev mutual
  -- what is known of a term's value at a place with these facts, where so much is known of the values of positions and variables
  pub bounds : Ranges → Context → Term → Bounds
  bounds gs c (node f ps) = by_span (span c (node f ps)) (form_bounds gs f (all_bounds gs c (node f ps) 0 [] ps))

  -- the same of the parts from part i of a term on, each at its own place; `bs` is what is known of the parts before it
  pub all_bounds : Ranges → Context → Term → ℕ → List Bounds → Parts → List Bounds
  all_bounds gs c t i bs none = []
  all_bounds gs c t i bs (part k u ps) =
      and_then (bounds (inside gs (form_of t) i bs) (enter_facts c t i) u) (λ b. all_bounds gs c t (suc i) (bs ++ b ∷ []) ps)

-- what is known of all parts of a term
abbrev pub parts_bounds : Ranges → Context → Term → List Bounds
parts_bounds gs c t = all_bounds gs c t 0 [] (parts_of t)

-- what is known of values inside of part i of a term
abbrev pub enter_ranges : Ranges → Context → Term → ℕ → Ranges
enter_ranges gs c t i = inside gs (form_of t) i (take i (parts_bounds gs c t))

-- and at the place at a path
abbrev pub ranges_at : Ranges → Context → Term → List ℕ → Ranges
ranges_at gs c t [] = gs
ranges_at gs c t (i ∷ path) = context_below gs (child_of (parts_of t) i) (λ u. ranges_at (enter_ranges gs c t i) (enter_facts c t i) u path)
