-- Worked queries: what each denotes and how many turns it takes, and two sizes.
use Rattle.std.specs.Prelude.{◌≡◌, ℕ, zero, suc, true, List, [], ◌∷◌, Option, Some, None, refl}
use Rattle.aql_value.specs.Datum.{Datum, natural, set, tuple, array, data_of}
use Rattle.aql_value.specs.Indices.{indices}
use Rattle.aql_value.specs.Strict.{Strict}
use Rattle.aql_value.specs.declared.ops.ArithOp.TheVariants as ariths
use Rattle.aql_value.specs.declared.ops.CompareOp.TheVariants as compares
use Rattle.aql_syntax.specs.Tree as tree
use Rattle.aql_syntax.specs.Tree.{Name, Pat, Pats, Tree, Trees, no_tree, Quals, no_qual, Declaration, it}
use Rattle.aql_syntax.specs.View.{of_one, of_two}
use Rattle.aql_syntax.specs.Denotation.{den}
use Rattle.aql_syntax.specs.Work.{work}
use Rattle.aql_syntax.specs.Script.{globals_of, values}
use Rattle.aql_syntax.specs.Size.{expanded_size, expanded_levels}

abbrev a : Name
a = 97 ∷ []

abbrev b : Name
b = 98 ∷ []

abbrev f : Name
f = 102 ∷ []

abbrev i : Name
i = 105 ∷ []

abbrev j : Name
j = 106 ∷ []

abbrev u : Name
u = 117 ∷ []

abbrev x : Name
x = 120 ∷ []

abbrev y : Name
y = 121 ∷ []

abbrev v : Name → Tree
v = tree.name

abbrev n : ℕ → Tree
n k = tree.op (Strict.nat k) no_tree

abbrev list : List Tree → Trees
list [] = no_tree
list (e ∷ es) = tree.tree e (list es)

abbrev patterns : List Pat → Pats
patterns [] = tree.no_pat
patterns (p ∷ ps) = tree.pat p (patterns ps)

abbrev row : List Tree → Tree
row es = tree.op Strict.tuple (list es)

abbrev members : List Tree → Tree
members es = tree.members (list es)

abbrev none : Tree
none = tree.op Strict.empty no_tree

abbrev gen : Tree → Tree
gen e = of_one Strict.gen e

abbrev num : ℕ → Datum
num = natural

abbrev set_with : List Datum → Datum
set_with vs = set (data_of vs)

abbrev pair : Datum → Datum → Datum
pair p q = tuple (data_of (p ∷ q ∷ []))

-- {x*x | \x <- gen!4}
abbrev squares : Tree
squares = tree.comp (of_two (Strict.arith ariths.Mul) (v x) (v x)) (tree.from (tree.bind x) (gen (n 4)) no_qual)

squares_are : den squares [] [] ≡ Some (set_with (num 0 ∷ num 1 ∷ num 4 ∷ num 9 ∷ []))
squares_are = refl

squares_turns : work squares [] [] ≡ 8
squares_turns = refl

-- len!([[10/i | \i<3]])
abbrev quotients : Tree
quotients = of_one (Strict.dim 1) (tree.tab (tree.axis i (n 3) tree.no_axis) (of_two (Strict.arith ariths.Quotient) (n 10) (v i)))

quotients_undefined : den quotients [] [] ≡ None
unfolding indices
quotients_undefined = refl

quotients_turns : work quotients [] [] ≡ 3
unfolding indices
quotients_turns = refl

-- summap(fn \x => 1)!({y%2 | \y <- gen!10})
abbrev ones : Tree
ones =
    tree.summap (tree.bind x) (n 1)
    (tree.comp (of_two (Strict.arith ariths.Remainder) (v y) (n 2)) (tree.from (tree.bind y) (gen (n 10)) no_qual))

ones_are : den ones [] [] ≡ Some (num 2)
ones_are = refl

ones_turns : work ones [] [] ≡ 22
ones_turns = refl

-- index_1!({(0,5),(2,7),(0,6)})
abbrev grouped : Tree
grouped = of_one (Strict.index 1) (members (row (n 0 ∷ n 5 ∷ []) ∷ row (n 2 ∷ n 7 ∷ []) ∷ row (n 0 ∷ n 6 ∷ []) ∷ []))

grouped_is : den grouped [] [] ≡ Some (array (3 ∷ []) (data_of (set_with (num 5 ∷ num 6 ∷ []) ∷ set_with [] ∷ set_with (num 7 ∷ []) ∷ [])))
unfolding indices
grouped_is = refl

grouped_turns : work grouped [] [] ≡ 6
unfolding indices
grouped_turns = refl

-- index_1!({})
ungrouped_is : den (of_one (Strict.index 1) none) [] [] ≡ Some (array (0 ∷ []) (data_of []))
unfolding indices
ungrouped_is = refl

ungrouped_turns : work (of_one (Strict.index 1) none) [] [] ≡ 0
unfolding indices
ungrouped_turns = refl

-- macro \f = fn \a => {a+b | \b <- gen!2};
abbrev sums : Declaration
sums = tree.mac f (tree.bind a) (tree.comp (of_two (Strict.arith ariths.Add) (v a) (v b)) (tree.from (tree.bind b) (gen (n 2)) no_qual))

-- {x | \b <- gen!3, \x <- f!b}
abbrev spread : Tree
spread = tree.comp (v x) (tree.from (tree.bind b) (gen (n 3)) (tree.from (tree.bind x) (tree.apply f (v b)) no_qual))

spread_is : den spread (globals_of ((sums, None) ∷ [])) [] ≡ Some (set_with (num 0 ∷ num 1 ∷ num 2 ∷ num 3 ∷ []))
spread_is = refl

spread_turns : work spread (globals_of ((sums, None) ∷ [])) [] ≡ 24
spread_turns = refl

-- {}
nothing_is : den none [] [] ≡ Some (set_with [])
nothing_is = refl

-- [[3; 5, 6, 7]]
abbrev three : Tree
three = tree.op (Strict.literal 1) (list (n 3 ∷ n 5 ∷ n 6 ∷ n 7 ∷ []))

-- [[3; 5, 6, 7]][3] and [[3; 5, 6, 7]][2]
past_the_end : den (tree.op Strict.sub (list (three ∷ n 3 ∷ []))) [] [] ≡ None
unfolding indices
past_the_end = refl

last_cell : den (tree.op Strict.sub (list (three ∷ n 2 ∷ []))) [] [] ≡ Some (num 7)
unfolding indices
last_cell = refl

-- [[2; 5]]
cell_wanting : den (tree.op (Strict.literal 1) (list (n 2 ∷ n 5 ∷ []))) [] [] ≡ None
cell_wanting = refl

-- val \u = 1/0; if 1 = 1 then 2 else u; {u};
abbrev undefined_script : List Declaration
undefined_script =
    tree.val u (of_two (Strict.arith ariths.Quotient) (n 1) (n 0))
    ∷ tree.bare (tree.choice (of_two (Strict.compare compares.Equal) (n 1) (n 1)) (n 2) (v u))
    ∷ tree.bare (members (v u ∷ []))
    ∷ []

undefined_outcomes : values (λ reader argument. None) undefined_script ≡ None ∷ Some (num 2) ∷ None ∷ []
undefined_outcomes = refl

abbrev undefined_u : List (Declaration × Option Datum)
undefined_u = (tree.val u (of_two (Strict.arith ariths.Quotient) (n 1) (n 0)), None) ∷ []

-- {1 | u <- gen!2}: a match on an undefined global
abbrev compared_with_u : Tree
compared_with_u = tree.comp (n 1) (tree.from (tree.refers u) (gen (n 2)) no_qual)

match_undefined : den compared_with_u (globals_of undefined_u) [] ≡ None
match_undefined = refl

match_undefined_turns : work compared_with_u (globals_of undefined_u) [] ≡ 4
match_undefined_turns = refl

-- [[2,3; 4, 6, 5, 6, 0, 6]]
abbrev table : Tree
table = tree.op (Strict.literal 2) (list (n 2 ∷ n 3 ∷ n 4 ∷ n 6 ∷ n 5 ∷ n 6 ∷ n 0 ∷ n 6 ∷ []))

-- {(i,j) | [(\i,\j):6] <- table}
abbrev places_of_six : Tree
places_of_six =
    tree.comp (row (v i ∷ v j ∷ []))
    (tree.cells (tree.tuple (patterns (tree.bind i ∷ tree.bind j ∷ []))) (tree.equals (tree.number 6)) table no_qual)

places_are : den places_of_six [] [] ≡ Some (set_with (pair (num 0) (num 1) ∷ pair (num 1) (num 0) ∷ pair (num 1) (num 2) ∷ []))
unfolding indices
places_are = refl

places_turns : work places_of_six [] [] ≡ 16
unfolding indices
places_turns = refl

-- {x | [(_,_):\x] <- table}
abbrev cells_of_table : Tree
cells_of_table = tree.comp (v x) (tree.cells (tree.tuple (patterns (tree.any ∷ tree.any ∷ []))) (tree.bind x) table no_qual)

cells_are : den cells_of_table [] [] ≡ Some (set_with (num 0 ∷ num 4 ∷ num 5 ∷ num 6 ∷ []))
unfolding indices
cells_are = refl

cells_turns : work cells_of_table [] [] ≡ 16
unfolding indices
cells_turns = refl

-- get!({7}) and get!(gen!2)
only_member : den (of_one Strict.get (members (n 7 ∷ []))) [] [] ≡ Some (num 7)
only_member = refl

two_members : den (of_one Strict.get (gen (n 2))) [] [] ≡ None
two_members = refl

two_members_turns : work (of_one Strict.get (gen (n 2))) [] [] ≡ 2
two_members_turns = refl

-- [[10/i default 0 | \i<3]]
abbrev defaulted : Tree
defaulted = tree.tab (tree.axis i (n 3) tree.no_axis) (tree.default (of_two (Strict.arith ariths.Quotient) (n 10) (v i)) (n 0))

defaulted_is : den defaulted [] [] ≡ Some (array (3 ∷ []) (data_of (num 0 ∷ num 10 ∷ num 5 ∷ [])))
unfolding indices
defaulted_is = refl

-- let val \x = 1/0 in x default 3 end
let_undefined : den (tree.bindings (tree.def (tree.bind x) (of_two (Strict.arith ariths.Quotient) (n 1) (n 0)) tree.no_def) (tree.default (v x) (n 3))) [] [] ≡ None
let_undefined = refl

-- Sizes.

-- macro \m0 = fn \x => x+x; and macro \mK = fn \x => mJ!x+mJ!x; with J = K - 1, the first n + 1 of them, in order
abbrev after : List Declaration → Declaration → List Declaration
after [] d = d ∷ []
after (e ∷ ds) d = e ∷ after ds d

abbrev doubling : ℕ → List Declaration
doubling zero = tree.mac (0 ∷ []) (tree.bind x) (of_two (Strict.arith ariths.Add) (v x) (v x)) ∷ []
doubling (suc k) =
    after (doubling k) (tree.mac (suc k ∷ []) (tree.bind x)
    (of_two (Strict.arith ariths.Add) (tree.apply (k ∷ []) (v x)) (tree.apply (k ∷ []) (v x))))

doubling_size : expanded_size (doubling 11) 12 ≡ 20474
doubling_size = refl

-- {1 | true, .. , true}, with 250 tests
abbrev tests : ℕ → Quals
tests zero = no_qual
tests (suc k) = tree.test (tree.op (Strict.bool true) no_tree) (tests k)

tests_size : expanded_size (tree.bare (tree.comp (n 1) (tests 250)) ∷ []) 1 ≡ 502
tests_size = refl

tests_levels : expanded_levels (tree.bare (tree.comp (n 1) (tests 250)) ∷ []) 1 ≡ 1002
tests_levels = refl
