-- The prelude: 24 macros that stand before the declarations of every script. Above each is its text.
use Prim.Native.String.{String}
use Rattle.std.specs.Prelude.{ℕ, List, [], ◌∷◌, ◌++◌, codes}
use Rattle.aql_value.specs.Strict.{Strict}
use Rattle.aql_value.specs.declared.ops.ArithOp.{ArithOp}
use Rattle.aql_value.specs.declared.ops.ArithOp.TheVariants as ariths
use Rattle.aql_value.specs.declared.ops.CompareOp.{CompareOp}
use Rattle.aql_value.specs.declared.ops.CompareOp.TheVariants as compares
use Rattle.aql_syntax.specs.Tree as tree
use Rattle.aql_syntax.specs.Tree.{Pat, any, tuple, no_pat, pat, Tree, op, comp, choice, negation, summap, no_tree, Axes, no_axis, no_qual, from, test, Declaration, mac}
use Rattle.aql_syntax.specs.View.{of_one, of_two}

-- x
abbrev pub name : String → Tree
name x = tree.name (codes x)

-- \x
abbrev pub bind : String → Pat
bind x = tree.bind (codes x)

-- (e, e')
abbrev pub pair : Tree → Tree → Tree
pair a b = of_two Strict.tuple a b

-- (P, Q)
abbrev pub both : Pat → Pat → Pat
both p q = tuple (pat p (pat q no_pat))

-- the number 1
abbrev pub one : Tree
one = op (Strict.nat 1) no_tree

-- {}
abbrev pub empty_set : Tree
empty_set = op Strict.empty no_tree

-- a comparison of two trees
abbrev pub compare : CompareOp → Tree → Tree → Tree
compare o a b = of_two (Strict.compare o) a b

-- an arithmetic operation of two trees
abbrev pub arith : ArithOp → Tree → Tree → Tree
arith o a b = of_two (Strict.arith o) a b

-- len!e
abbrev pub len : Tree → Tree
len a = of_one (Strict.dim 1) a

-- a[i]
abbrev pub cell : Tree → Tree → Tree
cell a i = op Strict.sub (tree.tree a (tree.tree i no_tree))

-- f!e
abbrev pub call : String → Tree → Tree
call f a = tree.apply (codes f) a

-- \i<e before others
abbrev pub index : String → Tree → Axes → Axes
index i e rest = tree.axis (codes i) e rest

-- a macro of that name
abbrev pub define : String → Pat → Tree → Declaration
define f p e = mac (codes f) p e

-- macro \fst = fn (\x,_) => x;
abbrev pub fst : Declaration
fst = define "fst" (both (bind "x") any) (name "x")

-- macro \snd = fn (_,\y) => y;
abbrev pub snd : Declaration
snd = define "snd" (both any (bind "y")) (name "y")

-- macro \isempty = fn \s => s = {};
abbrev pub isempty : Declaration
isempty = define "isempty" (bind "s") (compare compares.Equal (name "s") empty_set)

-- macro \member = fn (\x,\s) => not ({1 | x <- s} = {});
abbrev pub member : Declaration
member = define "member" (both (bind "x") (bind "s"))
    (negation (compare compares.Equal (comp one (from (tree.refers (codes "x")) (name "s") no_qual)) empty_set))

-- macro \count = fn \s => summap(fn _ => 1)!(s);
abbrev pub count : Declaration
count = define "count" (bind "s") (summap any one (name "s"))

-- macro \total = fn \s => summap(fn \x => x)!(s);
abbrev pub total : Declaration
total = define "total" (bind "s") (summap (bind "x") (name "x") (name "s"))

-- macro \inter = fn (\s,\t) => {x | \x <- s, x <- t};
abbrev pub inter : Declaration
inter = define "inter" (both (bind "s") (bind "t")) (comp (name "x") (from (bind "x") (name "s") (from (tree.refers (codes "x")) (name "t") no_qual)))

-- macro \minus = fn (\s,\t) => {x | \x <- s, not (member!(x,t))};
abbrev pub minus : Declaration
minus = define "minus" (both (bind "s") (bind "t"))
    (comp (name "x") (from (bind "x") (name "s") (test (negation (call "member" (pair (name "x") (name "t")))) no_qual)))

-- macro \subset = fn (\s,\t) => minus!(s,t) = {};
abbrev pub subset : Declaration
subset = define "subset" (both (bind "s") (bind "t")) (compare compares.Equal (call "minus" (pair (name "s") (name "t"))) empty_set)

-- macro \product = fn (\s,\t) => {(x,y) | \x <- s, \y <- t};
abbrev pub product : Declaration
product = define "product" (both (bind "s") (bind "t"))
    (comp (pair (name "x") (name "y")) (from (bind "x") (name "s") (from (bind "y") (name "t") no_qual)))

-- macro \flatten = fn \s => {x | \t <- s, \x <- t};
abbrev pub flatten : Declaration
flatten = define "flatten" (bind "s") (comp (name "x") (from (bind "t") (name "s") (from (bind "x") (name "t") no_qual)))

-- {x | \x <- s, {1 | \y <- s, y OP x} = {}}
abbrev pub extremes : CompareOp → Tree
extremes o =
    comp (name "x") (from (bind "x") (name "s")
    (test (compare compares.Equal (comp one (from (bind "y") (name "s") (test (compare o (name "y") (name "x")) no_qual))) empty_set) no_qual))

-- macro \least = fn \s => get!({x | \x <- s, {1 | \y <- s, y < x} = {}});
abbrev pub least : Declaration
least = define "least" (bind "s") (of_one Strict.get (extremes compares.Less))

-- macro \greatest = fn \s => get!({x | \x <- s, {1 | \y <- s, y > x} = {}});
abbrev pub greatest : Declaration
greatest = define "greatest" (bind "s") (of_one Strict.get (extremes compares.Greater))

-- macro \min2 = fn (\a,\b) => if a < b then a else b;
abbrev pub min2 : Declaration
min2 = define "min2" (both (bind "a") (bind "b")) (choice (compare compares.Less (name "a") (name "b")) (name "a") (name "b"))

-- macro \max2 = fn (\a,\b) => if a < b then b else a;
abbrev pub max2 : Declaration
max2 = define "max2" (both (bind "a") (bind "b")) (choice (compare compares.Less (name "a") (name "b")) (name "b") (name "a"))

-- macro \range = fn (\a,\b) => {a+i | \i <- gen!(b-a)};
abbrev pub range : Declaration
range = define "range" (both (bind "a") (bind "b"))
    (comp (arith ariths.Add (name "a") (name "i")) (from (bind "i") (of_one Strict.gen (arith ariths.Monus (name "b") (name "a"))) no_qual))

-- macro \domain = fn \a => gen!(len!a);
abbrev pub domain : Declaration
domain = define "domain" (bind "a") (of_one Strict.gen (len (name "a")))

-- macro \cells = fn \a => {x | [_:\x] <- a};
abbrev pub cells : Declaration
cells = define "cells" (bind "a") (comp (name "x") (tree.cells any (bind "x") (name "a") no_qual))

-- macro \graph = fn \a => {(i,x) | [\i:\x] <- a};
abbrev pub graph : Declaration
graph = define "graph" (bind "a") (comp (pair (name "i") (name "x")) (tree.cells (bind "i") (bind "x") (name "a") no_qual))

-- macro \reverse = fn \a => [[a[len!a-i-1] | \i<len!a]];
abbrev pub reverse : Declaration
reverse = define "reverse" (bind "a")
    (tree.tab (index "i" (len (name "a")) no_axis)
    (cell (name "a") (arith ariths.Monus (arith ariths.Monus (len (name "a")) (name "i")) one)))

-- macro \subseq = fn (\a,\s,\n) => [[a[s+i] | \i<n]];
abbrev pub subseq : Declaration
subseq = define "subseq" (tuple (pat (bind "a") (pat (bind "s") (pat (bind "n") no_pat))))
    (tree.tab (index "i" (name "n") no_axis) (cell (name "a") (arith ariths.Add (name "s") (name "i"))))

-- macro \append = fn (\a,\b) => [[if i < len!a then a[i] else b[i-len!a] | \i<len!a+len!b]];
abbrev pub append : Declaration
append = define "append" (both (bind "a") (bind "b"))
    (tree.tab (index "i" (arith ariths.Add (len (name "a")) (len (name "b"))) no_axis)
    (choice (compare compares.Less (name "i") (len (name "a"))) (cell (name "a") (name "i")) (cell (name "b") (arith ariths.Monus (name "i") (len (name "a"))))))

-- dim_2!e
abbrev pub dimensions : Tree → Tree
dimensions a = of_one (Strict.dim 2) a

-- a[j,i]
abbrev pub cell_j_i : Tree
cell_j_i = op Strict.sub (tree.tree (name "a") (tree.tree (name "j") (tree.tree (name "i") no_tree)))

-- macro \transpose = fn \a => [[a[j,i] | \i<snd!(dim_2!a), \j<fst!(dim_2!a)]];
abbrev pub transpose : Declaration
transpose = define "transpose" (bind "a")
    (tree.tab (index "i" (call "snd" (dimensions (name "a"))) (index "j" (call "fst" (dimensions (name "a"))) no_axis)) cell_j_i)

-- macro \zip = fn (\a,\b) => [[(a[i],b[i]) | \i<min2!(len!a,len!b)]];
abbrev pub zip : Declaration
zip = define "zip" (both (bind "a") (bind "b"))
    (tree.tab (index "i" (call "min2" (pair (len (name "a")) (len (name "b")))) no_axis) (pair (cell (name "a") (name "i")) (cell (name "b") (name "i"))))

-- the macros on pairs, and those that count and add
abbrev pub of_pairs_and_counts : List Declaration
of_pairs_and_counts = fst ∷ snd ∷ isempty ∷ member ∷ count ∷ total ∷ []

-- the macros on sets
abbrev pub of_sets : List Declaration
of_sets = inter ∷ minus ∷ subset ∷ product ∷ flatten ∷ least ∷ greatest ∷ []

-- the macros on numbers
abbrev pub of_numbers : List Declaration
of_numbers = min2 ∷ max2 ∷ range ∷ domain ∷ []

-- the macros on arrays
abbrev pub of_arrays : List Declaration
of_arrays = cells ∷ graph ∷ reverse ∷ subseq ∷ append ∷ transpose ∷ zip ∷ []

-- how many declarations the prelude has
abbrev pub prelude_count : ℕ
prelude_count = 24

-- the declarations in order
abbrev pub prelude_decls : List Declaration
prelude_decls = of_pairs_and_counts ++ of_sets ++ of_numbers ++ of_arrays
