-- Worked rows: what is kept of a few declarations.
use Rattle.std.specs.Prelude.{◌≡◌, ℕ, ◌-◌, ◌^◌, [], ◌∷◌, Some, refl}
use Rattle.aql_value.specs.Strict.{Strict}
use Rattle.aql_value.specs.declared.ops.ArithOp.TheVariants as ariths
use Rattle.aql_syntax.specs.Tree as tree
use Rattle.aql_syntax.specs.Tree.{Name, Tree, no_tree, mac, val}
use Rattle.aql_syntax.specs.View.{of_two}
use Rattle.aql_syntax.specs.Size.{Extent, size}
use Rattle.aql_syntax.specs.Kept.{keep, kept_of}

abbrev a : Name
a = 97 ∷ []

abbrev b : Name
b = 98 ∷ []

abbrev x : Name
x = 120 ∷ []

abbrev one : Tree
one = tree.op (Strict.nat 1) no_tree

abbrev three : ℕ → ℕ → ℕ → Extent
three n s l = record { pattern = n; size = s; levels = l }

-- `macro \a = fn \x => x + 1; macro \b = fn (\x, _) => a!(a!x)`
two_macros : kept_of (mac b (tree.tuple (tree.pat (tree.bind x) (tree.pat tree.any tree.no_pat))) (tree.apply a (tree.apply a (tree.name x)))
    ∷ mac a (tree.bind x) (of_two (Strict.arith ariths.Add) (tree.name x) one) ∷ [])
    ≡ (b, Some (three 3 11 6)) ∷ (a, Some (three 1 3 2)) ∷ []
two_macros = refl

-- `macro \a = fn \x => x; val \a = 1`, and behind them `a!1`: the latest declaration of the name is no macro, and adds nothing
hidden_macro : size (tree.apply a one) (kept_of (val a one ∷ mac a (tree.bind x) (tree.name x) ∷ [])) ≡ 2
hidden_macro = refl

-- a macro's own name in its body means what stands before it: `macro \a = fn _ => a!1` behind `macro \a = fn \x => x`
itself_before : kept_of (mac a tree.any (tree.apply a one) ∷ mac a (tree.bind x) (tree.name x) ∷ []) ≡ (a, Some (three 1 4 3)) ∷ (a, Some (three 1 1 1)) ∷ []
itself_before = refl

-- past 64 bits: `macro \a = fn _ => b!1` behind a macro of the greatest size
at_most : keep (mac a tree.any (tree.apply b one)) ((b, Some (three 1 (2 ^ 64 - 1) 5)) ∷ [])
    ≡ (a, Some (three 1 (2 ^ 64 - 1) 7)) ∷ (b, Some (three 1 (2 ^ 64 - 1) 5)) ∷ []
at_most = refl
