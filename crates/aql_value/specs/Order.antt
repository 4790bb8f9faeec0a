-- The order of values: kinds ascend as naturals, truth values, strings, tuples, sets, arrays; within a kind by content.
use Rattle.std.specs.Prelude.{ℕ}
use Rattle.std.specs.declared.cmp.Ordering.{Ordering}
use Rattle.std.specs.declared.cmp.Ordering.TheVariants.{Less, Equal, Greater}
use Rattle.std.specs.Ordering.{nat_cmp, bool_cmp, ordering_then}
use Rattle.std.specs.Cmp.Lexicographic.{slice_cmp}
use Rattle.aql_value.specs.Datum.{Datum, natural, truth, text, tuple, set, array, Data, nil, cons}

-- the place of a kind among the kinds
abbrev pub kind : Datum → ℕ
kind (natural n) = 0
kind (truth b) = 1
kind (text s) = 2
kind (tuple xs) = 3
kind (set xs) = 4
kind (array ds xs) = 5

abbrev mutual
  -- false before true, naturals by size, strings by bytes, tuples and sets by their values, arrays by dimensions and then by cells
  pub datum_cmp : Datum → Datum → Ordering
  datum_cmp (natural m) (natural n) = nat_cmp m n
  datum_cmp (truth a) (truth b) = bool_cmp a b
  datum_cmp (text s) (text t) = slice_cmp nat_cmp s t
  datum_cmp (tuple xs) (tuple ys) = data_cmp xs ys
  datum_cmp (set xs) (set ys) = data_cmp xs ys
  datum_cmp (array ds xs) (array es ys) = ordering_then (slice_cmp nat_cmp ds es) (data_cmp xs ys)
  datum_cmp x y = nat_cmp (kind x) (kind y)

  -- lexicographic, a proper prefix smaller
  pub data_cmp : Data → Data → Ordering
  data_cmp nil nil = Equal
  data_cmp nil (cons y ys) = Less
  data_cmp (cons x xs) nil = Greater
  data_cmp (cons x xs) (cons y ys) = ordering_then (datum_cmp x y) (data_cmp xs ys)
