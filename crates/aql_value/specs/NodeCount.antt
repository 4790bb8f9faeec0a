-- How many nodes a `Datum` has, which falls at each part.
use Rattle.std.specs.Prelude.{ℕ, ◌+◌, List}
use Rattle.aql_value.specs.Datum.{Datum, natural, truth, text, tuple, set, array, Data, nil, cons, data_of}

-- the nodes of a value, counted so that each value inside it has fewer
abbrev mutual
  -- the nodes of a value
  pub node_count : Datum → ℕ
  node_count (natural n) = 1
  node_count (truth b) = 1
  node_count (text s) = 1
  node_count (tuple xs) = 3 + node_count_all xs
  node_count (set xs) = 3 + node_count_all xs
  node_count (array ds xs) = 3 + node_count_all xs

  -- the nodes of values, and one for each
  pub node_count_all : Data → ℕ
  node_count_all nil = 1
  node_count_all (cons x xs) = 1 + node_count x + node_count_all xs

-- of a list of values
abbrev pub node_count_list : List Datum → ℕ
node_count_list xs = node_count_all (data_of xs)
