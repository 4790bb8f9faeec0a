-- The names of variables in a text.
use Rattle.std.specs.Prelude.{ℕ, ◌-◌, List, ◌++◌, codes, decimal}

-- a bound variable, by the number of binders around its own binder
abbrev pub bound_text : ℕ → List ℕ
bound_text n = codes "x" ++ decimal n

-- variable i where d binders stand around it: d - 1 - i of them stand around its own
abbrev pub variable_text : (d i : ℕ) → List ℕ
variable_text d i = bound_text (d - 1 - i)
