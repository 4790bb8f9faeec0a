-- The text of a core term, in ASCII bytes.
use Rattle.std.specs.Prelude.{ℕ, suc, ◌+◌, ◌-◌, List, [], ◌∷◌, ◌++◌, take, drop, codes, decimal}
use Rattle.aql_value.specs.Datum as datum
use Rattle.aql_value.specs.Datum.{natural, truth}
use Rattle.aql_value.specs.Strict.{Strict}
use Rattle.aql_value.specs.declared.ops.ArithOp.{ArithOp}
use Rattle.aql_value.specs.declared.ops.ArithOp.TheVariants.{Add, Monus, Mul, Quotient, Remainder}
use Rattle.aql_value.specs.declared.ops.CompareOp.{CompareOp}
use Rattle.aql_value.specs.declared.ops.CompareOp.TheVariants.{Equal, Unequal, Less, LessEqual, Greater, GreaterEqual}
use Rattle.nrca_term.specs.Term.{Term, node, Parts, none, part, Form, var, global, bind, choose, default, big_union, sum, tab, strict}
use Rattle.aql_prelude.specs.Prelude.{prelude_count}
use Rattle.aql_print.specs.Joined.{join_texts}
use Rattle.aql_print.specs.Names.{bound_text, variable_text}
use Rattle.aql_print.specs.ValueText.{text}

-- the sign of an arithmetic operation, with its blanks
abbrev pub arith_text : ArithOp → List ℕ
arith_text Add = codes " + "
arith_text Monus = codes " - "
arith_text Mul = codes " * "
arith_text Quotient = codes " / "
arith_text Remainder = codes " % "

-- the sign of a comparison, with its blanks
abbrev pub compare_text : CompareOp → List ℕ
compare_text Equal = codes " = "
compare_text Unequal = codes " <> "
compare_text Less = codes " < "
compare_text LessEqual = codes " <= "
compare_text Greater = codes " > "
compare_text GreaterEqual = codes " >= "

-- a text between two others
abbrev pub between : List ℕ → List ℕ → List ℕ → List ℕ
between left s right = left ++ (s ++ right)

-- two texts in parentheses, with what stands between them
abbrev pub in_parentheses : List ℕ → List ℕ → List ℕ → List ℕ
in_parentheses a mid b = between (codes "(") (a ++ (mid ++ b)) (codes ")")

-- each bound behind its index, the first of which has d binders around it
abbrev pub bounds_text : ℕ → List (List ℕ) → List (List ℕ)
bounds_text d [] = []
bounds_text d (b ∷ bs) = (bound_text d ++ (codes "<" ++ b)) ∷ bounds_text (suc d) bs

-- a text with an index
abbrev pub indexed_text : List ℕ → List (List ℕ) → List ℕ
indexed_text a at = between (codes "sub(") (a ++ (codes "; " ++ join_texts (codes ", ") at)) (codes ")")

-- an array of dimensions and cells
abbrev pub literal_text : List (List ℕ) → List (List ℕ) → List ℕ
literal_text ds cs = between (codes "[[") (join_texts (codes ",") ds ++ (codes "; " ++ join_texts (codes ", ") cs)) (codes "]]")

-- a tabulation: its body, and then the bounds
abbrev pub tabulated_text : ℕ → List ℕ → List (List ℕ) → List ℕ
tabulated_text d b bs = between (codes "[[") (b ++ (codes " | " ++ join_texts (codes ", ") (bounds_text d bs))) (codes "]]")

-- a loop: its body, the variable and what it goes over
abbrev pub loop_text : List ℕ → ℕ → List ℕ → List ℕ → List ℕ
loop_text left d over body = between left (body ++ (codes " | " ++ (bound_text d ++ (codes " in " ++ over)))) (codes "}")

-- by the number of parts; nothing at another number
abbrev pub one : (List ℕ → List ℕ) → List (List ℕ) → List ℕ
one f [] = []
one f (a ∷ []) = f a
one f (a ∷ b ∷ ts) = []

-- the text of two parts
abbrev pub two : (List ℕ → List ℕ → List ℕ) → List (List ℕ) → List ℕ
two f [] = []
two f (a ∷ []) = []
two f (a ∷ b ∷ []) = f a b
two f (a ∷ b ∷ c ∷ ts) = []

-- the text of three parts
abbrev pub three : (List ℕ → List ℕ → List ℕ → List ℕ) → List (List ℕ) → List ℕ
three f [] = []
three f (a ∷ []) = []
three f (a ∷ b ∷ []) = []
three f (a ∷ b ∷ c ∷ []) = f a b c
three f (a ∷ b ∷ c ∷ e ∷ ts) = []

-- the text of a first part and those behind it
abbrev pub first_and_rest : (List ℕ → List (List ℕ) → List ℕ) → List (List ℕ) → List ℕ
first_and_rest f [] = []
first_and_rest f (a ∷ ts) = f a ts

-- a strict form, by the texts of its parts
abbrev pub strict_text : Strict → List (List ℕ) → List ℕ
strict_text (Strict.nat n) ts = text (natural n)
strict_text (Strict.bool b) ts = text (truth b)
strict_text (Strict.text s) ts = text (datum.text s)
strict_text Strict.bottom ts = codes "undefined"
strict_text Strict.tuple ts = between (codes "(") (join_texts (codes ", ") ts) (codes ")")
strict_text (Strict.proj at of) ts = one (λ a. codes "#" ++ (decimal at ++ (codes "/" ++ (decimal of ++ between (codes "(") a (codes ")"))))) ts
strict_text (Strict.arith op) ts = two (λ a b. in_parentheses a (arith_text op) b) ts
strict_text (Strict.compare op) ts = two (λ a b. in_parentheses a (compare_text op) b) ts
strict_text Strict.empty ts = codes "{}"
strict_text Strict.single ts = one (λ a. between (codes "{") a (codes "}")) ts
strict_text Strict.union ts = two (λ a b. in_parentheses a (codes " union ") b) ts
strict_text Strict.gen ts = one (λ a. between (codes "gen(") a (codes ")")) ts
strict_text Strict.get ts = one (λ a. between (codes "get(") a (codes ")")) ts
strict_text Strict.sub ts = first_and_rest indexed_text ts
strict_text (Strict.dim rank) ts = one (λ a. codes "dim_" ++ (decimal rank ++ between (codes "(") a (codes ")"))) ts
strict_text (Strict.index rank) ts = one (λ a. codes "index_" ++ (decimal rank ++ between (codes "(") a (codes ")"))) ts
strict_text (Strict.literal rank) ts = literal_text (take rank ts) (drop rank ts)

-- a position, by the number of its declaration: the first positions are those of the prelude
abbrev pub position_text : ℕ → List ℕ
position_text n = codes "@" ++ decimal (n - prelude_count)

-- a form with d binders around it, by the texts of its parts
abbrev pub form_text : ℕ → Form → List (List ℕ) → List ℕ
form_text d (var i) ts = variable_text d i
form_text d (global n) ts = position_text n
form_text d bind ts = two (λ a b. between (codes "(let ") (bound_text d ++ (codes " = " ++ (a ++ (codes " in " ++ b)))) (codes ")")) ts
form_text d choose ts = three (λ c a b. between (codes "(if ") (c ++ (codes " then " ++ (a ++ (codes " else " ++ b)))) (codes ")")) ts
form_text d default ts = two (λ a b. in_parentheses a (codes " default ") b) ts
form_text d big_union ts = two (loop_text (codes "U{") d) ts
form_text d sum ts = two (loop_text (codes "S{") d) ts
form_text d (tab rank) ts = one (λ b. tabulated_text d b (take rank ts)) (drop rank ts)
form_text d (strict s) ts = strict_text s ts

abbrev mutual
  -- a term with d binders around it
  pub core_text : ℕ → Term → List ℕ
  core_text d (node f ps) = form_text d f (part_texts d ps)

  -- of each part, around which its own binders stand too
  pub part_texts : ℕ → Parts → List (List ℕ)
  part_texts d none = []
  part_texts d (part k t ps) = core_text (d + k) t ∷ part_texts d ps
