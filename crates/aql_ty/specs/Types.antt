-- The type language: types, their two counts and the limits on them, substitutions, and the sorts of a declaration.
use Rattle.std.specs.Prelude.{ℕ, zero, suc, true, List, [], ◌∷◌, replicate, ◌+◌, ◌≤◌, ◌==◌, ◌&&◌, ◌||◌, Bool, false, max, nat_le}

mutual
  -- natural numbers, truth values, strings, a variable, tuples, sets, and arrays by their rank and cells
  pub data Ty : Type 0 where
    natural : Ty
    truth : Ty
    text : Ty
    var : ℕ → Ty
    product : Tys → Ty
    set_of : Ty → Ty
    array_of : ℕ → Ty → Ty

  -- the types of a tuple's parts, from left to right
  pub data Tys : Type 0 where
    no_type : Tys
    type : Ty → Tys → Tys

abbrev mutual
  -- how many nodes a type has
  pub nodes : Ty → ℕ
  nodes natural = 1
  nodes truth = 1
  nodes text = 1
  nodes (var x) = 1
  nodes (product ts) = nodes_all ts + 1
  nodes (set_of t) = nodes t + 1
  nodes (array_of k t) = nodes t + 1

  -- how many nodes some types have together
  pub nodes_all : Tys → ℕ
  nodes_all no_type = 0
  nodes_all (type t ts) = nodes t + nodes_all ts

abbrev mutual
  -- how many levels a type has: one more than the deepest of its parts
  pub levels : Ty → ℕ
  levels natural = 1
  levels truth = 1
  levels text = 1
  levels (var x) = 1
  levels (product ts) = levels_all ts + 1
  levels (set_of t) = levels t + 1
  levels (array_of k t) = levels t + 1

  -- the levels of the deepest of some types
  pub levels_all : Tys → ℕ
  levels_all no_type = 0
  levels_all (type t ts) = max (levels t) (levels_all ts)

-- how many types there are
abbrev pub count : Tys → ℕ
count no_type = 0
count (type t ts) = count ts + 1

-- an array's rank is 1 to 8
abbrev pub IsRank : ℕ → Type 0
IsRank k = (1 ≤ k) × (k ≤ 8)

abbrev mutual
  -- a type of the language, of any size: its tuples have two or more parts and its arrays ranks from 1 to 8
  pub IsType : Ty → Type 0
  IsType natural = Unit {0}
  IsType truth = Unit {0}
  IsType text = Unit {0}
  IsType (var x) = Unit {0}
  IsType (product ts) = (2 ≤ count ts) × AreTypes ts
  IsType (set_of t) = IsType t
  IsType (array_of k t) = IsRank k × IsType t

  -- some types of the language
  pub AreTypes : Tys → Type 0
  AreTypes no_type = Unit {0}
  AreTypes (type t ts) = IsType t × AreTypes ts

-- a type within the limits: of at most 10,000 nodes and 400 levels, and a type of the language
abbrev pub IsWithin : Ty → Type 0
IsWithin t = (nodes t ≤ 10000) × (levels t ≤ 400) × IsType t

abbrev mutual
  -- the test of a type of the language
  pub is_type : Ty → Bool
  is_type natural = true
  is_type truth = true
  is_type text = true
  is_type (var x) = true
  is_type (product ts) = nat_le 2 (count ts) && are_types ts
  is_type (set_of t) = is_type t
  is_type (array_of k t) = nat_le 1 k && nat_le k 8 && is_type t

  -- whether all are types of the language
  pub are_types : Tys → Bool
  are_types no_type = true
  are_types (type t ts) = is_type t && are_types ts

-- the test of the limits
abbrev pub fits : Ty → Bool
fits t = nat_le (nodes t) 10000 && nat_le (levels t) 400 && is_type t

-- what each variable stands for
abbrev pub Subst : Type 0
Subst = ℕ → Ty

abbrev mutual
  -- the instance of a type
  pub apply : Subst → Ty → Ty
  apply u natural = natural
  apply u truth = truth
  apply u text = text
  apply u (var x) = u x
  apply u (product ts) = product (apply_all u ts)
  apply u (set_of t) = set_of (apply u t)
  apply u (array_of k t) = array_of k (apply u t)

  -- the instances of some types
  pub apply_all : Subst → Tys → Tys
  apply_all u no_type = no_type
  apply_all u (type t ts) = type (apply u t) (apply_all u ts)

abbrev mutual
  -- whether a variable stands in a type
  pub occurs : ℕ → Ty → Bool
  occurs x natural = false
  occurs x truth = false
  occurs x text = false
  occurs x (var y) = y == x
  occurs x (product ts) = occurs_all x ts
  occurs x (set_of t) = occurs x t
  occurs x (array_of k t) = occurs x t

  -- whether it stands in one of some types
  pub occurs_all : ℕ → Tys → Bool
  occurs_all x no_type = false
  occurs_all x (type t ts) = occurs x t || occurs_all x ts

-- some types and then others
abbrev pub append : Tys → Tys → Tys
append no_type b = b
append (type t a) b = type t (append a b)

-- a list of types as the parts of a tuple
abbrev pub tys_of : List Ty → Tys
tys_of [] = no_type
tys_of (t ∷ ts) = type t (tys_of ts)

-- the type of an index of that rank: a number, or from rank 2 a tuple of numbers
abbrev pub index_type : ℕ → Ty
index_type zero = product no_type
index_type (suc zero) = natural
index_type (suc (suc k)) = product (tys_of (natural ∷ natural ∷ replicate k natural))

-- so many types of numbers
abbrev pub natural_types : ℕ → Tys
natural_types n = tys_of (replicate n natural)

-- what a declaration has: the type of its value, or a macro's argument and result types
pub data Sort : Type 0 where
  value : Ty → Sort
  macro : Ty → Ty → Sort

-- the instance of a sort: one substitution for both types of a macro
abbrev pub apply_sort : Subst → Sort → Sort
apply_sort u (value t) = value (apply u t)
apply_sort u (macro s t) = macro (apply u s) (apply u t)
