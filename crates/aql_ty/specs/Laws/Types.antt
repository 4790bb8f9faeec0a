-- Laws on types: instances of instances, and parts of types within the limits.
use Rattle.std.proofs.Common.{ℕ, ◌≡◌, ◌+◌, ◌≤◌, true, ◌&&◌, refl, ap, arith, max, zero, suc}
use Rattle.std.specs.Cmp.{first_so, second_so}
use Rattle.std.specs.Cmp.Derive.{both_true}
use Rattle.std.proofs.Math.Dec.{leb}
use Rattle.std.proofs.lemmas.Bool.{leb-true, le-leb}
use Rattle.aql_ty.specs.Types.{Ty, natural, truth, text, var, product, set_of, array_of, Tys, no_type, type, Subst, apply, apply_all, nodes, nodes_all, levels, levels_all, IsType, AreTypes, is_type, are_types, IsWithin, fits, count, append, Sort, value, macro, apply_sort, index_type, natural_types}

-- tuples' parts are the same where the first and the others are
pub row_is : {a c : Ty} {b d : Tys} → a ≡ c → b ≡ d → type a b ≡ type c d
row_is e f = cc

mutual
  pub apply-apply : (u s : Subst) (t : Ty) → apply u (apply s t) ≡ apply (λ x. apply u (s x)) t
  apply-apply u s natural = refl
  apply-apply u s truth = refl
  apply-apply u s text = refl
  apply-apply u s (var x) = refl
  apply-apply u s (product ts) = ap product (apply-apply_all u s ts)
  apply-apply u s (set_of t) = ap set_of (apply-apply u s t)
  apply-apply u s (array_of k t) = ap (array_of k) (apply-apply u s t)

  pub apply-apply_all : (u s : Subst) (ts : Tys) → apply_all u (apply_all s ts) ≡ apply_all (λ x. apply u (s x)) ts
  apply-apply_all u s no_type = refl
  apply-apply_all u s (type t ts) = row_is (apply-apply u s t) (apply-apply_all u s ts)

mutual
  pub apply_same : (u v : Subst) → ((x : ℕ) → u x ≡ v x) → (t : Ty) → apply u t ≡ apply v t
  apply_same u v h natural = refl
  apply_same u v h truth = refl
  apply_same u v h text = refl
  apply_same u v h (var x) = h x
  apply_same u v h (product ts) = ap product (apply_all_same u v h ts)
  apply_same u v h (set_of t) = ap set_of (apply_same u v h t)
  apply_same u v h (array_of k t) = ap (array_of k) (apply_same u v h t)

  pub apply_all_same : (u v : Subst) → ((x : ℕ) → u x ≡ v x) → (ts : Tys) → apply_all u ts ≡ apply_all v ts
  apply_all_same u v h no_type = refl
  apply_all_same u v h (type t ts) = row_is (apply_same u v h t) (apply_all_same u v h ts)

mutual
  pub apply_var : (t : Ty) → apply var t ≡ t
  apply_var natural = refl
  apply_var truth = refl
  apply_var text = refl
  apply_var (var x) = refl
  apply_var (product ts) = ap product (apply_all_var ts)
  apply_var (set_of a) = ap set_of (apply_var a)
  apply_var (array_of k a) = ap (array_of k) (apply_var a)

  pub apply_all_var : (ts : Tys) → apply_all var ts ≡ ts
  apply_all_var no_type = refl
  apply_all_var (type t ts) = row_is (apply_var t) (apply_all_var ts)

pub apply_sort-apply : (u s : Subst) (o : Sort) → apply_sort u (apply_sort s o) ≡ apply_sort (λ x. apply u (s x)) o
apply_sort-apply u s (value t) = ap value (apply-apply u s t)
apply_sort-apply u s (macro a b) = let e = apply-apply u s a in let f = apply-apply u s b in cc

pub apply_all-append : (u : Subst) (a b : Tys) → apply_all u (append a b) ≡ append (apply_all u a) (apply_all u b)
apply_all-append u no_type b = refl
apply_all-append u (type t a) b = ap (type (apply u t)) (apply_all-append u a b)

-- The limits.

mutual
  pub is_type_true : (t : Ty) → is_type t ≡ true → IsType t
  is_type_true natural e = tt
  is_type_true truth e = tt
  is_type_true text e = tt
  is_type_true (var x) e = tt
  is_type_true (product ts) e =
      (leb-true _ _ (first_so (leb 2 (count ts)) (are_types ts) e), are_types_true ts (second_so (leb 2 (count ts)) (are_types ts) e))
  is_type_true (set_of t) e = is_type_true t e
  is_type_true (array_of k t) e =
      let h = first_so (leb 1 k && leb k 8) (is_type t) e in (
        (leb-true _ _ (first_so (leb 1 k) (leb k 8) h), leb-true _ _ (second_so (leb 1 k) (leb k 8) h)),
        is_type_true t (second_so (leb 1 k && leb k 8) (is_type t) e),
      )

  pub are_types_true : (ts : Tys) → are_types ts ≡ true → AreTypes ts
  are_types_true no_type e = tt
  are_types_true (type t ts) e =
      (is_type_true t (first_so (is_type t) (are_types ts) e), are_types_true ts (second_so (is_type t) (are_types ts) e))

mutual
  pub true_is_type : (t : Ty) → IsType t → is_type t ≡ true
  true_is_type natural h = refl
  true_is_type truth h = refl
  true_is_type text h = refl
  true_is_type (var x) h = refl
  true_is_type (product ts) h = both_true (le-leb _ _ h.0) (true_are_types ts h.1)
  true_is_type (set_of t) h = true_is_type t h
  true_is_type (array_of k t) h =
      both_true (both_true (le-leb _ _ h.0.0) (le-leb _ _ h.0.1)) (true_is_type t h.1)

  pub true_are_types : (ts : Tys) → AreTypes ts → are_types ts ≡ true
  true_are_types no_type h = refl
  true_are_types (type t ts) h = both_true (true_is_type t h.0) (true_are_types ts h.1)

-- the test says what the limits say
pub fits_within : (t : Ty) → fits t ≡ true → IsWithin t
fits_within t e =
    let h = first_so (leb (nodes t) 10000 && leb (levels t) 400) (is_type t) e in (
      leb-true _ _ (first_so (leb (nodes t) 10000) (leb (levels t) 400) h),
      leb-true _ _ (second_so (leb (nodes t) 10000) (leb (levels t) 400) h),
      is_type_true t (second_so (leb (nodes t) 10000 && leb (levels t) 400) (is_type t) e),
    )

pub within_fits : (t : Ty) → IsWithin t → fits t ≡ true
within_fits t h =
    both_true
    (both_true (le-leb _ _ h.0) (le-leb _ _ h.1)) (true_is_type t h.2)

pub natural_within : IsWithin natural
natural_within = (omega arith, omega arith, tt)

pub truth_within : IsWithin truth
truth_within = (omega arith, omega arith, tt)

-- parts of a type within the limits are within them
pub member_within : (t : Ty) → IsWithin (set_of t) → IsWithin t
member_within t h = (omega (arith, h.0), omega (arith, h.1), h.2)

pub cell_within : (k : ℕ) (t : Ty) → IsWithin (array_of k t) → IsWithin t
cell_within k t h = (omega (arith, h.0), omega (arith, h.1), h.2.1)

-- types that are parts of one within the limits
abbrev pub PartsWithin : Tys → Type 0
PartsWithin ts = (nodes_all ts ≤ 10000) × (levels_all ts ≤ 400) × AreTypes ts

pub parts_within : (ts : Tys) → IsWithin (product ts) → PartsWithin ts
parts_within ts h = (omega (arith, h.0), omega (arith, h.1), h.2.1)

pub first_within : (t : Ty) (ts : Tys) → PartsWithin (type t ts) → IsWithin t
first_within t ts h = (omega (arith, h.0), omega (arith, h.1), h.2.0)

pub rest_within : (t : Ty) (ts : Tys) → PartsWithin (type t ts) → PartsWithin ts
rest_within t ts h = (omega (arith, h.0), omega (arith, h.1), h.2.1)

pub count_apply : (u : Subst) (ts : Tys) → count (apply_all u ts) ≡ count ts
count_apply u no_type = refl
count_apply u (type t ts) = ap (λ (n : ℕ). n + 1) (count_apply u ts)

mutual
  -- what becomes a type of the language was one
  pub type_before : (u : Subst) (t : Ty) → IsType (apply u t) → IsType t
  type_before u natural h = tt
  type_before u truth h = tt
  type_before u text h = tt
  type_before u (var x) h = tt
  type_before u (product ts) h = (omega (arith, h.0, count_apply u ts), types_before u ts h.1)
  type_before u (set_of t) h = type_before u t h
  type_before u (array_of k t) h = (h.0, type_before u t h.1)

  pub types_before : (u : Subst) (ts : Tys) → AreTypes (apply_all u ts) → AreTypes ts
  types_before u no_type h = tt
  types_before u (type t ts) h = (type_before u t h.0, types_before u ts h.1)

-- A replacement makes no type smaller.

pub positive : (t : Ty) → (1 ≤ nodes t) × (1 ≤ levels t)
positive natural = (omega arith, omega arith)
positive truth = (omega arith, omega arith)
positive text = (omega arith, omega arith)
positive (var x) = (omega arith, omega arith)
positive (product ts) = (omega arith, omega arith)
positive (set_of a) = (omega arith, omega arith)
positive (array_of k a) = (omega arith, omega arith)

most : (a b c d : ℕ) → a ≤ c → b ≤ d → max a b ≤ max c d
most a b c d h k = omega (arith, h, k)

mutual
  grows : (u : Subst) (t : Ty) → (nodes t ≤ nodes (apply u t)) × (levels t ≤ levels (apply u t))
  grows u natural = (omega arith, omega arith)
  grows u truth = (omega arith, omega arith)
  grows u text = (omega arith, omega arith)
  grows u (var x) = positive (u x)
  grows u (product ts) = let h = all_grow u ts in (omega (arith, h.0), omega (arith, h.1))
  grows u (set_of a) = let h = grows u a in (omega (arith, h.0), omega (arith, h.1))
  grows u (array_of k a) = let h = grows u a in (omega (arith, h.0), omega (arith, h.1))

  all_grow : (u : Subst) (ts : Tys) → (nodes_all ts ≤ nodes_all (apply_all u ts)) × (levels_all ts ≤ levels_all (apply_all u ts))
  all_grow u no_type = (omega arith, omega arith)
  all_grow u (type t ts) =
      let h = grows u t in let k = all_grow u ts in
      (omega (arith, h.0, k.0), most (levels t) (levels_all ts) (levels (apply u t)) (levels_all (apply_all u ts)) h.1 k.1)

pub within_before : (u : Subst) (t : Ty) → IsWithin (apply u t) → IsWithin t
within_before u t h = let k = grows u t in (omega (arith, h.0, k.0), omega (arith, h.1, k.1), type_before u t h.2)

-- Numbers and indices.

-- types of numbers have no variables
natural_types-apply : (u : Subst) (n : ℕ) → apply_all u (natural_types n) ≡ natural_types n
natural_types-apply u zero = refl
natural_types-apply u (suc n) = ap (type natural) (natural_types-apply u n)

-- nor has the type of an index
pub index_type-apply : (u : Subst) (k : ℕ) → apply u (index_type k) ≡ index_type k
index_type-apply u zero = refl
index_type-apply u (suc zero) = refl
index_type-apply u (suc (suc k)) = ap (λ ts. product (type natural (type natural ts))) (natural_types-apply u k)

-- types of numbers are types of the language
pub natural_types-are : (n : ℕ) → AreTypes (natural_types n)
natural_types-are zero = tt
natural_types-are (suc n) = (tt, natural_types-are n)
