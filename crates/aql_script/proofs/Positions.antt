-- Why what is prepared is a script's one reading behind the prelude.
use Rattle.std.proofs.Common.{ℕ, zero, suc, ◌≡◌, ◌+◌, ◌-◌, ◌<◌, ◌≤◌, ◌⊎◌, inl, inr, List, [], ◌∷◌, ◌++◌, refl, sym, ap, ◌∙◌, subst, length, append_assoc, arith, Bool, true}
use Rattle.std.specs.Prelude.{◌&&◌, nat_le, Result, Ok, Err, IfOk, Option, Some, None}
use Rattle.std.specs.Cmp.{first_so, second_so}
use Rattle.std.proofs.lemmas.Bool.{leb-true, cases_lt}
use Rattle.aql_syntax.specs.Size.{expanded_size, expanded_levels, most_nodes, most_levels, IsWithinLimits, AreWithinLimits, IsLarge}
use Rattle.aql_syntax.specs.Tree.{Declaration}
use Rattle.aql_syntax.specs.View.{decl_of, decls_of}
use Rattle.aql_syntax.specs.declared.ast.Decl.{Decl}
use Rattle.aql_syntax.specs.Laws.View.{decls_of-append, length-decls_of}
use Rattle.aql_infer.specs.Checked.{IsChecked, IsFirstUntyped}
use Rattle.aql_infer.specs.declared.fault.TypeFault.{TypeFault}
use Rattle.aql_infer.specs.declared.fault.TypeFault.TheVariants as type_faults
use Rattle.aql_prelude.specs.Prelude.{prelude_decls, prelude_count}
use Rattle.aql_prelude.specs.Typing.{HaveSorts}
use Rattle.aql_prelude.specs.Laws.Typing.{prelude_typed}
use Rattle.aql_script.specs.Laws.Position.{positions_are, length_positions}
use Rattle.aql_script.specs.Limits.{SearchesLarge, WithinBetween}
use Rattle.aql_script.specs.Script.{positions, IsFirstLarge, IsFirstPast}

-- a declaration without a typing stands behind those that have one
behind_typed : (front ds earlier : List Declaration) (k : ℕ) → HaveSorts earlier front → IsFirstUntyped earlier (front ++ ds) k → length front < k
behind_typed [] [] earlier k h u = absurd u
behind_typed [] (d ∷ ds) earlier zero h u = absurd u
behind_typed [] (d ∷ ds) earlier (suc k) h u = omega arith
behind_typed (a ∷ front) ds earlier zero h u = absurd u
behind_typed (a ∷ front) ds earlier (suc zero) h u = absurd (u h.0.0 h.0.1)
behind_typed (a ∷ front) ds earlier (suc (suc k)) h u = omega (arith, behind_typed front ds (a ∷ earlier) (suc k) h.1 u.1)

pub behind_prelude : (ds : List Declaration) (k : ℕ) → IsFirstUntyped [] (positions ds) k → prelude_count < k
unfolding positions
behind_prelude ds k u = behind_typed prelude_decls ds [] k prelude_typed u

pub untyped_own : (ds : List Declaration) (k : ℕ) → IsFirstUntyped [] (positions ds) k → (1 ≤ k - prelude_count) × IsFirstUntyped [] (positions ds) (prelude_count + (k - prelude_count))
untyped_own ds k u =
    let lt = behind_prelude ds k u in
    let same : prelude_count + (k - prelude_count) ≡ k = omega (arith, lt) in
    (omega (arith, lt), subst (λ n. IsFirstUntyped [] (positions ds) n) (sym same) u)

-- the test of the limits, at a position and at each up to one
abbrev within : List Declaration → ℕ → Bool
within all n = nat_le (expanded_size all n) most_nodes && nat_le (expanded_levels all n) most_levels

abbrev within_all : List Declaration → ℕ → Bool
within_all all zero = true
within_all all (suc n) = within all (suc n) && within_all all n

prelude_tested : (ds : List Declaration) → within_all (positions ds) prelude_count ≡ true
unfolding positions
prelude_tested ds = refl

within_is : (all : List Declaration) (n : ℕ) → within all n ≡ true → IsWithinLimits all n
within_is all n e =
    let size = nat_le (expanded_size all n) most_nodes in
    let levels = nat_le (expanded_levels all n) most_levels in
    (leb-true (expanded_size all n) most_nodes (first_so size levels e), leb-true (expanded_levels all n) most_levels (second_so size levels e))

-- one position more
pub within_more : (all : List Declaration) (n : ℕ) → IsWithinLimits all (suc n) → AreWithinLimits all n → AreWithinLimits all (suc n)
within_more all n own before k one last = at (cases_lt k (suc n))
  where
    at : (k < suc n) ⊎ (suc n ≤ k) → IsWithinLimits all k
    at (inl lt) = before k one (omega (arith, lt))
    at (inr le) = subst (IsWithinLimits all) (omega (arith, le, last)) own

tested_within : (all : List Declaration) (n : ℕ) → within_all all n ≡ true → AreWithinLimits all n
tested_within all zero e = λ k one last. absurd (omega (arith, one, last))
tested_within all (suc n) e =
    let here = within all (suc n) in
    let front = within_all all n in
    within_more all n (within_is all (suc n) (first_so here front e)) (tested_within all n (second_so here front e))

-- the prelude is within the limits, whatever follows
pub prelude_within : (ds : List Declaration) → AreWithinLimits (positions ds) prelude_count
prelude_within ds = tested_within (positions ds) prelude_count (prelude_tested ds)

-- the first of the declarations that are left was put behind those so far
pub one_behind : (all : List Decl) (d : Decl) (rest : List Decl) → decls_of (all ++ d ∷ []) ++ decls_of rest ≡ decls_of all ++ decls_of (d ∷ rest)
one_behind all d rest = ap (λ l. l ++ decls_of rest) (decls_of-append all (d ∷ [])) ∙ append_assoc (decls_of all) (decl_of d ∷ []) (decls_of rest)

pub many : (all : List Decl) (ds : List Declaration) → decls_of all ≡ positions ds → length all ≡ prelude_count + length ds
many all ds e = sym (length-decls_of all) ∙ (ap length e ∙ length_positions ds)

within_join : (all : List Declaration) (n m : ℕ) → AreWithinLimits all n → WithinBetween all n m → AreWithinLimits all m
within_join all n m a b k one last = at (cases_lt n k)
  where
    at : (n < k) ⊎ (k ≤ n) → IsWithinLimits all k
    at (inl lt) = b k lt last
    at (inr le) = a k one le

-- all positions are within the limits
pub all_within : (all : List Decl) (ds : List Declaration) → decls_of all ≡ positions ds → WithinBetween (decls_of all) prelude_count (length all) →
    AreWithinLimits (positions ds) (prelude_count + length ds)
all_within all ds e h =
    let between = subst (λ (l : List Declaration). WithinBetween l prelude_count (length all)) e h in
    within_join (positions ds) prelude_count (prelude_count + length ds) (prelude_within ds) (subst (WithinBetween (positions ds) prelude_count) (many all ds e) between)

-- the first that passes a limit
pub is_first_large : (all : List Decl) (ds : List Declaration) (n : ℕ) → decls_of all ≡ positions ds → (1 ≤ n) → (prelude_count + n ≤ length all) →
    WithinBetween (decls_of all) prelude_count (prelude_count + n - 1) → IsLarge (decls_of all) (prelude_count + n) → IsFirstLarge ds n
is_first_large all ds n e one last within_before large = record {
  first = one;
  last = let count = many all ds e in omega (arith, count, last);
  before = within_join (positions ds) prelude_count (prelude_count + n - 1) (prelude_within ds) (subst (λ (l : List Declaration). WithinBetween l prelude_count (prelude_count + n - 1)) e within_before);
  large = subst (λ (l : List Declaration). IsLarge l (prelude_count + n)) e large;
}

-- what the search for a limit finds, of a script's own declarations
pub first_past : (all : List Decl) (ds : List Declaration) (o : Option ℕ) → decls_of all ≡ positions ds → SearchesLarge all o → IsFirstPast ds o
first_past all ds None e h = all_within all ds e h
first_past all ds (Some n) e (one, last, before, large) = is_first_large all ds n e one last before large

-- the same where the search had the memory that it wants
pub first_past_found : {E : Type 0} (all : List Decl) (ds : List Declaration) (r : Result (Option ℕ) E) → decls_of all ≡ positions ds → IfOk r (SearchesLarge all) → IfOk r (IsFirstPast ds)
first_past_found all ds (Ok o) e h = first_past all ds o e h
first_past_found all ds (Err x) e h = tt

-- what inference answers of the positions
pub first_untyped : (all ds : List Declaration) (f : TypeFault) (k : ℕ) → all ≡ ds → f ≡ type_faults.NoType k → IsChecked (Err f) all → IsFirstUntyped [] ds k
first_untyped all ds f k e is h =
    subst (λ (l : List Declaration). IsFirstUntyped [] l k) e (subst (λ (g : TypeFault). IsChecked (Err g) all) is h)

pub ruleset preparing = (one_behind, positions_are)
