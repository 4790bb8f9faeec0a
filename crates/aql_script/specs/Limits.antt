-- The search for a declaration that passes a limit.
use Rattle.std.specs.Prelude.{ℕ, ◌+◌, ◌-◌, ◌<◌, ◌≤◌, length, List, Option, Some, None}
use Rattle.aql_syntax.specs.Tree.{Declaration}
use Rattle.aql_syntax.specs.View.{decls_of}
use Rattle.aql_syntax.specs.declared.ast.Decl.{Decl}
use Rattle.aql_syntax.specs.Size.{IsWithinLimits, IsLarge}
use Rattle.aql_prelude.specs.Prelude.{prelude_count}

-- each position behind a, up to b, is within the limits
abbrev pub WithinBetween : List Declaration → ℕ → ℕ → Type 0
WithinBetween all a b = (k : ℕ) → a < k → k ≤ b → IsWithinLimits all k

-- no position behind the prelude passes a limit, or declaration n behind it is the first that does
abbrev pub SearchesLarge : List Decl → Option ℕ → Type 0
SearchesLarge all None = WithinBetween (decls_of all) prelude_count (length all)
SearchesLarge all (Some n) =
    (1 ≤ n) × (prelude_count + n ≤ length all) × WithinBetween (decls_of all) prelude_count (prelude_count + n - 1)
    × IsLarge (decls_of all) (prelude_count + n)
