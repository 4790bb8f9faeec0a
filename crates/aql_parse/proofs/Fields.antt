-- The lemmas that the names of readers go by.
use Rattle.std.proofs.Common.{◌≡◌, List, [], ◌∷◌, ◌++◌, Option, Some, None, refl, ap, append_assoc}
use Rattle.aql_syntax.specs.declared.ast.Kind.{Kind}
use Rattle.aql_parse.specs.Fields.{with_kinds}
use Rattle.aql_parse.specs.Laws.Short.{short_ok, short_long}

pub with_no_kinds : (o : Option (List Kind)) → with_kinds [] o ≡ o
with_no_kinds None = refl
with_no_kinds (Some x) = refl

pub kinds_last : (xs ks : List Kind) (k : Kind) → (xs ++ (k ∷ [])) ++ ks ≡ xs ++ (k ∷ ks)
kinds_last xs ks k = rw append_assoc refl

pub kinds_end : (xs : List Kind) → xs ++ [] ≡ xs
kinds_end [] = refl
kinds_end (x ∷ xs) = ap (λ z. x ∷ z) (kinds_end xs)

pub ruleset kind_steps = (with_no_kinds, kinds_last, kinds_end)

pub ruleset record_steps = (short_ok, short_long)
