-- Declarations made one after another of constants: one more, and the constants that are left.
use Rattle.std.proofs.Common.{ℕ, ◌≡◌, ◌+◌, ◌<◌, List, [], ◌∷◌, ◌++◌, refl, ap, ◌∙◌, drop, get_or, length, add-one, append_assoc}
use Rattle.std.proofs.Math.Seq.{drop-cons}
use Rattle.aql_syntax.specs.Tree.{Declaration}
use Rattle.aql_syntax.specs.View.{decl_of, decls_of}
use Rattle.aql_syntax.specs.Laws.View.{decls_of-append}
use Rattle.aql_syntax.specs.declared.ast.Decl.{Decl}
use Rattle.aql_prelude.specs.Constants.{decl_of_constant, decls_of_constants}
use Rattle.aql_prelude.specs.declared.constants.ConstMacro.{ConstMacro}

pub last_before : (ds : List Decl) (d : Decl) (rest : List Declaration) → decls_of (ds ++ d ∷ []) ++ rest ≡ decls_of ds ++ (decl_of d ∷ rest)
last_before ds d rest = ap (λ l. l ++ rest) (decls_of-append ds (d ∷ [])) ∙ append_assoc (decls_of ds) (decl_of d ∷ []) rest

pub constants_from : (cs : List ConstMacro) (i : ℕ) (m : ConstMacro) → i < length cs →
    decls_of_constants (drop i cs) ≡ decl_of_constant (get_or cs i m) ∷ decls_of_constants (drop (i + 1) cs)
constants_from cs i m h = rw (add-one, drop-cons cs i m h) refl

pub ruleset declaring = (last_before, constants_from)
