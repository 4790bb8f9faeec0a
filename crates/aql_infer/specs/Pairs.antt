-- Two expressions, and forms of several, by the types of their parts.
use Rattle.std.specs.Prelude.{ℕ, ◌≡◌, ◌++◌, List, Option, Result, Ok, Err}
use Rattle.aql_ty.specs.Types.{Ty}
use Rattle.aql_syntax.specs.Tree.{Tree, Trees}
use Rattle.aql_syntax.specs.Typing.{Locals}
use Rattle.aql_infer_steps.specs.declared.fault.NoTyping.{NoTyping}
use Rattle.aql_infer_steps.specs.declared.names.Local.{Local}
use Rattle.aql_infer_steps.specs.declared.positions.Position.{Position}
use Rattle.aql_infer_steps.specs.declared.store.Store.{Store}
use Rattle.aql_infer_steps.specs.View.{state_of, locals_of, schemes_of}
use Rattle.aql_infer_steps.specs.Constraints.{NumberedSchemes, Made, Making, pure, after, make, make_all, made_choice, made_sub, made_literal}

-- the types of two expressions
abbrev pub make_two : Tree → Tree → NumberedSchemes → Locals → Making (Ty × Ty)
make_two a b ss env n = after (make a ss env n) (λ s n. after (make b ss env n) (λ r. pure (s, r)))

-- a test and the two that it chooses from
abbrev pub choice_of : Tree → Tree → Tree → NumberedSchemes → Locals → Making Ty
choice_of c a b ss env n = after (make c ss env n) (λ t n. after (make_two a b ss env n) (λ p. made_choice t p.0 p.1))

-- an array and the numbers of an index
abbrev pub subscript_of : Tree → Trees → NumberedSchemes → Locals → Making Ty
subscript_of a at ss env n = after (make a ss env n) (λ a n. after (make_all at ss env n) (λ ts. made_sub a ts))

-- the dimensions of a literal array, which are that many, and its cells
abbrev pub literal_of : ℕ → Trees → Trees → NumberedSchemes → Locals → Making Ty
literal_of k ds cs ss env n = after (make_all ds ss env n) (λ ds n. after (make_all cs ss env n) (λ cs. made_literal k (ds ++ cs)))

-- what comes of the parts where they were made, and their fault otherwise
abbrev pub Follows : {X Y : Type 0} → Result X NoTyping → Result Y NoTyping → (X → Type 0) → Type 0
Follows (Ok x) r P = P x
Follows (Err e) r P = r ≡ Err e

-- a walk over what the code keeps: its positions, its local names and its store
abbrev pub made_at : {Y : Type 0} → (NumberedSchemes → Locals → Making Y) → List Position → List Local → Store → Option (Made Y)
made_at walk ps env s = walk (schemes_of ps) (locals_of ps env) (state_of ps s)
