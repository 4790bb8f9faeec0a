-- A sound run, so that the promise of completeness is not empty: the words `aql` alone, the script `1+2*3;`, and files that tell nothing.
use Rattle.std.specs.Prelude.{◌≡◌, ◌<◌, ◌≤◌, ◌+◌, ℕ, List, [], ◌∷◌, ◌++◌, length, take, replicate, codes, refl, Some, None}
use Rattle.std.specs.List.{slice_get}
use Rattle.std.proofs.Common.{sym, ap, subst, arith}
use Rattle.std.proofs.lemmas.List.{length-take}
use Rattle.std.proofs.lemmas.Option.{slice_get_within}
use Rattle.aql_value.specs.Strict.{Strict}
use Rattle.aql_value.specs.declared.ops.ArithOp.{ArithOp}
use Rattle.aql_value.specs.declared.ops.ArithOp.TheVariants as ariths
use Rattle.aql_ty.specs.Types.{natural, value}
use Rattle.aql_ty.specs.Laws.Types.{fits_within}
use Rattle.aql_syntax.specs.Script.{Earlier}
use Rattle.aql_syntax.specs.Tree.{Tree, Declaration, bare}
use Rattle.aql_syntax.specs.Typing.{Environment, Has, DeclHas, environment_of}
use Rattle.aql_syntax.specs.View.{of_two}
use Rattle.nrca_term.specs.Meaning.{Outcomes}
use Rattle.aql_prelude.specs.Prelude.{prelude_decls, prelude_count}
use Rattle.aql_prelude.specs.Typing.{HaveSorts}
use Rattle.aql_prelude.specs.Laws.Typing.{prelude_typed}
use Rattle.aql_script.specs.Script.{positions}
use Rattle.aql_script.proofs.Examples.{number, product, sum, one_sum, sum_read, sum_limits}
use Rattle.aql_session.specs.Bound.{earlier_of}
use Rattle.aql_options.specs.Words.{options_of}
use Rattle.aql_options.specs.Laws.Examples.{name_read}
use Rattle.aql_run.specs.Complete.{AreOutcomes, IsWithinBudget, IsSound}

-- ---- the typings

-- a number in the script is a natural
number_has : (n : ℕ) (g : Environment) → Has (number n) g [] natural
number_has n g = ([], (refl, refl), tt, refl)

-- an operation on two numbers is a number
two_have : (o : ArithOp) (a b : Tree) (g : Environment) → Has a g [] natural → Has b g [] natural → Has (of_two (Strict.arith o) a b) g [] natural
two_have o a b g h k = (natural ∷ natural ∷ [], (refl, refl), tt, (natural, natural ∷ [], refl, h, (natural, [], refl, k, refl)))

-- the sum is a natural
sum_has : (g : Environment) → DeclHas (bare sum) g (value natural)
sum_has g =
    let right = two_have ariths.Mul (number 2) (number 3) g (number_has 2 g) (number_has 3 g) in
    (fits_within natural refl, two_have ariths.Add (number 1) product g (number_has 1 g) right)

-- typings of some declarations, and of the sum behind them
behind : (front earlier : List Declaration) → HaveSorts earlier front → HaveSorts earlier (front ++ one_sum)
behind [] earlier h = ((value natural, sum_has (environment_of earlier)), tt)
behind (d ∷ front) earlier h = (h.0, behind front (d ∷ earlier) h.1)

-- the prelude and the sum have typings
all_typed : HaveSorts [] (positions one_sum)
unfolding positions
all_typed = behind prelude_decls [] prelude_typed

-- ---- the budget

-- the sum takes no turn and asks nothing of files
sum_within : (earlier : Earlier) (budget : ℕ) → IsWithinBudget (bare sum) earlier budget None
sum_within earlier budget = record { turns = omega arith; cells = λ a e. absurd cc; file = λ a e. absurd cc }

-- no other declaration stands behind the prelude
last_is : (k : ℕ) (d : Declaration) → prelude_count ≤ k → slice_get (positions one_sum) k ≡ Some d → d ≡ bare sum
unfolding positions
last_is k d le e =
    let lt : k < prelude_count + 1 = slice_get_within (positions one_sum) k d e in
    let same : k ≡ prelude_count = omega (arith, le, lt) in
    let there : slice_get (positions one_sum) prelude_count ≡ Some d = subst (λ n. slice_get (positions one_sum) n ≡ Some d) same e in
    cc

-- as many outcomes as the prelude has positions
many : (V : Outcomes) → take prelude_count V ≡ replicate prelude_count None → prelude_count ≤ length V
many V e =
    let front = length-take prelude_count V in
    let count : length (take prelude_count V) ≡ prelude_count = ap length e in
    omega (arith, front, count)

-- what comes behind any outcomes of the prelude, which is the sum, is within any budget
within : (budget : ℕ) (V : Outcomes) (d : Declaration) → AreOutcomes one_sum None V → slice_get (positions one_sum) (length V) ≡ Some d →
    IsWithinBudget d (earlier_of (positions one_sum) V) budget None
within budget V d h e =
    let earlier : Earlier = earlier_of (positions one_sum) V in
    subst (λ (x : Declaration). IsWithinBudget x earlier budget None) (sym (last_is (length V) d (many V h.prelude) e)) (sum_within earlier budget)

-- ---- the run

-- the run is sound
pub script_is_sound : IsSound (codes "aql" ∷ []) (codes "1+2*3;") None
script_is_sound = record {
  reads = name_read;
  ds = one_sum;
  are = sum_read;
  typed = all_typed;
  limits = sum_limits;
  within = within (options_of (codes "aql" ∷ [])).budget;
}
