-- The order of the table of rules, but for the checks of comparisons.
use Rattle.std.proofs.Common.{◌≡◌, ℕ, ◌<◌, false, List, [], ◌∷◌, get_or}
use Rattle.aql_value.specs.Strict.{Strict}
use Rattle.nrca_term.specs.Term.{Form}
use Rattle.nrca_term.specs.declared.trace.Rule.{Rule}
use Rattle.nrca_term.specs.declared.trace.Rule.TheVariants.{B1, K1, I1, I2, L1, L2, L3, P1, P2, S1, S2, S3, S4, S5, S6, S7, S8, S9, A1, A2, A3, A4, A5, A6, A7, C1, C2, C3, C4, N1, N2}
use Rattle.nrca_term.specs.Normal.{is_check}

-- the place of a rule, counted from 0; the checks come last
abbrev pub number_of : Rule → ℕ
number_of B1 = 0
number_of K1 = 1
number_of I1 = 2
number_of I2 = 3
number_of L1 = 4
number_of L2 = 5
number_of L3 = 6
number_of P1 = 7
number_of P2 = 8
number_of S1 = 9
number_of S2 = 10
number_of S3 = 11
number_of S4 = 12
number_of S5 = 13
number_of S6 = 14
number_of S7 = 15
number_of S8 = 16
number_of S9 = 17
number_of A1 = 18
number_of A2 = 19
number_of A3 = 20
number_of A4 = 21
number_of A5 = 22
number_of A6 = 23
number_of A7 = 24
number_of N1 = 25
number_of N2 = 26
number_of C1 = 27
number_of C2 = 27
number_of C3 = 27
number_of C4 = 27

-- the rules whose left side may be an operation of this kind
abbrev pub rules_of_strict : Strict → List Rule
rules_of_strict (Strict.arith op) = B1 ∷ K1 ∷ []
rules_of_strict (Strict.compare op) = B1 ∷ K1 ∷ []
rules_of_strict Strict.gen = B1 ∷ K1 ∷ []
rules_of_strict (Strict.literal rank) = B1 ∷ K1 ∷ []
rules_of_strict Strict.get = B1 ∷ K1 ∷ S8 ∷ []
rules_of_strict (Strict.proj at of) = B1 ∷ P1 ∷ P2 ∷ []
rules_of_strict Strict.union = B1 ∷ S7 ∷ []
rules_of_strict Strict.sub = B1 ∷ A1 ∷ A5 ∷ A7 ∷ []
rules_of_strict (Strict.dim rank) = B1 ∷ A3 ∷ A6 ∷ A7 ∷ []
rules_of_strict _ = B1 ∷ []

-- the rules whose left side may be a node of this form, in the order of the table
abbrev pub rules_of : Form → List Rule
rules_of (Form.var i) = B1 ∷ []
rules_of (Form.global n) = B1 ∷ []
rules_of Form.bind = B1 ∷ L1 ∷ L2 ∷ L3 ∷ A4 ∷ []
rules_of Form.choose = B1 ∷ I1 ∷ []
rules_of Form.default = B1 ∷ N1 ∷ N2 ∷ []
rules_of Form.big_union = B1 ∷ I2 ∷ S1 ∷ S2 ∷ S3 ∷ S6 ∷ S9 ∷ []
rules_of Form.sum = B1 ∷ I2 ∷ S4 ∷ S5 ∷ S9 ∷ []
rules_of (Form.tab rank) = B1 ∷ A2 ∷ []
rules_of (Form.strict s) = rules_of_strict s

-- P of each rule but the checks
unfoldable pub EachPlain : (Rule → Type 0) → Type 0
EachPlain P = (R : Rule) → is_check R ≡ false → P R

-- P of the first n rules of a list
unfoldable pub FirstRules : (Rule → Type 0) → List Rule → ℕ → Type 0
FirstRules P l n = (i : ℕ) → i < n → P (get_or l i B1)
