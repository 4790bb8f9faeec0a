-- The context of a place: the facts that it keeps, and how they grow from a node to a part of it.
use Rattle.std.specs.Prelude.{◌≡◌, ◌++◌, ℕ, zero, suc, ◌+◌, ◌<◌, ◌≤◌, ◌^◌, List, [], ◌∷◌, map, take, vec_len}
use Rattle.std.specs.declared.vec.Vec.{Vec}
use Rattle.std.proofs.Common.{Global}
use Rattle.nrca_term.specs.declared.term.Core.{Core}
use Rattle.nrca_term.specs.declared.term.Terms.{Terms}
use Rattle.nrca_term.specs.Term.{Term, none, part, form_of, parts_of, Closed, weight_of}
use Rattle.nrca_term.specs.View.{term_of, terms_of}
use Rattle.nrca_term.specs.Nodes.{variable, less_term}
use Rattle.nrca_term.specs.Subst.{top_var, shift_term}
use Rattle.nrca_term.specs.Facts as facts
use Rattle.nrca_term.specs.Facts.{Context, fact}
use Rattle.nrca_ranges.specs.declared.context.Known.{Known}
use Rattle.nrca_ranges.specs.declared.context.Known.TheVariants.{Domain, Test, Denied}
use Rattle.nrca_ranges.specs.declared.context.Fact.{Fact}
use Rattle.nrca_ranges.specs.declared.context.Ctx.{Ctx}
use Rattle.nrca_ranges.specs.declared.context.Mark.{Mark}
use Rattle.nrca_ranges.specs.Bounds.{Ranges}

-- how a comparison is known
abbrev pub known_of : Known → facts.Known
known_of Domain = facts.domain
known_of Test = facts.test
known_of Denied = facts.denied

-- a kept fact
abbrev pub fact_of : Fact → facts.Fact
fact_of f = fact (term_of f.comparison) (known_of f.known) f.depth

-- the kept facts of a list
abbrev pub facts_in : List Fact → List facts.Fact
facts_in = map fact_of

-- the facts of a context, and its number of variables
abbrev pub context_of : Ctx → Context
context_of c = record { facts = map fact_of c.facts.items; depth = c.depth }

-- the facts that are known at the place of a context
abbrev pub known_facts : Ctx → List facts.Fact
known_facts c = (context_of c).facts

-- the number of variables around the place
abbrev pub around : Ctx → ℕ
around c = (context_of c).depth

-- what the context was at the mark
abbrev pub at_mark : Mark → Context → Context
at_mark m c = record { facts = take m.facts c.facts; depth = m.depth }

-- what was known of values at the mark
abbrev pub ranges_at_mark : Mark → Ranges → Ranges
ranges_at_mark m gs = record { positions = gs.positions; variables = take m.variables gs.variables }

-- the context of a part of the term that stands at the place of a context
abbrev pub enter_part : Ctx → Term → ℕ → Context
enter_part c t i = facts.enter_facts (context_of c) t i

-- the context in part i of a term
abbrev pub IsEntered : Ctx → Core → ℕ → Ctx → Type 0
IsEntered c t i r = context_of r ≡ enter_part c (term_of t) i

-- a term whose variables are among n, and which with them weighs at most 1,280,000
abbrev pub IsSmallTerm : ℕ → Term → Type 0
IsSmallTerm n t = Closed n t × (n + weight_of t ≤ 1280000)

-- the numbers of the term's variables stay below 2^64 where `by` is added
abbrev pub HasRoom : ℕ → Term → Type 0
HasRoom by t = top_var t + by < 2 ^ 64

-- the same of each term of a list
abbrev pub HaveRoom : ℕ → List Term → Type 0
HaveRoom by [] = Unit {0}
HaveRoom by (t ∷ ts) = HasRoom by t × HaveRoom by ts

-- the second list of kept facts is the first with these facts behind it
abbrev pub AddsFacts : List Fact → List Fact → List facts.Fact → Type 0
AddsFacts old new fs = facts_in new ≡ facts_in old ++ fs

-- a list of facts with these behind it
abbrev pub AddsTo : Vec Fact Global → List facts.Fact → Vec Fact Global → Type 0
AddsTo old fs new = AddsFacts old.items new.items fs

-- the facts that hold in a part of a term beside those that hold around the term
abbrev pub facts_inside : ℕ → Term → ℕ → List facts.Fact
facts_inside d t i = facts.part_facts d (form_of t) (parts_of t) i

-- what the test of an if tells in a branch
abbrev pub facts_by_test : Term → facts.Known → ℕ → List facts.Fact
facts_by_test t k d = facts.test_fact (part 0 t none) k d

-- what the operand of a loop tells in its body
abbrev pub facts_by_loop : Term → ℕ → List facts.Fact
facts_by_loop t d = facts.loop_fact (part 0 t none) d

-- the variable is below the bound, which stands outside of `rank` variables; `d` variables are there
abbrev pub below_bound : (i rank : ℕ) → Term → ℕ → facts.Fact
below_bound i rank t d = fact (less_term (variable i) (shift_term 0 rank t)) facts.domain d

-- variables left - 1, left - 2, .. are below the bounds, which stand outside of `rank` variables
abbrev pub below_bounds : (left rank : ℕ) → List Term → ℕ → List facts.Fact
below_bounds zero rank ts d = []
below_bounds (suc left) rank [] d = []
below_bounds (suc left) rank (t ∷ ts) d = below_bound left rank t (d + rank) ∷ below_bounds left rank ts d

-- what the n bounds of a tabulation tell in its body
abbrev pub facts_by_bounds : ℕ → List Term → ℕ → List facts.Fact
facts_by_bounds n ts d = below_bounds n n ts d

-- the same facts of terms of the code: of a part, a test, an operand, one bound, and all bounds
abbrev pub part_facts : ℕ → Core → ℕ → List facts.Fact
part_facts d t i = facts_inside d (term_of t) i

-- the facts that a test gives
abbrev pub test_facts : Core → Known → ℕ → List facts.Fact
test_facts t k d = facts_by_test (term_of t) (known_of k) d

-- the facts that a loop's operand gives
abbrev pub loop_facts : Core → ℕ → List facts.Fact
loop_facts t d = facts_by_loop (term_of t) d

-- the fact that an index is below its bound
abbrev pub bound_fact : (i rank : ℕ) → Core → ℕ → List facts.Fact
bound_fact i rank t d = below_bound i rank (term_of t) d ∷ []

-- the facts that the bounds of a tabulation give
abbrev pub bounds_facts : Terms → ℕ → List facts.Fact
bounds_facts ts d = facts_by_bounds (vec_len ts.0) (terms_of ts) d

-- with the bounds' own variables there are less than 2,000,000, and no bound's variables pass 64 bits where these are added
abbrev pub LeaveRoom : ℕ → Terms → Type 0
LeaveRoom d ts = (d + vec_len ts.0 < 2000000) × HaveRoom (vec_len ts.0) (terms_of ts)
