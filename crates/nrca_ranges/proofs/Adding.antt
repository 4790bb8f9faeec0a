-- How the facts of a context grow and are taken back.
use Rattle.std.proofs.Common.{◌≡◌, ℕ, zero, suc, ◌+◌, ◌-◌, ◌<◌, ◌≤◌, ◌^◌, List, [], ◌∷◌, ◌++◌, length, map, take, drop, get_or, refl, sym, ap, subst, ◌∙◌, arith, add-one, append_assoc, Box, Global, vec_len}
use Rattle.std.proofs.lemmas.List.{take-map}
use Rattle.aql_value.specs.declared.ops.CompareOp.TheVariants.{Less}
use Rattle.nrca_term.specs.declared.term.Core.{Core}
use Rattle.nrca_term.specs.declared.term.Core.TheVariants.{Var, Compare}
use Rattle.nrca_term.specs.declared.term.Terms.{Terms}
use Rattle.nrca_term.specs.Laws.Equations.{term_of-Var, term_of-Compare, length-terms_of}
use Rattle.nrca_term.specs.Nodes.{variable, less_term, loop_term, tab_term}
use Rattle.nrca_term.specs.Term.{Form, form_of, parts_of, Term, Parts, none, part, plain, Closed, PartsClosed, WellFormed, weight_of, list_weight}
use Rattle.nrca_term.specs.Subst.{shift_term, top_var}
use Rattle.nrca_term.specs.Laws.Shift.{top_var-shift_le}
use Rattle.nrca_term.specs.Laws.TypedForm.{top_var-closed}
use Rattle.nrca_term.specs.Laws.WellFormed.{well_formed-Core}
use Rattle.nrca_term.specs.View.{term_of, terms_of}
use Rattle.nrca_term.specs.Facts as facts
use Rattle.nrca_term.specs.Facts.{Context, fact, bound_facts, tab_facts, part_facts}
use Rattle.nrca_ranges.specs.declared.context.Fact.{Fact}
use Rattle.nrca_ranges.specs.Context.{fact_of, facts_in, IsSmallTerm, HasRoom, HaveRoom, below_bounds}
use Rattle.nrca_term.specs.Laws.Variants.{parts_weight-plain}

-- facts and a number of variables
abbrev pub context : List facts.Fact → ℕ → Context
context l d = record { facts = l; depth = d }

-- what is kept of the list of facts is what is kept of the facts
pub taken : (xs ys : List Fact) (n d : ℕ) → ys ≡ take n xs → context (facts_in ys) d ≡ context (take n (facts_in xs)) d
taken xs ys n d e = ap (λ l. context l d) (ap facts_in e ∙ sym (take-map fact_of n xs))

-- facts of one list behind those of another
facts_in-append : (xs ys : List Fact) → facts_in (xs ++ ys) ≡ facts_in xs ++ facts_in ys
facts_in-append [] ys = refl
facts_in-append (x ∷ xs) ys = ap (λ l. fact_of x ∷ l) (facts_in-append xs ys)

-- one fact behind the others
pub added-one : (xs ys : List Fact) (f : Fact) (g : facts.Fact) → ys ≡ xs ++ f ∷ [] → fact_of f ≡ g → facts_in ys ≡ facts_in xs ++ g ∷ []
added-one xs ys f g e k = ap facts_in e ∙ facts_in-append xs (f ∷ []) ∙ ap (λ h. facts_in xs ++ h ∷ []) k

-- the comparison that a variable is below a term
pub below-is : (l r : Box Core Global) (i : ℕ) (t : Term) → l.value ≡ Var i → term_of r.value ≡ t → term_of (Compare Less l r) ≡ less_term (variable i) t
below-is l r i t e k = term_of-Compare Less l r ∙ ap (λ x. less_term x (term_of r.value)) (ap term_of e ∙ term_of-Var i) ∙ ap (less_term (variable i)) k

-- a shifted term has its variables below 2^64 where there was room
pub room-shifted : (by : ℕ) (t u : Term) → HasRoom by t → u ≡ t → top_var (shift_term 0 by u) < 2 ^ 64
room-shifted by t u h e = omega (arith, top_var-shift_le 0 by u, ap top_var e, h)

-- the terms from an index on are the one there and those behind it
pub step-drop : (xs : List Core) (i : ℕ) (x : Core) → i < length xs → x ≡ get_or xs i x → drop i (map term_of xs) ≡ term_of x ∷ drop (i + 1) (map term_of xs)
step-drop xs i x l e = go xs i l e ∙ ap (λ j. term_of x ∷ drop j (map term_of xs)) (sym (add-one i))
  where
    go : (xs : List Core) (i : ℕ) → i < length xs → x ≡ get_or xs i x → drop i (map term_of xs) ≡ term_of x ∷ drop (suc i) (map term_of xs)
    go [] i l e = absurd (omega (arith, l))
    go (y ∷ xs) zero l e = ap (λ z. term_of z ∷ map term_of xs) (sym e)
    go (y ∷ xs) (suc i) l e = go xs i (omega (arith, l)) e

-- one bound more
pub bounds-step : (left index rank d : ℕ) (F H : List facts.Fact) (t : Term) (l ts : List Term) → left ≡ index + 1 → l ≡ t ∷ ts →
    F ++ below_bounds left rank l d ≡ H → (F ++ fact (less_term (variable index) (shift_term 0 rank t)) facts.domain (d + rank) ∷ []) ++ below_bounds index rank ts d ≡ H
bounds-step left index rank d F H t l ts e k h =
    append_assoc F (fact (less_term (variable index) (shift_term 0 rank t)) facts.domain (d + rank) ∷ []) (below_bounds index rank ts d)
    ∙ ap (λ n. F ++ below_bounds n rank (t ∷ ts) d) (sym (add-one index) ∙ sym e)
    ∙ ap (λ m. F ++ below_bounds left rank m d) (sym k) ∙ h

-- where no bound is left nothing is added
pub no-bounds : (left rank d : ℕ) (F : List facts.Fact) (l : List Term) → left ≡ 0 → F ++ below_bounds left rank l d ≡ F
no-bounds left rank d F l e = ap (λ n. F ++ below_bounds n rank l d) e ∙ last F
  where
    last : (F : List facts.Fact) → F ++ [] ≡ F
    last [] = refl
    last (f ∷ F) = ap (λ l. f ∷ l) (last F)

-- the bounds of a tabulation, which stand before its body
pub bounds-are : (left rank d : ℕ) (ts : List Term) (ps : Parts) → left ≡ length ts → bound_facts left rank (plain ts ps) d ≡ below_bounds left rank ts d
bounds-are zero rank d ts ps e = refl
bounds-are (suc left) rank d [] ps e = absurd (omega (arith, e))
bounds-are (suc left) rank d (t ∷ ts) ps e = ap (λ l. fact (less_term (variable left) (shift_term 0 rank t)) facts.domain (d + rank) ∷ l) (bounds-are left rank d ts ps (omega (arith, e)))

-- a term of so many variables and such a weight has room
pub closed-room : (n by : ℕ) (t : Term) → WellFormed t → Closed n t → n + weight_of t + by ≤ 10000000 → HasRoom by t
closed-room n by t h c l = omega (arith, top_var-closed n t h c, l)

-- the same of the bounds of a tabulation
pub closed-rooms : (n by : ℕ) (xs : List Core) (ps : Parts) → ((c : Core) → WellFormed (term_of c)) → PartsClosed n (plain (map term_of xs) ps) → n + list_weight (map term_of xs) + by ≤ 10000000 → HaveRoom by (map term_of xs)
closed-rooms n by [] ps w c l = tt
closed-rooms n by (x ∷ xs) ps w c l =
    (closed-room n by (term_of x) (w x) (subst (λ m. Closed m (term_of x)) (omega arith) c.0) (omega (arith, l)), closed-rooms n by xs ps w c.1 (omega (arith, l)))

-- the operand of a loop has room for the variable of its body
pub loop-room : (f : Form) (d : ℕ) (t o b : Term) → t ≡ loop_term f o b → WellFormed o → IsSmallTerm d t → (d < 2000000) × HasRoom 1 o
loop-room f d t o b e w i =
    let c : Closed (d + 0) o = (subst (Closed d) e i.0).1.0 in
    let n : d + weight_of (loop_term f o b) ≤ 1280000 = subst (λ u. d + weight_of u ≤ 1280000) e i.1 in
    (omega (arith, n), closed-room (d + 0) 1 o w c (omega (arith, n)))

-- the bounds of a tabulation have room for the variables of its body
pub tab-room : (d : ℕ) (t : Term) (ts : Terms) (b : Term) → t ≡ tab_term (terms_of ts) b → IsSmallTerm d t → (d + vec_len ts.0 < 2000000) × HaveRoom (vec_len ts.0) (terms_of ts)
tab-room d t ts b e i =
    let c = (subst (Closed d) e i.0).1 in
    let n : d + weight_of (tab_term (terms_of ts) b) ≤ 1280000 = subst (λ u. d + weight_of u ≤ 1280000) e i.1 in
    let p = parts_weight-plain (terms_of ts) (part (length (terms_of ts)) b none) in
    let k = length-terms_of ts in
    (omega (arith, n, p, k), closed-rooms d (vec_len ts.0) ts.0.items (part (length (terms_of ts)) b none) well_formed-Core c (omega (arith, n, p, k)))

-- the body of a tabulation has the facts of its bounds
pub tab-added : (d i : ℕ) (t : Term) (ts : Terms) (b : Term) → t ≡ tab_term (terms_of ts) b → vec_len ts.0 ≤ i → below_bounds (vec_len ts.0) (vec_len ts.0) (terms_of ts) d ≡ part_facts d (form_of t) (parts_of t) i
tab-added d i t ts b e l =
    let k = length-terms_of ts in
    let ps : Parts = plain (terms_of ts) (part (length (terms_of ts)) b none) in
    let z : length (terms_of ts) - i ≡ 0 = omega (arith, k, l) in
    ap (λ n. below_bounds n n (terms_of ts) d) (sym k)
    ∙ sym (bounds-are (length (terms_of ts)) (length (terms_of ts)) d (terms_of ts) (part (length (terms_of ts)) b none) refl)
    ∙ ap (λ n. tab_facts n (length (terms_of ts)) ps d) (sym z)
    ∙ ap (λ u. part_facts d (form_of u) (parts_of u) i) (sym e)

-- a bound of a tabulation has no facts of its own
pub tab-others : (d i : ℕ) (t : Term) (ts : Terms) (b : Term) → t ≡ tab_term (terms_of ts) b → i < vec_len ts.0 → [] ≡ part_facts d (form_of t) (parts_of t) i
tab-others d i t ts b e l =
    let k = length-terms_of ts in
    let ps : Parts = plain (terms_of ts) (part (length (terms_of ts)) b none) in
    let z : length (terms_of ts) - i ≡ suc (length (terms_of ts) - i - 1) = omega (arith, k, l) in
    ap (λ n. tab_facts n (length (terms_of ts)) ps d) (sym z)
    ∙ ap (λ u. part_facts d (form_of u) (parts_of u) i) (sym e)

-- where nothing is added the facts stay
pub nothing-added : (F G : List facts.Fact) → [] ≡ G → F ≡ F ++ G
nothing-added F G e = sym (no-bounds 0 0 0 F [] refl) ∙ ap (λ l. F ++ l) e
