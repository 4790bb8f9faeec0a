-- The value and the turns of the variants, in their own words.
use Rattle.std.proofs.Common.{◌≡◌, ℕ, zero, suc, ◌+◌, ◌<◌, Bool, true, false, List, [], ◌∷◌, ◌++◌, length, map, take, Option, Some, None, option_to_list, unwrap_or, refl, sym, ap, ◌∙◌, arith, if◌then◌else◌, eq-eqb}
use Rattle.std.proofs.lemmas.Bool.{lt-ltb, le-ltb}
use Rattle.std.specs.List.{slice_get}
use Rattle.aql_value.specs.Datum.{Datum}
use Rattle.aql_value.specs.Indices.{indices}
use Rattle.aql_value.specs.Laws.Lists.{Every-impl}
use Rattle.aql_value.specs.Operations.{as_natural, as_truth, as_set, array_of, push_index}
use Rattle.aql_value.specs.Partial.{◌>>=◌, each, total, if_some}
use Rattle.aql_value.specs.Laws.Partial.{then-ext, each-ext, each-length, then-is, total-map}
use Rattle.aql_value.specs.Strict.{Strict, strict_value, strict_turns}
use Rattle.nrca_term.specs.Term.{Term, Parts, node, none, part, plain, Form, parts_of, child_of, count, parts_weight, list_weight}
use Rattle.nrca_term.specs.Nodes.{let_term, if_term, default_term, big_union_term, sum_term, tab_term, literal_term}
use Rattle.nrca_term.specs.Meaning.{Outcomes, Part, worth, here, bounds_value, cden, part_values}
use Rattle.nrca_term.specs.Places.{entry_values, indices_of, branch}
use Rattle.nrca_term.specs.Turns.{settle, parts_settle}
use Rattle.nrca_term.specs.Laws.Entering.{length-walked}
use Rattle.aql_value.specs.Laws.RowMajor.{indices_lengths}
use Rattle.nrca_term.specs.Laws.Lets.{plain-each}

-- parts in a row
pub plain-append : (ts us : List Term) (ps : Parts) → plain (ts ++ us) ps ≡ plain ts (plain us ps)
plain-append [] us ps = refl
plain-append (t ∷ ts) us ps = ap (part 0 t) (plain-append ts us ps)

pub count-plain : (ts : List Term) (ps : Parts) → count (plain ts ps) ≡ length ts + count ps
count-plain [] ps = omega arith
count-plain (t ∷ ts) ps = omega (arith, count-plain ts ps)

pub child_of-plain_below : (ts : List Term) (ps : Parts) (i : ℕ) (t : Term) → slice_get ts i ≡ Some t → child_of (plain ts ps) i ≡ Some t
child_of-plain_below [] ps i t e = cc
child_of-plain_below (u ∷ ts) ps zero t e = e
child_of-plain_below (u ∷ ts) ps (suc i) t e = child_of-plain_below ts ps i t e

pub child_of-plain_past : (ts : List Term) (ps : Parts) (j : ℕ) → child_of (plain ts ps) (length ts + j) ≡ child_of ps j
child_of-plain_past [] ps j = let e : 0 + j ≡ j = omega arith in ap (child_of ps) e
child_of-plain_past (t ∷ ts) ps j = let e : suc (length ts) + j ≡ suc (length ts + j) = omega arith in ap (child_of (plain (t ∷ ts) ps)) e ∙ child_of-plain_past ts ps j

pub parts_weight-plain : (ts : List Term) (ps : Parts) → parts_weight (plain ts ps) ≡ list_weight ts + parts_weight ps
parts_weight-plain [] ps = omega arith
parts_weight-plain (t ∷ ts) ps = omega (arith, parts_weight-plain ts ps)

-- what they are worth
pub plain-each_take : (V : Outcomes) (vals : List Datum) (ts : List Term) (ps : Parts) → each here (take (length ts) (part_values V vals (plain ts ps))) ≡ each (cden V vals) ts
plain-each_take V vals [] ps = refl
plain-each_take V vals (t ∷ ts) ps = rw (plain-each_take V vals ts ps) refl

pub worth-plain_past : (V : Outcomes) (vals : List Datum) (ts : List Term) (ps : Parts) (j : ℕ) (new : List Datum) → worth (part_values V vals (plain ts ps)) (length ts + j) new ≡ worth (part_values V vals ps) j new
worth-plain_past V vals [] ps j new = let e : 0 + j ≡ j = omega arith in ap (λ n. worth (part_values V vals ps) n new) e
worth-plain_past V vals (t ∷ ts) ps j new =
    let e : suc (length ts) + j ≡ suc (length ts + j) = omega arith in
    ap (λ n. worth (part_values V vals (plain (t ∷ ts) ps)) n new) e ∙ worth-plain_past V vals ts ps j new

-- the last of them, under its own variables
pub worth-last : (V : Outcomes) (vals : List Datum) (ts : List Term) (k : ℕ) (b : Term) (new : List Datum) → length new ≡ k → worth (part_values V vals (plain ts (part k b none))) (length ts) new ≡ cden V (new ++ vals) b
worth-last V vals ts k b new e =
    (let z : length ts ≡ length ts + 0 = omega arith in ap (λ n. worth (part_values V vals (plain ts (part k b none))) n new) z)
    ∙ worth-plain_past V vals ts (part k b none) 0 new
    ∙ ap (λ c. if c then cden V (new ++ vals) b else None) (eq-eqb (length new) k e)

-- a strict form, by its parts' values
pub cden-strict : (V : Outcomes) (vals : List Datum) (s : Strict) (ts : List Term) → cden V vals (node (Form.strict s) (plain ts none)) ≡ (each (cden V vals) ts >>= strict_value s)
cden-strict V vals s ts = ap (λ o. o >>= strict_value s) (plain-each V vals ts)

pub literal-parts : (ds cs : List Term) → literal_term ds cs ≡ node (Form.strict (Strict.literal (length ds))) (plain (ds ++ cs) none)
literal-parts ds cs = ap (node (Form.strict (Strict.literal (length ds)))) (sym (plain-append ds cs none))

-- the numbers of some terms
abbrev pub numbers_of : Outcomes → List Datum → List Term → Option (List ℕ)
numbers_of V vals ds = each (cden V vals) ds >>= each as_natural

pub bounds_value-tab : (V : Outcomes) (vals : List Datum) (ds : List Term) (b : Term) → bounds_value (length ds) (part_values V vals (parts_of (tab_term ds b))) ≡ numbers_of V vals ds
bounds_value-tab V vals ds b = ap (λ o. o >>= each as_natural) (plain-each_take V vals ds (part (length ds) b none))

pub numbers_of-length : (V : Outcomes) (vals : List Datum) (ds : List Term) (ms : List ℕ) → numbers_of V vals ds ≡ Some ms → length ms ≡ length ds
numbers_of-length V vals ds ms e =
    let r = then-is (each (cden V vals) ds) (each as_natural) ms e in
    each-length as_natural r.0 ms r.2 ∙ each-length (cden V vals) ds r.0 r.1

-- a tabulation
pub cden-tab : (V : Outcomes) (vals : List Datum) (ds : List Term) (b : Term) →
    cden V vals (tab_term ds b) ≡ (numbers_of V vals ds >>= λ ms. each (λ at. cden V (push_index at [] ++ vals) b) (indices ms) >>= array_of ms)
cden-tab V vals ds b =
    ap (λ o. o >>= λ ms. each (λ at. worth (part_values V vals (parts_of (tab_term ds b))) (length ds) (push_index at [])) (indices ms) >>= array_of ms) (bounds_value-tab V vals ds b)
    ∙ then-ext (numbers_of V vals ds) _ _ (λ ms e.
    ap (λ o. o >>= array_of ms) (each-ext _ _ (indices ms) (Every-impl (λ at. length at ≡ length ms) (λ at. worth (part_values V vals (parts_of (tab_term ds b))) (length ds) (push_index at []) ≡ cden V (push_index at [] ++ vals) b)
    (λ at l. worth-last V vals ds (length ds) b (push_index at []) (omega (arith, length-walked at [], l, numbers_of-length V vals ds ms e))) (indices ms) (indices_lengths ms))))

-- turns of parts in a row, where each is entered once
pub parts_settle-plain : (V : Outcomes) (vals : List Datum) (f : Form) (worths : List Part) (i : ℕ) (ts : List Term) (ps : Parts) → ((j : ℕ) → j < length ts → entry_values f worths (i + j) ≡ [] ∷ []) →
    parts_settle V vals f worths i (plain ts ps) ≡ total (settle V vals) ts + parts_settle V vals f worths (i + length ts) ps
parts_settle-plain V vals f worths i [] ps h = let e : i + 0 ≡ i = omega arith in omega (arith, ap (λ n. parts_settle V vals f worths n ps) e)
parts_settle-plain V vals f worths i (t ∷ ts) ps h =
    let z : i + 0 ≡ i = omega arith in
    let y : suc i + length ts ≡ i + suc (length ts) = omega arith in
    let once : total (λ new. settle V (new ++ vals) t) (entry_values f worths i) ≡ settle V vals t + 0 =
    ap (total (λ new. settle V (new ++ vals) t)) (ap (entry_values f worths) (sym z) ∙ h 0 (omega arith)) in
    omega (arith, once, parts_settle-plain V vals f worths (suc i) ts ps (λ j l. (let x : suc i + j ≡ i + suc j = omega arith in ap (entry_values f worths) x) ∙ h (suc j) (omega arith)), ap (λ n. parts_settle V vals f worths n ps) y)

pub settle-strict : (V : Outcomes) (vals : List Datum) (s : Strict) (ts : List Term) →
    settle V vals (node (Form.strict s) (plain ts none)) ≡ strict_turns s (each (cden V vals) ts) + total (settle V vals) ts
settle-strict V vals s ts =
    omega (arith, ap (strict_turns s) (plain-each V vals ts), parts_settle-plain V vals (Form.strict s) (part_values V vals (plain ts none)) 0 ts none (λ j l. refl))

pub settle-let : (V : Outcomes) (vals : List Datum) (e b : Term) → settle V vals (let_term e b) ≡ settle V vals e + if_some (cden V vals e) (λ v. settle V (v ∷ vals) b)
settle-let V vals e b = go (cden V vals e)
  where
    go : (o : Option Datum) → 0 + (settle V vals e + 0 + (total (λ new. settle V (new ++ vals) b) (map (λ v. v ∷ []) (option_to_list o)) + 0)) ≡ settle V vals e + if_some o (λ v. settle V (v ∷ vals) b)
    go None = omega arith
    go (Some v) = omega arith

pub settle-if : (V : Outcomes) (vals : List Datum) (c a b : Term) →
    settle V vals (if_term c a b) ≡ settle V vals c + if_some (cden V vals c >>= as_truth) (λ t. if t then settle V vals a else settle V vals b)
settle-if V vals c a b = go (cden V vals c >>= as_truth)
  where
    go : (o : Option Bool) → 0 + (settle V vals c + 0 + (total (λ new. settle V (new ++ vals) a) (branch true o) + (total (λ new. settle V (new ++ vals) b) (branch false o) + 0)))
        ≡ settle V vals c + if_some o (λ t. if t then settle V vals a else settle V vals b)
    go None = omega arith
    go (Some true) = omega arith
    go (Some false) = omega arith

-- the second part counts only where the first is undefined
pub settle-default_none : (V : Outcomes) (vals : List Datum) (a b : Term) → cden V vals a ≡ None → settle V vals (default_term a b) ≡ settle V vals a + settle V vals b
settle-default_none V vals a b e = rw e (omega arith)

pub settle-default_some : (V : Outcomes) (vals : List Datum) (a b : Term) (v : Datum) → cden V vals a ≡ Some v → settle V vals (default_term a b) ≡ settle V vals a
settle-default_some V vals a b v e = rw e (omega arith)

members-total : (V : Outcomes) (vals : List Datum) (b : Term) (o : Option (List Datum)) →
    total (λ new. settle V (new ++ vals) b) (map (λ m. m ∷ []) (unwrap_or o [])) ≡ if_some o (total (λ m. settle V (m ∷ vals) b))
members-total V vals b None = refl
members-total V vals b (Some ms) = total-map (λ new. settle V (new ++ vals) b) (λ m. m ∷ []) ms

pub settle-big_union : (V : Outcomes) (vals : List Datum) (e b : Term) →
    settle V vals (big_union_term e b) ≡ if_some (cden V vals e >>= as_set) length + settle V vals e + if_some (cden V vals e >>= as_set) (total (λ m. settle V (m ∷ vals) b))
settle-big_union V vals e b = omega (arith, members-total V vals b (cden V vals e >>= as_set))

pub settle-sum : (V : Outcomes) (vals : List Datum) (e b : Term) →
    settle V vals (sum_term e b) ≡ if_some (cden V vals e >>= as_set) length + settle V vals e + if_some (cden V vals e >>= as_set) (total (λ m. settle V (m ∷ vals) b))
settle-sum V vals e b = omega (arith, members-total V vals b (cden V vals e >>= as_set))

pub settle-tab : (V : Outcomes) (vals : List Datum) (ds : List Term) (b : Term) →
    settle V vals (tab_term ds b)
    ≡ length (indices_of (numbers_of V vals ds)) + total (settle V vals) ds + total (λ at. settle V (push_index at [] ++ vals) b) (indices_of (numbers_of V vals ds))
settle-tab V vals ds b =
    let w : List Part = part_values V vals (parts_of (tab_term ds b)) in
    let z : 0 + length ds ≡ length ds = omega arith in
    let body : entry_values (Form.tab (length ds)) w (0 + length ds) ≡ map (λ at. push_index at []) (indices_of (numbers_of V vals ds)) =
    ap (entry_values (Form.tab (length ds)) w) z ∙ rw (le-ltb (length ds) (length ds) (omega arith)) (ap (λ o. map (λ at. push_index at []) (indices_of o)) (bounds_value-tab V vals ds b)) in
    omega (
      arith,
      ap (λ o. length (indices_of o)) (bounds_value-tab V vals ds b),
      parts_settle-plain V vals (Form.tab (length ds)) w 0 ds (part (length ds) b none) (λ j l. (let y : 0 + j ≡ j = omega arith in ap (entry_values (Form.tab (length ds)) w) y) ∙ rw (lt-ltb j (length ds) l) refl),
      ap (total (λ new. settle V (new ++ vals) b)) body,
      total-map (λ new. settle V (new ++ vals) b) (λ at. push_index at []) (indices_of (numbers_of V vals ds)),
    )
