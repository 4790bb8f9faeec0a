-- Where A4 fits, and its right side.
use Rattle.std.proofs.Common.{◌≡◌, ℕ, zero, suc, ◌+◌, ◌<◌, ◌≤◌, ◌^◌, inl, inr, Bool, true, false, List, [], ◌∷◌, length, get_or, refl, sym, ap, subst, ◌∙◌, arith}
use Rattle.std.proofs.lemmas.Bool.{cases_lt}
use Rattle.aql_value.specs.Lists.{Every}
use Rattle.nrca_term.specs.declared.trace.Rule.TheVariants.{A4}
use Rattle.nrca_term.specs.Term.{Term, Parts, none, part, plain, WellFormed, Closed, PartsClosed, weight_of, parts_weight, parts_of}
use Rattle.nrca_term.specs.Nodes.{let_term, tab_term, tuple_term, bottom_term}
use Rattle.nrca_term.specs.Subst.{shift_term, top_var}
use Rattle.nrca_term.specs.Laws.Shift.{top_var-shift_le}
use Rattle.nrca_term.specs.Laws.TypedForm.{top_var-closed}
use Rattle.nrca_term.specs.Rules.{IsVariableOrNumber, dims_of_var, replace_dims, sizes_term}
use Rattle.nrca_rule_laws.specs.Fitting.{RuleFits, IsSmallPart, IsRight}
use Rattle.nrca_rule_laws.specs.Laws.Fitting.{right-side}
use Rattle.nrca_term.specs.Laws.Lists.{plain-same}
use Rattle.nrca_arrayrules.proofs.Sides.{false-true}
use Rattle.nrca_arrayrules.proofs.SubscriptSides.{any-item}
use Rattle.nrca_arrayrules.proofs.TabulationSides.{tab-same}
use Rattle.nrca_arrayrules.specs.Replacing.{HasRoom}

-- equal lets of tabulations have equal bounds and bodies
let-same : (ds es : List Term) (x y b c : Term) → let_term (tab_term ds x) b ≡ let_term (tab_term es y) c → (ds ≡ es) × (b ≡ c)
let-same ds es x y b c e =
    let z : tab_term ds x ≡ tab_term es y = cc in
    ((tab-same ds es x y z).0, cc)

-- A4 fits exactly the lets of plain bounds whose body asks
pub a4_tells : (r : Bool) (t o x b : Term) (ds : List Term) → t ≡ let_term o b → o ≡ tab_term ds x → (r ≡ true → Every IsVariableOrNumber ds × (1 ≤ dims_of_var 0 b)) → (Every IsVariableOrNumber ds × (1 ≤ dims_of_var 0 b) → r ≡ true) → RuleFits A4 r t
a4_tells true t o x b ds h k f g =
    let w = f refl in
    (let_term (tab_term ds x) (replace_dims 0 (shift_term 0 1 (sizes_term ds)) b), [], (ds, x, b, w.0, w.1, h ∙ ap (λ z. let_term z b) k, refl, refl))
a4_tells false t o x b ds h k f g = λ r ws y.
    let z = let-same ds y.0 x y.1 b y.2 (ap (λ z. let_term z b) (sym k) ∙ sym h ∙ y.5) in
    false-true (g (subst (Every IsVariableOrNumber) (sym z.0) y.3, omega (arith, y.4, ap (dims_of_var 0) z.1)))

-- the replaced body under the same bound term is the right side of A4
pub a4_right : (t o x b r p c : Term) (ds : List Term) → t ≡ let_term o b → o ≡ tab_term ds x → RuleFits A4 true t → r ≡ let_term p c → p ≡ tab_term ds x → c ≡ replace_dims 0 (shift_term 0 1 (sizes_term ds)) b → IsRight A4 t r
a4_right t o x b r p c ds h k f q u v =
    let y = f.2 in
    let z = let-same ds y.0 x y.1 b y.2 (ap (λ z. let_term z b) (sym k) ∙ sym h ∙ y.5) in
    right-side A4 t r [] (ds, x, b, subst (Every IsVariableOrNumber) (sym z.0) y.3, omega (arith, y.4, ap (dims_of_var 0) z.1), h ∙ ap (λ z. let_term z b) k, q ∙ ap (λ z. let_term z c) u ∙ ap (let_term (tab_term ds x)) v, refl)

-- a size has no variable that its bounds have not
size-top : (ds : List Term) → top_var (sizes_term ds) ≤ top_var (tuple_term ds)
size-top [] = omega arith
size-top (d ∷ []) = omega arith
size-top (d ∷ e ∷ ds) = omega arith

-- the bounds of a closed tabulation are closed
pub bounds-closed : (n : ℕ) (ds : List Term) (ps : Parts) → PartsClosed n (plain ds ps) → PartsClosed n (plain ds none)
bounds-closed n [] ps h = tt
bounds-closed n (d ∷ ds) ps h = (h.0, bounds-closed n ds ps h.1)

-- the bounds weigh no more than the tabulation
pub bounds-light : (ds : List Term) (x : Term) → weight_of (tuple_term ds) ≤ weight_of (tab_term ds x)
bounds-light ds x = omega (arith, tail-light ds (part (length ds) x none))
  where
    tail-light : (ds : List Term) (ps : Parts) → parts_weight (plain ds none) ≤ parts_weight (plain ds ps)
    tail-light [] ps = omega arith
    tail-light (d ∷ ds) ps = omega (arith, tail-light ds ps)

-- how high the variables of a size are
size-small : (n : ℕ) (t o x b : Term) (ds : List Term) → t ≡ let_term o b → o ≡ tab_term ds x → WellFormed (tuple_term ds) → Closed n t → top_var (sizes_term ds) < n + weight_of (tab_term ds x)
size-small n t o x b ds h k w c =
    let z = subst (Closed n) (h ∙ ap (λ z. let_term z b) k) c in
    let y : n + 0 ≡ n = omega arith in
    let p : Closed n (tab_term ds x) = subst (λ m. Closed m (tab_term ds x)) y z.1.0 in
    let q : Closed n (tuple_term ds) = (tt, bounds-closed n ds (part (length ds) x none) p.1) in
    omega (arith, size-top ds, top_var-closed n (tuple_term ds) w q, bounds-light ds x)

-- there is room for the shifted size
pub size-room : (t o x b : Term) (ds : List Term) → t ≡ let_term o b → o ≡ tab_term ds x → WellFormed (tuple_term ds) → IsSmallPart t → top_var (shift_term 0 1 (sizes_term ds)) < 2 ^ 64
size-room t o x b ds h k w i =
    omega (arith, size-small i.0 t o x b ds h k w i.1, i.2, ap weight_of (h ∙ ap (λ z. let_term z b) k), top_var-shift_le 0 1 (sizes_term ds))

-- there is room for it in the body
pub body-room : (t o x b : Term) (ds : List Term) → t ≡ let_term o b → o ≡ tab_term ds x → WellFormed (tuple_term ds) → IsSmallPart t → HasRoom 0 (shift_term 0 1 (sizes_term ds)) b
body-room t o x b ds h k w i =
    omega (arith, size-small i.0 t o x b ds h k w i.1, i.2, ap weight_of (h ∙ ap (λ z. let_term z b) k), top_var-shift_le 0 1 (sizes_term ds))

-- each term is plain, by its place
pub every-plain : (ts : List Term) → ((j : ℕ) → j < length ts → IsVariableOrNumber (get_or ts j bottom_term)) → Every IsVariableOrNumber ts
every-plain [] h = tt
every-plain (t ∷ ts) h = (h 0 (omega arith), every-plain ts (λ j l. h (suc j) (omega (arith, l))))

pub plain-at : (ts : List Term) (j : ℕ) (u : Term) → j < length ts → u ≡ get_or ts j u → Every IsVariableOrNumber ts → IsVariableOrNumber u
plain-at [] j u l e h = absurd (omega (arith, l))
plain-at (t ∷ ts) zero u l e h = subst IsVariableOrNumber (sym e) h.0
plain-at (t ∷ ts) (suc j) u l e h = plain-at ts j u (omega (arith, l)) e h.1

-- one term more is plain
pub plain-next : (ts : List Term) (j : ℕ) (u : Term) → j < length ts → u ≡ get_or ts j u → IsVariableOrNumber u → ((i : ℕ) → i < j → IsVariableOrNumber (get_or ts i bottom_term)) → (i : ℕ) → i < j + 1 → IsVariableOrNumber (get_or ts i bottom_term)
plain-next ts j u l e h old i m = elim (cases_lt i j) as (λ _. IsVariableOrNumber (get_or ts i bottom_term)) [
  | inl x ↦ old i x
  | inr x ↦ let z : j ≡ i = omega (arith, x, m) in subst (λ a. IsVariableOrNumber (get_or ts a bottom_term)) z (subst IsVariableOrNumber (e ∙ any-item ts j u l) h)
]

-- equal tuples have equal parts
pub tuple-items : (t : Term) (ts us : List Term) → t ≡ tuple_term ts → t ≡ tuple_term us → us ≡ ts
tuple-items t ts us h k =
    let e : plain us none ≡ plain ts none = ap parts_of (sym k ∙ h) in
    plain-same us ts e
