-- What follows from the definitions of `Keeping`.
use Rattle.std.proofs.Common.{◌≡◌, ℕ, zero, suc, ◌+◌, true, false, List, [], ◌∷◌, ◌++◌, length, map, replicate, Some, refl, sym, ap, subst, ◌∙◌, arith, inl, inr}
use Rattle.std.specs.List.{slice_get}
use Rattle.std.proofs.lemmas.List.{length-map, length-replicate}
use Rattle.aql_value.specs.Datum.{Datum, natural}
use Rattle.aql_value.specs.Lists.{Every, below}
use Rattle.aql_value.specs.Laws.Lists.{Every-get, length-below, slice_get-below}
use Rattle.aql_value.specs.Strict.{Strict}
use Rattle.aql_value.specs.Valid.{IsValue}
use Rattle.aql_ty.specs.Types as types
use Rattle.aql_ty.specs.Types.{Ty}
use Rattle.aql_ty.specs.ValueTypes.{HasType, HaveTypes}
use Rattle.aql_ty.specs.Laws.Operation.{has-append}
use Rattle.nrca_term.specs.declared.trace.Rule.{Rule}
use Rattle.nrca_term.specs.declared.trace.Rule.TheVariants.{B1, K1, I1, I2, L1, L2, L3, P1, P2, S1, S2, S3, S4, S5, S6, S7, S8, S9, A1, A2, A3, A4, A5, A6, A7, C1, C2, C3, C4, N1, N2}
use Rattle.nrca_term.specs.Term.{Term, Parts, node, none, part, plain, Form, child_of}
use Rattle.nrca_term.specs.Nodes.{variable, number, let_term, default_term, tuple_term, proj_term, sum_term, single_term, empty_term, tab_term, sub_term, dim_term}
use Rattle.nrca_term.specs.Meaning.{Outcomes, cden}
use Rattle.nrca_term.specs.Laws.Shifting.{cden-shifted}
use Rattle.nrca_term.specs.Subst.{shift_term}
use Rattle.nrca_term.specs.Laws.Sound.{sound}
use Rattle.nrca_term.specs.Typing.{ctyped, OutcomesHave}
use Rattle.nrca_term.specs.Facts.{Context}
use Rattle.nrca_term.specs.Laws.Variants.{child_of-plain_past, child_of-plain_below}
use Rattle.nrca_term.specs.Rules.{Way, Redex, Side, KnownAt, IsDefined, DefinedAt, Atom, Folds, arithmetic, numbers, truths, texts, generated, member, misshapen, Subscript, inside, outside, in_first, others, constant_literal, dimension_terms, index_variables}
use Rattle.nrca_rule_laws.specs.Laws.Operations.{element-there}
use Rattle.nrca_term.specs.Valid.{HasConstants}
use Rattle.nrca_term.specs.Laws.Valid.{cden-valid}
use Rattle.nrca_rule_laws.specs.Laws.Meanings.{keeps-arithmetic, keeps-compared, keeps-b1, keeps-i1, keeps-i2, keeps-let_some, keeps-l2, keeps-l3, keeps-s9, keeps-out_of_let, keeps-a7_sub, keeps-n1, keeps-n2, keeps-known}
use Rattle.nrca_rule_laws.specs.Laws.Beta.{Numeric, cden-beta}
use Rattle.nrca_rule_laws.specs.Laws.Arrays.{domain-defined, inner-defined, others-hold, keeps-p1, keeps-misshapen, keeps-a5_inside, keeps-a5_outside, keeps-a3, keeps-a6}
use Rattle.nrca_rule_laws.specs.Laws.Sets.{IsSet, keeps-s2, keeps-s3, keeps-s5, keeps-s6, keeps-s7, keeps-s8}
use Rattle.nrca_rule_laws.specs.Laws.Dims.{keeps-a2, keeps-a4}
use Rattle.nrca_term.specs.Laws.TypedLists.{TermsTyped, terms-length}
use Rattle.nrca_rule_laws.specs.Laws.Typed.{strict-typed, let-typed, union-typed, sum-typed, tab-typed, one-typed, single-typed, sub-typed, dim-typed, literal-rank}
use Rattle.std.proofs.lemmas.Option.{slice_get_within}
use Rattle.nrca_rule_laws.specs.Keeping.{Given}

-- both sides by equal terms, and ways from an equal term
sides : (V : Outcomes) (vals : List Datum) (l m r s : Term) → l ≡ m → r ≡ s → cden V vals m ≡ cden V vals s → cden V vals l ≡ cden V vals r
sides V vals l m r s e f k = ap (cden V vals) e ∙ k ∙ sym (ap (cden V vals) f)

ways-as : (V : Outcomes) (vals : List Datum) (l m : Term) (ws us : List Way) → l ≡ m → ws ≡ us → Every (DefinedAt V vals l) ws → Every (DefinedAt V vals m) us
ways-as V vals l m ws us e f h = subst (λ x. Every (DefinedAt V vals x) us) e (subst (Every (DefinedAt V vals l)) f h)

-- the bound term of a let, and the first part of a default
first-defined : (V : Outcomes) (vals : List Datum) (e b : Term) → DefinedAt V vals (let_term e b) (0 ∷ []) → IsDefined V vals e
first-defined V vals e b h = (h e refl).0

default-first : (V : Outcomes) (vals : List Datum) (a b : Term) → DefinedAt V vals (default_term a b) (0 ∷ []) → IsDefined V vals a
default-first V vals a b h = (h a refl).0

-- a value of a set type is a set of the language
set-of : (A : Ty) (v : Datum) → HasType (types.set_of A) v → IsSet v
set-of A v h = (h.0, h.1, h.2)

-- an atom has a value
atom-defined : (G : ℕ → Ty → Type 0) (V : Outcomes) (env : List Ty) (vals : List Datum) (a b : Term) (A : Ty) (ws : List Way) → HaveTypes env vals → ctyped G env a A → Atom a ws → Every (DefinedAt V vals (let_term a b)) ws → IsDefined V vals a
atom-defined G V env vals (node (Form.var i) ps) b A ws h ty k d = element-there env vals i A h ty.2.1
atom-defined G V env vals (node (Form.global n) ps) b A ws h ty k d = first-defined V vals (node (Form.global n) ps) b (subst (Every (DefinedAt V vals (let_term (node (Form.global n) ps) b))) k.1 d).0
atom-defined G V env vals (node (Form.strict (Strict.nat n)) ps) b A ws h ty k d = subst (λ q. IsDefined V vals (node (Form.strict (Strict.nat n)) q)) (sym k.0) (_, refl)
atom-defined G V env vals (node (Form.strict (Strict.bool x)) ps) b A ws h ty k d = subst (λ q. IsDefined V vals (node (Form.strict (Strict.bool x)) q)) (sym k.0) (_, refl)
atom-defined G V env vals (node (Form.strict (Strict.text s)) ps) b A ws h ty k d = subst (λ q. IsDefined V vals (node (Form.strict (Strict.text s)) q)) (sym k.0) (_, refl)
atom-defined G V env vals (node (Form.strict Strict.empty) ps) b A ws h ty k d = subst (λ q. IsDefined V vals (node (Form.strict Strict.empty) q)) (sym k.0) (_, refl)
atom-defined G V env vals _ b A ws h ty k d = absurd k

-- terms of numbers are numeric
pub numeric-terms : (G : ℕ → Ty → Type 0) (V : Outcomes) (env : List Ty) (vals : List Datum) → OutcomesHave G V → HaveTypes env vals → (n : ℕ) (ts : List Term) → TermsTyped G env ts (replicate n types.natural) → Every (Numeric V vals) ts
numeric-terms G V env vals g h zero [] k = tt
numeric-terms G V env vals g h zero (t ∷ ts) k = absurd k
numeric-terms G V env vals g h (suc n) [] k = absurd k
numeric-terms G V env vals g h (suc n) (t ∷ ts) k = ((λ v e. sound G V g t env vals types.natural v h k.0 e), numeric-terms G V env vals g h n ts k.1)

-- operations on constants
keeps-folds : (G : ℕ → Ty → Type 0) (V : Outcomes) (vals : List Datum) (l r : Term) → Folds l r → cden V vals l ≡ cden V vals r
keeps-folds G V vals l r (arithmetic op m n e k) = sides V vals l _ r _ e k (keeps-arithmetic V vals op m n)
keeps-folds G V vals l r (numbers op m n e k) = sides V vals l _ r _ e k ((keeps-compared V vals op).0 m n)
keeps-folds G V vals l r (truths op a b e k) = sides V vals l _ r _ e k ((keeps-compared V vals op).1 a b)
keeps-folds G V vals l r (texts op s t e k) = sides V vals l _ r _ e k ((keeps-compared V vals op).2 s t)
keeps-folds G V vals l r (generated e k) = ap (cden V vals) e ∙ sym (ap (cden V vals) k)
keeps-folds G V vals l r (member e k) = ap (cden V vals) e ∙ sym (ap (cden V vals) k)
keeps-folds G V vals l r (misshapen ns cs e h k) = ap (cden V vals) e ∙ keeps-misshapen V vals ns cs h ∙ sym (ap (cden V vals) k)

-- a cell of a literal that is the first part of an operation
cell-defined : (V : Outcomes) (vals : List Datum) (s : Strict) (ns : List ℕ) (cs : List Term) (rest : Parts) (i : ℕ) (x : Term) → slice_get cs i ≡ Some x → DefinedAt V vals (node (Form.strict s) (part 0 (constant_literal ns cs) rest)) (0 ∷ (length ns + i) ∷ []) → IsDefined V vals x
cell-defined V vals s ns cs rest i x e h =
    inner-defined V vals s (Strict.literal (length (map number ns))) (plain (map number ns) (plain cs none)) rest (length ns + i) x
    ((let z : length ns + i ≡ length (map number ns) + i = omega (arith, length-map ns number) in ap (child_of (plain (map number ns) (plain cs none))) z) ∙ child_of-plain_past (map number ns) (plain cs none) i ∙ child_of-plain_below cs none i x e) h

-- the cell is defined where there is one
Cell : Outcomes → List Datum → List Term → ℕ → Type 0
Cell V vals cs i = (x : Term) → slice_get cs i ≡ Some x → IsDefined V vals x

-- the cells to which ways lead are defined
cells-of : (V : Outcomes) (vals : List Datum) (s : Strict) (ns : List ℕ) (cs : List Term) (rest : Parts) (js : List ℕ) → Every (DefinedAt V vals (node (Form.strict s) (part 0 (constant_literal ns cs) rest))) (in_first (map (λ i. length ns + i) js)) → Every (Cell V vals cs) js
unfolding Cell
cells-of V vals s ns cs rest [] h = tt
cells-of V vals s ns cs rest (j ∷ js) h = ((λ x e. cell-defined V vals s ns cs rest j x e h.0), cells-of V vals s ns cs rest js h.1)

-- numbers for the variables of an index
zeros : (G : ℕ → Ty → Type 0) (k : ℕ) → HaveTypes (replicate k types.natural) (replicate k (natural 0))
zeros G zero = tt
zeros G (suc k) = ((0, refl), zeros G k)

-- an index has as many variables as its rank
pub index_variables-length : (k : ℕ) → length (index_variables k) ≡ k
index_variables-length zero = refl
index_variables-length (suc k) = ap suc (index_variables-length k)

-- an array has as many dimensions as its rank
pub dimension_terms-length : (k : ℕ) (r : Term) → length (dimension_terms k r) ≡ k
dimension_terms-length k r = length-map (below k) _ ∙ length-below k

-- each rule
pub rule-keeps : (G : ℕ → Ty → Type 0) (V : Outcomes) (c : Context) (env : List Ty) (vals : List Datum) (T : Ty) (R : Rule) (l r : Term) (ws : List Way) → Given G V c env vals l T → Redex R l r ws → Side V R vals l r ws → KnownAt R c l → cden V vals l ≡ cden V vals r
unfolding Cell
rule-keeps G V c env vals T B1 l r ws g x s k = keeps-b1 V vals l x.0 x.1 x.2 ∙ sym (ap (cden V vals) x.3)
rule-keeps G V c env vals T K1 l r ws g x s k = keeps-folds G V vals l r x.0
rule-keeps G V c env vals T I1 l r ws g x s k = sides V vals l _ r _ x.3 x.4 (keeps-i1 V vals x.0 x.1 x.2)
rule-keeps G V c env vals T I2 l r ws g x s k = sides V vals l _ r _ x.6 x.7 (keeps-i2 V vals x.0 x.1 x.2 x.3 x.4 x.5)
rule-keeps G V c env vals T L1 l r ws g x s k =
    let ty = let-typed G env x.0 x.1 T (subst (λ y. ctyped G env y T) x.3 g.typed) in
    let d = atom-defined G V env vals x.0 x.1 ty.0 ws g.have ty.1 x.2 (ways-as V vals l (let_term x.0 x.1) ws ws x.3 refl s.0) in
    sides V vals l _ r _ x.3 x.4 (keeps-let_some V vals x.0 x.1 d.0 d.1)
rule-keeps G V c env vals T L2 l r ws g x s k = sides V vals l _ r _ x.4 x.5 (keeps-l2 V vals x.0 x.1 x.3)
rule-keeps G V c env vals T L3 l r ws g x s k =
    let d = ways-as V vals l (let_term x.0 (shift_term 0 1 r)) ws ((0 ∷ []) ∷ []) x.1 x.2 s.0 in
    ap (cden V vals) x.1 ∙ keeps-l3 V vals x.0 r (first-defined V vals x.0 (shift_term 0 1 r) d.0)
rule-keeps G V c env vals T P1 l r ws g x s k =
    let ty = strict-typed G env (Strict.proj (suc x.0) (length x.1)) (tuple_term x.1 ∷ []) T (subst (λ y. ctyped G env y T) x.2 g.typed) in
    let tt' = one-typed G env (tuple_term x.1) ty.0 (types.product (types.tys_of ty.1.0)) ty.1.2 ty.2 in
    let q = strict-typed G env Strict.tuple x.1 (types.product (types.tys_of ty.1.0)) tt' in
    ap (cden V vals) x.2 ∙ keeps-p1 V vals x.0 x.1 r x.3 (omega (arith, q.1.0, terms-length G env x.1 q.0 q.2)) (ways-as V vals l (proj_term (suc x.0) (length x.1) (tuple_term x.1)) ws (in_first (others x.0 (length x.1))) x.2 x.4 s.0)
rule-keeps G V c env vals T P2 l r ws g x s k = sides V vals l _ r _ x.4 x.5 (keeps-out_of_let V vals (Strict.proj x.0 x.1) x.2 x.3)
rule-keeps G V c env vals T S1 l r ws g x s k = ap (cden V vals) x.1 ∙ sym (ap (cden V vals) x.2)
rule-keeps G V c env vals T S2 l r ws g x s k =
    let u = union-typed G env (single_term x.0) x.1 T (subst (λ y. ctyped G env y T) x.2 g.typed) in
    let a = single-typed G env x.0 u.0 u.3 in
    sides V vals l _ r _ x.2 x.3 (keeps-s2 V vals x.0 x.1
    (λ v e w f. set-of u.1 w (sound G V g.outcomes x.1 (u.0 ∷ env) (v ∷ vals) (types.set_of u.1) w (sound G V g.outcomes x.0 env vals u.0 v g.have a e, g.have) u.4 f)))
rule-keeps G V c env vals T S3 l r ws g x s k = sides V vals l _ r _ x.3 x.4 (keeps-s3 V vals x.0 x.1 x.2)
rule-keeps G V c env vals T S4 l r ws g x s k = ap (cden V vals) x.1 ∙ sym (ap (cden V vals) x.2)
rule-keeps G V c env vals T S5 l r ws g x s k =
    let u = sum-typed G env (single_term x.0) x.1 T (subst (λ y. ctyped G env y T) x.2 g.typed) in
    let a = single-typed G env x.0 u.0 u.2 in
    let h : HasConstants (sum_term (single_term x.0) x.1) = subst HasConstants x.2 g.constants in
    sides V vals l _ r _ x.2 x.3 (keeps-s5 V vals x.0 x.1
    (λ v e w f.
    let n = sound G V g.outcomes x.1 (u.0 ∷ env) (v ∷ vals) types.natural w (sound G V g.outcomes x.0 env vals u.0 v g.have a e, g.have) u.3 f in
    let i = cden-valid V g.are x.1 (v ∷ vals) w h.1.1.0 (cden-valid V g.are x.0 vals v h.1.0.1.0 g.values e, g.values) f in
    (n.0, n.1, subst IsValue n.1 i)))
rule-keeps G V c env vals T S6 l r ws g x s k =
    let u = union-typed G env r (single_term (variable 0)) T (subst (λ y. ctyped G env y T) x.0 g.typed) in
    ap (cden V vals) x.0 ∙ keeps-s6 V vals r (λ v e. set-of u.0 v (sound G V g.outcomes r env vals (types.set_of u.0) v g.have u.3 e))
rule-keeps G V c env vals T S7 l r ws g x s k =
    elim x.0 [
      | inl e ↦
          let t = strict-typed G env Strict.union (r ∷ empty_term ∷ []) T (subst (λ y. ctyped G env y T) e g.typed) in
          let q = subst (TermsTyped G env (r ∷ empty_term ∷ [])) t.1.1 t.2 in
          ap (cden V vals) e ∙ (keeps-s7 V vals r (λ v f. set-of t.1.0 v (sound G V g.outcomes r env vals (types.set_of t.1.0) v g.have q.0 f))).0
      | inr e ↦
          let t = strict-typed G env Strict.union (empty_term ∷ r ∷ []) T (subst (λ y. ctyped G env y T) e g.typed) in
          let q = subst (TermsTyped G env (empty_term ∷ r ∷ [])) t.1.1 t.2 in
          ap (cden V vals) e ∙ (keeps-s7 V vals r (λ v f. set-of t.1.0 v (sound G V g.outcomes r env vals (types.set_of t.1.0) v g.have q.1.0 f))).1
    ]
rule-keeps G V c env vals T S8 l r ws g x s k = ap (cden V vals) x.0 ∙ keeps-s8 V vals r
rule-keeps G V c env vals T S9 l r ws g x s k = sides V vals l _ r _ x.6 x.7 (keeps-s9 V vals x.0 x.1 x.2 x.3 x.4 x.5)
rule-keeps G V c env vals T A1 l r ws g x s k =
    let u = sub-typed G env (tab_term x.0 x.1) x.2 T (subst (λ y. ctyped G env y T) x.4 g.typed) in
    let t = tab-typed G env x.0 x.1 (types.array_of u.0 T) u.2 in
    let d = ways-as V vals l (sub_term (tab_term x.0 x.1) x.2) ws (in_first (length x.0 ∷ [])) x.4 x.6 s.0 in
    sides V vals l _ r _ x.4 x.5
    (cden-beta V vals x.0 x.1 x.2 x.3 t.1.0 t.1.1 (numeric-terms G V env vals g.outcomes g.have (length x.0) x.0 t.3) (numeric-terms G V env vals g.outcomes g.have u.0 x.2 u.3)
    (domain-defined V vals Strict.sub x.0 x.1 (plain x.2 none) d.0))
rule-keeps G V c env vals T A2 l r ws g x s k =
    let n = x.0 in
    let t = tab-typed G env (dimension_terms x.0 r) (sub_term (shift_term 0 x.0 r) (index_variables x.0)) T (subst (λ y. ctyped G env y T) x.2 g.typed) in
    let m : length (dimension_terms x.0 r) ≡ x.0 = dimension_terms-length x.0 r in
    let u = sub-typed G (replicate (length (dimension_terms x.0 r)) types.natural ++ env) (shift_term 0 x.0 r) (index_variables x.0) t.0 t.4 in
    let z : u.0 ≡ x.0 = sym (sym (index_variables-length x.0) ∙ terms-length G (replicate (length (dimension_terms x.0 r)) types.natural ++ env) (index_variables x.0) (replicate u.0 types.natural) u.3 ∙ length-replicate u.0 types.natural) in
    let w : ctyped G (replicate x.0 types.natural ++ env) (shift_term 0 x.0 r) (types.array_of x.0 t.0) =
    subst (λ q. ctyped G (replicate q types.natural ++ env) (shift_term 0 x.0 r) (types.array_of x.0 t.0)) m (subst (λ q. ctyped G (replicate (length (dimension_terms x.0 r)) types.natural ++ env) (shift_term 0 x.0 r) (types.array_of q t.0)) z u.2) in
    ap (cden V vals) x.2 ∙ keeps-a2 V vals x.0 r t.0 x.1 (omega (arith, m, t.1.1))
    (λ v e. sound G V g.outcomes (shift_term 0 x.0 r) (replicate x.0 types.natural ++ env) (replicate x.0 (natural 0) ++ vals) (types.array_of x.0 t.0) v (has-append (replicate x.0 types.natural) env (replicate x.0 (natural 0)) vals (zeros G x.0) g.have) w
    (ap (λ j. cden V (replicate x.0 (natural 0) ++ vals) (shift_term 0 j r)) (sym (length-replicate x.0 (natural 0))) ∙ cden-shifted V (replicate x.0 (natural 0)) vals r ∙ e))
rule-keeps G V c env vals T A3 l r ws g x s k =
    let u = dim-typed G env (length x.0) (tab_term x.0 x.1) T (subst (λ y. ctyped G env y T) x.2 g.typed) in
    let t = tab-typed G env x.0 x.1 (types.array_of (length x.0) u.0) u.2 in
    let d = ways-as V vals l (dim_term (length x.0) (tab_term x.0 x.1)) ws (in_first (length x.0 ∷ [])) x.2 x.4 s.0 in
    sides V vals l _ r _ x.2 x.3 (keeps-a3 V vals x.0 x.1 t.1.0 t.1.1 (numeric-terms G V env vals g.outcomes g.have (length x.0) x.0 t.3) (domain-defined V vals (Strict.dim (length x.0)) x.0 x.1 none d.0))
rule-keeps G V c env vals T A4 l r ws g x s k =
    let q = let-typed G env (tab_term x.0 x.1) x.2 T (subst (λ y. ctyped G env y T) x.5 g.typed) in
    let t = tab-typed G env x.0 x.1 q.0 q.1 in
    sides V vals l _ r _ x.5 x.6 (keeps-a4 G V vals env x.0 x.1 x.2 t.0 T t.1.0 (numeric-terms G V env vals g.outcomes g.have (length x.0) x.0 t.3) (subst (λ A. ctyped G (A ∷ env) x.2 T) t.2 q.2))
rule-keeps G V c env vals T A5 l r ws g x s k = at x
  where
    at : Subscript l r ws → cden V vals l ≡ cden V vals r
    at (inside ns cs is p e a b d f) =
        let u = sub-typed G env (constant_literal ns cs) (map number is) T (subst (λ y. ctyped G env y T) e g.typed) in
        let rk = literal-rank G env ns cs (types.array_of u.0 T) u.2 in
        let w = ways-as V vals l (sub_term (constant_literal ns cs) (map number is)) ws (in_first (map (λ i. length ns + i) (others p (length cs)))) e f s.0 in
        ap (cden V vals) e ∙ keeps-a5_inside V vals ns cs is p r a rk.0 rk.1 b d
        (λ i y n q. others-hold (λ i. (y : Term) → slice_get cs i ≡ Some y → IsDefined V vals y) p (length cs) (cells-of V vals Strict.sub ns cs (plain (map number is) none) (others p (length cs)) w) i (slice_get_within cs i y q) n y q)
    at (outside ns cs is e a b d f h) =
        let u = sub-typed G env (constant_literal ns cs) (map number is) T (subst (λ y. ctyped G env y T) e g.typed) in
        let rk = literal-rank G env ns cs (types.array_of u.0 T) u.2 in
        ap (cden V vals) e ∙ keeps-a5_outside V vals ns cs is a rk.0 rk.1 d ∙ sym (ap (cden V vals) f)
rule-keeps G V c env vals T A6 l r ws g x s k =
    let u = dim-typed G env (length x.0) (constant_literal x.0 x.1) T (subst (λ y. ctyped G env y T) x.2 g.typed) in
    let w = ways-as V vals l (dim_term (length x.0) (constant_literal x.0 x.1)) ws (in_first (map (λ i. length x.0 + i) (below (length x.1)))) x.2 x.5 s.0 in
    sides V vals l _ r _ x.2 x.4 (keeps-a6 V vals x.0 x.1 x.3 u.1.0 u.1.1
    (λ i y e. Every-get (λ i. (y : Term) → slice_get x.1 i ≡ Some y → IsDefined V vals y) (below (length x.1)) i i (cells-of V vals (Strict.dim (length x.0)) x.0 x.1 none (below (length x.1)) w) (slice_get-below (length x.1) i (slice_get_within x.1 i y e)) y e))
rule-keeps G V c env vals T A7 l r ws g x s k =
    elim x.2 [
      | inl y ↦ sides V vals l _ r _ y.1 y.2 (keeps-a7_sub V vals x.0 x.1 y.0)
      | inr y ↦ sides V vals l _ r _ y.1 y.2 (keeps-out_of_let V vals (Strict.dim y.0) x.0 x.1)
    ]
rule-keeps G V c env vals T C1 l r ws g x s k = keeps-known V c vals l g.facts true (inl (inl k, refl)) ∙ sym (ap (cden V vals) x.1)
rule-keeps G V c env vals T C2 l r ws g x s k = keeps-known V c vals l g.facts true (inl (inr k, refl)) ∙ sym (ap (cden V vals) x.1)
rule-keeps G V c env vals T C3 l r ws g x s k = keeps-known V c vals l g.facts false (inr (k, refl)) ∙ sym (ap (cden V vals) x.1)
rule-keeps G V c env vals T C4 l r ws g x s k = s.1 x.1.0 x.1.1 ∙ sym (ap (cden V vals) x.1.1)
rule-keeps G V c env vals T N1 l r ws g x s k = ap (cden V vals) x.0 ∙ keeps-n1 V vals r
rule-keeps G V c env vals T N2 l r ws g x s k =
    ap (cden V vals) x.1 ∙ keeps-n2 V vals r x.0 (default-first V vals r x.0 (ways-as V vals l (default_term r x.0) ws ((0 ∷ []) ∷ []) x.1 x.2 s.0).0)
