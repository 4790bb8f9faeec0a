-- Each type of a term, encoded, is a type of its array-free form.
use Rattle.std.proofs.Common.{◌≡◌, ℕ, zero, suc, List, [], ◌∷◌, ◌++◌, map, take, drop, replicate, Some, refl, sym, ap, subst, ◌∙◌, arith}
use Rattle.std.proofs.lemmas.List.{length-map, map-append, length-replicate}
use Rattle.std.proofs.lemmas.Option.{slice_get-map}
use Rattle.std.specs.List.{slice_get}
use Rattle.std.specs.Option.{option_map}
use Rattle.aql_value.specs.Lists.{Every}
use Rattle.aql_value.specs.Strict.{Strict}
use Rattle.aql_ty.specs.Types as types
use Rattle.aql_ty.specs.Types.{Ty, IsType, tys_of, index_type}
use Rattle.aql_ty.specs.OperationTypes.{strict_rule}
use Rattle.nrca_term.specs.Term.{Term, Parts, node, none, part, Form, terms_in}
use Rattle.nrca_term.specs.Meaning.{at_position}
use Rattle.nrca_term.specs.Typing.{Arg, arg, form_rule, ctyped, parts_typed, instances}
use Rattle.nrca_term.specs.Laws.TypedLists.{TermsTyped, terms-length}
use Rattle.nrca_graph.specs.Encoding.{pair_type, array_type, encoding_type, encoding_types}
use Rattle.nrca_graph.specs.ArrayFree.{term_at, array_free_node, array_free, array_free_parts}
use Rattle.nrca_graph.specs.Laws.EncodedTypes.{encoding-is_type, encoding-apply, index-is}
use Rattle.nrca_graph.specs.StrictForms.{IsPlain}
use Rattle.nrca_graph.specs.NoArrays.{IsKeptForm}
use Rattle.nrca_graph.specs.Laws.TypedTerms.{naturals, first-typed}
use Rattle.nrca_graph.specs.Laws.TypedForms.{index-graph-typed, subscript-graph-typed, literal-graph-typed, tabulation-graph-typed}

-- an argument with encoded types
abbrev pub encoded_arg : Arg → Arg
encoded_arg a = arg (map encoding_type a.own) (encoding_type a.has)

-- the types of a tuple, encoded
types-listed : (Ts : List Ty) → encoding_types (tys_of Ts) ≡ tys_of (map encoding_type Ts)
types-listed [] = refl
types-listed (T ∷ Ts) = ap (types.type (encoding_type T)) (types-listed Ts)

-- one of several types, encoded
type-found : (Ts : List Ty) (i : ℕ) (T : Ty) → slice_get Ts i ≡ Some T → slice_get (map encoding_type Ts) i ≡ Some (encoding_type T)
type-found Ts i T e = slice_get-map encoding_type Ts i ∙ ap (option_map encoding_type) e

-- numbers are their own encodings
numbers-encoded : (n : ℕ) → map encoding_type (naturals n) ≡ naturals n
numbers-encoded zero = refl
numbers-encoded (suc n) = ap (λ l. types.natural ∷ l) (numbers-encoded n)

-- so are the types of indices
index-encoded : (k : ℕ) → encoding_type (index_type k) ≡ index_type k
index-encoded zero = refl
index-encoded (suc zero) = refl
index-encoded (suc (suc k)) = ap types.product (types-listed (naturals (suc (suc k))) ∙ ap tys_of (numbers-encoded (suc (suc k))))

-- arguments that bind nothing
args-encoded : (Ts : List Ty) → map encoded_arg (map (arg []) Ts) ≡ map (arg []) (map encoding_type Ts)
args-encoded [] = refl
args-encoded (T ∷ Ts) = ap (λ l. arg [] (encoding_type T) ∷ l) (args-encoded Ts)

-- the rule of a kept form that evaluates every part
strict-kept : (s : Strict) (Ts : List Ty) (T : Ty) → IsPlain s → strict_rule s Ts T → strict_rule s (map encoding_type Ts) (encoding_type T)
strict-kept (Strict.nat n) Ts T p r = (ap (map encoding_type) r.0, ap encoding_type r.1)
strict-kept (Strict.bool b) Ts T p r = (ap (map encoding_type) r.0, ap encoding_type r.1)
strict-kept (Strict.text s) Ts T p r = (ap (map encoding_type) r.0, ap encoding_type r.1)
strict-kept Strict.bottom Ts T p r = ap (map encoding_type) r
strict-kept Strict.tuple Ts T p r = (omega (arith, r.0, length-map Ts encoding_type), ap encoding_type r.1 ∙ ap types.product (types-listed Ts))
strict-kept (Strict.proj at of) Ts T p r =
    (map encoding_type r.0, r.1, ap (map encoding_type) r.2 ∙ ap (λ x. types.product x ∷ []) (types-listed r.0), length-map r.0 encoding_type ∙ r.3, r.4, type-found r.0 r.1 T r.5)
strict-kept (Strict.arith op) Ts T p r = (ap (map encoding_type) r.0, ap encoding_type r.1)
strict-kept (Strict.compare op) Ts T p r = (encoding_type r.0, ap (map encoding_type) r.1, ap encoding_type r.2)
strict-kept Strict.empty Ts T p r = (encoding_type r.0, ap (map encoding_type) r.1, ap encoding_type r.2)
strict-kept Strict.single Ts T p r = (encoding_type r.0, ap (map encoding_type) r.1, ap encoding_type r.2)
strict-kept Strict.union Ts T p r = (encoding_type r.0, ap (map encoding_type) r.1, ap encoding_type r.2)
strict-kept Strict.gen Ts T p r = (ap (map encoding_type) r.0, ap encoding_type r.1)
strict-kept Strict.get Ts T p r = ap (map encoding_type) r
strict-kept Strict.sub Ts T p r = absurd p
strict-kept (Strict.dim rank) Ts T p r = absurd p
strict-kept (Strict.index rank) Ts T p r = absurd p
strict-kept (Strict.literal rank) Ts T p r = absurd p

-- what positions have before encoding they have encoded
abbrev pub KeepsPositions : (ℕ → Ty → Type 0) → (ℕ → Ty → Type 0) → Type 0
KeepsPositions G H = (n : ℕ) (T : Ty) → G n T → H n (encoding_type T)

-- the rule of a kept form
rule-kept : (G H : ℕ → Ty → Type 0) → KeepsPositions G H → (env : List Ty) (f : Form) (args : List Arg) (T : Ty) → IsKeptForm f → form_rule G env f args T →
    form_rule H (map encoding_type env) f (map encoded_arg args) (encoding_type T)
rule-kept G H g env (Form.var i) args T k r = (ap (map encoded_arg) r.0, type-found env i T r.1)
rule-kept G H g env (Form.global n) args T k r = (ap (map encoded_arg) r.0, g n T r.1)
rule-kept G H g env Form.bind args T k r = (encoding_type r.0, ap (map encoded_arg) r.1)
rule-kept G H g env Form.choose args T k r = ap (map encoded_arg) r
rule-kept G H g env Form.default args T k r = ap (map encoded_arg) r
rule-kept G H g env Form.big_union args T k r = (encoding_type r.0, encoding_type r.1, ap (map encoded_arg) r.2, ap encoding_type r.3)
rule-kept G H g env Form.sum args T k r = (encoding_type r.0, ap (map encoded_arg) r.1, ap encoding_type r.2)
rule-kept G H g env (Form.tab rank) args T k r = absurd k
rule-kept G H g env (Form.strict s) args T k r = (map encoding_type r.0, ap (map encoded_arg) r.1 ∙ args-encoded r.0, strict-kept s r.0 T k r.2)

-- typed parts that bind nothing, as terms
parts-all : (G : ℕ → Ty → Type 0) (env : List Ty) (Ts : List Ty) (qs : Parts) → parts_typed G env qs (map (arg []) Ts) → TermsTyped G env (terms_in qs) Ts
parts-all G env [] none h = tt
parts-all G env (T ∷ Ts) none h = cc
parts-all G env [] (part k t qs) h = let z : [] ≡ h.0 ∷ h.1 = h.2 in cc
parts-all G env (T ∷ Ts) (part k t qs) h =
    let e : arg [] T ∷ map (arg []) Ts ≡ h.0 ∷ h.1 = h.2 in
    let a : arg [] T ≡ h.0 = cc in
    let b : map (arg []) Ts ≡ h.1 = cc in
    (subst (λ x. ctyped G (x.own ++ env) t x.has) (sym a) h.4, parts-all G env Ts qs (subst (parts_typed G env qs) (sym b) h.5))

-- the first parts, which are numbers
parts-first : (G : ℕ → Ty → Type 0) (env : List Ty) (n : ℕ) (args : List Arg) (qs : Parts) → parts_typed G env qs (replicate n (arg [] types.natural) ++ args) → TermsTyped G env (take n (terms_in qs)) (naturals n)
parts-first G env zero args qs h = tt
parts-first G env (suc n) args none h = let z : arg [] types.natural ∷ (replicate n (arg [] types.natural) ++ args) ≡ [] = h in cc
parts-first G env (suc n) args (part k t qs) h =
    let e : arg [] types.natural ∷ (replicate n (arg [] types.natural) ++ args) ≡ h.0 ∷ h.1 = h.2 in
    let a : arg [] types.natural ≡ h.0 = cc in
    let b : replicate n (arg [] types.natural) ++ args ≡ h.1 = cc in
    (subst (λ x. ctyped G (x.own ++ env) t x.has) (sym a) h.4, parts-first G env n args qs (subst (parts_typed G env qs) (sym b) h.5))

-- the parts behind them
parts-rest : (G : ℕ → Ty → Type 0) (env : List Ty) (n : ℕ) (x : Arg) (Ts : List Ty) (qs : Parts) → parts_typed G env qs (replicate n x ++ map (arg []) Ts) → TermsTyped G env (drop n (terms_in qs)) Ts
parts-rest G env zero x Ts qs h = parts-all G env Ts qs h
parts-rest G env (suc n) x Ts none h = let z : x ∷ (replicate n x ++ map (arg []) Ts) ≡ [] = h in cc
parts-rest G env (suc n) x Ts (part k t qs) h =
    let e : x ∷ (replicate n x ++ map (arg []) Ts) ≡ h.0 ∷ h.1 = h.2 in
    let b : replicate n x ++ map (arg []) Ts ≡ h.1 = cc in
    parts-rest G env n x Ts qs (subst (parts_typed G env qs) (sym b) h.5)

-- the body behind them
parts-body : (G : ℕ → Ty → Type 0) (env : List Ty) (n : ℕ) (x a : Arg) (qs : Parts) → parts_typed G env qs (replicate n x ++ a ∷ []) → ctyped G (a.own ++ env) (term_at (terms_in qs) n) a.has
parts-body G env zero x a none h = let z : a ∷ [] ≡ [] = h in cc
parts-body G env zero x a (part k t qs) h =
    let e : a ∷ [] ≡ h.0 ∷ h.1 = h.2 in
    let b : a ≡ h.0 = cc in
    subst (λ y. ctyped G (y.own ++ env) t y.has) (sym b) h.4
parts-body G env (suc n) x a none h = let z : x ∷ (replicate n x ++ a ∷ []) ≡ [] = h in cc
parts-body G env (suc n) x a (part k t qs) h =
    let e : x ∷ (replicate n x ++ a ∷ []) ≡ h.0 ∷ h.1 = h.2 in
    let b : replicate n x ++ a ∷ [] ≡ h.1 = cc in
    parts-body G env n x a qs (subst (parts_typed G env qs) (sym b) h.5)

-- terms of one type
typed-every : (G : ℕ → Ty → Type 0) (env : List Ty) (A : Ty) (n : ℕ) (ts : List Term) → TermsTyped G env ts (replicate n A) → Every (λ c. ctyped G env c A) ts
typed-every G env A n [] h = tt
typed-every G env A zero (t ∷ ts) h = absurd h
typed-every G env A (suc n) (t ∷ ts) h = (h.0, typed-every G env A n ts h.1)

-- numbers as arguments
numbers-args : (n : ℕ) (args : List Arg) → map encoded_arg (replicate n (arg [] types.natural) ++ args) ≡ replicate n (arg [] types.natural) ++ map encoded_arg args
numbers-args zero args = refl
numbers-args (suc n) args = ap (λ l. arg [] types.natural ∷ l) (numbers-args n args)

-- as many of one type, encoded
cells-encoded : (A : Ty) (n : ℕ) → map encoding_type (replicate n A) ≡ replicate n (encoding_type A)
cells-encoded A zero = refl
cells-encoded A (suc n) = ap (λ l. encoding_type A ∷ l) (cells-encoded A n)

-- a literal's arguments as dimensions and cells
literal-split : (rank n : ℕ) (A : Ty) → map (arg []) (naturals rank ++ replicate n A) ≡ replicate rank (arg [] types.natural) ++ map (arg []) (replicate n A)
literal-split zero n A = refl
literal-split (suc rank) n A = ap (λ l. arg [] types.natural ∷ l) (literal-split rank n A)

-- a node of a kept form
kept-typed : (G H : ℕ → Ty → Type 0) → KeepsPositions G H → (env : List Ty) (f : Form) (args : List Arg) (T : Ty) (qs : Parts) → IsKeptForm f → IsType T → form_rule G env f args T →
    parts_typed H (map encoding_type env) qs (map encoded_arg args) → ctyped H (map encoding_type env) (node f qs) (encoding_type T)
kept-typed G H g env f args T qs k i r h = (encoding-is_type T i, map encoded_arg args, rule-kept G H g env f args T k r, h)

-- a node of a form that evaluates every part
strict-node-typed : (G H : ℕ → Ty → Type 0) → KeepsPositions G H → (env : List Ty) (s : Strict) (args : List Arg) (T : Ty) (qs : Parts) → IsType T → form_rule G env (Form.strict s) args T →
    parts_typed H (map encoding_type env) qs (map encoded_arg args) → ctyped H (map encoding_type env) (array_free_node (Form.strict s) qs) (encoding_type T)
strict-node-typed G H g env (Strict.nat n) args T qs i r h = kept-typed G H g env (Form.strict (Strict.nat n)) args T qs tt i r h
strict-node-typed G H g env (Strict.bool b) args T qs i r h = kept-typed G H g env (Form.strict (Strict.bool b)) args T qs tt i r h
strict-node-typed G H g env (Strict.text s) args T qs i r h = kept-typed G H g env (Form.strict (Strict.text s)) args T qs tt i r h
strict-node-typed G H g env Strict.bottom args T qs i r h = kept-typed G H g env (Form.strict Strict.bottom) args T qs tt i r h
strict-node-typed G H g env Strict.tuple args T qs i r h = kept-typed G H g env (Form.strict Strict.tuple) args T qs tt i r h
strict-node-typed G H g env (Strict.proj at of) args T qs i r h = kept-typed G H g env (Form.strict (Strict.proj at of)) args T qs tt i r h
strict-node-typed G H g env (Strict.arith op) args T qs i r h = kept-typed G H g env (Form.strict (Strict.arith op)) args T qs tt i r h
strict-node-typed G H g env (Strict.compare op) args T qs i r h = kept-typed G H g env (Form.strict (Strict.compare op)) args T qs tt i r h
strict-node-typed G H g env Strict.empty args T qs i r h = kept-typed G H g env (Form.strict Strict.empty) args T qs tt i r h
strict-node-typed G H g env Strict.single args T qs i r h = kept-typed G H g env (Form.strict Strict.single) args T qs tt i r h
strict-node-typed G H g env Strict.union args T qs i r h = kept-typed G H g env (Form.strict Strict.union) args T qs tt i r h
strict-node-typed G H g env Strict.gen args T qs i r h = kept-typed G H g env (Form.strict Strict.gen) args T qs tt i r h
strict-node-typed G H g env Strict.get args T qs i r h = kept-typed G H g env (Form.strict Strict.get) args T qs tt i r h
strict-node-typed G H g env Strict.sub args T qs i r h =
    let e : map encoded_arg args ≡ map (arg []) (array_type r.2.0 (encoding_type T) ∷ naturals r.2.0) =
    ap (map encoded_arg) (r.1 ∙ ap (map (arg [])) r.2.2) ∙ args-encoded (types.array_of r.2.0 T ∷ naturals r.2.0)
    ∙ ap (λ l. map (arg []) (array_type r.2.0 (encoding_type T) ∷ l)) (numbers-encoded r.2.0) in
    subscript-graph-typed H (map encoding_type env) r.2.0 (encoding_type T) (terms_in qs) r.2.1.0 (encoding-is_type T i)
    (parts-all H (map encoding_type env) (array_type r.2.0 (encoding_type T) ∷ naturals r.2.0) qs (subst (parts_typed H (map encoding_type env) qs) e h))
strict-node-typed G H g env (Strict.dim rank) args T qs i r h =
    let A : Ty = encoding_type r.2.0 in
    let e : map encoded_arg args ≡ arg [] (array_type rank A) ∷ [] = ap (map encoded_arg) (r.1 ∙ ap (map (arg [])) r.2.2) in
    let t : encoding_type T ≡ index_type rank = ap encoding_type r.2.3 ∙ index-encoded rank in
    subst (ctyped H (map encoding_type env) (array_free_node (Form.strict (Strict.dim rank)) qs)) (sym t)
    (first-typed H (map encoding_type env) (term_at (terms_in qs) 0) (index_type rank) (types.set_of (pair_type (index_type rank) A)) (index-is rank r.2.1.0)
    (parts-body H (map encoding_type env) 0 (arg [] types.natural) (arg [] (array_type rank A)) qs (subst (parts_typed H (map encoding_type env) qs) e h)))
strict-node-typed G H g env (Strict.index rank) args T qs i r h =
    let A : Ty = encoding_type r.2.0 in
    let e : map encoded_arg args ≡ arg [] (types.set_of (pair_type (index_type rank) A)) ∷ [] =
    ap (map encoded_arg) (r.1 ∙ ap (map (arg [])) r.2.2) ∙ ap (λ I. arg [] (types.set_of (pair_type I A)) ∷ []) (index-encoded rank) in
    let j : IsType (types.array_of rank (types.set_of r.2.0)) = subst IsType r.2.3 i in
    subst (ctyped H (map encoding_type env) (array_free_node (Form.strict (Strict.index rank)) qs)) (sym (ap encoding_type r.2.3))
    (index-graph-typed H (map encoding_type env) rank A (term_at (terms_in qs) 0) r.2.1.0 (encoding-is_type r.2.0 j.1)
    (parts-body H (map encoding_type env) 0 (arg [] types.natural) (arg [] (types.set_of (pair_type (index_type rank) A))) qs (subst (parts_typed H (map encoding_type env) qs) e h)))
strict-node-typed G H g env (Strict.literal rank) args T qs i r h =
    let A : Ty = encoding_type r.2.0 in
    let n : ℕ = r.2.1 in
    let e : map encoded_arg args ≡ replicate rank (arg [] types.natural) ++ map (arg []) (replicate n A) =
    ap (map encoded_arg) (r.1 ∙ ap (map (arg [])) r.2.3 ∙ literal-split rank n r.2.0) ∙ numbers-args rank (map (arg []) (replicate n r.2.0))
    ∙ ap (λ l. replicate rank (arg [] types.natural) ++ l) (args-encoded (replicate n r.2.0) ∙ ap (map (arg [])) (cells-encoded r.2.0 n)) in
    let j : IsType (types.array_of rank r.2.0) = subst IsType r.2.4 i in
    let p : parts_typed H (map encoding_type env) qs (replicate rank (arg [] types.natural) ++ map (arg []) (replicate n A)) = subst (parts_typed H (map encoding_type env) qs) e h in
    let ds = parts-first H (map encoding_type env) rank (map (arg []) (replicate n A)) qs p in
    subst (ctyped H (map encoding_type env) (array_free_node (Form.strict (Strict.literal rank)) qs)) (sym (ap encoding_type r.2.4))
    (literal-graph-typed H (map encoding_type env) rank A (take rank (terms_in qs)) (drop rank (terms_in qs)) r.2.2.0 (encoding-is_type r.2.0 j.1)
    (terms-length H (map encoding_type env) (take rank (terms_in qs)) (naturals rank) ds ∙ length-replicate rank types.natural) ds
    (typed-every H (map encoding_type env) A n (drop rank (terms_in qs)) (parts-rest H (map encoding_type env) rank (arg [] types.natural) (replicate n A) qs p)))

-- a node of any form
node-typed : (G H : ℕ → Ty → Type 0) → KeepsPositions G H → (env : List Ty) (f : Form) (args : List Arg) (T : Ty) (qs : Parts) → IsType T → form_rule G env f args T →
    parts_typed H (map encoding_type env) qs (map encoded_arg args) → ctyped H (map encoding_type env) (array_free_node f qs) (encoding_type T)
node-typed G H g env (Form.var n) args T qs i r h = kept-typed G H g env (Form.var n) args T qs tt i r h
node-typed G H g env (Form.global n) args T qs i r h = kept-typed G H g env (Form.global n) args T qs tt i r h
node-typed G H g env Form.bind args T qs i r h = kept-typed G H g env Form.bind args T qs tt i r h
node-typed G H g env Form.choose args T qs i r h = kept-typed G H g env Form.choose args T qs tt i r h
node-typed G H g env Form.default args T qs i r h = kept-typed G H g env Form.default args T qs tt i r h
node-typed G H g env Form.big_union args T qs i r h = kept-typed G H g env Form.big_union args T qs tt i r h
node-typed G H g env Form.sum args T qs i r h = kept-typed G H g env Form.sum args T qs tt i r h
node-typed G H g env (Form.strict s) args T qs i r h = strict-node-typed G H g env s args T qs i r h
node-typed G H g env (Form.tab rank) args T qs i r h =
    let A : Ty = encoding_type r.0 in
    let E : List Ty = map encoding_type env in
    let a : Arg = arg (naturals rank) A in
    let e : map encoded_arg args ≡ replicate rank (arg [] types.natural) ++ a ∷ [] =
    ap (map encoded_arg) r.2 ∙ numbers-args rank (arg (naturals rank) r.0 ∷ []) ∙ ap (λ own. replicate rank (arg [] types.natural) ++ arg own A ∷ []) (numbers-encoded rank) in
    let j : IsType (types.array_of rank r.0) = subst IsType r.3 i in
    let p : parts_typed H E qs (replicate rank (arg [] types.natural) ++ a ∷ []) = subst (parts_typed H E qs) e h in
    let ds = parts-first H E rank (a ∷ []) qs p in
    subst (ctyped H E (array_free_node (Form.tab rank) qs)) (sym (ap encoding_type r.3))
    (tabulation-graph-typed H E rank A (take rank (terms_in qs)) (term_at (terms_in qs) rank) r.1.0 (encoding-is_type r.0 j.1)
    (terms-length H E (take rank (terms_in qs)) (naturals rank) ds ∙ length-replicate rank types.natural) ds (parts-body H E rank (arg [] types.natural) a qs p))

mutual
  -- each type of a term, encoded, is a type of its array-free form
  pub array_free-typed : (G H : ℕ → Ty → Type 0) → KeepsPositions G H → (t : Term) (env : List Ty) (T : Ty) → ctyped G env t T → ctyped H (map encoding_type env) (array_free t) (encoding_type T)
  array_free-typed G H g (node f ps) env T h = node-typed G H g env f h.1 T (array_free_parts ps) h.0 h.2 (parts-free-typed G H g ps env h.1 h.3)

  parts-free-typed : (G H : ℕ → Ty → Type 0) → KeepsPositions G H → (ps : Parts) (env : List Ty) (args : List Arg) → parts_typed G env ps args →
      parts_typed H (map encoding_type env) (array_free_parts ps) (map encoded_arg args)
  parts-free-typed G H g none env args h = ap (map encoded_arg) h
  parts-free-typed G H g (part k t ps) env args h = (
    encoded_arg h.0,
    map encoded_arg h.1,
    ap (map encoded_arg) h.2,
    length-map h.0.own encoding_type ∙ h.3,
    subst (λ l. ctyped H l (array_free t) (encoding_type h.0.has)) (map-append encoding_type h.0.own env) (array_free-typed G H g t (h.0.own ++ env) h.0.has h.4),
    parts-free-typed G H g ps env h.1 h.5,
  )

-- instances of the types of positions
pub instances-kept : (Ts : List Ty) → KeepsPositions (instances Ts) (instances (map encoding_type Ts))
instances-kept Ts n T h = (encoding_type h.0, (λ x. encoding_type (h.1 x)), at n h.2, ap encoding_type h.3 ∙ encoding-apply h.1 h.0)
  where
    at : (n : ℕ) → at_position Ts n ≡ Some h.0 → at_position (map encoding_type Ts) n ≡ Some (encoding_type h.0)
    at zero e = cc
    at (suc n) e = type-found Ts n h.0 e
