-- The induction on a term: its array-free form means the encoded value.
use Rattle.std.proofs.Common.{◌≡◌, ℕ, ◌<◌, ◌^◌, arith, Bool, true, false, nat_eq, List, [], ◌∷◌, ◌++◌, length, map, replicate, Option, Some, None, refl, sym, ap, subst, ◌∙◌, if◌then◌else◌}
use Rattle.std.proofs.lemmas.List.{map-append}
use Rattle.aql_value.specs.Datum.{Datum}
use Rattle.aql_value.specs.Partial.{◌>>=◌, each}
use Rattle.aql_value.specs.Strict.{Strict, strict_value}
use Rattle.aql_ty.specs.Types as types
use Rattle.aql_ty.specs.Types.{Ty, index_type}
use Rattle.aql_ty.specs.Laws.Operation.{has-append}
use Rattle.aql_ty.specs.OperationTypes.{strict_rule}
use Rattle.aql_ty.specs.ValueTypes.{HaveTypes}
use Rattle.nrca_term.specs.Term.{Term, Parts, node, none, part, Form, weight_of, parts_weight, terms_in}
use Rattle.nrca_term.specs.Laws.Measure.{parts_weight-count}
use Rattle.nrca_term.specs.Typing.{Arg, arg, form_rule, ctyped, parts_typed, OutcomesHave}
use Rattle.nrca_term.specs.Meaning.{Outcomes, Part, here, form_value, cden, part_values}
use Rattle.nrca_term.specs.Laws.Sound.{AllSound, parts-sound, sounds}
use Rattle.nrca_graph.specs.Encoding.{encoding, encode_outcome, pair_type}
use Rattle.nrca_graph.specs.Laws.EncodingOrder.{length-encoded}
use Rattle.nrca_graph.specs.Laws.TranslatedParts.{BindersFit, here-mirror, here-types, typed-binders, length-terms}
use Rattle.nrca_graph.specs.Laws.TabulationNode.{tab_args, tabulation-node}
use Rattle.nrca_graph.specs.Laws.LiteralNode.{literal_args, literal-args, literal-node}
use Rattle.nrca_graph.specs.NoArrays.{IsKeptForm}
use Rattle.nrca_graph.specs.Laws.IndexNode.{index-node}
use Rattle.nrca_graph.specs.Laws.SubscriptNode.{subscript-node, dimension-node}
use Rattle.nrca_graph.specs.ArrayFree.{array_free, array_free_parts, array_free_node}
use Rattle.nrca_graph.specs.Laws.KeptForms.{AllMirror, form-mirror}
use Rattle.nrca_graph.specs.StrictForms.{IsPlain}
use Rattle.nrca_graph.specs.Laws.StrictForms.{strict-mirror}

-- a kept form is kept
pub kept-node : (f : Form) (ps : Parts) → IsKeptForm f → array_free_node f ps ≡ node f ps
kept-node (Form.var n) ps h = refl
kept-node (Form.global n) ps h = refl
kept-node Form.bind ps h = refl
kept-node Form.choose ps h = refl
kept-node Form.default ps h = refl
kept-node Form.big_union ps h = refl
kept-node Form.sum ps h = refl
kept-node (Form.tab rank) ps h = absurd h
kept-node (Form.strict (Strict.nat n)) ps h = refl
kept-node (Form.strict (Strict.bool b)) ps h = refl
kept-node (Form.strict (Strict.text s)) ps h = refl
kept-node (Form.strict Strict.bottom) ps h = refl
kept-node (Form.strict Strict.tuple) ps h = refl
kept-node (Form.strict (Strict.proj at of)) ps h = refl
kept-node (Form.strict (Strict.arith op)) ps h = refl
kept-node (Form.strict (Strict.compare op)) ps h = refl
kept-node (Form.strict Strict.empty) ps h = refl
kept-node (Form.strict Strict.single) ps h = refl
kept-node (Form.strict Strict.union) ps h = refl
kept-node (Form.strict Strict.gen) ps h = refl
kept-node (Form.strict Strict.get) ps h = refl
kept-node (Form.strict Strict.sub) ps h = absurd h
kept-node (Form.strict (Strict.dim rank)) ps h = absurd h
kept-node (Form.strict (Strict.index rank)) ps h = absurd h
kept-node (Form.strict (Strict.literal rank)) ps h = absurd h

-- a node of a kept form that evaluates every part means its encoded value
strict-node : (V : Outcomes) (vals : List Datum) (s : Strict) (Ts : List Ty) (T : Ty) (ps qs : List Part) → IsPlain s → strict_rule s Ts T → AllSound (map (arg []) Ts) ps → AllMirror (map (arg []) Ts) ps qs →
    form_value (map encode_outcome V) (map encoding vals) (Form.strict s) qs ≡ encode_outcome (form_value V vals (Form.strict s) ps)
strict-node V vals s Ts T ps qs p r a m = ap (λ o. o >>= strict_value s) (here-mirror Ts ps qs m) ∙ of (each here ps) refl
  where
    of : (o : Option (List Datum)) → each here ps ≡ o → ((o >>= λ vs. Some (map encoding vs)) >>= strict_value s) ≡ encode_outcome (o >>= strict_value s)
    of None e = refl
    of (Some vs) e = strict-mirror s Ts T vs p r (here-types Ts ps vs a e)

-- a node of a kept form means its encoded value
simple-node : (G : ℕ → Ty → Type 0) (V : Outcomes) (env : List Ty) (vals : List Datum) (f : Form) (args : List Arg) (T : Ty) (ps qs : List Part) → IsKeptForm f → form_rule G env f args T → AllSound args ps → AllMirror args ps qs →
    form_value (map encode_outcome V) (map encoding vals) f qs ≡ encode_outcome (form_value V vals f ps)
simple-node G V env vals (Form.var n) args T ps qs h r a m = form-mirror G V env vals (Form.var n) args T ps qs tt r a m
simple-node G V env vals (Form.global n) args T ps qs h r a m = form-mirror G V env vals (Form.global n) args T ps qs tt r a m
simple-node G V env vals Form.bind args T ps qs h r a m = form-mirror G V env vals Form.bind args T ps qs tt r a m
simple-node G V env vals Form.choose args T ps qs h r a m = form-mirror G V env vals Form.choose args T ps qs tt r a m
simple-node G V env vals Form.default args T ps qs h r a m = form-mirror G V env vals Form.default args T ps qs tt r a m
simple-node G V env vals Form.big_union args T ps qs h r a m = form-mirror G V env vals Form.big_union args T ps qs tt r a m
simple-node G V env vals Form.sum args T ps qs h r a m = form-mirror G V env vals Form.sum args T ps qs tt r a m
simple-node G V env vals (Form.tab rank) args T ps qs h r a m = absurd h
simple-node G V env vals (Form.strict s) args T ps qs h r a m = strict-node V vals s r.0 T ps qs h r.2 (sounds args (map (arg []) r.0) ps r.1 a) (subst (λ x. AllMirror x ps qs) r.1 m)

-- arguments that are equal
mirrors : (args bs : List Arg) (ps qs : List Part) → args ≡ bs → AllMirror args ps qs → AllMirror bs ps qs
mirrors args bs ps qs e m = subst (λ x. AllMirror x ps qs) e m

-- arguments that are equal
binders : (args bs : List Arg) (qs : Parts) → args ≡ bs → BindersFit args qs → BindersFit bs qs
binders args bs qs e b = subst (λ x. BindersFit x qs) e b

-- a node of a kept form, translated
kept-means : (G : ℕ → Ty → Type 0) (V : Outcomes) (env : List Ty) (vals : List Datum) (f : Form) (args : List Arg) (T : Ty) (ps : List Part) (qs : Parts) → IsKeptForm f → form_rule G env f args T →
    AllSound args ps → AllMirror args ps (part_values (map encode_outcome V) (map encoding vals) qs) →
    cden (map encode_outcome V) (map encoding vals) (array_free_node f qs) ≡ encode_outcome (form_value V vals f ps)
kept-means G V env vals f args T ps qs h r s m =
    ap (cden (map encode_outcome V) (map encoding vals)) (kept-node f qs h) ∙ simple-node G V env vals f args T ps (part_values (map encode_outcome V) (map encoding vals) qs) h r s m

-- a node of a form that evaluates every part, translated
strict-means : (G : ℕ → Ty → Type 0) (V : Outcomes) (env : List Ty) (vals : List Datum) (c : Strict) (args : List Arg) (T : Ty) (ps : List Part) (qs : Parts) → length (terms_in qs) < 2 ^ 128 →
    form_rule G env (Form.strict c) args T → AllSound args ps → AllMirror args ps (part_values (map encode_outcome V) (map encoding vals) qs) → BindersFit args qs →
    cden (map encode_outcome V) (map encoding vals) (array_free_node (Form.strict c) qs) ≡ encode_outcome (form_value V vals (Form.strict c) ps)
strict-means G V env vals Strict.sub args T ps qs h r s m b =
    let e : args ≡ map (arg []) (types.array_of r.2.0 T ∷ replicate r.2.0 types.natural) = r.1 ∙ ap (map (arg [])) r.2.2 in
    subscript-node (map encode_outcome V) (map encoding vals) r.2.0 T ps qs r.2.1 (sounds args _ ps e s) (mirrors args _ ps _ e m) (binders args _ qs e b)
strict-means G V env vals (Strict.dim rank) args T ps qs h r s m b =
    let e : args ≡ map (arg []) (types.array_of rank r.2.0 ∷ []) = r.1 ∙ ap (map (arg [])) r.2.2 in
    dimension-node (map encode_outcome V) (map encoding vals) rank r.2.0 ps qs (sounds args _ ps e s) (mirrors args _ ps _ e m) (binders args _ qs e b)
strict-means G V env vals (Strict.index rank) args T ps qs h r s m b =
    let e : args ≡ map (arg []) (types.set_of (pair_type (index_type rank) r.2.0) ∷ []) = r.1 ∙ ap (map (arg [])) r.2.2 in
    index-node (map encode_outcome V) (map encoding vals) rank r.2.0 ps qs r.2.1 (sounds args _ ps e s) (mirrors args _ ps _ e m) (binders args _ qs e b)
strict-means G V env vals (Strict.literal rank) args T ps qs h r s m b =
    let e : args ≡ literal_args rank r.2.1 r.2.0 = r.1 ∙ ap (map (arg [])) r.2.3 ∙ literal-args rank r.2.1 r.2.0 in
    literal-node (map encode_outcome V) (map encoding vals) rank r.2.1 r.2.0 ps qs r.2.2 h (sounds args _ ps e s) (mirrors args _ ps _ e m) (binders args _ qs e b)
strict-means G V env vals (Strict.nat n) args T ps qs h r s m b = kept-means G V env vals (Form.strict (Strict.nat n)) args T ps qs tt r s m
strict-means G V env vals (Strict.bool n) args T ps qs h r s m b = kept-means G V env vals (Form.strict (Strict.bool n)) args T ps qs tt r s m
strict-means G V env vals (Strict.text n) args T ps qs h r s m b = kept-means G V env vals (Form.strict (Strict.text n)) args T ps qs tt r s m
strict-means G V env vals Strict.bottom args T ps qs h r s m b = kept-means G V env vals (Form.strict Strict.bottom) args T ps qs tt r s m
strict-means G V env vals Strict.tuple args T ps qs h r s m b = kept-means G V env vals (Form.strict Strict.tuple) args T ps qs tt r s m
strict-means G V env vals (Strict.proj at of) args T ps qs h r s m b = kept-means G V env vals (Form.strict (Strict.proj at of)) args T ps qs tt r s m
strict-means G V env vals (Strict.arith op) args T ps qs h r s m b = kept-means G V env vals (Form.strict (Strict.arith op)) args T ps qs tt r s m
strict-means G V env vals (Strict.compare op) args T ps qs h r s m b = kept-means G V env vals (Form.strict (Strict.compare op)) args T ps qs tt r s m
strict-means G V env vals Strict.empty args T ps qs h r s m b = kept-means G V env vals (Form.strict Strict.empty) args T ps qs tt r s m
strict-means G V env vals Strict.single args T ps qs h r s m b = kept-means G V env vals (Form.strict Strict.single) args T ps qs tt r s m
strict-means G V env vals Strict.union args T ps qs h r s m b = kept-means G V env vals (Form.strict Strict.union) args T ps qs tt r s m
strict-means G V env vals Strict.gen args T ps qs h r s m b = kept-means G V env vals (Form.strict Strict.gen) args T ps qs tt r s m
strict-means G V env vals Strict.get args T ps qs h r s m b = kept-means G V env vals (Form.strict Strict.get) args T ps qs tt r s m

-- a node, translated
node-means : (G : ℕ → Ty → Type 0) (V : Outcomes) (env : List Ty) (vals : List Datum) (f : Form) (args : List Arg) (T : Ty) (ps : List Part) (qs : Parts) → length (terms_in qs) < 2 ^ 128 → form_rule G env f args T →
    AllSound args ps → AllMirror args ps (part_values (map encode_outcome V) (map encoding vals) qs) → BindersFit args qs →
    cden (map encode_outcome V) (map encoding vals) (array_free_node f qs) ≡ encode_outcome (form_value V vals f ps)
node-means G V env vals (Form.var n) args T ps qs h r s m b = kept-means G V env vals (Form.var n) args T ps qs tt r s m
node-means G V env vals (Form.global n) args T ps qs h r s m b = kept-means G V env vals (Form.global n) args T ps qs tt r s m
node-means G V env vals Form.bind args T ps qs h r s m b = kept-means G V env vals Form.bind args T ps qs tt r s m
node-means G V env vals Form.choose args T ps qs h r s m b = kept-means G V env vals Form.choose args T ps qs tt r s m
node-means G V env vals Form.default args T ps qs h r s m b = kept-means G V env vals Form.default args T ps qs tt r s m
node-means G V env vals Form.big_union args T ps qs h r s m b = kept-means G V env vals Form.big_union args T ps qs tt r s m
node-means G V env vals Form.sum args T ps qs h r s m b = kept-means G V env vals Form.sum args T ps qs tt r s m
node-means G V env vals (Form.tab rank) args T ps qs h r s m b =
    tabulation-node (map encode_outcome V) (map encoding vals) rank r.0 ps qs r.1 (sounds args (tab_args rank r.0) ps r.2 s) (mirrors args (tab_args rank r.0) ps _ r.2 m) (binders args (tab_args rank r.0) qs r.2 b)
node-means G V env vals (Form.strict c) args T ps qs h r s m b = strict-means G V env vals c args T ps qs h r s m b

mutual
  -- the array-free form of a typed term means its encoded value
  pub array_free-means : (G : ℕ → Ty → Type 0) (V : Outcomes) → OutcomesHave G V → (t : Term) → weight_of t < 2 ^ 128 → (env : List Ty) (vals : List Datum) (T : Ty) → HaveTypes env vals → ctyped G env t T →
      cden (map encode_outcome V) (map encoding vals) (array_free t) ≡ encode_outcome (cden V vals t)
  array_free-means G V g (node f ps) s env vals T h t =
      node-means G V env vals f t.1 T (part_values V vals ps) (array_free_parts ps) (omega (arith, s, length-terms ps, parts_weight-count ps)) t.2 (parts-sound G V g ps env vals t.1 h t.3) (parts-mean G V g ps (omega (arith, s)) env vals t.1 h t.3)
      (typed-binders G env ps t.1 t.3)

  pub parts-mean : (G : ℕ → Ty → Type 0) (V : Outcomes) → OutcomesHave G V → (ps : Parts) → parts_weight ps < 2 ^ 128 → (env : List Ty) (vals : List Datum) (args : List Arg) → HaveTypes env vals → parts_typed G env ps args →
      AllMirror args (part_values V vals ps) (part_values (map encode_outcome V) (map encoding vals) (array_free_parts ps))
  parts-mean G V g none s env vals args h t = mirrors [] args [] [] (sym t) tt
  parts-mean G V g (part k u ps) s env vals args h t =
      mirrors (t.0 ∷ t.1) args (part_values V vals (part k u ps)) (part_values (map encode_outcome V) (map encoding vals) (array_free_parts (part k u ps))) (sym t.2) (
        (λ new n. ap (λ m. if nat_eq m k then cden (map encode_outcome V) (map encoding new ++ map encoding vals) (array_free u) else None) (length-encoded new)
            ∙ ap (λ x. if nat_eq (length new) k then cden (map encode_outcome V) x (array_free u) else None) (sym (map-append encoding new vals))
            ∙ ap (λ o. if nat_eq (length new) k then o else None) (array_free-means G V g u (omega (arith, s)) (t.0.own ++ env) (new ++ vals) t.0.has (has-append t.0.own env new vals n h) t.4)
            ∙ both (nat_eq (length new) k) (cden V (new ++ vals) u)),
        parts-mean G V g ps (omega (arith, s)) env vals t.1 h t.5,
      )
    where
      both : (b : Bool) (o : Option Datum) → (if b then encode_outcome o else None) ≡ encode_outcome (if b then o else None)
      both true o = refl
      both false o = refl
