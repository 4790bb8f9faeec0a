-- The induction on a term: its array-free form takes at most the turns that bound them.
use Rattle.std.proofs.Common.{◌≡◌, ℕ, zero, suc, ◌+◌, ◌≤◌, ◌<◌, ◌^◌, List, [], ◌∷◌, ◌++◌, length, map, replicate, take, drop, Option, Some, None, refl, sym, ap, subst, ◌∙◌, arith}
use Rattle.std.proofs.lemmas.List.{map-append, length-map, length-replicate}
use Rattle.std.specs.List.{slice_get}
use Rattle.aql_value.specs.Datum as datum
use Rattle.aql_value.specs.Datum.{Datum}
use Rattle.aql_value.specs.Lists.{Every, below}
use Rattle.aql_value.specs.Laws.Lists.{Every-impl, Every-all, Every-onto, Every-take, Every-drop}
use Rattle.aql_value.specs.Operations.{as_natural}
use Rattle.aql_value.specs.Laws.Operations.{each-naturals}
use Rattle.aql_value.specs.Partial.{◌>>=◌, each, total}
use Rattle.aql_value.specs.Laws.Partial.{each-length, total-map, total-split}
use Rattle.aql_value.specs.Strict.{Strict}
use Rattle.aql_ty.specs.Types as types
use Rattle.aql_ty.specs.Types.{Ty, index_type}
use Rattle.aql_ty.specs.ValueTypes.{HaveTypes}
use Rattle.aql_ty.specs.Laws.Operation.{has-append}
use Rattle.nrca_term.specs.Term.{Term, Parts, node, none, part, plain, Form, WellFormed, weight_of, parts_weight, terms_in}
use Rattle.nrca_term.specs.Nodes.{variable}
use Rattle.nrca_term.specs.Typing.{Arg, arg, form_rule, ctyped, parts_typed, OutcomesHave}
use Rattle.nrca_term.specs.Meaning.{Outcomes, Part, here, cden, part_values, bounds_value}
use Rattle.nrca_term.specs.Places.{entry_values}
use Rattle.nrca_term.specs.Turns.{settle, parts_settle}
use Rattle.nrca_term.specs.Laws.Sound.{AllSound, parts-sound, sounds}
use Rattle.nrca_term.specs.Laws.TypedPlaces.{entered-own}
use Rattle.nrca_term.specs.Laws.Variants.{settle-strict}
use Rattle.nrca_graph.specs.Encoding.{encoding, encode_outcome, pair_type}
use Rattle.nrca_graph.specs.ArrayFree.{term_at, number_at, greater, greatest, dimension_above, array_free, array_free_parts, array_free_node}
use Rattle.nrca_graph.specs.NoArrays.{IsKeptForm}
use Rattle.nrca_graph.specs.GraphTurns.{own_graph_turns, graph_turns, parts_graph_turns}
use Rattle.nrca_graph.specs.Laws.KeptForms.{AllMirror}
use Rattle.nrca_graph.specs.Laws.StrictForms.{numbers-kept}
use Rattle.nrca_graph.specs.Laws.Means.{kept-node, parts-mean}
use Rattle.nrca_graph.specs.Laws.TabulationNode.{tab_args}
use Rattle.nrca_graph.specs.Laws.TranslatedParts.{BindersFit, typed-binders, first-terms, first-mirror, first-types, numbers-of}
use Rattle.nrca_graph.specs.Laws.PartTurns.{bounds-encoded, entered-encoded, own-encoded, total-le}
use Rattle.nrca_graph.specs.Laws.FormTurns.{tabulation-turns, literal-turns, strict-parts-turns}
use Rattle.nrca_graph.specs.Laws.ArrayTurns.{subscript-turns, index-node-turns}

-- a node of a kept form
kept-turns : (G : ℕ → Ty → Type 0) (W : Outcomes) (l : List Datum) (env : List Ty) (f : Form) (args : List Arg) (T : Ty) (ps : List Part) (qs : Parts) → IsKeptForm f → form_rule G env f args T → AllSound args ps →
    AllMirror args ps (part_values W l qs) → settle W l (array_free_node f qs) ≤ own_graph_turns f ps + parts_settle W l f (part_values W l qs) 0 qs
kept-turns G W l env f args T ps qs k r s m =
    omega (arith, ap (settle W l) (kept-node f qs k), own-encoded G env f args T ps (part_values W l qs) k r s m)

-- the parts of a tabulation are its bounds and its body
tab-shape : (n : ℕ) (x a : Arg) (qs : Parts) → x.own ≡ [] → BindersFit (replicate n x ++ a ∷ []) qs → (qs ≡ plain (take n (terms_in qs)) (part (length a.own) (term_at (terms_in qs) n) none)) × (length (take n (terms_in qs)) ≡ n)
tab-shape zero x a none e b = absurd b
tab-shape zero x a (part k t none) e b = (ap (λ m. part m t none) (sym b.0), refl)
tab-shape zero x a (part k t (part j u qs)) e b = absurd b.1
tab-shape (suc n) x a none e b = absurd b
tab-shape (suc n) x a (part k t qs) e b =
    let h = tab-shape n x a qs e b.1 in
    let z : k ≡ 0 = sym b.0 ∙ ap length e in
    (ap (λ m. part m t qs) z ∙ ap (part 0 t) h.0, ap suc h.1)

-- the terms of the parts of a node are well formed
first-formed : (n : ℕ) (ts : List Term) → Every WellFormed ts → WellFormed (term_at ts n)
first-formed n [] h = (tt, tt)
first-formed zero (t ∷ ts) h = h.0
first-formed (suc n) (t ∷ ts) h = first-formed n ts h.1

-- a node of a tabulation
tab-turns : (W : Outcomes) (l : List Datum) (rank : ℕ) (A : Ty) (ps : List Part) (qs : Parts) → AllSound (tab_args rank A) ps → AllMirror (tab_args rank A) ps (part_values W l qs) → BindersFit (tab_args rank A) qs →
    Every WellFormed (terms_in qs) → settle W l (array_free_node (Form.tab rank) qs) ≤ own_graph_turns (Form.tab rank) ps + parts_settle W l (Form.tab rank) (part_values W l qs) 0 qs
tab-turns W l rank A ps qs s m b w =
    let shape = tab-shape rank (arg [] types.natural) (arg (replicate rank types.natural) A) qs refl b in
    let k : length (replicate rank types.natural) ≡ length ds = length-replicate rank types.natural ∙ sym shape.1 in
    let parts : parts_settle W l (Form.tab rank) (part_values W l qs) 0 qs ≡ parts_settle W l (Form.tab (length ds)) (part_values W l qs) 0 (plain ds (part (length ds) body none)) =
    ap (parts_settle W l (Form.tab rank) (part_values W l qs) 0) (shape.0 ∙ ap (λ n. plain ds (part n body none)) k)
    ∙ ap (λ n. parts_settle W l (Form.tab n) (part_values W l qs) 0 (plain ds (part (length ds) body none))) (sym shape.1) in
    let bounds : bounds_value (length ds) (part_values W l qs) ≡ bounds_value rank ps = ap (λ n. bounds_value n (part_values W l qs)) shape.1 ∙ bounds-encoded rank A ps (part_values W l qs) m in
    omega (
      arith,
      parts,
      tabulation-turns W l ds body (part_values W l qs) (bounds_value rank ps) (Every-take WellFormed rank (terms_in qs) w) (first-formed rank (terms_in qs) w) bounds
          (values ∙ of (each here (take rank ps)) refl)
          (λ ns e. shape.1 ∙ sym (many ns e)),
    )
  where
    ds : List Term
    ds = take rank (terms_in qs)

    body : Term
    body = term_at (terms_in qs) rank

    values : each (cden W l) ds ≡ (each here (take rank ps) >>= λ vs. Some (map encoding vs))
    values = sym (first-terms W l rank types.natural (arg (replicate rank types.natural) A ∷ []) qs b)
        ∙ first-mirror rank types.natural (arg (replicate rank types.natural) A ∷ []) ps (part_values W l qs) m

    numbers : (vs : List Datum) → each here (take rank ps) ≡ Some vs → (ns : List ℕ) × (vs ≡ map datum.natural ns) × (length ns ≡ rank)
    numbers vs e = numbers-of rank vs (first-types rank types.natural (arg (replicate rank types.natural) A ∷ []) ps vs s e)

    of : (o : Option (List Datum)) → each here (take rank ps) ≡ o → (o >>= λ vs. Some (map encoding vs)) ≡ ((o >>= each as_natural) >>= λ ns. Some (map datum.natural ns))
    of None e = refl
    of (Some vs) e =
        let n = numbers vs e in
        ap (λ us. Some (map encoding us)) n.1 ∙ ap Some (numbers-kept n.0)
        ∙ sym (ap (λ us. each as_natural us >>= λ ns. Some (map datum.natural ns)) n.1 ∙ ap (λ o. o >>= λ ns. Some (map datum.natural ns)) (each-naturals n.0))

    many : (ns : List ℕ) → bounds_value rank ps ≡ Some ns → length ns ≡ rank
    many ns e = from (each here (take rank ps)) refl e
      where
        from : (o : Option (List Datum)) → each here (take rank ps) ≡ o → (o >>= each as_natural) ≡ Some ns → length ns ≡ rank
        from None f g = cc
        from (Some vs) f g = let n = numbers vs f in each-length as_natural vs ns g ∙ ap length n.1 ∙ length-map n.0 datum.natural ∙ n.2

-- arguments that are equal
mirrors : (args bs : List Arg) (ps qs : List Part) → args ≡ bs → AllMirror args ps qs → AllMirror bs ps qs
mirrors args bs ps qs e m = subst (λ x. AllMirror x ps qs) e m

binders : (args bs : List Arg) (qs : Parts) → args ≡ bs → BindersFit args qs → BindersFit bs qs
binders args bs qs e b = subst (λ x. BindersFit x qs) e b

-- one of several terms
one-turns : (W : Outcomes) (l : List Datum) (ts : List Term) → settle W l (term_at ts 0) ≤ total (settle W l) ts
one-turns W l [] = omega arith
one-turns W l (t ∷ ts) = omega arith

-- a number of the index of a pair is well formed
number-formed : (rank j i : ℕ) → WellFormed (number_at rank j (variable i))
number-formed zero j i = (tt, (refl, (tt, (refl, (refl, tt), tt)), tt))
number-formed (suc zero) j i = (tt, (refl, (refl, tt), tt))
number-formed (suc (suc rank)) j i = (tt, (refl, (tt, (refl, (refl, tt), tt)), tt))

greater-formed : (rank j : ℕ) → WellFormed (greater rank j)
greater-formed rank j =
    let n = number-formed rank j 0 in
    (tt, (refl, (refl, tt), (refl, (tt, (refl, (tt, (refl, number-formed rank j 1, (refl, n, tt))), (refl, (tt, (refl, n, tt)), (refl, (tt, tt), tt)))), tt)))

greatest-formed : (rank j : ℕ) → WellFormed (greatest rank j)
greatest-formed rank j =
    let n = number-formed rank j 0 in
    (tt, (refl, (refl, tt), (refl, (tt, (refl, (tt, (refl, greater-formed rank j, (refl, (tt, tt), tt))), (refl, (tt, (refl, n, tt)), (refl, (tt, tt), tt)))), tt)))

dimension-formed : (rank j : ℕ) → WellFormed (dimension_above rank j)
dimension-formed rank j =
    (tt, (refl, (tt, (refl, (refl, tt), (refl, (tt, tt), tt))), (refl, (tt, tt), (refl, (tt, (refl, (tt, tt), (refl, (tt, (refl, greatest-formed rank j, tt)), tt))), tt))))

-- the dimensions of an index are well formed
dimensions-formed : (rank : ℕ) → Every WellFormed (map (λ j. dimension_above rank (suc j)) (below rank))
dimensions-formed rank = Every-onto WellFormed (λ j. dimension_above rank (suc j)) (below rank) (Every-all _ (λ j. dimension-formed rank (suc j)) (below rank))

-- a node of a form that evaluates every part
strict-turns : (G : ℕ → Ty → Type 0) (W : Outcomes) (l : List Datum) (env : List Ty) (c : Strict) (args : List Arg) (T : Ty) (ps : List Part) (qs : Parts) → form_rule G env (Form.strict c) args T → AllSound args ps →
    AllMirror args ps (part_values W l qs) → BindersFit args qs → Every WellFormed (terms_in qs) →
    settle W l (array_free_node (Form.strict c) qs) ≤ own_graph_turns (Form.strict c) ps + parts_settle W l (Form.strict c) (part_values W l qs) 0 qs
strict-turns G W l env Strict.sub args T ps qs r s m b w =
    let e : args ≡ map (arg []) (types.array_of r.2.0 T ∷ replicate r.2.0 types.natural) = r.1 ∙ ap (map (arg [])) r.2.2 in
    omega (arith, strict-parts-turns W l Strict.sub (part_values W l qs) 0 qs, subscript-turns W l r.2.0 T ps qs r.2.1 (sounds args _ ps e s) (mirrors args _ ps _ e m) (binders args _ qs e b) w)
strict-turns G W l env (Strict.dim rank) args T ps qs r s m b w =
    omega (arith, strict-parts-turns W l (Strict.dim rank) (part_values W l qs) 0 qs, settle-strict W l (Strict.proj 1 2) (term_at (terms_in qs) 0 ∷ []), one-turns W l (terms_in qs))
strict-turns G W l env (Strict.index rank) args T ps qs r s m b w =
    let e : args ≡ map (arg []) (types.set_of (pair_type (index_type rank) r.2.0) ∷ []) = r.1 ∙ ap (map (arg [])) r.2.2 in
    omega (arith, strict-parts-turns W l (Strict.index rank) (part_values W l qs) 0 qs, index-node-turns W l rank r.2.0 ps qs r.2.1 (sounds args _ ps e s) (mirrors args _ ps _ e m) (binders args _ qs e b) (dimensions-formed rank))
strict-turns G W l env (Strict.literal rank) args T ps qs r s m b w =
    omega (arith, strict-parts-turns W l (Strict.literal rank) (part_values W l qs) 0 qs, total-split (settle W l) rank (terms_in qs), literal-turns W l (take rank (terms_in qs)) (drop rank (terms_in qs)) (Every-take WellFormed rank (terms_in qs) w) (Every-drop WellFormed rank (terms_in qs) w))
strict-turns G W l env (Strict.nat n) args T ps qs r s m b w = kept-turns G W l env (Form.strict (Strict.nat n)) args T ps qs tt r s m
strict-turns G W l env (Strict.bool n) args T ps qs r s m b w = kept-turns G W l env (Form.strict (Strict.bool n)) args T ps qs tt r s m
strict-turns G W l env (Strict.text n) args T ps qs r s m b w = kept-turns G W l env (Form.strict (Strict.text n)) args T ps qs tt r s m
strict-turns G W l env Strict.bottom args T ps qs r s m b w = kept-turns G W l env (Form.strict Strict.bottom) args T ps qs tt r s m
strict-turns G W l env Strict.tuple args T ps qs r s m b w = kept-turns G W l env (Form.strict Strict.tuple) args T ps qs tt r s m
strict-turns G W l env (Strict.proj at of) args T ps qs r s m b w = kept-turns G W l env (Form.strict (Strict.proj at of)) args T ps qs tt r s m
strict-turns G W l env (Strict.arith op) args T ps qs r s m b w = kept-turns G W l env (Form.strict (Strict.arith op)) args T ps qs tt r s m
strict-turns G W l env (Strict.compare op) args T ps qs r s m b w = kept-turns G W l env (Form.strict (Strict.compare op)) args T ps qs tt r s m
strict-turns G W l env Strict.empty args T ps qs r s m b w = kept-turns G W l env (Form.strict Strict.empty) args T ps qs tt r s m
strict-turns G W l env Strict.single args T ps qs r s m b w = kept-turns G W l env (Form.strict Strict.single) args T ps qs tt r s m
strict-turns G W l env Strict.union args T ps qs r s m b w = kept-turns G W l env (Form.strict Strict.union) args T ps qs tt r s m
strict-turns G W l env Strict.gen args T ps qs r s m b w = kept-turns G W l env (Form.strict Strict.gen) args T ps qs tt r s m
strict-turns G W l env Strict.get args T ps qs r s m b w = kept-turns G W l env (Form.strict Strict.get) args T ps qs tt r s m

-- a node of any form
node-turns : (G : ℕ → Ty → Type 0) (W : Outcomes) (l : List Datum) (env : List Ty) (f : Form) (args : List Arg) (T : Ty) (ps : List Part) (qs : Parts) → form_rule G env f args T → AllSound args ps →
    AllMirror args ps (part_values W l qs) → BindersFit args qs → Every WellFormed (terms_in qs) →
    settle W l (array_free_node f qs) ≤ own_graph_turns f ps + parts_settle W l f (part_values W l qs) 0 qs
node-turns G W l env (Form.var n) args T ps qs r s m b w = kept-turns G W l env (Form.var n) args T ps qs tt r s m
node-turns G W l env (Form.global n) args T ps qs r s m b w = kept-turns G W l env (Form.global n) args T ps qs tt r s m
node-turns G W l env Form.bind args T ps qs r s m b w = kept-turns G W l env Form.bind args T ps qs tt r s m
node-turns G W l env Form.choose args T ps qs r s m b w = kept-turns G W l env Form.choose args T ps qs tt r s m
node-turns G W l env Form.default args T ps qs r s m b w = kept-turns G W l env Form.default args T ps qs tt r s m
node-turns G W l env Form.big_union args T ps qs r s m b w = kept-turns G W l env Form.big_union args T ps qs tt r s m
node-turns G W l env Form.sum args T ps qs r s m b w = kept-turns G W l env Form.sum args T ps qs tt r s m
node-turns G W l env (Form.strict c) args T ps qs r s m b w = strict-turns G W l env c args T ps qs r s m b w
node-turns G W l env (Form.tab rank) args T ps qs r s m b w =
    tab-turns W l rank r.0 ps qs (sounds args (tab_args rank r.0) ps r.2 s) (mirrors args (tab_args rank r.0) ps _ r.2 m) (binders args (tab_args rank r.0) qs r.2 b) w

-- where the array-free form of each typed term is well formed, those of typed parts are
parts-formed : (G : ℕ → Ty → Type 0) → ((env : List Ty) (t : Term) (T : Ty) → ctyped G env t T → WellFormed (array_free t)) →
    (env : List Ty) (ps : Parts) (args : List Arg) → parts_typed G env ps args → Every WellFormed (terms_in (array_free_parts ps))
parts-formed G wf env none args h = tt
parts-formed G wf env (part k t ps) args h = (wf (h.0.own ++ env) t h.0.has h.4, parts-formed G wf env ps h.1 h.5)

mutual
  -- the array-free form of a typed term takes at most the turns of the bound
  pub array_free-turns : (G : ℕ → Ty → Type 0) (V : Outcomes) → OutcomesHave G V → ((env : List Ty) (t : Term) (T : Ty) → ctyped G env t T → WellFormed (array_free t)) →
      (t : Term) → weight_of t < 2 ^ 128 → (env : List Ty) (vals : List Datum) (T : Ty) → HaveTypes env vals → ctyped G env t T →
      settle (map encode_outcome V) (map encoding vals) (array_free t) ≤ graph_turns V vals t
  array_free-turns G V g wf (node f ps) s env vals T h t =
      let sound = parts-sound G V g ps env vals t.1 h t.3 in
      let mirror = parts-mean G V g ps (omega (arith, s)) env vals t.1 h t.3 in
      omega (
        arith,
        node-turns G (map encode_outcome V) (map encoding vals) env f t.1 T (part_values V vals ps) (array_free_parts ps) t.2 sound mirror (typed-binders G env ps t.1 t.3) (parts-formed G wf env ps t.1 t.3),
        parts-turns G V g wf f t.1 T env vals h (part_values V vals ps) (part_values (map encode_outcome V) (map encoding vals) (array_free_parts ps)) t.2 sound mirror 0 ps (omega (arith, s)) t.1 t.3
            (λ j a e. (let z : 0 + j ≡ j = omega arith in ap (slice_get t.1) z) ∙ e),
      )

  parts-turns : (G : ℕ → Ty → Type 0) (V : Outcomes) → OutcomesHave G V → ((env : List Ty) (t : Term) (T : Ty) → ctyped G env t T → WellFormed (array_free t)) →
      (f : Form) (args : List Arg) (T : Ty) (env : List Ty) (vals : List Datum) → HaveTypes env vals → (ws vs : List Part) → form_rule G env f args T → AllSound args ws → AllMirror args ws vs →
      (i : ℕ) (ps : Parts) → parts_weight ps < 2 ^ 128 → (rest : List Arg) → parts_typed G env ps rest → ((j : ℕ) (a : Arg) → slice_get rest j ≡ Some a → slice_get args (i + j) ≡ Some a) →
      parts_settle (map encode_outcome V) (map encoding vals) f vs i (array_free_parts ps) ≤ parts_graph_turns V vals f ws i ps
  parts-turns G V g wf f args T env vals h ws vs r s m i none l rest t at = omega arith
  parts-turns G V g wf f args T env vals h ws vs r s m i (part k u ps) l rest t at =
      let found : slice_get args i ≡ Some t.0 = (let z : i ≡ i + 0 = omega arith in ap (slice_get args) z) ∙ at 0 t.0 (ap (λ x. slice_get x 0) t.2) in
      let own = entered-own G env f args T ws i t.0 r s found in
      let F = λ (new : List Datum). settle (map encode_outcome V) (new ++ map encoding vals) (array_free u) in
      omega (
        arith,
        ap (total F) (entered-encoded G env f args T ws vs i r s m) ∙ total-map F (map encoding) (entry_values f ws i),
        total-le (λ new. F (map encoding new)) (λ new. graph_turns V (new ++ vals) u) (entry_values f ws i)
            (Every-impl (HaveTypes t.0.own) (λ new. F (map encoding new) ≤ graph_turns V (new ++ vals) u)
            (λ new n. subst (λ x. settle (map encode_outcome V) x (array_free u) ≤ graph_turns V (new ++ vals) u) (map-append encoding new vals)
            (array_free-turns G V g wf u (omega (arith, l)) (t.0.own ++ env) (new ++ vals) t.0.has (has-append t.0.own env new vals n h) t.4)) (entry_values f ws i) own),
        parts-turns G V g wf f args T env vals h ws vs r s m (suc i) ps (omega (arith, l)) t.1 t.5
            (λ j a e. (let z : suc i + j ≡ i + suc j = omega arith in ap (slice_get args) z) ∙ at (suc j) a (ap (λ x. slice_get x (suc j)) t.2 ∙ e)),
      )
