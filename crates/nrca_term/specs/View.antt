-- The term that a `Core` is.
use Rattle.std.specs.Prelude.{List, [], ◌∷◌, length, map, Option, option_map}
use Rattle.std.proofs.Common.{Bor}
use Rattle.aql_value.specs.Strict.{Strict}
use Rattle.nrca_term.specs.declared.term.Core.{Core}
use Rattle.nrca_term.specs.declared.term.Core.TheOpen.{Core-F, Terms-F}
use Rattle.nrca_term.specs.declared.term.Core.TheFolds.{fold-Core}
use Rattle.nrca_term.specs.declared.term.Terms.{Terms}
use Rattle.nrca_term.specs.declared.form.Form as code
use Rattle.nrca_term.specs.declared.form.Form.TheVariants as named
use Rattle.nrca_term.specs.declared.form.Strict as code_strict
use Rattle.nrca_term.specs.declared.form.Strict.TheVariants as named_strict
use Rattle.nrca_term.specs.Term.{Term, node, none, part, plain, Form}

-- one node, with the term of each part in its place
abbrev pub node_term : Core-F Term (List Term) → Term
node_term (Core-F.Var i) = node (Form.var i) none
node_term (Core-F.Global n) = node (Form.global n) none
node_term (Core-F.Nat n) = node (Form.strict (Strict.nat n)) none
node_term (Core-F.Bool b) = node (Form.strict (Strict.bool b)) none
node_term (Core-F.Text s) = node (Form.strict (Strict.text s)) none
node_term Core-F.Bottom = node (Form.strict Strict.bottom) none
node_term (Core-F.Let a b) = node Form.bind (part 0 a.value (part 1 b.value none))
node_term (Core-F.If c a b) = node Form.choose (plain (c.value ∷ a.value ∷ b.value ∷ []) none)
node_term (Core-F.Default a b) = node Form.default (plain (a.value ∷ b.value ∷ []) none)
node_term (Core-F.Tuple ts) = node (Form.strict Strict.tuple) (plain ts none)
node_term (Core-F.Proj at of a) = node (Form.strict (Strict.proj at of)) (plain (a.value ∷ []) none)
node_term (Core-F.Arith op a b) = node (Form.strict (Strict.arith op)) (plain (a.value ∷ b.value ∷ []) none)
node_term (Core-F.Compare op a b) = node (Form.strict (Strict.compare op)) (plain (a.value ∷ b.value ∷ []) none)
node_term Core-F.Empty = node (Form.strict Strict.empty) none
node_term (Core-F.Single a) = node (Form.strict Strict.single) (plain (a.value ∷ []) none)
node_term (Core-F.Union a b) = node (Form.strict Strict.union) (plain (a.value ∷ b.value ∷ []) none)
node_term (Core-F.BigUnion a b) = node Form.big_union (part 0 a.value (part 1 b.value none))
node_term (Core-F.Sum a b) = node Form.sum (part 0 a.value (part 1 b.value none))
node_term (Core-F.Gen a) = node (Form.strict Strict.gen) (plain (a.value ∷ []) none)
node_term (Core-F.Get a) = node (Form.strict Strict.get) (plain (a.value ∷ []) none)
node_term (Core-F.Tab ts b) = node (Form.tab (length ts)) (plain ts (part (length ts) b.value none))
node_term (Core-F.Sub a ts) = node (Form.strict Strict.sub) (plain (a.value ∷ ts) none)
node_term (Core-F.Dim rank a) = node (Form.strict (Strict.dim rank)) (plain (a.value ∷ []) none)
node_term (Core-F.Index rank a) = node (Form.strict (Strict.index rank)) (plain (a.value ∷ []) none)
node_term (Core-F.Literal ds cs) = node (Form.strict (Strict.literal (length ds))) (plain ds (plain cs none))

-- the list of terms that a node of the code holds
abbrev pub list_of : Terms-F Term (List Term) → List Term
list_of ts = ts.0.items

-- the pure term of a `Core`: what contracts see of it
abbrev pub term_of : Core → Term
term_of = fold-Core Term (List Term) node_term list_of

-- the terms that a list of the code holds
abbrev pub terms_of : Terms → List Term
terms_of ts = map term_of ts.0.items

-- the form that a `Strict` is
abbrev pub pure_strict : code_strict.Strict → Strict
pure_strict (named_strict.Nat n) = Strict.nat n
pure_strict (named_strict.Bool b) = Strict.bool b
pure_strict (named_strict.Text s) = Strict.text s.now
pure_strict named_strict.Bottom = Strict.bottom
pure_strict named_strict.Tuple = Strict.tuple
pure_strict (named_strict.Proj at of) = Strict.proj at of
pure_strict (named_strict.Arith op) = Strict.arith op
pure_strict (named_strict.Compare op) = Strict.compare op
pure_strict named_strict.Empty = Strict.empty
pure_strict named_strict.Single = Strict.single
pure_strict named_strict.Union = Strict.union
pure_strict named_strict.Gen = Strict.gen
pure_strict named_strict.Get = Strict.get
pure_strict named_strict.Sub = Strict.sub
pure_strict (named_strict.Dim rank) = Strict.dim rank
pure_strict (named_strict.Index rank) = Strict.index rank
pure_strict (named_strict.Literal rank) = Strict.literal rank

-- the form that a `Form` is
abbrev pub pure_form : code.Form → Form
pure_form (named.Var i) = Form.var i
pure_form (named.Global n) = Form.global n
pure_form named.Bind = Form.bind
pure_form named.Choose = Form.choose
pure_form named.Default = Form.default
pure_form named.BigUnion = Form.big_union
pure_form named.Sum = Form.sum
pure_form (named.Tab rank) = Form.tab rank
pure_form (named.Strict s) = Form.strict (pure_strict s)

-- the term of a part that a call lends, where it lends one
abbrev pub lent_term : Option (Bor Core) → Option Term
lent_term = option_map (λ r. term_of r.now)
