-- The term of each variant, as equations: a crate above cites these, since there `term_of` does not compute.
use Rattle.std.proofs.Common.{◌≡◌, ℕ, Bool, List, ◌∷◌, length, Box, Global, vec_len, sym, ap, ◌∙◌}
use Rattle.std.proofs.lemmas.List.{length-map}
use Rattle.aql_value.specs.declared.ops.ArithOp.{ArithOp}
use Rattle.aql_value.specs.declared.ops.CompareOp.{CompareOp}
use Rattle.nrca_term.specs.declared.term.Core.{Core}
use Rattle.nrca_term.specs.declared.term.Terms.{Terms}
use Rattle.nrca_term.specs.declared.term.Core.TheVariants as core
use Rattle.nrca_term.specs.declared.term.Core.TheVariants.{rolls-Var, rolls-Global, rolls-Nat, rolls-Bool, rolls-Text, rolls-Bottom, rolls-Let, rolls-If, rolls-Default, rolls-Proj, rolls-Arith, rolls-Compare, rolls-Empty, rolls-Single, rolls-Union, rolls-BigUnion, rolls-Sum, rolls-Gen, rolls-Get, rolls-Dim, rolls-Index, rolls-Tuple, rolls-Tab, rolls-Sub, rolls-Literal}
use Rattle.nrca_term.specs.declared.term.Core.TheOpen.{Core-F}
use Rattle.nrca_term.specs.declared.term.Core.TheFolds.{fold-roll-Core, fold_out-Terms, fold-Terms}
use Rattle.aql_value.specs.Strict.{Strict}
use Rattle.nrca_term.specs.Term.{Term, none, part, plain, node, Form, form_of}
use Rattle.nrca_term.specs.Nodes.{variable, position, number, truth_term, text_term, bottom_term, let_term, if_term, default_term, tuple_term, proj_term, arith_term, compare_term, empty_term, single_term, union_term, big_union_term, sum_term, gen_term, get_term, tab_term, sub_term, dim_term, index_term, literal_term}
use Rattle.nrca_term.specs.View.{term_of, terms_of, node_term, list_of}

pub term_of-Var : (i : ℕ) → term_of (core.Var i) ≡ variable i
term_of-Var i = ap term_of (sym (rolls-Var i)) ∙ fold-roll-Core Term (List Term) node_term list_of (Core-F.Var i)

pub term_of-Global : (n : ℕ) → term_of (core.Global n) ≡ position n
term_of-Global n = ap term_of (sym (rolls-Global n)) ∙ fold-roll-Core Term (List Term) node_term list_of (Core-F.Global n)

pub term_of-Nat : (n : ℕ) → term_of (core.Nat n) ≡ number n
term_of-Nat n = ap term_of (sym (rolls-Nat n)) ∙ fold-roll-Core Term (List Term) node_term list_of (Core-F.Nat n)

pub term_of-Bool : (b : Bool) → term_of (core.Bool b) ≡ truth_term b
term_of-Bool b = ap term_of (sym (rolls-Bool b)) ∙ fold-roll-Core Term (List Term) node_term list_of (Core-F.Bool b)

pub term_of-Text : (s : List ℕ) → term_of (core.Text s) ≡ text_term s
term_of-Text s = ap term_of (sym (rolls-Text s)) ∙ fold-roll-Core Term (List Term) node_term list_of (Core-F.Text s)

pub term_of-Bottom : term_of core.Bottom ≡ bottom_term
term_of-Bottom = ap term_of (sym rolls-Bottom) ∙ fold-roll-Core Term (List Term) node_term list_of Core-F.Bottom

pub term_of-Let : (a b : Box Core Global) → term_of (core.Let a b) ≡ let_term (term_of a.value) (term_of b.value)
term_of-Let a b = ap term_of (sym (rolls-Let a b)) ∙ fold-roll-Core Term (List Term) node_term list_of (Core-F.Let a b)

pub term_of-If : (c a b : Box Core Global) → term_of (core.If c a b) ≡ if_term (term_of c.value) (term_of a.value) (term_of b.value)
term_of-If c a b = ap term_of (sym (rolls-If c a b)) ∙ fold-roll-Core Term (List Term) node_term list_of (Core-F.If c a b)

pub term_of-Default : (a b : Box Core Global) → term_of (core.Default a b) ≡ default_term (term_of a.value) (term_of b.value)
term_of-Default a b = ap term_of (sym (rolls-Default a b)) ∙ fold-roll-Core Term (List Term) node_term list_of (Core-F.Default a b)

pub term_of-Proj : (at of : ℕ) (a : Box Core Global) → term_of (core.Proj at of a) ≡ proj_term at of (term_of a.value)
term_of-Proj at of a = ap term_of (sym (rolls-Proj at of a)) ∙ fold-roll-Core Term (List Term) node_term list_of (Core-F.Proj at of a)

pub term_of-Arith : (op : ArithOp) (a b : Box Core Global) → term_of (core.Arith op a b) ≡ arith_term op (term_of a.value) (term_of b.value)
term_of-Arith op a b = ap term_of (sym (rolls-Arith op a b)) ∙ fold-roll-Core Term (List Term) node_term list_of (Core-F.Arith op a b)

pub term_of-Compare : (op : CompareOp) (a b : Box Core Global) → term_of (core.Compare op a b) ≡ compare_term op (term_of a.value) (term_of b.value)
term_of-Compare op a b = ap term_of (sym (rolls-Compare op a b)) ∙ fold-roll-Core Term (List Term) node_term list_of (Core-F.Compare op a b)

pub term_of-Empty : term_of core.Empty ≡ empty_term
term_of-Empty = ap term_of (sym rolls-Empty) ∙ fold-roll-Core Term (List Term) node_term list_of Core-F.Empty

pub term_of-Single : (a : Box Core Global) → term_of (core.Single a) ≡ single_term (term_of a.value)
term_of-Single a = ap term_of (sym (rolls-Single a)) ∙ fold-roll-Core Term (List Term) node_term list_of (Core-F.Single a)

pub term_of-Union : (a b : Box Core Global) → term_of (core.Union a b) ≡ union_term (term_of a.value) (term_of b.value)
term_of-Union a b = ap term_of (sym (rolls-Union a b)) ∙ fold-roll-Core Term (List Term) node_term list_of (Core-F.Union a b)

pub term_of-BigUnion : (a b : Box Core Global) → term_of (core.BigUnion a b) ≡ big_union_term (term_of a.value) (term_of b.value)
term_of-BigUnion a b = ap term_of (sym (rolls-BigUnion a b)) ∙ fold-roll-Core Term (List Term) node_term list_of (Core-F.BigUnion a b)

pub term_of-Sum : (a b : Box Core Global) → term_of (core.Sum a b) ≡ sum_term (term_of a.value) (term_of b.value)
term_of-Sum a b = ap term_of (sym (rolls-Sum a b)) ∙ fold-roll-Core Term (List Term) node_term list_of (Core-F.Sum a b)

pub term_of-Gen : (a : Box Core Global) → term_of (core.Gen a) ≡ gen_term (term_of a.value)
term_of-Gen a = ap term_of (sym (rolls-Gen a)) ∙ fold-roll-Core Term (List Term) node_term list_of (Core-F.Gen a)

pub term_of-Get : (a : Box Core Global) → term_of (core.Get a) ≡ get_term (term_of a.value)
term_of-Get a = ap term_of (sym (rolls-Get a)) ∙ fold-roll-Core Term (List Term) node_term list_of (Core-F.Get a)

pub term_of-Dim : (rank : ℕ) (a : Box Core Global) → term_of (core.Dim rank a) ≡ dim_term rank (term_of a.value)
term_of-Dim rank a = ap term_of (sym (rolls-Dim rank a)) ∙ fold-roll-Core Term (List Term) node_term list_of (Core-F.Dim rank a)

pub term_of-Index : (rank : ℕ) (a : Box Core Global) → term_of (core.Index rank a) ≡ index_term rank (term_of a.value)
term_of-Index rank a = ap term_of (sym (rolls-Index rank a)) ∙ fold-roll-Core Term (List Term) node_term list_of (Core-F.Index rank a)

folded : Terms → List Term
folded ts = fold-Terms Term (List Term) node_term list_of ts

folded-terms_of : (ts : Terms) → folded ts ≡ terms_of ts
unfolding folded
folded-terms_of ts = fold_out-Terms Term (List Term) node_term list_of ts

pub term_of-Tuple : (ts : Terms) → term_of (core.Tuple ts) ≡ tuple_term (terms_of ts)
unfolding folded
term_of-Tuple ts =
    ap term_of (sym (rolls-Tuple ts))
    ∙ fold-roll-Core Term (List Term) node_term list_of (Core-F.Tuple ts)
    ∙ ap (λ l. node (Form.strict Strict.tuple) (plain l none)) (folded-terms_of ts)

pub term_of-Literal : (ds cs : Terms) → term_of (core.Literal ds cs) ≡ literal_term (terms_of ds) (terms_of cs)
unfolding folded
term_of-Literal ds cs =
    ap term_of (sym (rolls-Literal ds cs))
    ∙ fold-roll-Core Term (List Term) node_term list_of (Core-F.Literal ds cs)
    ∙ ap (λ l. node (Form.strict (Strict.literal (length l))) (plain l (plain (folded cs) none))) (folded-terms_of ds)
    ∙ ap (λ l. node (Form.strict (Strict.literal (length (terms_of ds)))) (plain (terms_of ds) (plain l none))) (folded-terms_of cs)

pub term_of-Tab : (ts : Terms) (b : Box Core Global) → term_of (core.Tab ts b) ≡ tab_term (terms_of ts) (term_of b.value)
unfolding folded
term_of-Tab ts b =
    ap term_of (sym (rolls-Tab ts b))
    ∙ fold-roll-Core Term (List Term) node_term list_of (Core-F.Tab ts b)
    ∙ ap (λ l. node (Form.tab (length l)) (plain l (part (length l) (term_of b.value) none))) (folded-terms_of ts)

pub term_of-Sub : (a : Box Core Global) (ts : Terms) → term_of (core.Sub a ts) ≡ sub_term (term_of a.value) (terms_of ts)
unfolding folded
term_of-Sub a ts =
    ap term_of (sym (rolls-Sub a ts))
    ∙ fold-roll-Core Term (List Term) node_term list_of (Core-F.Sub a ts)
    ∙ ap (λ l. node (Form.strict Strict.sub) (plain (term_of a.value ∷ l) none)) (folded-terms_of ts)

pub length-terms_of : (ts : Terms) → length (terms_of ts) ≡ vec_len ts.0
length-terms_of ts = length-map ts.0.items term_of ∙ sym ts.0.ok.0

-- the equations of the four variants that keep a list
pub ruleset list_variants = (term_of-Tuple, term_of-Literal, term_of-Tab, term_of-Sub, length-terms_of)

-- the forms of these variants
pub form_of-Tuple : (ts : Terms) → form_of (term_of (core.Tuple ts)) ≡ Form.strict Strict.tuple
form_of-Tuple ts = ap form_of (term_of-Tuple ts)

pub form_of-Tab : (ts : Terms) (b : Box Core Global) → form_of (term_of (core.Tab ts b)) ≡ Form.tab (vec_len ts.0)
form_of-Tab ts b = ap form_of (term_of-Tab ts b) ∙ ap Form.tab (length-terms_of ts)

pub form_of-Sub : (a : Box Core Global) (ts : Terms) → form_of (term_of (core.Sub a ts)) ≡ Form.strict Strict.sub
form_of-Sub a ts = ap form_of (term_of-Sub a ts)

pub form_of-Literal : (ds cs : Terms) → form_of (term_of (core.Literal ds cs)) ≡ Form.strict (Strict.literal (vec_len ds.0))
form_of-Literal ds cs = ap form_of (term_of-Literal ds cs) ∙ ap (λ n. Form.strict (Strict.literal n)) (length-terms_of ds)

pub ruleset list_forms = (form_of-Tuple, form_of-Tab, form_of-Sub, form_of-Literal)
