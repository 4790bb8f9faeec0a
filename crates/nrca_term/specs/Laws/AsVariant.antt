-- The term of a node whose variant is known, from the terms of its parts.
use Rattle.std.proofs.Common.{◌≡◌, ℕ, Bool, List, Box, Global, ap, ◌∙◌}
use Rattle.aql_value.specs.declared.ops.ArithOp.{ArithOp}
use Rattle.aql_value.specs.declared.ops.CompareOp.{CompareOp}
use Rattle.nrca_term.specs.declared.term.Core.{Core}
use Rattle.nrca_term.specs.declared.term.Terms.{Terms}
use Rattle.nrca_term.specs.declared.term.Core.TheVariants as core
use Rattle.nrca_term.specs.Nodes.{variable, position, number, truth_term, text_term, bottom_term, let_term, if_term, default_term, tuple_term, proj_term, arith_term, compare_term, empty_term, single_term, union_term, big_union_term, sum_term, gen_term, get_term, tab_term, sub_term, dim_term, literal_term}
use Rattle.nrca_term.specs.View.{term_of, terms_of}
use Rattle.nrca_term.specs.Laws.Equations.{term_of-Var, term_of-Global, term_of-Nat, term_of-Bool, term_of-Text, term_of-Bottom, term_of-Let, term_of-If, term_of-Default, term_of-Proj, term_of-Arith, term_of-Compare, term_of-Empty, term_of-Single, term_of-Union, term_of-BigUnion, term_of-Sum, term_of-Gen, term_of-Get, term_of-Dim, term_of-Tuple, term_of-Literal, term_of-Tab, term_of-Sub}

pub as-Var : (t : Core) (i : ℕ) → t ≡ core.Var i → term_of t ≡ variable i
as-Var t i e = ap term_of e ∙ term_of-Var i

pub as-Global : (t : Core) (n : ℕ) → t ≡ core.Global n → term_of t ≡ position n
as-Global t n e = ap term_of e ∙ term_of-Global n

pub as-Nat : (t : Core) (n : ℕ) → t ≡ core.Nat n → term_of t ≡ number n
as-Nat t n e = ap term_of e ∙ term_of-Nat n

pub as-Bool : (t : Core) (b : Bool) → t ≡ core.Bool b → term_of t ≡ truth_term b
as-Bool t b e = ap term_of e ∙ term_of-Bool b

pub as-Text : (t : Core) (s : List ℕ) → t ≡ core.Text s → term_of t ≡ text_term s
as-Text t s e = ap term_of e ∙ term_of-Text s

pub as-Bottom : (t : Core) → t ≡ core.Bottom → term_of t ≡ bottom_term
as-Bottom t e = ap term_of e ∙ term_of-Bottom

pub as-Let : (t : Core) (a b : Box Core Global) → t ≡ core.Let a b → term_of t ≡ let_term (term_of a.value) (term_of b.value)
as-Let t a b e = ap term_of e ∙ term_of-Let a b

pub as-If : (t : Core) (c a b : Box Core Global) → t ≡ core.If c a b → term_of t ≡ if_term (term_of c.value) (term_of a.value) (term_of b.value)
as-If t c a b e = ap term_of e ∙ term_of-If c a b

pub as-Default : (t : Core) (a b : Box Core Global) → t ≡ core.Default a b → term_of t ≡ default_term (term_of a.value) (term_of b.value)
as-Default t a b e = ap term_of e ∙ term_of-Default a b

pub as-Proj : (t : Core) (at of : ℕ) (a : Box Core Global) → t ≡ core.Proj at of a → term_of t ≡ proj_term at of (term_of a.value)
as-Proj t at of a e = ap term_of e ∙ term_of-Proj at of a

pub as-Arith : (t : Core) (op : ArithOp) (a b : Box Core Global) → t ≡ core.Arith op a b → term_of t ≡ arith_term op (term_of a.value) (term_of b.value)
as-Arith t op a b e = ap term_of e ∙ term_of-Arith op a b

pub as-Compare : (t : Core) (op : CompareOp) (a b : Box Core Global) → t ≡ core.Compare op a b → term_of t ≡ compare_term op (term_of a.value) (term_of b.value)
as-Compare t op a b e = ap term_of e ∙ term_of-Compare op a b

pub as-Empty : (t : Core) → t ≡ core.Empty → term_of t ≡ empty_term
as-Empty t e = ap term_of e ∙ term_of-Empty

pub as-Single : (t : Core) (a : Box Core Global) → t ≡ core.Single a → term_of t ≡ single_term (term_of a.value)
as-Single t a e = ap term_of e ∙ term_of-Single a

pub as-Union : (t : Core) (a b : Box Core Global) → t ≡ core.Union a b → term_of t ≡ union_term (term_of a.value) (term_of b.value)
as-Union t a b e = ap term_of e ∙ term_of-Union a b

pub as-BigUnion : (t : Core) (a b : Box Core Global) → t ≡ core.BigUnion a b → term_of t ≡ big_union_term (term_of a.value) (term_of b.value)
as-BigUnion t a b e = ap term_of e ∙ term_of-BigUnion a b

pub as-Sum : (t : Core) (a b : Box Core Global) → t ≡ core.Sum a b → term_of t ≡ sum_term (term_of a.value) (term_of b.value)
as-Sum t a b e = ap term_of e ∙ term_of-Sum a b

pub as-Gen : (t : Core) (a : Box Core Global) → t ≡ core.Gen a → term_of t ≡ gen_term (term_of a.value)
as-Gen t a e = ap term_of e ∙ term_of-Gen a

pub as-Get : (t : Core) (a : Box Core Global) → t ≡ core.Get a → term_of t ≡ get_term (term_of a.value)
as-Get t a e = ap term_of e ∙ term_of-Get a

pub as-Dim : (t : Core) (rank : ℕ) (a : Box Core Global) → t ≡ core.Dim rank a → term_of t ≡ dim_term rank (term_of a.value)
as-Dim t rank a e = ap term_of e ∙ term_of-Dim rank a

pub as-Tuple : (t : Core) (ts : Terms) → t ≡ core.Tuple ts → term_of t ≡ tuple_term (terms_of ts)
as-Tuple t ts e = ap term_of e ∙ term_of-Tuple ts

pub as-Literal : (t : Core) (ds cs : Terms) → t ≡ core.Literal ds cs → term_of t ≡ literal_term (terms_of ds) (terms_of cs)
as-Literal t ds cs e = ap term_of e ∙ term_of-Literal ds cs

pub as-Tab : (t : Core) (ts : Terms) (b : Box Core Global) → t ≡ core.Tab ts b → term_of t ≡ tab_term (terms_of ts) (term_of b.value)
as-Tab t ts b e = ap term_of e ∙ term_of-Tab ts b

pub as-Sub : (t : Core) (a : Box Core Global) (ts : Terms) → t ≡ core.Sub a ts → term_of t ≡ sub_term (term_of a.value) (terms_of ts)
as-Sub t a ts e = ap term_of e ∙ term_of-Sub a ts
