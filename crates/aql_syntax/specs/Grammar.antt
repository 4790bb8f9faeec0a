-- The grammar, by levels of precedence. Reads level e s r: the lexemes s are those of e at that level, followed by r.
use Rattle.std.specs.Prelude.{ℕ, zero, suc, ◌≡◌, ◌≢◌, ◌+◌, ◌≤◌, true, false, List, [], ◌∷◌, ◌++◌, map, length, Option, Some, None}
use Rattle.aql_value.specs.Strict.{Strict}
use Rattle.aql_value.specs.declared.ops.ArithOp.TheVariants as ariths
use Rattle.aql_value.specs.declared.ops.CompareOp.{CompareOp}
use Rattle.aql_value.specs.declared.ops.CompareOp.TheVariants as compares
use Rattle.aql_ty.specs.Types.{IsRank}
use Rattle.aql_syntax.specs.declared.sign.Sign.TheVariants as signs
use Rattle.aql_syntax.specs.declared.ast.Kind.{Kind}
use Rattle.aql_syntax.specs.declared.ast.Kind.TheVariants as field_kinds
use Rattle.aql_syntax.specs.Lexis.{Lexeme, named, numeral, quoted, mark}
use Rattle.aql_syntax.specs.Tree.{Name, Pat, bind, any, equals, refers, tuple, Pats, no_pat, pat, number, truth, bytes, Tree, name, op, members, comp, tab, bindings, choice, conjunction, disjunction, negation, default, apply, function, summap, Trees, no_tree, tree, Axes, no_axis, axis, Quals, no_qual, from, cells, same, test, Defs, no_def, def, Reader, plain, signed, strided, records, Declaration, val, mac, read, bare, count_trees, count_axes, append}
use Rattle.aql_syntax.specs.View.{of_one, of_two}

mutual
  -- pat = "\" name | "_" | number | string | "true" | "false" | name | "(" pat ")" | "(" pat "," pat { "," pat } ")"
  pub data ReadsPat : Pat → List Lexeme → List Lexeme → Type 0 where
    pat_bind : {x : Name} {r : List Lexeme} → ReadsPat (bind x) (mark signs.Backslash ∷ named x ∷ r) r
    pat_any : {r : List Lexeme} → ReadsPat any (mark signs.Underscore ∷ r) r
    pat_number : {n : ℕ} {r : List Lexeme} → ReadsPat (equals (number n)) (numeral n ∷ r) r
    pat_text : {t : List ℕ} {r : List Lexeme} → ReadsPat (equals (bytes t)) (quoted t ∷ r) r
    pat_true : {r : List Lexeme} → ReadsPat (equals (truth true)) (mark signs.True ∷ r) r
    pat_false : {r : List Lexeme} → ReadsPat (equals (truth false)) (mark signs.False ∷ r) r
    pat_name : {x : Name} {r : List Lexeme} → ReadsPat (refers x) (named x ∷ r) r
    pat_paren : {p : Pat} {s r : List Lexeme} → ReadsPat p s (mark signs.Close ∷ r) → ReadsPat p (mark signs.Open ∷ s) r
    pat_tuple : {p : Pat} {ps : Pats} {s s' r : List Lexeme} → ReadsPat p s (mark signs.Comma ∷ s') → ReadsPats ps s' (mark signs.Close ∷ r) →
        ReadsPat (tuple (pat p ps)) (mark signs.Open ∷ s) r

  -- one pattern or more, with commas between them
  pub data ReadsPats : Pats → List Lexeme → List Lexeme → Type 0 where
    pats_last : {p : Pat} {s r : List Lexeme} → ReadsPat p s r → ReadsPats (pat p no_pat) s r
    pats_more : {p : Pat} {ps : Pats} {s s' r : List Lexeme} → ReadsPat p s (mark signs.Comma ∷ s') → ReadsPats ps s' r → ReadsPats (pat p ps) s r

-- the operators that associate to the left, by level, the tightest first: `* / %`, `+ -`, `union`
abbrev pub tight_operator : ℕ → Lexeme → Option Strict
tight_operator (suc zero) (mark signs.Star) = Some (Strict.arith ariths.Mul)
tight_operator (suc zero) (mark signs.Slash) = Some (Strict.arith ariths.Quotient)
tight_operator (suc zero) (mark signs.Percent) = Some (Strict.arith ariths.Remainder)
tight_operator (suc (suc zero)) (mark signs.Plus) = Some (Strict.arith ariths.Add)
tight_operator (suc (suc zero)) (mark signs.Minus) = Some (Strict.arith ariths.Monus)
tight_operator (suc (suc (suc zero))) (mark signs.Union) = Some Strict.union
tight_operator _ _ = None

-- the comparisons, which do not associate
abbrev pub compare_operator : Lexeme → Option CompareOp
compare_operator (mark signs.Equal) = Some compares.Equal
compare_operator (mark signs.Unequal) = Some compares.Unequal
compare_operator (mark signs.Less) = Some compares.Less
compare_operator (mark signs.LessEqual) = Some compares.LessEqual
compare_operator (mark signs.Greater) = Some compares.Greater
compare_operator (mark signs.GreaterEqual) = Some compares.GreaterEqual
compare_operator _ = None

-- what `and` and `or` make of two expressions
pub data Junction : Type 0 where
  both : Junction
  either : Junction

-- two expressions under `and` or `or`
abbrev pub junction : Junction → Tree → Tree → Tree
junction both a b = conjunction a b
junction either a b = disjunction a b

-- `and` and `or` by level, the tightest first
abbrev pub loose_operator : ℕ → Lexeme → Option Junction
loose_operator (suc zero) (mark signs.And) = Some both
loose_operator (suc (suc zero)) (mark signs.Or) = Some either
loose_operator _ _ = None

-- the reserved words in head position, each an operation of one part
abbrev pub head_operator : Lexeme → Option Strict
head_operator (mark signs.Gen) = Some Strict.gen
head_operator (mark signs.Get) = Some Strict.get
head_operator (mark signs.Len) = Some (Strict.dim 1)
head_operator (mark signs.Dim1) = Some (Strict.dim 1)
head_operator (mark signs.Dim2) = Some (Strict.dim 2)
head_operator (mark signs.Dim3) = Some (Strict.dim 3)
head_operator (mark signs.Dim4) = Some (Strict.dim 4)
head_operator (mark signs.Dim5) = Some (Strict.dim 5)
head_operator (mark signs.Dim6) = Some (Strict.dim 6)
head_operator (mark signs.Dim7) = Some (Strict.dim 7)
head_operator (mark signs.Dim8) = Some (Strict.dim 8)
head_operator (mark signs.Index1) = Some (Strict.index 1)
head_operator (mark signs.Index2) = Some (Strict.index 2)
head_operator (mark signs.Index3) = Some (Strict.index 3)
head_operator (mark signs.Index4) = Some (Strict.index 4)
head_operator (mark signs.Index5) = Some (Strict.index 5)
head_operator (mark signs.Index6) = Some (Strict.index 6)
head_operator (mark signs.Index7) = Some (Strict.index 7)
head_operator (mark signs.Index8) = Some (Strict.index 8)
head_operator _ = None

-- The levels, the tightest first. tight 0 is an application, tight 1 to 3 are those of `tight_operator`;
-- loose 0 is a negation, loose 1 and 2 are those of `loose_operator`; whole is an expression.
pub data Level : Type 0 where
  primary : Level
  postfix : Level
  tight : ℕ → Level
  comparison : Level
  loose : ℕ → Level
  whole : Level

mutual
  -- an expression of a level stands at the front of the lexemes, and these follow it
  pub data Reads : Level → Tree → List Lexeme → List Lexeme → Type 0 where
    -- prim
    reads_number : {n : ℕ} {r : List Lexeme} → Reads primary (op (Strict.nat n) no_tree) (numeral n ∷ r) r
    reads_text : {t : List ℕ} {r : List Lexeme} → Reads primary (op (Strict.text t) no_tree) (quoted t ∷ r) r
    reads_true : {r : List Lexeme} → Reads primary (op (Strict.bool true) no_tree) (mark signs.True ∷ r) r
    reads_false : {r : List Lexeme} → Reads primary (op (Strict.bool false) no_tree) (mark signs.False ∷ r) r
    reads_name : {x : Name} {r : List Lexeme} → Reads primary (name x) (named x ∷ r) r
    reads_paren : {e : Tree} {s r : List Lexeme} → Reads whole e s (mark signs.Close ∷ r) → Reads primary e (mark signs.Open ∷ s) r
    reads_tuple : {e : Tree} {es : Trees} {s s' r : List Lexeme} → Reads whole e s (mark signs.Comma ∷ s') → ReadsList es s' (mark signs.Close ∷ r) →
        Reads primary (op Strict.tuple (tree e es)) (mark signs.Open ∷ s) r
    reads_empty : {r : List Lexeme} → Reads primary (op Strict.empty no_tree) (mark signs.OpenBrace ∷ mark signs.CloseBrace ∷ r) r
    reads_members : {es : Trees} {s r : List Lexeme} → ReadsList es s (mark signs.CloseBrace ∷ r) → Reads primary (members es) (mark signs.OpenBrace ∷ s) r
    reads_comp : {e : Tree} {qs : Quals} {s s' r : List Lexeme} → Reads whole e s (mark signs.Bar ∷ s') → ReadsQuals qs s' (mark signs.CloseBrace ∷ r) →
        Reads primary (comp e qs) (mark signs.OpenBrace ∷ s) r
    reads_tab : {e : Tree} {xs : Axes} {s s' r : List Lexeme} → Reads whole e s (mark signs.Bar ∷ s') →
        ReadsAxes xs s' (mark signs.CloseBracket ∷ mark signs.CloseBracket ∷ r) → count_axes xs ≤ 8 →
        Reads primary (tab xs e) (mark signs.OpenBracket ∷ mark signs.OpenBracket ∷ s) r
    reads_literal : {ds cs : Trees} {s s' r : List Lexeme} → ReadsList ds s (mark signs.Semicolon ∷ s') → count_trees ds ≤ 8 →
        ReadsMaybe cs s' (mark signs.CloseBracket ∷ mark signs.CloseBracket ∷ r) →
        Reads primary (op (Strict.literal (count_trees ds)) (append ds cs)) (mark signs.OpenBracket ∷ mark signs.OpenBracket ∷ s) r
    reads_let : {ds : Defs} {e : Tree} {s s' r : List Lexeme} → ReadsDefs ds s (mark signs.In ∷ s') → Reads whole e s' (mark signs.End ∷ r) →
        Reads primary (bindings ds e) (mark signs.Let ∷ s) r
    -- post
    reads_primary : {e : Tree} {s r : List Lexeme} → Reads primary e s r → Reads postfix e s r
    reads_sub : {a : Tree} {es : Trees} {s s' r : List Lexeme} → Reads postfix a s (mark signs.OpenBracket ∷ s') →
        ReadsList es s' (mark signs.CloseBracket ∷ r) → count_trees es ≤ 8 → Reads postfix (op Strict.sub (tree a es)) s r
    -- app
    reads_postfix : {e : Tree} {s r : List Lexeme} → Reads postfix e s r → Reads (tight 0) e s r
    reads_apply : {f : Name} {a : Tree} {s r : List Lexeme} → Reads (tight 0) a s r → Reads (tight 0) (apply f a) (named f ∷ mark signs.Bang ∷ s) r
    reads_operation : {l : Lexeme} {o : Strict} {a : Tree} {s r : List Lexeme} → head_operator l ≡ Some o → Reads (tight 0) a s r →
        Reads (tight 0) (of_one o a) (l ∷ mark signs.Bang ∷ s) r
    reads_function : {p : Pat} {e a : Tree} {s s' s'' r : List Lexeme} → ReadsPat p s (mark signs.FatArrow ∷ s') →
        Reads whole e s' (mark signs.Close ∷ mark signs.Bang ∷ s'') → Reads (tight 0) a s'' r →
        Reads (tight 0) (function p e a) (mark signs.Open ∷ mark signs.Fn ∷ s) r
    reads_summap : {p : Pat} {e a : Tree} {s s' s'' r : List Lexeme} → ReadsPat p s (mark signs.FatArrow ∷ s') →
        Reads whole e s' (mark signs.Close ∷ mark signs.Bang ∷ s'') → Reads (tight 0) a s'' r →
        Reads (tight 0) (summap p e a) (mark signs.Summap ∷ mark signs.Open ∷ mark signs.Fn ∷ s) r
    -- prod, sum, uni
    reads_tighter : {h : ℕ} {e : Tree} {s r : List Lexeme} → Reads (tight h) e s r → Reads (tight (suc h)) e s r
    reads_binary : {h : ℕ} {a b : Tree} {l : Lexeme} {o : Strict} {s s' r : List Lexeme} → Reads (tight (suc h)) a s (l ∷ s') →
        tight_operator (suc h) l ≡ Some o → Reads (tight h) b s' r → Reads (tight (suc h)) (of_two o a b) s r
    -- cmp
    reads_union : {e : Tree} {s r : List Lexeme} → Reads (tight 3) e s r → Reads comparison e s r
    reads_compare : {a b : Tree} {l : Lexeme} {o : CompareOp} {s s' r : List Lexeme} → Reads (tight 3) a s (l ∷ s') → compare_operator l ≡ Some o →
        Reads (tight 3) b s' r → Reads comparison (of_two (Strict.compare o) a b) s r
    -- not
    reads_comparison : {e : Tree} {s r : List Lexeme} → Reads comparison e s r → Reads (loose 0) e s r
    reads_not : {e : Tree} {s r : List Lexeme} → Reads (loose 0) e s r → Reads (loose 0) (negation e) (mark signs.Not ∷ s) r
    -- and, or
    reads_looser : {h : ℕ} {e : Tree} {s r : List Lexeme} → Reads (loose h) e s r → Reads (loose (suc h)) e s r
    reads_junction : {h : ℕ} {a b : Tree} {l : Lexeme} {j : Junction} {s s' r : List Lexeme} → Reads (loose (suc h)) a s (l ∷ s') →
        loose_operator (suc h) l ≡ Some j → Reads (loose h) b s' r → Reads (loose (suc h)) (junction j a b) s r
    -- expr
    reads_or : {e : Tree} {s r : List Lexeme} → Reads (loose 2) e s r → Reads whole e s r
    reads_default : {a b : Tree} {s s' r : List Lexeme} → Reads (loose 2) a s (mark signs.Default ∷ s') → Reads whole b s' r → Reads whole (default a b) s r
    reads_if : {c a b : Tree} {s s' s'' r : List Lexeme} → Reads whole c s (mark signs.Then ∷ s') → Reads whole a s' (mark signs.Else ∷ s'') →
        Reads whole b s'' r → Reads whole (choice c a b) (mark signs.If ∷ s) r

  -- one expression or more, with commas between them
  pub data ReadsList : Trees → List Lexeme → List Lexeme → Type 0 where
    list_last : {e : Tree} {s r : List Lexeme} → Reads whole e s r → ReadsList (tree e no_tree) s r
    list_more : {e : Tree} {es : Trees} {s s' r : List Lexeme} → Reads whole e s (mark signs.Comma ∷ s') → ReadsList es s' r → ReadsList (tree e es) s r

  -- such a list, or nothing
  pub data ReadsMaybe : Trees → List Lexeme → List Lexeme → Type 0 where
    maybe_none : {r : List Lexeme} → ReadsMaybe no_tree r r
    maybe_list : {es : Trees} {s r : List Lexeme} → ReadsList es s r → ReadsMaybe es s r

  -- bind = "\" name "<" expr, one or more, with commas between them
  pub data ReadsAxes : Axes → List Lexeme → List Lexeme → Type 0 where
    axes_last : {x : Name} {e : Tree} {s r : List Lexeme} → Reads whole e s r →
        ReadsAxes (axis x e no_axis) (mark signs.Backslash ∷ named x ∷ mark signs.Less ∷ s) r
    axes_more : {x : Name} {e : Tree} {xs : Axes} {s s' r : List Lexeme} → Reads whole e s (mark signs.Comma ∷ s') → ReadsAxes xs s' r →
        ReadsAxes (axis x e xs) (mark signs.Backslash ∷ named x ∷ mark signs.Less ∷ s) r

  -- "val" pat "=" expr, one or more
  pub data ReadsDefs : Defs → List Lexeme → List Lexeme → Type 0 where
    defs_last : {p : Pat} {e : Tree} {s s' r : List Lexeme} → ReadsPat p s (mark signs.Equal ∷ s') → Reads whole e s' r →
        ReadsDefs (def p e no_def) (mark signs.Val ∷ s) r
    defs_more : {p : Pat} {e : Tree} {ds : Defs} {s s' s'' r : List Lexeme} → ReadsPat p s (mark signs.Equal ∷ s') → Reads whole e s' s'' →
        ReadsDefs ds s'' r → ReadsDefs (def p e ds) (mark signs.Val ∷ s) r

  -- qual = pat "<-" expr | "[" pat ":" pat "]" "<-" expr | pat "==" expr | expr, one or more, with commas between them
  pub data ReadsQuals : Quals → List Lexeme → List Lexeme → Type 0 where
    quals_from : {p : Pat} {e : Tree} {qs : Quals} {s s' s'' r : List Lexeme} → ReadsPat p s (mark signs.Arrow ∷ s') → Reads whole e s' s'' →
        ReadsMoreQuals qs s'' r → ReadsQuals (from p e qs) s r
    quals_cells : {p q : Pat} {e : Tree} {qs : Quals} {s s' s'' s''' r : List Lexeme} → ReadsPat p s (mark signs.Colon ∷ s') →
        ReadsPat q s' (mark signs.CloseBracket ∷ mark signs.Arrow ∷ s'') → Reads whole e s'' s''' → ReadsMoreQuals qs s''' r →
        ReadsQuals (cells p q e qs) (mark signs.OpenBracket ∷ s) r
    quals_same : {p : Pat} {e : Tree} {qs : Quals} {s s' s'' r : List Lexeme} → ReadsPat p s (mark signs.DoubleEqual ∷ s') → Reads whole e s' s'' →
        ReadsMoreQuals qs s'' r → ReadsQuals (same p e qs) s r
    quals_test : {e : Tree} {qs : Quals} {s s' r : List Lexeme} → Reads whole e s s' → ReadsMoreQuals qs s' r → ReadsQuals (test e qs) s r

  -- a comma and further qualifiers, or nothing
  pub data ReadsMoreQuals : Quals → List Lexeme → List Lexeme → Type 0 where
    more_none : {r : List Lexeme} → ReadsMoreQuals no_qual r r
    more_quals : {qs : Quals} {s r : List Lexeme} → ReadsQuals qs s r → ReadsMoreQuals qs (mark signs.Comma ∷ s) r

-- The names of readers.

-- NETCDF
abbrev pub netcdf : List ℕ
netcdf = 78 ∷ 69 ∷ 84 ∷ 67 ∷ 68 ∷ 70 ∷ []

-- CSV
abbrev pub csv : List ℕ
csv = 67 ∷ 83 ∷ 86 ∷ []

-- N or S
abbrev pub kind_letter : Kind → ℕ
kind_letter field_kinds.Number = 78
kind_letter field_kinds.Bytes = 83

-- NETCDFk, NETCDFZk, NETCDFSk, and CSV or CSVH followed by a letter for each field
abbrev pub reader_name : Reader → Name
reader_name (plain k) = netcdf ++ ((48 + k) ∷ [])
reader_name (signed k) = netcdf ++ (90 ∷ (48 + k) ∷ [])
reader_name (strided k) = netcdf ++ (83 ∷ (48 + k) ∷ [])
reader_name (records false kinds) = csv ++ map kind_letter kinds
reader_name (records true kinds) = csv ++ (72 ∷ map kind_letter kinds)

-- ranks from 1 to 8; 1 to 8 fields
abbrev pub IsReader : Reader → Type 0
IsReader (plain k) = IsRank k
IsReader (signed k) = IsRank k
IsReader (strided k) = IsRank k
IsReader (records header kinds) = (1 ≤ length kinds) × (length kinds ≤ 8)

-- decl, with its semicolon
pub data ReadsDecl : Declaration → List Lexeme → List Lexeme → Type 0 where
  decl_val : {x : Name} {e : Tree} {s r : List Lexeme} → Reads whole e s (mark signs.Semicolon ∷ r) →
      ReadsDecl (val x e) (mark signs.Val ∷ mark signs.Backslash ∷ named x ∷ mark signs.Equal ∷ s) r
  decl_macro : {f : Name} {p : Pat} {e : Tree} {s s' r : List Lexeme} → ReadsPat p s (mark signs.FatArrow ∷ s') →
      Reads whole e s' (mark signs.Semicolon ∷ r) →
      ReadsDecl (mac f p e) (mark signs.Macro ∷ mark signs.Backslash ∷ named f ∷ mark signs.Equal ∷ mark signs.Fn ∷ s) r
  decl_read : {x : Name} {reader : Reader} {e : Tree} {s r : List Lexeme} → IsReader reader → Reads whole e s (mark signs.Semicolon ∷ r) →
      ReadsDecl (read x reader e)
      (mark signs.Readval ∷ mark signs.Backslash ∷ named x ∷ mark signs.Using ∷ named (reader_name reader) ∷ mark signs.At ∷ s) r
  decl_bare : {e : Tree} {s r : List Lexeme} → Reads whole e s (mark signs.Semicolon ∷ r) → ReadsDecl (bare e) s r

-- declarations, one after another
pub data ReadsDecls : List Declaration → List Lexeme → List Lexeme → Type 0 where
  decls_none : {s : List Lexeme} → ReadsDecls [] s s
  decls_more : {d : Declaration} {ds : List Declaration} {s s' r : List Lexeme} → ReadsDecl d s s' → ReadsDecls ds s' r → ReadsDecls (d ∷ ds) s r

-- the lexemes are those of these declarations, all of them
abbrev pub ReadsScript : List Declaration → List Lexeme → Type 0
ReadsScript ds s = ReadsDecls ds s []

-- the lexemes begin with n - 1 whole declarations, not with n, and aren't all read
pub record SyntaxFaultAt (n : ℕ) (s : List Lexeme) : Type 0 where
  pub before : List Declaration
  pub rest : List Lexeme
  pub count : length before + 1 ≡ n
  pub reads : ReadsDecls before s rest
  pub some : rest ≢ []
  pub none : (d : Declaration) (r : List Lexeme) → ReadsDecl d rest r → ⊥
