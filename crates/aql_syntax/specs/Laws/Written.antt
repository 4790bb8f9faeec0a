-- What the code's trees are is written: no tuple's part is taken by its number.
use Rattle.aql_syntax.specs.Tree as tree
use Rattle.aql_syntax.specs.Tree.{Trees, no_tree, Quals, append}
use Rattle.aql_syntax.specs.View.{tree_of, tree_row, qual_row, qual_of, axes_of, axis_row, defs_of, def_row, decl_of}
use Rattle.aql_syntax.specs.declared.ast.Expr as code
use Rattle.aql_syntax.specs.declared.ast.Expr.{Row_of-Expr, end_of-Expr, more_of-Expr, Row_of-Qual, end_of-Qual, more_of-Qual}
use Rattle.aql_syntax.specs.declared.ast.Binds.{Binds, Binds', Row_of-Bind, end_of-Bind, more_of-Bind}
use Rattle.aql_syntax.specs.declared.ast.Lets.{Lets, Lets', Row_of-LetBind, end_of-LetBind, more_of-LetBind}
use Rattle.aql_syntax.specs.declared.ast.Qual as code_qual
use Rattle.aql_syntax.specs.declared.ast.Decl.{Decl}
use Rattle.aql_syntax.specs.declared.ast.Decl.TheVariants as code_decl
use Rattle.aql_syntax.specs.Written.{IsWritten, AreWritten, AxesWritten, QualsWritten, DefsWritten, DeclWritten}

both_written : (a b : Trees) → AreWritten a → AreWritten b → AreWritten (append a b)
both_written no_tree b h k = k
both_written (tree.tree e a) b h k = (h.0, both_written a b h.1 k)

mutual
  pub written : (e : code.Expr) → IsWritten (tree_of e)
  written (code.Nat n) = (tt, tt)
  written (code.Bool b) = (tt, tt)
  written (code.Text s) = (tt, tt)
  written (code.Name x) = tt
  written (code.Row' shape es) = (tt, row_written es)
  written code.Empty = (tt, tt)
  written (code.Members' shape es) = row_written es
  written (code.Comp' p head shape quals) = (quals_written quals, written head)
  written (code.Tab' p body binds) = (axes_written binds, written body)
  written (code.Literal' shape dims shape2 cs) = (tt, both_written (tree_row dims) (tree_row cs) (row_written dims) (row_written cs))
  written (code.Let' binds p body) = (defs_written binds, written body)
  written (code.Sub' p array shape at) = (tt, (written array, row_written at))
  written (code.If' p a q b r c) = (written a, written b, written c)
  written (code.And' p a q b) = (written a, written b)
  written (code.Or' p a q b) = (written a, written b)
  written (code.Not' p a) = written a
  written (code.Compare' o p a q b) = (tt, (written a, (written b, tt)))
  written (code.Arith' o p a q b) = (tt, (written a, (written b, tt)))
  written (code.Union' p a q b) = (tt, (written a, (written b, tt)))
  written (code.Gen' p a) = (tt, (written a, tt))
  written (code.Get' p a) = (tt, (written a, tt))
  written (code.Len' p a) = (tt, (written a, tt))
  written (code.Dim' k p a) = (tt, (written a, tt))
  written (code.Index' k p a) = (tt, (written a, tt))
  written (code.Apply' f p a) = written a
  written (code.Fun' x p body q a) = (written body, written a)
  written (code.SumMap' x p body q a) = (written body, written a)
  written (code.Default' p a q b) = (written a, written b)

  row_written : {n : _} (es : Row_of-Expr n) → AreWritten (tree_row es)
  row_written end_of-Expr = tt
  row_written (more_of-Expr e es) = (written e, row_written es)

  quals_written : {n : _} (qs : Row_of-Qual n) → QualsWritten (qual_row qs)
  quals_written end_of-Qual = tt
  quals_written (more_of-Qual q qs) = qual_written q (qual_row qs) (quals_written qs)

  qual_written : (q : code_qual.Qual) (rest : Quals) → QualsWritten rest → QualsWritten (qual_of q rest)
  qual_written (code_qual.From p e) rest h = (written e, h)
  qual_written (code_qual.Cells p q e) rest h = (written e, h)
  qual_written (code_qual.Match p e) rest h = (written e, h)
  qual_written (code_qual.Test e) rest h = (written e, h)

  axes_written : (bs : Binds) → AxesWritten (axes_of bs)
  axes_written (Binds' shape bs) = axis_row_written bs

  axis_row_written : {n : _} (bs : Row_of-Bind n) → AxesWritten (axis_row bs)
  axis_row_written end_of-Bind = tt
  axis_row_written (more_of-Bind x e bs) = (written e, axis_row_written bs)

  defs_written : (bs : Lets) → DefsWritten (defs_of bs)
  defs_written (Lets' shape bs) = def_row_written bs

  def_row_written : {n : _} (bs : Row_of-LetBind n) → DefsWritten (def_row bs)
  def_row_written end_of-LetBind = tt
  def_row_written (more_of-LetBind p e bs) = (written e, def_row_written bs)

pub decl_written : (d : Decl) → DeclWritten (decl_of d)
decl_written (code_decl.Val x e) = written e
decl_written (code_decl.Macro f p e) = written e
decl_written (code_decl.Read x r e) = written e
decl_written (code_decl.Bare e) = written e
