-- The form of a let.
use Rattle.std.specs.Prelude.{Bool, true, false}
use Rattle.nrca_term.specs.Term.{Form}

-- whether a form is a let
abbrev pub is_bind : Form → Bool
is_bind Form.bind = true
is_bind _ = false
