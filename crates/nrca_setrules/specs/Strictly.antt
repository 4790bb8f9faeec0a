-- Bottom in a strict part of a node.
use Rattle.std.specs.Prelude.{◌≡◌, ℕ, true, Some}
use Rattle.nrca_term.specs.Term.{Term, form_of, parts_of, child_of}
use Rattle.nrca_term.specs.Nodes.{bottom_term}
use Rattle.nrca_term.specs.Subst.{is_strict}

-- part i of the term is strict, and Bottom
abbrev pub IsStrictBottom : ℕ → Term → Type 0
IsStrictBottom i t = (is_strict (form_of t) i ≡ true) × (child_of (parts_of t) i ≡ Some bottom_term)
