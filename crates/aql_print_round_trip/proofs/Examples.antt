-- The texts of some values, what they say and the expressions that they are, computed.
use Rattle.std.specs.Prelude.{◌≡◌, false, [], ◌∷◌, ◌++◌, codes, refl}
use Rattle.std.specs.Fmt.{digits}
use Rattle.aql_value.specs.Datum as datum
use Rattle.aql_value.specs.Datum.{Datum, natural, truth, tuple, set, array, nil, cons}
use Rattle.aql_value.specs.Strict.{Strict}
use Rattle.aql_syntax.specs.declared.sign.Sign.TheVariants as signs
use Rattle.aql_syntax.specs.Lexis.{numeral, mark}
use Rattle.aql_syntax.specs.Tree.{op, members, no_tree, tree}
use Rattle.aql_print.specs.ValueText.{text}
use Rattle.aql_print_round_trip.proofs.Said.{said, expression}

-- the array of no cells
abbrev no_cells : Datum
no_cells = array (0 ∷ []) nil

no_cells_text : text no_cells ++ codes ";" ≡ codes "[[0; ]];"
unfolding digits
no_cells_text = refl

no_cells_said :
    said no_cells (mark signs.Semicolon ∷ [])
    ≡ mark signs.OpenBracket ∷ mark signs.OpenBracket ∷ numeral 0 ∷ mark signs.Semicolon ∷ mark signs.CloseBracket ∷ mark signs.CloseBracket ∷ mark signs.Semicolon ∷ []
no_cells_said = refl

no_cells_read : expression no_cells ≡ op (Strict.literal 1) (tree (op (Strict.nat 0) no_tree) no_tree)
no_cells_read = refl

-- a set of pairs and the empty set
abbrev sets : Datum
sets = tuple (cons (set (cons (tuple (cons (truth false) (cons (natural 3) nil))) nil)) (cons (set nil) nil))

sets_text : text sets ++ codes ";" ≡ codes "({(false, 3)}, {});"
unfolding digits
sets_text = refl

sets_read :
    expression sets
    ≡ op Strict.tuple
    (tree (members (tree (op Strict.tuple (tree (op (Strict.bool false) no_tree) (tree (op (Strict.nat 3) no_tree) no_tree))) no_tree))
    (tree (op Strict.empty no_tree) no_tree))
sets_read = refl

string_text : text (datum.text (34 ∷ 97 ∷ 255 ∷ [])) ≡ codes "\"\\\"a\\xff\""
string_text = refl
