-- A node with nothing in the places of its parts.
use Rattle.std.specs.Prelude.{List, map}
use Rattle.nrca_term.specs.declared.term.Terms.{Terms}
use Rattle.nrca_term.specs.Term.{Term, Parts, node, none, part}
use Rattle.nrca_term.specs.Nodes.{bottom_term}

-- Bottom in the place of each part
abbrev pub hollow_parts : Parts → Parts
hollow_parts none = none
hollow_parts (part k t ps) = part k bottom_term (hollow_parts ps)

-- the node of a term with Bottom in the place of each part
abbrev pub hollow : Term → Term
hollow (node f ps) = node f (hollow_parts ps)

-- as many Bottoms as there are terms in a list
abbrev pub bottoms : Terms → List Term
bottoms ts = map (λ t. bottom_term) ts.0.items
