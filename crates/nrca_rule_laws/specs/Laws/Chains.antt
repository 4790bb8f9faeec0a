-- Chains of steps put together, and conditions at a place of a part carried up to the node.
use Rattle.std.proofs.Common.{List, [], ◌∷◌, ◌++◌, refl, sym, subst}
use Rattle.nrca_term.specs.declared.trace.Step as code
use Rattle.nrca_term.specs.Term.{Term}
use Rattle.nrca_term.specs.Meaning.{Outcomes}
use Rattle.nrca_term.specs.Rules.{Step, Replay}

-- one chain after another is a chain
pub replay-append : (V : Outcomes) (xs ys : List code.Step) (t m u : Term) → Replay V xs t m → Replay V ys m u → Replay V (xs ++ ys) t u
replay-append V [] ys t m u e k = subst (λ x. Replay V ys x u) (sym e) k
replay-append V (s ∷ xs) ys t m u h k = (h.0, h.1, replay-append V xs ys h.0 m u h.2 k)

-- a chain grows by a last step
pub replay-more : (V : Outcomes) (xs : List code.Step) (s : code.Step) (t m u : Term) → Replay V xs t m → Step V s.rule s.path m u → Replay V (xs ++ s ∷ []) t u
replay-more V xs s t m u h k = replay-append V xs (s ∷ []) t m u h (u, k, refl)
