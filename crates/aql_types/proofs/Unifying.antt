-- One equation solved is two types unified.
use Rattle.std.proofs.Common.{◌≡◌, [], ◌∷◌, subst, Result, Ok, Err}
use Rattle.aql_ty.specs.Types.{Ty, Tys, no_type, IsWithin}
use Rattle.aql_types.specs.declared.fault.UnifyFault.{UnifyFault}
use Rattle.aql_types.specs.declared.fault.UnifyFault.TheVariants as faults
use Rattle.aql_types.specs.declared.subst.Subst as code
use Rattle.aql_types.specs.Unifiers.{Equations}
use Rattle.aql_types.specs.Answers.{SolvedIn, Unified}

one_unified : (r : Result code.Subst UnifyFault) (a b : Ty) → SolvedIn r ((a, b) ∷ []) no_type → Unified r a b
one_unified (Ok s) a b h = record {
  unifies = record { equal = h.best.unifies.0; within = h.sides.0 };
  general = λ u k x. h.best.general u (k.equal, tt) x;
}
one_unified (Err faults.Clash) a b h = λ u k. h u (record { unifies = (k.equal, tt); sides = (k.within, subst IsWithin k.equal k.within, tt); uses = tt })
one_unified (Err faults.Memory) a b h = tt

-- the equation of two types alone, and no types that are used
pub unified : (r : Result code.Subst UnifyFault) (a b : Ty) (w : Equations) (us : Tys) → w ≡ (a, b) ∷ [] → us ≡ no_type → SolvedIn r w us → Unified r a b
unified r a b w us e f h = one_unified r a b (subst (λ x. SolvedIn r x no_type) e (subst (SolvedIn r w) f h))
