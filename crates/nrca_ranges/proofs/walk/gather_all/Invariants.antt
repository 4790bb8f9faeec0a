use Rattle.std.proofs.Common.{◌≡◌, drop}
use Rattle.nrca_ranges.specs.Walk.{gather_flags, rest_of, told_each}
use Rattle.nrca_ranges.proofs.walk.gather_all.Given as goal

abbrev pub invariant-loop-told : goal.invariant-loop-told
invariant-loop-told l = record {
  firm : rest_of l.all (λ s. s.firm) (told_each l.parts) ≡ gather_flags l.all l.firm (rest_of l.all (λ s. s.firm) (told_each (drop l.told-index l.parts)));
  certain : rest_of l.all (λ s. s.certain) (told_each l.parts) ≡ gather_flags l.all l.certain (rest_of l.all (λ s. s.certain) (told_each (drop l.told-index l.parts)));
}
