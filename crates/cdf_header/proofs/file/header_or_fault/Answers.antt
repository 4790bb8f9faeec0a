use Rattle.std.proofs.Common.{rules, arith, ◌≡◌, Err, length, ap, subst, sym, ◌∙◌}
use Rattle.std.proofs.lemmas.Grind.{common_steps}
use Rattle.std.proofs.lemmas.Result.{err_from_is_err_and}
use Rattle.aql_outside.specs.Contents.{bytes_in}
use Rattle.cdf_header.specs.File.{IsClassic, IsVersion, AnswersIfAble, fields_of, version}
use Rattle.cdf_header.specs.declared.fault.CdfFault.TheVariants as faults
use Rattle.cdf_header.specs.Laws.Header.{header_of-fields, header_of-not_classic, header_of-version}
use Rattle.cdf_header.proofs.Readings.{outside_of_header, begun, same_byte, classic_on, classic_back}
use Rattle.cdf_header.proofs.file.header_or_fault.Goals as goal

pub returns-then-not-is_classic-clause-told : goal.returns-then-not-is_classic-clause-told
returns-then-not-is_classic-clause-told g c = λ bytes there.
    let b = begun _ (g.F.Files.holds c.args.files.now) (g.F.Files.holds c.size.new.self) c.args.name.now bytes c.new-front.result.items c.grow.new.front.items c.in-Ok-Some.size _ _ c.in-Ok-Some.field-0 _
    there c.in-Ok-Some.field-0-is c.in-Ok-Some.ensures.told c.in-Ok-Some.ensures.kept c.min-most.ensures c.min-target.ensures c.new-front.ensures.items c.in_ok-whole.ensures.told c.in_ok-whole.ensures.whole c.in_ok-whole.ensures.within in
    header_of-not_classic bytes (λ k.
    let front : IsClassic c.grow.new.front.items = classic_back bytes c.grow.new.front.items b.is_front b.long k in
    let h = c.if-not-is_classic.ensures.no (rw c.deref.ensures.value front) in search (rules, h))

pub returns-then-not-is_known-clause-told : goal.returns-then-not-is_known-clause-told
returns-then-not-is_known-clause-told g c = λ bytes there.
    let b = begun _ (g.F.Files.holds c.args.files.now) (g.F.Files.holds c.size.new.self) c.args.name.now bytes c.new-front.result.items c.grow.new.front.items c.in-Ok-Some.size _ _ c.in-Ok-Some.field-0 _
    there c.in-Ok-Some.field-0-is c.in-Ok-Some.ensures.told c.in-Ok-Some.ensures.kept c.min-most.ensures c.min-target.ensures c.new-front.ensures.items c.in_ok-whole.ensures.told c.in_ok-whole.ensures.whole c.in_ok-whole.ensures.within in
    let here : IsClassic c.grow.new.front.items = rw (← c.deref.ensures.value) (search rules) in
    let v : c.index-v.result.now ≡ version bytes = grind (arith, common_steps, same_byte bytes c.grow.new.front.items 3 b.is_front (omega (arith, here.0))) in
    let other : IsVersion (version bytes) → ⊥ = λ k. (let h = c.if-not-is_known.ensures.no (rw v k) in search (rules, h)) in
    header_of-version bytes (classic_on bytes c.grow.new.front.items b.is_front b.within here) other ∙ ap (λ n. Err (faults.Version n)) (sym v)

pub returns-clause-told : goal.returns-clause-told
returns-clause-told g c = λ bytes there.
    let b = begun _ (g.F.Files.holds c.args.files.now) (g.F.Files.holds c.size.new.self) c.args.name.now bytes c.new-front.result.items c.grow.new.front.items c.in-Ok-Some.size _ _ c.in-Ok-Some.field-0 _
    there c.in-Ok-Some.field-0-is c.in-Ok-Some.ensures.told c.in-Ok-Some.ensures.kept c.min-most.ensures c.min-target.ensures c.new-front.ensures.items c.in_ok-whole.ensures.told c.in_ok-whole.ensures.whole c.in_ok-whole.ensures.within in
    let here : IsClassic c.grow.new.front.items = rw (← c.deref.ensures.value) (search rules) in
    let v : c.index-v.result.now ≡ version bytes = grind (arith, common_steps, same_byte bytes c.grow.new.front.items 3 b.is_front (omega (arith, here.0))) in
    let known : IsVersion (version bytes) = rw (← v) (search rules) in
    let kept : g.F.Files.holds c.grow.new.files ≡ g.F.Files.holds c.args.files.now = c.in_ok-whole.ensures.frame.kept ∙ c.in-Ok-Some.ensures.kept in
    let told = c.read_fields.ensures.told bytes (ap (λ h. bytes_in h c.args.name.now) kept ∙ there) b.size_is b.full b.is_front in
    subst (λ m. AnswersIfAble m c.read_fields.result) (sym (header_of-fields bytes (classic_on bytes c.grow.new.front.items b.is_front b.within here) known))
    (subst (λ k. AnswersIfAble (fields_of (length bytes) k bytes) c.read_fields.result) v
    (subst (λ n. AnswersIfAble (fields_of n c.index-v.result.now bytes) c.read_fields.result) b.size_is told))

pub returns-in_err-whole-clause-causes : goal.returns-in_err-whole-clause-causes
returns-in_err-whole-clause-causes g c =
    let p = err_from_is_err_and c.from_residual.result c.from_residual.ensures.1 in
    rw (p.1, p.2) (outside_of_header c.in_err-whole.field-0.0 c.in_err-whole.ensures.causes)
