-- Each answer is what the closure of its index gave.
use Rattle.std.proofs.Common.{◌≡◌, get_or, map, ap, sym, ◌∙◌, arith, length, min}
use Rattle.std.specs.Prelude.{Ok, Err, IfErr}
use Rattle.std.specs.List.{Contains}
use Rattle.std.proofs.Math.ListN.{get_or-map}
use Rattle.std.proofs.lemmas.List.{length-map}
use Rattle.std.proofs.lemmas.Result.{IfOk-weaker, IfErr-weaker}
use Rattle.nrca_par.specs.Laws.Pieces.{joins_all, spent_on_run}
use Rattle.nrca_par.specs.Pieces.{IsPieceAnswer, SpentSomewhere}
use Rattle.nrca_par.specs.declared.fault.EvalFault.TheVariants.{Spent}
use Rattle.nrca_par.proofs.pieces.map_pieces.Goals as goal

pub returns-clause-each : goal.returns-clause-each
returns-clause-each g c = IfOk-weaker c.gather.result (λ v. c.in_ok-answers.answers.items ≡ map Ok v.items) _
    (λ v e j d h.
    let k = c.in_ok-answers.ensures.each j (Ok d) (omega (arith, c.min.ensures)) in
    let same : get_or c.in_ok-answers.answers.items j (Ok d) ≡ Ok (get_or v.items j d) = ap (λ l. get_or l j (Ok d)) e ∙ get_or-map Ok v.items j d in
    rw same at k.1.met)
    c.gather.ensures.values

pub returns-clause-joined : goal.returns-clause-joined
returns-clause-joined g c = IfOk-weaker c.gather.result (λ v. c.in_ok-answers.answers.items ≡ map Ok v.items) _
    (λ v e.
    joins_all (λ a b x. IsPieceAnswer g.F.Fn c.args.work a b (Ok x)) c.args.n c.args.workers c.requires.workers.0 v.items
    (sym (length-map v.items (λ x. Ok x)) ∙ sym (ap length e) ∙ sym c.in_ok-answers.answers.ok.0 ∙ c.in_ok-answers.ensures.len ∙ c.min.ensures)
    (λ j d h.
    let k = c.in_ok-answers.ensures.each j (Ok d) (omega (arith, c.min.ensures)) in
    let same : get_or c.in_ok-answers.answers.items j (Ok d) ≡ Ok (get_or v.items j d) = ap (λ l. get_or l j (Ok d)) e ∙ get_or-map Ok v.items j d in
    rw same at k.1.met))
    c.gather.ensures.values

answered : (g : _) (c : goal.After-drop-work-2 g) → IfErr c.gather.result (λ e. e ≡ Spent → SpentSomewhere g.F.Fn c.args.work c.args.n (min c.args.n c.args.workers))
answered g c = IfErr-weaker c.gather.result (λ e. e ≡ Spent → Contains c.in_ok-answers.answers.items (Err Spent)) _
    (λ v f e. let at = f e in
    let k = c.in_ok-answers.ensures.each at.0 (Err Spent) (omega (arith, at.1, c.in_ok-answers.ensures.len, c.min.ensures)) in
    (at.0, omega (arith, at.1, c.in_ok-answers.ensures.len, c.min.ensures), rw at.2 at k.1.met))
    c.gather.ensures.spent

pub returns-clause-spent : goal.returns-clause-spent
returns-clause-spent g c = answered g c

pub returns-clause-ran : goal.returns-clause-ran
returns-clause-ran g c = IfErr-weaker c.gather.result (λ e. e ≡ Spent → SpentSomewhere g.F.Fn c.args.work c.args.n (min c.args.n c.args.workers)) _
    (λ e f is. spent_on_run g.F.Fn c.args.work c.args.n c.args.workers (f is)) (answered g c)
