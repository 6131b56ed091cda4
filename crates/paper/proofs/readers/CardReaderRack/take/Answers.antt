use Rattle.std.proofs.Common.{refl, sym, ap, ◌∙◌}
use Rattle.std.proofs.lemmas.Result.{err_from_is_err_and}
use Rattle.rack.specs.Transfers.{Answer, take_from, take_on, read_next, received}
use Rattle.rack.specs.declared.kind.Kind.TheVariants.{Reader}
use Rattle.paper.specs.CardReader.{held, held_by, reader_holds}
use Rattle.paper.proofs.Alone.{of_kind, rejected, done}
use Rattle.paper.proofs.readers.CardReaderRack.take.Goals as goal

pub returns-in_err-after-clause-units : goal.returns-in_err-after-clause-units
unfolding take_from
returns-in_err-after-clause-units c =
    let v = c.args.unit in
    let e = of_kind 16 Reader v (take_on v c.args._block) (read_next v) (held_by c.args.self.now.cards) refl (λ h. refl) in
    let p = err_from_is_err_and c.from_residual.result c.from_residual.ensures.1 in
    rw (p.1, p.2) (rejected v _ c.in_err-after.field-0.0 (reader_holds c.args.self.now) (e ∙ sym c.in_err-after.ensures))

pub returns-in_err-after-clause-area : goal.returns-in_err-after-clause-area
unfolding take_from
returns-in_err-after-clause-area c =
    let v = c.args.unit in
    let e = of_kind 16 Reader v (take_on v c.args._block) (read_next v) (held_by c.args.self.now.cards) refl (λ h. refl) in
    sym (ap (λ (a : Answer). received a c.args.area.now) (e ∙ sym c.in_err-after.ensures))

pub returns-clause-units : goal.returns-clause-units
unfolding take_from
returns-clause-units c =
    let v = c.args.unit in
    let e = of_kind 16 Reader v (take_on v c.args._block) (read_next v) (held_by c.args.self.now.cards) refl (λ h. refl) in
    done 16 v (take_on v c.args._block) (record { holding = held c.in_ok-after.after; block = c.in_ok-after.words }) (held_by c.args.self.now.cards) (e ∙ sym c.in_ok-after.ensures)

pub returns-clause-area : goal.returns-clause-area
unfolding take_from
returns-clause-area c =
    let v = c.args.unit in
    let e = of_kind 16 Reader v (take_on v c.args._block) (read_next v) (held_by c.args.self.now.cards) refl (λ h. refl) in
    c.fill.ensures ∙ sym (ap (λ (a : Answer). received a c.args.area.now) (e ∙ sym c.in_ok-after.ensures))
