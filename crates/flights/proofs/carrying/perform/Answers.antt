use Rattle.std.proofs.Common.{◌≡◌, ◌+◌, ◌-◌, length, sym, ap, subst, ◌∙◌, arith}
use Rattle.std.proofs.lemmas.Result.{IfOk-weaker}
use Rattle.cpu.specs.Executed.{cells}
use Rattle.rack.specs.Transfers.{After, perform, take_from, put_to}
use Rattle.rack.specs.Units.{kind_of}
use Rattle.flights.specs.Flights.{given, puts, takes}
use Rattle.flights.specs.Kept.{words_moved}
use Rattle.flights.specs.Stands.{memory_by}
use Rattle.flights.proofs.Blocks.{gave, taken_sized, took, untaken}
use Rattle.flights.proofs.Bounds.{area_counted, area_within}
use Rattle.flights.proofs.carrying.perform.Goals as goal

pub returns-in-Take-clause-memory : goal.returns-in-Take-clause-memory
returns-in-Take-clause-memory g c =
    let x = c.args.flight in
    let u = c.args.unit in
    let ws = c.args.memory.now in
    let h = g.R.Rack.holds c.args.rack.now u.number in
    let s = c.from-start.result in
    let n = s + c.from.result - s in
    let within = area_within u.number x c.requires in
    let counted = area_counted u.number x c.requires in
    let count : n ≡ x.area.count = omega arith in
    let sized = taken_sized u c.in-Take.block h (g.met.R.Rack.sound c.args.rack.now u.number) in
    took ws x s n c.from-start.ensures count (omega (arith, c.told-memory)) (take_from u c.in-Take.block h) (ap takes c.in-Take.is)
    (IfOk-weaker (take_from u c.in-Take.block h) _ (λ e. length e.block ≡ n) (λ e k. k ∙ sym (count ∙ counted ∙ ap (words_moved (kind_of u.number)) c.in-Take.is)) sized)
    c.take.new.area c.take.ensures.area
    ∙ ap (λ t. memory_by (perform u t (given x (cells ws)) h) x (cells ws)) (sym c.in-Take.is)

pub returns-in-Put-clause-units : goal.returns-in-Put-clause-units
returns-in-Put-clause-units g c =
    let x = c.args.flight in
    let u = c.args.unit in
    let ws = c.args.memory.now in
    let h = g.R.Rack.holds c.args.rack.now in
    let s = c.from-start.result in
    let n = s + c.from.result - s in
    let within = area_within u.number x c.requires in
    let count : n ≡ x.area.count = omega arith in
    let e = gave ws x s n c.from-start.ensures count (omega (arith, c.told-memory)) (ap puts c.in-Put.is) in
    subst (λ t. After u (perform u t (given x (cells ws)) (h u.number)) h (g.R.Rack.holds c.put.new.self) c.put.result) (sym c.in-Put.is)
    (subst (λ zs. After u (put_to u c.in-Put.block zs (h u.number)) h (g.R.Rack.holds c.put.new.self) c.put.result) (sym e) c.put.ensures)

pub returns-in-Put-clause-memory : goal.returns-in-Put-clause-memory
returns-in-Put-clause-memory g c = untaken _ c.args.flight _ (ap takes c.in-Put.is)

pub returns-in-Shift-clause-memory : goal.returns-in-Shift-clause-memory
returns-in-Shift-clause-memory g c = untaken _ c.args.flight _ (ap takes c.in-Shift.is)
