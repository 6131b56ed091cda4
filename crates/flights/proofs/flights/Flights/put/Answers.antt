use Rattle.std.proofs.Common.{◌≡◌, ◌<◌, ◌∙◌, ap, true, length, set, length-set, arith}
use Rattle.flights.specs.Flights.{opened, states_in}
use Rattle.flights.specs.Kept.{between, due_from, fits_if}
use Rattle.flights.proofs.States.{states_written, written_all}
use Rattle.flights.proofs.flights.Flights.put.Goals as goal

pub invariant_of-self : goal.invariant_of-self
invariant_of-self c =
    let m = c.args.self.now in
    let x = c.args.state in
    let e = c.from.ensures in
    let l : c.args.number < length m.states = omega (arith, m.all, c.requires.known) in
    rw e (record {
      all = length-set m.states c.args.number x ∙ m.all;
      fits = written_all (λ u s. fits_if u (opened s) ≡ true) m.states c.args.number x l c.requires.fits m.fits;
      early = written_all (λ u s. due_from m.soonest s ≡ true) m.states c.args.number x l c.requires.early m.early;
      spanned = written_all (λ u s. between m.low m.high (opened s) ≡ true) m.states c.args.number x l c.requires.spanned m.spanned;
    })

pub returns : goal.returns
returns c =
    let m = c.args.self.now in
    let l : c.args.number < length m.states = omega (arith, m.all, c.requires.known) in
    ap (λ n. states_in (set m.states n c.args.state)) c.from.ensures ∙ states_written m.states c.args.number c.args.state l
