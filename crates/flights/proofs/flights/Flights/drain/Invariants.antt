use Rattle.std.proofs.Common.{◌≡◌, ◌-◌, length}
use Rattle.cpu.specs.declared.registers.Registers.{Registers}
use Rattle.flights.specs.Flights.{drain, units}
use Rattle.flights.specs.Stands.{core_in}
use Rattle.flights.proofs.flights.Flights.drain.Given as goal

abbrev pub invariant-loop-turn : goal.invariant-loop-turn
invariant-loop-turn g l =
    ((r : Registers) → drain (units - l._turn) l.by (core_in r l.memory (g.R.Rack.holds l.rack) l.self.states) ≡ drain units l.by (core_in r l.initial.memory (g.R.Rack.holds l.initial.rack) l.initial.self.states))
    × (length l.memory ≡ 4000)
