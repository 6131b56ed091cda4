-- What the functions inside the crate ensure.
use Rattle.std.specs.Prelude.{◌≡◌, ℕ, zero, suc, true, false, [], Ok, Err, Result}
use Rattle.word.specs.declared.word.Word.{Word}
use Rattle.cpu.specs.declared.command.Command.{Command}
use Rattle.cpu.specs.declared.fault.Fault.{Fault}
use Rattle.cpu.specs.declared.fault.Fault.TheVariants.{BeyondIndex}
use Rattle.cpu.specs.declared.processor.Processor.{Processor}
use Rattle.cpu.specs.declared.register.Register.{Register}
use Rattle.cpu.specs.declared.registers.Registers.{Registers}
use Rattle.cpu.specs.declared.step.Span.{Span}
use Rattle.cpu.specs.declared.step.Step.{Step}
use Rattle.cpu.specs.Instructions.{Order}
use Rattle.cpu.specs.Programs.{Memory, Program, stored}
use Rattle.cpu.specs.Registers.{changed, fits, onward}
use Rattle.cpu.specs.Executed.{Executes, cells}

-- no location
abbrev pub none : Span
none = record { start = 0; count = 0 }

-- the memory after n words from l on are copied to k on, one by one
abbrev pub copied : ℕ → ℕ → ℕ → Memory → Memory
copied zero l k m = m
copied (suc n) l k m = copied n (suc l) (suc k) (stored m k (m l))

-- a register got a word and the next instruction follows, or it has no room and nothing changed
abbrev pub Fills : Register → Word → Processor → Processor → Result (Unit {0}) Fault → Type 0
Fills k w old new (Ok u) = (fits k w ≡ true) × (new ≡ record old { registers = onward (changed old.registers k w) })
Fills k w old new (Err f) = (fits k w ≡ false) × (new ≡ old) × (f ≡ BeyondIndex old.registers.location)

-- the order of a command, the registers before it being known
abbrev pub order_of : Registers → Command → Order
order_of r c = record { registers = r; time = c.time; sign = c.sign; m = c.m }

-- a program that leaves J was executed, the processor being old and new
abbrev pub Runs : (Order → Program) → Command → Processor → Processor → Result Step Fault → Type 0
Runs p c old new s =
    (j : Word) → Executes (p (order_of old.registers c)) [] j old.registers (cells old.memory) new.registers (cells new.memory) s
