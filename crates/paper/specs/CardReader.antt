-- What a card reader holds, as a rack.
use Rattle.std.specs.Prelude.{ℕ, List, Some, None, Ok, Err, Option, Result}
use Rattle.rack.specs.Transfers.{Answer}
use Rattle.rack.specs.Units.{Holding, Holdings}
use Rattle.rack.specs.declared.fault.UnitFault.{UnitFault}
use Rattle.rack.specs.declared.request.Request.{Request}
use Rattle.word.specs.declared.word.Word.{Word}
use Rattle.paper.specs.Reader.{cards_held, alone}
use Rattle.paper.specs.declared.cards.Cards.{Cards}
use Rattle.paper.specs.declared.reader.CardReader.{CardReader}

-- what a reader holds whose cards these are
abbrev pub held : Cards → Holding
held c = cards_held c.capacity c.text.now c.position

abbrev pub held_by : Option Cards → Option Holding
held_by None = None
held_by (Some c) = Some (held c)

-- only unit 16 is present, if it is
abbrev pub reader_holds : CardReader → Holdings
reader_holds r = alone 16 (held_by r.cards)

-- the time that a reader tells for each request
abbrev pub reader_tells : CardReader → Request → ℕ
reader_tells r q = r.time

-- the cards after one is read and its words, as an answer
abbrev pub read_answer : Result (Cards × List Word) UnitFault → Answer
read_answer (Ok p) = Ok (record { holding = held p.0; block = p.1 })
read_answer (Err f) = Err f
