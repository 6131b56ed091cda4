use Rattle.std.proofs.Common.{◌≡◌, rules}
use Rattle.std.specs.Option.{option_map}
use Rattle.card.specs.Lines.{up_to}
use Rattle.scan.specs.Cuts.{before, onward}
use Rattle.scan.specs.Address.{tail_of}
use Rattle.scan.proofs.Commas.{pieces_read, rest_shorter}
use Rattle.scan.proofs.Written.{comma_back}
use Rattle.scan.proofs.pieces.at_comma.Goals as goal

pub returns : goal.returns
returns c =
    let h : c.front.result.now ≡ before 44 c.args.text.now = search rules in
    let t : option_map (λ x. x.now) c.tail.result ≡ tail_of (onward 44 c.args.text.now) = search rules in
    record {
      head = h;
      rest = t;
      back = comma_back c.args.text.now c.front.result.now (option_map (λ x. x.now) c.tail.result) h t;
      pieces = pieces_read c.args.text.now c.front.result.now (option_map (λ x. x.now) c.tail.result) h t;
      shorter = rest_shorter (up_to 44 c.args.text.now) c.args.text.now c.tail.result t;
    }
