use Rattle.std.proofs.Common.{◌≡◌, ℕ, suc, ◌∷◌, drop, Some, Ok, sym, ap, ◌∙◌, add-one, arith}
use Rattle.card.specs.Lines.{cards_of}
use Rattle.rack.specs.Transfers.{at_position, read_block}
use Rattle.paper.specs.CardReader.{held}
use Rattle.paper.proofs.Reading.{next_block, no_block, next_cards, below_count}
use Rattle.paper.proofs.cards.Cards.read.Goals as goal

pub returns-in_default : goal.returns-in_default
returns-in_default c =
    let h = held c.args.self in
    sym (ap (read_block c.args.unit h.position (at_position (suc h.position) h)) (no_block (cards_of c.args.self.text.now) c.args.self.position (sym c.args.self.ahead ∙ c.in_default.ensures)))

pub returns-in_default-read_card : goal.returns-in_default-read_card
returns-in_default-read_card c =
    let h = held c.args.self in
    let e = next_block (cards_of c.args.self.text.now) c.args.self.position c.in-Some.card.now (cards_of c.in-Some.rest.now) (sym c.args.self.ahead ∙ c.in-Some.ensures.cards) in
    sym (ap (read_block c.args.unit h.position (at_position (suc h.position) h)) (e ∙ ap Some (sym c.in_default-read_card.ensures.words)))

pub invariant_of-after : goal.invariant_of-after
invariant_of-after c =
    let e : drop c.args.self.position (cards_of c.args.self.text.now) ≡ c.in-Some.card.now ∷ cards_of c.in-Some.rest.now = sym c.args.self.ahead ∙ c.in-Some.ensures.cards in
    record {
      counted = c.args.self.counted;
      room = c.args.self.room;
      small = c.args.self.small;
      reached = omega (arith, below_count (cards_of c.args.self.text.now) c.args.self.position c.in-Some.card.now (cards_of c.in-Some.rest.now) e);
      ahead = next_cards (cards_of c.args.self.text.now) c.args.self.position c.in-Some.card.now (cards_of c.in-Some.rest.now) e;
    }

pub returns : goal.returns
returns c =
    let h = held c.args.self in
    let e = next_block (cards_of c.args.self.text.now) c.args.self.position c.in-Some.card.now (cards_of c.in-Some.rest.now) (sym c.args.self.ahead ∙ c.in-Some.ensures.cards) in
    ap (λ (n : ℕ). Ok (record { holding = at_position n h; block = c.in-Some-read_card.words })) (add-one h.position)
    ∙ sym (ap (read_block c.args.unit h.position (at_position (suc h.position) h)) (e ∙ ap Some (sym c.in-Some-read_card.ensures.words)))
