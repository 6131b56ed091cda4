use Rattle.card.specs.Lines.{cards_of}
use Rattle.job_rack.specs.Units.{job_units}
use Rattle.room_jobs.proofs.reports.job_rooms.Goals as goal

pub returns : goal.returns
returns c = c.rooms_text.ensures (job_units (cards_of c.args.cards.now)) c.in_ok-first.ensures c.in_ok-second.ensures.holds
