use Rattle.rack.proofs.Carried.{after_err, after_other, take_first, put_first, shift_first, put_none, shift_none, put_again}
use Rattle.std.proofs.Common.{◌∙◌, sym}
use Rattle.rack.proofs.requests.carry_out.Goals as goal

pub returns-in-Take-clause-causes : goal.returns-in-Take-clause-causes
returns-in-Take-clause-causes g c = rw c.in-Take.is (after_err _ _ _ _ _ c.take.ensures.units ∙ take_first _ _ _)

pub returns-in-Take-clause-others : goal.returns-in-Take-clause-others
returns-in-Take-clause-others g c = after_other _ _ _ _ _ c.take.ensures.units

pub returns-in-Put-clause-area : goal.returns-in-Put-clause-area
returns-in-Put-clause-area g c = rw c.in-Put.is (sym (put_none _ _ _ _ _))

pub returns-in-Put-clause-causes : goal.returns-in-Put-clause-causes
returns-in-Put-clause-causes g c = rw c.in-Put.is (after_err _ _ _ _ _ c.put.ensures ∙ put_first _ _ _ _)

pub returns-in-Put-clause-others : goal.returns-in-Put-clause-others
returns-in-Put-clause-others g c = after_other _ _ _ _ _ c.put.ensures

pub returns-in-Put-clause-again : goal.returns-in-Put-clause-again
returns-in-Put-clause-again g c = rw c.in-Put.is (put_again c.args.request.unit c.in-Put.block c.args.area.now (g.R.Rack.holds c.args.rack.now) (g.R.Rack.holds c.put.new.self) c.put.result (g.met.R.Rack.sound c.args.rack.now c.args.request.unit.number) c.put.ensures)

pub returns-in-Shift-clause-area : goal.returns-in-Shift-clause-area
returns-in-Shift-clause-area g c = rw c.in-Shift.is (sym (shift_none _ _ _ _))

pub returns-in-Shift-clause-causes : goal.returns-in-Shift-clause-causes
returns-in-Shift-clause-causes g c = rw c.in-Shift.is (after_err _ _ _ _ _ c.shift.ensures ∙ shift_first _ _ _)

pub returns-in-Shift-clause-others : goal.returns-in-Shift-clause-others
returns-in-Shift-clause-others g c = after_other _ _ _ _ _ c.shift.ensures
