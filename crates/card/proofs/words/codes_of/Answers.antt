use Rattle.std.proofs.Common.{◌+◌, take, drop, Some, None, sym, ◌∙◌, arith, length-set, rules}
use Rattle.card.specs.Text.{text_codes}
use Rattle.card.proofs.Parts.{ahead_more, none_cases}
use Rattle.card.proofs.Codes.{codes_step, zeros_more, written, none_in}
use Rattle.card.proofs.words.codes_of.Goals as goal

pub returns-in_err-codes : goal.returns-in_err-codes
returns-in_err-codes g c =
    let e = codes_step (take c.loop-i.i c.loop-i.codes) c.args.text.now c.loop-i.i None (search rules) c.in_err-codes.ensures.value c.loop-i.invariant.2 in
    record {
      value = c.from_residual.ensures ∙ sym (none_in g.row.N c.args.text.now (omega arith) (sym e));
      bytes = none_cases c.from_residual.result _ c.from_residual.ensures;
      back = none_cases c.from_residual.result _ c.from_residual.ensures;
    }

pub loop-i-preserved : goal.loop-i-preserved
loop-i-preserved g c = (
  length-set c.loop-i.codes c.loop-i.i c.in_ok-codes.field-0 ∙ c.loop-i.invariant.0,
  zeros_more g.row.N c.loop-i.codes c.loop-i.i c.in_ok-codes.field-0 c.loop-i.invariant.1,
  ahead_more c.loop-i.codes c.loop-i.i c.in_ok-codes.field-0 (text_codes (drop (c.loop-i.i + 1) c.args.text.now)) (omega arith)
      ∙ codes_step (take c.loop-i.i c.loop-i.codes) c.args.text.now c.loop-i.i (Some c.in_ok-codes.field-0) (search rules) c.in_ok-codes.ensures.value c.loop-i.invariant.2,
)

pub returns : goal.returns
returns g c =
    let r = written g.row.N c.args.text.now c.loop-i.codes c.loop-i.i (omega arith) (omega arith) c.loop-i.invariant.1 c.loop-i.invariant.2 in
    record { value = r.value; bytes = r.bytes; back = r.back }
