use Rattle.std.proofs.Common.{◌≡◌, length, is_some, sym, ap, ◌∙◌, arith}
use Rattle.std.proofs.lemmas.Bool.Decides.{nat_tests}
use Rattle.scan.proofs.Reading.{more_end}
use Rattle.scan.proofs.exprs.are_terms.Goals as goal

pub returns : goal.returns
returns c =
    let t = c.loop-rest-test.ensures in
    let h : length c.loop-rest.rest.now ≡ 0 = grind (arith, nat_tests) in
    sym (ap is_some (more_end c.loop-rest.rest.now h)) ∙ c.loop-rest.invariant
