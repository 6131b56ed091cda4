use Rattle.std.proofs.Common.{◌≡◌, true, is_some, sym, ap, ◌∙◌, rules}
use Rattle.scan.specs.Symbols.{is_symbol}
use Rattle.scan.proofs.Marks.{symbol_name, symbol_named, name_gives, name_only}
use Rattle.scan.proofs.symbols.name_codes.Goals as goal

pub returns-then-is_symbol : goal.returns-then-is_symbol
returns-then-is_symbol c =
    let h : is_symbol c.args.text.now ≡ true = search rules in
    let e = c.codes_of.ensures.value ∙ symbol_name c.args.text.now h in
    record {
      codes = e;
      given = ap is_some e ∙ symbol_named c.args.text.now h ∙ sym h;
      back = name_gives c.args.text.now c.codes_of.result e;
      alone = name_only c.args.text.now c.codes_of.result e;
    }
