-- Blocks in memory.
use Rattle.std.specs.Prelude.{List, Option}
use Rattle.std.specs.Option.{option_map}
use Rattle.word.specs.declared.word.Word.{Word}
use Rattle.stores.specs.declared.block.Block.{Block}

-- a block's words; a damaged one has none
abbrev pub words_in : Option Block → Option (List Word)
words_in b = option_map (λ b. b.words) b
