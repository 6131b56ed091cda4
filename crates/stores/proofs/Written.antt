-- Lists of blocks.
use Rattle.std.proofs.Common.{◌≡◌, ℕ, ◌<◌, List, map, length, set, Some, Option, arith}
use Rattle.std.proofs.lemmas.Bool.Decides.{nat_tests}
use Rattle.std.proofs.lemmas.List.{map-set, length-map}
use Rattle.rack.specs.Transfers.{written_at}
use Rattle.word.specs.declared.word.Word.{Word}
use Rattle.stores.specs.Blocks.{words_in}
use Rattle.stores.specs.declared.block.Block.{Block}

-- the words of blocks of which one is replaced
pub written : (bs : List (Option Block)) (p : ℕ) (b : Block) → p < length bs → map words_in (set bs p (Some b)) ≡ written_at p b.words (map words_in bs)
written bs p b l = grind (arith, nat_tests, map-set words_in bs p (Some b), length-map bs words_in)

-- a block written in place of another replaces it
pub written_in : (p n : ℕ) (ws : List Word) (bs : List (Option (List Word))) → n ≡ length bs → p < n → written_at p ws bs ≡ set bs p (Some ws)
written_in p n ws bs e l = grind (arith, nat_tests)
