-- What units hold.
use Rattle.std.specs.Prelude.{◌≡◌, ℕ, ◌≤◌, cond, List, [], ◌++◌, take, length, replicate, slice_get, IfSome, Some, None, Option, ◌==◌, nat_lt, ⊤}
use Rattle.std.specs.List.{flat_map, AllByRecursion}
use Rattle.card.specs.Text.{word_text}
use Rattle.word.specs.declared.sign.Sign.{Sign}
use Rattle.word.specs.declared.sign.Sign.TheVariants.{Plus, Minus}
use Rattle.word.specs.declared.word.Word.{Word}
use Rattle.rack.specs.declared.kind.Kind.{Kind}
use Rattle.rack.specs.declared.kind.Kind.TheVariants.{Tape, Disk, Reader, Punch, Printer}
use Rattle.rack.specs.declared.standing.Ring.{Ring}
use Rattle.rack.specs.declared.standing.Standing.{Standing}

-- units 0 to 7 are tapes, 8 to 15 disks, 16 the card reader, 17 the card punch, 18 the printer; there are no others
abbrev pub kind_of : ℕ → Option Kind
kind_of u =
    cond (nat_lt u 8) (Some Tape) (
    cond (nat_lt u 16) (Some Disk) (
    cond (u == 16) (Some Reader) (
    cond (u == 17) (Some Punch) (
    cond (u == 18) (Some Printer) None))))

-- the words of a block
abbrev pub block_size : Kind → ℕ
block_size Tape = 100
block_size Disk = 100
block_size Reader = 16
block_size Punch = 16
block_size Printer = 24

-- what a unit holds: how many blocks it has room for, its blocks, each with its words or damaged, the
-- position at which it stands, and its ring
pub record Holding : Type 0 where
  pub capacity : ℕ
  pub blocks : List (Option (List Word))
  pub position : ℕ
  pub ring : Ring

-- a unit as the rules allow it
pub record Sound (k : Kind) (h : Holding) : Type 0 where
  pub capacity : h.capacity ≤ 1000
  pub count : length h.blocks ≤ h.capacity
  pub words : AllByRecursion (λ b. IfSome b (λ ws. length ws ≡ block_size k)) h.blocks
  pub position : h.position ≤ length h.blocks
  -- a disk is full
  pub full : k ≡ Disk → length h.blocks ≡ h.capacity
  -- disk, punch and printer have no position
  pub still : (k ≡ Disk → h.position ≡ 0) × (k ≡ Punch → h.position ≡ 0) × (k ≡ Printer → h.position ≡ 0)

-- the same of a unit that may be absent; what is of no kind is
abbrev pub SoundIf : Option Kind → Option Holding → Type 0
SoundIf k None = ⊤
SoundIf None (Some h) = ⊥
SoundIf (Some k) (Some h) = Sound k h

-- what a rack holds, by the numbers of its units; an absent unit holds nothing
abbrev pub Holdings : Type 0
Holdings = ℕ → Option Holding

-- two racks with equal units
abbrev pub EqualUnits : Holdings → Holdings → Type 0
EqualUnits g h = (u : ℕ) → g u ≡ h u

-- what is told of a unit
abbrev pub standing_of : Holding → Standing
standing_of h = record { capacity = h.capacity; blocks = length h.blocks; position = h.position; ring = h.ring }

-- the characters of a word in text; blanks where its sign is minus
abbrev pub word_shown : Sign → Word → List ℕ
word_shown Plus w = word_text w
word_shown Minus w = replicate 5 32

-- the text of a block; a damaged one has none
abbrev pub block_text : Option (List Word) → List ℕ
block_text None = []
block_text (Some ws) = flat_map (λ w. word_shown w.sign w) ws

-- the text of block p
abbrev pub text_in : Option (Option (List Word)) → List ℕ
text_in None = []
text_in (Some b) = block_text b

-- only punch and printer have text
abbrev pub text_of_kind : Option Kind → Holding → ℕ → List ℕ
text_of_kind None h p = []
text_of_kind (Some Tape) h p = []
text_of_kind (Some Disk) h p = []
text_of_kind (Some Reader) h p = []
text_of_kind (Some Punch) h p = text_in (slice_get h.blocks p)
text_of_kind (Some Printer) h p = text_in (slice_get h.blocks p)

abbrev pub text_of_unit : ℕ → Option Holding → ℕ → List ℕ
text_of_unit u None p = []
text_of_unit u (Some h) p = text_of_kind (kind_of u) h p

-- 120 columns: a text, and blanks where it has none
unfoldable pub columns : List ℕ → List ℕ
columns text = take 120 (text ++ replicate 120 32)
