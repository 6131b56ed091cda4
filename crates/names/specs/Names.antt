-- The operation names of MIXAL, and what each stands for.
use Rattle.std.specs.Prelude.{ℕ, suc, Bool, false, cond, not, ◌&&◌, ◌||◌, List, [], ◌∷◌, ◌++◌, map, take, Some, None, codes, Option, ◌==◌, nat_le}
use Prim.Native.String.{String}
use Rattle.std.specs.List.{find}
use Rattle.std.specs.Option.{option_map}
use Rattle.std.specs.Str.{bytes_eq}
use Rattle.names.specs.declared.kinds.Instruction.{Instruction}
use Rattle.names.specs.declared.kinds.Operation.{Operation}
use Rattle.names.specs.declared.kinds.Operation.TheVariants.{Machine, Equ, Orig, Con, Alf, End}

-- a line of the table: a name in four columns, and what it stands for
abbrev pub Line : Type 0
Line = List ℕ × Operation

-- the words of a text, which blanks divide; w is what has been read of the first
abbrev words_after : List ℕ → List ℕ → List (List ℕ)
words_after w [] = w ∷ []
words_after w (x ∷ xs) = cond (x == 32) (w ∷ words_after [] xs) (words_after (w ++ x ∷ []) xs)

abbrev words : String → List (List ℕ)
words s = words_after [] (codes s)

-- a word in four columns, with blanks after it
abbrev columns : List ℕ → List ℕ
columns w = take 4 (w ++ codes "    ")

-- a word that stands for the code k with the F n
abbrev line : List ℕ → ℕ → ℕ → Line
line w k n = (columns w, Machine (record { c = k; f = n }))

-- the F of the code k where a card leaves it out and the table lists none
abbrev pub missing_field : ℕ → ℕ
missing_field k = cond (k == 7) 1 (cond (k == 32) 2 (cond (k == 0 || (nat_le 34 k && nat_le k 38)) 0 5))

-- words whose codes go up from k
abbrev up_from : ℕ → List (List ℕ) → List Line
up_from k [] = []
up_from k (w ∷ ws) = line w k (missing_field k) ∷ up_from (suc k) ws

-- words of the code k, whose F go up from n
abbrev listed : ℕ → ℕ → List (List ℕ) → List Line
listed k n [] = []
listed k n (w ∷ ws) = line w k n ∷ listed k (suc n) ws

-- the words of each register, whose codes go up from k, and F from 0
abbrev grouped : ℕ → (List ℕ → List (List ℕ)) → List (List ℕ) → List Line
grouped k words_of [] = []
grouped k words_of (r ∷ rs) = listed k 0 (words_of r) ++ grouped (suc k) words_of rs

abbrev registers : List (List ℕ)
registers = words "A 1 2 3 4 5 6 X"

-- the table of the operations, in the order of their codes, and the words that are no instruction
unfoldable pub table : List Line
table =
    up_from 0 (words "NOP ADD SUB MUL DIV")
    ++ listed 5 2 (words "HLT")
    ++ listed 6 0 (words "SLA SRA SLAX SRAX SLC SRC")
    ++ up_from 7 (words "MOVE")
    ++ up_from 8 (map (λ r. codes "LD" ++ r) registers)
    ++ up_from 16 (map (λ r. codes "LD" ++ r ++ codes "N") registers)
    ++ up_from 24 (map (λ r. codes "ST" ++ r) registers)
    ++ up_from 32 (words "STJ STZ JBUS IOC IN OUT JRED")
    ++ listed 39 0 (words "JMP JSJ JOV JNOV JL JE JG JGE JNE JLE")
    ++ grouped 40 (λ r. map (λ s. codes "J" ++ r ++ s) (words "N Z P NN NZ NP")) registers
    ++ grouped 48 (λ r. map (λ s. s ++ r) (words "INC DEC ENT ENN")) registers
    ++ up_from 56 (map (λ r. codes "CMP" ++ r) registers)
    ++ (codes "EQU ", Equ) ∷ (codes "ORIG", Orig) ∷ (codes "CON ", Con) ∷ (codes "ALF ", Alf) ∷ (codes "END ", End) ∷ []

-- whether a line has a name
abbrev pub called : List ℕ → Line → Bool
called w l = bytes_eq l.0 w

-- what a name of four columns stands for
unfoldable pub operation_of : List ℕ → Option Operation
operation_of w = option_map (λ l. l.1) (find (called w) table)

-- whether the table lists an F with the code k, so that it tells names apart
abbrev pub lists_field : ℕ → Bool
lists_field k = k == 5 || k == 6 || (nat_le 39 k && nat_le k 55)

-- the instruction of an operation, if it is one
abbrev pub instruction_of : Operation → Option Instruction
instruction_of (Machine i) = Some i
instruction_of Equ = None
instruction_of Orig = None
instruction_of Con = None
instruction_of Alf = None
instruction_of End = None

-- whether an instruction is that of the code k and the F n
abbrev pub coded : ℕ → ℕ → Option Instruction → Bool
coded k n None = false
coded k n (Some i) = i.c == k && (i.f == n || not (lists_field k))

-- whether a line is that of the code k and the F n
abbrev pub known : ℕ → ℕ → Line → Bool
known k n l = coded k n (instruction_of l.1)

-- the name of the operation of a code and an F
unfoldable pub name_of : ℕ → ℕ → Option (List ℕ)
name_of k n = option_map (λ l. l.0) (find (known k n) table)
