-- A card that is read and punched again.
use Rattle.std.proofs.Common.{◌≡◌, ℕ, zero, suc, ◌-◌, ◌≤◌, Bool, true, false, cond, leb, ltb, List, [], ◌∷◌, ◌++◌, map, length, replicate, Some, None, Ok, Err, Option, Result, refl, sym, ap, subst, ◌∙◌, arith, length-append}
use Rattle.std.specs.Prelude.{⊤, IfSome, OnOk, slice_get}
use Rattle.std.specs.List.{AllByRecursion}
use Rattle.std.proofs.lemmas.Bool.{leb-true}
use Rattle.std.proofs.lemmas.List.{length-replicate, length_push, take_at}
use Rattle.std.proofs.lemmas.Result.{on_ok_weaker}
use Rattle.word.specs.declared.sign.Sign.TheVariants.{Plus}
use Rattle.word.specs.declared.word.Word.{Word}
use Rattle.word.specs.Word.{word_of}
use Rattle.card.specs.Text.{card_of, padded, text_words, words_text}
use Rattle.card.proofs.Blocks.{words_back}
use Rattle.rack.specs.Transfers.{Answer, After, Effect, at_position, block_in, filled, if_ring, moved_to, printable, put_to, read_block, received, take_from, updated, with_blocks, write_text}
use Rattle.rack.specs.Units.{Holding, Holdings, SoundIf, block_text, kind_of, text_in}
use Rattle.rack.specs.declared.fault.UnitFault.{UnitFault}
use Rattle.rack.specs.declared.fault.UnitFault.TheVariants.{NoBlock}
use Rattle.rack.specs.declared.kind.Kind.TheVariants.{Punch}
use Rattle.rack.specs.declared.standing.Ring.{Ring}
use Rattle.rack.specs.declared.standing.Ring.TheVariants.{In, Out}
use Rattle.paper.specs.Copying.{Copied, CopiedAs, last_text, next_block, punch, reader}
use Rattle.paper.proofs.Printing.{text_again}

-- what holds of each block holds of one of them
each_at : {X : Type 0} (P : X → Type 0) (xs : List X) (i : ℕ) (x : X) → AllByRecursion P xs → slice_get xs i ≡ Some x → P x
each_at P [] i x h e = cc
each_at P (y ∷ ys) zero x h e = let f : y ≡ x = cc in subst P f h.0
each_at P (y ∷ ys) (suc i) x h e = each_at P ys i x h.1 e

-- what a Take from the reader gives is the next block
taken : (o : Option Holding) (e : Effect) → take_from reader 0 o ≡ Ok e → next_block o ≡ Some (Some e.block)
unfolding take_from
taken None e p = cc
taken (Some h) e p = at (slice_get h.blocks h.position) p
  where
    at : (b : Option (Option (List Word))) → read_block reader h.position (at_position (suc h.position) h) b ≡ Ok e → b ≡ Some (Some e.block)
    at None q = cc
    at (Some None) q = cc
    at (Some (Some ws)) q = let f : record { holding = at_position (suc h.position) h; block = ws } ≡ e = cc in ap (λ (x : Effect). Some (Some x.block)) f

-- which has sixteen words
sixteen : (o : Option Holding) (ws : List Word) → SoundIf (kind_of 16) o → next_block o ≡ Some (Some ws) → length ws ≡ 16
sixteen None ws s p = cc
sixteen (Some h) ws s p = each_at (λ b. IfSome b (λ us. length us ≡ 16)) h.blocks h.position (Some ws) s.words p

-- an area as long as a block gets the block
filled_whole : (xs ws : List Word) → length xs ≡ length ws → filled xs ws ≡ ws
filled_whole [] [] h = refl
filled_whole [] (w ∷ ws) h = absurd (omega arith)
filled_whole (x ∷ xs) [] h = absurd (omega arith)
filled_whole (x ∷ xs) (w ∷ ws) h = ap (λ (l : List Word). w ∷ l) (filled_whole xs ws (omega arith))

-- and is put as that block
pub block_whole : (ws : List Word) → length ws ≡ 16 → block_in ws Punch ≡ ws
unfolding block_in
block_whole ws h = take_at ws (replicate 16 (word_of Plus 0)) 16 h

-- the last of the blocks
last_block : (bs : List (Option (List Word))) (b : Option (List Word)) → text_in (slice_get (bs ++ b ∷ []) (length (bs ++ b ∷ []) - 1)) ≡ block_text b
last_block bs b = ap text_in (at bs (length (bs ++ b ∷ []) - 1) (omega (arith, length_push bs b)))
  where
    at : (cs : List (Option (List Word))) (n : ℕ) → n ≡ length cs → slice_get (cs ++ b ∷ []) n ≡ Some b
    at [] zero h = refl
    at [] (suc n) h = absurd (omega arith)
    at (c ∷ cs) zero h = absurd (omega arith)
    at (c ∷ cs) (suc n) h = at cs n (omega arith)

-- what is put on the punch has its text there
put_last : (ws : List Word) (o : Option Holding) (e : Effect) → put_to punch 0 ws o ≡ Ok e → last_text 17 (Some e.holding) ≡ words_text (block_in ws Punch)
unfolding put_to
put_last ws None e p = cc
put_last ws (Some h) e p = at h.ring p
  where
    now : Holding
    now = with_blocks (h.blocks ++ (Some (map printable (block_in ws Punch)) ∷ [])) h

    written : (t : Bool) → cond t (moved_to now) (Err (NoBlock punch (length h.blocks))) ≡ Ok e → last_text 17 (Some e.holding) ≡ words_text (block_in ws Punch)
    written false q = cc
    written true q =
        let f : record { holding = now; block = [] } ≡ e = cc in
        ap (λ (x : Effect). last_text 17 (Some x.holding)) (sym f) ∙ last_block h.blocks (Some (map printable (block_in ws Punch))) ∙ text_again (block_in ws Punch)

    at : (g : Ring) → if_ring punch g (write_text punch (block_in ws Punch) h) ≡ Ok e → last_text 17 (Some e.holding) ≡ words_text (block_in ws Punch)
    at In q = written (ltb (length h.blocks) h.capacity) q
    at Out q = cc

-- a card has 80 columns
long : (card : List ℕ) → length card ≤ 80 → length (padded card) ≡ 80
unfolding padded
long card h = length-append card (replicate (80 - length card) 32) ∙ omega (arith, length-replicate {A = ℕ} (80 - length card) 32)

-- the words of a card have its text
card_words : (card : List ℕ) (ws : List Word) → card_of card ≡ Some ws → words_text ws ≡ padded card
card_words card ws e = at (leb (length card) 80) refl e
  where
    at : (t : Bool) → leb (length card) 80 ≡ t → cond t (text_words 16 (padded card)) None ≡ Some ws → words_text ws ≡ padded card
    at false n q = cc
    at true n q = words_back 16 (padded card) ws (long card (leb-true (length card) 80 n)) q

-- what is done to the rack, and what the punch has then
pub record Made (old new : Holdings) (r : Result ⊤ UnitFault) : Type 0 where
  pub units : Copied old new r
  pub text : OnOk r ((card : List ℕ) → next_block (old 16) ≡ Some (card_of card) → last_text 17 (new 17) ≡ padded card)

-- a Put of a card's words
punched : (ws : List Word) (g h : Holdings) (r : Result ⊤ UnitFault) → length ws ≡ 16 → After punch (put_to punch 0 ws (g 17)) g h r → OnOk r (last_text 17 (h 17) ≡ words_text ws)
unfolding updated
punched ws g h (Err f) l a = tt
punched ws g h (Ok x) l a = at (put_to punch 0 ws (g 17)) refl a
  where
    at : (b : Answer) → put_to punch 0 ws (g 17) ≡ b → After punch b g h (Ok x) → last_text 17 (h 17) ≡ words_text ws
    at (Err f) p q = absurd q
    at (Ok e) p q = ap (λ (k : Holdings). last_text 17 (k 17)) q ∙ put_last ws (g 17) e p ∙ ap words_text (block_whole ws l)

pub made : (old mid new : Holdings) (ws : List Word) (z : Word) (r : Result ⊤ UnitFault) → SoundIf (kind_of 16) (old 16) → After reader (take_from reader 0 (old 16)) old mid (Ok tt) → ws ≡ received (take_from reader 0 (old 16)) (replicate 16 z) → After punch (put_to punch 0 ws (mid 17)) mid new r → Made old new r
unfolding updated
made old mid new ws z r s a b c = at (take_from reader 0 (old 16)) refl a b
  where
    at : (x : Answer) → take_from reader 0 (old 16) ≡ x → After reader x old mid (Ok tt) → ws ≡ received x (replicate 16 z) → Made old new r
    at (Err f) p q k = absurd q
    at (Ok e) p q k =
        let t = taken (old 16) e p in
        let l = sixteen (old 16) e.block s t in
        let w : ws ≡ e.block = k ∙ filled_whole (replicate 16 z) e.block (length-replicate 16 z ∙ sym l) in
        let d = subst (λ (us : List Word). After punch (put_to punch 0 us (mid 17)) mid new r) w c in
        record {
          units = subst (λ (y : Answer). CopiedAs y old new r) (sym p) (subst (λ (g : Holdings). After punch (put_to punch 0 e.block (g 17)) g new r) q d);
          text = on_ok_weaker r (λ y card h. y ∙ card_words card e.block (let f : card_of card ≡ Some e.block = cc in f)) (punched e.block mid new r l d);
        }
