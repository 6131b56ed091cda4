-- Each unit is as the rules allow it.
use Rattle.std.specs.Prelude.{◌≡◌, ℕ, zero, suc, Bool, true, false, cond, List, [], ◌∷◌, map, length, take, drop, refl, Some, None, Option, IfSome}
use Rattle.std.specs.List.{AllByRecursion}
use Rattle.std.proofs.Common.{ap, sym, subst, ◌∙◌, eqb, leb, arith}
use Rattle.std.proofs.lemmas.Bool.{eqb-true}
use Rattle.std.proofs.lemmas.List.{length-map}
use Rattle.card.specs.Lines.{cards_of}
use Rattle.card.specs.Text.{both, text_word, text_words, padded, card_of}
use Rattle.rack.specs.Units.{Holding, Sound, SoundIf, kind_of}
use Rattle.rack.specs.declared.kind.Kind.{Kind}
use Rattle.rack.specs.declared.kind.Kind.TheVariants.{Reader, Disk}
use Rattle.word.specs.declared.word.Word.{Word}
use Rattle.paper.specs.Reader.{alone}
use Rattle.paper.specs.CardReader.{held, held_by, reader_holds}
use Rattle.paper.specs.Tray.{device_number, device_kind, device_size}
use Rattle.paper.specs.TrayRack.{lines_of, tray_units, tray_holds}
use Rattle.paper.specs.declared.cards.Cards.{Cards}
use Rattle.paper.specs.declared.device.Device.{Device}
use Rattle.paper.specs.declared.device.Device.TheVariants.{Punch, Printer}
use Rattle.paper.specs.declared.lines.Lines.{Lines}
use Rattle.paper.specs.declared.tray.Tray.{Tray}
use Rattle.paper.specs.declared.reader.CardReader.{CardReader}

-- a text's first n words are n
pub words_long : (n : ℕ) (bs : List ℕ) → IfSome (text_words n bs) (λ ws. length ws ≡ n)
unfolding text_words
words_long zero bs = refl
words_long (suc n) bs = at (text_word (take 5 bs)) (text_words n (drop 5 bs)) (words_long n (drop 5 bs))
  where
    at : (o : Option Word) (r : Option (List Word)) → IfSome r (λ ws. length ws ≡ n) → IfSome (both o r) (λ ws. length ws ≡ suc n)
    at None r h = tt
    at (Some w) None h = tt
    at (Some w) (Some ws) h = ap suc h

-- a card has sixteen words, if it is not damaged
card_long : (bs : List ℕ) → IfSome (card_of bs) (λ ws. length ws ≡ 16)
card_long bs = at (leb (length bs) 80)
  where
    at : (t : Bool) → IfSome (cond t (text_words 16 (padded bs)) None) (λ ws. length ws ≡ 16)
    at true = words_long 16 (padded bs)
    at false = tt

pub sixteen : (cs : List (List ℕ)) → AllByRecursion (λ b. IfSome b (λ ws. length ws ≡ 16)) (map card_of cs)
sixteen [] = tt
sixteen (c ∷ cs) = (card_long c, sixteen cs)

-- a rack with one unit
pub alone_sound : (u : ℕ) (k : Kind) (o : Option Holding) → kind_of u ≡ Some k → SoundIf (Some k) o → (v : ℕ) → SoundIf (kind_of v) (alone u o v)
alone_sound u k o e s v = at (eqb v u) refl
  where
    at : (t : Bool) → eqb v u ≡ t → SoundIf (kind_of v) (cond t o None)
    at false n = nothing (kind_of v)
      where
        nothing : (j : Option Kind) → SoundIf j None
        nothing j = tt
    at true n = subst (λ (j : Option Kind). SoundIf j o) (sym (ap kind_of (eqb-true v u n) ∙ e)) s

cards_sound : (c : Cards) → Sound Reader (held c)
cards_sound c =
    record {
      capacity = c.small;
      count = omega (arith, length-map (cards_of c.text.now) card_of, c.counted, c.room);
      words = sixteen (cards_of c.text.now);
      position = omega (arith, length-map (cards_of c.text.now) card_of, c.counted, c.reached);
      full = λ e. cc;
      still = (λ e. cc, λ e. cc, λ e. cc);
    }

held_sound : (o : Option Cards) → SoundIf (Some Reader) (held_by o)
held_sound None = tt
held_sound (Some c) = cards_sound c

pub reader_sound : (r : CardReader) (u : ℕ) → SoundIf (kind_of u) (reader_holds r u)
reader_sound r u = alone_sound 16 Reader (held_by r.cards) refl (held_sound r.cards) u

-- each line has the words of a block
lines_long : (k : ℕ) (ls : List (List ℕ)) → AllByRecursion (λ b. IfSome b (λ ws. length ws ≡ k)) (map (text_words k) ls)
lines_long k [] = tt
lines_long k (l ∷ ls) = (words_long k l, lines_long k ls)

pub device_has : (d : Device) → kind_of (device_number d) ≡ Some (device_kind d)
device_has Punch = refl
device_has Printer = refl

no_disk : (d : Device) → device_kind d ≡ Disk → ⊥
no_disk Punch e = cc
no_disk Printer e = cc

lines_sound : (l : Lines) → Sound (device_kind l.device) (lines_of l)
lines_sound l =
    record {
      capacity = l.small;
      count = omega (arith, length-map l.text.items (text_words (device_size l.device)), l.count);
      words = lines_long (device_size l.device) l.text.items;
      position = omega arith;
      full = λ e. absurd (no_disk l.device e);
      still = (λ e. refl, λ e. refl, λ e. refl);
    }

units_sound : (o : Option Lines) (u : ℕ) → SoundIf (kind_of u) (tray_units o u)
units_sound None u = nothing (kind_of u)
  where
    nothing : (j : Option Kind) → SoundIf j None
    nothing j = tt
units_sound (Some l) u = alone_sound (device_number l.device) (device_kind l.device) (Some (lines_of l)) (device_has l.device) (lines_sound l) u

pub tray_sound : (t : Tray) (u : ℕ) → SoundIf (kind_of u) (tray_holds t u)
tray_sound t u = units_sound t.lines u
